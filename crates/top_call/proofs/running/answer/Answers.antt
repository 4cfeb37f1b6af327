use Rattle.std.proofs.Common.{refl}
use Rattle.derive_command.specs.unit_inputs.declared.command_answers.exit_status.ExitStatus.TheVariants.{NoCommand}
use Rattle.top_call.specs.Texts.{words_line}
use Rattle.top_call.proofs.Runs.{ran_fixed}
use Rattle.top_call.proofs.Asked.{asked_fixed}
use Rattle.top_call.proofs.running.answer.Goals as goal

pub returns-in-None-clause-runs : goal.returns-in-None-clause-runs
returns-in-None-clause-runs g c =
    rw c.in-None.is
    (ran_fixed c.no_command.result NoCommand words_line ⊥ _ c.finish.result refl
    (λ none. absurd none) c.no_command.ensures.status c.no_command.ensures.text refl c.finish.ensures.finishes)

pub returns-in-Some-clause-reads_only_for_it : goal.returns-in-Some-clause-reads_only_for_it
returns-in-Some-clause-reads_only_for_it g c = rw c.in-Some.is c.answer_request.ensures.reads_only_for_it

pub returns-in-None-clause-reads_in_order : goal.returns-in-None-clause-reads_in_order
returns-in-None-clause-reads_in_order g c =
    rw c.in-None.is
    (asked_fixed g.S.Shelf.asks (g.S.Shelf.agrees c.args.shelf.now) c.args.shelf.now c.no_command.result NoCommand c.finish.result _ refl
    c.no_command.ensures.status c.finish.ensures.finishes)

pub returns-in-Some-clause-reads_in_order : goal.returns-in-Some-clause-reads_in_order
returns-in-Some-clause-reads_in_order g c =
    rw c.in-Some.is c.answer_request.ensures.reads_in_order
