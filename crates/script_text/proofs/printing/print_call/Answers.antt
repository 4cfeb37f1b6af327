use Rattle.std.proofs.Common.{ap, ◌++◌, ◌∙◌}
use Rattle.kernel_model.proofs.OfCallTable.Back.{has_other_name}
use Rattle.script_text.specs.Printed.{call_text}
use Rattle.script_text.proofs.PrintedRead.{read_as}
use Rattle.script_text.proofs.printing.print_call.Goals as goal

pub returns-clause-text : goal.returns-clause-text
returns-clause-text c = c.in_ok-push_call.ensures.tells_the_call
    ∙ ap (λ front. front ++ call_text c.args.calls.now c.args.call.now) c.new-text.ensures.items

pub returns-clause-reads_back : goal.returns-clause-reads_back
returns-clause-reads_back c =
    read_as c.args.calls.now c.args.call.now c.push_call.new.out.items (returns-clause-text c)
    (has_other_name c.args.calls.now c.abis-abis.ensures.whole.sound) c.calls_in-calls.ensures.names_and_numbers_once.once
    c.is_held.ensures
