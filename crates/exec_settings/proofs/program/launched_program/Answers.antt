use Rattle.std.proofs.Common.{◌≡◌, Some, false, sym, ap, ◌∙◌, subst}
use Rattle.std.specs.Option.{option_map_or}
use Rattle.exec_settings.specs.Refusals.{IsReason}
use Rattle.exec_settings.specs.Settings.{program_path, unit_program}
use Rattle.exec_settings.specs.Launched.{unit_leaves_ids}
use Rattle.exec_settings.specs.declared.commands.Command.{Command}
use Rattle.exec_settings.proofs.Launching.{none_is_first, outside_is_last, privileged_is_first}
use Rattle.exec_settings.proofs.Reasons.{handed_on}
use Rattle.exec_settings.proofs.program.launched_program.Goals as goal

pub returns-in_default-clause-refuses_first : goal.returns-in_default-clause-refuses_first
returns-in_default-clause-refuses_first c =
    none_is_first c.args.unit.now c.args.site.now (sym c.in_ok-command.ensures.first_in_force ∙ c.in_default.is)

pub returns-then-command-clause-refuses_first : goal.returns-then-command-clause-refuses_first
returns-then-command-clause-refuses_first c = privileged_is_first c.args.unit.now c.args.site.now c.in-Some.command
    (sym c.in_ok-command.ensures.first_in_force ∙ c.in-Some.is) c.if-command.true

pub returns-in_err-program-clause-refuses_first : goal.returns-in_err-program-clause-refuses_first
returns-in_err-program-clause-refuses_first c =
    handed_on _ _ _ c.from_residual-in_err-program.ensures.1
    (subst (λ reason. IsReason reason c.in_err-program.field-0.0)
    (sym (outside_is_last c.args.unit.now c.args.site.now c.in-Some.command
    (sym c.in_ok-command.ensures.first_in_force ∙ c.in-Some.is) c.if-command.false))
    c.in_err-program.ensures.refuses)

pub returns-clause-refuses_first : goal.returns-clause-refuses_first
returns-clause-refuses_first c =
    outside_is_last c.args.unit.now c.args.site.now c.in-Some.command (sym c.in_ok-command.ensures.first_in_force ∙ c.in-Some.is)
    c.if-command.false
    ∙ c.in_ok-program.ensures.refuses

pub returns-clause-program : goal.returns-clause-program
unfolding unit_program
returns-clause-program c =
    ap (program_path c.args.unit.now c.args.site.now) (sym c.in_ok-command.ensures.first_in_force ∙ c.in-Some.is)
    ∙ c.in_ok-program.ensures.program

pub returns-clause-leaves_ids : goal.returns-clause-leaves_ids
unfolding unit_leaves_ids
returns-clause-leaves_ids c =
    sym (ap (λ one. option_map_or (λ (command : Command). command.leaves_ids) one false)
    (sym c.in_ok-command.ensures.first_in_force ∙ c.in-Some.is))
