use Rattle.std.proofs.Common.{ap, ◌∙◌}
use Rattle.unit_inputs.specs.command_answers.Laws.{IsAdmitted, laws_over}
use Rattle.unit_inputs.proofs.FileCommands.{at_stop}
use Rattle.plan_command.specs.Prints.{status_of, mounts_text, plan_laws}
use Rattle.unit_inputs.proofs.Reading.{read_then_stopped}
use Rattle.plan_command.proofs.Prepared.{ready, stops_at_paths, stops_before_paths}
use Rattle.unit_inputs.specs.Asking.{input_asks}
use Rattle.unit_inputs.proofs.Ordering.{order_quiet_stopped}
use Rattle.mount_plan.specs.kern_mounts.declared.step.MountStep.{MountStep}
use Rattle.std.proofs.Common.{List}
use Rattle.plan_command.proofs.command.prepare.Goals as goal

pub plan_mounts-requires : goal.plan_mounts-requires
plan_mounts-requires g c = record {
  root_is_the_hosts = rw c.deref.ensures c.in_ok-one.ensures.has_settings.leaves_the_root;
  paths_are_short = rw c.deref.ensures c.in_ok-one.ensures.has_settings.paths_are_short;
}

pub returns-in_err-one-clause-prepares : goal.returns-in_err-one-clause-prepares
returns-in_err-one-clause-prepares g c =
    at_stop (IsAdmitted (laws_over (g.S.Shelf.agrees c.settle_unit.new.shelf) (plan_laws c.args.unit.now)) status_of mounts_text)
    c.from_residual.result c.in_err-one.field-0.0 c.from_residual.ensures.1
    (stops_before_paths (λ one. Unit {0}) (g.S.Shelf.agrees c.settle_unit.new.shelf) c.args.unit.now c.in_err-one.field-0.0
    c.in_err-one.ensures.settles_by_the_files)

pub returns-in_err-table-clause-prepares : goal.returns-in_err-table-clause-prepares
returns-in_err-table-clause-prepares g c =
    at_stop (IsAdmitted (laws_over (g.S.Shelf.agrees c.settle_unit.new.shelf) (plan_laws c.args.unit.now)) status_of mounts_text)
    c.from_residual-in_err-table.result c.in_err-table.field-0.0 c.from_residual-in_err-table.ensures.1
    (stops_at_paths (g.S.Shelf.agrees c.settle_unit.new.shelf) c.args.unit.now c.in_ok-one.one c.deref.result.now.mentions c.deref-2.result.now
    c.in_err-table.field-0.0
    (ap (λ settings. settings.mentions) c.deref.ensures ∙ c.in_ok-one.ensures.has_settings.mentions_written_and_implied)
    c.deref-2.ensures
    c.in_ok-one.ensures.settles_by_the_files
    c.in_err-table.ensures.plan_or_first_refusal)

pub returns-in_err-table-clause-reads_for_the_unit : goal.returns-in_err-table-clause-reads_for_the_unit
returns-in_err-table-clause-reads_for_the_unit g c =
    read_then_stopped g.S.Shelf.agrees g.S.Shelf.faults c.args.unit.now _ _ c.in_ok-one.one c.in_ok-one.ensures.reads_for_the_unit
    c.from_residual-in_err-table.result c.in_err-table.field-0.0 c.from_residual-in_err-table.ensures.1 c.in_err-table.ensures.reads_nothing

pub returns-clause-prepares : goal.returns-clause-prepares
returns-clause-prepares g c =
    ready (g.S.Shelf.agrees c.settle_unit.new.shelf) c.args.unit.now c.in_ok-one.one c.deref.result.now.mentions c.deref-2.result.now
    (record { table = c.in_ok-table.table })
    (ap (λ settings. settings.mentions) c.deref.ensures ∙ c.in_ok-one.ensures.has_settings.mentions_written_and_implied)
    c.deref-2.ensures
    c.in_ok-one.ensures.settles_by_the_files
    c.in_ok-table.ensures.plan_or_first_refusal

pub returns-in_err-table-clause-asks_in_order : goal.returns-in_err-table-clause-asks_in_order
returns-in_err-table-clause-asks_in_order g c =
    order_quiet_stopped g.S.Shelf.asks (g.S.Shelf.agrees c.settle_unit.new.shelf)
    (λ files. input_asks files c.args.unit.now) c.args.shelf.now c.settle_unit.new.shelf
    (List MountStep) c.from_residual-in_err-table.result c.in_err-table.field-0.0 c.from_residual-in_err-table.ensures.1
    c.in_err-table.ensures.reads_nothing c.in_ok-one.ensures.asks_in_order
