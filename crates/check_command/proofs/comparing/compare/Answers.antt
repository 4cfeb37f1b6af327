use Rattle.std.proofs.Common.{None, Some, ap, ◌∙◌}
use Rattle.unit_inputs.specs.exec_settings.Dynamic.{unit_filters}
use Rattle.unit_inputs.proofs.Said.{said_refused}
use Rattle.check_command.specs.Causes.{no_filter_line}
use Rattle.check_command.specs.Comparing.{ComparesNamed, not_on}
use Rattle.check_command.specs.declared.ready.Checked.{Checked}
use Rattle.check_command.proofs.Named.{can_be_compiled, compares_named, found_in, named_none}
use Rattle.check_command.proofs.comparing.compare.Goals as goal

pub compare_rules-requires : goal.compare_rules-requires
compare_rules-requires c =
    let one = c.args.prepared.now.unit in
    let table = one.inputs.calls.value in
    let filters = one.settings.value.filters.items in
    record {
      can_be_compiled = can_be_compiled (unit_filters one.inputs.unit.value table) table filters c.requires.settled.filters_as_wanted
          c.args.name.now c.args.unit.now c.args.path.now c.args.prepared.now.program c.in-Some.filter.now
          (found_in table c.deref.result.now filters c.as_slice.result.now c.args.name.now (Some c.in-Some.filter.now) c.deref.ensures
          (c.as_slice.ensures.value ∙ ap (λ settings. settings.filters.items) c.deref-2.ensures) c.in-Some.ensures.named);
    }

pub returns-in-Some-clause-compares : goal.returns-in-Some-clause-compares
returns-in-Some-clause-compares c =
    let one = c.args.prepared.now.unit in
    let table = one.inputs.calls.value in
    let filters = one.settings.value.filters.items in
    compares_named (unit_filters one.inputs.unit.value table) table filters c.requires.settled.filters_as_wanted c.args.name.now
    c.args.unit.now c.args.path.now c.args.prepared.now.program c.in-Some.filter.now
    (found_in table c.deref.result.now filters c.as_slice.result.now c.args.name.now (Some c.in-Some.filter.now) c.deref.ensures
    (c.as_slice.ensures.value ∙ ap (λ settings. settings.filters.items) c.deref-2.ensures) c.in-Some.ensures.named)
    c.compare_rules.result c.compare_rules.ensures.compares

pub returns-in-None-clause-compares : goal.returns-in-None-clause-compares
returns-in-None-clause-compares c =
    let one = c.args.prepared.now.unit in
    let table = one.inputs.calls.value in
    let filters = one.settings.value.filters.items in
    said_refused (λ (checked : Checked). checked.outcome)
    (ComparesNamed c.args.unit.now c.args.name.now c.args.path.now
    (unit_filters one.inputs.unit.value table) table c.args.prepared.now.program)
    c.no_filter_line.result (no_filter_line c.args.unit.now c.args.name.now) c.refuse.result c.refuse.ensures.tells_the_line
    c.no_filter_line.ensures
    (not_on (named_none (unit_filters one.inputs.unit.value table) table filters c.requires.settled.filters_as_wanted c.args.name.now
    c.args.unit.now c.args.path.now c.args.prepared.now.program
    (found_in table c.deref.result.now filters c.as_slice.result.now c.args.name.now None c.deref.ensures
    (c.as_slice.ensures.value ∙ ap (λ settings. settings.filters.items) c.deref-2.ensures) c.in-None.ensures.named)))
