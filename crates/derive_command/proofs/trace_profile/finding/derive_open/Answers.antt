use Rattle.std.proofs.Common.{◌≡◌, ◌∙◌, List, None, length, ap, sym, subst}
use Rattle.std.specs.Prelude.{IfErr}
use Rattle.asked_service.specs.kernel_model.declared.kernel_calls.call.Call.{Call}
use Rattle.asked_service.specs.launching.Launched.{IsNotLaunched}
use Rattle.derive_command.specs.trace_profile.Extended.{open_unit}
use Rattle.derive_command.specs.trace_profile.Names.{AreNames}
use Rattle.derive_command.specs.trace_profile.Scripts.{first_seccomp}
use Rattle.derive_command.specs.trace_profile.Searching.{IsHeard}
use Rattle.derive_command.proofs.Lists.{every_are_names}
use Rattle.derive_command.proofs.Tried.{at_error, derived_is, every_heard, every_serve, not_opened}
use Rattle.derive_command.proofs.trace_profile.finding.derive_open.Goals as goal
use Rattle.derive_command.proofs.trace_profile.finding.derive_open.Goals.{After-differ_in_programs}

pub returns-in_err-heard-clause-refused : goal.returns-in_err-heard-clause-refused
returns-in_err-heard-clause-refused c =
    at_error (λ made. IfErr made (IsNotLaunched (open_unit c.args.unit.now c.args.calls.now) c.args.calls.now c.args.site.now))
    c.from_residual-in_err-heard.result c.in_err-heard.field-0.0 c.from_residual-in_err-heard.ensures.1
    (not_opened c.args.unit.now c.args.calls.now c.args.site.now c.args.script.now c.in_ok-every.every.items c.deref.result.now
    c.in_ok-every.ensures.all_of_the_table c.deref.ensures.value
    c.in_err-heard.field-0.0 c.in_err-heard.ensures.refused)

pub begin-requires-clause-serving : goal.begin-requires-clause-serving
begin-requires-clause-serving c =
    every_serve c.args.unit.now c.args.calls.now c.args.site.now c.args.script.now c.in_ok-every.every.items c.deref.result.now
    c.in_ok-every.ensures.all_of_the_table c.deref.ensures.value
    c.in_ok-heard.heard.said.items c.deref-2.result.now c.list.result.now c.list-2.result.now c.in_ok-heard.ensures.replies.serves
    c.list.ensures.all_in_order c.list-2.ensures.all_in_order c.deref-2.ensures.value

-- the trial is one of what was heard
is_heard : (c : After-differ_in_programs) → IsHeard (record {
  unit = c.args.unit;
  calls = c.args.calls;
  site = c.args.site;
  script = c.list-2.result;
  said = c.deref-2.result;
  fates = c.deref-3.result;
  is_foretold = c.differ_in_programs.result;
})
is_heard c = record {
  names = c.in_ok-every.every.items;
  are_names = subst (AreNames c.args.calls.now) (sym c.in_ok-every.ensures.all_of_the_table) (every_are_names c.args.calls.now);
  heard =
      every_heard c.args.unit.now c.args.calls.now c.args.site.now c.args.script.now c.in_ok-every.every.items c.deref.result.now
      c.in_ok-every.ensures.all_of_the_table c.deref.ensures.value
      c.in_ok-heard.heard.said.items c.deref-2.result.now c.list.result.now c.list-2.result.now c.in_ok-heard.ensures.replies.serves
      c.list.ensures.all_in_order c.list-2.ensures.all_in_order c.deref-2.ensures.value
      c.in_ok-heard.heard.fates.items c.deref-3.result.now c.in_ok-heard.ensures.replies.of_its_service c.deref-3.ensures.value;
  one_each = ap length c.deref-2.ensures.value ∙ c.in_ok-heard.ensures.one_each
      ∙ ap length (c.list.ensures.all_in_order ∙ sym c.list-2.ensures.all_in_order);
  a_fate_each = ap length c.deref-3.ensures.value ∙ c.in_ok-heard.ensures.a_fate_each
      ∙ ap length (c.list.ensures.all_in_order ∙ sym c.list-2.ensures.all_in_order);
  pushes_none = subst (λ (script : List Call). first_seccomp c.args.calls.now script ≡ None) (sym c.list-2.ensures.all_in_order)
      c.requires.pushes_none;
  alike = c.differ_in_programs.ensures;
}

pub begin-requires-clause-heard : goal.begin-requires-clause-heard
begin-requires-clause-heard c = is_heard (goal.at.begin-requires-clause-heard c).After-differ_in_programs

pub least-requires-clause-heard : goal.least-requires-clause-heard
least-requires-clause-heard c = is_heard (goal.at.least-requires-clause-heard c).After-differ_in_programs

pub returns-clause-least_list : goal.returns-clause-least_list
returns-clause-least_list c =
    derived_is c.args.unit.now c.args.calls.now c.args.site.now c.args.script.now c.in_ok-every.every.items c.deref.result.now
    c.in_ok-every.ensures.all_of_the_table c.deref.ensures.value
    c.in_ok-heard.heard.said.items c.deref-2.result.now c.list.result.now c.list-2.result.now c.in_ok-heard.ensures.replies.serves
    c.list.ensures.all_in_order c.list-2.ensures.all_in_order c.deref-2.ensures.value
    c.in_ok-names.names.items c.new.result c.new.ensures.holds_them c.in_ok-names.ensures.none_can_be_left_out
