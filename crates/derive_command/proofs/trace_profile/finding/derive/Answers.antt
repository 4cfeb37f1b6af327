use Rattle.std.proofs.Common.{rules, ◌≡◌, All, None, List, subst}
use Rattle.asked_service.specs.kernel_model.kernel_calls.Calls.{IsCall}
use Rattle.asked_service.specs.kernel_model.declared.kernel_calls.call.Call.{Call}
use Rattle.derive_command.specs.trace_profile.Scripts.{first_seccomp}
use Rattle.derive_command.proofs.Whole.{only_over_plain, only_over_read}
use Rattle.derive_command.proofs.trace_profile.finding.derive.Goals as goal

pub returns-clause-only_list_over_plain_names : goal.returns-clause-only_list_over_plain_names
returns-clause-only_list_over_plain_names c =
    let none : first_seccomp c.args.calls.now c.args.script.now ≡ None = search rules in
    only_over_plain c.args.unit.now c.args.calls.now c.args.site.now c.args.script.now
    c.dynamic_uid-uid.ensures.holds_of_each_site c.look_at.ensures.whole c.look_at.ensures.native c.look_at.ensures.second
    (subst (λ (script : List Call). All IsCall script) c.list-2.ensures.all_in_order c.calls_fit.ensures) none
    c.in_ok-derive_open.field-0.names c.in_ok-derive_open.ensures.least_list

pub returns-clause-only_list_over_a_read_table : goal.returns-clause-only_list_over_a_read_table
returns-clause-only_list_over_a_read_table c =
    let none : first_seccomp c.args.calls.now c.args.script.now ≡ None = search rules in
    only_over_read c.args.unit.now c.args.calls.now c.args.site.now c.args.script.now
    c.dynamic_uid-uid.ensures.holds_of_each_site c.look_at.ensures.whole c.look_at.ensures.native c.look_at.ensures.second
    (subst (λ (script : List Call). All IsCall script) c.list-2.ensures.all_in_order c.calls_fit.ensures) none
    c.in_ok-derive_open.field-0.names c.in_ok-derive_open.ensures.least_list
