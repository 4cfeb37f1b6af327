use Rattle.std.proofs.Common.{◌≡◌, drop}
use Rattle.std.specs.Prelude.{is_some}
use Rattle.std.specs.List.{list_any}
use Rattle.filter_settings.specs.filter_rules.Calls.{listed_by}
use Rattle.filter_settings.proofs.filter_rules.calls.some_listed.Given as goal

abbrev pub invariant-loop-call : goal.invariant-loop-call
invariant-loop-call l =
    list_any (λ call. is_some (listed_by l.table l.list.mentions call.name)) (drop l.call-index l.calls)
    ≡ list_any (λ call. is_some (listed_by l.table l.list.mentions call.name)) l.calls
