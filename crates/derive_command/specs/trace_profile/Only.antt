-- The least list is the only one, and names no call of `@default`.
use Rattle.std.specs.Prelude.{◌≡◌, ℕ, None, List}
use Rattle.asked_service.specs.call_table.Facts.{IsWhole}
use Rattle.asked_service.specs.call_table.Table as calls
use Rattle.asked_service.specs.dropin_merge.declared.resolved.Resolved.{Resolved}
use Rattle.asked_service.specs.kernel_model.kernel_calls.Calls.{AreCalls}
use Rattle.asked_service.specs.kernel_model.declared.kernel_calls.call.Call.{Call}
use Rattle.asked_service.specs.launcher.Alike.{HasWordArchs}
use Rattle.asked_service.specs.site_table.Table.{IsSite, Site}
use Rattle.derive_command.specs.trace_profile.Derived.{IsDerived, IsOnlyOne}
use Rattle.derive_command.specs.trace_profile.PlainNames.{HasPlainNames}
use Rattle.derive_command.specs.trace_profile.Scripts.{first_seccomp}

-- for every unit, over a table that was read and a site, and every script that asks to push no program
abbrev pub LeastIsOnlyOne : Type 0
LeastIsOnlyOne = (unit : Resolved) (table : calls.Table) (site : Site) (script : List Call) (names : List ℕ)
    → IsSite site → IsWhole table → HasWordArchs table → AreCalls script → first_seccomp table script ≡ None → HasPlainNames table
    → IsDerived unit table site script names → IsOnlyOne unit table site script names
