-- The least list of names with which a unit answers a script as with all names.
use Rattle.std.specs.Prelude.{◌≡◌, ◌≢◌, ℕ, Bool, true, false, List}
use Rattle.std.specs.List.{All}
use Rattle.asked_service.specs.call_table.Table as calls
use Rattle.asked_service.specs.dropin_merge.declared.resolved.Resolved.{Resolved}
use Rattle.asked_service.specs.exec_settings.Settings.{unit_keeps}
use Rattle.asked_service.specs.unit_names.Versions.{is_257}
use Rattle.asked_service.specs.kernel_model.declared.kernel_calls.call.Call.{Call}
use Rattle.asked_service.specs.kernel_model.Runs.{replies}
use Rattle.asked_service.specs.kernel_model.declared.reply.Reply.{Reply}
use Rattle.asked_service.specs.launching.Launched.{IsLaunchedUnit, IsNotLaunched}
use Rattle.asked_service.specs.declared.launching.refusal.Refusal.{Refusal}
use Rattle.asked_service.specs.declared.launching.refusal.Refusal.TheVariants as refusal
use Rattle.asked_service.specs.launcher.declared.launched.Launched.{Launched as Service}
use Rattle.asked_service.specs.site_table.Table.{Site}
use Rattle.derive_command.specs.trace_profile.Extended.{extended, open_unit}
use Rattle.derive_command.specs.trace_profile.Names.{AreNames, without}
use Rattle.derive_command.specs.trace_profile.PlainNames.{IsBesideDefault}

-- what lists of names are tried on: a unit over a table of calls and a site, a script, and the replies that are wanted
pub record Tried : Type 0 where
  pub unit : Resolved
  pub table : calls.Table
  pub site : Site
  pub script : List Call
  pub said : List Reply

-- the unit that allows these names is launched, and the calls of the script have these replies
pub record Replies (tried : Tried) (names : List ℕ) (said : List Reply) : Type 0 where
  pub service : Service
  pub launched : IsLaunchedUnit (extended tried.unit tried.table names) tried.table tried.site service
  pub replies : replies service.world tried.script ≡ said

abbrev pub Serves : Tried → List ℕ → Type 0
Serves tried names = Replies tried names tried.said

-- it is not launched, or some reply is another
pub data Fails (tried : Tried) (names : List ℕ) : Type 0 where
  not_launched : (error : Refusal) → error ≢ refusal.Memory
      → IsNotLaunched (extended tried.unit tried.table names) tried.table tried.site error → Fails tried names
  other_reply : (own : List Reply) → Replies tried names own → own ≢ tried.said → Fails tried names

-- the list serves, and without any of its names it does not
pub record IsLeast (tried : Tried) (names : List ℕ) : Type 0 where
  pub are_names : AreNames tried.table names
  pub serves : Serves tried names
  pub needed : All (λ name. Fails tried (without name names)) names

abbrev pub tried_with : Resolved → calls.Table → Site → List Call → List Reply → Tried
tried_with unit table site script said = record { unit = unit; table = table; site = site; script = script; said = said }

-- with the replies that the unit gives which allows every call, this is the least list
pub record IsDerived (unit : Resolved) (table : calls.Table) (site : Site) (script : List Call) (names : List ℕ) : Type 0 where
  pub service : Service
  pub opened : IsLaunchedUnit (open_unit unit table) table site service
  pub least : IsLeast (tried_with unit table site script (replies service.world script)) names

-- with both lists systemd keeps capabilities until the filters of the unit are installed, or with neither
abbrev pub KeepAlike : Resolved → calls.Table → List ℕ → List ℕ → Type 0
KeepAlike unit table names others =
    (uid : ℕ) → unit_keeps (extended unit table names) table uid ≡ unit_keeps (extended unit table others) table uid

-- none of the names is in `@default`, and each list that is derived is this one. In systemd 257 whether it keeps capabilities rests on the
-- list, and so does no_new_privs. So there each list is this one that keeps alike
pub record IsOnlyOne (unit : Resolved) (table : calls.Table) (site : Site) (script : List Call) (names : List ℕ) : Type 0 where
  pub beside_default : All (IsBesideDefault table) names
  pub only : (others : List ℕ) → IsDerived unit table site script others
      → (is_257 unit.systemd ≡ true → KeepAlike unit table names others) → others ≡ names

-- a list that was tried serves or fails
abbrev pub Tells : Tried → List ℕ → Bool → Type 0
Tells tried names true = Serves tried names
Tells tried names false = Fails tried names
