-- Ways: lists of calls of process 1 alone, each of which is done, that change its credentials or its mount table.
use Rattle.std.specs.Prelude.{◌≡◌, ℕ, ◌-◌, ◌==◌, nat_lt, true, false, List, [], ◌∷◌, length, Some, slice_get, map, ◌<◌, ◌^◌, Option}
use Rattle.std.specs.Prelude.{if◌then◌else◌}
use Rattle.launcher.specs.site_table.Table.{row_at}
use Rattle.launcher.specs.kern_creds.declared.creds.Creds.{Creds}
use Rattle.launcher.specs.kern_mounts.Finds.{finds}
use Rattle.launcher.specs.kern_mounts.Mounts.{plain}
use Rattle.launcher.specs.kern_mounts.Split.{Table}
use Rattle.launcher.specs.kernel_model.kern_files.Executing.{exec_answer}
use Rattle.launcher.specs.kernel_model.kern_files.Looking.{flags_at, see_answer, write_answer, open_answer}
use Rattle.launcher.specs.kernel_model.declared.kernel_calls.call.Call.{Call}
use Rattle.launcher.specs.call_table.Table.{calls_in}
use Rattle.launcher.specs.call_table.declared.listed.CallLine.{CallLine}
use Rattle.launcher.specs.kernel_model.kernel_calls.Calls.{IsCall}
use Rattle.launcher.specs.kernel_model.kernel_calls.Rules.{rule_at}
use Rattle.launcher.specs.kernel_model.declared.kernel_calls.rule.Rule.{Rule}
use Rattle.launcher.specs.kernel_model.kernel_calls.Operation.{Operation, See, Open, Create, Truncate, Execve, Submit, Does, asked_of}
use Rattle.launcher.specs.kernel_model.declared.kernel_calls.request.Request.{Request}
use Rattle.launcher.specs.kernel_model.declared.kernel_calls.request.Request.TheVariants.{Stat, Open as AskOpen}
use Rattle.launcher.specs.kernel_model.Effects.{Effect, Refuse, SetCreds, SetTable, Host, Caller, effect_of, looks, creds_effect}
use Rattle.launcher.specs.kernel_model.Effects.{request_effect}
use Rattle.launcher.specs.linux_numbers.Errnos.{ebadf}
use Rattle.launcher.specs.kernel_model.Step.{most_namespaces}
use Rattle.launcher.specs.kernel_model.MountNamespaces.{owned_by_first}
use Rattle.launcher.specs.kernel_model.World.{World, has_mdwe}
use Rattle.launcher.specs.kernel_model.declared.mount_namespace.MountNamespace.{MountNamespace}
use Rattle.launcher.specs.kernel_model.declared.process.Process.{Process}
use Rattle.launcher.specs.kernel_laws.Launched.{Launch, passes}

-- process 1, with the filters of the launch, in the first user namespace
abbrev pub solo_process : Launch → Creds → ℕ → Process
solo_process launch creds namespace = record { creds = creds; stack = launch.stack; namespace = namespace; user = 1; alive = true }

abbrev pub solo_world : Launch → Creds → ℕ → List MountNamespace → World
solo_world launch creds namespace spaces = record { calls = launch.calls; site = launch.site; processes = solo_process launch creds namespace ∷ []; namespaces = spaces; users = 0 }

-- process 1 lives alone in the first user namespace, with these credentials, the filters of the launch and this mount table; and there
-- is room for one more mount namespace
pub record IsSolo (launch : Launch) (creds : Creds) (table : Table) (world : World) : Type 0 where
  pub namespace : ℕ
  pub spaces : List MountNamespace
  pub is : world ≡ solo_world launch creds namespace spaces
  pub numbered : (namespace == 0) ≡ false
  pub own : slice_get spaces (namespace - 1) ≡ Some (owned_by_first (map plain table))
  pub few : nat_lt (length spaces) most_namespaces ≡ true

-- the host, and what process 1 has, as a rule sees them
abbrev pub host_at : Launch → Host
host_at launch = record { rows = row_at launch.site.rows; families = launch.calls.families; mdwe = has_mdwe launch.site; rings = launch.site.io_uring }

abbrev pub caller_at : Launch → Creds → Table → Caller
caller_at launch creds table = record { creds = creds; stack = launch.stack; table = map plain table; newer = false; owns = true }

-- the effect of a request to a ring; where it looks at a path, by the entries of the caller's table alone
abbrev pub request_on : Host → Caller → Table → Request → Effect
request_on host caller table (Stat path) = looks (see_answer 0 (finds host.rows table path))
request_on host caller table (AskOpen path flags) = looks (open_answer flags (flags_at table path) (finds host.rows table path))
request_on host caller table request = request_effect host caller request

-- the effect of a call, by the same
abbrev pub effect_on : Host → Caller → Table → Operation → Effect
effect_on host caller table (See path) = looks (see_answer 0 (finds host.rows table path))
effect_on host caller table (Open flags mode path) = looks (open_answer flags (flags_at table path) (finds host.rows table path))
effect_on host caller table (Create mode path) = looks (write_answer 3 (flags_at table path) (finds host.rows table path))
effect_on host caller table (Truncate path) = looks (write_answer 0 (flags_at table path) (finds host.rows table path))
effect_on host caller table (Execve path) = creds_effect (exec_answer caller.creds (flags_at table path) (finds host.rows table path))
effect_on host caller table (Submit request) = if caller.creds.ring then request_on host caller table request else Refuse ebadf
effect_on host caller table operation = effect_of host caller operation

-- a call of an ABI, by its number
pub record CallAt : Type 0 where
  pub abi : ℕ
  pub nr : ℕ

pub record IsCallAt (at : CallAt) : Type 0 where
  pub abi : at.abi < 2 ^ 8
  pub number : at.nr < 2 ^ 32

abbrev pub place_of : CallLine → CallAt
place_of line = record { abi = line.abi; nr = line.number }

abbrev pub rule_there : Launch → CallAt → Option Rule
rule_there launch at = rule_at (calls_in launch.calls at.abi) at.nr

abbrev pub passes_at : Launch → CallAt → List ℕ → Type 0
passes_at launch at args = passes launch at.abi at.nr args

-- process 1 can make the call, the filters let it through, it asks for this, and has this effect
pub record Makes (launch : Launch) (creds : Creds) (table : Table) (operation : Operation) (call : Call) (effect : Effect) : Type 0 where
  pub fit : IsCall call
  pub first : call.pid ≡ 1
  pub through : passes launch call.abi call.nr call.args
  pub asks : asked_of launch.calls call ≡ Does operation
  pub comes_to : effect_on (host_at launch) (caller_at launch creds table) table operation ≡ effect

-- the calls lead from these credentials and this mount table to those
pub data Way (launch : Launch) : Creds → Table → List Call → Creds → Table → Type 0 where
  here : {creds : Creds} {table : Table} → Way launch creds table [] creds table
  by_creds : {creds now last : Creds} {table end : Table} {rest : List Call} {operation : Operation} {value : ℕ} (call : Call)
      → Makes launch creds table operation call (SetCreds value now) →
      Way launch now table rest last end → Way launch creds table (call ∷ rest) last end
  by_table : {creds last : Creds} {table now end : Table} {rest : List Call} {operation : Operation} (call : Call)
      → Makes launch creds table operation call (SetTable (map plain now)) →
      Way launch creds now rest last end → Way launch creds table (call ∷ rest) last end
