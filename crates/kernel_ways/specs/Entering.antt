-- A call in a user namespace of its own, user_namespaces(7): process 1 enters one by unshare(2), or its child is made in one by clone(2).
use Rattle.std.specs.Prelude.{◌≡◌, ℕ, ◌<◌, nat_lt, Bool, true, length, List, [], ◌∷◌, ◌++◌, Some, map}
use Rattle.launcher.specs.kern_creds.declared.creds.Creds.{Creds}
use Rattle.launcher.specs.kern_creds.Enter.{entered}
use Rattle.launcher.specs.kern_mounts.Split.{Table}
use Rattle.launcher.specs.kern_mounts.Mounts.{plain}
use Rattle.launcher.specs.kernel_model.declared.kernel_calls.call.Call.{Call}
use Rattle.launcher.specs.kernel_model.declared.kernel_calls.rule.Rule.{Rule}
use Rattle.launcher.specs.kernel_model.declared.kernel_calls.rule.Rule.TheVariants.{Known}
use Rattle.launcher.specs.call_table.declared.call_names.rule.CallRule.TheVariants.{Unshare}
use Rattle.launcher.specs.kernel_model.kernel_calls.Calls.{IsCall}
use Rattle.launcher.specs.kernel_model.kernel_calls.Operation.{Operation, Does, asked_of}
use Rattle.launcher.specs.kernel_model.Effects.{Effect, Caller, effect_of}
use Rattle.launcher.specs.kernel_model.Runs.{IsDone}
use Rattle.launcher.specs.kernel_model.Step.{most_processes, most_namespaces, step}
use Rattle.launcher.specs.kernel_model.World.{World, living_of, mounts_of, is_newer}
use Rattle.launcher.specs.kernel_model.declared.process.Process.{Process}
use Rattle.launcher.specs.kernel_laws.Denied.{Shows}
use Rattle.launcher.specs.kernel_laws.Launched.{Launch, passes}
use Rattle.launcher.specs.kernel_laws.declared.question_types.question.Question.{Question}
use Rattle.kernel_ways.specs.Showing.{IsDoable, Answers}
use Rattle.kernel_ways.specs.Ways.{Way, IsSolo, host_at}

-- the process that is then in a newer user namespace: process 1 by unshare(2), its first child by clone(2)
abbrev pub pid_in : Rule → ℕ
pid_in (Known Unshare) = 1
pid_in rule = 2

-- it lives there with these credentials, the filters of the launch and this mount table, and there is room for one more process and
-- for one more mount namespace
pub record IsEntered (launch : Launch) (creds : Creds) (table : Table) (pid : ℕ) (world : World) : Type 0 where
  pub calls : world.calls ≡ launch.calls
  pub site : world.site ≡ launch.site
  pub process : Process
  pub lives : living_of world pid ≡ Some process
  pub has : process.creds ≡ creds
  pub stack : process.stack ≡ launch.stack
  pub newer : is_newer process ≡ true
  pub own : mounts_of world process.namespace ≡ map plain table
  pub few : nat_lt (length world.namespaces) most_namespaces ≡ true
  pub fewer : nat_lt (length world.processes) most_processes ≡ true

-- the process as a rule sees it, by whether its mount namespace belongs to its user namespace
abbrev pub newer_at : Launch → Creds → Table → Bool → Caller
newer_at launch creds table owns = record { creds = creds; stack = launch.stack; table = map plain table; newer = true; owns = owns }

-- the process can make the call, the filters let it through, it asks for this, and has this effect
pub record MakesIn (launch : Launch) (creds : Creds) (table : Table) (pid : ℕ) (operation : Operation) (call : Call) (effect : Effect) : Type 0 where
  pub fit : IsCall call
  pub by : call.pid ≡ pid
  pub through : passes launch call.abi call.nr call.args
  pub asks : asked_of launch.calls call ≡ Does operation
  pub comes_to : (owns : Bool) → effect_of (host_at launch) (newer_at launch creds table owns) operation ≡ effect

-- a way, a call that makes a user namespace, and one more call in it
abbrev pub CallsShowInside : Type 0
CallsShowInside = (launch : Launch) (from to : Creds) (table now : Table) (world : World) (calls : List Call) (question : Question)
    (pid : ℕ) (user last : Call) (operation : Operation) (effect : Effect)
    → IsSolo launch from table world → Way launch from table calls to now
    → IsCall user → ((after : World) → IsSolo launch to now after
    → IsDone (step after user).0 × IsEntered launch (entered to) now pid (step after user).1)
    → MakesIn launch (entered to) now pid operation last effect → IsDoable effect → Answers launch now question last operation
    → Shows world question ((calls ++ user ∷ []) ++ last ∷ [])
