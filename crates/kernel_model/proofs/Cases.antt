-- The cases of a step, and what refused and killing calls change.
use Rattle.std.proofs.Common.{◌≡◌, ℕ, ◌<◌, ◌≤◌, Bool, true, false, cond, Option, Some, None, refl, sym, ap, ◌∙◌, length, arith}
use Rattle.std.specs.Prelude.{nat_lt}
use Rattle.bpf_code.specs.declared.decision.Decision.{Decision}
use Rattle.bpf_code.specs.declared.decision.Decision.TheVariants as decision
use Rattle.kern_mounts.specs.linux_numbers.Errnos.{eagain, enospc}
use Rattle.kernel_model.specs.declared.kernel_calls.call.Call.{Call}
use Rattle.kernel_model.specs.kernel_calls.Operation.{Asked, Lacking, Misformed, Does, asked_of}
use Rattle.kernel_model.specs.declared.process.Process.{Process}
use Rattle.kernel_model.specs.declared.reply.Reply.{Reply}
use Rattle.kernel_model.specs.declared.reply.Reply.TheVariants as reply
use Rattle.kernel_model.specs.Effects as f
use Rattle.kernel_model.specs.Effects.{Effect, effect_of}
use Rattle.kernel_model.specs.World.{World, living_of, with_process, with_copy, with_user, entered_by, moved_to, ended, host_of, caller_of}
use Rattle.kernel_model.specs.Step.{step, step_by, decided, answered, applied, child_in, child_of, moved_in, has_user_left, most_processes}
use Rattle.kernel_model.specs.Step.{most_namespaces, decision_of}
use Rattle.kernel_model.specs.StepCases as case
use Rattle.kernel_model.specs.StepCases.{StepCase, EffectCase, Passes}
use Rattle.kernel_model.specs.Laws.{StepsByCases, CasesAreSteps, RefusedChangesNothing, KilledEndsTheCaller}

less_is : (a b : ℕ) → nat_lt a b ≡ true → a < b
less_is a b e = grind (arith, e)

more_is : (a b : ℕ) → nat_lt a b ≡ false → b ≤ a
more_is a b e = grind (arith, e)

is_less : (a b : ℕ) → a < b → nat_lt a b ≡ true
is_less a b h = grind (arith, h)

is_more : (a b : ℕ) → b ≤ a → nat_lt a b ≡ false
is_more a b h = grind (arith, h)

case_child : (world : World) (pid : ℕ) (process : Process) (own t : Bool) → length world.processes < most_processes
    → nat_lt (length world.namespaces) most_namespaces ≡ t → EffectCase world pid process (f.Child own) (child_of world process own)
case_child world pid process false t room e = case.shares room
case_child world pid process true true room e = rw e (case.gives_copy room (less_is (length world.namespaces) most_namespaces e))
case_child world pid process true false room e = rw e (case.no_namespace_for_child room (more_is (length world.namespaces) most_namespaces e))

case_process : (world : World) (pid : ℕ) (process : Process) (own t : Bool) → nat_lt (length world.processes) most_processes ≡ t
    → EffectCase world pid process (f.Child own) (cond t (child_of world process own) (reply.Refused eagain, world))
case_process world pid process own true e = case_child world pid process own (nat_lt (length world.namespaces) most_namespaces)
    (less_is (length world.processes) most_processes e) refl
case_process world pid process own false e = case.no_process_left own (more_is (length world.processes) most_processes e)

case_table : (world : World) (pid : ℕ) (process : Process) (t : Bool) → nat_lt (length world.namespaces) most_namespaces ≡ t
    → EffectCase world pid process f.OwnTable
    (cond t (reply.Done 0, with_process (with_copy world process.namespace process.user) pid (moved_to process (length world.namespaces)))
    (reply.Refused enospc, world))
case_table world pid process true e = case.moves (less_is (length world.namespaces) most_namespaces e)
case_table world pid process false e = case.no_namespace_left (more_is (length world.namespaces) most_namespaces e)

case_user_child : (world : World) (pid : ℕ) (process : Process) (own t : Bool) → world.users < world.site.user_namespaces
    → length world.processes < most_processes → nat_lt (length world.namespaces) most_namespaces ≡ t
    → EffectCase world pid process (f.UserChild own) (child_in world (with_user world) (entered_by process world.users) own)
case_user_child world pid process false t left room e = case.gives_user left room
case_user_child world pid process true true left room e = rw e
    (case.gives_user_and_copy left room (less_is (length world.namespaces) most_namespaces e))
case_user_child world pid process true false left room e = rw e
    (case.no_namespace_for_user left room (more_is (length world.namespaces) most_namespaces e))

case_user_process : (world : World) (pid : ℕ) (process : Process) (own t : Bool) → world.users < world.site.user_namespaces
    → nat_lt (length world.processes) most_processes ≡ t
    → EffectCase world pid process (f.UserChild own)
    (cond t (child_in world (with_user world) (entered_by process world.users) own) (reply.Refused eagain, world))
case_user_process world pid process own true left e = case_user_child world pid process own
    (nat_lt (length world.namespaces) most_namespaces) left (less_is (length world.processes) most_processes e) refl
case_user_process world pid process own false left e = case.no_process_for_user own left (more_is (length world.processes) most_processes e)

case_user : (world : World) (pid : ℕ) (process : Process) (own t : Bool) → has_user_left world ≡ t
    → EffectCase world pid process (f.UserChild own)
    (cond t (cond {A = Reply × World} (nat_lt (length world.processes) most_processes)
    (child_in world (with_user world) (entered_by process world.users) own) (reply.Refused eagain, world))
    (reply.Refused enospc, world))
case_user world pid process own true e = case_user_process world pid process own (nat_lt (length world.processes) most_processes)
    (less_is world.users world.site.user_namespaces e) refl
case_user world pid process own false e = case.no_user_for_child own (more_is world.users world.site.user_namespaces e)

case_enters : (world : World) (pid : ℕ) (process : Process) (own t : Bool) → world.users < world.site.user_namespaces
    → nat_lt (length world.namespaces) most_namespaces ≡ t
    → EffectCase world pid process (f.OwnUser own) (moved_in world (with_user world) pid (entered_by process world.users) own)
case_enters world pid process false t left e = case.enters left
case_enters world pid process true true left e = rw e (case.enters_and_moves left (less_is (length world.namespaces) most_namespaces e))
case_enters world pid process true false left e =
    rw e (case.no_namespace_behind_user left (more_is (length world.namespaces) most_namespaces e))

case_own : (world : World) (pid : ℕ) (process : Process) (own t : Bool) → has_user_left world ≡ t
    → EffectCase world pid process (f.OwnUser own)
    (cond t (moved_in world (with_user world) pid (entered_by process world.users) own) (reply.Refused enospc, world))
case_own world pid process own true e = case_enters world pid process own (nat_lt (length world.namespaces) most_namespaces)
    (less_is world.users world.site.user_namespaces e) refl
case_own world pid process own false e = case.no_user_left own (more_is world.users world.site.user_namespaces e)

pub effect_case : (world : World) (pid : ℕ) (process : Process) (effect : Effect)
    → EffectCase world pid process effect (applied world pid process effect)
effect_case world pid process (f.Refuse errno) = case.refuses errno
effect_case world pid process (f.Answer value) = case.answers value
effect_case world pid process (f.SetCreds value creds) = case.takes_creds value creds
effect_case world pid process (f.SetTable table) = case.takes_table table
effect_case world pid process (f.Push program) = case.takes_program program
effect_case world pid process (f.Child own) = case_process world pid process own (nat_lt (length world.processes) most_processes) refl
effect_case world pid process f.OwnTable = case_table world pid process (nat_lt (length world.namespaces) most_namespaces) refl
effect_case world pid process (f.UserChild own) = case_user world pid process own (has_user_left world) refl
effect_case world pid process (f.OwnUser own) = case_own world pid process own (has_user_left world) refl
effect_case world pid process f.End = case.ends

case_asked : (world : World) (call : Call) (process : Process) (asked : Asked) → Passes world call process
    → asked_of world.calls call ≡ asked → StepCase world call (answered world call.pid process asked)
case_asked world call process Lacking passes e = case.lacking process passes e
case_asked world call process Misformed passes e = case.misformed process passes e
case_asked world call process (Does operation) passes e = case.does process operation _ passes e
    (effect_case world call.pid process (effect_of (host_of world) (caller_of world process) operation))

case_decided : (world : World) (call : Call) (process : Process) (d : Decision) → living_of world call.pid ≡ Some process
    → decision_of world call process ≡ d → StepCase world call (decided world call process d)
case_decided world call process decision.Pass living e = case_asked world call process (asked_of world.calls call)
    (record { living = living; passes = e }) refl
case_decided world call process (decision.Errno errno) living e = case.filtered process errno living e
case_decided world call process decision.Kill living e = case.killed process living e

case_by : (world : World) (call : Call) (o : Option Process) → living_of world call.pid ≡ o → StepCase world call (step_by world call o)
case_by world call None e = case.absent e
case_by world call (Some process) e = case_decided world call process (decision_of world call process) e refl

pub steps_by_cases : StepsByCases
steps_by_cases world call = case_by world call (living_of world call.pid) refl

-- what a case says is what the step computes
pub effect_is : (world : World) (pid : ℕ) (process : Process) (effect : Effect) (out : Reply × World)
    → EffectCase world pid process effect out → out ≡ applied world pid process effect
effect_is world pid process effect out (case.refuses errno) = refl
effect_is world pid process effect out (case.answers value) = refl
effect_is world pid process effect out (case.takes_creds value creds) = refl
effect_is world pid process effect out (case.takes_table table) = refl
effect_is world pid process effect out (case.takes_program program) = refl
effect_is world pid process effect out (case.no_process_left own full) = rw (is_more (length world.processes) most_processes full) refl
effect_is world pid process effect out (case.shares room) = rw (is_less (length world.processes) most_processes room) refl
effect_is world pid process effect out (case.no_namespace_for_child room full) =
    rw (is_less (length world.processes) most_processes room, is_more (length world.namespaces) most_namespaces full) refl
effect_is world pid process effect out (case.gives_copy room space) =
    rw (is_less (length world.processes) most_processes room, is_less (length world.namespaces) most_namespaces space) refl
effect_is world pid process effect out (case.no_namespace_left full) = rw (is_more (length world.namespaces) most_namespaces full) refl
effect_is world pid process effect out (case.moves space) = rw (is_less (length world.namespaces) most_namespaces space) refl
effect_is world pid process effect out (case.no_user_for_child own full) = rw (is_more world.users world.site.user_namespaces full) refl
effect_is world pid process effect out (case.no_process_for_user own left full) =
    rw (is_less world.users world.site.user_namespaces left, is_more (length world.processes) most_processes full) refl
effect_is world pid process effect out (case.gives_user left room) =
    rw (is_less world.users world.site.user_namespaces left, is_less (length world.processes) most_processes room) refl
effect_is world pid process effect out (case.no_namespace_for_user left room full) = rw (is_less world.users world.site.user_namespaces left, is_less (length world.processes) most_processes room, is_more (length world.namespaces) most_namespaces full) refl
effect_is world pid process effect out (case.gives_user_and_copy left room space) = rw (is_less world.users world.site.user_namespaces left, is_less (length world.processes) most_processes room, is_less (length world.namespaces) most_namespaces space) refl
effect_is world pid process effect out (case.no_user_left own full) = rw (is_more world.users world.site.user_namespaces full) refl
effect_is world pid process effect out (case.enters left) = rw (is_less world.users world.site.user_namespaces left) refl
effect_is world pid process effect out (case.no_namespace_behind_user left full) =
    rw (is_less world.users world.site.user_namespaces left, is_more (length world.namespaces) most_namespaces full) refl
effect_is world pid process effect out (case.enters_and_moves left space) =
    rw (is_less world.users world.site.user_namespaces left, is_less (length world.namespaces) most_namespaces space) refl
effect_is world pid process effect out case.ends = refl

passed_is : (world : World) (call : Call) (process : Process) → Passes world call process
    → step world call ≡ answered world call.pid process (asked_of world.calls call)
passed_is world call process passes = ap (step_by world call) passes.living ∙ ap (decided world call process) passes.passes

pub cases_are_steps : CasesAreSteps
cases_are_steps world call out (case.absent e) = sym (ap (step_by world call) e)
cases_are_steps world call out (case.filtered process errno living e) =
    sym (ap (step_by world call) living ∙ ap (decided world call process) e)
cases_are_steps world call out (case.killed process living e) = sym (ap (step_by world call) living ∙ ap (decided world call process) e)
cases_are_steps world call out (case.lacking process passes e) =
    sym (passed_is world call process passes ∙ ap (answered world call.pid process) e)
cases_are_steps world call out (case.misformed process passes e) =
    sym (passed_is world call process passes ∙ ap (answered world call.pid process) e)
cases_are_steps world call out (case.does process operation made passes e h) =
    effect_is world call.pid process (effect_of (host_of world) (caller_of world process) operation) made h
    ∙ sym (passed_is world call process passes ∙ ap (answered world call.pid process) e)

-- a refusal with the world as it was, a killed caller, or a value
data Shape (world : World) (pid : ℕ) : Reply × World → Type 0 where
  refused : (errno : ℕ) → Shape world pid (reply.Refused errno, world)
  killed : (process : Process) → living_of world pid ≡ Some process → Shape world pid (reply.Killed, with_process world pid (ended process))
  done : (value : ℕ) (after : World) → Shape world pid (reply.Done value, after)

shape_effect : (world : World) (pid : ℕ) (process : Process) (effect : Effect) (out : Reply × World)
    → EffectCase world pid process effect out → Shape world pid out
shape_effect world pid process effect out (case.refuses errno) = refused errno
shape_effect world pid process effect out (case.answers value) = done _ _
shape_effect world pid process effect out (case.takes_creds value creds) = done _ _
shape_effect world pid process effect out (case.takes_table table) = done _ _
shape_effect world pid process effect out (case.takes_program program) = done _ _
shape_effect world pid process effect out (case.no_process_left own full) = refused eagain
shape_effect world pid process effect out (case.shares room) = done _ _
shape_effect world pid process effect out (case.no_namespace_for_child room full) = refused enospc
shape_effect world pid process effect out (case.gives_copy room space) = done _ _
shape_effect world pid process effect out (case.no_namespace_left full) = refused enospc
shape_effect world pid process effect out (case.moves space) = done _ _
shape_effect world pid process effect out (case.no_user_for_child own full) = refused enospc
shape_effect world pid process effect out (case.no_process_for_user own left full) = refused eagain
shape_effect world pid process effect out (case.gives_user left room) = done _ _
shape_effect world pid process effect out (case.no_namespace_for_user left room full) = refused enospc
shape_effect world pid process effect out (case.gives_user_and_copy left room space) = done _ _
shape_effect world pid process effect out (case.no_user_left own full) = refused enospc
shape_effect world pid process effect out (case.enters left) = done _ _
shape_effect world pid process effect out (case.no_namespace_behind_user left full) = refused enospc
shape_effect world pid process effect out (case.enters_and_moves left space) = done _ _
shape_effect world pid process effect out case.ends = done _ _

shape : (world : World) (call : Call) (out : Reply × World) → StepCase world call out → Shape world call.pid out
shape world call out (case.absent e) = refused _
shape world call out (case.filtered process errno living e) = refused errno
shape world call out (case.killed process living e) = killed process living
shape world call out (case.lacking process passes e) = refused _
shape world call out (case.misformed process passes e) = refused _
shape world call out (case.does process operation made passes e h) =
    shape_effect world call.pid process (effect_of (host_of world) (caller_of world process) operation) made h

same_by : (world : World) (pid : ℕ) (out : Reply × World) → Shape world pid out → (errno : ℕ) → out.0 ≡ reply.Refused errno → out.1 ≡ world
same_by world pid out (refused own) errno e = refl
same_by world pid out (killed process l) errno e = cc
same_by world pid out (done value after) errno e = cc

pub refused_changes_nothing : RefusedChangesNothing
refused_changes_nothing world call errno e = same_by world call.pid (step world call)
    (shape world call (step world call) (steps_by_cases world call)) errno e

ended_by : (world : World) (pid : ℕ) (out : Reply × World) → Shape world pid out → out.0 ≡ reply.Killed
    → (process : Process) × (living_of world pid ≡ Some process) × (out.1 ≡ with_process world pid (ended process))
ended_by world pid out (refused own) e = cc
ended_by world pid out (killed process l) e = (process, l, refl)
ended_by world pid out (done value after) e = cc

pub killed_ends_the_caller : KilledEndsTheCaller
killed_ends_the_caller world call e = ended_by world call.pid (step world call)
    (shape world call (step world call) (steps_by_cases world call)) e
