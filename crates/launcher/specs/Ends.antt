-- The ends of a launch's steps, as its parts give them.
use Rattle.std.specs.Prelude.{◌≡◌, ⊤, ℕ, ◌+◌, ◌≤◌, List, [], ◌∷◌, ◌++◌, length, Option, Some, None, Result, Ok, Err}
use Rattle.kernel_laws.specs.kern_mounts.declared.step.MountStep.{MountStep}
use Rattle.kernel_laws.specs.kernel_model.declared.process.Process.{Process}
use Rattle.kernel_laws.specs.kernel_model.declared.reply.Reply.{Reply}
use Rattle.kernel_laws.specs.kernel_model.declared.reply.Reply.TheVariants.{Refused, Killed}
use Rattle.kernel_laws.specs.kernel_model.MountStep.{after_mount_step}
use Rattle.kernel_laws.specs.kernel_model.Runs.{IsDone}
use Rattle.kernel_laws.specs.kernel_model.World.{World, living_of, mounts_of, start_world}
use Rattle.kernel_laws.specs.linux_numbers.Limits.{mount_max}
use Rattle.launcher.specs.declared.error.LaunchError.{LaunchError}
use Rattle.launcher.specs.declared.error.LaunchError.TheVariants as error
use Rattle.launcher.specs.Launch.{LaunchStep, LaunchOutcome, Launched, StepRefused, StepKilled, launch_step, launch_from}

-- the answer says how the launch ends, and the world is the launched one
abbrev pub Ends : LaunchOutcome → Result ℕ LaunchError → World → Type 0
Ends outcome (Ok count) after = outcome ≡ Launched after count
Ends outcome (Err (error.Refused step errno)) after = outcome ≡ StepRefused step errno
Ends outcome (Err (error.Killed step)) after = outcome ≡ StepKilled step
Ends outcome (Err (error.PrivilegedProgram path)) after = ⊥
Ends outcome (Err error.Memory) after = ⊤

-- the answer to a step of this number
abbrev pub StepsTo : World → LaunchStep → ℕ → Result (Unit {0}) LaunchError → World → Type 0
StepsTo world step number (Ok done) after = IsDone (launch_step world step).0 × (after ≡ (launch_step world step).1)
StepsTo world step number (Err (error.Refused at errno)) after = (at ≡ number) × ((launch_step world step).0 ≡ Refused errno)
StepsTo world step number (Err (error.Killed at)) after = (at ≡ number) × ((launch_step world step).0 ≡ Killed)
StepsTo world step number (Err (error.PrivilegedProgram path)) after = ⊥
StepsTo world step number (Err error.Memory) after = ⊤

-- the answer to a reply at this step
abbrev pub RepliesTo : Reply → ℕ → Result (Unit {0}) LaunchError → Type 0
RepliesTo reply number (Ok done) = IsDone reply
RepliesTo reply number (Err (error.Refused at errno)) = (at ≡ number) × (reply ≡ Refused errno)
RepliesTo reply number (Err (error.Killed at)) = (at ≡ number) × (reply ≡ Killed)
RepliesTo reply number (Err (error.PrivilegedProgram path)) = ⊥
RepliesTo reply number (Err error.Memory) = ⊥

-- whatever steps follow these, the launch continues in this world, or it has ended before
abbrev pub Begins : World → List LaunchStep → Result ℕ LaunchError → World → Type 0
Begins world first (Ok count) after = (rest : List LaunchStep) → launch_from world (first ++ rest) 0 ≡ launch_from after rest count
Begins world first (Err (error.Refused step errno)) after = (rest : List LaunchStep)
    → launch_from world (first ++ rest) 0 ≡ StepRefused step errno
Begins world first (Err (error.Killed step)) after = (rest : List LaunchStep) → launch_from world (first ++ rest) 0 ≡ StepKilled step
Begins world first (Err (error.PrivilegedProgram path)) after = ⊥
Begins world first (Err error.Memory) after = ⊤

-- a world as its kernel starts it
abbrev pub IsStart : World → Type 0
IsStart world = world ≡ start_world world.calls world.site

-- the world with these entries in the table of process 1, in their order
abbrev pub with_mounts : World → List MountStep → World
with_mounts world [] = world
with_mounts world (entry ∷ entries) = with_mounts (after_mount_step world 1 entry) entries

abbrev pub HasRoomBy : World → ℕ → Option Process → Type 0
HasRoomBy world count None = ⊥
HasRoomBy world count (Some process) = length (mounts_of world process.namespace) + count ≤ mount_max

-- process 1 lives, and its table has room for so many entries
abbrev pub HasRoomFor : ℕ → World → Type 0
HasRoomFor count world = HasRoomBy world count (living_of world 1)
