-- Runs that use CAP_SETUID, and CAP_SETGID, only where they may: of the two words the first says whether CAP_SETUID may be used, and
-- the second whether CAP_SETGID may.
use Rattle.std.specs.Prelude.{◌≡◌, Bool, true, false, List, Some}
use Rattle.std.specs.List.{AllByRecursion}
use Rattle.kernel_model.specs.cap_sets.Sets.{has}
use Rattle.filter_settings.specs.linux_numbers.Capabilities.{cap_setuid, cap_setgid}
use Rattle.kernel_model.specs.kern_creds.declared.creds.Creds.{Creds}
use Rattle.kernel_model.specs.declared.kernel_calls.call.Call.{Call}
use Rattle.kernel_model.specs.kernel_calls.Operation.{Operation, Does, asked_of}
use Rattle.kernel_model.specs.Runs.{moments}
use Rattle.kernel_model.specs.World.{World, living_of, is_newer}
use Rattle.kernel_model.specs.declared.process.Process.{Process}
use Rattle.kernel_laws.specs.declared.question_types.kind.CallKind.TheVariants.{TakesUid, TakesGid}
use Rattle.kernel_laws.specs.Kinds.{asks}

-- a call that takes a uid is made with CAP_SETUID only where this may be used, and one that takes a gid with CAP_SETGID only where
-- that may
abbrev pub Uses : Bool → Bool → Creds → Operation → Type 0
Uses uids gids creds operation =
    (asks TakesUid operation ≡ true → has creds.effective cap_setuid ≡ true → uids ≡ true)
    × (asks TakesGid operation ≡ true → has creds.effective cap_setgid ≡ true → gids ≡ true)

-- whichever living process of the first user namespace makes the call; in a newer one no call takes an id
abbrev pub Spares : Bool → Bool → World → Call → Type 0
Spares uids gids world call = (process : Process) (operation : Operation) → living_of world call.pid ≡ Some process → is_newer process ≡ false
    → asked_of world.calls call ≡ Does operation → Uses uids gids process.creds operation

-- each call of the run is such
abbrev pub AllSpare : Bool → Bool → World → List Call → Type 0
AllSpare uids gids world calls = AllByRecursion (λ moment. Spares uids gids moment.before moment.call) (moments world calls)
