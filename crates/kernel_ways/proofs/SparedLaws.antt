-- Ids beyond the bounds are reached by no list that spares the capability that takes any.
use Rattle.std.proofs.Common.{◌≡◌, ℕ, Bool, true, false, List}
use Rattle.std.specs.Prelude.{◌&&◌, ◌||◌}
use Rattle.launcher.specs.cap_sets.Sets.{has}
use Rattle.launcher.specs.kernel_model.declared.kernel_calls.call.Call.{Call}
use Rattle.launcher.specs.kernel_model.kernel_calls.Calls.{AreCalls}
use Rattle.launcher.specs.kernel_laws.Bound.{caps_by, any_by, power_using, bounds_by}
use Rattle.launcher.specs.kernel_laws.Ceiling.{AreHeld, IsStable}
use Rattle.launcher.specs.kernel_laws.declared.question_types.power.Power.{Power}
use Rattle.launcher.specs.kernel_laws.declared.question_types.kind.CallKind.TheVariants.{TakesUid, TakesGid}
use Rattle.launcher.specs.kern_mounts.Mounts.{Mounts}
use Rattle.launcher.specs.kernel_laws.Launched.{Launch, lets, launch_of, IsLaunchedWorld}
use Rattle.launcher.specs.kernel_laws.Spared.{AllSpare}
use Rattle.launcher.specs.kernel_model.Runs.{run}
use Rattle.launcher.specs.kernel_model.World.{World}
use Rattle.launcher.proofs.OfKernelLaws.Bound.{is_closed}
use Rattle.launcher.proofs.OfKernelLaws.Filters.{lets_through}
use Rattle.launcher.proofs.OfKernelLaws.Held.{start_held, uid_within, gid_within}
use Rattle.launcher.proofs.OfKernelLaws.Runs.{spared_run}
use Rattle.kernel_ways.specs.Spared.{uids_of, gids_of, SparedIdsAreBounded}

-- what tables newer user namespaces have does not matter
abbrev Any : Mounts → Type 0
Any mounts = Unit {0}

any_stable : (launch : Launch) (power : Power) → IsStable launch power Any
any_stable launch power = record { begins = λ table h. tt; copies = λ table h. tt; mounts = λ table now source target flags h e. tt; unmounts = λ table now path flags h e. tt }

all_held : (world : World) → IsLaunchedWorld world → (uids gids : Bool) (list : List Call) → AreCalls list → AllSpare uids gids world list
    → AreHeld (launch_of world) (power_using (launch_of world) uids)
    (bounds_by (launch_of world) uids gids (power_using (launch_of world) uids)) Any (run world list)
all_held world s uids gids list fit spare =
    let launch = launch_of world in
    let power = power_using launch uids in
    spared_run launch power (bounds_by launch uids gids power) Any (lets_through launch s.launched) (any_stable launch power) uids gids
    (is_closed launch uids gids s.launched) list world fit spare (start_held world s uids gids power Any)

never : (number effective : ℕ) (rest : Bool) → (any_by false number effective || rest) ≡ true → rest ≡ true
never number effective rest h = by (has effective number) h
  where
    by : (b : Bool) → ((b && false) || rest) ≡ true → rest ≡ true
    by true h = h
    by false h = h

pub ids_are_bounded : SparedIdsAreBounded
ids_are_bounded world s =
    let launch = launch_of world in
    let uids = lets launch TakesUid in
    let gids = lets launch TakesGid in
    let spared = power_using launch false in
    let power = power_using launch uids in
    record {
      uids = λ id off list fit spare x.
          let on = never 7 (caps_by launch false spared) (uids_of launch id) (uid_within launch spared (bounds_by launch false gids spared) Any (run world list) (all_held world s.launched false gids list fit spare) id x) in cc;
      gids = λ id off list fit spare x.
          let on = never 6 (caps_by launch uids power) (gids_of launch id) (gid_within launch power (bounds_by launch uids false power) Any (run world list) (all_held world s.launched uids false list fit spare) id x) in cc;
    }
