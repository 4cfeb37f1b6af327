-- The uids and gids that a service can get without using CAP_SETUID and CAP_SETGID, credentials(7).
use Rattle.std.specs.Prelude.{◌≡◌, ℕ, ◌==◌, Bool, true, false, List, not, ◌&&◌, ◌||◌}
use Rattle.std.specs.List.{list_any}
use Rattle.launcher.specs.kernel_model.declared.kernel_calls.call.Call.{Call}
use Rattle.launcher.specs.kernel_model.kernel_calls.Calls.{AreCalls}
use Rattle.launcher.specs.kernel_model.Runs.{run}
use Rattle.launcher.specs.kernel_model.World.{World}
pub use Rattle.launcher.specs.kernel_laws.Bound.{caps_by, power_using}
use Rattle.launcher.specs.kernel_laws.Bound.{owned_by, grouped_by}
use Rattle.launcher.specs.kernel_laws.Denied.{Holds, Shows}
use Rattle.launcher.specs.kernel_laws.declared.question_types.kind.CallKind.TheVariants.{TakesUid, TakesGid}
use Rattle.launcher.specs.kernel_laws.declared.question_types.question.Question.TheVariants.{Uid, Gid}
use Rattle.launcher.specs.kernel_laws.Launched.{Launch, lets, launch_of}
use Rattle.launcher.specs.kernel_laws.Spared.{AllSpare}
use Rattle.kernel_ways.specs.Laws.{IsServedWorld}

-- the uid of the launch, and the owner of each set-user-id program that can be run without the use of CAP_SETUID
abbrev pub uids_of : Launch → ℕ → Bool
uids_of launch id = id == launch.creds.uids.effective ||
    (not launch.creds.no_new_privs && list_any (owned_by launch (power_using launch false) id) launch.site.rows)

-- the gid and the groups of the launch, and the group of each set-group-id program that can be run without the use of CAP_SETGID
abbrev pub gids_of : Launch → ℕ → Bool
gids_of launch id =
    (id == launch.creds.gids.effective || list_any (λ group. id == group) launch.creds.groups)
    || (not launch.creds.no_new_privs && list_any (grouped_by launch (power_using launch (lets launch TakesUid)) id) launch.site.rows)

-- no list of calls that spares the capability gives any other id; the calls may use the other capability
pub record IdsAreBounded (world : World) : Type 0 where
  pub uids : (id : ℕ) → uids_of (launch_of world) id ≡ false → (list : List Call) → AreCalls list
      → AllSpare false (lets (launch_of world) TakesGid) world list → ¬ Holds (Uid id) (run world list)
  pub gids : (id : ℕ) → gids_of (launch_of world) id ≡ false → (list : List Call) → AreCalls list
      → AllSpare (lets (launch_of world) TakesUid) false world list → ¬ Holds (Gid id) (run world list)

abbrev pub SparedIdsAreBounded : Type 0
SparedIdsAreBounded = (world : World) → IsServedWorld world → IdsAreBounded world

-- and each of these ids is shown by such a list
pub record IdsAreReached (world : World) : Type 0 where
  pub uids : (id : ℕ) → uids_of (launch_of world) id ≡ true → (list : List Call) × Shows world (Uid id) list × AllSpare false
      (lets (launch_of world) TakesGid) world list
  pub gids : (id : ℕ) → gids_of (launch_of world) id ≡ true → (list : List Call) × Shows world (Gid id) list × AllSpare
      (lets (launch_of world) TakesUid) false world list

abbrev pub SparedIdsAreReached : Type 0
SparedIdsAreReached = (world : World) → IsServedWorld world → IdsAreReached world
