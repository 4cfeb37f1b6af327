-- The limits of a ceiling, and that a service can reach each of them.
use Rattle.std.specs.Prelude.{◌≡◌, ℕ, ◌≤◌, true, false, Contains}
use Rattle.kernel_ways.specs.cap_sets.Sets.{has}
use Rattle.kernel_ways.specs.kernel_laws.Denied.{IsDenied}
use Rattle.kernel_ways.specs.kernel_laws.declared.question_types.kind.CallKind.TheVariants.{TakesUid, TakesGid}
use Rattle.kernel_ways.specs.kernel_laws.declared.question_types.question.Question.TheVariants.{Cap, Uid, Gid}
use Rattle.kernel_ways.specs.kernel_laws.Launched.{launch_of, lets}
use Rattle.kernel_ways.specs.kernel_model.World.{World}
use Rattle.kernel_ways.specs.Laws.{IsShown}
use Rattle.kernel_ways.specs.site_table.Ids.{greatest_id}
use Rattle.ceilings.specs.declared.bounds.Ceiling.{Ceiling}
use Rattle.ceilings.specs.Sparing.{AreHadSparing}

-- in no world of any run does a living process have another capability effective, another effective uid or another gid
pub record DeniesMore (world : World) (top : Ceiling) : Type 0 where
  pub capabilities : (number : ℕ) → has top.effective number ≡ false → IsDenied world (Cap number)
  pub uids : (id : ℕ) → top.any_uid ≡ false → ¬ Contains top.uids id → IsDenied world (Uid id)
  pub gids : (id : ℕ) → top.any_gid ≡ false → ¬ Contains top.gids id → IsDenied world (Gid id)

-- some list of successful calls gains each of the capabilities, and each id if the service can take every id. The listed uids
-- are those that the service can get without using CAP_SETUID; it may use CAP_SETGID if a call passes that takes a gid. The
-- same holds for the listed gids, with the capabilities exchanged.
pub record IsAllHad (world : World) (top : Ceiling) : Type 0 where
  pub capabilities : (number : ℕ) → has top.effective number ≡ true → IsShown world (Cap number)
  pub any_uid : (id : ℕ) → top.any_uid ≡ true → id ≤ greatest_id → IsShown world (Uid id)
  pub any_gid : (id : ℕ) → top.any_gid ≡ true → id ≤ greatest_id → IsShown world (Gid id)
  pub listed_uids : AreHadSparing false (lets (launch_of world) TakesGid) world Uid top.uids
  pub listed_gids : AreHadSparing (lets (launch_of world) TakesUid) false world Gid top.gids
