-- The verdicts on a launched service and the bounds of its ceiling are exact.
use Rattle.std.specs.Prelude.{◌≡◌, ℕ, ◌<◌, ◌≤◌, true, false, List, length, slice_get, Some}
use Rattle.std.specs.List.{AllByRecursion}
use Rattle.launcher.specs.cap_sets.Sets.{has}
use Rattle.launcher.specs.linux_numbers.Capabilities.{cap_sys_admin}
use Rattle.launcher.specs.call_table.Table as calls
use Rattle.launcher.specs.site_table.declared.row.Row.{Row}
use Rattle.launcher.specs.site_table.Ids.{greatest_id}
use Rattle.launcher.specs.site_table.Kinds.{is_dir, is_exe}
use Rattle.launcher.specs.site_table.Table.{Site, IsSite}
use Rattle.launcher.specs.kernel_model.declared.kernel_calls.call.Call.{Call}
use Rattle.launcher.specs.kernel_model.Step.{most_namespaces}
use Rattle.launcher.specs.kernel_model.World.{World}
use Rattle.launcher.specs.kernel_laws.Bound.{is_open, any_uid, any_gid, ceiling, power_by, power_of}
use Rattle.launcher.specs.kernel_laws.Denied.{IsDenied, Shows}
use Rattle.launcher.specs.kernel_laws.declared.question_types.kind.CallKind.TheVariants.{ChangesMounts, RemovesMounts}
use Rattle.launcher.specs.kernel_laws.declared.question_types.question.Question.{Question}
use Rattle.launcher.specs.kernel_laws.declared.question_types.question.Question.TheVariants.{Path as ByPath, Cap, Uid, Gid}
use Rattle.launcher.specs.kernel_laws.declared.question_types.wish.Wish.TheVariants.{Write as ToWrite, Exec as ToExec}
use Rattle.launcher.specs.kernel_laws.Launched.{lets, launch_of, IsLaunchedWorld}
use Rattle.launcher.specs.kernel_laws.Questions.{IsAsked, questions}
use Rattle.kernel_ways.specs.Offers.{Offers}

-- the question can be answered: no directory is asked to be written and no other row than an executable to be executed; and the id -1,
-- which setresuid(2) takes for none, is no id
abbrev pub IsFit : Site → Question → Type 0
IsFit site (ByPath ToWrite place) = (row : Row) → slice_get site.rows place ≡ Some row → is_dir row.kind ≡ false
IsFit site (ByPath ToExec place) = (row : Row) → slice_get site.rows place ≡ Some row → is_exe row.kind ≡ true
IsFit site (Uid id) = id ≤ greatest_id
IsFit site (Gid id) = id ≤ greatest_id
IsFit site _ = Unit {0}

-- each question of the list can be answered, for every site that is read
abbrev pub ListedAreFit : Type 0
ListedAreFit = (calls : calls.Table) (site : Site) → IsSite site → AllByRecursion (IsFit site) (questions calls site)

-- the launched world, with what else a launch leaves, and with room for one more mount namespace
pub record IsServedWorld (world : World) : Type 0 where
  pub launched : IsLaunchedWorld world
  pub few : length world.namespaces < most_namespaces
  pub offers : Offers (launch_of world)

-- some list shows the question
abbrev pub IsShown : World → Question → Type 0
IsShown world question = (list : List Call) × Shows world question list

abbrev pub OpenIsShown : Type 0
OpenIsShown = (world : World) (question : Question) → IsServedWorld world → IsFit world.site question
    → is_open (launch_of world) question ≡ true → IsShown world question

-- open exactly if some list shows the question, and denied exactly if no list reaches it
pub record IsExact (world : World) (question : Question) : Type 0 where
  pub opens : is_open (launch_of world) question ≡ true → IsShown world question
  pub shows : IsShown world question → is_open (launch_of world) question ≡ true
  pub denies : is_open (launch_of world) question ≡ false → IsDenied world question
  pub stays_denied : IsDenied world question → is_open (launch_of world) question ≡ false

abbrev pub VerdictIsExact : Type 0
VerdictIsExact = (world : World) (question : Question) → IsServedWorld world → IsAsked world.calls question → IsFit world.site question
    → IsExact world question

-- the verdict on each question of the list is exact
abbrev pub QuestionsAreExact : Type 0
QuestionsAreExact = (world : World) → IsServedWorld world → AllByRecursion (IsExact world) (questions world.calls world.site)

-- the capabilities of the ceiling are exactly those that can become effective, capabilities(7). Its power depends on whether it
-- has CAP_SYS_ADMIN and whether mount(2) and umount2(2) pass the filters. If it says that every uid or every gid can be gained,
-- some list of calls gains each of them
pub record BoundsAreExact (world : World) : Type 0 where
  pub held : (number : ℕ) → has (ceiling (launch_of world)).effective number ≡ true → IsShown world (Cap number)
  pub withheld : (number : ℕ) → has (ceiling (launch_of world)).effective number ≡ false → IsDenied world (Cap number)
  pub power : power_of (launch_of world) ≡ power_by (has (ceiling (launch_of world)).effective cap_sys_admin)
      (lets (launch_of world) ChangesMounts) (lets (launch_of world) RemovesMounts)
  pub any_uid : any_uid (launch_of world) (ceiling (launch_of world)).effective ≡ true → (id : ℕ) → id ≤ greatest_id
      → IsShown world (Uid id)
  pub any_gid : any_gid (launch_of world) (ceiling (launch_of world)).effective ≡ true → (id : ℕ) → id ≤ greatest_id
      → IsShown world (Gid id)

abbrev pub CeilingIsExact : Type 0
CeilingIsExact = (world : World) → IsServedWorld world → BoundsAreExact world
