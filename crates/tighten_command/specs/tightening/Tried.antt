-- What sets of items are tried on, and which of them serve.
use Rattle.std.specs.Prelude.{◌≡◌, ◌≢◌, ◌+◌, ℕ, true, false, List, Some, Contains, slice_get, take}
use Rattle.std.specs.List.{All}
use Rattle.asked_service.specs.call_table.Table as calls
use Rattle.asked_service.specs.dropin_merge.declared.resolved.Resolved.{Resolved}
use Rattle.asked_service.specs.kernel_laws.Denied.{IsDenied}
use Rattle.asked_service.specs.kernel_model.World.{World}
use Rattle.asked_service.specs.launching.Launched.{IsLaunchedUnit, IsNotLaunched}
use Rattle.asked_service.specs.declared.launching.refusal.Refusal.{Refusal}
use Rattle.asked_service.specs.declared.launching.refusal.Refusal.TheVariants as refusal
use Rattle.asked_service.specs.launcher.declared.launched.Launched.{Launched as Service}
use Rattle.asked_service.specs.kernel_laws.declared.question_types.question.Question.{Question}
use Rattle.asked_service.specs.site_table.Table.{Site}
use Rattle.asked_service.specs.Rows.{AreRows}
use Rattle.asked_service.specs.declared.rows.VerdictRow.{VerdictRow}
use Rattle.tighten_command.specs.tightening.Items.{tightened}
use Rattle.tighten_command.specs.tightening.Open.{AreOpenIn}
use Rattle.tighten_command.specs.tightening.Wishes.{Wishes}

-- a unit over a table of calls and a site, what is to be kept, and the wishes
pub record Tried : Type 1 where
  pub unit : Resolved
  pub table : calls.Table
  pub site : Site
  pub keep : List Question
  pub wishes : Wishes

abbrev pub tried_with : Resolved → calls.Table → Site → List Question → Wishes → Tried
tried_with unit table site keep wishes = record { unit = unit; table = table; site = site; keep = keep; wishes = wishes }

-- no list of calls reaches the question
abbrev pub IsShut : World → Question → Type 0
IsShut world question = IsDenied world question

abbrev pub IsKept : World → Question → Type 0
IsKept world question = IsShut world question → ⊥

-- the wish answered true, and so its own questions are open
abbrev pub IsGranted : (wishes : Wishes) → List VerdictRow → wishes.Wish → Type 0
IsGranted wishes rows wish = wishes.Answers rows wish true × AreOpenIn rows (wishes.must_open wish)

-- what is to be kept is not denied, and on the verdicts on all questions each wish answered true
pub record Pleases (tried : Tried) (world : World) : Type 0 where
  pub kept : All (IsKept world) tried.keep
  pub rows : List VerdictRow
  pub are_rows : AreRows world rows
  pub granted : All (IsGranted tried.wishes rows) tried.wishes.wishes

-- something that is to be kept is denied, or on the verdicts on all questions some wish answered false
pub data Displeases (tried : Tried) (world : World) : Type 0 where
  denies : (question : Question) → Contains tried.keep question → IsShut world question → Displeases tried world
  refuses : (rows : List VerdictRow) → AreRows world rows → (wish : tried.wishes.Wish) → Contains tried.wishes.wishes wish
      → tried.wishes.Answers rows wish false → Displeases tried world

-- the unit with the lines of the set added last is launched to a service with which all are pleased
pub record Serves (tried : Tried) (set : List ℕ) : Type 0 where
  pub service : Service
  pub launched : IsLaunchedUnit (tightened tried.unit set) tried.table tried.site service
  pub pleases : Pleases tried service.world

-- it has no settings, no plan or no launch; or it is launched to a service with which someone is not
pub data Stops (tried : Tried) (set : List ℕ) : Type 0 where
  not_launched : (error : Refusal) → error ≢ refusal.Memory → IsNotLaunched (tightened tried.unit set) tried.table tried.site error
      → Stops tried set
  displeases : (service : Service) → IsLaunchedUnit (tightened tried.unit set) tried.table tried.site service
      → Displeases tried service.world → Stops tried set

-- the first of a list, counted from 1, of which this holds; of those before it the other does
pub record IsFirst {X : Type 0} (Good Bad : X → Type 0) (list : List X) (number : ℕ) : Type 0 where
  pub place : ℕ
  pub counted : number ≡ place + 1
  pub one : X
  pub stands : slice_get list place ≡ Some one
  pub is_bad : Bad one
  pub before : All Good (take place list)

-- it keeps all that is to be kept, and on its verdicts this wish is the first that answered false
pub record Refuses (tried : Tried) (world : World) (number : ℕ) : Type 0 where
  pub kept : All (IsKept world) tried.keep
  pub rows : List VerdictRow
  pub are_rows : AreRows world rows
  pub first : IsFirst (IsGranted tried.wishes rows) (λ wish. tried.wishes.Answers rows wish false) tried.wishes.wishes number
