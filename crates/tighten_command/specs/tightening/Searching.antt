-- A search for a set that serves, with no more.
use Rattle.std.specs.Prelude.{◌≡◌, ◌⊎◌, ◌+◌, ◌<◌, ◌≤◌, ℕ, true, false, not, List, ◌∷◌, Option, Some, None, Contains, filter, length}
use Rattle.std.specs.List.{All, range_with_len}
use Rattle.asked_service.specs.Asked.{IsBounded}
use Rattle.asked_service.specs.declared.bounding.Bounded.{Bounded}
use Rattle.asked_service.specs.kernel_laws.Questions.{questions}
use Rattle.asked_service.specs.kernel_model.World.{World}
use Rattle.asked_service.specs.launching.Launched.{IsLaunchedUnit}
use Rattle.tighten_command.specs.tightening.Items.{has, tightened}
use Rattle.tighten_command.specs.tightening.Tried.{Displeases, IsFirst, IsKept, IsShut, Pleases, Refuses, Stops, Tried, tried_with}
use Rattle.tighten_command.specs.tightening.Wishes.{Wishes}
use Rattle.tighten_command.specs.declared.tightening.searching.Held.{Held}
use Rattle.tighten_command.specs.declared.tightening.trial.Lack.{Lack}
use Rattle.tighten_command.specs.declared.tightening.trial.Lack.TheVariants.{Keep, Wish}
use Rattle.tighten_command.specs.declared.tightening.trial.Trial.{Trial}

-- what a trial tries
abbrev pub tried_of : Trial → Wishes → Tried
tried_of trial wishes = tried_with trial.unit.now trial.calls.now trial.site.now trial.keep.now wishes

-- it has all questions of its tables, and what is to be kept are some of them
pub record CanBeTried (trial : Trial) : Type 0 where
  pub all : trial.questions.now ≡ questions trial.calls.now trial.site.now
  pub listed : All (λ question. Contains (questions trial.calls.now trial.site.now) question) trial.keep.now

-- a service of these tables, with what bounds it
pub record IsOver (tried : Tried) (bounded : Bounded) : Type 0 where
  pub is_bounded : IsBounded bounded
  pub calls : bounded.service.world.calls ≡ tried.table
  pub site : bounded.service.world.site ≡ tried.site

-- what is lacking first, if anything is
abbrev pub Lacks : Tried → World → Option Lack → Type 0
Lacks tried world None = Pleases tried world
Lacks tried world (Some (Keep number)) = IsFirst (IsKept world) (IsShut world) tried.keep number
Lacks tried world (Some (Wish number)) = Refuses tried world number

-- the service pleases, or it is left away because it does not
abbrev pub Pleasing : Tried → Bounded → Option Bounded → Type 0
Pleasing tried bounded (Some own) = (own ≡ bounded) × Pleases tried bounded.service.world
Pleasing tried bounded None = Displeases tried bounded.service.world

-- the service of the unit with a set, with which all are pleased
pub record IsServing (tried : Tried) (set : List ℕ) (bounded : Bounded) : Type 0 where
  pub launched : IsLaunchedUnit (tightened tried.unit set) tried.table tried.site bounded.service
  pub is_bounded : IsBounded bounded
  pub pleases : Pleases tried bounded.service.world

-- a set that was tried has such a service, or stops
abbrev pub Tells : Tried → List ℕ → Option Bounded → Type 0
Tells tried set (Some bounded) = IsServing tried set bounded
Tells tried set None = Stops tried set

abbrev pub IsHeld : Tried → Held → Type 0
IsHeld tried held = IsServing tried held.set.items held.bounded

-- the item is in the set, or the set stops with it
abbrev pub IsSettled : Tried → List ℕ → ℕ → Type 0
IsSettled tried set item = (has set item ≡ true) ⊎ Stops tried (item ∷ set)

-- an item was tried: the set stayed, and the item is settled; or the item is new in it
pub record TriesItem (tried : Tried) (set : List ℕ) (item : ℕ) (held : Held) : Type 0 where
  pub holds : IsHeld tried held
  pub came : ((held.set.items ≡ set) × IsSettled tried set item) ⊎ ((held.set.items ≡ item ∷ set) × (has set item ≡ false))

-- the set with the item is found, or the set stays
abbrev pub FindsItem : Tried → Held → ℕ → Option Held → Type 0
FindsItem tried held item (Some next) = TriesItem tried held.set.items item next
FindsItem tried held item None = TriesItem tried held.set.items item held

-- how many items are outside a set
abbrev pub outside : List ℕ → ℕ
outside set = length (filter (λ item. not (has set item)) (range_with_len 1 17))

-- so many items were tried, from the last down: the set stayed, and they are settled; or some are new in it
pub record TriesItems (tried : Tried) (set : List ℕ) (count : ℕ) (held : Held) : Type 0 where
  pub holds : IsHeld tried held
  pub came : ((held.set.items ≡ set) × ((item : ℕ) → 17 < item + count → item ≤ 17 → IsSettled tried set item))
      ⊎ ((length set < length held.set.items) × (outside held.set.items < outside set))

-- all items are settled
pub record IsMost (tried : Tried) (held : Held) : Type 0 where
  pub holds : IsHeld tried held
  pub settled : (item : ℕ) → 1 ≤ item → item ≤ 17 → IsSettled tried held.set.items item
