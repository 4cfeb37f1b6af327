-- Things are left out, one after the other.
use Rattle.std.specs.Prelude.{◌≡◌, ◌⊎◌, ◌≤◌, List, ◌∷◌, ◌++◌, length}
use Rattle.why_command.specs.deciding_lines.Least.{AreNeeded, IsPartOf}
use Rattle.why_command.specs.declared.deciding_lines.leaving_out.Serving.{Serving}

-- a thing before the kept ones is left out, or stays because the others do not serve without it
abbrev pub LeavesOut : {T F : Type 0} → (List T → F → Type 0) → (List T → Type 0) → List T → T → List T → Serving T F → Type 0
LeavesOut Serves Fails before thing kept next = Serves (before ++ next.things.items) next.found
    × ((next.things.items ≡ kept) ⊎ ((next.things.items ≡ thing ∷ kept) × Fails (before ++ kept)))

-- so far: those left are still to be tried
pub record IsHeld {T F : Type 0} (Serves : List T → F → Type 0) (Fails : List T → Type 0) (things left : List T) (kept : Serving T F) : Type 0 where
  pub serves : Serves (left ++ kept.things.items) kept.found
  pub part : IsPartOf (left ++ kept.things.items) things
  pub needed : length (left ++ kept.things.items) ≡ length things → AreNeeded (λ others. Fails (left ++ others)) kept.things.items

-- all were tried: if none was left out, each is needed
pub record IsRound {T F : Type 0} (Serves : List T → F → Type 0) (Fails : List T → Type 0) (things : List T) (kept : Serving T F) : Type 0 where
  pub serves : Serves kept.things.items kept.found
  pub part : IsPartOf kept.things.items things
  pub no_more : length kept.things.items ≤ length things
  pub needed : length kept.things.items ≡ length things → AreNeeded Fails kept.things.items
