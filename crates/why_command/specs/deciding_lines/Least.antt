-- Things that serve together, of which none can be left out.
use Rattle.std.specs.Prelude.{◌≡◌, ◌⊎◌, List, [], ◌∷◌, ◌++◌, Option, Some, None}

-- without any one of them the others do not serve
abbrev pub AreNeeded : {T : Type 0} → (List T → Type 0) → List T → Type 0
AreNeeded {T} Fails things = (before behind : List T) (thing : T) → things ≡ before ++ (thing ∷ behind) → Fails (before ++ behind)

-- some of the things, in their order
abbrev pub IsPartOf : {T : Type 0} → List T → List T → Type 0
IsPartOf {T} part [] = part ≡ []
IsPartOf {T} part (thing ∷ things) = IsPartOf part things ⊎ ((rest : List T) × (part ≡ thing ∷ rest) × IsPartOf rest things)

-- the result of trying some things: what was found, if they serve
abbrev pub Tells : {F : Type 0} → (F → Type 0) → Type 0 → Option F → Type 0
Tells Serves Fails (Some found) = Serves found
Tells Serves Fails None = Fails
