-- The entry of a path, by its number and by itself.
use Rattle.std.proofs.Common.{◌≡◌, ℕ, zero, suc, ◌+◌, ◌<◌, ◌≤◌, ◌⊎◌, inl, inr, Bool, true, false, cond, filter, List, [], ◌∷◌, ◌++◌, map}
use Rattle.std.proofs.Common.{length, get_or, Option, Some, None, refl, sym, ap, ◌∙◌, subst, arith, append-nil}
use Rattle.std.specs.List.{AllByRecursion, Contains, slice_get, last_or}
use Rattle.std.proofs.lemmas.Bool.{false≢true, cases_lt}
use Rattle.std.proofs.lemmas.List.Elements.{filter-append, recursion_from_All, All-from_recursion, All-contains}
use Rattle.std.proofs.lemmas.Option.{slice_get-get_or}
use Rattle.abs_path.specs.Paths.{Path}
use Rattle.abs_path.specs.Prefix.{is_prefix}
use Rattle.abs_path.specs.ByteOrder.{is_before, AreAscending}
use Rattle.abs_path.proofs.Prefixes.{prefix_itself, prefix_chain}
use Rattle.abs_path.proofs.ByteOrder.{prefix_before, not_before_itself, before_trans}
use Rattle.kern_mounts.specs.declared.step.MountStep.{MountStep}
use Rattle.kern_mounts.specs.Table.{StartsAtRoot}
use Rattle.kern_mounts.specs.Entry.{leads_to, Belongs, entry_of}

-- a later entry, or else this one where it leads to the path
abbrev pub later_of : Option MountStep → Bool → MountStep → Option MountStep
later_of (Some later) leads step = Some later
later_of None true step = Some step
later_of None false step = None

last_some : {X : Type 0} (x : X) (xs : List X) → (y : X) × (last_or (Some x) xs ≡ Some y)
last_some x [] = (x, refl)
last_some x (y ∷ xs) = last_some y xs

pub entry_more : (first : MountStep) (steps : List MountStep) (path : Path)
    → entry_of (first ∷ steps) path ≡ later_of (entry_of steps path) (leads_to path first) first
entry_more first steps path = by (leads_to path first) (filter (leads_to path) steps)
  where
    by : (b : Bool) (later : List MountStep) → last_or None (cond b (first ∷ later) later) ≡ later_of (last_or None later) b first
    by true [] = refl
    by false [] = refl
    by true (x ∷ later) = let some = last_some x later in some.1 ∙ ap (λ o. later_of o true first) (sym some.1)
    by false (x ∷ later) = let some = last_some x later in some.1 ∙ ap (λ o. later_of o false first) (sym some.1)

-- the entry of a path in a longer table: a later one's, or else the first
pub entry_cases : (steps : List MountStep) (path : Path) (first step : MountStep) → entry_of (first ∷ steps) path ≡ Some step →
    (entry_of steps path ≡ Some step) ⊎ ((entry_of steps path ≡ None) × (leads_to path first ≡ true) × (first ≡ step))
entry_cases steps path first step e = by (entry_of steps path) (leads_to path first) (sym (entry_more first steps path) ∙ e)
  where
    by : (o : Option MountStep) (b : Bool) → later_of o b first ≡ Some step → (o ≡ Some step) ⊎ ((o ≡ None) × (b ≡ true) × (first ≡ step))
    by (Some later) b e = inl e
    by None true e = inr (refl, refl, (cc))
    by None false e = cc

-- what is true of each entry is true of the one that a path belongs to
pub entry_is : (P : MountStep → Type 0) (steps : List MountStep) (path : Path) (step : MountStep) → AllByRecursion P steps
    → entry_of steps path ≡ Some step → P step
entry_is P [] path step h e = cc
entry_is P (first ∷ steps) path step h e = elim (entry_cases steps path first step e) [
  | inl later ↦ entry_is P steps path step h.1 later
  | inr here ↦ subst P here.2 h.0
]

-- its place leads to the path
pub entry_leads : (steps : List MountStep) (path : Path) (step : MountStep) → entry_of steps path ≡ Some step → leads_to path step ≡ true
entry_leads [] path step e = cc
entry_leads (first ∷ steps) path step e = elim (entry_cases steps path first step e) [
  | inl later ↦ entry_leads steps path step later
  | inr here ↦ subst (λ (s : MountStep). leads_to path s ≡ true) here.2 here.1
]

-- a path that belongs to no entry is one that no place leads to
pub none_leads : (steps : List MountStep) (path : Path) → entry_of steps path ≡ None
    → AllByRecursion (λ step. leads_to path step ≡ false) steps
none_leads [] path e = tt
none_leads (first ∷ steps) path e = let both = by (entry_of steps path) (leads_to path first) (sym (entry_more first steps path) ∙ e) in (both.1, none_leads steps path both.0)
  where
    by : (o : Option MountStep) (b : Bool) → later_of o b first ≡ None → (o ≡ None) × (b ≡ false)
    by (Some later) b e = cc
    by None true e = cc
    by None false e = (refl, refl)

filter_none : {X : Type 0} (test : X → Bool) (xs : List X) → AllByRecursion (λ x. test x ≡ false) xs → filter test xs ≡ []
filter_none test [] h = refl
filter_none test (x ∷ xs) h = let here = h.0 in let more = filter_none test xs h.1 in cc

no_entry : (steps : List MountStep) (path : Path) → AllByRecursion (λ step. leads_to path step ≡ false) steps → entry_of steps path ≡ None
no_entry steps path h = ap (last_or None) (filter_none (leads_to path) steps h)

-- the same among the entries behind the first
pub behind_first : (first : MountStep) (steps : List MountStep) (path : Path) (at : ℕ) → Belongs (first ∷ steps) path (suc at)
    → Belongs steps path at
behind_first first steps path at h = record {
  in_range = omega (arith, h.in_range);
  leads = λ d. h.leads d;
  none_later = λ k d low high. h.none_later (suc k) d (omega arith) (omega arith);
}

with_first : (first : MountStep) (steps : List MountStep) (path : Path) (at : ℕ) → Belongs steps path at
    → Belongs (first ∷ steps) path (suc at)
with_first first steps path at h = record {
  in_range = omega (arith, h.in_range);
  leads = λ d. h.leads d;
  none_later = later;
}
  where
    later : (k : ℕ) (d : MountStep) → suc at + 1 ≤ k → k < length (first ∷ steps) → leads_to path (get_or (first ∷ steps) k d) ≡ false
    later zero d low high = absurd (omega arith)
    later (suc k) d low high = h.none_later k d (omega arith) (omega arith)

-- the entry of the number that the path has is the entry of the path
pub entry_stands : (table : List MountStep) (path : Path) (at : ℕ) → Belongs table path at → slice_get table at ≡ entry_of table path
entry_stands [] path at h = absurd (omega (arith, h.in_range))
entry_stands (first ∷ steps) path zero h =
    let later : AllByRecursion (λ step. leads_to path step ≡ false) steps =
    recursion_from_All (λ step. leads_to path step ≡ false) steps (λ k d lt. h.none_later (suc k) d (omega arith) (omega arith)) in
    sym (entry_more first steps path ∙ ap (λ o. later_of o (leads_to path first) first) (no_entry steps path later)
    ∙ ap (λ b. later_of None b first) (h.leads first))
entry_stands (first ∷ steps) path (suc at) h =
    let own = behind_first first steps path at h in
    let here : slice_get steps at ≡ Some (get_or steps at first) = slice_get-get_or steps at first own.in_range in
    here ∙ sym (entry_more first steps path ∙ ap (λ o. later_of o (leads_to path first) first)
    (sym (entry_stands steps path at own) ∙ here))

-- a path belongs to one entry at most
pub one_place : (table : List MountStep) (path : Path) (one other : ℕ) → Belongs table path one → Belongs table path other → one ≡ other
one_place [] path one other h g = absurd (omega (arith, h.in_range))
one_place (first ∷ steps) path one other h g = elim (cases_lt one other) [
  | inl before ↦ absurd (false≢true (sym (h.none_later other first (omega arith) g.in_range) ∙ g.leads first))
  | inr behind ↦ elim (cases_lt other one) [
    | inl after ↦ absurd (false≢true (sym (g.none_later one first (omega arith) h.in_range) ∙ h.leads first))
    | inr same ↦ omega arith
  ]
]

-- and the entry of a path has a number
pub some_place : (table : List MountStep) (path : Path) (step : MountStep) → entry_of table path ≡ Some step
    → (at : ℕ) × Belongs table path at
some_place [] path step e = cc
some_place (first ∷ steps) path step e = elim (entry_cases steps path first step e) [
  | inl later ↦ (let own = some_place steps path step later in (suc own.0, with_first first steps path own.0 own.1))
  | inr here ↦ (zero, record { in_range = omega arith; leads = λ _. here.1; none_later = λ k d low high. none k d low high here.0 })
]
  where
    none : (k : ℕ) (d : MountStep) → 0 + 1 ≤ k → k < length (first ∷ steps) → entry_of steps path ≡ None
        → leads_to path (get_or (first ∷ steps) k d) ≡ false
    none zero d low high e = absurd (omega arith)
    none (suc k) d low high e = All-from_recursion (λ step. leads_to path step ≡ false) steps (none_leads steps path e) k d (omega arith)

-- where the first place is the root, each path has an entry
pub has_entry : (table : List MountStep) (path : Path) → StartsAtRoot table → (step : MountStep) × (entry_of table path ≡ Some step)
has_entry [] path h = absurd h
has_entry (first ∷ steps) path h =
    let found = by (entry_of steps path) (leads_to path first) (ap (λ (place : Path). is_prefix place path) h) in
    (found.0, entry_more first steps path ∙ found.1)
  where
    by : (o : Option MountStep) (b : Bool) → b ≡ true → (step : MountStep) × (later_of o b first ≡ Some step)
    by (Some later) b e = (later, refl)
    by None true e = (first, refl)
    by None false e = absurd (false≢true e)

pub has_place : (table : List MountStep) (path : Path) → StartsAtRoot table → (at : ℕ) × Belongs table path at
has_place table path h = let found = has_entry table path h in some_place table path found.0 found.1

last_push : {X : Type 0} (one : Option X) (xs : List X) (x : X) → last_or one (xs ++ x ∷ []) ≡ Some x
last_push one [] x = refl
last_push one (y ∷ xs) x = last_push (Some y) xs x

-- one more entry decides at its place and below, and nowhere else
pub entry_push : (table : List MountStep) (step : MountStep) (path : Path)
    → entry_of (table ++ step ∷ []) path ≡ cond (leads_to path step) (Some step) (entry_of table path)
entry_push table step path = ap (last_or None) (filter-append (leads_to path) table (step ∷ [])) ∙ by (leads_to path step)
  where
    by : (b : Bool) → last_or None (filter (leads_to path) table ++ cond b (step ∷ []) []) ≡ cond b (Some step) (entry_of table path)
    by true = last_push None (filter (leads_to path) table) step
    by false = ap (last_or None) (append-nil (filter (leads_to path) table))

-- where one of two prefixes of a path comes before the other, it leads to it
earlier_leads : (one other path : Path) → is_before one other ≡ true → is_prefix one path ≡ true → is_prefix other path ≡ true
    → is_prefix one other ≡ true
earlier_leads one other path before h g = elim (prefix_chain one other path h g) [
  | inl leads ↦ leads
  | inr back ↦ elim (prefix_before other one back) [
    | inl same ↦ subst (λ (p : Path). is_prefix one p ≡ true) (sym same) (prefix_itself one)
    | inr after ↦ absurd (false≢true (sym (not_before_itself one) ∙ before_trans one other one before after))
  ]
]

-- in byte order the last place that leads to a path is the longest: each other one leads to it
pub last_is_longest : (steps : List MountStep) (path : Path) (step : MountStep) → AreAscending (map (λ s. s.place) steps)
    → entry_of steps path ≡ Some step →
    AllByRecursion (λ other. leads_to path other ≡ true → leads_to step.place other ≡ true) steps
last_is_longest [] path step up e = cc
last_is_longest (first ∷ steps) path step up e = elim (entry_cases steps path first step e) [
  | inl later ↦ (
    λ h. earlier_leads first.place step.place path
        (entry_is (λ s. is_before first.place s.place ≡ true) steps path step (of_map first.place steps up.0) later) h
        (entry_leads steps path step later),
    last_is_longest steps path step up.1 later,
  )
  | inr here ↦ (
    λ h. subst (λ (s : MountStep). is_prefix first.place s.place ≡ true) here.2 (prefix_itself first.place),
    weaker steps (none_leads steps path here.0),
  )
]
  where
    of_map : (place : Path) (steps : List MountStep) → AllByRecursion (λ later. is_before place later ≡ true) (map (λ s. s.place) steps)
        → AllByRecursion (λ s. is_before place s.place ≡ true) steps
    of_map place [] h = tt
    of_map place (step ∷ steps) h = (h.0, of_map place steps h.1)

    weaker : (steps : List MountStep) → AllByRecursion (λ other. leads_to path other ≡ false) steps
        → AllByRecursion (λ other. leads_to path other ≡ true → leads_to step.place other ≡ true) steps
    weaker [] h = tt
    weaker (other ∷ steps) h = ((λ leads. absurd (false≢true (sym h.0 ∙ leads))), weaker steps h.1)

pub longest_decides : (table : List MountStep) (path : Path) (step other : MountStep) → AreAscending (map (λ s. s.place) table)
    → entry_of table path ≡ Some step →
    Contains table other → leads_to path other ≡ true → leads_to step.place other ≡ true
longest_decides table path step other up e among =
    All-contains (λ other. leads_to path other ≡ true → leads_to step.place other ≡ true) table other
    (All-from_recursion (λ other. leads_to path other ≡ true → leads_to step.place other ≡ true) table
    (last_is_longest table path step up e)) among
