-- A table about its last entry of a kind.
use Rattle.std.proofs.Common.{◌≡◌, ◌<◌, ℕ, zero, suc, ◌+◌, Bool, true, false, List, [], ◌∷◌, ◌++◌, Option, Some, None, refl, ap, ◌∙◌, sym}
use Rattle.std.proofs.Common.{subst, arith, take, drop, length, get_or}
use Rattle.std.specs.List.{AllByRecursion}
use Rattle.abs_path.specs.Paths.{Path}
use Rattle.kern_mounts.specs.declared.step.MountStep.{MountStep}
use Rattle.kern_mounts.specs.Entry.{leads_to, entry_of}
use Rattle.kern_mounts.specs.Split.{Table, SplitOf, Split, split_or, split_last, split_at}
use Rattle.kern_mounts.proofs.Entries.{later_of, entry_more}

abbrev pub None_have : {X : Type 0} → (X → Bool) → List X → Type 0
None_have p table = AllByRecursion (λ entry. p entry ≡ false) table

-- what a split says
pub record IsSplit {X : Type 0} (p : X → Bool) (table : List X) (split : SplitOf X) : Type 0 where
  pub whole : table ≡ split.earlier ++ split.entry ∷ split.later
  pub has : p split.entry ≡ true
  pub last : None_have p split.later

split_none_step : {X : Type 0} (p : X → Bool) (entry : X) (table : List X) (o : Option (SplitOf X)) (b : Bool)
    → (o ≡ None → None_have p table) → p entry ≡ b → split_or o b entry table ≡ None → None_have p (entry ∷ table)
split_none_step p entry table (Some s) b more g e = cc
split_none_step p entry table None true more g e = cc
split_none_step p entry table None false more g e = (g, more refl)

pub split_none : {X : Type 0} (p : X → Bool) (table : List X) → split_last p table ≡ None → None_have p table
split_none p [] e = tt
split_none p (entry ∷ table) e = split_none_step p entry table (split_last p table) (p entry) (split_none p table) refl e

split_some_step : {X : Type 0} (p : X → Bool) (entry : X) (table : List X) (o : Option (SplitOf X)) (b : Bool) (split : SplitOf X)
    → ((s : SplitOf X) → o ≡ Some s → IsSplit p table s) → (o ≡ None → None_have p table) → p entry ≡ b
    → split_or o b entry table ≡ Some split → IsSplit p (entry ∷ table) split
split_some_step {X = X} p entry table (Some s) b split more absent g e =
    let longer : SplitOf X = record { earlier = entry ∷ s.earlier; entry = s.entry; later = s.later } in
    let same : longer ≡ split = cc in
    let h = more s refl in
    let P : SplitOf X → Type 0 = IsSplit p (entry ∷ table) in
    let own : P longer = record { whole = ap (λ (t : List X). entry ∷ t) h.whole; has = h.has; last = h.last } in
    subst P same own
split_some_step {X = X} p entry table None true split more absent g e =
    let here : SplitOf X = record { earlier = []; entry = entry; later = table } in
    let same : here ≡ split = cc in
    let P : SplitOf X → Type 0 = IsSplit p (entry ∷ table) in
    let own : P here = record { whole = refl; has = g; last = absent refl } in
    subst P same own
split_some_step p entry table None false split more absent g e = cc

pub split_some : {X : Type 0} (p : X → Bool) (table : List X) (split : SplitOf X) → split_last p table ≡ Some split → IsSplit p table split
split_some p [] split e = cc
split_some p (entry ∷ table) split e = split_some_step p entry table (split_last p table) (p entry) split (split_some p table)
    (split_none p table) refl e

pub split_absent : {X : Type 0} (p : X → Bool) (table : List X) → None_have p table → split_last p table ≡ None
split_absent p [] h = refl
split_absent p (entry ∷ table) h = rw (split_absent p table h.1, h.0)

pub split_is : {X : Type 0} (p : X → Bool) (earlier : List X) (entry : X) (later : List X) → p entry ≡ true → None_have p later
    → split_last p (earlier ++ entry ∷ later) ≡ Some (record { earlier = earlier; entry = entry; later = later })
split_is p [] entry later h n = rw (split_absent p later n, h)
split_is p (first ∷ earlier) entry later h n = rw (split_is p earlier entry later h n)

-- ---- the split and the entry of a path
abbrev pub entry_by : Option Split → Option MountStep
entry_by None = None
entry_by (Some split) = Some split.entry

entry_by_or : (o : Option Split) (b : Bool) (first : MountStep) (table : Table)
    → entry_by (split_or o b first table) ≡ later_of (entry_by o) b first
entry_by_or (Some split) b first table = refl
entry_by_or None true first table = refl
entry_by_or None false first table = refl

split_entry : (path : Path) (table : Table) → entry_by (split_at path table) ≡ entry_of table path
split_entry path [] = refl
split_entry path (first ∷ table) =
    entry_by_or (split_at path table) (leads_to path first) first table
    ∙ ap (λ o. later_of o (leads_to path first) first) (split_entry path table) ∙ sym (entry_more first table path)

-- the entry of a path, with what stands about it
pub split_of : (path : Path) (table : Table) (step : MountStep) → entry_of table path ≡ Some step
    → (split : Split) × (split_at path table ≡ Some split) × (split.entry ≡ step)
split_of path table step e = by (split_at path table) refl (split_entry path table ∙ e)
  where
    by : (o : Option Split) → split_at path table ≡ o → entry_by o ≡ Some step
        → (split : Split) × (split_at path table ≡ Some split) × (split.entry ≡ step)
    by None is f = cc
    by (Some split) is f = (split, is, cc)

pub of_split : (path : Path) (table : Table) (split : Split) → split_at path table ≡ Some split → entry_of table path ≡ Some split.entry
of_split path table split e = sym (split_entry path table) ∙ ap entry_by e

-- ---- the split at the number of an entry
pub cut : {X : Type 0} (table : List X) (at : ℕ) (entry : X) → entry ≡ get_or table at entry → at < length table
    → table ≡ take at table ++ entry ∷ drop (suc at) table
cut [] at entry e lt = absurd (omega arith)
cut {X = X} (first ∷ table) zero entry e lt = ap (λ (x : X). x ∷ table) (sym e)
cut {X = X} (first ∷ table) (suc at) entry e lt = ap (λ (t : List X). first ∷ t) (cut table at entry e (omega arith))

-- the path's entry with what stands about it
abbrev pub about : {X : Type 0} → List X → ℕ → X → SplitOf X
about table at entry = record { earlier = take at table; entry = entry; later = drop (at + 1) table }
