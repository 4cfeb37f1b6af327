-- What a path belongs to on a table that a bind makes.
use Rattle.std.proofs.Common.{◌≡◌, Bool, true, false, cond, filter, map, [], ◌∷◌, ◌++◌, Option, Some, None, option_map, Ok, refl, sym, ap}
use Rattle.std.proofs.Common.{◌∙◌}
use Rattle.std.proofs.lemmas.Bool.{false≢true, false_from_ne_true}
use Rattle.abs_path.specs.Paths.{Path}
use Rattle.abs_path.specs.Prefix.{is_prefix, rest_of}
use Rattle.abs_path.proofs.Prefixes.{prefix-append, prefix_trans}
use Rattle.kern_mounts.specs.declared.step.MountStep.{MountStep}
use Rattle.kern_mounts.specs.Entry.{leads_to, entry_of}
use Rattle.kern_mounts.specs.Split.{Table, Split, split_at, is_below}
use Rattle.kern_mounts.specs.Mounts.{Mounts, steps_of, stands_below}
use Rattle.kern_mounts.specs.Bind.{moved, moved_mount, copies, bound_entry, bound_mount, after_bind}
use Rattle.kern_mounts.proofs.Calls.{binds, grown_is}
use Rattle.kern_mounts.proofs.Entries.{later_of, entry_more}
use Rattle.kern_mounts.proofs.Mounts.{steps_append, steps_split, split_steps}
use Rattle.kern_mounts.proofs.Paths.{behind, front_leads, stands_below as place_stands_below, below_leads}
use Rattle.kern_mounts.proofs.Splits.{None_have, IsSplit, split_some, of_split}

-- ---- the entry of a path in two tables, one behind the other
abbrev pub or_else : Option MountStep → Option MountStep → Option MountStep
or_else (Some entry) other = Some entry
or_else None other = other

or_else_more : (later earlier : Option MountStep) (b : Bool) (first : MountStep)
    → later_of (or_else later earlier) b first ≡ or_else later (later_of earlier b first)
or_else_more (Some entry) earlier b first = refl
or_else_more None earlier b first = refl

or_else_none : (o : Option MountStep) → or_else o None ≡ o
or_else_none (Some entry) = refl
or_else_none None = refl

pub entry_append : (one other : Table) (path : Path) → entry_of (one ++ other) path ≡ or_else (entry_of other path) (entry_of one path)
entry_append [] other path = sym (or_else_none (entry_of other path))
entry_append (first ∷ one) other path =
    entry_more first (one ++ other) path
    ∙ ap (λ o. later_of o (leads_to path first) first) (entry_append one other path)
    ∙ or_else_more (entry_of other path) (entry_of one path) (leads_to path first) first
    ∙ ap (or_else (entry_of other path)) (sym (entry_more first one path))

-- behind an entry that leads to the path nothing earlier counts
pub entry_behind : (earlier : Table) (entry : MountStep) (later : Table) (path : Path) → leads_to path entry ≡ true
    → entry_of (earlier ++ entry ∷ later) path ≡ or_else (entry_of later path) (Some entry)
entry_behind earlier entry later path leads =
    entry_append earlier (entry ∷ later) path ∙ ap (λ o. or_else o (entry_of earlier path)) (entry_more entry later path)
    ∙ by (entry_of later path) (leads_to path entry) leads
  where
    by : (o : Option MountStep) (b : Bool) → b ≡ true → or_else (later_of o b entry) (entry_of earlier path) ≡ or_else o (Some entry)
    by (Some x) b e = refl
    by None true e = refl
    by None false e = cc

-- an entry that does not lead to the path counts for nothing
pub entry_without : (earlier : Table) (entry : MountStep) (later : Table) (path : Path) → leads_to path entry ≡ false
    → entry_of (earlier ++ entry ∷ later) path ≡ or_else (entry_of later path) (entry_of earlier path)
entry_without earlier entry later path leads =
    entry_append earlier (entry ∷ later) path ∙ ap (λ o. or_else o (entry_of earlier path)) (entry_more entry later path)
    ∙ by (entry_of later path) (leads_to path entry) leads
  where
    by : (o : Option MountStep) (b : Bool) → b ≡ false → or_else (later_of o b entry) (entry_of earlier path)
        ≡ or_else o (entry_of earlier path)
    by (Some x) b e = refl
    by None true e = cc
    by None false e = refl

-- ---- what a bind that is done makes
-- the entries of the copies
abbrev pub copied_entries : Bool → Path → Path → Table → Table
copied_entries recursive source target later = cond recursive (map (moved source target) (filter (is_below source) later)) []

copied_steps : (recursive : Bool) (source target : Path) (later : Mounts)
    → steps_of (copies recursive source target later) ≡ copied_entries recursive source target (steps_of later)
copied_steps false source target later = refl
copied_steps true source target [] = refl
copied_steps true source target (mount ∷ later) = by (stands_below source mount) (copied_steps true source target later)
  where
    by : (b : Bool) → steps_of (copies true source target later) ≡ copied_entries true source target (steps_of later)
        → steps_of (map (moved_mount source target)
        (cond b (mount ∷ filter (stands_below source) later) (filter (stands_below source) later)))
        ≡ map (moved source target)
        (cond b (mount.step ∷ filter (is_below source) (steps_of later)) (filter (is_below source) (steps_of later)))
    by true more = ap (λ (t : Table). moved source target mount.step ∷ t) more
    by false more = more

pub record IsBound (table next : Table) (source target : Path) (recursive : Bool) : Type 0 where
  pub split : Split
  pub found : split_at source table ≡ Some split
  pub is : IsSplit (leads_to source) table split
  pub made : next ≡ table ++ bound_entry source target split.entry ∷ copied_entries recursive source target split.later

pub bind_made : (mounts next : Mounts) (source target : Path) (recursive : Bool) → after_bind mounts source target recursive ≡ Ok next
    → IsBound (steps_of mounts) (steps_of next) source target recursive
bind_made mounts next source target recursive e =
    let b = binds mounts next source target recursive e in
    let more : Mounts = bound_mount source target b.split.entry ∷ copies recursive source target b.split.later in
    let found = split_steps source mounts ∙ ap steps_split b.found in
    record {
      split = record { earlier = steps_of b.split.earlier; entry = b.split.entry.step; later = steps_of b.split.later };
      found = found;
      is = split_some (leads_to source) (steps_of mounts) _ found;
      made = ap steps_of (sym (grown_is mounts more next b.made)) ∙ steps_append mounts more
          ∙ ap (λ (t : Table). steps_of mounts ++ bound_entry source target b.split.entry.step ∷ t)
          (copied_steps recursive source target b.split.later);
    }

-- ---- elsewhere
-- copies stand below the target
copies_elsewhere : (source target path : Path) (later : Table) → is_prefix target path ≡ false
    → None_have (leads_to path) (copied_entries true source target later)
copies_elsewhere source target path [] other = tt
copies_elsewhere source target path (entry ∷ later) other = by (is_below source entry) (copies_elsewhere source target path later other)
  where
    away : leads_to path (moved source target entry) ≡ false
    away = false_from_ne_true (leads_to path (moved source target entry))
        (λ leads. false≢true (sym other ∙ prefix_trans target (target ++ rest_of source entry.place) path
        (prefix-append target (rest_of source entry.place)) leads))

    by : (b : Bool) → None_have (leads_to path) (map (moved source target) (filter (is_below source) later))
        → None_have (leads_to path)
        (map (moved source target) (cond b (entry ∷ filter (is_below source) later) (filter (is_below source) later)))
    by true more = (away, more)
    by false more = more

no_entry : (table : Table) (path : Path) → None_have (leads_to path) table → entry_of table path ≡ None
no_entry [] path none = refl
no_entry (first ∷ table) path none = entry_more first table path
    ∙ ap (λ o. later_of o (leads_to path first) first) (no_entry table path none.1) ∙ ap (λ b. later_of None b first) none.0

copied_elsewhere : (recursive : Bool) (source target path : Path) (later : Table) → is_prefix target path ≡ false
    → entry_of (copied_entries recursive source target later) path ≡ None
copied_elsewhere true source target path later other = no_entry (copied_entries true source target later) path
    (copies_elsewhere source target path later other)
copied_elsewhere false source target path later other = refl

pub bind_elsewhere : (table next : Table) (source target path : Path) (recursive : Bool)
    → IsBound table next source target recursive → is_prefix target path ≡ false → entry_of next path ≡ entry_of table path
bind_elsewhere table next source target path recursive b other =
    ap (λ t. entry_of t path) b.made
    ∙ entry_without table (bound_entry source target b.split.entry) (copied_entries recursive source target b.split.later) path other
    ∙ ap (λ o. or_else o (entry_of table path)) (copied_elsewhere recursive source target path b.split.later other)

-- ---- at the target and below
pub plain_bind : (table next : Table) (source target path : Path) (step : MountStep) → IsBound table next source target false
    → entry_of table source ≡ Some step → is_prefix target path ≡ true
    → entry_of next path ≡ Some (bound_entry source target step)
plain_bind table next source target path step b at leads =
    let own : Some b.split.entry ≡ Some step = sym (of_split source table b.split b.found) ∙ at in
    let same : b.split.entry ≡ step = cc in
    ap (λ t. entry_of t path) b.made ∙ entry_behind table (bound_entry source target b.split.entry) [] path leads
    ∙ ap (λ (s : MountStep). Some (bound_entry source target s)) same

-- a copy leads to a path below the target where its entry leads to the path at the same place below the source
copy_leads : (source target rest : Path) (entry : MountStep) → is_below source entry ≡ true
    → leads_to (target ++ rest) (moved source target entry) ≡ leads_to (source ++ rest) entry
copy_leads source target rest entry below =
    front_leads target (rest_of source entry.place) rest
    ∙ sym (front_leads source (rest_of source entry.place) rest)
    ∙ ap (λ (place : Path). is_prefix place (source ++ rest)) (sym (behind source entry.place (below_leads source entry below)))

-- an entry above the source or beside it, that does not lead there, leads nowhere below it
beside : (source rest : Path) (entry : MountStep) → leads_to source entry ≡ false → is_below source entry ≡ false
    → leads_to (source ++ rest) entry ≡ false
beside source rest entry not_there not_below =
    false_from_ne_true (leads_to (source ++ rest) entry)
    (λ leads. false≢true (sym not_below ∙ place_stands_below source rest entry.place leads not_there))

map_later : (f : MountStep → MountStep) (o : Option MountStep) (b : Bool) (first : MountStep)
    → later_of (option_map f o) b (f first) ≡ option_map f (later_of o b first)
map_later f (Some x) b first = refl
map_later f None true first = refl
map_later f None false first = refl

-- the copy that a path below the target belongs to is that of the entry at the same place below the source
pub copied_entry : (source target rest : Path) (later : Table) → None_have (leads_to source) later
    → entry_of (copied_entries true source target later) (target ++ rest) ≡ option_map (moved source target) (entry_of later (source ++ rest))
copied_entry source target rest [] none = refl
copied_entry source target rest (entry ∷ later) none =
    by (is_below source entry) refl (copied_entry source target rest later none.1)
    ∙ ap (option_map (moved source target)) (sym (entry_more entry later (source ++ rest)))
  where
    copied : Table
    copied = map (moved source target) (filter (is_below source) later)

    by : (b : Bool) → is_below source entry ≡ b → entry_of copied (target ++ rest)
        ≡ option_map (moved source target) (entry_of later (source ++ rest))
        → entry_of (map (moved source target) (cond b (entry ∷ filter (is_below source) later) (filter (is_below source) later)))
        (target ++ rest)
        ≡ option_map (moved source target) (later_of (entry_of later (source ++ rest)) (leads_to (source ++ rest) entry) entry)
    by true below more =
        entry_more (moved source target entry) copied (target ++ rest)
        ∙ ap (λ o. later_of o (leads_to (target ++ rest) (moved source target entry)) (moved source target entry)) more
        ∙ ap (λ b. later_of (option_map (moved source target) (entry_of later (source ++ rest))) b (moved source target entry))
        (copy_leads source target rest entry below)
        ∙ map_later (moved source target) (entry_of later (source ++ rest)) (leads_to (source ++ rest) entry) entry
    by false not_below more =
        more ∙ ap (option_map (moved source target)) (none_here (entry_of later (source ++ rest))
        ∙ ap (λ b. later_of (entry_of later (source ++ rest)) b entry) (sym (beside source rest entry none.0 not_below)))
      where
        none_here : (o : Option MountStep) → o ≡ later_of o false entry
        none_here (Some x) = refl
        none_here None = refl
