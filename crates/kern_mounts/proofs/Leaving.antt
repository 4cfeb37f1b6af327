-- What a path belongs to on a table that remount or umount2 makes.
use Rattle.std.proofs.Common.{◌≡◌, Bool, true, false, cond, filter, map, [], ◌∷◌, ◌++◌, inl, inr, Option, Some, None, option_map, Ok, refl}
use Rattle.std.proofs.Common.{sym, ap, ◌∙◌, subst}
use Rattle.std.specs.Prelude.{not}
use Rattle.std.specs.List.{AllByRecursion}
use Rattle.std.proofs.lemmas.Bool.{false≢true, false_from_ne_true}
use Rattle.abs_path.specs.Paths.{Path}
use Rattle.abs_path.specs.Prefix.{is_prefix, is_same}
use Rattle.abs_path.specs.ByteOrder.{AreAscending, is_before}
use Rattle.abs_path.proofs.ByteOrder.{prefix_before, not_before_itself, before_trans}
use Rattle.abs_path.proofs.Prefixes.{prefix_itself, prefix_trans, same_path, same_itself}
use Rattle.kern_mounts.specs.declared.step.Flags.{Flags}
use Rattle.kern_mounts.specs.declared.step.MountStep.{MountStep}
use Rattle.kern_mounts.specs.Entry.{leads_to, entry_of}
use Rattle.kern_mounts.specs.declared.step.Mount.{Mount}
use Rattle.kern_mounts.specs.MountAt.{mount_at}
use Rattle.kern_mounts.specs.Mounts.{Mounts, steps_of, leads}
use Rattle.kern_mounts.specs.Split.{Table, Split, SplitOf, split_at, is_at, is_below}
use Rattle.kern_mounts.specs.Umount.{after_umount}
use Rattle.kern_mounts.specs.Remount.{with_flags, after_remount}
use Rattle.kern_mounts.proofs.Calls.{umounts, remounts}
use Rattle.kern_mounts.proofs.Mounts.{steps_append, steps_split, split_steps, left_steps, mount_entry}
use Rattle.kern_mounts.specs.Unmounts.{Removes, IsOrdered}
use Rattle.kern_mounts.proofs.Entries.{later_of, entry_more, entry_is, entry_leads}
use Rattle.kern_mounts.proofs.Paths.{behind, stands_below, below_leads}
use Rattle.kern_mounts.proofs.Splits.{None_have, IsSplit, split_some}
use Rattle.kern_mounts.proofs.Unmounting.{is_at-place}
use Rattle.kern_mounts.proofs.Showing.{or_else, entry_append, entry_behind, entry_without}

-- ---- remount
pub record IsRemounted (table next : Table) (place : Path) (flags : Flags) : Type 0 where
  pub split : Split
  pub found : split_at place table ≡ Some split
  pub is : IsSplit (leads_to place) table split
  pub at_place : place ≡ split.entry.place
  pub made : next ≡ split.earlier ++ record split.entry { flags = flags } ∷ split.later

pub remount_made : (mounts next : Mounts) (place : Path) (flags : Flags) → after_remount mounts place flags ≡ Ok next
    → IsRemounted (steps_of mounts) (steps_of next) place flags
remount_made mounts next place flags e =
    let r = remounts mounts next place flags e in
    let found = split_steps place mounts ∙ ap steps_split r.found in
    record {
      split = record { earlier = steps_of r.split.earlier; entry = r.split.entry.step; later = steps_of r.split.later };
      found = found;
      is = split_some (leads_to place) (steps_of mounts) _ found;
      at_place = is_at-place place r.split.entry.step r.at_place;
      made = ap steps_of (sym r.made) ∙ steps_append r.split.earlier (with_flags r.split.entry flags ∷ r.split.later);
    }

pub one_remounted : (mounts next : Mounts) (place : Path) (flags : Flags) → after_remount mounts place flags ≡ Ok next
    → (earlier later : Mounts) × (mount : Mount) × (mounts ≡ earlier ++ mount ∷ later) ×
    (next ≡ earlier ++ with_flags mount flags ∷ later) × (mount.step.place ≡ place) ×
    (entry_of (steps_of mounts) place ≡ Some mount.step)
one_remounted mounts next place flags e =
    let r = remounts mounts next place flags e in
    (r.split.earlier, r.split.later, r.split.entry, (split_some (leads place) mounts r.split r.found).whole, sym r.made, sym (is_at-place place r.split.entry.step r.at_place), mount_entry place mounts r.split r.found)

-- an entry with these flags, where it stands at the place
abbrev pub own_flags : Path → Flags → MountStep → MountStep
own_flags place flags step = cond (is_at place step) (record step { flags = flags }) step

-- an entry that does not lead to the place does not stand there
stays_as_it_is : (place : Path) (flags : Flags) (step : MountStep) → leads_to place step ≡ false → own_flags place flags step ≡ step
stays_as_it_is place flags step not_there = ap (λ b. cond b (record step { flags = flags }) step)
    (false_from_ne_true (is_at place step)
    (λ same. false≢true (sym not_there ∙ ap (is_prefix step.place) (sym (same_path step.place place same)) ∙ prefix_itself step.place)))

-- entries none of which leads to the place, and those of what they hide
unchanged : (place : Path) (flags : Flags) (table : Table) (path : Path) → None_have (leads_to place) table
    → option_map (own_flags place flags) (entry_of table path) ≡ entry_of table path
unchanged place flags table path none = by (entry_of table path) refl
  where
    by : (o : Option MountStep) → entry_of table path ≡ o → option_map (own_flags place flags) o ≡ o
    by None e = refl
    by (Some step) e = ap Some
        (stays_as_it_is place flags step (entry_is (λ (s : MountStep). leads_to place s ≡ false) table path step none e))

map_or_else : (f : MountStep → MountStep) (later earlier : Option MountStep)
    → option_map f (or_else later earlier) ≡ or_else (option_map f later) (option_map f earlier)
map_or_else f (Some x) earlier = refl
map_or_else f None earlier = refl

-- an earlier entry that a path belongs to, which the entry at the place does not lead to, stands elsewhere
earlier_stays : (place : Path) (flags : Flags) (table : Table) (path : Path) → is_prefix place path ≡ false
    → option_map (own_flags place flags) (entry_of table path) ≡ entry_of table path
earlier_stays place flags table path away = by (entry_of table path) refl
  where
    by : (o : Option MountStep) → entry_of table path ≡ o → option_map (own_flags place flags) o ≡ o
    by None e = refl
    by (Some step) e = ap (λ b. Some (cond b (record step { flags = flags }) step))
        (false_from_ne_true (is_at place step)
        (λ same. false≢true (sym away ∙ ap (λ (p : Path). is_prefix p path) (sym (same_path step.place place same))
        ∙ entry_leads table path step e)))

pub remount_entries : (table next : Table) (place path : Path) (flags : Flags) → IsRemounted table next place flags
    → entry_of next path ≡ option_map (own_flags place flags) (entry_of table path)
remount_entries table next place path flags r =
    ap (λ t. entry_of t path) r.made ∙ by (leads_to path r.split.entry) refl
    ∙ ap (λ t. option_map (own_flags place flags) (entry_of t path)) (sym r.is.whole)
  where
    now : MountStep
    now = record r.split.entry { flags = flags }

    own : own_flags place flags r.split.entry ≡ now
    own = ap (λ b. cond b (record r.split.entry { flags = flags }) r.split.entry)
        (ap (is_same r.split.entry.place) r.at_place ∙ same_itself r.split.entry.place)

    by : (b : Bool) → leads_to path r.split.entry ≡ b → entry_of (r.split.earlier ++ now ∷ r.split.later) path
        ≡ option_map (own_flags place flags) (entry_of (r.split.earlier ++ r.split.entry ∷ r.split.later) path)
    by true leads =
        entry_behind r.split.earlier now r.split.later path leads
        ∙ ap (λ o. or_else o (Some now)) (sym (unchanged place flags r.split.later path r.is.last))
        ∙ ap (λ (s : MountStep). or_else (option_map (own_flags place flags) (entry_of r.split.later path)) (Some s)) (sym own)
        ∙ sym (map_or_else (own_flags place flags) (entry_of r.split.later path) (Some r.split.entry))
        ∙ sym (ap (option_map (own_flags place flags)) (entry_behind r.split.earlier r.split.entry r.split.later path leads))
    by false leads =
        entry_without r.split.earlier now r.split.later path leads
        ∙ ap (λ o. or_else o (entry_of r.split.earlier path)) (sym (unchanged place flags r.split.later path r.is.last))
        ∙ ap (or_else (option_map (own_flags place flags) (entry_of r.split.later path)))
        (sym (earlier_stays place flags r.split.earlier path (ap (λ (p : Path). is_prefix p path) r.at_place ∙ leads)))
        ∙ sym (map_or_else (own_flags place flags) (entry_of r.split.later path) (entry_of r.split.earlier path))
        ∙ sym (ap (option_map (own_flags place flags)) (entry_without r.split.earlier r.split.entry r.split.later path leads))

-- ---- umount2
-- the entries below a path count for nothing at a path that is not below it
left_elsewhere : (path other : Path) (later : Table) → is_prefix path other ≡ false
    → entry_of (filter (λ entry. not (is_below path entry)) later) other ≡ entry_of later other
left_elsewhere path other [] away = refl
left_elsewhere path other (entry ∷ later) away = by (is_below path entry) refl (left_elsewhere path other later away)
    ∙ sym (entry_more entry later other)
  where
    left : Table
    left = filter (λ entry. not (is_below path entry)) later

    none_here : (o : Option MountStep) → o ≡ later_of o false entry
    none_here (Some x) = refl
    none_here None = refl

    by : (b : Bool) → is_below path entry ≡ b → entry_of left other ≡ entry_of later other
        → entry_of (cond (not b) (entry ∷ left) left) other ≡ later_of (entry_of later other) (leads_to other entry) entry
    by true below more =
        let not_there : leads_to other entry ≡ false = false_from_ne_true (leads_to other entry) (λ leads. false≢true (sym away ∙ prefix_trans path entry.place other (below_leads path entry below) leads)) in
        more ∙ none_here (entry_of later other) ∙ ap (λ b. later_of (entry_of later other) b entry) (sym not_there)
    by false below more = entry_more entry left other ∙ ap (λ o. later_of o (leads_to other entry) entry) more

pub umount_elsewhere : (table next : Table) (path other : Path) → Removes path table next → is_prefix path other ≡ false
    → entry_of next other ≡ entry_of table other
umount_elsewhere table next path other r away =
    ap (λ t. entry_of t other) r.next_is
    ∙ entry_append r.earlier (filter (λ entry. not (is_below path entry)) r.later) other
    ∙ ap (λ o. or_else o (entry_of r.earlier other)) (left_elsewhere path other r.later away)
    ∙ sym (entry_without r.earlier r.entry r.later other (ap (λ (p : Path). is_prefix p other) (sym r.place) ∙ away))
    ∙ ap (λ t. entry_of t other) (sym r.whole)

-- what is left of the later entries leads nowhere at the path and below
left_below : (path other : Path) (later : Table) → is_prefix path other ≡ true → None_have (leads_to path) later
    → entry_of (filter (λ entry. not (is_below path entry)) later) other ≡ None
left_below path other [] there none = refl
left_below path other (entry ∷ later) there none = by (is_below path entry) refl (left_below path other later there none.1)
  where
    left : Table
    left = filter (λ entry. not (is_below path entry)) later

    reach : is_prefix entry.place other ≡ true → is_below path entry ≡ true
    reach leads =
        let P : Path → Type 0 = λ p. is_prefix entry.place p ≡ true in
        stands_below path _ entry.place (subst P (behind path other there) leads) none.0

    by : (b : Bool) → is_below path entry ≡ b → entry_of left other ≡ None → entry_of (cond (not b) (entry ∷ left) left) other ≡ None
    by true below more = more
    by false below more =
        let not_there : leads_to other entry ≡ false = false_from_ne_true (leads_to other entry) (λ leads. false≢true (sym below ∙ reach leads)) in
        entry_more entry left other ∙ ap (λ o. later_of o (leads_to other entry) entry) more ∙ ap (λ b. later_of None b entry) not_there

pub umount_shows : (mounts next : Mounts) (path other : Path) (detach : Bool) (split : SplitOf Mount) → mount_at path mounts ≡ Some split
    → after_umount mounts path detach ≡ Ok next → is_prefix path other ≡ true
    → entry_of (steps_of next) other ≡ entry_of (steps_of split.earlier) other
umount_shows mounts next path other detach split s e there =
    let r = umounts mounts next path detach e in
    let own : Some r.split ≡ Some split = sym r.found ∙ s in
    let same : r.split ≡ split = cc in
    let found = split_steps path mounts ∙ ap steps_split r.found in
    ap (λ (m : Mounts). entry_of (steps_of m) other) (sym r.made)
    ∙ ap (λ (t : Table). entry_of t other) (left_steps path r.split)
    ∙ entry_append (steps_of r.split.earlier) (filter (λ entry. not (is_below path entry)) (steps_of r.split.later)) other
    ∙ ap (λ o. or_else o (entry_of (steps_of r.split.earlier) other))
    (left_below path other (steps_of r.split.later) there (split_some (leads_to path) (steps_of mounts) _ found).last)
    ∙ ap (λ (x : SplitOf Mount). entry_of (steps_of x.earlier) other) same

-- ---- order
apart : (path : Path) (table : Table) → AllByRecursion (λ later. is_before path later ≡ true) (map (λ s. s.place) table)
    → AllByRecursion (λ (other : MountStep). is_prefix other.place path ≡ false) table
apart path [] up = tt
apart path (other ∷ table) up = (
  false_from_ne_true (is_prefix other.place path) (λ leads. elim (prefix_before other.place path leads) [
    | inl same ↦ false≢true (sym (not_before_itself path) ∙ ap (is_before path) (sym same) ∙ up.0)
    | inr before ↦ false≢true (sym (not_before_itself path) ∙ before_trans path other.place path up.0 before)
  ]),
  apart path table up.1,
)

pub ascending_is_ordered : (table : Table) → AreAscending (map (λ s. s.place) table) → IsOrdered table
ascending_is_ordered [] up = tt
ascending_is_ordered (entry ∷ table) up = (apart entry.place table up.0, ascending_is_ordered table up.1)
