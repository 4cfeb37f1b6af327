-- What umount2 makes of mount tables, and which entries it uncovers.
use Rattle.std.proofs.Common.{◌≡◌, ℕ, Bool, true, false, [], ◌∷◌, ◌++◌, Option, Some, None, Result, Ok, arith, refl, cond, ap, ◌∙◌}
use Rattle.std.proofs.Common.{sym, subst, ◌≤◌, ◌<◌, length, zero, suc, append_assoc, length-append, map}
use Rattle.std.specs.Prelude.{not, filter}
use Rattle.std.specs.List.{AllByRecursion}
use Rattle.abs_path.specs.Paths.{Path, is_root}
use Rattle.abs_path.specs.Prefix.{is_prefix, rest_of}
use Rattle.abs_path.proofs.Prefixes.{prefix-append, same_path}
use Rattle.kern_mounts.specs.Entry.{leads_to}
use Rattle.kern_mounts.specs.Table.{StartsAtRoot, IsTable}
use Rattle.kern_mounts.specs.declared.step.MountStep.{MountStep}
use Rattle.kern_mounts.specs.Mounts.{Mounts, steps_of, leads, plain}
use Rattle.kern_mounts.specs.Split.{Table, Split, split_last, is_at, is_below}
use Rattle.kern_mounts.specs.Umount.{after_umount}
use Rattle.kern_mounts.specs.Unmounts.{Unmounts, still, then_one, IsPart, nothing, keeps, leaves, IsTrimmed, trimmed, Removes, IsOrdered}
use Rattle.kern_mounts.specs.Unmounts.{Has, Uncovers}
use Rattle.kern_mounts.proofs.Calls.{umounts}
use Rattle.kern_mounts.proofs.Mounts.{steps_append, left_steps}
use Rattle.kern_mounts.proofs.Paths.{leads_not, behind}
use Rattle.kern_mounts.proofs.Plain.{steps_plain, umounts_own}
use Rattle.kern_mounts.proofs.Splits.{None_have, IsSplit, split_some, split_none, split_is}

pub is_at-place : (path : Path) (entry : MountStep) → is_at path entry ≡ true → path ≡ entry.place
is_at-place path entry h = sym (same_path entry.place path h)

-- what umount2 removes of mounts, by their entries
pub removes : (path : Path) (detach : Bool) (mounts next : Mounts) → after_umount mounts path detach ≡ Ok next
    → Removes path (steps_of mounts) (steps_of next)
removes path detach mounts next e =
    let r = umounts mounts next path detach e in
    record {
      earlier = steps_of r.split.earlier;
      entry = r.split.entry.step;
      later = steps_of r.split.later;
      whole = ap steps_of (split_some (leads path) mounts r.split r.found).whole
          ∙ steps_append r.split.earlier (r.split.entry ∷ r.split.later);
      place = is_at-place path r.split.entry.step r.at_place;
      next_is = ap steps_of (sym r.made) ∙ left_steps path r.split;
      below_root = r.below_root;
    }

-- and of a table of mounts that are not locked
pub removes_plain : (path : Path) (detach : Bool) (table next : Table) → after_umount (map plain table) path detach ≡ Ok (map plain next)
    → Removes path table next
removes_plain path detach table next e =
    let P : Table → Type 0 = λ t. Removes path t next in
    let Q : Table → Type 0 = λ t. Removes path (steps_of (map plain table)) t in
    subst P (steps_plain table) (subst Q (steps_plain next) (removes path detach (map plain table) (map plain next) e))

pub part_self : (table : Table) → IsPart table table
part_self [] = nothing
part_self (entry ∷ table) = keeps entry (part_self table)

pub part_through : {a b c : Table} → IsPart a b → IsPart b c → IsPart a c
part_through nothing q = q
part_through p (leaves entry q) = leaves entry (part_through p q)
part_through (keeps entry p) (keeps entry' q) = keeps entry (part_through p q)
part_through (leaves entry p) (keeps entry' q) = leaves entry (part_through p q)

pub part_filter : (p : MountStep → Bool) (table : Table) → IsPart (filter p table) table
part_filter p [] = nothing
part_filter p (entry ∷ table) = by (p entry) (part_filter p table)
  where
    by : (b : Bool) → IsPart (filter p table) table → IsPart (cond b (entry ∷ filter p table) (filter p table)) (entry ∷ table)
    by true more = keeps entry more
    by false more = leaves entry more

pub part_append : (earlier part table : Table) → IsPart part table → IsPart (earlier ++ part) (earlier ++ table)
part_append [] part table p = p
part_append (entry ∷ earlier) part table p = keeps entry (part_append earlier part table p)

pub trimmed_through : {a b c : Table} → IsTrimmed a b → IsTrimmed b c → IsTrimmed a c
trimmed_through (trimmed first p) (trimmed first' q) = trimmed first (part_through p q)

pub trimmed_part : {a b : Table} → IsTrimmed a b → IsPart a b
trimmed_part (trimmed first p) = keeps first p

-- one umount2 of a table whose first entry is at /
trims_at : (path : Path) (first : MountStep) (earlier later : Table) (entry : MountStep) (next : Table) (rest : Table) → first.place ≡ []
    → is_root path ≡ false → path ≡ entry.place → first ∷ rest ≡ earlier ++ entry ∷ later
    → next ≡ earlier ++ filter (λ other. not (is_below path other)) later → IsTrimmed next (first ∷ rest)
trims_at path first [] later entry next rest top r at whole is =
    let same : entry ≡ first = cc in
    let root : path ≡ [] = at ∙ ap (λ (e : MountStep). e.place) same ∙ top in
    let no : is_root path ≡ true = ap is_root root in
    cc
trims_at path first (head ∷ earlier) later entry next rest top r at whole is =
    let same : first ≡ head = cc in
    let tail : earlier ++ entry ∷ later ≡ rest = cc in
    let part = part_append earlier _ _ (leaves entry (part_filter (λ other. not (is_below path other)) later)) in
    let P : Table → Type 0 = λ t. IsTrimmed t (first ∷ rest) in
    let Q : Table → Type 0 = λ t. IsTrimmed (first ∷ (earlier ++ filter (λ other. not (is_below path other)) later)) (first ∷ t) in
    let shown : next ≡ first ∷ (earlier ++ filter (λ other. not (is_below path other)) later) = cc in
    subst P (sym shown) (subst Q tail (trimmed first part))

pub removal_trims : (path : Path) (table next : Table) → StartsAtRoot table → Removes path table next → IsTrimmed next table
removal_trims path [] next top r = absurd top
removal_trims path (first ∷ rest) next top r =
    trims_at path first r.earlier r.later r.entry next rest top r.below_root r.place r.whole r.next_is

pub trims : (path : Path) (detach : Bool) (mounts next : Mounts) → StartsAtRoot (steps_of mounts)
    → after_umount mounts path detach ≡ Ok next → IsTrimmed (steps_of next) (steps_of mounts)
trims path detach mounts next top e = removal_trims path (steps_of mounts) (steps_of next) top (removes path detach mounts next e)

pub trims_plain : (path : Path) (detach : Bool) (table next : Table) → StartsAtRoot table
    → after_umount (map plain table) path detach ≡ Ok (map plain next) → IsTrimmed next table
trims_plain path detach table next top e = removal_trims path table next top (removes_plain path detach table next e)

pub trimmed_self : (table : Table) → StartsAtRoot table → IsTrimmed table table
trimmed_self [] top = absurd top
trimmed_self (first ∷ rest) top = trimmed first (part_self rest)

pub trimmed_top : {part table : Table} → IsTrimmed part table → StartsAtRoot table → StartsAtRoot part
trimmed_top (trimmed first p) top = top

-- whatever umount2 makes of a table is a part of it, in order, with its first entry
pub unmounts_trim : {table last : Table} → Unmounts table last → StartsAtRoot table → IsTrimmed last table
unmounts_trim (still {table = table}) top = trimmed_self table top
unmounts_trim {table = table} (then_one {next = next} path detach e more) top =
    let one = trims_plain path detach table next top e in
    trimmed_through (unmounts_trim more (trimmed_top one top)) one

-- ---- what unmounting uncovers: all that stands in the table
pub part_has : {part table : Table} → IsPart part table → (entry : MountStep) (earlier later : Table) → part ≡ earlier ++ entry ∷ later
    → Has table entry
part_has nothing entry [] later e = cc
part_has nothing entry (head ∷ earlier) later e = cc
part_has (keeps {table = table} own p) entry [] later e = ([], table, let same : own ≡ entry = cc in ap (λ (x : MountStep). x ∷ table) same)
part_has (keeps own p) entry (head ∷ earlier) later e = let more = part_has p entry earlier later cc in (own ∷ more.0, more.1, ap (λ (t : Table). own ∷ t) more.2)
part_has (leaves own p) entry earlier later e = let more = part_has p entry earlier later e in (own ∷ more.0, more.1, ap (λ (t : Table). own ∷ t) more.2)

-- unmounting until the path belongs to the entry
record Clears (earlier : Table) (entry : MountStep) (path : Path) (table : Table) : Type 0 where
  later : Table
  run : Unmounts table (earlier ++ entry ∷ later)
  last : None_have (leads_to path) later

part_length : {part table : Table} → IsPart part table → length part ≤ length table
part_length nothing = omega arith
part_length (keeps entry p) = omega (arith, part_length p)
part_length (leaves entry p) = omega (arith, part_length p)

part_all : (P : MountStep → Type 0) {part table : Table} → IsPart part table → AllByRecursion P table → AllByRecursion P part
part_all P nothing h = tt
part_all P (keeps entry p) h = (h.0, part_all P p h.1)
part_all P (leaves entry p) h = part_all P p h.1

pub append_all : (P : MountStep → Type 0) (a : Table) (x : MountStep) (b : Table) → AllByRecursion P (a ++ x ∷ b) → P x
append_all P [] x b h = h.0
append_all P (y ∷ a) x b h = append_all P a x b h.1

-- what does not lead to the path does not lead to a prefix
none_more : (place rest : Path) (table : Table) → None_have (leads_to (place ++ rest)) table → None_have (leads_to place) table
none_more place rest [] h = tt
none_more place rest (entry ∷ table) h = (leads_not entry.place place rest h.0, none_more place rest table h.1)

not_root : (a b : Path) → is_prefix a b ≡ false → is_root a ≡ false
not_root [] b e = cc
not_root (part ∷ a) b e = refl

abbrev answer : Table → Result Mounts ℕ
answer table = Ok (map plain table)

-- one turn: the last entry that leads to the path goes
record Turn (earlier : Table) (entry : MountStep) (later : Table) : Type 0 where
  left : Table
  detached : Path
  run : after_umount (map plain (earlier ++ entry ∷ later)) detached true ≡ Ok (map plain (earlier ++ entry ∷ left))
  part : IsPart left later
  shorter : length left < length later

turn : (earlier : Table) (entry : MountStep) (rest : Path) (later : Table) (split : Split)
    → AllByRecursion (λ other. is_prefix other.place entry.place ≡ false) later → IsSplit (leads_to (entry.place ++ rest)) later split
    → Turn earlier entry later
turn earlier entry rest later split ordered is =
    let c = split.entry in
    let kept : Table = filter (λ other. not (is_below c.place other)) split.later in
    let apart : is_prefix c.place entry.place ≡ false = append_all (λ other. is_prefix other.place entry.place ≡ false) split.earlier c split.later (rw is.whole at ordered) in
    let covered : (tail : Path) × (entry.place ++ rest ≡ c.place ++ tail) = (rest_of c.place (entry.place ++ rest), behind c.place (entry.place ++ rest) is.has) in
    let last : None_have (leads_to (c.place ++ covered.0)) split.later = rw covered.1 at is.last in
    let run = umounts_own (earlier ++ entry ∷ split.earlier) split.later c (not_root c.place entry.place apart) (none_more c.place covered.0 split.later last) in
    let part : IsPart kept split.later = part_filter (λ other. not (is_below c.place other)) split.later in
    record {
      left = split.earlier ++ kept;
      detached = c.place;
      run = ap (λ (t : Table). after_umount (map plain t) c.place true) (ap (λ (t : Table). earlier ++ entry ∷ t) is.whole
          ∙ sym (append_assoc earlier (entry ∷ split.earlier) (c ∷ split.later))) ∙ run
          ∙ ap answer (append_assoc earlier (entry ∷ split.earlier) kept);
      part = let P : Table → Type 0 = λ t. IsPart (split.earlier ++ kept) t in subst P (sym is.whole) (part_append split.earlier kept (c ∷ split.later) (leaves c part));
      shorter = let w : length later ≡ length (split.earlier ++ c ∷ split.later) = ap length is.whole in omega (arith, length-append split.earlier kept, length-append split.earlier (c ∷ split.later), part_length part);
    }

abbrev pub Apart : Path → Table → Type 0
Apart place later = AllByRecursion (λ other. is_prefix other.place place ≡ false) later

clears_step : (earlier : Table) (entry : MountStep) (rest : Path) (later : Table) → Apart entry.place later →
    ((left : Table) → length left < length later → Apart entry.place left
    → Clears earlier entry (entry.place ++ rest) (earlier ++ entry ∷ left)) →
    (o : Option Split) → split_last (leads_to (entry.place ++ rest)) later ≡ o
    → Clears earlier entry (entry.place ++ rest) (earlier ++ entry ∷ later)
clears_step earlier entry rest later ordered more None e = record { later = later; run = still; last = split_none _ later e }
clears_step earlier entry rest later ordered more (Some split) e =
    let one = turn earlier entry rest later split ordered (split_some _ later split e) in
    let then = more one.left one.shorter (part_all (λ other. is_prefix other.place entry.place ≡ false) one.part ordered) in
    record { later = then.later; run = then_one one.detached true one.run then.run; last = then.last }

clears : (fuel : ℕ) (earlier : Table) (entry : MountStep) (rest : Path) (later : Table) → length later ≤ fuel → Apart entry.place later
    → Clears earlier entry (entry.place ++ rest) (earlier ++ entry ∷ later)
clears zero earlier entry rest later few ordered = clears_step earlier entry rest later ordered
    (λ left lt apart. absurd (omega arith)) _ refl
clears (suc fuel) earlier entry rest later few ordered = clears_step earlier entry rest later ordered
    (λ left lt apart. clears fuel earlier entry rest left (omega arith) apart) _ refl

-- ---- what a path can find once umount2 is at hand
-- sound: such an entry stands in the table
pub uncovered_stands : (table : Table) (entry : MountStep) (rest : Path) → StartsAtRoot table → Uncovers table entry rest → Has table entry
uncovered_stands table entry rest top u =
    let is = split_some (leads_to u.1) u.0 u.2 u.4 in
    part_has (trimmed_part (unmounts_trim u.3 top)) entry u.2.earlier u.2.later
    (is.whole ∙ ap (λ (e : MountStep). u.2.earlier ++ e ∷ u.2.later) u.5)

ordered_after : (earlier : Table) (entry : MountStep) (later : Table) → IsOrdered (earlier ++ entry ∷ later) → Apart entry.place later
ordered_after [] entry later h = h.0
ordered_after (head ∷ earlier) entry later h = ordered_after earlier entry later h.1

-- complete: each entry of an ordered table can be uncovered, with any rest
pub stands_uncovered : (table : Table) (entry : MountStep) (rest : Path) → IsOrdered table → Has table entry → Uncovers table entry rest
stands_uncovered table entry rest ordered has =
    let at : IsOrdered (has.0 ++ entry ∷ has.1) = rw has.2 at ordered in
    let c = clears (length has.1) has.0 entry rest has.1 (omega arith) (ordered_after has.0 entry has.1 at) in
    let P : Table → Type 0 = λ t. Unmounts t (has.0 ++ entry ∷ c.later) in
    let own : leads_to (entry.place ++ rest) entry ≡ true = prefix-append entry.place rest in
    (has.0 ++ entry ∷ c.later, entry.place ++ rest, record { earlier = has.0; entry = entry; later = c.later }, subst P (sym has.2) c.run, split_is _ has.0 entry c.later own c.last, refl, refl)

-- what umount2 leaves of a table is a table
pub unmounted_table : (path : Path) (detach : Bool) (mounts next : Mounts) → IsTable (steps_of mounts)
    → after_umount mounts path detach ≡ Ok next → IsTable (steps_of next)
unmounted_table path detach mounts next is e =
    let trim = trims path detach mounts next is.root e in
    record { root = trimmed_top trim is.root; few = omega (arith, is.few, part_length (trimmed_part trim)) }
