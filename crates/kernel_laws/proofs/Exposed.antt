-- What is not blind by the table: a path that shows a place strictly below, in the launched world or behind calls.
use Rattle.std.proofs.Common.{◌≡◌, ℕ, suc, Bool, true, false, List, [], ◌∷◌, ◌++◌, Option, Some, inl, inr, refl, cond, ap, ◌∙◌, sym, subst}
use Rattle.std.proofs.Common.{append_assoc, append-nil, length, length-append, arith, ◌<◌, ◌≤◌, eqb}
use Rattle.std.specs.Prelude.{not, ◌&&◌, option_and_then, filter, codes, ◌+◌}
use Rattle.std.specs.Str.{bytes_eq}
use Rattle.std.specs.List.{list_any, list_all, AllByRecursion}
use Rattle.std.proofs.lemmas.Bool.{and_parts, and_from, or_left, or_right, or_cases, not-true, not-false, eqb-true}
use Rattle.std.proofs.lemmas.Slice.Eq.{bytes_eq-Decides}
use Rattle.kernel_model.specs.abs_path.Paths.{Path, tail_of, text_of, is_part, is_normal}
use Rattle.kernel_model.specs.abs_path.Prefix.{is_prefix, is_same, rest_of, is_below}
use Rattle.kernel_model.proofs.OfAbsPath.Prefixes.{prefix-append, same_path, rest-append}
use Rattle.kernel_model.specs.kern_mounts.Entry.{leads_to, entry_of}
use Rattle.kernel_model.specs.kern_mounts.Launch.{HasShortPlace}
use Rattle.kernel_model.specs.kern_mounts.Finds.{host_place, host_place_by}
use Rattle.kernel_model.specs.kern_mounts.declared.step.What.{What}
use Rattle.kernel_model.specs.kern_mounts.declared.step.What.TheVariants.{Host, Empty, Hidden}
use Rattle.kernel_model.specs.kern_mounts.declared.step.MountStep.{MountStep}
use Rattle.kernel_laws.specs.Blind.{is_clear, shows_below, exposes, SeesBelow, ExposesByUnmounts, IsSmall, IsFolder, ExposedAtOnce}
use Rattle.kernel_model.specs.kernel_calls.Calls.{IsPath}
use Rattle.kernel_laws.specs.Launched.{launch_of, first_of}
use Rattle.kernel_model.specs.kern_mounts.Split.{Table, split_at}
use Rattle.kernel_model.specs.kern_mounts.Unmounts.{Unmounts}
use Rattle.kernel_model.proofs.OfKernMounts.Paths.{behind}
use Rattle.kernel_model.proofs.OfKernMounts.Splits.{None_have, split_is, of_split}
use Rattle.kernel_model.proofs.OfKernMounts.Unmounting.{stands_uncovered}
use Rattle.kernel_laws.proofs.Living.{first_lives}
use Rattle.kernel_laws.proofs.ReachLaws.{any_none}

-- ---- a part that no entry stands at
abbrev Part : Type 0
Part = List ℕ

abbrev are_apart : Part → List Part → Bool
are_apart part [] = true
are_apart part (other ∷ parts) = not (bytes_eq part other) && are_apart part parts

abbrev are_distinct : List Part → Bool
are_distinct [] = true
are_distinct (part ∷ parts) = are_apart part parts && are_distinct parts

-- two parts that pass are one
abbrev Single : (Part → Bool) → Type 0
Single p = (one other : Part) → p one ≡ true → p other ≡ true → one ≡ other

abbrev rest_by : (Part → Bool) → List Part → List Part
rest_by p parts = filter (λ part. not (p part)) parts

apart_rest : (p : Part → Bool) (part : Part) (parts : List Part) → are_apart part parts ≡ true → are_apart part (rest_by p parts) ≡ true
apart_rest p part [] h = refl
apart_rest p part (other ∷ parts) h =
    by (not (p other)) (apart_rest p part parts (and_parts (not (bytes_eq part other)) (are_apart part parts) h).1)
    (and_parts (not (bytes_eq part other)) (are_apart part parts) h).0
  where
    by : (b : Bool) → are_apart part (rest_by p parts) ≡ true → not (bytes_eq part other) ≡ true
        → are_apart part (cond b (other ∷ rest_by p parts) (rest_by p parts)) ≡ true
    by true more own = and_from _ _ own more
    by false more own = more

distinct_rest : (p : Part → Bool) (parts : List Part) → are_distinct parts ≡ true → are_distinct (rest_by p parts) ≡ true
distinct_rest p [] h = refl
distinct_rest p (part ∷ parts) h = by (not (p part)) (distinct_rest p parts (and_parts (are_apart part parts) (are_distinct parts) h).1)
    (apart_rest p part parts (and_parts (are_apart part parts) (are_distinct parts) h).0)
  where
    by : (b : Bool) → are_distinct (rest_by p parts) ≡ true → are_apart part (rest_by p parts) ≡ true
        → are_distinct (cond b (part ∷ rest_by p parts) (rest_by p parts)) ≡ true
    by true more own = and_from _ _ own more
    by false more own = more

-- behind one that passes all stay
stay : (p : Part → Bool) (part : Part) (parts : List Part) → Single p → p part ≡ true → are_apart part parts ≡ true
    → length (rest_by p parts) ≡ length parts
stay p part [] single h a = refl
stay p part (other ∷ parts) single h a =
    by (p other) refl (stay p part parts single h (and_parts (not (bytes_eq part other)) (are_apart part parts) a).1)
    (and_parts (not (bytes_eq part other)) (are_apart part parts) a).0
  where
    by : (b : Bool) → p other ≡ b → length (rest_by p parts) ≡ length parts → not (bytes_eq part other) ≡ true
        → length (cond (not b) (other ∷ rest_by p parts) (rest_by p parts)) ≡ suc (length parts)
    by true e more own =
        let same = single part other h e in
        let on : bytes_eq part other ≡ true = (bytes_eq-Decides part other).1 same in
        let off = not-true (bytes_eq part other) own in
        cc
    by false e more own = ap suc more

-- at most one goes
one_goes : (p : Part → Bool) (parts : List Part) → Single p → are_distinct parts ≡ true → length parts ≤ suc (length (rest_by p parts))
one_goes p [] single h = omega arith
one_goes p (part ∷ parts) single h = by (p part) refl (one_goes p parts single (and_parts (are_apart part parts) (are_distinct parts) h).1)
  where
    by : (b : Bool) → p part ≡ b → length parts ≤ suc (length (rest_by p parts))
        → suc (length parts) ≤ suc (length (cond (not b) (part ∷ rest_by p parts) (rest_by p parts)))
    by true e more = let n = stay p part parts single e (and_parts (are_apart part parts) (are_distinct parts) h).0 in omega (arith, n)
    by false e more = omega (arith, more)

-- an entry that leads to a path with one part more, and not to the path, stands there
stands_there : (place path : Path) (part : Part) → is_prefix place path ≡ false → is_prefix place (path ++ part ∷ []) ≡ true
    → place ≡ path ++ part ∷ []
stands_there [] path part off on = cc
stands_there (x ∷ place) [] part off on =
    let both = and_parts (bytes_eq x part) (is_prefix place []) on in
    last place both.1 ((bytes_eq-Decides x part).0 both.0)
  where
    last : (place : Path) → is_prefix place [] ≡ true → x ≡ part → x ∷ place ≡ part ∷ []
    last [] e same = cc
    last (y ∷ place) e same = cc
stands_there (x ∷ place) (y ∷ path) part off on =
    let both = and_parts (bytes_eq x y) (is_prefix place (path ++ part ∷ [])) on in
    let same = (bytes_eq-Decides x y).0 both.0 in
    let off' : is_prefix place path ≡ false = left (bytes_eq x y) (is_prefix place path) both.0 off in
    let more = stands_there place path part off' both.1 in
    cc
  where
    left : (a b : Bool) → a ≡ true → (a && b) ≡ false → b ≡ false
    left true b e h = h
    left false b e h = cc

last_same : (path : Path) (one other : Part) → path ++ one ∷ [] ≡ path ++ other ∷ [] → one ≡ other
last_same [] one other e = cc
last_same (x ∷ path) one other e = last_same path one other (let tails : path ++ one ∷ [] ≡ path ++ other ∷ [] = cc in tails)

-- among more parts than there are entries one is free
pub record Free (path : Path) (later : Table) (parts : List Part) : Type 0 where
  pub part : Part
  pub among : list_any (bytes_eq part) parts ≡ true
  pub clear : None_have (leads_to (path ++ part ∷ [])) later

among_rest : (p : Part → Bool) (part : Part) (parts : List Part) → list_any (bytes_eq part) (rest_by p parts) ≡ true
    → (list_any (bytes_eq part) parts ≡ true) × (p part ≡ false)
among_rest p part [] h = cc
among_rest p part (other ∷ parts) h = by (p other) refl h (among_rest p part parts)
  where
    by : (b : Bool) → p other ≡ b → list_any (bytes_eq part) (cond (not b) (other ∷ rest_by p parts) (rest_by p parts)) ≡ true
        → (list_any (bytes_eq part) (rest_by p parts) ≡ true → (list_any (bytes_eq part) parts ≡ true) × (p part ≡ false))
        → (list_any (bytes_eq part) (other ∷ parts) ≡ true) × (p part ≡ false)
    by true e h more = let m = more h in (or_right _ _ m.0, m.1)
    by false e h more = elim (or_cases (bytes_eq part other) (list_any (bytes_eq part) (rest_by p parts)) h) [
      | inl is ↦ let same = (bytes_eq-Decides part other).0 is in (or_left _ _ is, ap p same ∙ e)
      | inr later ↦ let m = more later in (or_right _ _ m.0, m.1)
    ]

free : (path : Path) (later : Table) (parts : List Part) → None_have (leads_to path) later → are_distinct parts ≡ true
    → length later < length parts → Free path later parts
free path [] [] none' h few = absurd (omega (arith, few))
free path [] (part ∷ parts) none' h few = record { part = part; among = or_left _ _ ((bytes_eq-Decides part part).1 refl); clear = tt }
free path (entry ∷ later) parts none' h few =
    let p : Part → Bool = λ part. is_prefix entry.place (path ++ part ∷ []) in
    let single : Single p = λ one other a b. last_same path one other (sym (stands_there entry.place path one none'.0 a) ∙ stands_there entry.place path other none'.0 b) in
    let goes = one_goes p parts single h in
    let more = free path later (rest_by p parts) none'.1 (distinct_rest p parts h) (omega (arith, goes, few)) in
    let m = among_rest p more.part parts more.among in
    record { part = more.part; among = m.0; clear = (m.1, more.clear) }

-- two letters
abbrev letters : List ℕ
letters = codes "abcdefghijklmn"

abbrev pairs_with : ℕ → List ℕ → List Part
pairs_with a [] = []
pairs_with a (b ∷ more) = (a ∷ b ∷ []) ∷ pairs_with a more

abbrev pairs : List ℕ → List Part
pairs [] = []
pairs (a ∷ more) = pairs_with a letters ++ pairs more

abbrev names : List Part
names = pairs letters

names_distinct : are_distinct names ≡ true
names_distinct = refl

abbrev is_name : Part → Bool
is_name part = is_part part && eqb (length part) 2

names_are : list_all is_name names ≡ true
names_are = refl

name_of : (part : Part) (parts : List Part) → list_all is_name parts ≡ true → list_any (bytes_eq part) parts ≡ true → is_name part ≡ true
name_of part [] h g = cc
name_of part (other ∷ parts) h g =
    let both = and_parts (is_name other) (list_all is_name parts) h in
    elim (or_cases (bytes_eq part other) (list_any (bytes_eq part) parts) g) [
      | inl is ↦ ap is_name ((bytes_eq-Decides part other).0 is) ∙ both.0
      | inr later ↦ name_of part parts both.1 later
    ]

-- ---- paths that fit
pub normal_append : (one other : Path) → is_normal one ≡ true → is_normal other ≡ true → is_normal (one ++ other) ≡ true
normal_append [] other h g = g
normal_append (part ∷ one) other h g = let both = and_parts (is_part part) (is_normal one) h in and_from _ _ both.0 (normal_append one other both.1 g)

pub normal_rest : (one other : Path) → is_normal (one ++ other) ≡ true → is_normal other ≡ true
normal_rest [] other h = h
normal_rest (part ∷ one) other h = normal_rest one other (and_parts (is_part part) (is_normal (one ++ other)) h).1

pub tail_append : (one other : Path) → length (tail_of (one ++ other)) ≡ length (tail_of one) + length (tail_of other)
tail_append [] other = omega arith
tail_append (part ∷ one) other =
    let more = tail_append one other in
    omega (arith, more, length-append part (tail_of (one ++ other)), length-append part (tail_of one))

pub text_length : (path : Path) → length (text_of path) ≤ length (tail_of path) + 1
text_length [] = omega arith
text_length (part ∷ parts) = omega arith

pub tail_length : (path : Path) → length (tail_of path) ≤ length (text_of path)
tail_length [] = omega arith
tail_length (part ∷ parts) = omega arith

two_letters : (part : Part) → is_name part ≡ true → (is_normal (part ∷ []) ≡ true) × (length (tail_of (part ∷ [])) ≡ 3)
two_letters part h =
    let both = and_parts (is_part part) (eqb (length part) 2) h in
    let n : length part ≡ 2 = eqb-true (length part) 2 both.1 in
    (and_from _ _ both.0 refl, omega (arith, n, length-append part []))

-- ---- what an entry shows
pub below_by_part : (folder : Path) (part : Part) → is_below (folder ++ part ∷ []) folder ≡ true
below_by_part folder part = and_from _ _ (prefix-append folder (part ∷ [])) (ap not (by (is_same folder (folder ++ part ∷ [])) refl))
  where
    by : (b : Bool) → is_same folder (folder ++ part ∷ []) ≡ b → b ≡ false
    by true e =
        let same : length folder ≡ length (folder ++ part ∷ []) = ap (λ (p : Path). length p) (same_path folder (folder ++ part ∷ []) e) in
        absurd (omega (arith, same, length-append folder (part ∷ [])))
    by false e = refl

-- an entry shows what its source has behind, at a path that no later entry leads to
seen_by : (folder : Path) (table earlier : Table) (entry : MountStep) (later : Table) (source rest : Path)
    → table ≡ earlier ++ entry ∷ later → entry.what ≡ Host source
    → None_have (leads_to (entry.place ++ rest)) later → host_place table (entry.place ++ rest) ≡ Some (source ++ rest)
seen_by folder table earlier entry later source rest whole host clear =
    let path = entry.place ++ rest in
    let split = ap (split_at path) whole ∙ split_is (leads_to path) earlier entry later (prefix-append entry.place rest) clear in
    let own = of_split path table (record { earlier = earlier; entry = entry; later = later }) split in
    ap (λ (o : Option MountStep). option_and_then (λ step. host_place_by step.what step.place path) o) own
    ∙ ap (λ (w : What). host_place_by w entry.place path) host
    ∙ ap (λ (r : Path). Some (source ++ r)) (rest-append entry.place rest)

record Exposing (uncover : Bool) (folder : Path) (table : Table) : Type 0 where
  earlier : Table
  entry : MountStep
  later : Table
  whole : table ≡ earlier ++ entry ∷ later
  shown : shows_below uncover folder entry later entry.what ≡ true

exposing : (uncover : Bool) (folder : Path) (table : Table) → exposes uncover folder table ≡ true → Exposing uncover folder table
exposing uncover folder [] e = cc
exposing uncover folder (entry ∷ later) e =
    elim (or_cases (shows_below uncover folder entry later entry.what) (exposes uncover folder later) e) [
      | inl here ↦ record { earlier = []; entry = entry; later = later; whole = refl; shown = here }
      | inr there ↦ (let m = exposing uncover folder later there in record { earlier = entry ∷ m.earlier; entry = m.entry; later = m.later; whole = ap (λ (t : Table). entry ∷ t) m.whole; shown = m.shown })
    ]

-- its own source strictly below, or the folder at or below its source
data Way (uncover : Bool) (folder : Path) (entry : MountStep) (later : Table) : Type 0 where
  own : (source : Path) → entry.what ≡ Host source → is_below source folder ≡ true → is_clear uncover entry.place later ≡ true
      → Way uncover folder entry later
  at : (source : Path) → entry.what ≡ Host source → is_prefix source folder ≡ true
      → is_clear uncover (entry.place ++ rest_of source folder) later ≡ true → Way uncover folder entry later

way : (uncover : Bool) (folder : Path) (entry : MountStep) (later : Table) → (what : What) → entry.what ≡ what
    → shows_below uncover folder entry later what ≡ true → Way uncover folder entry later
way uncover folder entry later (Host source) is e =
    elim (or_cases (is_below source folder && is_clear uncover entry.place later)
    (is_prefix source folder && is_clear uncover (entry.place ++ rest_of source folder) later) e) [
      | inl h ↦ (let both = and_parts (is_below source folder) (is_clear uncover entry.place later) h in own source is both.0 both.1)
      | inr h ↦ (let both = and_parts (is_prefix source folder) (is_clear uncover (entry.place ++ rest_of source folder) later) h in at source is both.0 both.1)
    ]
way uncover folder entry later Empty is e = cc
way uncover folder entry later (Hidden directory) is e = cc

at_end : (P : MountStep → Type 0) (earlier : Table) (entry : MountStep) (later : Table) → AllByRecursion P (earlier ++ entry ∷ later)
    → P entry
at_end P [] entry later h = h.0
at_end P (head ∷ earlier) entry later h = at_end P earlier entry later h.1

-- with no power: a path of this very table, and one that fits
pub record SeesFit (folder : Path) (table : Table) : Type 0 where
  pub seen : SeesBelow folder table
  pub fits : IsPath seen.path

pub exposes_seen : (folder : Path) (table : Table) → IsSmall table → IsFolder folder → exposes false folder table ≡ true
    → SeesFit folder table
exposes_seen folder table small fit e =
    let x = exposing false folder table e in
    by x (way false folder x.entry x.later x.entry.what refl x.shown)
  where
    by : (x : Exposing false folder table) → Way false folder x.entry x.later → SeesFit folder table
    by x (own source host below clear) =
        let none' = any_none (leads_to x.entry.place) x.later (not-true (list_any (leads_to x.entry.place) x.later) clear) in
        let P : Path → Type 0 = λ p. None_have (leads_to p) x.later in
        let seen = seen_by folder table x.earlier x.entry x.later source [] x.whole host (subst P (sym (append-nil x.entry.place)) none') in
        let own = at_end HasShortPlace x.earlier x.entry x.later (rw x.whole at small.places) in
        let normal = own.normal in
        let short = own.short in
        record {
          seen = record { path = x.entry.place ++ []; place = source ++ []; shown = seen; below = ap (λ (p : Path). is_below p folder) (append-nil source) ∙ below };
          fits = record {
            normal = ap is_normal (append-nil x.entry.place) ∙ normal;
            short = (let n : length (text_of (x.entry.place ++ [])) ≡ length (text_of x.entry.place) = ap (λ (p : Path). length (text_of p)) (append-nil x.entry.place) in omega (arith, short, n));
          };
        }
    by x (at source host prefix clear) =
        let r = rest_of source folder in
        let none' = any_none (leads_to (x.entry.place ++ r)) x.later (not-true (list_any (leads_to (x.entry.place ++ r)) x.later) clear) in
        let size : length table ≡ length x.earlier + suc (length x.later) = ap (λ (t : Table). length t) x.whole ∙ length-append x.earlier (x.entry ∷ x.later) in
        let many : length names ≡ 196 = refl in
        let f = free (x.entry.place ++ r) x.later names none' names_distinct (omega (arith, size, many, small.few)) in
        let name = two_letters f.part (name_of f.part names names_are f.among) in
        let rest = r ++ f.part ∷ [] in
        let P : Path → Type 0 = λ p. None_have (leads_to p) x.later in
        let longer : (x.entry.place ++ r) ++ f.part ∷ [] ≡ x.entry.place ++ rest = append_assoc x.entry.place r (f.part ∷ []) in
        let seen = seen_by folder table x.earlier x.entry x.later source rest x.whole host (subst P longer f.clear) in
        let there : source ++ rest ≡ folder ++ f.part ∷ [] = sym (append_assoc source r (f.part ∷ [])) ∙ ap (λ (p : Path). p ++ f.part ∷ []) (sym (behind source folder prefix)) in
        let own = at_end HasShortPlace x.earlier x.entry x.later (rw x.whole at small.places) in
        let normal = own.normal in
        let short = own.short in
        let whole : source ++ r ≡ folder = sym (behind source folder prefix) in
        let folder_size : length (tail_of folder) ≡ length (tail_of source) + length (tail_of r) = ap (λ (p : Path). length (tail_of p)) (sym whole) ∙ tail_append source r in
        let normal_r : is_normal r ≡ true = normal_rest source r (ap is_normal whole ∙ fit.normal) in
        record {
          seen = record { path = x.entry.place ++ rest; place = source ++ rest; shown = seen; below = ap (λ (p : Path). is_below p folder) there ∙ below_by_part folder f.part };
          fits = record {
            normal = normal_append x.entry.place rest normal (normal_append r (f.part ∷ []) normal_r name.0);
            short = omega (arith, text_length (x.entry.place ++ rest), tail_append x.entry.place rest, tail_append r (f.part ∷ []), name.1, short, tail_length x.entry.place, folder_size, fit.short, tail_length folder);
          };
        }

pub exposed_at_once : ExposedAtOnce
exposed_at_once world folder s small fit b =
    let table = (launch_of world).table in
    let x = exposes_seen folder table small fit (not-false (exposes false folder table) b) in
    record { pid = 1; process = first_of world; lives = first_lives world s; path = x.seen.path; fits = x.fits; place = x.seen.place; shown = x.seen.shown; below = x.seen.below }

-- with umount2: a path of a table that umount2 calls make
pub exposes_by_unmounts : ExposesByUnmounts
exposes_by_unmounts folder table ordered e =
    let x = exposing true folder table e in
    by x (way true folder x.entry x.later x.entry.what refl x.shown)
  where
    seen_in : (x : Exposing true folder table) (source rest : Path) → x.entry.what ≡ Host source → is_below (source ++ rest) folder ≡ true
        → (now : Table) × Unmounts table now × SeesBelow folder now
    seen_in x source rest host below =
        let u = stands_uncovered table x.entry rest ordered (x.earlier, x.later, x.whole) in
        let path = u.1 in
        let own : entry_of u.0 path ≡ Some x.entry = of_split path u.0 u.2 u.4 ∙ ap (λ (m : MountStep). Some m) u.5 in
        let shown : host_place u.0 path ≡ Some (source ++ rest) =
        ap (λ (o : Option MountStep). option_and_then (λ step. host_place_by step.what step.place path) o) own
        ∙ ap (λ (w : What). host_place_by w x.entry.place path) host
        ∙ ap (λ (p : Path). Some (source ++ rest_of x.entry.place p)) u.6
        ∙ ap (λ (r : Path). Some (source ++ r)) (rest-append x.entry.place rest) in
        (u.0, u.3, record { path = path; place = source ++ rest; shown = shown; below = below })

    by : (x : Exposing true folder table) → Way true folder x.entry x.later → (now : Table) × Unmounts table now × SeesBelow folder now
    by x (own source host below clear) = seen_in x source [] host (ap (λ (p : Path). is_below p folder) (append-nil source) ∙ below)
    by x (at source host prefix clear) =
        let r = rest_of source folder in
        let there : source ++ (r ++ codes "x" ∷ []) ≡ folder ++ codes "x" ∷ [] = sym (append_assoc source r (codes "x" ∷ [])) ∙ ap (λ (p : Path). p ++ codes "x" ∷ []) (sym (behind source folder prefix)) in
        seen_in x source (r ++ codes "x" ∷ []) host (ap (λ (p : Path). is_below p folder) there ∙ below_by_part folder (codes "x"))
