-- Properties of the entries that systemd lists and makes.
use Rattle.std.proofs.Common.{◌≡◌, Bool, true, false, cond, List, [], ◌∷◌, map, Option, Some, None, refl, sym, ap, ◌∙◌, subst}
use Rattle.std.specs.Prelude.{option_and_then}
use Rattle.std.specs.List.{AllByRecursion, Contains, cons_option, filter_map}
use Rattle.std.proofs.lemmas.Bool.{and_parts}
use Rattle.std.proofs.lemmas.List.Elements.{recursion_from_All, All-contains_itself}
use Rattle.abs_path.specs.Paths.{Path}
use Rattle.abs_path.specs.ByteOrder.{is_before, AreAscending}
use Rattle.abs_path.proofs.Placed.{in_byte_order_ascending}
use Rattle.abs_path.proofs.Prefixes.{same_path}
use Rattle.path_settings.specs.declared.systemd.entries.MountEntry.{MountEntry}
use Rattle.path_settings.specs.systemd.Chosen.{is_strongest_at, chosen_at}
use Rattle.path_settings.specs.systemd.Listed.{is_covered, is_vain, unless_vain, listed_at, paths_of, listed}
use Rattle.path_settings.proofs.ViewMapLists.{all_weaker, find_is, find_passes}

-- the entry that is listed at a path is at this path, is not below a hidden one, and has each property that all entries have
pub record IsListed (P : MountEntry → Type 0) (entries : List MountEntry) (path : Path) (one : MountEntry) : Type 0 where
  pub own : P one
  pub at : one.path ≡ path
  pub seen : is_covered entries path ≡ false
  pub new : is_vain entries one ≡ false

pub listed_at_is : (P : MountEntry → Type 0) (entries : List MountEntry) (path : Path) (one : MountEntry) → AllByRecursion P entries
    → listed_at entries path ≡ Some one → IsListed P entries path one
listed_at_is P entries path one each e = by_cover (is_covered entries path) refl e
  where
    chosen : (choice : MountEntry) → chosen_at entries path ≡ Some choice → choice ≡ one → is_covered entries path ≡ false
        → is_vain entries choice ≡ false → IsListed P entries path one
    chosen choice is same bare new =
        let test = find_passes (is_strongest_at entries path) entries choice is in
        record {
          own = subst P same (find_is P (is_strongest_at entries path) entries choice each is);
          at = ap (λ (m : MountEntry). m.path) (sym same) ∙ same_path choice.path path (and_parts _ _ test).0;
          seen = bare;
          new = subst (λ (m : MountEntry). is_vain entries m ≡ false) same new;
        }

    by_vain : (choice : MountEntry) (b : Bool) → is_vain entries choice ≡ b → chosen_at entries path ≡ Some choice
        → is_covered entries path ≡ false → cond b None (Some choice) ≡ Some one → IsListed P entries path one
    by_vain choice true new is bare e = let bad : ⊥ = cc in absurd bad
    by_vain choice false new is bare e = let same : choice ≡ one = cc in chosen choice is same bare new

    by_choice : (o : Option MountEntry) → chosen_at entries path ≡ o → is_covered entries path ≡ false
        → option_and_then (unless_vain entries) o ≡ Some one → IsListed P entries path one
    by_choice None is bare e = let bad : ⊥ = cc in absurd bad
    by_choice (Some choice) is bare e = by_vain choice (is_vain entries choice) refl is bare e

    by_cover : (b : Bool) → is_covered entries path ≡ b
        → cond b None (option_and_then (unless_vain entries) (chosen_at entries path)) ≡ Some one → IsListed P entries path one
    by_cover true is e = let bad : ⊥ = cc in absurd bad
    by_cover false is e = by_choice (chosen_at entries path) refl is e

-- each listed entry has a property that follows at its path
listed_each : (P : MountEntry → Type 0) (Q : Path → MountEntry → Type 0) (R : MountEntry → Type 0) (entries : List MountEntry)
    → AllByRecursion P entries → ((path : Path) (one : MountEntry) → IsListed P entries path one → Q path one)
    → (paths : List Path) → AllByRecursion (λ path. (one : MountEntry) → Q path one → R one) paths
    → AllByRecursion R (filter_map (listed_at entries) paths)
listed_each P Q R entries each follows [] goes = tt
listed_each P Q R entries each follows (path ∷ paths) goes =
    by (listed_at entries path) refl (listed_each P Q R entries each follows paths goes.1)
  where
    by : (o : Option MountEntry) → listed_at entries path ≡ o → AllByRecursion R (filter_map (listed_at entries) paths)
        → AllByRecursion R (cons_option o (filter_map (listed_at entries) paths))
    by None is rest = rest
    by (Some one) is rest = (goes.0 one (follows path one (listed_at_is P entries path one each is)), rest)

all_any : (paths : List Path) (R : Path → Type 0) → ((path : Path) → R path) → AllByRecursion R paths
all_any [] R each = tt
all_any (path ∷ paths) R each = (each path, all_any paths R each)

-- each listed entry has each property that all entries have
pub listed_is : (P : MountEntry → Type 0) (entries : List MountEntry) → AllByRecursion P entries → AllByRecursion P (listed entries)
listed_is P entries each = listed_each P (λ path one. P one) P entries each (λ path one is. is.own) (paths_of entries)
    (all_any (paths_of entries) (λ path. (one : MountEntry) → P one → P one) (λ path one own. own))

pub listed_among : (entries : List MountEntry) → AllByRecursion (Contains entries) (listed entries)
listed_among entries = listed_is (Contains entries) entries (recursion_from_All (Contains entries) entries (All-contains_itself entries))

all_there : (entries : List MountEntry) → AllByRecursion (λ one. Unit {0}) entries
all_there [] = tt
all_there (one ∷ entries) = (tt, all_there entries)

-- no listed entry lies below a hidden path
pub listed_seen : (entries : List MountEntry) → AllByRecursion (λ one. is_covered entries one.path ≡ false) (listed entries)
listed_seen entries =
    listed_each (λ one. Unit {0}) (λ path one. is_covered entries one.path ≡ false) (λ one. is_covered entries one.path ≡ false) entries
    (all_there entries) (λ path one is. ap (is_covered entries) is.at ∙ is.seen) (paths_of entries)
    (all_any (paths_of entries) (λ path. (one : MountEntry) → is_covered entries one.path ≡ false → is_covered entries one.path ≡ false)
    (λ path one own. own))

-- each listed entry says something new
pub listed_new : (entries : List MountEntry) → AllByRecursion (λ one. is_vain entries one ≡ false) (listed entries)
listed_new entries =
    listed_each (λ one. Unit {0}) (λ path one. is_vain entries one ≡ false) (λ one. is_vain entries one ≡ false) entries
    (all_there entries) (λ path one is. is.new) (paths_of entries)
    (all_any (paths_of entries) (λ path. (one : MountEntry) → is_vain entries one ≡ false → is_vain entries one ≡ false)
    (λ path one own. own))

-- the listed entries are in byte order, and no two are at one path
pub listed_ascends : (entries : List MountEntry) → AreAscending (map (λ one. one.path) (listed entries))
listed_ascends entries = from (paths_of entries) (in_byte_order_ascending (map (λ one. one.path) entries))
  where
    paths_all : (P : Path → Type 0) (found : List MountEntry) → AllByRecursion (λ one. P one.path) found
        → AllByRecursion P (map (λ one. one.path) found)
    paths_all P [] h = tt
    paths_all P (one ∷ found) h = (h.0, paths_all P found h.1)

    later : (first : Path) (paths : List Path) → AllByRecursion (λ path. is_before first path ≡ true) paths
        → AllByRecursion (λ path. is_before first path ≡ true) (map (λ one. one.path) (filter_map (listed_at entries) paths))
    later first paths before = paths_all (λ path. is_before first path ≡ true) (filter_map (listed_at entries) paths)
        (listed_each (λ one. Unit {0}) (λ path one. one.path ≡ path) (λ one. is_before first one.path ≡ true) entries (all_there entries)
        (λ path one is. is.at) paths
        (all_weaker (λ path. is_before first path ≡ true)
        (λ path. (one : MountEntry) → one.path ≡ path → is_before first one.path ≡ true) paths
        (λ path is one same. subst (λ (p : Path). is_before first p ≡ true) (sym same) is) before))

    one_more : (path : Path) (paths : List Path) (o : Option MountEntry) → listed_at entries path ≡ o
        → AllByRecursion (λ later. is_before path later ≡ true) (map (λ one. one.path) (filter_map (listed_at entries) paths))
        → AreAscending (map (λ one. one.path) (filter_map (listed_at entries) paths))
        → AreAscending (map (λ one. one.path) (cons_option o (filter_map (listed_at entries) paths)))
    one_more path paths None is before rest = rest
    one_more path paths (Some one) is before rest =
        let at = (listed_at_is (λ one. Unit {0}) entries path one (all_there entries) is).at in (
          subst (λ (p : Path). AllByRecursion (λ later. is_before p later ≡ true)
              (map (λ one. one.path) (filter_map (listed_at entries) paths))) (sym at) before,
          rest,
        )

    from : (paths : List Path) → AreAscending paths → AreAscending (map (λ one. one.path) (filter_map (listed_at entries) paths))
    from [] up = tt
    from (path ∷ paths) up = one_more path paths (listed_at entries path) refl (later path paths up.0) (from paths up.1)
