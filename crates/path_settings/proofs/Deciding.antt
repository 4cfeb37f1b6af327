-- The properties of the mention that decides at a path.
use Rattle.std.proofs.Common.{◌≡◌, ℕ, Bool, true, false, List, find, Some, None, ap}
use Rattle.std.specs.Prelude.{nat_le}
use Rattle.std.specs.List.{AllByRecursion, enumerate_from}
use Rattle.abs_path.specs.Paths.{Path}
use Rattle.abs_path.specs.Prefix.{is_prefix}
use Rattle.path_settings.specs.declared.mentions.Kind.{Kind}
use Rattle.path_settings.specs.declared.mentions.Mention.{Mention}
use Rattle.path_settings.specs.Mentions.{is_origin}
use Rattle.path_settings.specs.view_map.View.{Found, leading_to, saying, length_of, longest, is_as_long_as_each, origin_of}
use Rattle.path_settings.proofs.ViewMapLists.{all_weaker, all_enumerated, all_from_test, filter_is, filter_was, filter_none, find_is}
use Rattle.path_settings.proofs.ViewMapLists.{find_passes}

-- the longest mention has each property that all mentions that say this have
pub longest_is : (P : ℕ × Mention → Type 0) (says : Kind → Bool) (found : Found) (one : ℕ × Mention)
    → AllByRecursion (λ other. says other.1.kind ≡ true → P other) found → longest says found ≡ Some one → P one
longest_is P says found one h e = find_is P (is_as_long_as_each (saying says found)) (saying says found) one
    (filter_is (λ other. says other.1.kind) P found h) e

pub longest_none : (says : Kind → Bool) (found : Found) → AllByRecursion (λ one. says one.1.kind ≡ false) found → longest says found ≡ None
longest_none says found h = ap (λ l. find (is_as_long_as_each l) l) (filter_none (λ one. says one.1.kind) found h)

-- the longest mention is as long as each of them
pub longest_covers : (says : Kind → Bool) (found : Found) (best : ℕ × Mention) → longest says found ≡ Some best
    → AllByRecursion (λ one. says one.1.kind ≡ true → nat_le (length_of one) (length_of best) ≡ true) found
longest_covers says found best e =
    filter_was (λ one. says one.1.kind) (λ one. nat_le (length_of one) (length_of best) ≡ true) found
    (all_from_test (λ one. nat_le (length_of one) (length_of best)) (saying says found)
    (find_passes (is_as_long_as_each (saying says found)) (saying says found) best e))

-- the mention that says which object is at a path leads to it, says so, and has each property that all kept mentions have
pub origin_is : (P : Mention → Type 0) (kept : List Mention) (path : Path) (one : ℕ × Mention) → AllByRecursion P kept
    → origin_of kept path ≡ Some one →
    P one.1 × (is_prefix one.1.path path ≡ true) × (is_origin one.1.kind ≡ true)
origin_is P kept path one h e =
    longest_is (λ found. P found.1 × (is_prefix found.1.path path ≡ true) × (is_origin found.1.kind ≡ true)) is_origin
    (leading_to path kept) one
    (filter_is (λ found. is_prefix found.1.path path) (λ found. is_origin found.1.kind ≡ true
    → P found.1 × (is_prefix found.1.path path ≡ true) × (is_origin found.1.kind ≡ true)) (enumerate_from 0 kept)
    (all_weaker (λ found. P found.1) _ (enumerate_from 0 kept) (λ found p leads says. (p, leads, says)) (all_enumerated P 0 kept h))) e
