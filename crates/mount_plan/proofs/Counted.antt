-- A plan has at most one entry more than mentions.
use Rattle.std.proofs.Common.{◌≡◌, ◌⊎◌, inl, inr, ◌+◌, ◌≤◌, Bool, true, false, cond, List, [], ◌∷◌, map, length, Ok, refl, sym, ◌∙◌, subst}
use Rattle.std.proofs.Common.{arith}
use Rattle.std.specs.List.{AllByRecursion}
use Rattle.std.proofs.lemmas.Bool.{false≢true}
use Rattle.path_settings.specs.abs_path.Paths.{Path, is_normal}
use Rattle.path_settings.specs.abs_path.ByteOrder.{is_before, placed, with_placed, in_byte_order, AreAscending}
use Rattle.path_settings.proofs.OfAbsPath.ByteOrder.{not_before_itself, before_trans}
use Rattle.path_settings.proofs.OfAbsPath.Placed.{in_byte_order_is, in_byte_order_was, in_byte_order_ascending}
use Rattle.path_settings.specs.declared.mentions.Mention.{Mention}
use Rattle.path_settings.specs.view_map.Kept.{Host, kept_of}
use Rattle.path_settings.proofs.ViewMapLists.{all_weaker, all_mapped, mapped_all}
use Rattle.path_settings.proofs.KeptLaws.{kept_is}
use Rattle.mount_plan.specs.Plan.{step_at, hides_dir_at, places_of, table_of}
use Rattle.mount_plan.proofs.PlanLaws.{AreNormal, paths_of}

placed_length : (path : Path) (paths : List Path) → length (placed path paths) ≤ length paths + 1
placed_length path [] = omega arith
placed_length path (first ∷ paths) = by (is_before path first) (is_before first path) (placed_length path paths)
  where
    by : (b c : Bool) → length (placed path paths) ≤ length paths + 1
        → length (cond b (path ∷ first ∷ paths) (cond c (first ∷ placed path paths) (first ∷ paths))) ≤ length (first ∷ paths) + 1
    by true c h = omega arith
    by false true h = omega arith
    by false false h = omega arith

pub with_placed_length : (sorted paths : List Path) → length (with_placed sorted paths) ≤ length sorted + length paths
with_placed_length sorted [] = omega arith
with_placed_length sorted (path ∷ paths) = let more = with_placed_length (placed path sorted) paths in let one = placed_length path sorted in omega arith

-- a path is one of a list
abbrev IsOneOf : List Path → Path → Type 0
IsOneOf [] path = ⊥
IsOneOf (first ∷ paths) path = (first ≡ path) ⊎ IsOneOf paths path

each_one_of : (paths : List Path) → AllByRecursion (IsOneOf paths) paths
each_one_of [] = tt
each_one_of (first ∷ paths) =
    (inl refl, all_weaker (IsOneOf paths) (IsOneOf (first ∷ paths)) paths (λ path one. inr one) (each_one_of paths))

-- paths that follow the first are among the rest
among_rest : (first : Path) (rest paths : List Path) → AllByRecursion (IsOneOf (first ∷ rest)) paths
    → AllByRecursion (λ path. is_before first path ≡ true) paths → AllByRecursion (IsOneOf rest) paths
among_rest first rest [] h after = tt
among_rest first rest (path ∷ paths) h after = (
  elim h.0 [
    | inl same ↦ absurd (false≢true (sym (not_before_itself first) ∙ subst (λ (p : Path). is_before first p ≡ true) (sym same) after.0))
    | inr one ↦ one
  ],
  among_rest first rest paths h.1 after.1,
)

has_of : (P : Path → Type 0) (paths : List Path) (path : Path) → AllByRecursion P paths → IsOneOf paths path → P path
has_of P [] path h one = absurd one
has_of P (first ∷ paths) path h one = elim one [
  | inl same ↦ subst P same h.0
  | inr later ↦ has_of P paths path h.1 later
]

-- if one of two lists in byte order has all elements of the other, it is at least as long
as_long : (paths some : List Path) → AreAscending some → AreAscending paths → AllByRecursion (IsOneOf paths) some
    → length some ≤ length paths
as_long [] [] up down h = omega arith
as_long [] (path ∷ some) up down h = absurd h.0
as_long (first ∷ paths) [] up down h = omega arith
as_long (first ∷ paths) (path ∷ some) up down h = elim h.0 [
  | inl same ↦ (let rest = as_long paths some up.1 down.1 (among_rest first paths some h.1 (subst (λ (p : Path). AllByRecursion (λ later. is_before p later ≡ true) some) (sym same) up.0)) in omega arith)
  | inr one ↦ (
      let before = has_of (λ p. is_before first p ≡ true) paths path down.0 one in
      let rest = as_long paths (path ∷ some) up down.1 (one, among_rest first paths some h.1 (all_weaker (λ later. is_before path later ≡ true) (λ later. is_before first later ≡ true) some (λ later after. before_trans first path later before after) up.0)) in
      omega arith)
]

table_length : (kept : List Mention) (is_dir : Path → Bool) (places : List Path) → length (map (step_at kept is_dir) places) ≡ length places
table_length kept is_dir [] = refl
table_length kept is_dir (place ∷ places) = let rest = table_length kept is_dir places in omega arith

pub paths_length : (mentions : List Mention) → length (paths_of mentions) ≡ length mentions
paths_length [] = refl
paths_length (mention ∷ mentions) = let rest = paths_length mentions in omega arith

pub one_more : (row_at : Host) (mentions kept : List Mention) → AreNormal mentions → kept_of row_at mentions ≡ Ok kept
    → length (table_of row_at kept) ≤ length mentions + 1
one_more row_at mentions kept normal e =
    let all : List Path = in_byte_order ([] ∷ paths_of mentions) in
    let each = in_byte_order_was (IsOneOf all) ([] ∷ paths_of mentions) (refl, all_mapped (λ mention. mention.path) (λ path. is_normal path ≡ true) mentions normal) (each_one_of all) in
    let own = in_byte_order_is (IsOneOf all) ([] ∷ paths_of kept) (
      each.0,
      all_mapped (λ mention. mention.path) (IsOneOf all) kept
          (kept_is (λ mention. IsOneOf all mention.path) row_at mentions kept
          (mapped_all (λ mention. mention.path) (IsOneOf all) mentions each.1) e),
    ) in
    let fewer = as_long all (places_of kept) (in_byte_order_ascending ([] ∷ paths_of kept)) (in_byte_order_ascending ([] ∷ paths_of mentions)) own in
    let few = with_placed_length [] ([] ∷ paths_of mentions) in
    omega (arith, table_length kept (hides_dir_at row_at kept) (places_of kept), paths_length mentions, fewer, few)
