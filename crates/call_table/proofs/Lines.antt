-- The lines of the table, by their names.
use Rattle.std.proofs.Common.{◌≡◌, ℕ, List, [], ◌∷◌, Bool, true, false, Option, Some, None, cond, map, refl, sym, ap, ◌∙◌}
use Rattle.std.specs.Prelude.{find, slice_get, not, option_map, ◌&&◌}
use Rattle.std.specs.Cmp.{decided}
use Rattle.std.specs.List.{IsDistinct, AllByRecursion, list_all}
use Rattle.std.specs.Map.{lookup}
use Rattle.std.specs.Str.{bytes_eq}
use Rattle.std.proofs.lemmas.Bool.{and_parts, not-true}
use Rattle.std.proofs.lemmas.Map.Entries.{lookup_from_place}
use Rattle.std.proofs.lemmas.Slice.Eq.{bytes_eq-Decides}
use Rattle.call_table.specs.call_names.Known.{known_calls, linux_calls, entry_in, known_call}
use Rattle.call_table.specs.declared.call_names.kernel.Kernel.TheVariants.{Base, Linux}
use Rattle.call_table.specs.declared.call_names.known.KnownCall.{KnownCall}

-- tests that no name occurs again after itself
is_distinct : List (List ℕ) → Bool
is_distinct [] = true
is_distinct (name ∷ names) = list_all (λ other. not (bytes_eq name other)) names && is_distinct names

differ : (name : List ℕ) (names : List (List ℕ)) → list_all (λ other. not (bytes_eq name other)) names ≡ true
    → AllByRecursion (λ other. bytes_eq name other ≡ false) names
differ name [] h = tt
differ name (other ∷ names) h = (not-true _ (and_parts _ _ h).0, differ name names (and_parts _ _ h).1)

distinct_by_test : (names : List (List ℕ)) → is_distinct names ≡ true → IsDistinct bytes_eq names
unfolding is_distinct IsDistinct
distinct_by_test [] h = tt
distinct_by_test (name ∷ names) h = (differ name names (and_parts _ _ h).0, distinct_by_test names (and_parts _ _ h).1)

pub once : IsDistinct bytes_eq (map (λ line. line.0) known_calls)
once = distinct_by_test (map (λ line. line.0) known_calls) (unfold is_distinct in refl)

pub once_in_linux : IsDistinct bytes_eq (map (λ line. line.0) linux_calls)
once_in_linux = distinct_by_test (map (λ line. line.0) linux_calls) (unfold is_distinct in refl)

-- the base kernel has its own entry, whatever Linux has
in_base : (own base : Option KnownCall) → entry_in own Base base ≡ base
in_base None base = refl
in_base (Some own) base = refl

pub found : (place : ℕ) (name : List ℕ) (call : KnownCall) → slice_get known_calls place ≡ Some (name, call)
    → known_call Base name ≡ Some call
unfolding known_call
found place name call e =
    in_base (lookup (bytes_eq name) linux_calls) (lookup (bytes_eq name) known_calls)
    ∙ lookup_from_place (decided bytes_eq bytes_eq-Decides) known_calls place name call once e

pub found_in_linux : (place : ℕ) (name : List ℕ) (call : KnownCall) → slice_get linux_calls place ≡ Some (name, call)
    → known_call Linux name ≡ Some call
unfolding known_call
found_in_linux place name call e =
    ap (λ (own : Option KnownCall). entry_in own Linux (lookup (bytes_eq name) known_calls))
    (lookup_from_place (decided bytes_eq bytes_eq-Decides) linux_calls place name call once_in_linux e)

pub as_in_base : (name : List ℕ) → lookup (bytes_eq name) linux_calls ≡ None → known_call Linux name ≡ known_call Base name
unfolding known_call
as_in_base name e =
    ap (λ (own : Option KnownCall). entry_in own Linux (lookup (bytes_eq name) known_calls)) e
    ∙ sym (in_base (lookup (bytes_eq name) linux_calls) (lookup (bytes_eq name) known_calls))

-- a look-up among lines is a search for the line
searched : {X Y : Type 0} (test : List ℕ → Bool) (line_of : X → List ℕ × Y) (lines : List X) →
    lookup test (map line_of lines) ≡ option_map (λ line. (line_of line).1) (find (λ line. test (line_of line).0) lines)
searched test line_of [] = refl
searched test line_of (line ∷ lines) = by (searched test line_of lines) (test (line_of line).0)
  where
    by : lookup test (map line_of lines) ≡ option_map (λ l. (line_of l).1) (find (λ l. test (line_of l).0) lines) →
        (b : Bool) → cond b (Some (line_of line).1) (lookup test (map line_of lines))
        ≡ option_map (λ l. (line_of l).1) (cond b (Some line) (find (λ l. test (line_of l).0) lines))
    by e true = refl
    by e false = e

pub looked_up : {X Y : Type 0} (test : List ℕ → Bool) (line_of : X → List ℕ × Y) (lines : List X) (table : List (List ℕ × Y))
    (line : Option X) → map line_of lines ≡ table → line ≡ find (λ l. test (line_of l).0) lines →
    option_map (λ l. (line_of l).1) line ≡ lookup test table
looked_up test line_of lines table line same found' = ap (option_map (λ l. (line_of l).1)) found' ∙ sym (searched test line_of lines)
    ∙ ap (lookup test) same
