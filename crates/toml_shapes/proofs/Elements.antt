-- The elements of an array, and the members of a table, as the program has them.
use Rattle.std.proofs.Common.{◌≡◌, ℕ, Bool, true, false, List, [], ◌∷◌, Some, map, String, Global, string_bytes, refl, sym, ap, ◌∙◌}
use Rattle.std.specs.Prelude.{◌&&◌, ◌||◌, is_some}
use Rattle.std.specs.List.{list_all, list_any}
use Rattle.std.specs.Option.{option_map_or}
use Rattle.std.specs.Str.{bytes_eq}
use Rattle.std.proofs.lemmas.List.Folds.{list_all-map}
use Rattle.toml.specs.Data.{Data, as_array, as_table}
use Rattle.toml.specs.View.{view, items_view, members_view}
use Rattle.toml.specs.declared.value.Value.{Value}
use Rattle.toml_shapes.specs.Tree.{elements, elements_of}
use Rattle.toml_shapes.specs.Keys.{HeldKey, is_held, known, each_member, is_array_of, is_known, has_shape, has_if_needed, has_keys}

pub elements-view : (values : List Value) → elements (items_view values) ≡ map view values
elements-view [] = refl
elements-view (value ∷ values) = ap (λ rest. view value ∷ rest) (elements-view values)

pub each_member-view : (test : List ℕ → Data → Bool) (entries : List (String Global × Value))
    → each_member test (members_view entries) ≡ list_all (λ entry. test (string_bytes entry.0) (view entry.1)) entries
each_member-view test [] = refl
each_member-view test (entry ∷ entries) = ap (λ rest. test (string_bytes entry.0) (view entry.1) && rest) (each_member-view test entries)

pub array_of : (test : Data → Bool) (value : Data) (values : List Value) (answer : Bool) → is_some (as_array value) ≡ true
    → map view values ≡ elements_of value
    → answer ≡ list_all (λ one. test (view one)) values → answer ≡ is_array_of test value
array_of test value values answer array all e =
    e ∙ sym (list_all-map test view values) ∙ ap (list_all test) all ∙ ap (λ b. b && list_all test (elements_of value)) (sym array)

list_any-map : {X Y : Type 0} (test : Y → Bool) (f : X → Y) (xs : List X) → list_any test (map f xs) ≡ list_any (λ x. test (f x)) xs
list_any-map test f [] = refl
list_any-map test f (x ∷ xs) = ap (λ rest. test (f x) || rest) (list_any-map test f xs)

held_is_known : (keys : List HeldKey) (key : List ℕ) (value : Data) → is_held keys key value ≡ is_known (map known keys) key value
unfolding is_held
held_is_known keys key value = sym (list_any-map (λ one. bytes_eq key one.0 && has_shape one.1 value) known keys)

list_all_same : {X : Type 0} (test other : X → Bool) (xs : List X) → ((x : X) → test x ≡ other x) → list_all test xs ≡ list_all other xs
list_all_same test other [] h = refl
list_all_same test other (x ∷ xs) h = ap (λ b. b && list_all test xs) (h x) ∙ ap (λ b. other x && b) (list_all_same test other xs h)

pub keys_are : (keys : List HeldKey) (value : Data) (entries : List (String Global × Value)) (first second : Bool)
    → Some (members_view entries) ≡ as_table value
    → first ≡ list_all (λ entry. is_held keys (string_bytes entry.0) (view entry.1)) entries
    → second ≡ list_all (λ one. has_if_needed one.2 one.0.now value) keys → (first && second) ≡ has_keys (map known keys) value
keys_are keys value entries first second table e f =
    let known_all : first ≡ each_member (is_known (map known keys)) (members_view entries) =
    e ∙ list_all_same _ _ entries (λ entry. held_is_known keys (string_bytes entry.0) (view entry.1))
    ∙ sym (each_member-view (is_known (map known keys)) entries) in
    let first_is : first ≡ option_map_or (each_member (is_known (map known keys))) (as_table value) false =
    known_all ∙ ap (λ found. option_map_or (each_member (is_known (map known keys))) found false) table in
    ap (λ b. b && second) first_is
    ∙ ap (λ b. option_map_or (each_member (is_known (map known keys))) (as_table value) false && b)
    (f ∙ sym (list_all-map (λ one. has_if_needed one.2 one.0 value) known keys))
