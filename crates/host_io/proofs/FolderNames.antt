-- The names of a folder are distinct if the files are a map.
use Rattle.std.proofs.Common.{◌≡◌, ℕ, Bool, true, false, cond, List, [], ◌∷◌, ◌++◌, length, drop, map, Option, Some, None, Ok, Vec, String}
use Rattle.std.proofs.Common.{Global, ◌<◌, ◌≤◌, refl, sym, ap, ◌∙◌, subst}
use Rattle.std.specs.Prelude.{◌&&◌, option_and_then, nat_eq, is_none, find, string_bytes}
use Rattle.std.specs.Option.{option_map}
use Rattle.std.specs.List.{cons_option, starts_with, AllByRecursion, IsDistinct}
use Rattle.std.specs.Str.{bytes_eq}
use Rattle.std.proofs.lemmas.List.Sorted.{IsPermutation-refl}
use Rattle.std.specs.List.Sorted.{IsPermutation}
use Rattle.std.proofs.lemmas.Slice.Eq.{bytes_eq-Decides, starts_is}
use Rattle.std.proofs.lemmas.Bool.{false≢true}
use Rattle.std.proofs.lemmas.Bool.Decides.{Decides-eqb}
use Rattle.host_io.specs.Files.{Files, bytes_at, is_new_path, is_file_map, behind, as_name, name_in, names_in}
use Rattle.host_io.specs.Reading.{Lists}

-- a value that a test lets through is that value
pub some_if : {A : Type 0} (b : Bool) (x y : A) → cond b (Some x) None ≡ Some y → (b ≡ true) × (x ≡ y)
some_if true x y e = (refl, cc)
some_if false x y e = cc

pub behind_is : (front text rest : List ℕ) → behind front text ≡ Some rest → text ≡ front ++ rest
behind_is front text rest e =
    let h = some_if (starts_with nat_eq text front) (drop (length front) text) rest e in
    let s : text ≡ front ++ drop (length front) text = (starts_is Decides-eqb text front _ refl).0 h.0 in
    s ∙ ap (λ r. front ++ r) h.1

pub and_then_some : {A B : Type 0} (o : Option A) (f : A → Option B) (y : B) → option_and_then f o ≡ Some y
    → (x : A) × (o ≡ Some x) × (f x ≡ Some y)
and_then_some None f y e = cc
and_then_some (Some x) f y e = (x, refl, e)

-- a path with a name directly in the folder is the folder, a slash and the name
path_of_name : (folder path name : List ℕ) → name_in folder path ≡ Some name → path ≡ folder ++ 47 ∷ name
path_of_name folder path name h =
    let rest = and_then_some (behind folder path) (λ rest. option_and_then as_name (behind (47 ∷ []) rest)) name h in
    let found = and_then_some (behind (47 ∷ []) rest.0) as_name name rest.2 in
    let same = some_if _ found.0 name found.2 in
    behind_is folder path rest.0 rest.1
    ∙ ap (λ r. folder ++ r) (behind_is (47 ∷ []) rest.0 found.0 found.1 ∙ ap (λ r. 47 ∷ r) same.1)

-- two paths with the same name directly in the folder are the same path
same_path : (folder first second name other : List ℕ) → name_in folder first ≡ Some name → name_in folder second ≡ Some other
    → bytes_eq name other ≡ true → bytes_eq second first ≡ true
same_path folder first second name other f s e =
    let same : name ≡ other = (bytes_eq-Decides name other).0 e in
    (bytes_eq-Decides second first).1
    (path_of_name folder second other s ∙ ap (λ n. folder ++ 47 ∷ n) (sym same) ∙ sym (path_of_name folder first name f))

none_by : {A B : Type 0} (b : Bool) (x : A) (rest : Option A) (f : A → B) → is_none (option_map f (cond b (Some x) rest)) ≡ true
    → (b ≡ false) × (is_none (option_map f rest) ≡ true)
none_by true x rest f e = cc
none_by false x rest f e = (refl, e)

bool_cases : (b : Bool) → (b ≡ true → ⊥) → b ≡ false
bool_cases true h = absurd (h refl)
bool_cases false h = refl

-- if no file has the path, the names of the files differ from its name
module _ (folder path name : List ℕ) where
  differs_from : (file : List ℕ × List ℕ) (found : Option (List ℕ)) → name_in folder file.0 ≡ found → name_in folder path ≡ Some name
      → bytes_eq file.0 path ≡ false → (names : List (List ℕ)) → AllByRecursion (λ other. bytes_eq name other ≡ false) names
      → AllByRecursion (λ other. bytes_eq name other ≡ false) (cons_option found names)
  differs_from file None e h apart names all = all
  differs_from file (Some other) e h apart names all =
      (bool_cases (bytes_eq name other) (λ same. false≢true (sym apart ∙ same_path folder path file.0 name other h e same)), all)

  apart_from : (files : Files) → is_none (bytes_at files path) ≡ true → name_in folder path ≡ Some name
      → AllByRecursion (λ other. bytes_eq name other ≡ false) (names_in files folder)
  apart_from [] none h = tt
  apart_from (file ∷ files) none h =
      let apart = none_by (bytes_eq file.0 path) file (find (λ f. bytes_eq f.0 path) files) (λ f. f.1) none in
      differs_from file (name_in folder file.0) refl h apart.0 (names_in files folder) (apart_from files apart.1 h)

both_true : (a b : Bool) → (a && b) ≡ true → (a ≡ true) × (b ≡ true)
both_true true b e = (refl, e)
both_true false b e = cc

distinct_more : (folder path : List ℕ) (found : Option (List ℕ)) (files : Files) → name_in folder path ≡ found
    → is_none (bytes_at files path) ≡ true → IsDistinct bytes_eq (names_in files folder)
    → IsDistinct bytes_eq (cons_option found (names_in files folder))
unfolding IsDistinct
distinct_more folder path None files e none rest = rest
distinct_more folder path (Some name) files e none rest = (apart_from folder path name files none e, rest)

names_in-distinct : (files : Files) (folder : List ℕ) → is_file_map files ≡ true → IsDistinct bytes_eq (names_in files folder)
unfolding IsDistinct
names_in-distinct [] folder e = tt
names_in-distinct (file ∷ files) folder e =
    let parts = both_true (is_new_path file.0 files) (is_file_map files) e in
    let new = both_true _ (is_none (bytes_at files file.0)) parts.0 in
    distinct_more folder file.0 (name_in folder file.0) files refl new.1 (names_in-distinct files folder parts.1)

-- the answer of a shelf in memory to a listing that finds some names, and not too many
pub lists_names : (files : Files) (folder : List ℕ) (names : Vec (String Global) Global) → is_file_map files ≡ true
    → map string_bytes names.items ≡ names_in files folder → 0 < length (names_in files folder) → length (names_in files folder) ≤ 4096
    → Lists files folder (Ok names)
lists_names files folder names e is some few = record {
  names_of_the_folder = subst (IsPermutation (names_in files folder)) (sym is) (IsPermutation-refl (names_in files folder));
  each_once = names_in-distinct files folder e;
  some_name = some;
  not_too_many = few;
}
