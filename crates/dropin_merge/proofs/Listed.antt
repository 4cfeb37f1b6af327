-- A folder lists a name exactly if the path of the name exists.
use Rattle.std.proofs.Common.{◌≡◌, ℕ, Bool, true, false, cond, List, [], ◌∷◌, ◌++◌, length, drop, Option, Some, None, refl, sym, ap, ◌∙◌}
use Rattle.std.specs.Prelude.{◌&&◌, ◌||◌, not, ◌==◌, option_and_then, nat_eq, is_some, find}
use Rattle.std.specs.Option.{option_map, option_map_or}
use Rattle.std.specs.List.{cons_option, starts_with, list_any}
use Rattle.std.specs.Str.{bytes_eq}
use Rattle.std.proofs.lemmas.Slice.Eq.{bytes_eq-Decides, starts_is}
use Rattle.std.proofs.lemmas.Bool.Decides.{Decides-eqb}
use Rattle.std.proofs.lemmas.List.{drop_at}
use Rattle.host_io.specs.Files.{Files, behind, as_name, name_in, names_in}
use Rattle.host_io.proofs.FolderNames.{some_if, behind_is, and_then_some}
use Rattle.dropin_merge.specs.Places.{below}
use Rattle.dropin_merge.specs.Winners.{is_there, ends_in_conf, is_conf}

pub below_is : (folder name : List ℕ) → below folder name ≡ folder ++ 47 ∷ name
below_is folder name = refl

-- two tests are equal if each implies the other
pub both_ways : (a b : Bool) → (a ≡ true → b ≡ true) → (b ≡ true → a ≡ true) → a ≡ b
both_ways true b f g = sym (f refl)
both_ways false true f g = g refl
both_ways false false f g = refl

behind_front : (front rest : List ℕ) → behind front (front ++ rest) ≡ Some rest
behind_front front rest =
    let starts : starts_with nat_eq (front ++ rest) front ≡ true = (starts_is Decides-eqb (front ++ rest) front _ refl).1 rest refl in
    ap (λ b. cond b (Some (drop (length front) (front ++ rest))) None) starts ∙ ap Some (drop_at front rest (length front) refl)

-- a text that is a name is its own name
name_is : (name : List ℕ) → is_some (as_name name) ≡ true → as_name name ≡ Some name
name_is name h = by_test (not (length name == 0) && not (list_any (λ b. b == 47) name)) h
  where
    by_test : (b : Bool) → is_some (cond b (Some name) None) ≡ true → cond b (Some name) None ≡ Some name
    by_test true h = refl
    by_test false h = cc

name_in-below : (folder name : List ℕ) → is_some (as_name name) ≡ true → name_in folder (below folder name) ≡ Some name
name_in-below folder name h =
    ap (name_in folder) (below_is folder name)
    ∙ ap (λ o. option_and_then (λ rest. option_and_then as_name (behind (47 ∷ []) rest)) o) (behind_front folder (47 ∷ name))
    ∙ ap (λ o. option_and_then as_name o) (behind_front (47 ∷ []) name) ∙ name_is name h

-- a path with a name directly in the folder
parts_of_name : (folder path name : List ℕ) → name_in folder path ≡ Some name → (is_some (as_name name) ≡ true) × (path ≡ below folder name)
parts_of_name folder path name h =
    let rest = and_then_some (behind folder path) (λ rest. option_and_then as_name (behind (47 ∷ []) rest)) name h in
    let found = and_then_some (behind (47 ∷ []) rest.0) as_name name rest.2 in
    let same = some_if _ found.0 name found.2 in
    let named : is_some (as_name name) ≡ true = ap (λ n. is_some (as_name n)) (sym same.1) ∙ ap is_some found.2 in (
      named,
      behind_is folder path rest.0 rest.1
          ∙ ap (λ r. folder ++ r) (behind_is (47 ∷ []) rest.0 found.0 found.1 ∙ ap (λ r. 47 ∷ r) same.1)
          ∙ sym (below_is folder name),
    )

module _ (folder q : List ℕ) where
  -- whether a name that is found is q
  hits : Option (List ℕ) → Bool
  hits found = option_map_or (λ other. bytes_eq q other) found false

  hit_there : (path : List ℕ) (found : Option (List ℕ)) → name_in folder path ≡ found → hits found ≡ true
      → (is_some (as_name q) && bytes_eq path (below folder q)) ≡ true
  unfolding hits
  hit_there path None e h = cc
  hit_there path (Some other) e h =
      let same : q ≡ other = (bytes_eq-Decides q other).0 h in
      let parts = parts_of_name folder path other e in
      let named : is_some (as_name q) ≡ true = ap (λ n. is_some (as_name n)) same ∙ parts.0 in
      let lies : bytes_eq path (below folder q) ≡ true = (bytes_eq-Decides path (below folder q)).1 (parts.1 ∙ ap (below folder) (sym same)) in
      ap (λ b. b && bytes_eq path (below folder q)) named ∙ lies

  both_true : (a b : Bool) → (a && b) ≡ true → (a ≡ true) × (b ≡ true)
  both_true true b e = (refl, e)
  both_true false b e = cc

  there_hit : (path : List ℕ) → (is_some (as_name q) && bytes_eq path (below folder q)) ≡ true → hits (name_in folder path) ≡ true
  unfolding hits
  there_hit path h =
      let parts = both_true _ _ h in
      let lies : path ≡ below folder q = (bytes_eq-Decides path (below folder q)).0 parts.1 in
      ap hits (ap (name_in folder) lies ∙ name_in-below folder q parts.0) ∙ (bytes_eq-Decides q q).1 refl

  any_more : (found : Option (List ℕ)) (names : List (List ℕ))
      → list_any (bytes_eq q) (cons_option found names) ≡ (hits found || list_any (bytes_eq q) names)
  unfolding hits
  any_more None names = refl
  any_more (Some other) names = refl

  there_more : (b : Bool) (file : List ℕ × List ℕ) (rest : Option (List ℕ × List ℕ))
      → is_some (option_map (λ f. f.1) (cond b (Some file) rest)) ≡ (b || is_some (option_map (λ f. f.1) rest))
  there_more true file rest = refl
  there_more false file rest = refl

  either : (n b t : Bool) → ((n && b) || (n && t)) ≡ (n && (b || t))
  either true b t = refl
  either false b t = refl

  -- the names of a folder have q exactly if q is a name and its path exists
  pub listed_there : (files : Files) → list_any (bytes_eq q) (names_in files folder)
      ≡ (is_some (as_name q) && is_there files (below folder q))
  listed_there [] = none_there (is_some (as_name q))
    where
      none_there : (n : Bool) → false ≡ (n && false)
      none_there true = refl
      none_there false = refl
  listed_there (file ∷ files) =
      any_more (name_in folder file.0) (names_in files folder)
      ∙ ap (λ b. b || list_any (bytes_eq q) (names_in files folder))
      (both_ways _ _ (hit_there file.0 (name_in folder file.0) refl) (there_hit file.0))
      ∙ ap (λ b. (is_some (as_name q) && bytes_eq file.0 (below folder q)) || b) (listed_there files)
      ∙ either (is_some (as_name q)) (bytes_eq file.0 (below folder q)) (is_there files (below folder q))
      ∙ ap (λ b. is_some (as_name q) && b)
      (sym (there_more (bytes_eq file.0 (below folder q)) file (find (λ f. bytes_eq f.0 (below folder q)) files)))

-- the same holds of the names that end in `.conf`
pub conf_there : (files : Files) (folder q : List ℕ) → (ends_in_conf q && list_any (bytes_eq q) (names_in files folder))
    ≡ (is_conf q && is_there files (below folder q))
conf_there files folder q =
    ap (λ b. ends_in_conf q && b) (listed_there folder q files)
    ∙ in_turn (ends_in_conf q) (is_some (as_name q)) (is_there files (below folder q))
  where
    in_turn : (e n t : Bool) → (e && (n && t)) ≡ ((n && e) && t)
    in_turn true true t = refl
    in_turn true false t = refl
    in_turn false true t = refl
    in_turn false false t = refl
