-- The winners of the places listed so far, with the winners of the remaining places.
use Rattle.std.proofs.Common.{◌≡◌, ℕ, ◌+◌, ◌<◌, ◌≤◌, false, List, [], ◌∷◌, length, drop, get_or, Option, Some, None, Ok, map, Vec, String}
use Rattle.std.proofs.Common.{Global, sym, ap, ◌∙◌, subst, arith}
use Rattle.std.specs.Prelude.{◌&&◌, ◌||◌, nat_lt, cond, string_bytes}
use Rattle.std.specs.Option.{option_or}
use Rattle.std.specs.Str.{bytes_eq}
use Rattle.std.specs.List.{list_any}
use Rattle.std.specs.BTreeMap.{BTreeMap}
use Rattle.std.proofs.lemmas.Bool.Decides.{nat_tests}
use Rattle.std.proofs.lemmas.List.Sorted.{list_any-IsPermutation}
use Rattle.host_io.specs.Agreeing.{ForFiles}
use Rattle.host_io.specs.Files.{Files, names_in}
use Rattle.host_io.specs.Reading.{Lists}
use Rattle.dropin_merge.specs.Places.{below}
use Rattle.dropin_merge.specs.Winners.{ends_in_conf, winner_among}
use Rattle.dropin_merge.specs.Resolving.{is_overfull}
use Rattle.dropin_merge.specs.Steps.{winner_at, at_name, at_place, ListsPlace}
use Rattle.dropin_merge.proofs.Left.{drop_read, left_more}
use Rattle.dropin_merge.proofs.Winning.{winner_among-cons, option_or_assoc, option_or-none, at_place-cons, at_place-nil}

few_files : (n : ℕ) → n ≤ 4096 → nat_lt 4096 n ≡ false
few_files n h = grind (arith, nat_tests)

-- a listing answers the names of a place
pub lists_place : (agrees : Files → Type 0) (folder : List ℕ) (names : Vec (String Global) Global) → ForFiles agrees (λ files. Lists files folder (Ok names))
    → ForFiles agrees (λ files. ListsPlace (names_in files folder) (Ok names))
lists_place agrees folder names listed files agree =
    let h = listed files agree in (
      λ q. sym (list_any-IsPermutation (bytes_eq q) (names_in files folder) (map string_bytes names.items) h.names_of_the_folder),
      few_files (length (names_in files folder)) h.not_too_many,
    )

-- ---- the names of a place
pub names_more : (place : List ℕ) (m n : BTreeMap (String Global) (String Global)) (names : List (String Global)) (i : ℕ)
    (name : String Global) (text : List ℕ) (whole : Option (List ℕ)) (q : List ℕ)
    → i < length names → name ≡ get_or names i name → text ≡ string_bytes name
    → option_or (winner_at m q) (at_place place (map string_bytes (drop i names)) q) ≡ whole
    → winner_at n q ≡ option_or (winner_at m q) (at_name place text q)
    → option_or (winner_at n q) (at_place place (map string_bytes (drop (i + 1) names)) q) ≡ whole
names_more place m n names i name text whole q h is said inv step =
    let rest = map string_bytes (drop (i + 1) names) in
    ap (λ o. option_or o (at_place place rest q)) (step ∙ ap (λ t. option_or (winner_at m q) (at_name place t q)) said)
    ∙ option_or_assoc (winner_at m q) (at_name place (string_bytes name) q) (at_place place rest q)
    ∙ ap (option_or (winner_at m q)) (sym (at_place-cons place (string_bytes name) rest q))
    ∙ ap (λ ns. option_or (winner_at m q) (at_place place (map string_bytes ns) q)) (sym (drop_read names i name h is))
    ∙ inv

pub names_all : (place : List ℕ) (m : BTreeMap (String Global) (String Global)) (left : List (String Global)) (whole : Option (List ℕ))
    (q : List ℕ) → left ≡ [] → option_or (winner_at m q) (at_place place (map string_bytes left) q) ≡ whole → winner_at m q ≡ whole
names_all place m left whole q none inv =
    sym (option_or-none (winner_at m q)) ∙ ap (option_or (winner_at m q)) (sym (at_place-nil place q))
    ∙ ap (λ ns. option_or (winner_at m q) (at_place place (map string_bytes ns) q)) (sym none) ∙ inv

-- ---- the places
pub record Collected (files : Files) (m : BTreeMap (String Global) (String Global)) (left all : List (List ℕ)) : Type 0 where
  pub winners : (q : List ℕ) → option_or (winner_at m q) (winner_among files left q) ≡ winner_among files all q
  pub overfull : list_any (is_overfull files) left ≡ list_any (is_overfull files) all

same_place : (place : List ℕ) (listed names : List (List ℕ)) (q : List ℕ) → list_any (bytes_eq q) listed ≡ list_any (bytes_eq q) names
    → at_place place listed q ≡ at_place place names q
same_place place listed names q e = ap (λ b. cond (ends_in_conf q && b) (Some (below place q)) None) e

pub collected_more : (files : Files) (m n : BTreeMap (String Global) (String Global)) (place : List ℕ) (left all : List (List ℕ))
    (names : Vec (String Global) Global)
    → Collected files m (place ∷ left) all
    → ListsPlace (names_in files place) (Ok names)
    → ((q : List ℕ) → winner_at n q ≡ option_or (winner_at m q) (at_place place (map string_bytes names.items) q))
    → Collected files n left all
collected_more files m n place left all names inv listed step = record {
  winners = λ q.
      ap (λ o. option_or o (winner_among files left q)) (step q
      ∙ ap (option_or (winner_at m q)) (same_place place (map string_bytes names.items) (names_in files place) q (listed.0 q)))
      ∙ option_or_assoc (winner_at m q) (at_place place (names_in files place) q) (winner_among files left q)
      ∙ ap (option_or (winner_at m q)) (sym (winner_among-cons files place left q))
      ∙ inv.winners q;
  overfull = ap (λ b. b || list_any (is_overfull files) left) (sym listed.1) ∙ inv.overfull;
}

-- a turn of the loop over places
pub collected_turn : (files : Files) (agrees : Files → Type 0) (m n : BTreeMap (String Global) (String Global))
    (places : List (String Global)) (i : ℕ) (place : String Global) (text again : List ℕ) (names : Vec (String Global) Global)
    (slice : List (String Global)) (all : List (List ℕ))
    → agrees files
    → i < length places → place ≡ get_or places i place → text ≡ string_bytes place → again ≡ string_bytes place
    → slice ≡ names.items
    → ForFiles agrees (λ files. ListsPlace (names_in files text) (Ok names))
    → ((q : List ℕ) → winner_at n q ≡ option_or (winner_at m q) (at_place again (map string_bytes slice) q))
    → Collected files m (map string_bytes (drop i places)) all
    → Collected files n (map string_bytes (drop (i + 1) places)) all
collected_turn files agrees m n places i place text again names slice all e h is said said_again sliced listed step inv =
    collected_more files m n text (map string_bytes (drop (i + 1) places)) all names
    (subst (λ left. Collected files m left all) (left_more places i place text h is said) inv)
    (listed files e)
    (λ q. step q ∙ ap (λ t. option_or (winner_at m q) (at_place t (map string_bytes slice) q)) (said_again ∙ sym said)
    ∙ ap (λ ns. option_or (winner_at m q) (at_place text (map string_bytes ns) q)) sliced)
