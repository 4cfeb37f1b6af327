-- The units that were taken, name by name and folder by folder.
use Rattle.std.proofs.Common.{◌≡◌, ℕ, ◌+◌, ◌<◌, ◌≤◌, Bool, true, false, cond, List, [], ◌∷◌, length, drop, get_or, Option, Some, None, Ok}
use Rattle.std.proofs.Common.{map, Vec, String, Global, Bor, refl, sym, ap, ◌∙◌, subst, arith}
use Rattle.std.specs.Prelude.{◌||◌, nat_lt, flat_map, string_bytes}
use Rattle.std.specs.Option.{option_or}
use Rattle.std.specs.Str.{bytes_eq}
use Rattle.std.specs.String.{string_cmp}
use Rattle.std.specs.List.{list_any}
use Rattle.std.specs.BTreeMap.{BTreeMap, UpdatesBy, get_by_text}
use Rattle.std.proofs.lemmas.List.{drop_more}
use Rattle.std.proofs.lemmas.List.Folds.{list_any-append}
use Rattle.std.proofs.lemmas.List.Sorted.{list_any-IsPermutation}
use Rattle.std.proofs.lemmas.Bool.Decides.{nat_tests}
use Rattle.std.proofs.lemmas.Map.Text.{btree_map_updates_text}
use Rattle.std.proofs.lemmas.Slice.Eq.{bytes_eq-Decides}
use Rattle.unit_inputs.specs.host_io.Agreeing.{ForFiles}
use Rattle.unit_inputs.specs.host_io.Files.{Files, names_in}
use Rattle.unit_inputs.specs.host_io.Reading.{Lists}
use Rattle.unit_inputs.specs.unit_names.Cutting.{name_of}
use Rattle.unit_inputs.specs.unit_names.Names.{Name}
use Rattle.report_text.specs.dropin_merge.Resolving.{is_overfull}
use Rattle.report_text.proofs.OfDropinMerge.Left.{drop_read}
use Rattle.report_text.proofs.OfDropinMerge.Listed.{both_ways}
use Rattle.score_command.specs.fleet_command.fleet_names.Steps.{ListsFolder, unit_among, unit_called}

-- ---- a name
turned : (one other : List ℕ) → bytes_eq one other ≡ bytes_eq other one
turned one other =
    both_ways (bytes_eq one other) (bytes_eq other one) (λ same. (bytes_eq-Decides other one).1 (sym ((bytes_eq-Decides one other).0 same)))
    (λ same. (bytes_eq-Decides one other).1 (sym ((bytes_eq-Decides other one).0 same)))

-- the unit of a name, beside those that are kept
module _ (kept : Option Name) (name q : List ℕ) where
  called_here : (unit : Name) → name_of name ≡ Some unit → (b : Bool) → bytes_eq q name ≡ b
      → cond b (Some unit) kept ≡ option_or (unit_called name q) kept
  called_here unit named true is =
      sym (ap (λ b. option_or (cond b (name_of q) None) kept) is
      ∙ ap (λ found. option_or found kept) (ap name_of ((bytes_eq-Decides q name).0 is) ∙ named))
  called_here unit named false is = sym (ap (λ b. option_or (cond b (name_of q) None) kept) is)

pub unit_taken : (m n : BTreeMap (String Global) Name) (name : List ℕ) (key : String Global) (unit : Name) → string_bytes key ≡ name
    → name_of name ≡ Some unit → UpdatesBy string_cmp (string_cmp key) m n (Some unit)
    → (q : List ℕ) → get_by_text n q ≡ option_or (unit_called name q) (get_by_text m q)
unit_taken m n name key unit same named updates q =
    subst (λ text. name_of text ≡ Some unit → get_by_text n q ≡ option_or (unit_called text q) (get_by_text m q)) same
    (λ own.
    btree_map_updates_text (string_bytes key) m n (Some unit) updates q
    ∙ ap (λ b. cond b (Some unit) (get_by_text m q)) (turned (string_bytes key) q)
    ∙ called_here (get_by_text m q) (string_bytes key) q unit own (bytes_eq q (string_bytes key)) refl)
    named

-- ---- names
-- what is taken behind another is taken with it
pub with_before : (before behind : Bool) (unit kept : Option Name)
    → option_or (cond behind unit None) (option_or (cond before unit None) kept) ≡ option_or (cond (before || behind) unit None) kept
with_before true true None kept = refl
with_before true true (Some unit) kept = refl
with_before true false unit kept = refl
with_before false behind unit kept = refl

pub names_more : (m n : BTreeMap (String Global) Name) (names : List (String Global)) (i : ℕ) (name : String Global) (text : List ℕ)
    (whole : Option Name) (q : List ℕ)
    → i < length names → name ≡ get_or names i name → text ≡ string_bytes name
    → option_or (unit_among (map string_bytes (drop i names)) q) (get_by_text m q) ≡ whole
    → get_by_text n q ≡ option_or (unit_called text q) (get_by_text m q)
    → option_or (unit_among (map string_bytes (drop (i + 1) names)) q) (get_by_text n q) ≡ whole
names_more m n names i name text whole q h is said left step =
    let rest = map string_bytes (drop (i + 1) names) in
    ap (option_or (unit_among rest q)) (step ∙ ap (λ t. option_or (unit_called t q) (get_by_text m q)) said)
    ∙ with_before (bytes_eq q (string_bytes name)) (list_any (bytes_eq q) rest) (name_of q) (get_by_text m q)
    ∙ ap (λ own. option_or (unit_among (map string_bytes own) q) (get_by_text m q)) (sym (drop_read names i name h is))
    ∙ left

pub names_all : (m : BTreeMap (String Global) Name) (left : List (String Global)) (whole : Option Name) (q : List ℕ) → left ≡ []
    → option_or (unit_among (map string_bytes left) q) (get_by_text m q) ≡ whole → get_by_text m q ≡ whole
names_all m left whole q none is = ap (λ own. option_or (unit_among (map string_bytes own) q) (get_by_text m q)) (sym none) ∙ is

-- ---- folders
few_files : (n : ℕ) → n ≤ 4096 → nat_lt 4096 n ≡ false
few_files n h = grind (arith, nat_tests)

-- what a listing answers
pub lists_folder : (agrees : Files → Type 0) (folder : List ℕ) (names : Vec (String Global) Global) → ForFiles agrees (λ files. Lists files folder (Ok names))
    → ForFiles agrees (λ files. ListsFolder (names_in files folder) (Ok names))
lists_folder agrees folder names listed files agree = (
  λ q. sym (list_any-IsPermutation (bytes_eq q) (names_in files folder) (map string_bytes names.items) (listed files agree).names_of_the_folder),
  few_files (length (names_in files folder)) (listed files agree).not_too_many,
)

-- the units of the folders that are listed, with those of the folders that are left
pub record Collected (files : Files) (m : BTreeMap (String Global) Name) (left all : List (List ℕ)) : Type 0 where
  pub units : (q : List ℕ) → option_or (unit_among (flat_map (names_in files) left) q) (get_by_text m q)
      ≡ unit_among (flat_map (names_in files) all) q
  pub overfull : list_any (is_overfull files) left ≡ list_any (is_overfull files) all

pub collected_more : (files : Files) (m n : BTreeMap (String Global) Name) (folder : List ℕ) (left all : List (List ℕ))
    (names : Vec (String Global) Global)
    → Collected files m (folder ∷ left) all
    → ListsFolder (names_in files folder) (Ok names)
    → ((q : List ℕ) → get_by_text n q ≡ option_or (unit_among (map string_bytes names.items) q) (get_by_text m q))
    → Collected files n left all
collected_more files m n folder left all names before listed step = record {
  units = λ q.
      let behind = flat_map (names_in files) left in
      ap (option_or (unit_among behind q)) (step q ∙ ap (λ b. option_or (cond b (name_of q) None) (get_by_text m q)) (listed.0 q))
      ∙ with_before (list_any (bytes_eq q) (names_in files folder)) (list_any (bytes_eq q) behind) (name_of q) (get_by_text m q)
      ∙ ap (λ b. option_or (cond b (name_of q) None) (get_by_text m q)) (sym (list_any-append (bytes_eq q) (names_in files folder) behind))
      ∙ before.units q;
  overfull = ap (λ b. b || list_any (is_overfull files) left) (sym listed.1) ∙ before.overfull;
}

-- a turn of the loop over folders
pub texts_left : (folders : List (Bor (List ℕ))) (i : ℕ) (d : Bor (List ℕ)) → i < length folders
    → map (λ folder. folder.now) (drop i folders) ≡ (get_or folders i d).now ∷ map (λ folder. folder.now) (drop (i + 1) folders)
texts_left folders i d h = ap (map (λ (folder : Bor (List ℕ)). folder.now)) (drop_more folders i d h)

pub collected_turn : (files : Files) (agrees : Files → Type 0) (m n : BTreeMap (String Global) Name) (folders : List (Bor (List ℕ))) (i : ℕ)
    (d : Bor (List ℕ)) (names : Vec (String Global) Global) (slice : List (String Global)) (all : List (List ℕ))
    → agrees files → i < length folders → slice ≡ names.items
    → ForFiles agrees (λ files. ListsFolder (names_in files (get_or folders i d).now) (Ok names))
    → ((q : List ℕ) → get_by_text n q ≡ option_or (unit_among (map string_bytes slice) q) (get_by_text m q))
    → Collected files m (map (λ folder. folder.now) (drop i folders)) all
    → Collected files n (map (λ folder. folder.now) (drop (i + 1) folders)) all
collected_turn files agrees m n folders i d names slice all known h sliced listed step before =
    collected_more files m n (get_or folders i d).now (map (λ folder. folder.now) (drop (i + 1) folders)) all names
    (subst (λ left. Collected files m left all) (texts_left folders i d h) before)
    (listed files known)
    (λ q. step q ∙ ap (λ own. option_or (unit_among (map string_bytes own) q) (get_by_text m q)) sliced)
