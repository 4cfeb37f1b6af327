-- The files in an answer or a refusal lie at known paths.
use Rattle.std.proofs.Common.{◌≡◌, ℕ, ◌+◌, ◌<◌, ◌≤◌, true, List, [], ◌∷◌, ◌++◌, length, get_or, Result, Ok, Err, map, String, Global, sym}
use Rattle.std.proofs.Common.{ap, ◌∙◌, subst, arith, append-nil}
use Rattle.std.specs.Prelude.{IfOk, string_bytes}
use Rattle.std.specs.List.{All, Contains}
use Rattle.std.specs.Map.{values_of}
use Rattle.std.specs.String.{string_cmp}
use Rattle.std.specs.BTreeMap.{BTreeMap, insert_entry}
use Rattle.std.proofs.lemmas.List.{length-map, get_or-map, length_push}
use Rattle.std.proofs.lemmas.List.Elements.{All-push, All-weaker}
use Rattle.std.proofs.lemmas.Result.{IfOk-weaker}
use Rattle.std.proofs.lemmas.Map.Entries.{length-values_of}
use Rattle.std.proofs.lemmas.Map.Views.{All-values-insert_entry}
use Rattle.dropin_merge.specs.Answers.{IsDropinPath}
use Rattle.dropin_merge.specs.Places.{below}
use Rattle.dropin_merge.specs.Winners.{ends_in_conf}
use Rattle.dropin_merge.specs.Steps.{RefusesAt, file_in, LiesAt, IsLedBy, KeepsTo}
use Rattle.dropin_merge.specs.declared.resolved.UnitFile.{UnitFile}
use Rattle.dropin_merge.specs.declared.files.Found.{Found}
use Rattle.dropin_merge.specs.declared.files.Found.TheVariants.{Missing, Empty, Says}
use Rattle.dropin_merge.specs.declared.errors.ResolveError.{ResolveError}
use Rattle.dropin_merge.specs.declared.errors.ResolveError.TheVariants.{BadName, NotFound, Masked, DropIns, TooLarge, Text, ReadFault}
use Rattle.dropin_merge.specs.declared.errors.ResolveError.TheVariants.{Memory}

-- an element that was read is in the list
pub contains_read : (xs : List (String Global)) (i : ℕ) (x : String Global) (text : List ℕ) → i < length xs → x ≡ get_or xs i x
    → text ≡ string_bytes x → Contains (map string_bytes xs) text
contains_read xs i x text h is said = (
  i,
  subst (λ n. i < n) (sym (length-map xs string_bytes)) h,
  get_or-map string_bytes xs i x text h ∙ ap string_bytes (sym is) ∙ sym said,
)

-- a refusal at some paths is also a refusal at more paths
pub refuses_wider : (T U : Type 0) (P Q : List ℕ → Type 0) (e : ResolveError) → ((path : List ℕ) → P path → Q path)
    → RefusesAt P {T = T} (Err e) → RefusesAt Q {T = U} (Err e)
refuses_wider T U P Q BadName wider h = h
refuses_wider T U P Q NotFound wider h = tt
refuses_wider T U P Q Masked wider h = tt
refuses_wider T U P Q DropIns wider h = tt
refuses_wider T U P Q (TooLarge path) wider h = wider path h
refuses_wider T U P Q (Text path error) wider h = (wider path h.0, h.1)
refuses_wider T U P Q ReadFault wider h = tt
refuses_wider T U P Q Memory wider h = tt

-- ---- the files
module _ (P : UnitFile → Type 0) (fragment : UnitFile) where
  pub led_more : (count : ℕ) (files : List UnitFile) (file : UnitFile) → IsLedBy P fragment count files → P file
      → IsLedBy P fragment (count + 1) (files ++ file ∷ [])
  led_more count files file l p =
      let few : length l.dropins ≤ count = l.few in
      record {
        dropins = l.dropins ++ file ∷ [];
        led = ap (λ fs. fs ++ file ∷ []) l.led;
        few = omega (arith, length_push l.dropins file);
        placed = All-push P l.dropins file l.placed p;
      }

  pub led_upto : (count most : ℕ) (files : List UnitFile) → IsLedBy P fragment count files → count ≤ most → IsLedBy P fragment most files
  led_upto count most files l h =
      let few : length l.dropins ≤ count = l.few in
      record { dropins = l.dropins; led = l.led; few = omega arith; placed = l.placed }

-- one more path was read, and its file exists or is missing
pub led_next : (fragment : UnitFile) (all : List (List ℕ)) (count : ℕ) (done new : List UnitFile) (found : Found) (text : List ℕ)
    → IsLedBy (λ file. Contains all file.path) fragment count done → LiesAt text found → Contains all text → new ≡ done ++ file_in found
    → IsLedBy (λ file. Contains all file.path) fragment (count + 1) new
led_next fragment all count done new Missing text l at here made =
    subst (IsLedBy (λ file. Contains all file.path) fragment (count + 1)) (sym (made ∙ append-nil done))
    (led_upto (λ file. Contains all file.path) fragment count (count + 1) done l (omega arith))
led_next fragment all count done new Empty text l at here made =
    subst (IsLedBy (λ file. Contains all file.path) fragment (count + 1)) (sym (made ∙ append-nil done))
    (led_upto (λ file. Contains all file.path) fragment count (count + 1) done l (omega arith))
led_next fragment all count done new (Says file) text l at here made =
    subst (IsLedBy (λ file. Contains all file.path) fragment (count + 1)) (sym made)
    (led_more (λ file. Contains all file.path) fragment count done file l (subst (Contains all) (sym at) here))

pub led_weaker : (P Q : UnitFile → Type 0) (fragment : UnitFile) (count most : ℕ) (files : List UnitFile)
    → ((file : UnitFile) → P file → Q file) → count ≤ most → IsLedBy P fragment count files → IsLedBy Q fragment most files
led_weaker P Q fragment count most files wider h l =
    let few : length l.dropins ≤ count = l.few in
    record { dropins = l.dropins; led = l.led; few = omega arith; placed = All-weaker P Q wider l.dropins l.placed }

-- ---- the winners
pub insert_keeps : (m n : BTreeMap (String Global) (String Global)) (place name : List ℕ) (key path : String Global)
    → ends_in_conf name ≡ true → string_bytes path ≡ below place name → n.entries ≡ insert_entry string_cmp m.entries key path
    → (places : List (List ℕ)) → Contains places place → KeepsTo places m → KeepsTo places n
insert_keeps m n place name key path conf lies made places placed kept =
    let P : String Global → Type 0 = λ p. IsDropinPath places (string_bytes p) in
    subst (λ es. All P (values_of es)) (sym made)
    (All-values-insert_entry string_cmp key path P m.entries kept
    (record { place = place; name = name; placed = placed; counts = conf; lies = lies }))

-- a property of each path that was read holds of each text among them
pub kept_path : (places : List (List ℕ)) (paths : List (String Global)) → All (λ path. IsDropinPath places (string_bytes path)) paths
    → (text : List ℕ) → Contains (map string_bytes paths) text → IsDropinPath places text
kept_path places paths kept text found =
    let h : found.0 < length paths = subst (λ n. found.0 < n) (length-map paths string_bytes) found.1 in
    at_place found.0 h (sym found.2)
  where
    at_place : (i : ℕ) → i < length paths → text ≡ get_or (map string_bytes paths) i text → IsDropinPath places text
    at_place i h e = of_list paths i h kept e
      where
        of_list : (xs : List (String Global)) (i : ℕ) → i < length xs → All (λ path. IsDropinPath places (string_bytes path)) xs
            → text ≡ get_or (map string_bytes xs) i text → IsDropinPath places text
        of_list [] i h kept e = absurd (omega arith)
        of_list (x ∷ xs) i h kept e =
            subst (IsDropinPath places) (sym (e ∙ get_or-map string_bytes (x ∷ xs) i x text h)) (kept i x h)

pub refuses_weaker : (T : Type 0) (P Q : List ℕ → Type 0) (result : Result T ResolveError) → ((path : List ℕ) → P path → Q path)
    → RefusesAt P {T = T} result → RefusesAt Q {T = T} result
refuses_weaker T P Q (Ok value) wider h = tt
refuses_weaker T P Q (Err e) wider h = refuses_wider T T P Q e wider h

-- the paths that won, as they are read
module _ (places : List (List ℕ)) (m : BTreeMap (String Global) (String Global)) (paths : List (String Global)) (given : paths ≡ values_of m.entries) (kept : KeepsTo places m) where
  pub won_path : (text : List ℕ) → Contains (map string_bytes paths) text → IsDropinPath places text
  won_path text found = kept_path places paths (subst (All (λ path. IsDropinPath places (string_bytes path))) (sym given) kept) text found

  few_paths : length m.entries ≤ 256 → length paths ≤ 256
  few_paths h = subst (λ n. n ≤ 256) (sym (ap length given ∙ length-values_of m.entries)) h

  pub dropins_placed : (fragment : UnitFile) (result : Result (List UnitFile) ResolveError) → length m.entries ≤ 256
      → IfOk result (IsLedBy (λ file. Contains (map string_bytes paths) file.path) fragment (length paths))
      → IfOk result (IsLedBy (λ file. IsDropinPath places file.path) fragment 256)
  dropins_placed fragment result h led =
      IfOk-weaker result (IsLedBy (λ file. Contains (map string_bytes paths) file.path) fragment (length paths))
      (IsLedBy (λ file. IsDropinPath places file.path) fragment 256)
      (λ files l. led_weaker (λ file. Contains (map string_bytes paths) file.path) (λ file. IsDropinPath places file.path) fragment
      (length paths) 256 files (λ file found. won_path file.path found) (few_paths h) l)
      led
