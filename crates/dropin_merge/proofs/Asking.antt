-- The parts of a unit are read by these calls.
use Rattle.std.proofs.Common.{◌≡◌, ℕ, ◌+◌, ◌<◌, Bool, true, false, cond, List, [], ◌∷◌, length, drop, get_or, Option, Some, None, Result}
use Rattle.std.proofs.Common.{Ok, Err, map, Vec, String, Global, refl, sym, ap, ◌∙◌, subst}
use Rattle.std.specs.Prelude.{IsErrOf, is_some, string_bytes, unwrap_or}
use Rattle.host_io.specs.declared.reading.ShelfError.{ShelfError}
use Rattle.host_io.specs.Agreeing.{ForFiles}
use Rattle.host_io.specs.Calls.{Ask, ShelfCall, call_of, course_of, Course, Whole, Cut, AsksExactly, NamesIn, up_to}
use Rattle.host_io.specs.Files.{Files, bytes_at, names_in}
use Rattle.host_io.proofs.Calling.{Going, goes_on, one_call, stops_there, went_cut}
use Rattle.dropin_merge.specs.Answers.{IsUnlessFailed}
use Rattle.dropin_merge.specs.Asking.{course, dropin_asks, folder_asks, fragment_asks, is_refusal, is_refused, unit_file}
use Rattle.dropin_merge.specs.Judging.{fragment_judged, is_empty, judged}
use Rattle.dropin_merge.specs.Resolving.{fragment_of, fragment_read, is_overfull}
use Rattle.dropin_merge.specs.Steps.{ListsPlace, file_at, says}
use Rattle.dropin_merge.specs.Winners.{is_there}
use Rattle.dropin_merge.specs.declared.resolved.UnitFile.{UnitFile}
use Rattle.dropin_merge.specs.declared.files.Found.{Found}
use Rattle.dropin_merge.specs.declared.files.Found.TheVariants.{Missing, Empty, Says}
use Rattle.dropin_merge.specs.declared.errors.ResolveError.{ResolveError}
use Rattle.dropin_merge.specs.declared.errors.ResolveError.TheVariants.{BadName, NotFound, Masked, DropIns, TooLarge, Text, ReadFault}
use Rattle.dropin_merge.specs.declared.errors.ResolveError.TheVariants.{Memory}
use Rattle.dropin_merge.proofs.Left.{left_more}

-- ---- one call
module _ {S : Type 0} (asks : S → ShelfCall → S → Type 0) (a b : S) (ask : Ask) where
  -- the course of one call, by the answer of the shelf
  pub call_ends : {T : Type 0} (result end : Result T ShelfError) → result ≡ end → asks a (call_of ask result) b
      → AsksExactly asks a b (ask ∷ []) (course_of end)
  call_ends result end is made = subst (AsksExactly asks a b (ask ∷ [])) (ap course_of is) (one_call asks a b ask result made)

  -- a file is judged after it was read
  pub judged_then : (T U : Type 0) (e : ResolveError) → (IsErrOf {T = U} (Err e) ReadFault → ⊥) → AsksExactly asks a b (ask ∷ []) Whole
      → AsksExactly asks a b (ask ∷ []) (course {T = T} (Err e))
  judged_then T U BadName quiet made = made
  judged_then T U NotFound quiet made = made
  judged_then T U Masked quiet made = made
  judged_then T U DropIns quiet made = made
  judged_then T U (TooLarge path) quiet made = made
  judged_then T U (Text path error) quiet made = made
  judged_then T U ReadFault quiet made = absurd (quiet refl)
  judged_then T U Memory quiet made = went_cut asks a b (ask ∷ []) made

-- ---- answers about a path
not_missing : (b : Bool) (r : Result UnitFile ResolveError) → cond b (Ok Empty) (says r) ≡ Ok Missing → ⊥
not_missing true r e = cc
not_missing false (Ok file) e = cc
not_missing false (Err refusal) e = cc

pub missing_is : (text : List ℕ) (o : Option (List ℕ)) → file_at text o ≡ Ok Missing → is_some o ≡ false
missing_is text None e = refl
missing_is text (Some bytes) e = absurd (not_missing (is_empty bytes) (judged text bytes) e)

pub there_if : (text : List ℕ) (o : Option (List ℕ)) (r : Result Found ResolveError) → file_at text o ≡ r → (r ≡ Ok Missing → ⊥)
    → is_some o ≡ true
there_if text None r e other = absurd (other (sym e))
there_if text (Some bytes) r e other = refl

pub refused_is_there : (text : List ℕ) (o : Option (List ℕ)) (e : ResolveError) → IsUnlessFailed {T = Found} (Err e) (file_at text o)
    → course {T = Found} (Err e) ≡ Whole → is_some o ≡ true
refused_is_there text o BadName h whole = there_if text o (Err BadName) h (λ e. cc)
refused_is_there text o NotFound h whole = there_if text o (Err NotFound) h (λ e. cc)
refused_is_there text o Masked h whole = there_if text o (Err Masked) h (λ e. cc)
refused_is_there text o DropIns h whole = there_if text o (Err DropIns) h (λ e. cc)
refused_is_there text o (TooLarge path) h whole = there_if text o (Err (TooLarge path)) h (λ e. cc)
refused_is_there text o (Text path error) h whole = there_if text o (Err (Text path error)) h (λ e. cc)
refused_is_there text o ReadFault h whole = cc
refused_is_there text o Memory h whole = cc

pub refused_is_refused : (r : Result Found ResolveError) (e : ResolveError) → IsUnlessFailed {T = Found} (Err e) r
    → course {T = Found} (Err e) ≡ Whole → is_refusal r ≡ true
refused_is_refused r BadName h whole = ap is_refusal h
refused_is_refused r NotFound h whole = ap is_refusal h
refused_is_refused r Masked h whole = ap is_refusal h
refused_is_refused r DropIns h whole = ap is_refusal h
refused_is_refused r (TooLarge path) h whole = ap is_refusal h
refused_is_refused r (Text path error) h whole = ap is_refusal h
refused_is_refused r ReadFault h whole = cc
refused_is_refused r Memory h whole = cc

pub refused_is_overfull : (files : Files) (place : List ℕ) (e : ResolveError) → ListsPlace (names_in files place) (Err e)
    → course {T = Vec (String Global) Global} (Err e) ≡ Whole → is_overfull files place ≡ true
refused_is_overfull files place BadName h whole = absurd h
refused_is_overfull files place NotFound h whole = absurd h
refused_is_overfull files place Masked h whole = absurd h
refused_is_overfull files place DropIns h whole = h
refused_is_overfull files place (TooLarge path) h whole = absurd h
refused_is_overfull files place (Text path error) h whole = absurd h
refused_is_overfull files place ReadFault h whole = cc
refused_is_overfull files place Memory h whole = cc

-- the course of an error is the same for every wanted value
pub course_as : (T U : Type 0) (e : ResolveError) → course {T = T} (Err e) ≡ course {T = U} (Err e)
course_as T U BadName = refl
course_as T U NotFound = refl
course_as T U Masked = refl
course_as T U DropIns = refl
course_as T U (TooLarge path) = refl
course_as T U (Text path error) = refl
course_as T U ReadFault = refl
course_as T U Memory = refl

-- ---- texts in turn, up to the first with a property
module _ {S : Type 0} (asks : S → ShelfCall → S → Type 0) (is_last : List ℕ → Bool) (ask : List ℕ → Ask) (whole : List Ask) (a b c : S) (xs : List (String Global)) (i : ℕ) (x : String Global) (text : List ℕ) where
  pub text_more : i < length xs → x ≡ get_or xs i x → text ≡ string_bytes x → is_last text ≡ false
      → Going asks a b whole (map ask (up_to is_last (map string_bytes (drop i xs)))) → AsksExactly asks b c (ask text ∷ []) Whole
      → Going asks a c whole (map ask (up_to is_last (map string_bytes (drop (i + 1) xs))))
  text_more h is said other going made =
      goes_on asks is_last ask a b c whole text (map string_bytes (drop (i + 1) xs)) other
      (subst (λ left. Going asks a b whole (map ask (up_to is_last left))) (left_more xs i x text h is said) going) made

  pub text_stops : (how : Course) → i < length xs → x ≡ get_or xs i x → text ≡ string_bytes x → (how ≡ Whole → is_last text ≡ true)
      → Going asks a b whole (map ask (up_to is_last (map string_bytes (drop i xs)))) → AsksExactly asks b c (ask text ∷ []) how
      → AsksExactly asks a c whole how
  text_stops how h is said last going made =
      stops_there asks is_last ask a b c whole text (map string_bytes (drop (i + 1) xs)) how last
      (subst (λ left. Going asks a b whole (map ask (up_to is_last left))) (left_more xs i x text h is said) going) made

-- ---- the loops
module _ {S : Type 0} (asks : S → ShelfCall → S → Type 0) (between agrees : Files → Type 0) (stays : ForFiles agrees between) (a b c : S) (xs : List (String Global)) (i : ℕ) (x : String Global) (text : List ℕ) (h : i < length xs) (is : x ≡ get_or xs i x) (said : text ≡ string_bytes x) where
  -- the fragment is not at this path
  pub fragment_more : ForFiles agrees (λ files. IsUnlessFailed {T = Found} (Ok Missing) (file_at text (bytes_at files text)))
      → AsksExactly asks b c (unit_file text ∷ []) Whole
      → ((files : Files) → between files → Going asks a b (fragment_asks files (map string_bytes xs))
      (fragment_asks files (map string_bytes (drop i xs))))
      → (files : Files) → agrees files → Going asks a c (fragment_asks files (map string_bytes xs))
      (fragment_asks files (map string_bytes (drop (i + 1) xs)))
  fragment_more read made going files known =
      text_more asks (is_there files) unit_file (fragment_asks files (map string_bytes xs)) a b c xs i x text h is said
      (missing_is text (bytes_at files text)
      (read files known))
      (going files (stays files known)) made

  -- the fragment is at this path
  pub fragment_found : (found : Found) → (found ≡ Missing → ⊥)
      → ForFiles agrees (λ files. IsUnlessFailed {T = Found} (Ok found) (file_at text (bytes_at files text)))
      → AsksExactly asks b c (unit_file text ∷ []) Whole
      → ((files : Files) → between files → Going asks a b (fragment_asks files (map string_bytes xs))
      (fragment_asks files (map string_bytes (drop i xs))))
      → ForFiles agrees (λ files. AsksExactly asks a c (fragment_asks files (map string_bytes xs)) Whole)
  fragment_found found other read made going =
      (λ files known.
      text_stops asks (is_there files) unit_file (fragment_asks files (map string_bytes xs)) a b c xs i x text Whole h is said
      (λ whole. there_if text (bytes_at files text) (Ok found)
      (read files known)
      (λ e. other (cc)))
      (going files (stays files known)) made)

  pub fragment_stops : (e : ResolveError) → ForFiles agrees (λ files. IsUnlessFailed {T = Found} (Err e) (file_at text (bytes_at files text)))
      → AsksExactly asks b c (unit_file text ∷ []) (course {T = Found} (Err e))
      → ((files : Files) → between files → Going asks a b (fragment_asks files (map string_bytes xs))
      (fragment_asks files (map string_bytes (drop i xs))))
      → ForFiles agrees (λ files. AsksExactly asks a c (fragment_asks files (map string_bytes xs)) (course {T = UnitFile} (Err e)))
  fragment_stops e read made going =
      (λ files known.
      subst (AsksExactly asks a c (fragment_asks files (map string_bytes xs))) (course_as Found UnitFile e)
      (text_stops asks (is_there files) unit_file (fragment_asks files (map string_bytes xs)) a b c xs i x text
      (course {T = Found} (Err e)) h is said
      (refused_is_there text (bytes_at files text) e
      (read files known))
      (going files (stays files known)) made))

  -- a drop-in is not refused
  pub dropin_more : (found : Found) → ForFiles agrees (λ files. IsUnlessFailed {T = Found} (Ok found) (file_at text (bytes_at files text)))
      → AsksExactly asks b c (unit_file text ∷ []) Whole
      → ((files : Files) → between files → Going asks a b (dropin_asks files (map string_bytes xs))
      (dropin_asks files (map string_bytes (drop i xs))))
      → (files : Files) → agrees files → Going asks a c (dropin_asks files (map string_bytes xs))
      (dropin_asks files (map string_bytes (drop (i + 1) xs)))
  dropin_more found read made going files known =
      text_more asks (is_refused files) unit_file (dropin_asks files (map string_bytes xs)) a b c xs i x text h is said
      (ap is_refusal (read files known))
      (going files (stays files known)) made

  pub dropin_stops : (e : ResolveError) → ForFiles agrees (λ files. IsUnlessFailed {T = Found} (Err e) (file_at text (bytes_at files text)))
      → AsksExactly asks b c (unit_file text ∷ []) (course {T = Found} (Err e))
      → ((files : Files) → between files → Going asks a b (dropin_asks files (map string_bytes xs))
      (dropin_asks files (map string_bytes (drop i xs))))
      → ForFiles agrees (λ files. AsksExactly asks a c (dropin_asks files (map string_bytes xs)) (course {T = List UnitFile} (Err e)))
  dropin_stops e read made going =
      (λ files known.
      subst (AsksExactly asks a c (dropin_asks files (map string_bytes xs))) (course_as Found (List UnitFile) e)
      (text_stops asks (is_refused files) unit_file (dropin_asks files (map string_bytes xs)) a b c xs i x text
      (course {T = Found} (Err e)) h is said
      (refused_is_refused (file_at text (bytes_at files text)) e
      (read files known))
      (going files (stays files known)) made))

  -- memory ran out after a drop-in was read
  pub dropin_cut : (found : Found) → ForFiles agrees (λ files. IsUnlessFailed {T = Found} (Ok found) (file_at text (bytes_at files text)))
      → AsksExactly asks b c (unit_file text ∷ []) Whole
      → ((files : Files) → between files → Going asks a b (dropin_asks files (map string_bytes xs))
      (dropin_asks files (map string_bytes (drop i xs))))
      → ForFiles agrees (λ files. AsksExactly asks a c (dropin_asks files (map string_bytes xs)) Cut)
  dropin_cut found read made going =
      (λ files known.
      text_stops asks (is_refused files) unit_file (dropin_asks files (map string_bytes xs)) a b c xs i x text Cut h is said (λ e. cc)
      (going files (stays files known)) (went_cut asks b c (unit_file text ∷ []) made))

  -- a folder has not too many files
  pub folder_more : (names : Vec (String Global) Global) → ForFiles agrees (λ files. ListsPlace (names_in files text) (Ok names))
      → AsksExactly asks b c (NamesIn text ∷ []) Whole
      → ((files : Files) → between files → Going asks a b (folder_asks files (map string_bytes xs))
      (folder_asks files (map string_bytes (drop i xs))))
      → (files : Files) → agrees files → Going asks a c (folder_asks files (map string_bytes xs))
      (folder_asks files (map string_bytes (drop (i + 1) xs)))
  folder_more names listed made going files known =
      text_more asks (is_overfull files) NamesIn (folder_asks files (map string_bytes xs)) a b c xs i x text h is said
      (listed files known).1
      (going files (stays files known)) made

  pub folder_cut : AsksExactly asks b c (NamesIn text ∷ []) Whole
      → ((files : Files) → between files → Going asks a b (folder_asks files (map string_bytes xs))
      (folder_asks files (map string_bytes (drop i xs))))
      → ForFiles agrees (λ files. AsksExactly asks a c (folder_asks files (map string_bytes xs)) Cut)
  folder_cut made going =
      (λ files known.
      text_stops asks (is_overfull files) NamesIn (folder_asks files (map string_bytes xs)) a b c xs i x text Cut h is said (λ e. cc)
      (going files (stays files known)) (went_cut asks b c (NamesIn text ∷ []) made))

  pub folder_stops : (T : Type 0) (e : ResolveError) → ForFiles agrees (λ files. ListsPlace (names_in files text) (Err e))
      → AsksExactly asks b c (NamesIn text ∷ []) (course {T = Vec (String Global) Global} (Err e))
      → ((files : Files) → between files → Going asks a b (folder_asks files (map string_bytes xs))
      (folder_asks files (map string_bytes (drop i xs))))
      → ForFiles agrees (λ files. AsksExactly asks a c (folder_asks files (map string_bytes xs)) (course {T = T} (Err e)))
  folder_stops T e listed made going =
      (λ files known.
      subst (AsksExactly asks a c (folder_asks files (map string_bytes xs))) (course_as (Vec (String Global) Global) T e)
      (text_stops asks (is_overfull files) NamesIn (folder_asks files (map string_bytes xs)) a b c xs i x text
      (course {T = Vec (String Global) Global} (Err e)) h is said
      (refused_is_overfull files text e (listed files known))
      (going files (stays files known)) made))

-- ---- the fragment
pub not_empty : (found : Found) → found ≡ Empty → found ≡ Missing → ⊥
not_empty found is e = (let same : Empty ≡ Missing = sym is ∙ e in cc)

pub not_said : (found : Found) (file : UnitFile) → found ≡ Says file → found ≡ Missing → ⊥
not_said found file is e = (let same : Says file ≡ Missing = sym is ∙ e in cc)

says_same : (b : Bool) (r : Result UnitFile ResolveError) (file : UnitFile) → cond b (Ok Empty) (says r) ≡ Ok (Says file)
    → cond b (Err Masked) r ≡ Ok file
says_same true r file e = cc
says_same false (Ok own) file e = (let same : own ≡ file = cc in ap Ok same)
says_same false (Err refusal) file e = cc

said_is : (text : List ℕ) (o : Option (List ℕ)) (file : UnitFile) → file_at text o ≡ Ok (Says file)
    → (is_some o ≡ true) × (fragment_judged text (unwrap_or o []) ≡ Ok file)
said_is text None file e = cc
said_is text (Some bytes) file e = (refl, says_same (is_empty bytes) (judged text bytes) file e)

-- the first path that exists is the fragment, and a missing path leaves the others
pub fragment_left : (files : Files) (xs : List (String Global)) (i : ℕ) (x : String Global) (text : List ℕ) → i < length xs
    → x ≡ get_or xs i x → text ≡ string_bytes x
    → fragment_read files (fragment_of files (map string_bytes (drop i xs)))
    ≡ fragment_read files (cond (is_there files text) (Some text) (fragment_of files (map string_bytes (drop (i + 1) xs))))
fragment_left files xs i x text h is said = ap (λ left. fragment_read files (fragment_of files left)) (left_more xs i x text h is said)

module _ (between agrees : Files → Type 0) (stays : ForFiles agrees between) (xs : List (String Global)) (i : ℕ) (x : String Global) (text : List ℕ)
    (h : i < length xs) (is : x ≡ get_or xs i x) (said : text ≡ string_bytes x)
    (left : (files : Files) → between files → fragment_read files (fragment_of files (map string_bytes (drop i xs))) ≡ fragment_read files (fragment_of files (map string_bytes xs))) where
  pub fragment_goes_on : ForFiles agrees (λ files. IsUnlessFailed {T = Found} (Ok Missing) (file_at text (bytes_at files text)))
      → (files : Files) → agrees files → fragment_read files (fragment_of files (map string_bytes (drop (i + 1) xs)))
      ≡ fragment_read files (fragment_of files (map string_bytes xs))
  fragment_goes_on read files known =
      sym (ap (λ b. fragment_read files (cond b (Some text) (fragment_of files (map string_bytes (drop (i + 1) xs)))))
      (missing_is text (bytes_at files text)
      (read files known)))
      ∙ sym (fragment_left files xs i x text h is said) ∙ left files (stays files known)

  pub fragment_says : (file : UnitFile)
      → ForFiles agrees (λ files. IsUnlessFailed {T = Found} (Ok (Says file)) (file_at text (bytes_at files text)))
      → ForFiles agrees (λ files. IsUnlessFailed {T = UnitFile} (Ok file) (fragment_read files (fragment_of files (map string_bytes xs))))
  fragment_says file read =
      (λ files known.
      let found = said_is text (bytes_at files text) file (read files known) in
      sym (left files (stays files known)) ∙ fragment_left files xs i x text h is said
      ∙ ap (λ b. fragment_read files (cond b (Some text) (fragment_of files (map string_bytes (drop (i + 1) xs))))) found.0
      ∙ found.1)
