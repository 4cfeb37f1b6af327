-- Files are read one after the other.
use Rattle.std.proofs.Common.{◌≡◌, ℕ, ◌+◌, ◌<◌, Bool, true, false, cond, List, [], ◌∷◌, ◌++◌, length, drop, get_or, Option, Some, None}
use Rattle.std.proofs.Common.{Result, Ok, Err, map, filter, String, Global, refl, sym, ap, ◌∙◌, subst, append_assoc, append-nil}
use Rattle.std.specs.Prelude.{not, unwrap_or, string_bytes}
use Rattle.std.specs.List.{slice_get, filter_map}
use Rattle.std.specs.Result.{result_ok, result_err}
use Rattle.host_io.specs.Agreeing.{ForFiles}
use Rattle.host_io.specs.Files.{Files, bytes_at}
use Rattle.dropin_merge.proofs.Left.{left_more}
use Rattle.dropin_merge.specs.Answers.{IsUnlessFailed}
use Rattle.dropin_merge.specs.Judging.{content, is_empty, judged}
use Rattle.dropin_merge.specs.Resolving.{dropins_read, unless_refused, joined_by}
use Rattle.dropin_merge.specs.Steps.{says, file_at, file_in}
use Rattle.dropin_merge.specs.declared.resolved.UnitFile.{UnitFile}
use Rattle.dropin_merge.specs.declared.files.Found.{Found}
use Rattle.dropin_merge.specs.declared.files.Found.TheVariants.{Missing, Empty, Says}
use Rattle.dropin_merge.specs.declared.errors.ResolveError.{ResolveError}
use Rattle.dropin_merge.specs.declared.errors.ResolveError.TheVariants.{BadName, NotFound, Masked, DropIns, TooLarge, Text, ReadFault}
use Rattle.dropin_merge.specs.declared.errors.ResolveError.TheVariants.{Memory}

-- a refusal stays wanted
pub failed_on : {T U : Type 0} (e : ResolveError) (w : Result T ResolveError) (v : Result U ResolveError) → (w ≡ Err e → v ≡ Err e)
    → IsUnlessFailed {T = T} (Err e) w → IsUnlessFailed {T = U} (Err e) v
failed_on BadName w v h i = h i
failed_on NotFound w v h i = h i
failed_on Masked w v h i = h i
failed_on DropIns w v h i = h i
failed_on (TooLarge path) w v h i = h i
failed_on (Text path error) w v h i = h i
failed_on ReadFault w v h i = tt
failed_on Memory w v h i = tt

-- ---- the drop-ins
-- the files so far, the answer of a path, and the files after it
abbrev pub and_behind : List UnitFile → Result Found ResolveError → List (Result UnitFile ResolveError)
    → Result (List UnitFile) ResolveError
and_behind files (Ok Missing) behind = joined_by files behind
and_behind files (Ok Empty) behind = joined_by files behind
and_behind files (Ok (Says file)) behind = joined_by (files ++ file ∷ []) behind
and_behind files (Err refusal) behind = Err refusal

joined_by-cons : (done : List UnitFile) (r : Result UnitFile ResolveError) (behind : List (Result UnitFile ResolveError))
    → joined_by done (r ∷ behind) ≡ and_behind done (says r) behind
joined_by-cons done (Ok file) behind = ap (unless_refused (slice_get (filter_map result_err behind) 0))
    (sym (append_assoc done (file ∷ []) (filter_map result_ok behind)))
joined_by-cons done (Err refusal) behind = refl

pub dropins_read-cons : (files : Files) (done : List UnitFile) (path : List ℕ) (paths : List (List ℕ))
    → joined_by done (dropins_read files (path ∷ paths)) ≡ and_behind done (file_at path (bytes_at files path)) (dropins_read files paths)
dropins_read-cons files done path paths = by_bytes (bytes_at files path) refl
  where
    by_empty : (bytes : List ℕ) → content files path ≡ bytes → (b : Bool)
        → joined_by done (map (λ p. judged p (content files p))
        (cond (not b) (path ∷ filter (λ p. not (is_empty (content files p))) paths)
        (filter (λ p. not (is_empty (content files p))) paths)))
        ≡ and_behind done (cond b (Ok Empty) (says (judged path bytes))) (dropins_read files paths)
    by_empty bytes e true = refl
    by_empty bytes e false = joined_by-cons done (judged path (content files path)) (dropins_read files paths)
        ∙ ap (λ x. and_behind done (says (judged path x)) (dropins_read files paths)) e

    by_bytes : (o : Option (List ℕ)) → bytes_at files path ≡ o
        → joined_by done (dropins_read files (path ∷ paths)) ≡ and_behind done (file_at path o) (dropins_read files paths)
    by_bytes None e =
        ap (λ o. joined_by done (map (λ p. judged p (content files p))
        (cond (not (is_empty (unwrap_or o []))) (path ∷ filter (λ p. not (is_empty (content files p))) paths)
        (filter (λ p. not (is_empty (content files p))) paths)))) e
    by_bytes (Some bytes) e =
        ap (λ o. joined_by done (map (λ p. judged p (content files p))
        (cond (not (is_empty (unwrap_or o []))) (path ∷ filter (λ p. not (is_empty (content files p))) paths)
        (filter (λ p. not (is_empty (content files p))) paths)))) e
        ∙ by_empty bytes (ap (λ o. unwrap_or o []) e) (is_empty bytes)

-- one more of the paths is read
pub dropin_more : (files : Files) (agrees : Files → Type 0) (done new : List UnitFile) (paths : List (String Global)) (i : ℕ)
    (path : String Global) (text : List ℕ) (found : Found) (whole : Result (List UnitFile) ResolveError)
    → agrees files
    → i < length paths → path ≡ get_or paths i path → text ≡ string_bytes path
    → ForFiles agrees (λ files. IsUnlessFailed {T = Found} (Ok found) (file_at text (bytes_at files text)))
    → new ≡ done ++ file_in found
    → joined_by done (dropins_read files (map string_bytes (drop i paths))) ≡ whole
    → joined_by new (dropins_read files (map string_bytes (drop (i + 1) paths))) ≡ whole
dropin_more files agrees done new paths i path text found whole known h is said read made inv =
    let rest = map string_bytes (drop (i + 1) paths) in
    ap (λ fs. joined_by fs (dropins_read files rest)) made ∙ by_found found
    ∙ sym (ap (λ r. and_behind done r (dropins_read files rest))
    (read files known))
    ∙ sym (dropins_read-cons files done text rest)
    ∙ ap (λ ps. joined_by done (dropins_read files ps)) (sym (left_more paths i path text h is said)) ∙ inv
  where
    by_found : (found : Found) → joined_by (done ++ file_in found) (dropins_read files (map string_bytes (drop (i + 1) paths)))
        ≡ and_behind done (Ok found) (dropins_read files (map string_bytes (drop (i + 1) paths)))
    by_found Missing = ap (λ fs. joined_by fs (dropins_read files (map string_bytes (drop (i + 1) paths)))) (append-nil done)
    by_found Empty = ap (λ fs. joined_by fs (dropins_read files (map string_bytes (drop (i + 1) paths)))) (append-nil done)
    by_found (Says file) = refl

-- a path is refused
pub dropin_stops : (between agrees : Files → Type 0) (whole : Files → Result (List UnitFile) ResolveError) (done : List UnitFile)
    (paths : List (String Global)) (i : ℕ) (path : String Global) (text : List ℕ) (e : ResolveError)
    → ForFiles agrees between
    → i < length paths → path ≡ get_or paths i path → text ≡ string_bytes path
    → ForFiles agrees (λ files. IsUnlessFailed {T = Found} (Err e) (file_at text (bytes_at files text)))
    → ((files : Files) → between files → joined_by done (dropins_read files (map string_bytes (drop i paths))) ≡ whole files)
    → ForFiles agrees (λ files. IsUnlessFailed {T = List UnitFile} (Err e) (whole files))
dropin_stops between agrees whole done paths i path text e stays h is said read inv =
    (λ files known.
    failed_on e (file_at text (bytes_at files text)) (whole files)
    (λ d.
    sym (inv files (stays files known)) ∙ ap (λ ps. joined_by done (dropins_read files ps)) (left_more paths i path text h is said)
    ∙ dropins_read-cons files done text (map string_bytes (drop (i + 1) paths))
    ∙ ap (λ r. and_behind done r (dropins_read files (map string_bytes (drop (i + 1) paths)))) d)
    (read files known))
