-- The assignments of a service are listed in the buckets of their keys.
use Rattle.std.proofs.Common.{◌≡◌, ℕ, zero, suc, ◌+◌, ◌<◌, ◌≤◌, Bool, true, false, cond, Some, List, [], ◌∷◌, ◌++◌, length, take, drop, get_or}
use Rattle.std.proofs.Common.{replicate, map, inl, inr, refl, sym, ap, ◌∙◌, subst, arith, append_assoc, append-nil}
use Rattle.std.specs.Prelude.{◌==◌, filter, option_and_then, option_map}
use Rattle.std.specs.List.{cons_option, filter_map, slice_get}
use Rattle.std.proofs.lemmas.Bool.{eq-eqb}
use Rattle.std.proofs.lemmas.Bool.Decides.{eqb_tells}
use Rattle.std.proofs.lemmas.List.{get_or_default, get_or-set_same, get_or-set_other, get_or-replicate, length-set, length_push, map-append, replicate_more}
use Rattle.std.proofs.lemmas.Option.{slice_get_read}
use Rattle.std.proofs.lemmas.List.Elements.{filter-append, filter_map-append}
use Rattle.unit_grammar.specs.declared.unit.Assignment.{Assignment}
use Rattle.dropin_merge.specs.declared.resolved.UnitFile.{UnitFile}
use Rattle.dropin_merge.specs.declared.spots.Spot.{Spot}
use Rattle.dropin_merge.specs.declared.unit_values.value.Place.{Place}
use Rattle.dropin_merge.specs.Spots.{bucket_of, in_bucket, assignment_at, with_spot, with_assignment, HoldSpots}
use Rattle.dropin_merge.specs.unit_values.Service.{is_of_service, placed, service_in, service_from}
use Rattle.dropin_merge.proofs.OneMore.{take_item}

-- more elements than there are
take_past : {X : Type 0} (xs : List X) (n : ℕ) → length xs ≤ n → take n xs ≡ xs
take_past [] zero past = refl
take_past [] (suc n) past = refl
take_past (x ∷ xs) zero past = absurd (omega arith)
take_past (x ∷ xs) (suc n) past = ap (λ ys. x ∷ ys) (take_past xs n (omega arith))

-- ---- one more assignment

spot_same : (files : List UnitFile) (ones : List (Place × Assignment)) (buckets : List (List Spot)) (spot : Spot) (one : Place × Assignment)
    → assignment_at files spot ≡ Some one → HoldSpots files ones buckets → bucket_of one.1.key < length buckets
    → filter_map (assignment_at files) (get_or (with_spot buckets (bucket_of one.1.key) spot) (bucket_of one.1.key) [])
    ≡ filter (in_bucket (bucket_of one.1.key)) (ones ++ one ∷ [])
spot_same files ones buckets spot one found holds within =
    let own = bucket_of one.1.key in
    ap (filter_map (assignment_at files)) (get_or-set_same buckets own (get_or buckets own [] ++ spot ∷ []) [] within)
    ∙ filter_map-append (assignment_at files) (get_or buckets own []) (spot ∷ [])
    ∙ ap (λ xs. xs ++ cons_option (assignment_at files spot) []) (holds own within)
    ∙ ap (λ o. filter (in_bucket own) ones ++ cons_option o []) found
    ∙ ap (λ b. filter (in_bucket own) ones ++ cond b (one ∷ []) []) (sym (eq-eqb own own refl))
    ∙ sym (filter-append (in_bucket own) ones (one ∷ []))

spot_other : (files : List UnitFile) (ones : List (Place × Assignment)) (buckets : List (List Spot)) (spot : Spot) (one : Place × Assignment)
    (bucket : ℕ) → HoldSpots files ones buckets → bucket < length buckets → (bucket ≡ bucket_of one.1.key → ⊥)
    → (bucket_of one.1.key == bucket) ≡ false
    → filter_map (assignment_at files) (get_or (with_spot buckets (bucket_of one.1.key) spot) bucket [])
    ≡ filter (in_bucket bucket) (ones ++ one ∷ [])
spot_other files ones buckets spot one bucket holds within apart differs =
    let own = bucket_of one.1.key in
    ap (filter_map (assignment_at files)) (get_or-set_other buckets own bucket (get_or buckets own [] ++ spot ∷ []) [] apart)
    ∙ holds bucket within
    ∙ sym (append-nil (filter (in_bucket bucket) ones))
    ∙ ap (λ b. filter (in_bucket bucket) ones ++ cond b (one ∷ []) []) (sym differs)
    ∙ sym (filter-append (in_bucket bucket) ones (one ∷ []))

spot_added : (files : List UnitFile) (ones : List (Place × Assignment)) (buckets : List (List Spot)) (spot : Spot) (one : Place × Assignment)
    → assignment_at files spot ≡ Some one → HoldSpots files ones buckets
    → HoldSpots files (ones ++ one ∷ []) (with_spot buckets (bucket_of one.1.key) spot)
spot_added files ones buckets spot one found holds bucket lt =
    let own = bucket_of one.1.key in
    let within : bucket < length buckets = subst (λ n. bucket < n) (length-set buckets own (get_or buckets own [] ++ spot ∷ [])) lt in
    elim (eqb_tells own bucket) [
      | inl same ↦
          subst (λ n. filter_map (assignment_at files) (get_or (with_spot buckets own spot) n []) ≡ filter (in_bucket n) (ones ++ one ∷ []))
          same.1 (spot_same files ones buckets spot one found holds (subst (λ n. n < length buckets) (sym same.1) within))
      | inr other ↦ spot_other files ones buckets spot one bucket holds within (λ e. other.1 (sym e)) other.0
    ]

-- an assignment of another section adds nothing
assignment_added : (files : List UnitFile) (ones : List (Place × Assignment)) (buckets : List (List Spot)) (spot : Spot) (assignment : Assignment)
    → assignment_at files spot ≡ Some (placed spot.file assignment) → HoldSpots files ones buckets
    → HoldSpots files (ones ++ service_in spot.file (assignment ∷ [])) (with_assignment buckets spot assignment)
assignment_added files ones buckets spot assignment found holds = by (is_of_service assignment)
  where
    by : (b : Bool) → HoldSpots files (ones ++ map (placed spot.file) (cond b (assignment ∷ []) []))
        (cond b (with_spot buckets (bucket_of assignment.key) spot) buckets)
    by true = spot_added files ones buckets spot (placed spot.file assignment) found holds
    by false = subst (λ all. HoldSpots files all buckets) (sym (append-nil ones)) holds

-- ---- one more assignment of a file

service_more : (number : ℕ) (assignments : List Assignment) (at : ℕ) (assignment : Assignment) → at < length assignments
    → assignment ≡ get_or assignments at assignment
    → service_in number (take (at + 1) assignments) ≡ service_in number (take at assignments) ++ service_in number (assignment ∷ [])
service_more number assignments at assignment within is =
    ap (service_in number) (take_item assignments at assignment within is)
    ∙ ap (map (placed number)) (filter-append is_of_service (take at assignments) (assignment ∷ []))
    ∙ map-append (placed number) (filter is_of_service (take at assignments)) (filter is_of_service (assignment ∷ []))

pub file_more : (files : List UnitFile) (ones : List (Place × Assignment)) (now new : List (List Spot)) (number : ℕ) (file : UnitFile)
    (at : ℕ) (assignment : Assignment) → slice_get files number ≡ Some file → slice_get file.text.assignments at ≡ Some assignment
    → at < length file.text.assignments → assignment ≡ get_or file.text.assignments at assignment
    → HoldSpots files (ones ++ service_in number (take at file.text.assignments)) now
    → new ≡ with_assignment now (record { file = number; at = at }) assignment
    → HoldSpots files (ones ++ service_in number (take (at + 1) file.text.assignments)) new
file_more files ones now new number file at assignment lies stands within is holds step =
    let spot : Spot = record { file = number; at = at } in
    let found : assignment_at files spot ≡ Some (placed number assignment) =
    ap (option_and_then (λ (one : UnitFile). option_map (placed number) (slice_get one.text.assignments at))) lies ∙ ap (option_map (placed number)) stands in
    let all : ones ++ service_in number (take (at + 1) file.text.assignments)
    ≡ (ones ++ service_in number (take at file.text.assignments)) ++ service_in number (assignment ∷ []) =
    ap (λ xs. ones ++ xs) (service_more number file.text.assignments at assignment within is)
    ∙ sym (append_assoc ones (service_in number (take at file.text.assignments)) (service_in number (assignment ∷ []))) in
    subst (λ buckets. HoldSpots files (ones ++ service_in number (take (at + 1) file.text.assignments)) buckets) (sym step)
    (subst (λ listed. HoldSpots files listed (with_assignment now spot assignment)) (sym all)
    (assignment_added files (ones ++ service_in number (take at file.text.assignments)) now spot assignment found holds))

-- the same for the file's assignments as they are lent
pub file_step : (files : List UnitFile) (ones : List (Place × Assignment)) (now new : List (List Spot)) (number : ℕ) (file : UnitFile)
    (lent : List Assignment) (at : ℕ) (assignment : Assignment) → lent ≡ file.text.assignments → slice_get files number ≡ Some file
    → at < length lent → assignment ≡ get_or lent at assignment
    → HoldSpots files (ones ++ service_in number (take at file.text.assignments)) now
    → new ≡ with_assignment now (record { file = number; at = at }) assignment
    → HoldSpots files (ones ++ service_in number (take (at + 1) file.text.assignments)) new
file_step files ones now new number file lent at assignment same lies within is holds step =
    let inside : at < length file.text.assignments = subst (λ (xs : List Assignment). at < length xs) same within in
    let stands : assignment ≡ get_or file.text.assignments at assignment = is ∙ ap (λ (xs : List Assignment). get_or xs at assignment) same in
    file_more files ones now new number file at assignment lies
    (slice_get_read file.text.assignments (length file.text.assignments) at assignment refl inside stands) inside stands holds step

pub file_end : (files : List UnitFile) (ones : List (Place × Assignment)) (now : List (List Spot)) (number : ℕ) (file : UnitFile)
    (lent : List Assignment) (at : ℕ) → lent ≡ file.text.assignments → length lent ≤ at
    → HoldSpots files (ones ++ service_in number (take at file.text.assignments)) now
    → HoldSpots files (ones ++ service_in number file.text.assignments) now
file_end files ones now number file lent at same past holds =
    let all : take at file.text.assignments ≡ file.text.assignments =
    take_past file.text.assignments at (subst (λ (xs : List Assignment). length xs ≤ at) same past) in
    subst (λ (xs : List Assignment). HoldSpots files (ones ++ service_in number xs) now) all holds

-- ---- one more file

-- some assignments are listed, and these are left
pub record AreListed (files : List UnitFile) (buckets : List (List Spot)) (left : List (Place × Assignment)) : Type 0 where
  pub listed : List (Place × Assignment)
  pub all : listed ++ left ≡ service_from 0 files
  pub hold : HoldSpots files listed buckets

pub one_more_empty : (now new : List (List Spot)) (spots : List Spot) → now ≡ replicate (length now) [] → spots ≡ []
    → new ≡ now ++ spots ∷ [] → new ≡ replicate (length new) []
one_more_empty now new spots empty none is =
    let pushed : new ≡ now ++ [] ∷ [] = is ∙ ap (λ (one : List Spot). now ++ one ∷ []) none in
    let longer : length now + 1 ≡ length new = sym (ap length pushed ∙ length_push now []) in
    pushed ∙ ap (λ xs. xs ++ [] ∷ []) empty ∙ replicate_more (length now) [] ∙ ap (λ n. replicate n []) longer

pub none_listed : (files : List UnitFile) (buckets : List (List Spot)) → buckets ≡ replicate (length buckets) []
    → AreListed files buckets (service_from 0 files)
none_listed files buckets empty = record {
  listed = [];
  all = refl;
  hold = λ bucket within. ap (filter_map (assignment_at files))
      (ap (λ xs. get_or xs bucket []) empty ∙ get_or-replicate (length buckets) bucket [] [] within);
}

pub files_more : (files : List UnitFile) (now new : List (List Spot)) (number : ℕ) (file : UnitFile) → drop number files ≡ file ∷ drop (number + 1) files
    → AreListed files now (service_from number (drop number files))
    → ((ones : List (Place × Assignment)) → HoldSpots files ones now → HoldSpots files (ones ++ service_in number file.text.assignments) new)
    → AreListed files new (service_from (number + 1) (drop (number + 1) files))
files_more files now new number file first before step = record {
  listed = before.listed ++ service_in number file.text.assignments;
  all = append_assoc before.listed (service_in number file.text.assignments) (service_from (number + 1) (drop (number + 1) files))
      ∙ ap (λ rest. before.listed ++ service_from number rest) (sym first) ∙ before.all;
  hold = step before.listed before.hold;
}

pub all_listed : (files : List UnitFile) (buckets : List (List Spot)) (left : List (Place × Assignment)) → left ≡ []
    → AreListed files buckets left → HoldSpots files (service_from 0 files) buckets
all_listed files buckets left none before =
    subst (λ ones. HoldSpots files ones buckets)
    (sym (append-nil before.listed) ∙ ap (λ rest. before.listed ++ rest) (sym none) ∙ before.all) before.hold

-- ---- the spots of a bucket

pub here_held : (files : List UnitFile) (ones : List (Place × Assignment)) (buckets : List (List Spot)) (bucket : ℕ) (here : List Spot)
    → HoldSpots files ones buckets → bucket < length buckets → here ≡ get_or buckets bucket here
    → filter_map (assignment_at files) here ≡ filter (in_bucket bucket) ones
here_held files ones buckets bucket here holds within is =
    ap (filter_map (assignment_at files)) (is ∙ get_or_default buckets bucket here [] within) ∙ holds bucket within

pub none_held : (files : List UnitFile) (ones : List (Place × Assignment)) (buckets : List (List Spot)) → buckets ≡ [] → HoldSpots files ones buckets
none_held files ones buckets none = subst (HoldSpots files ones) (sym none) (λ bucket within. absurd (omega arith))
