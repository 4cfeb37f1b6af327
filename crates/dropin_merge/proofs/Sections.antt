-- A unit without its other sections gives the same answers.
use Rattle.std.proofs.Common.{◌≡◌, ℕ, ◌+◌, Bool, true, false, cond, List, [], ◌∷◌, ◌++◌, refl, sym, ap, ◌∙◌, map}
use Rattle.std.specs.Prelude.{filter}
use Rattle.std.specs.List.{filter_map}
use Rattle.dropin_merge.specs.declared.resolved.Resolved.{Resolved}
use Rattle.dropin_merge.specs.declared.resolved.UnitFile.{UnitFile}
use Rattle.dropin_merge.specs.unit_values.Assignments.{is_of_service, placed, service_in, service_from, service_assignments, service_alone}
use Rattle.dropin_merge.specs.unit_values.Assignments.{without_others}
use Rattle.dropin_merge.specs.unit_values.Values.{given_by, note_of, values_of, notes_of, written_by, written_values}

-- an element that passes a test once passes it twice
once_more : {X : Type 0} (p : X → Bool) (b : Bool) (x : X) (xs : List X) → p x ≡ b → filter p xs ≡ filter p (filter p xs)
    → cond b (x ∷ filter p xs) (filter p xs) ≡ filter p (cond b (x ∷ filter p xs) (filter p xs))
once_more p true x xs passes same = ap (λ ys. x ∷ ys) same ∙ sym
    (ap (λ b. cond b (x ∷ filter p (filter p xs)) (filter p (filter p xs))) passes)
once_more p false x xs fails same = same

filter_twice : {X : Type 0} (p : X → Bool) (xs : List X) → filter p xs ≡ filter p (filter p xs)
filter_twice p [] = refl
filter_twice p (x ∷ xs) = once_more p (p x) x xs refl (filter_twice p xs)

same_from : (number : ℕ) (files : List UnitFile) → service_from number (map without_others files) ≡ service_from number files
same_from number [] = refl
same_from number (file ∷ files) =
    ap (λ ones. map (placed number) ones ++ service_from (number + 1) (map without_others files))
    (sym (filter_twice is_of_service file.text.assignments))
    ∙ ap (λ ones. service_in number file.text.assignments ++ ones) (same_from (number + 1) files)

pub same_assignments : (unit : Resolved) → service_assignments (service_alone unit) ≡ service_assignments unit
unfolding service_assignments
same_assignments unit = same_from 0 unit.files

pub same_values : (unit : Resolved) (key : List ℕ) → values_of (service_alone unit) key ≡ values_of unit key
same_values unit key = ap (filter_map (given_by unit.systemd unit.name key)) (same_assignments unit)

pub same_notes : (unit : Resolved) (key : List ℕ) → notes_of (service_alone unit) key ≡ notes_of unit key
same_notes unit key = ap (filter_map (note_of unit.systemd unit.name key)) (same_assignments unit)

pub same_written : (unit : Resolved) (key : List ℕ) → written_values (service_alone unit) key ≡ written_values unit key
same_written unit key = ap (filter_map (written_by key)) (same_assignments unit)
