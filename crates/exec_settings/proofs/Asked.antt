-- What the values of a key ask for, as they are written.
use Rattle.std.proofs.Common.{◌≡◌, ℕ, true, false, cond, Some, None, List, [], ◌∷◌, refl, ap}
use Rattle.std.specs.List.{cons_option, filter_map}
use Rattle.std.specs.Str.{bytes_eq}
use Rattle.cred_settings.specs.unit_grammar.declared.unit.Assignment.{Assignment}
use Rattle.cred_settings.specs.dropin_merge.declared.unit_values.value.Place.{Place}
use Rattle.cred_settings.specs.dropin_merge.declared.unit_values.value.Value.{Value}
use Rattle.cred_settings.specs.dropin_merge.unit_values.Values.{written_by}
use Rattle.exec_settings.specs.Profile.{asked_by, asks}

-- they ask for what their assignments ask for
pub asked_of_written : (key : List ℕ) (ones : List (Place × Assignment))
    → filter_map (λ value. Some (asks value.text)) (filter_map (written_by key) ones) ≡ filter_map (λ one. asked_by key one.1) ones
asked_of_written key [] = refl
asked_of_written key (one ∷ ones) =
    elim (bytes_eq one.1.key key) as (λ b.
    filter_map (λ (value : Value). Some (asks value.text)) (cons_option (cond b (Some (record { place = one.0; text = one.1.value })) None) (filter_map (written_by key) ones))
    ≡ cons_option (cond b (Some (asks one.1.value)) None) (filter_map (λ one. asked_by key one.1) ones)) [
      | true ↦ ap (λ said. asks one.1.value ∷ said) (asked_of_written key ones)
      | false ↦ asked_of_written key ones
    ]
