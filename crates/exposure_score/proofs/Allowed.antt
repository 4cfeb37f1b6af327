-- Marks at the calls that a filter allows.
use Rattle.std.proofs.Common.{◌≡◌, ◌∙◌, ℕ, Bool, false, List, [], ◌∷◌, map, Option, Some, None, refl, ap}
use Rattle.std.specs.Prelude.{◌||◌, slice_get, unwrap_or}
use Rattle.std.specs.Option.{option_map, option_map_or}
use Rattle.std.specs.List.{list_any}
use Rattle.std.proofs.lemmas.Option.{slice_get-map}
use Rattle.exec_settings.specs.call_table.Table.{Table, every_call}
use Rattle.exec_settings.specs.call_table.declared.listed.CallLine.{CallLine}
use Rattle.exec_settings.specs.filter_settings.declared.filter_rules.settings.FilterSettings.{FilterSettings}
use Rattle.exec_settings.specs.filter_settings.filter_rules.Calls.{allows_call}
use Rattle.exposure_score.specs.service_facts.Each.{is_marked, allows_place}

module _ (table : Table) (filters : FilterSettings) (marks : List Bool)
    (are : marks ≡ map (λ call. allows_call table filters call.name) (every_call table)) where
  by_call : (o : Option CallLine) → unwrap_or (option_map (λ call. allows_call table filters call.name) o) false
      ≡ option_map_or (λ call. allows_call table filters call.name) o false
  by_call None = refl
  by_call (Some call) = refl

  marked : (place : ℕ) → is_marked marks place ≡ allows_place table filters place
  marked place =
      ap (λ own. is_marked own place) are
      ∙ ap (λ (o : Option Bool). unwrap_or o false)
      (slice_get-map (λ (call : CallLine). allows_call table filters call.name) (every_call table) place)
      ∙ by_call (slice_get (every_call table) place)

  -- some member is marked where some member is allowed
  pub some_marked : (places : List ℕ) → list_any (is_marked marks) places ≡ list_any (allows_place table filters) places
  some_marked [] = refl
  some_marked (place ∷ places) =
      ap (λ b. b || list_any (is_marked marks) places) (marked place)
      ∙ ap (λ b. allows_place table filters place || b) (some_marked places)
