use Rattle.std.proofs.Common.{◌≡◌, ℕ, ◌+◌, ◌<◌, true, false, cond, List, [], ◌∷◌, ◌++◌, length, map, take, get_or, sym, ap, ◌∙◌, subst}
use Rattle.std.proofs.Common.{append-nil}
use Rattle.std.specs.Prelude.{filter}
use Rattle.std.specs.List.{All}
use Rattle.std.proofs.lemmas.List.{map-append, take_more, get_or_default}
use Rattle.std.proofs.lemmas.List.Elements.{filter-append, All-push}
use Rattle.filter_settings.specs.declared.filter_rules.installed.Filter.{Filter}
use Rattle.filter_settings.specs.declared.filter_rules.names.FilterPlace.{FilterPlace}
use Rattle.filter_settings.specs.declared.filter_rules.names.FilterName.TheVariants.{Families}
use Rattle.filter_settings.specs.declared.filter_rules.settings.FilterSettings.{FilterSettings}
use Rattle.filter_settings.specs.filter_rules.Names.{Place}
use Rattle.filter_settings.specs.filter_rules.Installed.{shown, place_of, is_installed}
use Rattle.filter_settings.specs.filter_rules.Rules.{AreRulesOf}
use Rattle.filter_settings.specs.filter_rules.Wanted.{is_on}
use Rattle.filter_settings.proofs.filter_rules.installed.filters_among.Goals as goal
use Rattle.filter_settings.proofs.filter_rules.installed.filters_among.Goals.{then-is_on+in_ok-rules+in_ok-push, else-is_on}

abbrev no_place : FilterPlace
no_place = record { name = Families; abi = 0 }

module _ (settings : FilterSettings) (places : List FilterPlace) (i : ℕ) (place : FilterPlace) (on : List Place) (before : i < length places) (is : place ≡ get_or places i place) (so_far : on ≡ filter (is_installed settings) (map shown (take i places))) where
  one_more : filter (is_installed settings) (map shown (take (i + 1) places)) ≡ on ++ cond (is_on settings place.name) (shown place ∷ []) []
  one_more =
      ap (λ ps. filter (is_installed settings) (map shown ps))
      (take_more places i place before ∙ ap (λ p. take i places ++ p ∷ []) (sym is))
      ∙ ap (filter (is_installed settings)) (map-append shown (take i places) (place ∷ []))
      ∙ filter-append (is_installed settings) (map shown (take i places)) (shown place ∷ [])
      ∙ ap (λ ps. ps ++ cond (is_on settings place.name) (shown place ∷ []) []) (sym so_far)

  -- a filter that is on is added after the others
  on_more : is_on settings place.name ≡ true → on ++ shown place ∷ [] ≡ filter (is_installed settings) (map shown (take (i + 1) places))
  on_more e = sym (one_more ∙ ap (λ b. on ++ cond b (shown place ∷ []) []) e)

  -- a filter that is off is left out
  off_more : is_on settings place.name ≡ false → on ≡ filter (is_installed settings) (map shown (take (i + 1) places))
  off_more e = sym (one_more ∙ ap (λ b. on ++ cond b (shown place ∷ []) []) e ∙ append-nil on)

pub loop-place-preserved : goal.loop-place-preserved
loop-place-preserved c =
    let settings = c.args.settings.now in
    let places = c.args.places.now in
    let i = c.loop-place.place-index in
    let place : FilterPlace = get_or places i no_place in
    let itself = get_or_default places i no_place place c.loop-place-test.true in
    let table = c.args.table.now in
    let Fits : Filter → Type 0 = λ made. AreRulesOf made.name settings table made.abi made.rules in
    elim c.if-is_on.branch [
      | then-is_on+in_ok-rules+in_ok-push w ↦
          let items = ap (λ filters. filters.items) w.filters-is ∙ w.in_ok-push.ensures.items in
          record {
            on = ap (map place_of) items ∙ map-append place_of c.loop-place.filters.items _
                ∙ on_more settings places i place _ c.loop-place-test.true itself c.loop-place.invariant.on
                (sym c.is_on.ensures ∙ w.if-is_on.true);
            rules = subst (All Fits) (sym items)
                (All-push Fits c.loop-place.filters.items _ c.loop-place.invariant.rules w.in_ok-rules.ensures);
          }
      | else-is_on w ↦
          let items = ap (λ filters. filters.items) w.filters-is in
          record {
            on = ap (map place_of) items ∙ off_more settings places i place _ c.loop-place-test.true itself c.loop-place.invariant.on
                (sym c.is_on.ensures ∙ w.if-is_on.false);
            rules = subst (All Fits) (sym items) c.loop-place.invariant.rules;
          }
    ]
