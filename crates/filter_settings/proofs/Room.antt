-- All filters that are on fit into one stack.
use Rattle.std.proofs.Common.{◌≡◌, ℕ, ◌+◌, ◌*◌, ◌≤◌, Bool, Option, None, Some, List, [], ◌∷◌, map, refl, ap, ◌∙◌, arith, subst}
use Rattle.std.specs.Prelude.{filter, not, IfOk, Result, Ok, Err, Vec}
use Rattle.std.specs.declared.alloc.Global.{Global}
use Rattle.std.specs.List.{All, AllByRecursion, sum_by}
use Rattle.std.proofs.lemmas.List.Filters.{sum_by-filter_both}
use Rattle.std.proofs.lemmas.List.Sums.{sum_by-cons}
use Rattle.std.proofs.lemmas.List.Elements.{All-weaker, recursion_from_All}
use Rattle.call_rules.specs.Sizes.{most_insns}
use Rattle.filter_settings.specs.declared.filter_rules.installed.Filter.{Filter}
use Rattle.filter_settings.specs.declared.filter_rules.names.FilterName.{FilterName}
use Rattle.filter_settings.specs.declared.filter_rules.settings.FilterSettings.{FilterSettings}
use Rattle.filter_settings.specs.filter_rules.Costs.{KeepsWithin, most_costs, most_room}
use Rattle.filter_settings.specs.filter_rules.Names.{Place, all_programs}
use Rattle.filter_settings.specs.filter_rules.Installed.{place_of, is_installed, installed}
use Rattle.filter_settings.specs.filter_rules.Rules.{AreRulesOf}
use Rattle.call_table.specs.Table.{Abi, Table}

-- the most room that a filter of this name takes
abbrev most_taken : FilterName → ℕ
most_taken name =
    16 + 5 * (most_costs name).calls + 2 * (most_costs name).cases + 4 * (most_costs name).tests + 3 * (most_costs name).wides + 4

one_fits : (made : Filter) → KeepsWithin (most_costs made.name) made.rules → most_insns made.rules + 4 ≤ most_taken made.name
one_fits made within = omega (arith, within.calls, within.cases, within.tests, within.wides)

-- the most room that its program for an ABI takes
abbrev taken_at : Place → ℕ
taken_at place = most_taken place.0

all_fit : (filters : List Filter) → AllByRecursion (λ made. KeepsWithin (most_costs made.name) made.rules) filters
    → most_room filters ≤ sum_by taken_at (map place_of filters)
all_fit [] within = omega arith
all_fit (made ∷ filters) within =
    omega (
      arith,
      sum_by-cons (λ one. most_insns one.rules + 4) made filters,
      sum_by-cons taken_at (place_of made) (map place_of filters),
      one_fits made within.0,
      all_fit filters within.1,
    )

those_on : (test : Place → Bool) (places : List Place) → sum_by taken_at (filter test places) ≤ sum_by taken_at places
those_on test places = omega (arith, sum_by-filter_both test (λ place. not (test place)) (λ place. refl) taken_at places)

-- the programs of one ABI take at most 11,898 together, those of two and what ends the calls of the second at most 23,816
all_few : (second : Option Abi) → sum_by taken_at (all_programs second) ≤ 23816
all_few None = omega arith
all_few (Some second) = omega arith

pub fit_together : (settings : FilterSettings) (table : Table) (filters : List Filter) → map place_of filters ≡ installed settings table
    → All (λ made. KeepsWithin (most_costs made.name) made.rules) filters → most_room filters ≤ 32768
fit_together settings table filters places within =
    let all = all_fit filters (recursion_from_All (λ made. KeepsWithin (most_costs made.name) made.rules) filters within) in
    let those : most_room filters ≤ sum_by taken_at (installed settings table) = subst (λ on. most_room filters ≤ sum_by taken_at on) places all in
    omega (arith, those, those_on (is_installed settings) (all_programs table.second), all_few table.second)

pub within_costs : {E : Type 0} (settings : FilterSettings) (table : Table) (result : Result (Vec Filter Global) E)
    → IfOk result (λ filters. All (λ made. AreRulesOf made.name settings table made.abi made.rules) filters.items)
    → IfOk result (λ filters. All (λ made. KeepsWithin (most_costs made.name) made.rules) filters.items)
within_costs settings table (Ok filters) rules = All-weaker (λ made. AreRulesOf made.name settings table made.abi made.rules)
    (λ made. KeepsWithin (most_costs made.name) made.rules) (λ made h. h.within) filters.items rules
within_costs settings table (Err error) rules = rules

-- the same for an answer
pub answer_fits : {E : Type 0} (settings : FilterSettings) (table : Table) (all : List Place) → all ≡ all_programs table.second
    → (result : Result (Vec Filter Global) E) → IfOk result (λ filters. map place_of filters.items ≡ filter (is_installed settings) all)
    → IfOk result (λ filters. All (λ made. KeepsWithin (most_costs made.name) made.rules) filters.items)
    → IfOk result (λ filters. most_room filters.items ≤ 32768)
answer_fits settings table all same (Ok filters) places within =
    fit_together settings table filters.items (places ∙ ap (filter (is_installed settings)) same) within
answer_fits settings table all same (Err error) places within = places
