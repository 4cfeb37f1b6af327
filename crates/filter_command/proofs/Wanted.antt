-- Programs of filters, one by one.
use Rattle.std.proofs.Common.{◌≡◌, ◌+◌, ◌≤◌, List, [], ◌∷◌, length, map, refl, sym, ap, ◌∙◌, subst, arith}
use Rattle.std.specs.List.{All}
use Rattle.std.proofs.lemmas.List.Elements.{All-nil, All-cons, All-head, All-tail}
use Rattle.std.proofs.lemmas.List.Sums.{sum_by-cons}
use Rattle.launcher.specs.bpf_code.Meaning.{AnswersWithin}
use Rattle.launcher.specs.bpf_code.Reading.{Accepts, bytes_of}
use Rattle.launcher.specs.call_rules.Action.{word_of}
use Rattle.launcher.specs.call_rules.Sizes.{most_insns}
use Rattle.launcher.specs.call_table.Table.{Table}
use Rattle.launcher.specs.filter_settings.filter_rules.Costs.{HasShortCases, most_room}
use Rattle.launcher.specs.filter_settings.filter_rules.Wanted.{wanted_action}
use Rattle.launcher.specs.filter_settings.filter_rules.Names.{Place}
use Rattle.launcher.specs.filter_settings.filter_rules.Installed.{place_of}
use Rattle.launcher.specs.filter_settings.declared.filter_rules.installed.Filter.{Filter}
use Rattle.launcher.specs.filter_settings.declared.filter_rules.settings.FilterSettings.{FilterSettings}
use Rattle.launcher.specs.exec_settings.AreSettings.{AreFilters as AreRules, HasWantedRules}
use Rattle.launcher.specs.Answers.{AreProgramsOf, IsProgramOf}
use Rattle.launcher.specs.declared.filters.FilterProgram.{FilterProgram}
use Rattle.filter_command.specs.Compiled.{AreFilters, DoesAsWanted, room_of}

its_place : (filter : Filter) (one : FilterProgram) → IsProgramOf filter one → (one.name, one.abi) ≡ place_of filter
its_place filter one is = ap (λ name. (name, one.abi)) is.named ∙ ap (λ abi. (filter.name, abi)) is.own_abi

names : (filters : List Filter) (made : List FilterProgram) → AreProgramsOf filters made
    → map (λ one. (one.name, one.abi)) made ≡ map place_of filters
names [] [] are = refl
names [] (one ∷ made) are = absurd are
names (rules ∷ filters) [] are = absurd are
names (rules ∷ filters) (one ∷ made) are = ap (λ place. place ∷ map (λ one. (one.name, one.abi)) made) (its_place rules one are.0)
    ∙ ap (λ rest. place_of rules ∷ rest) (names filters made are.1)

-- a program that decides as rules do what is wanted does so too
one_does : (settings : FilterSettings) (table : Table) (filter : Filter) (one : FilterProgram) → IsProgramOf filter one
    → HasWantedRules settings table filter → All HasShortCases filter.rules.calls → DoesAsWanted settings table one
one_does settings table filter one is wanted short = λ input is_data.
    subst (λ action. AnswersWithin 96 one.program input (word_of action))
    (wanted input ∙ ap (λ (place : Place). wanted_action place.0 settings table place.1 input) (sym (its_place filter one is)))
    (is.decides_soon short input is_data)

-- the rules of each filter have short cases
abbrev AreShort : List Filter → Type 0
AreShort filters = All (λ (one : Filter). All HasShortCases one.rules.calls) filters

all_do : (settings : FilterSettings) (table : Table) (filters : List Filter) (made : List FilterProgram) → AreProgramsOf filters made
    → All (HasWantedRules settings table) filters → AreShort filters → All (DoesAsWanted settings table) made
all_do settings table [] [] are wanted short = All-nil (DoesAsWanted settings table)
all_do settings table [] (one ∷ made) are wanted short = absurd are
all_do settings table (rules ∷ filters) [] are wanted short = absurd are
all_do settings table (rules ∷ filters) (one ∷ made) are wanted short =
    All-cons (DoesAsWanted settings table) one made
    (one_does settings table rules one are.0 (All-head (HasWantedRules settings table) rules filters wanted)
    (All-head (λ (one : Filter). All HasShortCases one.rules.calls) rules filters short))
    (all_do settings table filters made are.1 (All-tail (HasWantedRules settings table) rules filters wanted)
    (All-tail (λ (one : Filter). All HasShortCases one.rules.calls) rules filters short))

all_accepted : (filters : List Filter) (made : List FilterProgram) → AreProgramsOf filters made
    → All (λ one. Accepts (bytes_of one.program) one.program) made
all_accepted [] [] are = All-nil (λ one. Accepts (bytes_of one.program) one.program)
all_accepted [] (one ∷ made) are = absurd are
all_accepted (rules ∷ filters) [] are = absurd are
all_accepted (rules ∷ filters) (one ∷ made) are = All-cons (λ one. Accepts (bytes_of one.program) one.program) one made are.0.taken
    (all_accepted filters made are.1)

room : (filters : List Filter) (made : List FilterProgram) → AreProgramsOf filters made → room_of made ≤ most_room filters
room [] [] are = omega arith
room [] (one ∷ made) are = absurd are
room (rules ∷ filters) [] are = absurd are
room (rules ∷ filters) (one ∷ made) are =
    let mine = sum_by-cons (λ one. length one.program + 4) one made in
    let theirs = sum_by-cons (λ filter. most_insns filter.rules + 4) rules filters in
    omega (arith, mine, theirs, are.0.matches.short, room filters made are.1)

-- programs of rules that are wanted are the filters that are wanted
pub are_filters : (settings : FilterSettings) (table : Table) (filters : List Filter) (made : List FilterProgram)
    → AreRules settings table filters → AreProgramsOf filters made → AreFilters settings table made
are_filters settings table filters made rules are = record {
  placed = names filters made are ∙ rules.exactly_those_on;
  do_as_wanted = all_do settings table filters made are rules.do_as_wanted rules.cases_are_short;
  accepted = all_accepted filters made are;
  fit_into_a_stack = omega (arith, room filters made are, rules.fit_into_a_stack);
}
