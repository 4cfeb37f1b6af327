-- The filter that a name means, and the comparison with it.
use Rattle.std.proofs.Common.{◌≡◌, ◌∙◌, ℕ, Bool, true, false, cond, List, [], ◌∷◌, map, Option, Some, None, Result, Ok, Err, refl, sym, ap}
use Rattle.std.proofs.Common.{subst}
use Rattle.std.specs.Prelude.{find, option_map}
use Rattle.std.specs.List.{All}
use Rattle.std.proofs.lemmas.List.Elements.{All-head, All-tail}
use Rattle.filter_check.specs.bpf_code.Meaning.{Answers}
use Rattle.filter_check.specs.bpf_code.declared.machine.CallData.{CallData}
use Rattle.filter_check.specs.bpf_code.declared.machine.Insn.{Insn}
use Rattle.filter_check.specs.call_rules.Action.{word_of}
use Rattle.filter_check.specs.call_rules.Sizes.{CanCompile}
use Rattle.unit_inputs.specs.call_table.Table.{Table}
use Rattle.unit_inputs.specs.declared.command_answers.error.CommandError.{CommandError}
use Rattle.unit_inputs.specs.command_answers.Said.{IsSaid}
use Rattle.unit_inputs.proofs.Said.{said_as}
use Rattle.unit_inputs.specs.exec_settings.AreSettings.{AreFilters, HasWantedRules}
use Rattle.filter_check.specs.Finding.{DiffersAt, Finds, foreign, too_many, same, differs, memory, wanted_by}
use Rattle.filter_check.specs.declared.outcome.CheckError.{CheckError}
use Rattle.filter_check.specs.declared.outcome.Outcome.{Outcome}
use Rattle.unit_inputs.specs.filter_settings.filter_rules.Installed.{place_of}
use Rattle.unit_inputs.specs.filter_settings.filter_rules.Names.{Place}
use Rattle.unit_inputs.specs.filter_settings.declared.filter_rules.installed.Filter.{Filter}
use Rattle.unit_inputs.specs.filter_settings.declared.filter_rules.settings.FilterSettings.{FilterSettings}
use Rattle.check_command.specs.Comparing.{Compares, ComparesNamed, not_compared, is_compared, is_on, wanted_word}
use Rattle.check_command.specs.Naming.{means, named_place}
use Rattle.check_command.specs.declared.ready.Checked.{Checked}

-- words that are wanted alike differ alike
differs_as : (code : List Insn) (one other : CallData → ℕ) (input : CallData) (theirs ours : ℕ) → one input ≡ other input
    → DiffersAt code one input theirs ours → DiffersAt code other input theirs ours
differs_as code one other input theirs ours alike is = record
    { fits = is.fits; answers = is.answers; is_wanted = is.is_wanted ∙ alike; differ = is.differ }

-- and the same is found of them
module _ (code : List Insn) (one other : CallData → ℕ) (alike : (input : CallData) → one input ≡ other input) where
  finds_as : (result : Result Outcome CheckError) → Finds code one result → Finds code other result
  finds_as _ (foreign place is) = foreign place is
  finds_as _ (too_many form more) = too_many form more
  finds_as _ (same count is answers) = same count is (λ input fits. subst (Answers code input) (alike input) (answers input fits))
  finds_as _ (differs count at theirs ours is least) = differs count at theirs ours is (record {
    differs = differs_as code one other at theirs ours (alike at) least.differs;
    least = λ input their own d. least.least input their own (differs_as code other one input their own (sym (alike input)) d);
  })
  finds_as _ memory = memory

  compares_as : (path : List ℕ) (said : Result Outcome (List ℕ)) → Compares path code one said → Compares path code other said
  compares_as path _ (not_compared error ne finds) = not_compared error ne (finds_as (Err error) finds)
  compares_as path _ (is_compared outcome finds) = is_compared outcome (finds_as (Ok outcome) finds)

module _ {X : Type 0} (P : X → Type 0) (test : X → Bool) where
  found_first : (b : Bool) (first found : X) (rest : Option X) → cond b (Some first) rest ≡ Some found → P first
      → (rest ≡ Some found → P found) → P found
  found_first true first found rest is holds more = let e : first ≡ found = cc in subst P e holds
  found_first false first found rest is holds more = more is

  -- what is found among things that have a property has it
  found_has : (xs : List X) (found : X) → find test xs ≡ Some found → All P xs → P found
  found_has [] found is all = cc
  found_has (x ∷ xs) found is all = found_first (test x) x found (find test xs) is (All-head P x xs all)
      (λ e. found_has xs found e (All-tail P x xs all))

module _ (test : Place → Bool) where
  first_place : (b : Bool) (filter : Filter) (found : Option Filter) (places : Option Place) → option_map place_of found ≡ places
      → option_map place_of (cond b (Some filter) found) ≡ cond b (Some (place_of filter)) places
  first_place true filter found places rest = refl
  first_place false filter found places rest = rest

  -- the first filter of a place that is sought is the first such place
  find_place : (filters : List Filter) → option_map place_of (find (λ filter. test (place_of filter)) filters)
      ≡ find test (map place_of filters)
  find_place [] = refl
  find_place (filter ∷ filters) = first_place (test (place_of filter)) filter (find (λ filter. test (place_of filter)) filters)
      (find test (map place_of filters)) (find_place filters)

-- what is found by a table and among filters that are lent
pub found_in : (table own : Table) (filters given : List Filter) (name : List ℕ) (found : Option Filter) → own ≡ table → given ≡ filters
    → found ≡ find (λ filter. means own name (place_of filter)) given → find (λ filter. means table name (place_of filter)) filters ≡ found
found_in table own filters given name found same_table same_filters is =
    subst (λ these. find (λ filter. means these name (place_of filter)) filters ≡ found) same_table
    (subst (λ these. find (λ filter. means own name (place_of filter)) these ≡ found) same_filters (sym is))

module _ (settings : FilterSettings) (table : Table) (filters : List Filter) (are : AreFilters settings table filters) (name : List ℕ) where
  named_as : named_place settings table name ≡ option_map place_of (find (λ filter. means table name (place_of filter)) filters)
  named_as = ap (find (means table name)) (sym are.exactly_those_on) ∙ sym (find_place (means table name) filters)

  module _ (unit path : List ℕ) (code : List Insn) where
    -- no filter of the name is on
    pub named_none : find (λ filter. means table name (place_of filter)) filters ≡ None → named_place settings table name ≡ None
    named_none is = named_as ∙ ap (option_map place_of) is

    module _ (filter : Filter) (is : find (λ one. means table name (place_of one)) filters ≡ Some filter) where
      pub can_be_compiled : CanCompile filter.rules
      can_be_compiled = found_has (λ (one : Filter). CanCompile one.rules)
          (λ one. means table name (place_of one)) filters filter is are.can_be_compiled

      does_as_wanted : HasWantedRules settings table filter
      does_as_wanted = found_has (HasWantedRules settings table) (λ one. means table name (place_of one)) filters filter is are.do_as_wanted

      -- a comparison with its rules is one with what the settings want of it
      pub compares_named : (result : Result Checked CommandError) → IsSaid (λ (checked : Checked). checked.outcome)
          (Compares path code (wanted_by filter.rules)) result
          → IsSaid (λ (checked : Checked). checked.outcome) (ComparesNamed unit name path settings table code) result
      compares_named result said =
          said_as (λ (checked : Checked). checked.outcome) (Compares path code (wanted_by filter.rules))
          (ComparesNamed unit name path settings table code)
          (λ told compares. is_on (place_of filter) told (named_as ∙ ap (option_map place_of) is)
          (compares_as code (wanted_by filter.rules) (wanted_word settings table (place_of filter))
          (λ input. ap word_of (does_as_wanted input)) path told compares))
          result said
