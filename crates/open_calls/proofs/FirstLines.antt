-- The first call of a kind is one that the filters let through, where there is one.
use Rattle.std.proofs.Common.{◌≡◌, ℕ, true, false, List, [], ◌+◌, Option, Some, None, length, refl, ap, ◌∙◌, sym, subst}
use Rattle.std.specs.Prelude.{find, slice_get, option_and_then, unwrap_or}
use Rattle.std.specs.Option.{option_or, option_map_or, option_to_list}
use Rattle.ceilings.specs.call_table.declared.listed.CallLine.{CallLine}
use Rattle.ceilings.specs.call_table.Lookups.{has_name, named}
use Rattle.ceilings.specs.call_table.Table.{Abi, calls_in, every_call, second_calls}
use Rattle.ceilings.specs.kernel_model.declared.kernel_calls.payload.Payload.{Payload}
use Rattle.ceilings.specs.kernel_model.declared.kernel_calls.rule.Rule.{Rule}
use Rattle.ceilings.specs.kernel_model.declared.kernel_calls.rule.Rule.TheVariants.{Plain}
use Rattle.ceilings.specs.kernel_laws.declared.question_types.kind.CallKind.{CallKind}
use Rattle.ceilings.specs.kernel_laws.Kinds.{no_words}
use Rattle.ceilings.specs.kernel_laws.Launched.{Launch, IsLaunched, chosen_words, lets, lets_line}
use Rattle.ceilings.specs.kernel_ways.Ways.{place_of}
use Rattle.ceilings.proofs.OfKernelWays.Lines.{Line, first_by, line_at}
use Rattle.open_calls.specs.chosen_calls.First.{names_of, lets_name, line_in, first_line, no_line, line_of, args_of, own_rule, call_by}
use Rattle.open_calls.proofs.Lists.{found_at, any_found, get_front, get_back}

pub record ChosenLine (launch : Launch) (kind : CallKind) : Type 0 where
  pub line : Line launch kind
  pub is : line_of launch kind ≡ line.line

-- the calls of the other ABI
second_are : (second : Option Abi) → second_calls second ≡ option_map_or (λ found. found.calls) (slice_get (option_to_list second) 0) []
second_are None = refl
second_are (Some second) = refl

-- a line of the table whose call passes
record Passing (launch : Launch) (kind : CallKind) (line : CallLine) : Type 0 where
  at : ℕ
  listed : slice_get (every_call launch.calls) at ≡ Some line
  lets : lets_line launch kind line ≡ true

module _ (launch : Launch) (kind : CallKind) where
  abbrev every : List CallLine
  every = every_call launch.calls

  -- in one of the ABIs
  record PassingIn (abi : ℕ) (line : CallLine) : Type 0 where
    at : ℕ
    listed : slice_get (calls_in launch.calls abi) at ≡ Some line
    lets : lets_line launch kind line ≡ true

  by_name : (abi : ℕ) (name : List ℕ) (o : Option CallLine) → named name (calls_in launch.calls abi) ≡ o
      → option_map_or (lets_line launch kind) o false ≡ true → (line : CallLine) → o ≡ Some line → PassingIn abi line
  by_name abi name None is h line e = cc
  by_name abi name (Some own) is h line e =
      let same : own ≡ line = cc in
      let f = found_at (has_name name) (calls_in launch.calls abi) own is in
      subst (PassingIn abi) same (record { at = f.0; listed = f.1; lets = h })

  passing_in : (abi : ℕ) (line : CallLine) → line_in launch kind abi ≡ Some line → PassingIn abi line
  passing_in abi line e = by (find (lets_name launch kind abi) (names_of kind)) refl e
    where
      by : (o : Option (List ℕ)) → find (lets_name launch kind abi) (names_of kind) ≡ o
          → option_and_then (λ name. named name (calls_in launch.calls abi)) o ≡ Some line → PassingIn abi line
      by None n e = cc
      by (Some name) n e = let f = found_at (lets_name launch kind abi) (names_of kind) name n in by_name abi name (named name (calls_in launch.calls abi)) refl f.2 line e

  passing_native : (line : CallLine) → line_in launch kind 0 ≡ Some line → Passing launch kind line
  passing_native line e = let p = passing_in 0 line e in record { at = p.at; listed = get_front launch.calls.calls (second_calls launch.calls.second) p.at line p.listed; lets = p.lets }

  passing_other : (line : CallLine) → line_in launch kind 1 ≡ Some line → Passing launch kind line
  passing_other line e =
      let p = passing_in 1 line e in
      let listed : slice_get (second_calls launch.calls.second) p.at ≡ Some line = ap (λ (lines : List CallLine). slice_get lines p.at) (second_are launch.calls.second) ∙ p.listed in
      record { at = length launch.calls.calls + p.at; listed = get_back launch.calls.calls (second_calls launch.calls.second) p.at ∙ listed; lets = p.lets }

  passing_any : (line : CallLine) → find (lets_line launch kind) every ≡ Some line → Passing launch kind line
  passing_any line e = let f = found_at (lets_line launch kind) every line e in record { at = f.0; listed = f.1; lets = f.2 }

  -- of three that may be there the first that is
  passing : (line : CallLine) → first_line launch kind ≡ Some line → Passing launch kind line
  passing line e = by (line_in launch kind 0) refl e
    where
      by_other : (o : Option CallLine) → line_in launch kind 1 ≡ o → option_or o (find (lets_line launch kind) every) ≡ Some line
          → Passing launch kind line
      by_other None is e = passing_any line e
      by_other (Some own) is e = passing_other line (is ∙ e)

      by : (o : Option CallLine) → line_in launch kind 0 ≡ o
          → option_or o (option_or (line_in launch kind 1) (find (lets_line launch kind) every)) ≡ Some line → Passing launch kind line
      by None is e = by_other (line_in launch kind 1) refl e
      by (Some own) is e = passing_native line (is ∙ e)

-- a call of the kind that passes is found
pub first_is : (launch : Launch) (kind : CallKind) → lets launch kind ≡ true → (line : CallLine) × (first_line launch kind ≡ Some line)
unfolding lets
first_is launch kind e = by (line_in launch kind 0)
    (then (line_in launch kind 1) (any_found (lets_line launch kind) (every_call launch.calls) e))
  where
    then : (o : Option CallLine) → (line : CallLine) × (find (lets_line launch kind) (every_call launch.calls) ≡ Some line)
        → (line : CallLine) × (option_or o (find (lets_line launch kind) (every_call launch.calls)) ≡ Some line)
    then None a = a
    then (Some line) a = (line, refl)

    by : {more : Option CallLine} (o : Option CallLine) → (line : CallLine) × (more ≡ Some line)
        → (line : CallLine) × (option_or o more ≡ Some line)
    by None a = a
    by (Some line) a = (line, refl)

pub chosen : (launch : Launch) → IsLaunched launch → (kind : CallKind) → lets launch kind ≡ true → ChosenLine launch kind
unfolding line_of
chosen launch l kind e =
    let first = first_is launch kind e in
    let p = passing launch kind first.0 first.1 in
    let x = line_at launch l kind p.at first.0 p.listed p.lets in
    record { line = x.0; is = ap (λ o. unwrap_or o no_line) first.1 ∙ sym x.1 }

module _ {launch : Launch} {kind : CallKind} (c : ChosenLine launch kind) where
  args_are : args_of launch kind c.line.line ≡ c.line.args
  args_are = ap (λ (r : Option Rule). unwrap_or (option_and_then (chosen_words launch kind c.line.line.abi c.line.line.number) r) no_words) c.line.is
      ∙ ap (λ (w : Option (List ℕ)). unwrap_or w no_words) c.line.are

  -- its call
  pub call_is : (payload : Payload) → call_by launch kind payload ≡ first_by (place_of c.line.line) c.line.args payload
  call_is payload = ap (λ (line : CallLine). first_by (place_of line) (args_of launch kind line) payload) c.is
      ∙ ap (λ (args : List ℕ). first_by (place_of c.line.line) args payload) args_are

  pub place_is : place_of (line_of launch kind) ≡ place_of c.line.line
  place_is = ap place_of c.is

  pub rule_is : own_rule (line_of launch kind) ≡ c.line.own
  rule_is = ap own_rule c.is ∙ ap (λ (r : Option Rule). unwrap_or r (Plain None)) c.line.is
