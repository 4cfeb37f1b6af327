-- The last line that speaks of a capability decides, as a version of systemd reads the lines.
use Rattle.std.proofs.Common.{◌≡◌, ℕ, ◌≤◌, Bool, true, false, cond, Option, Some, None, List, [], ◌∷◌, ◌++◌, refl, sym, ap, ◌∙◌}
use Rattle.std.specs.Prelude.{◌==◌, ◌||◌, ◌&&◌, not, fold, unwrap_or}
use Rattle.std.specs.List.{filter_map}
use Rattle.std.proofs.lemmas.Bool.{eqb-true}
use Rattle.std.proofs.lemmas.List.Sums.{fold-append}
use Rattle.dropin_merge.specs.unit_grammar.Before.{with_before, last_of}
use Rattle.dropin_merge.specs.declared.unit_values.listed.Listed.{Listed}
use Rattle.site_table.specs.cap_sets.Sets.{has, none, all, minus}
use Rattle.site_table.proofs.OfCapSets.Members.{has_union, has_minus, has_none}
use Rattle.cred_settings.specs.CapNames.{named_caps}
use Rattle.cred_settings.specs.CapSums.{counted, all_but, anew, changed, with_value, summed}
use Rattle.cred_settings.specs.LastLines.{says_of}
use Rattle.cred_settings.specs.LastSums.{begins_anew, says, is_taken_in}
use Rattle.cred_settings.proofs.LastLineLemmas.{in_all, last_behind}
use Rattle.cred_settings.proofs.NamedMembers.{members_named}

-- ---- one line

-- all capabilities outside a sum; an empty sum leaves all
but_sum : (sum number : ℕ) → number ≤ 40 → has (counted (all_but sum)) number ≡ not (has sum number)
but_sum sum number small = by (sum == none) refl
  where
    by : (b : Bool) → (sum == none) ≡ b → has (counted (cond b None (Some (minus all sum)))) number ≡ not (has sum number)
    by true e = in_all number small ∙ ap not (sym (has_none number) ∙ ap (λ set. has set number) (sym (eqb-true sum none e)))
    by false e = has_minus all sum number ∙ ap (λ b. b && not (has sum number)) (in_all number small)

plain_anew : (names : Bool) → (had : Bool) → names ≡ unwrap_or (says_of true false names true) had
plain_anew true had = refl
plain_anew false had = refl

inverted_anew : (names : Bool) → (had : Bool) → not names ≡ unwrap_or (says_of false true names true) had
inverted_anew true had = refl
inverted_anew false had = refl

plain_on : (names had : Bool) → (had || names) ≡ unwrap_or (says_of true false names false) had
plain_on true true = refl
plain_on true false = refl
plain_on false true = refl
plain_on false false = refl

inverted_on : (names had : Bool) → (had && not names) ≡ unwrap_or (says_of false true names false) had
inverted_on true true = refl
inverted_on true false = refl
inverted_on false true = refl
inverted_on false false = refl

by_sum : (set : Option ℕ) (sum number : ℕ) (inverted begins : Bool) → number ≤ 40
    → has (counted (cond begins (anew inverted sum) (Some (changed inverted (counted set) sum)))) number
    ≡ unwrap_or (cond inverted (says_of false true (has sum number) begins) (says_of true false (has sum number) begins))
    (has (counted set) number)
by_sum set sum number true true small = but_sum sum number small ∙ inverted_anew (has sum number) (has (counted set) number)
by_sum set sum number false true small = plain_anew (has sum number) (has (counted set) number)
by_sum set sum number true false small = has_minus (counted set) sum number ∙ inverted_on (has sum number) (has (counted set) number)
by_sum set sum number false false small = has_union (counted set) sum number ∙ plain_on (has sum number) (has (counted set) number)

by_value : (default : Option ℕ) (number : ℕ) (before : List Listed) (one : Listed) → number ≤ 40
    → has (counted (with_value default (summed default before) one)) number
    ≡ unwrap_or (says default number (before, one)) (has (counted (summed default before)) number)
by_value default number before one small =
    by_sum (summed default before) (named_caps one.line.words) number one.line.is_inverted (begins_anew default before one.line) small
    ∙ ap (λ names. unwrap_or (cond one.line.is_inverted (says_of false true names (begins_anew default before one.line))
    (says_of true false names (begins_anew default before one.line))) (has (counted (summed default before)) number))
    (members_named one.line.words number small)

-- ---- the last that speaks
later_lines : (default : Option ℕ) (number : ℕ) → number ≤ 40 → (before lines : List Listed)
    → has (counted (fold (with_value default) (summed default before) lines)) number
    ≡ unwrap_or (last_of (filter_map (says default number) (with_before before lines))) (has (counted (summed default before)) number)
later_lines default number small before [] = refl
later_lines default number small before (one ∷ lines) =
    let rest = filter_map (says default number) (with_before (before ++ one ∷ []) lines) in
    ap (λ set. has (counted (fold (with_value default) set lines)) number)
    (sym (fold-append (with_value default) default before (one ∷ [])))
    ∙ later_lines default number small (before ++ one ∷ []) lines
    ∙ ap (λ set. unwrap_or (last_of rest) (has (counted set) number)) (fold-append (with_value default) default before (one ∷ []))
    ∙ ap (unwrap_or (last_of rest)) (by_value default number before one small)
    ∙ last_behind (says default number (before, one)) rest (has (counted (summed default before)) number)

pub last_sum_decides : (default : Option ℕ) (number : ℕ) (lines : List Listed) → number ≤ 40
    → has (counted (summed default lines)) number ≡ is_taken_in default number lines
last_sum_decides default number lines small = later_lines default number small [] lines
