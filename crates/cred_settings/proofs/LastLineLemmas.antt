-- The last line that speaks of a capability decides.
use Rattle.std.proofs.Common.{◌≡◌, ℕ, ◌≤◌, Bool, true, false, cond, Option, Some, None, List, [], ◌∷◌, ◌++◌, refl, sym, ap, ◌∙◌}
use Rattle.std.specs.Prelude.{◌==◌, ◌||◌, ◌&&◌, not, fold, unwrap_or}
use Rattle.std.specs.List.{list_any, filter_map, cons_option}
use Rattle.std.proofs.lemmas.Bool.{le-leb}
use Rattle.std.proofs.lemmas.List.Sums.{fold-append}
use Rattle.dropin_merge.specs.unit_grammar.Before.{with_before, last_of}
use Rattle.dropin_merge.specs.declared.unit_values.lines.Line.{Line}
use Rattle.dropin_merge.specs.declared.unit_values.listed.Listed.{Listed}
use Rattle.dropin_merge.specs.unit_values.Listed.{is_reset}
use Rattle.site_table.specs.cap_sets.Sets.{has, none, all, union}
use Rattle.site_table.proofs.OfCapSets.Members.{has_union, has_minus, has_none, has_all}
use Rattle.cred_settings.specs.CapNames.{named_caps}
use Rattle.cred_settings.specs.CapLists.{with_plain, with_inverted, with_line, with_listed, caps_by}
use Rattle.cred_settings.specs.Writings.{is_name_of}
use Rattle.cred_settings.specs.LastLines.{says_of, inverted_says, line_says, says, is_taken_in}
use Rattle.cred_settings.proofs.NamedMembers.{members_named}

-- ---- one line

-- the full set has each of the 41 capabilities
pub in_all : (number : ℕ) → number ≤ 40 → has all number ≡ true
in_all number small = has_all number ∙ le-leb number 40 small

-- a plain line, by whether it begins anew and whether it names the capability
plain_at : (begins named had : Bool) → cond begins named (had || named) ≡ unwrap_or (says_of true false named begins) had
plain_at true true had = refl
plain_at true false had = refl
plain_at false true true = refl
plain_at false true false = refl
plain_at false false true = refl
plain_at false false false = refl

inverted_at : (begins named had : Bool) → (cond begins true had && not named) ≡ unwrap_or (says_of false true named begins) had
inverted_at true true had = refl
inverted_at true false had = refl
inverted_at false true true = refl
inverted_at false true false = refl
inverted_at false false true = refl
inverted_at false false false = refl

has_if : (b : Bool) (one other number : ℕ) → has (cond b one other) number ≡ cond b (has one number) (has other number)
has_if true one other number = refl
has_if false one other number = refl

by_plain : (default set number : ℕ) (words : List (List ℕ)) → number ≤ 40
    → has (with_plain default set (named_caps words)) number
    ≡ unwrap_or (says_of true false (list_any (is_name_of number) words) (set == default)) (has set number)
by_plain default set number words small =
    has_if (set == default) (named_caps words) (union set (named_caps words)) number
    ∙ ap (λ b. cond (set == default) (has (named_caps words) number) b) (has_union set (named_caps words) number)
    ∙ ap (λ b. cond (set == default) b (has set number || b)) (members_named words number small)
    ∙ plain_at (set == default) (list_any (is_name_of number) words) (has set number)

by_inverted : (default set number : ℕ) (words : List (List ℕ)) → number ≤ 40
    → has (with_inverted default set words) number ≡ unwrap_or (inverted_says number (set == default) words) (has set number)
by_inverted default set number [] small = in_all number small
by_inverted default set number (word ∷ words) small =
    has_minus (cond (set == default) all set) (named_caps (word ∷ words)) number
    ∙ ap (λ b. b && not (has (named_caps (word ∷ words)) number)) (has_if (set == default) all set number)
    ∙ ap (λ b. cond (set == default) b (has set number) && not (has (named_caps (word ∷ words)) number)) (in_all number small)
    ∙ ap (λ b. cond (set == default) true (has set number) && not b) (members_named (word ∷ words) number small)
    ∙ inverted_at (set == default) (list_any (is_name_of number) (word ∷ words)) (has set number)

by_line : (default set number : ℕ) (line : Line) → number ≤ 40
    → has (with_line default set line) number ≡ unwrap_or (line_says number (set == default) line) (has set number)
by_line default set number line small = by line.is_inverted
  where
    by : (b : Bool) → has (cond b (with_inverted default set line.words) (with_plain default set (named_caps line.words))) number
        ≡ unwrap_or (cond b (inverted_says number (set == default) line.words)
        (says_of true false (list_any (is_name_of number) line.words) (set == default))) (has set number)
    by true = by_inverted default set number line.words small
    by false = by_plain default set number line.words small

by_listed : (default number : ℕ) (before : List Listed) (one : Listed) → number ≤ 40
    → has (with_listed default (caps_by default before) one) number
    ≡ unwrap_or (says default number (before, one)) (has (caps_by default before) number)
by_listed default number before one small = by (is_reset one)
  where
    by : (b : Bool) → has (cond b none (with_line default (caps_by default before) one.line)) number
        ≡ unwrap_or (cond b (Some false) (line_says number (caps_by default before == default) one.line))
        (has (caps_by default before) number)
    by true = has_none number
    by false = by_line default (caps_by default before) number one.line small

-- ---- the last that speaks

-- if there is a last element, the default does not matter
last_hides : {X : Type 0} (x : X) (xs : List X) (old other : X) → unwrap_or (last_of (x ∷ xs)) old ≡ unwrap_or (last_of (x ∷ xs)) other
last_hides x [] old other = refl
last_hides x (y ∷ xs) old other = last_hides y xs old other

pub last_behind : {X : Type 0} (o : Option X) (xs : List X) (old : X)
    → unwrap_or (last_of xs) (unwrap_or o old) ≡ unwrap_or (last_of (cons_option o xs)) old
last_behind None xs old = refl
last_behind (Some x) [] old = refl
last_behind (Some x) (y ∷ xs) old = last_hides y xs x old

-- the lines after some lines
later_lines : (default number : ℕ) → number ≤ 40 → (before lines : List Listed)
    → has (fold (with_listed default) (caps_by default before) lines) number
    ≡ unwrap_or (last_of (filter_map (says default number) (with_before before lines))) (has (caps_by default before) number)
later_lines default number small before [] = refl
later_lines default number small before (one ∷ lines) =
    let rest = filter_map (says default number) (with_before (before ++ one ∷ []) lines) in
    ap (λ set. has (fold (with_listed default) set lines) number) (sym (fold-append (with_listed default) default before (one ∷ [])))
    ∙ later_lines default number small (before ++ one ∷ []) lines
    ∙ ap (λ set. unwrap_or (last_of rest) (has set number)) (fold-append (with_listed default) default before (one ∷ []))
    ∙ ap (unwrap_or (last_of rest)) (by_listed default number before one small)
    ∙ last_behind (says default number (before, one)) rest (has (caps_by default before) number)

pub last_line_decides : (default number : ℕ) (lines : List Listed) → number ≤ 40
    → has (caps_by default lines) number ≡ is_taken_in default number lines
last_line_decides default number lines small = later_lines default number small [] lines
