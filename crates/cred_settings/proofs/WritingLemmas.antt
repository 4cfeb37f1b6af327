-- The meaning of common forms of lists of capabilities.
use Rattle.std.proofs.Common.{◌≡◌, ◌≢◌, ℕ, Bool, true, false, cond, eqb, List, [], ◌∷◌, ◌++◌, refl, sym, ap, ◌∙◌}
use Rattle.std.specs.Prelude.{fold, ◌||◌}
use Rattle.std.proofs.lemmas.List.Sums.{fold-append}
use Rattle.std.proofs.lemmas.Bool.{eq-eqb, ne_eqb, eqb-true}
use Rattle.dropin_merge.specs.declared.unit_values.listed.Listed.{Listed}
use Rattle.dropin_merge.specs.unit_values.Listed.{is_reset}
use Rattle.site_table.specs.cap_sets.Sets.{has, none, all, union, minus}
use Rattle.site_table.proofs.OfCapSets.Members.{same_sets, has_union, has_none}
use Rattle.cred_settings.specs.CapNames.{named_caps}
use Rattle.cred_settings.specs.CapLists.{with_plain, with_line, with_listed, caps_by}
use Rattle.cred_settings.specs.Writings.{IsLine}

-- a line on a set
line_on : (default set : ℕ) (inverted : Bool) (words : List (List ℕ)) (one : Listed) → IsLine inverted words one
    → with_listed default set one ≡ with_line default set (record { is_inverted = inverted; words = words })
line_on default set inverted words one is =
    ap (λ b. cond b none (with_line default set one.line)) is.filled ∙ ap (with_line default set) is.reads

-- a set that equals its default
at_default : {X : Type 0} (default : ℕ) (here other : X) → cond (eqb default default) here other ≡ here
at_default default here other = ap (λ b. cond b here other) (eq-eqb default default refl)

off_default : {X : Type 0} (default set : ℕ) (here other : X) → set ≢ default → cond (eqb set default) here other ≡ other
off_default default set here other ne = ap (λ b. cond b here other) (ne_eqb set default ne)

pub one_plain_line : (default : ℕ) (value : Listed) (words : List (List ℕ)) → IsLine false words value
    → caps_by default (value ∷ []) ≡ named_caps words
one_plain_line default value words is = line_on default default false words value is
    ∙ at_default default (named_caps words) (union default (named_caps words))

pub one_inverted_line : (default : ℕ) (value : Listed) (word : List ℕ) (words : List (List ℕ)) → IsLine true (word ∷ words) value
    → caps_by default (value ∷ []) ≡ minus all (named_caps (word ∷ words))
one_inverted_line default value word words is =
    line_on default default true (word ∷ words) value is ∙ ap (λ set. minus set (named_caps (word ∷ words)))
    (at_default default all default)

behind : (default : ℕ) (before more : List Listed) → caps_by default (before ++ more)
    ≡ fold (with_listed default) (caps_by default before) more
behind default before more = fold-append (with_listed default) default before more

pub tilde_alone : (default : ℕ) (before : List Listed) (value : Listed) → IsLine true [] value
    → caps_by default (before ++ value ∷ []) ≡ all
tilde_alone default before value is = behind default before (value ∷ []) ∙ line_on default (caps_by default before) true [] value is

-- two plain lines, where the second changes the set of the first
second_plain : (default : ℕ) (one other : Listed) (words more : List (List ℕ)) → IsLine false words one → IsLine false more other
    → caps_by default (one ∷ other ∷ []) ≡ with_plain default (named_caps words) (named_caps more)
second_plain default one other words more first second =
    ap (λ set. with_listed default set other) (one_plain_line default one words first)
    ∙ line_on default (named_caps words) false more other second

pub two_plain_lines : (default : ℕ) (one other : Listed) (words more : List (List ℕ)) → IsLine false words one → IsLine false more other
    → named_caps words ≢ default → caps_by default (one ∷ other ∷ []) ≡ union (named_caps words) (named_caps more)
two_plain_lines default one other words more first second ne =
    second_plain default one other words more first second ∙ off_default default (named_caps words) (named_caps more)
    (union (named_caps words) (named_caps more)) ne

with_nothing : (set : ℕ) → set ≡ union none set
with_nothing set = sym (same_sets (union none set) set (λ number. has_union none set number
    ∙ ap (λ b. b || has set number) (has_none number)))

on_nothing : (set named : ℕ) → with_plain none set named ≡ union set named
on_nothing set named = by (eqb set none) refl
  where
    by : (b : Bool) → eqb set none ≡ b → cond b named (union set named) ≡ union set named
    by true e = with_nothing named ∙ ap (λ other. union other named) (sym (eqb-true set none e))
    by false e = refl

pub two_ambient_lines : (one other : Listed) (words more : List (List ℕ)) → IsLine false words one → IsLine false more other
    → caps_by none (one ∷ other ∷ []) ≡ union (named_caps words) (named_caps more)
two_ambient_lines one other words more first second = second_plain none one other words more first second
    ∙ on_nothing (named_caps words) (named_caps more)

-- a plain line on the empty set, whatever the default
plain_on_none : (default named : ℕ) → with_plain default none named ≡ named
plain_on_none default named = by (eqb none default)
  where
    by : (b : Bool) → cond b named (union none named) ≡ named
    by true = refl
    by false = sym (with_nothing named)

pub empty_value_first : (default : ℕ) (before : List Listed) (empty value : Listed) (words : List (List ℕ)) → is_reset empty ≡ true
    → IsLine false words value → caps_by default (before ++ (empty ∷ value ∷ [])) ≡ named_caps words
empty_value_first default before empty value words e is =
    behind default before (empty ∷ value ∷ [])
    ∙ ap (λ b. with_listed default (cond b none (with_line default (caps_by default before) empty.line)) value) e
    ∙ line_on default none false words value is ∙ plain_on_none default (named_caps words)
