-- A walk over a list knows whether it has seen an element that passes.
use Rattle.std.proofs.Common.{◌≡◌, ℕ, ◌+◌, ◌<◌, Bool, true, false, cond, List, [], ◌∷◌, ◌++◌, length, get_or, take, refl, sym, ap, ◌∙◌}
use Rattle.std.specs.Prelude.{◌||◌, ◌&&◌}
use Rattle.std.specs.List.{list_any}
use Rattle.std.proofs.lemmas.List.Folds.{list_any-append}
use Rattle.cred_settings.specs.unit_grammar.declared.notes.NoteCause.TheVariants.{Unjudged}
use Rattle.cred_settings.specs.dropin_merge.declared.resolved.Resolved.{Resolved}
use Rattle.cred_settings.specs.dropin_merge.declared.unit_values.value.FileNote.{FileNote}
use Rattle.cred_settings.specs.dropin_merge.declared.unit_values.value.Value.{Value}
use Rattle.cred_settings.specs.dropin_merge.unit_values.Notes.{notes_at, noted}
use Rattle.cred_settings.proofs.OfDropinMerge.Looping.{noted_next}
use Rattle.cred_settings.proofs.OfDropinMerge.OneMore.{take_item}
use Rattle.exec_settings.specs.Launched.{is_command, later_causes}

or_false : (a b : Bool) → (a || b) ≡ (a || (b || false))
or_false true b = refl
or_false false true = refl
or_false false false = refl

pub any_next : {X : Type 0} (p : X → Bool) (xs : List X) (i : ℕ) (x : X) (now next : Bool) → i < length xs → x ≡ get_or xs i x
    → now ≡ list_any p (take i xs) → next ≡ (now || p x) → next ≡ list_any p (take (i + 1) xs)
any_next p xs i x now next lt is before step =
    step
    ∙ ap (λ b. b || p x) before
    ∙ or_false (list_any p (take i xs)) (p x)
    ∙ sym (list_any-append p (take i xs) (x ∷ []))
    ∙ ap (list_any p) (sym (take_item xs i x lt is))

pub later_next : (unit : Resolved) (values : List Value) (i : ℕ) (value : Value) (seen : Bool) (old now next : List FileNote) → i < length values
    → value ≡ get_or values i value → seen ≡ list_any (is_command unit) (take i values) → now ≡ old ++ noted (later_causes unit) (take i values)
    → next ≡ now ++ notes_at value (cond (seen && is_command unit value) (Unjudged ∷ []) [])
    → next ≡ old ++ noted (later_causes unit) (take (i + 1) values)
later_next unit values i value seen old now next lt is same before step =
    noted_next (later_causes unit) values i value old now next lt is before
    (step ∙ ap (λ b. now ++ notes_at value (cond (b && is_command unit value) (Unjudged ∷ []) [])) same)
