-- One more value changes the answers about all keys.
use Rattle.std.proofs.Common.{◌≡◌, ℕ, ◌+◌, ◌<◌, List, ◌++◌, length, take, get_or, sym, ap, ◌∙◌, append_assoc}
use Rattle.unit_grammar.proofs.Befores.{given_more}
use Rattle.unit_grammar.specs.declared.notes.NoteCause.{NoteCause}
use Rattle.dropin_merge.specs.declared.unit_values.value.FileNote.{FileNote}
use Rattle.dropin_merge.specs.declared.unit_values.value.Value.{Value}
use Rattle.dropin_merge.specs.unit_values.Notes.{notes_at, noted}
use Rattle.dropin_merge.proofs.OneMore.{take_item}

-- the notes on the values so far, followed by the notes on the next value
pub noted_next : (causes : List Value × Value → List NoteCause) (values : List Value) (i : ℕ) (value : Value)
    (old now next : List FileNote) → i < length values → value ≡ get_or values i value → now ≡ old ++ noted causes (take i values)
    → next ≡ now ++ notes_at value (causes (take i values, value)) → next ≡ old ++ noted causes (take (i + 1) values)
noted_next causes values i value old now next lt is before step =
    step
    ∙ ap (λ ns. ns ++ notes_at value (causes (take i values, value))) before
    ∙ append_assoc old (noted causes (take i values)) (notes_at value (causes (take i values, value)))
    ∙ ap (λ ns. old ++ ns) (sym (ap (noted causes) (take_item values i value lt is)
    ∙ given_more (λ place. notes_at place.1 (causes place)) (take i values) value))
