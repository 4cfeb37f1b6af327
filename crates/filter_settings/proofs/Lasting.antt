-- The last value that can be read, where values are read in turn.
use Rattle.std.proofs.Common.{◌≡◌, ℕ, suc, ◌+◌, ◌<◌, List, ◌∷◌, Option, Some, length, drop, get_or, sym, ap, ◌∙◌, add-one}
use Rattle.std.specs.Prelude.{unwrap_or}
use Rattle.std.proofs.Math.Seq.{drop-cons}
use Rattle.dropin_merge.specs.declared.unit_values.value.Value.{Value}
use Rattle.dropin_merge.specs.unit_values.Lasting.{last_read}
use Rattle.dropin_merge.proofs.Folding.{last_steps}

pub read_next : {X : Type 0} (read : List ℕ → Option X) (now next : X) (values : List Value) (i : ℕ) (value : Value)
    → i < length values → value ≡ get_or values i value → next ≡ unwrap_or (read value.text) now
    → last_read read now (drop i values) ≡ last_read read next (drop (i + 1) values)
read_next read now next values i value lt is step =
    ap (last_read read now) (drop-cons values i value lt ∙ ap (λ v. v ∷ drop (suc i) values) (sym is))
    ∙ last_steps read now (Some value) (drop (suc i) values)
    ∙ ap (λ k. last_read read (unwrap_or (read value.text) now) (drop k values)) (sym (add-one i))
    ∙ ap (λ x. last_read read x (drop (i + 1) values)) (sym step)
