-- The first of several causes.
use Rattle.std.proofs.Common.{◌≡◌, Bool, true, false, List, [], ◌∷◌, ◌++◌, Some, None, refl}
use Rattle.site_table.specs.declared.error.RowCause.{RowCause}
use Rattle.site_table.specs.Rows.{first_of}

-- if the first causes do not apply, the others decide
pub first_of-append : (causes more : List (Bool × RowCause)) → first_of causes ≡ None → first_of (causes ++ more) ≡ first_of more
first_of-append [] more h = refl
first_of-append ((true, cause) ∷ causes) more h = absurd (cc)
first_of-append ((false, cause) ∷ causes) more h = first_of-append causes more h

-- if one of the first causes applies, the others do not matter
pub first_of-found : (causes more : List (Bool × RowCause)) (cause : RowCause) → first_of causes ≡ Some cause
    → first_of (causes ++ more) ≡ Some cause
first_of-found [] more cause h = absurd (cc)
first_of-found ((true, first) ∷ causes) more cause h = h
first_of-found ((false, first) ∷ causes) more cause h = first_of-found causes more cause h

-- no cause applies: neither the first, nor another
pub first_of-none : (applies : Bool) (cause : RowCause) (causes : List (Bool × RowCause)) → first_of ((applies, cause) ∷ causes) ≡ None
    → (applies ≡ false) × (first_of causes ≡ None)
first_of-none true cause causes h = absurd (cc)
first_of-none false cause causes h = (refl, h)
