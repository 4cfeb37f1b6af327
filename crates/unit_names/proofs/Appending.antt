-- Texts are joined, and one of them may be missing.
use Rattle.std.proofs.Common.{◌≡◌, ℕ, Option, Some, None, List, [], ◌∷◌, ◌++◌, refl, sym, ap, append_assoc}
use Rattle.std.specs.Fmt.{option_append}
use Rattle.std.proofs.lemmas.Option.{none-some}
use Rattle.unit_names.specs.Unescaping.{onto}

-- a byte in front of the following text is a byte at the end of the preceding text
pub option_append-onto : (old : List ℕ) (byte : ℕ) (more : Option (List ℕ))
    → option_append (Some old) (onto (Some byte) more) ≡ option_append (Some (old ++ byte ∷ [])) more
option_append-onto old byte None = refl
option_append-onto old byte (Some more) = ap Some (sym (append_assoc old (byte ∷ []) more))

pub option_append_assoc : (old : List ℕ) (middle more : Option (List ℕ))
    → option_append (Some old) (option_append middle more) ≡ option_append (option_append (Some old) middle) more
option_append_assoc old None more = refl
option_append_assoc old (Some middle) None = refl
option_append_assoc old (Some middle) (Some more) = ap Some (sym (append_assoc old middle more))

pub option_append_none : (middle : Option (List ℕ)) → option_append middle None ≡ None
option_append_none None = refl
option_append_none (Some middle) = refl

-- the whole is missing only if the added text is missing
pub missing_more : (old : List ℕ) (more : Option (List ℕ)) → option_append (Some old) more ≡ None → more ≡ None
missing_more old None e = refl
missing_more old (Some more) e = absurd (none-some (old ++ more) (sym e))
