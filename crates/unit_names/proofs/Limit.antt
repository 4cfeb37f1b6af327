-- A value may have too many bytes.
use Rattle.std.proofs.Common.{◌≡◌, ℕ, ◌<◌, cond, Option, Some, None, List, ◌++◌, length, refl, ap, arith}
use Rattle.std.specs.Fmt.{option_append}
use Rattle.std.specs.Option.{option_and_then}
use Rattle.std.proofs.lemmas.Bool.{lt-leb}
use Rattle.std.proofs.lemmas.List.{length-append}
use Rattle.unit_names.specs.Expansion.{longest_value, if_short}

-- a text that begins with too many bytes is too long, whatever follows
pub too_many : (bytes : List ℕ) (more : Option (List ℕ)) → longest_value < length bytes
    → option_and_then if_short (option_append (Some bytes) more) ≡ None
too_many bytes None h = refl
too_many bytes (Some more) h =
    ap (λ b. cond b (Some (bytes ++ more)) None) (lt-leb (length (bytes ++ more)) longest_value (omega (arith, length-append bytes more)))
