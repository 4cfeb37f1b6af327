-- Whether a text goes on behind another, by what strip_prefix gives.
use Rattle.std.proofs.Common.{◌≡◌, ℕ, Bool, true, false, List, Some, None, cond, refl}
use Rattle.std.specs.Prelude.{is_some}
use Rattle.kernel_laws.specs.abs_path.Prefix.{is_behind, behind_only}

pub some_behind : (rest : List ℕ) → is_behind rest ≡ is_some (behind_only rest)
some_behind rest = by (is_behind rest)
  where
    by : (b : Bool) → b ≡ is_some (cond b (Some rest) None)
    by true = refl
    by false = refl
