-- Facts on all that a call may leave.
use Rattle.std.proofs.Common.{◌≡◌, ℕ, Bool, true, false, refl, cond, Result, Ok, Err, subst}
use Rattle.kern_creds.specs.declared.creds.Creds.{Creds}

-- a refusal, or credentials with this property
pub record Leaves (P : Creds → Type 0) (answer : Result Creds ℕ) : Type 0 where
  pub held : (now : Creds) → answer ≡ Ok now → P now

pub left_err : (P : Creds → Type 0) (errno : ℕ) → Leaves P (Err errno)
left_err P errno = record { held = λ now e. cc }

pub left_ok : (P : Creds → Type 0) (now : Creds) → P now → Leaves P (Ok now)
left_ok P now p = record { held = λ new e. let same : now ≡ new = cc in subst P same p }

pub left_if : (P : Creds → Type 0) (b : Bool) (x y : Result Creds ℕ) → (b ≡ true → Leaves P x) → (b ≡ false → Leaves P y)
    → Leaves P (cond b x y)
left_if P true x y p q = p refl
left_if P false x y p q = q refl
