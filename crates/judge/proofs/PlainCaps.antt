-- The capability that a call of the table asks for.
use Rattle.std.proofs.Common.{◌≡◌, ℕ, true, false, Option, Some, None, refl}
use Rattle.std.specs.Prelude.{is_some}
use Rattle.ceilings.specs.call_table.call_names.Known.{known_call, is_known}
use Rattle.ceilings.specs.call_table.declared.call_names.known.KnownCall.{KnownCall}
use Rattle.ceilings.specs.call_table.declared.call_names.known.KnownCall.TheVariants.{Modelled, Absent}
use Rattle.ceilings.specs.call_table.declared.listed.CallLine.{CallLine}
use Rattle.ceilings.specs.kernel_model.kernel_calls.Rules.{rule_by, rule_of}
use Rattle.ceilings.specs.kernel_laws.Bound.{can_have_cap, can_have_for}
use Rattle.ceilings.specs.kernel_laws.Bounds.{Bounds}

by_known : (top : Bounds) (known : Option KnownCall) (cap : Option ℕ) → is_some known ≡ true → true ≡ can_have_for top (rule_by known cap)
by_known top None cap e = cc
by_known top (Some Absent) cap e = refl
by_known top (Some (Modelled rule)) cap e = refl

by_plain : (top : Bounds) (known : Option KnownCall) (cap : Option ℕ) → is_some known ≡ false
    → can_have_cap top cap ≡ can_have_for top (rule_by known cap)
by_plain top None cap e = refl
by_plain top (Some known) cap e = cc

-- a call that the kernel knows asks for none here
pub known_have : (top : Bounds) (line : CallLine) → is_known line.kernel line.name ≡ true → true ≡ can_have_for top (rule_of line)
unfolding rule_of
known_have top line e = by_known top (known_call line.kernel line.name) line.cap e

-- a plain call asks for that of its line
pub plain_have : (top : Bounds) (line : CallLine) → is_known line.kernel line.name ≡ false → can_have_cap top line.cap ≡ can_have_for top (rule_of line)
unfolding rule_of
plain_have top line e = by_plain top (known_call line.kernel line.name) line.cap e
