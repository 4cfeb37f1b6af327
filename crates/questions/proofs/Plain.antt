-- A call is plain where the kernel does not know its name.
use Rattle.std.proofs.Common.{◌≡◌, ℕ, Option, Some, None, refl}
use Rattle.std.specs.Prelude.{not, is_some}
use Rattle.kernel_laws.specs.call_table.call_names.Known.{known_call, is_known}
use Rattle.kernel_laws.specs.call_table.declared.call_names.known.KnownCall.{KnownCall}
use Rattle.kernel_laws.specs.call_table.declared.call_names.known.KnownCall.TheVariants.{Modelled, Absent}
use Rattle.kernel_laws.specs.call_table.declared.listed.CallLine.{CallLine}
use Rattle.kernel_laws.specs.kernel_model.kernel_calls.Rules.{rule_by, rule_of}
use Rattle.kernel_laws.specs.Questions.{is_plain}

by_cases : (known : Option KnownCall) (cap : Option ℕ) → not (is_some known) ≡ is_plain (rule_by known cap)
by_cases None cap = refl
by_cases (Some Absent) cap = refl
by_cases (Some (Modelled rule)) cap = refl

pub unknown_is_plain : (line : CallLine) → not (is_known line.kernel line.name) ≡ is_plain (rule_of line)
unfolding rule_of
unknown_is_plain line = by_cases (known_call line.kernel line.name) line.cap
