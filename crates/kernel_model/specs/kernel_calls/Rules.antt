-- The rule of a call of the table, which its name and the kernel that reads it decide.
use Rattle.std.specs.Prelude.{ℕ, List, Option, Some, None, option_and_then, map}
use Rattle.call_table.specs.Table.{Table, second_calls}
use Rattle.call_table.specs.call_names.Known.{known_call, form_of}
use Rattle.call_table.specs.declared.call_names.known.KnownCall.{KnownCall}
use Rattle.call_table.specs.declared.call_names.known.KnownCall.TheVariants.{Modelled, Absent}
use Rattle.call_table.specs.declared.call_names.payload.PayloadForm.{PayloadForm}
use Rattle.call_table.specs.declared.call_names.payload.PayloadForm.TheVariants as form
use Rattle.call_table.specs.declared.listed.CallLine.{CallLine}
use Rattle.call_table.specs.Lookups.{numbered}
use Rattle.kernel_model.specs.declared.kernel_calls.rule.Rule.{Rule}
use Rattle.kernel_model.specs.declared.kernel_calls.rule.Rule.TheVariants.{Known, Plain}

-- a call with an unknown name is plain, and needs the capability of its line
abbrev pub rule_by : Option KnownCall → Option ℕ → Option Rule
rule_by None cap = Some (Plain cap)
rule_by (Some Absent) cap = None
rule_by (Some (Modelled rule)) cap = Some (Known rule)

-- the rule of a line of the table; None if the kernel lacks the call
unfoldable pub rule_of : CallLine → Option Rule
rule_of line = rule_by (known_call line.kernel line.name) line.cap

-- the rule of a number; also None if no line has the number
abbrev pub rule_at : List CallLine → ℕ → Option Rule
rule_at calls nr = option_and_then rule_of (numbered nr calls)

-- the rules of the native ABI and of a second one, line by line
abbrev pub TableRules : Type 0
TableRules = List (Option Rule) × List (Option Rule)

abbrev pub rules_of : Table → TableRules
rules_of table = (map rule_of table.calls, map rule_of (second_calls table.second))

-- the form of the payload that a call of this rule has
abbrev pub form_of_rule : Rule → PayloadForm
form_of_rule (Known rule) = form_of rule
form_of_rule (Plain cap) = form.Nothing
