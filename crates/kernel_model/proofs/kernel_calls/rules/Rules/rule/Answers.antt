use Rattle.std.proofs.Common.{sym, ◌∙◌}
use Rattle.call_table.specs.Table.{calls_in}
use Rattle.kernel_model.proofs.Search.{rule_found, rule_missing}
use Rattle.kernel_model.proofs.kernel_calls.rules.Rules.rule.Goals as goal

pub returns-in-Some : goal.returns-in-Some
returns-in-Some c = record { by_number = rule_found (calls_in c.args.calls.now c.args.abi) c.args.nr c.in-Some.place c.rules_in-rules.result.now _ c.rules_in-rules.ensures (sym c.place_numbered.ensures ∙ c.in-Some.is) }

pub returns-in-None : goal.returns-in-None
returns-in-None c = record { by_number = rule_missing (calls_in c.args.calls.now c.args.abi) c.args.nr (sym c.place_numbered.ensures ∙ c.in-None.is) }
