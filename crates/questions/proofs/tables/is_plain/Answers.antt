use Rattle.std.proofs.Common.{ap, ◌∙◌}
use Rattle.std.specs.Prelude.{not}
use Rattle.kernel_laws.specs.call_table.call_names.Known.{is_known}
use Rattle.questions.proofs.Plain.{unknown_is_plain}
use Rattle.questions.proofs.tables.is_plain.Goals as goal

pub returns : goal.returns
returns c = ap not (c.is_known.ensures.in_the_table ∙ ap (is_known c.args.line.now.kernel) c.as_str.ensures.same_text) ∙ unknown_is_plain c.args.line.now
