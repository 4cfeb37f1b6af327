use Rattle.std.proofs.Common.{◌∙◌, sym}
use Rattle.derive_command.proofs.trace_profile.finding.differ_in_programs.Goals as goal

pub returns : goal.returns
returns c = λ is. record { plain = c.has_plain_names.ensures.only_a_plain_table is; keeps_none = sym c.is_257.ensures ∙ c.if-is_257.false }
