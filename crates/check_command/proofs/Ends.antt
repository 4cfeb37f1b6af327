-- The line of a comparison ends in a line feed.
use Rattle.std.proofs.Common.{codes, inr}
use Rattle.std.specs.Prelude.{flat_map}
use Rattle.std.specs.Fmt.{decimal}
use Rattle.filter_check.specs.declared.outcome.Outcome.{Outcome}
use Rattle.filter_check.specs.declared.outcome.Outcome.TheVariants.{Same, Differs}
use Rattle.unit_inputs.specs.command_answers.Lines.{IsOfLines}
use Rattle.unit_inputs.proofs.Lines.{ends_behind, ends_feed}
use Rattle.check_command.specs.Lines.{arg_text, call_text, outcome_text}

pub outcome_ends : (outcome : Outcome) → IsOfLines (outcome_text outcome)
outcome_ends (Same count) = inr (ends_behind (codes "same paths ") _ (ends_behind (decimal count) _ ends_feed))
outcome_ends (Differs at theirs ours) =
    inr (ends_behind (call_text at) _ (ends_behind (flat_map arg_text at.args) _
    (ends_behind (codes " theirs ") _ (ends_behind (decimal theirs) _
    (ends_behind (codes " ours ") _ (ends_behind (decimal ours) _ ends_feed))))))
