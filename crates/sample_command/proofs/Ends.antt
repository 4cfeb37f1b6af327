-- Each line ends in a line feed.
use Rattle.std.proofs.Common.{List, ℕ, codes, inr}
use Rattle.std.specs.Fmt.{decimal}
use Rattle.asked_service.specs.unit_inputs.command_answers.Lines.{IsOfLines}
use Rattle.asked_service.proofs.OfUnitInputs.Lines.{ends_behind, ends_feed}
use Rattle.sample_command.specs.Prints.{count_line}

pub count_ends : (word : List ℕ) (number : ℕ) → IsOfLines (count_line word number)
count_ends word number = inr (ends_behind word _ (ends_behind (codes " ") _ (ends_behind (decimal number) _ ends_feed)))
