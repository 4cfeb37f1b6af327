use Rattle.filter_check.specs.filter_lines.Lines.{lines_in}
use Rattle.filter_check.proofs.Read.{out_of_memory}
use Rattle.filter_check.proofs.filter_lines.reading.program_of_text.Goals as goal

pub returns-in_err-lines : goal.returns-in_err-lines
returns-in_err-lines c = record { reads = out_of_memory (lines_in c.args.text.now) c.from_residual.result c.from_residual.ensures.1 }
