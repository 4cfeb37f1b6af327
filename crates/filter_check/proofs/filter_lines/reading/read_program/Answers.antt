use Rattle.std.proofs.Common.{sym, subst}
use Rattle.filter_check.specs.filter_lines.Lines.{lines_in}
use Rattle.filter_check.specs.filter_lines.Reading.{ReadsLines, not_text, text_lines}
use Rattle.filter_check.proofs.Read.{is_some_text, is_no_text}
use Rattle.filter_check.proofs.filter_lines.reading.read_program.Goals as goal

pub returns-in-Some : goal.returns-in-Some
returns-in-Some c =
    let is = is_some_text c.args.bytes.now c.in-Some.text.now (sym c.in-Some.ensures.text) in
    record {
      reads = text_lines c.program_of_text.result is.0
          (subst (λ text. ReadsLines (lines_in text) c.program_of_text.result) is.1 c.program_of_text.ensures.reads);
    }

pub returns-in-None : goal.returns-in-None
returns-in-None c = record { reads = not_text (is_no_text c.args.bytes.now (sym c.in-None.ensures.text)) }
