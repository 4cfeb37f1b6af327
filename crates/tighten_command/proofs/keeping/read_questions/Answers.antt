use Rattle.std.proofs.Common.{◌∙◌, ap, map, subst}
use Rattle.asked_service.specs.text_forms.line_text.Lines.{lines_of}
use Rattle.asked_service.specs.text_forms.line_text.Views.{line_view}
use Rattle.tighten_command.specs.Keeping.{ReadsKeep, ReadsLines, no_memory, not_text, text_lines}
use Rattle.tighten_command.proofs.Reading.{at_memory, no_text, some_text}
use Rattle.tighten_command.proofs.keeping.read_questions.Goals as goal

pub returns-in_default : goal.returns-in_default
returns-in_default c = record { reads = not_text (no_text c.args.bytes.now c.in_default.ensures.text) }

pub returns-in_err-lines : goal.returns-in_err-lines
returns-in_err-lines c = record {
  reads = at_memory (ReadsKeep c.args.calls.now c.args.site.now c.args.bytes.now) c.from_residual.result c.from_residual.ensures.1
      (text_lines _ (some_text c.args.bytes.now c.in-Some.text.now c.in-Some.ensures.text).0 no_memory);
}

pub returns : goal.returns
returns c =
    let is = some_text c.args.bytes.now c.in-Some.text.now c.in-Some.ensures.text in
    record {
      reads =
          text_lines c.keep_of_lines.result is.0
          (subst (λ lines. ReadsLines c.args.calls.now c.args.site.now lines c.keep_of_lines.result)
          (ap (map line_view) c.as_slice.ensures.value ∙ c.in_ok-lines.ensures.counted ∙ ap lines_of is.1)
          c.keep_of_lines.ensures.reads);
    }
