use Rattle.std.proofs.Common.{ap, ◌∙◌, map}
use Rattle.text_forms.specs.line_text.Views.{line_view}
use Rattle.call_table.proofs.Bytes.{no_text, of_text}
use Rattle.call_table.proofs.reader.read_bytes.Goals as goal

pub returns-in_default : goal.returns-in_default
returns-in_default c = no_text c.args.bytes.now c.in_default.ensures.text

pub returns : goal.returns
returns c =
    of_text c.args.bytes.now c.in-Some.text.now (map line_view c.as_slice.result.now) c.read_table.result c.in-Some.ensures.text
    (ap (map line_view) c.as_slice.ensures.value ∙ c.in_ok-lines.ensures.counted) c.read_table.ensures
