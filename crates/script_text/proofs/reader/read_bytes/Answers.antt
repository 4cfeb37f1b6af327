use Rattle.std.proofs.Common.{ap, ◌∙◌, map}
use Rattle.kernel_model.specs.text_forms.line_text.Views.{line_view}
use Rattle.script_text.proofs.Bytes.{no_text, of_text}
use Rattle.script_text.proofs.reader.read_bytes.Goals as goal

pub returns-in_default : goal.returns-in_default
returns-in_default c = no_text c.args.calls.now c.args.bytes.now c.in_default.ensures.text

pub returns : goal.returns
returns c =
    of_text c.args.calls.now c.args.bytes.now c.in-Some.text.now
    (map line_view c.as_slice.result.now) c.read_calls.result c.in-Some.ensures.text
    (ap (map line_view) c.as_slice.ensures.value ∙ c.in-Ok.ensures.counted) c.read_calls.ensures
