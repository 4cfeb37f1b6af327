use Rattle.std.proofs.Common.{map, take}
use Rattle.kernel_model.specs.text_forms.line_text.Views.{line_view}
use Rattle.script_text.specs.Progress.{HasRead}
use Rattle.script_text.proofs.reader.read_calls.Given as goal

abbrev pub invariant-loop-line : goal.invariant-loop-line
invariant-loop-line l = HasRead l.calls (map line_view (take l.line-index l.lines)) l.made.items
