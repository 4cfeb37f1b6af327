use Rattle.std.proofs.Common.{take, map}
use Rattle.text_forms.specs.line_text.Views.{line_view}
use Rattle.call_table.specs.Views.{made}
use Rattle.call_table.specs.Progress.{HasRead}
use Rattle.call_table.proofs.reader.read_rest.Given as goal

abbrev pub invariant-loop-line : goal.invariant-loop-line
invariant-loop-line l = HasRead l.fn.two (record { name = l.fn.name; arch = l.fn.arch }) (map line_view (take l.line-index l.lines))
    (made l.lists)
