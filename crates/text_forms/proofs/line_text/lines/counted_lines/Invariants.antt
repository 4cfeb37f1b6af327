use Rattle.std.proofs.Common.{◌≡◌, ◌+◌, ◌++◌, map, drop}
use Rattle.text_forms.specs.line_text.Lines.{counted_from}
use Rattle.text_forms.specs.line_text.Views.{line_view}
use Rattle.text_forms.proofs.line_text.lines.counted_lines.Given as goal

abbrev pub invariant-loop-at : goal.invariant-loop-at
invariant-loop-at l =
    map line_view l.lines.items ++ counted_from (l.at + 1) (map (λ text. text.now) (drop l.at l.texts))
    ≡ counted_from 1 (map (λ text. text.now) l.texts)
