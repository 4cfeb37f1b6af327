use Rattle.std.proofs.Common.{◌≡◌, ◌≤◌, length, map, take}
use Rattle.asked_service.specs.text_forms.line_text.Views.{line_view}
use Rattle.tighten_command.specs.Keeping.{AreOf}
use Rattle.tighten_command.proofs.keeping.keep_of_lines.Given as goal

abbrev pub invariant-loop-line : goal.invariant-loop-line
invariant-loop-line l = record {
  are : AreOf l.calls l.site (take l.line-index (map line_view l.lines)) l.keep.items;
  counted : length l.keep.items ≡ l.line-index;
  few : l.line-index ≤ 512;
}
