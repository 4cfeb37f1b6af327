use Rattle.std.proofs.Common.{◌≡◌, ◌++◌, take}
use Rattle.std.specs.Prelude.{flat_map, map}
use Rattle.effect_command.specs.Lines.{kind_of}
use Rattle.effect_command.specs.Told.{lines_in, turns_at}
use Rattle.effect_command.proofs.telling.tell_rows.Given as goal

abbrev pub invariant-loop-row : goal.invariant-loop-row
invariant-loop-row l = record {
  told : l.text.items ≡ l.initial.text.items ++ flat_map (λ row. lines_in l.after (turns_at l.before l.after row))
      (take l.row-index l.rows);
  counted : l.kinds.items ≡ l.initial.kinds.items ++ flat_map (λ row. map kind_of (turns_at l.before l.after row))
      (take l.row-index l.rows);
}
