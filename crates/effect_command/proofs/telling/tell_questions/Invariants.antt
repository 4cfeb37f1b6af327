use Rattle.std.proofs.Common.{◌≡◌, ◌++◌, take}
use Rattle.std.specs.Prelude.{flat_map, map}
use Rattle.effect_command.specs.Lines.{kind_of}
use Rattle.effect_command.specs.Told.{changes_at, lines_in}
use Rattle.effect_command.proofs.telling.tell_questions.Given as goal

abbrev pub invariant-loop-question : goal.invariant-loop-question
invariant-loop-question l = record {
  told : l.text.items ≡ l.initial.text.items ++ flat_map (λ question. lines_in l.after (changes_at l.before l.after question))
      (take l.question-index l.list);
  counted : l.kinds.items ≡ l.initial.kinds.items ++ flat_map (λ question. map kind_of (changes_at l.before l.after question))
      (take l.question-index l.list);
}
