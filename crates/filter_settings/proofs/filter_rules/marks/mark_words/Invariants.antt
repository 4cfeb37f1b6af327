use Rattle.std.proofs.Common.{take}
use Rattle.filter_settings.specs.filter_rules.Marks.{said, AreMarks}
use Rattle.filter_settings.proofs.filter_rules.marks.mark_words.Given as goal

abbrev pub invariant-loop-mention : goal.invariant-loop-mention
invariant-loop-mention l = AreMarks l.table (said l.mode l.default) (take l.mention-index l.mentions) l.marks
