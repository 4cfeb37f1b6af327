use Rattle.std.proofs.Common.{◌≡◌, ◌++◌, true, map, take}
use Rattle.std.specs.List.{list_all}
use Rattle.call_table.specs.Members.{is_member, is_known}
use Rattle.call_table.specs.Marks.{Marks}
use Rattle.call_table.specs.Views.{lines_seen}
use Rattle.call_table.proofs.members.mark_words.Given as goal

abbrev pub invariant-loop-word : goal.invariant-loop-word
invariant-loop-word l =
    (list_all (λ word. is_known (l.calls ++ lines_seen l.more) l.groups word.now) (take l.word-index l.words) ≡ true)
    × Marks (l.calls ++ lines_seen l.more)
    (is_member (l.calls ++ lines_seen l.more) l.groups (map (λ word. word.now) (take l.word-index l.words))) l.initial.marks l.marks
