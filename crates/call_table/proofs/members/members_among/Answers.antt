use Rattle.std.proofs.Common.{refl, ℕ, ◌++◌, ◌∙◌, sym, List, map}
use Rattle.std.proofs.lemmas.List.Folds.{list_all-map}
use Rattle.call_table.specs.Members.{is_member, is_known}
use Rattle.call_table.specs.Marks.{Marks}
use Rattle.call_table.specs.Views.{lines_seen}
use Rattle.call_table.proofs.Marking.{marked_members}
use Rattle.call_table.proofs.members.members_among.Goals as goal
use denote.Ref.{Bor}

pub returns-in_ok-marked : goal.returns-in_ok-marked
returns-in_ok-marked c =
    let words = c.args.words.now in
    let known = list_all-map (is_known (c.args.calls.now ++ lines_seen c.args.more) c.args.groups.now) (λ (word : Bor (List ℕ)). word.now) words ∙ sym c.mark_words.ensures.known ∙ c.if-mark_words.true in
    let names = map (λ (word : Bor (List ℕ)). word.now) words in
    let marks : Marks (c.args.calls.now ++ lines_seen c.args.more) (is_member (c.args.calls.now ++ lines_seen c.args.more) c.args.groups.now names) c.args.marks.now c.mark_words.new.marks = c.if-mark_words.ensures.marks refl in
    (known, c.new.ensures.holds_them ∙ c.in_ok-marked.ensures ∙ marked_members (c.args.calls.now ++ lines_seen c.args.more) c.args.groups.now names c.args.marks.now c.mark_words.new.marks c.requires.unmarked marks)

pub returns-else-mark_words : goal.returns-else-mark_words
returns-else-mark_words c =
    let words = c.args.words.now in
    list_all-map (is_known (c.args.calls.now ++ lines_seen c.args.more) c.args.groups.now) (λ (word : Bor (List ℕ)). word.now) words
    ∙ sym c.mark_words.ensures.known ∙ c.if-mark_words.false
