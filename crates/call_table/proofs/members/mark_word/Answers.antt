use Rattle.std.proofs.Common.{◌<◌, ◌++◌, ◌∙◌, ap, sym, length, arith, get_or}
use Rattle.call_table.specs.declared.listed.GroupLine.{GroupLine}
use Rattle.call_table.specs.Lookups.{has_name}
use Rattle.call_table.specs.Members.{has_group, stands_for, stands_for_by, is_known_by}
use Rattle.call_table.specs.Facts.{HasMembers}
use Rattle.call_table.specs.Views.{lines_seen}
use Rattle.call_table.proofs.Places.{found_any, missing_any, found_holds, some_place, any_nowhere}
use Rattle.call_table.proofs.Marking.{marks_call}
use Rattle.call_table.proofs.members.mark_word.Goals as goal

pub mark_all-requires : goal.mark_all-requires
mark_all-requires c = λ k d lt.
    let group : GroupLine = c.in-Some-get.group.now in
    let members : HasMembers (length (c.args.calls.now ++ lines_seen c.args.more)) group = found_holds (HasMembers (length (c.args.calls.now ++ lines_seen c.args.more))) (has_group c.in-Some.name.now) c.args.groups.now group c.requires.groups.members (sym c.in-Some-get.ensures.by_name) in
    let shown = c.list.ensures.all_in_order in
    let low : k < length group.members = omega (arith, ap length shown, lt) in
    omega (arith, members.below k d low, ap (λ ps. get_or ps k d) shown, c.requires.as_many)

pub returns-in-Some-get-clause-known : goal.returns-in-Some-get-clause-known
returns-in-Some-get-clause-known c =
    sym (ap (is_known_by (c.args.calls.now ++ lines_seen c.args.more) c.args.groups.now c.args.word.now)
    (sym c.in-Some.ensures.behind_the_at) ∙ found_any (has_group c.in-Some.name.now) c.args.groups.now c.in-Some-get.group.now
    (sym c.in-Some-get.ensures.by_name))

pub returns-in-None-get-clause-known : goal.returns-in-None-get-clause-known
returns-in-None-get-clause-known c =
    sym (ap (is_known_by (c.args.calls.now ++ lines_seen c.args.more) c.args.groups.now c.args.word.now)
    (sym c.in-Some.ensures.behind_the_at) ∙ missing_any (has_group c.in-Some.name.now) c.args.groups.now
    (sym c.in-None-get.ensures.by_name))

pub returns-in-Some-place_among-clause-known : goal.returns-in-Some-place_among-clause-known
returns-in-Some-place_among-clause-known c =
    sym (ap (is_known_by (c.args.calls.now ++ lines_seen c.args.more) c.args.groups.now c.args.word.now)
    (sym c.in-None.ensures.behind_the_at) ∙ some_place (has_name c.args.word.now)
    (c.args.calls.now ++ lines_seen c.args.more) c.in-Some-place_among.position (sym c.in-Some-place_among.ensures.by_name))

pub returns-in-Some-place_among-clause-marks : goal.returns-in-Some-place_among-clause-marks
returns-in-Some-place_among-clause-marks c = λ yes.
    marks_call (c.args.calls.now ++ lines_seen c.args.more) c.args.word.now c.in-Some-place_among.position c.args.marks.now
    c.requires.as_many (sym c.in-Some-place_among.ensures.by_name)
    (stands_for (c.args.calls.now ++ lines_seen c.args.more) c.args.groups.now c.args.word.now)
    (λ call. ap (stands_for_by (c.args.calls.now ++ lines_seen c.args.more) c.args.groups.now c.args.word.now call)
    (sym c.in-None.ensures.behind_the_at))

pub returns-in-None-place_among-clause-known : goal.returns-in-None-place_among-clause-known
returns-in-None-place_among-clause-known c =
    sym (ap (is_known_by (c.args.calls.now ++ lines_seen c.args.more) c.args.groups.now c.args.word.now)
    (sym c.in-None.ensures.behind_the_at) ∙ any_nowhere (has_name c.args.word.now) (c.args.calls.now ++ lines_seen c.args.more)
    (sym c.in-None-place_among.ensures.by_name))
