use Rattle.std.proofs.Common.{List, ℕ, [], ◌∷◌, ◌++◌, map, sym, ap, ◌∙◌, subst}
use Rattle.call_table.specs.Members.{FindsMembers}
use Rattle.call_table.specs.Views.{lines_seen}
use Rattle.call_table.proofs.Checks.{groups_more}
use Rattle.call_table.proofs.lists.add_group.Goals as goal
use denote.Ref.{Bor}

pub returns-clause-sound : goal.returns-clause-sound
returns-clause-sound c =
    let names = map (λ (word : Bor (List ℕ)). word.now) c.args.words.now in
    let every = c.args.calls.now ++ lines_seen c.args.more in
    let absent = sym c.has.ensures.by_name ∙ c.if-has.false in
    let found = subst (FindsMembers every c.args.groups.now names) c.in-Some.is c.in_ok-members.ensures.finds_members in
    groups_more every c.args.groups.now c.args.name.now names c.in-Some.members c.push.new.self c.requires.groups absent found.1
    (c.in_ok-push.ensures.goes_last ∙ ap (λ name. c.args.groups.now ++ record { name = name; members = c.in-Some.members } ∷ [])
    c.in_ok-name.ensures.same_text)
