use Rattle.std.proofs.Common.{Some, ap, sym, ◌∙◌, ◌++◌, [], subst}
use Rattle.std.specs.List.{cons_option}
use Rattle.dropin_merge.proofs.OneMore.{added_by_some}
use Rattle.cred_settings.specs.Groups.{gid_meant}
use Rattle.cred_settings.specs.Identities.{names_no_group}
use Rattle.cred_settings.specs.Answers.{IsOfGroup}
use Rattle.cred_settings.proofs.Refusing.{none_more, first_found, names_one, names_none}
use Rattle.cred_settings.proofs.identities.add_groups.Goals as goal

pub returns-in-None-clause-refused : goal.returns-in-None-clause-refused
returns-in-None-clause-refused c =
    let systemd = c.args.systemd in
    let site = c.args.site.now in
    let words = c.args.words.now in
    let word = c.word-item.result in
    let found =
    first_found (names_no_group systemd site) words c.loop-word.word-index word c.loop-word-test.true c.word-item.is
    c.loop-word.invariant.none_is_bad
    (names_none systemd site word (c.in-None.ensures.gid_or_none ∙ ap (gid_meant systemd site) c.as_str.ensures.same_text)) in
    subst (λ bad. IsOfGroup bad c.no_such_group.result) (ap Some c.as_str-in-None.ensures.same_text ∙ sym found) c.no_such_group.ensures

pub loop-word-preserved : goal.loop-word-preserved
loop-word-preserved c =
    let systemd = c.args.systemd in
    let site = c.args.site.now in
    let words = c.args.words.now in
    let word = c.word-item.result in
    let named = c.in-Some.ensures.gid_or_none ∙ ap (gid_meant systemd site) c.as_str.ensures.same_text in
    record {
      added =
          added_by_some (gid_meant systemd site) words c.loop-word.word-index word c.args.groups.now _ _ c.loop-word-test.true c.word-item.is
          c.loop-word.invariant.added
          (c.in_ok-push-in-Some.ensures.longer ∙ ap (λ o. c.loop-word.groups ++ cons_option o []) named);
      none_is_bad =
          none_more (names_no_group systemd site) words c.loop-word.word-index word c.loop-word-test.true c.word-item.is
          c.loop-word.invariant.none_is_bad
          (names_one systemd site word c.in-Some.gid named);
    }
