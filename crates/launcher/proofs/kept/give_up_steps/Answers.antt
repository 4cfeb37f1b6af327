use Rattle.std.proofs.Common.{[], ap, ◌∙◌}
use Rattle.exec_settings.specs.cap_sets.Sets.{union, cut, minus}
use Rattle.launcher.specs.Answers.{wanted_of}
use Rattle.launcher.specs.Launch.{Makes}
use Rattle.launcher.proofs.Appending.{follows_on_ok, given_up_more}
use Rattle.launcher.proofs.kept.give_up_steps.Goals as goal

pub returns : goal.returns
returns c =
    let settings = c.args.settings.now in
    let lacks = c.minus.ensures.minus ∙ ap (λ set. minus set settings.bounding) c.held.ensures in
    let stays = c.union-inheritable.ensures.union
    ∙ ap (union settings.ambient) (c.cut.ensures.cut ∙ ap (λ set. cut set settings.bounding) c.held-2.ensures) in
    record {
      gives_up = follows_on_ok _ _ c.push.result
          (given_up_more c.args.table.now.calls (wanted_of settings []) c.minus.result c.union-inheritable.result c.args.steps.now
          c.given_up_steps.new.steps c.push.new.self (Makes c.capset.result) c.if-not-settings.false lacks stays
          c.in_ok-given_up_steps.ensures c.capset.ensures.of_the_sets) c.push.ensures.goes_last;
    }
