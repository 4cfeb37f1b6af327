use Rattle.std.proofs.Common.{subst, sym}
use Rattle.asked_service.specs.Asked.{is_open_by}
use Rattle.asked_service.specs.Rows.{IsSo}
use Rattle.asked_service.proofs.Exact.{found_is, it_is_so}
use Rattle.asked_service.proofs.bounding.Bounded.is_open.Goals as goal

pub returns-clause-by_the_rule : goal.returns-clause-by_the_rule
returns-clause-by_the_rule c =
    found_is c.verdict.result c.says_open.result (is_open_by c.args.self.now.service.world c.args.question.now)
    c.verdict.ensures.by_the_rule c.says_open.ensures

pub returns-clause-is_so : goal.returns-clause-is_so
returns-clause-is_so c =
    subst (IsSo c.args.self.now.service.world c.args.question.now)
    (sym (found_is c.verdict.result c.says_open.result (is_open_by c.args.self.now.service.world c.args.question.now)
    c.verdict.ensures.by_the_rule c.says_open.ensures))
    (it_is_so c.openness.ensures.each_listed c.args.self.now.service.world c.requires.bounded.served c.args.question.now c.requires.listed)
