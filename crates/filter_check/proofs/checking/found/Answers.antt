use Rattle.std.proofs.Common.{subst}
use Rattle.filter_check.specs.Finding.{IsLeastByRules, wanted_by}
use Rattle.filter_check.proofs.Found.{memory_found, same_found, differs_found}
use Rattle.filter_check.proofs.checking.found.Goals as goal

pub returns-in_err-least_by_rules : goal.returns-in_err-least_by_rules
returns-in_err-least_by_rules c =
    record {
      finds = λ code form paths are. memory_found code
          (wanted_by c.args.rules.now) c.from_residual.result c.from_residual.ensures.1;
    }

pub returns-in-None : goal.returns-in-None
returns-in-None c = record {
  finds = λ code form paths are. same_found code c.args.rules.now c.args.ends.now c.requires.few form paths are
      (subst (IsLeastByRules c.args.ends.now c.args.rules.now) c.in-None.is c.in_ok-least_by_rules.ensures.least);
}

pub returns-in-Some : goal.returns-in-Some
returns-in-Some c = record {
  finds = λ code form paths are. differs_found code c.args.rules.now c.args.ends.now c.in-Some.found c.requires.few form paths are
      (subst (IsLeastByRules c.args.ends.now c.args.rules.now) c.in-Some.is c.in_ok-least_by_rules.ensures.least);
}
