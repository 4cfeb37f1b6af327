use Rattle.std.proofs.Common.{◌≡◌, ◌++◌, map, drop}
use Rattle.filter_settings.specs.filter_rules.Choices.{case_with}
use Rattle.filter_settings.proofs.filter_rules.choice.cases_of.Given as goal

abbrev pub invariant-loop-test : goal.invariant-loop-test
invariant-loop-test l = l.cases.items ++ map (case_with l.choice.given l.choice.action) (drop l.test-index l.test-items)
    ≡ map (case_with l.choice.given l.choice.action) l.choice.any
