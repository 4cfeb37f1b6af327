use Rattle.std.proofs.Common.{◌≡◌, ◌++◌, drop}
use Rattle.filter_settings.specs.filter_rules.FamiliesChoice.{family_tests}
use Rattle.filter_settings.proofs.filter_rules.families.family_tests.Given as goal

abbrev pub invariant-loop-family : goal.invariant-loop-family
invariant-loop-family l = l.tests.items ++ family_tests l.mentions (drop l.family-index l.families) ≡ family_tests l.mentions l.families
