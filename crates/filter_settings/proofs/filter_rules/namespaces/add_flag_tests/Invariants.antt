use Rattle.std.proofs.Common.{◌≡◌, ◌++◌, map, not, drop}
use Rattle.std.specs.Prelude.{filter}
use Rattle.filter_settings.specs.filter_rules.NamespaceTypes.{permits}
use Rattle.filter_settings.specs.filter_rules.NamespacesChoice.{flag_test}
use Rattle.filter_settings.proofs.filter_rules.namespaces.add_flag_tests.Given as goal

abbrev pub invariant-loop-kind : goal.invariant-loop-kind
invariant-loop-kind l =
    l.tests.items ++ map (flag_test l.at) (filter (λ kind. not (permits l.types kind)) (drop l.kind-index l.kinds))
    ≡ l.fn.tests.items ++ map (flag_test l.at) (filter (λ kind. not (permits l.types kind)) l.kinds)
