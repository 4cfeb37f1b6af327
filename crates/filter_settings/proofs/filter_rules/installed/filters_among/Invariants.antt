use Rattle.std.proofs.Common.{◌≡◌, map, take}
use Rattle.std.specs.Prelude.{filter}
use Rattle.std.specs.List.{All}
use Rattle.filter_settings.specs.filter_rules.Rules.{AreRulesOf}
use Rattle.filter_settings.specs.filter_rules.Installed.{shown, place_of, is_installed}
use Rattle.filter_settings.proofs.filter_rules.installed.filters_among.Given as goal

abbrev pub invariant-loop-place : goal.invariant-loop-place
invariant-loop-place l = record {
  on : map place_of l.filters.items ≡ filter (is_installed l.settings) (map shown (take l.place-index l.places));
  rules : All (λ made. AreRulesOf made.name l.settings l.table made.abi made.rules) l.filters.items;
}
