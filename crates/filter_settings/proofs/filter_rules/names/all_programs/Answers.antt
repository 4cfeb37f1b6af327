use Rattle.std.proofs.Common.{◌≡◌, ℕ, ◌<◌, List, [], ◌∷◌, length, Option, Some, None, arith}
use Rattle.std.specs.Prelude.{◌≢◌, flat_map}
use Rattle.std.specs.Option.{option_to_list}
use Rattle.std.specs.List.{AllByRecursion}
use Rattle.std.proofs.lemmas.List.Elements.{All-from_recursion}
use Rattle.call_table.specs.Table.{Abi, Table, abis, native}
use Rattle.filter_settings.specs.declared.filter_rules.names.FilterName.{FilterName}
use Rattle.filter_settings.specs.declared.filter_rules.names.FilterName.TheVariants.{Archs}
use Rattle.filter_settings.specs.declared.filter_rules.names.FilterPlace.{FilterPlace}
use Rattle.filter_settings.specs.filter_rules.Names.{all_filters}
use Rattle.filter_settings.proofs.filter_rules.names.all_programs.Goals as goal

-- a table has one ABI, or two
has_two : (table : Table) (count : ℕ) → count ≡ length (abis table) → count ≢ 1 → 1 < length (abis table)
has_two table count counts more = by table.second counts
  where
    by : (second : Option Abi) → count ≡ length (native table ∷ option_to_list second) → 1 < length (native table ∷ option_to_list second)
    by None e = absurd (more e)
    by (Some second) e = omega arith

abbrev for_both : FilterName → List FilterPlace
for_both name = record { name = name; abi = 0 } ∷ record { name = name; abi = 1 } ∷ []

abbrev for_two : List FilterPlace
for_two = record { name = Archs; abi = 1 } ∷ flat_map for_both all_filters

each : (n : ℕ) → 1 < n → (names : List FilterName) → AllByRecursion (λ (place : FilterPlace). place.abi < n) (flat_map for_both names)
each n more [] = tt
each n more (name ∷ names) = (omega (arith, more), (more, each n more names))

pub returns-else-abis-eq1-clause-in_range : goal.returns-else-abis-eq1-clause-in_range
returns-else-abis-eq1-clause-in_range c =
    let n = length (abis c.args.table.now) in
    let more = has_two c.args.table.now c.abis.result c.abis.ensures.counts c.if-abis-eq1.false in
    All-from_recursion (λ (place : FilterPlace). place.abi < n) for_two (more, each n more all_filters)
