use Rattle.std.proofs.Common.{◌≡◌, map, drop}
use Rattle.std.specs.Prelude.{fold}
use Rattle.std.specs.List.{filter_map}
use Rattle.toml.specs.View.{view}
use Rattle.cap_sets.specs.Sets.{none, union, single}
use Rattle.site_table.specs.Caps.{as_cap}
use Rattle.site_table.proofs.caps.caps_of.Given as goal

abbrev pub invariant-loop-value : goal.invariant-loop-value
invariant-loop-value l =
    fold (λ set number. union set (single number)) l.set (filter_map as_cap (map view (drop l.value-index l.values)))
    ≡ fold (λ set number. union set (single number)) none (filter_map as_cap (map view l.values))
