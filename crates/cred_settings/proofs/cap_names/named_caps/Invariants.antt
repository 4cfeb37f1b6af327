use Rattle.std.proofs.Common.{◌≡◌, drop}
use Rattle.std.specs.Prelude.{fold}
use Rattle.std.specs.List.{filter_map}
use Rattle.site_table.specs.cap_sets.Sets.{none, union, single}
use Rattle.cred_settings.specs.CapNames.{cap_named}
use Rattle.cred_settings.proofs.cap_names.named_caps.Given as goal

abbrev pub invariant-loop-word : goal.invariant-loop-word
invariant-loop-word l =
    fold (λ set number. union set (single number)) l.set (filter_map cap_named (drop l.word-index l.words))
    ≡ fold (λ set number. union set (single number)) none (filter_map cap_named l.words)
