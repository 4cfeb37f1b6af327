use Rattle.std.proofs.Common.{◌≡◌, ◌++◌, drop}
use Rattle.std.specs.Prelude.{flat_map}
use Rattle.filter_settings.specs.Architectures.{value_notes}
use Rattle.filter_settings.proofs.architectures.note_all.Given as goal

abbrev pub invariant-loop-value : goal.invariant-loop-value
invariant-loop-value l =
    l.notes.items ++ flat_map (value_notes l.table) (drop l.value-index l.values)
    ≡ l.fn.notes.items ++ flat_map (value_notes l.table) l.values
