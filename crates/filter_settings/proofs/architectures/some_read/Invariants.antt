use Rattle.std.proofs.Common.{◌≡◌, drop}
use Rattle.std.specs.List.{list_any}
use Rattle.filter_settings.specs.Architectures.{is_read}
use Rattle.filter_settings.proofs.architectures.some_read.Given as goal

abbrev pub invariant-loop-value : goal.invariant-loop-value
invariant-loop-value l = list_any is_read (drop l.value-index l.values) ≡ list_any is_read l.values
