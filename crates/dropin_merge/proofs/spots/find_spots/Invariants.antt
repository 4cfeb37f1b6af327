use Rattle.std.proofs.Common.{drop}
use Rattle.dropin_merge.specs.unit_values.Service.{service_from}
use Rattle.dropin_merge.proofs.Spotting.{AreListed}
use Rattle.dropin_merge.proofs.spots.find_spots.Given as goal

abbrev pub invariant-loop-number : goal.invariant-loop-number
invariant-loop-number l = AreListed l.files l.buckets.items (service_from l.number (drop l.number l.files))
