use Rattle.std.proofs.Common.{◌≡◌, drop}
use Rattle.std.specs.Prelude.{slice_get}
use Rattle.std.specs.List.{filter_map}
use Rattle.exec_settings.specs.Launched.{command_in, reading_of}
use Rattle.exec_settings.proofs.launched.first_command.Given as goal

abbrev pub invariant-loop-value : goal.invariant-loop-value
invariant-loop-value l =
    slice_get (filter_map (λ value. command_in (reading_of l.unit value)) (drop l.value-index l.values)) 0
    ≡ slice_get (filter_map (λ value. command_in (reading_of l.unit value)) l.values) 0
