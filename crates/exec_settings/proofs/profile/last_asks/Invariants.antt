use Rattle.std.proofs.Common.{◌≡◌, Some, false, take}
use Rattle.std.specs.Prelude.{unwrap_or}
use Rattle.std.specs.List.{filter_map}
use Rattle.cred_settings.specs.unit_grammar.Before.{last_of}
use Rattle.exec_settings.specs.Profile.{asks}
use Rattle.exec_settings.proofs.profile.last_asks.Given as goal

abbrev pub invariant-loop-value : goal.invariant-loop-value
invariant-loop-value l = l.asked ≡ unwrap_or (last_of (filter_map (λ value. Some (asks value.text)) (take l.value-index l.values))) false
