use Rattle.std.proofs.Common.{◌≡◌, ◌∷◌, ◌++◌, take}
use Rattle.std.specs.Prelude.{flat_map}
use Rattle.derive_command.specs.trace_profile.Extended.{name_at}
use Rattle.derive_command.proofs.trace_profile.extending.push_names.Given as goal

abbrev pub invariant-loop-place : goal.invariant-loop-place
invariant-loop-place l = l.text.items ≡ l.initial.text.items ++ flat_map (λ place. 32 ∷ name_at l.calls place) (take l.place-index l.names)
