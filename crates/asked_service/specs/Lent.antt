-- For whom calls are made.
use Rattle.std.specs.Prelude.{◌≡◌}
use Rattle.open_calls.specs.declared.service.Service.{Service}
use Rattle.asked_service.specs.declared.asking.Asked.{Asked}

-- this is the service about which the questions are
abbrev pub IsServiceOf : Asked → Service → Type 0
IsServiceOf asked service = (service.world.now ≡ asked.bounded.service.world) × (service.program.now ≡ asked.bounded.service.program)
