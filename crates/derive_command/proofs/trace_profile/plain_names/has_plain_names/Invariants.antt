use Rattle.std.proofs.Common.{take}
use Rattle.asked_service.specs.call_table.Table.{every_call}
use Rattle.derive_command.proofs.PlainTables.{ArePlain}
use Rattle.derive_command.proofs.trace_profile.plain_names.has_plain_names.Given as goal

-- the names so far are plain, and this room is left
abbrev pub invariant-loop-place : goal.invariant-loop-place
invariant-loop-place l = ArePlain (take l.place (every_call l.calls)) l.room
