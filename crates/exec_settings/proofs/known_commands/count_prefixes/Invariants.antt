use Rattle.std.proofs.Common.{◌≡◌, ◌≤◌, ◌+◌, ◌-◌, drop, take, length}
use Rattle.exec_settings.specs.KnownCommands.{count_behind, known_count}
use Rattle.exec_settings.proofs.known_commands.count_prefixes.Given as goal

abbrev pub invariant-loop-count : goal.invariant-loop-count
invariant-loop-count l =
    (known_count l.word ≡ l.count + count_behind (take l.count l.word) (drop l.count l.word)) × (l.count ≤ length l.word)

abbrev pub decreases-loop-count : goal.decreases-loop-count
decreases-loop-count l = length l.word - l.count
