use Rattle.std.proofs.Common.{◌≡◌, ◌++◌, drop, map}
use Rattle.std.specs.List.{enumerate_from}
use Rattle.why_command.specs.deciding_lines.unit_lines.Without.{file_without}
use Rattle.why_command.proofs.deciding_lines.unit_lines.less.files_without.Given as goal

abbrev pub invariant-loop-number : goal.invariant-loop-number
invariant-loop-number l = l.less.items ++ map (file_without l.systemd l.places) (enumerate_from l.number (drop l.number l.files))
    ≡ map (file_without l.systemd l.places) (enumerate_from 0 l.files)
