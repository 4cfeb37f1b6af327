use Rattle.std.proofs.Common.{◌≡◌, ◌≤◌, false, length}
use Rattle.std.specs.List.{AllWithin}
use Rattle.abs_path.specs.Prefix.{is_prefix}
use Rattle.kern_mounts.specs.Mounts.{steps_of}
use Rattle.kern_mounts.specs.Table.{places_of}
use Rattle.kern_mounts.proofs.table.finding.last_behind.Given as goal

-- no place from this number on leads to the path
abbrev pub invariant-loop-index : goal.invariant-loop-index
invariant-loop-index l = (l.known ≤ l.index) × (l.index ≤ length l.mounts) × AllWithin (λ place. is_prefix place l.path ≡ false)
    (places_of (steps_of l.mounts)) l.index (length l.mounts)
