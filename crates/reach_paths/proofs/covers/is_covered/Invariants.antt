use Rattle.std.proofs.Common.{◌≡◌, ◌++◌, drop}
use Rattle.std.specs.List.{list_any}
use Rattle.kernel_laws.specs.abs_path.Paths.{parts_of}
use Rattle.kernel_laws.specs.kern_mounts.Entry.{leads_to}
use Rattle.kernel_laws.specs.kern_mounts.Mounts.{steps_of}
use Rattle.reach_paths.proofs.covers.is_covered.Given as goal

-- none of the entries so far leads there
abbrev pub invariant-loop-at : goal.invariant-loop-at
invariant-loop-at l =
    list_any (leads_to (l.front ++ parts_of l.rest)) (drop l.at (steps_of l.table))
    ≡ list_any (leads_to (l.front ++ parts_of l.rest)) (drop l.from (steps_of l.table))
