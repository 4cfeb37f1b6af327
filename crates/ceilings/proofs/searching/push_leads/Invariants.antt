use Rattle.std.proofs.Common.{◌≡◌, ◌++◌, drop, map}
use Rattle.kernel_ways.specs.site_table.declared.row.Row.{Row}
use Rattle.kernel_ways.specs.kern_mounts.Mounts.{steps_of}
use Rattle.ceilings.specs.Leads.{leads_of}
use Rattle.ceilings.proofs.searching.push_leads.Given as goal

-- what was found, and what is left to find
abbrev pub invariant-loop-row : goal.invariant-loop-row
invariant-loop-row l =
    l.list.items ++ map (λ (row : Row). leads_of (steps_of l.search.table.now) row.path) (drop l.row-index l.rows)
    ≡ l.initial.list.items ++ map (λ (row : Row). leads_of (steps_of l.search.table.now) row.path) l.rows
