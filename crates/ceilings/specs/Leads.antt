-- The entries of a mount table that lead to a row without any change of the table, by the wish.
use Rattle.std.specs.Prelude.{◌≡◌, ℕ, Bool, false, not, List, map, Option}
use Rattle.kernel_ways.specs.abs_path.Paths.{Path}
use Rattle.kernel_ways.specs.abs_path.Prefix.{is_same}
use Rattle.kernel_ways.specs.kern_mounts.Split.{Table}
use Rattle.kernel_ways.specs.kern_mounts.declared.step.MountStep.{MountStep}
use Rattle.kernel_ways.specs.kern_mounts.declared.step.What.{What}
use Rattle.kernel_ways.specs.kern_mounts.declared.step.What.TheVariants.{Host, Empty, Hidden}
use Rattle.kernel_ways.specs.kernel_laws.Launched.{Launch}
use Rattle.kernel_ways.specs.kernel_laws.declared.question_types.wish.Wish.{Wish}
use Rattle.kernel_ways.specs.kernel_laws.declared.question_types.wish.Wish.TheVariants.{See as ToSee, Read as ToRead, Write as ToWrite}
use Rattle.kernel_ways.specs.kernel_laws.declared.question_types.wish.Wish.TheVariants.{Exec as ToExec}
use Rattle.kernel_ways.specs.kernel_laws.declared.question_types.power.Power.TheVariants.{None as Nowise}
use Rattle.kernel_ways.specs.kernel_laws.Reach.{reach}
use Rattle.ceilings.specs.declared.leads.RowLeads.{RowLeads}

-- the entry for a wish: a process that can see a row can read it
abbrev pub lead_to : RowLeads → Wish → Option ℕ
lead_to leads ToSee = leads.see
lead_to leads ToRead = leads.see
lead_to leads ToWrite = leads.write
lead_to leads ToExec = leads.exec

-- the entries that lead to a row
abbrev pub leads_of : Table → Path → RowLeads
leads_of table row = record
    { see = reach Nowise table row ToSee; write = reach Nowise table row ToWrite; exec = reach Nowise table row ToExec }

-- the entries that lead to each row of the site, by the row's position
abbrev pub AreLeads : Launch → List RowLeads → Type 0
AreLeads launch list = list ≡ map (λ row. leads_of launch.table row.path) launch.site.rows

-- the entry shows a path of the host at another place, as a bind of mount(2) can
abbrev pub is_elsewhere : Path → What → Bool
is_elsewhere place (Host source) = not (is_same source place)
is_elsewhere place Empty = false
is_elsewhere place (Hidden directory) = false

abbrev pub is_moved : MountStep → Bool
is_moved entry = is_elsewhere entry.place entry.what
