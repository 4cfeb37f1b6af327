use Rattle.std.proofs.Common.{sym, ◌∙◌, subst}
use Rattle.std.proofs.lemmas.Bool.{false≢true}
use Rattle.toml.specs.Data.{Data}
use Rattle.toml.specs.View.{table_view}
use Rattle.toml.proofs.Views.{view-Table}
use Rattle.site_table.specs.Reading.{IsUnlessMemory, unless_fault, faults_of, site_in}
use Rattle.site_table.specs.Table.{Site}
use Rattle.site_table.proofs.SiteRead.{of_tree, no_tree}
use Rattle.site_table.proofs.reader.read_bytes.Goals as goal

pub returns-in-Ok : goal.returns-in-Ok
returns-in-Ok c =
    rw (of_tree c.args.bytes.now (table_view c.in-Ok.table) c.in-Ok.ensures.ok.0 c.in-Ok.ensures.ok.1)
    (subst (λ (site : Data). IsUnlessMemory (λ (table : Site). table) c.read_tree.result (unless_fault (faults_of site) (site_in site)))
    (view-Table c.in-Ok.table) c.read_tree.ensures)

pub returns-else-is_memory : goal.returns-else-is_memory
returns-else-is_memory c =
    no_tree c.args.bytes.now (c.in-Err.ensures.refused (λ memory. false≢true (sym c.if-is_memory.false ∙ c.is_memory.ensures.1 memory)))
