use Rattle.std.proofs.Common.{Ok, sym, ap, ◌∙◌, subst}
use Rattle.toml.specs.Data.{table}
use Rattle.toml.specs.Parse.{parse_document}
use Rattle.launcher.specs.site_table.Reading.{site_in, site_of}
use Rattle.launcher.specs.site_table.Table.{Site}
use Rattle.sample_inputs.specs.Facts.{HasSampleRows}
use Rattle.sample_inputs.specs.Site.{site_tree}
use Rattle.sample_inputs.proofs.Refusals.{memory_of_site}
use Rattle.sample_inputs.proofs.SampleRows.{text_reads, tree_reads, sample_rows}
use Rattle.sample_inputs.proofs.site.sample_site.Goals as goal

pub of_memory-requires : goal.of_memory-requires
of_memory-requires c =
    let tree = text_reads c.args.n c.as_bytes.result.now c.as_bytes.ensures.utf8 (ap parse_document (c.as_bytes.ensures.value ∙ c.as_str.ensures.value) ∙ c.in_ok-text.ensures) in
    memory_of_site (site_of c.as_bytes.result.now) (site_in (table (site_tree c.args.n))) c.in-Err.error
    (tree_reads c.args.n c.as_bytes.result.now tree) c.in-Err.ensures.first_fault

pub returns-in-Ok-clause-rows : goal.returns-in-Ok-clause-rows
returns-in-Ok-clause-rows c =
    let tree = text_reads c.args.n c.as_bytes.result.now c.as_bytes.ensures.utf8 (ap parse_document (c.as_bytes.ensures.value ∙ c.as_str.ensures.value) ∙ c.in_ok-text.ensures) in
    subst (λ (site : Site). HasSampleRows site) (sym c.in_ok-new-in-Ok.ensures.ok) (sample_rows c.args.n c.as_bytes.result.now c.in-Ok.site tree c.in-Ok.ensures.reads_the_site)

pub returns-in-Ok-clause-read : goal.returns-in-Ok-clause-read
returns-in-Ok-clause-read c =
    let tree = text_reads c.args.n c.as_bytes.result.now c.as_bytes.ensures.utf8 (ap parse_document (c.as_bytes.ensures.value ∙ c.as_str.ensures.value) ∙ c.in_ok-text.ensures) in
    record { text = c.as_bytes.result.now; tree = tree; reads = c.in-Ok.ensures.reads_the_site ∙ ap Ok (sym c.in_ok-new-in-Ok.ensures.ok) }
