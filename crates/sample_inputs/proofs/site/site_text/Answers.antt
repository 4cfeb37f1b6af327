use Rattle.std.proofs.Common.{◌≡◌, true, Some, Err, ◌≤◌, sym, ap, ◌∙◌, subst}
use Rattle.toml.specs.Data.{Members, members_depth, members_have_valid_dates}
use Rattle.toml.specs.View.{table_view}
use Rattle.sample_inputs.proofs.Printing.{site_depth, site_dates}
use Rattle.sample_inputs.proofs.Refusals.{memory_of_printing}
use Rattle.sample_inputs.proofs.site.site_text.Goals as goal

pub returns-in-Ok : goal.returns-in-Ok
returns-in-Ok c =
    c.in-Ok.ensures.reads_back
    (subst (λ (members : Members). members_depth members ≤ 80) (sym c.in_ok-tree.ensures) (site_depth c.args.n))
    ∙ ap Some c.in_ok-tree.ensures

pub printing_memory-requires : goal.printing_memory-requires
printing_memory-requires c =
    let dates : members_have_valid_dates (table_view c.in_ok-tree.tree) ≡ true = ap members_have_valid_dates c.in_ok-tree.ensures ∙ site_dates c.args.n in
    memory_of_printing (table_view c.in_ok-tree.tree) c.in-Err.error (λ same. c.in-Err.ensures.dates.0 (ap Err same)) dates
