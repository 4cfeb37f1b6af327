use Rattle.std.proofs.Common.{◌≡◌, ℕ, ◌+◌, ◌*◌, List, IfOk, subst, ◌∙◌}
use Rattle.toml.specs.View.{view}
use Rattle.sample_inputs.specs.Site.{object_path, numbered_row}
use Rattle.sample_inputs.proofs.PathTexts.{object_text}
use Rattle.sample_inputs.proofs.rows.object_row.Goals as goal

pub returns : goal.returns
returns c =
    let path : c.as_str.result.now ≡ object_path c.args.folder c.args.object = c.as_str.ensures.value ∙ c.in_ok-path.ensures.ok ∙ object_text c.args.folder c.args.object in
    subst (λ (text : List ℕ). IfOk c.numbered_row.result (λ row. view row
    ≡ numbered_row (64 * c.args.folder + c.args.object + c.args.n) text)) path c.numbered_row.ensures
