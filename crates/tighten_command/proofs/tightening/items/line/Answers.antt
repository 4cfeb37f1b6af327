use Rattle.std.proofs.Common.{◌-◌, [], get_or, ap, ◌∙◌}
use Rattle.tighten_command.proofs.Sets.{text_at}
use Rattle.tighten_command.proofs.tightening.items.line.Goals as goal

pub returns : goal.returns
returns c = record {
  by_its_number =
      text_at (λ text. text.now) c.lines.result.now (c.args.item - 1) (record { ref_ptr = (0, 0); now = [] })
      ∙ ap (λ these. get_or these (c.args.item - 1) []) c.lines.ensures;
}
