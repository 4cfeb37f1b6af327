use Rattle.std.proofs.Common.{◌∙◌, ap}
use Rattle.std.specs.List.{prefix_len}
use Rattle.unit_grammar.specs.Spaces.{is_white}
use Rattle.unit_grammar.proofs.Cuts.{leading_boundary}
use Rattle.unit_grammar.proofs.spaces.trimmed_start.Goals as goal

pub range_from-requires : goal.range_from-requires
range_from-requires c = λ above. leading_boundary c.args.text.now c.leading_white.result c.utf8.text
    (c.leading_white.ensures ∙ ap (prefix_len is_white) c.as_bytes.ensures.value)
