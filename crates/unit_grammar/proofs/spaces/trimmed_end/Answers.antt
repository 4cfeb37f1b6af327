use Rattle.std.proofs.Common.{◌∙◌, ap, arith}
use Rattle.std.specs.List.{suffix_len}
use Rattle.std.proofs.lemmas.List.Sums.{suffix_len-le-length}
use Rattle.unit_grammar.specs.Spaces.{is_white}
use Rattle.unit_grammar.proofs.Cuts.{trailing_boundary}
use Rattle.unit_grammar.proofs.spaces.trimmed_end.Goals as goal

pub overflow_sub-text : goal.overflow_sub-text
overflow_sub-text c =
    let same = c.trailing_white.ensures ∙ ap (suffix_len is_white) c.as_bytes.ensures.value in
    omega (arith, same, suffix_len-le-length is_white c.args.text.now)

pub range-requires-clause-end_boundary : goal.range-requires-clause-end_boundary
range-requires-clause-end_boundary c = trailing_boundary c.args.text.now c.trailing_white.result
    (c.trailing_white.ensures ∙ ap (suffix_len is_white) c.as_bytes.ensures.value)
