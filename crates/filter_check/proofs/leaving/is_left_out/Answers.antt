use Rattle.std.proofs.Common.{◌<◌, length, get_or, Some, sym, ap, ◌∙◌, arith}
use Rattle.std.proofs.lemmas.Option.{slice_get-get_or}
use Rattle.filter_check.proofs.Passing.{on_true}
use Rattle.filter_check.proofs.leaving.is_left_out.Goals as goal

pub returns : goal.returns
returns c =
    let ends = c.args.ends.now in
    let by = get_or c.args.chosen.now c.args.at 0 in
    let less : by < length ends = omega (arith, c.if-by-ends.false) in
    record {
      represented = on_true c.represents.result _ _
          (λ represents. record {
            one = c.index-ends-by.result;
            other = c.index-ends-at.result;
            other_is = slice_get-get_or ends c.args.at c.index-ends-at.result c.requires.place ∙ ap Some (sym c.index-ends-at.is);
            one_is = slice_get-get_or ends by c.index-ends-by.result less ∙ ap Some (sym c.index-ends-by.is);
            another = c.if-by-at.false;
            itself = c.if-chosen-by.false;
            represents = represents;
          })
          c.represents.ensures.for_such_programs;
    }
