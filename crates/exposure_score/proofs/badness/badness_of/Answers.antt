use Rattle.std.proofs.Common.{refl, sym}
use Rattle.exposure_score.proofs.Known.{by_stored}
use Rattle.exposure_score.proofs.badness.badness_of.Goals as goal

pub returns-in_ok-stored_of-in-None : goal.returns-in_ok-stored_of-in-None
returns-in_ok-stored_of-in-None g c =
    let f = c.in-None.ensures in
    let s = c.in_ok-stored_of-in-None.ensures in
    let a = c.answer.ensures in
    record {
      by_fact_or_test =
          by_stored _ _ _ c.in_ok-stored_of-in-None.field-0.now c.answer.result (sym f) (sym s) (record { shown = c.args.facts; shows = refl; says = a.says; within_range = a.within_range });
    }
