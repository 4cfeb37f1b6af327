use Rattle.question_text.proofs.ReadBack.{has_one_reading}
use Rattle.question_text.proofs.laws.one_reading.Goals as goal

pub returns : goal.returns
returns c = record {
  one_reading = has_one_reading c.args.calls.now c.args.site.now
      c.families-families.ensures.names_and_numbers_once.once c.rows-rows.ensures.holds_of_each_site;
}
