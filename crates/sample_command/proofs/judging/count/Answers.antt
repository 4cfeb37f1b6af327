use Rattle.std.proofs.Common.{ap, ◌∙◌, length, refl}
use Rattle.sample_command.proofs.Counted.{all_answers, denied_answers, open_answers}
use Rattle.sample_command.proofs.judging.count.Goals as goal

pub count_open-open-requires : goal.count_open-open-requires
count_open-open-requires c = record {
  bounded = c.requires.asked.bounded;
  all = c.as_slice-questions.ensures.value ∙ c.requires.asked.questions;
}

pub returns : goal.returns
returns c =
    let asked = c.args.asked.now in
    let is = c.requires.asked in
    let all = all_answers asked is (length c.as_slice-questions.result.now) (ap length c.as_slice-questions.ensures.value) in
    let told = open_answers asked is c.count_open-open.result c.as_slice-questions.result.now c.as_slice-questions.ensures.value c.count_open-open.ensures.counts in
    record {
      counts = record {
        number = refl;
        rows = ap length (c.rows.ensures.rows ∙ ap (λ site. site.rows) c.site_table.ensures.told);
        questions = all;
        denied = denied_answers asked is c.count_open-open.result (length c.as_slice-questions.result.now) told all;
        open_ones = told;
      };
    }
