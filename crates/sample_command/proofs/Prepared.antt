-- The laws of `sample` go together, and what is judged is printed by them.
use Rattle.std.proofs.Common.{◌≡◌, ℕ, List, ap, refl, sym, subst}
use Rattle.std.specs.Prelude.{IsTrue}
use Rattle.asked_service.specs.call_table.Table as calls
use Rattle.asked_service.specs.unit_inputs.command_answers.ExitStatuses.{is_answer, is_whole}
use Rattle.asked_service.specs.unit_inputs.command_answers.Laws.{GoTogether}
use Rattle.asked_service.specs.dropin_merge.declared.resolved.Resolved.{Resolved}
use Rattle.asked_service.specs.Answers.{AreAnswers}
use Rattle.asked_service.specs.ByRule.{AnswersAreTrue, answers_of}
use Rattle.asked_service.specs.launching.Launched.{IsLaunchedUnit}
use Rattle.asked_service.specs.launcher.declared.launched.Launched.{Launched as Service}
use Rattle.asked_service.specs.site_table.Table.{Site}
use Rattle.sample_inputs.specs.Made.{IsSample}
use Rattle.sample_command.specs.Counts.{Counts, CountsAnswers}
use Rattle.sample_command.specs.Prints.{PrintsSample, sample_laws, sampled_text}
use Rattle.sample_command.specs.declared.sampled.Sampled.{Sampled}

pub together : (n : ℕ) → GoTogether (sample_laws n)
together n = record {
  ends = λ status text admitted. admitted.0;
  whole = λ status done. subst (λ e. IsTrue (is_whole e)) (sym done) refl;
  answers = λ all status done. subst (λ e. IsTrue (is_answer e)) (sym done) refl;
}

-- over the tables that the world was launched with
pub prints_it : (n : ℕ) (unit : Resolved) (table : calls.Table) (site : Site) (service : Service) (counts : Sampled)
    → IsSample n unit table site → IsLaunchedUnit unit table site service → CountsAnswers n service.world service.program counts
    → AnswersAreTrue → PrintsSample n (sampled_text counts)
prints_it n unit table site service counts sample is counted answers =
    let left = is.launched.leaves_one_process.leaves.is in
    let tables : service.world.calls ≡ table = ap (λ made. made.calls) left in
    let sites : service.world.site ≡ site = ap (λ made. made.site) left in
    let told = answers_of service.world service.program in
    record {
      unit = unit;
      table = table;
      site = site;
      is_sample = sample;
      service = service;
      is_launched = is;
      answers = told;
      are_answers =
          subst (λ own. AreAnswers own site service.world told) tables
          (subst (λ own. AreAnswers service.world.calls own service.world told) sites
          (answers service.world service.program is.launched.is_served is.launched.runs_its_program));
      counts = counts;
      are_counts = subst (λ own. Counts n own told counts) sites counted;
      is_its_text = refl;
    }
