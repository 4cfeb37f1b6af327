-- What `sample` prints.
use Rattle.std.specs.Prelude.{◌≡◌, ℕ, List, [], ◌∷◌, ◌++◌, codes}
use Rattle.std.specs.Fmt.{decimal}
use Rattle.asked_service.specs.call_table.Table as calls
use Rattle.asked_service.specs.unit_inputs.command_answers.Laws.{Laws}
use Rattle.asked_service.specs.unit_inputs.declared.command_answers.exit_status.ExitStatus.{ExitStatus}
use Rattle.asked_service.specs.unit_inputs.declared.command_answers.exit_status.ExitStatus.TheVariants.{Done}
use Rattle.asked_service.specs.dropin_merge.declared.resolved.Resolved.{Resolved}
use Rattle.asked_service.specs.Answers.{Answer, AreAnswers}
use Rattle.asked_service.specs.launching.Launched.{IsLaunchedUnit}
use Rattle.asked_service.specs.launcher.declared.launched.Launched.{Launched as Service}
use Rattle.asked_service.specs.site_table.Table.{Site}
use Rattle.sample_inputs.specs.Made.{IsSample}
use Rattle.sample_command.specs.Counts.{Counts}
use Rattle.sample_command.specs.declared.sampled.Sampled.{Sampled}

-- a word and a number
abbrev pub count_line : List ℕ → ℕ → List ℕ
count_line word number = word ++ (codes " " ++ (decimal number ++ 10 ∷ []))

-- the number of the sample, and its counts
abbrev pub sampled_text : Sampled → List ℕ
sampled_text counts =
    count_line (codes "sample") counts.number ++ (count_line (codes "rows") counts.rows ++ (count_line (codes "questions") counts.questions
    ++ (count_line (codes "denied") counts.denied ++ count_line (codes "open") counts.open)))

-- the made unit, table and site are settled, planned and launched as any others; each question of the tables has one answer that
-- is true of the launched service, and these are counted
pub record PrintsSample (n : ℕ) (text : List ℕ) : Type 0 where
  pub unit : Resolved
  pub table : calls.Table
  pub site : Site
  pub is_sample : IsSample n unit table site
  pub service : Service
  pub is_launched : IsLaunchedUnit unit table site service
  pub answers : List Answer
  pub are_answers : AreAnswers table site service.world answers
  pub counts : Sampled
  pub are_counts : Counts n site answers counts
  pub is_its_text : text ≡ sampled_text counts

-- nothing is refused, and no file is read
abbrev pub sample_laws : ℕ → Laws
sample_laws n = record {
  admits = λ status text. (status ≡ Done) × PrintsSample n text;
  may_end = λ status. status ≡ Done;
  accepts = Unit {0};
  reads = ⊥;
}

abbrev pub status_of : Sampled → ExitStatus
status_of counts = Done
