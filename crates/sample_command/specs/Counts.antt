-- The counts of a sample.
use Rattle.std.specs.Prelude.{◌≡◌, ℕ, List, filter, length, not}
use Rattle.asked_service.specs.abs_path.Paths.{Path}
use Rattle.asked_service.specs.Answers.{Answer, is_denied}
use Rattle.asked_service.specs.ByRule.{answers_of}
use Rattle.asked_service.specs.kernel_model.World.{World}
use Rattle.asked_service.specs.site_table.Table.{Site}
use Rattle.sample_command.specs.declared.sampled.Sampled.{Sampled}

-- how many rows a site has, `/` and `/proc` among them, how many questions are asked, and how many of these are denied, and open
pub record Counts (n : ℕ) (site : Site) (answers : List Answer) (counts : Sampled) : Type 0 where
  pub number : counts.number ≡ n
  pub rows : counts.rows ≡ length site.rows
  pub questions : counts.questions ≡ length answers
  pub denied : counts.denied ≡ length (filter is_denied answers)
  pub open_ones : counts.open ≡ length (filter (λ answer. not (is_denied answer)) answers)

-- of the answers by the rule
abbrev pub CountsAnswers : ℕ → World → Path → Sampled → Type 0
CountsAnswers n world program counts = Counts n world.site (answers_of world program) counts
