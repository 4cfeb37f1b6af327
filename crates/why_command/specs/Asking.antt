-- The question that words ask.
use Rattle.std.specs.Prelude.{◌≡◌, ℕ, List, [], ◌∷◌, ◌++◌, codes, find, flat_map, Option, Some, None, Result, Ok, Err}
use Rattle.std.specs.Str.{bytes_eq}
use Rattle.asked_service.specs.Asked.{IsBounded}
use Rattle.asked_service.specs.declared.bounding.Bounded.{Bounded}
use Rattle.asked_service.specs.call_table.Table as calls
use Rattle.why_command.specs.deciding_lines.Tried.{Tried}
use Rattle.asked_service.specs.kernel_laws.declared.question_types.question.Question.{Question}
use Rattle.asked_service.specs.kernel_laws.Questions.{questions}
use Rattle.asked_service.specs.kernel_laws.Launched.{launch_of}
use Rattle.asked_service.specs.kernel_ways.Offers.{RunsProgram}
use Rattle.asked_service.specs.report_text.Wording.{question_words}
use Rattle.asked_service.specs.site_table.Table.{Site}

-- words, with a space before each but the first
abbrev pub spaced : List ℕ → List ℕ
spaced word = codes " " ++ word

abbrev pub joined_words : List (List ℕ) → List ℕ
joined_words [] = []
joined_words (word ∷ words) = word ++ flat_map spaced words

-- words that ask no question of the tables
abbrev pub refused_question : List ℕ
refused_question = codes "refused question" ++ 10 ∷ []

abbrev pub or_refused : Option Question → Result Question (List ℕ)
or_refused None = Err refused_question
or_refused (Some question) = Ok question

-- the question of the tables that is printed so in a report
abbrev pub question_named : calls.Table → Site → List ℕ → Option Question
question_named table site text = find (λ question. bytes_eq (question_words table site question) text) (questions table site)

abbrev pub question_in : calls.Table → Site → List (List ℕ) → Result Question (List ℕ)
question_in table site words = or_refused (question_named table site (joined_words words))

-- a launched service over the tables, with what bounds it
pub record CanBeAsked (tried : Tried) (bounded : Bounded) : Type 0 where
  pub is_bounded : IsBounded bounded
  pub program : RunsProgram (launch_of bounded.service.world) bounded.service.program
  pub calls : bounded.service.world.calls ≡ tried.inputs.calls
  pub site : bounded.service.world.site ≡ tried.inputs.site
