use Rattle.std.proofs.Common.{ap, map, ◌∙◌}
use Rattle.sandbox_cli.proofs.SameWords.{words_ran}
use Rattle.sandbox_cli.proofs.running.run_words.Goals as goal

pub returns-in-Ok-clause-ends_as_the_words_run : goal.returns-in-Ok-clause-ends_as_the_words_run
returns-in-Ok-clause-ends_as_the_words_run g c =
    words_ran (ap (map (λ text. text.now)) c.as_slice.ensures.value ∙ c.in-Ok.ensures.same_words) c.run.ensures.does_what_is_asked
