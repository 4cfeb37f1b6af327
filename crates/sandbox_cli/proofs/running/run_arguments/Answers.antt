use Rattle.std.proofs.Common.{ap, map, sym, drop, ◌∙◌}
use Rattle.std.specs.Prelude.{string_bytes}
use Rattle.sandbox_cli.specs.Running.{words_behind}
use Rattle.sandbox_cli.proofs.SameWords.{words_ended}
use Rattle.sandbox_cli.proofs.running.run_arguments.Goals as goal

pub returns-in-Ok-clause-ends_as_the_words_run : goal.returns-in-Ok-clause-ends_as_the_words_run
returns-in-Ok-clause-ends_as_the_words_run g c =
    words_ended (ap (map string_bytes) (c.behind_name.ensures.in_order ∙ ap (drop 1) c.deref.ensures.value)
    ∙ ap words_behind (sym c.in-Ok.is)) c.run_words.ensures.ends_as_the_words_run

pub returns-in-Err-clause-ends_as_the_words_run : goal.returns-in-Err-clause-ends_as_the_words_run
returns-in-Err-clause-ends_as_the_words_run g c = words_ended (ap words_behind (sym c.in-Err.is)) c.run_words-in-Err.ensures.ends_as_the_words_run
