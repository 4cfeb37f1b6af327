use Rattle.std.proofs.Common.{subst}
use Rattle.derive_command.specs.unit_inputs.command_answers.Printing.{PutsText}
use Rattle.top_call.proofs.texts.FixedReady.print.Goals as goal

pub returns-clause-puts_the_text : goal.returns-clause-puts_the_text
returns-clause-puts_the_text g c =
    subst (λ text. PutsText g.K.Sink.taken g.K.Sink.puts c.args.out.now c.put_lines.new.out text c.put_lines.result)
    c.as_bytes.ensures.value c.put_lines.ensures.puts_the_text
