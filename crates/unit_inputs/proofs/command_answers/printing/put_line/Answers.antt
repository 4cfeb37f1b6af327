use Rattle.std.proofs.Common.{◌≡◌, ◌∙◌, Err, subst}
use Rattle.std.specs.Prelude.{IfOk}
use Rattle.exec_settings.specs.host_io.declared.writing.SinkError.TheVariants.{Memory}
use Rattle.unit_inputs.specs.command_answers.Printing.{PutsText}
use Rattle.unit_inputs.proofs.Texts.{not_printed, printed_text, text_of_lines}
use Rattle.unit_inputs.proofs.command_answers.printing.put_line.Goals as goal

pub returns-in-Ok-clause-puts_the_text : goal.returns-in-Ok-clause-puts_the_text
returns-in-Ok-clause-puts_the_text g c = λ text says.
    subst (λ own. PutsText g.K.Sink.taken g.K.Sink.puts c.args.out.now c.put_lines.new.out own c.put_lines.result)
    (c.as_slice.ensures.value ∙ subst (λ found. IfOk found (λ line. line.items ≡ text)) c.in-Ok.is says)
    c.put_lines.ensures.puts_the_text

pub returns-in-Ok-clause-prints_the_line : goal.returns-in-Ok-clause-prints_the_line
returns-in-Ok-clause-prints_the_line g c = λ text says ends.
    text_of_lines g.K.Sink.taken g.K.Sink.puts c.args.out.now c.put_lines.new.out text c.put_lines.result ends
    (subst (λ own. PutsText g.K.Sink.taken g.K.Sink.puts c.args.out.now c.put_lines.new.out own c.put_lines.result)
    (c.as_slice.ensures.value ∙ subst (λ found. IfOk found (λ line. line.items ≡ text)) c.in-Ok.is says)
    c.put_lines.ensures.puts_the_text)

pub returns-in-Err-clause-puts_the_text : goal.returns-in-Err-clause-puts_the_text
returns-in-Err-clause-puts_the_text g c = λ text says. printed_text g.K.Sink.taken g.K.Sink.puts c.args.out.now c.args.out.now text
    (Err Memory) (not_printed c.args.out.now text)

pub returns-in-Err-clause-prints_the_line : goal.returns-in-Err-clause-prints_the_line
returns-in-Err-clause-prints_the_line g c = λ text says ends. not_printed c.args.out.now text
