use Rattle.std.proofs.Common.{[], Ok, sym, ◌∙◌}
use Rattle.asked_service.proofs.OfUnitInputs.Texts.{nothing_printed, text_as}
use Rattle.asked_service.specs.report_text.Answers.{blind_line}
use Rattle.judge_command.specs.Asked.{folder_text}
use Rattle.judge_command.proofs.Ends.{blind_ends}
use Rattle.judge_command.proofs.Texts.{named_text, unnamed_text}
use Rattle.judge_command.proofs.folders.print_folder.Goals as goal

pub returns-then-is_named-clause-prints_the_text : goal.returns-then-is_named-clause-prints_the_text
returns-then-is_named-clause-prints_the_text g c =
    text_as g.K.Sink.taken g.K.Sink.puts c.args.out.now c.put_line.new.out (blind_line c.args.row.now.path)
    (folder_text c.args.asked.now c.args.row.now) c.put_line.result
    (named_text c.args.asked.now c.args.row.now (sym c.is_named.ensures.by_the_rule ∙ c.if-is_named.true))
    (c.put_line.ensures.prints_the_line (blind_line c.args.row.now.path) c.blind_line.ensures.names_the_folder
    (blind_ends c.args.row.now.path))

pub returns-else-is_named-clause-prints_the_text : goal.returns-else-is_named-clause-prints_the_text
returns-else-is_named-clause-prints_the_text g c =
    text_as g.K.Sink.taken g.K.Sink.puts c.args.out.now c.args.out.now [] (folder_text c.args.asked.now c.args.row.now) (Ok tt)
    (unnamed_text c.args.asked.now c.args.row.now (sym c.is_named.ensures.by_the_rule ∙ c.if-is_named.false))
    (nothing_printed c.args.out.now)
