use Rattle.std.proofs.Common.{[], take, drop, suc, map, sym, subst, get_or, List}
use Rattle.std.proofs.lemmas.Result.{err_from_is_err_and}
use Rattle.text_forms.specs.declared.line_text.lines.Line.{Line as ReadLine}
use Rattle.text_forms.specs.line_text.Lines.{Line}
use Rattle.text_forms.specs.line_text.Views.{line_view}
use Rattle.call_table.specs.Views.{made}
use Rattle.call_table.specs.Progress.{HasRead, with_kind}
use Rattle.call_table.specs.Reading.{Head, line_kind}
use Rattle.call_table.proofs.Adding.{begins}
use Rattle.call_table.proofs.Steps.{stops, reads_more, split_made, take_made}
use Rattle.call_table.proofs.reader.read_rest.Goals as goal

abbrev no_line : ReadLine
no_line = record { number = 0; text = record { ref_ptr = (0, 0); now = [] } }

pub returns-in_err-take : goal.returns-in_err-take
returns-in_err-take c =
    let p = err_from_is_err_and c.from_residual.result c.from_residual.ensures.1 in
    let i = c.loop-line.line-index in
    let lines = c.args.lines.now in
    let line = line_view (get_or lines i no_line) in
    let table = made c.loop-line.lists in
    let head : Head = record { name = c.args.name; arch = c.args.arch } in
    rw (p.1, p.2)
    (stops c.args.two head (map line_view lines) (map line_view (take i lines)) line (map line_view (drop (suc i) lines)) table
    (with_kind table (line_kind line)) (made c.take.new.self) c.in_err-take.field-0.0
    (split_made line_view lines i no_line c.loop-line-test.true) c.loop-line.invariant c.in_err-take.ensures.steps)

pub loop-line-preserved : goal.loop-line-preserved
loop-line-preserved c =
    let i = c.loop-line.line-index in
    let lines = c.args.lines.now in
    subst (λ (ls : List Line). HasRead c.args.two (record { name = c.args.name; arch = c.args.arch }) ls (made c.take.new.self))
    (sym (take_made line_view lines i no_line c.loop-line-test.true))
    (reads_more c.args.two (record { name = c.args.name; arch = c.args.arch }) (map line_view (take i lines))
    (line_view (get_or lines i no_line)) (made c.loop-line.lists) (made c.take.new.self) c.loop-line.invariant
    c.in_ok-take.ensures.steps.0 c.in_ok-take.ensures.steps.1 c.in_ok-take.ensures.sound)

pub loop-line-init : goal.loop-line-init
loop-line-init c = begins c.args.two c.args.name c.args.arch (made c.new-lists.result) c.new-lists.ensures.has_no_lines
