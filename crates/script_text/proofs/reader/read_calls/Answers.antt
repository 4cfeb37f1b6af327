use Rattle.std.proofs.Common.{[], take, drop, suc, map, sym, subst, get_or, List}
use Rattle.std.proofs.lemmas.Result.{err_from_is_err_and}
use Rattle.kernel_model.specs.text_forms.line_text.Lines.{Line}
use Rattle.kernel_model.specs.text_forms.line_text.Views.{line_view}
use Rattle.kernel_model.specs.text_forms.declared.line_text.lines.Line.{Line as ReadLine}
use Rattle.kernel_model.proofs.OfCallTable.Steps.{split_made, take_made}
use Rattle.script_text.specs.Progress.{HasRead}
use Rattle.script_text.proofs.FirstFault.{stops, stops_full, reads_more}
use Rattle.script_text.proofs.reader.read_calls.Goals as goal

abbrev no_line : ReadLine
no_line = record { number = 0; text = record { ref_ptr = (0, 0); now = [] } }

pub returns-in_err-read_numbered : goal.returns-in_err-read_numbered
returns-in_err-read_numbered c =
    let p = err_from_is_err_and c.from_residual.result c.from_residual.ensures.1 in
    let i = c.loop-line.line-index in
    let lines = c.args.lines.now in
    rw (p.1, p.2)
    (stops c.args.calls.now (map line_view lines) (map line_view (take i lines)) (line_view (get_or lines i no_line))
    (map line_view (drop (suc i) lines)) c.loop-line.made.items c.in_err-read_numbered.field-0.0
    (split_made line_view lines i no_line c.loop-line-test.true) c.loop-line.invariant c.in_err-read_numbered.ensures)

pub returns-in_err-add : goal.returns-in_err-add
returns-in_err-add c =
    let p = err_from_is_err_and c.from_residual-in_err-add.result c.from_residual-in_err-add.ensures.1 in
    let i = c.loop-line.line-index in
    let lines = c.args.lines.now in
    rw (p.1, p.2)
    (stops_full c.args.calls.now (map line_view lines) (map line_view (take i lines)) (line_view (get_or lines i no_line))
    (map line_view (drop (suc i) lines)) c.loop-line.made.items c.add.new.made.items c.in_ok-read_numbered.field-0
    c.in_err-add.field-0.0 (split_made line_view lines i no_line c.loop-line-test.true) c.loop-line.invariant
    c.in_ok-read_numbered.ensures c.in_err-add.ensures)

pub loop-line-preserved : goal.loop-line-preserved
loop-line-preserved c =
    let i = c.loop-line.line-index in
    let lines = c.args.lines.now in
    subst (λ (ls : List Line). HasRead c.args.calls.now ls c.add.new.made.items)
    (sym (take_made line_view lines i no_line c.loop-line-test.true))
    (reads_more c.args.calls.now (map line_view (take i lines))
    (line_view (get_or lines i no_line)) c.loop-line.made.items c.add.new.made.items c.in_ok-read_numbered.field-0 c.loop-line.invariant
    c.in_ok-read_numbered.ensures c.in_ok-add.ensures.0 c.in_ok-add.ensures.1)
