use Rattle.std.proofs.Common.{◌∙◌, map, refl}
use Rattle.std.specs.Str.{bytes_eq}
use Rattle.call_table.proofs.Lines.{looked_up}
use Rattle.call_table.proofs.call_names.known.entry_of.Goals as goal

pub returns-in_err-line : goal.returns-in_err-line
returns-in_err-line c =
    c.from_residual.ensures
    ∙ looked_up (bytes_eq c.args.name.now) (λ line. (line.0.now, line.1)) c.args.lines.now
    (map (λ line. (line.0.now, line.1)) c.args.lines.now) _ refl c.in_err-line.ensures

pub returns : goal.returns
returns c =
    looked_up (bytes_eq c.args.name.now) (λ line. (line.0.now, line.1)) c.args.lines.now
    (map (λ line. (line.0.now, line.1)) c.args.lines.now) _ refl c.in_ok-line.ensures
