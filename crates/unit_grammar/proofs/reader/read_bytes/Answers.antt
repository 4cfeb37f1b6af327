use Rattle.std.proofs.Common.{sym}
use Rattle.unit_grammar.proofs.Bytes.{not_utf8, of_text}
use Rattle.unit_grammar.proofs.reader.read_bytes.Goals as goal

pub returns-in_default : goal.returns-in_default
returns-in_default c = not_utf8 c.args.bytes.now c.in_default.ensures.cases.0

pub returns : goal.returns
returns c =
    of_text c.args.bytes.now c.in-Ok.text.now c.read_text.result c.in-Ok.ensures.cases.1
    (sym c.if-contains.ensures.value) c.in-Ok.ensures.cases.0 c.read_text.ensures
