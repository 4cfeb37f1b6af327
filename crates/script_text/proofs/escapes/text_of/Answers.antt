use Rattle.std.proofs.Common.{ap}
use Rattle.std.specs.Prelude.{string_bytes}
use Rattle.std.proofs.lemmas.Bool.{false≢true}
use Rattle.std.proofs.lemmas.Str.{IsUtf8-string_bytes}
use Rattle.script_text.proofs.Texts.{text_of_utf8, text_of_other}
use Rattle.script_text.proofs.escapes.text_of.Goals as goal

pub returns-in-Ok : goal.returns-in-Ok
returns-in-Ok c =
    text_of_utf8 c.args.bytes.items (string_bytes c.in-Ok.text) (IsUtf8-string_bytes c.in-Ok.text) (ap (λ v. v.items) c.in-Ok.ensures.ok)

pub returns : goal.returns
returns c = text_of_other c.args.bytes.items (λ utf8. false≢true (c.in-Err.ensures.succeeds utf8))
