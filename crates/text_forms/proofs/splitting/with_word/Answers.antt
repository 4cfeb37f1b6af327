use Rattle.std.proofs.lemmas.Bool.{false_from_ne_true, false≢true}
use Rattle.std.proofs.lemmas.Str.{IsUtf8-from_is_utf8}
use Rattle.text_forms.proofs.SoFar.{bad_word}
use Rattle.text_forms.proofs.splitting.with_word.Goals as goal

pub returns-in-Err : goal.returns-in-Err
returns-in-Err c =
    bad_word c.args.whole c.in-Some.words c.args.bytes.items c.in-Some.is
    (false_from_ne_true _ (λ e. false≢true (c.in-Err.ensures.succeeds (IsUtf8-from_is_utf8 _ e))))
