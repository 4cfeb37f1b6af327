use Rattle.std.proofs.Common.{lit<}
use Rattle.std.proofs.lemmas.Str.Pattern.{strip_prefix_char}
use Rattle.script_text.proofs.MarksFound.{behind_known}
use Rattle.script_text.proofs.payloads.behind_bracket.Goals as goal

pub returns : goal.returns
returns c = behind_known 91 c.args.word.now c.strip_prefix.result
    (strip_prefix_char 91 c.args.word.now c.strip_prefix.result c.strip_prefix.ensures.cases (lit< tt))
