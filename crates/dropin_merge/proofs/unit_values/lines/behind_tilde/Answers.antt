use Rattle.std.proofs.Common.{lit<}
use Rattle.std.proofs.lemmas.Str.Pattern.{strip_prefix_char}
use Rattle.unit_grammar.proofs.Ends.{behind_known}
use Rattle.dropin_merge.proofs.unit_values.lines.behind_tilde.Goals as goal

pub returns : goal.returns
returns c = behind_known 126 c.args.text.now c.strip_prefix.result
    (strip_prefix_char 126 c.args.text.now c.strip_prefix.result c.strip_prefix.ensures.cases (lit< tt))
