use Rattle.std.proofs.Common.{lit<}
use Rattle.std.proofs.lemmas.Str.Pattern.{strip_prefix_char}
use Rattle.call_table.proofs.Fronts.{behind_known}
use Rattle.call_table.proofs.names.behind_at.Goals as goal

pub returns : goal.returns
returns c = record {
  behind_the_at = behind_known c.args.word.now c.strip_prefix.result
      (strip_prefix_char 64 c.args.word.now c.strip_prefix.result c.strip_prefix.ensures.cases (lit< tt));
}
