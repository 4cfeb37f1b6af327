use Rattle.cred_settings.proofs.WritingLemmas.{one_plain_line, one_inverted_line, tilde_alone, two_plain_lines, two_ambient_lines}
use Rattle.cred_settings.proofs.WritingLemmas.{empty_value_first}
use Rattle.cred_settings.proofs.laws.common_writings.Goals as goal

pub returns : goal.returns
returns c = record {
  one_plain_line = one_plain_line;
  one_inverted_line = one_inverted_line;
  tilde_alone = tilde_alone;
  two_plain_lines = two_plain_lines;
  two_ambient_lines = two_ambient_lines;
  empty_value_first = empty_value_first;
}
