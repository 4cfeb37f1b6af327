use Rattle.text_forms.proofs.Escapes.{escaped_read, no_white}
use Rattle.text_forms.proofs.laws.escaped_word_read.Goals as goal

pub returns-clause-read_back : goal.returns-clause-read_back
returns-clause-read_back c = escaped_read

pub returns-clause-no_white_space : goal.returns-clause-no_white_space
returns-clause-no_white_space c = no_white
