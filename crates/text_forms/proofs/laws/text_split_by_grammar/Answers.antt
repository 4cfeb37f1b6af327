use Rattle.text_forms.proofs.Spelling.{spells_from, spells_read}
use Rattle.text_forms.proofs.Layouts.{split_as_laid}
use Rattle.text_forms.proofs.Layable.{escape_exactly, quote_exactly, not_text_exactly}
use Rattle.text_forms.proofs.laws.text_split_by_grammar.Goals as goal

pub returns-clause-symbols_as_written : goal.returns-clause-symbols_as_written
returns-clause-symbols_as_written c = λ text symbols. (spells_from text symbols, spells_read symbols text)

pub returns-clause-words_as_laid_out : goal.returns-clause-words_as_laid_out
returns-clause-words_as_laid_out c = split_as_laid

pub returns-clause-escape_where_not_written : goal.returns-clause-escape_where_not_written
returns-clause-escape_where_not_written c = escape_exactly

pub returns-clause-quote_where_not_laid_out : goal.returns-clause-quote_where_not_laid_out
returns-clause-quote_where_not_laid_out c = quote_exactly

pub returns-clause-not_text_where_not_utf8 : goal.returns-clause-not_text_where_not_utf8
returns-clause-not_text_where_not_utf8 c = not_text_exactly
