use Rattle.script_text.proofs.WordsRead.{coded, as_it_stands}
use Rattle.script_text.proofs.escapes.first_byte.Goals as goal

pub returns-then-first-eq37-clause-first : goal.returns-then-first-eq37-clause-first
returns-then-first-eq37-clause-first c = coded c.args.word.now c.in_ok-first.first.now c.in_ok-first.rest.now c.coded_byte.result
    c.in_ok-first.ensures.cases.0 c.if-first-eq37.true c.coded_byte.ensures.code

pub returns-else-first-eq37-clause-first : goal.returns-else-first-eq37-clause-first
returns-else-first-eq37-clause-first c = as_it_stands c.args.word.now c.in_ok-first.first.now c.in_ok-first.rest.now
    c.in_ok-first.ensures.cases.0 c.if-first-eq37.false
