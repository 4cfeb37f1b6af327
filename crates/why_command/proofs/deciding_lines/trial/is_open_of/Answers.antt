use Rattle.why_command.proofs.Asked.{listed_of, said_of}
use Rattle.why_command.proofs.deciding_lines.trial.is_open_of.Goals as goal

pub is_open-requires-clause-listed : goal.is_open-requires-clause-listed
is_open-requires-clause-listed c = listed_of c.args.service c.in_ok-bounded.bounded c.in_ok-bounded.ensures.bounds.0 c.args.question.now
    c.requires.listed

pub returns : goal.returns
returns c = record {
  tells =
      said_of c.args.service c.in_ok-bounded.bounded c.in_ok-bounded.ensures.bounds.0 c.args.question.now c.requires.listed
      c.openness.ensures.each_listed c.in_ok-bounded.ensures.bounds.1 c.is_open.result c.is_open.ensures.by_the_rule;
}
