use Rattle.why_command.proofs.Joined.{joined}
use Rattle.why_command.proofs.asking.joined_words.Goals as goal

pub returns : goal.returns
returns c = joined c.args.words.now c.in-Some.rest.now c.in-Some.first.now c.in_ok-text.text.items c.push_words.new.text.items
    c.in-Some.ensures.cases.0 c.in_ok-text.ensures c.in_ok-push_words.ensures
