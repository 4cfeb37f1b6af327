use Rattle.std.proofs.Common.{false, sym, true, ◌∙◌}
use Rattle.why_command.specs.deciding_lines.Tried.{tried_of}
use Rattle.why_command.proofs.Asked.{listed, listed_of, served}
use Rattle.why_command.proofs.Told.{can_be_asked, so_as, still_starts, told_of_it}
use Rattle.why_command.proofs.answering.tell_service.Goals as goal

pub bound-requires : goal.bound-requires
bound-requires c = record { served = served (tried_of c.args.trial.now).inputs c.args.service c.requires.starts }

pub is_open-requires-clause-listed : goal.is_open-requires-clause-listed
is_open-requires-clause-listed c =
    let tried = tried_of c.args.trial.now in
    listed_of c.args.service c.in_ok-bounded.bounded c.in_ok-bounded.ensures.bounds.0 c.args.trial.now.question
    (listed tried.inputs c.args.service c.requires.starts tried.question c.requires.can_be_tried)

pub tell_open-requires : goal.tell_open-requires
tell_open-requires c =
    let tried = tried_of c.args.trial.now in
    record {
      can_be_tried = c.requires.can_be_tried;
      can_be_asked = can_be_asked tried c.args.service c.in_ok-bounded.bounded c.requires.starts c.in_ok-bounded.ensures.bounds.0
          c.in_ok-bounded.ensures.bounds.1;
      is_open = sym c.is_open.ensures.by_the_rule ∙ c.if-is_open.true;
      is_so = so_as c.in_ok-bounded.bounded.service.world c.args.trial.now.question true c.is_open.result c.if-is_open.true
          c.is_open.ensures.is_so;
    }

pub returns-then-is_open : goal.returns-then-is_open
returns-then-is_open c = told_of_it (tried_of c.args.trial.now) c.args.service c.in_ok-bounded.bounded c.in_ok-bounded.ensures.bounds.0
    c.tell_open.result c.tell_open.ensures

pub tell_denied-requires : goal.tell_denied-requires
tell_denied-requires c = record {
  can_be_tried = c.requires.can_be_tried;
  starts = still_starts (tried_of c.args.trial.now) c.args.service c.in_ok-bounded.bounded.service c.in_ok-bounded.ensures.bounds.0
      c.requires.starts;
  is_so = so_as c.in_ok-bounded.bounded.service.world c.args.trial.now.question false c.is_open.result c.if-is_open.false
      c.is_open.ensures.is_so;
}

pub returns-else-is_open : goal.returns-else-is_open
returns-else-is_open c = told_of_it (tried_of c.args.trial.now) c.args.service c.in_ok-bounded.bounded c.in_ok-bounded.ensures.bounds.0
    c.tell_denied.result c.tell_denied.ensures
