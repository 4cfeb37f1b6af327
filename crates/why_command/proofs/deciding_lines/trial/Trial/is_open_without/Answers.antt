use Rattle.why_command.specs.deciding_lines.Tried.{inputs_without, refused, tried_of}
use Rattle.why_command.proofs.Asked.{listed, served, tells_service}
use Rattle.why_command.proofs.deciding_lines.trial.Trial.is_open_without.Goals as goal

pub is_open_of-requires : goal.is_open_of-requires
is_open_of-requires c =
    let tried = tried_of c.args.self.now in
    let starts = rw c.in-Launched.is at c.in_ok-service.ensures.starts in
    record {
      served = served (inputs_without tried.inputs c.args.places.now) c.in-Launched.service starts;
      listed = listed (inputs_without tried.inputs c.args.places.now) c.in-Launched.service starts tried.question c.requires.can_be_tried;
    }

pub returns-in-Launched : goal.returns-in-Launched
returns-in-Launched c = record {
  tells = tells_service (tried_of c.args.self.now) c.args.places.now c.in-Launched.service
      (rw c.in-Launched.is at c.in_ok-service.ensures.starts) c.is_open_of.result c.is_open_of.ensures.tells;
}

pub returns : goal.returns
returns c = record { tells = refused c.in-Refused.field-0.items (rw c.in-Refused.is at c.in_ok-service.ensures.starts) }
