use Rattle.std.proofs.Common.{inl, inr, refl}
use Rattle.why_command.specs.deciding_lines.Tried.{inputs_without, tried_of}
use Rattle.why_command.proofs.Asked.{denied_as, listed, open_as, served}
use Rattle.why_command.proofs.deciding_lines.trial.Trial.denying.Goals as goal

pub is_open_of-requires : goal.is_open_of-requires
is_open_of-requires c =
    let tried = tried_of c.args.self.now in
    record {
      served = served (inputs_without tried.inputs c.args.gone.items) c.args.service c.requires.starts;
      listed = listed (inputs_without tried.inputs c.args.gone.items) c.args.service c.requires.starts tried.question
          c.requires.can_be_tried;
    }

pub least-requires : goal.least-requires
least-requires c = record {
  can_try = c.requires.can_be_tried;
  serves = open_as (tried_of c.args.self.now) c.args.gone.items c.args.service c.requires.starts c.in_ok-is_open.is_open c.if-is_open.true
      c.in_ok-is_open.ensures.tells;
}

pub returns-in_ok-found : goal.returns-in_ok-found
returns-in_ok-found c =
    inr (
      c.in_ok-found.found.things,
      refl,
      open_as (tried_of c.args.self.now) c.args.gone.items c.args.service c.requires.starts c.in_ok-is_open.is_open c.if-is_open.true
          c.in_ok-is_open.ensures.tells,
      c.in_ok-found.ensures.some_in_their_order,
      record { is_open = c.in_ok-found.ensures.serves; each_matters = c.in_ok-found.ensures.each_is_needed },
    )

pub returns-else-is_open : goal.returns-else-is_open
returns-else-is_open c =
    inl (
      denied_as (tried_of c.args.self.now) c.args.gone.items c.args.service c.requires.starts c.in_ok-is_open.is_open
          c.if-is_open.false c.in_ok-is_open.ensures.tells,
      refl,
    )
