use Rattle.derive_command.specs.trace_profile.Searching.{tried_of}
use Rattle.derive_command.proofs.Tried.{launched_by, tells_no_launch, tells_replies}
use Rattle.derive_command.proofs.trace_profile.searching.Trial.serves.Goals as goal

pub replies_so-requires-clause-launched : goal.replies_so-requires-clause-launched
replies_so-requires-clause-launched c =
    launched_by (tried_of c.args.self.now) c.args.names.now c.in_ok-unit.unit c.in_ok-unit.ensures.drop_in_stands_last c.in-Ok.service
    c.requires.are_names c.in-Ok.ensures.launches

pub returns-in-Ok : goal.returns-in-Ok
returns-in-Ok c = record {
  tells_whether_they_serve =
      tells_replies (tried_of c.args.self.now) c.args.names.now c.in_ok-unit.unit c.in_ok-unit.ensures.drop_in_stands_last c.in-Ok.service
      c.replies_so.result c.in-Ok.ensures.launches c.replies_so.ensures;
}

pub returns : goal.returns
returns c = record {
  tells_whether_they_serve =
      tells_no_launch (tried_of c.args.self.now) c.args.names.now c.in_ok-unit.unit c.in_ok-unit.ensures.drop_in_stands_last
      c.in-Err.error c.fails.result c.in-Err.ensures.launches c.fails.ensures;
}
