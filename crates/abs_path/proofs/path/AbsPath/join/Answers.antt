use Rattle.std.proofs.Common.{arith}
use Rattle.abs_path.proofs.Reading.{joined_length}
use Rattle.abs_path.proofs.path.AbsPath.join.Goals as goal

pub returns-then-len-rest-gt-LONGEST : goal.returns-then-len-rest-gt-LONGEST
returns-then-len-rest-gt-LONGEST c = record {
  joins_or_too_long = omega (arith, joined_length c.self.inside.tail c.args.rest.now _ c.self.invariant c.requires c.self.view_is);
}

pub with_rest-requires-clause-short : goal.with_rest-requires-clause-short
with_rest-requires-clause-short c =
    omega (arith, joined_length c.self.inside.tail c.args.rest.now _ c.self.invariant c.requires c.self.view_is)
