use Rattle.std.proofs.Common.{◌∙◌, ap}
use Rattle.std.specs.Prelude.{not}
use Rattle.abs_path.proofs.Prefixes.{below_by_rest}
use Rattle.abs_path.proofs.path.AbsPath.is_below.Goals as goal

pub returns-in-Some : goal.returns-in-Some
returns-in-Some c = record {
  by_whole_parts = ap not c.is_empty.ensures ∙ below_by_rest c.args.other.now c.args.self.now c.in-Some.rest.now c.in-Some.ensures.behind;
}
