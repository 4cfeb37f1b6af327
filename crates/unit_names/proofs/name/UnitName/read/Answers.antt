use Rattle.std.proofs.Common.{sym}
use Rattle.unit_names.specs.Cutting.{borrowed_name}
use Rattle.unit_names.proofs.Spelling.{reading}
use Rattle.unit_names.proofs.name.UnitName.read.Goals as goal

pub with_parts-requires : goal.with_parts-requires
with_parts-requires c = (reading c.args.text.now (borrowed_name c.in-Some.parts)).0 (sym c.in-Some.ensures.of_a_name)
