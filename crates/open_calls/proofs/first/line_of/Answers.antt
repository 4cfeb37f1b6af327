use Rattle.std.proofs.Common.{◌≡◌, ◌∙◌, Option, Some, None}
use Rattle.ceilings.specs.call_table.declared.listed.CallLine.{CallLine}
use Rattle.open_calls.proofs.FirstLines.{first_is}
use Rattle.ceilings.specs.kernel_laws.Launched.{launch_of}
use Rattle.open_calls.proofs.first.line_of.Goals as goal

pub unreachable-requires : goal.unreachable-requires
unreachable-requires c =
    let found = first_is (launch_of c.args.world.now) c.args.kind c.requires.some_passes in
    let never : ◌≡◌ {A = Option CallLine} None (Some found.0) = c.in-None.ensures ∙ found.1 in
    cc
