use Rattle.std.proofs.Common.{◌≡◌, ◌∙◌, Option, Some, None}
use Rattle.ceilings.specs.call_table.Table.{every_call}
use Rattle.ceilings.specs.call_table.declared.listed.CallLine.{CallLine}
use Rattle.open_calls.specs.chosen_calls.Chosen.{is_called}
use Rattle.open_calls.proofs.Lists.{any_found}
use Rattle.ceilings.specs.kernel_laws.Launched.{launch_of}
use Rattle.open_calls.proofs.answering.named_line.Goals as goal

pub unreachable-requires : goal.unreachable-requires
unreachable-requires c =
    let launch = launch_of c.args.world.now in
    let found = any_found (is_called launch c.args.line.now.name) (every_call launch.calls) c.requires.some_passes in
    let never : ◌≡◌ {A = Option CallLine} None (Some found.0) = c.in-None.ensures.first_that_passes ∙ found.1 in
    cc
