use Rattle.std.proofs.Common.{◌≡◌, ◌⊎◌, arith}
use Rattle.ceilings.specs.kernel_laws.declared.question_types.power.Power.TheVariants.{None as Nowise, Unmount as Unmounting}
use Rattle.ceilings.specs.kern_mounts.Mounts.{steps_of}
use Rattle.ceilings.specs.reach_paths.Needs.{allows}
use Rattle.open_calls.proofs.Leading.{below_proc, leads_by}
use Rattle.open_calls.proofs.service.Service.exposing_path.Goals as goal

pub below_proc-requires : goal.below_proc-requires
below_proc-requires c =
    let short = below_proc c.args.self.now.world.now c.requires.served c.args.aim.now.row.now c.requires.aimed.known in
    record { short = omega (arith, short) }

pub shown_at-requires : goal.shown_at-requires
shown_at-requires c =
    let weak : (c.args.aim.now.power ≡ Nowise) ⊎ (c.args.aim.now.power ≡ Unmounting) = c.in-None.is in
    let x = leads_by c.args.self.now.world.now c.requires.served c.args.aim.now.row.now c.requires.aimed.known (allows c.args.aim.now.need) c.args.aim.now.power weak c.requires.aimed.reached (steps_of c.launched_table.result.now) c.args.aim.now.at c.launched_table.ensures.its_own c.requires.aimed.number in
    record { in_range = x.in_range; leads = x.leads }
