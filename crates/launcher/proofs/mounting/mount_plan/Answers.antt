use Rattle.std.proofs.Common.{arith, length, refl, ◌<◌}
use Rattle.std.proofs.lemmas.Bool.Decides.{nat_tests}
use Rattle.launcher.proofs.Mounted.{room_of_own, begins_mounted}
use Rattle.launcher.proofs.mounting.mount_plan.Goals as goal

pub mount_each-requires : goal.mount_each-requires
mount_each-requires c = room_of_own c.args.world.now c.unshare.new.world
    (length c.mounted-entries.result.now) c.requires.starts c.requires.has_the_calls
    (omega (arith, c.mounted-entries.ensures.few, c.requires.few)) c.in_ok-unshare.ensures

pub returns-clause-begins : goal.returns-clause-begins
returns-clause-begins c =
    let some : 0 < length c.mounted-entries.result.now = grind (arith, nat_tests, c.is_empty.ensures, c.if-is_empty.false) in
    begins_mounted c.args.world.now c.unshare.new.world c.mount_each.new.world c.args.world.now.calls.calls c.args.plan.now
    c.mounted-entries.result.now _ c.mounted-entries.ensures.steps some refl c.in_ok-unshare.ensures c.in_ok-mount_each.ensures
