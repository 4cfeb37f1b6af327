use Rattle.std.proofs.Common.{ℕ, Result, refl, sym, subst}
use Rattle.std.specs.Result.{IsOk}
use Rattle.kern_mounts.specs.Mounts.{Mounts}
use Rattle.kern_mounts.proofs.Mounts.{in_range}
use Rattle.kern_mounts.proofs.Binding.{Binds, bind_long, bind_full, bind_done, stands}
use Rattle.kern_mounts.proofs.table.bind.refusal.Goals as goal

pub returns-in_default : goal.returns-in_default
returns-in_default c =
    let mount = (stands c.args.mounts.now c.args.at (in_range c.args.mounts.now c.args.source.now c.args.at c.requires.belongs)).0 in
    let binds : Binds c.args.mounts.now c.copied_among.result.now c.args.source.now c.args.recursive c.args.at mount =
    record { belongs = c.requires.belongs; entry_is = (stands c.args.mounts.now c.args.at (in_range c.args.mounts.now c.args.source.now c.args.at c.requires.belongs)).1; later_is = c.copied_among.ensures } in
    bind_long _ _ c.args.source.now c.args.target.now c.args.recursive c.args.at mount binds c.requires.covered c.in_default.ensures

pub returns-then-mounts-copies-gt-MOUNT_MAX : goal.returns-then-mounts-copies-gt-MOUNT_MAX
returns-then-mounts-copies-gt-MOUNT_MAX c =
    let mount = (stands c.args.mounts.now c.args.at (in_range c.args.mounts.now c.args.source.now c.args.at c.requires.belongs)).0 in
    let binds : Binds c.args.mounts.now c.copied_among.result.now c.args.source.now c.args.recursive c.args.at mount =
    record { belongs = c.requires.belongs; entry_is = (stands c.args.mounts.now c.args.at (in_range c.args.mounts.now c.args.source.now c.args.at c.requires.belongs)).1; later_is = c.copied_among.ensures } in
    bind_full _ _ c.args.source.now c.args.target.now c.args.recursive c.args.at mount c.in-Some.copies binds c.requires.covered
    c.in-Some.ensures.0 c.in-Some.ensures.1 c.if-mounts-copies-gt-MOUNT_MAX.true

pub returns-else-mounts-copies-gt-MOUNT_MAX : goal.returns-else-mounts-copies-gt-MOUNT_MAX
returns-else-mounts-copies-gt-MOUNT_MAX c =
    let mount = (stands c.args.mounts.now c.args.at (in_range c.args.mounts.now c.args.source.now c.args.at c.requires.belongs)).0 in
    let binds : Binds c.args.mounts.now c.copied_among.result.now c.args.source.now c.args.recursive c.args.at mount =
    record { belongs = c.requires.belongs; entry_is = (stands c.args.mounts.now c.args.at (in_range c.args.mounts.now c.args.source.now c.args.at c.requires.belongs)).1; later_is = c.copied_among.ensures } in
    let done = bind_done _ _ c.args.source.now c.args.target.now c.args.recursive c.args.at mount c.in-Some.copies binds c.requires.covered c.in-Some.ensures.0 c.in-Some.ensures.1 c.if-mounts-copies-gt-MOUNT_MAX.false in
    let R : Result Mounts ℕ → Type 0 = IsOk in
    subst R (sym done) refl
