use Rattle.std.proofs.Common.{◌≡◌, ◌≤◌, false, take}
use Rattle.std.specs.Prelude.{count_by}
use Rattle.std.specs.List.{list_any}
use Rattle.kern_mounts.specs.Bind.{goes_too_far}
use Rattle.kern_mounts.specs.Mounts.{stands_below}
use Rattle.kern_mounts.proofs.table.bind.count_copies.Given as goal

abbrev pub invariant-loop-mount : goal.invariant-loop-mount
invariant-loop-mount l = record {
  few : l.copies ≤ l.mount-index;
  none_long : list_any (λ mount. goes_too_far l.source l.target mount.step) (take l.mount-index l.later) ≡ false;
  counted : l.copies ≡ count_by (stands_below l.source) (take l.mount-index l.later);
}
