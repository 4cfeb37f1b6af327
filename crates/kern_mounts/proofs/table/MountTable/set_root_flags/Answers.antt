use Rattle.std.proofs.Common.{◌∙◌, ap, refl}
use Rattle.kern_mounts.specs.Remount.{with_root_flags}
use Rattle.kern_mounts.proofs.Changing.{root_set}
use Rattle.kern_mounts.proofs.Places.{mounts_stay, mount_places_stay}
use Rattle.kern_mounts.proofs.Known.{knows_same}
use Rattle.kern_mounts.proofs.table.MountTable.set_root_flags.Goals as goal

pub returns : goal.returns
returns c = record {
  sets = root_set c.self.inside.mounts.items c.index_mut.result.now c.args.flags c.self.invariant.0.root
      c.index_mut.ensures.value ∙ ap (with_root_flags c.args.flags) c.self.view_is;
}

pub invariant_of-self : goal.invariant_of-self
invariant_of-self c = (
  mounts_stay c.self.inside.mounts.items 0 c.index_mut.result.now _ c.self.invariant.0 c.index_mut.ensures.value refl,
  knows_same _ _ _ _ c.self.invariant.1
      (mount_places_stay c.self.inside.mounts.items 0 c.index_mut.result.now _ c.index_mut.ensures.value refl),
)
