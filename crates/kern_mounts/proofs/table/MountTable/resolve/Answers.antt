use Rattle.std.proofs.Common.{subst, refl, Some}
use Rattle.abs_path.specs.place_tree.Places.{IsLastLeading}
use Rattle.kern_mounts.specs.Entry.{Belongs}
use Rattle.kern_mounts.specs.Mounts.{Mounts, steps_of}
use Rattle.kern_mounts.specs.Table.{places_of}
use Rattle.kern_mounts.proofs.Entries.{entry_stands}
use Rattle.kern_mounts.proofs.Places.{belongs_by_place}
use Rattle.kern_mounts.proofs.table.MountTable.resolve.Goals as goal

pub returns : goal.returns
returns c =
    let own : Belongs (steps_of c.self.inside.mounts.items) c.args.path.now c.in-Some.at = belongs_by_place (steps_of c.self.inside.mounts.items) (places_of (steps_of c.self.inside.mounts.items)) c.args.path.now c.in-Some.at refl (subst (λ (mounts : Mounts). IsLastLeading (places_of (steps_of mounts)) c.args.path.now (Some c.in-Some.at)) c.deref.ensures.value c.in-Some.ensures) in
    let belongs : Belongs (steps_of c.args.self.now) c.args.path.now c.in-Some.at = subst (λ (mounts : Mounts). Belongs (steps_of mounts) c.args.path.now c.in-Some.at) c.self.view_is own in
    record { last_that_leads = belongs; entry_of_the_path = entry_stands (steps_of c.args.self.now) c.args.path.now c.in-Some.at belongs }
