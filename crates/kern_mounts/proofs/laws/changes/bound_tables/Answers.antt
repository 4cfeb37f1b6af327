use Rattle.std.proofs.Common.{true, false}
use Rattle.kern_mounts.specs.Mounts.{steps_of}
use Rattle.kern_mounts.proofs.Showing.{bind_made, bind_elsewhere, plain_bind}
use Rattle.kern_mounts.proofs.Alike.{same_host_place, same_flags, same_finds}
use Rattle.kern_mounts.proofs.Bindable.{found_can_be_bound}
use Rattle.kern_mounts.proofs.laws.changes.bound_tables.Goals as goal

pub returns : goal.returns
returns c = record {
  elsewhere = λ mounts next source target path recursive e. bind_elsewhere (steps_of mounts) (steps_of next) source target path recursive
      (bind_made mounts next source target recursive e);
  one_entry_unless_recursive = λ mounts next source target path step e. plain_bind (steps_of mounts) (steps_of next) source target path
      step (bind_made mounts next source target false e);
  same_places_on_the_host = λ mounts next source target rest e. same_host_place (steps_of mounts) (steps_of next) source target rest
      (bind_made mounts next source target true e);
  same_flags = λ mounts next source target rest e. same_flags (steps_of mounts) (steps_of next) source target rest
      (bind_made mounts next source target true e);
  same_is_found = λ rows mounts next source target rest e. same_finds rows (steps_of mounts) (steps_of next) source target rest
      (bind_made mounts next source target true e);
  what_is_found_can_be_bound = found_can_be_bound;
}
