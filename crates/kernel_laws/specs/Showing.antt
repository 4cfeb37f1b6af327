-- What the mounts of the first user namespace show of the host, by how far they can be changed.
use Rattle.std.specs.Prelude.{Bool, true, false, [], ◌∷◌, not, ◌&&◌, ◌||◌}
use Rattle.kernel_model.specs.abs_path.Paths.{Path}
use Rattle.kernel_model.specs.kern_mounts.declared.step.Flags.{Flags}
use Rattle.kernel_model.specs.kern_mounts.Split.{Table}
use Rattle.kernel_model.specs.kern_mounts.Keeping.{lacks}
use Rattle.kernel_laws.specs.declared.question_types.power.Power.{Power}
use Rattle.kernel_laws.specs.declared.question_types.power.Power.TheVariants.{None as Nowise, Unmount as Unmounting, Mount as Mounting}
use Rattle.kernel_laws.specs.Reach.{shows_row}

-- an entry of the table, with these flags or fewer, shows the host's path at a path that no later entry covers, or that can
-- be uncovered
abbrev pub shows_from : Bool → Table → Path → Flags → Bool
shows_from uncover [] host flags = false
shows_from uncover (entry ∷ later) host flags = (not (lacks entry.flags flags) && shows_row uncover entry later host entry.what) ||
    shows_from uncover later host flags

-- by the power over the launched table; with mount everything is shown
abbrev pub shown_by : Power → Table → Path → Flags → Bool
shown_by Nowise launched = shows_from false launched
shown_by Unmounting launched = shows_from true launched
shown_by Mounting launched = λ host flags. true
