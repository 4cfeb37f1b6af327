-- The change of a call of mount(2) that its rule has not refused so far.
use Rattle.std.specs.Prelude.{◌≡◌, ℕ, true, ⊤, Result, Ok, Err}
use Rattle.site_table.specs.abs_path.Paths.{Path}
use Rattle.kern_mounts.specs.Bind.{can_bind}
use Rattle.kern_mounts.specs.Mounts.{Mounts}
use Rattle.kern_mounts.specs.Push.{after_push}
use Rattle.kern_mounts.specs.Bind.{after_bind}
use Rattle.kern_mounts.specs.Remount.{after_remount}
use Rattle.kern_mounts.specs.Split.{Table}
use Rattle.kern_mounts.specs.declared.step.What.TheVariants as what
use Rattle.kernel_model.specs.kern_files.MountCall.{flags_of}
use Rattle.kernel_model.specs.declared.kern_files.planning.Change.{Change}
use Rattle.kernel_model.specs.declared.kern_files.planning.Change.TheVariants.{Remount, Bind, Empty}

-- the mounts after the change, or why they refuse it
abbrev pub performed : Mounts → Path → Path → ℕ → Change → Result Mounts ℕ
performed mounts source target flags Remount = after_remount mounts target (flags_of flags)
performed mounts source target flags (Bind recursive) = after_bind mounts source target recursive
performed mounts source target flags Empty =
    after_push mounts (record { place = target; what = what.Empty; flags = flags_of flags })

-- the call's result is the result of this change, or this errno
abbrev pub Plans : Mounts → Path → Path → ℕ → Result Mounts ℕ → Result Change ℕ → Type 0
Plans mounts source target flags answer (Ok change) = answer ≡ performed mounts source target flags change
Plans mounts source target flags answer (Err errno) = answer ≡ Err errno

-- if the change is a bind, the source can be bound
abbrev pub CanPerform : Table → Path → Change → Type 0
CanPerform table source (Bind recursive) = can_bind table source ≡ true
CanPerform table source Remount = ⊤
CanPerform table source Empty = ⊤
