-- mount(2): new mounts are added after the others and cover what those show.
use Rattle.std.specs.Prelude.{ℕ, ◌+◌, [], ◌∷◌, ◌++◌, length, nat_lt, Result, Ok, Err, if◌then◌else◌}
use Rattle.linux_numbers.specs.Errnos.{enospc}
use Rattle.linux_numbers.specs.Limits.{mount_max}
use Rattle.kern_mounts.specs.declared.step.MountStep.{MountStep}
use Rattle.kern_mounts.specs.Mounts.{Mounts, plain}

-- these mounts followed by more; ENOSPC, with none added, if there would be too many
abbrev pub grown : Mounts → Mounts → Result Mounts ℕ
grown mounts more = if nat_lt mount_max (length mounts + length more) then Err enospc else Ok (mounts ++ more)

-- the mounts with one more, which is not locked and keeps no flags
abbrev pub after_push : Mounts → MountStep → Result Mounts ℕ
after_push mounts step = grown mounts (plain step ∷ [])
