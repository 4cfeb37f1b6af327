-- What the words of a unit's lists ask systemd to mount (systemd.exec(5), Sandboxing).
use Rattle.std.specs.Prelude.{cond}
use Rattle.path_settings.specs.declared.mentions.Kind.{Kind}
use Rattle.path_settings.specs.declared.mentions.Kind.TheVariants.{Ro, Rw, Exec, NoExec, Hide, Tmp, Bind}
use Rattle.path_settings.specs.declared.mentions.Mention.{Mention}
use Rattle.path_settings.specs.declared.systemd.modes.MountMode.{MountMode}
use Rattle.path_settings.specs.declared.systemd.modes.MountMode.TheVariants as mode
use Rattle.path_settings.specs.declared.systemd.entries.MountEntry.{MountEntry}

abbrev pub mode_of : Kind → MountMode
mode_of Ro = mode.ReadOnly
mode_of Rw = mode.ReadWrite
mode_of Exec = mode.Exec
mode_of NoExec = mode.NoExec
mode_of Hide = mode.Hidden
mode_of (Tmp read_only no_exec no_suid) = mode.Tmpfs read_only no_exec no_suid
mode_of (Bind source read_only recursive) = cond recursive (mode.RecursiveBind source read_only) (mode.Bind source read_only)

abbrev pub entry_of : Mention → MountEntry
entry_of mention = record { path = mention.path; mode = mode_of mention.kind; optional = mention.optional }
