-- systemd.exec(5), ProtectHome=: whether the homes of users are inaccessible, read-only or empty.
use Rattle.std.specs.Prelude.{ℕ, codes, List, [], ◌∷◌, Option}
use Rattle.dropin_merge.specs.declared.resolved.Resolved.{Resolved}
use Rattle.dropin_merge.specs.declared.unit_values.value.FileNote.{FileNote}
use Rattle.dropin_merge.specs.unit_values.Lasting.{unit_last, unit_last_notes}
use Rattle.mount_settings.specs.declared.protections.HomeProtection.{HomeProtection}
use Rattle.mount_settings.specs.declared.protections.HomeProtection.TheVariants.{No, Yes, ReadOnly, Tmpfs}
use Rattle.mount_settings.specs.Choices.{choice}

-- a boolean, `read-only` or `tmpfs`; an empty value means the default, `no`
abbrev pub home_value : List ℕ → Option HomeProtection
home_value text = choice No Yes ((codes "read-only", ReadOnly) ∷ (codes "tmpfs", Tmpfs) ∷ []) text

-- the last value of the unit that can be read
abbrev pub unit_home : Resolved → HomeProtection
unit_home unit = unit_last home_value No unit (codes "ProtectHome")

-- the notes on values that cannot be read
abbrev pub unit_home_notes : Resolved → List FileNote
unit_home_notes unit = unit_last_notes home_value unit (codes "ProtectHome")
