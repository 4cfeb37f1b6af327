-- systemd.exec(5), ProtectSystem=: how much of the system is read-only.
use Rattle.std.specs.Prelude.{ℕ, codes, List, [], ◌∷◌, Option}
use Rattle.dropin_merge.specs.declared.resolved.Resolved.{Resolved}
use Rattle.dropin_merge.specs.declared.unit_values.value.FileNote.{FileNote}
use Rattle.dropin_merge.specs.unit_values.Lasting.{unit_last, unit_last_notes}
use Rattle.mount_settings.specs.declared.protections.SystemProtection.{SystemProtection}
use Rattle.mount_settings.specs.declared.protections.SystemProtection.TheVariants.{No, Yes, Full, Strict}
use Rattle.mount_settings.specs.Choices.{choice}

-- a boolean, `full` or `strict`; an empty value means the default, `no`
abbrev pub system_value : List ℕ → Option SystemProtection
system_value text = choice No Yes ((codes "full", Full) ∷ (codes "strict", Strict) ∷ []) text

-- the last value of the unit that can be read
abbrev pub unit_system : Resolved → SystemProtection
unit_system unit = unit_last system_value No unit (codes "ProtectSystem")

-- the notes on values that cannot be read
abbrev pub unit_system_notes : Resolved → List FileNote
unit_system_notes unit = unit_last_notes system_value unit (codes "ProtectSystem")
