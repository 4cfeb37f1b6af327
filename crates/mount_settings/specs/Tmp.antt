-- systemd.exec(5), PrivateTmp=: whether the service has its own folders for temporary files.
use Rattle.std.specs.Prelude.{ℕ, Bool, true, false, codes, List, [], ◌∷◌, Option, Some, None}
use Rattle.std.specs.Option.{option_map}
use Rattle.dropin_merge.specs.declared.resolved.Resolved.{Resolved}
use Rattle.dropin_merge.specs.declared.unit_values.value.FileNote.{FileNote}
use Rattle.dropin_merge.specs.unit_names.declared.version.Version.{Version}
use Rattle.dropin_merge.specs.unit_names.declared.version.Version.TheVariants.{V252, V257}
use Rattle.dropin_merge.specs.unit_values.Flags.{unit_flag, unit_flag_notes}
use Rattle.dropin_merge.specs.unit_values.Lasting.{unit_last, unit_last_notes}
use Rattle.mount_settings.specs.declared.tmp.PrivateTmp.{PrivateTmp}
use Rattle.mount_settings.specs.Choices.{choice}

-- a boolean, or `disconnected`, which counts as true; an empty value means the default, `no`
abbrev pub is_tmp_on : List ℕ → Option Bool
is_tmp_on text = choice false true ((codes "disconnected", true) ∷ []) text

abbrev pub tmp_value : List ℕ → Option PrivateTmp
tmp_value text = option_map (λ on. record { on = on }) (is_tmp_on text)

-- the last value of the unit that can be read; systemd 252 does not know `disconnected`
abbrev pub worded_tmp : Resolved → Bool
worded_tmp unit = (unit_last tmp_value (record { on = false }) unit (codes "PrivateTmp")).on

abbrev pub tmp_by : Option Version → Resolved → Bool
tmp_by None unit = worded_tmp unit
tmp_by (Some V252) unit = unit_flag unit (codes "PrivateTmp")
tmp_by (Some V257) unit = worded_tmp unit

abbrev pub unit_tmp : Resolved → Bool
unit_tmp unit = tmp_by unit.systemd unit

-- the notes on values that cannot be read
abbrev pub tmp_notes_by : Option Version → Resolved → List FileNote
tmp_notes_by None unit = unit_last_notes tmp_value unit (codes "PrivateTmp")
tmp_notes_by (Some V252) unit = unit_flag_notes unit (codes "PrivateTmp")
tmp_notes_by (Some V257) unit = unit_last_notes tmp_value unit (codes "PrivateTmp")

abbrev pub unit_tmp_notes : Resolved → List FileNote
unit_tmp_notes unit = tmp_notes_by unit.systemd unit
