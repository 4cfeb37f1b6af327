-- systemd.exec(5), AmbientCapabilities=: the capabilities that a service starts with in its ambient set (capabilities(7)).
use Rattle.std.specs.Prelude.{ℕ, List, Some, codes}
use Rattle.dropin_merge.specs.declared.resolved.Resolved.{Resolved}
use Rattle.dropin_merge.specs.declared.unit_values.value.FileNote.{FileNote}
use Rattle.site_table.specs.cap_sets.Sets.{none}
use Rattle.cred_settings.specs.CapLists.{unit_caps, unit_caps_notes}

-- the set is empty by default
abbrev pub ambient_of : Resolved → ℕ
ambient_of unit = unit_caps unit (codes "AmbientCapabilities") (Some none)

abbrev pub ambient_notes : Resolved → List FileNote
ambient_notes unit = unit_caps_notes unit (codes "AmbientCapabilities")
