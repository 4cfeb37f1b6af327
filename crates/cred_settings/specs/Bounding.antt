-- systemd.exec(5), CapabilityBoundingSet=: the capabilities that a service can ever have (capabilities(7)).
use Rattle.std.specs.Prelude.{ℕ, List, None, codes}
use Rattle.dropin_merge.specs.declared.resolved.Resolved.{Resolved}
use Rattle.dropin_merge.specs.declared.unit_values.value.FileNote.{FileNote}
use Rattle.cred_settings.specs.CapLists.{unit_caps, unit_caps_notes}

-- the key is unset by default, which counts as all capabilities
abbrev pub bounding_of : Resolved → ℕ
bounding_of unit = unit_caps unit (codes "CapabilityBoundingSet") None

abbrev pub bounding_notes : Resolved → List FileNote
bounding_notes unit = unit_caps_notes unit (codes "CapabilityBoundingSet")
