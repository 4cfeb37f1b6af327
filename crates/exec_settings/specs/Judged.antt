-- Keys of the service that are not judged (systemd.exec(5), systemd.service(5), systemd.kill(5) ..): they are noted and ignored.
use Rattle.std.specs.Prelude.{cond, Option, Some, None, List}
use Rattle.std.specs.List.{filter_map}
use Rattle.cred_settings.specs.unit_grammar.declared.notes.NoteCause.TheVariants.{Unjudged}
use Rattle.cred_settings.specs.unit_grammar.declared.unit.Assignment.{Assignment}
use Rattle.cred_settings.specs.dropin_merge.declared.resolved.Resolved.{Resolved}
use Rattle.cred_settings.specs.dropin_merge.declared.unit_values.value.FileNote.{FileNote}
use Rattle.cred_settings.specs.dropin_merge.declared.unit_values.value.Place.{Place}
use Rattle.cred_settings.specs.dropin_merge.unit_values.Assignments.{service_assignments}
use Rattle.mount_settings.specs.unit_names.declared.version.Version.{Version}
use Rattle.exec_settings.specs.Keys.{is_judged}

-- an assignment to a key that is not judged is noted
abbrev pub unjudged_at : Option Version → Place × Assignment → Option FileNote
unjudged_at systemd one = cond (is_judged systemd one.1.key) None (Some (record { place = one.0; cause = Unjudged }))

-- the notes over all files
unfoldable pub unjudged_notes : Resolved → List FileNote
unjudged_notes unit = filter_map (unjudged_at unit.systemd) (service_assignments unit)
