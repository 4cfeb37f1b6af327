-- A unit whose service has just a command.
use Rattle.std.specs.Prelude.{◌≡◌, false, [], ◌∷◌, codes}
use Rattle.cred_settings.specs.unit_grammar.declared.unit.Assignment.{Assignment}
use Rattle.cred_settings.specs.dropin_merge.declared.resolved.Resolved.{Resolved}
use Rattle.cred_settings.specs.dropin_merge.declared.unit_values.value.Place.{Place}
use Rattle.cred_settings.specs.dropin_merge.unit_values.Assignments.{service_assignments}
use Rattle.cred_settings.specs.cap_sets.Sets.{all, none}
use Rattle.filter_settings.specs.call_table.Table.{Table}
use Rattle.cred_settings.specs.site_table.Table.{Site}
use Rattle.mount_settings.specs.Settings.{nothing_in}
use Rattle.exec_settings.specs.declared.service.Settings.{Settings}
use Rattle.exec_settings.specs.AreSettings.{AreSettings}
use Rattle.exec_settings.specs.Notes.{grammar_notes}
use Rattle.exec_settings.specs.Order.{AreInOrder}
use Rattle.exec_settings.specs.Refusals.{command_refusal, refusal_of}

-- the only assignment of the section `[Service]` is to ExecStart=
pub record HasCommandAlone (unit : Resolved) : Type 0 where
  pub place : Place
  pub assignment : Assignment
  pub alone : service_assignments unit ≡ (place, assignment) ∷ []
  pub command : assignment.key ≡ codes "ExecStart"

-- the service runs as the superuser without further groups, and its bounding set has all capabilities. No capability is ambient or kept
-- for filters, no filter is on, no memory is refused, and no path is mentioned. All notes are of the grammar of unit files
pub record AreBare (unit : Resolved) (made : Settings) : Type 0 where
  pub uid : made.uid ≡ 0
  pub gid : made.gid ≡ 0
  pub groups : made.groups ≡ []
  pub bounding : made.bounding ≡ all
  pub ambient : made.ambient ≡ none
  pub keeps : made.keeps_capabilities ≡ false
  pub new_privileges : made.no_new_privs ≡ false
  pub memory : made.mdwe ≡ false
  pub filters : made.filters.items ≡ []
  pub mentions : made.mentions ≡ nothing_in unit.systemd
  pub notes : AreInOrder (grammar_notes unit) made.notes.items

-- only its command can refuse the unit; otherwise it has these settings
pub record MeansItsCommand (unit : Resolved) (table : Table) (site : Site) : Type 0 where
  pub refused_by_the_command : refusal_of unit table site ≡ command_refusal unit site
  pub bare : (made : Settings) → AreSettings unit table site made → AreBare unit made

abbrev pub CommandAloneIsBare : Type 0
CommandAloneIsBare = (unit : Resolved) (table : Table) (site : Site) → HasCommandAlone unit → MeansItsCommand unit table site
