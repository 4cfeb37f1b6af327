-- Other sections than `[Service]`.
use Rattle.std.specs.Prelude.{◌≡◌, ◌↔◌}
use Rattle.cred_settings.specs.dropin_merge.declared.resolved.Resolved.{Resolved}
use Rattle.cred_settings.specs.dropin_merge.unit_values.Assignments.{service_alone}
use Rattle.filter_settings.specs.call_table.Table.{Table}
use Rattle.cred_settings.specs.site_table.Table.{Site}
use Rattle.exec_settings.specs.declared.service.Settings.{Settings}
use Rattle.exec_settings.specs.AreSettings.{AreSettings}
use Rattle.exec_settings.specs.Refusals.{refusal_of}

-- without these sections the unit is refused for the same reason, and has the same settings
pub record SameWithoutOthers (unit : Resolved) (table : Table) (site : Site) : Type 0 where
  pub refused : refusal_of (service_alone unit) table site ≡ refusal_of unit table site
  pub settles : (made : Settings) → AreSettings (service_alone unit) table site made ↔ AreSettings unit table site made

abbrev pub OtherSectionsChangeNothing : Type 0
OtherSectionsChangeNothing = (unit : Resolved) (table : Table) (site : Site) → SameWithoutOthers unit table site
