-- The settings of a sample (systemd.exec(5)): a user of its own, all capabilities in the bounding set and none ambient, no filter and
-- nothing that is kept for filters, and the mentions of its unit.
use Rattle.std.specs.Prelude.{◌≡◌, ℕ, ◌%◌, ◌==◌, false, [], None}
use Rattle.launcher.specs.call_table.Table.{Table}
use Rattle.launcher.specs.cap_sets.Sets.{all, none}
use Rattle.launcher.specs.dropin_merge.declared.resolved.Resolved.{Resolved}
use Rattle.launcher.specs.exec_settings.AreSettings.{AreSettings}
use Rattle.launcher.specs.exec_settings.Refusals.{refusal_of}
use Rattle.launcher.specs.exec_settings.declared.service.Settings.{Settings}
use Rattle.launcher.specs.path_settings.declared.mentioned.Mentioned.TheVariants.{Base}
use Rattle.launcher.specs.site_table.Table.{Site}
use Rattle.sample_inputs.specs.Facts.{HasSampleRows, SaysSample, program}
use Rattle.sample_inputs.specs.sample_launch.Mentions.{sample_mentions}

pub record AreSampleSettings (n : ℕ) (made : Settings) : Type 0 where
  pub launches : made.program ≡ program
  pub uid : made.uid ≡ 100
  pub gid : made.gid ≡ 100
  pub groups : made.groups ≡ []
  pub bounding : made.bounding ≡ all
  pub ambient : made.ambient ≡ none
  pub filters : made.filters.items ≡ []
  pub keeps : made.keeps_capabilities ≡ false
  pub new_privileges : made.no_new_privs ≡ (n % 2 == 0)
  pub memory : made.mdwe ≡ false
  pub mentions : made.mentions ≡ Base (sample_mentions n)

-- nothing refuses a unit that says a sample, at a site that has its rows, whatever the table of calls
abbrev pub SettingsAreNotRefused : Type 0
SettingsAreNotRefused = (n : ℕ) (unit : Resolved) (table : Table) (site : Site) → SaysSample n unit → HasSampleRows site
    → refusal_of unit table site ≡ None

-- and its settings are these
abbrev pub SettingsAreTheSamples : Type 0
SettingsAreTheSamples = (n : ℕ) (unit : Resolved) (table : Table) (site : Site) (made : Settings) → SaysSample n unit → HasSampleRows site
    → AreSettings unit table site made → AreSampleSettings n made
