-- The settings that a launch needs: their rule sets compile to programs, all programs have room in one stack (seccomp(2)), and
-- no id is -1 (setresuid(2)). Only another user than root keeps capabilities for the filters, with an ambient set within the bounding set.
use Rattle.std.specs.Prelude.{◌≡◌, ◌<◌, ◌≤◌, ◌==◌, true, false}
use Rattle.std.specs.List.{All}
use Rattle.exec_settings.specs.call_rules.Sizes.{CanCompile}
use Rattle.exec_settings.specs.cap_sets.Sets.{IsWithin}
use Rattle.kernel_laws.specs.call_table.Table.{Table}
use Rattle.exec_settings.specs.dropin_merge.declared.resolved.Resolved.{Resolved}
use Rattle.exec_settings.specs.AreSettings.{AreSettings}
use Rattle.exec_settings.specs.declared.service.Settings.{Settings}
use Rattle.exec_settings.specs.filter_settings.filter_rules.Costs.{most_room}
use Rattle.kernel_laws.specs.linux_numbers.Limits.{max_insns_per_path, no_id}
use Rattle.exec_settings.specs.site_table.Table.{Site, IsSite}

pub record CanBeLaunched (settings : Settings) : Type 0 where
  pub can_be_compiled : All (λ one. CanCompile one.rules) settings.filters.items
  pub fit_into_a_stack : most_room settings.filters.items ≤ max_insns_per_path
  pub uid : settings.uid < no_id
  pub gid : settings.gid < no_id
  pub keeps_for_a_user : settings.keeps_capabilities ≡ true → (settings.uid == 0) ≡ false
  pub keeps_the_ambient : settings.keeps_capabilities ≡ true → IsWithin settings.ambient settings.bounding

-- each answer of `settings` can be launched
abbrev pub SettingsCanBeLaunched : Type 0
SettingsCanBeLaunched = (unit : Resolved) (table : Table) (site : Site) (made : Settings) → IsSite site → AreSettings unit table site made
    → CanBeLaunched made
