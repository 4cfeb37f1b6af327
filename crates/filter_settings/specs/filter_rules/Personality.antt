-- systemd.exec(5), LockPersonality=: the execution domain stays as it is.
use Rattle.std.specs.Prelude.{ℕ, ◌==◌, ◌&&◌, ◌||◌, not, Bool, Option, None, Some, List, codes}
use Rattle.std.specs.Str.{bytes_eq}
use Rattle.dropin_merge.specs.unit_names.declared.version.Version.{Version}
use Rattle.call_rules.specs.bpf_code.declared.machine.CallData.{CallData}
use Rattle.filter_settings.specs.declared.filter_rules.personality.Domain.{Domain}
use Rattle.filter_settings.specs.declared.filter_rules.personality.Domain.TheVariants.{Linux, Linux32}
use Rattle.filter_settings.specs.filter_rules.Actions.{meets}

-- PER_LINUX, and 0xffffffff, which returns the domain without a change (personality(2))
abbrev pub keeps_domain : ℕ → Bool
keeps_domain persona = persona == 0 || persona == 0xffff_ffff

-- PER_LINUX and PER_LINUX32 of personality(2)
abbrev pub number_of : Domain → ℕ
number_of Linux = 0
number_of Linux32 = 8

-- with a version of systemd only the domain that Personality= sets may be set, and none may be asked for
abbrev pub permits_domain : Option Version → Domain → ℕ → Bool
permits_domain None domain persona = keeps_domain persona
permits_domain (Some version) domain persona = persona == number_of domain

-- personality(2) with another domain, which is argument 0
abbrev pub refuses_personality : Option Version → Domain → List ℕ → CallData → Bool
refuses_personality systemd domain name input =
    bytes_eq name (codes "personality") && not (meets systemd input 0 (permits_domain systemd domain))
