-- The tests that settings decide. Each line has an identifier, or the front of several identifiers, and the setting that the
-- test looks at.
use Rattle.std.specs.Prelude.{ℕ, List, [], ◌∷◌, codes}
use Rattle.exposure_score.specs.declared.service_facts.lines.Protection.TheVariants.{PrivateDevices, PrivateTmp, ProtectClock}
use Rattle.exposure_score.specs.declared.service_facts.lines.Protection.TheVariants.{ProtectControlGroups, ProtectHostname}
use Rattle.exposure_score.specs.declared.service_facts.lines.Protection.TheVariants.{ProtectKernelLogs, ProtectKernelModules}
use Rattle.exposure_score.specs.declared.service_facts.lines.Protection.TheVariants.{ProtectKernelTunables, LockPersonality}
use Rattle.exposure_score.specs.declared.service_facts.lines.Protection.TheVariants.{MemoryDenyWriteExecute, RestrictRealtime}
use Rattle.exposure_score.specs.declared.service_facts.lines.Protection.TheVariants.{RestrictSuidSgid}
use Rattle.exposure_score.specs.declared.service_facts.lines.Matter.{Matter}
use Rattle.exposure_score.specs.declared.service_facts.lines.Matter.TheVariants.{RunsAsRoot, NamesGroups, GainsPrivileges, HasAmbient}
use Rattle.exposure_score.specs.declared.service_facts.lines.Matter.TheVariants.{Lacks, WritesSystem, SeesHomes, EachCapability}
use Rattle.exposure_score.specs.declared.service_facts.lines.Matter.TheVariants.{EachNamespaceType, EachFamily, InternetFamilies, EachGroup}

abbrev pub Line : Type 0
Line = List ℕ × Matter

abbrev pub lines : List Line
lines =
    (codes "AmbientCapabilities", HasAmbient) ∷
    (codes "CapabilityBoundingSet_", EachCapability) ∷
    (codes "LockPersonality", Lacks LockPersonality) ∷
    (codes "MemoryDenyWriteExecute", Lacks MemoryDenyWriteExecute) ∷
    (codes "NoNewPrivileges", GainsPrivileges) ∷
    (codes "PrivateDevices", Lacks PrivateDevices) ∷
    (codes "PrivateTmp", Lacks PrivateTmp) ∷
    (codes "ProtectClock", Lacks ProtectClock) ∷
    (codes "ProtectControlGroups", Lacks ProtectControlGroups) ∷
    (codes "ProtectHome", SeesHomes) ∷
    (codes "ProtectHostname", Lacks ProtectHostname) ∷
    (codes "ProtectKernelLogs", Lacks ProtectKernelLogs) ∷
    (codes "ProtectKernelModules", Lacks ProtectKernelModules) ∷
    (codes "ProtectKernelTunables", Lacks ProtectKernelTunables) ∷
    (codes "ProtectSystem", WritesSystem) ∷
    (codes "RestrictAddressFamilies_", EachFamily) ∷
    (codes "RestrictAddressFamilies_AF_INET_INET6", InternetFamilies) ∷
    (codes "RestrictNamespaces_", EachNamespaceType) ∷
    (codes "RestrictRealtime", Lacks RestrictRealtime) ∷
    (codes "RestrictSUIDSGID", Lacks RestrictSuidSgid) ∷
    (codes "SupplementaryGroups", NamesGroups) ∷
    (codes "SystemCallFilter_", EachGroup) ∷
    (codes "UserOrDynamicUser", RunsAsRoot) ∷ []
