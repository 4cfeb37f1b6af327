-- What a launch that ends well leaves.
use Rattle.std.specs.Prelude.{◌≡◌, ℕ, ◌<◌, ◌==◌, codes, true, false, List, [], ◌∷◌, length, Some, map}
use Rattle.kernel_laws.specs.bpf_code.declared.machine.Insn.{Insn}
use Rattle.kernel_laws.specs.bpf_code.ProgramOf.{program_of}
use Rattle.kernel_laws.specs.call_table.declared.call_names.rule.CallRule.TheVariants.{Unshare, Setgroups, Setresgid, Prctl, Capset}
use Rattle.kernel_laws.specs.call_table.declared.call_names.rule.CallRule.TheVariants.{Setresuid, Seccomp, Execve}
use Rattle.kernel_laws.specs.call_table.declared.listed.CallLine.{CallLine}
use Rattle.kernel_laws.specs.call_table.Facts.{IsWhole}
use Rattle.kernel_laws.specs.call_table.Table as calls
use Rattle.exec_settings.specs.cap_sets.Sets.{IsWithin, union}
use Rattle.kernel_laws.specs.kern_creds.declared.creds.Creds.{Creds}
use Rattle.kernel_laws.specs.kern_mounts.Mounts.{plain}
use Rattle.kernel_laws.specs.kern_mounts.Launch.{CanBeMounted}
use Rattle.kernel_laws.specs.kern_mounts.Split.{Table}
use Rattle.kernel_laws.specs.kernel_model.declared.kernel_calls.rule.Rule.TheVariants.{Known}
use Rattle.kernel_laws.specs.kernel_model.kernel_calls.Rules.{rule_at}
use Rattle.kernel_laws.specs.Kinds.{no_words}
use Rattle.kernel_laws.specs.Launched.{launch_of, passes}
use Rattle.kernel_laws.specs.kernel_model.MountNamespaces.{owned_by_first}
use Rattle.kernel_laws.specs.kernel_model.World.{World, of_number}
use Rattle.kernel_laws.specs.linux_numbers.Limits.{no_id}
use Rattle.mount_plan.specs.Host.{host_of}
use Rattle.exec_settings.specs.site_table.Table.{Site}
use Rattle.launcher.specs.Launch.{Wanted, Launched, held_if, number_of, launch, launch_steps}

-- the number of the name follows the rule of the name
pub record HasLaunchCalls (lines : List CallLine) : Type 0 where
  pub unshare : rule_at lines (number_of lines (codes "unshare")) ≡ Some (Known Unshare)
  pub setgroups : rule_at lines (number_of lines (codes "setgroups")) ≡ Some (Known Setgroups)
  pub setresgid : rule_at lines (number_of lines (codes "setresgid")) ≡ Some (Known Setresgid)
  pub prctl : rule_at lines (number_of lines (codes "prctl")) ≡ Some (Known Prctl)
  pub capset : rule_at lines (number_of lines (codes "capset")) ≡ Some (Known Capset)
  pub setresuid : rule_at lines (number_of lines (codes "setresuid")) ≡ Some (Known Setresuid)
  pub seccomp : rule_at lines (number_of lines (codes "seccomp")) ≡ Some (Known Seccomp)
  pub execve : rule_at lines (number_of lines (codes "execve")) ≡ Some (Known Execve)

-- each program's code is read from its bytes
abbrev pub AreRead : List (List ℕ) → List (List Insn) → Type 0
AreRead [] [] = Unit {0}
AreRead (bytes ∷ programs) (code ∷ stack) = (program_of bytes ≡ Some code) × AreRead programs stack
AreRead programs stack = ⊥

-- the credentials of the launched program (credentials(7), capabilities(7)). The three uids are one, and so are the three gids. All that
-- is permitted is effective. The ambient set is within the inheritable and the permitted one, and the inheritable one within the bounding
-- one. What is inheritable is effective, but for what the launch kept until the filters were installed. The superuser has all that is not
-- taken from the bounding set
pub record IsLaunchedCreds (kept : ℕ) (creds : Creds) : Type 0 where
  pub real : creds.uids.real ≡ creds.uids.effective
  pub saved : creds.uids.saved ≡ creds.uids.effective
  pub real_gid : creds.gids.real ≡ creds.gids.effective
  pub saved_gid : creds.gids.saved ≡ creds.gids.effective
  pub full : creds.effective ≡ creds.permitted
  pub ambient_inheritable : IsWithin creds.ambient creds.inheritable
  pub ambient_permitted : IsWithin creds.ambient creds.permitted
  pub inheritable_bounding : IsWithin creds.inheritable creds.bounding
  pub inheritable_effective : IsWithin creds.inheritable (union creds.effective kept)
  pub root : creds.uids.effective ≡ 0 → IsWithin creds.bounding creds.effective
  pub no_ring : creds.ring ≡ false

-- what a launch that ends well leaves: one process, which lives alone in its namespace, with the programs in their
-- order and the plan as its table
pub record Leaves (table : calls.Table) (site : Site) (wanted : Wanted) (plan : Table) (last : World) : Type 0 where
  pub creds : Creds
  pub stack : List (List Insn)
  pub namespace : ℕ
  pub is : launch_of last ≡ record { calls = table; site = site; creds = creds; stack = stack; table = plan }
  pub alone : last.processes ≡ record { creds = creds; stack = stack; namespace = namespace; user = 1; alive = true } ∷ []
  pub own : of_number last.namespaces namespace ≡ Some (owned_by_first (map plain plan))
  pub no_users : last.users ≡ 0
  pub as_launched : IsLaunchedCreds (held_if wanted.keeps_capabilities) creds
  -- capset(2) gave up what was kept, so the filters let it pass
  pub capset_passes : wanted.keeps_capabilities ≡ true → passes (launch_of last) 0 (number_of table.calls (codes "capset")) no_words
  pub read : AreRead wanted.programs stack

-- capabilities are kept for the filters of another user than root alone, whose ambient set is within the bounding set
pub record KeepsForUser (wanted : Wanted) : Type 0 where
  pub user : wanted.keeps_capabilities ≡ true → (wanted.uid == 0) ≡ false
  pub ambient : wanted.keeps_capabilities ≡ true → IsWithin wanted.ambient wanted.bounding

-- a launch that ends well makes every step, and leaves this
abbrev pub LaunchLeaves : Type 0
LaunchLeaves = (table : calls.Table) (site : Site) (wanted : Wanted) (plan : Table) (last : World) (steps : ℕ)
    → IsWhole table → CanBeMounted (host_of site) plan → wanted.uid < no_id → KeepsForUser wanted
    → launch table site wanted plan ≡ Launched last steps → Leaves table site wanted plan last ×
    (steps ≡ length (launch_steps table.calls wanted plan))
