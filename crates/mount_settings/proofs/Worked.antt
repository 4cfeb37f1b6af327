-- Examples of the paths that each protection changes.
use Rattle.std.proofs.Common.{◌≡◌, ℕ, true, false, List, [], ◌∷◌, refl, map, codes}
use Rattle.path_settings.specs.abs_path.Paths.{Path}
use Rattle.path_settings.specs.declared.mentions.Kind.{Kind}
use Rattle.path_settings.specs.declared.mentions.Kind.TheVariants.{Ro, Rw, NoExec, Hide, Tmp, Bind}
use Rattle.path_settings.specs.declared.mentions.Mention.{Mention}
use Rattle.mount_settings.specs.declared.protections.SystemProtection.TheVariants.{Yes, Full, Strict}
use Rattle.mount_settings.specs.declared.protections.HomeProtection.TheVariants.{Yes as HomeYes, ReadOnly as HomeReadOnly, Tmpfs}
use Rattle.mount_settings.specs.Table.{by_system, by_home, by_tmp, by_devices, by_tunables, by_modules, by_logs, by_control_groups}

abbrev said : List Mention → List (Path × Kind)
said mentions = map (λ mention. (mention.path, mention.kind)) mentions

system_yes : said (by_system Yes) ≡ (codes "usr" ∷ [], Ro) ∷ (codes "boot" ∷ [], Ro) ∷ (codes "efi" ∷ [], Ro) ∷ []
system_yes = refl

system_full : said (by_system Full) ≡ (codes "usr" ∷ [], Ro) ∷ (codes "boot" ∷ [], Ro) ∷ (codes "efi" ∷ [], Ro) ∷
    (codes "etc" ∷ [], Ro) ∷ []
system_full = refl

-- the root is read-only, and the kernel's file systems are not
system_strict : said (by_system Strict) ≡ ([], Ro) ∷ (codes "dev" ∷ [], Rw) ∷ (codes "proc" ∷ [], Rw) ∷ (codes "sys" ∷ [], Rw) ∷ []
system_strict = refl

home_yes : said (by_home HomeYes) ≡ (codes "home" ∷ [], Hide) ∷ (codes "root" ∷ [], Hide) ∷ (codes "run" ∷ codes "user" ∷ [], Hide) ∷ []
home_yes = refl

home_read_only : said (by_home HomeReadOnly) ≡ (codes "home" ∷ [], Ro) ∷ (codes "root" ∷ [], Ro) ∷
    (codes "run" ∷ codes "user" ∷ [], Ro) ∷ []
home_read_only = refl

home_tmpfs : said (by_home Tmpfs) ≡ (codes "home" ∷ [], Tmp true false false) ∷ (codes "root" ∷ [], Tmp true false false) ∷
    (codes "run" ∷ codes "user" ∷ [], Tmp true false false) ∷ []
home_tmpfs = refl

private_tmp : said (by_tmp true) ≡ (codes "tmp" ∷ [], Tmp false false false) ∷ (codes "var" ∷ codes "tmp" ∷ [], Tmp false false false) ∷ []
private_tmp = refl

abbrev device : List ℕ → Path × Kind
device name = (codes "dev" ∷ name ∷ [], Bind (codes "dev" ∷ name ∷ []) false true)

private_devices :
    said (by_devices true)
    ≡ (codes "dev" ∷ [], Tmp true false false) ∷ (codes "dev" ∷ [], NoExec) ∷ device (codes "null") ∷ device (codes "zero") ∷ device
    (codes "full") ∷ device (codes "random")
    ∷ device (codes "urandom") ∷ device (codes "tty") ∷ []
private_devices = refl

abbrev below_proc : List ℕ → Kind → Path × Kind
below_proc name kind = (codes "proc" ∷ name ∷ [], kind)

protect_kernel_tunables :
    said (by_tunables true)
    ≡ below_proc (codes "sys") Ro ∷ (codes "sys" ∷ [], Ro) ∷ below_proc (codes "sysrq-trigger") Ro ∷ below_proc
    (codes "latency_stats") Ro ∷ below_proc (codes "acpi") Ro
    ∷ below_proc (codes "timer_stats") Ro ∷ below_proc (codes "fs") Ro ∷ below_proc (codes "irq") Ro ∷ below_proc
    (codes "kallsyms") Hide ∷ below_proc (codes "kcore") Hide ∷ []
protect_kernel_tunables = refl

protect_kernel_modules : said (by_modules true) ≡ (codes "usr" ∷ codes "lib" ∷ codes "modules" ∷ [], Hide) ∷ []
protect_kernel_modules = refl

protect_kernel_logs : said (by_logs true) ≡ below_proc (codes "kmsg") Hide ∷ (codes "dev" ∷ codes "kmsg" ∷ [], Hide) ∷ []
protect_kernel_logs = refl

protect_control_groups : said (by_control_groups true) ≡ (codes "sys" ∷ codes "fs" ∷ codes "cgroup" ∷ [], Ro) ∷ []
protect_control_groups = refl
