-- The number of mentions.
use Rattle.std.proofs.Common.{◌≡◌, ℕ, suc, ◌+◌, ◌≤◌, Bool, true, false, cond, List, [], ◌∷◌, ◌++◌, length, lit≤, arith, length-append}
use Rattle.std.specs.Prelude.{filter}
use Rattle.path_settings.specs.declared.keys.PathKey.{PathKey}
use Rattle.path_settings.specs.declared.keys.PathKey.TheVariants.{ReadWritePaths, ReadOnlyPaths, InaccessiblePaths, ExecPaths, NoExecPaths}
use Rattle.path_settings.specs.declared.keys.PathKey.TheVariants.{BindPaths, BindReadOnlyPaths, TemporaryFileSystem, StateDirectory}
use Rattle.path_settings.specs.declared.keys.PathKey.TheVariants.{RuntimeDirectory, CacheDirectory, LogsDirectory, ConfigurationDirectory}
use Rattle.path_settings.specs.declared.mentions.Mention.{Mention}
use Rattle.site_table.specs.Table.{Site}
use Rattle.mount_settings.specs.declared.written.WrittenPath.{WrittenPath}
use Rattle.mount_settings.specs.declared.protections.SystemProtection.{SystemProtection}
use Rattle.mount_settings.specs.declared.protections.SystemProtection.TheVariants.{No, Yes, Full, Strict}
use Rattle.mount_settings.specs.declared.protections.HomeProtection.{HomeProtection}
use Rattle.mount_settings.specs.declared.protections.HomeProtection.TheVariants.{No as HomeNo, Yes as HomeYes, ReadOnly as HomeReadOnly}
use Rattle.mount_settings.specs.declared.protections.HomeProtection.TheVariants.{Tmpfs}
use Rattle.mount_settings.specs.declared.protections.Protections.{Protections}
use Rattle.mount_settings.specs.declared.protections.Switches.{Switches}
use Rattle.mount_settings.specs.Written.{of_key}
use Rattle.mount_settings.specs.Effects.{stands}
use Rattle.mount_settings.specs.Table.{by_system, by_home, by_tmp, by_devices, by_tunables, by_modules, by_logs, by_control_groups}
use Rattle.mount_settings.specs.Implied.{joined, by_files, by_kernel, by_folders, asked, implied}
use Rattle.mount_settings.specs.Settings.{as_written, mentions_of}

system_few : (system : SystemProtection) → length (by_system system) ≤ 4
system_few No = lit≤ tt
system_few Yes = lit≤ tt
system_few Full = lit≤ tt
system_few Strict = lit≤ tt

home_few : (home : HomeProtection) → length (by_home home) ≤ 3
home_few HomeNo = lit≤ tt
home_few HomeYes = lit≤ tt
home_few HomeReadOnly = lit≤ tt
home_few Tmpfs = lit≤ tt

tmp_few : (on : Bool) → length (by_tmp on) ≤ 2
tmp_few false = lit≤ tt
tmp_few true = lit≤ tt

devices_few : (on : Bool) → length (by_devices on) ≤ 8
devices_few false = lit≤ tt
devices_few true = lit≤ tt

tunables_few : (on : Bool) → length (by_tunables on) ≤ 10
tunables_few false = lit≤ tt
tunables_few true = lit≤ tt

modules_few : (on : Bool) → length (by_modules on) ≤ 1
modules_few false = lit≤ tt
modules_few true = lit≤ tt

logs_few : (on : Bool) → length (by_logs on) ≤ 2
logs_few false = lit≤ tt
logs_few true = lit≤ tt

control_groups_few : (on : Bool) → length (by_control_groups on) ≤ 1
control_groups_few false = lit≤ tt
control_groups_few true = lit≤ tt

four : (q r s t : List Mention) → length (joined (q ∷ r ∷ s ∷ t ∷ [])) ≡ length q + (length r + (length s + length t))
four q r s t = omega (arith, length-append q (r ++ (s ++ (t ++ []))), length-append r (s ++ (t ++ [])), length-append s (t ++ []), length-append t [])

pub filter_few : {X : Type 0} (p : X → Bool) (xs : List X) → length (filter p xs) ≤ length xs
filter_few p [] = lit≤ tt
filter_few p (x ∷ xs) =
    let h = filter_few p xs in
    elim (p x) as (λ v. length (cond v (x ∷ filter p xs) (filter p xs)) ≤ length (x ∷ xs))
    [ true ↦ omega (arith, h) | false ↦ omega (arith, h) ]

abbrev parts : List WrittenPath → ℕ
parts paths = length (as_written paths) +
    (length (of_key StateDirectory paths) +
    (length (of_key RuntimeDirectory paths) + (length (of_key CacheDirectory paths) + length (of_key LogsDirectory paths))))

one_part : (key : PathKey) (mention : Mention) (paths : List WrittenPath) → parts paths ≤ length paths
    → parts (record { key = key; mention = mention } ∷ paths) ≤ suc (length paths)
one_part ReadWritePaths mention paths h = omega (arith, h)
one_part ReadOnlyPaths mention paths h = omega (arith, h)
one_part InaccessiblePaths mention paths h = omega (arith, h)
one_part ExecPaths mention paths h = omega (arith, h)
one_part NoExecPaths mention paths h = omega (arith, h)
one_part BindPaths mention paths h = omega (arith, h)
one_part BindReadOnlyPaths mention paths h = omega (arith, h)
one_part TemporaryFileSystem mention paths h = omega (arith, h)
one_part StateDirectory mention paths h = omega (arith, h)
one_part RuntimeDirectory mention paths h = omega (arith, h)
one_part CacheDirectory mention paths h = omega (arith, h)
one_part LogsDirectory mention paths h = omega (arith, h)
one_part ConfigurationDirectory mention paths h = omega (arith, h)

-- each path is a written one or a folder of one of four keys; the base profile has no fifth folder key
all_parts : (paths : List WrittenPath) → parts paths ≤ length paths
all_parts [] = lit≤ tt
all_parts (path ∷ paths) = one_part path.key path.mention paths (all_parts paths)

asked_few : (switches : Switches) (protections : Protections) (paths : List WrittenPath)
    → length (as_written paths) + length (asked switches protections paths) ≤ length paths + 31
asked_few switches protections paths =
    let files = four (by_system protections.protect_system) (by_home protections.protect_home) (by_tmp protections.private_tmp) (by_devices switches.private_devices) in
    let kernel = four (by_tunables protections.protect_kernel_tunables) (by_modules switches.protect_kernel_modules) (by_logs switches.protect_kernel_logs) (by_control_groups protections.protect_control_groups) in
    let folders = four (of_key StateDirectory paths) (of_key RuntimeDirectory paths) (of_key CacheDirectory paths) (of_key LogsDirectory paths) in
    let both = length-append (joined (by_files switches protections)) (joined (by_kernel switches protections) ++ joined (by_folders paths)) in
    let rest = length-append (joined (by_kernel switches protections)) (joined (by_folders paths)) in
    omega (arith, files, kernel, folders, both, rest, all_parts paths, system_few protections.protect_system, home_few protections.protect_home, tmp_few protections.private_tmp, devices_few switches.private_devices, tunables_few protections.protect_kernel_tunables, modules_few switches.protect_kernel_modules, logs_few switches.protect_kernel_logs, control_groups_few protections.protect_control_groups)

-- there are at most 31 mentions more than written paths
pub counted : (site : Site) (switches : Switches) (protections : Protections) (paths : List WrittenPath)
    → length (mentions_of site switches protections paths) ≤ length paths + 31
unfolding mentions_of implied
counted site switches protections paths =
    omega (arith, length-append (as_written paths) (filter (stands site) (asked switches protections paths)), filter_few (stands site) (asked switches protections paths), asked_few switches protections paths)
