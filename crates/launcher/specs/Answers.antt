-- The meaning of a launch's answer.
use Rattle.std.specs.Prelude.{◌≡◌, ⊤, ℕ, List, [], ◌∷◌, map, length, Result, Ok, Err}
use Rattle.kernel_laws.specs.bpf_code.declared.machine.Insn.{Insn}
use Rattle.kernel_laws.specs.bpf_code.Reading.{IsProgram, bytes_of}
use Rattle.kernel_laws.specs.call_table.Table as calls
use Rattle.exec_settings.specs.filter_settings.declared.filter_rules.installed.Filter.{Filter}
use Rattle.exec_settings.specs.declared.service.Settings.{Settings}
use Rattle.kernel_laws.specs.kern_mounts.Split.{Table}
use Rattle.seccomp_compile.specs.Compiled.{DecidesWithin, longest_path}
use Rattle.seccomp_compile.specs.ShortCases.{HaveShortCases}
use Rattle.exec_settings.specs.site_table.Table.{Site}
use Rattle.launcher.specs.declared.error.LaunchError.{LaunchError}
use Rattle.launcher.specs.declared.error.LaunchError.TheVariants as error
use Rattle.launcher.specs.declared.filters.FilterProgram.{FilterProgram}
use Rattle.launcher.specs.declared.launched.Launched.{Launched as Service}
use Rattle.launcher.specs.Launch.{Wanted, LaunchOutcome, Launched, StepRefused, StepKilled, PrivilegedProgram, launch, launch_steps}
use Rattle.launcher.specs.Launches.{AreRead, Leaves}
use Rattle.launcher.specs.Matching.{AreMatching, IsMatch}

-- what settings ask of a launch, with these bytes of programs
abbrev pub wanted_of : Settings → List (List ℕ) → Wanted
wanted_of settings programs = record {
  program = settings.program;
  uid = settings.uid;
  gid = settings.gid;
  groups = settings.groups;
  bounding = settings.bounding;
  ambient = settings.ambient;
  keeps_capabilities = settings.keeps_capabilities;
  no_new_privs = settings.no_new_privs;
  mdwe = settings.mdwe;
  programs = programs;
}

-- a program of the filter: it has the filter's name and ABI and matches the filter, decides after few instructions if the rules have
-- short cases, and seccomp(2) takes its bytes
pub record IsProgramOf (filter : Filter) (one : FilterProgram) : Type 0 where
  pub named : one.name ≡ filter.name
  pub own_abi : one.abi ≡ filter.abi
  pub matches : IsMatch filter one.program
  pub decides_soon : HaveShortCases filter.rules → DecidesWithin longest_path one.program filter.rules
  pub taken : IsProgram one.program

-- one for each filter, in their order
abbrev pub AreProgramsOf : List Filter → List FilterProgram → Type 0
AreProgramsOf [] [] = Unit {0}
AreProgramsOf (filter ∷ filters) (one ∷ made) = IsProgramOf filter one × AreProgramsOf filters made
AreProgramsOf filters made = ⊥

abbrev pub codes_of : List FilterProgram → List (List Insn)
codes_of filters = map (λ one. one.program) filters

-- the bytes of the programs, as seccomp(2) is given them
abbrev pub given_bytes : List FilterProgram → List (List ℕ)
given_bytes filters = map bytes_of (codes_of filters)

-- a launch of the settings with these bytes of programs
abbrev pub launch_with : calls.Table → Site → Settings → Table → List (List ℕ) → LaunchOutcome
launch_with table site settings plan programs = launch table site (wanted_of settings programs) plan

-- a launch ends in this world after so many steps with the programs that are handed out, one for each filter
pub record LaunchesTo (table : calls.Table) (site : Site) (settings : Settings) (plan : Table) (service : Service) : Type 0 where
  pub program : service.program ≡ settings.program
  pub filters : AreProgramsOf settings.filters.items service.filters
  pub ends : launch_with table site settings plan (given_bytes service.filters) ≡ Launched service.world service.steps

-- some programs match the filters, and with all that do a launch ends so
pub record EndsWithAll (table : calls.Table) (site : Site) (settings : Settings) (plan : Table) (outcome : LaunchOutcome) : Type 0 where
  pub codes : List (List Insn)
  pub matching : AreMatching settings.filters.items codes
  pub read : AreRead (map bytes_of codes) codes
  pub each : (programs : List (List ℕ)) (stack : List (List Insn)) → AreRead programs stack → AreMatching settings.filters.items stack
      → launch_with table site settings plan programs ≡ outcome

-- the answer says how the launch ends; whether the program is privileged does not depend on any programs of filters
abbrev pub EndsAs : calls.Table → Site → Settings → Table → Result Service LaunchError → Type 0
EndsAs table site settings plan (Ok service) = LaunchesTo table site settings plan service
EndsAs table site settings plan (Err (error.PrivilegedProgram path)) = (programs : List (List ℕ))
    → launch_with table site settings plan programs ≡ PrivilegedProgram path
EndsAs table site settings plan (Err (error.Refused step errno)) = EndsWithAll table site settings plan (StepRefused step errno)
EndsAs table site settings plan (Err (error.Killed step)) = EndsWithAll table site settings plan (StepKilled step)
EndsAs table site settings plan (Err error.Memory) = ⊤

-- what a launched service is: process 1 lives alone in its namespace, whose table is the plan, and has these programs
-- in their order; every step was made
pub record LeavesService (table : calls.Table) (site : Site) (settings : Settings) (plan : Table) (service : Service) : Type 0 where
  pub leaves : Leaves table site (wanted_of settings (given_bytes service.filters)) plan service.world
  pub programs : leaves.stack ≡ codes_of service.filters
  pub every_step : service.steps ≡ length (launch_steps table.calls (wanted_of settings (given_bytes service.filters)) plan)
