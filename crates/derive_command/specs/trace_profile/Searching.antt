-- A search for the least list.
use Rattle.std.specs.Prelude.{◌≡◌, ◌⊎◌, ℕ, ◌≤◌, IsTrue, false, List, None, length}
use Rattle.std.specs.List.{All}
use Rattle.asked_service.specs.call_table.Table.{Table}
use Rattle.asked_service.specs.dropin_merge.declared.resolved.Resolved.{Resolved}
use Rattle.asked_service.specs.launching.Launched.{IsLaunchedUnit}
use Rattle.asked_service.specs.launcher.declared.launched.Launched.{Launched as Service}
use Rattle.asked_service.specs.unit_names.Versions.{is_257}
use Rattle.derive_command.specs.trace_profile.Derived.{Fails, Serves, Tried, tried_with}
use Rattle.derive_command.specs.trace_profile.Extended.{extended}
use Rattle.derive_command.specs.trace_profile.Foretelling.{fates}
use Rattle.derive_command.specs.trace_profile.Names.{AreNames, without}
use Rattle.derive_command.specs.trace_profile.PlainNames.{HasPlainNames}
use Rattle.derive_command.specs.trace_profile.Scripts.{first_seccomp}
use Rattle.derive_command.specs.declared.trace_profile.fates.Fate.{Fate}
use Rattle.derive_command.specs.declared.trace_profile.searching.Trial.{Trial}

-- what a trial tries
abbrev pub tried_of : Trial → Tried
tried_of trial = tried_with trial.unit.now trial.calls.now trial.site.now trial.script.now trial.said.now

-- some names serve, and their service does this to the calls
pub record IsHeardOf (tried : Tried) (names : List ℕ) (done : List Fate) : Type 0 where
  pub serves : Serves tried names
  pub of_its_service : done ≡ fates serves.service.world tried.script

-- lists of names change nothing but the programs of a launch: they are plain, and systemd keeps no capabilities for its filters
pub record DifferInPrograms (unit : Resolved) (table : Table) : Type 0 where
  pub plain : HasPlainNames table
  pub keeps_none : is_257 unit.systemd ≡ false

-- the replies and the fates of a trial are those of one service that some names launch. Its script asks to push no program
pub record IsHeard (trial : Trial) : Type 0 where
  pub names : List ℕ
  pub are_names : AreNames trial.calls.now names
  pub heard : IsHeardOf (tried_of trial) names trial.fates.now
  pub one_each : length trial.said.now ≡ length trial.script.now
  pub a_fate_each : length trial.fates.now ≡ length trial.script.now
  pub pushes_none : first_seccomp trial.calls.now trial.script.now ≡ None
  pub alike : IsTrue trial.is_foretold → DifferInPrograms trial.unit.now trial.calls.now

-- the service that some names launch
pub record LaunchedBy (tried : Tried) (service : Service) : Type 0 where
  pub names : List ℕ
  pub are_names : AreNames tried.table names
  pub launched : IsLaunchedUnit (extended tried.unit tried.table names) tried.table tried.site service

-- names that serve
pub record AreServing (tried : Tried) (names : List ℕ) : Type 0 where
  pub are_names : AreNames tried.table names
  pub serves : Serves tried names

-- a name is left out for good where the others serve, and else the names stay
abbrev pub LeavesOut : Tried → List ℕ → ℕ → List ℕ → Type 0
LeavesOut tried names name left = ((left ≡ without name names) × Serves tried left) ⊎ ((left ≡ names) × Fails tried (without name names))

-- what is kept of some names, of which those that were seen were left out in turn: they serve, and where none is left out for
-- good, each that was seen is needed
pub record AreKept (tried : Tried) (names seen kept : List ℕ) : Type 0 where
  pub serving : AreServing tried kept
  pub no_more : length kept ≤ length names
  pub same : length kept ≡ length names → kept ≡ names
  pub needed : length kept ≡ length names → All (λ name. Fails tried (without name names)) seen
