-- What every mount table satisfies, the table that a namespace starts with, and when a table is full.
use Rattle.std.specs.Prelude.{◌≡◌, ◌≤◌, ℕ, false, List, [], ◌∷◌, length, map, take, Result, Ok, Err, ⊤}
use Rattle.abs_path.specs.Paths.{Path}
use Rattle.linux_numbers.specs.Errnos.{enospc}
use Rattle.linux_numbers.specs.Limits.{mount_max}
use Rattle.kern_mounts.specs.declared.step.Flags.{Flags}
use Rattle.kern_mounts.specs.declared.step.What.TheVariants.{Host}
use Rattle.kern_mounts.specs.declared.step.MountStep.{MountStep}
use Rattle.kern_mounts.specs.declared.error.MountError.{MountError}
use Rattle.kern_mounts.specs.declared.error.MountError.TheVariants.{Errno, Memory}

-- no flags: files can be written and executed, and set-user-id programs have their effect, mount(2)
abbrev pub no_flags : Flags
no_flags = record { read_only = false; no_exec = false; no_suid = false }

-- the host itself, the table of the first mount namespace (mount_namespaces(7))
abbrev pub start : List MountStep
start = record { place = []; what = Host []; flags = no_flags } ∷ []

-- the first entry is at the root, which leads to every path
abbrev pub StartsAtRoot : List MountStep → Type 0
StartsAtRoot [] = ⊥
StartsAtRoot (step ∷ steps) = step.place ≡ []

-- what every table satisfies
pub record IsTable (table : List MountStep) : Type 0 where
  pub root : StartsAtRoot table
  pub few : length table ≤ mount_max

-- if a call is refused, the table is full, mount(2), or memory ran out
abbrev pub IsFullOrMemory : Result (Unit {0}) MountError → Type 0
IsFullOrMemory (Ok done) = ⊤
IsFullOrMemory (Err (Errno errno)) = errno ≡ enospc
IsFullOrMemory (Err Memory) = ⊤

-- the places of entries
abbrev pub places_of : List MountStep → List Path
places_of steps = map (λ step. step.place) steps

-- these are the entries' places
abbrev pub HasPlaces : List MountStep → List Path → Type 0
HasPlaces table places = places ≡ places_of table

-- these are the places of the first `count` entries
pub record Knows (count : ℕ) (table : List MountStep) (places : List Path) : Type 0 where
  pub in_range : count ≤ length table
  pub first : HasPlaces (take count table) places
