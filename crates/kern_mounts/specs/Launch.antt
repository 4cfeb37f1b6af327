-- The tables of mounts that a launch can make, and how it makes one: each step adds an entry at a new place, and none is
-- refused (mount(2), mount_namespaces(7)).
use Rattle.std.specs.Prelude.{◌≡◌, ◌≢◌, ◌≤◌, ◌⊎◌, ⊤, Bool, true, false, List, [], ◌∷◌, ◌++◌, length, map, Option, Some}
use Rattle.std.specs.List.{AllByRecursion}
use Rattle.abs_path.specs.Paths.{Path, text_of, is_normal, proc}
use Rattle.abs_path.specs.ByteOrder.{AreAscending}
use Rattle.kern_mounts.specs.declared.step.Flags.{Flags}
use Rattle.kern_mounts.specs.declared.step.What.{What}
use Rattle.kern_mounts.specs.declared.step.What.TheVariants.{Host, Empty, Hidden}
use Rattle.kern_mounts.specs.declared.step.MountStep.{MountStep}
use Rattle.kern_mounts.specs.Table.{start, no_flags}
use Rattle.kern_mounts.specs.Entry.{entry_of}
use Rattle.kern_mounts.specs.Finds.{Found, row, empty_directory, nothing, finds}

-- the first entry is the root on the host
abbrev pub BeginsAtRoot : List MountStep → Type 0
BeginsAtRoot [] = ⊥
BeginsAtRoot (step ∷ steps) = (step.place ≡ []) × (step.what ≡ Host [])

-- a place is a normal path of at most 250 bytes
pub record HasShortPlace (step : MountStep) : Type 0 where
  pub normal : is_normal step.place ≡ true
  pub short : length (text_of step.place) ≤ 250

-- the fact holds if the entry is hidden
abbrev pub OnHidden : What → Type 0 → Type 0
OnHidden (Host source) Fact = ⊤
OnHidden Empty Fact = ⊤
OnHidden (Hidden is_dir) Fact = Fact

-- a hidden entry has no flags
abbrev pub IsPlainIfHidden : MountStep → Type 0
IsPlainIfHidden step = OnHidden step.what (step.flags ≡ no_flags)

-- set-user-id programs keep their effect on this mount, mount(2), MS_NOSUID
abbrev pub IsNotNoSuid : MountStep → Type 0
IsNotNoSuid step = step.flags.no_suid ≡ false

-- the lookup finds a directory
abbrev pub IsDirectory : Found Bool → Type 0
IsDirectory (row is_dir) = is_dir ≡ true
IsDirectory empty_directory = ⊤
IsDirectory (nothing errno) = ⊥

-- the path is the place of its entry, which is a hidden directory
abbrev pub IsHiddenDirectory : List MountStep → Path → Type 0
IsHiddenDirectory table path = (step : MountStep) × (entry_of table path ≡ Some step) × (step.place ≡ path) × (step.what ≡ Hidden true)

-- /proc is found as a directory, or is the place of a hidden one; `rows` says whether a row of the site is a directory
abbrev pub FindsProc : (Path → Option Bool) → List MountStep → Type 0
FindsProc rows table = IsDirectory (finds rows table proc) ⊎ IsHiddenDirectory table proc

-- a table that a launch can mount. The first entry shows the host's root. The places are short, in ascending byte order, and
-- all different. Besides the root there are at most 192 entries. A hidden entry has no flags. /proc is found as a directory, or
-- is the place of a hidden directory
pub record CanBeMounted (rows : Path → Option Bool) (table : List MountStep) : Type 0 where
  pub begins_at_root : BeginsAtRoot table
  pub places_are_short : AllByRecursion HasShortPlace table
  pub places_ascend : AreAscending (map (λ step. step.place) table)
  pub few : length table ≤ 193
  pub hidden_without_flags : AllByRecursion IsPlainIfHidden table
  pub finds_proc : FindsProc rows table

-- the host itself, with these flags at its root
abbrev pub start_with : Flags → List MountStep
start_with flags = record { place = []; what = Host []; flags = flags } ∷ []

-- the table that a launch makes from a planned one. It starts with the host itself, gives that entry the flags of the first
-- step, and adds each other step after it
abbrev pub mounted : List MountStep → List MountStep
mounted [] = start
mounted (first ∷ steps) = start_with first.flags ++ steps

-- no path occurs twice
abbrev pub NoneTwice : List Path → Type 0
NoneTwice [] = Unit {0}
NoneTwice (path ∷ paths) = AllByRecursion (λ other. path ≢ other) paths × NoneTwice paths
