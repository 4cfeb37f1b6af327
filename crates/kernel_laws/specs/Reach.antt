-- Which entry of a mount table leads to a row of the host, by how far the table can be changed.
use Rattle.std.specs.Prelude.{◌≡◌, ℕ, ◌+◌, Bool, true, false, [], ◌∷◌, ◌++◌, Option, Some, None, if◌then◌else◌, not, ◌&&◌, ◌||◌, is_some}
use Rattle.std.specs.List.{list_any}
use Rattle.kernel_model.specs.abs_path.Paths.{Path}
use Rattle.kernel_model.specs.abs_path.Prefix.{is_prefix, rest_of}
use Rattle.kernel_model.specs.kern_mounts.Entry.{leads_to}
use Rattle.kernel_model.specs.kern_mounts.declared.step.Flags.{Flags}
use Rattle.kernel_model.specs.kern_mounts.declared.step.What.{What}
use Rattle.kernel_model.specs.kern_mounts.declared.step.What.TheVariants.{Host, Empty, Hidden}
use Rattle.kernel_model.specs.kern_mounts.declared.step.MountStep.{MountStep}
use Rattle.kernel_model.specs.kern_mounts.Split.{Table, Split, split_at}
use Rattle.kernel_model.specs.site_table.declared.kinds.RowKind.{RowKind}
use Rattle.kernel_model.specs.site_table.Kinds.{is_dev}
use Rattle.kernel_laws.specs.declared.question_types.wish.Wish.{Wish}
use Rattle.kernel_laws.specs.declared.question_types.wish.Wish.TheVariants.{See as ToSee, Read as ToRead, Write as ToWrite, Exec as ToExec}
use Rattle.kernel_laws.specs.declared.question_types.power.Power.{Power}
use Rattle.kernel_laws.specs.declared.question_types.power.Power.TheVariants.{None as Nowise, Unmount as Unmounting, Mount as Mounting}

-- what a wish for a row of this kind asks of its mount: to write a device no more than to read it, because a read-only mount keeps no
-- device
abbrev pub mount_wish : RowKind → Wish → Wish
mount_wish kind ToWrite = if is_dev kind then ToRead else ToWrite
mount_wish kind wish = wish

-- what is wished may be done on a mount with these flags, mount(2)
abbrev pub fits : Wish → Flags → Bool
fits ToSee flags = true
fits ToRead flags = true
fits ToWrite flags = not flags.read_only
fits ToExec flags = not flags.no_exec

-- execve(2) can run programs, and looks at their set-id bits and capabilities, mount(2), MS_NOSUID
abbrev pub runs_marked : Flags → Bool
runs_marked flags = not flags.no_exec && not flags.no_suid

-- execve(2) can run programs, and does not look at these
abbrev pub runs_unmarked : Flags → Bool
runs_unmarked flags = not flags.no_exec && flags.no_suid

-- a path of this very table finds the row, on a mount whose flags pass the test
pub record LeadsWith (table : Table) (row : Path) (test : Flags → Bool) : Type 0 where
  pub path : Path
  pub split : Split
  pub belongs : split_at path table ≡ Some split
  pub source : Path
  pub host : split.entry.what ≡ Host source
  pub rest : Path
  pub path_is : path ≡ split.entry.place ++ rest
  pub row_is : row ≡ source ++ rest
  pub flags : test split.entry.flags ≡ true

-- with the flags that the wish needs
abbrev pub Leads : Table → Path → Wish → Type 0
Leads table row wish = LeadsWith table row (fits wish)

-- the entry shows the row at a path that no later entry covers, or that can be uncovered
abbrev pub shows_row : Bool → MountStep → Table → Path → What → Bool
shows_row uncover entry later row (Host source) = is_prefix source row &&
    (uncover || not (list_any (leads_to (entry.place ++ rest_of source row)) later))
shows_row uncover entry later row Empty = false
shows_row uncover entry later row (Hidden directory) = false

-- and its flags pass the test
abbrev pub serves_with : Bool → Path → (Flags → Bool) → MountStep → Table → Bool
serves_with uncover row test entry later = test entry.flags && shows_row uncover entry later row entry.what

-- the place of the first entry that serves, counted from a number
abbrev pub first_with : Bool → Path → (Flags → Bool) → Table → ℕ → Option ℕ
first_with uncover row test [] at = None
first_with uncover row test (entry ∷ later) at = if serves_with uncover row test entry later then Some at else first_with uncover row test
    later (at + 1)

-- the place of the entry that leads to the row; with mount every row can be shown with any flags, so the first entry's
abbrev pub reach_with : Power → Table → Path → (Flags → Bool) → Option ℕ
reach_with Nowise table row test = first_with false row test table 0
reach_with Unmounting table row test = first_with true row test table 0
reach_with Mounting table row test = Some 0

-- some entry leads to the row
abbrev pub reaches_with : Power → Table → Path → (Flags → Bool) → Bool
reaches_with power table row test = is_some (reach_with power table row test)

-- the same for flags that allow what is wished
abbrev pub serves : Bool → Path → Wish → MountStep → Table → Bool
serves uncover row wish entry later = serves_with uncover row (fits wish) entry later

abbrev pub reach_from : Bool → Path → Wish → Table → ℕ → Option ℕ
reach_from uncover row wish table at = first_with uncover row (fits wish) table at

abbrev pub reach : Power → Table → Path → Wish → Option ℕ
reach power table row wish = reach_with power table row (fits wish)

abbrev pub reaches : Power → Table → Path → Wish → Bool
reaches power table row wish = reaches_with power table row (fits wish)
