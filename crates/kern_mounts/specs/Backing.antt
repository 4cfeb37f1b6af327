-- The mounts of a namespace that belongs to a newer user namespace: none shows anything that the mounts of the first user
-- namespace do not show, nor shows it with fewer flags.
use Rattle.std.specs.Prelude.{◌≡◌, ◌&&◌, ◌||◌, Bool, true, false, [], ◌∷◌, ◌++◌}
use Rattle.std.specs.List.{list_any}
use Rattle.abs_path.specs.Paths.{Path}
use Rattle.kern_mounts.specs.Entry.{leads_to}
use Rattle.kern_mounts.specs.Split.{Table}
use Rattle.kern_mounts.specs.declared.step.Flags.{Flags}
use Rattle.kern_mounts.specs.declared.step.What.TheVariants.{Host}
use Rattle.kern_mounts.specs.declared.step.Mount.{Mount}
use Rattle.kern_mounts.specs.Mounts.{Mounts, leads, stands_below}
use Rattle.kern_mounts.specs.Keeping.{AreAmong}

-- whether a path of the host is shown with these flags or fewer
abbrev pub Shows : Type 0
Shows = Path → Flags → Bool

-- a path that is shown with some flags is shown with more flags, too
abbrev pub Widens : Shows → Type 0
Widens shows = (host : Path) (few more : Flags) → AreAmong few more → shows host few ≡ true → shows host more ≡ true

-- among the next locked mounts, up to the first that is not locked, one leads to the path and is strictly below the place. No
-- call of umount2 removes that mount without the mount at the place
abbrev pub is_covered : Path → Path → Mounts → Bool
is_covered place path [] = false
is_covered place path (mount ∷ later) = mount.locked && ((stands_below place mount && leads path mount) || is_covered place path later)

-- the mount has all the flags that it keeps; and each path of the host that it shows, and that no such mount covers, is shown
-- with the flags that it keeps
pub record IsBacked (shows : Shows) (mount : Mount) (later : Mounts) : Type 0 where
  pub keeps : AreAmong mount.kept mount.step.flags
  pub shown : (source rest : Path) → mount.step.what ≡ Host source → is_covered mount.step.place (mount.step.place ++ rest) later ≡ false
      → shows (source ++ rest) mount.kept ≡ true

-- each mount is backed
abbrev pub AreBacked : Shows → Mounts → Type 0
AreBacked shows [] = Unit {0}
AreBacked shows (mount ∷ later) = IsBacked shows mount later × AreBacked shows later

-- each path of the host that an entry shows and no later entry covers is shown with the entry's flags
abbrev pub AreShown : Shows → Table → Type 0
AreShown shows [] = Unit {0}
AreShown shows (step ∷ later) =
    ((source rest : Path) → step.what ≡ Host source → list_any (leads_to (step.place ++ rest)) later ≡ false
    → shows (source ++ rest) step.flags ≡ true)
    × AreShown shows later
