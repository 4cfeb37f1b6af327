-- The calls that expose a row of the host by name: umount2(2) of each mount that covers a path to it, or two calls of mount(2).
use Rattle.std.specs.Prelude.{◌≡◌, ℕ, true, List, [], ◌∷◌, ◌++◌, map, Some, Ok}
use Rattle.launcher.specs.abs_path.Paths.{Path, proc}
use Rattle.launcher.specs.kern_mounts.Entry.{leads_to}
use Rattle.launcher.specs.kern_mounts.Mounts.{plain}
use Rattle.launcher.specs.kern_mounts.Split.{Table, Split, split_at}
use Rattle.launcher.specs.kern_mounts.Umount.{after_umount}
use Rattle.launcher.specs.kernel_model.kern_files.MountCall.{ms_bind}
use Rattle.launcher.specs.kernel_model.kern_files.UmountCall.{mnt_detach}
use Rattle.launcher.specs.kernel_model.declared.kernel_calls.call.Call.{Call}
use Rattle.launcher.specs.kernel_model.declared.kernel_calls.payload.Payload.TheVariants.{OnePath, TwoPaths}
use Rattle.launcher.specs.kernel_laws.Kinds.{one_word}
use Rattle.kernel_ways.specs.Ways.{CallAt}
use Rattle.launcher.specs.kernel_laws.Questions.{if_so}

-- the places of the entries whose places lead to the path, the last entry's first. Of the entries after one whose place leads to the
-- path, these cover the path (mount_namespaces(7))
abbrev pub covering : Path → Table → List Path
covering path [] = []
covering path (entry ∷ later) = covering path later ++ if_so (leads_to path entry) entry.place

-- calls of umount2(2) with MNT_DETACH at these places make one table from another, without locked mounts, and each succeeds.
-- Each place is the place of the path's entry at that moment: the last whose place leads to the path
pub data Detaches (path : Path) : Table → List Path → Table → Type 0 where
  still : {table : Table} → Detaches path table [] table
  then_one : {table next last : Table} {places : List Path} (split : Split) → split_at path table ≡ Some split
      → after_umount (map plain table) split.entry.place true ≡ Ok (map plain next)
      → Detaches path next places last → Detaches path table (split.entry.place ∷ places) last

-- umount2(2) by process 1 of each place, by its number in the table: the flags are argument 1
abbrev pub umount_call : CallAt → Path → Call
umount_call nr place = record { pid = 1; abi = nr.abi; nr = nr.nr; args = one_word 1 mnt_detach; payload = OnePath place }

abbrev pub umount_calls : CallAt → List Path → List Call
umount_calls nr places = map (umount_call nr) places

-- mount(2) by process 1: the flags are argument 3
abbrev pub mount_call : CallAt → Path → Path → ℕ → Call
mount_call nr source target flags = record { pid = 1; abi = nr.abi; nr = nr.nr; args = one_word 3 flags; payload = TwoPaths source target }

-- `/` is bound at the folder of the processes, and given these flags there
abbrev pub mount_calls : CallAt → ℕ → List Call
mount_calls nr flags = mount_call nr [] proc ms_bind ∷ mount_call nr [] proc flags ∷ []
