-- systemd.exec(5), RestrictSUIDSGID=: attempts to set the set-user-ID or the set-group-ID bit of files are denied (inode(7)).
use Rattle.std.specs.Prelude.{ℕ, ◌&&◌, ◌||◌, if◌then◌else◌, Bool, true, false, Option, Some, None, List, [], ◌∷◌, codes}
use Rattle.std.specs.Option.{option_map_or}
use Rattle.std.specs.Str.{bytes_eq}
use Rattle.dropin_merge.specs.unit_names.declared.version.Version.{Version}
use Rattle.dropin_merge.specs.linux_numbers.Errnos.{eperm, enosys}
use Rattle.call_rules.specs.bpf_code.declared.machine.CallData.{CallData}
use Rattle.call_rules.specs.declared.actions.Action.{Action}
use Rattle.call_rules.specs.declared.actions.Action.TheVariants.{Errno}
use Rattle.filter_settings.specs.filter_rules.Actions.{unless_refused, low, has_bits, is_one_of}

-- S_ISUID and S_ISGID of inode(7)
abbrev pub set_user_id : ℕ
set_user_id = 0x800

abbrev pub set_group_id : ℕ
set_group_id = 0x400

-- O_CREAT of open(2)
abbrev pub o_creat : ℕ
o_creat = 0x40

-- the argument with the mode: of chmod(2), mkdir(2), mknod(2), open(2) and similar calls
abbrev pub mode_argument : List ℕ → Option ℕ
mode_argument name =
    if is_one_of name (codes "chmod" ∷ codes "fchmod" ∷ codes "mkdir" ∷ codes "mknod" ∷ codes "creat" ∷ []) then Some 1
    else if is_one_of name (codes "fchmodat" ∷ codes "mkdirat" ∷ codes "mknodat" ∷ codes "open" ∷ []) then Some 2
    else if bytes_eq name (codes "openat") then Some 3
    else None

-- the argument with the flags that say whether there is a mode
abbrev pub flags_argument : List ℕ → Option ℕ
flags_argument name = if bytes_eq name (codes "open") then Some 1 else if bytes_eq name (codes "openat") then Some 2 else None

-- open(2) uses the mode only if its flags have O_CREAT; other calls always do
abbrev pub has_mode : List ℕ → CallData → Bool
has_mode name input = option_map_or (λ at. has_bits (low input at) o_creat) (flags_argument name) true

abbrev pub sets_id_bit : ℕ → Bool
sets_id_bit mode = has_bits mode set_user_id || has_bits mode set_group_id

-- the call uses a mode with one of the two bits
abbrev pub refuses_mode : List ℕ → CallData → Bool
refuses_mode name input = option_map_or (λ at. has_mode name input && sets_id_bit (low input at)) (mode_argument name) false

-- by the rules of a version of systemd fchmodat2(2) is filtered too: argument 2 is its mode
abbrev pub refuses_later_mode : List ℕ → CallData → Bool
refuses_later_mode name input = bytes_eq name (codes "fchmodat2") && sets_id_bit (low input 2)

-- a version of systemd also answers openat2(2), whose mode is in memory, with ENOSYS
abbrev pub suid_action : Option Version → List ℕ → CallData → Action
suid_action None name input = unless_refused eperm (refuses_mode name input)
suid_action (Some version) name input =
    if bytes_eq name (codes "openat2") then Errno enosys
    else unless_refused eperm (refuses_mode name input || refuses_later_mode name input)
