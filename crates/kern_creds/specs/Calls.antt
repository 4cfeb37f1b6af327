-- All calls that change credentials, as one type, for laws of every call.
use Rattle.std.specs.Prelude.{ℕ, Bool, List, Result, Ok}
use Rattle.kern_creds.specs.Setuid.{after_setuid, after_setgid}
use Rattle.kern_creds.specs.Setresuid.{after_setresuid, after_setresgid}
use Rattle.kern_creds.specs.Setgroups.{after_setgroups}
use Rattle.kern_creds.specs.Capset.{after_capset}
use Rattle.kern_creds.specs.Prctl.{after_drop_bounding, after_raise, after_lower, after_clear_ambient, after_set_keepcaps}
use Rattle.kern_creds.specs.Prctl.{after_set_no_new_privs, after_set_mdwe}
use Rattle.kern_creds.specs.Ring.{after_set_up_ring}
use Rattle.kern_creds.specs.Exec.{after_exec}
use Rattle.kern_creds.specs.declared.file.FileCreds.{FileCreds}
use Rattle.kern_creds.specs.declared.creds.Creds.{Creds}

pub data Call : Type 0 where
  Setuid : ℕ → Call
  Setgid : ℕ → Call
  Setresuid : ℕ → ℕ → ℕ → Call
  Setresgid : ℕ → ℕ → ℕ → Call
  Setgroups : List ℕ → Call
  Capset : ℕ → ℕ → ℕ → Call
  DropBounding : ℕ → Call
  Raise : ℕ → Call
  Lower : ℕ → Call
  ClearAmbient : Call
  SetKeepcaps : Bool → Call
  SetNoNewPrivs : Call
  SetMdwe : Call
  SetUpRing : Call
  Exec : FileCreds → Bool → Call

-- the result of a call
abbrev pub after : Creds → Call → Result Creds ℕ
after creds (Setuid id) = after_setuid creds id
after creds (Setgid id) = after_setgid creds id
after creds (Setresuid real effective saved) = after_setresuid creds real effective saved
after creds (Setresgid real effective saved) = after_setresgid creds real effective saved
after creds (Setgroups ids) = after_setgroups creds ids
after creds (Capset permitted effective inheritable) = after_capset creds permitted effective inheritable
after creds (DropBounding cap) = after_drop_bounding creds cap
after creds (Raise cap) = after_raise creds cap
after creds (Lower cap) = after_lower creds cap
after creds ClearAmbient = Ok (after_clear_ambient creds)
after creds (SetKeepcaps on) = Ok (after_set_keepcaps creds on)
after creds SetNoNewPrivs = Ok (after_set_no_new_privs creds)
after creds SetMdwe = Ok (after_set_mdwe creds)
after creds SetUpRing = Ok (after_set_up_ring creds)
after creds (Exec file nosuid) = after_exec creds file nosuid
