-- The laws over one call and over any number of calls.
use Rattle.std.proofs.Common.{◌≡◌, Bool, true, false, refl, ap, Ok}
use Rattle.std.specs.Prelude.{not}
use Rattle.cap_sets.specs.Sets.{union, IsWithin}
use Rattle.cap_sets.proofs.Members.{within_self, within_through, union_within, within_union_left, within_union_right}
use Rattle.kern_creds.specs.declared.file.FileCreds.{FileCreds}
use Rattle.kern_creds.specs.declared.creds.Creds.{Creds}
use Rattle.kern_creds.specs.Exec.{after_exec}
use Rattle.kern_creds.specs.Calls.{Call, Setuid, Setgid, Setresuid, Setresgid, Setgroups, Capset, DropBounding, Raise, Lower, ClearAmbient}
use Rattle.kern_creds.specs.Calls.{SetKeepcaps, SetNoNewPrivs, SetMdwe, SetUpRing, Exec, after}
use Rattle.kern_creds.specs.Sound.{IsSound}
use Rattle.kern_creds.specs.Steps.{Leads, Reaches, Here, Then, may_gain}
use Rattle.kern_creds.proofs.Answers.{Leaves, left_ok}
use Rattle.kern_creds.proofs.SoundCalls.{sound-setuid, sound-setgid, sound-setresuid, sound-setresgid, sound-setgroups, sound-capset}
use Rattle.kern_creds.proofs.SoundCalls.{sound-drop_bounding, sound-raise, sound-lower, sound-clear_ambient, sound-set_keepcaps}
use Rattle.kern_creds.proofs.SoundCalls.{sound-set_no_new_privs, sound-set_mdwe, sound-set_up_ring}
use Rattle.kern_creds.proofs.SoundExec.{sound-exec, bounded-exec}
use Rattle.kern_creds.proofs.Bounded.{Step, step}

sound-after : (creds : Creds) (call : Call) → IsSound creds → Leaves IsSound (after creds call)
sound-after creds (Setuid id) k = sound-setuid creds k id
sound-after creds (Setgid id) k = sound-setgid creds k id
sound-after creds (Setresuid real effective saved) k = sound-setresuid creds k real effective saved
sound-after creds (Setresgid real effective saved) k = sound-setresgid creds k real effective saved
sound-after creds (Setgroups ids) k = sound-setgroups creds k ids
sound-after creds (Capset permitted effective inheritable) k = sound-capset creds k permitted effective inheritable
sound-after creds (DropBounding cap') k = sound-drop_bounding creds k cap'
sound-after creds (Raise cap') k = sound-raise creds k cap'
sound-after creds (Lower cap') k = sound-lower creds k cap'
sound-after creds ClearAmbient k = left_ok IsSound _ (sound-clear_ambient creds k)
sound-after creds (SetKeepcaps on) k = left_ok IsSound _ (sound-set_keepcaps creds k on)
sound-after creds SetNoNewPrivs k = left_ok IsSound _ (sound-set_no_new_privs creds k)
sound-after creds SetMdwe k = left_ok IsSound _ (sound-set_mdwe creds k)
sound-after creds SetUpRing k = left_ok IsSound _ (sound-set_up_ring creds k)
sound-after creds (Exec file nosuid) k = sound-exec false creds file nosuid k

pub sound_by_call : (creds now : Creds) (call : Call) → IsSound creds → Leads creds call now → IsSound now
sound_by_call creds now call k e = (sound-after creds call k).held now e

pub sound_by_run : (first now : Creds) → IsSound first → Reaches first now → IsSound now
sound_by_run first _ k Here = k
sound_by_run first _ k (Then creds now call before e) = sound_by_call creds now call (sound_by_run first creds k before) e

pub step_of : (creds now : Creds) (call : Call) → Leads creds call now → Step (may_gain creds call) creds now
step_of creds now call e = (step creds call).held now e

-- with no_new_privs no call may gain
none_gains : (creds : Creds) (call : Call) → creds.no_new_privs ≡ true → may_gain creds call ≡ false
none_gains creds (Exec file nosuid) e = ap not e
none_gains creds (Setuid id) e = refl
none_gains creds (Setgid id) e = refl
none_gains creds (Setresuid real effective saved) e = refl
none_gains creds (Setresgid real effective saved) e = refl
none_gains creds (Setgroups ids) e = refl
none_gains creds (Capset permitted effective inheritable) e = refl
none_gains creds (DropBounding cap') e = refl
none_gains creds (Raise cap') e = refl
none_gains creds (Lower cap') e = refl
none_gains creds ClearAmbient e = refl
none_gains creds (SetKeepcaps on) e = refl
none_gains creds SetNoNewPrivs e = refl
none_gains creds SetMdwe e = refl
none_gains creds SetUpRing e = refl

pub bounding_by_run : (first now : Creds) → Reaches first now → IsWithin now.bounding first.bounding
bounding_by_run first _ Here = within_self _
bounding_by_run first _ (Then creds now call before e) = within_through _ _ _ (step_of creds now call e).bounding
    (bounding_by_run first creds before)

pub inheritable_by_run : (first now : Creds) → Reaches first now → IsWithin now.inheritable (union first.inheritable first.bounding)
inheritable_by_run first _ Here = within_union_left _ _ _ (within_self _)
inheritable_by_run first _ (Then creds now call before e) =
    within_through _ _ _ (step_of creds now call e).inheritable
    (union_within _ _ _ (inheritable_by_run first creds before) (within_union_right _ _ _ (bounding_by_run first creds before)))

pub mark_by_run : (first now : Creds) → Reaches first now → first.no_new_privs ≡ true → now.no_new_privs ≡ true
mark_by_run first _ Here on = on
mark_by_run first _ (Then creds now call before e) on = (step_of creds now call e).no_new_privs (mark_by_run first creds before on)

pub mdwe_by_run : (first now : Creds) → Reaches first now → first.mdwe ≡ true → now.mdwe ≡ true
mdwe_by_run first _ Here on = on
mdwe_by_run first _ (Then creds now call before e) on = (step_of creds now call e).mdwe (mdwe_by_run first creds before on)

pub permitted_by_run : (first now : Creds) → Reaches first now → first.no_new_privs ≡ true → IsWithin now.permitted first.permitted
permitted_by_run first _ Here on = within_self _
permitted_by_run first _ (Then creds now call before e) on =
    within_through _ _ _ ((step_of creds now call e).permitted (none_gains creds call (mark_by_run first creds before on)))
    (permitted_by_run first creds before on)

pub exec_gives_nothing : (creds now : Creds) (file : FileCreds) (nosuid : Bool) → creds.no_new_privs ≡ true
    → after_exec creds file nosuid ≡ Ok now → IsWithin now.permitted creds.permitted
exec_gives_nothing creds now file nosuid on e = (step_of creds now (Exec file nosuid) e).permitted (ap not on)

pub exec_is_bounded : (creds now : Creds) (file : FileCreds) (nosuid : Bool) → IsSound creds → after_exec creds file nosuid ≡ Ok now
    → IsWithin now.permitted (union creds.inheritable creds.bounding)
exec_is_bounded creds now file nosuid k e = (bounded-exec false creds file nosuid k).held now e
