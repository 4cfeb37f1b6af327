-- Processes in namespaces of their own: children, as clone(2) makes them, and callers that are moved, as by unshare(2).
use Rattle.std.proofs.Common.{◌≡◌, ℕ, ◌<◌, ◌+◌, ◌==◌, true, false, List, [], ◌∷◌, ◌++◌, length, get_or, Some, refl, sym, ap, ◌∙◌, subst}
use Rattle.std.specs.Prelude.{slice_get, slice_set}
use Rattle.kern_creds.specs.declared.creds.Creds.{Creds}
use Rattle.kern_creds.specs.Enter.{entered}
use Rattle.kernel_model.specs.declared.mount_namespace.MountNamespace.{MountNamespace}
use Rattle.kernel_model.specs.declared.process.Process.{Process}
use Rattle.kernel_model.specs.declared.reply.Reply.{Reply}
use Rattle.kernel_model.specs.declared.reply.Reply.TheVariants.{Done}
use Rattle.kernel_model.specs.Effects.{Child, OwnTable, UserChild, OwnUser}
use Rattle.kernel_model.specs.MountNamespaces.{copy_for, namespace_or}
use Rattle.kernel_model.specs.World.{World, of_number, put_number, namespace_of, with_child, with_copy, with_process, moved_to}
use Rattle.kernel_model.specs.World.{with_user, entered_by}
use Rattle.kernel_model.specs.State.{State, world_of, AddsCopy, AtPlace, Applies, AppliesUser, namespace_in}
use Rattle.kernel_model.specs.Step.{most_processes, most_namespaces}
use Rattle.kernel_model.specs.StepCases as case
use Rattle.kernel_model.proofs.Cases.{effect_is}
use Rattle.kernel_model.proofs.Lists.{get_same, length-push}
use Rattle.kernel_model.proofs.Places.{has_number, some_at}

-- what is added, of the mount namespace with a number
copy_is : (viewed state : State) → viewed ≡ state → (at number user : ℕ) (ns : List MountNamespace) → at < length state.namespaces
    → at + 1 ≡ number → AddsCopy viewed.namespaces at user ns
    → ns ≡ state.namespaces ++ copy_for (namespace_in state number) user ∷ []
copy_is viewed state v at number user ns lt is adds =
    let own = some_at state.namespaces at lt in
    let has : of_number state.namespaces number ≡ Some own.0 = has_number state.namespaces number at own.0 is own.1 in
    let here : AddsCopy state.namespaces at user ns = subst (λ (s : State). AddsCopy s.namespaces at user ns) v adds in
    here own.0 own.1 ∙ ap (λ (n : MountNamespace). state.namespaces ++ copy_for n user ∷ []) (sym (ap namespace_or has))

-- the process at a place, as the state that is seen has it
seated : (viewed state : State) → viewed ≡ state → (place : ℕ) (who process : Process) → who ≡ get_or viewed.processes place who
    → slice_get state.processes place ≡ Some process → who ≡ process
seated viewed state v place who process is stands = get_same state.processes place who process
    (subst (λ (s : State). who ≡ get_or s.processes place who) v is) stands

pub made_apart : (viewed state : State) → viewed ≡ state → (place at : ℕ) (who old child : Process) (mid ps : List Process)
    (ns : List MountNamespace) (namespace count : ℕ)
    → length state.processes < most_processes → length state.namespaces < most_namespaces → at < length state.namespaces
    → AtPlace state place (λ pid process. at + 1 ≡ process.namespace)
    → who ≡ get_or viewed.processes place who → old ≡ get_or viewed.processes place old → child ≡ old
    → namespace ≡ length viewed.namespaces + 1 → mid ≡ viewed.processes → AddsCopy viewed.namespaces at who.user ns
    → ps ≡ mid ++ record child { namespace = namespace } ∷ [] → count ≡ length ps
    → Applies state place (Child true) (Done count) (record { processes = ps; namespaces = ns; users = viewed.users })
made_apart viewed state v place at who old child mid ps ns namespace count room space inside numbers who_is is child_is number mid_is adds
    ps_is count_is = λ calls site pid process place_is stands.
    let world : World = world_of calls site state in
    let user : who.user ≡ process.user = ap (λ (p : Process). p.user) (seated viewed state v place who process who_is stands) in
    let copies_it : ns ≡ state.namespaces ++ copy_for (namespace_of world process.namespace) process.user ∷ [] =
    copy_is viewed state v at process.namespace who.user ns inside (numbers pid process place_is stands) adds
    ∙ ap (λ (n : ℕ). state.namespaces ++ copy_for (namespace_of world process.namespace) n ∷ []) user in
    let moved : record child { namespace = namespace } ≡ moved_to process (length state.namespaces) =
    ap (λ (p : Process). record p { namespace = namespace }) (child_is ∙ seated viewed state v place old process is stands)
    ∙ ap (λ (n : ℕ). record process { namespace = n }) (number ∙ ap (λ (s : State). length s.namespaces + 1) v) in
    let made : ps ≡ state.processes ++ moved_to process (length state.namespaces) ∷ [] =
    ps_is ∙ ap (λ (xs : List Process). xs ++ record child { namespace = namespace } ∷ []) (mid_is ∙ ap (λ (s : State). s.processes) v)
    ∙ ap (λ (p : Process). state.processes ++ p ∷ []) moved in
    let counted : count ≡ length state.processes + 1 = count_is ∙ ap (λ (xs : List Process). length xs) made ∙ length-push state.processes (moved_to process (length state.namespaces)) in
    let used : viewed.users ≡ state.users = ap (λ (s : State). s.users) v in
    let out : ◌≡◌ {A = Reply × World} (Done count, world_of calls site (record { processes = ps; namespaces = ns; users = viewed.users })) (Done (length state.processes + 1), with_child (with_copy world process.namespace process.user) (moved_to process (length state.namespaces))) =
    rw (counted, made, copies_it, used) refl in
    out ∙ effect_is world pid process (Child true) _ (case.gives_copy room space)

pub moved_apart : (viewed state : State) → viewed ≡ state → (place at : ℕ) (who old : Process) (ps : List Process)
    (ns : List MountNamespace) (count : ℕ)
    → length state.namespaces < most_namespaces → at < length state.namespaces
    → AtPlace state place (λ pid process. at + 1 ≡ process.namespace)
    → who ≡ get_or viewed.processes place who → AddsCopy viewed.namespaces at who.user ns → count ≡ length ns
    → old ≡ get_or viewed.processes place old → ps ≡ slice_set viewed.processes place (record old { namespace = count })
    → Applies state place OwnTable (Done 0) (record { processes = ps; namespaces = ns; users = viewed.users })
moved_apart viewed state v place at who old ps ns count space inside numbers who_is adds count_is is ps_is =
    λ calls site pid process place_is stands.
    let world : World = world_of calls site state in
    let user : who.user ≡ process.user = ap (λ (p : Process). p.user) (seated viewed state v place who process who_is stands) in
    let copy : MountNamespace = copy_for (namespace_of world process.namespace) process.user in
    let copies_it : ns ≡ state.namespaces ++ copy_for (namespace_of world process.namespace) process.user ∷ [] =
    copy_is viewed state v at process.namespace who.user ns inside (numbers pid process place_is stands) adds
    ∙ ap (λ (n : ℕ). state.namespaces ++ copy_for (namespace_of world process.namespace) n ∷ []) user in
    let counted : count ≡ length state.namespaces + 1 = count_is ∙ ap (λ (xs : List MountNamespace). length xs) copies_it ∙ length-push state.namespaces copy in
    let moved : record old { namespace = count } ≡ moved_to process (length state.namespaces) =
    ap (λ (p : Process). record p { namespace = count }) (seated viewed state v place old process is stands) ∙ ap (λ (n : ℕ). record process { namespace = n }) counted in
    let made : ps ≡ put_number state.processes pid (moved_to process (length state.namespaces)) =
    ps_is ∙ ap (λ (s : State). slice_set s.processes place (record old { namespace = count })) v
    ∙ ap (λ (p : Process). slice_set state.processes place p) moved
    ∙ ap (λ (n : ℕ). slice_set state.processes n (moved_to process (length state.namespaces))) place_is in
    let used : viewed.users ≡ state.users = ap (λ (s : State). s.users) v in
    let out : ◌≡◌ {A = Reply × World} (Done 0, world_of calls site (record { processes = ps; namespaces = ns; users = viewed.users })) (Done 0, with_process (with_copy world process.namespace process.user) pid (moved_to process (length state.namespaces))) =
    rw (made, copies_it, used) refl in
    out ∙ effect_is world pid process OwnTable _ (case.moves space)

pub user_made_apart : (viewed state : State) → viewed ≡ state → (place at : ℕ) (old child : Process) (sets : Creds)
    (mid ps : List Process) (ns : List MountNamespace) (namespace count : ℕ)
    → length state.processes < most_processes → length state.namespaces < most_namespaces → at < length state.namespaces
    → AtPlace state place (λ pid process. at + 1 ≡ process.namespace)
    → old ≡ get_or viewed.processes place old → child ≡ old → sets ≡ entered child.creds
    → namespace ≡ length viewed.namespaces + 1 → mid ≡ viewed.processes → AddsCopy viewed.namespaces at (viewed.users + 2) ns
    → ps ≡ mid ++ record child { creds = sets; namespace = namespace; user = viewed.users + 2 } ∷ [] → count ≡ length ps
    → AppliesUser state place (UserChild true) (Done count) (record { processes = ps; namespaces = ns; users = viewed.users + 1 })
user_made_apart viewed state v place at old child sets mid ps ns namespace count room space inside numbers is child_is sets_is number
    mid_is adds ps_is count_is = λ site left calls pid process place_is stands.
    let world : World = world_of calls site state in
    let used : viewed.users ≡ state.users = ap (λ (s : State). s.users) v in
    let user : viewed.users + 2 ≡ state.users + 2 = ap (λ (n : ℕ). n + 2) used in
    let copies_it : ns ≡ state.namespaces ++ copy_for (namespace_of world process.namespace) (state.users + 2) ∷ [] =
    copy_is viewed state v at process.namespace (viewed.users + 2) ns inside (numbers pid process place_is stands) adds
    ∙ ap (λ (n : ℕ). state.namespaces ++ copy_for (namespace_of world process.namespace) n ∷ []) user in
    let same : child ≡ process = child_is ∙ seated viewed state v place old process is stands in
    let numbered : namespace ≡ length state.namespaces + 1 = number ∙ ap (λ (s : State). length s.namespaces + 1) v in
    let moved : record child { creds = sets; namespace = namespace; user = viewed.users + 2 } ≡ moved_to (entered_by process state.users) (length state.namespaces) =
    ap (λ (c : Creds). record child { creds = c; namespace = namespace; user = viewed.users + 2 }) sets_is
    ∙ ap (λ (p : Process). record p { creds = entered p.creds; namespace = namespace; user = viewed.users + 2 }) same
    ∙ ap (λ (n : ℕ). record process { creds = entered process.creds; namespace = n; user = viewed.users + 2 }) numbered
    ∙ ap (λ (n : ℕ). record process { creds = entered process.creds; namespace = length state.namespaces + 1; user = n }) user in
    let made : ps ≡ state.processes ++ moved_to (entered_by process state.users) (length state.namespaces) ∷ [] =
    ps_is ∙ ap (λ (xs : List Process). xs ++ record child { creds = sets; namespace = namespace; user = viewed.users + 2 } ∷ [])
    (mid_is ∙ ap (λ (s : State). s.processes) v) ∙ ap (λ (p : Process). state.processes ++ p ∷ []) moved in
    let counted : count ≡ length state.processes + 1 = count_is ∙ ap (λ (xs : List Process). length xs) made ∙ length-push state.processes (moved_to (entered_by process state.users) (length state.namespaces)) in
    let out : ◌≡◌ {A = Reply × World} (Done count, world_of calls site (record { processes = ps; namespaces = ns; users = viewed.users + 1 })) (Done (length state.processes + 1), with_child (with_copy (with_user world) process.namespace (state.users + 2)) (moved_to (entered_by process state.users) (length state.namespaces))) =
    rw (counted, made, copies_it, used) refl in
    out ∙ effect_is world pid process (UserChild true) _ (case.gives_user_and_copy left room space)

pub user_entered : (viewed state : State) → viewed ≡ state → (place : ℕ) (old : Process) (sets : Creds) (ps : List Process)
    → old ≡ get_or viewed.processes place old → sets ≡ entered old.creds
    → ps ≡ slice_set viewed.processes place (record old { creds = sets; user = viewed.users + 2 })
    → AppliesUser state place (OwnUser false) (Done 0)
    (record { processes = ps; namespaces = viewed.namespaces; users = viewed.users + 1 })
user_entered viewed state v place old sets ps is sets_is ps_is = λ site left calls pid process place_is stands.
    let world : World = world_of calls site state in
    let used : viewed.users ≡ state.users = ap (λ (s : State). s.users) v in
    let enters : record old { creds = sets; user = viewed.users + 2 } ≡ entered_by process state.users =
    ap (λ (c : Creds). record old { creds = c; user = viewed.users + 2 }) sets_is ∙ ap (λ (p : Process). entered_by p viewed.users) (seated viewed state v place old process is stands) ∙ ap (λ (n : ℕ). entered_by process n) used in
    let made : ps ≡ put_number state.processes pid (entered_by process state.users) =
    ps_is ∙ ap (λ (s : State). slice_set s.processes place (record old { creds = sets; user = viewed.users + 2 })) v
    ∙ ap (λ (p : Process). slice_set state.processes place p) enters
    ∙ ap (λ (n : ℕ). slice_set state.processes n (entered_by process state.users)) place_is in
    let spaced : viewed.namespaces ≡ state.namespaces = ap (λ (s : State). s.namespaces) v in
    let out : ◌≡◌ {A = Reply × World} (Done 0, world_of calls site (record { processes = ps; namespaces = viewed.namespaces; users = viewed.users + 1 })) (Done 0, with_process (with_user world) pid (entered_by process state.users)) =
    rw (made, spaced, used) refl in
    out ∙ effect_is world pid process (OwnUser false) _ (case.enters left)

pub user_moved_apart : (viewed state : State) → viewed ≡ state → (place at : ℕ) (old : Process) (sets : Creds) (ps : List Process)
    (ns : List MountNamespace) (count : ℕ)
    → length state.namespaces < most_namespaces → at < length state.namespaces
    → AtPlace state place (λ pid process. at + 1 ≡ process.namespace)
    → AddsCopy viewed.namespaces at (viewed.users + 2) ns → count ≡ length ns
    → old ≡ get_or viewed.processes place old → sets ≡ entered old.creds
    → ps ≡ slice_set viewed.processes place (record old { creds = sets; namespace = count; user = viewed.users + 2 })
    → AppliesUser state place (OwnUser true) (Done 0) (record { processes = ps; namespaces = ns; users = viewed.users + 1 })
user_moved_apart viewed state v place at old sets ps ns count space inside numbers adds count_is is sets_is ps_is =
    λ site left calls pid process place_is stands.
    let world : World = world_of calls site state in
    let used : viewed.users ≡ state.users = ap (λ (s : State). s.users) v in
    let user : viewed.users + 2 ≡ state.users + 2 = ap (λ (n : ℕ). n + 2) used in
    let copy : MountNamespace = copy_for (namespace_of world process.namespace) (state.users + 2) in
    let copies_it : ns ≡ state.namespaces ++ copy_for (namespace_of world process.namespace) (state.users + 2) ∷ [] =
    copy_is viewed state v at process.namespace (viewed.users + 2) ns inside (numbers pid process place_is stands) adds
    ∙ ap (λ (n : ℕ). state.namespaces ++ copy_for (namespace_of world process.namespace) n ∷ []) user in
    let counted : count ≡ length state.namespaces + 1 = count_is ∙ ap (λ (xs : List MountNamespace). length xs) copies_it ∙ length-push state.namespaces copy in
    let moved : record old { creds = sets; namespace = count; user = viewed.users + 2 } ≡ moved_to (entered_by process state.users) (length state.namespaces) =
    ap (λ (c : Creds). record old { creds = c; namespace = count; user = viewed.users + 2 }) sets_is
    ∙ ap (λ (p : Process). record p { creds = entered p.creds; namespace = count; user = viewed.users + 2 })
    (seated viewed state v place old process is stands)
    ∙ ap (λ (n : ℕ). record process { creds = entered process.creds; namespace = n; user = viewed.users + 2 }) counted
    ∙ ap (λ (n : ℕ). record process { creds = entered process.creds; namespace = length state.namespaces + 1; user = n }) user in
    let made : ps ≡ put_number state.processes pid (moved_to (entered_by process state.users) (length state.namespaces)) =
    ps_is ∙ ap (λ (s : State). slice_set s.processes place (record old { creds = sets; namespace = count; user = viewed.users + 2 })) v
    ∙ ap (λ (p : Process). slice_set state.processes place p) moved
    ∙ ap (λ (n : ℕ). slice_set state.processes n (moved_to (entered_by process state.users) (length state.namespaces))) place_is in
    let out : ◌≡◌ {A = Reply × World} (Done 0, world_of calls site (record { processes = ps; namespaces = ns; users = viewed.users + 1 })) (Done 0, with_process (with_copy (with_user world) process.namespace (state.users + 2)) pid (moved_to (entered_by process state.users) (length state.namespaces))) =
    rw (made, copies_it, used) refl in
    out ∙ effect_is world pid process (OwnUser true) _ (case.enters_and_moves left space)

-- whether a mount namespace belongs to the caller's user namespace
pub owns_here : (viewed state : State) → viewed ≡ state → (place at : ℕ) (space : MountNamespace) (who : Process)
    → at < length state.namespaces → AtPlace state place (λ pid process. at + 1 ≡ process.namespace)
    → space ≡ get_or viewed.namespaces at space → who ≡ get_or viewed.processes place who
    → AtPlace state place (λ pid process. (space.owner == who.user) ≡ ((namespace_in state process.namespace).owner == process.user))
owns_here viewed state v place at space who inside numbers space_is who_is pid process place_is stands =
    let found = some_at state.namespaces at inside in
    let same : space ≡ found.0 = get_same state.namespaces at space found.0 (subst (λ (s : State). space ≡ get_or s.namespaces at space) v space_is) found.1 in
    let belongs : namespace_in state process.namespace ≡ found.0 = ap namespace_or (has_number state.namespaces process.namespace at found.0 (numbers pid process place_is stands) found.1) in
    ap (λ (n : MountNamespace). n.owner == who.user) (same ∙ sym belongs)
    ∙ ap (λ (p : Process). (namespace_in state process.namespace).owner == p.user)
    (seated viewed state v place who process who_is stands)
