-- What a world asks its site for: what the paths of calls find.
use Rattle.std.proofs.Common.{◌≡◌, ◌∙◌, ℕ, Bool, true, false, cond, List, [], ◌∷◌, ◌++◌, Option, Some, None, Result, Ok, Err, refl, ap, sym}
use Rattle.std.proofs.Common.{subst, length, eqb}
use Rattle.std.specs.Prelude.{nat_lt, not, ◌+◌, option_and_then}
use Rattle.ceilings.specs.call_table.Table.{calls_in}
use Rattle.ceilings.specs.abs_path.Paths.{Path, is_root}
use Rattle.ceilings.specs.abs_path.Prefix.{is_below, rest_of}
use Rattle.ceilings.specs.bpf_code.declared.decision.Decision.{Decision}
use Rattle.ceilings.specs.bpf_code.declared.decision.Decision.TheVariants as decision
use Rattle.ceilings.specs.call_table.call_names.Known.{mode_place_of, place_of}
use Rattle.ceilings.specs.call_table.declared.call_names.rule.CallRule.{CallRule}
use Rattle.ceilings.specs.call_table.declared.call_names.rule.CallRule.TheVariants as known
use Rattle.ceilings.specs.linux_numbers.Errnos.{ebadf, ebusy, einval, enotdir, eagain, enospc}
use Rattle.ceilings.specs.site_table.declared.row.Row.{Row}
use Rattle.ceilings.specs.site_table.Table.{Site, row_at}
use Rattle.ceilings.specs.kern_mounts.Entry.{entry_of}
use Rattle.ceilings.specs.kern_mounts.Finds.{Found, finds, found_at, found_by, row_or_nothing, host_place, host_place_by}
use Rattle.ceilings.specs.kern_mounts.Mounts.{Mounts, steps_of}
use Rattle.ceilings.specs.kern_mounts.Push.{after_push}
use Rattle.ceilings.specs.kern_mounts.Remount.{after_remount}
use Rattle.ceilings.specs.kern_mounts.Split.{Table}
use Rattle.ceilings.specs.kern_mounts.declared.step.What.{What}
use Rattle.ceilings.specs.kern_mounts.declared.step.What.TheVariants.{Host, Empty, Hidden}
use Rattle.ceilings.specs.kern_mounts.declared.step.MountStep.{MountStep}
use Rattle.ceilings.specs.kernel_model.kern_files.Bits.{has_some, has_all}
use Rattle.ceilings.specs.kernel_model.kern_files.Executing.{exec_answer_in}
use Rattle.ceilings.specs.kernel_model.kern_files.Looking.{flags_at, see_answer, write_answer, open_answer}
use Rattle.ceilings.specs.kernel_model.kern_files.MountCall.{ms_bind, ms_rec, ms_remount, ms_remount_bind, target_kind, or_found, hidden_at}
use Rattle.ceilings.specs.kernel_model.kern_files.MountCall.{kind_found, flags_of, has_other_kind, after_mount, mount_onto, bind_found}
use Rattle.ceilings.specs.kernel_model.kernel_calls.Calls.{FitsPayload, FitsRequest, IsPath}
use Rattle.ceilings.specs.kernel_model.kernel_calls.Operation as d
use Rattle.ceilings.specs.kernel_model.kernel_calls.Operation.{Operation, operation_by, known_operation, asked_if, asked_by, asked_of, bare, by_path}
use Rattle.ceilings.specs.kernel_model.kernel_calls.Operation.{by_path_flags, by_paths, by_sets, by_ids, by_number, by_code, by_request}
use Rattle.ceilings.specs.kernel_model.kernel_calls.Rules.{rule_at}
use Rattle.ceilings.specs.kernel_model.kernel_calls.Words.{low_word}
use Rattle.ceilings.specs.kernel_model.declared.kernel_calls.call.Call.{Call}
use Rattle.ceilings.specs.kernel_model.declared.kernel_calls.payload.Payload.{Payload}
use Rattle.ceilings.specs.kernel_model.declared.kernel_calls.payload.Payload.TheVariants as pay
use Rattle.ceilings.specs.kernel_model.declared.kernel_calls.request.Request.{Request}
use Rattle.ceilings.specs.kernel_model.declared.kernel_calls.request.Request.TheVariants as ask
use Rattle.ceilings.specs.kernel_model.declared.kernel_calls.rule.Rule.{Rule}
use Rattle.ceilings.specs.kernel_model.declared.kernel_calls.rule.Rule.TheVariants as rule
use Rattle.ceilings.specs.kernel_model.Effects as f
use Rattle.ceilings.specs.kernel_model.Effects.{Effect, effect_of, looks, creds_effect, table_effect, with_admin, with_own, prctl_effect_of}
use Rattle.ceilings.specs.kernel_model.Effects.{set_up_effect, request_effect}
use Rattle.ceilings.specs.kernel_model.Runs.{run, replies}
use Rattle.ceilings.specs.kernel_model.Step.{most_processes, most_namespaces, step, step_by, decided, answered, applied, child_of, child_in}
use Rattle.ceilings.specs.kernel_model.Step.{moved_in, has_user_left, decision_of}
use Rattle.ceilings.specs.kernel_model.World.{World, living_of, mounts_of, table_of, with_process, with_copy, with_child, moved_to, host_of}
use Rattle.ceilings.specs.kernel_model.World.{caller_of, has_mdwe, with_user, entered_by, owner_of, is_newer}
use Rattle.ceilings.specs.kernel_model.declared.process.Process.{Process}
use Rattle.ceilings.specs.kernel_model.declared.reply.Reply.{Reply}
use Rattle.ceilings.specs.kernel_model.declared.reply.Reply.TheVariants as w
use Rattle.ceilings.proofs.OfKernelModel.Kernels.{told_stays}
use Rattle.ceilings.specs.kernel_laws.Denied.{Exposes}
use Rattle.judge.specs.Sites.{AgreeOutside}
use Rattle.judge.specs.Worlds.{with_site, RepliesAreBlind}
use Rattle.judge.proofs.Sites.{same_row}

module _ (site other : Site) where
  -- the path finds the same on both
  abbrev pub FindsSame : Table → Path → Type 0
  FindsSame table path = finds (row_at other.rows) table path ≡ finds (row_at site.rows) table path

  -- and so does the path of the request, if it has one
  abbrev pub RequestSame : Table → Request → Type 0
  RequestSame table (ask.Stat path) = FindsSame table path
  RequestSame table (ask.Open path flags) = FindsSame table path
  RequestSame table (ask.Socket family) = Unit {0}
  RequestSame table (ask.Mode mode) = Unit {0}

  -- and so does each path of the payload
  abbrev pub PayloadSame : Table → Payload → Type 0
  PayloadSame table pay.Nothing = Unit {0}
  PayloadSame table (pay.OnePath path) = FindsSame table path
  PayloadSame table (pay.TwoPaths source target) = FindsSame table source × FindsSame table target
  PayloadSame table (pay.PathFlags path flags) = FindsSame table path
  PayloadSame table (pay.Sets p e i) = Unit {0}
  PayloadSame table (pay.Ids ids) = Unit {0}
  PayloadSame table (pay.Number number) = Unit {0}
  PayloadSame table (pay.Code bytes) = Unit {0}
  PayloadSame table (pay.Ring request) = RequestSame table request

  mount_same : (mounts : Mounts) (source target : Path) (flags : ℕ) → FindsSame (steps_of mounts) source
      → FindsSame (steps_of mounts) target → after_mount (row_at other.rows) mounts source target flags
      ≡ after_mount (row_at site.rows) mounts source target flags
  mount_same mounts source target flags same same' =
      ap (λ (r : Result Mounts ℕ). cond (has_other_kind flags) (Err einval)
      (cond (has_all ms_remount_bind flags) (after_remount mounts target (flags_of flags))
      (cond (has_some ms_remount flags) (Err einval) (cond (is_root target) (Err ebusy) r))))
      (ap (λ (found : Found Row). mount_onto (row_at other.rows) mounts source target flags
      (or_found (hidden_at target (entry_of (steps_of mounts) target)) (kind_found found))) same'
      ∙ onto (target_kind (row_at site.rows) (steps_of mounts) target))
    where
      onto : (r : Result Bool ℕ) → mount_onto (row_at other.rows) mounts source target flags r
          ≡ mount_onto (row_at site.rows) mounts source target flags r
      onto (Err errno) = refl
      onto (Ok directory) =
          ap (λ (found : Found Row). cond (has_some ms_bind flags)
          (bind_found mounts source target (has_some ms_rec flags) directory (kind_found found))
          (cond (not directory) (Err enotdir)
          (after_push mounts (record { place = target; what = Empty; flags = flags_of flags })))) same

  -- ---- a step
  abbrev pub sited : Reply × World → Reply × World
  sited out = (out.0, with_site other out.1)

  module _ (world : World) (at_site : world.site ≡ site) (spaces : other.user_namespaces ≡ site.user_namespaces) (version : other.systemd ≡ site.systemd) (rings : other.io_uring ≡ site.io_uring) (pid : ℕ) (process : Process) where
    abbrev table : Table
    table = table_of world process.namespace

    -- as many user namespaces may be made
    left_same : has_user_left (with_site other world) ≡ has_user_left world
    left_same = ap (λ n. nat_lt world.users n) (spaces ∙ ap (λ (s : Site). s.user_namespaces) (sym at_site))

    born_in : (old now : World) (child : Process) (own : Bool)
        → child_in (with_site other old) (with_site other now) child own ≡ sited (child_in old now child own)
    born_in old now child false = refl
    born_in old now child true = by (nat_lt (length now.namespaces) most_namespaces)
      where
        by : (b : Bool) → cond {A = Reply × World} b (w.Done (length now.processes + 1), with_site other (with_child (with_copy now child.namespace child.user) (moved_to child (length now.namespaces)))) (w.Refused enospc, with_site other old)
            ≡ sited (cond {A = Reply × World} b (w.Done (length now.processes + 1), with_child (with_copy now child.namespace child.user) (moved_to child (length now.namespaces))) (w.Refused enospc, old))
        by true = refl
        by false = refl

    moved_sited : (old now : World) (own' : Process) (own : Bool)
        → moved_in (with_site other old) (with_site other now) pid own' own ≡ sited (moved_in old now pid own' own)
    moved_sited old now own' false = refl
    moved_sited old now own' true = by (nat_lt (length now.namespaces) most_namespaces)
      where
        by : (b : Bool) → cond {A = Reply × World} b
            (w.Done 0, with_site other (with_process (with_copy now own'.namespace own'.user) pid (moved_to own' (length now.namespaces))))
            (w.Refused enospc, with_site other old)
            ≡ sited (cond {A = Reply × World} b
            (w.Done 0, with_process (with_copy now own'.namespace own'.user) pid (moved_to own' (length now.namespaces)))
            (w.Refused enospc, old))
        by true = refl
        by false = refl

    born : (own : Bool) → child_of (with_site other world) process own ≡ sited (child_of world process own)
    born own = born_in world world process own

    applied_sited : (effect : Effect) → applied (with_site other world) pid process effect ≡ sited (applied world pid process effect)
    applied_sited (f.Refuse errno) = refl
    applied_sited (f.Answer value) = refl
    applied_sited (f.SetCreds value creds) = refl
    applied_sited (f.SetTable new) = refl
    applied_sited (f.Push program) = refl
    applied_sited (f.Child own) =
        ap (λ (out : Reply × World). cond {A = Reply × World} (nat_lt (length world.processes) most_processes) out
        (w.Refused eagain, with_site other world)) (born own) ∙ by (nat_lt (length world.processes) most_processes)
      where
        by : (b : Bool) → cond {A = Reply × World} b (sited (child_of world process own)) (w.Refused eagain, with_site other world)
            ≡ sited (cond {A = Reply × World} b (child_of world process own) (w.Refused eagain, world))
        by true = refl
        by false = refl
    applied_sited f.OwnTable = moved_sited world world process true
    applied_sited (f.UserChild own) =
        ap (λ (b : Bool). cond {A = Reply × World} b
        (cond {A = Reply × World} (nat_lt (length world.processes) most_processes)
        (child_in (with_site other world) (with_site other (with_user world)) (entered_by process world.users) own)
        (w.Refused eagain, with_site other world)) (w.Refused enospc, with_site other world)) left_same
        ∙ ap (λ (out : Reply × World). cond {A = Reply × World} (has_user_left world)
        (cond {A = Reply × World} (nat_lt (length world.processes) most_processes) out (w.Refused eagain, with_site other world))
        (w.Refused enospc, with_site other world)) (born_in world (with_user world) (entered_by process world.users) own)
        ∙ by (has_user_left world) (nat_lt (length world.processes) most_processes)
      where
        by : (a b : Bool) → cond {A = Reply × World} a
            (cond {A = Reply × World} b (sited (child_in world (with_user world) (entered_by process world.users) own))
            (w.Refused eagain, with_site other world)) (w.Refused enospc, with_site other world)
            ≡ sited (cond {A = Reply × World} a
            (cond {A = Reply × World} b (child_in world (with_user world) (entered_by process world.users) own)
            (w.Refused eagain, world)) (w.Refused enospc, world))
        by true true = refl
        by true false = refl
        by false b = refl
    applied_sited (f.OwnUser own) =
        ap (λ (b : Bool). cond {A = Reply × World} b
        (moved_in (with_site other world) (with_site other (with_user world)) pid (entered_by process world.users) own)
        (w.Refused enospc, with_site other world)) left_same
        ∙ ap (λ (out : Reply × World). cond {A = Reply × World} (has_user_left world) out (w.Refused enospc, with_site other world))
        (moved_sited world (with_user world) (entered_by process world.users) own) ∙ by (has_user_left world)
      where
        by : (a : Bool) → cond {A = Reply × World} a (sited (moved_in world (with_user world) pid (entered_by process world.users) own))
            (w.Refused enospc, with_site other world)
            ≡ sited (cond {A = Reply × World} a (moved_in world (with_user world) pid (entered_by process world.users) own)
            (w.Refused enospc, world))
        by true = refl
        by false = refl
    applied_sited f.End = refl

    -- what is asked for comes to the same
    abbrev Same : Operation → Type 0
    Same operation = effect_of (host_of (with_site other world)) (caller_of world process) operation
        ≡ effect_of (host_of world) (caller_of world process) operation

    abbrev Goes : Option Operation → Type 0
    Goes operation = answered (with_site other world) pid process (asked_if operation) ≡ sited (answered world pid process (asked_if operation))

    operation_goes : (operation : Operation) → Same operation → Goes (Some operation)
    operation_goes operation same = ap (applied (with_site other world) pid process) same
        ∙ applied_sited (effect_of (host_of world) (caller_of world process) operation)

    here : (path : Path) → FindsSame table path → finds (row_at other.rows) table path ≡ finds (row_at world.site.rows) table path
    here path same = same ∙ ap (λ (s : Site). finds (row_at s.rows) table path) (sym at_site)

    -- a request to a ring comes to the same
    request_here : (request : Request) → RequestSame table request
        → request_effect (host_of (with_site other world)) (caller_of world process) request
        ≡ request_effect (host_of world) (caller_of world process) request
    request_here (ask.Stat path) same = ap (λ found. looks (see_answer 0 found)) (here path same)
    request_here (ask.Open path flags) same = ap (λ found. looks (open_answer flags (flags_at table path) found)) (here path same)
    request_here (ask.Socket family) same = refl
    request_here (ask.Mode mode) same = refl

    submit_here : (request : Request) → RequestSame table request → Same (d.Submit request)
    submit_here request same = ap (λ effect. cond process.creds.ring effect (f.Refuse ebadf)) (request_here request same)

    -- both hosts have rings or neither has
    ring_here : Same d.SetUpRing
    ring_here = ap (λ rings. set_up_effect rings process.creds) (rings ∙ ap (λ (s : Site). s.io_uring) (sym at_site))

    bare_goes : (operation : Operation) → Same operation → (payload : Payload) → Goes (bare operation payload)
    bare_goes operation same pay.Nothing = operation_goes operation same
    bare_goes operation same (pay.OnePath path) = refl
    bare_goes operation same (pay.TwoPaths source target) = refl
    bare_goes operation same (pay.PathFlags path flags) = refl
    bare_goes operation same (pay.Sets p e i) = refl
    bare_goes operation same (pay.Ids ids) = refl
    bare_goes operation same (pay.Number number) = refl
    bare_goes operation same (pay.Code bytes) = refl
    bare_goes operation same (pay.Ring request) = refl

    path_goes : (operation : Path → Operation) → ((path : Path) → FindsSame table path → Same (operation path)) → (payload : Payload)
        → PayloadSame table payload → Goes (by_path operation payload)
    path_goes operation same pay.Nothing found = refl
    path_goes operation same (pay.OnePath path) found = operation_goes (operation path) (same path found)
    path_goes operation same (pay.TwoPaths source target) found = refl
    path_goes operation same (pay.PathFlags path flags) found = refl
    path_goes operation same (pay.Sets p e i) found = refl
    path_goes operation same (pay.Ids ids) found = refl
    path_goes operation same (pay.Number number) found = refl
    path_goes operation same (pay.Code bytes) found = refl
    path_goes operation same (pay.Ring request) found = refl

    paths_goes : (operation : Path → Path → Operation)
        → ((source target : Path) → FindsSame table source → FindsSame table target → Same (operation source target)) → (payload : Payload)
        → PayloadSame table payload → Goes (by_paths operation payload)
    paths_goes operation same pay.Nothing found = refl
    paths_goes operation same (pay.OnePath path) found = refl
    paths_goes operation same (pay.TwoPaths source target) found = operation_goes (operation source target) (same source target found.0 found.1)
    paths_goes operation same (pay.PathFlags path flags) found = refl
    paths_goes operation same (pay.Sets p e i) found = refl
    paths_goes operation same (pay.Ids ids) found = refl
    paths_goes operation same (pay.Number number) found = refl
    paths_goes operation same (pay.Code bytes) found = refl
    paths_goes operation same (pay.Ring request) found = refl

    path_flags_goes : (operation : Path → ℕ → Operation) → ((path : Path) (flags : ℕ) → FindsSame table path → Same (operation path flags))
        → (payload : Payload) → PayloadSame table payload → Goes (by_path_flags operation payload)
    path_flags_goes operation same pay.Nothing found = refl
    path_flags_goes operation same (pay.OnePath path) found = refl
    path_flags_goes operation same (pay.TwoPaths source target) found = refl
    path_flags_goes operation same (pay.PathFlags path flags) found = operation_goes (operation path flags) (same path flags found)
    path_flags_goes operation same (pay.Sets p e i) found = refl
    path_flags_goes operation same (pay.Ids ids) found = refl
    path_flags_goes operation same (pay.Number number) found = refl
    path_flags_goes operation same (pay.Code bytes) found = refl
    path_flags_goes operation same (pay.Ring request) found = refl

    sets_goes : (payload : Payload) → Goes (by_sets d.Capset payload)
    sets_goes pay.Nothing = refl
    sets_goes (pay.OnePath path) = refl
    sets_goes (pay.TwoPaths source target) = refl
    sets_goes (pay.PathFlags path flags) = refl
    sets_goes (pay.Sets p e i) = operation_goes (d.Capset p e i) refl
    sets_goes (pay.Ids ids) = refl
    sets_goes (pay.Number number) = refl
    sets_goes (pay.Code bytes) = refl
    sets_goes (pay.Ring request) = refl

    ids_goes : (payload : Payload) → Goes (by_ids d.Setgroups payload)
    ids_goes pay.Nothing = refl
    ids_goes (pay.OnePath path) = refl
    ids_goes (pay.TwoPaths source target) = refl
    ids_goes (pay.PathFlags path flags) = refl
    ids_goes (pay.Sets p e i) = refl
    ids_goes (pay.Ids ids) = operation_goes (d.Setgroups ids) refl
    ids_goes (pay.Number number) = refl
    ids_goes (pay.Code bytes) = refl
    ids_goes (pay.Ring request) = refl

    number_goes : (operation : ℕ → Operation) → ((number : ℕ) → Same (operation number)) → (payload : Payload)
        → Goes (by_number operation payload)
    number_goes operation same pay.Nothing = refl
    number_goes operation same (pay.OnePath path) = refl
    number_goes operation same (pay.TwoPaths source target) = refl
    number_goes operation same (pay.PathFlags path flags) = refl
    number_goes operation same (pay.Sets p e i) = refl
    number_goes operation same (pay.Ids ids) = refl
    number_goes operation same (pay.Number number) = operation_goes (operation number) (same number)
    number_goes operation same (pay.Code bytes) = refl
    number_goes operation same (pay.Ring request) = refl

    code_goes : (op flags : ℕ) (payload : Payload) → Goes (by_code (d.Seccomp op flags) payload)
    code_goes op flags pay.Nothing = refl
    code_goes op flags (pay.OnePath path) = refl
    code_goes op flags (pay.TwoPaths source target) = refl
    code_goes op flags (pay.PathFlags path bits) = refl
    code_goes op flags (pay.Sets p e i) = refl
    code_goes op flags (pay.Ids ids) = refl
    code_goes op flags (pay.Number number) = refl
    code_goes op flags (pay.Code bytes) = operation_goes (d.Seccomp op flags bytes) refl
    code_goes op flags (pay.Ring request) = refl

    request_goes : (payload : Payload) → PayloadSame table payload → Goes (by_request d.Submit payload)
    request_goes pay.Nothing found = refl
    request_goes (pay.OnePath path) found = refl
    request_goes (pay.TwoPaths source target) found = refl
    request_goes (pay.PathFlags path flags) found = refl
    request_goes (pay.Sets p e i) found = refl
    request_goes (pay.Ids ids) found = refl
    request_goes (pay.Number number) found = refl
    request_goes (pay.Code bytes) found = refl
    request_goes (pay.Ring request) found = operation_goes (d.Submit request) (submit_here request found)

    mount_here : (flags : ℕ) (source target : Path) → FindsSame table source → FindsSame table target → Same (d.Mount source target flags)
    mount_here flags source target s t =
        ap (λ (r : Result Mounts ℕ). with_own (eqb (owner_of world process.namespace) process.user)
        (with_admin process.creds (table_effect r))) (mount_same (mounts_of world process.namespace) source target flags s t
        ∙ ap (λ (own : Site). after_mount (row_at own.rows) (mounts_of world process.namespace) source target flags)
        (sym at_site))

    -- both kernels have the same operations of prctl(2)
    mdwe_same : has_mdwe other ≡ has_mdwe world.site
    mdwe_same = ap (λ own. has_mdwe (record world.site { systemd = own })) (version ∙ ap (λ (s : Site). s.systemd) (sym at_site))

    prctl_here : (option value third fourth fifth : ℕ) → Same (d.Prctl option value third fourth fifth)
    prctl_here option value third fourth fifth = ap (λ mdwe. prctl_effect_of mdwe process.creds option value third fourth fifth) mdwe_same

    known_goes : (own : CallRule) (args : List ℕ) (payload : Payload) → PayloadSame table payload → Goes (known_operation own args payload)
    known_goes known.See args payload same = path_goes d.See (λ path s. ap (λ found. looks (see_answer 0 found)) (here path s)) payload same
    known_goes (known.Open at) args payload same = path_goes (d.Open (low_word args (place_of at)) 0)
        (λ path s. ap (λ found. looks (open_answer (low_word args (place_of at)) (flags_at table path) found)) (here path s)) payload same
    known_goes (known.OpenWith at) args payload same = path_goes (d.Open (low_word args (place_of at)) (low_word args (mode_place_of at)))
        (λ path s. ap (λ found. looks (open_answer (low_word args (place_of at)) (flags_at table path) found)) (here path s)) payload same
    known_goes known.Openat2 args payload same = path_flags_goes (λ path flags. d.Open flags 0 path)
        (λ path flags s. ap (λ found. looks (open_answer flags (flags_at table path) found)) (here path s)) payload same
    known_goes known.Create args payload same = path_goes (d.Create 0)
        (λ path s. ap (λ found. looks (write_answer 3 (flags_at table path) found)) (here path s)) payload same
    known_goes known.CreateWith args payload same = path_goes (d.Create (low_word args 1))
        (λ path s. ap (λ found. looks (write_answer 3 (flags_at table path) found)) (here path s)) payload same
    known_goes known.Truncate args payload same = path_goes d.Truncate
        (λ path s. ap (λ found. looks (write_answer 0 (flags_at table path) found)) (here path s)) payload same
    known_goes known.Execve args payload same = path_goes d.Execve
        (λ path s. ap (λ found. creds_effect (exec_answer_in (is_newer process) process.creds (flags_at table path) found)) (here path s))
        payload same
    known_goes (known.SetMode at) args payload same = bare_goes _ refl payload
    known_goes known.Map args payload same = bare_goes _ refl payload
    known_goes known.Protect args payload same = bare_goes _ refl payload
    known_goes known.Attach args payload same = bare_goes _ refl payload
    known_goes known.Schedule args payload same = bare_goes _ refl payload
    known_goes known.SetAttributes args payload same = number_goes d.SetAttributes (λ number. refl) payload
    known_goes known.Personality args payload same = bare_goes _ refl payload
    known_goes known.Socket args payload same = bare_goes _ refl payload
    known_goes known.Socketcall args payload same = number_goes (d.Socketcall (low_word args 0)) (λ number. refl) payload
    known_goes known.Socketpair args payload same = bare_goes _ refl payload
    known_goes known.Enter args payload same = bare_goes _ refl payload
    known_goes known.Fork args payload same = bare_goes _ refl payload
    known_goes known.Clone args payload same = bare_goes _ refl payload
    known_goes known.Clone3 args payload same = number_goes d.Clone (λ number. refl) payload
    known_goes known.Unshare args payload same = bare_goes _ refl payload
    known_goes known.Exit args payload same = bare_goes _ refl payload
    known_goes known.Mount args payload same = paths_goes (λ source target. d.Mount source target (low_word args 3))
        (mount_here (low_word args 3)) payload same
    known_goes known.Umount args payload same = path_goes (λ path. d.Umount path (low_word args 1)) (λ path s. refl) payload same
    known_goes known.Setuid args payload same = bare_goes _ refl payload
    known_goes known.Setgid args payload same = bare_goes _ refl payload
    known_goes known.Setresuid args payload same = bare_goes _ refl payload
    known_goes known.Setresgid args payload same = bare_goes _ refl payload
    known_goes known.Setreuid args payload same = bare_goes _ refl payload
    known_goes known.Setregid args payload same = bare_goes _ refl payload
    known_goes known.Setgroups args payload same = ids_goes payload
    known_goes known.Capset args payload same = sets_goes payload
    known_goes known.Prctl args payload same =
        bare_goes _ (prctl_here (low_word args 0) (low_word args 1) (low_word args 2) (low_word args 3) (low_word args 4)) payload
    known_goes known.Seccomp args payload same = code_goes _ _ payload
    known_goes known.SetUpRing args payload same = bare_goes _ ring_here payload
    known_goes known.Submit args payload same = request_goes payload same

    rule_goes : (own : Rule) (args : List ℕ) (payload : Payload) → PayloadSame table payload → Goes (operation_by own args payload)
    rule_goes (rule.Known own) args payload same = known_goes own args payload same
    rule_goes (rule.Plain number) args payload same = bare_goes _ refl payload

    asked_goes : (call : Call) (o : Option Rule) → PayloadSame table call.payload
        → answered (with_site other world) pid process (asked_by o call) ≡ sited (answered world pid process (asked_by o call))
    asked_goes call None same = refl
    asked_goes call (Some own) same = rule_goes own call.args call.payload same

    decided_goes : (call : Call) → call.pid ≡ pid → PayloadSame table call.payload → (c : Decision)
        → decided (with_site other world) call process c ≡ sited (decided world call process c)
    decided_goes call own same decision.Pass =
        ap (λ n. answered (with_site other world) n process (asked_of world.calls call)) own
        ∙ asked_goes call (rule_at (calls_in world.calls call.abi) call.nr) same
        ∙ ap (λ n. sited (answered world n process (asked_of world.calls call))) (sym own)
    decided_goes call own same (decision.Errno errno) = refl
    decided_goes call own same decision.Kill = refl

  pub step_sited : (world : World) (call : Call) → world.site ≡ site → other.user_namespaces ≡ site.user_namespaces
      → other.systemd ≡ site.systemd → other.io_uring ≡ site.io_uring
      → ((process : Process) → living_of world call.pid ≡ Some process → PayloadSame (table_of world process.namespace) call.payload)
      → step (with_site other world) call ≡ sited (step world call)
  step_sited world call at_site spaces version rings same = by (living_of world call.pid) refl
    where
      by : (o : Option Process) → living_of world call.pid ≡ o → step_by (with_site other world) call o ≡ sited (step_by world call o)
      by None is = refl
      by (Some process) is = decided_goes world at_site spaces version rings call.pid process call refl (same process is) (decision_of world call process)

-- ---- runs
module _ (folder : Path) (site other : Site) (agree : AgreeOutside folder site other) where
  -- what a path finds that shows nothing below the folder
  pub finds_same : (table : Table) (path : Path) → ((place : Path) → host_place table path ≡ Some place → is_below place folder ≡ false)
      → FindsSame site other table path
  finds_same table path out = by (entry_of table path) refl
    where
      by_what : (entry : MountStep) (what : What) → entry.what ≡ what → entry_of table path ≡ Some entry
          → found_by (row_at other.rows) what entry.place path ≡ found_by (row_at site.rows) what entry.place path
      by_what entry (Host source) is own =
          let place : Path = source ++ rest_of entry.place path in
          let shown : host_place table path ≡ Some place = ap (option_and_then (λ (s : MountStep). host_place_by s.what s.place path)) own ∙ ap (λ (h : What). host_place_by h entry.place path) is in
          ap row_or_nothing (same_row folder place site other agree (out place shown))
      by_what entry Empty is own = refl
      by_what entry (Hidden directory) is own = refl

      by : (o : Option MountStep) → entry_of table path ≡ o → found_at (row_at other.rows) path o ≡ found_at (row_at site.rows) path o
      by None is = refl
      by (Some entry) is = by_what entry entry.what refl is

  pub not_shown : (world : World) (pid : ℕ) (process : Process) (path : Path) → living_of world pid ≡ Some process → IsPath path
      → (Exposes folder world → ⊥) → (place : Path) → host_place (table_of world process.namespace) path ≡ Some place
      → is_below place folder ≡ false
  not_shown world pid process path lives fit blind place shown = by (is_below place folder) refl
    where
      by : (b : Bool) → is_below place folder ≡ b → b ≡ false
      by false below = refl
      by true below = absurd (blind
          (record { pid = pid; process = process; lives = lives; path = path; fits = fit; place = place; shown = shown; below = below }))

  request_same : (world : World) (pid : ℕ) (process : Process) → living_of world pid ≡ Some process → (Exposes folder world → ⊥)
      → (request : Request) → FitsRequest request → RequestSame site other (table_of world process.namespace) request
  request_same world pid process lives blind (ask.Stat path) fit =
      finds_same (table_of world process.namespace) path (not_shown world pid process path lives fit blind)
  request_same world pid process lives blind (ask.Open path flags) fit =
      finds_same (table_of world process.namespace) path (not_shown world pid process path lives fit.0 blind)
  request_same world pid process lives blind (ask.Socket family) fit = tt
  request_same world pid process lives blind (ask.Mode mode) fit = tt

  payload_same : (world : World) (pid : ℕ) (process : Process) → living_of world pid ≡ Some process → (Exposes folder world → ⊥)
      → (payload : Payload) → FitsPayload payload → PayloadSame site other (table_of world process.namespace) payload
  payload_same world pid process lives blind pay.Nothing fit = tt
  payload_same world pid process lives blind (pay.OnePath path) fit =
      finds_same (table_of world process.namespace) path (not_shown world pid process path lives fit blind)
  payload_same world pid process lives blind (pay.TwoPaths source target) fit =
      (finds_same (table_of world process.namespace) source (not_shown world pid process source lives fit.0 blind), finds_same (table_of world process.namespace) target (not_shown world pid process target lives fit.1 blind))
  payload_same world pid process lives blind (pay.PathFlags path flags) fit =
      finds_same (table_of world process.namespace) path (not_shown world pid process path lives fit.0 blind)
  payload_same world pid process lives blind (pay.Sets p e i) fit = tt
  payload_same world pid process lives blind (pay.Ids ids) fit = tt
  payload_same world pid process lives blind (pay.Number number) fit = tt
  payload_same world pid process lives blind (pay.Code bytes) fit = tt
  payload_same world pid process lives blind (pay.Ring request) fit = request_same world pid process lives blind request fit

-- the site of a world stays
pub site_kept : (world : World) (call : Call) → (step world call).1.site ≡ world.site
site_kept world call = (told_stays world (call ∷ [])).1

pub replies_are_blind : RepliesAreBlind
replies_are_blind folder other world [] agree blind fit = record { replies = refl; runs = refl }
replies_are_blind folder other world (call ∷ calls) agree blind fit =
    let now : Exposes folder world → ⊥ = blind [] tt in
    let stepped = step_sited world.site other world call refl agree.spaces agree.systemd agree.io_uring (λ process lives. payload_same folder world.site other agree world call.pid process lives now call.payload fit.0.payload) in
    let next : World = (step world call).1 in
    let more = replies_are_blind folder other next calls (subst (λ (s : Site). AgreeOutside folder s other) (sym (site_kept world call)) agree) (λ list fits. blind (call ∷ list) (fit.0, fits)) fit.1 in
    record {
      replies = ap (λ (out : Reply × World). out.0 ∷ replies out.1 calls) stepped
          ∙ ap (λ (rs : List Reply). (step world call).0 ∷ rs) more.replies;
      runs = ap (λ (out : Reply × World). run out.1 calls) stepped ∙ more.runs;
    }
