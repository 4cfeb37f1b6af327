-- A launch, part by part.
use Rattle.std.proofs.Common.{◌≡◌, ℕ, Bool, true, false, cond, codes, List, [], ◌∷◌, ◌++◌, Ok, Err, refl, ap, ◌∙◌, sym, subst, length}
use Rattle.std.proofs.Common.{arith, eqb, Result}
use Rattle.std.specs.Prelude.{not, map, filter, ◌<◌, ◌^◌, ◌%◌, ◌&&◌, ◌||◌}
use Rattle.std.specs.List.{AllByRecursion}
use Rattle.std.proofs.lemmas.Bool.{and_parts, eqb-true, not-true}
use Rattle.std.proofs.lemmas.Bool.Decides.{nat_tests}
use Rattle.exec_settings.specs.abs_path.Paths.{Path}
use Rattle.kernel_laws.specs.bpf_code.declared.machine.CallData.{CallData}
use Rattle.kernel_laws.specs.bpf_code.declared.machine.Insn.{Insn}
use Rattle.kernel_laws.specs.bpf_code.declared.decision.Decision.TheVariants as decision
use Rattle.kernel_laws.specs.bpf_code.Stack.{decision_on}
use Rattle.exec_settings.specs.cap_sets.Sets.{has, none, all, single, union, cut, minus, IsWithin}
use Rattle.exec_settings.proofs.OfCapSets.Members.{within_self, within_through, none_within, union_within, single_within, within_union_left}
use Rattle.exec_settings.proofs.OfCapSets.Members.{within_union_right, cut_within_left, has_single, has_cut, has_minus, has_union}
use Rattle.kernel_laws.specs.call_table.Table as calls
use Rattle.exec_settings.specs.site_table.Table.{Site, row_at}
use Rattle.exec_settings.specs.site_table.declared.row.Row.{Row}
use Rattle.kernel_laws.specs.kern_creds.declared.creds.Creds.{Creds}
use Rattle.kernel_laws.specs.linux_numbers.Limits.{no_id}
use Rattle.kernel_laws.specs.kern_creds.Start as creds
use Rattle.kernel_laws.specs.kern_creds.Setresuid.{after_setresuid, after_setresgid}
use Rattle.kernel_laws.specs.kern_creds.Setgroups.{after_setgroups}
use Rattle.kernel_laws.specs.kern_creds.Capset.{after_capset}
use Rattle.kernel_laws.specs.kern_creds.Prctl.{after_drop_bounding, after_raise, after_set_keepcaps, after_set_no_new_privs, after_set_mdwe}
use Rattle.kernel_laws.specs.kern_creds.Exec.{is_privileged, after_exec}
use Rattle.kernel_laws.specs.kern_mounts.Finds.{Found, row, empty_directory, nothing, finds}
use Rattle.kernel_laws.specs.kern_mounts.Table as mounts
use Rattle.kernel_laws.specs.kern_mounts.declared.step.Flags.{Flags}
use Rattle.kernel_laws.specs.kernel_model.declared.kernel_calls.call.Call.{Call}
use Rattle.kernel_laws.specs.kernel_model.declared.kernel_calls.payload.Payload.TheVariants.{Nothing, OnePath, Sets, Ids, Code}
use Rattle.kernel_laws.specs.kernel_model.declared.kernel_calls.rule.Rule.TheVariants as rule
use Rattle.kernel_laws.specs.call_table.declared.call_names.rule.CallRule.TheVariants as known
use Rattle.kernel_laws.specs.kernel_model.kernel_calls.Operation as d
use Rattle.kernel_laws.specs.kernel_model.Effects.{Effect, SetCreds, Refuse, creds_effect, effect_of}
use Rattle.kernel_laws.specs.kernel_model.kern_files.Looking.{flags_at}
use Rattle.kernel_laws.specs.kernel_model.kern_files.Executing.{marks_of, executed as executed_by, exec_answer}
use Rattle.launcher.specs.Launch.{Wanted, LaunchStep, Launched, PrivilegedProgram, makes, first_call, prctl_step, capset_step, launch_step}
use Rattle.launcher.specs.Launch.{launch_steps, launch_from, mount_steps, with_unshare, is_privileged_row, group_steps, drop_steps}
use Rattle.launcher.specs.Launch.{inherit_steps, user_steps, raise_steps, left_steps, privilege_steps, memory_steps, identity_steps, filter_steps}
use Rattle.launcher.specs.Launch.{program_steps, give_up_steps, given_up_steps, last_steps, number_of, held, held_if, with_held, set_keepcaps, capbset_drop, set_no_new_privs, cap_ambient, ambient_raise, set_mdwe, set_mode_filter}
use Rattle.kernel_laws.specs.Kinds.{no_words}
use Rattle.kernel_laws.specs.Launched.{Launch, launch_of, passes}
use Rattle.exec_settings.specs.site_table.Kinds.{is_exe}
use Rattle.kernel_laws.specs.kern_mounts.Mounts.{plain as plain_mount}
use Rattle.kernel_laws.specs.kern_mounts.Split.{Table}
use Rattle.kernel_laws.specs.Questions.{if_so, count_from}
use Rattle.kernel_laws.specs.kernel_model.Runs.{IsDone}
use Rattle.kernel_laws.specs.kernel_model.declared.mount_namespace.MountNamespace.{MountNamespace}
use Rattle.kernel_laws.specs.kernel_model.MountNamespaces.{first_namespace}
use Rattle.kernel_laws.specs.kernel_model.World.{World, has_mdwe, start_world, of_number}
use Rattle.kernel_laws.specs.kernel_model.declared.reply.Reply.{Reply}
use Rattle.kernel_laws.specs.kernel_model.Step.{step, applied}
use Rattle.launcher.specs.Launches.{HasLaunchCalls, AreRead, IsLaunchedCreds, KeepsForUser, Leaves, LaunchLeaves}
use Rattle.mount_plan.specs.Host.{host_of as site_host}
use Rattle.launcher.proofs.HostRoot.{BeginsAtHostRoot, begins_at_host}
use Rattle.launcher.proofs.Leading.{Leads, launched_leads, leads_parts, leads_map, append_assoc, append_none, append_parts, clash}
use Rattle.launcher.proofs.MakingPlan.{plan_mounted}
use Rattle.launcher.proofs.RaisedAll.{counted_small, filter_keeps, filter_passes, all_raised}
use Rattle.launcher.proofs.Solo.{At, solo, only, weaker, passed, makes_creds, makes_creds_here, own_host, makes_push, does, creds_done, own_table}
use Rattle.launcher.proofs.LaunchCreds.{Has, starts, set_groups, set_gids, drops, set_all, keeps_caps, set_uid, Raised, raises, set_left}
use Rattle.launcher.proofs.LaunchCreds.{IsReady, GivesUp, no_new_privs, refuses_memory, ready_root, ready_user, gives_up, drops_kept, set_ambient, executed}
use Rattle.launcher.proofs.LaunchCalls.{launch_calls}
use Rattle.kernel_laws.specs.linux_numbers.Errnos.{eacces, einval}

module _ (table : calls.Table) (site : Site) (calls' : HasLaunchCalls table.calls) where
  abbrev Here : (Creds → Type 0) → List (List Insn) → Table → World → Type 0
  Here = At table site

  -- ---- the credentials
  module _ (stack : List (List Insn)) (plan : Table) where
    groups_set : (ids : List ℕ) (world : World) → Here (Has 0 all all none) stack plan world
        → IsDone (launch_step world (makes table.calls (codes "setgroups") 0 0 0 (Ids ids))).0
        → Here (Has 0 all all none) stack plan (launch_step world (makes table.calls (codes "setgroups") 0 0 0 (Ids ids))).1
    groups_set ids world at done =
        makes_creds table site (Has 0 all all none) (Has 0 all all none) (codes "setgroups") 0 0 0 (Ids ids) (rule.Known known.Setgroups)
        (d.Setgroups ids) (λ c. after_setgroups c ids) calls'.setgroups refl (λ host creds stack mounts owns. refl)
        (λ c now h is. set_groups 0 all all none ids c now h is) stack plan world at done

    gids_set : (gid : ℕ) (world : World) → Here (Has 0 all all none) stack plan world
        → IsDone (launch_step world (makes table.calls (codes "setresgid") gid gid gid Nothing)).0
        → Here (Has 0 all all none) stack plan (launch_step world (makes table.calls (codes "setresgid") gid gid gid Nothing)).1
    gids_set gid world at done =
        let g : ℕ = gid % 2 ^ 32 in
        makes_creds table site (Has 0 all all none) (Has 0 all all none) (codes "setresgid") gid gid gid Nothing
        (rule.Known known.Setresgid) (d.Setresgid g g g) (λ c. after_setresgid c g g g) calls'.setresgid refl
        (λ host creds stack mounts owns. refl)
        (λ c now h is. set_gids 0 all all none g c now h is) stack plan world at done

    dropped : (cap : ℕ) (world : World) → Here (Has 0 all all none) stack plan world
        → IsDone (launch_step world (prctl_step table.calls capbset_drop cap 0)).0
        → Here (Has 0 all all none) stack plan (launch_step world (prctl_step table.calls capbset_drop cap 0)).1
    dropped cap world at done =
        makes_creds table site (Has 0 all all none) (Has 0 all all none) (codes "prctl") 24 cap 0 Nothing (rule.Known known.Prctl)
        (d.Prctl 24 (cap % 2 ^ 32) 0 0 0) (λ c. after_drop_bounding c (cap % 2 ^ 32)) calls'.prctl refl
        (λ host creds stack mounts owns. refl)
        (λ c now h is. drops 0 all all (cap % 2 ^ 32) c now h is) stack plan world at done

    all_set : (amb : ℕ) (world : World) → Here (Has 0 all all none) stack plan world
        → IsDone (launch_step world (capset_step table.calls all all amb)).0
        → Here (Has 0 all all amb) stack plan (launch_step world (capset_step table.calls all all amb)).1
    all_set amb world at done =
        makes_creds table site (Has 0 all all none) (Has 0 all all amb) (codes "capset") 0 0 0 (Sets all all amb)
        (rule.Known known.Capset) (d.Capset all all amb) (λ c. after_capset c all all amb) calls'.capset refl
        (λ host creds stack mounts owns. refl)
        (λ c now h is. set_all 0 all all amb c now h is) stack plan world at done

    -- the capabilities of a list are made ambient
    raised_all : (uid p e i low : ℕ) (caps : List ℕ) (world last : World) → AllByRecursion (λ cap. cap < 2 ^ 32) caps
        → Here (λ c. Has uid p e i c × IsWithin low c.ambient) stack plan world
        → Leads world (map (λ cap. prctl_step table.calls cap_ambient ambient_raise cap) caps) last
        → Here (λ c. Has uid p e i c × IsWithin low c.ambient × AllByRecursion (λ cap. has c.ambient cap ≡ true) caps) stack plan last
    raised_all uid p e i low [] world last small at l = subst (Here _ stack plan) l
        (weaker table site _ _ stack plan world (λ c h. (h.0, h.1, tt)) at)
    raised_all uid p e i low (cap ∷ caps) world last small at l =
        let same : cap % 2 ^ 32 ≡ cap = omega arith in
        let own : ℕ = cap % 2 ^ 32 in
        let next = makes_creds table site (λ c. Has uid p e i c × IsWithin low c.ambient) (λ c. Has uid p e i c × IsWithin (union low (single own)) c.ambient) (codes "prctl") 47 2 cap Nothing (rule.Known known.Prctl) (d.Prctl 47 2 own 0 0) (λ c. after_raise c own) calls'.prctl refl (λ host creds stack mounts owns. refl)
        (λ c now h is. by c now h (raises uid p e i own c now h.0 is)) stack plan world at l.0 in
        weaker table site _ _ stack plan last (λ c h. (h.0, within_through low (union low (single own)) c.ambient (within_union_left low low (single own) (within_self low)) h.1, (ap (has c.ambient) (sym same) ∙ (h.1).each own (in_union own), h.2)))
        (raised_all uid p e i (union low (single own)) caps (launch_step world (prctl_step table.calls cap_ambient ambient_raise cap)).1
        last small.1 next l.1)
      where
        by : (c now : Creds) → Has uid p e i c × IsWithin low c.ambient → Has uid p e i now × Raised (cap % 2 ^ 32) c now
            → Has uid p e i now × IsWithin (union low (single (cap % 2 ^ 32))) now.ambient
        by c now h r = (r.0, union_within low (single (cap % 2 ^ 32)) now.ambient (within_through low c.ambient now.ambient h.1 (r.1).grown) (single_within (cap % 2 ^ 32) now.ambient (r.1).own))

        in_union : (own : ℕ) → has (union low (single own)) own ≡ true
        in_union own =
            let mine : has (single own) own ≡ true = has_single own own ∙ grind (arith, nat_tests) in
            (within_union_right (single own) low (single own) (within_self (single own))).each own mine

    -- ---- the filters
    pub record Filtered (Q : Creds → Type 0) (programs : List (List ℕ)) (own : List (List Insn)) (world : World) : Type 0 where
      pub codes' : List (List Insn)
      pub read : AreRead programs codes'
      pub at : Here Q (own ++ codes') plan world

    pub filtered : (Q : Creds → Type 0) (programs : List (List ℕ)) (own : List (List Insn)) (world last : World) → Here Q own plan world
        → Leads world (map (λ bytes. makes table.calls (codes "seccomp") set_mode_filter 0 0 (Code bytes)) programs) last
        → Filtered Q programs own last
    filtered Q [] own world last at l = record { codes' = []; read = tt; at = subst (λ (s : List (List Insn)). Here Q s plan last) (sym (append_none own)) (subst (Here Q own plan) l at) }
    filtered Q (bytes ∷ programs) own world last at l =
        let next = makes_push table site Q bytes calls'.seccomp own plan world at l.0 in
        let more = filtered Q programs (own ++ next.code ∷ []) (launch_step world (makes table.calls (codes "seccomp") set_mode_filter 0 0 (Code bytes))).1 last next.at l.1 in
        record { codes' = next.code ∷ more.codes'; read = (next.read, more.read); at = subst (λ (s : List (List Insn)). Here Q s plan last) (append_assoc own (next.code ∷ []) more.codes') more.at }

    nothing_new : (b : Bool) (uid amb i : ℕ) (own : List (List Insn)) (world last : World) → Here (IsReady uid amb i) own plan world
        → Leads world (if_so b (prctl_step table.calls set_no_new_privs 1 0)) last → Here (IsReady uid amb i) own plan last
    nothing_new true uid amb i own world last at l =
        subst (Here (IsReady uid amb i) own plan) l.1
        (makes_creds table site (IsReady uid amb i) (IsReady uid amb i) (codes "prctl") 38 1 0 Nothing (rule.Known known.Prctl) (d.Prctl 38 1 0 0 0)
        (λ c. Ok (after_set_no_new_privs c)) calls'.prctl refl (λ host creds stack mounts owns. refl)
        (λ c now h is. no_new_privs uid amb i c now h is) own plan world at l.0)
    nothing_new false uid amb i own world last at l = subst (Here (IsReady uid amb i) own plan) l at

    -- the mark that refuses memory, by whether the host has it
    abbrev marked : Bool → Creds → Result Creds ℕ
    marked mdwe c = cond mdwe (Ok (after_set_mdwe c)) (Err einval)

    mark_set : (mdwe : Bool) (c : Creds) → cond mdwe (SetCreds 0 (after_set_mdwe c)) (Refuse einval) ≡ creds_effect (marked mdwe c)
    mark_set true c = refl
    mark_set false c = refl

    mark_ready : (mdwe : Bool) (uid amb i : ℕ) (c now : Creds) → IsReady uid amb i c → marked mdwe c ≡ Ok now → IsReady uid amb i now
    mark_ready true uid amb i c now h is = refuses_memory uid amb i c now h is
    mark_ready false uid amb i c now h is = cc

    no_memory : (b : Bool) (uid amb i : ℕ) (own : List (List Insn)) (world last : World) → Here (IsReady uid amb i) own plan world
        → Leads world (if_so b (prctl_step table.calls set_mdwe 1 0)) last → Here (IsReady uid amb i) own plan last
    no_memory true uid amb i own world last at l =
        subst (Here (IsReady uid amb i) own plan) l.1
        (makes_creds_here table site (IsReady uid amb i) (IsReady uid amb i) (codes "prctl") 65 1 0 Nothing (rule.Known known.Prctl)
        (d.Prctl 65 1 0 0 0) (marked (has_mdwe site)) calls'.prctl refl (λ creds stack mounts owns. mark_set (has_mdwe site) creds)
        (λ c now h is. mark_ready (has_mdwe site) uid amb i c now h is) own plan world at l.0)
    no_memory false uid amb i own world last at l = subst (Here (IsReady uid amb i) own plan) l at

  -- ---- what was kept is given up, behind the filters
  -- the data of capset(2), as filters see it
  abbrev pub capset_data : CallData
  capset_data = record { nr = number_of table.calls (codes "capset"); arch = table.arch; ip = 0; args = 0 ∷ 0 ∷ 0 ∷ 0 ∷ 0 ∷ 0 ∷ [] }

  module _ (stack : List (List Insn)) (plan : Table) (uid amb left : ℕ) where
    abbrev Giving : World → Type 0
    Giving = Here (GivesUp uid amb left) stack plan

    abbrev IsGiven : ℕ → Type 0
    IsGiven cap = (cap < 2 ^ 32) × (has left cap ≡ false)

    given_all : (caps : List ℕ) (world last : World) → AllByRecursion IsGiven caps → Giving world
        → Leads world (map (λ cap. prctl_step table.calls capbset_drop cap 0) caps) last → Giving last
    given_all [] world last each at l = subst Giving l at
    given_all (cap ∷ caps) world last each at l =
        let small : cap < 2 ^ 32 = each.0.0 in
        let same : cap ≡ cap % 2 ^ 32 = omega arith in
        let lacks : has left (cap % 2 ^ 32) ≡ false = subst (λ n. has left n ≡ false) same each.0.1 in
        let next = makes_creds table site (GivesUp uid amb left) (GivesUp uid amb left) (codes "prctl") 24 cap 0 Nothing (rule.Known known.Prctl) (d.Prctl 24 (cap % 2 ^ 32) 0 0 0) (λ c. after_drop_bounding c (cap % 2 ^ 32)) calls'.prctl refl (λ host creds stack mounts owns. refl)
        (λ c now h is. drops_kept uid amb left (cap % 2 ^ 32) c now lacks h is) stack plan world at l.0 in
        given_all caps (launch_step world (prctl_step table.calls capbset_drop cap 0)).1 last each.1 next l.1

    -- capset(2), which is done, was let through
    pub record GivenUp (last : World) : Type 0 where
      pub at : Here (IsReady uid amb left) stack plan last
      pub passes : decision_on stack capset_data ≡ decision.Pass

    given_up : (i : ℕ) (caps : List ℕ) (world last : World) → eqb uid 0 ≡ false → IsWithin left i → IsWithin amb left
        → AllByRecursion IsGiven caps → Here (IsReady uid amb i) stack plan world
        → Leads world (map (λ cap. prctl_step table.calls capbset_drop cap 0) caps ++ capset_step table.calls amb amb left ∷ []) last
        → GivenUp last
    given_up i caps world last user below own each at l =
        let parts = leads_parts world (map (λ cap. prctl_step table.calls capbset_drop cap 0) caps) (capset_step table.calls amb amb left ∷ []) last l in
        let giving : Giving parts.mid = given_all caps world parts.mid each (weaker table site (IsReady uid amb i) (GivesUp uid amb left) stack plan world (λ c h. gives_up uid amb i left c user below h) at) parts.before in
        let done = makes_creds table site (GivesUp uid amb left) (IsReady uid amb left) (codes "capset") 0 0 0 (Sets amb amb left) (rule.Known known.Capset) (d.Capset amb amb left) (λ c. after_capset c amb amb left) calls'.capset refl (λ host creds stack mounts owns. refl)
        (λ c now h is. set_ambient uid amb left c now user own h is) stack plan parts.mid giving parts.after.0 in
        let call : Call = first_call table.calls (codes "capset") (0 ∷ 0 ∷ 0 ∷ 0 ∷ 0 ∷ 0 ∷ []) (Sets amb amb left) in
        let world' : World = solo table site giving.creds stack giving.namespace giving.spaces in
        let there : IsDone (step world' call).0 = subst (λ (v : World). IsDone (step v call).0) giving.is parts.after.0 in
        record {
          at = subst (Here (IsReady uid amb left) stack plan) parts.after.1 done;
          passes = passed table site world' call (only table site giving.creds stack giving.namespace) (decision_on stack capset_data) there;
        }

  -- the inheritable set behind that
  abbrev pub left_over : Wanted → ℕ
  left_over wanted = cond wanted.keeps_capabilities (union wanted.ambient (cut held wanted.bounding)) wanted.ambient

  pub record LeftOver (wanted : Wanted) (stack : List (List Insn)) (plan : Table) (last : World) : Type 0 where
    pub at : Here (IsReady wanted.uid wanted.ambient (left_over wanted)) stack plan last
    pub passes : wanted.keeps_capabilities ≡ true → decision_on stack capset_data ≡ decision.Pass

  module _ (stack : List (List Insn)) (plan : Table) (wanted : Wanted) (keeps : KeepsForUser wanted) where
    abbrev own : ℕ
    own = union wanted.ambient (cut held wanted.bounding)

    -- what the bounding set lacks is not left over
    lacking : wanted.keeps_capabilities ≡ true → (cap : ℕ) → has (minus held wanted.bounding) cap ≡ true → has own cap ≡ false
    lacking on cap h =
        let lacks : has wanted.bounding cap ≡ false = not-true (has wanted.bounding cap) (and_parts (has held cap) (not (has wanted.bounding cap)) (sym (has_minus held wanted.bounding cap) ∙ h)).1 in
        has_union wanted.ambient (cut held wanted.bounding) cap
        ∙ ap (λ b. has wanted.ambient cap || b) (has_cut held wanted.bounding cap ∙ ap (λ b. has held cap && b) lacks ∙ and_off (has held cap))
        ∙ or_off (has wanted.ambient cap) refl lacks
      where
        and_off : (b : Bool) → (b && false) ≡ false
        and_off true = refl
        and_off false = refl

        or_off : (b : Bool) → has wanted.ambient cap ≡ b → has wanted.bounding cap ≡ false → (b || false) ≡ false
        or_off false e lacks = refl
        or_off true e lacks = let there : has wanted.bounding cap ≡ true = (keeps.ambient on).each cap e in cc

    given_caps : wanted.keeps_capabilities ≡ true → AllByRecursion (λ cap. (cap < 2 ^ 32) × (has own cap ≡ false)) (filter (has (minus held wanted.bounding)) (count_from 0 41))
    given_caps on = filter_passes (λ n. n < 2 ^ 32) (λ cap. (cap < 2 ^ 32) × (has own cap ≡ false)) (has (minus held wanted.bounding)) (λ cap small h. (small, lacking on cap h))
        (count_from 0 41) (counted_small 0 41 (omega arith))

    own_below : IsWithin own (union wanted.ambient held)
    own_below = union_within wanted.ambient (cut held wanted.bounding) (union wanted.ambient held)
        (within_union_left wanted.ambient wanted.ambient held (within_self wanted.ambient))
        (within_union_right (cut held wanted.bounding) wanted.ambient held (cut_within_left held wanted.bounding held (within_self held)))

    abbrev After : Bool → World → Type 0
    After b last = Here (IsReady wanted.uid wanted.ambient (cond b own wanted.ambient)) stack plan last
        × (b ≡ true → decision_on stack capset_data ≡ decision.Pass)

    leaves_by : (b : Bool) → wanted.keeps_capabilities ≡ b → (world last : World)
        → Here (IsReady wanted.uid wanted.ambient (with_held b wanted.ambient)) stack plan world
        → Leads world (cond b (given_up_steps table.calls (minus held wanted.bounding)
        ++ capset_step table.calls wanted.ambient wanted.ambient own ∷ []) []) last
        → After b last
    leaves_by true on world last at l =
        let g = given_up stack plan wanted.uid wanted.ambient own (union wanted.ambient held) (filter (has (minus held wanted.bounding)) (count_from 0 41)) world last (keeps.user on) own_below
        (within_union_left wanted.ambient wanted.ambient (cut held wanted.bounding) (within_self wanted.ambient)) (given_caps on) at l in
        (g.at, λ e. g.passes)
    leaves_by false off world last at l =
        (subst (Here (IsReady wanted.uid wanted.ambient wanted.ambient) stack plan) l at, λ e. absurd (clash false e refl))

    pub left_behind : (world last : World) → Here (IsReady wanted.uid wanted.ambient (with_held wanted.keeps_capabilities wanted.ambient)) stack plan world
        → Leads world (give_up_steps table.calls wanted) last → LeftOver wanted stack plan last
    left_behind world last at l =
        let done = leaves_by wanted.keeps_capabilities refl world last at l in
        record { at = done.0; passes = done.1 }

  -- ---- the program
  record Executes (creds : Creds) (effect : Effect) : Type 0 where
    pub file : _
    pub nosuid : Bool
    pub plain : is_privileged file ≡ false
    pub is : effect ≡ creds_effect (after_exec creds file nosuid)

  executes : (creds : Creds) (stack : List (List Insn)) (namespace : ℕ) (spaces : List MountNamespace) (flags : Flags) (found : Found Row)
      → is_privileged_row found ≡ false
      → IsDone (applied (solo table site creds stack namespace spaces) 1 (only table site creds stack namespace)
      (creds_effect (exec_answer creds flags found))).0 → Executes creds (creds_effect (exec_answer creds flags found))
  executes creds stack namespace spaces flags (row own) unmarked done = by (is_exe own.kind) flags.no_exec unmarked done
    where
      by : (b c : Bool) → (b && is_privileged (marks_of own)) ≡ false
          → IsDone (applied (solo table site creds stack namespace spaces) 1 (only table site creds stack namespace)
          (creds_effect (executed_by creds
          (cond (not b) (Err eacces) (cond c (Err eacces) (Ok (record { file = marks_of own; no_suid = flags.no_suid }))))))).0
          → Executes creds (creds_effect
          (executed_by creds (cond (not b) (Err eacces)
          (cond c (Err eacces) (Ok (record { file = marks_of own; no_suid = flags.no_suid }))))))
      by false c unmarked done = absurd done
      by true true unmarked done = absurd done
      by true false unmarked done = record { file = marks_of own; nosuid = flags.no_suid; plain = unmarked; is = refl }
  executes creds stack namespace spaces flags empty_directory unmarked done = absurd done
  executes creds stack namespace spaces flags (nothing errno) unmarked done = absurd done

  executed_here : (uid amb i kept : ℕ) (program : Path) (stack : List (List Insn)) (plan : Table) (world last : World)
      → is_privileged_row (finds (row_at site.rows) plan program) ≡ false → IsWithin i (union amb kept)
      → Here (IsReady uid amb i) stack plan world → Leads world (makes table.calls (codes "execve") 0 0 0 (OnePath program) ∷ []) last
      → Here (IsLaunchedCreds kept) stack plan last
  executed_here uid amb i kept program stack plan world last unmarked spares at l =
      let own : World = solo table site at.creds stack at.namespace at.spaces in
      let call : Call = first_call table.calls (codes "execve") (0 ∷ 0 ∷ 0 ∷ 0 ∷ 0 ∷ 0 ∷ []) (OnePath program) in
      let done : IsDone (step own call).0 = subst (λ (v : World). IsDone (step v call).0) at.is l.0 in
      let same = own_table table site at.creds stack at.namespace at.spaces plan at.own in
      let stepped = does table site at.creds stack at.namespace at.spaces call.nr call.args (OnePath program) (rule.Known known.Execve) (d.Execve program) calls'.execve refl done
      ∙ ap (λ (t : Table). applied own 1 (only table site at.creds stack at.namespace) (creds_effect (exec_answer at.creds (flags_at t program) (finds (row_at site.rows) t program)))) same in
      let done' = subst (λ (out : Reply × World). IsDone out.0) stepped done in
      let e = executes at.creds stack at.namespace at.spaces (flags_at plan program) (finds (row_at site.rows) plan program) unmarked done' in
      let whole = stepped ∙ ap (λ (effect : Effect). applied own 1 (only table site at.creds stack at.namespace) effect) e.is in
      let found = creds_done table site at.creds stack at.namespace at.spaces (after_exec at.creds e.file e.nosuid) (subst (λ (out : Reply × World). IsDone out.0) whole done) in
      record {
        creds = found.0;
        namespace = at.namespace;
        spaces = at.spaces;
        as_asked = executed uid amb i kept e.file e.nosuid at.creds at.as_asked spares e.plain found.0 found.1;
        is = sym l.1 ∙ ap (λ (v : World). (step v call).1) at.is ∙ ap (λ (out : Reply × World). out.1) whole ∙ found.2;
        own = at.own;
      }

  -- ---- from the first capset to the last
  module _ (plan : Table) (uid amb i : ℕ) (small : uid < no_id) (own : IsWithin amb i) where
    low : uid % 2 ^ 32 ≡ uid
    low = omega arith

    caps_small : AllByRecursion (λ n. n < 2 ^ 32) (filter (has amb) (count_from 0 41))
    caps_small = filter_keeps (λ n. n < 2 ^ 32) (has amb) (count_from 0 41) (counted_small 0 41 (omega arith))

    user_ready : (b : Bool) → eqb uid 0 ≡ b → (world one two last : World) → Here (Has 0 all all i) [] plan world
        → Leads world (cond b [] (prctl_step table.calls set_keepcaps 1 0 ∷ makes table.calls
        (codes "setresuid") uid uid uid Nothing ∷ [])) one
        → Leads one (map (λ cap. prctl_step table.calls cap_ambient ambient_raise cap) (filter (has amb) (count_from 0 41))) two
        → Leads two (cond b [] (capset_step table.calls i i i ∷ [])) last
        → Here (IsReady uid amb i) [] plan last
    user_ready true is world one two last at l m n =
        let zero' : 0 ≡ uid = sym (eqb-true uid 0 is) in
        let before : Here (Has 0 all all i) [] plan one = subst (Here (Has 0 all all i) [] plan) l at in
        let raised = raised_all [] plan 0 all all i none (filter (has amb) (count_from 0 41)) one two caps_small (weaker table site (Has 0 all all i) (λ c. Has 0 all all i c × IsWithin none c.ambient) [] plan one (λ c h. (h, none_within c.ambient)) before) m in
        subst (Here (IsReady uid amb i) [] plan) n
        (weaker table site (λ c. Has 0 all all i c × IsWithin none c.ambient × AllByRecursion (λ cap. has c.ambient cap ≡ true)
        (filter (has amb) (count_from 0 41))) (IsReady uid amb i) [] plan two
        (λ c h. ready_root uid amb i c is (subst (λ (u : ℕ). Has u all all i c) zero' h.0)) raised)
    user_ready false is world one two last at l m n =
        let other : eqb (uid % 2 ^ 32) 0 ≡ false = ap (λ u. eqb u 0) low ∙ is in
        let taken : eqb (uid % 2 ^ 32) no_id ≡ false = grind (arith, nat_tests) in
        let kept = makes_creds table site (Has 0 all all i) (λ c. Has 0 all all i c × (c.keepcaps ≡ true)) (codes "prctl") 8 1 0 Nothing (rule.Known known.Prctl) (d.Prctl 8 1 0 0 0) (λ c. Ok (after_set_keepcaps c true)) calls'.prctl refl (λ host creds stack mounts owns. refl)
        (λ c now h is'. keeps_caps 0 all all i c now h is') [] plan world at l.0 in
        let next : World = (launch_step world (prctl_step table.calls set_keepcaps 1 0)).1 in
        let u : ℕ = uid % 2 ^ 32 in
        let set = makes_creds table site (λ c. Has 0 all all i c × (c.keepcaps ≡ true)) (Has u all none i) (codes "setresuid") uid uid uid Nothing (rule.Known known.Setresuid) (d.Setresuid u u u) (λ c. after_setresuid c u u u) calls'.setresuid refl (λ host creds stack mounts owns. refl)
        (λ c now h is'. set_uid u all all i taken other c now h is') [] plan next kept l.1.0 in
        let there : World = (launch_step next (makes table.calls (codes "setresuid") uid uid uid Nothing)).1 in
        let before : Here (Has u all none i) [] plan one = subst (Here (Has u all none i) [] plan) l.1.1 set in
        let raised = raised_all [] plan u all none i none (filter (has amb) (count_from 0 41)) one two caps_small (weaker table site (Has u all none i) (λ c. Has u all none i c × IsWithin none c.ambient) [] plan one (λ c h. (h, none_within c.ambient)) before) m in
        let held' = weaker table site (λ c. Has u all none i c × IsWithin none c.ambient × AllByRecursion (λ cap. has c.ambient cap ≡ true) (filter (has amb) (count_from 0 41))) (λ c. Has u all none i c × IsWithin amb c.ambient) [] plan two
        (λ c h. (h.0, all_raised amb c (within_through amb i all own (within_through i c.bounding all (h.0).inheritable_bounding (h.0).bounding)) h.2)) raised in
        let done = makes_creds table site (λ c. Has u all none i c × IsWithin amb c.ambient) (λ c. Has u i i i c × IsWithin amb c.ambient) (codes "capset") 0 0 0 (Sets i i i) (rule.Known known.Capset) (d.Capset i i i) (λ c. after_capset c i i i) calls'.capset refl (λ host creds stack mounts owns. refl)
        (λ c now h is'. set_left u all none i amb c now h own is') [] plan two held' n.0 in
        let end : World = (launch_step two (capset_step table.calls i i i)).1 in
        subst (Here (IsReady uid amb i) [] plan) n.1
        (weaker table site (λ c. Has u i i i c × IsWithin amb c.ambient) (IsReady uid amb i) [] plan end
        (λ c h. ready_user uid amb i c is (subst (λ (v : ℕ). Has v i i i c) low h.0, h.1)) done)

  ambient_held : (b : Bool) (set : ℕ) → IsWithin set (with_held b set)
  ambient_held true set = within_union_left set set held (within_self set)
  ambient_held false set = within_self set

  pub ready_at : (wanted : Wanted) (plan : Table) (last : World) → BeginsAtHostRoot plan → wanted.uid < no_id
      → Leads (start_world table site) (with_unshare table.calls (mount_steps plan) ++ identity_steps table.calls wanted) last
      → Here (IsReady wanted.uid wanted.ambient (with_held wanted.keeps_capabilities wanted.ambient)) [] plan last
  ready_at wanted plan last begins small l =
      let lines = table.calls in
      let inherited : ℕ = with_held wanted.keeps_capabilities wanted.ambient in
      let start : Here (Has 0 all all none) [] mounts.start (start_world table site) = record { creds = creds.start; namespace = 1; spaces = first_namespace ∷ []; as_asked = starts; is = refl; own = refl } in
      let own = leads_parts (start_world table site) (with_unshare lines (mount_steps plan)) (identity_steps lines wanted) last l in
      let memory = leads_parts own.mid (group_steps lines wanted ++ drop_steps lines wanted ++ inherit_steps lines wanted ++ user_steps lines wanted ++ raise_steps lines wanted ++ left_steps lines wanted ++ privilege_steps lines wanted) (memory_steps lines wanted) last own.after in
      let privs = leads_parts own.mid (group_steps lines wanted ++ drop_steps lines wanted ++ inherit_steps lines wanted ++ user_steps lines wanted ++ raise_steps lines wanted ++ left_steps lines wanted) (privilege_steps lines wanted) memory.mid memory.before in
      let left' = leads_parts own.mid (group_steps lines wanted ++ drop_steps lines wanted ++ inherit_steps lines wanted ++ user_steps lines wanted ++ raise_steps lines wanted) (left_steps lines wanted) privs.mid privs.before in
      let raise = leads_parts own.mid (group_steps lines wanted ++ drop_steps lines wanted ++ inherit_steps lines wanted ++ user_steps lines wanted) (raise_steps lines wanted) left'.mid left'.before in
      let user = leads_parts own.mid (group_steps lines wanted ++ drop_steps lines wanted ++ inherit_steps lines wanted) (user_steps lines wanted) raise.mid raise.before in
      let inherit = leads_parts own.mid (group_steps lines wanted ++ drop_steps lines wanted) (inherit_steps lines wanted) user.mid user.before in
      let drop = leads_parts own.mid (group_steps lines wanted) (drop_steps lines wanted) inherit.mid inherit.before in
      let planned = plan_mounted table site calls' (Has 0 all all none) [] plan (start_world table site) own.mid begins start own.before in
      let grouped = groups_set [] plan wanted.groups own.mid planned drop.before.0 in
      let gids = gids_set [] plan wanted.gid (launch_step own.mid (makes lines (codes "setgroups") 0 0 0 (Ids wanted.groups))).1 grouped drop.before.1.0 in
      let done_groups : Here (Has 0 all all none) [] plan drop.mid = subst (Here (Has 0 all all none) [] plan) drop.before.1.1 gids in
      let dropped' = leads_map (Here (Has 0 all all none) [] plan) (λ cap. prctl_step lines capbset_drop cap 0) (filter (λ cap. not (has (with_held wanted.keeps_capabilities wanted.bounding) cap)) (count_from 0 41)) drop.mid inherit.mid (λ cap' world at done. dropped [] plan cap' world at done) done_groups drop.after in
      let set = all_set [] plan inherited inherit.mid dropped' inherit.after.0 in
      let done_set : Here (Has 0 all all inherited) [] plan user.mid = subst (Here (Has 0 all all inherited) [] plan) inherit.after.1 set in
      let ready = user_ready plan wanted.uid wanted.ambient inherited small (ambient_held wanted.keeps_capabilities wanted.ambient) (eqb wanted.uid 0) refl user.mid raise.mid left'.mid privs.mid done_set user.after raise.after left'.after in
      let new = nothing_new [] plan wanted.no_new_privs wanted.uid wanted.ambient inherited [] privs.mid memory.mid ready privs.after in
      no_memory [] plan wanted.mdwe wanted.uid wanted.ambient inherited [] memory.mid last new memory.after

  -- what the steps before the program leave, and the steps of the program
  pub record BeforeProgram (wanted : Wanted) (plan : Table) (last : World) : Type 0 where
    pub mid : World
    pub stack : List (List Insn)
    pub read : AreRead wanted.programs stack
    pub left : LeftOver wanted stack plan mid
    pub runs : Leads mid (program_steps table.calls wanted.program) last

  pub before_program : (wanted : Wanted) (plan : Table) (last : World) → BeginsAtHostRoot plan → wanted.uid < no_id → KeepsForUser wanted
      → Leads (start_world table site) (launch_steps table.calls wanted plan) last → BeforeProgram wanted plan last
  before_program wanted plan last begins small keeps l =
      let lines = table.calls in
      let mounting = with_unshare lines (mount_steps plan) in
      let ready' : Creds → Type 0 = IsReady wanted.uid wanted.ambient (with_held wanted.keeps_capabilities wanted.ambient) in
      let joined : launch_steps lines wanted plan ≡ ((mounting ++ identity_steps lines wanted) ++ filter_steps lines wanted.programs) ++ last_steps lines wanted =
      sym (append_parts mounting (identity_steps lines wanted) (filter_steps lines wanted.programs) (last_steps lines wanted)) in
      let l' = subst (λ (steps : List LaunchStep). Leads (start_world table site) steps last) joined l in
      let rest = leads_parts (start_world table site) ((mounting ++ identity_steps lines wanted) ++ filter_steps lines wanted.programs) (last_steps lines wanted) last l' in
      let push = leads_parts (start_world table site) (mounting ++ identity_steps lines wanted) (filter_steps lines wanted.programs) rest.mid rest.before in
      let ready = ready_at wanted plan push.mid begins small push.before in
      let filters = filtered [] plan ready' wanted.programs [] push.mid rest.mid ready push.after in
      let exec = leads_parts rest.mid (give_up_steps lines wanted) (program_steps lines wanted.program) last rest.after in
      record {
        mid = exec.mid;
        stack = filters.codes';
        read = filters.read;
        left = left_behind filters.codes' plan wanted keeps rest.mid exec.mid filters.at exec.before;
        runs = exec.after;
      }

  -- what is left over is ambient, but for what was kept
  spares_kept : (wanted : Wanted) → IsWithin (left_over wanted) (union wanted.ambient (held_if wanted.keeps_capabilities))
  spares_kept wanted = by wanted.keeps_capabilities
    where
      by : (b : Bool) → IsWithin (cond b (union wanted.ambient (cut held wanted.bounding)) wanted.ambient) (union wanted.ambient (held_if b))
      by true = union_within wanted.ambient (cut held wanted.bounding) (union wanted.ambient held)
          (within_union_left wanted.ambient wanted.ambient held (within_self wanted.ambient))
          (within_union_right (cut held wanted.bounding) wanted.ambient held (cut_within_left held wanted.bounding held (within_self held)))
      by false = within_union_left wanted.ambient wanted.ambient none (within_self wanted.ambient)

  -- what the whole launch leaves
  record AtEnd (wanted : Wanted) (plan : Table) (last : World) : Type 0 where
    stack : List (List Insn)
    read : AreRead wanted.programs stack
    at : Here (IsLaunchedCreds (held_if wanted.keeps_capabilities)) stack plan last
    passes : wanted.keeps_capabilities ≡ true → decision_on stack capset_data ≡ decision.Pass

  launched_at : (wanted : Wanted) (plan : Table) (last : World) → BeginsAtHostRoot plan → wanted.uid < no_id → KeepsForUser wanted
      → is_privileged_row (finds (row_at site.rows) plan wanted.program) ≡ false
      → Leads (start_world table site) (launch_steps table.calls wanted plan) last → AtEnd wanted plan last
  launched_at wanted plan last begins small keeps unmarked l =
      let before = before_program wanted plan last begins small keeps l in
      record {
        stack = before.stack;
        read = before.read;
        at = executed_here wanted.uid wanted.ambient (left_over wanted) (held_if wanted.keeps_capabilities) wanted.program before.stack plan
            before.mid last unmarked (spares_kept wanted) before.left.at before.runs;
        passes = before.left.passes;
      }

leaves : (table : calls.Table) (site : Site) (calls' : HasLaunchCalls table.calls) (wanted : Wanted) (plan : Table) (last : World)
    → AtEnd table site calls' wanted plan last → Leaves table site wanted plan last
leaves table site calls' wanted plan last f =
    let at = f.at in
    let same = own_table table site at.creds f.stack at.namespace at.spaces plan at.own in
    let own : Launch = record { calls = table; site = site; creds = at.creds; stack = f.stack; table = plan } in
    let shown : launch_of last ≡ own = ap launch_of at.is ∙ ap (λ (t : Table). record { calls = table; site = site; creds = at.creds; stack = f.stack; table = t }) same in
    record {
      creds = at.creds;
      stack = f.stack;
      namespace = at.namespace;
      is = shown;
      alone = ap (λ (v : World). v.processes) at.is;
      own = ap (λ (v : World). of_number v.namespaces at.namespace) at.is ∙ at.own;
      no_users = ap (λ (v : World). v.users) at.is;
      as_launched = at.as_asked;
      capset_passes = λ on. subst (λ (l : Launch). passes l 0 (number_of table.calls (codes "capset")) no_words) (sym shown) (f.passes on);
      read = f.read;
    }

pub launch_leaves : LaunchLeaves
launch_leaves table site wanted plan last steps whole can small keeps e =
    by (is_privileged_row (finds (row_at site.rows) plan wanted.program)) refl e
  where
    by : (b : Bool) → is_privileged_row (finds (row_at site.rows) plan wanted.program) ≡ b
        → cond b (PrivilegedProgram wanted.program) (launch_from (start_world table site) (launch_steps table.calls wanted plan) 0)
        ≡ Launched last steps
        → Leaves table site wanted plan last × (steps ≡ length (launch_steps table.calls wanted plan))
    by true is e = cc
    by false is e =
        let calls' = launch_calls table whole in
        let l = launched_leads (start_world table site) (launch_steps table.calls wanted plan) 0 last steps e in
        (leaves table site calls' wanted plan last (launched_at table site calls' wanted plan last (begins_at_host (site_host site) plan can) small keeps is l.0), l.1 ∙ omega arith)
