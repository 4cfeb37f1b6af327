-- Each capability of the computed ceiling is gained by some calls.
use Rattle.std.proofs.Common.{◌≡◌, ℕ, Bool, true, false, List, [], ◌∷◌, ◌++◌, Option, Some, None, refl, ap, ◌∙◌, sym, subst, cond, eqb, ◌⊎◌}
use Rattle.std.proofs.Common.{inl, inr, arith, ◌<◌, suc}
use Rattle.std.specs.Prelude.{slice_get, not, ◌&&◌, ◌||◌, ◌^◌, ◌==◌}
use Rattle.std.proofs.lemmas.Bool.{and_parts, or_cases, or_parts, not-true, not-false, eqb-true}
use Rattle.launcher.specs.cap_sets.Sets.{has, none, cut, within}
use Rattle.launcher.proofs.OfCapSets.Members.{has_cut, has_union, has_none}
use Rattle.launcher.specs.site_table.declared.row.Row.{Row}
use Rattle.launcher.specs.kern_creds.declared.creds.Creds.{Creds}
use Rattle.launcher.specs.kern_creds.declared.ids.Ids.{Ids}
use Rattle.launcher.specs.kern_creds.Exec.{exec_done, exec_uids, honours, owner_or, is_set_id}
use Rattle.launcher.specs.kern_creds.declared.file.FileCreds.{FileCreds}
use Rattle.launcher.specs.kern_creds.Capset.{with_sets}
use Rattle.launcher.specs.kern_creds.RootChange.{with_uids, after_switch, after_leaving_root, has_root}
use Rattle.launcher.specs.kernel_laws.Bound.{is_owner, is_barred, can_run, file_gain, gain_at, gathered, when, caps_before, caps_at}
use Rattle.launcher.specs.kernel_laws.Bound.{with_root, power_by, power_of}
use Rattle.launcher.specs.kernel_model.declared.kernel_calls.call.Call.{Call}
use Rattle.launcher.specs.kernel_model.kern_files.Executing.{marks_of}
use Rattle.launcher.specs.kernel_model.kern_files.Looking.{flags_at}
use Rattle.launcher.specs.kernel_laws.declared.question_types.kind.CallKind.TheVariants.{SetsCaps, TakesUid, TakesGid, ChangesMounts}
use Rattle.launcher.specs.kernel_laws.declared.question_types.kind.CallKind.TheVariants.{RemovesMounts}
use Rattle.launcher.specs.kernel_laws.declared.question_types.power.Power.{Power}
use Rattle.launcher.specs.kernel_laws.declared.question_types.power.Power.TheVariants.{None as Nowise, Unmount as Unmounting}
use Rattle.launcher.specs.kernel_laws.declared.question_types.power.Power.TheVariants.{Mount as Mounting}
use Rattle.launcher.specs.kernel_laws.Launched.{Launch, IsLaunched, lets}
use Rattle.launcher.specs.site_table.Kinds.{is_exe}
use Rattle.launcher.specs.kern_mounts.Split.{Table}
use Rattle.launcher.specs.kernel_laws.Reach.{reaches_with, runs_marked}
use Rattle.reach_paths.proofs.Found.{can_be_remounted}
use Rattle.reach_paths.specs.declared.needs.Need.TheVariants.{Marked}
use Rattle.kernel_ways.specs.Offers.{Offers}
use Rattle.kernel_ways.specs.Taking.{id_call, sets_call}
use Rattle.kernel_ways.specs.Ways.{place_of, Way, here, by_creds}
use Rattle.kernel_ways.proofs.Solo.{way_join}
use Rattle.kernel_ways.proofs.Avoiding.{Avoids, avoid_one, avoid_join}
use Rattle.kernel_ways.proofs.Lines.{some_line}
use Rattle.kernel_ways.proofs.Privileged.{ids_by, effective_by, capset_call, uid_call}
use Rattle.kernel_ways.proofs.Exposing.{exposed, HasPower}
use Rattle.kernel_ways.proofs.Rows.{IsKnown, known_at, known_found, owner_alone, no_bit}
use Rattle.kernel_ways.proofs.Gains as gains
use Rattle.kernel_ways.proofs.Gains.{Basis, Runnable, RunnableBy, runs, common_small}

-- a member of the union over the rows is a member of some row's part
pub gathered_from : (f : Row → ℕ) (rows : List Row) (number : ℕ) → has (gathered f rows) number ≡ true
    → (at : ℕ) × (target : Row) × (slice_get rows at ≡ Some target) × (has (f target) number ≡ true)
gathered_from f [] number h = let off = has_none number in cc
gathered_from f (first ∷ rows) number h = elim (or_cases _ _ (sym (has_union (f first) (gathered f rows) number) ∙ h)) [
  | inl here' ↦ (0, first, refl, here')
  | inr there ↦ (let m = gathered_from f rows number there in (suc m.0, m.1, m.2, m.3))
]

-- execve leaves uid 0 where it is
abbrev pub IsRootlike : Row → Type 0
IsRootlike target = (is_owner 0 target.setuid ≡ true) ⊎ (target.setuid ≡ None)

-- ---- a change of the uids keeps the rest
module _ (launch : Launch) where
  basis_leaving : (b : Bool) (creds : Creds) → Basis launch creds → Basis launch (after_leaving_root b creds)
  basis_leaving true creds b = record { bounding = b.bounding; inheritable = b.inheritable; mark = b.mark }
  basis_leaving false creds b = b

  basis_switch : (was is : Bool) (creds : Creds) → Basis launch creds → Basis launch (after_switch was is creds)
  basis_switch true true creds b = b
  basis_switch true false creds b = record { bounding = b.bounding; inheritable = b.inheritable; mark = b.mark }
  basis_switch false true creds b = record { bounding = b.bounding; inheritable = b.inheritable; mark = b.mark }
  basis_switch false false creds b = b

  pub basis_uids : (creds : Creds) (ids : Ids) → Basis launch creds → Basis launch (with_uids creds ids)
  basis_uids creds ids b =
      let p = has_root creds.uids && not (has_root ids) in
      let base : Creds = record creds { uids = ids } in
      basis_switch (eqb creds.uids.effective 0) (eqb ids.effective 0) (after_leaving_root p base)
      (basis_leaving p base (record { bounding = b.bounding; inheritable = b.inheritable; mark = b.mark }))

uids_switch : (was is : Bool) (creds : Creds) → (after_switch was is creds).uids ≡ creds.uids
uids_switch true true creds = refl
uids_switch true false creds = refl
uids_switch false true creds = refl
uids_switch false false creds = refl

uids_leaving : (b : Bool) (creds : Creds) → (after_leaving_root b creds).uids ≡ creds.uids
uids_leaving true creds = refl
uids_leaving false creds = refl

pub uids_after : (creds : Creds) (ids : Ids) → (with_uids creds ids).uids ≡ ids
uids_after creds ids =
    let p = has_root creds.uids && not (has_root ids) in
    let base : Creds = record creds { uids = ids } in
    uids_switch (eqb creds.uids.effective 0) (eqb ids.effective 0) (after_leaving_root p base) ∙ uids_leaving p base

-- a file that is not privileged has no owner's bit and no capabilities
pub unmarked : (uid gid : Option ℕ) (caps : ℕ) → ((is_set_id uid || is_set_id gid) || not (caps == none)) ≡ false
    → (uid ≡ None) × (caps ≡ none)
unmarked uid gid caps e =
    let both = or_parts (is_set_id uid || is_set_id gid) (not (caps == none)) e in
    let ids = or_parts (is_set_id uid) (is_set_id gid) both.0 in
    (by uid ids.0, eqb-true caps none (not-false (caps == none) both.1))
  where
    by : (o : Option ℕ) → is_set_id o ≡ false → o ≡ None
    by None e = refl
    by (Some id) e = cc

pub stays_zero : (owner : Option ℕ) (id : ℕ) → (is_owner 0 owner ≡ true) ⊎ (owner ≡ None) → eqb id 0 ≡ true
    → eqb (owner_or owner id) 0 ≡ true
stays_zero None id like z = z
stays_zero (Some owner) id (inl e) z = e
stays_zero (Some owner) id (inr e) z = cc

-- and so it does where the marks of the file are not looked at
pub runs_as_zero : (creds : Creds) (file : FileCreds) (no_suid : Bool) → (is_owner 0 file.setuid ≡ true) ⊎ (file.setuid ≡ None)
    → eqb creds.uids.effective 0 ≡ true → eqb (exec_uids creds file no_suid).effective 0 ≡ true
runs_as_zero creds file no_suid like zero = by (honours creds no_suid)
  where
    by : (b : Bool) → eqb (cond b (owner_or file.setuid creds.uids.effective) creds.uids.effective) 0 ≡ true
    by true = stays_zero file.setuid creds.uids.effective like zero
    by false = zero

module _ (launch : Launch) (l : IsLaunched launch) (o : Offers launch) where
  -- credentials from which uid 0 can be had again by the same row
  pub record Gained (spares : Bool) (from : Creds) (start now : Table) (number : ℕ) : Type 0 where
    pub calls : List Call
    pub creds : Creds
    pub way : Way launch from start calls creds now
    pub basis : Basis launch creds
    pub holds : has creds.effective number ≡ true
    pub target : Row
    -- the mount of the row has nosuid
    pub no_suid : Bool
    pub again : RunnableBy no_suid launch now target
    pub rootlike : IsRootlike target
    pub no_uid : spares ≡ true → Avoids launch TakesUid calls
    pub no_gid : Avoids launch TakesGid calls

  abbrev program : Row
  program = o.program.program

  program_known : IsKnown launch.site program
  program_known = known_found launch.site launch.table o.program.found.path program o.program.found.is_found

  program_marks : (program.setuid ≡ None) × (program.caps ≡ none)
  program_marks = unmarked program.setuid program.setgid program.caps o.program.plain

  -- whether the mount of the program has nosuid: its marks are none
  abbrev program_no_suid : Bool
  program_no_suid = (flags_at launch.table o.program.found.path).no_suid

  program_runs : RunnableBy program_no_suid launch launch.table program
  program_runs = record {
    found = o.program.found;
    known = program_known;
    exe = o.program.exe;
    suid = refl;
    free = ap (λ b. b && not (within program.caps launch.creds.bounding)) (no_bit launch.site program o.site program_known program_marks.1);
  }

  basis_exec : (creds : Creds) (target : Row) (no_suid : Bool) → Basis launch creds → Basis launch (exec_done creds (marks_of target) no_suid)
  basis_exec creds target no_suid b = record { bounding = b.bounding; inheritable = b.inheritable; mark = b.mark }

  basis_launch : Basis launch launch.creds
  basis_launch = record { bounding = refl; inheritable = refl; mark = refl }

  -- what is exposed can be run
  pub record Shown (creds : Creds) (power : Power) (target : Row) : Type 0 where
    pub calls : List Call
    pub now : Table
    pub way : Way launch creds launch.table calls creds now
    pub runnable : Runnable launch now target
    pub still : power ≡ Nowise → now ≡ launch.table
    pub no_uid : Avoids launch TakesUid calls
    pub no_gid : Avoids launch TakesGid calls

  pub exposed_runs : (power : Power) (creds : Creds) (target : Row) → IsKnown launch.site target → HasPower launch creds power
      → can_run launch power target ≡ true → Shown creds power target
  exposed_runs power creds target known h c =
      let parts = and_parts (is_exe target.kind && reaches_with power launch.table target.path runs_marked) (not (is_barred launch target)) c in
      let inner = and_parts (is_exe target.kind) (reaches_with power launch.table target.path runs_marked) parts.0 in
      let x = exposed launch l o creds target known runs_marked (can_be_remounted Marked) power h inner.1 in
      let flags = flags_at x.now x.found.path in
      let allowed = and_parts (not flags.no_exec) (not flags.no_suid) x.found.is_allowed in
      record {
        calls = x.calls;
        now = x.now;
        way = x.way;
        runnable = record {
          found = record { path = x.found.path; can_be_named = x.found.can_be_named; is_found = x.found.is_found; is_allowed = allowed.0 };
          known = known;
          exe = inner.0;
          suid = not-true flags.no_suid allowed.1;
          free = not-true (is_barred launch target) parts.1;
        };
        still = x.still;
        no_uid = x.no_uid;
        no_gid = x.no_gid;
      }

  -- held at launch
  pub at_launch : (spares : Bool) (number : ℕ) → has launch.creds.effective number ≡ true
      → Gained spares launch.creds launch.table launch.table number
  at_launch spares number h = record { calls = []; creds = launch.creds; way = here; basis = basis_launch; holds = h; target = program; no_suid = program_no_suid; again = program_runs; rootlike = inr program_marks.0; no_uid = λ e. tt; no_gid = tt }

  module _ (free : launch.creds.no_new_privs ≡ false) where
    off_of : (creds : Creds) → Basis launch creds → creds.no_new_privs ≡ false
    off_of creds b = b.mark ∙ free

    -- uid 0 by the owner of a file
    owner_gains : (spares : Bool) (creds : Creds) (table : Table) (target : Row) (number : ℕ) → Basis launch creds
        → Runnable launch table target → (owner : Option ℕ) → target.setuid ≡ owner → is_owner 0 owner ≡ true
        → has launch.creds.bounding number ≡ true → Gained spares creds table table number
    owner_gains spares creds table target number b r None e z h = cc
    owner_gains spares creds table target number b r (Some owner) e z h =
        let ran = runs launch l o false creds table target b.bounding r in
        let off = off_of creds b in
        let uid = ap (λ id. eqb id 0) (gains.uid_after creds (marks_of target) off) ∙ ap (λ (w : Option ℕ). eqb (owner_or w creds.uids.effective) 0) e ∙ z in
        let w = gains.zero_gives creds (marks_of target) off uid in
        let own : has creds.bounding number ≡ true = ap (λ s. has s number) b.bounding ∙ h in
        record {
          calls = ran.call ∷ [];
          creds = exec_done creds (marks_of target) false;
          way = by_creds ran.call ran.makes here;
          basis = basis_exec creds target false b;
          holds = w.each number own;
          target = target;
          no_suid = false;
          again = r;
          rootlike = inl (ap (is_owner 0) e ∙ z);
          no_uid = λ e. (avoid_one launch creds table _ ran.call _ ran.makes TakesUid refl, tt);
          no_gid = (avoid_one launch creds table _ ran.call _ ran.makes TakesGid refl, tt);
        }

    -- with the effective bit at once, else by capset
    file_gains : (spares : Bool) (creds : Creds) (table : Table) (target : Row) (number : ℕ) → Basis launch creds
        → Runnable launch table target → target.setuid ≡ None → (bit : Bool) → target.effective ≡ bit → (bit || lets launch SetsCaps) ≡ true
        → has (cut target.caps launch.creds.bounding) number ≡ true → Gained spares creds table table number
    file_gains spares creds table target number b r plain true e z h =
        let ran = runs launch l o false creds table target b.bounding r in
        let own : has (cut target.caps creds.bounding) number ≡ true = ap (λ s. has (cut target.caps s) number) b.bounding ∙ h in
        record {
          calls = ran.call ∷ [];
          creds = exec_done creds (marks_of target) false;
          way = by_creds ran.call ran.makes here;
          basis = basis_exec creds target false b;
          holds = (gains.bit_gives creds (marks_of target) (off_of creds b) e).each number own;
          target = target;
          no_suid = false;
          again = r;
          rootlike = inr plain;
          no_uid = λ e. (avoid_one launch creds table _ ran.call _ ran.makes TakesUid refl, tt);
          no_gid = (avoid_one launch creds table _ ran.call _ ran.makes TakesGid refl, tt);
        }
    file_gains spares creds table target number b r plain false e z h =
        let ran = runs launch l o false creds table target b.bounding r in
        let after : Creds = exec_done creds (marks_of target) false in
        let common = cut target.caps creds.bounding in
        let own : has common number ≡ true = ap (λ s. has (cut target.caps s) number) b.bounding ∙ h in
        let small : common < 2 ^ 41 = let P : ℕ → Type 0 = λ s. cut target.caps s < 2 ^ 41 in subst P (sym b.bounding) (common_small target.caps launch.creds.bounding o.bounding) in
        let inh : creds.inheritable < 2 ^ 41 = let P : ℕ → Type 0 = λ s. s < 2 ^ 41 in subst P (sym b.inheritable) o.inheritable in
        let line = some_line launch l SetsCaps z in
        let own_call = sets_call (place_of line.line) common common creds.inheritable in
        let set = capset_call launch o after table line common common creds.inheritable small small inh (gains.may_take creds (marks_of target) (off_of creds b)) in
        record {
          calls = ran.call ∷ own_call ∷ [];
          creds = with_sets after common common creds.inheritable;
          way = by_creds ran.call ran.makes (by_creds own_call set.makes here);
          basis = record { bounding = b.bounding; inheritable = b.inheritable; mark = b.mark };
          holds = own;
          target = target;
          no_suid = false;
          again = r;
          rootlike = inr plain;
          no_uid = λ e. (avoid_one launch creds table _ ran.call _ ran.makes TakesUid refl, (avoid_one launch after table set.operation own_call _ set.makes TakesUid (set.no_uid refl), tt));
          no_gid = (avoid_one launch creds table _ ran.call _ ran.makes TakesGid refl, (avoid_one launch after table set.operation own_call _ set.makes TakesGid set.no_gid, tt));
        }

    -- what a row gives, it gives
    gain_row : (spares : Bool) (creds : Creds) (table : Table) (target : Row) (number : ℕ) → Basis launch creds
        → Runnable launch table target → has (file_gain launch target) number ≡ true → Gained spares creds table table number
    gain_row spares creds table target number b r h = by (is_owner 0 target.setuid) refl (target.effective || lets launch SetsCaps) refl h
      where
        plain : (owner : Option ℕ) → target.setuid ≡ owner → has (cut target.caps launch.creds.bounding) number ≡ true
            → target.setuid ≡ None
        plain None f h = f
        plain (Some owner) f h =
            let empty = owner_alone launch.site target o.site r.known owner f in
            let off : has (cut none launch.creds.bounding) number ≡ false = has_cut none launch.creds.bounding number ∙ ap (λ b. b && has launch.creds.bounding number) (has_none number) in
            let yes : has (cut none launch.creds.bounding) number ≡ true = ap (λ s. has (cut s launch.creds.bounding) number) (sym empty) ∙ h in
            cc

        by : (z : Bool) → is_owner 0 target.setuid ≡ z → (y : Bool) → (target.effective || lets launch SetsCaps) ≡ y
            → has (cond z launch.creds.bounding (cond y (cut target.caps launch.creds.bounding) none)) number ≡ true
            → Gained spares creds table table number
        by true f y g h = owner_gains spares creds table target number b r target.setuid refl f h
        by false f true g h = file_gains spares creds table target number b r (plain target.setuid refl h) target.effective refl g h
        by false f false g h = let off = has_none number in cc

    -- uid 0, and execve behind it
    root_gains : (from creds : Creds) (start table : Table) (number : ℕ) (calls : List Call) → Avoids launch TakesGid calls
        → Way launch from start calls creds table → Basis launch creds → has creds.effective 7 ≡ true → (target : Row)
        → (no_suid : Bool) → RunnableBy no_suid launch table target → IsRootlike target → lets launch TakesUid ≡ true
        → has launch.creds.bounding number ≡ true → Gained false from start table number
    root_gains from creds start table number calls no_gid way basis h target no_suid r like s own =
        let line = some_line launch l TakesUid s in
        let own_call = id_call (place_of line.line) line.own 0 in
        let change = uid_call launch o creds table 0 (omega arith) line h in
        let ids = ids_by line.own creds.uids 0 in
        let after = with_uids creds ids in
        let b = basis_uids launch creds ids basis in
        let off = off_of after b in
        let ran = runs launch l o no_suid after table target b.bounding r in
        let uid : eqb after.uids.effective 0 ≡ true = ap (λ (ids : Ids). eqb ids.effective 0) (uids_after creds ids) ∙ ap (λ id. eqb id 0) (effective_by line.own creds.uids 0) in
        let root = runs_as_zero after (marks_of target) no_suid like uid in
        let w = gains.root_gives after (marks_of target) no_suid off root in
        let has_own : has after.bounding number ≡ true = ap (λ s. has s number) b.bounding ∙ own in
        record {
          calls = calls ++ (own_call ∷ ran.call ∷ []);
          creds = exec_done after (marks_of target) no_suid;
          way = way_join way (by_creds own_call change.makes (by_creds ran.call ran.makes here));
          basis = basis_exec after target no_suid b;
          holds = w.each number has_own;
          target = target;
          no_suid = no_suid;
          again = r;
          rootlike = like;
          no_uid = λ e. cc;
          no_gid = avoid_join launch TakesGid calls (own_call ∷ ran.call ∷ []) no_gid (avoid_one launch creds table change.operation own_call _ change.makes TakesGid change.no_gid, (avoid_one launch after table _ ran.call _ ran.makes TakesGid refl, tt));
        }

    -- a member of the union over rows, from credentials that may expose
    pub record GainedAt (spares : Bool) (power : Power) (creds : Creds) (number : ℕ) : Type 0 where
      pub end : Table
      pub gained : Gained spares creds launch.table end number
      pub still : power ≡ Nowise → end ≡ launch.table

    pub rows_gain : (spares : Bool) (power : Power) (creds : Creds) (number : ℕ) → Basis launch creds → HasPower launch creds power
        → has (gathered (gain_at launch power) launch.site.rows) number ≡ true → GainedAt spares power creds number
    rows_gain spares power creds number b admin h =
        let f = gathered_from (gain_at launch power) launch.site.rows number h in
        by f.0 f.1 f.2 (can_run launch power f.1) refl f.3
      where
        by : (at : ℕ) (target : Row) → slice_get launch.site.rows at ≡ Some target → (c : Bool) → can_run launch power target ≡ c
            → has (cond c (file_gain launch target) none) number ≡ true → GainedAt spares power creds number
        by at target e false f h = let off = has_none number in cc
        by at target e true f h =
            let x = exposed_runs power creds target (known_at launch.site o.site at target e) admin f in
            let g = gain_row spares creds x.now target number b x.runnable h in
            record {
              end = x.now;
              gained = record { calls = x.calls ++ g.calls; creds = g.creds; way = way_join x.way g.way; basis = g.basis; holds = g.holds; target = g.target; no_suid = g.no_suid; again = g.again; rootlike = g.rootlike; no_uid = λ e. avoid_join launch TakesUid x.calls g.calls x.no_uid (g.no_uid e); no_gid = avoid_join launch TakesGid x.calls g.calls x.no_gid g.no_gid };
              still = x.still;
            }

    -- on the launched table
    pub nowise_before : (spares : Bool) (number : ℕ) → has (caps_before launch Nowise) number ≡ true
        → Gained spares launch.creds launch.table launch.table number
    nowise_before spares number h =
        by (or_cases _ _ (sym (has_union launch.creds.effective (gathered (gain_at launch Nowise) launch.site.rows) number) ∙ h))
      where
        by : (has launch.creds.effective number ≡ true) ⊎ (has (gathered (gain_at launch Nowise) launch.site.rows) number ≡ true)
            → Gained spares launch.creds launch.table launch.table number
        by (inl h) = at_launch spares number h
        by (inr h) = let g = rows_gain spares Nowise launch.creds number basis_launch (inl refl) h in subst (λ (t : Table). Gained spares launch.creds launch.table t number) (g.still refl) g.gained

    then_root : (end : Table) (number : ℕ) → Gained false launch.creds launch.table end 7 → lets launch TakesUid ≡ true
        → has launch.creds.bounding number ≡ true → Gained false launch.creds launch.table end number
    then_root end number g s own = root_gains launch.creds g.creds launch.table end number g.calls g.no_gid g.way g.basis g.holds g.target
        g.no_suid g.again g.rootlike s own

    -- what root adds
    root_part : (end : Table) (number : ℕ) (before : ℕ) → (has before 7 ≡ true → Gained false launch.creds launch.table end 7)
        → has (when (has before 7 && lets launch TakesUid) launch.creds.bounding) number ≡ true
        → Gained false launch.creds launch.table end number
    root_part end number before g h = by (has before 7) refl (lets launch TakesUid) refl h
      where
        by : (x : Bool) → has before 7 ≡ x → (y : Bool) → lets launch TakesUid ≡ y
            → has (when (x && y) launch.creds.bounding) number ≡ true → Gained false launch.creds launch.table end number
        by true e true f h = then_root end number (g e) f h
        by true e false f h = let off = has_none number in cc
        by false e y f h = let off = has_none number in cc

    nowise : (number : ℕ) → has (with_root launch (lets launch TakesUid) (caps_before launch Nowise)) number ≡ true
        → Gained false launch.creds launch.table launch.table number
    nowise number h = by (or_cases _ _
        (sym (has_union (caps_before launch Nowise)
        (when (has (caps_before launch Nowise) 7 && lets launch TakesUid) launch.creds.bounding) number) ∙ h))
      where
        by : (has (caps_before launch Nowise) number ≡ true) ⊎
            (has (when (has (caps_before launch Nowise) 7 && lets launch TakesUid) launch.creds.bounding) number ≡ true)
            → Gained false launch.creds launch.table launch.table number
        by (inl h) = nowise_before false number h
        by (inr h) = root_part launch.table number (caps_before launch Nowise) (nowise_before false 7) h

    -- and with CAP_SYS_ADMIN at hand
    module _ (admin : Gained false launch.creds launch.table launch.table 21) (power : Power) (same : power_of launch ≡ power) where
      powered_before : (number : ℕ) → has (caps_before launch power) number ≡ true
          → (end : Table) × Gained false launch.creds launch.table end number
      powered_before number h =
          by (or_cases _ _ (sym (has_union launch.creds.effective (gathered (gain_at launch power) launch.site.rows) number) ∙ h))
        where
          by : (has launch.creds.effective number ≡ true) ⊎ (has (gathered (gain_at launch power) launch.site.rows) number ≡ true)
              → (end : Table) × Gained false launch.creds launch.table end number
          by (inl h) = (launch.table, at_launch false number h)
          by (inr h) =
              let x = rows_gain false power admin.creds number admin.basis (inr (admin.holds, same)) h in
              let g = x.gained in
              (x.end, record { calls = admin.calls ++ g.calls; creds = g.creds; way = way_join admin.way g.way; basis = g.basis; holds = g.holds; target = g.target; no_suid = g.no_suid; again = g.again; rootlike = g.rootlike; no_uid = λ e. cc; no_gid = avoid_join launch TakesGid admin.calls g.calls admin.no_gid g.no_gid })

      powered : (number : ℕ) → has (with_root launch (lets launch TakesUid) (caps_before launch power)) number ≡ true
          → (end : Table) × Gained false launch.creds launch.table end number
      powered number h = by (or_cases _ _
          (sym (has_union (caps_before launch power)
          (when (has (caps_before launch power) 7 && lets launch TakesUid) launch.creds.bounding) number) ∙ h))
        where
          by_root : (x : Bool) → has (caps_before launch power) 7 ≡ x
              → has (when (x && lets launch TakesUid) launch.creds.bounding) number ≡ true
              → (end : Table) × Gained false launch.creds launch.table end number
          by_root true e h = let g = powered_before 7 e in (g.0, root_part g.0 number (caps_before launch power) (λ e. g.1) (ap (λ x. has (when (x && lets launch TakesUid) launch.creds.bounding) number) e ∙ h))
          by_root false e h = let off = has_none number in cc

          by : (has (caps_before launch power) number ≡ true) ⊎
              (has (when (has (caps_before launch power) 7 && lets launch TakesUid) launch.creds.bounding) number ≡ true)
              → (end : Table) × Gained false launch.creds launch.table end number
          by (inl h) = powered_before number h
          by (inr h) = by_root (has (caps_before launch power) 7) refl h

  -- ---- with no_new_privs on, what is held at launch; else as above
  pub at_nowise : (number : ℕ) → has (caps_at launch Nowise) number ≡ true → Gained false launch.creds launch.table launch.table number
  at_nowise number h = by launch.creds.no_new_privs refl h
    where
      by : (n : Bool) → launch.creds.no_new_privs ≡ n
          → has (cond n launch.creds.effective (with_root launch (lets launch TakesUid) (caps_before launch Nowise))) number ≡ true
          → Gained false launch.creds launch.table launch.table number
      by true e h = at_launch false number h
      by false e h = nowise e number h

  admin_at : (x m u : Bool) (power : Power) → has (caps_at launch Nowise) 21 ≡ x → power_by x m u ≡ power → (power ≡ Nowise → ⊥)
      → has (caps_at launch Nowise) 21 ≡ true
  admin_at true m u power e f n = e
  admin_at false m u power e f n = absurd (n (sym f))

  -- CAP_SYS_ADMIN, where there is some power
  pub admin_gained : (power : Power) → power_of launch ≡ power → (power ≡ Nowise → ⊥)
      → Gained false launch.creds launch.table launch.table 21
  admin_gained power e n = at_nowise 21
      (admin_at (has (caps_at launch Nowise) 21) (lets launch ChangesMounts) (lets launch RemovesMounts) power refl e n)

  -- each member of the computed ceiling is gained by some calls
  pub attained : (number : ℕ) → has (caps_at launch (power_of launch)) number ≡ true
      → (end : Table) × Gained false launch.creds launch.table end number
  attained number h = by_mark launch.creds.no_new_privs refl h
    where
      by : launch.creds.no_new_privs ≡ false → (power : Power) → power_of launch ≡ power
          → has (with_root launch (lets launch TakesUid) (caps_before launch power)) number ≡ true
          → (end : Table) × Gained false launch.creds launch.table end number
      by free Nowise e h = (launch.table, nowise free number h)
      by free Unmounting e h = powered free (admin_gained Unmounting e (λ x. cc)) Unmounting e number h
      by free Mounting e h = powered free (admin_gained Mounting e (λ x. cc)) Mounting e number h

      by_mark : (n : Bool) → launch.creds.no_new_privs ≡ n → has
          (cond n launch.creds.effective (with_root launch (lets launch TakesUid) (caps_before launch (power_of launch)))) number ≡ true
          → (end : Table) × Gained false launch.creds launch.table end number
      by_mark true e h = (launch.table, at_launch false number h)
      by_mark false e h = by e (power_of launch) refl h
