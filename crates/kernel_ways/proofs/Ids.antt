-- Each id of the ceiling is taken by some calls, and those of the launch and of rows that are run without the capability that takes any.
use Rattle.std.proofs.Common.{◌≡◌, ℕ, Bool, true, false, List, [], ◌∷◌, ◌++◌, Option, Some, None, refl, ap, ◌∙◌, sym, eqb, inl, inr, ◌≤◌}
use Rattle.std.specs.Prelude.{slice_get, not, ◌&&◌, ◌||◌}
use Rattle.std.specs.List.{list_any}
use Rattle.std.proofs.lemmas.Bool.{and_parts, or_cases, or_left, or_right, not-true, eqb-true, eq-eqb}
use Rattle.launcher.specs.cap_sets.Sets.{has}
use Rattle.launcher.specs.site_table.declared.row.Row.{Row}
use Rattle.launcher.specs.kern_creds.declared.creds.Creds.{Creds}
use Rattle.launcher.specs.kern_creds.declared.ids.Ids.{Ids}
use Rattle.launcher.specs.kern_creds.Exec.{exec_done, owner_or}
use Rattle.launcher.specs.kern_creds.RootChange.{with_uids}
use Rattle.launcher.specs.kernel_laws.Bound.{is_owner, can_run, owned_by, grouped_by, any_uid, any_gid, caps_at, power_of, ceiling}
use Rattle.launcher.specs.kernel_model.declared.kernel_calls.call.Call.{Call}
use Rattle.launcher.specs.kernel_laws.Denied.{HasGid}
use Rattle.launcher.specs.kernel_model.kern_files.Executing.{marks_of}
use Rattle.launcher.specs.kernel_laws.declared.question_types.kind.CallKind.TheVariants.{TakesUid, TakesGid}
use Rattle.launcher.specs.kernel_laws.declared.question_types.power.Power.{Power}
use Rattle.launcher.specs.kernel_laws.declared.question_types.power.Power.TheVariants.{None as Nowise, Unmount as Unmounting}
use Rattle.launcher.specs.kernel_laws.declared.question_types.power.Power.TheVariants.{Mount as Mounting}
use Rattle.launcher.specs.kernel_laws.Launched.{Launch, IsLaunched, lets}
use Rattle.launcher.specs.kern_mounts.Split.{Table}
use Rattle.launcher.proofs.OfKernelLaws.Bound.{any_listed}
use Rattle.kernel_ways.specs.Offers.{Offers}
use Rattle.kernel_ways.specs.Taking.{id_call}
use Rattle.kernel_ways.specs.Ways.{place_of, Way, here, by_creds}
use Rattle.kernel_ways.proofs.Solo.{way_join}
use Rattle.kernel_ways.proofs.Lines.{some_line}
use Rattle.kernel_ways.proofs.Privileged.{ids_by, effective_by, uid_call, gid_call}
use Rattle.kernel_ways.proofs.Exposing.{HasPower}
use Rattle.kernel_ways.proofs.Rows.{known_at}
use Rattle.kernel_ways.proofs.Gains as gains
use Rattle.kernel_ways.proofs.Gains.{Basis, runs}
use Rattle.kernel_ways.proofs.Attained.{Gained, attained, admin_gained, exposed_runs, uids_after}
use Rattle.kernel_ways.proofs.Avoiding.{Avoids, avoid_one, avoid_join}

pub owner_is : (id : ℕ) (owner : Option ℕ) (old : ℕ) → is_owner id owner ≡ true → owner_or owner old ≡ id
owner_is id None old e = cc
owner_is id (Some owner) old e = eqb-true owner id e

pub other_way : (id : ℕ) (groups : List ℕ) → list_any (λ group. eqb id group) groups ≡ true → list_any (λ group. eqb group id) groups ≡ true
other_way id [] h = cc
other_way id (group ∷ groups) h = elim (or_cases (eqb id group) (list_any (λ group. eqb id group) groups) h) [
  | inl same ↦ or_left (eqb group id) (list_any (λ group. eqb group id) groups) (eq-eqb group id (sym (eqb-true id group same)))
  | inr more ↦ or_right (eqb group id) (list_any (λ group. eqb group id) groups) (other_way id groups more)
]

module _ (launch : Launch) (l : IsLaunched launch) (o : Offers launch) where
  -- credentials that have the launch's power, on the launched table; and whether they were come by without a call that takes a uid
  pub record Powered (spares : Bool) (power : Power) : Type 0 where
    pub calls : List Call
    pub creds : Creds
    pub way : Way launch launch.creds launch.table calls creds launch.table
    pub basis : Basis launch creds
    pub at_hand : HasPower launch creds power
    pub no_uid : spares ≡ true → Avoids launch TakesUid calls
    pub no_gid : Avoids launch TakesGid calls

  pub without_calls : (spares : Bool) → Powered spares Nowise
  without_calls spares = record { calls = []; creds = launch.creds; way = here; basis = record { bounding = refl; inheritable = refl; mark = refl }; at_hand = inl refl; no_uid = λ e. tt; no_gid = tt }

  pub from_gained : (spares : Bool) (power : Power) → power_of launch ≡ power
      → Gained launch l o spares launch.creds launch.table launch.table 21 → Powered spares power
  from_gained spares power e g = record { calls = g.calls; creds = g.creds; way = g.way; basis = g.basis; at_hand = inr (g.holds, e); no_uid = g.no_uid; no_gid = g.no_gid }

  pub powered : (power : Power) → power_of launch ≡ power → Powered false power
  powered Nowise e = without_calls false
  powered Unmounting e = from_gained false Unmounting e (admin_gained launch l o Unmounting e (λ x. cc))
  powered Mounting e = from_gained false Mounting e (admin_gained launch l o Mounting e (λ x. cc))

  -- a row that can be run is run, with its marks
  record RanRow (spares : Bool) (target : Row) : Type 0 where
    calls : List Call
    creds : Creds
    now : Table
    way : Way launch launch.creds launch.table calls (exec_done creds (marks_of target) false) now
    basis : Basis launch creds
    no_uid : spares ≡ true → Avoids launch TakesUid calls
    no_gid : Avoids launch TakesGid calls

  ran_row : (spares : Bool) (power : Power) → Powered spares power → (at : ℕ) (target : Row) → slice_get launch.site.rows at ≡ Some target
      → can_run launch power target ≡ true → RanRow spares target
  ran_row spares power p at target listed c =
      let x = exposed_runs launch l o power p.creds target (known_at launch.site o.site at target listed) p.at_hand c in
      let ran = runs launch l o false p.creds x.now target p.basis.bounding x.runnable in
      let run = ran.call ∷ [] in
      record {
        calls = p.calls ++ (x.calls ++ run);
        creds = p.creds;
        now = x.now;
        way = way_join p.way (way_join x.way (by_creds ran.call ran.makes here));
        basis = p.basis;
        no_uid = λ e. avoid_join launch TakesUid p.calls (x.calls ++ run) (p.no_uid e)
            (avoid_join launch TakesUid x.calls run x.no_uid (avoid_one launch p.creds x.now _ ran.call _ ran.makes TakesUid refl, tt));
        no_gid = avoid_join launch TakesGid p.calls (x.calls ++ run) p.no_gid
            (avoid_join launch TakesGid x.calls run x.no_gid (avoid_one launch p.creds x.now _ ran.call _ ran.makes TakesGid refl, tt));
      }

  -- a way of the launched process to credentials with a property, without a call that takes a uid, or a gid
  pub record Taken (uids gids : Bool) (P : Creds → Type 0) : Type 0 where
    pub calls : List Call
    pub creds : Creds
    pub now : Table
    pub way : Way launch launch.creds launch.table calls creds now
    pub has : P creds
    pub no_uid : uids ≡ true → Avoids launch TakesUid calls
    pub no_gid : gids ≡ true → Avoids launch TakesGid calls

  at_start : (uids gids : Bool) (P : Creds → Type 0) → P launch.creds → Taken uids gids P
  at_start uids gids P h = record
      { calls = []; creds = launch.creds; now = launch.table; way = here; has = h; no_uid = λ e. tt; no_gid = λ e. tt }

  after_ran : (uids gids : Bool) (target : Row) (r : RanRow uids target) (P : Creds → Type 0)
      → P (exec_done r.creds (marks_of target) false) → Taken uids gids P
  after_ran uids gids target r P h = record { calls = r.calls; creds = exec_done r.creds (marks_of target) false; now = r.now; way = r.way; has = h; no_uid = r.no_uid; no_gid = λ e. r.no_gid }

  -- the ids of the launch, and those of the rows that are run
  module _ (uids gids : Bool) (power : Power) (p : Powered uids power) (id : ℕ) where
    owned : launch.creds.no_new_privs ≡ false → list_any (owned_by launch power id) launch.site.rows ≡ true
        → Taken uids gids (λ creds. creds.uids.effective ≡ id)
    owned free h =
        let x = any_listed (owned_by launch power id) launch.site.rows h in
        let both = and_parts (can_run launch power x.1) (is_owner id x.1.setuid) x.3 in
        let r = ran_row uids power p x.0 x.1 x.2 both.0 in
        after_ran uids gids x.1 r (λ creds. creds.uids.effective ≡ id)
        (gains.uid_after r.creds (marks_of x.1) (r.basis.mark ∙ free) ∙ owner_is id x.1.setuid r.creds.uids.effective both.1)

    pub uid_without : (eqb id launch.creds.uids.effective ||
        (not launch.creds.no_new_privs && list_any (owned_by launch power id) launch.site.rows)) ≡ true
        → Taken uids gids (λ creds. creds.uids.effective ≡ id)
    uid_without h = elim (or_cases (eqb id launch.creds.uids.effective)
        (not launch.creds.no_new_privs && list_any (owned_by launch power id) launch.site.rows) h) [
          | inl same ↦ at_start uids gids (λ creds. creds.uids.effective ≡ id) (sym (eqb-true id launch.creds.uids.effective same))
          | inr rows ↦ (let both = and_parts (not launch.creds.no_new_privs) (list_any (owned_by launch power id) launch.site.rows) rows in owned (not-true launch.creds.no_new_privs both.0) both.1)
        ]

    grouped : launch.creds.no_new_privs ≡ false → list_any (grouped_by launch power id) launch.site.rows ≡ true
        → Taken uids gids (HasGid id)
    grouped free h =
        let x = any_listed (grouped_by launch power id) launch.site.rows h in
        let both = and_parts (can_run launch power x.1) (is_owner id x.1.setgid) x.3 in
        let r = ran_row uids power p x.0 x.1 x.2 both.0 in
        after_ran uids gids x.1 r (HasGid id)
        (inl (gains.gid_after r.creds (marks_of x.1) (r.basis.mark ∙ free) ∙ owner_is id x.1.setgid r.creds.gids.effective both.1))

    own_gid : (eqb id launch.creds.gids.effective || list_any (λ group. eqb id group) launch.creds.groups) ≡ true
        → Taken uids gids (HasGid id)
    own_gid h = elim (or_cases (eqb id launch.creds.gids.effective) (list_any (λ group. eqb id group) launch.creds.groups) h) [
      | inl same ↦ at_start uids gids (HasGid id) (inl (sym (eqb-true id launch.creds.gids.effective same)))
      | inr among ↦ at_start uids gids (HasGid id) (inr (other_way id launch.creds.groups among))
    ]

    pub gid_without : ((eqb id launch.creds.gids.effective || list_any (λ group. eqb id group) launch.creds.groups) ||
        (not launch.creds.no_new_privs && list_any (grouped_by launch power id) launch.site.rows)) ≡ true → Taken uids gids (HasGid id)
    gid_without h = elim (or_cases (eqb id launch.creds.gids.effective || list_any (λ group. eqb id group) launch.creds.groups)
        (not launch.creds.no_new_privs && list_any (grouped_by launch power id) launch.site.rows) h) [
          | inl own ↦ own_gid own
          | inr rows ↦ (let both = and_parts (not launch.creds.no_new_privs) (list_any (grouped_by launch power id) launch.site.rows) rows in grouped (not-true launch.creds.no_new_privs both.0) both.1)
        ]

  -- and by the capability that takes any
  module _ (id : ℕ) (small : id ≤ 4294967294) where
    by_uid : has (caps_at launch (power_of launch)) 7 ≡ true → lets launch TakesUid ≡ true
        → Taken false false (λ creds. creds.uids.effective ≡ id)
    by_uid h s =
        let x = attained launch l o 7 h in
        let g = x.1 in
        let line = some_line launch l TakesUid s in
        let own_call = id_call (place_of line.line) line.own id in
        let change = uid_call launch o g.creds x.0 id small line g.holds in
        let ids = ids_by line.own g.creds.uids id in
        record {
          calls = g.calls ++ (own_call ∷ []);
          creds = with_uids g.creds ids;
          now = x.0;
          way = way_join g.way (by_creds own_call change.makes here);
          has = ap (λ (ids : Ids). ids.effective) (uids_after g.creds ids) ∙ effective_by line.own g.creds.uids id;
          no_uid = λ e. cc;
          no_gid = λ e. cc;
        }

    pub uid_taken : (ceiling launch).uid id ≡ true → Taken false false (λ creds. creds.uids.effective ≡ id)
    uid_taken h = elim (or_cases (any_uid launch (caps_at launch (power_of launch)))
        (eqb id launch.creds.uids.effective ||
        (not launch.creds.no_new_privs && list_any (owned_by launch (power_of launch) id) launch.site.rows)) h) [
          | inl any ↦ (let both = and_parts (has (caps_at launch (power_of launch)) 7) (lets launch TakesUid) any in by_uid both.0 both.1)
          | inr more ↦ uid_without false false (power_of launch) (powered (power_of launch) refl) id more
        ]

    by_gid : has (caps_at launch (power_of launch)) 6 ≡ true → lets launch TakesGid ≡ true → Taken false false (HasGid id)
    by_gid h s =
        let x = attained launch l o 6 h in
        let g = x.1 in
        let line = some_line launch l TakesGid s in
        let own_call = id_call (place_of line.line) line.own id in
        let change = gid_call launch o g.creds x.0 id small line g.holds in
        record {
          calls = g.calls ++ (own_call ∷ []);
          creds = change.now;
          now = x.0;
          way = way_join g.way (by_creds own_call change.change.makes here);
          has = change.has_gid;
          no_uid = λ e. cc;
          no_gid = λ e. cc;
        }

    pub gid_taken : (ceiling launch).gid id ≡ true → Taken false false (HasGid id)
    gid_taken h = elim (or_cases (any_gid launch (caps_at launch (power_of launch)))
        ((eqb id launch.creds.gids.effective || list_any (λ group. eqb id group) launch.creds.groups) ||
        (not launch.creds.no_new_privs && list_any (grouped_by launch (power_of launch) id) launch.site.rows)) h) [
          | inl any ↦ (let both = and_parts (has (caps_at launch (power_of launch)) 6) (lets launch TakesGid) any in by_gid both.0 both.1)
          | inr more ↦ gid_without false false (power_of launch) (powered (power_of launch) refl) id more
        ]
