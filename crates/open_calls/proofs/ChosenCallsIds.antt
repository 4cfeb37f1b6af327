-- The calls that are chosen for an id show that it is had.
use Rattle.std.proofs.Common.{◌≡◌, ℕ, Bool, true, false, List, [], ◌∷◌, ◌++◌, Option, Some, None, refl, ap, ◌∙◌, sym, subst, cond, eqb, ◌⊎◌}
use Rattle.std.proofs.Common.{inl, inr, ◌≤◌}
use Rattle.std.specs.Prelude.{find, not, ◌&&◌, ◌||◌}
use Rattle.std.specs.List.{list_any}
use Rattle.std.proofs.lemmas.Bool.{and_from, and_parts, or_cases, not-true, eqb-true}
use Rattle.ceilings.specs.abs_path.Paths.{Path}
use Rattle.ceilings.specs.cap_sets.Sets.{has}
use Rattle.ceilings.specs.linux_numbers.Capabilities.{cap_sys_admin, cap_setuid, cap_setgid}
use Rattle.ceilings.specs.site_table.declared.row.Row.{Row}
use Rattle.ceilings.specs.kern_creds.declared.creds.Creds.{Creds}
use Rattle.ceilings.specs.kern_creds.declared.ids.Ids.{Ids}
use Rattle.ceilings.specs.kern_creds.Exec.{exec_done}
use Rattle.ceilings.specs.kern_creds.RootChange.{with_uids}
use Rattle.ceilings.specs.kern_mounts.Split.{Table}
use Rattle.ceilings.specs.kernel_model.kern_files.Executing.{marks_of}
use Rattle.ceilings.specs.kernel_model.declared.kernel_calls.call.Call.{Call}
use Rattle.ceilings.specs.kernel_model.declared.kernel_calls.rule.Rule.{Rule}
use Rattle.ceilings.specs.kernel_model.World.{World}
use Rattle.ceilings.specs.kernel_laws.Bound.{is_owner, can_run, owned_by, grouped_by, any_uid, any_gid, caps_at, power_of, ceiling}
use Rattle.ceilings.specs.kernel_laws.Denied.{HasGid, Shows}
use Rattle.ceilings.specs.kernel_laws.declared.question_types.kind.CallKind.{CallKind}
use Rattle.ceilings.specs.kernel_laws.declared.question_types.kind.CallKind.TheVariants.{TakesUid, TakesGid}
use Rattle.ceilings.specs.kernel_laws.declared.question_types.question.Question.{Question}
use Rattle.ceilings.specs.kernel_laws.declared.question_types.power.Power.{Power}
use Rattle.ceilings.specs.kernel_laws.declared.question_types.power.Power.TheVariants.{None as Nowise}
use Rattle.ceilings.specs.kernel_laws.declared.question_types.question.Question.TheVariants as asking
use Rattle.ceilings.specs.kernel_laws.Launched.{Launch, IsLaunched, lets}
use Rattle.ceilings.specs.kernel_ways.Offers.{Offers, RunsProgram}
use Rattle.ceilings.specs.kernel_ways.Showing.{HaveAsked}
use Rattle.ceilings.specs.kernel_ways.Taking.{id_call}
use Rattle.ceilings.specs.kernel_ways.Ways.{Way, here, by_creds, CallAt, IsSolo, place_of}
use Rattle.ceilings.proofs.OfKernelWays.Solo.{way_join}
use Rattle.ceilings.proofs.OfKernelWays.Attained.{uids_after}
use Rattle.ceilings.proofs.OfKernelWays.Gains as gains
use Rattle.ceilings.proofs.OfKernelLaws.Bound.{any_listed}
use Rattle.ceilings.proofs.OfKernelWays.Ids.{owner_is, other_way}
use Rattle.ceilings.proofs.OfKernelWays.Privileged as privileged
use Rattle.ceilings.proofs.OfKernelWays.Showing.{creds_show}
use Rattle.open_calls.specs.chosen_calls.Chosen.{runner, taking, id_at_power, id_by_cap, id_by_row, id_calls, uid_calls, gid_calls}
use Rattle.open_calls.specs.chosen_calls.First.{line_of, own_rule}
use Rattle.open_calls.specs.chosen_calls.Gaining.{IsRunner, CapWay, at_once, gaining, cap_calls, run_calls}
use Rattle.open_calls.proofs.FirstLines.{chosen, place_is, rule_is}
use Rattle.open_calls.proofs.Gained.{found_runner, ran_at, at_once_gained, basis_launch}
use Rattle.open_calls.proofs.Lists.{member_found}
use Rattle.open_calls.proofs.ChosenCallsRows.{gained, admin_gained}

-- a call that takes the id, and what it leaves
pub record Takes (launch : Launch) (kind : CallKind) (id : ℕ) (question : Question) (creds : Creds) (table : Table) : Type 0 where
  pub end : Creds
  pub way : Way launch creds table (taking launch kind id) end table
  pub has : HaveAsked question end

taking_is : (launch : Launch) (kind : CallKind) (id : ℕ) (nr : CallAt) → place_of (line_of launch kind) ≡ nr → (rule : Rule)
    → own_rule (line_of launch kind) ≡ rule → taking launch kind id ≡ id_call nr rule id ∷ []
taking_is launch kind id nr n rule r = ap (λ nr. id_call nr (own_rule (line_of launch kind)) id ∷ []) n
    ∙ ap (λ rule. id_call nr rule id ∷ []) r

module _ (launch : Launch) (l : IsLaunched launch) (o : Offers launch) (id : ℕ) (small : id ≤ 4294967294) (creds : Creds) (table : Table) where
  pub takes_uid : lets launch TakesUid ≡ true → has creds.effective 7 ≡ true → Takes launch TakesUid id (asking.Uid id) creds table
  takes_uid e h =
      let c = chosen launch l TakesUid e in
      let change = privileged.uid_call launch o creds table id small c.line h in
      let ids = privileged.ids_by c.line.own creds.uids id in
      let same = taking_is launch TakesUid id (place_of c.line.line) (place_is c) c.line.own (rule_is c) in
      let Q : List Call → Type 0 = λ calls. Way launch creds table calls (with_uids creds ids) table in
      record { end = with_uids creds ids; way = subst Q (sym same) (by_creds (id_call (place_of c.line.line) c.line.own id) change.makes here); has = ap (λ (ids : Ids). ids.effective) (uids_after creds ids) ∙ privileged.effective_by c.line.own creds.uids id }

  pub takes_gid : lets launch TakesGid ≡ true → has creds.effective 6 ≡ true → Takes launch TakesGid id (asking.Gid id) creds table
  takes_gid e h =
      let c = chosen launch l TakesGid e in
      let change = privileged.gid_call launch o creds table id small c.line h in
      let same = taking_is launch TakesGid id (place_of c.line.line) (place_is c) c.line.own (rule_is c) in
      let Q : List Call → Type 0 = λ calls. Way launch creds table calls change.now table in
      record { end = change.now; way = subst Q (sym same) (by_creds (id_call (place_of c.line.line) c.line.own id) change.change.makes here); has = change.has_gid }

-- what leaves an id open
module _ (launch : Launch) where
  -- a row that gives the id and that can be run
  pub runner_is : (gives : Row → Bool) → launch.creds.no_new_privs ≡ false
      → list_any (λ row. can_run launch (power_of launch) row && gives row) launch.site.rows ≡ true
      → (row : Row) × (runner launch (power_of launch) gives ≡ Some row)
  runner_is gives off h =
      let x = any_listed (λ row. can_run launch (power_of launch) row && gives row) launch.site.rows h in
      let both = and_parts (can_run launch (power_of launch) x.1) (gives x.1) x.3 in
      let f = member_found (λ row. gives row && can_run launch (power_of launch) row) launch.site.rows x.0 x.1 x.2 (and_from _ _ both.1 both.0) in
      (f.0, ap (λ n. cond {A = Option Row} n None (find (λ row. gives row && can_run launch (power_of launch) row) launch.site.rows)) off ∙ f.1)

  module _ (id : ℕ) where
    abbrev pub owns : Row → Bool
    owns row = is_owner id row.setuid

    abbrev pub groups : Row → Bool
    groups row = is_owner id row.setgid

    pub uid_open : (any_uid launch (caps_at launch (power_of launch)) ||
        (not launch.creds.no_new_privs && list_any (owned_by launch (power_of launch) id) launch.site.rows)) ≡ true
        → ((has (caps_at launch (power_of launch)) 7 ≡ true) × (lets launch TakesUid ≡ true)) ⊎
        ((row : Row) × (runner launch (power_of launch) owns ≡ Some row))
    uid_open h = elim (or_cases (any_uid launch (caps_at launch (power_of launch)))
        (not launch.creds.no_new_privs && list_any (owned_by launch (power_of launch) id) launch.site.rows) h) [
          | inl any ↦ inl (and_parts (has (caps_at launch (power_of launch)) 7) (lets launch TakesUid) any)
          | inr rows ↦ (let both = and_parts (not launch.creds.no_new_privs) (list_any (owned_by launch (power_of launch) id) launch.site.rows) rows in inr (runner_is owns (not-true launch.creds.no_new_privs both.0) both.1))
        ]

    pub gid_open : (any_gid launch (caps_at launch (power_of launch)) ||
        (not launch.creds.no_new_privs && list_any (grouped_by launch (power_of launch) id) launch.site.rows)) ≡ true
        → ((has (caps_at launch (power_of launch)) 6 ≡ true) × (lets launch TakesGid ≡ true)) ⊎
        ((row : Row) × (runner launch (power_of launch) groups ≡ Some row))
    gid_open h = elim (or_cases (any_gid launch (caps_at launch (power_of launch)))
        (not launch.creds.no_new_privs && list_any (grouped_by launch (power_of launch) id) launch.site.rows) h) [
          | inl any ↦ inl (and_parts (has (caps_at launch (power_of launch)) 6) (lets launch TakesGid) any)
          | inr rows ↦ (let both = and_parts (not launch.creds.no_new_privs) (list_any (grouped_by launch (power_of launch) id) launch.site.rows) rows in inr (runner_is groups (not-true launch.creds.no_new_privs both.0) both.1))
        ]

module _ (world : World) (launch : Launch) (l : IsLaunched launch) (o : Offers launch) (s : IsSolo launch launch.creds launch.table world) (program : Path) (p : RunsProgram launch program) where
  module _ (kind : CallKind) (cap id : ℕ) (gives : Row → Bool) (question : Question)
      (by_run : (row : Row) → gives row ≡ true → (creds : Creds) → creds.no_new_privs ≡ false
      → HaveAsked question (exec_done creds (marks_of row) false))
      (by_take : (creds : Creds) (table : Table) → lets launch kind ≡ true → has creds.effective cap ≡ true → Takes launch kind id question creds table) where
    shows_by : {calls : List Call} (creds : Creds) (now : Table) → Way launch launch.creds launch.table calls creds now
        → HaveAsked question creds → Shows world question calls
    shows_by {calls = calls} creds now way h = creds_show launch launch.creds creds launch.table now world calls question s way h

    runner_by : (power : Power) (row : Row) → runner launch power gives ≡ Some row → IsRunner launch power row × (gives row ≡ true)
    runner_by power row e = by launch.creds.no_new_privs refl e
      where
        by : (n : Bool) → launch.creds.no_new_privs ≡ n → cond {A = Option Row} n None
            (find (λ row. gives row && can_run launch power row) launch.site.rows) ≡ Some row
            → IsRunner launch power row × (gives row ≡ true)
        by true off e = cc
        by false off e = found_runner launch o off power gives row e

    -- execve of a row on the launched table
    near : (row : Row) → runner launch Nowise gives ≡ Some row → Shows world question (run_calls launch Nowise row)
    near row e =
        let r = runner_by Nowise row e in
        let b = basis_launch launch l o in
        let x = ran_at launch l o launch.creds b Nowise (inl refl) row r.0 in
        shows_by (exec_done launch.creds (marks_of row) false) x.now x.way (by_run row r.1 launch.creds (b.mark ∙ r.0.off))

    -- and on what CAP_SYS_ADMIN makes of it
    far : (power_of launch ≡ Nowise → ⊥) → (row : Row) → runner launch (power_of launch) gives ≡ Some row
        → Shows world question (gaining launch program cap_sys_admin ++ run_calls launch (power_of launch) row)
    far some row e =
        let r = runner_by (power_of launch) row e in
        let a = admin_gained launch l o program p some in
        let x = ran_at launch l o a.creds a.basis (power_of launch) (inr (a.holds, refl)) row r.0 in
        shows_by (exec_done a.creds (marks_of row) false) x.now (way_join a.way x.way) (by_run row r.1 a.creds (a.basis.mark ∙ r.0.off))

    -- by the capability
    taken_near : (way : CapWay) → at_once launch cap ≡ Some way → lets launch kind ≡ true
        → Shows world question (cap_calls launch program Nowise way ++ taking launch kind id)
    taken_near way e passes =
        let g = at_once_gained launch l o program p cap way e in
        let t = by_take g.creds g.now passes g.holds in
        shows_by t.end g.now (way_join g.way t.way) t.has

    taken : has (caps_at launch (power_of launch)) cap ≡ true → lets launch kind ≡ true
        → Shows world question (gaining launch program cap ++ taking launch kind id)
    taken h passes =
        let g = gained launch l o program p cap h in
        let t = by_take g.creds g.now passes g.holds in
        shows_by t.end g.now (way_join g.way t.way) t.has

    -- what leaves the id open
    abbrev pub IsOpen : Type 0
    IsOpen = ((has (caps_at launch (power_of launch)) cap ≡ true) × (lets launch kind ≡ true)) ⊎
        ((row : Row) × (runner launch (power_of launch) gives ≡ Some row))

    at_power : (power_of launch ≡ Nowise → (row : Row) → runner launch (power_of launch) gives ≡ Some row → ⊥) → IsOpen → (x : Option Row)
        → runner launch (power_of launch) gives ≡ x → Shows world question (id_at_power launch program kind cap id x)
    at_power some open' (Some row) e = far (λ none'. some none' row e) row e
    at_power some (inl both) None e = taken both.0 both.1
    at_power some (inr own) None e = let no : None ≡ Some own.0 = sym e ∙ own.1 in cc

    by_cap : (power_of launch ≡ Nowise → (row : Row) → runner launch (power_of launch) gives ≡ Some row → ⊥) → IsOpen → (b : Bool)
        → lets launch kind ≡ b → (x : Option CapWay) → at_once launch cap ≡ x
        → Shows world question (id_by_cap launch program kind cap id gives (cond {A = Option CapWay} b x None))
    by_cap some open' true passes (Some way) e = taken_near way e passes
    by_cap some open' true passes None e = at_power some open' (runner launch (power_of launch) gives) refl
    by_cap some open' false passes x e = at_power some open' (runner launch (power_of launch) gives) refl

    by_row : IsOpen → (x : Option Row) → runner launch Nowise gives ≡ x
        → Shows world question (id_by_row launch program kind cap id gives x)
    by_row open' (Some row) e = near row e
    by_row open' None e =
        by_cap (λ none' row far'. let no : None ≡ Some row = sym e ∙ ap (λ power. runner launch power gives) (sym none') ∙ far' in absurd (none_some row no)) open' (lets launch kind) refl (at_once launch cap) refl
      where
        none_some : (row : Row) → None ≡ Some row → ⊥
        none_some row e = cc

    pub id_shown : IsOpen → Shows world question (id_calls launch program kind cap id gives)
    id_shown open' = by_row open' (runner launch Nowise gives) refl

  module _ (id : ℕ) (small : id ≤ 4294967294) where
    -- uids
    pub uid_shown : (ceiling launch).uid id ≡ true → Shows world (asking.Uid id) (uid_calls launch program id)
    uid_shown h = by (eqb id launch.creds.uids.effective) refl h
      where
        by : (b : Bool) → eqb id launch.creds.uids.effective ≡ b
            → (any_uid launch (caps_at launch (power_of launch)) ||
            (b || (not launch.creds.no_new_privs && list_any (owned_by launch (power_of launch) id) launch.site.rows))) ≡ true
            → Shows world (asking.Uid id) (cond b [] (id_calls launch program TakesUid cap_setuid id (owns launch id)))
        by true e h = creds_show launch launch.creds launch.creds launch.table launch.table world [] (asking.Uid id) s here
            (sym (eqb-true id launch.creds.uids.effective e))
        by false e h =
            id_shown TakesUid 7 id (owns launch id) (asking.Uid id)
            (λ row own creds off. gains.uid_after creds (marks_of row) off ∙ owner_is id row.setuid creds.uids.effective own)
            (λ creds table passes held. takes_uid launch l o id small creds table passes held) (uid_open launch id h)

    -- gids
    had_gid : (eqb id launch.creds.gids.effective || list_any (λ group. eqb id group) launch.creds.groups) ≡ true → HasGid id launch.creds
    had_gid h = elim (or_cases (eqb id launch.creds.gids.effective) (list_any (λ group. eqb id group) launch.creds.groups) h) [
      | inl same ↦ inl (sym (eqb-true id launch.creds.gids.effective same))
      | inr among ↦ inr (other_way id launch.creds.groups among)
    ]

    pub gid_shown : (ceiling launch).gid id ≡ true → Shows world (asking.Gid id) (gid_calls launch program id)
    gid_shown h = by (eqb id launch.creds.gids.effective || list_any (λ group. eqb id group) launch.creds.groups) refl h
      where
        by : (b : Bool) → (eqb id launch.creds.gids.effective || list_any (λ group. eqb id group) launch.creds.groups) ≡ b
            → (any_gid launch (caps_at launch (power_of launch)) ||
            (b || (not launch.creds.no_new_privs && list_any (grouped_by launch (power_of launch) id) launch.site.rows))) ≡ true
            → Shows world (asking.Gid id) (cond b [] (id_calls launch program TakesGid cap_setgid id (groups launch id)))
        by true e h = creds_show launch launch.creds launch.creds launch.table launch.table world [] (asking.Gid id) s here (had_gid e)
        by false e h =
            id_shown TakesGid 6 id (groups launch id) (asking.Gid id)
            (λ row own creds off. inl (gains.gid_after creds (marks_of row) off ∙ owner_is id row.setgid creds.gids.effective own))
            (λ creds table passes held. takes_gid launch l o id small creds table passes held) (gid_open launch id h)
