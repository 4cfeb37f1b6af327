-- Plans by the rules that read the mentions: those of the base profile, or those of systemd.
use Rattle.std.proofs.Common.{◌≡◌, ◌≤◌, Bool, true, List, length, Result, Ok, Err, refl, ap, sym, ◌∙◌, subst}
use Rattle.std.specs.List.{AllByRecursion, list_all}
use Rattle.path_settings.specs.abs_path.Paths.{Path, is_normal}
use Rattle.path_settings.specs.declared.mentions.Mention.{Mention}
use Rattle.std.specs.Prelude.{IfOk}
use Rattle.path_settings.specs.declared.mentioned.Mentioned.{Mentioned}
use Rattle.path_settings.specs.declared.mentioned.Mentioned.TheVariants.{Base, Systemd}
use Rattle.path_settings.specs.Mentioned as mentioned
use Rattle.path_settings.specs.Mentioned.{AreShort}
use Rattle.path_settings.specs.Mentions.{is_whole}
use Rattle.path_settings.specs.systemd.Entries as entry
use Rattle.path_settings.specs.declared.systemd.entries.MountEntry.{MountEntry}
use Rattle.path_settings.specs.systemd.Entries.{leaves_the_root}
use Rattle.path_settings.specs.systemd.Made.{made_of}
use Rattle.path_settings.specs.view_map.Kept.{Host, Refusal, missing, wrong_kind}
use Rattle.kern_mounts.specs.declared.step.MountStep.{MountStep}
use Rattle.kern_mounts.specs.Launch.{CanBeMounted}
use Rattle.site_table.specs.Table.{Site, IsSite}
use Rattle.mount_plan.specs.Answers.{Plans, PlansBase, Tables}
use Rattle.mount_plan.specs.declared.error.PlanError.{PlanError}
use Rattle.mount_plan.specs.declared.error.PlanError.TheVariants.{Missing, Kind, Memory}
use Rattle.mount_plan.specs.Form.{HasForm, HasPlacesOf, PlansHaveForm}
use Rattle.mount_plan.specs.Host.{host_of}
use Rattle.path_settings.specs.systemd.View.{view}
use Rattle.path_settings.specs.view_map.Resting.{AreSameSources}
use Rattle.path_settings.proofs.ViewMapLists.{mapped_all}
use Rattle.mount_plan.specs.AsView.{FindsAsView}
use Rattle.mount_plan.specs.Plan as base
use Rattle.mount_plan.specs.Planned.{AreKeptByRules, paths_of, planned, unless_refused, views}
use Rattle.mount_plan.specs.Resting.{AgreeButBelow, HaveSameSources, PlanIsBlind, ShowsNothingOf}
use Rattle.mount_plan.proofs.EntriesFound.{finds_as_view}
use Rattle.mount_plan.proofs.EntriesBlind.{are_settled, same_made_of, same_table}
use Rattle.mount_plan.proofs.EntriesTable.{LeaveTheRoot, leave_the_root, places_mentioned}
use Rattle.mount_plan.proofs.PlanIsBlind.{base_is_blind}
use Rattle.mount_plan.specs.systemd.Table.{table_of}
use Rattle.mount_plan.proofs.EntriesForm as entries
use Rattle.mount_plan.proofs.Planned.{are_normal, are_whole, as_planned, by_rules, has_form, kept_by}
use Rattle.mount_plan.proofs.Planned as base_plan

-- a plan of entries is the table of the made ones
pub made_by : (row_at : Host) (no_new_privs : Bool) (list : List MountEntry) (table : List MountStep) → planned row_at (Systemd list no_new_privs) ≡ Ok table
    → table ≡ table_of row_at no_new_privs list
unfolding planned
made_by row_at no_new_privs list table e = by (made_of row_at list) e
  where
    by : (found : Result (List MountEntry) Refusal) → unless_refused (λ made. table_of row_at no_new_privs list) found ≡ Ok table
        → table ≡ table_of row_at no_new_privs list
    by (Ok made) e = let same : table_of row_at no_new_privs list ≡ table = cc in sym same
    by (Err refusal) e = let bad : ⊥ = cc in absurd bad

pub plans_have_form : PlansHaveForm
plans_have_form site (Base mentions) table is_site whole leave e =
    let plan = kept_by (host_of site) mentions table e in
    subst (HasForm (host_of site) (Base mentions)) (sym plan.2) (has_form site mentions plan.0 is_site whole leave plan.1)
plans_have_form site (Systemd list no_new_privs) table is_site whole leave e =
    subst (HasForm (host_of site) (Systemd list no_new_privs)) (sym (made_by (host_of site) no_new_privs list table e)) (entries.has_form site no_new_privs list is_site leave)

-- the parts of a host that a plan of the base profile does not show do not change it
pub base_plan_is_blind : (folder : Path) (row_at other : Host) (mentions : List Mention) (table : List MountStep)
    → AllByRecursion (λ path. is_normal path ≡ true) (paths_of (Base mentions)) → planned row_at (Base mentions) ≡ Ok table
    → AreSameSources row_at other mentions → AgreeButBelow folder row_at other → ShowsNothingOf table folder
    → planned other (Base mentions) ≡ Ok table
unfolding planned
base_plan_is_blind folder row_at other mentions table normal e sources agree nothing =
    let plan = kept_by row_at mentions table e in
    let same = base_is_blind folder row_at other mentions plan.0
    (mapped_all (λ (mention : Mention). mention.path) (λ path. is_normal path ≡ true) mentions normal) plan.1 sources agree
    (subst (λ (steps : List MountStep). ShowsNothingOf steps folder) plan.2 nothing) in
    ap (unless_refused (base.table_of other)) same.0 ∙ ap Ok (same.1 ∙ sym plan.2)

-- the same of a plan of entries
entries_made : (row_at : Host) (no_new_privs : Bool) (list : List MountEntry) (table : List MountStep) → planned row_at (Systemd list no_new_privs) ≡ Ok table
    → (made : List MountEntry) × (made_of row_at list ≡ Ok made)
unfolding planned
entries_made row_at no_new_privs list table e = by (made_of row_at list) refl e
  where
    by : (found : Result (List MountEntry) Refusal) → made_of row_at list ≡ found
        → unless_refused (λ made. table_of row_at no_new_privs list) found ≡ Ok table → (made : List MountEntry) × (made_of row_at list ≡ Ok made)
    by (Ok made) is e = (made, is)
    by (Err refusal) is e = let bad : ⊥ = cc in absurd bad

entries_are_blind : (folder : Path) (row_at other : Host) (no_new_privs : Bool) (list : List MountEntry) (table : List MountStep)
    → AllByRecursion (λ path. is_normal path ≡ true) (paths_of (Systemd list no_new_privs)) → leaves_the_root list ≡ true
    → planned row_at (Systemd list no_new_privs) ≡ Ok table → HaveSameSources row_at other (Systemd list no_new_privs) → AgreeButBelow folder row_at other
    → ShowsNothingOf table folder → planned other (Systemd list no_new_privs) ≡ Ok table
unfolding planned
entries_are_blind folder row_at other no_new_privs list table normal root e sources agree nothing =
    let free = leave_the_root list root in
    let made = entries_made row_at no_new_privs list table e in
    let settled = are_settled row_at list made.0 made.1 in
    let unseen : ShowsNothingOf (table_of row_at no_new_privs list) folder =
    subst (λ (steps : List MountStep). ShowsNothingOf steps folder) (made_by row_at no_new_privs list table e) nothing in
    ap (unless_refused (λ found. table_of other no_new_privs list)) (same_made_of folder row_at other no_new_privs list free settled normal sources agree unseen)
    ∙ ap (λ (steps : List MountStep). unless_refused (λ found. steps) (made_of row_at list))
    (same_table folder row_at other no_new_privs list free settled normal sources agree unseen) ∙ e

-- ---- the answer for entries
-- the table of the made entries is the plan
pub entries_planned : (row_at : Host) (no_new_privs : Bool) (list : List MountEntry) (made : List MountEntry) → made_of row_at list ≡ Ok made
    → planned row_at (Systemd list no_new_privs) ≡ Ok (table_of row_at no_new_privs list)
unfolding planned
entries_planned row_at no_new_privs list made e = ap (unless_refused (λ found. table_of row_at no_new_privs list)) e

pub entries_refused : (row_at : Host) (no_new_privs : Bool) (list : List MountEntry) (refusal : Refusal) → made_of row_at list ≡ Err refusal
    → planned row_at (Systemd list no_new_privs) ≡ Err refusal
unfolding planned
entries_refused row_at no_new_privs list refusal e = ap (unless_refused (λ found. table_of row_at no_new_privs list)) e

-- each path belongs to an entry that has what the view has there
pub entries_seen : (row_at : Host) (no_new_privs : Bool) (list : List MountEntry) → LeaveTheRoot list
    → IfOk (views row_at (Systemd list no_new_privs)) (λ view. FindsAsView view (table_of row_at no_new_privs list))
entries_seen row_at no_new_privs list free = by (made_of row_at list)
  where
    by : (found : Result (List MountEntry) Refusal)
        → IfOk (unless_refused (λ made. view row_at no_new_privs list) found) (λ seen. FindsAsView seen (table_of row_at no_new_privs list))
    by (Ok made) = finds_as_view row_at no_new_privs list free
    by (Err refusal) = tt

-- ---- blindness
pub plan_is_blind : PlanIsBlind
plan_is_blind folder row_at other (Base mentions) table normal root e sources agree nothing =
    base_plan_is_blind folder row_at other mentions table normal e sources agree nothing
plan_is_blind folder row_at other (Systemd list no_new_privs) table normal root e sources agree nothing =
    entries_are_blind folder row_at other no_new_privs list table normal root e sources agree nothing

-- ---- what the call of a plan answers
pub record IsAnswer (row_at : Host) (mentions : Mentioned) (answer : Result (List MountStep) PlanError) : Type 0 where
  pub table : Plans row_at mentions answer
  pub rules : AreKeptByRules row_at mentions
  pub seen : IfOk answer (λ table. IfOk (views row_at mentions) (λ view. FindsAsView view table))
  pub places : IfOk answer (HasPlacesOf mentions)
  pub fits : AreShort mentions → IfOk answer (CanBeMounted row_at)

pub base_answer : (site : Site) (mentions : Mentioned) (list : List Mention) → mentions ≡ Base list → IsSite site
    → list_all is_whole list ≡ true → mentioned.leaves_the_root mentions ≡ true → length list ≤ 192
    → (answer : Result (List MountStep) PlanError) → PlansBase (host_of site) list answer → IsAnswer (host_of site) mentions answer
base_answer site mentions list is is_site whole leave few answer h = subst (λ (m : Mentioned). IsAnswer (host_of site) m answer) (sym is) (
    let row_at = host_of site in
    let normal = are_normal list (are_whole list whole) in
    let free : mentioned.leaves_the_root (Base list) ≡ true = ap mentioned.leaves_the_root (sym is) ∙ leave in
    record {
      table = as_planned row_at list answer h;
      rules = by_rules row_at list normal;
      seen = base_plan.finds_as_view row_at list normal answer h;
      places = base_plan.mentioned row_at list answer h;
      fits = λ short. base_plan.can_be_mounted site list is_site whole free few short answer h;
    })

pub entries_answer : (site : Site) (mentions : Mentioned) (list : List MountEntry) (no_new_privs : Bool) → mentions ≡ Systemd list no_new_privs → IsSite site
    → list_all entry.is_whole list ≡ true → mentioned.leaves_the_root mentions ≡ true → length list ≤ 192
    → (made : List MountEntry) → made_of (host_of site) list ≡ Ok made → (table : List MountStep) → table ≡ table_of (host_of site) no_new_privs list
    → IsAnswer (host_of site) mentions (Ok table)
entries_answer site mentions list no_new_privs is is_site whole leave few made e table t =
    subst (λ (m : Mentioned). IsAnswer (host_of site) m (Ok table)) (sym is)
    (subst (λ (steps : List MountStep). IsAnswer (host_of site) (Systemd list no_new_privs) (Ok steps)) (sym t) (
    let row_at = host_of site in
    let free : leaves_the_root list ≡ true = ap mentioned.leaves_the_root (sym is) ∙ leave in
    record {
      table = entries_planned row_at no_new_privs list made e;
      rules = tt;
      seen = entries_seen row_at no_new_privs list (leave_the_root list free);
      places = places_mentioned row_at no_new_privs list;
      fits = λ short. entries.can_be_mounted site no_new_privs list is_site whole free few short;
    }))

pub entries_error : (row_at : Host) (mentions : Mentioned) (list : List MountEntry) (no_new_privs : Bool) → mentions ≡ Systemd list no_new_privs → (error : PlanError)
    → Tables row_at no_new_privs list (Err error) → Plans row_at mentions (Err error)
entries_error row_at mentions list no_new_privs is error h = subst (λ (m : Mentioned). Plans row_at m (Err error)) (sym is) (by error h)
  where
    by : (error : PlanError) → Tables row_at no_new_privs list (Err error) → Plans row_at (Systemd list no_new_privs) (Err error)
    by Memory h = tt
    by (Missing path) h = entries_refused row_at no_new_privs list (missing path) h
    by (Kind path) h = entries_refused row_at no_new_privs list (wrong_kind path) h
