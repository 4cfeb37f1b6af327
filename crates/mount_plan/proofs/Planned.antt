-- Properties of a plan of the base profile, by the rules that made it.
use Rattle.std.proofs.Common.{◌≡◌, ◌≤◌, true, false, List, [], length, Result, Ok, Err, refl, sym, ap, ◌∙◌, subst, arith}
use Rattle.std.specs.Prelude.{IfOk, nat_le}
use Rattle.std.specs.List.{AllByRecursion, list_all}
use Rattle.std.proofs.lemmas.Bool.{and_parts, leb-true}
use Rattle.path_settings.specs.abs_path.Paths.{is_normal, text_of}
use Rattle.path_settings.specs.declared.mentions.Mention.{Mention}
use Rattle.path_settings.specs.Short.{is_short_path, has_short_source, is_short, AreShort}
use Rattle.path_settings.specs.Mentions.{is_path, has_whole_source, is_whole, is_origin, leaves_the_root}
use Rattle.path_settings.specs.view_map.Kept.{Host, Refusal, kept_of, KeepsByRules}
use Rattle.path_settings.proofs.ViewMapLists.{all_weaker, all_from_test}
use Rattle.path_settings.proofs.KeptLaws.{kept_is, keeps_by_rules}
use Rattle.kern_mounts.specs.declared.step.MountStep.{MountStep}
use Rattle.kern_mounts.specs.Launch.{CanBeMounted}
use Rattle.mount_plan.specs.declared.error.PlanError.{PlanError}
use Rattle.mount_plan.specs.declared.error.PlanError.TheVariants.{Missing, Kind, Memory}
use Rattle.mount_plan.specs.Plan.{table_of}
use Rattle.mount_plan.specs.AsView.{FindsAsView}
use Rattle.mount_plan.specs.Form.{HasForm, HasPlacesOf}
use Rattle.mount_plan.specs.Host.{host_of}
use Rattle.mount_plan.specs.Answers.{Plans, PlansBase}
use Rattle.mount_plan.specs.Planned.{base_view, planned, unless_refused, views}
use Rattle.path_settings.specs.declared.mentioned.Mentioned.TheVariants.{Base}
use Rattle.site_table.specs.Table.{Site, IsSite}
use Rattle.mount_plan.proofs.Hosts.{proc_row}
use Rattle.mount_plan.proofs.PlanLaws.{AreNormal, leave_the_root, table_finds, table_ascends, begins_at_root}
use Rattle.mount_plan.proofs.PlanLaws.{places_mentioned, hidden_plain, keep_user_ids, short_places_of}
use Rattle.mount_plan.proofs.FindsProc.{finds_proc}
use Rattle.mount_plan.proofs.Counted.{one_more, paths_length}
use Rattle.mount_plan.proofs.ShortPaths.{AreWhole}

pub are_whole : (mentions : List Mention) → list_all is_whole mentions ≡ true → AreWhole mentions
are_whole mentions h = all_from_test is_whole mentions h

pub are_normal : (mentions : List Mention) → AreWhole mentions → AreNormal mentions
are_normal mentions h = all_weaker (λ mention. is_whole mention ≡ true) (λ mention. is_normal mention.path ≡ true) mentions
    (λ mention whole. (and_parts (is_normal mention.path) (nat_le (length (text_of mention.path)) 512)
    (and_parts (is_path mention.path) (has_whole_source mention.kind) whole).0).0) h

-- if the table of the kept mentions has a property, so has the plan
if_planned : (row_at : Host) (mentions : List Mention) (P : List MountStep → Type 0)
    → ((kept : List Mention) → kept_of row_at mentions ≡ Ok kept → P (table_of row_at kept)) →
    (r : Result (List MountStep) PlanError) → PlansBase row_at mentions r → IfOk r P
if_planned row_at mentions P f (Ok table) h = subst P (sym h.2) (f h.0 h.1)
if_planned row_at mentions P f (Err error) h = tt

pub finds_as_view : (row_at : Host) (mentions : List Mention) → AreNormal mentions → (r : Result (List MountStep) PlanError)
    → PlansBase row_at mentions r → IfOk r (λ table. IfOk (views row_at (Base mentions)) (λ view. FindsAsView view table))
finds_as_view row_at mentions normal r h = if_planned row_at mentions
    (λ table. IfOk (views row_at (Base mentions)) (λ view. FindsAsView view table))
    (λ kept e. subst (λ (found : Result (List Mention) Refusal). IfOk (unless_refused base_view found)
    (λ view. FindsAsView view (table_of row_at kept))) (sym e)
    (table_finds row_at kept (kept_is (λ mention. is_normal mention.path ≡ true) row_at mentions kept normal e))) r h

pub by_rules : (row_at : Host) (mentions : List Mention) → AreNormal mentions
    → IfOk (kept_of row_at mentions) (KeepsByRules row_at mentions)
by_rules row_at mentions normal = by (kept_of row_at mentions) (λ kept e. keeps_by_rules row_at mentions kept normal e)
  where
    by : (found : Result (List Mention) Refusal) → ((kept : List Mention) → found ≡ Ok kept → KeepsByRules row_at mentions kept)
        → IfOk found (KeepsByRules row_at mentions)
    by (Ok kept) f = f kept refl
    by (Err refusal) f = tt

pub mentioned : (row_at : Host) (mentions : List Mention) (r : Result (List MountStep) PlanError) → PlansBase row_at mentions r
    → IfOk r (HasPlacesOf (Base mentions))
mentioned row_at mentions r h = if_planned row_at mentions (HasPlacesOf (Base mentions)) (places_mentioned row_at mentions) r h

-- the form of the table of the kept mentions
pub has_form : (site : Site) (mentions kept : List Mention) → IsSite site → list_all is_whole mentions ≡ true
    → leaves_the_root mentions ≡ true → kept_of (host_of site) mentions ≡ Ok kept
    → HasForm (host_of site) (Base mentions) (table_of (host_of site) kept)
has_form site mentions kept is_site whole leave e =
    let row_at = host_of site in
    let normal = are_normal mentions (are_whole mentions whole) in
    let free = leave_the_root mentions leave in
    record {
      begins_at_root = begins_at_root row_at kept
          (kept_is (λ mention. mention.path ≡ [] → is_origin mention.kind ≡ false) row_at mentions kept free e);
      places_ascend = table_ascends row_at kept;
      one_more_than_mentions = (let more = one_more row_at mentions kept normal e in omega (arith, more, paths_length mentions));
      leaves_privileges = keep_user_ids row_at kept;
      hidden_without_flags = hidden_plain row_at kept;
      finds_proc = finds_proc row_at mentions kept free normal (proc_row site is_site) e;
    }

-- short mentions have short paths
are_short : (mentions : List Mention) → AreShort mentions → AllByRecursion (λ mention. length (text_of mention.path) ≤ 250) mentions
are_short mentions h = all_weaker (λ mention. is_short mention ≡ true) (λ mention. length (text_of mention.path) ≤ 250) mentions
    (λ mention short. leb-true (length (text_of mention.path)) 250
    (and_parts (is_short_path mention.path) (has_short_source mention.kind) short).0) (all_from_test is_short mentions h)

-- a plan of short mentions can be mounted
pub can_be_mounted : (site : Site) (mentions : List Mention) → IsSite site → list_all is_whole mentions ≡ true
    → leaves_the_root mentions ≡ true → length mentions ≤ 192 → AreShort mentions → (r : Result (List MountStep) PlanError)
    → PlansBase (host_of site) mentions r → IfOk r (CanBeMounted (host_of site))
can_be_mounted site mentions is_site whole leave few short r h = if_planned (host_of site) mentions (CanBeMounted (host_of site))
    (λ kept e. let form = has_form site mentions kept is_site whole leave e in record {
      begins_at_root = form.begins_at_root;
      places_are_short = short_places_of (host_of site) mentions kept (are_normal mentions (are_whole mentions whole))
          (are_short mentions short) e;
      places_ascend = form.places_ascend;
      few = (let more = one_more (host_of site) mentions kept (are_normal mentions (are_whole mentions whole)) e in omega (arith, few, more));
      hidden_without_flags = form.hidden_without_flags;
      finds_proc = form.finds_proc;
    }) r h

-- the answer is the plan by the rules of the base profile
pub as_planned : (row_at : Host) (mentions : List Mention) (r : Result (List MountStep) PlanError) → PlansBase row_at mentions r
    → Plans row_at (Base mentions) r
unfolding planned
as_planned row_at mentions (Ok table) h = ap (unless_refused (table_of row_at)) h.1 ∙ ap Ok (sym h.2)
as_planned row_at mentions (Err Memory) h = tt
as_planned row_at mentions (Err (Missing path)) h = ap (unless_refused (table_of row_at)) h
as_planned row_at mentions (Err (Kind path)) h = ap (unless_refused (table_of row_at)) h

-- a plan of the base profile is the table of the kept mentions
pub kept_by : (row_at : Host) (mentions : List Mention) (table : List MountStep) → planned row_at (Base mentions) ≡ Ok table
    → (kept : List Mention) × (kept_of row_at mentions ≡ Ok kept) × (table ≡ table_of row_at kept)
unfolding planned
kept_by row_at mentions table e = by (kept_of row_at mentions) refl e
  where
    by : (found : Result (List Mention) Refusal) → kept_of row_at mentions ≡ found → unless_refused (table_of row_at) found ≡ Ok table
        → (kept : List Mention) × (kept_of row_at mentions ≡ Ok kept) × (table ≡ table_of row_at kept)
    by (Ok kept) is e = let same : table_of row_at kept ≡ table = cc in (kept, is, sym same)
    by (Err refusal) is e = let bad : ⊥ = cc in absurd bad
