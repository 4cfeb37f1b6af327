-- The form of a plan of made entries.
use Rattle.std.proofs.Common.{◌≡◌, ◌⊎◌, inl, inr, ◌≤◌, Bool, true, cond, List, [], ◌∷◌, length, Option, Some, None}
use Rattle.std.proofs.Common.{refl, sym, ap, ◌∙◌, subst, arith}
use Rattle.std.specs.Prelude.{nat_le, not}
use Rattle.std.specs.List.{AllByRecursion, list_all}
use Rattle.std.specs.Option.{option_map_or}
use Rattle.std.proofs.lemmas.Bool.{false≢true, and_parts, leb-true}
use Rattle.path_settings.specs.abs_path.Paths.{Path, is_normal, is_root, proc, text_of}
use Rattle.path_settings.specs.declared.mentioned.Mentioned.TheVariants.{Systemd}
use Rattle.path_settings.specs.declared.systemd.entries.MountEntry.{MountEntry}
use Rattle.path_settings.specs.declared.view_map.rules.Beneath.{Beneath}
use Rattle.path_settings.specs.declared.view_map.rules.Beneath.TheVariants as beneath
use Rattle.path_settings.specs.Mentions.{is_path}
use Rattle.path_settings.specs.Short.{is_short_path}
use Rattle.path_settings.specs.systemd.Entries.{AreShort, has_short_source, has_whole_source, is_short, is_whole, leaves_the_root}
use Rattle.path_settings.specs.systemd.Modes.{is_node, is_origin}
use Rattle.path_settings.specs.systemd.Made.{beneath_in, fate_at, made, mode_fate, object_by, object_in, putting, source_row}
use Rattle.path_settings.specs.systemd.View.{beginning}
use Rattle.path_settings.specs.view_map.Kept.{Host, beneath_by, beneath_row, is_kept}
use Rattle.path_settings.proofs.ViewMapLists.{all_filtered}
use Rattle.kern_mounts.specs.Launch.{CanBeMounted, FindsProc}
use Rattle.site_table.specs.Table.{Site, IsSite}
use Rattle.mount_plan.specs.Form.{HasForm}
use Rattle.mount_plan.specs.Host.{host_of}
use Rattle.mount_plan.specs.Plan.{hides_dir, what_of}
use Rattle.mount_plan.specs.systemd.Table.{root_step, step_among, table_of}
use Rattle.mount_plan.proofs.EntriesAsView.{has_one, is_last, last_leading}
use Rattle.mount_plan.proofs.EntriesFound.{entry_is}
use Rattle.mount_plan.proofs.EntriesMade.{each_kept}
use Rattle.mount_plan.proofs.EntriesProc.{BindsDirectory, binds_directory, node_binds, proc_beneath, shows_by}
use Rattle.mount_plan.proofs.EntriesTable.{LeaveTheRoot, begins_at_root, hidden_plain, leave_the_root, mapped_length, one_more}
use Rattle.mount_plan.proofs.EntriesTable.{others, others_ascend, others_below, short_places_of, table_ascends}
use Rattle.mount_plan.proofs.FindsProc.{ShowsDirectory, above_proc, shown_found}
use Rattle.mount_plan.proofs.Hosts.{proc_row}

module _ (row_at : Host) (no_new_privs : Bool) (entries : List MountEntry) (free : LeaveTheRoot entries) (row : row_at proc ≡ Some true) where
  -- what is made is kept, or it is a node
  abbrev IsKeptOrNode : MountEntry → Type 0
  IsKeptOrNode one = (is_kept (fate_at row_at entries one) ≡ true) ⊎ (is_node one.mode ≡ true)

  others_kept : AllByRecursion IsKeptOrNode (others row_at entries)
  others_kept = all_filtered IsKeptOrNode (λ one. not (is_root one.path)) (made row_at entries) (each_kept row_at entries)

  row_beneath : beneath_in row_at (putting row_at entries) proc ≡ beneath.Row true
  row_beneath = ap (beneath_by row_at) (proc_beneath entries free row_at) ∙ ap beneath_row row

  -- the entry at /proc shows a directory there
  shows_there : (one : MountEntry) → one.path ≡ proc → IsKeptOrNode one
      → ShowsDirectory row_at proc (step_among row_at no_new_privs entries (putting row_at entries) (beginning row_at entries) (made row_at entries) one).what one.path
  shows_there one at kept =
      let here : beneath_in row_at (putting row_at entries) one.path ≡ beneath.Row true =
      ap (beneath_in row_at (putting row_at entries)) at ∙ row_beneath in
      let binds : BindsDirectory row_at one.mode = elim kept [
        | inl own ↦ binds_directory row_at one.path one.mode one.optional
            (subst (λ (b : Beneath). is_kept (mode_fate (source_row row_at one) b one.optional one.mode) ≡ true) here own)
        | inr node ↦ node_binds row_at one.mode node
      ] in
      subst (λ (p : Path). ShowsDirectory row_at proc (what_of (cond (is_origin one.mode) (object_by one.mode p p)
      (object_in (putting row_at entries) p)) (hides_dir (beneath_in row_at (putting row_at entries) p))) p) (sym at)
      (shows_by row_at one.mode (object_in (putting row_at entries) proc) (hides_dir (beneath_in row_at (putting row_at entries) proc)) row
      (proc_beneath entries free row_at) (ap hides_dir row_beneath) binds)

  pub finds_proc : FindsProc row_at (table_of row_at no_new_privs entries)
  finds_proc = by (last_leading (others row_at entries) proc) refl
    where
      by : (o : Option MountEntry) → last_leading (others row_at entries) proc ≡ o → FindsProc row_at (table_of row_at no_new_privs entries)
      by None e = shown_found row_at (table_of row_at no_new_privs entries) proc
          (root_step no_new_privs entries (beginning row_at entries) (made row_at entries) (made row_at entries))
          (entry_is row_at no_new_privs entries free proc ∙ ap (λ o. Some (option_map_or
          (step_among row_at no_new_privs entries (putting row_at entries) (beginning row_at entries) (made row_at entries)) o
          (root_step no_new_privs entries (beginning row_at entries) (made row_at entries) (made row_at entries)))) e)
          row
      by (Some one) e =
          let fits = is_last proc (others row_at entries) one (others_ascend row_at entries) e in
          let kept = has_one IsKeptOrNode (others row_at entries) one others_kept fits.among in
          let out = has_one (λ other. not (is_root other.path) ≡ true) (others row_at entries) one (others_below row_at entries) fits.among in
          shown_found row_at (table_of row_at no_new_privs entries) proc
          (step_among row_at no_new_privs entries (putting row_at entries) (beginning row_at entries) (made row_at entries) one)
          (entry_is row_at no_new_privs entries free proc ∙ ap (λ o. Some (option_map_or
          (step_among row_at no_new_privs entries (putting row_at entries) (beginning row_at entries) (made row_at entries)) o
          (root_step no_new_privs entries (beginning row_at entries) (made row_at entries) (made row_at entries)))) e)
          (elim (above_proc one.path fits.leads) [
            | inl root ↦ absurd (false≢true (sym (ap (λ (p : Path). not (is_root p)) root) ∙ out))
            | inr same ↦ shows_there one same kept
          ])

-- the form of the table of the made entries
pub has_form : (site : Site) (no_new_privs : Bool) (entries : List MountEntry) → IsSite site → leaves_the_root entries ≡ true
    → HasForm (host_of site) (Systemd entries no_new_privs) (table_of (host_of site) no_new_privs entries)
has_form site no_new_privs entries is_site leave =
    let row_at = host_of site in
    record {
      begins_at_root = begins_at_root row_at no_new_privs entries;
      places_ascend = table_ascends row_at no_new_privs entries;
      one_more_than_mentions = (let more = one_more row_at no_new_privs entries in omega (arith, more, mapped_length (λ (one : MountEntry). one.path) entries));
      leaves_privileges = tt;
      hidden_without_flags = hidden_plain row_at no_new_privs entries;
      finds_proc = finds_proc row_at no_new_privs entries (leave_the_root entries leave) (proc_row site is_site);
    }

-- short and whole entries have short and normal paths
fit_paths : (entries : List MountEntry) → list_all is_whole entries ≡ true → AreShort entries
    → AllByRecursion (λ one. (is_normal one.path ≡ true) × (length (text_of one.path) ≤ 250)) entries
fit_paths [] whole short = tt
fit_paths (one ∷ entries) whole short =
    let w = and_parts (is_whole one) (list_all is_whole entries) whole in
    let s = and_parts (is_short one) (list_all is_short entries) short in (
      (
        (and_parts (is_normal one.path) (nat_le (length (text_of one.path)) 512)
            (and_parts (is_path one.path) (has_whole_source one.mode) w.0).0).0,
        leb-true (length (text_of one.path)) 250 (and_parts (is_short_path one.path) (has_short_source one.mode) s.0).0,
      ),
      fit_paths entries w.1 s.1,
    )

-- a plan of short entries can be mounted
pub can_be_mounted : (site : Site) (no_new_privs : Bool) (entries : List MountEntry) → IsSite site → list_all is_whole entries ≡ true
    → leaves_the_root entries ≡ true → length entries ≤ 192 → AreShort entries
    → CanBeMounted (host_of site) (table_of (host_of site) no_new_privs entries)
can_be_mounted site no_new_privs entries is_site whole leave few short =
    let form = has_form site no_new_privs entries is_site leave in
    record {
      begins_at_root = form.begins_at_root;
      places_are_short = short_places_of (host_of site) no_new_privs entries (fit_paths entries whole short);
      places_ascend = form.places_ascend;
      few = (let more = one_more (host_of site) no_new_privs entries in omega (arith, few, more));
      hidden_without_flags = form.hidden_without_flags;
      finds_proc = form.finds_proc;
    }
