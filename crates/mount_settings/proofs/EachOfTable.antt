-- The same for entries: if those of the table, the folders and the written paths have a property, so have all.
use Rattle.std.proofs.Common.{◌≡◌, ℕ, Bool, true, false, Option, Some, None, List, [], ◌∷◌, ◌++◌, map, refl, ap, ◌∙◌}
use Rattle.std.specs.Prelude.{◌&&◌, codes, cond, filter, not, flat_map, option_and_then, if◌then◌else◌}
use Rattle.std.specs.List.{list_all}
use Rattle.std.proofs.lemmas.List.Folds.{list_all-map}
use Rattle.path_settings.specs.abs_path.Paths.{Path}
use Rattle.path_settings.specs.abs_path.Prefix.{rest_text}
use Rattle.path_settings.specs.declared.mentions.Kind.{Kind}
use Rattle.path_settings.specs.declared.mentions.Kind.TheVariants.{Ro, Rw, Exec, NoExec, Hide, Tmp, Bind}
use Rattle.path_settings.specs.declared.mentions.Mention.{Mention}
use Rattle.path_settings.specs.declared.systemd.entries.MountEntry.{MountEntry}
use Rattle.path_settings.specs.systemd.Written.{entry_of}
use Rattle.path_settings.specs.Keys.{is_implied}
use Rattle.path_settings.specs.SettingPaths.{setting_path}
use Rattle.path_settings.specs.Short.{is_short_path}
use Rattle.path_settings.proofs.ReadMentions.{setting_is_short}
use Rattle.dropin_merge.specs.unit_names.declared.version.Version.{Version}
use Rattle.site_table.specs.Table.{Site}
use Rattle.mount_settings.specs.declared.written.WrittenPath.{WrittenPath}
use Rattle.mount_settings.specs.declared.protections.Protections.{Protections}
use Rattle.mount_settings.specs.declared.protections.Switches.{Switches}
use Rattle.mount_settings.specs.declared.systemd.keys.FurtherKeys.{FurtherKeys}
use Rattle.mount_settings.specs.declared.systemd.rows.RowsOn.{RowsOn}
use Rattle.mount_settings.specs.Settings.{as_written, entries_by}
use Rattle.mount_settings.specs.systemd.OwnMounts.{has_own_mounts}
use Rattle.mount_settings.specs.systemd.Rows.{Row, asks_for, by_row, table, rows_on}
use Rattle.mount_settings.specs.systemd.Folders.{brought_folders, chosen_path, folder_of_users, folders, from_path, is_there, placed_folder}
use Rattle.mount_settings.specs.systemd.Folders.{private_below, private_path, shown_path, stands_for}
use Rattle.mount_settings.specs.systemd.Mentions.{brought, by_table, implied_of, stands}
use Rattle.mount_settings.proofs.EachMention.{both, of_two, of_picked, of_some}

-- the paths of each row have the property, even if the row is off
abbrev pub OfRows : (MountEntry → Bool) → Type 0
OfRows q = (on : RowsOn) → list_all (λ row. list_all q (asks_for row.1 row.2)) (table on) ≡ true

of_row : (q : MountEntry → Bool) (row : Row) → list_all q (asks_for row.1 row.2) ≡ true → list_all q (by_row row) ≡ true
of_row q row all = elim row.0 as (λ on. list_all q (if on then asks_for row.1 row.2 else []) ≡ true) [ true ↦ all | false ↦ refl ]

of_rows : (q : MountEntry → Bool) (rows : List Row) → list_all (λ row. list_all q (asks_for row.1 row.2)) rows ≡ true
    → list_all q (flat_map by_row rows) ≡ true
of_rows q [] all = refl
of_rows q (row ∷ rows) all =
    let parts = both (list_all q (asks_for row.1 row.2)) (list_all (λ one. list_all q (asks_for one.1 one.2)) rows) all in
    of_two q (by_row row) (flat_map by_row rows) (of_row q row parts.0) (of_rows q rows parts.1)

-- a folder may be shown from another short path
abbrev pub MayMove : (Mention → Bool) → Type 0
MayMove q = (source : Path) (mention : Mention) → is_short_path source ≡ true → q mention ≡ true → q (from_path source mention) ≡ true

-- a mention is at the path that it shows
from_own : (path : Path) (kind : Kind) (optional : Bool)
    → from_path (shown_path (record { path = path; kind = kind; optional = optional })) (record { path = path; kind = kind; optional = optional })
    ≡ record { path = path; kind = kind; optional = optional }
from_own path Ro optional = refl
from_own path Rw optional = refl
from_own path Exec optional = refl
from_own path NoExec optional = refl
from_own path Hide optional = refl
from_own path (Tmp read_only no_exec no_suid) optional = refl
from_own path (Bind source read_only recursive) optional = refl

private_is_short : (switches : Switches) (keys : FurtherKeys) (path : WrittenPath) (private : Path)
    → private_path switches keys path ≡ Some private → is_short_path private ≡ true
private_is_short switches keys path private e = on switches.dynamic_user e
  where
    at_text : (folder : List ℕ) (rest : Option (List ℕ))
        → option_and_then (λ text. setting_path (folder ++ codes "/private" ++ text)) rest ≡ Some private → is_short_path private ≡ true
    at_text folder None e = cc
    at_text folder (Some text) e = setting_is_short (folder ++ codes "/private" ++ text) private e

    at_front : (folder : List ℕ) (front : Option Path)
        → option_and_then (λ front. option_and_then (λ text. setting_path (folder ++ codes "/private" ++ text))
        (rest_text front (shown_path path.mention))) front ≡ Some private → is_short_path private ≡ true
    at_front folder None e = cc
    at_front folder (Some front) e = at_text folder (rest_text front (shown_path path.mention)) e

    at_folder : (folder : Option (List ℕ))
        → option_and_then (λ folder. private_below folder (shown_path path.mention)) folder ≡ Some private → is_short_path private ≡ true
    at_folder None e = cc
    at_folder (Some folder) e = at_front folder (setting_path folder) e

    on : (dynamic : Bool) → cond dynamic (option_and_then (λ folder. private_below folder (shown_path path.mention))
        (folder_of_users keys.keeps_runtime path.key)) None ≡ Some private → is_short_path private ≡ true
    on true e = at_folder (folder_of_users keys.keeps_runtime path.key) e
    on false e = cc

module _ (q : Mention → Bool) (moves : MayMove q) (site : Site) (switches : Switches) (keys : FurtherKeys) where
  of_placed : (path : WrittenPath) → q path.mention ≡ true → q (placed_folder site switches keys path) ≡ true
  of_placed path holds =
      let mention = path.mention in
      let own : q (from_path (shown_path mention) mention) ≡ true = ap q (from_own mention.path mention.kind mention.optional) ∙ holds in
      (elim (private_path switches keys path) as (λ o. private_path switches keys path ≡ o
      → q (from_path (chosen_path site (shown_path mention) o) mention) ≡ true) [
        | None ↦ λ e. own
        | Some private ↦ λ e. elim (stands_for site private (shown_path mention)) as
            (λ b. q (from_path (cond b private (shown_path mention)) mention) ≡ true) [
              | true ↦ moves private mention (private_is_short switches keys path private e) holds
              | false ↦ own
            ]
      ]) refl

  all_placed : (paths : List WrittenPath) → list_all (λ path. q path.mention) paths ≡ true
      → list_all q (map (placed_folder site switches keys) paths) ≡ true
  all_placed [] all = refl
  all_placed (path ∷ paths) all =
      let parts = both (q path.mention) (list_all (λ one. q one.mention) paths) all in
      ap (λ v. v && list_all q (map (placed_folder site switches keys) paths)) (of_placed path parts.0) ∙ all_placed paths parts.1

  -- all folders that are brought have the property
  pub of_folders_by : (paths : List WrittenPath) → list_all (λ path. q path.mention) (folders paths) ≡ true
      → list_all q (brought_folders site switches keys paths) ≡ true
  of_folders_by paths all =
      of_picked (is_there site) q (map (placed_folder site switches keys) (folders paths)) (all_placed (folders paths) all)

module _ (q : MountEntry → Bool) (of : OfRows q) (moves : MayMove (λ mention. q (entry_of mention))) (version : Version)
    (switches : Switches) (protections : Protections) (keys : FurtherKeys) (paths : List WrittenPath) where
  -- the entries of mentions have the property if it holds of each
  entries_are : (mentions : List Mention) → list_all (λ mention. q (entry_of mention)) mentions ≡ true
      → list_all q (map entry_of mentions) ≡ true
  entries_are mentions all = list_all-map q entry_of mentions ∙ all

  -- all implied entries have the property if the folders have it
  pub of_implied_by : (site : Site) → list_all (λ path. q (entry_of path.mention)) (folders paths) ≡ true
      → list_all q (implied_of version site switches protections keys paths) ≡ true
  unfolding implied_of
  of_implied_by site all =
      elim (has_own_mounts version switches protections keys paths) as
      (λ own. list_all q (cond own (brought version site switches protections keys paths) []) ≡ true) [
        | true ↦ of_two q (filter (stands site) (by_table version switches protections keys))
            (map entry_of (brought_folders site switches keys paths))
            (of_picked (stands site) q (by_table version switches protections keys)
            (of_rows q (table (rows_on version switches protections keys)) (of (rows_on version switches protections keys))))
            (entries_are (brought_folders site switches keys paths)
            (of_folders_by (λ mention. q (entry_of mention)) moves site switches keys paths all))
        | false ↦ refl
      ]

  -- all entries have the property if all written paths have it
  pub of_all_by : (site : Site) → list_all (λ path. q (entry_of path.mention)) paths ≡ true
      → list_all q (entries_by version site switches protections keys paths) ≡ true
  unfolding entries_by
  of_all_by site all =
      of_two q (map entry_of (as_written paths)) (implied_of version site switches protections keys paths)
      (entries_are (as_written paths) (of_some (λ mention. q (entry_of mention)) (λ path. not (is_implied path.key)) paths all))
      (of_implied_by site (of_picked (λ path. is_implied path.key) (λ path. q (entry_of path.mention)) paths all))
