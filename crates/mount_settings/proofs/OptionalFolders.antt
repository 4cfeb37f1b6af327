-- The implied mentions of a version of systemd are optional, and the site has the objects that they show.
use Rattle.std.proofs.Common.{◌≡◌, ℕ, Bool, true, false, cond, Option, Some, None, List, [], ◌∷◌, ◌++◌, map, refl, ap, ◌∙◌}
use Rattle.std.specs.Prelude.{◌&&◌, ◌||◌, is_none, not, filter, flat_map, unwrap_or, if◌then◌else◌}
use Rattle.std.specs.List.{AllByRecursion, cons_option, list_all}
use Rattle.std.specs.Option.{option_map}
use Rattle.path_settings.specs.abs_path.Paths.{Path}
use Rattle.path_settings.specs.declared.mentions.Kind.{Kind}
use Rattle.path_settings.specs.declared.mentions.Kind.TheVariants.{Ro, Rw, Exec, NoExec, Hide, Tmp, Bind}
use Rattle.path_settings.specs.declared.mentions.Mention.{Mention}
use Rattle.path_settings.specs.declared.systemd.entries.MountEntry.{MountEntry}
use Rattle.path_settings.specs.declared.systemd.modes.MountMode.{MountMode}
use Rattle.path_settings.specs.Mentions.{source_of as mention_source}
use Rattle.path_settings.specs.systemd.Modes.{source_of}
use Rattle.path_settings.specs.systemd.Written.{mode_of, entry_of}
use Rattle.path_settings.specs.Keys.{is_implied}
use Rattle.path_settings.specs.SettingPaths.{setting_path}
use Rattle.path_settings.proofs.ReadMentions.{implied_optional}
use Rattle.dropin_merge.specs.declared.resolved.Resolved.{Resolved}
use Rattle.dropin_merge.specs.unit_names.declared.version.Version.{Version}
use Rattle.site_table.specs.Table.{Site}
use Rattle.mount_settings.specs.declared.written.WrittenPath.{WrittenPath}
use Rattle.mount_settings.specs.declared.protections.Protections.{Protections}
use Rattle.mount_settings.specs.declared.protections.Switches.{Switches}
use Rattle.mount_settings.specs.declared.systemd.keys.FurtherKeys.{FurtherKeys}
use Rattle.mount_settings.specs.Assigned.{assigned_of, dialect_of}
use Rattle.mount_settings.specs.Effects.{has_row}
use Rattle.mount_settings.specs.Written.{unit_written}
use Rattle.mount_settings.specs.systemd.Folders.{brought_folders, folders, is_there, placed_folder, shown_path}
use Rattle.mount_settings.specs.systemd.Mentions.{brought, by_table, entry_shows, implied_of, shows_row, stands}
use Rattle.mount_settings.specs.systemd.OwnMounts.{has_own_mounts}
use Rattle.mount_settings.specs.systemd.Rows.{Row, asks_for, by_row, table, rows_on}
use Rattle.mount_settings.specs.declared.systemd.rows.RowsOn.{RowsOn}
use Rattle.mount_settings.proofs.AsKeys.{all_hold, or_true}
use Rattle.mount_settings.proofs.EachMention.{both, of_two}
use Rattle.mount_settings.proofs.EachOfTable.{of_implied_by}
use Rattle.mount_settings.proofs.Optional.{filter_all}

-- a path of a folder key is optional
abbrev is_optional_folder : WrittenPath → Bool
is_optional_folder path = not (is_implied path.key) || path.mention.optional

written_optional : (unit : Resolved) → list_all is_optional_folder (unit_written unit) ≡ true
unfolding unit_written
written_optional unit =
    all_hold (λ key mention. not (is_implied key) || mention.optional) (record {
      alone = λ key word mention e.
          (elim (is_implied key) as (λ b. is_implied key ≡ b → (not b || mention.optional) ≡ true) [
            | true ↦ λ implied. implied_optional key word mention implied e
            | false ↦ λ implied. refl
          ]) refl;
      shown = λ key read_only source path implied from at deep. or_true (not (is_implied key));
    }) (dialect_of unit.systemd) (assigned_of unit)

folders_optional : (paths : List WrittenPath) → list_all is_optional_folder paths ≡ true
    → list_all (λ path. path.mention.optional) (folders paths) ≡ true
folders_optional [] all = refl
folders_optional (path ∷ paths) all =
    let parts = both (is_optional_folder path) (list_all is_optional_folder paths) all in
    let rest = folders_optional paths parts.1 in
    (elim (is_implied path.key) as (λ b. (not b || path.mention.optional) ≡ true
    → list_all (λ one. one.mention.optional) (cond b (path ∷ folders paths) (folders paths)) ≡ true) [
      | true ↦ λ own. ap (λ v. v && list_all (λ one. one.mention.optional) (folders paths)) own ∙ rest
      | false ↦ λ own. rest
    ]) parts.0

pub implied_by_are_optional : (version : Version) (site : Site) (switches : Switches) (protections : Protections) (keys : FurtherKeys)
    (unit : Resolved) → list_all (λ one. one.optional) (implied_of version site switches protections keys (unit_written unit)) ≡ true
implied_by_are_optional version site switches protections keys unit =
    of_implied_by (λ one. one.optional) (λ on. refl) (λ source mention short holds. holds) version switches protections keys
    (unit_written unit) site (folders_optional (unit_written unit) (written_optional unit))

-- ---- an entry of the table is at the path that it shows
abbrev is_at_its_path : MountEntry → Type 0
is_at_its_path one = entry_shows one ≡ one.path

-- the table has no bind, which would show another path
rows_have_none : (on : RowsOn) → list_all (λ row. is_none (source_of row.1)) (table on) ≡ true
rows_have_none on = refl

at_own : (mode : MountMode) (path : Path) → is_none (source_of mode) ≡ true
    → is_at_its_path (record { path = path; mode = mode; optional = true })
at_own mode path none = by (source_of mode) none
  where
    by : (o : Option Path) → is_none o ≡ true → unwrap_or o path ≡ path
    by None e = refl
    by (Some source) e = let bad : ⊥ = cc in absurd bad

one_at : (own : MountMode) (path : Option Path) (rest : List MountEntry) → is_none (source_of own) ≡ true
    → AllByRecursion is_at_its_path rest
    → AllByRecursion is_at_its_path
    (cons_option (option_map (λ path. record { path = path; mode = own; optional = true }) path) rest)
one_at own None rest none all = all
one_at own (Some path) rest none all = (at_own own path none, all)

texts_at : (own : MountMode) (texts : List (List ℕ)) → is_none (source_of own) ≡ true → AllByRecursion is_at_its_path (asks_for own texts)
texts_at own [] none = tt
texts_at own (text ∷ texts) none = one_at own (setting_path text) (asks_for own texts) none (texts_at own texts none)

two_at : (xs ys : List MountEntry) → AllByRecursion is_at_its_path xs → AllByRecursion is_at_its_path ys
    → AllByRecursion is_at_its_path (xs ++ ys)
two_at [] ys one other = other
two_at (x ∷ xs) ys one other = (one.0, two_at xs ys one.1 other)

rows_at : (rows : List Row) → list_all (λ row. is_none (source_of row.1)) rows ≡ true → AllByRecursion is_at_its_path (flat_map by_row rows)
rows_at [] none = tt
rows_at (row ∷ rows) none =
    let parts = both (is_none (source_of row.1)) (list_all (λ one. is_none (source_of one.1)) rows) none in
    two_at (by_row row) (flat_map by_row rows)
    (elim row.0 as (λ on. AllByRecursion is_at_its_path (if on then asks_for row.1 row.2 else []))
    [ true ↦ texts_at row.1 row.2 parts.0 | false ↦ tt ])
    (rows_at rows parts.1)

there : (site : Site) (entries : List MountEntry) → AllByRecursion is_at_its_path entries
    → list_all (shows_row site) (filter (stands site) entries) ≡ true
there site [] all = refl
there site (one ∷ entries) all =
    let rest = there site entries all.1 in
    (elim (stands site one) as (λ b. stands site one ≡ b
    → list_all (shows_row site) (cond b (one ∷ filter (stands site) entries) (filter (stands site) entries)) ≡ true) [
      | true ↦ λ is. ap (λ v. v && list_all (shows_row site) (filter (stands site) entries)) (ap (has_row site) all.0 ∙ is) ∙ rest
      | false ↦ λ is. rest
    ]) refl

-- the entry of a mention shows the same path
shows_the_same : (mention : Mention) → entry_shows (entry_of mention) ≡ shown_path mention
shows_the_same mention = by mention.path mention.kind
  where
    by : (path : Path) (kind : Kind) → unwrap_or (source_of (mode_of kind)) path ≡ unwrap_or (mention_source kind) path
    by path Ro = refl
    by path Rw = refl
    by path Exec = refl
    by path NoExec = refl
    by path Hide = refl
    by path (Tmp read_only no_exec no_suid) = refl
    by path (Bind source read_only true) = refl
    by path (Bind source read_only false) = refl

entries_there : (site : Site) (mentions : List Mention) → list_all (is_there site) mentions ≡ true
    → list_all (shows_row site) (map entry_of mentions) ≡ true
entries_there site [] all = refl
entries_there site (mention ∷ mentions) all =
    let parts = both (is_there site mention) (list_all (is_there site) mentions) all in
    ap (λ v. v && list_all (shows_row site) (map entry_of mentions)) (ap (has_row site) (shows_the_same mention) ∙ parts.0)
    ∙ entries_there site mentions parts.1

pub implied_by_have_rows : (version : Version) (site : Site) (switches : Switches) (protections : Protections) (keys : FurtherKeys)
    (paths : List WrittenPath) → list_all (shows_row site) (implied_of version site switches protections keys paths) ≡ true
unfolding implied_of
implied_by_have_rows version site switches protections keys paths =
    elim (has_own_mounts version switches protections keys paths) as
    (λ own. list_all (shows_row site) (cond own (brought version site switches protections keys paths) []) ≡ true) [
      | true ↦ of_two (shows_row site) (filter (stands site) (by_table version switches protections keys))
          (map entry_of (brought_folders site switches keys paths))
          (there site (by_table version switches protections keys)
          (rows_at (table (rows_on version switches protections keys)) (rows_have_none (rows_on version switches protections keys))))
          (entries_there site (brought_folders site switches keys paths)
          (filter_all (is_there site) (map (placed_folder site switches keys) (folders paths))))
      | false ↦ refl
    ]
