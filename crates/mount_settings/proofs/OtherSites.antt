-- Sites that agree on some rows give a unit the same mentions.
use Rattle.std.proofs.Common.{◌≡◌, ◌∙◌, Bool, true, false, cond, List, [], ◌∷◌, ◌++◌, Option, Some, None, map, refl, ap}
use Rattle.std.specs.Prelude.{◌&&◌, not, filter, flat_map}
use Rattle.std.specs.List.{AllByRecursion, cons_option}
use Rattle.path_settings.specs.abs_path.Paths.{Path}
use Rattle.path_settings.specs.declared.mentions.Kind.{Kind}
use Rattle.path_settings.specs.declared.mentions.Kind.TheVariants.{Ro, Rw, Exec, NoExec, Hide, Tmp, Bind}
use Rattle.path_settings.specs.declared.mentioned.Mentioned.TheVariants.{Base, Systemd}
use Rattle.path_settings.specs.declared.mentions.Mention.{Mention}
use Rattle.path_settings.specs.declared.systemd.entries.MountEntry.{MountEntry}
use Rattle.path_settings.specs.systemd.Written.{entry_of}
use Rattle.dropin_merge.specs.declared.resolved.Resolved.{Resolved}
use Rattle.dropin_merge.specs.unit_names.declared.version.Version.{Version}
use Rattle.site_table.specs.Table.{Site}
use Rattle.mount_settings.specs.declared.written.WrittenPath.{WrittenPath}
use Rattle.mount_settings.specs.declared.protections.Switches.{Switches}
use Rattle.mount_settings.specs.declared.systemd.keys.FurtherKeys.{FurtherKeys}
use Rattle.mount_settings.specs.Effects.{has_row}
use Rattle.mount_settings.specs.Effects as mentions
use Rattle.mount_settings.specs.Implied.{asked, implied}
use Rattle.mount_settings.specs.Settings.{as_written, deciding_in, entries_by, mentions_in, mentions_of, protections_of}
use Rattle.mount_settings.specs.systemd.Folders.{asked_at, asked_folder, asked_folders, brought_folders, chosen_path, folders, from_path, is_there}
use Rattle.mount_settings.specs.systemd.Folders.{placed_folder, private_path, shown_path}
use Rattle.mount_settings.specs.systemd.Keys.{unit_keys}
use Rattle.mount_settings.specs.systemd.Mentions.{by_table, implied_of, sets_no_new_privs, stands}
use Rattle.mount_settings.specs.systemd.OwnMounts.{has_own_mounts}

-- tests that agree on each element keep the same elements
filter_agrees : {X : Type 0} (p q : X → Bool) (xs : List X) → AllByRecursion (λ x. p x ≡ q x) xs → filter p xs ≡ filter q xs
filter_agrees p q [] same = refl
filter_agrees {X = X} p q (x ∷ xs) same = ap (λ b. cond b (x ∷ filter p xs) (filter p xs)) same.0
    ∙ ap (λ (rest : List X). cond (q x) (x ∷ rest) rest) (filter_agrees p q xs same.1)

both_all : {X : Type 0} (p : X → Type 0) (xs ys : List X) → AllByRecursion p (xs ++ ys) → AllByRecursion p xs × AllByRecursion p ys
both_all p [] ys all = (tt, all)
both_all p (x ∷ xs) ys all = let rest = both_all p xs ys all.1 in ((all.0, rest.0), rest.1)

module _ (site other : Site) where
  -- both sites have a row at a path, or neither has one
  abbrev pub SameAt : Path → Type 0
  SameAt path = has_row other path ≡ has_row site path

  abbrev SameRow : Mention → Type 0
  SameRow mention = SameAt mention.path

  -- ---- folders
  module _ (switches : Switches) (keys : FurtherKeys) where
    chosen_same : (own : Path) (private : Option Path) → has_row other own ≡ has_row site own
        → AllByRecursion (λ path. has_row other path ≡ has_row site path) (cons_option private [])
        → chosen_path other own private ≡ chosen_path site own private
    chosen_same own None same all = refl
    chosen_same own (Some private) same all =
        ap (λ b. cond (b && not (has_row other own)) private own) all.0
        ∙ ap (λ b. cond (has_row site private && not b) private own) same

    chosen_row : (own : Path) (private : Option Path) → has_row other own ≡ has_row site own
        → AllByRecursion (λ path. has_row other path ≡ has_row site path) (cons_option private [])
        → has_row other (chosen_path site own private) ≡ has_row site (chosen_path site own private)
    chosen_row own None same all = same
    chosen_row own (Some private) same all =
        elim (has_row site private && not (has_row site own)) as
        (λ b. has_row other (cond b private own) ≡ has_row site (cond b private own)) [ true ↦ all.0 | false ↦ same ]

    shown_row : (source path : Path) (kind : Kind) (optional : Bool) → has_row other source ≡ has_row site source
        → has_row other (shown_path (record { path = path; kind = kind; optional = optional }))
        ≡ has_row site (shown_path (record { path = path; kind = kind; optional = optional }))
        → is_there other (from_path source (record { path = path; kind = kind; optional = optional }))
        ≡ is_there site (from_path source (record { path = path; kind = kind; optional = optional }))
    shown_row source path Ro optional from own = own
    shown_row source path Rw optional from own = own
    shown_row source path Exec optional from own = own
    shown_row source path NoExec optional from own = own
    shown_row source path Hide optional from own = own
    shown_row source path (Tmp read_only no_exec no_suid) optional from own = own
    shown_row source path (Bind old read_only recursive) optional from own = from

    asked_rows : (mention : Mention) (paths : List Path) → AllByRecursion SameRow (map (asked_at mention) paths)
        → AllByRecursion (λ path. has_row other path ≡ has_row site path) paths
    asked_rows mention [] same = tt
    asked_rows mention (path ∷ paths) same = (same.0, asked_rows mention paths same.1)

    folders_same : (paths : List WrittenPath) → AllByRecursion SameRow (flat_map (asked_folder switches keys) paths)
        → filter (is_there other) (map (placed_folder other switches keys) paths)
        ≡ filter (is_there site) (map (placed_folder site switches keys) paths)
    folders_same [] same = refl
    folders_same (path ∷ paths) same =
        let mention = path.mention in
        let own = shown_path mention in
        let private = private_path switches keys path in
        let parts = both_all SameRow (asked_folder switches keys path) (flat_map (asked_folder switches keys) paths) same in
        let of_private = asked_rows mention (cons_option private []) parts.0.1 in
        let chosen : placed_folder other switches keys path ≡ placed_folder site switches keys path =
        ap (λ source. from_path source mention) (chosen_same own private parts.0.0 of_private) in
        let there : is_there other (placed_folder site switches keys path) ≡ is_there site (placed_folder site switches keys path) =
        shown_row (chosen_path site own private) mention.path mention.kind mention.optional
        (chosen_row own private parts.0.0 of_private) parts.0.0 in
        let rest = folders_same paths parts.1 in
        ap (λ (one : Mention). cond (is_there other one) (one ∷ filter (is_there other) (map (placed_folder other switches keys) paths))
        (filter (is_there other) (map (placed_folder other switches keys) paths))) chosen
        ∙ ap (λ b. cond b (placed_folder site switches keys path ∷ filter (is_there other) (map (placed_folder other switches keys) paths))
        (filter (is_there other) (map (placed_folder other switches keys) paths))) there
        ∙ ap (λ (more : List Mention). cond (is_there site (placed_folder site switches keys path))
        (placed_folder site switches keys path ∷ more) more) rest

  -- ---- all mentions
  paths_agree : {X : Type 0} (at : X → Path) (xs : List X) → AllByRecursion SameAt (map at xs)
      → AllByRecursion (λ x. has_row other (at x) ≡ has_row site (at x)) xs
  paths_agree at [] same = tt
  paths_agree at (x ∷ xs) same = (same.0, paths_agree at xs same.1)

  module _ (unit : Resolved) (switches : Switches) (paths : List WrittenPath) where
    by_base : AllByRecursion SameAt (deciding_in None unit switches paths)
        → mentions_in None unit other switches paths ≡ mentions_in None unit site switches paths
    unfolding mentions_of implied
    by_base same =
        let wanted = asked switches (protections_of unit switches) paths in
        ap (λ (more : List Mention). Base (as_written paths ++ more))
        (filter_agrees (mentions.stands other) (mentions.stands site) wanted (paths_agree (λ mention. mention.path) wanted same))

    by_version : (version : Version) → AllByRecursion SameAt (deciding_in (Some version) unit switches paths)
        → mentions_in (Some version) unit other switches paths ≡ mentions_in (Some version) unit site switches paths
    unfolding entries_by implied_of
    by_version version same =
        let protections = protections_of unit switches in
        let keys = unit_keys unit in
        let own = has_own_mounts version switches protections keys paths in
        let table = by_table version switches protections keys in
        let written : List MountEntry = map entry_of (as_written paths) in
        let parts = both_all SameAt (map (λ one. one.path) table) (map (λ mention. mention.path) (asked_folders switches keys paths)) same in
        ap (λ (more : List MountEntry). Systemd (written ++ cond own (more ++ map entry_of (brought_folders other switches keys paths)) [])
        (sets_no_new_privs switches keys))
        (filter_agrees (stands other) (stands site) table (paths_agree (λ one. one.path) table parts.0))
        ∙ ap (λ (more : List Mention). Systemd (written ++ cond own (filter (stands site) table ++ map entry_of more) [])
        (sets_no_new_privs switches keys))
        (folders_same switches keys (folders paths)
        (paths_agree (λ mention. mention.path) (asked_folders switches keys paths) parts.1))

    pub same_for_sites : (systemd : Option Version) → AllByRecursion SameAt (deciding_in systemd unit switches paths)
        → mentions_in systemd unit other switches paths ≡ mentions_in systemd unit site switches paths
    same_for_sites None same = by_base same
    same_for_sites (Some version) same = by_version version same
