-- If no key says which object is at the root, no mention does, and all mentions are short.
use Rattle.std.proofs.Common.{◌≡◌, Bool, true, false, cond, Option, Some, None, List, [], ◌∷◌, refl, sym, ap, ◌∙◌}
use Rattle.std.specs.Prelude.{◌&&◌, ◌||◌, not, find}
use Rattle.std.specs.List.{list_all}
use Rattle.std.proofs.lemmas.Bool.{and_from}
use Rattle.path_settings.specs.abs_path.Paths.{Path, is_root}
use Rattle.path_settings.specs.declared.mentions.Kind.{Kind}
use Rattle.path_settings.specs.declared.mentions.Kind.TheVariants.{Ro, Rw, Exec, NoExec, Hide, Tmp, Bind}
use Rattle.path_settings.specs.declared.keys.PathKey.TheVariants.{InaccessiblePaths, BindPaths, BindReadOnlyPaths, TemporaryFileSystem}
use Rattle.path_settings.specs.declared.mentions.Mention.{Mention}
use Rattle.path_settings.specs.Keys.{is_implied}
use Rattle.path_settings.specs.Mentioned.{leaves_the_root, AreShort}
use Rattle.path_settings.specs.Mentions.{is_origin}
use Rattle.path_settings.specs.Short.{has_short_source, is_short, is_short_path}
use Rattle.path_settings.specs.declared.systemd.entries.MountEntry.{MountEntry}
use Rattle.path_settings.specs.systemd.Entries.{has_short_source as entry_short_source, is_short as is_short_entry}
use Rattle.path_settings.specs.systemd.Modes.{is_origin as is_entry_origin}
use Rattle.path_settings.specs.systemd.Written.{mode_of, entry_of}
use Rattle.dropin_merge.specs.declared.resolved.Resolved.{Resolved}
use Rattle.dropin_merge.specs.unit_names.declared.version.Version.{Version}
use Rattle.site_table.specs.Table.{Site}
use Rattle.mount_settings.specs.declared.written.WrittenPath.{WrittenPath}
use Rattle.mount_settings.specs.declared.protections.Switches.{Switches}
use Rattle.mount_settings.specs.Assigned.{is_key}
use Rattle.mount_settings.specs.Roots.{mentions_root, root_key, is_as_its_key, AreRead}
use Rattle.mount_settings.specs.Settings.{all_mentions, mentions_in, protections_of}
use Rattle.mount_settings.specs.systemd.Keys.{unit_keys}
use Rattle.mount_settings.proofs.EachMention.{both, of_all}
use Rattle.mount_settings.specs.systemd.Folders.{from_path}
use Rattle.mount_settings.proofs.EachOfTable.{MayMove, of_all_by}

abbrev leaves : Mention → Bool
leaves mention = not (is_root mention.path && is_origin mention.kind)

-- a path is as its key allows, and none of the four keys is at the root
one_leaves : (root origin folder a b c d : Bool) → (a && root) ≡ false → (b && root) ≡ false → (c && root) ≡ false → (d && root) ≡ false
    → (not origin || ((a || (b || (c || (d || false)))) || (folder && not root))) ≡ true → not (root && origin) ≡ true
one_leaves false origin folder a b c d ea eb ec ed fit = refl
one_leaves true origin folder true b c d ea eb ec ed fit = cc
one_leaves true origin folder false true c d ea eb ec ed fit = cc
one_leaves true origin folder false false true d ea eb ec ed fit = cc
one_leaves true origin folder false false false true ea eb ec ed fit = cc
one_leaves true true true false false false false ea eb ec ed fit = cc
one_leaves true true false false false false false ea eb ec ed fit = cc
one_leaves true false folder false false false false ea eb ec ed fit = refl

neither : (a b : Bool) → (a || b) ≡ false → (a ≡ false) × (b ≡ false)
neither true b e = let bad : ⊥ = cc in absurd bad
neither false b e = (refl, e)

paths_leave : (paths : List WrittenPath) → mentions_root paths BindPaths ≡ false → mentions_root paths BindReadOnlyPaths ≡ false
    → mentions_root paths InaccessiblePaths ≡ false → mentions_root paths TemporaryFileSystem ≡ false
    → list_all is_as_its_key paths ≡ true → list_all (λ path. leaves path.mention) paths ≡ true
paths_leave [] a b c d fit = refl
paths_leave (path ∷ paths) a b c d fit =
    let na = neither (is_key path.key BindPaths && is_root path.mention.path) (mentions_root paths BindPaths) a in
    let nb = neither (is_key path.key BindReadOnlyPaths && is_root path.mention.path) (mentions_root paths BindReadOnlyPaths) b in
    let nc = neither (is_key path.key InaccessiblePaths && is_root path.mention.path) (mentions_root paths InaccessiblePaths) c in
    let nd = neither (is_key path.key TemporaryFileSystem && is_root path.mention.path) (mentions_root paths TemporaryFileSystem) d in
    let fits = both (is_as_its_key path) (list_all is_as_its_key paths) fit in
    ap (λ v. v && list_all (λ other. leaves other.mention) paths)
    (one_leaves (is_root path.mention.path) (is_origin path.mention.kind) (is_implied path.key) (is_key path.key BindPaths)
    (is_key path.key BindReadOnlyPaths) (is_key path.key InaccessiblePaths) (is_key path.key TemporaryFileSystem) na.0 nb.0 nc.0 nd.0 fits.0)
    ∙ paths_leave paths na.1 nb.1 nc.1 nd.1 fits.1

not_first : {X : Type 0} (b : Bool) (x : X) (rest : Option X) → cond b (Some x) rest ≡ None → (b ≡ false) × (rest ≡ None)
not_first true x rest e = let bad : ⊥ = cc in absurd bad
not_first false x rest e = (refl, e)

no_root : (paths : List WrittenPath) → root_key paths ≡ None → list_all is_as_its_key paths ≡ true
    → list_all (λ path. leaves path.mention) paths ≡ true
no_root paths none fit =
    let a = not_first (mentions_root paths BindPaths) BindPaths (find (mentions_root paths) (BindReadOnlyPaths ∷ InaccessiblePaths ∷ TemporaryFileSystem ∷ [])) none in
    let b = not_first (mentions_root paths BindReadOnlyPaths) BindReadOnlyPaths (find (mentions_root paths) (InaccessiblePaths ∷ TemporaryFileSystem ∷ [])) a.1 in
    let c = not_first (mentions_root paths InaccessiblePaths) InaccessiblePaths (find (mentions_root paths) (TemporaryFileSystem ∷ [])) b.1 in
    let d = not_first (mentions_root paths TemporaryFileSystem) TemporaryFileSystem None c.1 in
    paths_leave paths a.0 b.0 c.0 d.0 fit

-- a folder that is shown from another path stays at its own path
moved_leaves : MayMove leaves
moved_leaves source mention short holds = at mention.path mention.kind mention.optional holds
  where
    at : (path : Path) (kind : Kind) (optional : Bool) → leaves (record { path = path; kind = kind; optional = optional }) ≡ true
        → leaves (from_path source (record { path = path; kind = kind; optional = optional })) ≡ true
    at path Ro optional holds = holds
    at path Rw optional holds = holds
    at path Exec optional holds = holds
    at path NoExec optional holds = holds
    at path Hide optional holds = holds
    at path (Tmp read_only no_exec no_suid) optional holds = holds
    at path (Bind own read_only recursive) optional holds = holds

moved_short : MayMove is_short
moved_short source mention short holds = at mention.path mention.kind mention.optional holds
  where
    at : (path : Path) (kind : Kind) (optional : Bool) → is_short (record { path = path; kind = kind; optional = optional }) ≡ true
        → is_short (from_path source (record { path = path; kind = kind; optional = optional })) ≡ true
    at path Ro optional holds = holds
    at path Rw optional holds = holds
    at path Exec optional holds = holds
    at path NoExec optional holds = holds
    at path Hide optional holds = holds
    at path (Tmp read_only no_exec no_suid) optional holds = holds
    at path (Bind own read_only recursive) optional holds = and_from _ _ (both (is_short_path path) (is_short_path own) holds).0 short

-- ---- the entry that a mention asks for says the same
same_origin : (kind : Kind) → is_entry_origin (mode_of kind) ≡ is_origin kind
same_origin Ro = refl
same_origin Rw = refl
same_origin Exec = refl
same_origin NoExec = refl
same_origin Hide = refl
same_origin (Tmp read_only no_exec no_suid) = refl
same_origin (Bind source read_only true) = refl
same_origin (Bind source read_only false) = refl

same_source : (kind : Kind) → entry_short_source (mode_of kind) ≡ has_short_source kind
same_source Ro = refl
same_source Rw = refl
same_source Exec = refl
same_source NoExec = refl
same_source Hide = refl
same_source (Tmp read_only no_exec no_suid) = refl
same_source (Bind source read_only true) = refl
same_source (Bind source read_only false) = refl

abbrev entry_leaves : MountEntry → Bool
entry_leaves one = not (is_root one.path && is_entry_origin one.mode)

leaves_alike : (mention : Mention) → entry_leaves (entry_of mention) ≡ leaves mention
leaves_alike mention = ap (λ origin. not (is_root mention.path && origin)) (same_origin mention.kind)

short_alike : (mention : Mention) → is_short_entry (entry_of mention) ≡ is_short mention
short_alike mention = ap (λ short. is_short_path mention.path && short) (same_source mention.kind)

-- two tests that agree
all_alike : (p q : Mention → Bool) → ((mention : Mention) → p mention ≡ q mention) → (paths : List WrittenPath)
    → list_all (λ path. q path.mention) paths ≡ true → list_all (λ path. p path.mention) paths ≡ true
all_alike p q alike [] all = refl
all_alike p q alike (path ∷ paths) all =
    let parts = both (q path.mention) (list_all (λ one. q one.mention) paths) all in
    ap (λ v. v && list_all (λ one. p one.mention) paths) (alike path.mention ∙ parts.0) ∙ all_alike p q alike paths parts.1

moves_alike : (p q : Mention → Bool) → ((mention : Mention) → p mention ≡ q mention) → MayMove q → MayMove p
moves_alike p q alike moves source mention short holds =
    alike (from_path source mention) ∙ moves source mention short (sym (alike mention) ∙ holds)

-- no mention says which object is at the root
leave_in : (systemd : Option Version) (unit : Resolved) (site : Site) (switches : Switches) (paths : List WrittenPath) → AreRead paths
    → root_key paths ≡ None → leaves_the_root (mentions_in systemd unit site switches paths) ≡ true
leave_in None unit site switches paths read none =
    of_all leaves refl site switches (protections_of unit switches) paths (no_root paths none read.as_their_keys)
leave_in (Some version) unit site switches paths read none =
    of_all_by entry_leaves (λ on. refl) (moves_alike (λ mention. entry_leaves (entry_of mention)) leaves leaves_alike moved_leaves) version
    switches (protections_of unit switches) (unit_keys unit) paths site
    (all_alike (λ mention. entry_leaves (entry_of mention)) leaves leaves_alike paths (no_root paths none read.as_their_keys))

pub mentions_leave : (unit : Resolved) (site : Site) (switches : Switches) (paths : List WrittenPath) → AreRead paths
    → root_key paths ≡ None → leaves_the_root (all_mentions unit site switches paths) ≡ true
mentions_leave unit site switches paths read none = leave_in unit.systemd unit site switches paths read none

-- each has at most 250 bytes
short_in : (systemd : Option Version) (unit : Resolved) (site : Site) (switches : Switches) (paths : List WrittenPath) → AreRead paths
    → AreShort (mentions_in systemd unit site switches paths)
short_in None unit site switches paths read = of_all is_short refl site switches (protections_of unit switches) paths read.short
short_in (Some version) unit site switches paths read =
    of_all_by is_short_entry (λ on. refl) (moves_alike (λ mention. is_short_entry (entry_of mention)) is_short short_alike moved_short)
    version switches (protections_of unit switches) (unit_keys unit) paths site
    (all_alike (λ mention. is_short_entry (entry_of mention)) is_short short_alike paths read.short)

pub mentions_are_short : (unit : Resolved) (site : Site) (switches : Switches) (paths : List WrittenPath) → AreRead paths
    → AreShort (all_mentions unit site switches paths)
mentions_are_short unit site switches paths read = short_in unit.systemd unit site switches paths read
