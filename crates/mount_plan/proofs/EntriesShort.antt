-- The object of a made entry has a path of at most 512 bytes on the host: its own path, the source of a bind, or the path of a row.
use Rattle.std.proofs.Common.{◌≡◌, ◌≤◌, inl, inr, Bool, true, false, cond, List, ◌++◌, length, Option, Some, None, refl, sym, ap, ◌∙◌}
use Rattle.std.proofs.Common.{subst, append-nil}
use Rattle.std.specs.List.{AllByRecursion, list_all}
use Rattle.std.proofs.lemmas.Bool.{false≢true, and_parts}
use Rattle.path_settings.specs.abs_path.Paths.{Path, tail_of}
use Rattle.path_settings.specs.declared.systemd.entries.MountEntry.{MountEntry}
use Rattle.path_settings.specs.declared.systemd.modes.MountMode.{MountMode}
use Rattle.path_settings.specs.declared.systemd.modes.MountMode.TheVariants.{Hidden, Bind, DisconnectedTmp, RecursiveBind, PrivateTmp}
use Rattle.path_settings.specs.declared.systemd.modes.MountMode.TheVariants.{PrivateDevices, Tmpfs, Node}
use Rattle.path_settings.specs.declared.view_map.rules.Beneath.{Beneath}
use Rattle.path_settings.specs.declared.view_map.rules.Beneath.TheVariants as beneath
use Rattle.path_settings.specs.Mentions.{is_path}
use Rattle.path_settings.specs.systemd.Entries.{has_whole_source, is_whole}
use Rattle.path_settings.specs.systemd.Modes.{is_node, is_origin}
use Rattle.path_settings.specs.systemd.Listed.{listed}
use Rattle.path_settings.specs.systemd.Made.{fate_at, made, mode_fate, nodes, object_by, object_in, putting, source_row, there_fate}
use Rattle.path_settings.specs.view_map.Kept.{Host, beneath_by, beneath_row, is_kept}
use Rattle.path_settings.specs.view_map.Object.{Object, on_host, empty, hidden}
use Rattle.path_settings.proofs.SystemdLaws.{listed_is}
use Rattle.path_settings.proofs.ViewMapLists.{all_from_test, all_weaker}
use Rattle.mount_plan.specs.Short.{HasShortHost}
use Rattle.mount_plan.specs.systemd.Table.{object_among}
use Rattle.mount_plan.proofs.EntriesAsView.{has_one}
use Rattle.mount_plan.proofs.EntriesMade.{IsMounted, each_mounted, nodes_are_nodes, nodes_is}
use Rattle.mount_plan.proofs.Hosts.{AreShortRows}
use Rattle.mount_plan.proofs.ShortPaths.{rest_of_itself, short_path}

-- what an entry puts at its own path is short, as its path and its source are
short_own : (mode : MountMode) (path : Path) → is_path path ≡ true → has_whole_source mode ≡ true → HasShortHost (object_by mode path path)
short_own Hidden path own source = tt
short_own (Bind at read_only) path own source = subst (λ (p : Path). length (tail_of p) ≤ 512)
    (sym (ap (λ rest. at ++ rest) (rest_of_itself path) ∙ append-nil at)) (short_path at source)
short_own DisconnectedTmp path own source = tt
short_own (RecursiveBind at read_only) path own source = subst (λ (p : Path). length (tail_of p) ≤ 512)
    (sym (ap (λ rest. at ++ rest) (rest_of_itself path) ∙ append-nil at)) (short_path at source)
short_own PrivateTmp path own source = tt
short_own PrivateDevices path own source = tt
short_own (Tmpfs read_only no_exec no_suid) path own source = tt
short_own _ path own source = short_path path own

-- an entry that does not put an object is made only over a row of the host
there_row : (here : Beneath) (optional : Bool) → is_kept (there_fate here optional) ≡ true → (is_dir : Bool) × (here ≡ beneath.Row is_dir)
there_row (beneath.Row is_dir) optional h = (is_dir, refl)
there_row beneath.Hidden true h = absurd (false≢true h)
there_row beneath.Hidden false h = absurd (false≢true h)
there_row beneath.Empty true h = absurd (false≢true h)
there_row beneath.Empty false h = absurd (false≢true h)
there_row beneath.NoRow true h = absurd (false≢true h)
there_row beneath.NoRow false h = absurd (false≢true h)

over_row : (source : Option Bool) (here : Beneath) (optional : Bool) (mode : MountMode) → is_origin mode ≡ false
    → is_kept (mode_fate source here optional mode) ≡ true → (is_dir : Bool) × (here ≡ beneath.Row is_dir)
over_row source here optional Hidden plain h = absurd (false≢true (sym plain))
over_row source here optional (Bind at read_only) plain h = absurd (false≢true (sym plain))
over_row source here optional DisconnectedTmp plain h = absurd (false≢true (sym plain))
over_row source here optional (RecursiveBind at read_only) plain h = absurd (false≢true (sym plain))
over_row source here optional PrivateTmp plain h = absurd (false≢true (sym plain))
over_row source here optional PrivateDevices plain h = absurd (false≢true (sym plain))
over_row source here optional (Tmpfs read_only no_exec no_suid) plain h = absurd (false≢true (sym plain))
over_row source here optional Node plain h = absurd (false≢true (sym plain))
over_row source here optional _ plain h = there_row here optional h

-- the path of a row is short
short_row : (row_at : Host) (object : Object) (is_dir : Bool) → AreShortRows row_at → beneath_by row_at object ≡ beneath.Row is_dir
    → HasShortHost object
short_row row_at empty is_dir rows e = tt
short_row row_at hidden is_dir rows e = tt
short_row row_at (on_host path) is_dir rows e = by (row_at path) refl e
  where
    by : (o : Option Bool) → row_at path ≡ o → beneath_row o ≡ beneath.Row is_dir → length (tail_of path) ≤ 512
    by None found e = absurd (cc)
    by (Some own) found e = rows path own found

-- the object of a made entry has a short path
short_made : (row_at : Host) (entries : List MountEntry) (one : MountEntry) → AreShortRows row_at → is_whole one ≡ true
    → is_kept (fate_at row_at entries one) ≡ true → HasShortHost (object_among (putting row_at entries) one)
short_made row_at entries one rows whole kept = by (is_origin one.mode) refl
  where
    by : (b : Bool) → is_origin one.mode ≡ b
        → HasShortHost (cond b (object_by one.mode one.path one.path) (object_in (putting row_at entries) one.path))
    by true says =
        let both = and_parts (is_path one.path) (has_whole_source one.mode) whole in
        short_own one.mode one.path both.0 both.1
    by false plain =
        let here : Object = object_in (putting row_at entries) one.path in
        let row = over_row (source_row row_at one) (beneath_by row_at here) one.optional one.mode plain kept in
        short_row row_at here row.0 rows row.1

-- a node shows the host's object at its own path
short_node : (mode : MountMode) (path : Path) (here : Object) → is_node mode ≡ true → is_path path ≡ true
    → HasShortHost (cond (is_origin mode) (object_by mode path path) here)
short_node Node path here node own = short_path path own
short_node _ path here node own = absurd (false≢true node)

pub short_hosts : (row_at : Host) (entries : List MountEntry) → AreShortRows row_at → list_all is_whole entries ≡ true
    → AllByRecursion (λ one. HasShortHost (object_among (putting row_at entries) one)) (made row_at entries)
short_hosts row_at entries rows whole =
    all_weaker (IsMounted row_at entries) (λ one. HasShortHost (object_among (putting row_at entries) one)) (made row_at entries) by
    (each_mounted row_at entries)
  where
    all_whole : AllByRecursion (λ one. is_whole one ≡ true) entries
    all_whole = all_from_test is_whole entries whole

    by : (one : MountEntry) → IsMounted row_at entries one → HasShortHost (object_among (putting row_at entries) one)
    by one mounted = elim mounted [
      | inl kept ↦ short_made row_at entries one rows
          (has_one (λ m. is_whole m ≡ true) (listed entries) one (listed_is (λ m. is_whole m ≡ true) entries all_whole) kept.0) kept.1
      | inr node ↦ short_node one.mode one.path (object_in (putting row_at entries) one.path)
          (has_one (λ m. is_node m.mode ≡ true) (nodes entries) one (nodes_are_nodes entries) node.0)
          (and_parts (is_path one.path) (has_whole_source one.mode)
          (has_one (λ m. is_whole m ≡ true) (nodes entries) one (nodes_is (λ m. is_whole m ≡ true) entries all_whole) node.0)).0
    ]
