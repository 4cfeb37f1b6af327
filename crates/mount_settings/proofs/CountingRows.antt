-- The number of entries that a version of systemd is asked to mount.
use Rattle.std.proofs.Common.{◌≡◌, ℕ, ◌+◌, ◌≤◌, Bool, true, false, List, [], ◌∷◌, ◌++◌, length, lit≤, arith, ap, map, refl, ◌∙◌}
use Rattle.std.proofs.Common.{length-append}
use Rattle.std.proofs.lemmas.List.{length-map}
use Rattle.std.specs.Prelude.{◌&&◌, cond, not, filter, flat_map, if◌then◌else◌}
use Rattle.std.proofs.lemmas.List.Concat.{flat_map-append}
use Rattle.path_settings.specs.systemd.Written.{entry_of}
use Rattle.dropin_merge.specs.unit_names.declared.version.Version.{Version}
use Rattle.dropin_merge.specs.unit_names.declared.version.Version.TheVariants.{V252, V257}
use Rattle.site_table.specs.Table.{Site}
use Rattle.mount_settings.specs.declared.written.WrittenPath.{WrittenPath}
use Rattle.mount_settings.specs.declared.protections.SystemProtection.{SystemProtection}
use Rattle.mount_settings.specs.declared.protections.SystemProtection.TheVariants.{No, Yes, Full, Strict}
use Rattle.mount_settings.specs.declared.protections.HomeProtection.{HomeProtection}
use Rattle.mount_settings.specs.declared.protections.HomeProtection.TheVariants.{No as HomeNo, Yes as HomeYes, ReadOnly as HomeReadOnly}
use Rattle.mount_settings.specs.declared.protections.HomeProtection.TheVariants.{Tmpfs}
use Rattle.mount_settings.specs.declared.protections.Protections.{Protections}
use Rattle.mount_settings.specs.declared.protections.Switches.{Switches}
use Rattle.mount_settings.specs.declared.systemd.keys.FurtherKeys.{FurtherKeys}
use Rattle.mount_settings.specs.declared.systemd.rows.RowsOn.{RowsOn}
use Rattle.path_settings.specs.Keys.{is_implied}
use Rattle.mount_settings.specs.Settings.{as_written, entries_by, mentions_of}
use Rattle.mount_settings.specs.systemd.OwnMounts.{has_own_mounts}
use Rattle.mount_settings.specs.systemd.Words.{is_private}
use Rattle.mount_settings.specs.systemd.Rows.{Row, asks_for, by_row, table, rows_on, disconnects_tmp, is_newer, reads_files, is_full, is_strict, hides_homes, reads_homes}
use Rattle.mount_settings.specs.systemd.Rows.{empties_homes, system_rows, home_rows, tmp_rows, kernel_rows, group_rows, further_rows}
use Rattle.mount_settings.specs.systemd.Folders.{brought_folders, folders, is_there, placed_folder}
use Rattle.mount_settings.specs.systemd.Mentions.{brought, by_table, implied_of, stands}
use Rattle.mount_settings.proofs.Counting.{filter_few, counted}

-- the number of entries if each row were on
abbrev most : List Row → ℕ
most [] = 0
most (row ∷ rows) = length (asks_for row.1 row.2) + most rows

rows_few : (rows : List Row) → length (flat_map by_row rows) ≤ most rows
rows_few [] = lit≤ tt
rows_few (row ∷ rows) =
    let rest = rows_few rows in
    let both = length-append (asks_for row.1 row.2) (flat_map by_row rows) in
    elim row.0 as (λ on. length ((if on then asks_for row.1 row.2 else []) ++ flat_map by_row rows) ≤ length (asks_for row.1 row.2) + most rows)
    [ true ↦ omega (arith, rest, both) | false ↦ omega (arith, rest) ]

-- the values of ProtectSystem= exclude one another
system_few : (version : Version) (system : SystemProtection) (on : RowsOn) → length (flat_map by_row (system_rows (record on {
  files = reads_files system;
  merged = not (is_newer version) && reads_files system;
  configuration = is_full system;
  all = is_strict system;
}))) ≤ 8
system_few V252 No on = lit≤ tt
system_few V252 Yes on = lit≤ tt
system_few V252 Full on = lit≤ tt
system_few V252 Strict on = lit≤ tt
system_few V257 No on = lit≤ tt
system_few V257 Yes on = lit≤ tt
system_few V257 Full on = lit≤ tt
system_few V257 Strict on = lit≤ tt

-- the values of ProtectHome= exclude one another
home_few : (version : Version) (home : HomeProtection) (on : RowsOn) → length (flat_map by_row (home_rows (record on {
  homes_hidden = hides_homes home;
  homes_read = reads_homes home;
  homes_fresh = not (is_newer version) && empties_homes home;
  homes_empty = is_newer version && empties_homes home;
}))) ≤ 3
home_few V252 HomeNo on = lit≤ tt
home_few V252 HomeYes on = lit≤ tt
home_few V252 HomeReadOnly on = lit≤ tt
home_few V252 Tmpfs on = lit≤ tt
home_few V257 HomeNo on = lit≤ tt
home_few V257 HomeYes on = lit≤ tt
home_few V257 HomeReadOnly on = lit≤ tt
home_few V257 Tmpfs on = lit≤ tt

-- the folders for temporary files are disconnected or not
tmp_few : (is_on apart : Bool) (on : RowsOn) → length (flat_map by_row (tmp_rows (record on {
  temporary = is_on && not apart;
  disconnected = is_on && apart;
}))) ≤ 2
tmp_few false false on = lit≤ tt
tmp_few false true on = lit≤ tt
tmp_few true false on = lit≤ tt
tmp_few true true on = lit≤ tt

-- the values of ProtectControlGroups= exclude one another
group_few : (is_on is_left : Bool) (on : RowsOn) → length (flat_map by_row (group_rows (record on {
  groups_read = is_on && not is_left;
  groups_left = is_left;
}))) ≤ 1
group_few false false on = lit≤ tt
group_few false true on = lit≤ tt
group_few true false on = lit≤ tt
group_few true true on = lit≤ tt

two_lists : (a b : List Row) → length (flat_map by_row (a ++ b)) ≡ length (flat_map by_row a) + length (flat_map by_row b)
two_lists a b = ap length (flat_map-append by_row a b) ∙ length-append (flat_map by_row a) (flat_map by_row b)

-- each path is a written one or a folder
two_parts : (paths : List WrittenPath) → length (as_written paths) + length (folders paths) ≡ length paths
two_parts [] = refl
two_parts (path ∷ paths) =
    let rest = two_parts paths in
    elim (is_implied path.key) as (λ b. length (map (λ (one : WrittenPath). one.mention)
    (cond (not b) (path ∷ filter (λ one. not (is_implied one.key)) paths) (filter (λ one. not (is_implied one.key)) paths)))
    + length (cond b (path ∷ folders paths) (folders paths)) ≡ length (path ∷ paths)) [ true ↦ omega (arith, rest) | false ↦ omega (arith, rest) ]

module _ (version : Version) (switches : Switches) (protections : Protections) (keys : FurtherKeys) where
  abbrev on : RowsOn
  on = rows_on version switches protections keys

  table_few : length (flat_map by_row (table on)) ≤ 58
  table_few =
      let system : length (flat_map by_row (system_rows on)) ≤ 8 = system_few version protections.protect_system on in
      let home : length (flat_map by_row (home_rows on)) ≤ 3 = home_few version protections.protect_home on in
      let tmp : length (flat_map by_row (tmp_rows on)) ≤ 2 = tmp_few protections.private_tmp (disconnects_tmp version keys) on in
      let kernel : length (flat_map by_row (kernel_rows on)) ≤ 36 = rows_few (kernel_rows on) in
      let groups : length (flat_map by_row (group_rows on)) ≤ 1 =
      group_few protections.protect_control_groups (is_private keys.control_groups) on in
      let further : length (flat_map by_row (further_rows on)) ≤ 8 = rows_few (further_rows on) in
      let a = two_lists (system_rows on) (home_rows on ++ (tmp_rows on ++ (kernel_rows on ++ (group_rows on ++ further_rows on)))) in
      let b = two_lists (home_rows on) (tmp_rows on ++ (kernel_rows on ++ (group_rows on ++ further_rows on))) in
      let c = two_lists (tmp_rows on) (kernel_rows on ++ (group_rows on ++ further_rows on)) in
      let d = two_lists (kernel_rows on) (group_rows on ++ further_rows on) in
      let e = two_lists (group_rows on) (further_rows on) in
      omega (arith, system, home, tmp, kernel, groups, further, a, b, c, d, e)

  implied_few : (site : Site) (paths : List WrittenPath)
      → length (implied_of version site switches protections keys paths) ≤ length (folders paths) + 58
  unfolding implied_of
  implied_few site paths =
      let few = table_few in
      let kept = filter_few (stands site) (by_table version switches protections keys) in
      let shown = filter_few (is_there site) (map (placed_folder site switches keys) (folders paths)) in
      let each = length-map (folders paths) (placed_folder site switches keys) in
      let same = length-map (brought_folders site switches keys paths) entry_of in
      let both = length-append (filter (stands site) (by_table version switches protections keys))
      (map entry_of (brought_folders site switches keys paths)) in
      elim (has_own_mounts version switches protections keys paths) as
      (λ own. length (cond own (brought version site switches protections keys paths) []) ≤ length (folders paths) + 58)
      [ true ↦ omega (arith, few, kept, shown, each, same, both) | false ↦ omega arith ]

  -- there are at most 58 entries more than written paths
  pub counted_by : (site : Site) (paths : List WrittenPath)
      → length (entries_by version site switches protections keys paths) ≤ length paths + 58
  unfolding entries_by
  counted_by site paths = omega (
    arith,
    length-append (map entry_of (as_written paths)) (implied_of version site switches protections keys paths),
    length-map (as_written paths) entry_of,
    implied_few site paths,
    two_parts paths,
  )

  -- at most 128 written and at most 58 implied entries are at most 192
  pub few_by : (site : Site) (paths : List WrittenPath) → length paths ≤ 128
      → length (entries_by version site switches protections keys paths) ≤ 192
  few_by site paths few = let most = counted_by site paths in omega (arith, few, most)

-- the same in the base profile
pub few_base : (site : Site) (switches : Switches) (protections : Protections) (paths : List WrittenPath) → length paths ≤ 128
    → length (mentions_of site switches protections paths) ≤ 192
few_base site switches protections paths few = let most = counted site switches protections paths in omega (arith, few, most)
