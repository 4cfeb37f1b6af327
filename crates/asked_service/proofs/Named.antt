-- The folders that are named are those that are blind.
use Rattle.std.proofs.Common.{◌≡◌, Bool, true, false, List, [], ◌∷◌, ◌++◌, refl}
use Rattle.std.specs.Prelude.{◌&&◌, map}
use Rattle.judge.specs.abs_path.ByteOrder.{AreAscending, is_before}
use Rattle.judge.specs.abs_path.Paths.{Path}
use Rattle.std.specs.List.{AllByRecursion}
use Rattle.judge.specs.kernel_laws.Blind.{IsFolder, is_blind}
use Rattle.judge.specs.kernel_laws.Launched.{launch_of}
use Rattle.judge.specs.kernel_laws.Questions.{if_so}
use Rattle.judge.specs.kernel_model.World.{World}
use Rattle.judge.specs.kernel_ways.Laws.{IsServedWorld}
use Rattle.judge.specs.site_table.Kinds.{is_dir}
use Rattle.judge.specs.site_table.Table.{IsRowOf}
use Rattle.judge.specs.site_table.declared.row.Row.{Row}
use Rattle.asked_service.specs.ByRule.{BlindFoldersAreNamed, folders_of}
use Rattle.asked_service.specs.Folders.{NamesBlind, no_more, named, exposed, no_folder}
use Rattle.judge.specs.kernel_ways.Blindness.{BlindIsExact, IsBlindExactly}

module _ (world : World) (served : IsServedWorld world) (exact : BlindIsExact) where
  folder : (all : List Row) (row : Row) → IsRowOf all row → IsFolder row.path
  folder all row is = record { normal = is.normal; short = is.short }

  name_each : (all rows : List Row) → AllByRecursion (IsRowOf all) rows → NamesBlind world rows (folders_of (launch_of world) rows)
  name_each all [] are = no_more
  name_each all (row ∷ rows) are =
      let rest = name_each all rows are.1 in
      by rest (exact world row.path served (folder all row are.0)) (is_dir row.kind) refl (is_blind (launch_of world) row.path) refl
    where
      by : NamesBlind world rows (folders_of (launch_of world) rows) → IsBlindExactly world row.path → (dir : Bool)
          → is_dir row.kind ≡ dir → (blind : Bool) → is_blind (launch_of world) row.path ≡ blind
          → NamesBlind world (row ∷ rows) (if_so (dir && blind) row.path ++ folders_of (launch_of world) rows)
      by rest is true e true f = named row rows (folders_of (launch_of world) rows) e (is.hides f) rest
      by rest is true e false f = exposed row rows (folders_of (launch_of world) rows) e (is.exposes f) rest
      by rest is false e blind f = no_folder row rows (folders_of (launch_of world) rows) e rest

-- what holds of the paths of all rows holds of the folders that are named
named_hold : {world : World} {rows : List Row} {folders : List Path} (P : Path → Type 0) → NamesBlind world rows folders
    → AllByRecursion P (map (λ row. row.path) rows) → AllByRecursion P folders
named_hold P no_more all = tt
named_hold P (named row rows folders dir blind rest) all = (all.0, named_hold P rest all.1)
named_hold P (exposed row rows folders dir sees rest) all = named_hold P rest all.1
named_hold P (no_folder row rows folders other rest) all = named_hold P rest all.1

named_ascend : {world : World} {rows : List Row} {folders : List Path} → NamesBlind world rows folders
    → AreAscending (map (λ row. row.path) rows) → AreAscending folders
named_ascend no_more ascend = tt
named_ascend (named row rows folders dir blind rest) ascend =
    (named_hold (λ later. is_before row.path later ≡ true) rest ascend.0, named_ascend rest ascend.1)
named_ascend (exposed row rows folders dir sees rest) ascend = named_ascend rest ascend.1
named_ascend (no_folder row rows folders other rest) ascend = named_ascend rest ascend.1

pub blind_folders_are_named : BlindIsExact → BlindFoldersAreNamed
blind_folders_are_named exact world served =
    let names = name_each world served exact world.site.rows world.site.rows served.offers.site.each_row in
    record { exactly = names; in_byte_order = named_ascend names served.offers.site.ascending }
