use Rattle.std.proofs.Common.{◌≡◌, drop, map}
use Rattle.std.specs.Prelude.{find}
use Rattle.std.specs.List.{filter_map}
use Rattle.exec_settings.specs.Search.{has_exe, path_in}
use Rattle.exec_settings.proofs.search.first_exe.Given as goal

abbrev pub invariant-loop-folder : goal.invariant-loop-folder
invariant-loop-folder l =
    find (has_exe l.site) (filter_map (path_in l.name) (map (λ folder. folder.now) (drop l.folder-index l.folders)))
    ≡ find (has_exe l.site) (filter_map (path_in l.name) (map (λ folder. folder.now) l.folders))
