use Rattle.std.proofs.Common.{◌≡◌, ◌++◌, map, filter}
use Rattle.std.specs.String.{string_bytes}
use Rattle.unit_names.specs.Folders.{dash_folder, dash_folders, is_inner_dash, places_below}
use Rattle.unit_names.proofs.folders.push_dash_folders.Given as goal

abbrev pub invariant-loop-place : goal.invariant-loop-place
invariant-loop-place l =
    map string_bytes l.folders.items ++ map (dash_folder l.prefix) (filter (is_inner_dash l.prefix) (places_below l.place))
    ≡ map string_bytes l.initial.folders.items ++ dash_folders l.prefix
