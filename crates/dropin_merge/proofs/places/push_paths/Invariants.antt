use Rattle.std.proofs.Common.{◌≡◌, ◌++◌, take, map}
use Rattle.std.specs.String.{string_bytes}
use Rattle.dropin_merge.specs.Places.{below}
use Rattle.dropin_merge.proofs.places.push_paths.Given as goal

abbrev pub invariant-loop-folder : goal.invariant-loop-folder
invariant-loop-folder l =
    map string_bytes l.paths.items ≡ map string_bytes l.fn.paths.items ++ map (λ folder. below folder.now l.name)
    (take l.folder-index l.folders)
