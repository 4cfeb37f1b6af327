use Rattle.std.proofs.Common.{◌≡◌, option_map, fold, filter, drop}
use Rattle.std.specs.List.{enumerate_from}
use Rattle.path_settings.specs.Mentions.{is_origin}
use Rattle.abs_path.specs.Prefix.{is_below}
use Rattle.path_settings.specs.view_map.View.{saying, above, longest}
use Rattle.path_settings.specs.view_map.Scan.{longer, shown}
use Rattle.path_settings.proofs.view_map.longest.origin_above.Given as goal

abbrev pub invariant-loop-index : goal.invariant-loop-index
invariant-loop-index l =
    fold longer (option_map shown l.best)
    (saying is_origin (filter (λ one. is_below l.path one.1.path) (enumerate_from l.index (drop l.index l.kept))))
    ≡ longest is_origin (above l.path l.kept)
