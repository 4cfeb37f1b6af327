use Rattle.std.proofs.Common.{◌≡◌, option_map, fold, filter, drop}
use Rattle.std.specs.List.{enumerate_from}
use Rattle.abs_path.specs.Prefix.{is_prefix}
use Rattle.path_settings.specs.view_map.View.{saying, leading_to, longest}
use Rattle.path_settings.specs.view_map.Scan.{is_said, longer, shown}
use Rattle.path_settings.proofs.view_map.longest.longest.Given as goal

abbrev pub invariant-loop-index : goal.invariant-loop-index
invariant-loop-index l =
    fold longer (option_map shown l.best)
    (saying (is_said l.says) (filter (λ one. is_prefix one.1.path l.path) (enumerate_from l.index (drop l.index l.kept))))
    ≡ longest (is_said l.says) (leading_to l.path l.kept)
