use Rattle.path_settings.specs.view_map.View.{saying, leading_to, length_of}
use Rattle.path_settings.specs.view_map.Scan.{is_said}
use Rattle.path_settings.proofs.Largest.{walk_finds}
use Rattle.path_settings.proofs.view_map.longest.longest.Goals as goal

pub loop-index-init : goal.loop-index-init
loop-index-init c = walk_finds length_of (saying (is_said c.args.says) (leading_to c.args.path.now c.args.kept.now))
