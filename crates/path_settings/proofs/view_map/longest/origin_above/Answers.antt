use Rattle.path_settings.specs.Mentions.{is_origin}
use Rattle.path_settings.specs.view_map.View.{saying, above, length_of}
use Rattle.path_settings.proofs.Largest.{walk_finds}
use Rattle.path_settings.proofs.view_map.longest.origin_above.Goals as goal

pub loop-index-init : goal.loop-index-init
loop-index-init c = walk_finds length_of (saying is_origin (above c.args.path.now c.args.kept.now))
