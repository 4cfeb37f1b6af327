use Rattle.judge.proofs.Folders.{dir_listed}
use Rattle.asked_service.proofs.folders.is_named.Goals as goal

pub blind-requires : goal.blind-requires
blind-requires c = record {
  launched = c.requires.asked.bounded.served.launched;
  its_own_ceiling = c.requires.asked.bounded.ceiling;
  folder = dir_listed c.args.asked.now.bounded.service.world.site c.requires.asked.bounded.served.offers.site c.requires.row.0
      c.args.row.now c.requires.row.1 c.in-Dir.is;
}
