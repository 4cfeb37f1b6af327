use Rattle.kern_mounts.proofs.Mounting.{is_a_table, mounting_makes_it, no_place_twice}
use Rattle.kern_mounts.proofs.laws.mounted_tables.Goals as goal

pub returns : goal.returns
returns c = record {
  is_a_table = is_a_table;
  mounting_makes_it = mounting_makes_it;
  no_place_twice = no_place_twice;
}
