use Rattle.kern_creds.proofs.ExecRules.{by_file, by_ambient, by_permitted, bit_effective, without_bit, ambient_emptied, ambient_kept}
use Rattle.kern_creds.proofs.laws.execve_gives_others.Goals as goal

pub returns : goal.returns
returns c = record {
  by_the_file = by_file;
  by_ambient_alone = by_ambient;
  by_what_was_permitted = by_permitted;
  effective_by_the_bit = bit_effective;
  effective_without_it = without_bit;
  ambient_is_emptied = ambient_emptied;
  ambient_stays = ambient_kept;
}
