use Rattle.std.proofs.Common.{refl}
use Rattle.abs_path.proofs.Prefixes.{prefix_itself, prefix_antisymm, prefix_trans, prefix_chain}
use Rattle.abs_path.proofs.laws.prefix_order.Goals as goal

pub returns : goal.returns
returns c = record {
  of_itself = prefix_itself;
  root_of_all = λ path. refl;
  each_of_the_other_is_same = prefix_antisymm;
  through_a_third = prefix_trans;
  chain = prefix_chain;
}
