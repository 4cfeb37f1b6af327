use Rattle.std.proofs.Common.{◌∙◌, sym}
use Rattle.std.proofs.lemmas.Bool.{false≢true}
use Rattle.abs_path.proofs.ByteOrder.{prefix_before, not_before_itself, before_trans}
use Rattle.abs_path.proofs.Given.{has_the_given}
use Rattle.abs_path.proofs.Placed.{in_byte_order_ascending, one_first}
use Rattle.abs_path.proofs.laws.byte_order.Goals as goal

pub returns : goal.returns
returns c = record {
  after_prefixes = prefix_before;
  not_before_itself = λ path h. false≢true (sym (not_before_itself path) ∙ h);
  through_a_third = before_trans;
  one_first = one_first;
  lists_ascend = in_byte_order_ascending;
  lists_have_what_is_given = has_the_given;
}
