use Rattle.mount_settings.proofs.KeyByKey.{base_lists, words_in_force}
use Rattle.mount_settings.proofs.OwnValues.{base_values, own_values}
use Rattle.mount_settings.proofs.laws.each_key_by_itself.Goals as goal

pub returns : goal.returns
returns c = record {
  its_own_values = own_values;
  its_words_in_force = words_in_force;
  one_name_in_base = base_values;
  one_mention_in_base = base_lists;
}
