-- Numbers of users and groups (credentials(7)): decimal, 0 to 4,294,967,294. The calls that set ids read the next number as no id.
use Rattle.std.specs.Prelude.{ℕ, nat_le, cond, List, Option, Some, None, option_and_then}
use Rattle.dropin_merge.specs.text_forms.Numbers.{decimal_value}
use Rattle.site_table.specs.Ids.{greatest_id}

abbrev pub id_in_range : ℕ → Option ℕ
id_in_range number = cond (nat_le number greatest_id) (Some number) None

-- the id that a word is
abbrev pub id_number : List ℕ → Option ℕ
id_number word = option_and_then id_in_range (decimal_value word)
