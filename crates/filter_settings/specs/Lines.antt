-- The lines of a list that are in force.
use Rattle.std.specs.Prelude.{List}
use Rattle.std.specs.List.{after_last}
use Rattle.dropin_merge.specs.declared.unit_values.listed.Listed.{Listed}
use Rattle.dropin_merge.specs.unit_values.Listed.{is_reset}

-- the lines after the last empty value, which resets the list
abbrev pub in_force : List Listed → List Listed
in_force all = after_last is_reset all
