use Rattle.site_table.specs.Rows.{cap_names}
use Rattle.site_table.proofs.CapSets.{caps_named, caps_known}
use Rattle.site_table.proofs.laws.caps_of_rows.Goals as goal

pub returns : goal.returns
returns c = record { named = λ row number small. caps_named (cap_names row) number small; no_other = λ row number h. caps_known (cap_names row) number h }
