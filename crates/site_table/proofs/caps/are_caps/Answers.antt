use Rattle.std.proofs.Common.{sym, ◌∙◌}
use Rattle.std.specs.Prelude.{is_some}
use Rattle.std.proofs.lemmas.List.Folds.{list_all-map}
use Rattle.toml.specs.View.{view}
use Rattle.site_table.specs.Caps.{as_cap}
use Rattle.site_table.proofs.caps.are_caps.Goals as goal

pub returns : goal.returns
returns c = record { all_are_caps = c.all_caps.ensures ∙ sym (list_all-map (λ value. is_some (as_cap value)) view c.args.values.now) }
