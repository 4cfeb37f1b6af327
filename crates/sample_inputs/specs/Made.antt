-- The inputs of a sample, as the readers of all inputs read its texts.
use Rattle.std.specs.Prelude.{◌≡◌, ℕ, List, [], ◌∷◌, Some, Ok}
use Rattle.launcher.specs.call_table.Reading.{table_of}
use Rattle.launcher.specs.call_table.Table as calls
use Rattle.launcher.specs.dropin_merge.declared.resolved.Resolved.{Resolved}
use Rattle.launcher.specs.site_table.Reading.{site_of, tree_of}
use Rattle.launcher.specs.site_table.Table.{Site}
use Rattle.launcher.specs.unit_grammar.Reading.{unit_of}
use Rattle.launcher.specs.unit_grammar.declared.unit.UnitText.{UnitText}
use Rattle.launcher.specs.unit_names.Cutting.{name_of}
use Rattle.sample_inputs.specs.Calls.{calls_text}
use Rattle.sample_inputs.specs.Site.{site_tree}
use Rattle.sample_inputs.specs.Unit.{unit_name, unit_path, unit_text}

-- a unit of that name with one file, which says what its text says
pub record IsSampleUnit (n : ℕ) (unit : Resolved) : Type 0 where
  pub said : UnitText
  pub reads : unit_of (unit_text n) ≡ Ok said
  pub name : name_of unit_name ≡ Some unit.name
  pub files : unit.files ≡ record { path = unit_path; text = said } ∷ []

-- the site of a text that is read as the tree
pub record IsSampleSite (n : ℕ) (site : Site) : Type 0 where
  pub text : List ℕ
  pub tree : tree_of text ≡ Some (site_tree n)
  pub reads : site_of text ≡ Ok site

pub record IsSample (n : ℕ) (unit : Resolved) (calls : calls.Table) (site : Site) : Type 0 where
  pub of_the_unit : IsSampleUnit n unit
  pub of_the_calls : table_of calls_text ≡ Ok calls
  pub of_the_site : IsSampleSite n site
