-- The questions about a launched service, and its rows and folders.
use Rattle.std.specs.Prelude.{◌≡◌, ℕ, Bool, slice_get, Some}
use Rattle.judge.specs.site_table.declared.row.Row.{Row}
use Rattle.judge.specs.kernel_model.World.{World}
use Rattle.judge.specs.kernel_laws.Launched.{Launch, launch_of}
use Rattle.judge.specs.kernel_laws.Questions.{questions}
use Rattle.judge.specs.kernel_ways.Offers.{RunsProgram}
use Rattle.asked_service.specs.Asked.{IsBounded}
use Rattle.asked_service.specs.ByRule.{is_named_by}
use Rattle.asked_service.specs.declared.asking.Asked.{Asked}

abbrev pub world_in : Asked → World
world_in asked = asked.bounded.service.world

abbrev pub launch_in : Asked → Launch
launch_in asked = launch_of (world_in asked)

-- its own ceiling, and all questions of its tables
pub record IsAsked (asked : Asked) : Type 0 where
  pub bounded : IsBounded asked.bounded
  pub program : RunsProgram (launch_in asked) asked.bounded.service.program
  pub questions : asked.questions.items ≡ questions (world_in asked).calls (world_in asked).site

-- a row of the site
abbrev pub IsRowIn : Asked → Row → Type 0
IsRowIn asked row = (at : ℕ) × (slice_get (world_in asked).site.rows at ≡ Some row)

-- the row is a folder that is blind
abbrev pub is_named : Asked → Row → Bool
is_named asked row = is_named_by (launch_in asked) row
