-- The promise of the ceiling of a launched service.
use Rattle.std.specs.Prelude.{◌≡◌, false}
use Rattle.std.specs.List.{AllByRecursion}
use Rattle.filter_settings.specs.call_table.Table as table
use Rattle.kernel_model.specs.site_table.Table.{Site}
use Rattle.kernel_laws.specs.Bound.{is_open}
use Rattle.kernel_laws.specs.Denied.{IsDenied}
use Rattle.kernel_laws.specs.Launched.{launch_of, IsLaunchedWorld}
use Rattle.kernel_laws.specs.declared.question_types.question.Question.{Question}
use Rattle.kernel_laws.specs.Questions.{IsAsked, questions}
use Rattle.kernel_model.specs.World.{World}

-- no list of calls reaches a question that may be asked and that the ceiling closes
abbrev pub DenialIsSound : Type 0
DenialIsSound = (world : World) (question : Question) → IsLaunchedWorld world → IsAsked world.calls question
    → is_open (launch_of world) question ≡ false → IsDenied world question

-- each question of the list may be asked
abbrev pub ListedAreAsked : Type 0
ListedAreAsked = (calls : table.Table) (site : Site) → AllByRecursion (IsAsked calls) (questions calls site)
