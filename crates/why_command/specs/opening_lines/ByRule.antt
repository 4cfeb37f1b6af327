-- What a line opens, by the rule that decides what is open.
use Rattle.std.specs.Prelude.{◌&&◌, not, Bool, List, [], ◌∷◌, filter, flat_map, if◌then◌else◌}
use Rattle.asked_service.specs.kernel_laws.Bound.{is_open}
use Rattle.asked_service.specs.kernel_laws.Launched.{Launch}
use Rattle.asked_service.specs.kernel_laws.declared.question_types.question.Question.{Question}

-- denied of the one launched service, and open of the other
abbrev pub is_opened : Launch → Launch → Question → Bool
is_opened before after question = not (is_open before question) && is_open after question

abbrev pub opened_at : Launch → Launch → Question → List Question
opened_at before after question = if is_opened before after question then question ∷ [] else []

-- among some questions, in their order
abbrev pub opened_by : Launch → Launch → List Question → List Question
opened_by before after list = flat_map (opened_at before after) list

-- those among some questions that are denied of a launched service, and those that are open
abbrev pub shut_among : Launch → List Question → List Question
shut_among launch list = filter (λ question. not (is_open launch question)) list

abbrev pub open_among : Launch → List Question → List Question
open_among launch list = filter (is_open launch) list
