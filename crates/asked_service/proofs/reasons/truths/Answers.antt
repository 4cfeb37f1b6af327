use Rattle.asked_service.proofs.Answered.{answers_are_true}
use Rattle.asked_service.proofs.Named.{blind_folders_are_named}
use Rattle.asked_service.proofs.reasons.truths.Goals as goal

pub returns-clause-answers : goal.returns-clause-answers
returns-clause-answers c = answers_are_true c.openness.ensures.each_listed c.openness.ensures.listed c.choices.ensures.shown
    c.choices.ensures.made

pub returns-clause-folders : goal.returns-clause-folders
returns-clause-folders c = blind_folders_are_named c.blindness.ensures.exact
