use Rattle.std.proofs.Common.{rules}
use Rattle.std.specs.Prelude.{◌≢◌, List}
use Rattle.asked_service.specs.kernel_laws.declared.question_types.question.Question.{Question}
use Rattle.asked_service.proofs.OfUnitInputs.Said.{said_refused}
use Rattle.tighten_command.specs.KeepFiles.{IsKeepOf, a_keep, keep_line, no_keep}
use Rattle.tighten_command.specs.declared.keeping.KeepError.TheVariants.{Memory}
use Rattle.tighten_command.proofs.Reading.{listed_keep}
use Rattle.tighten_command.proofs.keep_file.keep_of_bytes.Goals as goal

pub returns-in-Ok-clause-says : goal.returns-in-Ok-clause-says
returns-in-Ok-clause-says c = a_keep c.in-Ok.keep c.in-Ok.ensures.reads

pub returns-in-Err-clause-says : goal.returns-in-Err-clause-says
returns-in-Err-clause-says c =
    let ne : c.in-Err.error ≢ Memory = search rules in
    said_refused (λ (keep : List Question). keep) (IsKeepOf c.args.calls.now c.args.site.now c.args.path.now c.args.bytes.now)
    c.keep_line.result (keep_line c.args.path.now c.in-Err.error) c.refuse.result c.refuse.ensures.tells_the_line c.keep_line.ensures
    (no_keep c.in-Err.error ne c.in-Err.ensures.reads)

pub returns-in-Ok-clause-listed : goal.returns-in-Ok-clause-listed
returns-in-Ok-clause-listed c = listed_keep c.args.calls.now c.args.site.now c.args.bytes.now c.in-Ok.keep c.in-Ok.ensures.reads
