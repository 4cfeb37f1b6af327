use Rattle.std.proofs.Common.{Err, ap}
use Rattle.exec_settings.proofs.Mounted.{few_paths, many_paths, no_error}
use Rattle.exec_settings.proofs.mounts.read_mentions.Goals as goal

pub returns-in_ok-noted_in-in-Ok-clause-too_many : goal.returns-in_ok-noted_in-in-Ok-clause-too_many
returns-in_ok-noted_in-in-Ok-clause-too_many c = few_paths c.args.unit.now c.args.paths.now c.requires.of_the_unit (λ many. no_error _ _ (c.in-Ok.ensures.too_many_exactly_above_128.1 many))

pub returns-in-Err-TooManyPaths-clause-too_many : goal.returns-in-Err-TooManyPaths-clause-too_many
returns-in-Err-TooManyPaths-clause-too_many c = many_paths c.args.unit.now c.args.paths.now c.requires.of_the_unit (c.in-Err-TooManyPaths.ensures.too_many_exactly_above_128.0 (ap Err c.in-Err-TooManyPaths.field-0-is))
