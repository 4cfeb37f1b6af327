use Rattle.unit_names.proofs.Dashes.{behind_dash}
use Rattle.unit_names.proofs.folders.dash_folder.Goals as goal

pub range-front-requires-clause-end_boundary : goal.range-front-requires-clause-end_boundary
range-front-requires-clause-end_boundary c = behind_dash c.args.prefix.now c.args.place c.utf8.prefix c.requires
