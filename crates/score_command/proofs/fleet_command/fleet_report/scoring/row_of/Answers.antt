use Rattle.score_command.proofs.fleet_command.fleet_report.scoring.row_of.Goals as goal

pub returns-clause-is_the_row : goal.returns-clause-is_the_row
returns-clause-is_the_row g c = rw c.in_ok-name.ensures.same_name c.in_ok-outcome.ensures.comes_of_its_files
