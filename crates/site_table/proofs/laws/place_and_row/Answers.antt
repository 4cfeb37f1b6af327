use Rattle.site_table.proofs.Found.{row_of_the_place, no_place_no_row}
use Rattle.site_table.proofs.laws.place_and_row.Goals as goal

pub returns-clause-row_of_the_place : goal.returns-clause-row_of_the_place
returns-clause-row_of_the_place c = row_of_the_place

pub returns-clause-no_place_no_row : goal.returns-clause-no_place_no_row
returns-clause-no_place_no_row c = no_place_no_row
