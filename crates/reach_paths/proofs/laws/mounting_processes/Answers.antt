use Rattle.reach_paths.proofs.Processes.{mounting_shows_all, unmounting_is_done}
use Rattle.reach_paths.proofs.laws.mounting_processes.Goals as goal

pub returns-clause-finds_each_row_behind_two_mounts : goal.returns-clause-finds_each_row_behind_two_mounts
returns-clause-finds_each_row_behind_two_mounts c = mounting_shows_all

pub returns-clause-makes_what_unmounting_makes : goal.returns-clause-makes_what_unmounting_makes
returns-clause-makes_what_unmounting_makes c = unmounting_is_done
