use Rattle.kernel_ways.proofs.ByName.{unmounts_show_row, unmounts_show_row_at_once, two_mounts_show_rows, two_mounts_show_rows_at_once}
use Rattle.kernel_ways.proofs.exposures.Goals as goal

pub returns-clause-by_unmounts : goal.returns-clause-by_unmounts
returns-clause-by_unmounts c = unmounts_show_row

pub returns-clause-by_mounts : goal.returns-clause-by_mounts
returns-clause-by_mounts c = two_mounts_show_rows

pub returns-clause-by_unmounts_at_once : goal.returns-clause-by_unmounts_at_once
returns-clause-by_unmounts_at_once c = unmounts_show_row_at_once

pub returns-clause-by_mounts_at_once : goal.returns-clause-by_mounts_at_once
returns-clause-by_mounts_at_once c = two_mounts_show_rows_at_once
