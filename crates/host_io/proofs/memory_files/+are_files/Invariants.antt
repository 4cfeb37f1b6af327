use Rattle.std.proofs.Common.{length}
use Rattle.host_io.proofs.memory_files.+are_files.Given as goal

abbrev pub decreases-are_files : goal.decreases-are_files
decreases-are_files l = length l.files.now
