use Rattle.std.proofs.Common.{◌≡◌, map, drop}
use Rattle.host_io.specs.MemoryFiles.{file_of}
use Rattle.host_io.specs.Files.{bytes_at}
use Rattle.host_io.proofs.memory_files.find_file.Given as goal

abbrev pub invariant-loop-file : goal.invariant-loop-file
invariant-loop-file l = bytes_at (map file_of (drop l.file-index l.files)) l.path ≡ bytes_at (map file_of l.files) l.path
