use Rattle.std.proofs.Common.{◌≡◌, ◌++◌, map, drop}
use Rattle.std.specs.Prelude.{string_bytes}
use Rattle.host_io.specs.MemoryFiles.{file_of}
use Rattle.host_io.specs.Files.{names_in}
use Rattle.host_io.proofs.memory_files.names_of.Given as goal

abbrev pub invariant-loop-file : goal.invariant-loop-file
invariant-loop-file l = map string_bytes l.names.items ++ names_in (map file_of (drop l.file-index l.files)) l.folder
    ≡ names_in (map file_of l.files) l.folder
