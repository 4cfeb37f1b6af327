-- A folder remembers each answer.
use Rattle.std.specs.Prelude.{List, ◌∷◌}
use Rattle.host_io.specs.Heard.{Answer, file_answer, folder_answer}
use Rattle.host_io.specs.declared.heard.Said.{Said}
use Rattle.host_io.specs.declared.heard.Said.TheVariants.{File, Folder}

-- the answers after this one
abbrev pub noted : List Answer → Said → List Answer
noted answers (File path limit result) = file_answer path.now limit result.now ∷ answers
noted answers (Folder folder result) = folder_answer folder.now result.now ∷ answers
