-- The lines of launches.
use Rattle.std.specs.Prelude.{ℕ, Bool, true, false, List, [], ◌∷◌, ◌++◌, codes}
use Rattle.std.specs.Fmt.{decimal}
use Rattle.exposure_score.specs.abs_path.Paths.{Path, text_of}
use Rattle.exposure_score.specs.text_forms.Escaped.{escaped_word}
use Rattle.report_text.specs.declared.launches.Launched.{Launched}

abbrev pub yes_or_no : Bool → List ℕ
yes_or_no true = codes "yes"
yes_or_no false = codes "no"

-- a launch that ended well: the user and the group of the program, whether no_new_privs is on, and how many steps it took
abbrev pub launched_line : Launched → List ℕ
launched_line launched =
    codes "launched uid " ++ (decimal launched.uid ++
    (codes " gid " ++ (decimal launched.gid ++
    (codes " nnp " ++ (yes_or_no launched.no_new_privs ++ (codes " steps " ++ (decimal launched.steps ++ 10 ∷ [])))))))

-- the first step that the kernel refuses, counted from 1, and its error number
abbrev pub refused_line : ℕ → ℕ → List ℕ
refused_line step errno = codes "launch refused step " ++ (decimal step ++ (codes " errno " ++ (decimal errno ++ 10 ∷ [])))

-- the step at which the service is killed
abbrev pub killed_line : ℕ → List ℕ
killed_line step = codes "launch killed step " ++ (decimal step ++ 10 ∷ [])

-- the program, which has a set-id bit or capabilities
abbrev pub privileged_line : Path → List ℕ
privileged_line program = codes "launch privileged " ++ (escaped_word (text_of program) ++ 10 ∷ [])
