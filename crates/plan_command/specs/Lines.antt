-- The lines of a table of mounts, each ended by a line feed.
use Rattle.std.specs.Prelude.{ℕ, Bool, true, false, List, [], ◌∷◌, ◌++◌, length, codes, flat_map}
use Rattle.std.specs.Fmt.{decimal}
use Rattle.unit_inputs.specs.abs_path.Paths.{text_of as path_text}
use Rattle.unit_inputs.specs.text_forms.Escaped.{escaped_word}
use Rattle.mount_plan.specs.kern_mounts.declared.step.Flags.{Flags}
use Rattle.mount_plan.specs.kern_mounts.declared.step.MountStep.{MountStep}
use Rattle.mount_plan.specs.kern_mounts.declared.step.What.{What}
use Rattle.mount_plan.specs.kern_mounts.declared.step.What.TheVariants.{Host, Empty, Hidden}

-- whether what is shown may be written
abbrev pub writing : Bool → List ℕ
writing true = codes "ro"
writing false = codes "rw"

-- and whether it may be executed
abbrev pub executing : Bool → List ℕ
executing true = codes "noexec"
executing false = codes "exec"

-- and whether set-id bits and capabilities of programs have no effect there, mount(2), MS_NOSUID
abbrev pub unprivileged : Bool → List ℕ
unprivileged true = codes " nosuid"
unprivileged false = []

-- whether the mount may be written and executed, each word after a space; and `nosuid` after them if it has this flag
abbrev pub flags_words : Flags → List ℕ
flags_words flags =
    codes " " ++ (writing flags.read_only ++ (codes " " ++ (executing flags.no_exec ++ unprivileged flags.no_suid)))

-- what a mount shows, and how that may be used; what is hidden nobody may use
abbrev pub shown_words : What → Flags → List ℕ
shown_words (Host source) flags = codes " host " ++ (escaped_word (path_text source) ++ flags_words flags)
shown_words Empty flags = codes " empty" ++ flags_words flags
shown_words (Hidden is_dir) flags = codes " hidden"

-- a mount: its place, and what it shows there
abbrev pub mount_line : MountStep → List ℕ
mount_line step = codes "mount " ++ (escaped_word (path_text step.place) ++ (shown_words step.what step.flags ++ 10 ∷ []))

-- how many mounts there are
abbrev pub count_line : ℕ → List ℕ
count_line count = codes "mounts " ++ (decimal count ++ 10 ∷ [])

-- all mounts, in order, and how many there are
abbrev pub text_of : List MountStep → List ℕ
text_of table = flat_map mount_line table ++ count_line (length table)
