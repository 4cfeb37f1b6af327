-- Fixed texts, each line ended by a line feed.
use Rattle.std.specs.Prelude.{ℕ, List, [], ◌∷◌, ◌++◌, codes, flat_map}
use Rattle.derive_command.specs.unit_inputs.declared.command_answers.exit_status.ExitStatus.{ExitStatus}
use Rattle.top_call.specs.declared.texts.Fixed.{Fixed}

-- lines, each ended by a line feed
abbrev pub text_of_lines : List (List ℕ) → List ℕ
text_of_lines lines = flat_map (λ line. line ++ 10 ∷ []) lines

-- the line for words that are not a command
abbrev pub words_line : List ℕ
words_line = text_of_lines (codes "refused words" ∷ [])

-- the name and the version
abbrev pub version_text : List ℕ
version_text = text_of_lines (codes "lentsheep 0.1.0" ∷ [])

-- what the program is for, its words, the files that it reads, its statuses, and where the manual is
abbrev pub help_lines : List (List ℕ)
help_lines =
    codes "Lentsheep judges the sandbox of a systemd service without starting it." ∷
    [] ∷
    codes "usage: lentsheep COMMAND UNIT [NAME] [FILE [THRESHOLD]]" ∷
    [] ∷
    codes "  filter UNIT    print the compiled seccomp filters of the unit" ∷
    codes "  plan UNIT      print the mounts that give the service its view of files" ∷
    codes "  judge UNIT     launch the service in a model, print what no calls of it reach," ∷
    codes "                 and calls that reach the rest" ∷
    codes "  replay UNIT SCRIPT" ∷
    codes "                 launch it, make the calls of SCRIPT, print what each comes to" ∷
    codes "  derive UNIT SCRIPT" ∷
    codes "                 print the least list of calls that lets SCRIPT through, as a drop-in" ∷
    codes "  effect UNIT DROPIN" ∷
    codes "                 print what DROPIN, applied last, would close and open" ∷
    codes "  tighten UNIT KEEP" ∷
    codes "                 print the settings that can be added while all of KEEP stays open" ∷
    codes "  why UNIT [QUESTION]" ∷
    codes "                 print which lines of UNIT deny QUESTION, as judge words it," ∷
    codes "                 or without one what each line denies by itself" ∷
    codes "  score UNIT POLICY [THRESHOLD]" ∷
    codes "                 weigh what its sandbox leaves open, 0 to 100 in all" ∷
    codes "  check UNIT NAME FILE" ∷
    codes "                 tell whether a filter from elsewhere decides every call as NAME does" ∷
    codes "  fleet POLICY   score all units, the greatest exposure first" ∷
    codes "  sample N       judge a made input of the number N, 0 to 999, and print counts" ∷
    codes "  --help         print this text" ∷
    codes "  --version      print the name and the version" ∷
    [] ∷
    codes "UNIT is the name of a service, as web.service. Files are read below the current folder:" ∷
    [] ∷
    codes "  etc/systemd/system/UNIT, and the same below run/systemd and usr/lib/systemd," ∷
    codes "                 the unit, with its drop-ins beside it" ∷
    codes "  calls.txt      the table of system calls and their groups" ∷
    codes "  site.toml      the files, the users and the groups of the host" ∷
    codes "  SCRIPT         calls to make, one a line: PID NAME [PAYLOAD] [NUMBER ..]" ∷
    codes "  DROPIN         a file of settings, as the drop-ins of a unit are" ∷
    codes "  KEEP           questions to be kept open, one a line as judge prints them" ∷
    codes "  POLICY         what tests of the sandbox weigh, as JSON" ∷
    codes "  FILE           a filter, 16 lower-case hex digits a line; NAME is one of the unit" ∷
    [] ∷
    codes "The status says how it ended:" ∷
    [] ∷
    codes "  0  done" ∷
    codes "  1  the exposure of score is above THRESHOLD" ∷
    codes "  2  the words are no command" ∷
    codes "  3  an input is refused, and the line says which and why" ∷
    codes "  4  a read failed, and nothing was printed" ∷
    codes "  5  a write failed, and the text was cut" ∷
    codes "  6  memory ran out, and the text was cut" ∷
    codes "  7  the launch of judge, replay, derive, effect, tighten or why is refused" ∷
    codes "  8  the filters of check differ, and the line says where" ∷
    [] ∷
    codes "lentsheep --root / COMMAND UNIT judges a service of this machine; --root --help says more." ∷
    codes "The manual is lentsheep(1). In a checkout the command is ./sandbox, and the manual README.md." ∷
    []

abbrev pub help_text : List ℕ
help_text = text_of_lines help_lines

-- the fixed text, and how a run ends after it
abbrev pub text_of : Fixed → List ℕ
text_of fixed = fixed.text.now

abbrev pub status_of : Fixed → ExitStatus
status_of fixed = fixed.status
