-- The values of ExecStart= as a known systemd reads them (systemd.service(5), Command lines, Special executable prefixes).
use Rattle.std.specs.Prelude.{ℕ, suc, zero, ◌==◌, ◌||◌, ◌&&◌, not, nat_lt, cond, Bool, Option, Some, None, List, [], ◌∷◌, ◌++◌, length, filter}
use Rattle.std.specs.Prelude.{drop, take}
use Rattle.std.specs.List.{list_any}
use Rattle.std.specs.Str.{byte as ascii}
use Rattle.cred_settings.specs.unit_grammar.declared.notes.NoteCause.TheVariants.{Value as ValueCause, Specifier}
use Rattle.mount_settings.specs.unit_names.Expansion.{expansion}
use Rattle.mount_settings.specs.unit_names.Names.{Name}
use Rattle.mount_settings.specs.unit_names.declared.version.Version.{Version}
use Rattle.exec_settings.specs.Commands.{first_word, keeps_privileges, program_of}
use Rattle.exec_settings.specs.declared.commands.Command.{Command}
use Rattle.exec_settings.specs.declared.commands.Program.{Program}
use Rattle.exec_settings.specs.declared.commands.Program.TheVariants.{Absolute, Relative, Named}
use Rattle.exec_settings.specs.declared.commands.Reading.{Reading}
use Rattle.exec_settings.specs.declared.commands.Reading.TheVariants.{Launches, Noted}

-- how often a byte occurs in a text
abbrev pub times : ℕ → List ℕ → ℕ
times byte text = length (filter (λ other. other == byte) text)

abbrev pub has_byte : ℕ → List ℕ → Bool
has_byte byte text = list_any (λ other. other == byte) text

-- `-`, `@` and `:` may each occur once
abbrev pub stands_once : ℕ → Bool
stands_once byte = byte == ascii "-" || (byte == ascii "@" || byte == ascii ":")

-- the byte is a prefix after these: one that has not occurred yet. Only one of `+`, `!` and `!!` may occur, and two `!` are one `!!`
abbrev pub may_follow : List ℕ → ℕ → Bool
may_follow before byte =
    (stands_once byte && not (has_byte byte before))
    || ((byte == ascii "+" && not (list_any keeps_privileges before))
    || (byte == ascii "!" && (not (has_byte (ascii "+") before) && nat_lt (times (ascii "!") before) 2)))

-- the number of prefixes at the start of a text, after these prefixes: the first other character begins the program
abbrev pub count_behind : List ℕ → List ℕ → ℕ
count_behind before [] = zero
count_behind before (byte ∷ text) = cond (may_follow before byte) (suc (count_behind (before ++ byte ∷ []) text)) zero

abbrev pub known_count : List ℕ → ℕ
known_count word = count_behind [] word

abbrev pub known_prefixes : List ℕ → List ℕ
known_prefixes word = take (known_count word) word

abbrev pub behind_known : List ℕ → List ℕ
behind_known word = drop (known_count word) word

-- the program of a text that is not an absolute path: without a slash it is a name, and with a slash it is none
abbrev pub named : List ℕ → Option Program
named [] = Some Relative
named (byte ∷ name) = cond (has_byte (ascii "/") (byte ∷ name)) None (Some (Named (byte ∷ name)))

abbrev pub or_named : List ℕ → Option Program → Option Program
or_named text None = None
or_named text (Some (Absolute path)) = Some (Absolute path)
or_named text (Some (Named name)) = Some (Named name)
or_named text (Some Relative) = named text

unfoldable pub known_program_of : List ℕ → Option Program
known_program_of text = or_named text (program_of text)

-- `+` keeps all privileges, `!` alone leaves the ids, and `!!` changes nothing
abbrev pub known_command : List ℕ → Program → Command
known_command prefixes program = record {
  is_privileged = has_byte (ascii "+") prefixes;
  leaves_ids = times (ascii "!") prefixes == 1;
  program = program;
}

abbrev pub reading_by_program : List ℕ → Option Program → Reading
reading_by_program prefixes None = Noted ValueCause
reading_by_program prefixes (Some program) = Launches (known_command prefixes program)

-- the value is read by its expanded text after the prefixes, if this text can be expanded
abbrev pub reading_by_text : List ℕ → Option (List ℕ) → Reading
reading_by_text prefixes None = Noted Specifier
reading_by_text prefixes (Some text) = reading_by_program prefixes (known_program_of text)

abbrev pub known_word : Option Version → Name → List ℕ → Reading
known_word systemd name word = reading_by_text (known_prefixes word) (expansion systemd name (behind_known word))

abbrev pub reading_by_word : Option Version → Name → Option (List ℕ) → Reading
reading_by_word systemd name None = Noted ValueCause
reading_by_word systemd name (Some word) = known_word systemd name word

-- specifiers are expanded in the first word, after its prefixes; the other words are not read
unfoldable pub known_reading : Option Version → Name → List ℕ → Reading
known_reading systemd name text = reading_by_word systemd name (first_word text)
