-- The values of ExecStart= by the rules of the base profile (systemd.service(5)).
use Rattle.std.specs.Prelude.{ℕ, ◌==◌, ◌||◌, nat_le, cond, false, Bool, Option, Some, None, List, length, drop, take, slice_get, option_and_then}
use Rattle.std.specs.List.{list_any, prefix_len}
use Rattle.std.specs.Option.{option_map}
use Rattle.std.specs.Str.{byte as ascii}
use Rattle.cred_settings.specs.text_forms.Words.{words_of}
use Rattle.mount_settings.specs.abs_path.declared.error.PathError.{PathError}
use Rattle.mount_settings.specs.abs_path.declared.error.PathError.TheVariants.{TooLong, HasNul, Relative as IsRelative, DotDot, Memory}
use Rattle.mount_settings.specs.abs_path.Paths.{parts_of, text_of}
use Rattle.mount_settings.specs.abs_path.Read.{fault_of}
use Rattle.cred_settings.specs.dropin_merge.unit_values.Lines.{words_if}
use Rattle.exec_settings.specs.declared.commands.Command.{Command}
use Rattle.exec_settings.specs.declared.commands.Program.{Program}
use Rattle.exec_settings.specs.declared.commands.Program.TheVariants.{Absolute, Relative}

-- special executable prefixes: `+` and `!`, with which a command keeps privileges, and `-`, `:` and `@`
abbrev pub keeps_privileges : ℕ → Bool
keeps_privileges byte = byte == ascii "+" || byte == ascii "!"

abbrev pub is_prefix : ℕ → Bool
is_prefix byte = (byte == ascii "-" || byte == ascii ":") || (byte == ascii "@" || keeps_privileges byte)

abbrev pub prefixes_of : List ℕ → List ℕ
prefixes_of word = take (prefix_len is_prefix word) word

abbrev pub behind_prefixes : List ℕ → List ℕ
behind_prefixes word = drop (prefix_len is_prefix word) word

-- a program is an absolute path of at most 250 bytes once it is folded, or a text that is not an absolute path; any other text is none
abbrev pub program_by : Option PathError → List ℕ → Option Program
program_by None text = cond (nat_le (length (text_of (parts_of text))) 250) (Some (Absolute (parts_of text))) None
program_by (Some IsRelative) text = Some Relative
program_by (Some TooLong) text = None
program_by (Some HasNul) text = None
program_by (Some DotDot) text = None
program_by (Some Memory) text = None

unfoldable pub program_of : List ℕ → Option Program
program_of text = program_by (fault_of text) text

-- the command that begins with this word
abbrev pub command_of_word : List ℕ → Option Command
command_of_word word =
    option_map (λ program. record {
      is_privileged = list_any keeps_privileges (prefixes_of word);
      leaves_ids = false;
      program = program;
    })
    (program_of (behind_prefixes word))

abbrev pub first_word : List ℕ → Option (List ℕ)
first_word text = option_and_then (λ words. slice_get words 0) (words_if (words_of text))

-- the command of a value, if it can be read
unfoldable pub command_of : List ℕ → Option Command
command_of text = option_and_then command_of_word (first_word text)
