-- The lines of compiled filters, each ended by a line feed.
use Rattle.std.specs.Prelude.{ℕ, ◌+◌, ◌/◌, ◌%◌, nat_lt, cond, List, [], ◌∷◌, ◌++◌, length, codes, flat_map}
use Rattle.std.specs.Fmt.{decimal}
use Rattle.launcher.specs.bpf_code.Reading.{bytes_of_insn}
use Rattle.launcher.specs.bpf_code.declared.machine.Insn.{Insn}
use Rattle.launcher.specs.filter_settings.filter_rules.Names.{text_of as name_text}
use Rattle.launcher.specs.declared.filters.FilterProgram.{FilterProgram}

abbrev pub hex_digit : ℕ → ℕ
hex_digit n = cond (nat_lt n 10) (48 + n) (87 + n)

-- two hex digits in lower case
abbrev pub hex_byte : ℕ → List ℕ
hex_byte n = hex_digit (n / 16) ∷ hex_digit (n % 16) ∷ []

-- an instruction: its eight bytes
abbrev pub insn_line : Insn → List ℕ
insn_line insn = flat_map hex_byte (bytes_of_insn insn) ++ 10 ∷ []

-- the first line of a filter: its name, and how many instructions it has
abbrev pub head_line : FilterProgram → List ℕ
head_line filter = codes "filter " ++ (name_text filter.name ++ (codes " " ++ (decimal (length filter.program) ++ 10 ∷ [])))

-- a filter: its first line, and its instructions
abbrev pub filter_text : FilterProgram → List ℕ
filter_text filter = head_line filter ++ flat_map insn_line filter.program

-- how many filters there are
abbrev pub count_line : ℕ → List ℕ
count_line count = codes "filters " ++ (decimal count ++ 10 ∷ [])

-- all filters, in order, and how many there are
abbrev pub text_of : List FilterProgram → List ℕ
text_of filters = flat_map filter_text filters ++ count_line (length filters)
