-- Each line ends in a line feed.
use Rattle.std.proofs.Common.{inr, ℕ, length, codes}
use Rattle.std.specs.Prelude.{flat_map}
use Rattle.std.specs.Fmt.{decimal}
use Rattle.launcher.specs.bpf_code.Reading.{bytes_of_insn}
use Rattle.launcher.specs.bpf_code.declared.machine.Insn.{Insn}
use Rattle.launcher.specs.filter_settings.filter_rules.Names.{text_of as name_text}
use Rattle.launcher.specs.declared.filters.FilterProgram.{FilterProgram}
use Rattle.unit_inputs.specs.command_answers.Lines.{IsOfLines}
use Rattle.unit_inputs.proofs.Lines.{ends_behind, ends_feed}
use Rattle.filter_command.specs.Lines.{count_line, head_line, hex_byte, insn_line}

pub insn_ends : (insn : Insn) → IsOfLines (insn_line insn)
insn_ends insn = inr (ends_behind (flat_map hex_byte (bytes_of_insn insn)) _ ends_feed)

pub head_ends : (filter : FilterProgram) → IsOfLines (head_line filter)
head_ends filter = inr (ends_behind (codes "filter ") _ (ends_behind (name_text filter.name) _
    (ends_behind (codes " ") _ (ends_behind (decimal (length filter.program)) _ ends_feed))))

pub count_ends : (count : ℕ) → IsOfLines (count_line count)
count_ends count = inr (ends_behind (codes "filters ") _ (ends_behind (decimal count) _ ends_feed))
