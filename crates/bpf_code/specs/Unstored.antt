-- Sets of scratch words are numbers, with a bit for each word, and pass from an instruction to the instructions that follow it.
use Rattle.std.specs.Prelude.{◌≡◌, ℕ, ◌+◌, ◌*◌, ◌%◌, ◌^◌, List, slice_index, slice_set, bit_and, bit_or, Option, Some}
use Rattle.std.specs.Int.{bit_at, bit_not, w16}
use Rattle.bpf_code.specs.declared.machine.Insn.{Insn}
use Rattle.bpf_code.specs.declared.ops.Op.{Op}
use Rattle.bpf_code.specs.declared.ops.Op.TheVariants.{Store, Jump, JumpIf}

-- the set has this word
abbrev pub Has : ℕ → ℕ → Type 0
Has words word = bit_at words word ≡ 1

-- the set without this word
abbrev pub without_word : ℕ → ℕ → ℕ
without_word words word = bit_and words (bit_not w16 (1 * 2 ^ word % 2 ^ 16))

-- the words that are still unstored after an instruction
abbrev pub unstored_behind : Option Op → Insn → ℕ → ℕ
unstored_behind (Some (Store r)) insn words = without_word words insn.k
unstored_behind op insn words = words

-- the sets of all places, after these words are added at one place
abbrev pub joined : List ℕ → ℕ → ℕ → List ℕ
joined marks at words = slice_set marks at (bit_or (slice_index marks at) words)

-- the sets of all places, after these words are added at each place that follows an instruction
abbrev pub passed_on : Option Op → Insn → ℕ → ℕ → List ℕ → List ℕ
passed_on (Some Jump) insn at words marks = joined marks (at + 1 + insn.k) words
passed_on (Some (JumpIf t o)) insn at words marks = joined (joined marks (at + 1 + insn.jt) words) (at + 1 + insn.jf) words
passed_on op insn at words marks = joined marks (at + 1) words
