-- How the word of a test is looked at, and the instructions of a test.
use Rattle.std.specs.Prelude.{ℕ, ◌==◌, ◌&&◌, Bool, if◌then◌else◌, List, [], ◌∷◌, ◌++◌}
use Rattle.std.specs.Int.{is_power_of_two}
use Rattle.call_rules.specs.bpf_code.declared.machine.Insn.{Insn}
use Rattle.call_rules.specs.Tested.{Tested}
use Rattle.seccomp_compile.specs.declared.tree.Comparison.{Comparison}
use Rattle.seccomp_compile.specs.declared.tree.Comparison.TheVariants.{Equal, AnyBit}
use Rattle.seccomp_compile.specs.Code.{whole_word, arg_offset, look_code, compare}

-- the test asks whether one bit is set
abbrev pub asks_for_a_bit : Tested → Bool
asks_for_a_bit test = (test.mask == test.value) && is_power_of_two test.mask

-- the whole word is compared by that bit; any other word is masked and compared with the value
abbrev pub mask_of : Tested → ℕ
mask_of test = if asks_for_a_bit test then whole_word else test.mask

abbrev pub comparison_of : Tested → Comparison
comparison_of test = if asks_for_a_bit test then AnyBit else Equal

-- a test, which skips so many instructions where it holds, and so many where it fails
abbrev pub test_code : Tested → ℕ → ℕ → List Insn
test_code test hit miss = look_code (arg_offset test.arg) (mask_of test) ++ compare (comparison_of test) test.value hit miss ∷ []
