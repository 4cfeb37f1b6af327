use Rattle.std.proofs.Common.{◌≡◌, Some, map, take}
use Rattle.script_text.specs.Numbers.{numbers_of}
use Rattle.script_text.proofs.arguments.read_numbers.Given as goal

abbrev pub invariant-loop-word : goal.invariant-loop-word
invariant-loop-word l = numbers_of (map (λ word. word.now) (take l.word-index l.words)) ≡ Some l.numbers.items
