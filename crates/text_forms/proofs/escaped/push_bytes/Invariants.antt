use Rattle.std.proofs.Common.{◌≡◌, ◌++◌, length, take}
use Rattle.text_forms.specs.Escaped.{escaped_word}
use Rattle.text_forms.proofs.escaped.push_bytes.Given as goal

abbrev pub invariant-loop-plain : goal.invariant-loop-plain
invariant-loop-plain l = record {
  escaped : l.out.items ++ escaped_word l.left ≡ l.initial.out.items ++ escaped_word l.bytes;
  front : take (length l.initial.out.items) l.out.items ≡ l.initial.out.items;
}

abbrev pub decreases-loop-plain : goal.decreases-loop-plain
decreases-loop-plain l = length l.left
