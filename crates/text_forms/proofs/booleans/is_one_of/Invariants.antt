use Rattle.std.proofs.Common.{◌≡◌, map, drop}
use Rattle.text_forms.specs.Booleans.{is_one_of}
use Rattle.text_forms.proofs.booleans.is_one_of.Given as goal

abbrev pub invariant-loop-word : goal.invariant-loop-word
invariant-loop-word l = is_one_of (map (λ word. word.now) (drop l.word-index l.words)) l.text
    ≡ is_one_of (map (λ word. word.now) l.words) l.text
