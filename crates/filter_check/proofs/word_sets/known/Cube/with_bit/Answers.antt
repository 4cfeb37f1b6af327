use Rattle.std.proofs.Common.{◌&&◌, true, false, sym, ap, ◌∙◌}
use Rattle.filter_check.specs.word_sets.Words.{is_in, is_set, same}
use Rattle.filter_check.proofs.Bits.{one_known, zero_known, in_wider, wider_clear, wider_more, bit_of}
use Rattle.filter_check.proofs.word_sets.known.Cube.with_bit.Goals as goal

pub invariant_of-result : goal.invariant_of-result
invariant_of-result c = record {
  clear = wider_clear c.args.self.known c.args.self.bits _ _ c.args.place (bit_of true)
      (one_known c.args.self.known c.args.self.bits c.args.place c.requires.place c.requires.unknown c.args.self.clear);
}

pub returns-then-set-clause-those_with_the_bit : goal.returns-then-set-clause-those_with_the_bit
returns-then-set-clause-those_with_the_bit c = λ word. in_wider c.args.self.known c.args.self.bits _ _ c.args.place word true
    (one_known c.args.self.known c.args.self.bits c.args.place c.requires.place c.requires.unknown c.args.self.clear)
    ∙ ap (λ set. is_in c.args.self word && same (is_set word c.args.place) set) (sym c.if-set.true)

pub returns-then-set-clause-more : goal.returns-then-set-clause-more
returns-then-set-clause-more c = wider_more c.args.self.known c.args.self.bits _ _ c.args.place (bit_of true)
    (one_known c.args.self.known c.args.self.bits c.args.place c.requires.place c.requires.unknown c.args.self.clear)

pub invariant_of-result-2 : goal.invariant_of-result-2
invariant_of-result-2 c =
    record {
      clear = wider_clear c.args.self.known c.args.self.bits _ _ c.args.place (bit_of false)
          (zero_known c.args.self.known c.args.self.bits c.args.place c.requires.place c.requires.unknown c.args.self.clear);
    }

pub returns-clause-those_with_the_bit : goal.returns-clause-those_with_the_bit
returns-clause-those_with_the_bit c = λ word. in_wider c.args.self.known c.args.self.bits _ _ c.args.place word false
    (zero_known c.args.self.known c.args.self.bits c.args.place c.requires.place c.requires.unknown c.args.self.clear)
    ∙ ap (λ set. is_in c.args.self word && same (is_set word c.args.place) set) (sym c.if-set.false)

pub returns-clause-more : goal.returns-clause-more
returns-clause-more c = wider_more c.args.self.known c.args.self.bits _ _ c.args.place (bit_of false)
    (zero_known c.args.self.known c.args.self.bits c.args.place c.requires.place c.requires.unknown c.args.self.clear)
