use Rattle.std.proofs.Common.{ℕ, List, [], sym, refl}
use Rattle.kernel_model.specs.text_forms.Numbers.{number_value}
use Rattle.script_text.proofs.AllRead.{stops_at, goes_on}
use Rattle.script_text.proofs.arguments.read_numbers.Goals as goal
use denote.Ref.{Bor}

abbrev no_text : Bor (List ℕ)
no_text = record { ref_ptr = (0, 0); now = [] }

pub returns-in_default : goal.returns-in_default
returns-in_default c =
    (stops_at number_value (λ (word : Bor (List ℕ)). word.now) c.args.words.now c.loop-word.word-index no_text c.loop-word-test.true (sym c.in_default.ensures.decimal_or_hex), refl)

pub loop-word-preserved : goal.loop-word-preserved
loop-word-preserved c =
    goes_on number_value (λ (word : Bor (List ℕ)). word.now) c.args.words.now c.loop-word.word-index no_text c.loop-word.numbers.items
    c.push.new.self.items c.in-Some.number c.loop-word-test.true c.loop-word.invariant
    (sym c.in-Some.ensures.decimal_or_hex) c.in_ok-push.ensures.items
