-- The words that are chosen for a call pass exactly where the first ones do or the wide ones.
use Rattle.std.proofs.Common.{◌≡◌, ℕ, Bool, true, false, cond, List, Option, Some, None, refl, sym}
use Rattle.std.specs.Prelude.{◌||◌}
use Rattle.std.specs.Option.{option_or}
use Rattle.kernel_ways.specs.kernel_model.declared.kernel_calls.rule.Rule.{Rule}
use Rattle.kernel_ways.specs.kernel_laws.Kinds.{words, wide_words}
use Rattle.kernel_ways.specs.kernel_laws.Launched.{Launch, lets_words, lets_rule}
use Rattle.kernel_ways.specs.kernel_laws.declared.question_types.kind.CallKind.{CallKind}

pub lets_either : (launch : Launch) (kind : CallKind) (abi nr : ℕ) (rule : Rule)
    → (lets_words launch abi nr (words kind rule) || lets_words launch abi nr (wide_words kind rule))
    ≡ lets_rule launch kind abi nr (Some rule)
lets_either launch kind abi nr rule = by (lets_words launch abi nr (words kind rule)) refl (wide_words kind rule)
  where
    by : (b : Bool) → lets_words launch abi nr (words kind rule) ≡ b → (wide : Option (List ℕ))
        → (b || lets_words launch abi nr wide) ≡ lets_words launch abi nr (cond b (words kind rule) (option_or wide (words kind rule)))
    by true e wide = sym e
    by false e None = sym e
    by false e (Some args) = refl
