-- Tests of the low words of arguments.
use Rattle.std.proofs.Common.{◌≡◌, ℕ, ◌%◌, ◌^◌, Bool, true, false, List, [], ◌∷◌, map, refl, ap, ◌∙◌, arith}
use Rattle.std.specs.Prelude.{◌||◌, ◌==◌, bit_and, slice_index}
use Rattle.std.specs.List.{list_any}
use Rattle.std.proofs.lemmas.Nat.{and_mask}
use Rattle.call_rules.specs.bpf_code.declared.machine.CallData.{CallData}
use Rattle.call_rules.specs.Action.{test_holds}
use Rattle.filter_settings.specs.filter_rules.Actions.{low}
use Rattle.filter_settings.specs.filter_rules.Choices.{whole}

pub or_false : (b : Bool) → (b || false) ≡ b
or_false true = refl
or_false false = refl

masked : (n : ℕ) → bit_and (n % 2 ^ 32) 0xffff_ffff ≡ n % 2 ^ 32
masked n = and_mask (n % 2 ^ 32) 32 ∙ omega arith

-- a mask of all ones changes nothing
pub whole_holds : (input : CallData) (at value : ℕ) → test_holds input (whole at value) ≡ (low input at == value)
whole_holds input at value = ap (λ word. word == value) (masked (slice_index input.args at))

pub some_whole : (input : CallData) (at : ℕ) (values : List ℕ)
    → list_any (test_holds input) (map (whole at) values) ≡ list_any (λ value. low input at == value) values
some_whole input at [] = refl
some_whole input at (value ∷ values) =
    ap (λ b. b || list_any (test_holds input) (map (whole at) values)) (whole_holds input at value)
    ∙ ap (λ b. (low input at == value) || b) (some_whole input at values)
