-- All calls of a table, those of both ABIs: how many there are, and what is left to ask of them.
use Rattle.std.proofs.Common.{◌≡◌, ◌<◌, ℕ, zero, suc, Bool, List, [], ◌∷◌, ◌++◌, ◌+◌, Option, Some, false, length, drop, refl, ap, ◌∙◌, sym}
use Rattle.std.proofs.Common.{arith, length-append}
use Rattle.std.specs.Prelude.{slice_get, ◌&&◌}
use Rattle.std.specs.Option.{option_map_or}
use Rattle.kernel_laws.proofs.OfCallTable.AllCalls.{second_are}
use Rattle.kernel_laws.specs.call_table.Members.{is_first}
use Rattle.kernel_laws.specs.call_table.Table.{Table, calls_in, every_call, second_calls}
use Rattle.kernel_laws.specs.call_table.declared.listed.CallLine.{CallLine}
use Rattle.kernel_laws.specs.kernel_model.kernel_calls.Rules.{rule_of}
use Rattle.kernel_laws.specs.declared.question_types.question.Question.TheVariants.{Call}
use Rattle.kernel_laws.specs.Questions.{if_so, is_plain, of_calls}

module _ (table : Table) where
  pub count_all : length table.calls + length (calls_in table 1) ≡ length (every_call table)
  count_all = ap (λ lines. length table.calls + length lines) (sym (second_are table.second))
      ∙ sym (length-append table.calls (second_calls table.second))

-- a list from one of its elements on
from_here : {X : Type 0} (xs : List X) (at : ℕ) → at < length xs
    → (x : X) × (slice_get xs at ≡ Some x) × (drop at xs ≡ x ∷ drop (at + 1) xs)
from_here [] at h = absurd (omega arith)
from_here (x ∷ xs) zero h = (x, refl, refl)
from_here (x ∷ xs) (suc at) h =
    let m = from_here xs at (omega arith) in
    let n : suc (at + 1) ≡ suc at + 1 = omega arith in
    (m.0, m.1, m.2 ∙ ap (λ n. m.0 ∷ drop n (x ∷ xs)) n)

-- the line of this number is asked of
abbrev pub is_asked_at : List CallLine → ℕ → Option CallLine → Bool
is_asked_at every at line = option_map_or (λ line. is_plain (rule_of line) && is_first every line.name at) line false

-- what is left to ask, one call further
pub calls_left : (every : List CallLine) (at : ℕ) → at < length every → (b : Bool) → is_asked_at every at (slice_get every at) ≡ b
    → of_calls every at (drop at every) ≡ if_so b (Call at) ++ of_calls every (at + 1) (drop (at + 1) every)
calls_left every at h b e =
    let here = from_here every at h in
    let asked : is_asked_at every at (Some here.0) ≡ b = ap (is_asked_at every at) (sym here.1) ∙ e in
    ap (of_calls every at) here.2 ∙ ap (λ b. if_so b (Call at) ++ of_calls every (at + 1) (drop (at + 1) every)) asked
