-- A text has an ending, and a text before it.
use Rattle.std.proofs.Common.{◌≡◌, ◌≢◌, ℕ, ◌-◌, ◌+◌, Bool, true, false, cond, Option, Some, None, List, ◌++◌, length, take, drop, refl, sym}
use Rattle.std.proofs.Common.{ap, ◌∙◌, arith}
use Rattle.std.proofs.Math.Seq.{take-append_seam}
use Rattle.std.specs.Prelude.{nat_eq}
use Rattle.std.specs.List.{ends_with}
use Rattle.std.specs.Bool.{MatchBool}
use Rattle.std.specs.Option.{option_map, MatchOption}
use Rattle.std.specs.Str.Pattern.{FindsTextSuffix}
use Rattle.std.specs.Cmp.Lexicographic.{told_text}
use Rattle.std.proofs.lemmas.Bool.{true≢false}
use Rattle.std.proofs.lemmas.Option.{cond_some}
use Rattle.std.proofs.lemmas.List.{take-append-drop, length-append}
use Rattle.std.proofs.lemmas.List.Prefix.{end_rest}
use Rattle.unit_names.specs.Cutting.{before_end}
use denote.Ref.{Bor}

told_yes : (P : Type 0) (b : Bool) → MatchBool b P (¬ P) → b ≡ true → P
told_yes P true told e = told
told_yes P false told e = absurd (true≢false (sym e))

told_no : (P : Type 0) (b : Bool) → MatchBool b P (¬ P) → ¬ P → b ≡ false
told_no P true told never = absurd (never told)
told_no P false told never = refl

told_is : (P : Type 0) (b : Bool) → MatchBool b P (¬ P) → P → b ≡ true
told_is P true told holds = refl
told_is P false told holds = absurd (told holds)

abbrev EndsSo : List ℕ → List ℕ → Type 0
EndsSo text ending = ending ≡ drop (length text - length ending) text

ends_so : (text ending : List ℕ) → MatchBool (ends_with nat_eq text ending) (EndsSo text ending) (¬ (EndsSo text ending))
ends_so text ending = told_text ending (drop (length text - length ending) text) (ends_with nat_eq text ending) refl

ends_whole : (text ending : List ℕ) → EndsSo text ending → text ≡ take (length text - length ending) text ++ ending
ends_whole text ending e = sym (take-append-drop (length text - length ending) text)
    ∙ ap (λ back. take (length text - length ending) text ++ back) (sym e)

pub before_end_whole : (text ending stem : List ℕ) → before_end ending text ≡ Some stem → text ≡ stem ++ ending
before_end_whole text ending stem e =
    let both = cond_some (ends_with nat_eq text ending) (take (length text - length ending) text) stem e in
    ends_whole text ending (told_yes (EndsSo text ending) (ends_with nat_eq text ending) (ends_so text ending) both.0)
    ∙ ap (λ front. front ++ ending) both.1

before_end_so : (text ending stem : List ℕ) → text ≡ stem ++ ending → ends_with nat_eq text ending ≡ true
before_end_so text ending stem e = told_is (EndsSo text ending) (ends_with nat_eq text ending) (ends_so text ending)
    (sym (end_rest text ending stem e))

pub before_end-append : (text ending stem : List ℕ) → text ≡ stem ++ ending → before_end ending text ≡ Some stem
before_end-append text ending stem e =
    let size : length text - length ending ≡ length stem = omega (arith, ap length e, length-append stem ending) in
    ap (λ b. cond b (Some (take (length text - length ending) text)) None) (before_end_so text ending stem e)
    ∙ ap (λ n. Some (take n text)) size
    ∙ ap (λ t. Some (take (length stem) t)) e
    ∙ ap Some (take-append_seam stem ending)

before_end_none : (text ending : List ℕ) → ((front : List ℕ) → text ≢ front ++ ending) → before_end ending text ≡ None
before_end_none text ending never =
    ap (λ b. cond b (Some (take (length text - length ending) text)) None)
    (told_no (EndsSo text ending) (ends_with nat_eq text ending) (ends_so text ending)
    (λ e. never (take (length text - length ending) text) (ends_whole text ending e)))

-- `strip_suffix` returns the text before an ending
pub before_end_known : (ending text : List ℕ) (r : Option (Bor (List ℕ)))
    → MatchOption r (FindsTextSuffix ending text None)
    (λ x. (n : ℕ) × FindsTextSuffix ending text (Some n) × (x.now ≡ take (length text - n) text) × (length x.now + n ≡ length text))
    → option_map (λ x. x.now) r ≡ before_end ending text
before_end_known ending text None h = sym (before_end_none text ending h)
before_end_known ending text (Some x) h = sym (before_end-append text ending x.now (h.1.1 ∙ ap (λ front. front ++ ending) (sym h.2)))
