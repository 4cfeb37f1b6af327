-- One more question that is asked, and one more line that is told.
use Rattle.std.proofs.Common.{◌≡◌, ◌∙◌, ℕ, ◌+◌, ◌<◌, Bool, true, false, List, [], ◌∷◌, ◌++◌, get_or, length, map, take, ap, refl, sym}
use Rattle.std.specs.Prelude.{not, if◌then◌else◌}
use Rattle.std.proofs.lemmas.List.{take_more}
use Rattle.std.proofs.lemmas.List.Elements.{filter_more}
use Rattle.asked_service.specs.kernel_laws.Bound.{is_open}
use Rattle.asked_service.specs.kernel_laws.Launched.{Launch}
use Rattle.asked_service.specs.kernel_laws.declared.question_types.question.Question.{Question}
use Rattle.why_command.specs.declared.deciding_lines.unit_lines.line.UnitLine.{UnitLine}
use Rattle.why_command.specs.opening_lines.ByRule.{open_among, shut_among}
use Rattle.why_command.specs.declared.opening_lines.each.LineAlone.{LineAlone}

module _ (launch : Launch) (found now list : List Question) (i : ℕ) (d : Question) (lt : i < length list) where
  pub open_more : found ≡ open_among launch (take i list)
      → now ≡ found ++ (if is_open launch (get_or list i d) then get_or list i d ∷ [] else []) → now ≡ open_among launch (take (i + 1) list)
  open_more was adds =
      adds ∙ ap (λ front. front ++ (if is_open launch (get_or list i d) then get_or list i d ∷ [] else [])) was
      ∙ sym (filter_more (is_open launch) list i d lt)

  pub shut_more : found ≡ shut_among launch (take i list)
      → now ≡ found ++ (if is_open launch (get_or list i d) then [] else get_or list i d ∷ []) → now ≡ shut_among launch (take (i + 1) list)
  shut_more was adds =
      adds ∙ ap (λ front. front ++ (if is_open launch (get_or list i d) then [] else get_or list i d ∷ [])) was
      ∙ ap (λ end. shut_among launch (take i list) ++ end) (turned (is_open launch (get_or list i d)))
      ∙ sym (filter_more (λ question. not (is_open launch question)) list i d lt)
    where
      turned : (b : Bool) → (if b then [] else get_or list i d ∷ []) ≡ (if not b then get_or list i d ∷ [] else [])
      turned true = refl
      turned false = refl

pub lines_more : (told : List LineAlone) (one : LineAlone) (lines : List UnitLine) (i : ℕ) (line d : UnitLine) → i < length lines
    → line ≡ get_or lines i d → one.line.now ≡ line
    → map (λ one. one.line.now) told ≡ take i lines → map (λ one. one.line.now) (told ++ one ∷ []) ≡ take (i + 1) lines
lines_more told one lines i line d lt is same before =
    named told ∙ ap (λ own. own ++ one.line.now ∷ []) before ∙ ap (λ last. take i lines ++ last ∷ []) (same ∙ is)
    ∙ sym (take_more lines i d lt)
  where
    named : (own : List LineAlone) → map (λ one. one.line.now) (own ++ one ∷ []) ≡ map (λ one. one.line.now) own ++ one.line.now ∷ []
    named [] = refl
    named (first ∷ own) = ap (λ rest. first.line.now ∷ rest) (named own)
