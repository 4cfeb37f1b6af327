-- How many of some verdicts are open, with one more.
use Rattle.std.proofs.Common.{◌≡◌, ◌∙◌, ℕ, ◌+◌, ◌<◌, true, false, List, [], ◌∷◌, take, length, length-append, get_or, ap, arith, sym}
use Rattle.std.specs.Prelude.{cond, filter}
use Rattle.std.proofs.lemmas.List.{map-append, take_more}
use Rattle.std.proofs.lemmas.List.Elements.{filter-append}
use Rattle.judge.specs.kernel_model.World.{World}
use Rattle.judge.specs.kernel_laws.declared.question_types.question.Question.{Question}
use Rattle.asked_service.specs.Asked.{is_open_by}
use Rattle.asked_service.specs.Rows.{count_open, rows_of}
use Rattle.asked_service.specs.declared.rows.VerdictRow.{VerdictRow}

module _ (world : World) (list : List Question) (i : ℕ) (d : Question) (lt : i < length list) where
  abbrev row_of : Question → VerdictRow
  row_of question = record { question = question; is_open = is_open_by world question }

  abbrev before : ℕ
  before = count_open (rows_of world (take i list))

  one_more : count_open (rows_of world (take (i + 1) list)) ≡ before + count_open (rows_of world (get_or list i d ∷ []))
  one_more =
      ap (λ own. count_open (rows_of world own)) (take_more list i d lt)
      ∙ ap count_open (map-append row_of (take i list) (get_or list i d ∷ []))
      ∙ ap length (filter-append (λ (row : VerdictRow). row.is_open) (rows_of world (take i list)) (rows_of world (get_or list i d ∷ [])))
      ∙ length-append (filter (λ (row : VerdictRow). row.is_open) (rows_of world (take i list)))
      (filter (λ (row : VerdictRow). row.is_open) (rows_of world (get_or list i d ∷ [])))

  -- it is open
  pub counted_more : (open' now : ℕ) → is_open_by world (get_or list i d) ≡ true → open' ≡ before → now ≡ open' + 1
      → now ≡ count_open (rows_of world (take (i + 1) list))
  counted_more open' now opens was is =
      let one : count_open (rows_of world (get_or list i d ∷ [])) ≡ 1 = ap (λ b. length (cond b (row_of (get_or list i d) ∷ []) [])) opens in
      is ∙ ap (λ n. n + 1) was ∙ ap (λ n. before + n) (sym one) ∙ sym one_more

  -- it is not
  pub counted_same : (open' now : ℕ) → is_open_by world (get_or list i d) ≡ false → open' ≡ before → now ≡ open'
      → now ≡ count_open (rows_of world (take (i + 1) list))
  counted_same open' now denies was is =
      let none : count_open (rows_of world (get_or list i d ∷ [])) ≡ 0 = ap (λ b. length (cond b (row_of (get_or list i d) ∷ []) [])) denies in
      let same : before ≡ before + 0 = omega arith in
      is ∙ was ∙ same ∙ ap (λ n. before + n) (sym none) ∙ sym one_more
