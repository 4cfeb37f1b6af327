-- Each question of the list is asked of what it is about.
use Rattle.std.proofs.Common.{◌≡◌, ℕ, Bool, true, false, List, [], ◌∷◌, ◌++◌, Some, refl, ap, ◌∙◌, sym, subst, append_assoc, length}
use Rattle.std.proofs.Common.{length-append}
use Rattle.std.specs.Prelude.{map, not, slice_get, ◌+◌, ◌&&◌}
use Rattle.std.proofs.lemmas.Bool.{and_parts}
use Rattle.filter_settings.specs.call_table.Members.{is_first}
use Rattle.std.specs.List.{AllByRecursion}
use Rattle.filter_settings.specs.call_table.declared.listed.CallLine.{CallLine}
use Rattle.filter_settings.specs.call_table.Table as calls
use Rattle.kernel_model.specs.site_table.declared.row.Row.{Row}
use Rattle.kernel_model.specs.site_table.Table.{Site}
use Rattle.kernel_model.specs.kernel_calls.Rules.{rule_of}
use Rattle.kernel_model.specs.site_table.Kinds.{is_dir, is_exe}
use Rattle.kernel_laws.specs.declared.question_types.question.Question.{Question}
use Rattle.kernel_laws.specs.declared.question_types.question.Question.TheVariants.{Path as ByPath, Call, Cap, Uid, Gid}
use Rattle.kernel_laws.specs.declared.question_types.wish.Wish.TheVariants.{Write as ToWrite, Exec as ToExec}
use Rattle.kernel_laws.specs.Questions.{IsAsked, is_plain, if_so, of_row, of_rows, of_calls, of_families, count_from, uids_of, gids_of}
use Rattle.kernel_laws.specs.Questions.{other_questions, questions}

module _ (table : calls.Table) where
  abbrev AllAsked : List Question → Type 0
  AllAsked list = AllByRecursion (IsAsked table) list

  both : (one other : List Question) → AllAsked one → AllAsked other → AllAsked (one ++ other)
  both [] other h g = g
  both (q ∷ one) other h g = (h.0, both one other h.1 g)

  asked_if : (b : Bool) (q : Question) → (b ≡ true → IsAsked table q) → AllAsked (if_so b q)
  asked_if true q h = (h refl, tt)
  asked_if false q h = tt

  rows_asked : (at : ℕ) (rows : List Row) → AllAsked (of_rows at rows)
  rows_asked at [] = tt
  rows_asked at (row ∷ rows) =
      both (of_row at row) (of_rows (at + 1) rows)
      (tt, (tt, both (if_so (not (is_dir row.kind)) (ByPath ToWrite at)) (if_so (is_exe row.kind) (ByPath ToExec at)) (asked_if (not (is_dir row.kind)) (ByPath ToWrite at) (λ e. tt)) (asked_if (is_exe row.kind) (ByPath ToExec at) (λ e. tt))))
      (rows_asked (at + 1) rows)

  get_at : (front : List CallLine) (line : CallLine) (lines : List CallLine) → slice_get (front ++ line ∷ lines) (length front) ≡ Some line
  get_at [] line lines = refl
  get_at (first ∷ front) line lines = get_at front line lines

  calls_asked : (front lines : List CallLine) → calls.every_call table ≡ front ++ lines
      → AllAsked (of_calls (calls.every_call table) (length front) lines)
  calls_asked front [] whole = tt
  calls_asked front (line ∷ lines) whole =
      let next : calls.every_call table ≡ (front ++ line ∷ []) ++ lines = whole ∙ sym (append_assoc front (line ∷ []) lines) in
      let count : length (front ++ line ∷ []) ≡ length front + 1 = length-append front (line ∷ []) in
      let P : ℕ → Type 0 = λ n. AllAsked (of_calls (calls.every_call table) n lines) in
      both (if_so (is_plain (rule_of line) && is_first (calls.every_call table) line.name (length front)) (Call (length front)))
      (of_calls (calls.every_call table) (length front + 1) lines)
      (asked_if (is_plain (rule_of line) && is_first (calls.every_call table) line.name (length front)) (Call (length front))
      (λ e own listed.
      let here : slice_get (calls.every_call table) (length front) ≡ Some line = ap (λ (l : List CallLine). slice_get l (length front)) whole ∙ get_at front line lines in
      let same : line ≡ own = cc in
      ap (λ (l : CallLine). is_plain (rule_of l)) (sym same)
      ∙ (and_parts (is_plain (rule_of line)) (is_first (calls.every_call table) line.name (length front)) e).0))
      (subst P count (calls_asked (front ++ line ∷ []) lines next))

  families_asked : (at : ℕ) (lines : List CallLine) → AllAsked (of_families at lines)
  families_asked at [] = tt
  families_asked at (line ∷ lines) = (tt, families_asked (at + 1) lines)

  caps_asked : (numbers : List ℕ) → AllAsked (map Cap numbers)
  caps_asked [] = tt
  caps_asked (n ∷ numbers) = (tt, caps_asked numbers)

  uids_asked : (numbers : List ℕ) → AllAsked (map Uid numbers)
  uids_asked [] = tt
  uids_asked (n ∷ numbers) = (tt, uids_asked numbers)

  gids_asked : (numbers : List ℕ) → AllAsked (map Gid numbers)
  gids_asked [] = tt
  gids_asked (n ∷ numbers) = (tt, gids_asked numbers)

  others_asked : AllAsked other_questions
  others_asked = (tt, (tt, (tt, (tt, (tt, (tt, (tt, (tt, (tt, (tt, (tt, (tt, (tt, tt)))))))))))))

  pub all_asked : (site : Site) → AllAsked (questions table site)
  all_asked site =
      let one : List Question = of_rows 0 site.rows ++ of_calls (calls.every_call table) 0 (calls.every_call table) in
      let two : List Question = one ++ of_families 0 table.families in
      let three : List Question = two ++ other_questions in
      let four : List Question = three ++ map Cap (count_from 0 41) in
      let five : List Question = four ++ map Uid (uids_of site) in
      let h = both (of_rows 0 site.rows) (of_calls (calls.every_call table) 0 (calls.every_call table)) (rows_asked 0 site.rows) (calls_asked [] (calls.every_call table) refl) in
      let h = both one (of_families 0 table.families) h (families_asked 0 table.families) in
      let h = both two other_questions h others_asked in
      let h = both three (map Cap (count_from 0 41)) h (caps_asked (count_from 0 41)) in
      let h = both four (map Uid (uids_of site)) h (uids_asked (uids_of site)) in
      both five (map Gid (gids_of site)) h (gids_asked (gids_of site))
