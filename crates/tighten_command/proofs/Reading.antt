-- The questions of lines, one by one.
use Rattle.std.proofs.Common.{◌≡◌, ◌∙◌, ℕ, ◌+◌, ◌<◌, ◌≤◌, Bool, true, false, cond, List, [], ◌∷◌, ◌++◌, Some, None, Result, Ok, Err, length}
use Rattle.std.proofs.Common.{get_or, take, take_all, length-append, refl, sym, ap, subst, arith}
use Rattle.std.specs.Prelude.{Contains, map}
use Rattle.std.specs.List.{All}
use Rattle.std.specs.Result.{IsErrAnd}
use Rattle.std.proofs.lemmas.List.{get_or-map, length-map, map-append, take_more}
use Rattle.std.proofs.lemmas.List.Elements.{All-push}
use Rattle.std.proofs.lemmas.Option.{slice_get-get_or}
use Rattle.asked_service.specs.call_table.Table as calls
use Rattle.asked_service.specs.site_table.Table.{Site}
use Rattle.asked_service.specs.kernel_laws.Questions as asked
use Rattle.asked_service.specs.text_forms.line_text.Lines.{Line, is_text, text_of}
use Rattle.asked_service.specs.text_forms.line_text.Views.{line_view}
use Rattle.asked_service.specs.text_forms.declared.line_text.lines.Line.{Line as ReadLine}
use Rattle.asked_service.specs.kernel_laws.declared.question_types.question.Question.{Question}
use Rattle.question_text.specs.Printed.{ArePrinted, IsPrintedSo}
use Rattle.question_text.specs.declared.printed.PrintedQuestion.{PrintedQuestion}
use Rattle.asked_service.specs.report_text.Wording.{question_words}
use Rattle.tighten_command.specs.Keeping.{AreOf, AreTooMany, IsFirstOther, ReadsKeep, ReadsLines, questions, text_lines}
use Rattle.tighten_command.specs.declared.keeping.KeepError.{KeepError}
use Rattle.tighten_command.specs.declared.keeping.KeepError.TheVariants.{Memory}

-- what stands at no place
abbrev pub no_line : ReadLine
no_line = record { number = 0; text = record { ref_ptr = (0, 0); now = [] } }

-- want of memory is passed on
pub at_memory : (P : Result (List Question) KeepError → Type 0) (result : Result (List Question) KeepError)
    → IsErrAnd result (λ error. error ≡ Memory) → P (Err Memory) → P result
at_memory P (Ok keep) is holds = absurd is
at_memory P (Err error) is holds = subst (λ one. P (Err one)) (sym is) holds

-- bytes that are text, and bytes that are none
pub no_text : (bytes : List ℕ) → None ≡ text_of bytes → is_text bytes ≡ false
unfolding text_of
no_text bytes is = by (is_text bytes) refl is
  where
    by : (b : Bool) → is_text bytes ≡ b → None ≡ cond b (Some bytes) None → is_text bytes ≡ false
    by true e is = cc
    by false e is = e

pub some_text : (bytes text : List ℕ) → Some text ≡ text_of bytes → (is_text bytes ≡ true) × (text ≡ bytes)
unfolding text_of
some_text bytes text is = by (is_text bytes) refl is
  where
    by : (b : Bool) → is_text bytes ≡ b → Some text ≡ cond b (Some bytes) None → (is_text bytes ≡ true) × (text ≡ bytes)
    by true e is = (e, cc)
    by false e is = cc

module _ (table : calls.Table) (site : Site) where
  pub lent_printed : (printed lent : List PrintedQuestion) → lent ≡ printed → ArePrinted table site printed → ArePrinted table site lent
  lent_printed printed lent lends are = subst (ArePrinted table site) (sym lends) are

  -- one line more
  one_more : (lines : List Line) (keep : List Question) (line : Line) (question : Question) → AreOf table site lines keep
      → IsPrintedSo table site line.text question → AreOf table site (lines ++ line ∷ []) (keep ++ question ∷ [])
  one_more lines keep line question are is = record {
    printed =
        let words = λ (question : Question). question_words table site question in
        let text = λ (line : Line). line.text in
        map-append words keep (question ∷ []) ∙ ap (λ front. front ++ words question ∷ []) are.printed
        ∙ ap (λ own. map text lines ++ own ∷ []) is.printed ∙ sym (map-append text lines (line ∷ []));
    listed = All-push (λ question. Contains (asked.questions table site) question) keep question are.listed is.listed;
  }

  -- the line at a place
  pub one_more_at : (lines : List ReadLine) (keep more : List Question) (at : ℕ) (text : List ℕ) (question : Question) → at < length lines
      → text ≡ (get_or lines at no_line).text.now
      → AreOf table site (take at (map line_view lines)) keep → IsPrintedSo table site text question → more ≡ keep ++ question ∷ []
      → AreOf table site (take (at + 1) (map line_view lines)) more
  one_more_at lines keep more at text question lt lends are printed adds =
      let there : at < length (map line_view lines) = rw (length-map lines line_view) lt in
      let read : get_or (map line_view lines) at (line_view no_line) ≡ line_view (get_or lines at no_line) = get_or-map line_view lines at no_line (line_view no_line) lt in
      subst (AreOf table site (take (at + 1) (map line_view lines))) (sym adds)
      (subst (λ (these : List Line). AreOf table site these (keep ++ question ∷ []))
      (sym (take_more (map line_view lines) at (line_view no_line) there
      ∙ ap (λ (own : Line). take at (map line_view lines) ++ own ∷ []) read))
      (one_more (take at (map line_view lines)) keep (line_view (get_or lines at no_line)) question are
      (subst (λ (own : List ℕ). IsPrintedSo table site own question) lends printed)))

  pub other_at : (lines : List ReadLine) (keep : List Question) (at : ℕ) (text : List ℕ) → at < length lines → at ≤ 512
      → text ≡ (get_or lines at no_line).text.now
      → AreOf table site (take at (map line_view lines)) keep → ((question : Question) → IsPrintedSo table site text question → ⊥)
      → IsFirstOther table site (map line_view lines) (get_or lines at no_line).number
  other_at lines keep at text lt few lends are none = record {
    place = at;
    few = few;
    keep = keep;
    before = are;
    line = line_view (get_or lines at no_line);
    stands =
        let there : at < length (map line_view lines) = rw (length-map lines line_view) lt in
        slice_get-get_or (map line_view lines) at (line_view no_line) there
        ∙ ap Some (get_or-map line_view lines at no_line (line_view no_line) lt);
    is_other = λ question is. none question (subst (λ (own : List ℕ). IsPrintedSo table site own question) (sym lends) is);
    numbered = refl;
  }

  pub too_many_at : (lines : List ReadLine) (keep : List Question) (at : ℕ) (text : List ℕ) (question : Question) → at < length lines
      → at ≡ 512 → text ≡ (get_or lines at no_line).text.now
      → AreOf table site (take at (map line_view lines)) keep → IsPrintedSo table site text question
      → AreTooMany table site (map line_view lines)
  too_many_at lines keep at text question lt is_last lends are printed = record {
    more = rw (length-map lines line_view) (omega (arith, lt, is_last));
    keep = keep ++ question ∷ [];
    are = subst (λ count. AreOf table site (take (count + 1) (map line_view lines)) (keep ++ question ∷ [])) is_last
        (one_more_at lines keep (keep ++ question ∷ []) at text question lt lends are printed refl);
  }

  -- all lines are questions
  pub all_read : (lines : List ReadLine) (keep held : List Question) (at : ℕ) → length lines ≤ at → length keep ≡ at → at ≤ 512
      → held ≡ keep → AreOf table site (take at (map line_view lines)) keep → ReadsLines table site (map line_view lines) (Ok held)
  all_read lines keep held at past counted few holds are =
      let long : length (map line_view lines) ≤ at = rw (length-map lines line_view) past in
      subst (λ (own : List Question). ReadsLines table site (map line_view lines) (Ok own)) (sym holds)
      (questions keep (subst (λ (these : List Line). AreOf table site these keep) (take_all at (map line_view lines) long) are)
      (omega (arith, counted, few)))

pub one_longer : (keep more : List Question) (question : Question) (at : ℕ) → more ≡ keep ++ question ∷ [] → length keep ≡ at
    → length more ≡ at + 1
one_longer keep more question at adds counted = ap (λ (own : List Question). length own) adds ∙ length-append keep (question ∷ [])
    ∙ omega (arith, counted)

-- what is read is of the list
pub listed_keep : (table : calls.Table) (site : Site) (bytes : List ℕ) (keep : List Question) → ReadsKeep table site bytes (Ok keep)
    → All (λ question. Contains (asked.questions table site) question) keep
listed_keep table site bytes _ (text_lines _ is (questions keep are few)) = are.listed
