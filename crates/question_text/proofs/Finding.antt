-- What is found among the printed questions.
use Rattle.std.proofs.Common.{◌≡◌, ◌∙◌, ℕ, ◌+◌, ◌<◌, ◌≤◌, true, take, List, [], ◌∷◌, ◌++◌, Some, Result, Ok, Err, inl, inr, length, get_or}
use Rattle.std.proofs.Common.{sym, ap, subst, arith}
use Rattle.std.specs.Prelude.{Contains, IfOk, Vec, map}
use Rattle.std.specs.declared.alloc.AllocError.{AllocError}
use Rattle.std.specs.declared.alloc.Global.{Global}
use Rattle.std.specs.List.{All}
use Rattle.std.specs.Str.{bytes_eq}
use Rattle.std.proofs.lemmas.List.{get_or-map, length-map, map-append, take_more}
use Rattle.std.proofs.lemmas.List.Elements.{Contains-get_or}
use Rattle.std.proofs.lemmas.Slice.Eq.{bytes_eq-Decides}
use Rattle.std.proofs.lemmas.Option.{slice_get_cases}
use Rattle.report_text.specs.call_table.Table as calls
use Rattle.report_text.specs.site_table.Table.{Site}
use Rattle.report_text.specs.kernel_laws.Questions as asked
use Rattle.report_text.specs.Wording.{question_words}
use Rattle.report_text.specs.kernel_laws.declared.question_types.question.Question.{Question}
use Rattle.report_text.specs.kernel_laws.declared.question_types.question.Question.TheVariants.{Path}
use Rattle.report_text.specs.kernel_laws.declared.question_types.wish.Wish.TheVariants.{See}
use Rattle.question_text.specs.Printed.{ArePrinted, HaveOneReading, IsPrintedSo, Reads}
use Rattle.question_text.specs.declared.printed.PrintedQuestion.{PrintedQuestion}

-- ---- one more that is printed

-- what stands at no place
abbrev pub some_question : Question
some_question = Path See 0

module _ {X Z : Type 0} (f : X → Z) where
  pub next_mapped : (made more : List X) (list : List Z) (i : ℕ) (d : Z) (x : X) → more ≡ made ++ x ∷ [] → map f made ≡ take i list
      → f x ≡ get_or list i d → i < length list → map f more ≡ take (i + 1) list
  next_mapped made more list i d x adds are is lt =
      ap (map f) adds ∙ map-append f made (x ∷ []) ∙ ap (λ front. front ++ f x ∷ []) are ∙ ap (λ z. take i list ++ z ∷ []) is
      ∙ sym (take_more list i d lt)

  pub next_text : {Y : Type 0} (g : Y → Z) (made more : List X) (list : List Y) (i : ℕ) (d : Y) (x : X) → more ≡ made ++ x ∷ []
      → map f made ≡ map g (take i list) → f x ≡ g (get_or list i d) → i < length list → map f more ≡ map g (take (i + 1) list)
  next_text g made more list i d x adds are is lt =
      ap (map f) adds ∙ map-append f made (x ∷ []) ∙ ap (λ front. front ++ f x ∷ []) are ∙ ap (λ z. map g (take i list) ++ z ∷ []) is
      ∙ sym (ap (map g) (take_more list i d lt) ∙ map-append g (take i list) (get_or list i d ∷ []))

-- ---- all of them

pub all_printed : (table : calls.Table) (site : Site) (list : List Question) (printed : List PrintedQuestion)
    → list ≡ asked.questions table site → map (λ one. one.question) printed ≡ list
    → map (λ one. one.text.items) printed ≡ map (λ question. question_words table site question) list → HaveOneReading table site
    → ArePrinted table site printed
all_printed table site list printed all are texts one_reading = record {
  all = are ∙ all;
  texts = texts ∙ ap (map (question_words table site)) all;
  one_reading = one_reading;
}

pub all_printed_of : (table : calls.Table) (site : Site) (list lent : List Question)
    (result : Result (Vec PrintedQuestion Global) AllocError) → list ≡ asked.questions table site → lent ≡ list
    → IfOk result (λ printed. map (λ one. one.question) printed.items ≡ lent)
    → IfOk result (λ printed. map (λ one. one.text.items) printed.items ≡ map (λ question. question_words table site question) lent)
    → HaveOneReading table site
    → IfOk result (λ printed. ArePrinted table site printed.items)
all_printed_of table site list lent (Ok printed) all lends are texts one_reading =
    all_printed table site lent printed.items (lends ∙ all) are texts one_reading
all_printed_of table site list lent (Err error) all lends are texts one_reading = tt

pub each_listed : (table : calls.Table) (site : Site) (list lent : List Question) → list ≡ asked.questions table site → lent ≡ list
    → All (λ question. Contains (asked.questions table site) question) lent
each_listed table site list lent all lends = λ k d lt. subst (λ (these : List Question). Contains these (get_or lent k d)) (lends ∙ all)
    (Contains-get_or lent k d lt)

-- ---- one of them

pub same_text : (own lent text : List ℕ) → lent ≡ own → bytes_eq lent text ≡ true → own ≡ text
same_text own lent text lends is = sym lends ∙ (bytes_eq-Decides lent text).0 is

-- the text at a place is that of the question there
text_at : (table : calls.Table) (site : Site) (printed : List PrintedQuestion) (one : PrintedQuestion) (k : ℕ)
    → ArePrinted table site printed → k < length printed → get_or printed k one ≡ one →
    one.text.items ≡ question_words table site one.question
text_at table site printed one k are lt is =
    let texts = λ (one : PrintedQuestion). one.text.items in
    let means = λ (one : PrintedQuestion). one.question in
    let there : k < length (map means printed) = rw (length-map printed means) lt in
    ap texts (sym is) ∙ sym (get_or-map texts printed k one [] lt)
    ∙ ap (λ (all : List (List ℕ)). get_or all k []) (are.texts ∙ ap (map (question_words table site)) (sym are.all))
    ∙ get_or-map (question_words table site) (map means printed) k (means one) [] there
    ∙ ap (question_words table site) (get_or-map means printed k one (means one) lt ∙ ap means is)

listed_at : (table : calls.Table) (site : Site) (printed : List PrintedQuestion) (one : PrintedQuestion) (k : ℕ)
    → ArePrinted table site printed → k < length printed → get_or printed k one ≡ one →
    Contains (asked.questions table site) one.question
listed_at table site printed one k are lt is =
    let means = λ (one : PrintedQuestion). one.question in
    subst (λ (all : List Question). Contains all one.question) are.all
    (k, (rw (length-map printed means) lt), get_or-map means printed k one (means one) lt ∙ ap means is)

-- the question at a place whose text this is
pub found_reads : (table : calls.Table) (site : Site) (printed : List PrintedQuestion) (text : List ℕ) (one : PrintedQuestion) (k : ℕ)
    → ArePrinted table site printed → k < length printed → get_or printed k one ≡ one →
    one.text.items ≡ text → Reads table site text (Some one.question)
found_reads table site printed text one k are lt is same =
    let here : IsPrintedSo table site text one.question =
    record { listed = listed_at table site printed one k are lt is; printed = sym (text_at table site printed one k are lt is) ∙ same } in
    (here, λ other there. are.one_reading text other one.question there here)

-- no text at any place is this
pub none_reads : (table : calls.Table) (site : Site) (printed : List PrintedQuestion) (text : List ℕ) → ArePrinted table site printed →
    ((k : ℕ) (one : PrintedQuestion) → k < length printed → (get_or printed k one).text.items ≡ text → ⊥) → (question : Question)
    → IsPrintedSo table site text question → ⊥
none_reads table site printed text are none question is =
    let means = λ (one : PrintedQuestion). one.question in
    let among : Contains (map means printed) question = subst (λ (all : List Question). Contains all question) (sym are.all) is.listed in
    elim (slice_get_cases printed among.0).1 [
      | inl there ↦ (let one : PrintedQuestion = there.0 in
          none among.0 one there.1
          (ap (λ (one : PrintedQuestion). one.text.items) there.3
          ∙ text_at table site printed one among.0 are there.1 there.3
          ∙ ap (question_words table site) (ap means (sym there.3) ∙ sym (get_or-map means printed among.0 one question there.1) ∙ among.2)
          ∙ is.printed))
      | inr past ↦ (let long : among.0 < length (map means printed) = among.1 in
          let short : among.0 < length printed = rw (← length-map printed means) long in
          let over : length printed ≤ among.0 = past.0 in
          absurd (omega arith))
    ]
