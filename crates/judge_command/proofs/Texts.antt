-- The text that is printed is that of the answers and of the folders.
use Rattle.std.proofs.Common.{◌≡◌, ◌∙◌, ℕ, Bool, true, false, List, [], ◌∷◌, ◌++◌, Option, ap, refl, sym, subst, append-nil}
use Rattle.std.specs.Prelude.{◌↔◌, flat_map, map, if◌then◌else◌}
use Rattle.std.proofs.lemmas.List.Concat.{flat_map-append}
use Rattle.asked_service.specs.site_table.declared.row.Row.{Row}
use Rattle.asked_service.specs.kernel_laws.Questions.{if_so}
use Rattle.asked_service.specs.kernel_laws.declared.question_types.question.Question.{Question}
use Rattle.std.specs.Prelude.{IfOk, Result, Vec}
use Rattle.std.specs.declared.alloc.AllocError.{AllocError}
use Rattle.std.specs.declared.alloc.Global.{Global}
use Rattle.asked_service.specs.call_table.Table.{Table}
use Rattle.asked_service.specs.site_table.Table.{Site}
use Rattle.asked_service.specs.open_calls.chosen_calls.Chosen.{calls_for}
use Rattle.asked_service.specs.kernel_laws.declared.question_types.verdict.Verdict.{Verdict}
use Rattle.asked_service.specs.kernel_laws.Bound.{is_open}
use Rattle.asked_service.specs.kernel_laws.declared.question_types.verdict.Verdict.TheVariants as verdict
use Rattle.asked_service.specs.kernel_model.declared.kernel_calls.call.Call.{Call}
use Rattle.asked_service.specs.report_text.Answers.{blind_line, call_line, open_lines, verdict_line}
use Rattle.asked_service.specs.report_text.Launches.{launched_line}
use Rattle.asked_service.specs.report_text.declared.launches.Launched.{Launched as Line}
use Rattle.asked_service.specs.launching.Told.{told_of}
use Rattle.asked_service.specs.host_io.Puts.{Put}
use Rattle.asked_service.specs.host_io.declared.writing.SinkError.{SinkError}
use Rattle.asked_service.specs.unit_inputs.command_answers.Printing.{PrintsAll, PrintsLines}
use Rattle.asked_service.proofs.OfUnitInputs.Texts.{text_as, text_then}
use Rattle.asked_service.specs.Answers.{Denied, Open}
use Rattle.asked_service.specs.Asking.{IsAsked, is_named, launch_in, world_in}
use Rattle.judge_command.specs.Asked.{answer_text, asked_text, folder_text}
use Rattle.asked_service.specs.ByRule.{answer_of, answers_of, folders_of}
use Rattle.asked_service.specs.AnswerLines.{answer_lines}
use Rattle.judge_command.specs.Report.{count_line}
use Rattle.asked_service.specs.declared.asking.Asked.{Asked}

-- the parts of what is printed of a launched service: its launch, the answers, the folders that are blind, and the count
abbrev pub launch_part : Asked → List ℕ
launch_part asked = launched_line (told_of (world_in asked) asked.bounded.service.steps)

abbrev pub answers_part : Asked → List ℕ
answers_part asked = flat_map (answer_lines (world_in asked).calls (world_in asked).site)
    (answers_of (world_in asked) asked.bounded.service.program)

abbrev pub folders_part : Asked → List ℕ
folders_part asked = flat_map blind_line (folders_of (launch_in asked) (world_in asked).site.rows)

abbrev pub count_part : Asked → List ℕ
count_part asked = count_line (answers_of (world_in asked) asked.bounded.service.program)

-- a question that is found denied is not open
pub not_open : (found : Verdict) (b : Bool) → (found ≡ verdict.Open) ↔ (b ≡ true) → found ≡ verdict.Denied → b ≡ false
not_open found true is e = (let same : verdict.Denied ≡ verdict.Open = sym e ∙ is.1 refl in cc)
not_open found false is e = refl

module _ (asked : Asked) where
  each_answer : (list : List Question) → flat_map (answer_text asked) list
      ≡ flat_map (answer_lines (world_in asked).calls (world_in asked).site)
      (map (answer_of (launch_in asked) asked.bounded.service.program) list)
  each_answer [] = refl
  each_answer (question ∷ list) = ap (λ rest. answer_text asked question ++ rest) (each_answer list)

  pub answers_text : IsAsked asked → flat_map (answer_text asked) asked.questions.items
      ≡ flat_map (answer_lines (world_in asked).calls (world_in asked).site) (answers_of (world_in asked) asked.bounded.service.program)
  answers_text is = each_answer asked.questions.items
      ∙ ap (λ list. flat_map (answer_lines (world_in asked).calls (world_in asked).site)
      (map (answer_of (launch_in asked) asked.bounded.service.program) list)) is.questions

  -- the line of what is found, by the tables of the world
  pub own_line : (question : Question) (found own : Verdict) (table : Table) (site : Site) (line : Result (Vec ℕ Global) AllocError)
      → table ≡ (world_in asked).calls → site ≡ (world_in asked).site → found ≡ own
      → IfOk line (λ told. told.items ≡ verdict_line table site question found)
      → IfOk line (λ told. told.items ≡ verdict_line (world_in asked).calls (world_in asked).site question own)
  own_line question found own table site line tables sites same is =
      subst (λ these. IfOk line (λ told. told.items ≡ verdict_line these (world_in asked).site question own)) tables
      (subst (λ there. IfOk line (λ told. told.items ≡ verdict_line table there question own)) sites
      (subst (λ it. IfOk line (λ told. told.items ≡ verdict_line table site question it)) same is))

  -- the answer where a question is open
  pub open_text : (question : Question) → is_open (launch_in asked) question ≡ true
      → verdict_line (world_in asked).calls (world_in asked).site question verdict.Open ++ flat_map (call_line (world_in asked).calls)
      (calls_for (launch_in asked) asked.bounded.service.program question) ≡ answer_text asked question
  open_text question e = sym
      (ap (λ b. answer_lines (world_in asked).calls (world_in asked).site
      (if b then Open question (calls_for (launch_in asked) asked.bounded.service.program question) else Denied question)) e)

  -- and where it is denied
  pub denied_text : (question : Question) → is_open (launch_in asked) question ≡ false
      → verdict_line (world_in asked).calls (world_in asked).site question verdict.Denied ≡ answer_text asked question
  denied_text question e = sym
      (ap (λ b. answer_lines (world_in asked).calls (world_in asked).site
      (if b then Open question (calls_for (launch_in asked) asked.bounded.service.program question) else Denied question)) e)

  -- the lines of what is found open, by the tables of the world
  pub own_lines : (question : Question) (list : List Call) (table : Table) (site : Site) (lines : Result (Vec ℕ Global) AllocError)
      → table ≡ (world_in asked).calls → site ≡ (world_in asked).site
      → list ≡ calls_for (launch_in asked) asked.bounded.service.program question → is_open (launch_in asked) question ≡ true
      → IfOk lines (λ told. told.items ≡ open_lines table site question list) → IfOk lines (λ told. told.items ≡ answer_text asked question)
  own_lines question list table site lines tables sites lists opens is =
      let chosen = calls_for (launch_in asked) asked.bounded.service.program question in
      subst (λ text. IfOk lines (λ told. told.items ≡ text)) (open_text question opens)
      (subst (λ these. IfOk lines (λ told. told.items ≡ open_lines these (world_in asked).site question chosen)) tables
      (subst (λ there. IfOk lines (λ told. told.items ≡ open_lines table there question chosen)) sites
      (subst (λ own. IfOk lines (λ told. told.items ≡ open_lines table site question own)) lists is)))

  -- the line of a folder that is blind
  pub named_text : (row : Row) → is_named asked row ≡ true → blind_line row.path ≡ folder_text asked row
  named_text row e = sym (ap (λ b. if b then blind_line row.path else []) e)

  pub unnamed_text : (row : Row) → is_named asked row ≡ false → [] ≡ folder_text asked row
  unnamed_text row e = sym (ap (λ b. if b then blind_line row.path else []) e)

  one_folder : (row : Row) (b : Bool) → (if b then blind_line row.path else []) ≡ flat_map blind_line (if_so b row.path)
  one_folder row true = sym (append-nil (blind_line row.path))
  one_folder row false = refl

  pub folders_text : (rows : List Row) → flat_map (folder_text asked) rows ≡ flat_map blind_line (folders_of (launch_in asked) rows)
  folders_text [] = refl
  folders_text (row ∷ rows) =
      ap (λ rest. folder_text asked row ++ rest) (folders_text rows)
      ∙ ap (λ line. line ++ flat_map blind_line (folders_of (launch_in asked) rows)) (one_folder row (is_named asked row))
      ∙ sym (flat_map-append blind_line (if_so (is_named asked row) row.path) (folders_of (launch_in asked) rows))

  -- each part as it is put
  pub launch_told : (own : Line) (line : Result (Vec ℕ Global) AllocError) → own ≡ told_of (world_in asked) asked.bounded.service.steps
      → IfOk line (λ put. put.items ≡ launched_line own) → IfOk line (λ put. put.items ≡ launch_part asked)
  launch_told own line same tells = subst (λ one. IfOk line (λ put. put.items ≡ launched_line one)) same tells

  module _ {S : Type 0} (taken : S → Option (List ℕ)) (puts : S → Put → S → Type 0) where
    pub answers_put : (a b : S) (list : List Question) (put : Result (Unit {0}) SinkError) → IsAsked asked
        → list ≡ asked.questions.items → PrintsLines taken puts a b (flat_map (answer_text asked) list) put
        → PrintsLines taken puts a b (answers_part asked) put
    answers_put a b list put is same prints = text_as taken puts a b (flat_map (answer_text asked) list) (answers_part asked) put
        (ap (flat_map (answer_text asked)) same ∙ answers_text is) prints

    pub folders_put : (a b : S) (rows : List Row) (put : Result (Unit {0}) SinkError) → rows ≡ (world_in asked).site.rows
        → PrintsLines taken puts a b (flat_map (folder_text asked) rows) put → PrintsLines taken puts a b (folders_part asked) put
    folders_put a b rows put same prints = text_as taken puts a b (flat_map (folder_text asked) rows) (folders_part asked) put
        (ap (flat_map (folder_text asked)) same ∙ folders_text (world_in asked).site.rows) prints

  module _ {S : Type 0} {taken : S → Option (List ℕ)} {puts : S → Put → S → Type 0} where
    -- and what comes behind the launch
    pub behind_launch : (a b c : S) (put : Result (Unit {0}) SinkError) → PrintsAll taken puts a b (launch_part asked)
        → PrintsLines taken puts b c (answers_part asked ++ (folders_part asked ++ count_part asked)) put
        → PrintsLines taken puts a c (asked_text asked) put
    behind_launch a b c put launched prints = text_then a b c (launch_part asked)
        (answers_part asked ++ (folders_part asked ++ count_part asked)) put launched prints
