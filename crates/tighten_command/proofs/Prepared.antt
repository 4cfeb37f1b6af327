-- What is ready, and the line of a refusal, are what the definitions admit, and the laws go together.
use Rattle.std.proofs.Common.{◌≡◌, ◌∙◌, ℕ, List, Result, Ok, Err, refl, sym, subst, inl, inr}
use Rattle.std.specs.List.{All}
use Rattle.asked_service.specs.kernel_laws.Questions.{questions}
use Rattle.std.specs.Prelude.{Contains, IsTrue}
use Rattle.asked_service.specs.host_io.Agreeing.{ForFiles}
use Rattle.asked_service.specs.host_io.Files.{Files}
use Rattle.asked_service.specs.call_table.Table.{Table}
use Rattle.asked_service.specs.unit_inputs.command_answers.ExitStatuses.{is_answer, is_whole}
use Rattle.asked_service.specs.unit_inputs.command_answers.Laws.{GoTogether, IsAdmitted}
use Rattle.asked_service.specs.unit_inputs.command_answers.CommandErrors.{IsAnswer, Prepares}
use Rattle.asked_service.specs.unit_inputs.declared.command_answers.exit_status.ExitStatus.{ExitStatus}
use Rattle.asked_service.specs.unit_inputs.declared.command_answers.exit_status.ExitStatus.TheVariants.{Refused}
use Rattle.asked_service.specs.unit_inputs.declared.command_answers.error.CommandError.{CommandError}
use Rattle.asked_service.specs.unit_inputs.declared.command_answers.error.CommandError.TheVariants as stop
use Rattle.asked_service.specs.unit_inputs.command_answers.Said.{IsSaid}
use Rattle.asked_service.proofs.OfUnitInputs.FileCommands.{over_go_together}
use Rattle.asked_service.proofs.OfUnitInputs.Said.{said_as}
use Rattle.asked_service.specs.dropin_merge.declared.resolved.Resolved.{Resolved}
use Rattle.asked_service.specs.kernel_laws.declared.question_types.question.Question.{Question}
use Rattle.asked_service.specs.site_table.Table.{Site}
use Rattle.tighten_command.specs.tightening.Tried.{Tried, tried_with}
use Rattle.tighten_command.specs.tightening.Wishes.{Wishes}
use Rattle.asked_service.specs.unit_inputs.FileRefusals.{bytes_in}
use Rattle.asked_service.specs.unit_inputs.Inputs.{input_refusals, inputs_view}
use Rattle.asked_service.specs.unit_inputs.declared.inputs.UnitInputs.{UnitInputs}
use Rattle.asked_service.proofs.OfUnitInputs.Steps.{AreRead}
use Rattle.tighten_command.specs.KeepFiles.{IsKeepIn, IsKeepOf, no_file, of_file}
use Rattle.asked_service.specs.unit_inputs.command_answers.ReadyTexts.{status_of, text_of}
use Rattle.tighten_command.specs.Prints.{Admits, MayBe, an_input, refuses, tells, the_keep, tighten_by_files, tighten_laws}
use Rattle.tighten_command.specs.Telling.{IsTold, TellsTight, denies, no_launch, no_plan, no_settings, refuses_wish, tightened}
use Rattle.asked_service.specs.unit_inputs.declared.command_answers.ready_text.ReadyText.{ReadyText}

-- ---- the file of what is to be kept

pub no_bytes : {T V : Type 0} (see : T → List ℕ) (view : V → List Question) (agrees : Files → Type 0) (table : Table) (site : Site)
    (path : List ℕ) (why : CommandError) → ForFiles agrees (λ files. IsAnswer see (Err why) (bytes_in files path))
    → ForFiles agrees (λ files. IsSaid view (IsKeepIn files table site path) (Err why))
no_bytes see view agrees table site path (stop.Refused line) said files agree = no_file line.items (said files agree)
no_bytes see view agrees table site path stop.ReadFault said files agree = tt
no_bytes see view agrees table site path stop.Memory said files agree = tt

-- or they say what is to be kept, or not
pub some_bytes : {V : Type 0} (view : V → List Question) (agrees : Files → Type 0) (table : Table) (site : Site) (path bytes : List ℕ)
    (result : Result V CommandError) → ForFiles agrees (λ files. bytes_in files path ≡ Ok bytes)
    → IsSaid view (IsKeepOf table site path bytes) result → ForFiles agrees (λ files. IsSaid view (IsKeepIn files table site path) result)
some_bytes view agrees table site path bytes result are said files agree =
    said_as view (IsKeepOf table site path bytes) (IsKeepIn files table site path) (λ found is. of_file bytes found (are files agree) is) result said

-- ---- the laws
module _ (unit : List ℕ) (tried : Tried) where
  -- what is told of a unit is told whole, and ends in one of three ways
  tight_may : (status : ExitStatus) (text : List ℕ) → TellsTight unit tried status text → MayBe status
  tight_may _ _ (tightened tight is) = inr (inl refl)
  tight_may _ _ (no_settings error is) = inl refl
  tight_may _ _ (no_plan error is) = inl refl
  tight_may _ _ (no_launch refusal is) = inr (inr refl)
  tight_may _ _ (denies number is) = inl refl
  tight_may _ _ (refuses_wish number is) = inl refl

be_whole : (status : ExitStatus) → MayBe status → IsTrue (is_whole status)
be_whole status (inl refused) = subst (λ own. IsTrue (is_whole own)) (sym refused) refl
be_whole status (inr (inl done)) = subst (λ own. IsTrue (is_whole own)) (sym done) refl
be_whole status (inr (inr launch)) = subst (λ own. IsTrue (is_whole own)) (sym launch) refl

-- an ending that is no refusal is an answer
unrefused : (status : ExitStatus) → MayBe status → (status ≡ Refused → ⊥) → IsTrue (is_answer status)
unrefused status (inl refused) not = absurd (not refused)
unrefused status (inr (inl done)) not = subst (λ own. IsTrue (is_answer own)) (sym done) refl
unrefused status (inr (inr launch)) not = subst (λ own. IsTrue (is_answer own)) (sym launch) refl

module _ (unit path : List ℕ) (wishes : Wishes) where
  admitted_may : (files : Files) (status : ExitStatus) (text : List ℕ) → Admits files unit path wishes status text → MayBe status
  admitted_may files _ _ (refuses line is) = inl refl
  admitted_may files _ _ (tells inputs keep are is status text told) =
      tight_may unit (tried_with inputs.unit inputs.calls inputs.site keep wishes) status text told

  pub together : (agrees : Files → Type 0) → GoTogether (tighten_laws agrees unit path wishes)
  together agrees = over_go_together (tighten_by_files unit path wishes) agrees be_whole (λ files status text admitted. (text, admitted))
      (λ files accepts status may. unrefused status (admitted_may files status may.0 may.1)
      (λ refused. accepts may.0 (subst (λ own. Admits files unit path wishes own may.0) refused may.1)))

module _ (unit path : List ℕ) (wishes : Wishes) where
  -- an input is refused
  pub stops_at_inputs : (P : Files → UnitInputs → Type 0) (agrees : Files → Type 0) (why : CommandError)
      → ForFiles agrees (λ files. Prepares (P files) (input_refusals files unit) (Err why))
      → IsAdmitted (tighten_laws agrees unit path wishes) status_of text_of (Err why)
  stops_at_inputs P agrees (stop.Refused line) said = record {
    whatever_the_files = inl refl;
    by_the_files = λ files agree. refuses line.items (an_input line.items (said files agree));
  }
  stops_at_inputs P agrees stop.ReadFault said = tt
  stops_at_inputs P agrees stop.Memory said = tt

  -- what is to be kept is refused
  refused_keep : (files : Files) (inputs : UnitInputs) (line : List ℕ) → AreRead files unit inputs
      → IsKeepIn files (inputs_view inputs).calls (inputs_view inputs).site path (Err line) → Admits files unit path wishes Refused line
  refused_keep files inputs line read is = refuses line (the_keep line (inputs_view inputs) read.1 is)

  pub stops_at_keep : {V : Type 0} (view : V → List Question) (between agrees : Files → Type 0) (inputs : UnitInputs) (table : Table)
      (site : Site) (why : CommandError) → ForFiles agrees between → table ≡ (inputs_view inputs).calls → site ≡ (inputs_view inputs).site
      → ForFiles between (λ files. AreRead files unit inputs) → ForFiles agrees (λ files. IsSaid view (IsKeepIn files table site path) (Err why))
      → IsAdmitted (tighten_laws agrees unit path wishes) status_of text_of (Err why)
  stops_at_keep view between agrees inputs table site (stop.Refused line) stays calls_are site_is read said = record {
    whatever_the_files = inl refl;
    by_the_files = λ files agree.
        refused_keep files inputs line.items (read files (stays files agree))
        (subst (λ own. IsKeepIn files (inputs_view inputs).calls own path (Err line.items)) site_is
        (subst (λ own. IsKeepIn files own site path (Err line.items)) calls_are (said files agree)));
  }
  stops_at_keep view between agrees inputs table site stop.ReadFault stays calls_are site_is read said = tt
  stops_at_keep view between agrees inputs table site stop.Memory stays calls_are site_is read said = tt

  -- what is told of the unit is admitted
  module _ {V : Type 0} (view : V → List Question) (between agrees : Files → Type 0) (inputs : UnitInputs) (table : Table) (site : Site)
      (value : V) (stays : ForFiles agrees between) (calls_are : table ≡ (inputs_view inputs).calls) (site_is : site ≡ (inputs_view inputs).site)
      (read : ForFiles between (λ files. AreRead files unit inputs)) (said : ForFiles agrees (λ files. IsSaid view (IsKeepIn files table site path) (Ok value))) where
    keep_is : (files : Files) → agrees files → IsKeepIn files (inputs_view inputs).calls (inputs_view inputs).site path
        (Ok (view value))
    keep_is files e =
        subst (λ own. IsKeepIn files (inputs_view inputs).calls own path (Ok (view value))) site_is
        (subst (λ own. IsKeepIn files own site path (Ok (view value))) calls_are
        (said files e))

    abbrev own_tried : Tried
    own_tried = tried_with (inputs_view inputs).unit (inputs_view inputs).calls (inputs_view inputs).site (view value) wishes

    admits : (status : ExitStatus) (text : List ℕ) → TellsTight unit own_tried status text
        → (tighten_laws agrees unit path wishes).admits status text
    admits status text is = record {
      whatever_the_files = tight_may unit own_tried status text is;
      by_the_files = λ files e. tells (inputs_view inputs) (view value) (read files (stays files e)).1 (keep_is files e) status text is;
    }

    answered : (result : Result ReadyText CommandError) → IsTold (TellsTight unit own_tried) result
        → IsAdmitted (tighten_laws agrees unit path wishes) status_of text_of result
    answered (Ok hardening) is = admits hardening.status hardening.text.items is
    answered (Err (stop.Refused line)) is = admits Refused line.items is
    answered (Err stop.ReadFault) is = tt
    answered (Err stop.Memory) is = tt

    -- also where its parts are lent
    pub answered_as : (own : Resolved) (lent_table : Table) (lent_site : Site) (keep : List Question) (result : Result ReadyText CommandError)
        → own ≡ (inputs_view inputs).unit → lent_table ≡ (inputs_view inputs).calls → lent_site ≡ (inputs_view inputs).site
        → keep ≡ view value
        → IsTold (TellsTight unit (tried_with own lent_table lent_site keep wishes)) result
        → IsAdmitted (tighten_laws agrees unit path wishes) status_of text_of result
    answered_as own lent_table lent_site keep result one two three four is =
        answered result
        (subst (λ these. IsTold (TellsTight unit
        (tried_with (inputs_view inputs).unit (inputs_view inputs).calls (inputs_view inputs).site these wishes)) result) four
        (subst (λ these. IsTold (TellsTight unit (tried_with (inputs_view inputs).unit (inputs_view inputs).calls these keep wishes))
        result) three
        (subst (λ these. IsTold (TellsTight unit (tried_with (inputs_view inputs).unit these lent_site keep wishes)) result) two
        (subst (λ these. IsTold (TellsTight unit (tried_with these lent_table lent_site keep wishes)) result) one is))))

-- what is lent is of the list that is lent
pub lent_listed : (table own : Table) (site lent_site : Site) (keep lent : List Question) → table ≡ own → site ≡ lent_site → lent ≡ keep
    → All (λ question. Contains (questions table site) question) keep
    → All (λ question. Contains (questions own lent_site) question) lent
lent_listed table own site lent_site keep lent one two three listed =
    subst (λ (these : Site). All (λ question. Contains (questions own these) question) lent) two
    (subst (λ (these : Table). All (λ question. Contains (questions these site) question) lent) one
    (subst (λ (these : List Question). All (λ question. Contains (questions table site) question) these) (sym three) listed))
