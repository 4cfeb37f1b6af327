-- What is ready, and the line of a refusal, are what the definitions admit.
use Rattle.std.proofs.Common.{◌≡◌, ◌∙◌, ℕ, List, [], ◌∷◌, ◌++◌, Result, Ok, Err, refl, sym, ap, subst, inl, inr}
use Rattle.std.specs.Prelude.{◌⊎◌, IfOk, IsErrOf, IsTrue, option_map}
use Rattle.asked_service.specs.host_io.Agreeing.{ForFiles}
use Rattle.asked_service.specs.host_io.Files.{Files}
use Rattle.asked_service.specs.call_table.Table.{Table}
use Rattle.asked_service.specs.site_table.Table.{Site}
use Rattle.asked_service.specs.unit_inputs.command_answers.ExitStatuses.{is_answer}
use Rattle.asked_service.specs.unit_inputs.command_answers.Laws.{AcceptsFiles, GoTogether, IsAdmitted, laws_over}
use Rattle.asked_service.specs.unit_inputs.command_answers.CommandErrors.{IsAnswer, Prepares, first_refusal}
use Rattle.asked_service.specs.unit_inputs.declared.command_answers.exit_status.ExitStatus.{ExitStatus}
use Rattle.asked_service.specs.unit_inputs.declared.command_answers.exit_status.ExitStatus.TheVariants.{Done, LaunchRefused}
use Rattle.asked_service.specs.unit_inputs.declared.command_answers.error.CommandError.{CommandError}
use Rattle.asked_service.specs.unit_inputs.declared.command_answers.error.CommandError.TheVariants as stop
use Rattle.asked_service.proofs.OfUnitInputs.FileCommands.{go_together, ready_is_admitted, stop_is_admitted}
use Rattle.asked_service.proofs.OfUnitInputs.Refusing.{stops_as}
use Rattle.asked_service.specs.dropin_merge.declared.resolved.Resolved.{Resolved}
use Rattle.asked_service.specs.dropin_merge.declared.resolved.UnitFile.{UnitFile}
use Rattle.std.specs.declared.alloc.AllocError.{AllocError}
use Rattle.asked_service.specs.unit_names.Names.{Name}
use Rattle.asked_service.specs.unit_grammar.declared.unit.UnitText.{UnitText}
use Rattle.asked_service.specs.unit_inputs.Inputs.{Inputs, input_refusals, inputs_of, inputs_view}
use Rattle.asked_service.specs.unit_inputs.declared.inputs.UnitInputs.{UnitInputs}
use Rattle.asked_service.specs.launcher.declared.error.LaunchError.{LaunchError}
use Rattle.asked_service.specs.launcher.declared.launched.Launched.{Launched as Service}
use Rattle.asked_service.specs.unit_inputs.Settled.{refusals_by}
use Rattle.asked_service.proofs.OfUnitInputs.Steps as steps
use Rattle.asked_service.proofs.OfUnitInputs.Steps.{AreRead, refusals_with}
use Rattle.effect_command.specs.Lines.{with_line}
use Rattle.asked_service.specs.launching.Starting.{StartsAs, first_start, given, start_refusals}
use Rattle.effect_command.specs.Longer.{dropin_in, longer_unit, with_dropin}
use Rattle.asked_service.specs.unit_inputs.command_answers.ReadyTexts.{IsReadyWith, status_of, text_of}
use Rattle.effect_command.specs.Prints.{PrintsEffect, TellsBoth, TellsWith, effect_laws}
use Rattle.effect_command.specs.Refusals.{effect_refusals, refusals_behind, refusals_behind_dropin, refusals_by_dropin}
use Rattle.effect_command.specs.Stopping.{StartsOver}
use Rattle.asked_service.specs.unit_inputs.declared.command_answers.ready_text.ReadyText.{ReadyText}

-- ---- behind the drop-in
module _ (unit : List ℕ) (inputs : Inputs) (more : UnitText) where
  abbrev Answers : Result ReadyText CommandError → Type 0
  Answers result = Prepares (λ made. TellsWith inputs more (status_of made) (text_of made)) (refusals_behind_dropin unit inputs more) result

  -- the unit is refused
  pub answers_refused : (stop : CommandError) → Prepares {T = Result Service LaunchError} (StartsAs inputs) (start_refusals unit inputs) (Err stop)
      → Answers (Err stop)
  answers_refused (stop.Refused line) is =
      ap (λ found. first_refusal (found ∷ (option_map with_line (first_start unit (with_dropin inputs more)) ∷ []))) is
  answers_refused stop.ReadFault is = tt
  answers_refused stop.Memory is = tt

  module _ (first : Result Service LaunchError) (starts : Prepares (StartsAs inputs) (start_refusals unit inputs) (Ok first)) where
    behind_unit : first_refusal (refusals_behind_dropin unit inputs more)
        ≡ first_refusal (option_map with_line (first_start unit (with_dropin inputs more)) ∷ [])
    behind_unit = ap (λ found. first_refusal (found ∷ (option_map with_line (first_start unit (with_dropin inputs more)) ∷ []))) starts.0

    -- the unit with the drop-in is
    pub answers_refused_with : (why : CommandError) → Prepares {T = Result Service LaunchError} (StartsAs (with_dropin inputs more))
        (option_map with_line (first_start unit (with_dropin inputs more)) ∷ []) (Err why) → Answers (Err why)
    answers_refused_with why is = stops_as (λ made. TellsWith inputs more (status_of made) (text_of made)) why
        (option_map with_line (first_start unit (with_dropin inputs more)) ∷ []) (refusals_behind_dropin unit inputs more) behind_unit
        (as_any why is)
      where
        as_any : (why : CommandError) → Prepares {T = Result Service LaunchError} (StartsAs (with_dropin inputs more))
            (option_map with_line (first_start unit (with_dropin inputs more)) ∷ []) (Err why)
            → Prepares (λ (made : ReadyText). TellsWith inputs more (status_of made) (text_of made))
            (option_map with_line (first_start unit (with_dropin inputs more)) ∷ []) (Err why)
        as_any (stop.Refused line) is = is
        as_any stop.ReadFault is = tt
        as_any stop.Memory is = tt

    -- both start, and are compared
    pub answers_both : (second : Result Service LaunchError) → Prepares (StartsAs (with_dropin inputs more))
        (option_map with_line (first_start unit (with_dropin inputs more)) ∷ []) (Ok second)
        → (result : Result ReadyText CommandError) → IsReadyWith (TellsBoth inputs.calls inputs.site first second) result → Answers result
    answers_both second starts_with (Ok effect) ready = (behind_unit ∙ starts_with.0, record { first = first; starts = starts.1; second = second; starts_with = starts_with.1; tells = ready })
    answers_both second starts_with (Err (stop.Refused line)) ready = absurd ready
    answers_both second starts_with (Err stop.ReadFault) ready = absurd ready
    answers_both second starts_with (Err stop.Memory) ready = tt

-- what starts for a unit starts over its tables
pub starts_over : (inputs : Inputs) (launch : Result Service LaunchError) → StartsAs inputs launch → StartsOver inputs.calls inputs.site launch
starts_over inputs (Ok service) is = (inputs.unit, is)
starts_over inputs (Err error) is = tt

pub with_longer : (name : List ℕ) (calls : Table) (site : Site) (unit : Resolved) (more : UnitText) (own : Resolved)
    → own ≡ longer_unit unit more → (result : Result (Result Service LaunchError) CommandError)
    → Prepares (StartsAs (given own calls site)) (option_map with_line (first_start name (given own calls site)) ∷ []) result
    → Prepares (StartsAs (with_dropin (given unit calls site) more))
    (option_map with_line (first_start name (with_dropin (given unit calls site) more)) ∷ []) result
with_longer name calls site unit more own is result said = subst
    (λ (these : Resolved). Prepares (StartsAs (given these calls site))
    (option_map with_line (first_start name (given these calls site)) ∷ []) result) is said

-- each ends as it may
ends_so : (table : Table) (site : Site) (first second : Result Service LaunchError) (status : ExitStatus) (text : List ℕ)
    → TellsBoth table site first second status text → (status ≡ Done) ⊎ (status ≡ LaunchRefused)
ends_so table site (Err error) second status text tells = inr tells.0
ends_so table site (Ok before) (Err error) status text tells = inr tells.0
ends_so table site (Ok before) (Ok after) status text tells = inl tells.0

-- ---- the whole
module _ (agrees : Files → Type 0) (unit path : List ℕ) where
  -- each ending behind an effect is an answer
  answered : (status : ExitStatus) → (effect_laws unit path).may_end status → IsTrue (is_answer status)
  answered status (inl done) = subst (λ e. IsTrue (is_answer e)) (sym done) refl
  answered status (inr launch) = subst (λ e. IsTrue (is_answer e)) (sym launch) refl

  pub together : GoTogether (laws_over agrees (effect_laws unit path))
  together = go_together (effect_laws unit path) agrees answered

-- an input is refused
pub stops_at_inputs : (P : Files → UnitInputs → Type 0) (agrees : Files → Type 0) (unit path : List ℕ) (stop : CommandError)
    → ForFiles agrees (λ files. Prepares (P files) (input_refusals files unit) (Err stop))
    → IsAdmitted (laws_over agrees (effect_laws unit path)) status_of text_of (Err stop)
stops_at_inputs P agrees unit path stop said =
    stop_is_admitted (effect_laws unit path) status_of text_of (λ (made : ReadyText). Unit {0}) agrees stop
    (steps.stops_at_inputs P (λ files (made : ReadyText). Unit {0}) agrees unit
    (λ files. refusals_by (refusals_behind files unit path) (inputs_of files unit)) stop said)

-- behind inputs that are read
behind_inputs : (files : Files) (unit path : List ℕ) (inputs : UnitInputs) → AreRead files unit inputs
    → first_refusal (effect_refusals files unit path) ≡ first_refusal (refusals_by_dropin unit (inputs_view inputs) (dropin_in files path))
behind_inputs files unit path inputs read = refusals_with files unit (input_refusals files unit) (refusals_behind files unit path)
    (inputs_view inputs) read.0 read.1

-- the drop-in is refused
refused_dropin : (unit : List ℕ) (inputs : Inputs) (found : Result UnitText (List ℕ)) (stop : CommandError)
    → IsAnswer {T = UnitText} (λ more. more) (Err stop) found
    → Prepares (λ (made : ReadyText). Unit {0}) (refusals_by_dropin unit inputs found) (Err stop)
refused_dropin unit inputs found (stop.Refused line) is = ap (λ one. first_refusal (refusals_by_dropin unit inputs one)) is
refused_dropin unit inputs found stop.ReadFault is = tt
refused_dropin unit inputs found stop.Memory is = tt

pub stops_at_dropin : (between agrees : Files → Type 0) (unit path : List ℕ) (inputs : UnitInputs) (stop : CommandError) → ForFiles agrees between
    → ForFiles between (λ files. AreRead files unit inputs)
    → ForFiles agrees (λ files. IsAnswer {T = UnitText} (λ more. more) (Err stop) (dropin_in files path))
    → IsAdmitted (laws_over agrees (effect_laws unit path)) status_of text_of (Err stop)
stops_at_dropin between agrees unit path inputs stop stays read said =
    stop_is_admitted (effect_laws unit path) status_of text_of (λ (made : ReadyText). Unit {0}) agrees stop at_dropin
  where
    at_dropin : ForFiles agrees (λ files. Prepares (λ (made : ReadyText). Unit {0}) (effect_refusals files unit path) (Err stop))
    at_dropin files agree =
        stops_as (λ (made : ReadyText). Unit {0}) stop (refusals_by_dropin unit (inputs_view inputs) (dropin_in files path))
        (effect_refusals files unit path) (behind_inputs files unit path inputs (read files (stays files agree)))
        (refused_dropin unit (inputs_view inputs) (dropin_in files path) stop
        (said files agree))

-- behind a drop-in that was read
module _ (between agrees : Files → Type 0) (unit path : List ℕ) (inputs : UnitInputs) (more : UnitText) (stays : ForFiles agrees between)
    (are : ForFiles between (λ files. AreRead files unit inputs)) (said : ForFiles agrees (λ files. IsAnswer (λ (more : UnitText). more) (Ok more) (dropin_in files path))) where
  dropin_is : (files : Files) → agrees files → dropin_in files path ≡ Ok more
  dropin_is files e = said files e

  read_is : (files : Files) → agrees files → AreRead files unit inputs
  read_is files e = are files (stays files e)

  behind_dropin : (files : Files) → agrees files → first_refusal (effect_refusals files unit path)
      ≡ first_refusal (refusals_behind_dropin unit (inputs_view inputs) more)
  behind_dropin files e =
      behind_inputs files unit path inputs (read_is files e)
      ∙ ap (λ one. first_refusal (refusals_by_dropin unit (inputs_view inputs) one)) (dropin_is files e)

  -- what is answered is admitted
  admitted : (result : Result ReadyText CommandError) → Prepares (λ made. TellsWith (inputs_view inputs) more (status_of made) (text_of made))
      (refusals_behind_dropin unit (inputs_view inputs) more) result
      → IsAdmitted (laws_over agrees (effect_laws unit path)) status_of text_of result
  admitted (Err stop) answers = stop_is_admitted (effect_laws unit path) status_of text_of
      (λ made. TellsWith (inputs_view inputs) more (status_of made) (text_of made)) agrees stop at_stop
    where
      at_stop : ForFiles agrees
          (λ files. Prepares (λ made. TellsWith (inputs_view inputs) more (status_of made) (text_of made))
          (effect_refusals files unit path) (Err stop))
      at_stop files e = stops_as (λ made. TellsWith (inputs_view inputs) more (status_of made) (text_of made)) stop
          (refusals_behind_dropin unit (inputs_view inputs) more) (effect_refusals files unit path) (behind_dropin files e) answers
  admitted (Ok made) answers = ready_is_admitted (effect_laws unit path) status_of text_of agrees made
      (ends_so (inputs_view inputs).calls (inputs_view inputs).site answers.1.first answers.1.second (status_of made)
      (text_of made) answers.1.tells) printed
    where
      printed : ForFiles agrees
          (λ files. AcceptsFiles (effect_laws unit path) files × PrintsEffect files unit path (status_of made) (text_of made))
      printed files e = (
        behind_dropin files e ∙ answers.0,
        record {
          inputs = inputs_view inputs;
          inputs_are = (read_is files e).1;
          more = more;
          dropin_is = dropin_is files e;
          tells = answers.1;
        },
      )

  -- also where the inputs are lent
  pub admitted_as : (own : Inputs) (result : Result ReadyText CommandError) → own ≡ inputs_view inputs
      → Prepares (λ made. TellsWith own more (status_of made) (text_of made)) (refusals_behind_dropin unit own more) result
      → IsAdmitted (laws_over agrees (effect_laws unit path)) status_of text_of result
  admitted_as own result is answers =
      admitted result (subst (λ these. Prepares (λ made. TellsWith these more (status_of made) (text_of made))
      (refusals_behind_dropin unit these more) result) is answers)
