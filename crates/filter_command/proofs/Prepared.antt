-- What is ready, and the line of a refusal, are what the definitions admit.
use Rattle.std.proofs.Common.{◌≡◌, ℕ, Some, None, List, ◌∷◌, Result, Ok, Err, refl, sym, subst}
use Rattle.std.specs.Prelude.{IfOk, IsTrue}
use Rattle.unit_inputs.specs.host_io.Agreeing.{ForFiles}
use Rattle.unit_inputs.specs.host_io.Files.{Files}
use Rattle.launcher.specs.filter_settings.declared.filter_rules.installed.Filter.{Filter}
use Rattle.launcher.specs.exec_settings.Dynamic.{unit_filters}
use Rattle.unit_inputs.specs.command_answers.ExitStatuses.{is_answer}
use Rattle.unit_inputs.specs.command_answers.Laws.{AcceptsFiles, GoTogether, IsAdmitted, laws_over}
use Rattle.unit_inputs.specs.command_answers.CommandErrors.{RefusesNothing, first_refusal}
use Rattle.unit_inputs.specs.declared.command_answers.exit_status.ExitStatus.{ExitStatus}
use Rattle.unit_inputs.specs.declared.command_answers.error.CommandError.{CommandError}
use Rattle.unit_inputs.specs.declared.command_answers.error.CommandError.TheVariants as stop
use Rattle.unit_inputs.proofs.FileCommands.{go_together, ready_is_admitted}
use Rattle.unit_inputs.specs.Inputs.{inputs_of, inputs_view}
use Rattle.unit_inputs.specs.Settled.{AreSettled, unit_refusals}
use Rattle.unit_inputs.specs.declared.settling.SettledUnit.{SettledUnit}
use Rattle.filter_command.specs.declared.command.Filters.{Filters}
use Rattle.launcher.specs.Answers.{AreProgramsOf}
use Rattle.launcher.specs.declared.filters.FilterProgram.{FilterProgram}
use Rattle.filter_command.specs.Compiled.{AreFilters}
use Rattle.filter_command.specs.Lines.{text_of}
use Rattle.filter_command.specs.Prints.{PrintsFilters, status_of, filter_laws, filters_text}
use Rattle.filter_command.proofs.Wanted.{are_filters}

-- the answer is printed whole
pub done_is_answer : (unit : List ℕ) (status : ExitStatus) → (filter_laws unit).may_end status → IsTrue (is_answer status)
done_is_answer unit status done = subst (λ e. IsTrue (is_answer e)) (sym done) refl

pub together : (agrees : Files → Type 0) (unit : List ℕ) → GoTogether (laws_over agrees (filter_laws unit))
together agrees unit = go_together (filter_laws unit) agrees (done_is_answer unit)

prints_them : (agrees : Files → Type 0) (unit : List ℕ) (one : SettledUnit) (made : List FilterProgram)
    → ForFiles agrees (λ files. (first_refusal (unit_refusals files unit) ≡ None) × (inputs_of files unit ≡ Some (inputs_view one.inputs)))
    → AreFilters (unit_filters (inputs_view one.inputs).unit (inputs_view one.inputs).calls) (inputs_view one.inputs).calls made
    → ForFiles agrees (λ files. AcceptsFiles (filter_laws unit) files × PrintsFilters files unit (text_of made))
prints_them agrees unit one made settles are files agree =
    ((settles files agree).0, record { inputs = inputs_view one.inputs; inputs_are = (settles files agree).1; filters = made; are_filters = are; is_their_text = refl })

-- the programs of the settings' filters are ready
pub prepared : (agrees : Files → Type 0) (unit : List ℕ) (one : SettledUnit) (given : List Filter) (result : Result Filters CommandError)
    → given ≡ one.settings.value.filters.items → ForFiles agrees
    (λ files. (first_refusal (unit_refusals files unit) ≡ None) × (inputs_of files unit ≡ Some (inputs_view one.inputs)))
    → AreSettled (inputs_view one.inputs) one.settings.value → IfOk result (λ made. AreProgramsOf given made.programs)
    → RefusesNothing result → IsAdmitted (laws_over agrees (filter_laws unit)) status_of filters_text result
prepared agrees unit one given (Ok made) same settles are compiled refuses_nothing =
    ready_is_admitted (filter_laws unit) status_of filters_text agrees made refl
    (prints_them agrees unit one made.programs settles
    (are_filters (unit_filters (inputs_view one.inputs).unit (inputs_view one.inputs).calls)
    (inputs_view one.inputs).calls one.settings.value.filters.items made.programs are.filters_as_wanted
    (subst (λ filters. AreProgramsOf filters made.programs) same compiled)))
prepared agrees unit one given (Err (stop.Refused line)) same settles are compiled refuses_nothing = absurd refuses_nothing
prepared agrees unit one given (Err stop.ReadFault) same settles are compiled refuses_nothing = tt
prepared agrees unit one given (Err stop.Memory) same settles are compiled refuses_nothing = tt
