-- What is ready, and the line of a refusal, are what the definitions admit.
use Rattle.std.proofs.Common.{◌≡◌, ◌∙◌, ℕ, Option, List, [], ◌∷◌, Vec, Global, Ok, Err, refl, sym, ap, subst}
use Rattle.std.specs.Prelude.{IsTrue}
use Rattle.unit_inputs.specs.host_io.Agreeing.{ForFiles}
use Rattle.unit_inputs.specs.host_io.Files.{Files}
use Rattle.report_text.specs.exposure_score.StoredTests.{StoredTests}
use Rattle.report_text.specs.exposure_score.policy_weights.Weights.{weight_of}
use Rattle.unit_inputs.specs.command_answers.ExitStatuses.{is_answer}
use Rattle.unit_inputs.specs.command_answers.Laws.{AcceptsFiles, GoTogether, IsAdmitted, laws_over}
use Rattle.unit_inputs.specs.command_answers.CommandErrors.{Prepares, first_refusal}
use Rattle.unit_inputs.specs.declared.command_answers.exit_status.ExitStatus.{ExitStatus}
use Rattle.unit_inputs.specs.declared.command_answers.exit_status.ExitStatus.TheVariants.{Done}
use Rattle.unit_inputs.specs.declared.command_answers.error.CommandError.{CommandError}
use Rattle.unit_inputs.specs.declared.command_answers.error.CommandError.TheVariants as stop
use Rattle.unit_inputs.proofs.FileCommands.{go_together, ready_is_admitted, stop_is_admitted}
use Rattle.unit_inputs.proofs.Refusing.{behind_none, stops_as, stops_before}
use Rattle.unit_inputs.specs.CallsRefusals.{calls_in}
use Rattle.score_command.specs.Policies.{policy_in}
use Rattle.score_command.specs.Weights.{weight_refusal}
use Rattle.score_command.specs.declared.fleet_command.fleet_report.rows.FleetRow.{FleetRow}
use Rattle.score_command.specs.fleet_command.Inputs.{AreInputs, inputs_view}
use Rattle.score_command.specs.fleet_command.Prints.{PrintsFleet, status_of, fleet_laws, text_of}
use Rattle.score_command.specs.fleet_command.Refusals.{fleet_refusals, read_refusals, weights_in}
use Rattle.score_command.specs.fleet_command.Reports.{AreFleet}
use Rattle.score_command.specs.declared.fleet_command.preparing.FleetInputs.{FleetInputs}

module _ (agrees : Files → Type 0) (path : List ℕ) (stored : StoredTests) where
  -- a report ends as done
  answered : (status : ExitStatus) → status ≡ Done → IsTrue (is_answer status)
  answered status done = subst (λ e. IsTrue (is_answer e)) (sym done) refl

  pub together : GoTogether (laws_over agrees (fleet_laws path stored))
  together = go_together (fleet_laws path stored) agrees answered

module _ (agrees : Files → Type 0) (path : List ℕ) (stored : StoredTests) where
  -- something is refused before the first unit is read
  pub stops_before_units : (why : CommandError)
      → ForFiles agrees (λ files. Prepares {T = FleetInputs} (λ inputs. AreInputs files path (inputs_view inputs)) (read_refusals files path)
      (Err why))
      → IsAdmitted (laws_over agrees (fleet_laws path stored)) status_of text_of (Err why)
  stops_before_units why said = stop_is_admitted (fleet_laws path stored) status_of text_of (λ (inputs : FleetInputs). Unit {0}) agrees why
      (refused agrees said)
    where
      refused : (agrees : Files → Type 0)
          → ForFiles agrees (λ files. Prepares {T = FleetInputs} (λ inputs. AreInputs files path (inputs_view inputs))
          (read_refusals files path) (Err why))
          → ForFiles agrees (λ files. Prepares (λ (inputs : FleetInputs). Unit {0}) (fleet_refusals files path stored) (Err why))
      refused agrees said files agree =
          stops_before (λ (inputs : FleetInputs). AreInputs files path (inputs_view inputs)) (λ (inputs : FleetInputs). Unit {0}) why
          (read_refusals files path)
          (weights_in path stored (calls_in files) (policy_in files path)) (said files agree)

  module _ (inputs : FleetInputs) (read : ForFiles agrees (λ files. Prepares {T = FleetInputs} (λ inputs. AreInputs files path (inputs_view inputs)) (read_refusals files path) (Ok inputs))) where
    -- what is refused behind the inputs is a policy that weighs nothing
    pub refused_as : (files : Files) → Prepares {T = FleetInputs} (λ inputs. AreInputs files path (inputs_view inputs))
        (read_refusals files path) (Ok inputs)
        → first_refusal (fleet_refusals files path stored) ≡ first_refusal
        (weight_refusal path (weight_of (inputs_view inputs).calls stored (inputs_view inputs).policy) ∷ [])
    refused_as files is =
        behind_none (read_refusals files path) (weights_in path stored (calls_in files) (policy_in files path)) is.0
        ∙ ap (λ calls. first_refusal (weights_in path stored calls (policy_in files path))) is.1.calls
        ∙ ap (λ policy. first_refusal (weights_in path stored (Ok (inputs_view inputs).calls) policy)) is.1.policy

    pub stops_at_weights : (why : CommandError)
        → ForFiles agrees (λ files. Prepares {T = Vec FleetRow Global} (λ rows. AreFleet files (inputs_view inputs) stored rows.items)
        (weight_refusal path (weight_of (inputs_view inputs).calls stored (inputs_view inputs).policy) ∷ []) (Err why))
        → IsAdmitted (laws_over agrees (fleet_laws path stored)) status_of text_of (Err why)
    stops_at_weights why said = stop_is_admitted (fleet_laws path stored) status_of text_of
        (λ (rows : Vec FleetRow Global). Unit {0}) agrees why (refused agrees read said)
      where
        as_any : (refusals : List (Option (List ℕ))) (P : Vec FleetRow Global → Type 0) (why : CommandError) → Prepares P refusals (Err why)
            → Prepares (λ (rows : Vec FleetRow Global). Unit {0}) refusals (Err why)
        as_any refusals P (stop.Refused line) said = said
        as_any refusals P stop.ReadFault said = tt
        as_any refusals P stop.Memory said = tt

        refused : (agrees : Files → Type 0)
            → ForFiles agrees (λ files. Prepares {T = FleetInputs} (λ inputs. AreInputs files path (inputs_view inputs))
            (read_refusals files path) (Ok inputs))
            → ForFiles agrees (λ files. Prepares {T = Vec FleetRow Global} (λ rows. AreFleet files (inputs_view inputs) stored rows.items)
            (weight_refusal path (weight_of (inputs_view inputs).calls stored (inputs_view inputs).policy) ∷ []) (Err why))
            → ForFiles agrees (λ files. Prepares (λ (rows : Vec FleetRow Global). Unit {0}) (fleet_refusals files path stored) (Err why))
        refused agrees is said files agree =
            stops_as (λ (rows : Vec FleetRow Global). Unit {0}) why
            (weight_refusal path (weight_of (inputs_view inputs).calls stored (inputs_view inputs).policy) ∷ [])
            (fleet_refusals files path stored) (refused_as files (is files agree))
            (as_any (weight_refusal path (weight_of (inputs_view inputs).calls stored (inputs_view inputs).policy) ∷ [])
            (λ rows. AreFleet files (inputs_view inputs) stored rows.items) why (said files agree))

    -- the rows are ready
    pub ready : (rows : Vec FleetRow Global)
        → ForFiles agrees (λ files. Prepares {T = Vec FleetRow Global} (λ rows. AreFleet files (inputs_view inputs) stored rows.items)
        (weight_refusal path (weight_of (inputs_view inputs).calls stored (inputs_view inputs).policy) ∷ []) (Ok rows))
        → IsAdmitted (laws_over agrees (fleet_laws path stored)) status_of text_of (Ok (record { rows = rows }))
    ready rows made = ready_is_admitted (fleet_laws path stored) status_of text_of agrees (record { rows = rows }) refl
        (prints_it agrees read made)
      where
        prints_it : (agrees : Files → Type 0)
            → ForFiles agrees (λ files. Prepares {T = FleetInputs} (λ inputs. AreInputs files path (inputs_view inputs))
            (read_refusals files path) (Ok inputs))
            → ForFiles agrees (λ files. Prepares {T = Vec FleetRow Global} (λ rows. AreFleet files (inputs_view inputs) stored rows.items)
            (weight_refusal path (weight_of (inputs_view inputs).calls stored (inputs_view inputs).policy) ∷ []) (Ok rows))
            → ForFiles agrees (λ files. AcceptsFiles (fleet_laws path stored) files × PrintsFleet files path stored
            (text_of (record { rows = rows })))
        prints_it agrees is made files agree = (
          refused_as files (is files agree) ∙ (made files agree).0,
          record {
            inputs = inputs_view inputs;
            are_inputs = (is files agree).1;
            rows = rows.items;
            are_rows = (made files agree).1;
            is_their_text = refl;
          },
        )
