-- What is read for a score, and the first refusal.
use Rattle.std.proofs.Common.{◌≡◌, ◌∙◌, ℕ, Option, Some, None, List, [], ◌∷◌, Ok, Err, refl, sym, ap, subst, length, ◌≤◌}
use Rattle.std.specs.Option.{option_map}
use Rattle.unit_inputs.specs.host_io.Agreeing.{ForFiles}
use Rattle.unit_inputs.specs.host_io.Files.{Files}
use Rattle.unit_inputs.specs.command_answers.CommandErrors.{IsAnswer, Prepares, first_refusal}
use Rattle.unit_inputs.specs.declared.command_answers.error.CommandError.{CommandError}
use Rattle.unit_inputs.specs.declared.command_answers.error.CommandError.TheVariants as stop
use Rattle.unit_inputs.proofs.Refusing.{passes, stops, stops_as}
use Rattle.unit_inputs.specs.exec_settings.Refusals.{refusal_of}
use Rattle.unit_inputs.specs.exec_settings.declared.errors.SettingsError.{SettingsError}
use Rattle.report_text.specs.mount_settings.Written.{unit_written}
use Rattle.report_text.specs.exposure_score.declared.policy_file.policy.PolicyTest.{PolicyTest}
use Rattle.report_text.proofs.OfExposureScore.ServiceFactsAccepted.{few_paths}
use Rattle.unit_inputs.specs.Inputs.{input_refusals, inputs_of, inputs_view}
use Rattle.unit_inputs.specs.declared.inputs.UnitInputs.{UnitInputs}
use Rattle.unit_inputs.specs.SettingsRefusals.{settings_line}
use Rattle.unit_inputs.specs.Settled.{AreSettled, refusals_by, refusals_of}
use Rattle.unit_inputs.specs.declared.settling.SettledUnit.{SettledUnit}
use Rattle.unit_inputs.proofs.Steps as steps
use Rattle.unit_inputs.proofs.Steps.{AreRead, refusals_with}
use Rattle.score_command.specs.Policies.{policy_in}
use Rattle.score_command.specs.Prepared.{CanBeWeighed, IsPrepared}
use Rattle.score_command.specs.Refusals.{read_refusals, refusals_behind}

-- an input is refused
pub stops_at_inputs : (P : UnitInputs → Type 0) (agrees : Files → Type 0) (unit path : List ℕ) (stop : CommandError)
    → ForFiles agrees (λ files. Prepares P (input_refusals files unit) (Err stop))
    → ForFiles agrees (λ files. Prepares (IsPrepared files unit path) (read_refusals files unit path) (Err stop))
stops_at_inputs P agrees unit path stop said =
    steps.stops_at_inputs (λ files. P) (λ files. IsPrepared files unit path) agrees unit
    (λ files. refusals_by (refusals_behind files unit path) (inputs_of files unit)) stop said

-- behind inputs that are read
module _ (files : Files) (unit path : List ℕ) (inputs : UnitInputs) (read : AreRead files unit inputs) where
  behind_inputs : first_refusal (read_refusals files unit path) ≡ first_refusal (refusals_behind files unit path (inputs_view inputs))
  behind_inputs = refusals_with files unit (input_refusals files unit) (refusals_behind files unit path) (inputs_view inputs) read.0 read.1

  behind_policy : (policy : List PolicyTest) → policy_in files path ≡ Ok policy
      → first_refusal (read_refusals files unit path) ≡ first_refusal (refusals_of unit (inputs_view inputs))
  behind_policy policy is = behind_inputs ∙ passes (policy_in files path) policy (refusals_of unit (inputs_view inputs)) is

-- the policy is refused
pub stops_at_policy : (between agrees : Files → Type 0) (unit path : List ℕ) (inputs : UnitInputs) (stop : CommandError) → ForFiles agrees between
    → ForFiles between (λ files. AreRead files unit inputs)
    → ForFiles agrees (λ files. IsAnswer {T = List PolicyTest} (λ policy. policy) (Err stop) (policy_in files path))
    → ForFiles agrees (λ files. Prepares (IsPrepared files unit path) (read_refusals files unit path) (Err stop))
stops_at_policy between agrees unit path inputs stop stays read said files agree =
    stops_as (IsPrepared files unit path) stop (refusals_behind files unit path (inputs_view inputs)) (read_refusals files unit path)
    (behind_inputs files unit path inputs (read files (stays files agree)))
    (stops (λ (policy : List PolicyTest). policy) (IsPrepared files unit path) (policy_in files path) stop
    (refusals_of unit (inputs_view inputs)) (said files agree))

-- the policy that was read
abbrev pub IsPolicyOf : (Files → Type 0) → List ℕ → List PolicyTest → Type 0
IsPolicyOf agrees path policy = ForFiles agrees (λ files. policy_in files path ≡ Ok policy)

-- what stops rests on no value
as_prepared : {T U : Type 0} (Q : U → Type 0) (refusals : List (Option (List ℕ))) (P : T → Type 0) (why : CommandError)
    → Prepares P refusals (Err why) → Prepares Q refusals (Err why)
as_prepared Q refusals P (stop.Refused line) said = said
as_prepared Q refusals P stop.ReadFault said = tt
as_prepared Q refusals P stop.Memory said = tt

-- a setting is refused
pub stops_at_settings : (P : SettledUnit → Type 0) (agrees : Files → Type 0) (unit path : List ℕ) (inputs : UnitInputs)
    (policy : List PolicyTest) (why : CommandError)
    → ForFiles agrees (λ files. AreRead files unit inputs) → IsPolicyOf agrees path policy
    → Prepares P (refusals_of unit (inputs_view inputs)) (Err why)
    → ForFiles agrees (λ files. Prepares (IsPrepared files unit path) (read_refusals files unit path) (Err why))
stops_at_settings P agrees unit path inputs policy why read is said files agree =
    stops_as (IsPrepared files unit path) why (refusals_of unit (inputs_view inputs)) (read_refusals files unit path)
    (behind_policy files unit path inputs (read files agree) policy (is files agree))
    (as_prepared (IsPrepared files unit path) (refusals_of unit (inputs_view inputs)) P why said)

-- nothing is refused
pub is_prepared : (agrees : Files → Type 0) (unit path : List ℕ) (inputs : UnitInputs) (policy : List PolicyTest) (one : SettledUnit)
    → one.inputs ≡ inputs
    → first_refusal (refusals_of unit (inputs_view inputs)) ≡ None
    → ForFiles agrees (λ files. AreRead files unit inputs) → IsPolicyOf agrees path policy
    → ForFiles agrees (λ files. Prepares (IsPrepared files unit path) (read_refusals files unit path)
    (Ok (record { unit = one; policy = policy })))
is_prepared agrees unit path inputs policy one same none read is files agree = (
  behind_policy files unit path inputs (read files agree) policy (is files agree) ∙ none,
  record { inputs = (read files agree).1 ∙ ap (λ own. Some (inputs_view own)) (sym same); policy = (is files agree) },
)

-- what is not refused is not there
not_refused : (unit : List ℕ) (refusal : Option SettingsError) → first_refusal (option_map (settings_line unit) refusal ∷ []) ≡ None
    → refusal ≡ None
not_refused unit None none = refl
not_refused unit (Some error) none = cc

-- what is prepared can be weighed
pub can_weigh : (unit : List ℕ) (inputs : UnitInputs) (policy : List PolicyTest) (one : SettledUnit) → one.inputs ≡ inputs
    → AreSettled (inputs_view inputs) one.settings.value
    → first_refusal (refusals_of unit (inputs_view inputs)) ≡ None → CanBeWeighed (record { unit = one; policy = policy })
can_weigh unit inputs policy one same settled none = record {
  settled = subst (λ own. AreSettled (inputs_view own) one.settings.value) (sym same) settled;
  few_paths = subst (λ (own : UnitInputs). length (unit_written (inputs_view own).unit) ≤ 128) (sym same)
      (few_paths (inputs_view inputs).unit (inputs_view inputs).calls (inputs_view inputs).site
      (not_refused unit (refusal_of (inputs_view inputs).unit (inputs_view inputs).calls (inputs_view inputs).site) none));
}
