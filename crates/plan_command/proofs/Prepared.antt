-- What is ready, and the line of a refusal, are what the definitions admit.
use Rattle.std.proofs.Common.{◌≡◌, ◌∙◌, ℕ, Some, None, List, Ok, Err, refl, sym, ap, subst}
use Rattle.std.specs.Prelude.{IsTrue}
use Rattle.unit_inputs.specs.host_io.Agreeing.{ForFiles}
use Rattle.unit_inputs.specs.host_io.Files.{Files}
use Rattle.mount_plan.specs.kern_mounts.declared.step.MountStep.{MountStep}
use Rattle.mount_plan.specs.Host.{host_of}
use Rattle.unit_inputs.specs.exec_settings.Mounts.{unit_mentions}
use Rattle.mount_plan.specs.path_settings.declared.mentioned.Mentioned.{Mentioned}
use Rattle.unit_inputs.specs.command_answers.ExitStatuses.{is_answer}
use Rattle.unit_inputs.specs.command_answers.Laws.{AcceptsFiles, GoTogether, IsAdmitted, laws_over}
use Rattle.unit_inputs.specs.command_answers.CommandErrors.{Prepares, first_refusal}
use Rattle.unit_inputs.specs.declared.command_answers.exit_status.ExitStatus.{ExitStatus}
use Rattle.unit_inputs.specs.declared.command_answers.error.CommandError.{CommandError}
use Rattle.unit_inputs.proofs.FileCommands.{go_together, ready_is_admitted, stop_is_admitted}
use Rattle.unit_inputs.proofs.Refusing.{stops_as, stops_before}
use Rattle.unit_inputs.specs.site_table.Table.{Site}
use Rattle.unit_inputs.specs.Inputs.{inputs_of, inputs_view}
use Rattle.unit_inputs.specs.Settled.{refusals_by, unit_refusals}
use Rattle.unit_inputs.specs.declared.settling.SettledUnit.{SettledUnit}
use Rattle.unit_inputs.proofs.Steps.{refusals_with}
use Rattle.plan_command.specs.declared.command.Mounts.{Mounts}
use Rattle.plan_command.specs.Lines.{text_of}
use Rattle.plan_command.specs.Planned.{IsPlan, path_refusals}
use Rattle.plan_command.specs.Prints.{PrintsPlan, status_of, mounts_text, plan_laws, plan_refusals, refused_paths}

-- the answer is printed whole
pub done_is_answer : (unit : List ℕ) (status : ExitStatus) → (plan_laws unit).may_end status → IsTrue (is_answer status)
done_is_answer unit status done = subst (λ e. IsTrue (is_answer e)) (sym done) refl

pub together : (agrees : Files → Type 0) (unit : List ℕ) → GoTogether (laws_over agrees (plan_laws unit))
together agrees unit = go_together (plan_laws unit) agrees (done_is_answer unit)

-- an input or a setting is refused
pub refused_before : (P : SettledUnit → Type 0) (agrees : Files → Type 0) (unit : List ℕ) (stop : CommandError)
    → ForFiles agrees (λ files. Prepares P (unit_refusals files unit) (Err stop))
    → ForFiles agrees (λ files. Prepares P (plan_refusals files unit) (Err stop))
refused_before P agrees unit stop said files agree = stops_before P P stop (unit_refusals files unit)
    (refusals_by (refused_paths unit) (inputs_of files unit)) (said files agree)

pub stops_before_paths : (P : SettledUnit → Type 0) (agrees : Files → Type 0) (unit : List ℕ) (stop : CommandError)
    → ForFiles agrees (λ files. Prepares P (unit_refusals files unit) (Err stop))
    → IsAdmitted (laws_over agrees (plan_laws unit)) status_of mounts_text (Err stop)
stops_before_paths P agrees unit stop said = stop_is_admitted (plan_laws unit) status_of mounts_text P agrees stop
    (refused_before P agrees unit stop said)

module _ (agrees : Files → Type 0) (unit : List ℕ) (one : SettledUnit) (mentions : Mentioned) (site : Site) where
  -- with the inputs the paths of the settings are those that the unit mentions
  pub refused_as : (files : Files) → mentions ≡ unit_mentions (inputs_view one.inputs).unit (inputs_view one.inputs).site
      → site ≡ (inputs_view one.inputs).site → (first_refusal (unit_refusals files unit) ≡ None) ×
      (inputs_of files unit ≡ Some (inputs_view one.inputs))
      → first_refusal (plan_refusals files unit) ≡ first_refusal (path_refusals unit (host_of site) mentions)
  refused_as files same lies settles =
      refusals_with files unit (unit_refusals files unit) (refused_paths unit) (inputs_view one.inputs) settles.0 settles.1
      ∙ ap (λ these. first_refusal (path_refusals unit (host_of (inputs_view one.inputs).site) these)) (sym same)
      ∙ ap (λ place. first_refusal (path_refusals unit (host_of place) mentions)) (sym lies)

  pub at_paths : (P : List MountStep → Type 0) (agrees : Files → Type 0) (stop : CommandError)
      → mentions ≡ unit_mentions (inputs_view one.inputs).unit (inputs_view one.inputs).site → site ≡ (inputs_view one.inputs).site
      → ForFiles agrees (λ files. (first_refusal (unit_refusals files unit) ≡ None) × (inputs_of files unit ≡ Some (inputs_view one.inputs)))
      → Prepares P (path_refusals unit (host_of site) mentions) (Err stop)
      → ForFiles agrees (λ files. Prepares P (plan_refusals files unit) (Err stop))
  at_paths P agrees stop same lies settles said files agree = stops_as P stop (path_refusals unit (host_of site) mentions)
      (plan_refusals files unit) (refused_as files same lies (settles files agree)) said

  -- a path is refused
  pub stops_at_paths : (stop : CommandError) → mentions ≡ unit_mentions (inputs_view one.inputs).unit (inputs_view one.inputs).site
      → site ≡ (inputs_view one.inputs).site
      → ForFiles agrees (λ files. (first_refusal (unit_refusals files unit) ≡ None) × (inputs_of files unit ≡ Some (inputs_view one.inputs)))
      → Prepares (IsPlan (host_of site) mentions) (path_refusals unit (host_of site) mentions) (Err stop)
      → IsAdmitted (laws_over agrees (plan_laws unit)) status_of mounts_text (Err stop)
  stops_at_paths stop same lies settles said =
      stop_is_admitted (plan_laws unit) status_of mounts_text (IsPlan (host_of site) mentions) agrees stop
      (at_paths (IsPlan (host_of site) mentions) agrees stop same lies settles said)

  prints_it : (table : List MountStep) (agrees : Files → Type 0)
      → mentions ≡ unit_mentions (inputs_view one.inputs).unit (inputs_view one.inputs).site → site ≡ (inputs_view one.inputs).site
      → ForFiles agrees (λ files. (first_refusal (unit_refusals files unit) ≡ None) × (inputs_of files unit ≡ Some (inputs_view one.inputs)))
      → first_refusal (path_refusals unit (host_of site) mentions) ≡ None → IsPlan (host_of site) mentions table
      → ForFiles agrees (λ files. AcceptsFiles (plan_laws unit) files × PrintsPlan files unit (text_of table))
  prints_it table agrees same lies settles none is files agree = (
    refused_as files same lies (settles files agree) ∙ none,
    record {
      inputs = inputs_view one.inputs;
      inputs_are = (settles files agree).1;
      table = table;
      is_plan = subst (λ these. IsPlan (host_of (inputs_view one.inputs).site) these table) same
          (subst (λ place. IsPlan (host_of place) mentions table) lies is);
      is_its_text = refl;
    },
  )

  -- the plan is ready
  pub ready : (mounts : Mounts) → mentions ≡ unit_mentions (inputs_view one.inputs).unit (inputs_view one.inputs).site
      → site ≡ (inputs_view one.inputs).site
      → ForFiles agrees (λ files. (first_refusal (unit_refusals files unit) ≡ None) × (inputs_of files unit ≡ Some (inputs_view one.inputs)))
      → (first_refusal (path_refusals unit (host_of site) mentions) ≡ None) × IsPlan (host_of site) mentions mounts.table
      → IsAdmitted (laws_over agrees (plan_laws unit)) status_of mounts_text (Ok mounts)
  ready mounts same lies settles planned = ready_is_admitted (plan_laws unit) status_of mounts_text agrees mounts refl
      (prints_it mounts.table agrees same lies settles planned.0 planned.1)
