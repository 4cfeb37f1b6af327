-- What a reply Done tells of the step.
use Rattle.std.proofs.Common.{◌≡◌, Option, Some, None, refl, ap, ◌∙◌}
use Rattle.std.specs.Option.{option_map_or}
use Rattle.filter_settings.specs.call_table.Table.{Abi, abi_at}
use Rattle.filter_settings.specs.bpf_code.declared.decision.Decision.{Decision}
use Rattle.filter_settings.specs.bpf_code.declared.decision.Decision.TheVariants as decision
use Rattle.filter_settings.specs.bpf_code.Stack.{decision_on}
use Rattle.kernel_model.specs.declared.kernel_calls.call.Call.{Call}
use Rattle.kernel_model.specs.kernel_calls.Operation.{Operation, Asked, Lacking, Misformed, Does, asked_of}
use Rattle.kernel_model.specs.declared.process.Process.{Process}
use Rattle.kernel_model.specs.Effects.{effect_of}
use Rattle.kernel_model.specs.World.{World, living_of, host_of, caller_of}
use Rattle.kernel_model.specs.Step.{applied, answered, decided, data_of, decision_by, decision_of, step_by, step}
use Rattle.kernel_model.specs.Runs.{IsDone}
use Rattle.kernel_laws.proofs.Numbered.{Lives, lives}

pub record WasDone (world : World) (call : Call) : Type 0 where
  pub process : Process
  pub living : Lives world call.pid process
  pub let_through : decision_of world call process ≡ decision.Pass
  pub passed : decision_on process.stack (data_of world call) ≡ decision.Pass
  pub operation : Operation
  pub asks : asked_of world.calls call ≡ Does operation
  pub done : IsDone (applied world call.pid process (effect_of (host_of world) (caller_of world process) operation)).0

-- what the stack decides of a call that passes, by an ABI that the table has
pub passed_on : (world : World) (call : Call) (process : Process) → decision_of world call process ≡ decision.Pass
    → decision_on process.stack (data_of world call) ≡ decision.Pass
passed_on world call process p = by (abi_at world.calls call.abi) refl p
  where
    by : (o : Option Abi) → abi_at world.calls call.abi ≡ o → decision_by call process o ≡ decision.Pass
        → decision_on process.stack
        (record { nr = call.nr; arch = option_map_or (λ abi. abi.arch) (abi_at world.calls call.abi) 0; ip = 0; args = call.args })
        ≡ decision.Pass
    by None e p = cc
    by (Some abi) e p = ap (λ (o : Option Abi). decision_on process.stack
        (record { nr = call.nr; arch = option_map_or (λ abi. abi.arch) o 0; ip = 0; args = call.args })) e ∙ p

pub was_done : (world : World) (call : Call) → IsDone (step world call).0 → WasDone world call
was_done world call e = by (living_of world call.pid) refl e
  where
    by_asked : (process : Process) → Lives world call.pid process → decision_of world call process ≡ decision.Pass → (a : Asked)
        → asked_of world.calls call ≡ a → IsDone (answered world call.pid process a).0 → WasDone world call
    by_asked process l p Lacking is e = absurd e
    by_asked process l p Misformed is e = absurd e
    by_asked process l p (Does operation) is e = record { process = process; living = l; let_through = p; passed = passed_on world call process p; operation = operation; asks = is; done = e }

    by_decision : (process : Process) → Lives world call.pid process → (c : Decision) → decision_of world call process ≡ c
        → IsDone (decided world call process c).0 → WasDone world call
    by_decision process l decision.Pass p e = by_asked process l p (asked_of world.calls call) refl e
    by_decision process l (decision.Errno errno) p e = absurd e
    by_decision process l decision.Kill p e = absurd e

    by : (o : Option Process) → living_of world call.pid ≡ o → IsDone (step_by world call o).0 → WasDone world call
    by None is e = absurd e
    by (Some process) is e = by_decision process (lives world call.pid process is) (decision_of world call process) refl e
