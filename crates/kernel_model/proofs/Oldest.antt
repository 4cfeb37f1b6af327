-- The oldest programs of every process stay, whatever is called.
use Rattle.std.proofs.Common.{◌≡◌, ℕ, ◌-◌, List, [], ◌∷◌, ◌++◌, length, append_assoc, Some, ap, ◌∙◌}
use Rattle.bpf_code.specs.declared.machine.Insn.{Insn}
use Rattle.kernel_model.specs.declared.kernel_calls.call.Call.{Call}
use Rattle.kernel_model.specs.declared.process.Process.{Process}
use Rattle.kernel_model.specs.declared.reply.Reply.{Reply}
use Rattle.kernel_model.specs.Effects.{Effect, effect_of}
use Rattle.kernel_model.specs.World.{World, living_of, entered_by, moved_to, ended, host_of, caller_of}
use Rattle.kernel_model.specs.Step.{step}
use Rattle.kernel_model.specs.StepCases as case
use Rattle.kernel_model.specs.StepCases.{StepCase, EffectCase}
use Rattle.kernel_model.specs.Laws.{StandsOn, OfEach, ProgramsStay}
use Rattle.kernel_model.proofs.Lists.{each-set, each-append, each-get}
use Rattle.kernel_model.proofs.Places.{living_get}
use Rattle.kernel_model.proofs.Cases.{steps_by_cases}

-- one program more
stands_on-push : (programs : List (List Insn)) (process : Process) (program : List Insn) → StandsOn programs process
    → StandsOn programs (record process { stack = process.stack ++ program ∷ [] })
stands_on-push programs process program h =
    (h.0 ++ program ∷ [], ap (λ (s : List (List Insn)). s ++ program ∷ []) h.1 ∙ append_assoc programs h.0 (program ∷ []))

oldest_effect : (programs : List (List Insn)) (world : World) (pid : ℕ) (process : Process) (effect : Effect) (out : Reply × World)
    → OfEach (StandsOn programs) world → StandsOn programs process
    → EffectCase world pid process effect out → OfEach (StandsOn programs) out.1
oldest_effect programs world pid process effect out all h (case.refuses errno) = all
oldest_effect programs world pid process effect out all h (case.answers value) = all
oldest_effect programs world pid process effect out all h (case.takes_creds value creds) =
    each-set (StandsOn programs) world.processes (pid - 1) (record process { creds = creds }) all h
oldest_effect programs world pid process effect out all h (case.takes_table table) = all
oldest_effect programs world pid process effect out all h (case.takes_program program) =
    each-set (StandsOn programs) world.processes (pid - 1) (record process { stack = process.stack ++ program ∷ [] }) all
    (stands_on-push programs process program h)
oldest_effect programs world pid process effect out all h (case.no_process_left own full) = all
oldest_effect programs world pid process effect out all h (case.shares room) =
    each-append (StandsOn programs) world.processes (process ∷ []) all (h, tt)
oldest_effect programs world pid process effect out all h (case.no_namespace_for_child room full) = all
oldest_effect programs world pid process effect out all h (case.gives_copy room space) =
    each-append (StandsOn programs) world.processes (moved_to process (length world.namespaces) ∷ []) all (h, tt)
oldest_effect programs world pid process effect out all h (case.no_namespace_left full) = all
oldest_effect programs world pid process effect out all h (case.moves space) =
    each-set (StandsOn programs) world.processes (pid - 1) (moved_to process (length world.namespaces)) all h
oldest_effect programs world pid process effect out all h (case.no_user_for_child own full) = all
oldest_effect programs world pid process effect out all h (case.no_process_for_user own left full) = all
oldest_effect programs world pid process effect out all h (case.gives_user left room) =
    each-append (StandsOn programs) world.processes (entered_by process world.users ∷ []) all (h, tt)
oldest_effect programs world pid process effect out all h (case.no_namespace_for_user left room full) = all
oldest_effect programs world pid process effect out all h (case.gives_user_and_copy left room space) =
    each-append (StandsOn programs) world.processes (moved_to (entered_by process world.users) (length world.namespaces) ∷ []) all (h, tt)
oldest_effect programs world pid process effect out all h (case.no_user_left own full) = all
oldest_effect programs world pid process effect out all h (case.enters left) =
    each-set (StandsOn programs) world.processes (pid - 1) (entered_by process world.users) all h
oldest_effect programs world pid process effect out all h (case.no_namespace_behind_user left full) = all
oldest_effect programs world pid process effect out all h (case.enters_and_moves left space) =
    each-set (StandsOn programs) world.processes (pid - 1) (moved_to (entered_by process world.users) (length world.namespaces)) all h
oldest_effect programs world pid process effect out all h case.ends =
    each-set (StandsOn programs) world.processes (pid - 1) (ended process) all h

-- who lives stands on them
living_stands : (programs : List (List Insn)) (world : World) (pid : ℕ) (process : Process) → OfEach (StandsOn programs) world
    → living_of world pid ≡ Some process → StandsOn programs process
living_stands programs world pid process all living = each-get (StandsOn programs) world.processes (pid - 1) process all
    (living_get world pid process living)

oldest_case : (programs : List (List Insn)) (world : World) (call : Call) (out : Reply × World) → OfEach (StandsOn programs) world
    → StepCase world call out → OfEach (StandsOn programs) out.1
oldest_case programs world call out all (case.absent e) = all
oldest_case programs world call out all (case.filtered process errno living e) = all
oldest_case programs world call out all (case.killed process living e) =
    each-set (StandsOn programs) world.processes (call.pid - 1) (ended process) all
    (living_stands programs world call.pid process all living)
oldest_case programs world call out all (case.lacking process passes e) = all
oldest_case programs world call out all (case.misformed process passes e) = all
oldest_case programs world call out all (case.does process operation made passes e h) =
    oldest_effect programs world call.pid process (effect_of (host_of world) (caller_of world process) operation) made all
    (living_stands programs world call.pid process all passes.living) h

pub programs_stay : ProgramsStay
programs_stay programs world all [] = all
programs_stay programs world all (call ∷ calls) =
    programs_stay programs (step world call).1 (oldest_case programs world call (step world call) all (steps_by_cases world call)) calls
