-- Replies of a script, foretold for other programs by what the programs of one launch did.
use Rattle.std.specs.Prelude.{◌==◌, Bool, true, false, List, [], ◌∷◌, Option, Some, None, if◌then◌else◌}
use Rattle.std.specs.Option.{option_map}
use Rattle.asked_service.specs.bpf_code.declared.decision.Decision.{Decision}
use Rattle.asked_service.specs.bpf_code.declared.decision.Decision.TheVariants.{Pass, Errno, Kill}
use Rattle.asked_service.specs.bpf_code.declared.machine.CallData.{CallData}
use Rattle.asked_service.specs.bpf_code.declared.machine.Insn.{Insn}
use Rattle.asked_service.specs.bpf_code.Stack.{decision_on}
use Rattle.asked_service.specs.call_table.Table.{Abi, Table, abi_at}
use Rattle.asked_service.specs.kernel_model.declared.kernel_calls.call.Call.{Call}
use Rattle.asked_service.specs.kernel_model.declared.process.Process.{Process}
use Rattle.asked_service.specs.kernel_model.declared.reply.Reply.{Reply}
use Rattle.asked_service.specs.kernel_model.declared.reply.Reply.TheVariants.{Done, Refused, Killed}
use Rattle.asked_service.specs.kernel_model.Step.{step}
use Rattle.asked_service.specs.kernel_model.World.{World, living_of}
use Rattle.derive_command.specs.declared.trace_profile.fates.Fate.{Fate}
use Rattle.derive_command.specs.declared.trace_profile.fates.Fate.TheVariants.{Unasked, Passed, Stopped}

-- what programs see of a call of this ABI, struct seccomp_data of seccomp(2)
abbrev pub input_of : Call → Abi → CallData
input_of call abi = record { nr = call.nr; arch = abi.arch; ip = 0; args = call.args }

-- what they see of a call; nothing if the table lacks its ABI, since no program is asked then
abbrev pub input_in : Table → Call → Option CallData
input_in table call = option_map (input_of call) (abi_at table call.abi)

abbrev pub fate_on : Decision → Fate
fate_on Pass = Passed
fate_on (Errno errno) = Stopped
fate_on Kill = Stopped

abbrev pub fate_by : Option CallData → Option Process → Fate
fate_by None caller = Unasked
fate_by (Some input) None = Unasked
fate_by (Some input) (Some process) = fate_on (decision_on process.stack input)

-- what the programs of the caller do to a call
abbrev pub fate_of : World → Call → Fate
fate_of world call = fate_by (input_in world.calls call) (living_of world call.pid)

-- and to each call of a run
abbrev pub fates : World → List Call → List Fate
fates world [] = []
fates world (call ∷ calls) = fate_of world call ∷ fates (step world call).1 calls

-- the reply of a decision, where a call that passes has this reply
abbrev pub told : Decision → Option Reply → Option Reply
told Pass through = through
told (Errno errno) through = Some (Refused errno)
told Kill through = Some Killed

-- the reply by another decision; what a stopped call would have come to is not known
abbrev pub foretold : Fate → Decision → Reply → Option Reply
foretold Unasked decision said = Some said
foretold Passed decision said = told decision (Some said)
foretold Stopped decision said = told decision None

-- the reply by other programs
abbrev pub foretold_in : Option CallData → List (List Insn) → Fate → Reply → Option Reply
foretold_in None stack fate said = Some said
foretold_in (Some input) stack fate said = foretold fate (decision_on stack input) said

-- one reply is the other
abbrev pub is_same : Reply → Reply → Bool
is_same (Done one) (Done other) = one == other
is_same (Done one) (Refused other) = false
is_same (Done one) Killed = false
is_same (Refused one) (Done other) = false
is_same (Refused one) (Refused other) = one == other
is_same (Refused one) Killed = false
is_same Killed (Done other) = false
is_same Killed (Refused other) = false
is_same Killed Killed = true

-- the first reply that is another, or that is not known, decides
abbrev pub goes_on : Option Reply → Reply → Option Bool → Option Bool
goes_on None said rest = None
goes_on (Some own) said rest = if is_same own said then rest else Some false

-- whether other programs give these replies to a script, where that can be foretold
abbrev pub foretells : Table → List (List Insn) → List Call → List Fate → List Reply → Option Bool
foretells table stack [] fates said = Some true
foretells table stack (call ∷ script) [] said = None
foretells table stack (call ∷ script) (fate ∷ fates) [] = None
foretells table stack (call ∷ script) (fate ∷ fates) (reply ∷ said) =
    goes_on (foretold_in (input_in table call) stack fate reply) reply (foretells table stack script fates said)
