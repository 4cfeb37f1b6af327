-- The calls that the code's values represent.
use Rattle.kernel_model.specs.kernel_calls.Operation.{Operation, See, Open, Create, Truncate, Execve, SetMode, Map, Protect, Attach, Schedule}
use Rattle.kernel_model.specs.kernel_calls.Operation.{SetAttributes, Personality, Socket, Socketcall, Socketpair, Enter, Fork, Clone, Unshare, Exit, Mount, Umount}
use Rattle.kernel_model.specs.kernel_calls.Operation.{Setuid}
use Rattle.kernel_model.specs.kernel_calls.Operation.{Setgid, Setresuid, Setresgid, Setgroups, Capset, Prctl, Seccomp, SetUpRing, Submit, Plain, Asked, Lacking}
use Rattle.kernel_model.specs.kernel_calls.Operation.{Misformed, Does}
use Rattle.kernel_model.specs.declared.kernel_calls.operation.Operation.{Operation as Lent}
use Rattle.kernel_model.specs.declared.kernel_calls.operation.Operation.TheVariants as lent
use Rattle.kernel_model.specs.declared.kernel_calls.asked.Asked.{Asked as LentAsked}
use Rattle.kernel_model.specs.declared.kernel_calls.asked.Asked.TheVariants as asked

-- the code borrows a call's payload
abbrev pub seen : Lent → Operation
seen (lent.See path) = See path.now
seen (lent.Open flags mode path) = Open flags mode path.now
seen (lent.Create mode path) = Create mode path.now
seen (lent.Truncate path) = Truncate path.now
seen (lent.Execve path) = Execve path.now
seen (lent.SetMode mode) = SetMode mode
seen (lent.Map protection) = Map protection
seen (lent.Protect protection) = Protect protection
seen (lent.Attach flags) = Attach flags
seen (lent.Schedule policy) = Schedule policy
seen (lent.SetAttributes policy) = SetAttributes policy
seen (lent.Personality persona) = Personality persona
seen (lent.Socket family) = Socket family
seen (lent.Socketcall op family) = Socketcall op family
seen (lent.Socketpair family) = Socketpair family
seen lent.Enter = Enter
seen lent.Fork = Fork
seen (lent.Clone flags) = Clone flags
seen (lent.Unshare flags) = Unshare flags
seen lent.Exit = Exit
seen (lent.Mount source target flags) = Mount source.now target.now flags
seen (lent.Umount path flags) = Umount path.now flags
seen (lent.Setuid id) = Setuid id
seen (lent.Setgid id) = Setgid id
seen (lent.Setresuid real effective saved) = Setresuid real effective saved
seen (lent.Setresgid real effective saved) = Setresgid real effective saved
seen (lent.Setgroups ids) = Setgroups ids.now
seen (lent.Capset permitted effective inheritable) = Capset permitted effective inheritable
seen (lent.Prctl option value third fourth fifth) = Prctl option value third fourth fifth
seen (lent.Seccomp op flags code) = Seccomp op flags code.now
seen lent.SetUpRing = SetUpRing
seen (lent.Submit request) = Submit request.now
seen (lent.Plain cap) = Plain cap

abbrev pub asked_seen : LentAsked → Asked
asked_seen asked.Lacking = Lacking
asked_seen asked.Misformed = Misformed
asked_seen (asked.Does operation) = Does (seen operation)
