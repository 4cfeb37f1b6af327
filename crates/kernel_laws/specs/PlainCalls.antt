-- A call that process 1 makes without words and without a payload; what is shown is not denied.
use Rattle.std.specs.Prelude.{ℕ, List}
use Rattle.kernel_model.specs.declared.kernel_calls.call.Call as call
use Rattle.kernel_model.specs.declared.kernel_calls.payload.Payload.TheVariants.{Nothing}
use Rattle.kernel_model.specs.World.{World}
use Rattle.kernel_laws.specs.declared.question_types.question.Question.{Question}
use Rattle.kernel_laws.specs.Kinds.{no_words}
use Rattle.kernel_laws.specs.Denied.{IsDenied, Shows}

-- the call with this number in an ABI
abbrev pub bare_call : ℕ → ℕ → call.Call
bare_call abi nr = record { pid = 1; abi = abi; nr = nr; args = no_words; payload = Nothing }

-- a question that some list shows is not denied, whatever the question and the world
abbrev pub ShownIsNotDenied : Type 0
ShownIsNotDenied = (world : World) (question : Question) (list : List call.Call) → Shows world question list → ¬ IsDenied world question
