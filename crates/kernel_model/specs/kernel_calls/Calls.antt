-- Calls as processes make them: a number, six words, and the data that the pointers among them point to.
use Rattle.std.specs.Prelude.{◌≡◌, ◌<◌, ◌≤◌, ◌^◌, true, List, length, All}
use Rattle.std.specs.List.{AllByRecursion}
use Rattle.site_table.specs.abs_path.Paths.{Path, text_of, is_normal}
use Rattle.call_table.specs.declared.call_names.payload.PayloadForm.{PayloadForm}
use Rattle.call_table.specs.declared.call_names.payload.PayloadForm.TheVariants as form
use Rattle.kernel_model.specs.declared.kernel_calls.payload.Payload.{Payload}
use Rattle.kernel_model.specs.declared.kernel_calls.payload.Payload.TheVariants.{Nothing, OnePath, TwoPaths, PathFlags, Sets, Ids, Number, Code, Ring}
use Rattle.kernel_model.specs.declared.kernel_calls.request.Request.{Request}
use Rattle.kernel_model.specs.declared.kernel_calls.request.Request.TheVariants.{Stat, Open, Socket, Mode}
use Rattle.kernel_model.specs.declared.kernel_calls.call.Call.{Call}

-- the form of a payload
abbrev pub form_of_payload : Payload → PayloadForm
form_of_payload Nothing = form.Nothing
form_of_payload (OnePath path) = form.OnePath
form_of_payload (TwoPaths source target) = form.TwoPaths
form_of_payload (PathFlags path flags) = form.PathFlags
form_of_payload (Sets permitted effective inheritable) = form.Sets
form_of_payload (Ids ids) = form.Ids
form_of_payload (Number number) = form.Number
form_of_payload (Code bytes) = form.Program
form_of_payload (Ring request) = form.Request

-- a path that a call can name, path_resolution(7)
pub record IsPath (path : Path) : Type 0 where
  pub normal : is_normal path ≡ true
  pub short : length (text_of path) ≤ 512

-- a request has a path that a call can name, or a number of 32 bits
abbrev pub FitsRequest : Request → Type 0
FitsRequest (Stat path) = IsPath path
FitsRequest (Open path flags) = IsPath path × (flags < 2 ^ 32)
FitsRequest (Socket family) = family < 2 ^ 32
FitsRequest (Mode mode) = mode < 2 ^ 32

-- paths are normal and short, sets have the capabilities 0 to 40 (capabilities(7)), ids (credentials(7)) and other numbers have 32
-- bits, and bytes have 8
abbrev pub FitsPayload : Payload → Type 0
FitsPayload Nothing = Unit {0}
FitsPayload (OnePath path) = IsPath path
FitsPayload (TwoPaths source target) = IsPath source × IsPath target
FitsPayload (PathFlags path flags) = IsPath path × (flags < 2 ^ 32)
FitsPayload (Sets permitted effective inheritable) = (permitted < 2 ^ 41) × (effective < 2 ^ 41) × (inheritable < 2 ^ 41)
FitsPayload (Ids ids) = AllByRecursion (λ id. id < 2 ^ 32) ids
FitsPayload (Number number) = number < 2 ^ 32
FitsPayload (Code bytes) = AllByRecursion (λ byte. byte < 2 ^ 8) bytes
FitsPayload (Ring request) = FitsRequest request

-- each number is in the range of its type, and there are six words of 64 bits (syscall(2))
pub record IsCall (call : Call) : Type 0 where
  pub pid : call.pid < 2 ^ 32
  pub abi : call.abi < 2 ^ 8
  pub nr : call.nr < 2 ^ 32
  pub count : length call.args ≡ 6
  pub args : All (λ arg. arg < 2 ^ 64) call.args
  pub payload : FitsPayload call.payload

-- each of these calls is one that a process can make
abbrev pub AreCalls : List Call → Type 0
AreCalls calls = AllByRecursion IsCall calls
