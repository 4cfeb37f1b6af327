-- A script whose calls have not the number of seccomp(2) pushes no program.
use Rattle.std.proofs.Common.{◌≡◌, ℕ, Bool, true, false, cond, codes, Option, Some, None, List, [], ◌∷◌, refl, ap, ◌∙◌, sym}
use Rattle.std.specs.Prelude.{◌+◌, position, option_and_then}
use Rattle.std.specs.List.{list_all, list_any}
use Rattle.std.specs.Map.{lookup}
use Rattle.std.specs.Option.{option_map, option_map_or}
use Rattle.std.specs.Str.{bytes_eq}
use Rattle.std.proofs.lemmas.Bool.{and_parts}
use Rattle.std.proofs.lemmas.Slice.Eq.{bytes_eq-Decides}
use Rattle.asked_service.specs.abs_path.Paths.{Path}
use Rattle.asked_service.specs.call_table.call_names.Known.{known_call, known_calls, linux_calls, entry_in, mode_place_of, place_of}
use Rattle.asked_service.specs.call_table.declared.call_names.kernel.Kernel.{Kernel}
use Rattle.asked_service.specs.call_table.declared.call_names.kernel.Kernel.TheVariants.{Base, Linux}
use Rattle.asked_service.specs.linux_numbers.Limits.{no_id}
use Rattle.asked_service.specs.call_table.declared.call_names.known.KnownCall.{KnownCall}
use Rattle.asked_service.specs.call_table.declared.call_names.known.KnownCall.TheVariants.{Modelled, Absent}
use Rattle.asked_service.specs.call_table.declared.call_names.rule.CallRule.{CallRule}
use Rattle.asked_service.specs.call_table.declared.call_names.rule.CallRule.TheVariants as known
use Rattle.asked_service.proofs.OfCallTable.Places.{any_nowhere, or_false}
use Rattle.asked_service.specs.call_table.Lookups.{numbered}
use Rattle.asked_service.specs.call_table.Table.{Table, calls_in}
use Rattle.asked_service.specs.call_table.declared.listed.CallLine.{CallLine}
use Rattle.asked_service.specs.kernel_model.kernel_calls.Operation as d
use Rattle.asked_service.specs.kernel_model.kernel_calls.Operation.{Asked, Does, Operation, Lacking, Misformed, asked_by, asked_if, asked_of, bare}
use Rattle.asked_service.specs.kernel_model.kernel_calls.Operation.{by_code, by_number, by_ids, by_path, by_path_flags, by_paths, by_request, by_sets, known_operation}
use Rattle.asked_service.specs.kernel_model.kernel_calls.Rules.{rule_by, rule_of}
use Rattle.asked_service.specs.kernel_model.kernel_calls.Words.{low_word}
use Rattle.asked_service.specs.kernel_model.declared.kernel_calls.call.Call.{Call}
use Rattle.asked_service.specs.kernel_model.declared.kernel_calls.payload.Payload.{Payload}
use Rattle.asked_service.specs.kernel_model.declared.kernel_calls.payload.Payload.TheVariants.{Nothing, OnePath, TwoPaths, PathFlags, Sets, Ids}
use Rattle.asked_service.specs.kernel_model.declared.kernel_calls.payload.Payload.TheVariants.{Number, Code, Ring}
use Rattle.derive_command.specs.trace_profile.allow_laws.Either.{PushNone, PushesNone}
use Rattle.derive_command.specs.trace_profile.Scripts.{first_seccomp, is_seccomp}

-- what a call does pushes a program
abbrev pushing : Operation → Bool
pushing (d.Seccomp op flags bytes) = true
pushing operation = false

abbrev pushes : Asked → Bool
pushes Lacking = false
pushes Misformed = false
pushes (Does operation) = pushing operation

bare_off : (operation : Operation) → pushing operation ≡ false → (payload : Payload) → pushes (asked_if (bare operation payload)) ≡ false
bare_off operation off Nothing = off
bare_off operation off (OnePath path) = refl
bare_off operation off (TwoPaths source target) = refl
bare_off operation off (PathFlags path flags) = refl
bare_off operation off (Sets p e i) = refl
bare_off operation off (Ids ids) = refl
bare_off operation off (Number number) = refl
bare_off operation off (Code bytes) = refl
bare_off operation off (Ring request) = refl

path_off : (operation : Path → Operation) → ((path : Path) → pushing (operation path) ≡ false) → (payload : Payload)
    → pushes (asked_if (by_path operation payload)) ≡ false
path_off operation off Nothing = refl
path_off operation off (OnePath path) = off path
path_off operation off (TwoPaths source target) = refl
path_off operation off (PathFlags path flags) = refl
path_off operation off (Sets p e i) = refl
path_off operation off (Ids ids) = refl
path_off operation off (Number number) = refl
path_off operation off (Code bytes) = refl
path_off operation off (Ring request) = refl

paths_off : (operation : Path → Path → Operation) → ((one other : Path) → pushing (operation one other) ≡ false) → (payload : Payload)
    → pushes (asked_if (by_paths operation payload)) ≡ false
paths_off operation off Nothing = refl
paths_off operation off (OnePath path) = refl
paths_off operation off (TwoPaths source target) = off source target
paths_off operation off (PathFlags path flags) = refl
paths_off operation off (Sets p e i) = refl
paths_off operation off (Ids ids) = refl
paths_off operation off (Number number) = refl
paths_off operation off (Code bytes) = refl
paths_off operation off (Ring request) = refl

path_flags_off : (operation : Path → ℕ → Operation) → ((path : Path) (flags : ℕ) → pushing (operation path flags) ≡ false) → (payload : Payload)
    → pushes (asked_if (by_path_flags operation payload)) ≡ false
path_flags_off operation off Nothing = refl
path_flags_off operation off (OnePath path) = refl
path_flags_off operation off (TwoPaths source target) = refl
path_flags_off operation off (PathFlags path flags) = off path flags
path_flags_off operation off (Sets p e i) = refl
path_flags_off operation off (Ids ids) = refl
path_flags_off operation off (Number number) = refl
path_flags_off operation off (Code bytes) = refl
path_flags_off operation off (Ring request) = refl

sets_off : (payload : Payload) → pushes (asked_if (by_sets d.Capset payload)) ≡ false
sets_off Nothing = refl
sets_off (OnePath path) = refl
sets_off (TwoPaths source target) = refl
sets_off (PathFlags path flags) = refl
sets_off (Sets p e i) = refl
sets_off (Ids ids) = refl
sets_off (Number number) = refl
sets_off (Code bytes) = refl
sets_off (Ring request) = refl

ids_off : (payload : Payload) → pushes (asked_if (by_ids d.Setgroups payload)) ≡ false
ids_off Nothing = refl
ids_off (OnePath path) = refl
ids_off (TwoPaths source target) = refl
ids_off (PathFlags path flags) = refl
ids_off (Sets p e i) = refl
ids_off (Ids ids) = refl
ids_off (Number number) = refl
ids_off (Code bytes) = refl
ids_off (Ring request) = refl

number_off : (operation : ℕ → Operation) → ((number : ℕ) → pushing (operation number) ≡ false) → (payload : Payload)
    → pushes (asked_if (by_number operation payload)) ≡ false
number_off operation off Nothing = refl
number_off operation off (OnePath path) = refl
number_off operation off (TwoPaths source target) = refl
number_off operation off (PathFlags path flags) = refl
number_off operation off (Sets p e i) = refl
number_off operation off (Ids ids) = refl
number_off operation off (Number number) = off number
number_off operation off (Code bytes) = refl
number_off operation off (Ring request) = refl

request_off : (payload : Payload) → pushes (asked_if (by_request d.Submit payload)) ≡ false
request_off Nothing = refl
request_off (OnePath path) = refl
request_off (TwoPaths source target) = refl
request_off (PathFlags path flags) = refl
request_off (Sets p e i) = refl
request_off (Ids ids) = refl
request_off (Number number) = refl
request_off (Code bytes) = refl
request_off (Ring request) = refl

-- a known call of this rule may push a program
abbrev is_push : CallRule → Bool
is_push known.Seccomp = true
is_push other = false

known_off : (own : CallRule) (args : List ℕ) (payload : Payload) → is_push own ≡ false
    → pushes (asked_if (known_operation own args payload)) ≡ false
known_off known.See args payload off = path_off d.See (λ path. refl) payload
known_off (known.Open flags) args payload off = path_off (d.Open (low_word args (place_of flags)) 0) (λ path. refl) payload
known_off (known.OpenWith flags) args payload off =
    path_off (d.Open (low_word args (place_of flags)) (low_word args (mode_place_of flags))) (λ path. refl) payload
known_off known.Openat2 args payload off = path_flags_off (λ path flags. d.Open flags 0 path) (λ path flags. refl) payload
known_off known.Create args payload off = path_off (d.Create 0) (λ path. refl) payload
known_off known.CreateWith args payload off = path_off (d.Create (low_word args 1)) (λ path. refl) payload
known_off known.Truncate args payload off = path_off d.Truncate (λ path. refl) payload
known_off known.Execve args payload off = path_off d.Execve (λ path. refl) payload
known_off (known.SetMode mode) args payload off = bare_off (d.SetMode (low_word args (place_of mode))) refl payload
known_off known.Map args payload off = bare_off (d.Map (low_word args 2)) refl payload
known_off known.Protect args payload off = bare_off (d.Protect (low_word args 2)) refl payload
known_off known.Attach args payload off = bare_off (d.Attach (low_word args 2)) refl payload
known_off known.Schedule args payload off = bare_off (d.Schedule (low_word args 1)) refl payload
known_off known.SetAttributes args payload off = number_off d.SetAttributes (λ number. refl) payload
known_off known.Personality args payload off = bare_off (d.Personality (low_word args 0)) refl payload
known_off known.Socket args payload off = bare_off (d.Socket (low_word args 0)) refl payload
known_off known.Socketcall args payload off = number_off (d.Socketcall (low_word args 0)) (λ number. refl) payload
known_off known.Socketpair args payload off = bare_off (d.Socketpair (low_word args 0)) refl payload
known_off known.Enter args payload off = bare_off d.Enter refl payload
known_off known.Fork args payload off = bare_off d.Fork refl payload
known_off known.Clone args payload off = bare_off (d.Clone (low_word args 0)) refl payload
known_off known.Clone3 args payload off = number_off d.Clone (λ number. refl) payload
known_off known.Unshare args payload off = bare_off (d.Unshare (low_word args 0)) refl payload
known_off known.Exit args payload off = bare_off d.Exit refl payload
known_off known.Mount args payload off = paths_off (λ source target. d.Mount source target (low_word args 3)) (λ one other. refl) payload
known_off known.Umount args payload off = path_off (λ path. d.Umount path (low_word args 1)) (λ path. refl) payload
known_off known.Setuid args payload off = bare_off (d.Setuid (low_word args 0)) refl payload
known_off known.Setgid args payload off = bare_off (d.Setgid (low_word args 0)) refl payload
known_off known.Setresuid args payload off = bare_off (d.Setresuid (low_word args 0) (low_word args 1) (low_word args 2)) refl payload
known_off known.Setresgid args payload off = bare_off (d.Setresgid (low_word args 0) (low_word args 1) (low_word args 2)) refl payload
known_off known.Setreuid args payload off = bare_off (d.Setresuid (low_word args 0) (low_word args 1) no_id) refl payload
known_off known.Setregid args payload off = bare_off (d.Setresgid (low_word args 0) (low_word args 1) no_id) refl payload
known_off known.Setgroups args payload off = ids_off payload
known_off known.Capset args payload off = sets_off payload
known_off known.Prctl args payload off =
    bare_off (d.Prctl (low_word args 0) (low_word args 1) (low_word args 2) (low_word args 3) (low_word args 4)) refl payload
known_off known.Seccomp args payload off = cc
known_off known.SetUpRing args payload off = bare_off d.SetUpRing refl payload
known_off known.Submit args payload off = request_off payload

abbrev may_push : KnownCall → Bool
may_push Absent = false
may_push (Modelled own) = is_push own

-- a row that may push is that of seccomp
abbrev is_fine : List ℕ × KnownCall → Bool
is_fine row = cond (may_push row.1) (bytes_eq row.0 (codes "seccomp")) true

all_fine : list_all is_fine known_calls ≡ true
all_fine = refl

linux_fine : list_all is_fine linux_calls ≡ true
linux_fine = refl

record Found (name : List ℕ) (call : KnownCall) : Type 0 where
  key : List ℕ
  same : bytes_eq name key ≡ true
  fine : is_fine (key, call) ≡ true

found_in : (name : List ℕ) (call : KnownCall) (rows : List (List ℕ × KnownCall)) → list_all is_fine rows ≡ true
    → lookup (bytes_eq name) rows ≡ Some call → Found name call
found_in name call [] fine e = cc
found_in name call (row ∷ rows) fine e = by (bytes_eq name row.0) refl e
    (λ own. found_in name call rows (and_parts (is_fine row) (list_all is_fine rows) fine).1 own)
  where
    both : (is_fine row ≡ true) × (list_all is_fine rows ≡ true)
    both = and_parts (is_fine row) (list_all is_fine rows) fine

    by : (b : Bool) → bytes_eq name row.0 ≡ b → cond b (Some row.1) (lookup (bytes_eq name) rows) ≡ Some call
        → (lookup (bytes_eq name) rows ≡ Some call → Found name call) → Found name call
    by true is e rest =
        let own : row.1 ≡ call = cc in
        record { key = row.0; same = is; fine = ap (λ (one : KnownCall). is_fine (row.0, one)) (sym own) ∙ both.0 }
    by false is e rest = rest e

-- the entry of a name is among those of Linux or among those of the base kernel
found_by : (kernel : Kernel) (name : List ℕ) (call : KnownCall) (own : Option KnownCall) → lookup (bytes_eq name) linux_calls ≡ own
    → entry_in own kernel (lookup (bytes_eq name) known_calls) ≡ Some call → Found name call
found_by kernel name call None is e = found_in name call known_calls all_fine e
found_by Base name call (Some own) is e = found_in name call known_calls all_fine e
found_by Linux name call (Some own) is e = found_in name call linux_calls linux_fine (is ∙ e)

-- a name that may push is seccomp
named_seccomp : (kernel : Kernel) (name : List ℕ) (own : CallRule) → known_call kernel name ≡ Some (Modelled own)
    → bytes_eq name (codes "seccomp") ≡ false → is_push own ≡ false
unfolding known_call
named_seccomp kernel name own e differs = by (is_push own) refl
  where
    found : Found name (Modelled own)
    found = found_by kernel name (Modelled own) (lookup (bytes_eq name) linux_calls) refl e

    by : (b : Bool) → is_push own ≡ b → b ≡ false
    by false is = refl
    by true is =
        let key : bytes_eq found.key (codes "seccomp") ≡ true = ap (λ b. cond b (bytes_eq found.key (codes "seccomp")) true) (sym is) ∙ found.fine in
        let one = (bytes_eq-Decides name found.key).0 found.same in
        let same : bytes_eq name (codes "seccomp") ≡ true = ap (λ own. bytes_eq own (codes "seccomp")) one ∙ key in
        sym same ∙ differs

rule_off : (kernel : Kernel) (name : List ℕ) (cap : Option ℕ) (call : Call) → bytes_eq name (codes "seccomp") ≡ false
    → (o : Option KnownCall) → known_call kernel name ≡ o → pushes (asked_by (rule_by o cap) call) ≡ false
rule_off kernel name cap call differs None e = bare_off (d.Plain cap) refl call.payload
rule_off kernel name cap call differs (Some Absent) e = refl
rule_off kernel name cap call differs (Some (Modelled own)) e = known_off own call.args call.payload (named_seccomp kernel name own e differs)

line_off : (call : Call) (o : Option CallLine) → option_map_or (λ line. bytes_eq line.name (codes "seccomp")) o false ≡ false
    → pushes (asked_by (option_and_then rule_of o) call) ≡ false
unfolding rule_of
line_off call None e = refl
line_off call (Some line) e = rule_off line.kernel line.name line.cap call e (known_call line.kernel line.name) refl

call_off : (table : Table) (call : Call) → is_seccomp table call ≡ false → PushesNone table call
call_off table call off op flags bytes asks =
    let e = sym (ap pushes asks) ∙ line_off call (numbered call.nr (calls_in table call.abi)) off in
    cc

each_off : (table : Table) (script : List Call) → list_any (is_seccomp table) script ≡ false → PushNone table script
each_off table [] e = tt
each_off table (call ∷ script) e =
    let both = or_false (is_seccomp table call) (list_any (is_seccomp table) script) e in
    (call_off table call both.0, each_off table script both.1)

no_place : (o : Option ℕ) → option_map (λ place. place + 1) o ≡ None → o ≡ None
no_place None e = refl
no_place (Some place) e = cc

pub pushes_none : (table : Table) (script : List Call) → first_seccomp table script ≡ None → PushNone table script
pushes_none table script e = each_off table script (any_nowhere (is_seccomp table) script (no_place (position (is_seccomp table) script) e))
