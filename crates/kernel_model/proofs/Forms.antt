-- The form of a payload decides, and of the words the low halves.
use Rattle.std.proofs.Common.{◌≡◌, ◌↔◌, ℕ, ◌<◌, List, IsSome, refl, ap, ◌∙◌, arith}
use Rattle.site_table.specs.abs_path.Paths.{Path}
use Rattle.kern_mounts.specs.linux_numbers.Limits.{no_id}
use Rattle.call_table.specs.call_names.Known.{mode_place_of, place_of, form_of}
use Rattle.call_table.specs.declared.call_names.rule.Argument.{Argument}
use Rattle.call_table.specs.declared.call_names.rule.Argument.TheVariants.{Second, Third}
use Rattle.call_table.specs.declared.call_names.rule.CallRule.{CallRule}
use Rattle.call_table.specs.declared.call_names.rule.CallRule.TheVariants as known
use Rattle.call_table.specs.declared.call_names.payload.PayloadForm.TheVariants as form
use Rattle.kernel_model.specs.declared.kernel_calls.payload.Payload.{Payload}
use Rattle.kernel_model.specs.declared.kernel_calls.payload.Payload.TheVariants.{Nothing, OnePath, TwoPaths, PathFlags, Sets, Ids, Number, Code, Ring}
use Rattle.kernel_model.specs.declared.kernel_calls.request.Request.{Request}
use Rattle.kernel_model.specs.declared.kernel_calls.rule.Rule.{Rule}
use Rattle.kernel_model.specs.declared.kernel_calls.rule.Rule.TheVariants as rule
use Rattle.kernel_model.specs.kernel_calls.Calls.{form_of_payload}
use Rattle.kernel_model.specs.kernel_calls.Operation.{Operation, See, Open, Create, Truncate, Execve, SetMode, Map, Protect, Attach, Schedule}
use Rattle.kernel_model.specs.kernel_calls.Operation.{SetAttributes, Personality, Socket, Socketcall, Socketpair, Enter, Fork, Clone, Unshare, Exit, Mount, Umount, Setuid}
use Rattle.kernel_model.specs.kernel_calls.Operation.{Setgid, Setresuid, Setresgid, Setgroups, Capset, Prctl, Seccomp, SetUpRing, Submit, Plain, bare, by_path}
use Rattle.kernel_model.specs.kernel_calls.Operation.{by_path_flags, by_paths, by_sets, by_ids, by_number, by_code, by_request, known_operation, operation_by}
use Rattle.kernel_model.specs.kernel_calls.Rules.{form_of_rule}
use Rattle.kernel_model.specs.kernel_calls.Words.{low_word}

bare_form : (operation : Operation) (payload : Payload) → (form_of_payload payload ≡ form.Nothing) ↔ IsSome (bare operation payload)
bare_form operation Nothing = (λ h. refl, λ h. refl)
bare_form operation payload = (λ h. cc, λ h. cc)

by_path_form : (operation : Path → Operation) (payload : Payload) → (form_of_payload payload ≡ form.OnePath) ↔ IsSome (by_path operation payload)
by_path_form operation (OnePath path) = (λ h. refl, λ h. refl)
by_path_form operation payload = (λ h. cc, λ h. cc)

by_paths_form : (operation : Path → Path → Operation) (payload : Payload)
    → (form_of_payload payload ≡ form.TwoPaths) ↔ IsSome (by_paths operation payload)
by_paths_form operation (TwoPaths source target) = (λ h. refl, λ h. refl)
by_paths_form operation payload = (λ h. cc, λ h. cc)

by_path_flags_form : (operation : Path → ℕ → Operation) (payload : Payload)
    → (form_of_payload payload ≡ form.PathFlags) ↔ IsSome (by_path_flags operation payload)
by_path_flags_form operation (PathFlags path flags) = (λ h. refl, λ h. refl)
by_path_flags_form operation payload = (λ h. cc, λ h. cc)

by_sets_form : (operation : ℕ → ℕ → ℕ → Operation) (payload : Payload) → (form_of_payload payload ≡ form.Sets) ↔ IsSome (by_sets operation payload)
by_sets_form operation (Sets permitted effective inheritable) = (λ h. refl, λ h. refl)
by_sets_form operation payload = (λ h. cc, λ h. cc)

by_ids_form : (operation : List ℕ → Operation) (payload : Payload) → (form_of_payload payload ≡ form.Ids) ↔ IsSome (by_ids operation payload)
by_ids_form operation (Ids ids) = (λ h. refl, λ h. refl)
by_ids_form operation payload = (λ h. cc, λ h. cc)

by_number_form : (operation : ℕ → Operation) (payload : Payload) → (form_of_payload payload ≡ form.Number) ↔ IsSome (by_number operation payload)
by_number_form operation (Number number) = (λ h. refl, λ h. refl)
by_number_form operation payload = (λ h. cc, λ h. cc)

by_code_form : (operation : List ℕ → Operation) (payload : Payload) → (form_of_payload payload ≡ form.Program) ↔ IsSome (by_code operation payload)
by_code_form operation (Code bytes) = (λ h. refl, λ h. refl)
by_code_form operation payload = (λ h. cc, λ h. cc)

by_request_form : (operation : Request → Operation) (payload : Payload)
    → (form_of_payload payload ≡ form.Request) ↔ IsSome (by_request operation payload)
by_request_form operation (Ring request) = (λ h. refl, λ h. refl)
by_request_form operation payload = (λ h. cc, λ h. cc)

known_form : (rule : CallRule) (args : List ℕ) (payload : Payload)
    → (form_of_payload payload ≡ form_of rule) ↔ IsSome (known_operation rule args payload)
known_form known.See args = by_path_form See
known_form (known.Open flags) args = by_path_form (Open (low_word args (place_of flags)) 0)
known_form (known.OpenWith flags) args = by_path_form (Open (low_word args (place_of flags)) (low_word args (mode_place_of flags)))
known_form known.Openat2 args = by_path_flags_form (λ path flags. Open flags 0 path)
known_form known.Create args = by_path_form (Create 0)
known_form known.CreateWith args = by_path_form (Create (low_word args 1))
known_form known.Truncate args = by_path_form Truncate
known_form known.Execve args = by_path_form Execve
known_form (known.SetMode mode) args = bare_form (SetMode (low_word args (place_of mode)))
known_form known.Map args = bare_form (Map (low_word args 2))
known_form known.Protect args = bare_form (Protect (low_word args 2))
known_form known.Attach args = bare_form (Attach (low_word args 2))
known_form known.Schedule args = bare_form (Schedule (low_word args 1))
known_form known.SetAttributes args = by_number_form SetAttributes
known_form known.Personality args = bare_form (Personality (low_word args 0))
known_form known.Socket args = bare_form (Socket (low_word args 0))
known_form known.Socketcall args = by_number_form (Socketcall (low_word args 0))
known_form known.Socketpair args = bare_form (Socketpair (low_word args 0))
known_form known.Enter args = bare_form Enter
known_form known.Fork args = bare_form Fork
known_form known.Clone args = bare_form (Clone (low_word args 0))
known_form known.Clone3 args = by_number_form Clone
known_form known.Unshare args = bare_form (Unshare (low_word args 0))
known_form known.Exit args = bare_form Exit
known_form known.Mount args = by_paths_form (λ source target. Mount source target (low_word args 3))
known_form known.Umount args = by_path_form (λ path. Umount path (low_word args 1))
known_form known.Setuid args = bare_form (Setuid (low_word args 0))
known_form known.Setgid args = bare_form (Setgid (low_word args 0))
known_form known.Setresuid args = bare_form (Setresuid (low_word args 0) (low_word args 1) (low_word args 2))
known_form known.Setresgid args = bare_form (Setresgid (low_word args 0) (low_word args 1) (low_word args 2))
known_form known.Setreuid args = bare_form (Setresuid (low_word args 0) (low_word args 1) no_id)
known_form known.Setregid args = bare_form (Setresgid (low_word args 0) (low_word args 1) no_id)
known_form known.Setgroups args = by_ids_form Setgroups
known_form known.Capset args = by_sets_form Capset
known_form known.Prctl args = bare_form (Prctl (low_word args 0) (low_word args 1) (low_word args 2) (low_word args 3) (low_word args 4))
known_form known.Seccomp args = by_code_form (Seccomp (low_word args 0) (low_word args 1))
known_form known.SetUpRing args = bare_form SetUpRing
known_form known.Submit args = by_request_form Submit

pub form_decides : (rule : Rule) (args : List ℕ) (payload : Payload)
    → (form_of_payload payload ≡ form_of_rule rule) ↔ IsSome (operation_by rule args payload)
form_decides (rule.Known call) args payload = known_form call args payload
form_decides (rule.Plain cap) args payload = bare_form (Plain cap) payload

within : (argument : Argument) → place_of argument < 6
within Second = omega arith
within Third = omega arith

mode_within : (argument : Argument) → mode_place_of argument < 6
mode_within Second = omega arith
mode_within Third = omega arith

two_low : (operation : ℕ → ℕ → Operation) (args other : List ℕ) (payload : Payload)
    → ((at : ℕ) → at < 6 → low_word args at ≡ low_word other at)
    → bare (operation (low_word args 0) (low_word args 1)) payload ≡ bare (operation (low_word other 0) (low_word other 1)) payload
two_low operation args other payload same = rw (same 0 (omega arith), same 1 (omega arith)) refl

three_low : (operation : ℕ → ℕ → ℕ → Operation) (args other : List ℕ) (payload : Payload)
    → ((at : ℕ) → at < 6 → low_word args at ≡ low_word other at)
    → bare (operation (low_word args 0) (low_word args 1) (low_word args 2)) payload
    ≡ bare (operation (low_word other 0) (low_word other 1) (low_word other 2)) payload
three_low operation args other payload same = rw (same 0 (omega arith), same 1 (omega arith), same 2 (omega arith)) refl

five_low : (operation : ℕ → ℕ → ℕ → ℕ → ℕ → Operation) (args other : List ℕ) (payload : Payload)
    → ((at : ℕ) → at < 6 → low_word args at ≡ low_word other at)
    → bare (operation (low_word args 0) (low_word args 1) (low_word args 2) (low_word args 3) (low_word args 4)) payload
    ≡ bare (operation (low_word other 0) (low_word other 1) (low_word other 2) (low_word other 3) (low_word other 4)) payload
five_low operation args other payload same =
    rw (same 0 (omega arith), same 1 (omega arith), same 2 (omega arith), same 3 (omega arith), same 4 (omega arith)) refl

known_low : (rule : CallRule) (args other : List ℕ) (payload : Payload) → ((at : ℕ) → at < 6 → low_word args at ≡ low_word other at)
    → known_operation rule args payload ≡ known_operation rule other payload
known_low (known.Open flags) args other payload same = ap (λ w. by_path (Open w 0) payload) (same (place_of flags) (within flags))
known_low (known.OpenWith flags) args other payload same =
    ap (λ w. by_path (Open w (low_word args (mode_place_of flags))) payload) (same (place_of flags) (within flags))
    ∙ ap (λ w. by_path (Open (low_word other (place_of flags)) w) payload) (same (mode_place_of flags) (mode_within flags))
known_low (known.SetMode mode) args other payload same = ap (λ w. bare (SetMode w) payload) (same (place_of mode) (within mode))
known_low known.CreateWith args other payload same = ap (λ w. by_path (Create w) payload) (same 1 (omega arith))
known_low known.Map args other payload same = ap (λ w. bare (Map w) payload) (same 2 (omega arith))
known_low known.Protect args other payload same = ap (λ w. bare (Protect w) payload) (same 2 (omega arith))
known_low known.Attach args other payload same = ap (λ w. bare (Attach w) payload) (same 2 (omega arith))
known_low known.Schedule args other payload same = ap (λ w. bare (Schedule w) payload) (same 1 (omega arith))
known_low known.Personality args other payload same = ap (λ w. bare (Personality w) payload) (same 0 (omega arith))
known_low known.Socket args other payload same = ap (λ w. bare (Socket w) payload) (same 0 (omega arith))
known_low known.Socketcall args other payload same = ap (λ w. by_number (Socketcall w) payload) (same 0 (omega arith))
known_low known.Socketpair args other payload same = ap (λ w. bare (Socketpair w) payload) (same 0 (omega arith))
known_low known.Clone args other payload same = ap (λ w. bare (Clone w) payload) (same 0 (omega arith))
known_low known.Unshare args other payload same = ap (λ w. bare (Unshare w) payload) (same 0 (omega arith))
known_low known.Mount args other payload same = ap (λ w. by_paths (λ source target. Mount source target w) payload) (same 3 (omega arith))
known_low known.Umount args other payload same = ap (λ w. by_path (λ path. Umount path w) payload) (same 1 (omega arith))
known_low known.Setuid args other payload same = ap (λ w. bare (Setuid w) payload) (same 0 (omega arith))
known_low known.Setgid args other payload same = ap (λ w. bare (Setgid w) payload) (same 0 (omega arith))
known_low known.Setresuid args other payload same = three_low Setresuid args other payload same
known_low known.Setresgid args other payload same = three_low Setresgid args other payload same
known_low known.Setreuid args other payload same = two_low (λ r e. Setresuid r e no_id) args other payload same
known_low known.Setregid args other payload same = two_low (λ r e. Setresgid r e no_id) args other payload same
known_low known.Prctl args other payload same = five_low Prctl args other payload same
known_low known.Seccomp args other payload same = ap (λ w. by_code (Seccomp w (low_word args 1)) payload) (same 0 (omega arith))
    ∙ ap (λ w. by_code (Seccomp (low_word other 0) w) payload) (same 1 (omega arith))
known_low call args other payload same = refl

pub low_halves_decide : (rule : Rule) (args other : List ℕ) (payload : Payload)
    → ((at : ℕ) → at < 6 → low_word args at ≡ low_word other at) → operation_by rule args payload ≡ operation_by rule other payload
low_halves_decide (rule.Known call) args other payload same = known_low call args other payload same
low_halves_decide (rule.Plain cap) args other payload same = refl
