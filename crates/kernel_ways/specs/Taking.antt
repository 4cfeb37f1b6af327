-- The calls of process 1 that take an id or sets of capabilities, by their numbers in the table.
use Rattle.std.specs.Prelude.{ℕ, List, [], ◌∷◌}
use Rattle.launcher.specs.call_table.declared.call_names.rule.CallRule.TheVariants.{Setresuid, Setresgid, Setreuid, Setregid, Setgroups}
use Rattle.launcher.specs.kernel_model.declared.kernel_calls.call.Call.{Call}
use Rattle.launcher.specs.kernel_model.declared.kernel_calls.payload.Payload.{Payload}
use Rattle.launcher.specs.kernel_model.declared.kernel_calls.payload.Payload.TheVariants.{Nothing, Ids, Sets}
use Rattle.launcher.specs.kernel_model.declared.kernel_calls.rule.Rule.{Rule}
use Rattle.launcher.specs.kernel_model.declared.kernel_calls.rule.Rule.TheVariants.{Known}
use Rattle.launcher.specs.kernel_laws.Kinds.{no_words}
use Rattle.kernel_ways.specs.Ways.{CallAt}

-- setresuid(2) and setresgid(2) take three ids, setreuid(2) and setregid(2) two, setgroups(2) a list of them, setuid(2) and setgid(2) one
abbrev pub id_words : Rule → ℕ → List ℕ
id_words (Known Setresuid) id = id ∷ id ∷ id ∷ 0 ∷ 0 ∷ 0 ∷ []
id_words (Known Setresgid) id = id ∷ id ∷ id ∷ 0 ∷ 0 ∷ 0 ∷ []
id_words (Known Setreuid) id = id ∷ id ∷ 0 ∷ 0 ∷ 0 ∷ 0 ∷ []
id_words (Known Setregid) id = id ∷ id ∷ 0 ∷ 0 ∷ 0 ∷ 0 ∷ []
id_words (Known Setgroups) id = no_words
id_words rule id = id ∷ 0 ∷ 0 ∷ 0 ∷ 0 ∷ 0 ∷ []

abbrev pub id_payload : Rule → ℕ → Payload
id_payload (Known Setgroups) id = Ids (id ∷ [])
id_payload rule id = Nothing

-- the call of this number and rule that takes the id
abbrev pub id_call : CallAt → Rule → ℕ → Call
id_call nr rule id = record { pid = 1; abi = nr.abi; nr = nr.nr; args = id_words rule id; payload = id_payload rule id }

-- capset(2): the permitted, the effective and the inheritable set
abbrev pub sets_call : CallAt → ℕ → ℕ → ℕ → Call
sets_call nr permitted effective inheritable =
    record { pid = 1; abi = nr.abi; nr = nr.nr; args = no_words; payload = Sets permitted effective inheritable }
