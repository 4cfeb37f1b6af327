-- A policy, from its bytes to its tests.
use Rattle.std.proofs.Common.{◌≡◌, ◌≢◌, ℕ, Bool, true, false, cond, List, length, Some, None, Result, Ok, Err, refl, ap, ◌∙◌}
use Rattle.std.specs.Prelude.{nat_lt, IfOk, IfErr, option_and_then}
use Rattle.std.specs.Str.{IsUtf8, is_utf8}
use Rattle.std.proofs.lemmas.Str.{IsUtf8-from_is_utf8, is_utf8-from_IsUtf8}
use Rattle.serde_json.specs.Data.{Data}
use Rattle.serde_json.specs.Find.{as_object}
use Rattle.serde_json.specs.Read.{read}
use Rattle.exposure_score.specs.declared.policy_file.policy.PolicyTest.{PolicyTest}
use Rattle.exposure_score.specs.declared.policy_file.error.PolicyError.{PolicyError}
use Rattle.exposure_score.specs.declared.policy_file.error.PolicyError.TheVariants.{NotJson, Field, TooMany, Memory}
use Rattle.exposure_score.specs.policy_file.Reading.{Member, first_fault, tests_of, unless_fault, policy_in, policy_of_object, policy_of}
use Rattle.exposure_score.specs.policy_file.Steps.{IsUnlessMemory}

-- bytes that are a tree
pub of_tree : (bytes : List ℕ) (tree : Data) → IsUtf8 bytes → read bytes ≡ Some tree → policy_of bytes ≡ policy_of_object (as_object tree)
of_tree bytes tree text e =
    ap (λ b. policy_of_object (option_and_then as_object (cond b (read bytes) None))) (is_utf8-from_IsUtf8 bytes text)
    ∙ ap (λ found. policy_of_object (option_and_then as_object found)) e

-- bytes that are none
pub no_tree : (bytes : List ℕ) → (IsUtf8 bytes → read bytes ≡ None) → policy_of bytes ≡ Err NotJson
no_tree bytes h = by (is_utf8 bytes) refl
  where
    by : (b : Bool) → is_utf8 bytes ≡ b → policy_of_object (option_and_then as_object (cond b (read bytes) None)) ≡ Err NotJson
    by true e = ap (λ found. policy_of_object (option_and_then as_object found)) (h (IsUtf8-from_is_utf8 bytes e))
    by false e = refl

-- too many tests, or all
pub all_read : (members : List Member) (many : Bool) → first_fault members ≡ None → nat_lt 512 (length members) ≡ many
    → policy_in members ≡ unless_fault None many (tests_of members)
all_read members many none e =
    ap (λ fault. unless_fault fault (nat_lt 512 (length members)) (tests_of members)) none
    ∙ ap (λ b. unless_fault None b (tests_of members)) e

-- what the answer says of the bytes
pub said_if_ok : (wanted : Result (List PolicyTest) PolicyError) (result : Result (List PolicyTest) PolicyError)
    → IsUnlessMemory result wanted → IfOk result (λ policy. wanted ≡ Ok policy)
said_if_ok wanted (Ok policy) h = h
said_if_ok wanted (Err error) h = tt

pub told_if_err : (wanted : Result (List PolicyTest) PolicyError) (result : Result (List PolicyTest) PolicyError)
    → IsUnlessMemory result wanted → IfErr result (λ error. error ≢ Memory → wanted ≡ Err error)
told_if_err wanted (Ok policy) h = tt
told_if_err wanted (Err Memory) h = λ other. absurd (other refl)
told_if_err wanted (Err NotJson) h = λ other. h
told_if_err wanted (Err (Field id)) h = λ other. h
told_if_err wanted (Err TooMany) h = λ other. h
