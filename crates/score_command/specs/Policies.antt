-- The policy of a path, or the line of its refusal.
use Rattle.std.specs.Prelude.{ℕ, List, [], ◌++◌, codes, Result}
use Rattle.unit_inputs.specs.host_io.Files.{Files}
use Rattle.report_text.specs.text_forms.Escaped.{escaped_word}
use Rattle.report_text.specs.exposure_score.policy_file.Reading.{policy_of}
use Rattle.report_text.specs.exposure_score.declared.policy_file.error.PolicyError.{PolicyError}
use Rattle.report_text.specs.exposure_score.declared.policy_file.error.PolicyError.TheVariants.{NotJson, Field, TooMany, Memory}
use Rattle.report_text.specs.exposure_score.declared.policy_file.policy.PolicyTest.{PolicyTest}
use Rattle.unit_inputs.specs.command_answers.Refusals.{refused_line}
use Rattle.unit_inputs.specs.command_answers.CommandErrors.{and_then, or_line}
use Rattle.unit_inputs.specs.FileRefusals.{bytes_in}

-- why a policy is refused; if memory runs out, there is no line
abbrev pub policy_cause : PolicyError → List ℕ
policy_cause NotJson = codes "json"
policy_cause (Field id) = codes "test " ++ escaped_word id
policy_cause TooMany = codes "too-many"
policy_cause Memory = []

abbrev pub policy_line : List ℕ → PolicyError → List ℕ
policy_line path error = refused_line path (policy_cause error)

-- the tests of some bytes, or the line
unfoldable pub policy_said : List ℕ → List ℕ → Result (List PolicyTest) (List ℕ)
policy_said path bytes = or_line (policy_line path) (policy_of bytes)

-- the policy of a path over some files, or the line
abbrev pub policy_in : Files → List ℕ → Result (List PolicyTest) (List ℕ)
policy_in files path = and_then (bytes_in files path) (policy_said path)
