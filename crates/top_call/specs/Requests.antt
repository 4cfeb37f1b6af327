-- What a list of words asks for.
use Rattle.std.specs.Prelude.{List, [], ◌∷◌, ℕ, ◌≤◌, nat_le, codes, cond, map, Option, Some, None, option_map, option_and_then}
use Rattle.std.specs.Str.{bytes_eq}
use Rattle.derive_command.specs.text_forms.Numbers.{decimal_value}
use Rattle.top_call.specs.declared.request.Request.{Request as Code}
use Rattle.top_call.specs.declared.request.Request.TheVariants.{Help, Version, Filter, Plan, Judge, Replay, Derive, Effect, Tighten, Why}
use Rattle.top_call.specs.declared.request.Request.TheVariants.{Lines, Score, Check, Fleet, Sample}

-- the requests
pub data Request : Type 0 where
  HelpAlone : Request
  VersionAlone : Request
  FilterOf : (unit : List ℕ) → Request
  PlanOf : (unit : List ℕ) → Request
  JudgeOf : (unit : List ℕ) → Request
  ReplayOf : (unit script : List ℕ) → Request
  DeriveOf : (unit script : List ℕ) → Request
  EffectOf : (unit dropin : List ℕ) → Request
  TightenOf : (unit keep : List ℕ) → Request
  WhyOf : (unit : List ℕ) (words : List (List ℕ)) → Request
  LinesOf : (unit : List ℕ) → Request
  ScoreOf : (unit policy : List ℕ) (threshold : ℕ) → Request
  CheckOf : (unit filter path : List ℕ) → Request
  FleetOf : (policy : List ℕ) → Request
  SampleOf : (number : ℕ) → Request

-- a word by itself
abbrev pub request_alone : List ℕ → Option Request
request_alone word =
    cond (bytes_eq word (codes "--help")) (Some HelpAlone)
    (cond (bytes_eq word (codes "--version")) (Some VersionAlone) None)

-- a decimal number up to a limit
abbrev pub number_to : List ℕ → ℕ → Option ℕ
number_to text most = option_and_then (λ number. cond (nat_le number most) (Some number) None) (decimal_value text)

-- a word and a unit, the path of a policy, or the number of a made input, 0 to 999
abbrev pub request_on : List ℕ → List ℕ → Option Request
request_on word what =
    cond (bytes_eq word (codes "filter")) (Some (FilterOf what))
    (cond (bytes_eq word (codes "plan")) (Some (PlanOf what))
    (cond (bytes_eq word (codes "judge")) (Some (JudgeOf what))
    (cond (bytes_eq word (codes "why")) (Some (LinesOf what))
    (cond (bytes_eq word (codes "fleet")) (Some (FleetOf what))
    (cond (bytes_eq word (codes "sample")) (option_map SampleOf (number_to what 999)) None)))))

-- a word, a unit, and the path of a script, of a drop-in, of what is to be kept or of a policy; without a threshold no exposure is above it
abbrev pub request_with : List ℕ → List ℕ → List ℕ → Option Request
request_with word unit path =
    cond (bytes_eq word (codes "replay")) (Some (ReplayOf unit path))
    (cond (bytes_eq word (codes "derive")) (Some (DeriveOf unit path))
    (cond (bytes_eq word (codes "effect")) (Some (EffectOf unit path))
    (cond (bytes_eq word (codes "tighten")) (Some (TightenOf unit path))
    (cond (bytes_eq word (codes "score")) (Some (ScoreOf unit path 100)) None))))

-- a word, a unit, the path of a policy and a threshold, 0 to 100; or a word, a unit, the name of a filter and the path of a file
abbrev pub request_above : List ℕ → List ℕ → List ℕ → List ℕ → Option Request
request_above word unit what last =
    cond (bytes_eq word (codes "score")) (option_map (λ threshold. ScoreOf unit what threshold) (number_to last 100))
    (cond (bytes_eq word (codes "check")) (Some (CheckOf unit what last)) None)

-- all other words are no command
abbrev pub request_by : List (List ℕ) → Option Request
request_by [] = None
request_by (word ∷ []) = request_alone word
request_by (word ∷ what ∷ []) = request_on word what
request_by (word ∷ unit ∷ path ∷ []) = request_with word unit path
request_by (word ∷ unit ∷ what ∷ last ∷ []) = request_above word unit what last
request_by (word ∷ unit ∷ what ∷ last ∷ more ∷ words) = None

-- `why`, a unit, and the words of a question, one or more
abbrev pub request_why : List (List ℕ) → Option Request
request_why (word ∷ unit ∷ first ∷ words) = cond (bytes_eq word (codes "why")) (Some (WhyOf unit (first ∷ words))) None
request_why words = None

abbrev pub or_else : Option Request → Option Request → Option Request
or_else (Some request) other = Some request
or_else None other = other

abbrev pub request_in : List (List ℕ) → Option Request
request_in words = or_else (request_why words) (request_by words)

-- a request of the code, as contracts see it
abbrev pub request_of : Code → Request
request_of Help = HelpAlone
request_of Version = VersionAlone
request_of (Filter unit) = FilterOf unit.now
request_of (Plan unit) = PlanOf unit.now
request_of (Judge unit) = JudgeOf unit.now
request_of (Replay unit script) = ReplayOf unit.now script.now
request_of (Derive unit script) = DeriveOf unit.now script.now
request_of (Effect unit dropin) = EffectOf unit.now dropin.now
request_of (Tighten unit keep) = TightenOf unit.now keep.now
request_of (Why unit words) = WhyOf unit.now (map (λ word. word.now) words.now)
request_of (Lines unit) = LinesOf unit.now
request_of (Score unit policy threshold) = ScoreOf unit.now policy.now threshold
request_of (Check unit filter path) = CheckOf unit.now filter.now path.now
request_of (Fleet policy) = FleetOf policy.now
request_of (Sample number) = SampleOf number

-- the number of a made input is at most 999
abbrev pub IsNumbered : Code → Type 0
IsNumbered Help = Unit {0}
IsNumbered Version = Unit {0}
IsNumbered (Filter unit) = Unit {0}
IsNumbered (Plan unit) = Unit {0}
IsNumbered (Judge unit) = Unit {0}
IsNumbered (Replay unit script) = Unit {0}
IsNumbered (Derive unit script) = Unit {0}
IsNumbered (Effect unit dropin) = Unit {0}
IsNumbered (Tighten unit keep) = Unit {0}
IsNumbered (Why unit words) = Unit {0}
IsNumbered (Lines unit) = Unit {0}
IsNumbered (Score unit policy threshold) = Unit {0}
IsNumbered (Check unit filter path) = Unit {0}
IsNumbered (Fleet policy) = Unit {0}
IsNumbered (Sample number) = number ≤ 999
