-- MemoryDenyWriteExecute=, RestrictRealtime=, LockPersonality=, blocked calls and SystemCallFilter=: the rules do what the settings say.
use Rattle.std.proofs.Common.{◌≡◌, ℕ, Bool, true, false, cond, Option, Some, None, List, [], ◌∷◌, length, map, refl, sym, ap, ◌∙◌, arith}
use Rattle.std.proofs.Common.{inl, codes}
use Rattle.std.specs.Prelude.{◌||◌, ◌&&◌, not, ◌==◌, is_some, if◌then◌else◌}
use Rattle.std.specs.Option.{option_map_or, option_map, IfSome}
use Rattle.std.specs.List.{list_any}
use Rattle.std.specs.Str.{bytes_eq}
use Rattle.dropin_merge.specs.unit_names.declared.version.Version.{Version}
use Rattle.call_rules.specs.bpf_code.declared.machine.CallData.{CallData}
use Rattle.call_table.specs.Table.{Table}
use Rattle.filter_settings.specs.declared.filter_rules.choice.Choice.{Choice}
use Rattle.filter_settings.specs.declared.filter_rules.mentions.CallList.{CallList}
use Rattle.filter_settings.specs.declared.filter_rules.mentions.Mention.{Mention}
use Rattle.dropin_merge.specs.linux_numbers.Errnos.{eperm}
use Rattle.call_rules.specs.declared.actions.Action.{Action}
use Rattle.call_rules.specs.declared.actions.Action.TheVariants.{Errno, Allow}
use Rattle.filter_settings.specs.filter_rules.Actions.{unless_refused, low, meets, has_bits, is_one_of}
use Rattle.filter_settings.specs.filter_rules.Choices.{choice_action, whole, allowed_values, always}
use Rattle.filter_settings.specs.filter_rules.Mapping.{refuses_mapping, prot_write_exec, prot_exec, shm_exec}
use Rattle.filter_settings.specs.filter_rules.MappingChoice.{mapping_choice, choice_of_bits, refused_bits}
use Rattle.filter_settings.specs.filter_rules.Realtime.{refuses_policy, is_ordinary, sched_other, sched_batch, sched_idle}
use Rattle.filter_settings.specs.filter_rules.RealtimeChoice.{realtime_choice}
use Rattle.filter_settings.specs.declared.filter_rules.personality.Domain.{Domain}
use Rattle.filter_settings.specs.filter_rules.Personality.{number_of, permits_domain, refuses_personality}
use Rattle.filter_settings.specs.filter_rules.PersonalityChoice.{permitted_values, personality_choice}
use Rattle.filter_settings.specs.filter_rules.Blocked.{is_blocked}
use Rattle.filter_settings.specs.filter_rules.BlockedChoice.{blocked_choice}
use Rattle.filter_settings.specs.filter_rules.Calls.{call_action, rest_action, list_action, listed_by, listed_action, hidden_action, is_unknown}
use Rattle.filter_settings.specs.filter_rules.CallsChoice.{calls_choice}
use Rattle.filter_settings.proofs.LowWords.{or_false}
use Rattle.filter_settings.proofs.WideValues.{by_value_means, wide_few}
use Rattle.filter_settings.proofs.Suited.{IsSmall, AreSmall}
use Rattle.filter_settings.proofs.Counted.{AreAmong}

-- executable memory

by_bits : (input : CallData) (a b c : Bool) →
    option_map_or (choice_action input)
    (choice_of_bits (if a then Some prot_write_exec else if b then Some prot_exec else if c then Some shm_exec else None)) Allow
    ≡ unless_refused eperm (if a then has_bits (low input 2) prot_write_exec else if b then has_bits
    (low input 2) prot_exec else if c then has_bits (low input 2) shm_exec else false)
by_bits input true b c = ap (unless_refused eperm) (or_false (has_bits (low input 2) prot_write_exec))
by_bits input false true c = ap (unless_refused eperm) (or_false (has_bits (low input 2) prot_exec))
by_bits input false false true = ap (unless_refused eperm) (or_false (has_bits (low input 2) shm_exec))
by_bits input false false false = refl

pub mapping_means : (name : List ℕ) (input : CallData) → option_map_or (choice_action input) (mapping_choice name) Allow
    ≡ unless_refused eperm (refuses_mapping name input)
mapping_means name input = by_bits input (bytes_eq name (codes "mmap")) (is_one_of name (codes "mprotect" ∷ codes "pkey_mprotect" ∷ []))
    (bytes_eq name (codes "shmat"))

pub mapping_small : AreSmall 1 1 0 mapping_choice
mapping_small name = one (refused_bits name)
  where
    one : (o : Option ℕ) → IfSome (choice_of_bits o) (IsSmall 1 1 0)
    one None = tt
    one (Some mask) = record { cases_fit = omega arith; tests_fit = omega arith; wide_fits = omega arith; short = inl (omega arith) }

pub mapping_names : List (List ℕ)
mapping_names = codes "mmap" ∷ codes "mprotect" ∷ codes "pkey_mprotect" ∷ codes "shmat" ∷ []

pub mapping_among : AreAmong mapping_names mapping_choice
unfolding mapping_names
mapping_among name = named (bytes_eq name (codes "mmap")) (bytes_eq name (codes "mprotect")) (bytes_eq name (codes "pkey_mprotect"))
    (bytes_eq name (codes "shmat"))
  where
    named : (a b c d : Bool) → is_some
        (choice_of_bits (if a then Some prot_write_exec else if b ||
        (c || false) then Some prot_exec else if d then Some shm_exec else None)) ≡ true → (a || (b || (c || (d || false)))) ≡ true
    named true b c d h = refl
    named false true c d h = refl
    named false false true d h = refl
    named false false false true h = refl
    named false false false false h = h

pub length_mapping_names : length mapping_names ≡ 4
unfolding mapping_names
length_mapping_names = refl

-- one call with one list of allowed values

allowed : (systemd : Option Version) (input : CallData) (at : ℕ) (values : List ℕ) (test : ℕ → Bool) (named : Bool)
    → ((word : ℕ) → list_any (λ value. word == value) values ≡ test word) →
    option_map_or (choice_action input) (if named then Some (allowed_values systemd at (map (whole at) values)) else None) Allow
    ≡ unless_refused eperm (named && not (meets systemd input at test))
allowed systemd input at values test true h =
    by_value_means systemd input at values test Allow (Errno eperm) h ∙ turned (meets systemd input at test)
  where
    turned : (b : Bool) → cond b Allow (Errno eperm) ≡ cond (not b) (Errno eperm) Allow
    turned true = refl
    turned false = refl
allowed systemd input at values test false h = refl

ordinary : (policy : ℕ) → list_any (λ value. policy == value) (sched_other ∷ sched_batch ∷ sched_idle ∷ []) ≡ is_ordinary policy
ordinary policy = ap (λ b. (policy == sched_other) || ((policy == sched_batch) || b)) (or_false (policy == sched_idle))

pub realtime_means : (systemd : Option Version) (name : List ℕ) (input : CallData)
    → option_map_or (choice_action input) (realtime_choice systemd name) Allow
    ≡ unless_refused eperm (refuses_policy systemd name input)
realtime_means systemd name input =
    allowed systemd input 1 (sched_other ∷ sched_batch ∷ sched_idle ∷ []) is_ordinary (bytes_eq name (codes "sched_setscheduler")) ordinary

permitted : (systemd : Option Version) (domain : Domain) (persona : ℕ)
    → list_any (λ value. persona == value) (permitted_values systemd domain) ≡ permits_domain systemd domain persona
permitted None domain persona = ap (λ b. (persona == 0) || b) (or_false (persona == 0xffff_ffff))
permitted (Some version) domain persona = or_false (persona == number_of domain)

pub personality_means : (systemd : Option Version) (domain : Domain) (name : List ℕ) (input : CallData)
    → option_map_or (choice_action input) (personality_choice systemd domain name) Allow
    ≡ unless_refused eperm (refuses_personality systemd domain name input)
personality_means systemd domain name input =
    allowed systemd input 0 (permitted_values systemd domain) (permits_domain systemd domain) (bytes_eq name (codes "personality"))
    (permitted systemd domain)

pub realtime_small : (systemd : Option Version) → AreSmall 3 1 1 (realtime_choice systemd)
realtime_small systemd name = one (bytes_eq name (codes "sched_setscheduler"))
  where
    one : (b : Bool) → IfSome
        (if b then Some (allowed_values systemd 1 (whole 1 sched_other ∷ whole 1 sched_batch ∷ whole 1 sched_idle ∷ [])) else None)
        (IsSmall 3 1 1)
    one true = record {
      cases_fit = omega arith;
      tests_fit = omega arith;
      wide_fits = wide_few systemd 1 (Errno eperm);
      short = inl (omega arith);
    }
    one false = tt

pub personality_small : (systemd : Option Version) (domain : Domain) → AreSmall 2 1 1 (personality_choice systemd domain)
personality_small systemd domain name = one systemd (bytes_eq name (codes "personality"))
  where
    one : (systemd : Option Version) (b : Bool) → IfSome
        (if b then Some (allowed_values systemd 0 (map (whole 0) (permitted_values systemd domain))) else None) (IsSmall 2 1 1)
    one None true = record { cases_fit = omega arith; tests_fit = omega arith; wide_fits = omega arith; short = inl (omega arith) }
    one (Some version) true = record { cases_fit = omega arith; tests_fit = omega arith; wide_fits = omega arith; short = inl (omega arith) }
    one systemd false = tt

-- a choice for one name alone
pub one_name : (only : List ℕ) (choose : List ℕ → Option Choice) → ((name : List ℕ) → bytes_eq name only ≡ false → choose name ≡ None)
    → AreAmong (only ∷ []) choose
one_name only choose h name some =
    elim (bytes_eq name only) as (λ b. bytes_eq name only ≡ b → (b || false) ≡ true)
    [ true ↦ λ e. refl | false ↦ λ e. sym (ap is_some (h name e)) ∙ some ] refl

pub realtime_among : (systemd : Option Version) → AreAmong (codes "sched_setscheduler" ∷ []) (realtime_choice systemd)
realtime_among systemd = one_name (codes "sched_setscheduler") (realtime_choice systemd)
    (λ name e. ap (λ b. if b then Some (allowed_values systemd 1 (whole 1 sched_other ∷ whole 1 sched_batch ∷ whole 1 sched_idle ∷ [])) else None) e)

pub personality_among : (systemd : Option Version) (domain : Domain) → AreAmong (codes "personality" ∷ []) (personality_choice systemd domain)
personality_among systemd domain = one_name (codes "personality") (personality_choice systemd domain)
    (λ name e. ap (λ b. if b then Some (allowed_values systemd 0 (map (whole 0) (permitted_values systemd domain))) else None) e)

-- blocked calls

pub blocked_means : (table : Table) (words : List (List ℕ)) (name : List ℕ) (input : CallData)
    → option_map_or (choice_action input) (blocked_choice table words name) Allow ≡ unless_refused eperm (is_blocked table words name)
blocked_means table words name input = by_test (is_blocked table words name)
  where
    by_test : (b : Bool) → option_map_or (choice_action input) (if b then Some (always (Errno eperm)) else None) Allow
        ≡ unless_refused eperm b
    by_test true = refl
    by_test false = refl

always_small : (action : Action) → IsSmall 0 1 0 (always action)
always_small action = record { cases_fit = omega arith; tests_fit = omega arith; wide_fits = omega arith; short = inl (omega arith) }

pub blocked_small : (table : Table) (words : List (List ℕ)) → AreSmall 0 1 0 (blocked_choice table words)
blocked_small table words name = one (is_blocked table words name)
  where
    one : (b : Bool) → IfSome (if b then Some (always (Errno eperm)) else None) (IsSmall 0 1 0)
    one true = always_small (Errno eperm)
    one false = tt

pub blocked_among : (table : Table) (words : List (List ℕ)) → ((name : List ℕ) → is_blocked table words name ≡ is_one_of name words)
    → AreAmong words (blocked_choice table words)
blocked_among table words h name some = sym (h name) ∙ by_test (is_blocked table words name) some
  where
    by_test : (b : Bool) → is_some (if b then Some (always (Errno eperm)) else None) ≡ true → b ≡ true
    by_test true s = refl
    by_test false s = s

-- listed calls

pub calls_mean : (table : Table) (calls : Option CallList) (default : Action) (name : List ℕ) (input : CallData) →
    option_map_or (choice_action input) (calls_choice table calls default name) (rest_action calls default)
    ≡ call_action table calls default name
calls_mean table None default name input = refl
calls_mean table (Some list) default name input = by list.hides_unknown (listed_by table list.mentions name)
  where
    by : (hides : Bool) (o : Option Mention) →
        option_map_or (choice_action input)
        (if hides then Some (always (option_map_or (listed_action list.mode default) o (hidden_action (hides && is_unknown table name) list.mode default)))
        else option_map (λ mention. always (listed_action list.mode default mention)) o)
        (hidden_action hides list.mode default)
        ≡ option_map_or (listed_action list.mode default) o (hidden_action (hides && is_unknown table name) list.mode default)
    by true o = refl
    by false None = refl
    by false (Some mention) = refl

pub calls_small : (table : Table) (calls : Option CallList) (default : Action) → AreSmall 0 1 0 (calls_choice table calls default)
calls_small table None default name = tt
calls_small table (Some list) default name = one list.hides_unknown (listed_by table list.mentions name)
  where
    one : (hides : Bool) (o : Option Mention) → IfSome
        (if hides then Some (always (list_action table default name list))
        else option_map (λ mention. always (listed_action list.mode default mention)) o) (IsSmall 0 1 0)
    one true o = always_small (list_action table default name list)
    one false None = tt
    one false (Some mention) = always_small (listed_action list.mode default mention)
