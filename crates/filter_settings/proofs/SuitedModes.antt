-- RestrictSUIDSGID=: the rules do what the setting says.
use Rattle.std.proofs.Common.{◌≡◌, ℕ, Bool, true, false, Option, Some, None, List, [], ◌∷◌, ◌++◌, length, refl, sym, ap, ◌∙◌, arith, inl, codes}
use Rattle.std.specs.Prelude.{◌||◌, ◌&&◌, is_some, if◌then◌else◌}
use Rattle.std.specs.Option.{option_map_or, option_map, IfSome}
use Rattle.std.specs.Str.{bytes_eq}
use Rattle.std.proofs.lemmas.List.Folds.{list_any-append}
use Rattle.std.proofs.lemmas.Slice.Eq.{bytes_eq-Decides}
use Rattle.dropin_merge.specs.unit_names.declared.version.Version.{Version}
use Rattle.call_rules.specs.bpf_code.declared.machine.CallData.{CallData}
use Rattle.dropin_merge.specs.linux_numbers.Errnos.{eperm, enosys}
use Rattle.call_rules.specs.declared.actions.Action.TheVariants.{Errno, Allow}
use Rattle.filter_settings.specs.filter_rules.Actions.{unless_refused, low, has_bits, is_one_of}
use Rattle.filter_settings.specs.filter_rules.Choices.{choice_action, always, bits}
use Rattle.filter_settings.specs.declared.filter_rules.choice.Choice.{Choice}
use Rattle.filter_settings.specs.filter_rules.Suid.{mode_argument, flags_argument, sets_id_bit, refuses_mode, set_user_id, set_group_id}
use Rattle.filter_settings.specs.filter_rules.Suid.{o_creat, suid_action}
use Rattle.filter_settings.specs.filter_rules.SuidChoice.{suid_choice, mode_choice, mode_test, suid_choice_in}
use Rattle.filter_settings.proofs.LowWords.{or_false}
use Rattle.filter_settings.proofs.Suited.{IsSmall, AreSmall}
use Rattle.filter_settings.proofs.Counted.{AreAmong}

by_arguments : (input : CallData) (flags mode : Option ℕ) →
    option_map_or (choice_action input) (option_map (mode_choice (option_map (λ at. bits at o_creat) flags)) mode) Allow
    ≡ unless_refused eperm (option_map_or
    (λ at. option_map_or (λ at. has_bits (low input at) o_creat) flags true && sets_id_bit (low input at)) mode false)
by_arguments input flags None = refl
by_arguments input None (Some at) = ap (λ b. unless_refused eperm (has_bits (low input at) set_user_id || b))
    (or_false (has_bits (low input at) set_group_id))
by_arguments input (Some other) (Some at) =
    ap (λ b. unless_refused eperm (has_bits (low input other) o_creat && (has_bits (low input at) set_user_id || b)))
    (or_false (has_bits (low input at) set_group_id))

suid_means : (name : List ℕ) (input : CallData) → option_map_or (choice_action input) (suid_choice name) Allow
    ≡ unless_refused eperm (refuses_mode name input)
suid_means name input = by_arguments input (flags_argument name) (mode_argument name)

suid_small : AreSmall 2 2 0 suid_choice
suid_small name = one (flags_argument name) (mode_argument name)
  where
    one : (flags mode : Option ℕ) → IfSome (option_map (mode_choice (option_map (λ at. bits at o_creat) flags)) mode) (IsSmall 2 2 0)
    one flags None = tt
    one None (Some at) = record { cases_fit = omega arith; tests_fit = omega arith; wide_fits = omega arith; short = inl (omega arith) }
    one (Some other) (Some at) = record { cases_fit = omega arith; tests_fit = omega arith; wide_fits = omega arith; short = inl (omega arith) }

-- by the rules of a version of systemd
module _ (input : CallData) where
  later_by : (openat2 fchmodat2 refuses : Bool) (choice : Option Choice) → (fchmodat2 ≡ true → refuses ≡ false)
      → option_map_or (choice_action input) choice Allow ≡ unless_refused eperm refuses
      → option_map_or (choice_action input)
      (if openat2 then Some (always (Errno enosys)) else if fchmodat2 then Some (mode_choice None 2) else choice) Allow
      ≡ (if openat2 then Errno enosys else unless_refused eperm (refuses || (fchmodat2 && sets_id_bit (low input 2))))
  later_by true fchmodat2 refuses choice free means = refl
  later_by false true refuses choice free means =
      by_arguments input None (Some 2) ∙ ap (λ b. unless_refused eperm (b || sets_id_bit (low input 2))) (sym (free refl))
  later_by false false refuses choice free means = means ∙ ap (unless_refused eperm) (sym (or_false refuses))

-- without a version the rules do not look at fchmodat2(2)
not_moded : (name : List ℕ) (input : CallData) → bytes_eq name (codes "fchmodat2") ≡ true → refuses_mode name input ≡ false
not_moded name input is = ap (λ own. refuses_mode own input) ((bytes_eq-Decides name (codes "fchmodat2")).0 is)

pub suid_means_in : (systemd : Option Version) (name : List ℕ) (input : CallData)
    → option_map_or (choice_action input) (suid_choice_in systemd name) Allow ≡ suid_action systemd name input
suid_means_in None name input = suid_means name input
suid_means_in (Some version) name input =
    later_by input (bytes_eq name (codes "openat2")) (bytes_eq name (codes "fchmodat2")) (refuses_mode name input) (suid_choice name)
    (not_moded name input) (suid_means name input)

pub suid_small_in : (systemd : Option Version) → AreSmall 2 2 0 (suid_choice_in systemd)
suid_small_in None name = suid_small name
suid_small_in (Some version) name = one (bytes_eq name (codes "openat2")) (bytes_eq name (codes "fchmodat2")) (suid_choice name) (suid_small name)
  where
    one : (openat2 fchmodat2 : Bool) (choice : Option Choice) → IfSome choice (IsSmall 2 2 0)
        → IfSome (if openat2 then Some (always (Errno enosys)) else if fchmodat2 then Some (mode_choice None 2) else choice) (IsSmall 2 2 0)
    one true fchmodat2 choice small = record { cases_fit = omega arith; tests_fit = omega arith; wide_fits = omega arith; short = inl (omega arith) }
    one false true choice small = record { cases_fit = omega arith; tests_fit = omega arith; wide_fits = omega arith; short = inl (omega arith) }
    one false false choice small = small

abbrev first_names : List (List ℕ)
first_names = codes "chmod" ∷ codes "fchmod" ∷ codes "mkdir" ∷ codes "mknod" ∷ codes "creat" ∷ []

abbrev second_names : List (List ℕ)
second_names = codes "fchmodat" ∷ codes "mkdirat" ∷ codes "mknodat" ∷ codes "open" ∷ []

abbrev third_names : List (List ℕ)
third_names = codes "openat" ∷ []

abbrev base_names : List (List ℕ)
base_names = first_names ++ (second_names ++ third_names)

suid_among : AreAmong base_names suid_choice
suid_among name some =
    list_any-append (λ other. bytes_eq name other) first_names (second_names ++ third_names)
    ∙ ap (λ b. is_one_of name first_names || b) (list_any-append (λ other. bytes_eq name other) second_names third_names)
    ∙ named (is_one_of name first_names) (is_one_of name second_names) (bytes_eq name (codes "openat")) some
  where
    named : (a b c : Bool) → is_some
        (option_map (mode_choice (mode_test name)) (if a then Some 1 else if b then Some 2 else if c then Some 3 else None)) ≡ true
        → (a || (b || (c || false))) ≡ true
    named true b c h = refl
    named false true c h = refl
    named false false true h = refl
    named false false false h = h

pub suid_names : List (List ℕ)
suid_names = codes "openat2" ∷ codes "fchmodat2" ∷ base_names

pub length_suid_names : length suid_names ≡ 12
unfolding suid_names
length_suid_names = refl

pub suid_among_in : (systemd : Option Version) → AreAmong suid_names (suid_choice_in systemd)
unfolding suid_names
suid_among_in None name some =
    ap (λ b. bytes_eq name (codes "openat2") || (bytes_eq name (codes "fchmodat2") || b)) (suid_among name some)
    ∙ or_true (bytes_eq name (codes "openat2")) (bytes_eq name (codes "fchmodat2"))
  where
    or_true : (a b : Bool) → (a || (b || true)) ≡ true
    or_true true b = refl
    or_true false true = refl
    or_true false false = refl
suid_among_in (Some version) name some =
    named (bytes_eq name (codes "openat2")) (bytes_eq name (codes "fchmodat2")) (suid_choice name) (suid_among name) some
  where
    named : (a b : Bool) (choice : Option Choice) → (is_some choice ≡ true → is_one_of name base_names ≡ true)
        → is_some (if a then Some (always (Errno enosys)) else if b then Some (mode_choice None 2) else choice) ≡ true
        → (a || (b || is_one_of name base_names)) ≡ true
    named true b choice among h = refl
    named false true choice among h = refl
    named false false choice among h = among h
