-- Each filter, by the names that it looks at.
use Rattle.std.proofs.Common.{◌≡◌, ℕ, Bool, true, false, cond, List, [], ◌∷◌, Option, Some, None, ◌⊎◌, inl, inr, refl, ap, ◌∙◌, sym, subst}
use Rattle.std.proofs.Common.{arith, eqb}
use Rattle.std.specs.Prelude.{◌&&◌, ◌||◌, not, ◌==◌, ◌+◌, ◌/◌, ◌%◌, ◌^◌, ◌≤◌, codes, slice_index}
use Rattle.std.specs.Str.{bytes_eq}
use Rattle.std.specs.List.{list_any, AllByRecursion}
use Rattle.std.specs.Option.{option_map_or}
use Rattle.std.specs.Int.RustNames.{bit_and}
use Rattle.std.proofs.lemmas.Bool.{and_parts, and_from, or_left, or_right, or_cases, eqb-true, eq-eqb, not-true}
use Rattle.std.proofs.lemmas.Bool.Decides.{nat_tests}
use Rattle.std.proofs.lemmas.Slice.Eq.{bytes_eq-Decides}
use Rattle.filter_settings.specs.bpf_code.declared.machine.CallData.{CallData}
use Rattle.filter_settings.specs.bpf_code.declared.decision.Decision.TheVariants as decision
use Rattle.filter_settings.specs.bpf_code.Stack.{decision_of}
use Rattle.kernel_model.specs.cap_sets.Sets.{has, none, cut, union, single, within}
use Rattle.kernel_model.proofs.OfCapSets.Members.{has_cut, has_none, has_union, has_single, same_sets, within_through, IsWithin-from_within}
use Rattle.kernel_model.proofs.OfCapSets.Members.{within-from_IsWithin}
use Rattle.filter_settings.specs.call_table.declared.listed.CallLine.{CallLine}
use Rattle.filter_settings.specs.call_table.call_names.Known.{known_call}
use Rattle.filter_settings.specs.call_table.declared.call_names.kernel.Kernel.{Kernel}
use Rattle.filter_settings.specs.call_table.declared.call_names.kernel.Kernel.TheVariants as by_kernel
use Rattle.filter_settings.specs.declared.filter_rules.mentions.FamilyList.{FamilyList}
use Rattle.filter_settings.specs.declared.filter_rules.names.FilterName.TheVariants as filter
use Rattle.filter_settings.specs.linux_numbers.declared.namespaces.NamespaceType.{NamespaceType}
use Rattle.filter_settings.specs.declared.filter_rules.namespace_types.NamespaceTypes.{NamespaceTypes}
use Rattle.filter_settings.specs.linux_numbers.Namespaces as spaces
use Rattle.filter_settings.specs.filter_rules.Actions.{low, meets, has_bits, unless_refused, is_one_of}
use Rattle.filter_settings.specs.filter_rules.Families.{refuses_family, is_listed_family, is_refused_by}
use Rattle.filter_settings.specs.declared.filter_rules.mentions.Mode.{Mode}
use Rattle.filter_settings.specs.declared.filter_rules.mentions.Mode.TheVariants.{Allow, Deny}
use Rattle.filter_settings.specs.filter_rules.Mapping.{refuses_mapping}
use Rattle.filter_settings.specs.filter_rules.Realtime.{refuses_policy, is_ordinary}
use Rattle.filter_settings.specs.filter_rules.Suid.{refuses_mode, sets_id_bit, has_mode, suid_action}
use Rattle.filter_settings.specs.filter_rules.Namespaces.{refuses_namespace, has_forbidden, forbidden_types, clone_newtime, makes_time, namespace_action}
use Rattle.filter_settings.specs.filter_rules.Personality.{refuses_personality, permits_domain, keeps_domain}
use Rattle.filter_settings.specs.declared.filter_rules.personality.Domain.{Domain}
use Rattle.filter_settings.specs.declared.filter_rules.personality.Domain.TheVariants.{Linux, Linux32}
use Rattle.filter_settings.specs.declared.filter_rules.settings.FilterSettings.{FilterSettings}
use Rattle.filter_settings.specs.declared.filter_rules.names.FilterName.{FilterName}
use Rattle.filter_settings.specs.filter_rules.Wanted.{named_action}
use Rattle.filter_settings.specs.call_table.Table.{Table}
use Rattle.filter_settings.specs.call_rules.Action.{is_wide}
use Rattle.kernel_model.specs.kernel_calls.Words.{low_word}
use Rattle.kernel_model.specs.kern_files.Bits.{has_some, has_all}
use Rattle.kernel_model.specs.declared.kernel_calls.payload.Payload.{Payload}
use Rattle.kernel_model.specs.kernel_calls.Operation as d
use Rattle.kernel_model.specs.declared.kernel_calls.payload.Payload.TheVariants as pay
use Rattle.kernel_model.specs.kernel_calls.Operation.{Operation, bare, by_path, operation_by}
use Rattle.kernel_laws.specs.declared.question_types.kind.CallKind.{CallKind}
use Rattle.kernel_laws.specs.declared.question_types.kind.CallKind.TheVariants as k
use Rattle.filter_settings.specs.linux_numbers.declared.namespaces.NamespaceType.TheVariants as namespace
use Rattle.kernel_laws.specs.declared.question_types.wish.Wish.TheVariants as wish_to
use Rattle.kernel_laws.specs.Kinds.{asks, words, wide_words, made_words, one_word, no_words}
use Rattle.filter_settings.specs.call_table.call_names.Known.{place_of}
use Rattle.filter_settings.specs.call_table.declared.call_names.rule.Argument.{Argument}
use Rattle.filter_settings.specs.call_table.declared.call_names.rule.Argument.TheVariants as argument
use Rattle.filter_settings.specs.call_rules.Action.{word_of}
use Rattle.filter_settings.specs.call_rules.declared.actions.Action.TheVariants.{Errno}
use Rattle.filter_settings.specs.unit_names.declared.version.Version.{Version}
use Rattle.kernel_model.specs.declared.kernel_calls.rule.Rule.TheVariants as rule
use Rattle.filter_settings.specs.call_table.declared.call_names.rule.CallRule.TheVariants as known
use Rattle.kernel_model.specs.declared.kernel_calls.rule.Rule.{Rule}
use Rattle.kernel_model.specs.kernel_calls.Rules.{rule_of}
use Rattle.kernel_laws.specs.FirstChoice.{with_words, LetAsWell, FirstPasses}
use Rattle.kernel_laws.proofs.Filters.{bare_is}
use Rattle.kernel_laws.proofs.FirstWords.{no_wish}

abbrev pub with_name : CallLine → List ℕ → CallLine
with_name line name = record { name = name; number = line.number; cap = line.cap; abi = line.abi; kernel = line.kernel }

some_same : (own rule' : Rule) → Some own ≡ Some rule' → own ≡ rule'
some_same own rule' e = cc

-- a line of this name has the rule of the name
pub rule_named : (line : CallLine) (rule' : Rule) → rule_of line ≡ Some rule' → (name : List ℕ) (own : Rule)
    → rule_of (with_name line name) ≡ Some own → bytes_eq line.name name ≡ true → own ≡ rule'
rule_named line rule' e name own named h =
    let P : List ℕ → Type 0 = λ n. rule_of (with_name line n) ≡ Some rule' in
    some_same own rule' (sym named ∙ subst P ((bytes_eq-Decides line.name name).0 h) e)

-- the line with this name in a kernel
abbrev pub in_kernel : CallLine → List ℕ → Kernel → CallLine
in_kernel line name kernel = record { name = name; number = line.number; cap = line.cap; abi = line.abi; kernel = kernel }

-- a line of a name that has this rule in one kernel, and that rule in the other, or none
abbrev pub HasRules : CallLine → List ℕ → Rule → Rule → Type 0
HasRules line name one other = (kernel : Kernel) (found : Rule) → rule_of (in_kernel line name kernel) ≡ Some found
    → (one ≡ found) ⊎ (other ≡ found)

pub rules_named : (line : CallLine) (rule' : Rule) → rule_of line ≡ Some rule' → (name : List ℕ) (one other : Rule)
    → HasRules line name one other → bytes_eq line.name name ≡ true → (one ≡ rule') ⊎ (other ≡ rule')
rules_named line rule' e name one other either h =
    let P : List ℕ → Type 0 = λ n. rule_of (with_name line n) ≡ Some rule' in
    either line.kernel rule' (subst P ((bytes_eq-Decides line.name name).0 h) e)

-- open(2) and openat(2), whose mode Linux looks at
pub open_rules : (line : CallLine) → HasRules line (codes "open") (rule.Known (known.Open argument.Second))
    (rule.Known (known.OpenWith argument.Second))
unfolding rule_of known_call
open_rules line by_kernel.Base found e = inl (some_same (rule.Known (known.Open argument.Second)) found e)
open_rules line by_kernel.Linux found e = inr (some_same (rule.Known (known.OpenWith argument.Second)) found e)

pub openat_rules : (line : CallLine) → HasRules line (codes "openat") (rule.Known (known.Open argument.Third))
    (rule.Known (known.OpenWith argument.Third))
unfolding rule_of known_call
openat_rules line by_kernel.Base found e = inl (some_same (rule.Known (known.Open argument.Third)) found e)
openat_rules line by_kernel.Linux found e = inr (some_same (rule.Known (known.OpenWith argument.Third)) found e)

-- creat(2), whose mode Linux looks at
pub creat_rules : (line : CallLine) → HasRules line (codes "creat") (rule.Known known.Create) (rule.Known known.CreateWith)
unfolding rule_of known_call
creat_rules line by_kernel.Base found e = inl (some_same (rule.Known known.Create) found e)
creat_rules line by_kernel.Linux found e = inr (some_same (rule.Known known.CreateWith) found e)

-- fchmodat2(2), which the base kernel lacks
pub fchmodat2_rules : (line : CallLine) → HasRules line (codes "fchmodat2") (rule.Known (known.SetMode argument.Third))
    (rule.Known (known.SetMode argument.Third))
unfolding rule_of known_call
fchmodat2_rules line by_kernel.Base found e = cc
fchmodat2_rules line by_kernel.Linux found e = inr (some_same (rule.Known (known.SetMode argument.Third)) found e)

-- the words that ask first have this in their place
first_is : (one first : List ℕ) → Some one ≡ Some first → one ≡ first
first_is one first e = cc

below : (n word : ℕ) → eqb (word % 2 ^ 32) n ≡ true → n % 2 ^ 32 ≡ word % 2 ^ 32
below n word h = let e = eqb-true (word % 2 ^ 32) n h in omega (arith, e)

kind-Socket : (kind : CallKind) (args first : List ℕ) → asks kind (d.Socket (low_word args 0)) ≡ true
    → words kind (rule.Known known.Socket) ≡ Some first → low_word first 0 ≡ low_word args 0
kind-Socket (k.ForPath wish) args first h e = no_wish (d.Socket (low_word args 0)) refl wish h
kind-Socket (k.ForFamily family) args first h e = ap (λ (w : List ℕ). low_word w 0) (sym (first_is (one_word 0 family) first e))
    ∙ below family (slice_index args 0) h
kind-Socket kind args first h e = cc

-- the first words hold the family itself
kind-Narrow : (kind : CallKind) (args first : List ℕ) → asks kind (d.Socket (low_word args 0)) ≡ true
    → words kind (rule.Known known.Socket) ≡ Some first → slice_index first 0 ≡ low_word args 0
kind-Narrow (k.ForPath wish) args first h e = no_wish (d.Socket (low_word args 0)) refl wish h
kind-Narrow (k.ForFamily family) args first h e = ap (λ (w : List ℕ). slice_index w 0) (sym (first_is (one_word 0 family) first e))
    ∙ sym (eqb-true (low_word args 0) family h)
kind-Narrow kind args first h e = cc

-- and the wide ones a higher bit as well
kind-Wide : (kind : CallKind) (args : List ℕ) → asks kind (d.Socket (low_word args 0)) ≡ true
    → (family : ℕ) × (wide_words kind (rule.Known known.Socket) ≡ Some (one_word 0 (2 ^ 32 + family)))
kind-Wide (k.ForPath wish) args h = no_wish (d.Socket (low_word args 0)) refl wish h
kind-Wide (k.ForFamily family) args h = (family, refl)
kind-Wide kind args h = cc

kind-Map : (kind : CallKind) (args first : List ℕ) → asks kind (d.Map (low_word args 2)) ≡ true
    → words kind (rule.Known known.Map) ≡ Some first → has_bits (low_word args 2) 6 ≡ true
kind-Map (k.ForPath wish) args first h e = no_wish (d.Map (low_word args 2)) refl wish h
kind-Map k.MapsWx args first h e = h
kind-Map kind args first h e = cc

kind-Protect : (kind : CallKind) (args first : List ℕ) → asks kind (d.Protect (low_word args 2)) ≡ true
    → words kind (rule.Known known.Protect) ≡ Some first → has_bits (low_word args 2) 4 ≡ true
kind-Protect (k.ForPath wish) args first h e = no_wish (d.Protect (low_word args 2)) refl wish h
kind-Protect k.ProtectsX args first h e = h
kind-Protect kind args first h e = cc

kind-Attach : (kind : CallKind) (args first : List ℕ) → asks kind (d.Attach (low_word args 2)) ≡ true
    → words kind (rule.Known known.Attach) ≡ Some first → has_bits (low_word args 2) 0x8000 ≡ true
kind-Attach (k.ForPath wish) args first h e = no_wish (d.Attach (low_word args 2)) refl wish h
kind-Attach k.AttachesX args first h e = h
kind-Attach k.AttachesReadOnlyX args first h e = (and_parts (has_all 0x8000 (low_word args 2)) (has_all 0x1000 (low_word args 2)) h).0
kind-Attach kind args first h e = cc

realtime_is : (policy : ℕ) → (policy == 1 || policy == 2) ≡ true → not (is_ordinary policy) ≡ true
realtime_is policy h = grind (arith, nat_tests)

kind-Schedule : (kind : CallKind) (args first : List ℕ) → asks kind (d.Schedule (low_word args 1)) ≡ true
    → words kind (rule.Known known.Schedule) ≡ Some first → not (is_ordinary (low_word args 1)) ≡ true
kind-Schedule (k.ForPath wish) args first h e = no_wish (d.Schedule (low_word args 1)) refl wish h
kind-Schedule k.SchedulesRealtime args first h e = realtime_is (low_word args 1) h
kind-Schedule kind args first h e = cc

kind-Personality : (kind : CallKind) (args first : List ℕ) → asks kind (d.Personality (low_word args 0)) ≡ true
    → words kind (rule.Known known.Personality) ≡ Some first → not (keeps_domain (low_word args 0)) ≡ true
kind-Personality (k.ForPath wish) args first h e = no_wish (d.Personality (low_word args 0)) refl wish h
kind-Personality k.TakesPersonality args first h e = h
kind-Personality kind args first h e = cc

first_persona : (kind : CallKind) (args first : List ℕ) → asks kind (d.Personality (low_word args 0)) ≡ true
    → words kind (rule.Known known.Personality) ≡ Some first → first ≡ one_word 0 8
first_persona (k.ForPath wish) args first h e = no_wish (d.Personality (low_word args 0)) refl wish h
first_persona k.TakesPersonality args first h e = sym (first_is (one_word 0 8) first e)
first_persona kind args first h e = cc

not_linux : (persona : ℕ) → not (keeps_domain persona) ≡ true → not (persona == 0) ≡ true
not_linux persona h = by (persona == 0) h
  where
    by : (b : Bool) → not (b || persona == 0xffff_ffff) ≡ true → not b ≡ true
    by true h = cc
    by false h = refl

-- an argument whose low word fails a test does not meet it
meets_none : (systemd : Option Version) (input : CallData) (at : ℕ) (test : ℕ → Bool) → not (test (low input at)) ≡ true
    → not (meets systemd input at test) ≡ true
meets_none None input at test h = h
meets_none (Some version) input at test h = by (is_wide input at)
  where
    by : (b : Bool) → not (not b && test (low input at)) ≡ true
    by true = refl
    by false = h

-- the domain of the first words, with a version of systemd
persona_passes : (version : Version) (domain : Domain) (input first : CallData) → not (keeps_domain (low input 0)) ≡ true
    → first.args ≡ one_word 0 8 → not (meets (Some version) first 0 (permits_domain (Some version) domain)) ≡ true
    → not (meets (Some version) input 0 (permits_domain (Some version) domain)) ≡ true
persona_passes version Linux input first kept is h =
    meets_none (Some version) input 0 (permits_domain (Some version) Linux) (not_linux (low input 0) kept)
persona_passes version Linux32 input first kept is h =
    let P : List ℕ → Bool = λ args. not (not (not (slice_index args 0 / 2 ^ 32 == 0)) && (slice_index args 0 % 2 ^ 32 == 8)) in
    let off : false ≡ true = ap P (sym is) ∙ h in
    cc

-- families
nonzero : (n : ℕ) → 1 ≤ n → eqb n 0 ≡ false
nonzero n h = grind (arith, nat_tests)

high : (family : ℕ) → eqb ((2 ^ 32 + family) / 2 ^ 32) 0 ≡ false
high family = nonzero ((2 ^ 32 + family) / 2 ^ 32) (omega arith)

-- a low word has no high bit
narrow : (n : ℕ) → not (n % 2 ^ 32 / 2 ^ 32 == 0) ≡ false
narrow n = ap not (eq-eqb (n % 2 ^ 32 / 2 ^ 32) 0 (omega arith))

low_twice : (n : ℕ) → n % 2 ^ 32 % 2 ^ 32 ≡ n % 2 ^ 32
low_twice n = omega arith

-- a list that allows lets no call through whose family it does not list
allows_no_other : (wide listed wide' listed' : Bool) → wide ≡ false → listed ≡ listed' → not (not wide && listed) ≡ true
    → not (not wide' && listed') ≡ false → ⊥
allows_no_other wide listed true listed' n s e f = cc
allows_no_other wide listed false false n s e f = cc
allows_no_other true listed false true n s e f = cc
allows_no_other false true false true n s e f = cc
allows_no_other false false false true n s e f = cc

abbrev refused : Option Version → Option FamilyList → CallData → Bool
refused systemd families input =
    option_map_or (λ list. is_refused_by list.mode (meets systemd input 0 (is_listed_family list.mentions))) families false

-- where a family is refused, and a call for it passes, a wide one does
wide_passes : (systemd : Option Version) (families : Option FamilyList) (input first : CallData) (family : ℕ)
    → slice_index first.args 0 ≡ low_word input.args 0 → refused systemd families first ≡ true
    → refused systemd families input ≡ false → refused systemd families (with_words input (one_word 0 (2 ^ 32 + family))) ≡ false
wide_passes systemd None input first family word e f = cc
wide_passes None (Some list) input first family word e f =
    let same : refused None (Some list) first ≡ refused None (Some list) input = ap (λ n. is_refused_by list.mode (is_listed_family list.mentions n)) (ap (λ n. n % 2 ^ 32) word ∙ low_twice (slice_index input.args 0)) in
    let clash : true ≡ false = sym e ∙ same ∙ f in
    cc
wide_passes (Some version) (Some list) input first family word e f = by list.mode e f
  where
    by : (mode : Mode) → is_refused_by mode (not (not (slice_index first.args 0 / 2 ^ 32 == 0)) && is_listed_family list.mentions (slice_index first.args 0 % 2 ^ 32)) ≡ true
        → is_refused_by mode (not (is_wide input 0) && is_listed_family list.mentions (low input 0)) ≡ false
        → is_refused_by mode (not (not ((2 ^ 32 + family) / 2 ^ 32 == 0)) && is_listed_family list.mentions ((2 ^ 32 + family) % 2 ^ 32)) ≡ false
    by Allow e f =
        absurd (allows_no_other (not (slice_index first.args 0 / 2 ^ 32 == 0)) (is_listed_family list.mentions (slice_index first.args 0 % 2 ^ 32)) (is_wide input 0)
        (is_listed_family list.mentions (low input 0)) (ap (λ n. not (n / 2 ^ 32 == 0)) word ∙ narrow (slice_index input.args 0))
        (ap (λ n. is_listed_family list.mentions (n % 2 ^ 32)) word
        ∙ ap (is_listed_family list.mentions) (low_twice (slice_index input.args 0))) e f)
    by Deny e f = ap (λ b. not (not b) && is_listed_family list.mentions ((2 ^ 32 + family) % 2 ^ 32)) (high family)

-- a set-user-id or a set-group-id bit
bit_is : (mode number : ℕ) → has mode number ≡ true → has_bits mode (2 ^ number) ≡ true
unfolding cut single
bit_is mode number h = eq-eqb (bit_and mode (2 ^ number)) (2 ^ number)
    (same_sets (cut mode (single number)) (single number) (λ n. by n (n == number) refl))
  where
    by : (n : ℕ) (b : Bool) → (n == number) ≡ b → has (cut mode (single number)) n ≡ has (single number) n
    by n true e =
        let same : n ≡ number = eqb-true n number e in
        has_cut mode (single number) n ∙ ap (λ m. has mode m && has (single number) n) same ∙ ap (λ b. b && has (single number) n) h
    by n false e =
        let off : has (single number) n ≡ false = has_single number n ∙ e in
        has_cut mode (single number) n ∙ ap (λ b. has mode n && b) off ∙ and_off (has mode n) ∙ sym off
      where
        and_off : (b : Bool) → (b && false) ≡ false
        and_off true = refl
        and_off false = refl

abbrev id_mask : ℕ
id_mask = 0xc00

mask_is : (number : ℕ) → has id_mask number ≡ true → (number ≡ 11) ⊎ (number ≡ 10)
unfolding union single
mask_is number h =
    let parts : (has (single 11) number || has (single 10) number) ≡ true = sym (has_union (single 11) (single 10) number) ∙ h in
    elim (or_cases (has (single 11) number) (has (single 10) number) parts) [
      | inl a ↦ inl (eqb-true number 11 (sym (has_single 11 number) ∙ a))
      | inr b ↦ inr (eqb-true number 10 (sym (has_single 10 number) ∙ b))
    ]

id_bit : (mode : ℕ) → has_some id_mask mode ≡ true → sets_id_bit mode ≡ true
unfolding cut none
id_bit mode h = by (has mode 11) (has mode 10) refl refl
  where
    empty : has mode 11 ≡ false → has mode 10 ≡ false → cut mode id_mask ≡ none
    empty a b = same_sets (cut mode id_mask) none (λ n. has_cut mode id_mask n ∙ each n (has id_mask n) refl ∙ sym (has_none n))
      where
        off_both : (x : Bool) → (x && false) ≡ false
        off_both true = refl
        off_both false = refl

        each : (n : ℕ) (m : Bool) → has id_mask n ≡ m → (has mode n && has id_mask n) ≡ false
        each n true e = elim (mask_is n e) [
          | inl s ↦ ap (λ x. has mode x && has id_mask n) s ∙ ap (λ x. x && has id_mask n) a
          | inr s ↦ ap (λ x. has mode x && has id_mask n) s ∙ ap (λ x. x && has id_mask n) b
        ]
        each n false e = ap (λ x. has mode n && x) e ∙ off_both (has mode n)

    by : (a b : Bool) → has mode 11 ≡ a → has mode 10 ≡ b → sets_id_bit mode ≡ true
    by true b e g = or_left _ _ (bit_is mode 11 e)
    by false true e g = or_right _ _ (bit_is mode 10 g)
    by false false e g =
        let zero' : eqb (bit_and mode id_mask) 0 ≡ true = eq-eqb (bit_and mode id_mask) 0 (empty e g) in
        let off = not-true (eqb (bit_and mode id_mask) 0) h in
        cc

kind-SetMode : (kind : CallKind) (args first : List ℕ) (at : Argument) → asks kind (d.SetMode (low_word args (place_of at))) ≡ true
    → words kind (rule.Known (known.SetMode at)) ≡ Some first → sets_id_bit (low_word args (place_of at)) ≡ true
kind-SetMode (k.ForPath wish) args first at h e = no_wish (d.SetMode (low_word args (place_of at))) refl wish h
kind-SetMode k.SetsMode args first at h e = id_bit (low_word args (place_of at)) h
kind-SetMode kind args first at h e = cc

flag_low : (space : NamespaceType) → spaces.flag_of space % 2 ^ 32 ≡ spaces.flag_of space
flag_low namespace.Cgroup = refl
flag_low namespace.Ipc = refl
flag_low namespace.Net = refl
flag_low namespace.Mnt = refl
flag_low namespace.Pid = refl
flag_low namespace.User = refl
flag_low namespace.Uts = refl

-- a mask that the flag has, flags with the flag have
more_bits : (flag flags mask : ℕ) → has_all flag flags ≡ true → has_bits flag mask ≡ true → has_bits flags mask ≡ true
unfolding within
more_bits flag flags mask h g = within-from_IsWithin mask flags
    (within_through mask flag flags (IsWithin-from_within mask flag g) (IsWithin-from_within flag flags h))

abbrev MoreBits : List ℕ → List ℕ → Type 0
MoreBits args first = (mask : ℕ) → has_bits (low_word first 0) mask ≡ true → has_bits (low_word args 0) mask ≡ true

space_bits : (space : NamespaceType) (args first : List ℕ) → has_all (spaces.flag_of space) (low_word args 0) ≡ true
    → Some (one_word 0 (spaces.flag_of space)) ≡ Some first → MoreBits args first
space_bits space args first h e mask g =
    let low' : low_word first 0 ≡ spaces.flag_of space = ap (λ (w : List ℕ). low_word w 0) (sym (first_is (one_word 0 (spaces.flag_of space)) first e)) ∙ flag_low space in
    more_bits (spaces.flag_of space) (low_word args 0) mask h (ap (λ n. has_bits n mask) (sym low') ∙ g)

kind-Unshare : (kind : CallKind) (args first : List ℕ) → asks kind (d.Unshare (low_word args 0)) ≡ true
    → words kind (rule.Known known.Unshare) ≡ Some first → MoreBits args first
kind-Unshare (k.ForPath wish) args first h e = no_wish (d.Unshare (low_word args 0)) refl wish h
kind-Unshare (k.ForNamespace space) args first h e = space_bits space args first h e
kind-Unshare kind args first h e = cc

kind-Clone : (kind : CallKind) (args first : List ℕ) → asks kind (d.Clone (low_word args 0)) ≡ true
    → words kind (rule.Known known.Clone) ≡ Some first → MoreBits args first
kind-Clone (k.ForPath wish) args first h e = no_wish (d.Clone (low_word args 0)) refl wish h
kind-Clone (k.ForNamespace space) args first h e = space_bits space args first h e
kind-Clone kind args first h e = cc

kind-Enter : (kind : CallKind) (first : List ℕ) → words kind (rule.Known known.Enter) ≡ Some first → ⊥
kind-Enter (k.ForPath wish_to.See) first e = cc
kind-Enter (k.ForPath wish_to.Read) first e = cc
kind-Enter (k.ForPath wish_to.Write) first e = cc
kind-Enter (k.ForPath wish_to.Exec) first e = cc
kind-Enter kind first e = cc

kind-Create : (kind : CallKind) (first : List ℕ) → words kind (rule.Known known.Create) ≡ Some first → low_word first 1 ≡ 0
kind-Create (k.ForPath wish_to.See) first e = cc
kind-Create (k.ForPath wish_to.Read) first e = cc
kind-Create (k.ForPath wish_to.Write) first e = ap (λ (w : List ℕ). low_word w 1) (sym (first_is no_words first e))
kind-Create (k.ForPath wish_to.Exec) first e = cc
kind-Create kind first e = cc

-- creat(2) that is asked for a set-id bit by its mode
created_mode : (mode : ℕ) (payload : Payload) (operation : Operation) → by_path (d.Create mode) payload ≡ Some operation
    → asks k.CreatesMode operation ≡ true → sets_id_bit mode ≡ true
created_mode mode (pay.OnePath path) operation e h =
    let own : d.Create mode path ≡ operation = cc in
    id_bit mode (ap (asks k.CreatesMode) own ∙ h)
created_mode mode payload operation e h = cc

-- the first words for another kind have no mode
kind-CreateWith : (kind : CallKind) (mode : ℕ) (payload : Payload) (operation : Operation) (first : List ℕ)
    → by_path (d.Create mode) payload ≡ Some operation → asks kind operation ≡ true → words kind (rule.Known known.CreateWith) ≡ Some first
    → (low_word first 1 ≡ 0) ⊎ (sets_id_bit mode ≡ true)
kind-CreateWith (k.ForPath wish_to.See) mode payload operation first e h are = cc
kind-CreateWith (k.ForPath wish_to.Read) mode payload operation first e h are = cc
kind-CreateWith (k.ForPath wish_to.Write) mode payload operation first e h are =
    inl (ap (λ (w : List ℕ). low_word w 1) (sym (first_is no_words first are)))
kind-CreateWith (k.ForPath wish_to.Exec) mode payload operation first e h are = cc
kind-CreateWith k.CreatesMode mode payload operation first e h are = inr (created_mode mode payload operation e h)
kind-CreateWith kind mode payload operation first e h are = cc

kind-Open-1 : (kind : CallKind) (first : List ℕ) → words kind (rule.Known (known.Open argument.Second)) ≡ Some first
    → has_bits (low_word first 1) 0x40 ≡ false
kind-Open-1 (k.ForPath wish_to.See) first e = cc
kind-Open-1 (k.ForPath wish_to.Read) first e = ap (λ (w : List ℕ). has_bits (low_word w 1) 0x40) (sym (first_is no_words first e))
kind-Open-1 (k.ForPath wish_to.Write) first e = ap (λ (w : List ℕ). has_bits (low_word w 1) 0x40) (sym (first_is (one_word 1 1) first e))
kind-Open-1 (k.ForPath wish_to.Exec) first e = cc
kind-Open-1 kind first e = cc

kind-Open-2 : (kind : CallKind) (first : List ℕ) → words kind (rule.Known (known.Open argument.Third)) ≡ Some first
    → has_bits (low_word first 2) 0x40 ≡ false
kind-Open-2 (k.ForPath wish_to.See) first e = cc
kind-Open-2 (k.ForPath wish_to.Read) first e = ap (λ (w : List ℕ). has_bits (low_word w 2) 0x40) (sym (first_is no_words first e))
kind-Open-2 (k.ForPath wish_to.Write) first e = ap (λ (w : List ℕ). has_bits (low_word w 2) 0x40) (sym (first_is (one_word 2 1) first e))
kind-Open-2 (k.ForPath wish_to.Exec) first e = cc
kind-Open-2 kind first e = cc

kind-OpenWith-1 : (kind : CallKind) (first : List ℕ) → words kind (rule.Known (known.OpenWith argument.Second)) ≡ Some first
    → has_bits (low_word first 1) 0x40 ≡ false
kind-OpenWith-1 (k.ForPath wish_to.See) first e = cc
kind-OpenWith-1 (k.ForPath wish_to.Read) first e = ap (λ (w : List ℕ). has_bits (low_word w 1) 0x40) (sym (first_is no_words first e))
kind-OpenWith-1 (k.ForPath wish_to.Write) first e = ap (λ (w : List ℕ). has_bits (low_word w 1) 0x40) (sym (first_is (one_word 1 1) first e))
kind-OpenWith-1 (k.ForPath wish_to.Exec) first e = cc
kind-OpenWith-1 k.OpensMode first e =
    ap (λ (w : List ℕ). has_bits (low_word w 1) 0x40) (sym (first_is (made_words argument.Second) first e))
kind-OpenWith-1 kind first e = cc

kind-OpenWith-2 : (kind : CallKind) (first : List ℕ) → words kind (rule.Known (known.OpenWith argument.Third)) ≡ Some first
    → has_bits (low_word first 2) 0x40 ≡ false
kind-OpenWith-2 (k.ForPath wish_to.See) first e = cc
kind-OpenWith-2 (k.ForPath wish_to.Read) first e = ap (λ (w : List ℕ). has_bits (low_word w 2) 0x40) (sym (first_is no_words first e))
kind-OpenWith-2 (k.ForPath wish_to.Write) first e = ap (λ (w : List ℕ). has_bits (low_word w 2) 0x40) (sym (first_is (one_word 2 1) first e))
kind-OpenWith-2 (k.ForPath wish_to.Exec) first e = cc
kind-OpenWith-2 k.OpensMode first e =
    ap (λ (w : List ℕ). has_bits (low_word w 2) 0x40) (sym (first_is (made_words argument.Third) first e))
kind-OpenWith-2 kind first e = cc

-- the names of which the second word is a mode, and the third
abbrev seconds : List (List ℕ)
seconds = codes "chmod" ∷ codes "fchmod" ∷ codes "mkdir" ∷ codes "mknod" ∷ codes "creat" ∷ []

abbrev thirds : List (List ℕ)
thirds = codes "fchmodat" ∷ codes "mkdirat" ∷ codes "mknodat" ∷ codes "open" ∷ []

-- ---- let through exactly where not refused
off-1 : (b : Bool) → decision_of (word_of (unless_refused 1 b)) ≡ decision.Pass → b ≡ false
off-1 true e = cc
off-1 false e = refl

off-97 : (b : Bool) → decision_of (word_of (unless_refused 97 b)) ≡ decision.Pass → b ≡ false
off-97 true e = cc
off-97 false e = refl

carry : (number : ℕ) (x y : Bool) → ((b : Bool) → decision_of (word_of (unless_refused number b)) ≡ decision.Pass → b ≡ false)
    → (y ≡ true → x ≡ true)
    → decision_of (word_of (unless_refused number x)) ≡ decision.Pass → decision_of (word_of (unless_refused number y)) ≡ decision.Pass
carry number x true off up e = let on = up refl in let no' = off x e in cc
carry number x false off up e = refl

-- a line that has a rule has no name without one
pub named_none : (line : CallLine) (rule' : Rule) → rule_of line ≡ Some rule' → (name : List ℕ) → rule_of (with_name line name) ≡ None
    → bytes_eq line.name name ≡ false
named_none line rule' is name none = by (bytes_eq line.name name) refl
  where
    by : (b : Bool) → bytes_eq line.name name ≡ b → b ≡ false
    by false e = refl
    by true e =
        let P : List ℕ → Type 0 = λ n. rule_of (with_name line n) ≡ Some rule' in
        let clash : Some rule' ≡ None = sym (subst P ((bytes_eq-Decides line.name name).0 e) is) ∙ none in
        cc

-- ---- the filters
module _ (line : CallLine) (rule' : Rule) (kind : CallKind) (payload : Payload) (operation : Operation) (input first : CallData)
    (is : rule_of line ≡ Some rule') (does : operation_by rule' input.args payload ≡ Some operation)
    (asked : asks kind operation ≡ true) (are : words kind rule' ≡ Some first.args) where
  record IsWide (systemd : Option Version) (families : Option FamilyList) : Type 0 where
    family : ℕ
    wide_are : wide_words kind rule' ≡ Some (one_word 0 (2 ^ 32 + family))
    name : line.name ≡ codes "socket"
    passes : refused systemd families (with_words input (one_word 0 (2 ^ 32 + family))) ≡ false

  words_at : (own : Rule) → own ≡ rule' → words kind own ≡ Some first.args
  words_at own e = ap (λ (r : Rule). words kind r) e ∙ are

  rule_is : (name : List ℕ) (own : Rule) → rule_of (with_name line name) ≡ Some own → bytes_eq line.name name ≡ true → own ≡ rule'
  rule_is = rule_named line rule' is

  bare_at : (own : Rule) (what : Operation) → own ≡ rule' → ((p : Payload) → operation_by own input.args p ≡ bare what p) → asks kind what ≡ true
  bare_at own what e h =
      let does' : operation_by own input.args payload ≡ Some operation = ap (λ (r : Rule). operation_by r input.args payload) e ∙ does in
      ap (asks kind) (bare_is operation what payload (sym (h payload) ∙ does')) ∙ asked

  -- a line of this name has this rule: the call asks by it, and the words that ask first are by it
  by_rule : {C : Type 0} (name : List ℕ) (own : Rule) (what : Operation) → rule_of (with_name line name) ≡ Some own
      → ((p : Payload) → operation_by own input.args p ≡ bare what p)
      → (asks kind what ≡ true → words kind own ≡ Some first.args → C) → bytes_eq line.name name ≡ true → C
  by_rule name own what named bare' then' h = let e = rule_is name own named h in then' (bare_at own what e bare') (words_at own e)

  -- one of these names, each of which shows it
  one_of : {C : Type 0} (names : List (List ℕ)) → is_one_of line.name names ≡ true
      → AllByRecursion (λ name. bytes_eq line.name name ≡ true → C) names → C
  one_of [] h each = cc
  one_of (name ∷ names) h each = elim (or_cases (bytes_eq line.name name) (is_one_of line.name names) h)
      [ inl n ↦ each.0 n | inr m ↦ one_of names m each.1 ]

  -- socket(2) whose first words are refused where the call is not: the wide words are not
  family_wide : (systemd : Option Version) (families : Option FamilyList) → refuses_family systemd families line.name first ≡ true
      → refuses_family systemd families line.name input ≡ false → IsWide systemd families
  unfolding rule_of known_call
  family_wide systemd families e f =
      let parts = and_parts (bytes_eq line.name (codes "socket")) (refused systemd families first) e in
      let wide = by_rule (codes "socket") (rule.Known known.Socket) (d.Socket (low_word input.args 0)) refl (λ p. refl) (λ asked' are'. kind-Wide kind input.args asked') parts.0 in
      record {
        family = wide.0;
        wide_are = ap (wide_words kind) (sym (rule_is (codes "socket") (rule.Known known.Socket) refl parts.0)) ∙ wide.1;
        name = (bytes_eq-Decides line.name (codes "socket")).0 parts.0;
        passes = wide_passes systemd families input first wide.0
            (by_rule (codes "socket") (rule.Known known.Socket) (d.Socket (low_word input.args 0)) refl (λ p. refl)
            (kind-Narrow kind input.args first.args) parts.0)
            parts.1 (ap (λ b. b && refused systemd families input) (sym parts.0) ∙ f);
      }

  mapping_first : refuses_mapping line.name first ≡ true → refuses_mapping line.name input ≡ true
  unfolding rule_of known_call
  mapping_first h = by (bytes_eq line.name (codes "mmap")) (is_one_of line.name (codes "mprotect" ∷ codes "pkey_mprotect" ∷ []))
      (bytes_eq line.name (codes "shmat")) refl refl refl h
    where
      protect : (name : List ℕ) → rule_of (with_name line name) ≡ Some (rule.Known known.Protect) → bytes_eq line.name name ≡ true
          → has_bits (low input 2) 4 ≡ true
      protect name named = by_rule name (rule.Known known.Protect) (d.Protect (low_word input.args 2)) named (λ p. refl)
          (kind-Protect kind input.args first.args)

      by : (a b c : Bool) → bytes_eq line.name (codes "mmap") ≡ a
          → is_one_of line.name (codes "mprotect" ∷ codes "pkey_mprotect" ∷ []) ≡ b → bytes_eq line.name (codes "shmat") ≡ c
          → cond a (has_bits (low first 2) 6) (cond b (has_bits (low first 2) 4) (cond c (has_bits (low first 2) 0x8000) false)) ≡ true
          → cond a (has_bits (low input 2) 6) (cond b (has_bits (low input 2) 4) (cond c (has_bits (low input 2) 0x8000) false)) ≡ true
      by true b c x y z h = by_rule (codes "mmap") (rule.Known known.Map) (d.Map (low_word input.args 2)) refl (λ p. refl)
          (kind-Map kind input.args first.args) x
      by false true c x y z h = one_of (codes "mprotect" ∷ codes "pkey_mprotect" ∷ []) y
          (protect (codes "mprotect") refl, (protect (codes "pkey_mprotect") refl, tt))
      by false false true x y z h = by_rule (codes "shmat") (rule.Known known.Attach) (d.Attach (low_word input.args 2)) refl (λ p. refl)
          (kind-Attach kind input.args first.args) z
      by false false false x y z h = cc

  realtime_first : (systemd : Option Version) → refuses_policy systemd line.name first ≡ true
      → refuses_policy systemd line.name input ≡ true
  unfolding rule_of known_call
  realtime_first systemd h =
      let parts = and_parts (bytes_eq line.name (codes "sched_setscheduler")) (not (meets systemd first 1 is_ordinary)) h in
      and_from _ _ parts.0 (meets_none systemd input 1 is_ordinary
      (by_rule (codes "sched_setscheduler") (rule.Known known.Schedule) (d.Schedule (low_word input.args 1)) refl
      (λ p. refl) (kind-Schedule kind input.args first.args) parts.0))

  personality_first : (systemd : Option Version) (domain : Domain) → refuses_personality systemd domain line.name first ≡ true
      → refuses_personality systemd domain line.name input ≡ true
  unfolding rule_of known_call
  personality_first systemd domain h =
      let parts = and_parts (bytes_eq line.name (codes "personality")) (not (meets systemd first 0 (permits_domain systemd domain))) h in
      and_from _ _ parts.0 (by systemd (kept parts.0) parts.0 parts.1)
    where
      kept : bytes_eq line.name (codes "personality") ≡ true → not (keeps_domain (low input 0)) ≡ true
      kept = by_rule (codes "personality") (rule.Known known.Personality) (d.Personality (low_word input.args 0)) refl
          (λ p. refl) (kind-Personality kind input.args first.args)

      by : (systemd : Option Version) → not (keeps_domain (low input 0)) ≡ true → bytes_eq line.name (codes "personality") ≡ true
          → not (meets systemd first 0 (permits_domain systemd domain)) ≡ true
          → not (meets systemd input 0 (permits_domain systemd domain)) ≡ true
      by None kept n h = kept
      by (Some version) kept n h = persona_passes version domain input first kept
          (by_rule (codes "personality") (rule.Known known.Personality) (d.Personality (low_word input.args 0)) refl
          (λ p. refl) (first_persona kind input.args first.args) n) h

  -- at the name that the line has
  by_name : (refuses : List ℕ → CallData → Bool) (name : List ℕ) → bytes_eq line.name name ≡ true
      → (refuses name first ≡ true → refuses name input ≡ true) → refuses line.name first ≡ true → refuses line.name input ≡ true
  by_name refuses name h g r =
      let same : line.name ≡ name = (bytes_eq-Decides line.name name).0 h in
      ap (λ n. refuses n input) same ∙ g (ap (λ n. refuses n first) (sym same) ∙ r)

  forbidden_first : (types : NamespaceTypes) → MoreBits input.args first.args → has_forbidden types (low first 0) ≡ true
      → has_forbidden types (low input 0) ≡ true
  forbidden_first types more h = by (forbidden_types types) h
    where
      step : (own : NamespaceType) (list : List NamespaceType)
          → (has_bits (low first 0) (spaces.flag_of own) ≡ true) ⊎
          (list_any (λ kind. has_bits (low first 0) (spaces.flag_of kind)) list ≡ true)
          → (list_any (λ kind. has_bits (low first 0) (spaces.flag_of kind)) list ≡ true
          → list_any (λ kind. has_bits (low input 0) (spaces.flag_of kind)) list ≡ true)
          → list_any (λ kind. has_bits (low input 0) (spaces.flag_of kind)) (own ∷ list) ≡ true
      step own list (inl a) rest = or_left _ _ (more (spaces.flag_of own) a)
      step own list (inr b) rest = or_right _ _ (rest b)

      by : (list : List NamespaceType) → list_any (λ kind. has_bits (low first 0) (spaces.flag_of kind)) list ≡ true
          → list_any (λ kind. has_bits (low input 0) (spaces.flag_of kind)) list ≡ true
      by [] h = cc
      by (own ∷ list) h = step own list
          (or_cases (has_bits (low first 0) (spaces.flag_of own))
          (list_any (λ kind. has_bits (low first 0) (spaces.flag_of kind)) list) h) (by list)

  space_first : (types : NamespaceTypes) → refuses_namespace types line.name first ≡ true → refuses_namespace types line.name input ≡ true
  unfolding rule_of known_call
  space_first types h = by (is_one_of line.name (codes "unshare" ∷ codes "clone" ∷ [])) (bytes_eq line.name (codes "setns")) refl refl h
    where
      unshares : bytes_eq line.name (codes "unshare") ≡ true → refuses_namespace types line.name input ≡ true
      unshares n = by_name (refuses_namespace types) (codes "unshare") n
          (forbidden_first types
          (by_rule (codes "unshare") (rule.Known known.Unshare) (d.Unshare (low_word input.args 0)) refl (λ p. refl)
          (kind-Unshare kind input.args first.args) n)) h

      clones : bytes_eq line.name (codes "clone") ≡ true → refuses_namespace types line.name input ≡ true
      clones n = by_name (refuses_namespace types) (codes "clone") n
          (forbidden_first types
          (by_rule (codes "clone") (rule.Known known.Clone) (d.Clone (low_word input.args 0)) refl (λ p. refl)
          (kind-Clone kind input.args first.args) n)) h

      by : (a b : Bool) → is_one_of line.name (codes "unshare" ∷ codes "clone" ∷ []) ≡ a → bytes_eq line.name (codes "setns") ≡ b
          → ((b && low first 1 == 0) || option_map_or (λ at. has_forbidden types (low first at))
          (cond a (Some 0) (cond b (Some 1) None)) false) ≡ true → refuses_namespace types line.name input ≡ true
      by true b x y g = one_of (codes "unshare" ∷ codes "clone" ∷ []) x (unshares, (clones, tt))
      by false true x y g = absurd
          (kind-Enter kind first.args (words_at (rule.Known known.Enter) (rule_is (codes "setns") (rule.Known known.Enter) refl y)))
      by false false x y g = cc

  abbrev Suid : List ℕ → Type 0
  Suid name = bytes_eq line.name name ≡ true → refuses_mode line.name input ≡ true

  -- a call that sets a mode, by the argument that is the mode
  sets_mode : (at : Argument) (name : List ℕ) → rule_of (with_name line name) ≡ Some (rule.Known (known.SetMode at))
      → refuses_mode name input ≡ sets_id_bit (low_word input.args (place_of at)) → Suid name
  sets_mode at name named looks n =
      ap (λ name. refuses_mode name input) ((bytes_eq-Decides line.name name).0 n) ∙ looks
      ∙ by_rule name (rule.Known (known.SetMode at)) (d.SetMode (low_word input.args (place_of at))) named (λ p. refl)
      (kind-SetMode kind input.args first.args at) n

  off_left : (a b : Bool) → a ≡ false → (a && b) ≡ true → ⊥
  off_left true b e h = cc
  off_left false b e h = cc

  suid_first : refuses_mode line.name first ≡ true → refuses_mode line.name input ≡ true
  unfolding rule_of known_call
  suid_first h = by (is_one_of line.name seconds) (is_one_of line.name thirds) (bytes_eq line.name (codes "openat")) refl refl refl h
    where
      creates : Suid (codes "creat")
      creates n = by_name refuses_mode (codes "creat") n (given (rules_named line rule' is (codes "creat") _ _ (creat_rules line) n)) h
        where
          none : low_word first.args 1 ≡ 0 → sets_id_bit (low first 1) ≡ true → sets_id_bit (low input 1) ≡ true
          none zero' r = let off : sets_id_bit (low first 1) ≡ false = ap sets_id_bit zero' in cc

          given : (rule.Known known.Create ≡ rule') ⊎ (rule.Known known.CreateWith ≡ rule') → sets_id_bit (low first 1) ≡ true
              → sets_id_bit (low input 1) ≡ true
          given (inl own) r = none (kind-Create kind first.args (words_at (rule.Known known.Create) own)) r
          given (inr own) r = elim (kind-CreateWith kind (low_word input.args 1) payload operation first.args
              (ap (λ (r : Rule). operation_by r input.args payload) own ∙ does) asked (words_at (rule.Known known.CreateWith) own)) [
                | inl zero' ↦ none zero' r
                | inr bit ↦ bit
              ]

      opens : Suid (codes "open")
      opens n = by_name refuses_mode (codes "open") n
          (λ r. absurd (off_left (has_bits (low first 1) 0x40) (sets_id_bit (low first 2)) (makes_none
          (rules_named line rule' is (codes "open") _ _ (open_rules line) n)) r)) h
        where
          makes_none : (rule.Known (known.Open argument.Second) ≡ rule') ⊎ (rule.Known (known.OpenWith argument.Second) ≡ rule')
              → has_bits (low first 1) 0x40 ≡ false
          makes_none (inl own) = kind-Open-1 kind first.args (words_at (rule.Known (known.Open argument.Second)) own)
          makes_none (inr own) = kind-OpenWith-1 kind first.args (words_at (rule.Known (known.OpenWith argument.Second)) own)

      opens_at : Suid (codes "openat")
      opens_at n = by_name refuses_mode (codes "openat") n
          (λ r. absurd (off_left (has_bits (low first 2) 0x40) (sets_id_bit (low first 3)) (makes_none
          (rules_named line rule' is (codes "openat") _ _ (openat_rules line) n)) r)) h
        where
          makes_none : (rule.Known (known.Open argument.Third) ≡ rule') ⊎ (rule.Known (known.OpenWith argument.Third) ≡ rule')
              → has_bits (low first 2) 0x40 ≡ false
          makes_none (inl own) = kind-Open-2 kind first.args (words_at (rule.Known (known.Open argument.Third)) own)
          makes_none (inr own) = kind-OpenWith-2 kind first.args (words_at (rule.Known (known.OpenWith argument.Third)) own)

      by : (a b c : Bool) → is_one_of line.name seconds ≡ a → is_one_of line.name thirds ≡ b → bytes_eq line.name (codes "openat") ≡ c
          → option_map_or (λ at. has_mode line.name first && sets_id_bit (low first at))
          (cond a (Some 1) (cond b (Some 2) (cond c (Some 3) None))) false ≡ true → refuses_mode line.name input ≡ true
      by true b c x y z g = one_of seconds x (sets_mode argument.Second (codes "chmod") refl refl, (sets_mode argument.Second (codes "fchmod") refl refl, (sets_mode argument.Second (codes "mkdir") refl refl, (sets_mode argument.Second (codes "mknod") refl refl, (creates, tt)))))
      by false true c x y z g = one_of thirds y (sets_mode argument.Third (codes "fchmodat") refl refl, (sets_mode argument.Third (codes "mkdirat") refl refl, (sets_mode argument.Third (codes "mknodat") refl refl, (opens, tt))))
      by false false true x y z g = opens_at z
      by false false false x y z g = cc

  -- fchmodat2(2) that is asked for a set-id bit is refused
  newer_mode : (b : Bool) → bytes_eq line.name (codes "fchmodat2") ≡ b → (b && sets_id_bit (low first 2)) ≡ true
      → (b && sets_id_bit (low input 2)) ≡ true
  newer_mode false n e = cc
  newer_mode true n e = by (rules_named line rule' is (codes "fchmodat2") _ _ (fchmodat2_rules line) n)
    where
      given : rule.Known (known.SetMode argument.Third) ≡ rule' → sets_id_bit (low input 2) ≡ true
      given own = kind-SetMode kind input.args first.args argument.Third
          (bare_at (rule.Known (known.SetMode argument.Third)) (d.SetMode (low_word input.args 2)) own (λ p. refl))
          (words_at (rule.Known (known.SetMode argument.Third)) own)

      by : (rule.Known (known.SetMode argument.Third) ≡ rule') ⊎ (rule.Known (known.SetMode argument.Third) ≡ rule')
          → sets_id_bit (low input 2) ≡ true
      by (inl own) = given own
      by (inr own) = given own

  -- with a version of systemd, which refuses further calls
  suid_passes : (systemd : Option Version) → decision_of (word_of (suid_action systemd line.name input)) ≡ decision.Pass
      → decision_of (word_of (suid_action systemd line.name first)) ≡ decision.Pass
  unfolding rule_of known_call
  suid_passes None = carry 1 (refuses_mode line.name input) (refuses_mode line.name first) off-1 suid_first
  suid_passes (Some version) = by (bytes_eq line.name (codes "openat2")) (bytes_eq line.name (codes "fchmodat2")) refl
    where
      either : (b : Bool) → bytes_eq line.name (codes "fchmodat2") ≡ b
          → (refuses_mode line.name first ≡ true) ⊎ ((b && sets_id_bit (low first 2)) ≡ true)
          → (refuses_mode line.name input || (b && sets_id_bit (low input 2))) ≡ true
      either b n (inl h) = or_left _ _ (suid_first h)
      either b n (inr h) = or_right _ _ (newer_mode b n h)

      by : (a b : Bool) → bytes_eq line.name (codes "fchmodat2") ≡ b
          → decision_of (word_of (cond a (Errno 38) (unless_refused 1 (refuses_mode line.name input || (b && sets_id_bit (low input 2)))))) ≡ decision.Pass
          → decision_of (word_of (cond a (Errno 38) (unless_refused 1 (refuses_mode line.name first || (b && sets_id_bit (low first 2)))))) ≡ decision.Pass
      by true b n = λ e. e
      by false b n = carry 1 (refuses_mode line.name input || (b && sets_id_bit (low input 2)))
          (refuses_mode line.name first || (b && sets_id_bit (low first 2))) off-1
          (λ h. either b n (or_cases (refuses_mode line.name first) (b && sets_id_bit (low first 2)) h))

  time_first : makes_time line.name first ≡ true → makes_time line.name input ≡ true
  unfolding rule_of known_call
  time_first h =
      let parts = and_parts (bytes_eq line.name (codes "clone")) (has_bits (low first 0) clone_newtime) h in
      and_from _ _ parts.0
      (by_rule (codes "clone") (rule.Known known.Clone) (d.Clone (low_word input.args 0)) refl (λ p. refl)
      (kind-Clone kind input.args first.args) parts.0 clone_newtime parts.1)

  space_passes : (systemd : Option Version) (types : NamespaceTypes)
      → decision_of (word_of (namespace_action systemd types line.name input)) ≡ decision.Pass
      → decision_of (word_of (namespace_action systemd types line.name first)) ≡ decision.Pass
  unfolding rule_of known_call
  space_passes None types = carry 1 (refuses_namespace types line.name input) (refuses_namespace types line.name first) off-1
      (space_first types)
  space_passes (Some version) types = by (bytes_eq line.name (codes "clone3"))
    where
      either : (refuses_namespace types line.name first ≡ true) ⊎ (makes_time line.name first ≡ true)
          → (refuses_namespace types line.name input || makes_time line.name input) ≡ true
      either (inl h) = or_left _ _ (space_first types h)
      either (inr h) = or_right _ _ (time_first h)

      by : (a : Bool)
          → decision_of (word_of (cond a (Errno 38) (unless_refused 1 (refuses_namespace types line.name input || makes_time line.name input)))) ≡ decision.Pass
          → decision_of (word_of (cond a (Errno 38) (unless_refused 1 (refuses_namespace types line.name first || makes_time line.name first)))) ≡ decision.Pass
      by true = λ e. e
      by false = carry 1 (refuses_namespace types line.name input || makes_time line.name input)
          (refuses_namespace types line.name first || makes_time line.name first) off-1
          (λ h. either (or_cases (refuses_namespace types line.name first) (makes_time line.name first) h))

-- the first words pass each filter that the call passes, if they pass that of the families
narrow_passes : (settings : FilterSettings) (table : Table) (line : CallLine) (rule' : Rule) (kind : CallKind) (payload : Payload)
    (operation : Operation) (input : CallData) (first : List ℕ)
    → rule_of line ≡ Some rule' → operation_by rule' input.args payload ≡ Some operation → asks kind operation ≡ true
    → words kind rule' ≡ Some first
    → (decision_of (word_of (unless_refused 97 (refuses_family settings.systemd settings.families line.name input))) ≡ decision.Pass
    → decision_of (word_of (unless_refused 97 (refuses_family settings.systemd settings.families line.name (with_words input first)))) ≡ decision.Pass)
    → LetAsWell settings table line input first
narrow_passes settings table line r kind p operation input first is does asked are families filter.Families = families
narrow_passes settings table line r kind p operation input first is does asked are families filter.MemoryDenyWriteExecute =
    carry 1 (refuses_mapping line.name input) (refuses_mapping line.name (with_words input first)) off-1
    (mapping_first line r kind p operation input (with_words input first) is does asked are)
narrow_passes settings table line r kind p operation input first is does asked are families filter.Realtime =
    carry 1 (refuses_policy settings.systemd line.name input) (refuses_policy settings.systemd line.name (with_words input first)) off-1
    (realtime_first line r kind p operation input (with_words input first) is does asked are settings.systemd)
narrow_passes settings table line r kind p operation input first is does asked are families filter.Suid =
    suid_passes line r kind p operation input (with_words input first) is does asked are settings.systemd
narrow_passes settings table line r kind p operation input first is does asked are families filter.Namespaces =
    space_passes line r kind p operation input (with_words input first) is does asked are settings.systemd settings.namespaces
narrow_passes settings table line r kind p operation input first is does asked are families filter.Tunables = λ e. e
narrow_passes settings table line r kind p operation input first is does asked are families filter.Personality =
    carry 1 (refuses_personality settings.systemd settings.domain line.name input)
    (refuses_personality settings.systemd settings.domain line.name (with_words input first)) off-1
    (personality_first line r kind p operation input (with_words input first) is does asked are settings.systemd settings.domain)
narrow_passes settings table line r kind p operation input first is does asked are families filter.Hostname = λ e. e
narrow_passes settings table line r kind p operation input first is does asked are families filter.Modules = λ e. e
narrow_passes settings table line r kind p operation input first is does asked are families filter.Logs = λ e. e
narrow_passes settings table line r kind p operation input first is does asked are families filter.Clock = λ e. e
narrow_passes settings table line r kind p operation input first is does asked are families filter.Devices = λ e. e
narrow_passes settings table line r kind p operation input first is does asked are families filter.Calls = λ e. e
narrow_passes settings table line r kind p operation input first is does asked are families filter.Archs = λ e. e

-- socket(2) is looked at by no other filter
suid_socket : (systemd : Option Version) (input other : CallData)
    → decision_of (word_of (suid_action systemd (codes "socket") input)) ≡ decision.Pass
    → decision_of (word_of (suid_action systemd (codes "socket") other)) ≡ decision.Pass
suid_socket None input other e = e
suid_socket (Some version) input other e = e

space_socket : (systemd : Option Version) (types : NamespaceTypes) (input other : CallData)
    → decision_of (word_of (namespace_action systemd types (codes "socket") input)) ≡ decision.Pass
    → decision_of (word_of (namespace_action systemd types (codes "socket") other)) ≡ decision.Pass
space_socket None types input other e = e
space_socket (Some version) types input other e = e

socket_passes : (settings : FilterSettings) (table : Table) (line : CallLine) (input : CallData) (own : List ℕ)
    → line.name ≡ codes "socket" → refused settings.systemd settings.families (with_words input own) ≡ false
    → LetAsWell settings table line input own
socket_passes settings table line input own is passes = λ filter. subst (Alike filter) (sym is) (by filter)
  where
    Alike : FilterName → List ℕ → Type 0
    Alike filter name = decision_of (word_of (named_action filter settings table name input)) ≡ decision.Pass
        → decision_of (word_of (named_action filter settings table name (with_words input own))) ≡ decision.Pass

    by : (filter : FilterName) → Alike filter (codes "socket")
    by filter.Families = λ e. ap (λ b. decision_of (word_of (unless_refused 97 b))) passes
    by filter.MemoryDenyWriteExecute = λ e. e
    by filter.Realtime = λ e. e
    by filter.Suid = suid_socket settings.systemd input (with_words input own)
    by filter.Namespaces = space_socket settings.systemd settings.namespaces input (with_words input own)
    by filter.Tunables = λ e. e
    by filter.Personality = λ e. e
    by filter.Hostname = λ e. e
    by filter.Modules = λ e. e
    by filter.Logs = λ e. e
    by filter.Clock = λ e. e
    by filter.Devices = λ e. e
    by filter.Calls = λ e. e
    by filter.Archs = λ e. e

pub first_passes : FirstPasses
first_passes settings table line r kind p operation input first is does asked are =
    by (refuses_family settings.systemd settings.families line.name (with_words input first))
    (refuses_family settings.systemd settings.families line.name input) refl refl
  where
    by : (a b : Bool) → refuses_family settings.systemd settings.families line.name (with_words input first) ≡ a
        → refuses_family settings.systemd settings.families line.name input ≡ b
        → LetAsWell settings table line input first
        ⊎ ((wide : List ℕ) × (wide_words kind r ≡ Some wide) × LetAsWell settings table line input wide)
    by false b e f =
        inl (narrow_passes settings table line r kind p operation input first is does asked are
        (λ g. ap (λ b. decision_of (word_of (unless_refused 97 b))) e))
    by true true e f =
        inl (narrow_passes settings table line r kind p operation input first is does asked are
        (λ g. let off = off-97 (refuses_family settings.systemd settings.families line.name input) g in let clash : true ≡ false = sym f ∙ off in cc))
    by true false e f =
        let wide = family_wide line r kind p operation input (with_words input first) is does asked are settings.systemd settings.families e f in
        inr (one_word 0 (2 ^ 32 + wide.family), wide.wide_are, socket_passes settings table line input (one_word 0 (2 ^ 32 + wide.family)) wide.name wide.passes)
