-- Programs that answer as the settings say meet what the judge asks of first choices.
use Rattle.std.proofs.Common.{◌≡◌, ℕ, zero, suc, Bool, true, false, eqb, cond, List, [], ◌∷◌, Option, Some, None, refl, ap, ◌∙◌, sym, subst}
use Rattle.std.proofs.Common.{arith, length, ◌<◌, ◌+◌, inl, inr}
use Rattle.std.specs.Prelude.{◌^◌, ◌==◌, IfSome, slice_get, set, ◌%◌, slice_index}
use Rattle.std.specs.List.{AllByRecursion}
use Rattle.std.specs.Option.{option_map_or}
use Rattle.std.proofs.lemmas.Bool.{eq-eqb, eqb-true}
use Rattle.std.proofs.lemmas.List.Elements.{All-from_recursion}
use Rattle.filter_settings.specs.bpf_code.declared.machine.Insn.{Insn}
use Rattle.filter_settings.specs.bpf_code.declared.decision.Decision.TheVariants as decision
use Rattle.filter_settings.specs.bpf_code.Meaning.{IsCallData}
use Rattle.filter_settings.specs.bpf_code.declared.decision.Decision.{Decision}
use Rattle.filter_settings.specs.bpf_code.Stack.{answer_of, decision_of, decision_on}
use Rattle.filter_settings.specs.call_table.declared.listed.CallLine.{CallLine}
use Rattle.filter_settings.specs.call_table.Lookups.{numbered}
use Rattle.filter_settings.specs.declared.filter_rules.settings.FilterSettings.{FilterSettings}
use Rattle.filter_settings.specs.declared.filter_rules.names.FilterName.{FilterName}
use Rattle.filter_settings.specs.call_table.call_names.Known.{mode_place_of, place_of}
use Rattle.filter_settings.specs.call_table.declared.call_names.rule.Argument.{Argument}
use Rattle.filter_settings.specs.call_rules.Action.{word_of}
use Rattle.filter_settings.specs.filter_rules.Wanted.{named_action, unnamed_action, wanted_action}
use Rattle.kernel_model.specs.kernel_calls.Words.{low_word}
use Rattle.kernel_model.specs.declared.kernel_calls.payload.Payload.{Payload}
use Rattle.kernel_model.specs.kernel_calls.Operation as d
use Rattle.kernel_model.specs.kernel_calls.Operation.{Operation, operation_by}
use Rattle.kernel_laws.specs.FirstChoice.{LetAsWell, Means, SettingsChoose}
use Rattle.kernel_laws.specs.declared.question_types.kind.CallKind.{CallKind}
use Rattle.kernel_laws.specs.declared.question_types.kind.CallKind.TheVariants as k
use Rattle.filter_settings.specs.linux_numbers.declared.namespaces.NamespaceType.{NamespaceType}
use Rattle.filter_settings.specs.linux_numbers.declared.namespaces.NamespaceType.TheVariants as namespace
use Rattle.kernel_laws.specs.declared.question_types.wish.Wish.TheVariants as wish_to
use Rattle.kernel_laws.specs.declared.question_types.wish.Wish.{Wish}
use Rattle.kernel_laws.specs.Kinds.{asks, words, wide_words, made_words, one_word, no_words, AreWords}
use Rattle.filter_settings.specs.call_table.Table.{Abi, Table, native, abi_at, arch_of, calls_in}
use Rattle.filter_settings.specs.filter_rules.Wanted.{other_action}
use Rattle.std.specs.Option.{option_to_list, option_or}
use Rattle.std.proofs.lemmas.Bool.{false≢true}
use Rattle.kernel_laws.specs.Launched.{Launch, data_at, passes, is_pass, lets_words, Chosen}
use Rattle.filter_settings.specs.linux_numbers.Namespaces as spaces
use Rattle.kernel_model.specs.declared.kernel_calls.rule.Rule.TheVariants as rule
use Rattle.filter_settings.specs.call_table.declared.call_names.rule.CallRule.{CallRule}
use Rattle.filter_settings.specs.call_table.declared.call_names.rule.CallRule.TheVariants as known
use Rattle.kernel_model.specs.declared.kernel_calls.rule.Rule.{Rule}
use Rattle.kernel_laws.proofs.FirstWords.{has_words}
use Rattle.kernel_laws.proofs.FilterChoices.{first_passes}
use Rattle.kernel_laws.proofs.Filters.{bare_is, HasRule, has_rule}
use Rattle.kernel_laws.proofs.Programs.{stack_passes}

abbrev Small : List ℕ → Type 0
Small args = AllByRecursion (λ arg. arg < 2 ^ 64) args

small_set : (args : List ℕ) (at value : ℕ) → value < 2 ^ 64 → Small args → Small (set args at value)
small_set [] at value h all' = tt
small_set (arg ∷ args) zero value h all' = (h, all'.1)
small_set (arg ∷ args) (suc at) value h all' = (all'.0, small_set args at value h all'.1)

length_set : (args : List ℕ) (at value : ℕ) → length (set args at value) ≡ length args
length_set [] at value = refl
length_set (arg ∷ args) zero value = refl
length_set (arg ∷ args) (suc at) value = ap suc (length_set args at value)

no_small : Small no_words
no_small = (omega arith, (omega arith, (omega arith, (omega arith, (omega arith, (omega arith, tt))))))

bare_words : AreWords no_words
bare_words = record { count = refl; each = All-from_recursion (λ arg. arg < 2 ^ 64) no_words no_small }

word_words : (at value : ℕ) → value < 2 ^ 64 → AreWords (one_word at value)
word_words at value h = record { count = length_set no_words at value; each = All-from_recursion (λ arg. arg < 2 ^ 64) (one_word at value) (small_set no_words at value h no_small) }

made_small : (at : Argument) → AreWords (made_words at)
made_small at =
    let words = set (one_word (place_of at) 0x41_0000) (mode_place_of at) 0x800 in
    record {
      count = length_set (one_word (place_of at) 0x41_0000) (mode_place_of at) 0x800 ∙ length_set no_words (place_of at) 0x41_0000;
      each = All-from_recursion (λ arg. arg < 2 ^ 64) words
          (small_set (one_word (place_of at) 0x41_0000) (mode_place_of at) 0x800 (omega arith)
          (small_set no_words (place_of at) 0x41_0000 (omega arith) no_small));
    }

by_same : (one first : List ℕ) → AreWords one → Some one ≡ Some first → AreWords first
by_same one first h e = let same : one ≡ first = cc in subst AreWords same h

flag_small : (space : NamespaceType) → spaces.flag_of space < 2 ^ 64
flag_small namespace.Cgroup = omega arith
flag_small namespace.Ipc = omega arith
flag_small namespace.Net = omega arith
flag_small namespace.Mnt = omega arith
flag_small namespace.Pid = omega arith
flag_small namespace.User = omega arith
flag_small namespace.Uts = omega arith

-- the family of a kind, where a word of the call is it
abbrev family_or : CallKind → Rule → ℕ
family_or (k.ForFamily family) (rule.Known known.Socket) = family
family_or kind rule' = 0

path_fit : (wish : Wish) (call : CallRule) (first : List ℕ) → words (k.ForPath wish) (rule.Known call) ≡ Some first → AreWords first
path_fit wish_to.See known.See first e = by_same no_words first bare_words e
path_fit wish_to.Read (known.Open at) first e = by_same no_words first bare_words e
path_fit wish_to.Write (known.Open at) first e = by_same (one_word (place_of at) 1) first (word_words (place_of at) 1 (omega arith)) e
path_fit wish_to.Read (known.OpenWith at) first e = by_same no_words first bare_words e
path_fit wish_to.Write (known.OpenWith at) first e = by_same (one_word (place_of at) 1) first (word_words (place_of at) 1 (omega arith)) e
path_fit wish_to.Read known.Openat2 first e = by_same no_words first bare_words e
path_fit wish_to.Write known.Openat2 first e = by_same no_words first bare_words e
path_fit wish_to.Write known.Create first e = by_same no_words first bare_words e
path_fit wish_to.Write known.CreateWith first e = by_same no_words first bare_words e
path_fit wish_to.Write known.Truncate first e = by_same no_words first bare_words e
path_fit wish_to.Exec known.Execve first e = by_same no_words first bare_words e
path_fit wish call first e = cc

known_fit : (kind : CallKind) (call : CallRule) (first : List ℕ) → family_or kind (rule.Known call) < 2 ^ 64
    → words kind (rule.Known call) ≡ Some first → AreWords first
known_fit (k.ForPath wish) call first h e = path_fit wish call first e
known_fit (k.ForFamily family) known.Socket first h e = by_same (one_word 0 family) first (word_words 0 family h) e
known_fit (k.ForFamily family) known.Socketcall first h e = by_same (one_word 0 1) first (word_words 0 1 (omega arith)) e
known_fit (k.ForFamily family) known.Socketpair first h e = pair_fit (eqb family 1) e
  where
    pair_fit : (b : Bool) → cond {A = Option (List ℕ)} b (Some (one_word 0 1)) None ≡ Some first → AreWords first
    pair_fit true e = by_same (one_word 0 1) first (word_words 0 1 (omega arith)) e
    pair_fit false e = cc
known_fit (k.ForNamespace space) known.Clone first h e = by_same (one_word 0 (spaces.flag_of space)) first
    (word_words 0 (spaces.flag_of space) (flag_small space)) e
known_fit (k.ForNamespace space) known.Unshare first h e = by_same (one_word 0 (spaces.flag_of space)) first
    (word_words 0 (spaces.flag_of space) (flag_small space)) e
known_fit (k.ForNamespace space) known.Clone3 first h e = by_same no_words first bare_words e
known_fit k.MapsWx known.Map first h e = by_same (one_word 2 6) first (word_words 2 6 (omega arith)) e
known_fit k.ProtectsX known.Protect first h e = by_same (one_word 2 4) first (word_words 2 4 (omega arith)) e
known_fit k.AttachesX known.Attach first h e = by_same (one_word 2 0x8000) first (word_words 2 0x8000 (omega arith)) e
known_fit k.AttachesReadOnlyX known.Attach first h e = by_same (one_word 2 0x9000) first (word_words 2 0x9000 (omega arith)) e
known_fit k.SchedulesRealtime known.Schedule first h e = by_same (one_word 1 1) first (word_words 1 1 (omega arith)) e
known_fit k.SetsRealtime known.SetAttributes first h e = by_same no_words first bare_words e
known_fit k.TakesPersonality known.Personality first h e = by_same (one_word 0 8) first (word_words 0 8 (omega arith)) e
known_fit k.SetsMode (known.SetMode at) first h e = by_same (one_word (place_of at) 0x800) first
    (word_words (place_of at) 0x800 (omega arith)) e
known_fit k.OpensMode (known.OpenWith at) first h e = by_same (made_words at) first (made_small at) e
known_fit k.CreatesMode known.CreateWith first h e = by_same (one_word 1 0x800) first (word_words 1 0x800 (omega arith)) e
known_fit k.ChangesMounts known.Mount first h e = by_same no_words first bare_words e
known_fit k.RemovesMounts known.Umount first h e = by_same no_words first bare_words e
known_fit k.SetsCaps known.Capset first h e = by_same no_words first bare_words e
known_fit k.TakesUid known.Setuid first h e = by_same no_words first bare_words e
known_fit k.TakesUid known.Setresuid first h e = by_same no_words first bare_words e
known_fit k.TakesUid known.Setreuid first h e = by_same no_words first bare_words e
known_fit k.TakesGid known.Setgid first h e = by_same no_words first bare_words e
known_fit k.TakesGid known.Setresgid first h e = by_same no_words first bare_words e
known_fit k.TakesGid known.Setregid first h e = by_same no_words first bare_words e
known_fit k.TakesGid known.Setgroups first h e = by_same no_words first bare_words e
known_fit k.SetsUpRing known.SetUpRing first h e = by_same no_words first bare_words e
known_fit k.Submits known.Submit first h e = by_same no_words first bare_words e
known_fit kind call first h e = cc

plain_fit : (kind : CallKind) (cap' : Option ℕ) (first : List ℕ) → words kind (rule.Plain cap') ≡ Some first → AreWords first
plain_fit k.PlainCall cap' first e = by_same no_words first bare_words e
plain_fit (k.ForPath wish_to.See) cap' first e = cc
plain_fit (k.ForPath wish_to.Read) cap' first e = cc
plain_fit (k.ForPath wish_to.Write) cap' first e = cc
plain_fit (k.ForPath wish_to.Exec) cap' first e = cc
plain_fit kind cap' first e = cc

words_fit : (kind : CallKind) (rule' : Rule) (first : List ℕ) → family_or kind rule' < 2 ^ 64 → words kind rule' ≡ Some first
    → AreWords first
words_fit kind (rule.Known call) first h e = known_fit kind call first h e
words_fit kind (rule.Plain cap') first h e = plain_fit kind cap' first e

low_small : (args : List ℕ) (at : ℕ) → low_word args at < 2 ^ 32
low_small args at = below (slice_index args at)
  where
    below : (word : ℕ) → word % 2 ^ 32 < 2 ^ 32
    below word = omega arith

-- a family that a call asks for is a low word
family_small : (kind : CallKind) (args first : List ℕ) (rule' : Rule) (payload : Payload) (operation : Operation) → words kind rule' ≡ Some first
    → operation_by rule' args payload ≡ Some operation → asks kind operation ≡ true → family_or kind rule' < 2 ^ 32
family_small (k.ForFamily family) args first (rule.Known known.Socket) payload operation e is asked =
    let own = bare_is operation (d.Socket (low_word args 0)) payload is in
    let same : low_word args 0 ≡ family = eqb-true (low_word args 0) family (ap (asks (k.ForFamily family)) own ∙ asked) in
    let P : ℕ → Type 0 = λ n. n < 2 ^ 32 in
    subst P same (low_small args 0)
family_small (k.ForFamily family) args first (rule.Known known.Socketcall) payload operation e is asked = omega arith
family_small (k.ForFamily family) args first (rule.Known known.Socketpair) payload operation e is asked = omega arith
family_small (k.ForFamily family) args first rule' payload operation e is asked = cc
family_small kind args first rule' payload operation e is asked = omega arith

-- wide words have 64 bits
wide_fit : (kind : CallKind) (rule' : Rule) (wide : List ℕ) → family_or kind rule' < 2 ^ 32 → wide_words kind rule' ≡ Some wide → AreWords wide
wide_fit (k.ForFamily family) (rule.Known known.Socket) wide h e =
    by_same (one_word 0 (2 ^ 32 + family)) wide (word_words 0 (2 ^ 32 + family) (omega (arith, h))) e
wide_fit kind rule' wide h e = cc

pass_is : (d : Decision) → is_pass d ≡ true → d ≡ decision.Pass
pass_is decision.Pass e = refl
pass_is (decision.Errno errno) e = cc
pass_is decision.Kill e = cc

-- ABIs of one architecture are one
pub same_abi : (native : Abi) (second : Option Abi) → IfSome second (λ other. other.arch == native.arch ≡ false) → (a b : ℕ) (x y : Abi)
    → slice_get (native ∷ option_to_list second) a ≡ Some x → slice_get (native ∷ option_to_list second) b ≡ Some y
    → x.arch ≡ y.arch → a ≡ b
same_abi native second differ zero zero x y f g e = refl
same_abi native None differ zero (suc b) x y f g e = cc
same_abi native None differ (suc a) b x y f g e = cc
same_abi native (Some other) differ zero (suc zero) x y f g e = let equal : other.arch ≡ native.arch = (let n : native ≡ x = cc in let o : other ≡ y = cc in ap (λ (t : Abi). t.arch) o ∙ sym e ∙ ap (λ (t : Abi). t.arch) (sym n)) in absurd (false≢true (sym differ ∙ eq-eqb other.arch native.arch equal))
same_abi native (Some other) differ zero (suc (suc b)) x y f g e = cc
same_abi native (Some other) differ (suc zero) zero x y f g e = let equal : other.arch ≡ native.arch = (let n : native ≡ y = cc in let o : other ≡ x = cc in ap (λ (t : Abi). t.arch) o ∙ e ∙ ap (λ (t : Abi). t.arch) (sym n)) in absurd (false≢true (sym differ ∙ eq-eqb other.arch native.arch equal))
same_abi native (Some other) differ (suc zero) (suc zero) x y f g e = refl
same_abi native (Some other) differ (suc zero) (suc (suc b)) x y f g e = cc
same_abi native (Some other) differ (suc (suc a)) b x y f g e = cc

-- what a program of an ABI answers to a call of a line of it
pub at_line : (settings : FilterSettings) (launch : Launch) (filter : FilterName) (abi nr : ℕ) (args : List ℕ) (line : CallLine)
    → numbered nr (calls_in launch.calls abi) ≡ Some line
    → wanted_action filter settings launch.calls abi (data_at launch abi nr args)
    ≡ named_action filter settings launch.calls line.name (data_at launch abi nr args)
at_line settings launch filter abi nr args line found =
    ap (λ b. cond b (option_map_or (λ call. named_action filter settings launch.calls call.name (data_at launch abi nr args))
    (numbered nr (calls_in launch.calls abi)) (unnamed_action filter settings)) (other_action launch.calls.second))
    (eq-eqb (arch_of launch.calls abi) (arch_of launch.calls abi) refl)
    ∙ ap (λ o. option_map_or (λ call. named_action filter settings launch.calls call.name (data_at launch abi nr args)) o
    (unnamed_action filter settings)) found

-- and to a call of another
pub at_other : (settings : FilterSettings) (launch : Launch) (filter : FilterName) (own abi nr : ℕ) (args : List ℕ)
    → eqb (arch_of launch.calls abi) (arch_of launch.calls own) ≡ false
    → wanted_action filter settings launch.calls own (data_at launch abi nr args) ≡ other_action launch.calls.second
at_other settings launch filter own abi nr args differ =
    ap (λ b. cond b (option_map_or (λ call. named_action filter settings launch.calls call.name (data_at launch abi nr args))
    (numbered nr (calls_in launch.calls own)) (unnamed_action filter settings)) (other_action launch.calls.second)) differ

-- an ABI that has a call is there
pub is_there : (table : Table) (abi nr : ℕ) (line : CallLine) → numbered nr (calls_in table abi) ≡ Some line → (o : Option Abi)
    → abi_at table abi ≡ o → (found : Abi) × (abi_at table abi ≡ Some found)
is_there table abi nr line e None at = let none = sym (ap (λ (o : Option Abi). numbered nr (option_map_or (λ found. found.calls) o [])) at) ∙ e in cc
is_there table abi nr line e (Some found) at = (found, at)

pub settings_choose : SettingsChoose
settings_choose launch settings arch differ each plain kind abi nr args rule' payload operation few fit at is asked p =
    let w = has_words rule' args payload operation is kind asked in
    choose w.args w.are (has_rule (calls_in launch.calls abi) nr rule' at) (lets_words launch abi nr (words kind rule')) refl
  where
    fits : (own : List ℕ) → AreWords own → IsCallData (data_at launch abi nr own)
    fits own words' = record { nr = few; arch = arch abi; ip = omega arith; count = words'.count; args = words'.each }

    own_line : (own : List ℕ) → AreWords own → (h : HasRule (calls_in launch.calls abi) nr rule')
        → LetAsWell settings launch.calls h.line (data_at launch abi nr args) own
        → (code : List Insn) (m : Means settings launch.calls code) → abi ≡ m.abi
        → decision_of (answer_of code (data_at launch abi nr args)) ≡ decision.Pass
        → decision_of (answer_of code (data_at launch abi nr own)) ≡ decision.Pass
    own_line own fit' h lets code m same e =
        let before = m.answers (data_at launch abi nr args) (fits args fit) ∙ ap word_of (ap (λ one. wanted_action m.filter settings launch.calls one (data_at launch abi nr args)) (sym same) ∙ at_line settings launch m.filter abi nr args h.line h.found) in
        let after = m.answers (data_at launch abi nr own) (fits own fit') ∙ ap word_of (ap (λ one. wanted_action m.filter settings launch.calls one (data_at launch abi nr own)) (sym same) ∙ at_line settings launch m.filter abi nr own h.line h.found) in
        ap decision_of after ∙ lets m.filter (ap decision_of (sym before) ∙ e)

    either : (own : List ℕ) → AreWords own → (h : HasRule (calls_in launch.calls abi) nr rule')
        → LetAsWell settings launch.calls h.line (data_at launch abi nr args) own
        → (code : List Insn) (m : Means settings launch.calls code)
        → (b : Bool) → eqb (arch_of launch.calls abi) (arch_of launch.calls m.abi) ≡ b
        → decision_of (answer_of code (data_at launch abi nr args)) ≡ decision.Pass
        → decision_of (answer_of code (data_at launch abi nr own)) ≡ decision.Pass
    either own fit' h lets code m true same e =
        let there = is_there launch.calls abi nr h.line h.found (abi_at launch.calls abi) refl in
        let archs : there.0.arch ≡ m.found.arch = ap (λ (o : Option Abi). option_map_or (λ found. found.arch) o 0) (sym there.1) ∙ eqb-true (arch_of launch.calls abi) (arch_of launch.calls m.abi) same ∙ ap (λ (o : Option Abi). option_map_or (λ found. found.arch) o 0) m.there in
        own_line own fit' h lets code m
        (same_abi (native launch.calls) launch.calls.second differ abi m.abi there.0 m.found there.1 m.there archs) e
    either own fit' h lets code m false differs e =
        let before = m.answers (data_at launch abi nr args) (fits args fit) ∙ ap word_of (at_other settings launch m.filter m.abi abi nr args differs) in
        let after = m.answers (data_at launch abi nr own) (fits own fit') ∙ ap word_of (at_other settings launch m.filter m.abi abi nr own differs) in
        ap decision_of (after ∙ sym before) ∙ e

    all_of : (own : List ℕ) → AreWords own → (h : HasRule (calls_in launch.calls abi) nr rule')
        → LetAsWell settings launch.calls h.line (data_at launch abi nr args) own → (programs : List (List Insn))
        → AllByRecursion (Means settings launch.calls) programs
        → AllByRecursion (λ (code : List Insn). decision_of (answer_of code (data_at launch abi nr args)) ≡ decision.Pass
        → decision_of (answer_of code (data_at launch abi nr own)) ≡ decision.Pass) programs
    all_of own fit' h lets [] each = tt
    all_of own fit' h lets (code ∷ programs) each = (
      λ e. either own fit' h lets code each.0 (eqb (arch_of launch.calls abi) (arch_of launch.calls each.0.abi)) refl e,
      all_of own fit' h lets programs each.1,
    )

    -- words that each filter lets through as well pass
    through : (own : List ℕ) → AreWords own → (h : HasRule (calls_in launch.calls abi) nr rule')
        → LetAsWell settings launch.calls h.line (data_at launch abi nr args) own → passes launch abi nr own
    through own fit' h lets =
        stack_passes launch.stack (data_at launch abi nr args) (data_at launch abi nr own)
        (plain (data_at launch abi nr args) (fits args fit)) (plain (data_at launch abi nr own) (fits own fit'))
        (all_of own fit' h lets launch.stack each) p

    choose : (first : List ℕ) → words kind rule' ≡ Some first → HasRule (calls_in launch.calls abi) nr rule' → (b : Bool)
        → lets_words launch abi nr (words kind rule') ≡ b → Chosen launch kind rule' abi nr
    choose first are h true e = record {
      args = first;
      are = ap (λ b. cond b (words kind rule') (option_or (wide_words kind rule') (words kind rule'))) e ∙ are;
      passes = pass_is (decision_on launch.stack (data_at launch abi nr first)) (sym (ap (lets_words launch abi nr) are) ∙ e);
    }
    choose first are h false e =
        let small = family_small kind args first rule' payload operation are is asked in
        elim (first_passes settings launch.calls h.line rule' kind payload operation (data_at launch abi nr args) first h.is is asked are) [
          | inl narrow ↦
              absurd (false≢true (sym (sym (ap (lets_words launch abi nr) are) ∙ e)
              ∙ ap is_pass (through first (words_fit kind rule' first (omega (arith, small)) are) h narrow)))
          | inr wide ↦ record {
            args = wide.0;
            are =
                ap (λ b. cond b (words kind rule') (option_or (wide_words kind rule') (words kind rule'))) e
                ∙ ap (λ (o : Option (List ℕ)). option_or o (words kind rule')) wide.1;
            passes = through wide.0 (wide_fit kind rule' wide.0 small wide.1) h wide.2;
          }
        ]
