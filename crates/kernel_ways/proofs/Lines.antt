-- A line of the table whose call passes with the words that are chosen for a kind.
use Rattle.std.proofs.Common.{◌≡◌, ℕ, Bool, true, List, [], ◌∷◌, Option, Some, None, refl, ap, ◌∙◌, subst, sym, ◌++◌, zero, suc, arith, ◌<◌}
use Rattle.std.proofs.Common.{inl, inr, ◌⊎◌}
use Rattle.std.specs.Prelude.{slice_get, get_or, option_and_then, ◌^◌, All}
use Rattle.std.specs.List.{list_any}
use Rattle.std.specs.Option.{option_map_or, option_to_list}
use Rattle.launcher.specs.call_table.Table as calls
use Rattle.std.proofs.lemmas.Bool.{or_cases}
use Rattle.std.proofs.lemmas.List.Elements.{All-from_recursion, All-get_or}
use Rattle.std.proofs.lemmas.Option.{slice_get-get_or, slice_get_within}
use Rattle.launcher.specs.bpf_code.declared.decision.Decision.{Decision}
use Rattle.launcher.specs.bpf_code.declared.decision.Decision.TheVariants as decision
use Rattle.launcher.specs.bpf_code.Stack.{decision_on}
use Rattle.launcher.specs.call_table.declared.call_names.kernel.Kernel.{Kernel}
use Rattle.launcher.specs.call_table.declared.listed.CallLine.{CallLine}
use Rattle.launcher.specs.call_table.Lookups.{numbered, IsInRange}
use Rattle.launcher.specs.kern_creds.declared.creds.Creds.{Creds}
use Rattle.launcher.specs.kernel_model.declared.kernel_calls.call.Call.{Call}
use Rattle.launcher.specs.kernel_model.declared.kernel_calls.payload.Payload.{Payload}
use Rattle.launcher.specs.kernel_model.kernel_calls.Calls.{FitsPayload}
use Rattle.launcher.specs.kernel_model.declared.kernel_calls.rule.Rule.{Rule}
use Rattle.launcher.specs.call_table.call_names.Known.{known_call}
use Rattle.launcher.specs.kernel_model.kernel_calls.Rules.{rule_of, rule_at, rule_by}
use Rattle.launcher.specs.kernel_model.kernel_calls.Operation.{Operation, operation_by, asked_by, asked_if}
use Rattle.launcher.specs.kernel_model.Effects.{Effect, effect_of}
use Rattle.launcher.specs.kernel_laws.declared.question_types.kind.CallKind.{CallKind}
use Rattle.launcher.specs.kernel_laws.Kinds.{no_words, AreWords}
use Rattle.launcher.specs.linux_numbers.declared.namespaces.NamespaceType.{NamespaceType}
use Rattle.launcher.specs.linux_numbers.declared.namespaces.NamespaceType.TheVariants as namespace
use Rattle.launcher.specs.linux_numbers.Namespaces.{flag_of}
use Rattle.launcher.specs.kernel_laws.Launched.{Launch, IsLaunched, data_at, passes, is_pass, chosen_words, lets_words, lets_rule, lets_line, lets}
use Rattle.launcher.specs.kern_mounts.Split.{Table}
use Rattle.launcher.proofs.OfKernelLaws.Filters.{at_position, slice_all}
use Rattle.kernel_ways.specs.Ways.{effect_on, Makes, host_at, caller_at, CallAt, IsCallAt, rule_there, passes_at, place_of}
use Rattle.kernel_ways.proofs.Choices.{Choice, of_chosen}

pub record Line (launch : Launch) (kind : CallKind) : Type 0 where
  pub line : CallLine
  pub number : IsCallAt (place_of line)
  pub own : Rule
  pub is : rule_of line ≡ Some own
  pub at : rule_there launch (place_of line) ≡ Some own
  pub args : List ℕ
  pub are : chosen_words launch kind line.abi line.number own ≡ Some args
  pub through : passes_at launch (place_of line) args

pub choice_of : {launch : Launch} {kind : CallKind} → (line : Line launch kind) → Choice kind line.own line.args
choice_of {launch} {kind} line = of_chosen launch kind line.line.abi line.line.number line.own line.args line.are

-- numbers of lines have 32 bits
pub low_number : (lines : List CallLine) → All IsInRange lines → (at : ℕ) (line : CallLine) → slice_get lines at ≡ Some line
    → line.number < 2 ^ 32
low_number lines h at line e =
    let inside = slice_get_within lines at line e in
    let own = slice_get-get_or lines at line inside in
    let same : get_or lines at line ≡ line = cc in
    let P : CallLine → Type 0 = λ l. IsInRange l in
    (subst P same (All-get_or IsInRange lines at line inside h)).number

pass_is : (d : Decision) → is_pass d ≡ true → d ≡ decision.Pass
pass_is decision.Pass e = refl
pass_is (decision.Errno errno) e = cc
pass_is decision.Kill e = cc

pub any_at : {X : Type 0} (p : X → Bool) (lines : List X) → list_any p lines ≡ true
    → (at : ℕ) × (line : X) × (slice_get lines at ≡ Some line) × (p line ≡ true)
any_at p [] e = cc
any_at p (line ∷ lines) e = elim (or_cases (p line) (list_any p lines) e) [
  | inl here ↦ (0, line, refl, here)
  | inr there ↦ (let m = any_at p lines there in (suc m.0, m.1, m.2, m.3))
]

-- a line of all calls is one of its ABI
pub record OfAbi (table : calls.Table) (line : CallLine) : Type 0 where
  pub at : ℕ
  pub listed : slice_get (calls.calls_in table line.abi) at ≡ Some line
  pub low : line.abi < 2 ^ 8

parts_at : (front back : List CallLine) (at : ℕ) (line : CallLine) → slice_get (front ++ back) at ≡ Some line
    → (slice_get front at ≡ Some line) ⊎ ((n : ℕ) × (slice_get back n ≡ Some line))
parts_at [] back at line e = inr (at, e)
parts_at (first ∷ front) back zero line e = inl e
parts_at (first ∷ front) back (suc at) line e = by (parts_at front back at line e)
  where
    by : (slice_get front at ≡ Some line) ⊎ ((n : ℕ) × (slice_get back n ≡ Some line))
        → (slice_get (first ∷ front) (suc at) ≡ Some line) ⊎ ((n : ℕ) × (slice_get back n ≡ Some line))
    by (inl here) = inl here
    by (inr there) = inr there

second_are : (second : Option calls.Abi) → calls.second_calls second
    ≡ option_map_or (λ found. found.calls) (slice_get (option_to_list second) 0) []
second_are None = refl
second_are (Some second) = refl

pub of_abi : (launch : Launch) → IsLaunched launch → (at : ℕ) (line : CallLine) → slice_get (calls.every_call launch.calls) at ≡ Some line
    → OfAbi launch.calls line
of_abi launch l at line listed = elim (parts_at launch.calls.calls (calls.second_calls launch.calls.second) at line listed) [
  | inl here ↦ (
      let own : line.abi ≡ 0 = slice_all (λ line. line.abi ≡ 0) launch.calls.calls at line (l.calls_of_abi 0) here in
      record { at = at; listed = subst (λ abi. slice_get (calls.calls_in launch.calls abi) at ≡ Some line) (sym own) here; low = omega (arith, own) })
  | inr there ↦ (
      let here : slice_get (calls.calls_in launch.calls 1) there.0 ≡ Some line = ap (λ (lines : List CallLine). slice_get lines there.0) (sym (second_are launch.calls.second)) ∙ there.1 in
      let own : line.abi ≡ 1 = slice_all (λ line. line.abi ≡ 1) (calls.calls_in launch.calls 1) there.0 line (l.calls_of_abi 1) here in
      record { at = there.0; listed = subst (λ abi. slice_get (calls.calls_in launch.calls abi) there.0 ≡ Some line) (sym own) here; low = omega (arith, own) })
]

one_rule : (line other : CallLine) → line.kernel ≡ other.kernel → line.name ≡ other.name → line.cap ≡ other.cap
    → rule_of line ≡ rule_of other
unfolding rule_of
one_rule line other kernel name cap' =
    ap (λ k. rule_by (known_call k line.name) line.cap) kernel ∙ ap (λ n. rule_by (known_call other.kernel n) line.cap) name
    ∙ ap (rule_by (known_call other.kernel other.name)) cap'

-- a name has one rule
pub same_rule : (launch : Launch) → IsLaunched launch → (place at : ℕ) (line other : CallLine)
    → slice_get (calls.every_call launch.calls) place ≡ Some line → slice_get (calls.every_call launch.calls) at ≡ Some other
    → line.name ≡ other.name → rule_of line ≡ rule_of other
same_rule launch l place at line other listed there name =
    let caps = slice_all (λ one. All (λ other. one.name ≡ other.name → one.cap ≡ other.cap) (calls.every_call launch.calls)) (calls.every_call launch.calls) place line l.one_cap listed in
    let by : Kernel = l.one_kernel.0 in
    let own : line.kernel ≡ by = slice_all (λ (one : CallLine). one.kernel ≡ by) (calls.every_call launch.calls) place line l.one_kernel.1 listed in
    let others : other.kernel ≡ by = slice_all (λ (one : CallLine). one.kernel ≡ by) (calls.every_call launch.calls) at other l.one_kernel.1 there in
    one_rule line other (own ∙ sym others) name (slice_all (λ other. line.name ≡ other.name → line.cap ≡ other.cap)
    (calls.every_call launch.calls) at other caps there name)

pub line_at : (launch : Launch) → IsLaunched launch → (kind : CallKind) (at : ℕ) (line : CallLine)
    → slice_get (calls.every_call launch.calls) at ≡ Some line → lets_line launch kind line ≡ true
    → (x : Line launch kind) × (x.line ≡ line)
line_at launch l kind at line listed e = by (rule_of line) refl e
  where
    by_words : (own : Rule) → rule_of line ≡ Some own → (w : Option (List ℕ)) → chosen_words launch kind line.abi line.number own ≡ w
        → lets_words launch line.abi line.number w ≡ true → (x : Line launch kind) × (x.line ≡ line)
    by_words own is None are e = cc
    by_words own is (Some args) are e =
        let there = of_abi launch l at line listed in
        let lines = calls.calls_in launch.calls line.abi in
        let found : numbered line.number lines ≡ Some line = at_position lines line.number there.at line (l.calls_once line.abi there.at line there.listed) there.listed in
        (record { line = line; number = record { abi = there.low; number = low_number lines (l.calls_in_range line.abi) there.at line there.listed }; own = own; is = is; at = ap (option_and_then rule_of) found ∙ is; args = args; are = are; through = pass_is (decision_on launch.stack (data_at launch line.abi line.number args)) e }, refl)

    by : (r : Option Rule) → rule_of line ≡ r → lets_rule launch kind line.abi line.number r ≡ true
        → (x : Line launch kind) × (x.line ≡ line)
    by None is e = cc
    by (Some own) is e = by_words own is (chosen_words launch kind line.abi line.number own) refl e

pub some_line : (launch : Launch) → IsLaunched launch → (kind : CallKind) → lets launch kind ≡ true → Line launch kind
unfolding lets
some_line launch l kind e =
    let a = any_at (lets_line launch kind) (calls.every_call launch.calls) e in
    (line_at launch l kind a.0 a.1 a.2 a.3).0

-- ---- words
abbrev pub IsWord : ℕ → Type 0
IsWord n = n < 2 ^ 32

pub six : (a b c d : ℕ) → IsWord a → IsWord b → IsWord c → IsWord d → AreWords (a ∷ b ∷ c ∷ d ∷ 0 ∷ 0 ∷ [])
six a b c d ha hb hc hd = record {
  count = refl;
  each = All-from_recursion (λ arg. arg < 2 ^ 64) (a ∷ b ∷ c ∷ d ∷ 0 ∷ 0 ∷ [])
      (omega (arith, ha), (omega (arith, hb), (omega (arith, hc), (omega (arith, hd), (omega arith, (omega arith, tt))))));
}

pub zeros : AreWords no_words
zeros = six 0 0 0 0 (omega arith) (omega arith) (omega arith) (omega arith)

pub flag_fits : (space : NamespaceType) → IsWord (flag_of space)
flag_fits namespace.Cgroup = omega arith
flag_fits namespace.Ipc = omega arith
flag_fits namespace.Net = omega arith
flag_fits namespace.Mnt = omega arith
flag_fits namespace.Pid = omega arith
flag_fits namespace.User = omega arith
flag_fits namespace.Uts = omega arith

pub flag_words : (space : NamespaceType) → AreWords (flag_of space ∷ 0 ∷ 0 ∷ 0 ∷ 0 ∷ 0 ∷ [])
flag_words space = six (flag_of space) 0 0 0 (flag_fits space) (omega arith) (omega arith) (omega arith)

-- ---- a call of process 1
abbrev pub first_by : CallAt → List ℕ → Payload → Call
first_by nr args payload = record { pid = 1; abi = nr.abi; nr = nr.nr; args = args; payload = payload }

pub make : (launch : Launch) (creds : Creds) (table : Table) (nr : CallAt) (own : Rule) (args : List ℕ) (payload : Payload)
    (operation : Operation) (effect : Effect) → IsCallAt nr → AreWords args → FitsPayload payload
    → rule_there launch nr ≡ Some own → operation_by own args payload ≡ Some operation → passes_at launch nr args
    → effect_on (host_at launch) (caller_at launch creds table) table operation ≡ effect
    → Makes launch creds table operation (first_by nr args payload) effect
make launch creds table nr own args payload operation effect n w p at is t e = record {
  fit = record { pid = omega arith; abi = n.abi; nr = n.number; count = w.count; args = w.each; payload = p };
  first = refl;
  through = t;
  asks = ap (λ r. asked_by r (first_by nr args payload)) at ∙ ap asked_if is;
  comes_to = e;
}
