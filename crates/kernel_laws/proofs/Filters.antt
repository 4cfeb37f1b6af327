-- What stacks above the launch programs let through.
use Rattle.std.proofs.Common.{◌≡◌, ℕ, zero, suc, Bool, true, false, List, [], ◌∷◌, ◌++◌, Option, Some, None, refl, sym, subst, ap, ◌∙◌}
use Rattle.std.proofs.Common.{cond, arith, eqb}
use Rattle.std.specs.Prelude.{slice_get, option_and_then, ◌||◌, ◌<◌, ◌^◌}
use Rattle.std.specs.List.{list_any, All}
use Rattle.std.proofs.lemmas.Bool.{or_left, or_right, eqb-true}
use Rattle.filter_settings.specs.bpf_code.declared.machine.Insn.{Insn}
use Rattle.filter_settings.specs.bpf_code.declared.machine.CallData.{CallData}
use Rattle.filter_settings.specs.bpf_code.declared.decision.Decision.{Decision}
use Rattle.filter_settings.specs.bpf_code.declared.decision.Decision.TheVariants as decision
use Rattle.filter_settings.specs.bpf_code.Meaning.{IsCallData}
use Rattle.filter_settings.specs.bpf_code.Stack.{decision_on}
use Rattle.filter_settings.proofs.OfBpfCode.Stacks.{refusals_stand}
use Rattle.filter_settings.specs.call_table.declared.listed.CallLine.{CallLine}
use Rattle.std.proofs.lemmas.List.Folds.{find_at, list_any-append}
use Rattle.filter_settings.proofs.OfCallTable.Places.{place_is, found_holds}
use Rattle.filter_settings.specs.call_table.Table.{Abi, Table, native, second_calls, every_call, arch_of, calls_in}
use Rattle.std.proofs.lemmas.List.Elements.{All-head, All-tail, All-cons}
use Rattle.std.specs.Option.{option_map_or, option_to_list}
use Rattle.filter_settings.specs.call_table.Lookups.{numbered, has_number, place_numbered}
use Rattle.kernel_model.specs.declared.kernel_calls.call.Call.{Call}
use Rattle.kernel_model.specs.kernel_calls.Calls.{IsCall}
use Rattle.kernel_model.specs.declared.kernel_calls.rule.Rule.{Rule}
use Rattle.kernel_model.specs.kernel_calls.Rules.{rule_of, rule_at}
use Rattle.kernel_model.specs.kernel_calls.Operation.{Operation, Does, asked_if, asked_by, asked_of, operation_by, bare}
use Rattle.kernel_model.specs.declared.kernel_calls.payload.Payload.{Payload}
use Rattle.kernel_model.specs.declared.kernel_calls.payload.Payload.TheVariants as pay
use Rattle.kernel_laws.specs.declared.question_types.kind.CallKind.{CallKind}
use Rattle.kernel_laws.specs.Kinds.{asks}
use Rattle.kernel_laws.specs.Launched.{Launch, data_at, is_pass, lets_words, lets_rule, lets_line, lets, Chosen, IsLaunched}

-- what a stack above the launch programs lets through, of any kind, some call of that kind passes the launch programs with
-- its first words
pub record LetsThrough (launch : Launch) : Type 0 where
  pub kinds : (newer : List (List Insn)) (call : Call) (operation : Operation) → IsCall call
      → decision_on (launch.stack ++ newer) (data_at launch call.abi call.nr call.args) ≡ decision.Pass
      → asked_of launch.calls call ≡ Does operation → (kind : CallKind) → asks kind operation ≡ true → lets launch kind ≡ true

-- a call without a payload asks for this one thing
pub bare_is : (operation own : Operation) (payload : Payload) → bare own payload ≡ Some operation → own ≡ operation
bare_is operation own pay.Nothing e = cc
bare_is operation own (pay.OnePath path) e = cc
bare_is operation own (pay.TwoPaths source target) e = cc
bare_is operation own (pay.PathFlags path flags) e = cc
bare_is operation own (pay.Sets permitted effective inheritable) e = cc
bare_is operation own (pay.Ids ids) e = cc
bare_is operation own (pay.Number number) e = cc
bare_is operation own (pay.Code bytes) e = cc
bare_is operation own (pay.Ring request) e = cc

-- a line of this number, with this rule
pub record HasRule (calls : List CallLine) (nr : ℕ) (rule : Rule) : Type 0 where
  pub line : CallLine
  pub found : numbered nr calls ≡ Some line
  pub is : rule_of line ≡ Some rule

pub has_rule : (calls : List CallLine) (nr : ℕ) (rule : Rule) → rule_at calls nr ≡ Some rule → HasRule calls nr rule
has_rule calls nr rule e = by (numbered nr calls) refl e
  where
    by : (o : Option CallLine) → numbered nr calls ≡ o → option_and_then rule_of o ≡ Some rule → HasRule calls nr rule
    by None f e = cc
    by (Some line) f e = record { line = line; found = f; is = e }

-- what a call asks for
pub record Asks (calls : List CallLine) (call : Call) (operation : Operation) : Type 0 where
  pub rule : Rule
  pub at : rule_at calls call.nr ≡ Some rule
  pub is : operation_by rule call.args call.payload ≡ Some operation

pub asks_for : (table : Table) (call : Call) (operation : Operation) → asked_of table call ≡ Does operation → Asks (calls_in table call.abi) call operation
asks_for table call operation e = by (rule_at (calls_in table call.abi) call.nr) refl e
  where
    calls : List CallLine
    calls = calls_in table call.abi

    by_operation : (rule : Rule) → rule_at calls call.nr ≡ Some rule → (o : Option Operation) → operation_by rule call.args call.payload ≡ o
        → asked_if o ≡ Does operation → Asks calls call operation
    by_operation rule at None f e = cc
    by_operation rule at (Some own) f e = let same : own ≡ operation = cc in record { rule = rule; at = at; is = f ∙ ap (λ (d : Operation). Some d) same }

    by : (o : Option Rule) → rule_at calls call.nr ≡ o → asked_by o call ≡ Does operation → Asks calls call operation
    by None at e = cc
    by (Some rule) at e = by_operation rule at (operation_by rule call.args call.payload) refl e

-- found lines are among the lines, with their number
pub any_found : (p : CallLine → Bool) (calls : List CallLine) (nr : ℕ) (line : CallLine) → numbered nr calls ≡ Some line → p line ≡ true
    → list_any p calls ≡ true
any_found p [] nr line e h = cc
any_found p (first ∷ calls) nr line e h = by (eqb first.number nr) e (any_found p calls nr line)
  where
    by : (b : Bool) → cond b (Some first) (numbered nr calls) ≡ Some line
        → (numbered nr calls ≡ Some line → p line ≡ true → list_any p calls ≡ true) → (p first || list_any p calls) ≡ true
    by true e more = let same : first ≡ line = cc in or_left (p first) (list_any p calls) (ap p same ∙ h)
    by false e more = or_right (p first) (list_any p calls) (more e h)

pub found_number : (calls : List CallLine) (nr : ℕ) (line : CallLine) → numbered nr calls ≡ Some line → line.number ≡ nr
found_number [] nr line e = cc
found_number (first ∷ calls) nr line e = by (eqb first.number nr) refl e (found_number calls nr line)
  where
    by : (b : Bool) → eqb first.number nr ≡ b → cond b (Some first) (numbered nr calls) ≡ Some line
        → (numbered nr calls ≡ Some line → line.number ≡ nr) → line.number ≡ nr
    by true is e more = let same : first ≡ line = cc in ap (λ (l : CallLine). l.number) (sym same) ∙ eqb-true first.number nr is
    by false is e more = more e

-- what the position finds, the number finds
pub at_position : (calls : List CallLine) (nr place : ℕ) (line : CallLine) → place_numbered nr calls ≡ Some place
    → slice_get calls place ≡ Some line → numbered nr calls ≡ Some line
at_position calls nr place line e g = find_at (has_number nr) calls ∙ ap (slice_get calls) (place_is (has_number nr) calls place e).0 ∙ g

-- newer programs let through nothing that the launch programs stop
pub older : (launch : Launch) → IsLaunched launch → (newer : List (List Insn)) (input : CallData) → IsCallData input
    → decision_on (launch.stack ++ newer) input ≡ decision.Pass → decision_on launch.stack input ≡ decision.Pass
older launch l newer input fit p = by (decision_on launch.stack input) refl
  where
    by : (d : Decision) → decision_on launch.stack input ≡ d → d ≡ decision.Pass
    by decision.Pass e = refl
    by (decision.Errno errno) e = absurd (refusals_stand launch.stack newer input (l.plain input fit) (λ q. let no' : decision.Errno errno ≡ decision.Pass = sym e ∙ q in cc) p)
    by decision.Kill e = absurd (refusals_stand launch.stack newer input (l.plain input fit) (λ q. let no' : decision.Kill ≡ decision.Pass = sym e ∙ q in cc) p)

pub data_fits : (launch : Launch) (call : Call) → ((abi : ℕ) → arch_of launch.calls abi < 2 ^ 32) → IsCall call
    → IsCallData (data_at launch call.abi call.nr call.args)
data_fits launch call arch fit = record { nr = fit.nr; arch = arch call.abi; ip = omega arith; count = fit.count; args = fit.args }

-- what holds of all lines holds of one that is found
pub found_all : (P : CallLine → Type 0) (calls : List CallLine) (nr : ℕ) (line : CallLine) → All P calls → numbered nr calls ≡ Some line
    → P line
found_all P calls nr line each e = found_holds P (has_number nr) calls line each e

-- of a place
pub slice_all : (P : CallLine → Type 0) (lines : List CallLine) (place : ℕ) (line : CallLine) → All P lines
    → slice_get lines place ≡ Some line → P line
slice_all P [] place line each e = cc
slice_all P (first ∷ lines) zero line each e = let same : first ≡ line = cc in subst P same (All-head P first lines each)
slice_all P (first ∷ lines) (suc place) line each e = slice_all P lines place line (All-tail P first lines each) e

-- of a list and of its parts
all_front : (P : CallLine → Type 0) (xs ys : List CallLine) → All P (xs ++ ys) → All P xs
all_front P [] ys each = λ k d lt. absurd (omega arith)
all_front P (x ∷ xs) ys each = All-cons P x xs (All-head P x (xs ++ ys) each) (all_front P xs ys (All-tail P x (xs ++ ys) each))

all_back : (P : CallLine → Type 0) (xs ys : List CallLine) → All P (xs ++ ys) → All P ys
all_back P [] ys each = each
all_back P (x ∷ xs) ys each = all_back P xs ys (All-tail P x (xs ++ ys) each)

-- of all calls, and of those of an ABI
pub all_in : (P : CallLine → Type 0) (table : Table) (abi : ℕ) → All P (every_call table) → All P (calls_in table abi)
all_in P table abi each = either abi table.second refl
  where
    parts : All P table.calls × All P (second_calls table.second)
    parts = (all_front P table.calls (second_calls table.second) each, all_back P table.calls (second_calls table.second) each)

    either : (abi : ℕ) (o : Option Abi) → table.second ≡ o → All P
        (option_map_or (λ found. found.calls) (slice_get (native table ∷ option_to_list table.second) abi) [])
    either zero o e = parts.0
    either (suc abi) None e =
        subst (λ (s : Option Abi). All P (option_map_or (λ found. found.calls) (slice_get (option_to_list s) abi) [])) (sym e)
        (λ k d lt. absurd (omega arith))
    either (suc zero) (Some second) e =
        subst (λ (s : Option Abi). All P (option_map_or (λ found. found.calls) (slice_get (option_to_list s) 0) [])) (sym e)
        (subst (λ (s : Option Abi). All P (second_calls s)) e parts.1)
    either (suc (suc abi)) (Some second) e =
        subst (λ (s : Option Abi). All P (option_map_or (λ found. found.calls) (slice_get (option_to_list s) (suc abi)) [])) (sym e)
        (λ k d lt. absurd (omega arith))

-- a call of an ABI is one of all
pub among_all : (p : CallLine → Bool) (table : Table) (abi : ℕ) → list_any p (calls_in table abi) ≡ true
    → list_any p (every_call table) ≡ true
among_all p table abi h = list_any-append p table.calls (second_calls table.second) ∙ either abi h table.second refl
  where
    either : (abi : ℕ) → list_any p (calls_in table abi) ≡ true → (o : Option Abi) → table.second ≡ o
        → (list_any p table.calls || list_any p (second_calls table.second)) ≡ true
    either zero h o e = or_left (list_any p table.calls) (list_any p (second_calls table.second)) h
    either (suc zero) h None e = let none = sym (ap (λ (s : Option Abi). list_any p (option_map_or (λ found. found.calls) (slice_get (option_to_list s) 0) [])) e) ∙ h in cc
    either (suc zero) h (Some second) e =
        or_right (list_any p table.calls) (list_any p (second_calls table.second))
        (ap (λ (s : Option Abi). list_any p (second_calls s)) e
        ∙ sym (ap (λ (s : Option Abi). list_any p (option_map_or (λ found. found.calls) (slice_get (option_to_list s) 0) [])) e) ∙ h)
    either (suc (suc abi)) h None e = let none = sym (ap (λ (s : Option Abi). list_any p (option_map_or (λ found. found.calls) (slice_get (option_to_list s) (suc abi)) [])) e) ∙ h in cc
    either (suc (suc abi)) h (Some second) e = let none = sym (ap (λ (s : Option Abi). list_any p (option_map_or (λ found. found.calls) (slice_get (option_to_list s) (suc abi)) [])) e) ∙ h in cc

lets_chosen : (launch : Launch) (kind : CallKind) (rule : Rule) (abi nr : ℕ) → Chosen launch kind rule abi nr
    → lets_rule launch kind abi nr (Some rule) ≡ true
lets_chosen launch kind rule abi nr c = ap (lets_words launch abi nr) c.are ∙ ap is_pass c.passes

-- the line of a call that was let through lets its kinds through
pub line_lets : (launch : Launch) → IsLaunched launch → (newer : List (List Insn)) (call : Call) (operation : Operation) → IsCall call
    → decision_on (launch.stack ++ newer) (data_at launch call.abi call.nr call.args) ≡ decision.Pass
    → (kind : CallKind) → asks kind operation ≡ true → (a : Asks (calls_in launch.calls call.abi) call operation)
    (h : HasRule (calls_in launch.calls call.abi) call.nr a.rule) → lets_line launch kind h.line ≡ true
line_lets launch l newer call operation fit p kind asked a h =
    let own = older launch l newer (data_at launch call.abi call.nr call.args) (data_fits launch call l.arch fit) p in
    let chosen = l.chosen kind call.abi call.nr call.args a.rule call.payload operation fit.nr (record { count = fit.count; each = fit.args }) a.at a.is asked own in
    let calls = calls_in launch.calls call.abi in
    let number : h.line.number ≡ call.nr = found_number calls call.nr h.line h.found in
    let abi : h.line.abi ≡ call.abi = found_all (λ line. line.abi ≡ call.abi) calls call.nr h.line (l.calls_of_abi call.abi) h.found in
    ap (lets_rule launch kind h.line.abi h.line.number) h.is ∙ ap (λ n. lets_rule launch kind h.line.abi n (Some a.rule)) number
    ∙ ap (λ n. lets_rule launch kind n call.nr (Some a.rule)) abi ∙ lets_chosen launch kind a.rule call.abi call.nr chosen

pub lets_through : (launch : Launch) → IsLaunched launch → LetsThrough launch
unfolding lets
lets_through launch l = record {
  kinds = λ newer call operation fit p is kind asked.
      let a = asks_for launch.calls call operation is in
      let h = has_rule (calls_in launch.calls call.abi) call.nr a.rule a.at in
      among_all (lets_line launch kind) launch.calls call.abi
      (any_found (lets_line launch kind) (calls_in launch.calls call.abi) call.nr h.line h.found
      (line_lets launch l newer call operation fit p kind asked a h));
}
