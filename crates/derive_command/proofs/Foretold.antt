-- Replies that are foretold for other programs are theirs.
use Rattle.std.proofs.Common.{◌≡◌, ◌≢◌, ℕ, Bool, true, false, cond, List, [], ◌∷◌, ◌++◌, Option, Some, None, refl, ap, ◌∙◌, sym, subst, length}
use Rattle.std.proofs.Common.{zero, suc, ◌<◌, ◌≤◌, arith, eqb, eq-eqb}
use Rattle.std.specs.Prelude.{◌-◌, map, slice_get}
use Rattle.std.specs.Option.{option_map, option_map_or}
use Rattle.std.proofs.lemmas.Bool.Decides.{nat_tests}
use Rattle.std.proofs.lemmas.Option.{slice_get-get_or, slice_get_past}
use Rattle.asked_service.specs.bpf_code.declared.decision.Decision.{Decision}
use Rattle.asked_service.specs.bpf_code.declared.decision.Decision.TheVariants as decision
use Rattle.asked_service.specs.bpf_code.declared.machine.CallData.{CallData}
use Rattle.asked_service.specs.bpf_code.declared.machine.Insn.{Insn}
use Rattle.asked_service.specs.bpf_code.Stack.{decision_on}
use Rattle.asked_service.specs.call_table.Table.{Abi, Table, abi_at, abis, arch_of}
use Rattle.asked_service.specs.kernel_model.declared.kernel_calls.call.Call.{Call}
use Rattle.asked_service.specs.kernel_model.declared.process.Process.{Process}
use Rattle.asked_service.specs.kernel_model.declared.reply.Reply.{Reply}
use Rattle.asked_service.specs.kernel_model.declared.reply.Reply.TheVariants as w
use Rattle.asked_service.specs.kernel_model.Runs.{replies}
use Rattle.asked_service.specs.kernel_model.Step as kernel
use Rattle.asked_service.specs.kernel_model.World.{World, if_alive, living_of, process_of}
use Rattle.asked_service.specs.launcher.Alike.{above, over}
use Rattle.asked_service.proofs.OfLauncher.Alike.{calls_kept, own_by, own_decided, own_step, step_above}
use Rattle.derive_command.specs.declared.trace_profile.fates.Fate.TheVariants.{Unasked}
use Rattle.derive_command.specs.trace_profile.Foretelling.{fate_by, fate_of, fate_on, fates, foretells, foretold, foretold_in, goes_on}
use Rattle.derive_command.specs.trace_profile.Foretelling.{input_in, input_of, is_same}
use Rattle.derive_command.specs.trace_profile.Replies.{Compares}
use Rattle.derive_command.specs.trace_profile.allow_laws.Either.{PushNone, PushesNone}
use Rattle.derive_command.proofs.Either.{heads, own_replies, tails}
use Rattle.derive_command.proofs.NonePushed.{AreBare, IsBareCaller, bare_caller, bare_step}
use Rattle.derive_command.proofs.Same.{by_decision, same_reply}

-- ---- what programs see
pub seen_here : (table : Table) (call : Call) → call.abi < length (abis table)
    → input_in table call ≡ Some (record { nr = call.nr; arch = arch_of table call.abi; ip = 0; args = call.args })
seen_here table call lt = by (abi_at table call.abi) refl
  where
    by : (o : Option Abi) → abi_at table call.abi ≡ o → option_map (input_of call) o
        ≡ Some (record { nr = call.nr; arch = option_map_or (λ (found : Abi). found.arch) o 0; ip = 0; args = call.args })
    by (Some abi) e = refl
    by None e = let there = sym e ∙ slice_get-get_or (abis table) call.abi (record { name = []; arch = 0; calls = [] }) lt in cc

pub unseen : (table : Table) (call : Call) → length (abis table) ≤ call.abi → None ≡ input_in table call
unseen table call le = sym (ap (option_map (input_of call)) (slice_get_past (abis table) call.abi le))

-- ---- what the programs of a caller do
no_caller : (o : Option CallData) → Unasked ≡ fate_by o None
no_caller None = refl
no_caller (Some input) = refl

module _ (world : World) (call : Call) where
  pub fate_unseen : None ≡ input_in world.calls call → Unasked ≡ fate_of world call
  fate_unseen e = ap (λ (o : Option CallData). fate_by o (living_of world call.pid)) e

  pub fate_none : None ≡ process_of world call.pid → Unasked ≡ fate_of world call
  fate_none e = no_caller (input_in world.calls call) ∙ ap (λ (o : Option Process). fate_by (input_in world.calls call) (if_alive o)) e

  module _ (process : Process) (there : Some process ≡ process_of world call.pid) where
    at_caller : fate_by (input_in world.calls call) (cond process.alive (Some process) None) ≡ fate_of world call
    at_caller = ap (λ (o : Option Process). fate_by (input_in world.calls call) (if_alive o)) there

    pub fate_dead : process.alive ≡ false → Unasked ≡ fate_of world call
    fate_dead dead =
        no_caller (input_in world.calls call)
        ∙ ap (λ b. fate_by (input_in world.calls call) (cond b (Some process) None)) (sym dead) ∙ at_caller

    pub fate_alive : process.alive ≡ true → (input : CallData) → Some input ≡ input_in world.calls call
        → fate_on (decision_on process.stack input) ≡ fate_of world call
    fate_alive alive input seen =
        ap (λ (o : Option CallData). fate_by o (Some process)) seen
        ∙ ap (λ b. fate_by (input_in world.calls call) (cond b (Some process) None)) (sym alive) ∙ at_caller

-- ---- replies that are compared
pub same_is : (one other : Reply) → is_same one other ≡ true → one ≡ other
same_is (w.Done a) (w.Done b) e = let h : a ≡ b = grind (arith, nat_tests) in ap (λ n. w.Done n) h
same_is (w.Done a) (w.Refused b) e = cc
same_is (w.Done a) w.Killed e = cc
same_is (w.Refused a) (w.Done b) e = cc
same_is (w.Refused a) (w.Refused b) e = let h : a ≡ b = grind (arith, nat_tests) in ap (λ n. w.Refused n) h
same_is (w.Refused a) w.Killed e = cc
same_is w.Killed (w.Done b) e = cc
same_is w.Killed (w.Refused b) e = cc
same_is w.Killed w.Killed e = refl

same_self : (one : Reply) → is_same one one ≡ true
same_self (w.Done a) = eq-eqb a a refl
same_self (w.Refused a) = eq-eqb a a refl
same_self w.Killed = refl

pub other_is : (one other : Reply) → is_same one other ≡ false → one ≢ other
other_is one other e d = let clash = sym e ∙ ap (is_same one) (sym d) ∙ same_self one in cc

some_is : {X : Type 0} (a b : X) → Some a ≡ Some b → a ≡ b
some_is a b e = cc

append_none : (xs : List (List Insn)) → xs ++ [] ≡ xs
append_none [] = refl
append_none (x ∷ xs) = ap (λ ys. x ∷ ys) (append_none xs)

-- ---- the callers of a world with programs below
get_map : (programs : List (List Insn)) (xs : List Process) (i : ℕ)
    → slice_get (map (over programs) xs) i ≡ option_map (over programs) (slice_get xs i)
get_map programs [] i = refl
get_map programs (x ∷ xs) zero = refl
get_map programs (x ∷ xs) (suc i) = get_map programs xs i

living_over : (programs : List (List Insn)) (base : World) (pid : ℕ)
    → living_of (above programs base) pid ≡ option_map (over programs) (living_of base pid)
living_over programs base pid = ap if_alive (place (eqb pid 0)) ∙ alive (process_of base pid)
  where
    place : (b : Bool) → cond b None (slice_get (map (over programs) base.processes) (pid - 1))
        ≡ option_map (over programs) (cond b None (slice_get base.processes (pid - 1)))
    place true = refl
    place false = get_map programs base.processes (pid - 1)

    alive : (o : Option Process) → if_alive (option_map (over programs) o) ≡ option_map (over programs) (if_alive o)
    alive None = refl
    alive (Some process) = by process.alive
      where
        by : (b : Bool) → cond b (Some (over programs process)) None ≡ option_map (over programs) (cond b (Some process) None)
        by true = refl
        by false = refl

-- ---- one call by the programs of two launches, of which the first is heard
module _ (one two : List (List Insn)) (base : World) (call : Call) (nothing : PushesNone base.calls call) (bare : AreBare base) where
  by_abi : (programs : List (List Insn)) (process : Process) (o : Option Abi) → abi_at base.calls call.abi ≡ o
      → own_by programs base call (Some process) ≡ own_decided programs base call process (kernel.decision_by call (over programs process) o)
  by_abi programs process o e = ap (λ (own : Option Abi). own_decided programs base call process (kernel.decision_by call (over programs process) own)) e

  by_fate : (process : Process) (c d : Decision) (reply : Reply)
      → foretold (fate_on c) d (own_decided one base call process c).0 ≡ Some reply
      → (own_decided two base call process d).0 ≡ reply
  by_fate process decision.Pass decision.Pass reply h =
      ap (λ (out : Reply × World). out.0) (by_decision two one base call nothing process decision.Pass) ∙ some_is _ _ h
  by_fate process decision.Pass (decision.Errno errno) reply h = some_is _ _ h
  by_fate process decision.Pass decision.Kill reply h = some_is _ _ h
  by_fate process (decision.Errno own) decision.Pass reply h = cc
  by_fate process (decision.Errno own) (decision.Errno errno) reply h = some_is _ _ h
  by_fate process (decision.Errno own) decision.Kill reply h = some_is _ _ h
  by_fate process decision.Kill decision.Pass reply h = cc
  by_fate process decision.Kill (decision.Errno errno) reply h = some_is _ _ h
  by_fate process decision.Kill decision.Kill reply h = some_is _ _ h

  by_caller : (o : Option Abi) → abi_at base.calls call.abi ≡ o → (caller : Option Process) → IsBareCaller caller → (reply : Reply)
      → foretold_in (option_map (input_of call) o) two (fate_by (option_map (input_of call) o) (option_map (over one) caller))
      (own_by one base call caller).0 ≡ Some reply
      → (own_by two base call caller).0 ≡ reply
  by_caller None e None is reply h = some_is _ _ h
  by_caller None e (Some process) is reply h =
      ap (λ (out : Reply × World). out.0) (by_abi two process None e ∙ sym (by_abi one process None e)) ∙ some_is _ _ h
  by_caller (Some abi) e None is reply h = some_is _ _ h
  by_caller (Some abi) e (Some process) is reply h =
      let input : CallData = input_of call abi in
      let first = by_abi one process (Some abi) e in
      let second = by_abi two process (Some abi) e in
      let alone : decision_on (two ++ process.stack) input ≡ decision_on two input =
      ap (λ (own : List (List Insn)). decision_on (two ++ own) input) is ∙ ap (λ (own : List (List Insn)). decision_on own input) (append_none two) in
      ap (λ (out : Reply × World). out.0) second
      ∙ ap (λ (c : Decision). (own_decided two base call process c).0) alone
      ∙ by_fate process (decision_on (one ++ process.stack) input) (decision_on two input) reply
      (ap (λ (out : Reply × World). foretold (fate_on (decision_on (one ++ process.stack) input)) (decision_on two input) out.0) (sym first) ∙ h)

  pub call_foretold : (reply : Reply)
      → foretold_in (input_in base.calls call) two (fate_of (above one base) call) (own_step one base call).0 ≡ Some reply
      → (own_step two base call).0 ≡ reply
  call_foretold reply h =
      by_caller (abi_at base.calls call.abi) refl (living_of base call.pid) (bare_caller base call.pid bare) reply
      (ap (λ (caller : Option Process). foretold_in (input_in base.calls call) two (fate_by (input_in base.calls call) caller)
      (own_step one base call).0) (sym (living_over one base call.pid)) ∙ h)

-- ---- all calls
module _ (one two : List (List Insn)) (table : Table) where
  -- replies from a call on
  both_compare : (own said : Reply) (others rest : List Reply) (b : Bool) → own ≡ said → Compares others rest b
      → Compares (own ∷ others) (said ∷ rest) b
  both_compare own said others rest true e same = ap (λ (r : Reply). r ∷ others) e ∙ ap (λ (rs : List Reply). said ∷ rs) same
  both_compare own said others rest false e differ = λ same. differ (tails own said others rest same)

  lent : (a a' b b' : List Reply) (tells : Bool) → a ≡ a' → b ≡ b' → Compares a' b' tells → Compares a b tells
  lent a a' b b' tells e d holds =
      subst (λ (own : List Reply). Compares own b tells) (sym e) (subst (λ (own : List Reply). Compares a' own tells) (sym d) holds)

  -- what is foretold of a script from this world on
  abbrev foretold_from : World → List Call → Option Bool
  foretold_from base calls = foretells table two calls (fates (above one base) calls) (replies (above one base) calls)

  module _ (base : World) (call : Call) (calls : List Call) (is : base.calls ≡ table) (bare : AreBare base) (nothing : PushesNone base.calls call) where
    abbrev said : Reply
    said = (own_step one base call).0

    abbrev next : World
    next = (own_step one base call).1

    abbrev AreTold : Bool → Type 0
    AreTold tells = Compares ((own_step two base call).0 ∷ replies (above two (own_step two base call).1) calls)
        (said ∷ replies (above one next) calls) tells

    module _ (more : (tells : Bool) → foretold_from next calls ≡ Some tells → Compares (replies (above two next) calls) (replies (above one next) calls) tells) where
      by_same : (reply : Reply) (b : Bool) → is_same reply said ≡ b → (own_step two base call).0 ≡ reply → (tells : Bool)
          → cond b (foretold_from next calls) (Some false) ≡ Some tells → AreTold tells
      by_same reply true e comes tells h =
          let same : (own_step two base call).0 ≡ said = comes ∙ same_is reply said e in
          let step : own_step two base call ≡ own_step one base call = same_reply two one base call nothing same in
          both_compare (own_step two base call).0 said (replies (above two (own_step two base call).1) calls)
          (replies (above one next) calls) tells same
          (lent (replies (above two (own_step two base call).1) calls) (replies (above two next) calls) (replies (above one next) calls)
          (replies (above one next) calls) tells (ap (λ (out : Reply × World). replies (above two out.1) calls) step) refl (more tells h))
      by_same reply false e comes tells h =
          let no : false ≡ tells = some_is _ _ h in
          subst (λ (b : Bool). AreTold b) no
          (λ same. other_is reply said e (sym comes ∙ heads _ _ _ _ same))

      by_reply : (o : Option Reply) → foretold_in (input_in table call) two (fate_of (above one base) call) said ≡ o → (tells : Bool)
          → goes_on o said (foretold_from next calls) ≡ Some tells → AreTold tells
      by_reply None e tells h = cc
      by_reply (Some reply) e tells h =
          by_same reply (is_same reply said) refl
          (call_foretold one two base call nothing bare reply
          (ap (λ (own : Table). foretold_in (input_in own call) two (fate_of (above one base) call) said) is ∙ e))
          tells h

      one_more : (tells : Bool) → foretold_from base (call ∷ calls) ≡ Some tells
          → Compares (replies (above two base) (call ∷ calls)) (replies (above one base) (call ∷ calls)) tells
      one_more tells h =
          let here : goes_on (foretold_in (input_in table call) two (fate_of (above one base) call) said) said (foretold_from next calls) ≡ foretold_from base (call ∷ calls) =
          ap (λ (out : Reply × World). goes_on (foretold_in (input_in table call) two (fate_of (above one base) call) out.0) out.0
          (foretells table two calls (fates out.1 calls) (replies out.1 calls))) (sym (step_above one base call)) in
          lent (replies (above two base) (call ∷ calls)) ((own_step two base call).0 ∷ replies (above two (own_step two base call).1) calls)
          (replies (above one base) (call ∷ calls)) (said ∷ replies (above one next) calls) tells
          (own_replies two base call calls) (own_replies one base call calls)
          (by_reply (foretold_in (input_in table call) two (fate_of (above one base) call) said) refl tells (here ∙ h))

  pub are_foretold : (base : World) (calls : List Call) → base.calls ≡ table → AreBare base → PushNone table calls → (tells : Bool)
      → foretells table two calls (fates (above one base) calls) (replies (above one base) calls) ≡ Some tells
      → Compares (replies (above two base) calls) (replies (above one base) calls) tells
  are_foretold base [] is bare nothing true h = refl
  are_foretold base [] is bare nothing false h = λ e. let no : true ≡ false = some_is _ _ h in cc
  are_foretold base (call ∷ calls) is bare nothing tells h =
      let own : PushesNone base.calls call = subst (λ (own : Table). PushesNone own call) (sym is) nothing.0 in
      one_more base call calls is bare own
      (λ tells' h'. are_foretold (own_step one base call).1 calls (calls_kept one base call ∙ is) (bare_step one base call own bare) nothing.1 tells' h')
      tells h
