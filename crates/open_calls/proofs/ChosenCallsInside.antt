-- The chosen call that makes a user namespace, and the first call of a kind behind it.
use Rattle.std.proofs.Common.{◌≡◌, ℕ, true, List, [], ◌∷◌, Some, ap, ◌∙◌, sym, subst, zero, suc, ◌<◌}
use Rattle.std.specs.Prelude.{◌^◌, nat_lt, slice_get}
use Rattle.std.specs.List.{AllByRecursion}
use Rattle.std.proofs.lemmas.Bool.{and_parts}
use Rattle.ceilings.specs.kern_creds.declared.creds.Creds.{Creds}
use Rattle.ceilings.specs.kern_creds.Enter.{entered}
use Rattle.ceilings.specs.kern_mounts.Split.{Table}
use Rattle.ceilings.specs.kernel_model.kernel_calls.Calls.{IsCall}
use Rattle.ceilings.specs.kernel_model.declared.kernel_calls.call.Call.{Call}
use Rattle.ceilings.specs.kernel_model.declared.kernel_calls.payload.Payload.{Payload}
use Rattle.ceilings.specs.kernel_model.Runs.{IsDone}
use Rattle.ceilings.specs.kernel_model.Step.{step}
use Rattle.ceilings.specs.kernel_model.World.{World}
use Rattle.ceilings.specs.kernel_laws.declared.question_types.kind.CallKind.{CallKind}
use Rattle.ceilings.specs.kernel_laws.declared.question_types.kind.CallKind.TheVariants.{ForNamespace}
use Rattle.questions.specs.linux_numbers.declared.namespaces.NamespaceType.TheVariants.{User}
use Rattle.ceilings.specs.kernel_laws.Kinds.{space_payload}
use Rattle.ceilings.specs.kernel_laws.Launched.{Launch, IsLaunched, lets, can_make_user}
use Rattle.ceilings.specs.kernel_ways.Entering.{pid_in, IsEntered}
use Rattle.ceilings.specs.kernel_ways.Ways.{IsSolo, place_of}
use Rattle.ceilings.proofs.OfKernelWays.InUser.{enters, call_by as made_by}
use Rattle.ceilings.proofs.OfKernelWays.Lines.{first_by}
use Rattle.open_calls.specs.chosen_calls.Chosen.{own_payload, user_call, pid_inside, call_inside}
use Rattle.open_calls.proofs.FirstLines.{ChosenLine, chosen, call_is, rule_is}

pub at_place : {X : Type 0} (P : X → Type 0) (xs : List X) (at : ℕ) (x : X) → AllByRecursion P xs → slice_get xs at ≡ Some x → P x
at_place P [] at x all e = cc
at_place P (y ∷ xs) zero x all e = let same : y ≡ x = cc in subst P same all.0
at_place P (y ∷ xs) (suc at) x all e = at_place P xs at x all.1 e

-- the call that makes a user namespace is done by process 1 alone, and then somebody is in it
pub record UserCalled (launch : Launch) (creds : Creds) (table : Table) : Type 0 where
  pub fit : IsCall (user_call launch)
  pub small : pid_inside launch < 2 ^ 32
  pub inside : (after : World) → IsSolo launch creds table after
      → IsDone (step after (user_call launch)).0 × IsEntered launch (entered creds) table (pid_inside launch)
      (step after (user_call launch)).1

pub user_called : (launch : Launch) → IsLaunched launch → can_make_user launch ≡ true → (creds : Creds) (table : Table)
    → UserCalled launch creds table
user_called launch l user creds table =
    let both = and_parts (nat_lt 0 launch.site.user_namespaces) (lets launch (ForNamespace User)) user in
    let c = chosen launch l (ForNamespace User) both.1 in
    let first = enters launch both.0 creds table c.line in
    let pid : first.pid ≡ pid_inside launch = first.pid_is ∙ ap pid_in (sym (rule_is c)) in
    let payload : own_payload launch User ≡ space_payload c.line.own User = ap (λ own. space_payload own User) (rule_is c) in
    let call = first_by (place_of c.line.line) c.line.args (space_payload c.line.own User) in
    let same : user_call launch ≡ call = call_is c (own_payload launch User) ∙ ap (first_by (place_of c.line.line) c.line.args) payload in
    let P : ℕ → Type 0 = λ n. (after : World) → IsSolo launch creds table after → IsDone (step after call).0 × IsEntered launch (entered creds) table n (step after call).1 in
    let Q : Call → Type 0 = λ own. (after : World) → IsSolo launch creds table after → IsDone (step after own).0 × IsEntered launch (entered creds) table (pid_inside launch) (step after own).1 in
    record {
      fit = subst IsCall (sym same) first.makes.fit;
      small = subst (λ n. n < 2 ^ 32) pid first.small;
      inside = subst Q (sym same) (subst P pid first.inside);
    }

-- the first call of a kind, made there
pub inside_is : (launch : Launch) {kind : CallKind} (c : ChosenLine launch kind) (payload : Payload)
    → call_inside launch kind payload ≡ made_by (pid_inside launch) (place_of c.line.line) c.line.args payload
inside_is launch c payload = ap (λ (call : Call). record call { pid = pid_inside launch }) (call_is c payload)
