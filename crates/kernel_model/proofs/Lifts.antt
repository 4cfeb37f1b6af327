-- From what is done at a caller's place to the whole world.
use Rattle.std.proofs.Common.{◌≡◌, ℕ, ◌<◌, ◌-◌, ◌+◌, Bool, true, false, List, [], ◌∷◌, ◌++◌, length, get_or, Some, Result, Ok, Err, refl, sym, ap}
use Rattle.std.proofs.Common.{◌∙◌, subst, arith, Option}
use Rattle.std.specs.Prelude.{◌||◌, ◌==◌, nat_lt, slice_get, slice_set, IfOk, OnErr, IsOk}
use Rattle.std.specs.List.{AllByRecursion}
use Rattle.std.specs.Option.{option_map_or}
use Rattle.std.proofs.lemmas.Option.{slice_get-get_or}
use Rattle.kernel_model.specs.declared.reply.Reply.TheVariants.{Refused}
use Rattle.bpf_code.specs.declared.decision.Decision.{Decision}
use Rattle.bpf_code.specs.declared.decision.Decision.TheVariants as decision
use Rattle.bpf_code.specs.Stack.{decision_on}
use Rattle.call_table.specs.Table as calls
use Rattle.call_table.specs.Table.{Abi, abis, native, abi_at, arch_of}
use Rattle.site_table.specs.Table.{Site}
use Rattle.kern_mounts.specs.Mounts.{Mounts as Table}
use Rattle.kernel_model.specs.declared.kernel_calls.call.Call.{Call}
use Rattle.kernel_model.specs.kernel_calls.Operation.{Operation, Does, asked_of}
use Rattle.kernel_model.specs.declared.mount_namespace.MountNamespace.{MountNamespace}
use Rattle.kernel_model.specs.declared.process.Process.{Process}
use Rattle.kernel_model.specs.declared.reply.Reply.{Reply}
use Rattle.kernel_model.specs.declared.reply.Reply.TheVariants as reply
use Rattle.kernel_model.specs.declared.outcome.Outcome.{Outcome}
use Rattle.kernel_model.specs.declared.outcome.Outcome.TheVariants.{Replied, MakesChild, MakesTable, MakesUserChild, MakesOwnUser}
use Rattle.kernel_model.specs.Effects as f
use Rattle.kernel_model.specs.Effects.{Effect, effect_of}
use Rattle.kernel_model.specs.Memory.{asks_for_room, makes_one, takes_operation, takes_asked, takes_decided, takes_by, takes_memory}
use Rattle.kernel_model.specs.Parts.{Parts, parts, caller_by, done_here, Left, UnlessReplied}
use Rattle.kernel_model.specs.State.{State, world_of, host_by, place_of, AtPlace, Applies, AppliesAt, namespace_in}
use Rattle.kernel_model.specs.MountNamespaces.{namespace_or, with_other_table}
use Rattle.kernel_model.specs.World.{World, namespace_of, mounts_of, with_table, host_of, caller_of, put_number, ended}
use Rattle.kernel_model.specs.Worlds.{HasSpace, IsKernel}
use Rattle.kernel_model.proofs.Kernels.{kernel_step, kernel_process, spaced, living_space}
use Rattle.kernel_model.specs.Step.{applied, answered, decided, step, step_by, decision_by, decision_of}
use Rattle.kernel_model.proofs.Lists.{set_same, set_or, get_same, get_some}
use Rattle.kernel_model.proofs.Places.{has_number, stands}

pub if_ok : {T E : Type 0} (P Q : T → Type 0) (result : Result T E) → IfOk result P → ((value : T) → P value → Q value) → IfOk result Q
if_ok P Q (Ok value) h next = next value h
if_ok P Q (Err error) h next = tt

-- the state with the parts of a caller put back; its mount namespace keeps its owner
abbrev pub put_back : State → ℕ → ℕ → MountNamespace → Parts → State
put_back state place at space new = record state {
  processes = slice_set state.processes place new.process;
  namespaces = slice_set state.namespaces at (with_other_table space new.table);
}

-- a caller stands at a place, and its mount namespace at another
pub record Seat (state : State) (place at pid : ℕ) (process : Process) (space : MountNamespace) : Type 0 where
  pub place_is : place ≡ pid - 1
  pub stands : slice_get state.processes place ≡ Some process
  pub number : at + 1 ≡ process.namespace
  pub has : slice_get state.namespaces at ≡ Some space

module _ (calls : calls.Table) (site : Site) (state : State) (place at pid : ℕ) (process : Process) (space : MountNamespace) (seat : Seat state place at pid process space) where
  abbrev with_lists : List Process → List MountNamespace → World
  with_lists processes namespaces = record (world_of calls site state) { processes = processes; namespaces = namespaces }

  same_process : slice_set state.processes place process ≡ state.processes
  same_process = set_same state.processes place process seat.stands

  same_space : slice_set state.namespaces at (with_other_table space space.table) ≡ state.namespaces
  same_space = set_same state.namespaces at space seat.has

  same : world_of calls site (put_back state place at space (parts process space.table)) ≡ world_of calls site state
  same = ap (λ (ps : List Process). with_lists ps (slice_set state.namespaces at (with_other_table space space.table))) same_process
      ∙ ap (λ (ns : List MountNamespace). with_lists state.processes ns) same_space

  one_process : (now : Process) → world_of calls site (put_back state place at space (parts now space.table))
      ≡ record (world_of calls site state) { processes = slice_set state.processes (pid - 1) now }
  one_process now = ap (λ (ns : List MountNamespace). with_lists (slice_set state.processes place now) ns) same_space
      ∙ ap (λ (n : ℕ). with_lists (slice_set state.processes n now) state.namespaces) seat.place_is

  found : namespace_of (world_of calls site state) process.namespace ≡ space
  found = ap namespace_or (has_number state.namespaces process.namespace at space seat.number seat.has)

  one_table : (now : Table) → world_of calls site (put_back state place at space (parts process now))
      ≡ with_table (world_of calls site state) process.namespace now
  one_table now =
      let there : at ≡ process.namespace - 1 = omega (arith, seat.number) in
      ap (λ (ps : List Process). with_lists ps (slice_set state.namespaces at (with_other_table space now))) same_process
      ∙ ap (λ (n : ℕ). with_lists state.processes (slice_set state.namespaces n (with_other_table space now))) there
      ∙ ap (λ (x : MountNamespace). with_lists state.processes
      (slice_set state.namespaces (process.namespace - 1) (with_other_table x now))) (sym found)

  abbrev Now : Effect → Outcome × Parts → Type 0
  Now effect out = Left (world_of calls site state) pid process out.0 (world_of calls site (put_back state place at space out.1)) effect

  with_reply : (r : Reply) (one other : World) → one ≡ other → ◌≡◌ {A = Reply × World} (r, one) (r, other)
  with_reply r one other e = let f : World → Reply × World = λ w. (r, w) in ap f e

  left_by : (effect : Effect) → Now effect (done_here (parts process space.table) effect)
  left_by (f.Refuse errno) = with_reply (reply.Refused errno) _ _ same
  left_by (f.Answer value) = with_reply (reply.Done value) _ _ same
  left_by (f.SetCreds value creds) = with_reply (reply.Done value) _ _ (one_process (record process { creds = creds }))
  left_by (f.SetTable now) = with_reply (reply.Done 0) _ _ (one_table now)
  left_by (f.Push program) = with_reply (reply.Done 0) _ _ (one_process (record process { stack = process.stack ++ program ∷ [] }))
  left_by (f.Child own) = (refl, same)
  left_by f.OwnTable = (refl, same)
  left_by (f.UserChild own) = (refl, same)
  left_by (f.OwnUser own) = (refl, same)
  left_by f.End = with_reply (reply.Done 0) _ _ (one_process (ended process))

  -- what is done at the parts is what is left of the world
  pub left : (effect : Effect) (outcome : Outcome) (new : Parts) → (outcome, new) ≡ done_here (parts process space.table) effect
      → Left (world_of calls site state) pid process outcome (world_of calls site (put_back state place at space new)) effect
  left effect outcome new e = subst (Now effect) (sym e) (left_by effect)

unless_done : (old : Parts) (effect : Effect) → UnlessReplied (done_here old effect).0 ((done_here old effect).1 ≡ old)
unless_done old (f.Refuse errno) = tt
unless_done old (f.Answer value) = tt
unless_done old (f.SetCreds value creds) = tt
unless_done old (f.SetTable now) = tt
unless_done old (f.Push program) = tt
unless_done old (f.Child own) = refl
unless_done old f.OwnTable = refl
unless_done old (f.UserChild own) = refl
unless_done old (f.OwnUser own) = refl
unless_done old f.End = tt

unless_map : {A B : Type 0} (outcome : Outcome) → UnlessReplied outcome A → (A → B) → UnlessReplied outcome B
unless_map (Replied reply) h next = tt
unless_map (MakesChild own) h next = next h
unless_map MakesTable h next = next h
unless_map (MakesUserChild own) h next = next h
unless_map (MakesOwnUser own) h next = next h

-- where something is to be made, the parts are put back as they were
unless_there : (state : State) (place at : ℕ) (old now : Process) (space : MountNamespace) (new : Table) (outcome : Outcome) (effect : Effect)
    → old ≡ get_or state.processes place old → space ≡ get_or state.namespaces at space
    → (outcome, parts now new) ≡ done_here (parts old space.table) effect
    → UnlessReplied outcome (put_back state place at space (parts now new) ≡ state)
unless_there state place at old now space new outcome effect is has e =
    let same : UnlessReplied outcome (parts now new ≡ parts old space.table) = subst (λ (out : Outcome × Parts). UnlessReplied out.0 (out.1 ≡ parts old space.table)) (sym e) (unless_done (parts old space.table) effect) in
    unless_map outcome same (λ p. ap (put_back state place at space) p
    ∙ ap (λ (ps : List Process). record state { processes = ps; namespaces = slice_set state.namespaces at space })
    (set_or state.processes place old is)
    ∙ ap (λ (ns : List MountNamespace). record state { namespaces = ns }) (set_or state.namespaces at space has))

-- what the rules make of a caller and its table, in the place of both
there_here : {E : Type 0} (calls : calls.Table) (site : Site) (state : State) (place at : ℕ) (old now : Process) (space : MountNamespace)
    (new : Table) (operation : Operation) (owns : Bool) (result : Result Outcome E)
    → old ≡ get_or state.processes place old → space ≡ get_or state.namespaces at space → at < length state.namespaces
    → AtPlace state place (λ pid process. at + 1 ≡ process.namespace)
    → AtPlace state place (λ pid process. owns ≡ ((namespace_in state process.namespace).owner == process.user))
    → IfOk result (λ outcome. (outcome, parts now new) ≡ done_here (parts old space.table)
    (effect_of (host_by calls site) (caller_by old space.table owns) operation))
    → IfOk result (λ outcome. AtPlace state place
    (λ pid process. Left (world_of calls site state) pid process outcome
    (world_of calls site (put_back state place at space (parts now new)))
    (effect_of (host_of (world_of calls site state)) (caller_of (world_of calls site state) process) operation)))
there_here calls site state place at old now space new operation owns result is tis lt numbers home h =
    if_ok _ _ result h (λ outcome e pid process place_is stands.
    let same : old ≡ process = get_same state.processes place old process is stands in
    let has : slice_get state.namespaces at ≡ Some space = get_some state.namespaces at space lt tis in
    let number : at + 1 ≡ process.namespace = numbers pid process place_is stands in
    let own : mounts_of (world_of calls site state) process.namespace ≡ space.table = ap (λ (o : Option MountNamespace). (namespace_or o).table) (has_number state.namespaces process.namespace at space number has) in
    let seat : Seat state place at pid process space = record { place_is = place_is; stands = stands; number = number; has = has } in
    let effect : effect_of (host_by calls site) (caller_by old space.table owns) operation ≡ effect_of (host_of (world_of calls site state)) (caller_of (world_of calls site state) process) operation =
    ap (λ (p : Process). effect_of (host_by calls site) (caller_by p space.table owns) operation) same
    ∙ ap (λ (t : Table). effect_of (host_by calls site) (caller_by process t owns) operation) (sym own)
    ∙ ap (λ (b : Bool). effect_of (host_by calls site) (caller_by process (mounts_of (world_of calls site state) process.namespace) b) operation) (home pid process place_is stands) in
    left calls site state place at pid process space seat
    (effect_of (host_of (world_of calls site state)) (caller_of (world_of calls site state) process) operation) outcome (parts now new)
    (e ∙ ap (λ (p : Process). done_here (parts p space.table) (effect_of (host_by calls site) (caller_by old space.table owns) operation)) same
    ∙ ap (done_here (parts process space.table)) effect))

-- the same where the state is seen through its lists
pub performed_there : {E : Type 0} (viewed state : State) → viewed ≡ state
    → (calls : calls.Table) (site : Site) (place at : ℕ) (old now : Process) (space : MountNamespace) (new : Table) (operation : Operation)
    (owns : Bool) (result : Result Outcome E)
    → old ≡ get_or viewed.processes place old → space ≡ get_or viewed.namespaces at space → at < length state.namespaces
    → AtPlace state place (λ pid process. at + 1 ≡ process.namespace)
    → AtPlace state place (λ pid process. owns ≡ ((namespace_in state process.namespace).owner == process.user))
    → IfOk result (λ outcome. (outcome, parts now new) ≡ done_here (parts old space.table)
    (effect_of (host_by calls site) (caller_by old space.table owns) operation))
    → IfOk result (λ outcome. AtPlace state place
    (λ pid process. Left (world_of calls site state) pid process outcome
    (world_of calls site (put_back viewed place at space (parts now new)))
    (effect_of (host_of (world_of calls site state)) (caller_of (world_of calls site state) process) operation)))
performed_there viewed state v calls site place at old now space new operation owns result is tis lt numbers home h =
    subst (λ (s : State). IfOk result
    (λ outcome. AtPlace state place
    (λ pid process. Left (world_of calls site state) pid process outcome (world_of calls site (put_back s place at space (parts now new)))
    (effect_of (host_of (world_of calls site state)) (caller_of (world_of calls site state) process) operation))))
    (sym v)
    (there_here calls site state place at old now space new operation owns result
    (subst (λ (s : State). old ≡ get_or s.processes place old) v is)
    (subst (λ (s : State). space ≡ get_or s.namespaces at space) v tis) lt numbers home h)

pub stays_there : {E : Type 0} (viewed state : State) → viewed ≡ state
    → (place at : ℕ) (old now : Process) (space : MountNamespace) (new : Table) (effect : Effect) (result : Result Outcome E)
    → old ≡ get_or viewed.processes place old → space ≡ get_or viewed.namespaces at space
    → IfOk result (λ outcome. (outcome, parts now new) ≡ done_here (parts old space.table) effect)
    → IfOk result (λ outcome. UnlessReplied outcome (put_back viewed place at space (parts now new) ≡ state))
stays_there viewed state v place at old now space new effect result is tis h =
    if_ok _ _ result h (λ outcome e. unless_map outcome (unless_there viewed place at old now space new outcome effect is tis e)
    (λ p. p ∙ v))

-- of a call of which nothing is left the reply is that of its effect
pub replied_there : (state after : State) (calls : calls.Table) (site : Site) (place : ℕ) (effect : Process → Effect) (outcome : Outcome)
    (r : Reply) → outcome ≡ Replied r
    → AtPlace state place (λ pid process. Left (world_of calls site state) pid process outcome (world_of calls site after) (effect process))
    → AtPlace state place (λ pid process. (r, world_of calls site after) ≡ applied (world_of calls site state) pid process (effect process))
replied_there state after calls site place effect outcome r is h pid process place_is stands =
    subst (λ (o : Outcome). Left (world_of calls site state) pid process o (world_of calls site after) (effect process)) is
    (h pid process place_is stands)

-- where a child or a namespace is to be made, that is the effect
child_is : (state after : State) (calls : calls.Table) (site : Site) (place : ℕ) (effect : Process → Effect) (outcome : Outcome)
    (own : Bool) → outcome ≡ MakesChild own
    → AtPlace state place (λ pid process. Left (world_of calls site state) pid process outcome (world_of calls site after)
    (effect process)) → AtPlace state place (λ pid process. effect process ≡ f.Child own)
child_is state after calls site place effect outcome own is h pid process place_is stands =
    (subst (λ (o : Outcome). Left (world_of calls site state) pid process o (world_of calls site after) (effect process)) is
    (h pid process place_is stands)).0

table_is : (state after : State) (calls : calls.Table) (site : Site) (place : ℕ) (effect : Process → Effect) (outcome : Outcome)
    → outcome ≡ MakesTable
    → AtPlace state place (λ pid process. Left (world_of calls site state) pid process outcome (world_of calls site after)
    (effect process)) → AtPlace state place (λ pid process. effect process ≡ f.OwnTable)
table_is state after calls site place effect outcome is h pid process place_is stands =
    (subst (λ (o : Outcome). Left (world_of calls site state) pid process o (world_of calls site after) (effect process)) is
    (h pid process place_is stands)).0

-- what is made then is what the effect makes
made_there : {E : Type 0} (state mid new : State) → mid ≡ state
    → (calls : calls.Table) (site : Site) (place : ℕ) (effect : Process → Effect) (one : Effect) (result : Result Reply E)
    → AtPlace state place (λ pid process. effect process ≡ one) → IfOk result (λ r. AppliesAt site mid place one r new)
    → IfOk result (λ r. AtPlace state place (λ pid process. (r, world_of calls site new)
    ≡ applied (world_of calls site state) pid process (effect process)))
made_there state mid new m calls site place effect one result is h =
    if_ok _ _ result h (λ r made pid process place_is stands.
    let here : AppliesAt site state place one r new = subst (λ (s : State). AppliesAt site s place one r new) m made in
    here calls pid process place_is stands ∙ ap (applied (world_of calls site state) pid process) (sym (is pid process place_is stands)))

pub child_made : {E : Type 0} (state mid new : State) (unless : Outcome)
    → (calls : calls.Table) (site : Site) (place : ℕ) (effect : Process → Effect) (own : Bool) (result : Result Reply E)
    → unless ≡ MakesChild own
    → UnlessReplied unless (mid ≡ state) → AtPlace state place
    (λ pid process. Left (world_of calls site state) pid process unless (world_of calls site mid) (effect process))
    → IfOk result (λ r. Applies mid place (f.Child own) r new)
    → IfOk result (λ r. AtPlace state place (λ pid process. (r, world_of calls site new)
    ≡ applied (world_of calls site state) pid process (effect process)))
child_made state mid new unless calls site place effect own result is same h made =
    made_there state mid new (subst (λ (o : Outcome). UnlessReplied o (mid ≡ state)) is same) calls site place effect (f.Child own) result
    (child_is state mid calls site place effect unless own is h) (if_ok _ _ result made (λ r a calls. a calls site))

pub table_made : {E : Type 0} (state mid new : State) (unless : Outcome)
    → (calls : calls.Table) (site : Site) (place : ℕ) (effect : Process → Effect) (result : Result Reply E) → unless ≡ MakesTable
    → UnlessReplied unless (mid ≡ state) → AtPlace state place
    (λ pid process. Left (world_of calls site state) pid process unless (world_of calls site mid) (effect process))
    → IfOk result (λ r. Applies mid place f.OwnTable r new)
    → IfOk result (λ r. AtPlace state place (λ pid process. (r, world_of calls site new)
    ≡ applied (world_of calls site state) pid process (effect process)))
table_made state mid new unless calls site place effect result is same h made =
    made_there state mid new (subst (λ (o : Outcome). UnlessReplied o (mid ≡ state)) is same) calls site place effect f.OwnTable result
    (table_is state mid calls site place effect unless is h) (if_ok _ _ result made (λ r a calls. a calls site))

pub user_child_made : {E : Type 0} (state mid new : State) (unless : Outcome)
    → (calls : calls.Table) (site : Site) (place : ℕ) (effect : Process → Effect) (own : Bool) (result : Result Reply E)
    → unless ≡ MakesUserChild own
    → UnlessReplied unless (mid ≡ state) → AtPlace state place
    (λ pid process. Left (world_of calls site state) pid process unless (world_of calls site mid) (effect process))
    → IfOk result (λ r. AppliesAt site mid place (f.UserChild own) r new)
    → IfOk result (λ r. AtPlace state place (λ pid process. (r, world_of calls site new)
    ≡ applied (world_of calls site state) pid process (effect process)))
user_child_made state mid new unless calls site place effect own result is same h made =
    made_there state mid new (subst (λ (o : Outcome). UnlessReplied o (mid ≡ state)) is same) calls site place effect
    (f.UserChild own) result
    (λ pid process place_is stands.
    (subst (λ (o : Outcome). Left (world_of calls site state) pid process o (world_of calls site mid) (effect process)) is
    (h pid process place_is stands)).0) made

pub own_user_made : {E : Type 0} (state mid new : State) (unless : Outcome)
    → (calls : calls.Table) (site : Site) (place : ℕ) (effect : Process → Effect) (own : Bool) (result : Result Reply E)
    → unless ≡ MakesOwnUser own
    → UnlessReplied unless (mid ≡ state) → AtPlace state place
    (λ pid process. Left (world_of calls site state) pid process unless (world_of calls site mid) (effect process))
    → IfOk result (λ r. AppliesAt site mid place (f.OwnUser own) r new)
    → IfOk result (λ r. AtPlace state place (λ pid process. (r, world_of calls site new)
    ≡ applied (world_of calls site state) pid process (effect process)))
own_user_made state mid new unless calls site place effect own result is same h made =
    made_there state mid new (subst (λ (o : Outcome). UnlessReplied o (mid ≡ state)) is same) calls site place effect (f.OwnUser own) result
    (λ pid process place_is stands.
    (subst (λ (o : Outcome). Left (world_of calls site state) pid process o (world_of calls site mid) (effect process)) is
    (h pid process place_is stands)).0) made

-- and it needs no memory where the effect does not
or_right : (a b : Bool) → (a || b) ≡ false → b ≡ false
or_right true b e = cc
or_right false b e = e

pub child_ready : {E : Type 0} (state mid : State) (unless : Outcome) (calls : calls.Table) (site : Site) (place : ℕ) (operation : Operation)
    (own : Bool) (result : Result Reply E) → unless ≡ MakesChild own
    → UnlessReplied unless (mid ≡ state)
    → AtPlace state place (λ pid process. Left (world_of calls site state) pid process unless (world_of calls site mid)
    (effect_of (host_of (world_of calls site state)) (caller_of (world_of calls site state) process) operation))
    → (makes_one false (length mid.processes) (length mid.namespaces) (f.Child own) ≡ false → IsOk result)
    → AtPlace state place (λ pid process. takes_operation (world_of calls site state) process operation ≡ false → IsOk result)
child_ready state mid unless calls site place operation own result is same h ready pid process place_is stands none =
    let effect : Process → Effect = λ p. effect_of (host_of (world_of calls site state)) (caller_of (world_of calls site state) p) operation in
    let m : mid ≡ state = subst (λ (o : Outcome). UnlessReplied o (mid ≡ state)) is same in
    let one : effect process ≡ f.Child own = child_is state mid calls site place effect unless own is h pid process place_is stands in
    let not_made : makes_one (nat_lt state.users site.user_namespaces) (length state.processes) (length state.namespaces) (effect process) ≡ false = or_right (asks_for_room operation) (makes_one (nat_lt state.users site.user_namespaces) (length state.processes) (length state.namespaces) (effect process)) none in
    ready (subst (λ (s : State). makes_one false (length s.processes) (length s.namespaces) (f.Child own) ≡ false) (sym m)
    (subst (λ (e : Effect). makes_one (nat_lt state.users site.user_namespaces) (length state.processes) (length state.namespaces) e
    ≡ false) one not_made))

pub table_ready : {E : Type 0} (state mid : State) (unless : Outcome) (calls : calls.Table) (site : Site) (place : ℕ) (operation : Operation)
    (result : Result Reply E) → unless ≡ MakesTable
    → UnlessReplied unless (mid ≡ state)
    → AtPlace state place (λ pid process. Left (world_of calls site state) pid process unless (world_of calls site mid)
    (effect_of (host_of (world_of calls site state)) (caller_of (world_of calls site state) process) operation))
    → (makes_one false (length mid.processes) (length mid.namespaces) f.OwnTable ≡ false → IsOk result)
    → AtPlace state place (λ pid process. takes_operation (world_of calls site state) process operation ≡ false → IsOk result)
table_ready state mid unless calls site place operation result is same h ready pid process place_is stands none =
    let effect : Process → Effect = λ p. effect_of (host_of (world_of calls site state)) (caller_of (world_of calls site state) p) operation in
    let m : mid ≡ state = subst (λ (o : Outcome). UnlessReplied o (mid ≡ state)) is same in
    let one : effect process ≡ f.OwnTable = table_is state mid calls site place effect unless is h pid process place_is stands in
    let not_made : makes_one (nat_lt state.users site.user_namespaces) (length state.processes) (length state.namespaces) (effect process) ≡ false = or_right (asks_for_room operation) (makes_one (nat_lt state.users site.user_namespaces) (length state.processes) (length state.namespaces) (effect process)) none in
    ready (subst (λ (s : State). makes_one false (length s.processes) (length s.namespaces) f.OwnTable ≡ false) (sym m)
    (subst (λ (e : Effect). makes_one (nat_lt state.users site.user_namespaces) (length state.processes) (length state.namespaces) e
    ≡ false) one not_made))

-- the step of a call that is asked for
pub step_is : {E : Type 0} (world after : World) (call : Call) (place : ℕ) (d : Decision) (operation : Operation) (result : Result Reply E)
    → place_of world.processes call.pid ≡ Some place
    → ((pid : ℕ) (process : Process) → place ≡ pid - 1 → slice_get world.processes place ≡ Some process
    → d ≡ decision_of world call process) → d ≡ decision.Pass → asked_of world.calls call ≡ Does operation
    → IfOk result (λ r. (pid : ℕ) (process : Process) → place ≡ pid - 1 → slice_get world.processes place ≡ Some process
    → (r, after) ≡ applied world pid process (effect_of (host_of world) (caller_of world process) operation))
    → IfOk result (λ r. (r, after) ≡ step world call)
step_is world after call place d operation result at is passes asked h =
    if_ok _ _ result h (λ r made.
    let who = stands world call.pid place at in
    let decided_is : decision_of world call who.caller ≡ decision.Pass = sym (is call.pid who.caller who.place_is who.stands) ∙ passes in
    made call.pid who.caller who.place_is who.stands
    ∙ sym (ap (step_by world call) who.lives ∙ ap (decided world call who.caller) decided_is
    ∙ ap (answered world call.pid who.caller) asked))

pub step_ready : {E : Type 0} (world : World) (call : Call) (place : ℕ) (d : Decision) (operation : Operation) (result : Result Reply E)
    → place_of world.processes call.pid ≡ Some place
    → ((pid : ℕ) (process : Process) → place ≡ pid - 1 → slice_get world.processes place ≡ Some process
    → d ≡ decision_of world call process) → d ≡ decision.Pass → asked_of world.calls call ≡ Does operation
    → ((pid : ℕ) (process : Process) → place ≡ pid - 1 → slice_get world.processes place ≡ Some process
    → takes_operation world process operation ≡ false → IsOk result)
    → takes_memory world call ≡ false → IsOk result
step_ready world call place d operation result at is passes asked h none =
    let who = stands world call.pid place at in
    let decided_is : decision_of world call who.caller ≡ decision.Pass = sym (is call.pid who.caller who.place_is who.stands) ∙ passes in
    let takes : takes_memory world call ≡ takes_operation world who.caller operation = ap (takes_by world call) who.lives ∙ ap (takes_decided world call who.caller) decided_is ∙ ap (takes_asked world who.caller) asked in
    h call.pid who.caller who.place_is who.stands (sym takes ∙ none)

-- the same of a world that is seen through its parts
pub step_seen : {E : Type 0} (viewed world : World) → viewed ≡ world
    → (after : World) (call : Call) (place : ℕ) (d : Decision) (operation : Operation) (result : Result Reply E)
    → place_of viewed.processes call.pid ≡ Some place
    → ((pid : ℕ) (process : Process) → place ≡ pid - 1 → slice_get viewed.processes place ≡ Some process
    → d ≡ decision_of viewed call process) → d ≡ decision.Pass → asked_of viewed.calls call ≡ Does operation
    → IfOk result (λ r. (pid : ℕ) (process : Process) → place ≡ pid - 1 → slice_get viewed.processes place ≡ Some process
    → (r, after) ≡ applied viewed pid process (effect_of (host_of viewed) (caller_of viewed process) operation))
    → IfOk result (λ r. (r, after) ≡ step world call)
step_seen viewed world v after call place d operation result at is passes asked h =
    subst (λ (w : World). IfOk result (λ r. (r, after) ≡ step w call)) v
    (step_is viewed after call place d operation result at is passes asked h)

pub ready_seen : {E : Type 0} (viewed world : World) → viewed ≡ world
    → (call : Call) (place : ℕ) (d : Decision) (operation : Operation) (result : Result Reply E) → place_of viewed.processes call.pid ≡ Some place
    → ((pid : ℕ) (process : Process) → place ≡ pid - 1 → slice_get viewed.processes place ≡ Some process
    → d ≡ decision_of viewed call process) → d ≡ decision.Pass → asked_of viewed.calls call ≡ Does operation
    → ((pid : ℕ) (process : Process) → place ≡ pid - 1 → slice_get viewed.processes place ≡ Some process
    → takes_operation viewed process operation ≡ false → IsOk result)
    → takes_memory world call ≡ false → IsOk result
ready_seen viewed world v call place d operation result at is passes asked h none =
    step_ready viewed call place d operation result at is passes asked h (subst (λ (w : World). takes_memory w call ≡ false) (sym v) none)

-- what holds of every world, after a step
pub kernel_after : {E : Type 0} (calls : calls.Table) (site : Site) (old new : State) (call : Call) (result : Result Reply E)
    → IsKernel old.processes old.namespaces
    → IfOk result (λ r. (r, world_of calls site new) ≡ step (world_of calls site old) call) → OnErr result (new ≡ old)
    → IsKernel new.processes new.namespaces
kernel_after calls site old new call (Ok r) k h s =
    let same : world_of calls site new ≡ (step (world_of calls site old) call).1 = ap (λ (out : Reply × World). out.1) h in
    subst (λ (w : World). IsKernel w.processes w.namespaces) (sym same) (kernel_step (world_of calls site old) call k)
kernel_after calls site old new call (Err e) k h s = rw s k

-- and after the end of a process
pub kernel_ended : (calls : calls.Table) (site : Site) (old new : State) (pid place : ℕ) → place_of old.processes pid ≡ Some place
    → IsKernel old.processes old.namespaces
    → AtPlace old place (λ pid process. new ≡ record old { processes = put_number old.processes pid (ended process) })
    → IsKernel new.processes new.namespaces
kernel_ended calls site old new pid place at k h =
    let world : World = world_of calls site old in
    let who = stands world pid place at in
    let space = living_space world pid who.caller k who.lives in
    subst (λ (s : State). IsKernel s.processes s.namespaces) (sym (h pid who.caller who.place_is who.stands))
    (kernel_process world pid (ended who.caller) k (spaced (length old.namespaces) who.caller (ended who.caller) space refl))

-- what the programs decide, with the architecture of the call's ABI
in_abi : (table : calls.Table) (call : Call) (process : Process) → call.abi < length (abis table)
    → decision_on process.stack (record { nr = call.nr; arch = arch_of table call.abi; ip = 0; args = call.args })
    ≡ decision_by call process (abi_at table call.abi)
in_abi table call process lt =
    let found = slice_get-get_or (abis table) call.abi (native table) lt in
    ap (λ (o : Option Abi). decision_on process.stack
    (record { nr = call.nr; arch = option_map_or (λ abi. abi.arch) o 0; ip = 0; args = call.args })) found
    ∙ sym (ap (decision_by call process) found)

pub decides_here : (calls : calls.Table) (site : Site) (state : State) (place : ℕ) (call : Call) (arch : ℕ) (d : Decision)
    → call.abi < length (abis calls) → arch ≡ arch_of calls call.abi
    → AtPlace state place (λ pid process. d ≡ decision_on process.stack (record { nr = call.nr; arch = arch; ip = 0; args = call.args }))
    → AtPlace state place (λ pid process. d ≡ decision_of (world_of calls site state) call process)
decides_here calls site state place call arch d lt e h pid process at stands =
    h pid process at stands ∙ ap (λ (a : ℕ). decision_on process.stack (record { nr = call.nr; arch = a; ip = 0; args = call.args })) e
    ∙ in_abi calls call process lt

-- the effect of what the process at a place asks for
abbrev pub effect_at : calls.Table → Site → State → Operation → Process → Effect
effect_at calls site state operation process = effect_of (host_of (world_of calls site state))
    (caller_of (world_of calls site state) process) operation

pub child_same : {A : Type 0} (outcome : Outcome) (own : Bool) → outcome ≡ MakesChild own → UnlessReplied outcome A → A
child_same {A} outcome own is h = let P : Outcome → Type 0 = λ o. UnlessReplied o A in subst P is h

pub table_same : {A : Type 0} (outcome : Outcome) → outcome ≡ MakesTable → UnlessReplied outcome A → A
table_same {A} outcome is h = let P : Outcome → Type 0 = λ o. UnlessReplied o A in subst P is h

pub there_too : (mid state : State) (place : ℕ) → mid ≡ state → place < length state.processes → place < length mid.processes
there_too mid state place m h = subst (λ (s : State). place < length s.processes) (sym m) h

pub spaces_too : (mid state : State) → mid ≡ state → AllByRecursion (HasSpace (length state.namespaces)) state.processes
    → AllByRecursion (HasSpace (length mid.namespaces)) mid.processes
spaces_too mid state m h = subst (λ (s : State). AllByRecursion (HasSpace (length s.namespaces)) s.processes) (sym m) h

pub stays_too : {T E : Type 0} (result : Result T E) (new mid state : State) → mid ≡ state → OnErr result (new ≡ mid)
    → OnErr result (new ≡ state)
stays_too (Ok value) new mid state m h = tt
stays_too (Err error) new mid state m h = h ∙ m

pub user_child_same : {A : Type 0} (outcome : Outcome) (own : Bool) → outcome ≡ MakesUserChild own → UnlessReplied outcome A → A
user_child_same {A} outcome own is h = let P : Outcome → Type 0 = λ o. UnlessReplied o A in subst P is h

pub own_user_same : {A : Type 0} (outcome : Outcome) (own : Bool) → outcome ≡ MakesOwnUser own → UnlessReplied outcome A → A
own_user_same {A} outcome own is h = let P : Outcome → Type 0 = λ o. UnlessReplied o A in subst P is h

pub user_child_ready : {E : Type 0} (state mid : State) (unless : Outcome) (calls : calls.Table) (site : Site) (place : ℕ) (operation : Operation)
    (own : Bool) (result : Result Reply E) → unless ≡ MakesUserChild own
    → UnlessReplied unless (mid ≡ state)
    → AtPlace state place (λ pid process. Left (world_of calls site state) pid process unless (world_of calls site mid)
    (effect_of (host_of (world_of calls site state)) (caller_of (world_of calls site state) process) operation))
    → (makes_one (nat_lt mid.users site.user_namespaces) (length mid.processes) (length mid.namespaces) (f.UserChild own) ≡ false → IsOk result)
    → AtPlace state place (λ pid process. takes_operation (world_of calls site state) process operation ≡ false → IsOk result)
user_child_ready state mid unless calls site place operation own result is same h ready pid process place_is stands none =
    let effect : Effect = effect_of (host_of (world_of calls site state)) (caller_of (world_of calls site state) process) operation in
    let m : mid ≡ state = subst (λ (o : Outcome). UnlessReplied o (mid ≡ state)) is same in
    let one : effect ≡ f.UserChild own = (subst (λ (o : Outcome). Left (world_of calls site state) pid process o (world_of calls site mid) effect) is (h pid process place_is stands)).0 in
    let not_made : makes_one (nat_lt state.users site.user_namespaces) (length state.processes) (length state.namespaces) effect ≡ false = or_right (asks_for_room operation) (makes_one (nat_lt state.users site.user_namespaces) (length state.processes) (length state.namespaces) effect) none in
    ready (subst (λ (s : State). makes_one (nat_lt s.users site.user_namespaces) (length s.processes) (length s.namespaces) (f.UserChild own)
    ≡ false) (sym m) (subst
    (λ (e : Effect). makes_one (nat_lt state.users site.user_namespaces) (length state.processes) (length state.namespaces) e ≡ false) one
    not_made))

pub own_user_ready : {E : Type 0} (state mid : State) (unless : Outcome) (calls : calls.Table) (site : Site) (place : ℕ) (operation : Operation)
    (own : Bool) (result : Result Reply E) → unless ≡ MakesOwnUser own
    → UnlessReplied unless (mid ≡ state)
    → AtPlace state place (λ pid process. Left (world_of calls site state) pid process unless (world_of calls site mid)
    (effect_of (host_of (world_of calls site state)) (caller_of (world_of calls site state) process) operation))
    → (makes_one (nat_lt mid.users site.user_namespaces) (length mid.processes) (length mid.namespaces) (f.OwnUser own) ≡ false → IsOk result)
    → AtPlace state place (λ pid process. takes_operation (world_of calls site state) process operation ≡ false → IsOk result)
own_user_ready state mid unless calls site place operation own result is same h ready pid process place_is stands none =
    let effect : Effect = effect_of (host_of (world_of calls site state)) (caller_of (world_of calls site state) process) operation in
    let m : mid ≡ state = subst (λ (o : Outcome). UnlessReplied o (mid ≡ state)) is same in
    let one : effect ≡ f.OwnUser own = (subst (λ (o : Outcome). Left (world_of calls site state) pid process o (world_of calls site mid) effect) is (h pid process place_is stands)).0 in
    let not_made : makes_one (nat_lt state.users site.user_namespaces) (length state.processes) (length state.namespaces) effect ≡ false = or_right (asks_for_room operation) (makes_one (nat_lt state.users site.user_namespaces) (length state.processes) (length state.namespaces) effect) none in
    ready (subst (λ (s : State). makes_one (nat_lt s.users site.user_namespaces) (length s.processes) (length s.namespaces) (f.OwnUser own)
    ≡ false) (sym m) (subst
    (λ (e : Effect). makes_one (nat_lt state.users site.user_namespaces) (length state.processes) (length state.namespaces) e ≡ false) one
    not_made))
