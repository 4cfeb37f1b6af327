-- Ids that are reached without the use of the capability that takes any are reached by lists that spare it.
use Rattle.std.proofs.Common.{◌≡◌, ℕ, Bool, true, false, List, [], ◌∷◌, ◌++◌, ◌⊎◌, inl, inr, refl, ap, ◌∙◌, sym, cond, append-nil}
use Rattle.std.specs.Prelude.{◌&&◌}
use Rattle.std.proofs.lemmas.Bool.{or_cases}
use Rattle.launcher.specs.bpf_code.declared.machine.Insn.{Insn}
use Rattle.launcher.specs.bpf_code.declared.decision.Decision.TheVariants as decision
use Rattle.launcher.specs.bpf_code.Stack.{decision_on}
use Rattle.launcher.specs.cap_sets.Sets.{has, union}
use Rattle.launcher.proofs.OfCapSets.Members.{has_union, has_none, within_union_left, within_self}
use Rattle.launcher.specs.kern_creds.declared.creds.Creds.{Creds}
use Rattle.launcher.specs.kernel_laws.Bound.{caps_at, caps_by, caps_before, with_root, when, power_by, power_using, power_of}
use Rattle.launcher.specs.kernel_model.declared.kernel_calls.call.Call.{Call}
use Rattle.launcher.specs.kernel_model.kernel_calls.Operation.{Operation, Does, asked_of}
use Rattle.launcher.specs.kernel_model.Effects.{Effect}
use Rattle.launcher.specs.kernel_laws.Kinds.{asks}
use Rattle.launcher.specs.kernel_laws.Launched.{Launch, IsLaunched, lets, data_at, launch_of}
use Rattle.launcher.specs.kern_mounts.Split.{Table}
use Rattle.launcher.specs.kernel_laws.declared.question_types.kind.CallKind.TheVariants.{TakesUid, TakesGid, ChangesMounts, RemovesMounts}
use Rattle.launcher.specs.kernel_laws.declared.question_types.power.Power.{Power}
use Rattle.launcher.specs.kernel_laws.declared.question_types.power.Power.TheVariants.{None as Nowise, Unmount as Unmounting}
use Rattle.launcher.specs.kernel_laws.declared.question_types.power.Power.TheVariants.{Mount as Mounting}
use Rattle.launcher.specs.kernel_laws.declared.question_types.question.Question.TheVariants as asking
use Rattle.launcher.specs.kernel_model.World.{World}
use Rattle.launcher.proofs.OfKernelLaws.Filters.{lets_through}
use Rattle.kernel_ways.specs.Offers.{Offers}
use Rattle.launcher.specs.kernel_laws.Spared.{Spares, AllSpare}
use Rattle.kernel_ways.specs.Spared.{SparedIdsAreReached}
use Rattle.kernel_ways.specs.Ways.{Way, here, by_creds, by_table, IsSolo, Makes}
use Rattle.kernel_ways.proofs.Attained.{Gained, nowise_before, at_launch}
use Rattle.kernel_ways.proofs.Avoiding.{Avoids, AvoidsOne}
use Rattle.kernel_ways.proofs.Ids.{Powered, without_calls, from_gained, powered, uid_without, gid_without}
use Rattle.kernel_ways.proofs.Showing.{creds_show}
use Rattle.kernel_ways.proofs.Shown.{solo_of}
use Rattle.kernel_ways.proofs.Solo.{solo_creds, solo_table}

module _ (launch : Launch) (l : IsLaunched launch) (uids gids : Bool) where
  -- what passes may be used, where that is what may be used
  lets_for : {creds : Creds} {table : Table} {own : Operation} {call : Call} {effect : Effect} → Makes launch creds table own call effect
      → (operation : Operation) → asked_of launch.calls call ≡ Does operation
      → (asks TakesUid operation ≡ true → lets launch TakesUid ≡ true) × (asks TakesGid operation ≡ true → lets launch TakesGid ≡ true)
  lets_for {call = call} m operation e =
      let through : decision_on (launch.stack ++ []) (data_at launch call.abi call.nr call.args) ≡ decision.Pass = ap (λ (s : List (List Insn)). decision_on s (data_at launch call.abi call.nr call.args)) (append-nil launch.stack) ∙ m.through in
      ((λ h. (lets_through launch l).kinds [] call operation m.fit through e TakesUid h), (λ h. (lets_through launch l).kinds [] call operation m.fit through e TakesGid h))

  abbrev Uids : List Call → Type 0
  Uids list = (lets launch TakesUid ≡ uids) ⊎ Avoids launch TakesUid list

  abbrev Gids : List Call → Type 0
  Gids list = (lets launch TakesGid ≡ gids) ⊎ Avoids launch TakesGid list

  abbrev One : Call → Type 0
  One call = ((lets launch TakesUid ≡ uids) ⊎ AvoidsOne launch TakesUid call) ×
      ((lets launch TakesGid ≡ gids) ⊎ AvoidsOne launch TakesGid call)

  may : (kind lets' own : Bool) → (kind ≡ true → lets' ≡ true) → (lets' ≡ own) ⊎ (kind ≡ false) → kind ≡ true → own ≡ true
  may kind lets' own h (inl e) k = sym e ∙ h k
  may kind lets' own h (inr off) k = cc

  spare_one : {creds : Creds} {table : Table} {own : Operation} {call : Call} {effect : Effect} → Makes launch creds table own call effect
      → One call → (world : World) → IsSolo launch creds table world → Spares uids gids world call
  spare_one {call = call} m one world s process operation lives first e =
      let same : asked_of launch.calls call ≡ Does operation = ap (λ (w : World). asked_of w.calls call) (sym s.is) ∙ e in
      let h = lets_for m operation same in
      ((λ k c. may (asks TakesUid operation) (lets launch TakesUid) uids h.0 (by_uid same one.0) k), (λ k c. may (asks TakesGid operation) (lets launch TakesGid) gids h.1 (by_gid same one.1) k))
    where
      by_uid : asked_of launch.calls call ≡ Does operation → (lets launch TakesUid ≡ uids) ⊎ AvoidsOne launch TakesUid call
          → (lets launch TakesUid ≡ uids) ⊎ (asks TakesUid operation ≡ false)
      by_uid e (inl h) = inl h
      by_uid e (inr h) = inr (h operation e)

      by_gid : asked_of launch.calls call ≡ Does operation → (lets launch TakesGid ≡ gids) ⊎ AvoidsOne launch TakesGid call
          → (lets launch TakesGid ≡ gids) ⊎ (asks TakesGid operation ≡ false)
      by_gid e (inl h) = inl h
      by_gid e (inr h) = inr (h operation e)

  heads : (call : Call) (list : List Call) → Uids (call ∷ list) → Gids (call ∷ list) → One call × Uids list × Gids list
  heads call list (inl u) (inl g) = ((inl u, inl g), inl u, inl g)
  heads call list (inl u) (inr g) = ((inl u, inr g.0), inl u, inr g.1)
  heads call list (inr u) (inl g) = ((inr u.0, inl g), inr u.1, inl g)
  heads call list (inr u) (inr g) = ((inr u.0, inr g.0), inr u.1, inr g.1)

  pub way_spares : {a b : Creds} {s t : Table} {list : List Call} → Way launch a s list b t → Uids list → Gids list → (world : World)
      → IsSolo launch a s world → AllSpare uids gids world list
  way_spares here u g world s = tt
  way_spares (by_creds {rest = rest} call m more) u g world s =
      let h = heads call rest u g in
      (spare_one m h.0 world s, way_spares more h.1 h.2 _ (solo_creds launch _ _ world s _ call _ _ m))
  way_spares (by_table {rest = rest} call m more) u g world s =
      let h = heads call rest u g in
      (spare_one m h.0 world s, way_spares more h.1 h.2 _ (solo_table launch _ _ world s _ call _ m))

module _ (launch : Launch) (l : IsLaunched launch) (o : Offers launch) where
  -- what is had without root is had
  before_caps : (number : ℕ) → has (caps_by launch false Nowise) number ≡ true
      → Gained launch l o true launch.creds launch.table launch.table number × (has (caps_at launch Nowise) number ≡ true)
  before_caps number h = by launch.creds.no_new_privs refl h
    where
      member : (b : Bool) → (has (caps_before launch Nowise) number ≡ true) ⊎
          (has (when (b && false) launch.creds.bounding) number ≡ true) → has (caps_before launch Nowise) number ≡ true
      member b (inl h) = h
      member true (inr h) = let off = has_none number in cc
      member false (inr h) = let off = has_none number in cc

      by : (n : Bool) → launch.creds.no_new_privs ≡ n
          → has (cond n launch.creds.effective
          (union (caps_before launch Nowise) (when (has (caps_before launch Nowise) 7 && false) launch.creds.bounding))) number ≡ true
          → Gained launch l o true launch.creds launch.table launch.table number × (has (caps_at launch Nowise) number ≡ true)
      by true e h = (at_launch launch l o true number h, ap (λ b. has (cond b launch.creds.effective (with_root launch (lets launch TakesUid) (caps_before launch Nowise))) number) e ∙ h)
      by false e h =
          let own = member (has (caps_before launch Nowise) 7) (or_cases _ _ (sym (has_union (caps_before launch Nowise) (when (has (caps_before launch Nowise) 7 && false) launch.creds.bounding) number) ∙ h)) in
          let more : has (with_root launch (lets launch TakesUid) (caps_before launch Nowise)) number ≡ true = (within_union_left _ _ _ (within_self (caps_before launch Nowise))).each number own in
          (nowise_before launch l o e true number own, ap (λ b. has (cond b launch.creds.effective (with_root launch (lets launch TakesUid) (caps_before launch Nowise))) number) e ∙ more)

  some_power : (x m u : Bool) (power : Power) → power_by x m u ≡ power → (power ≡ Nowise → ⊥) → x ≡ true
  some_power true m u power e n = refl
  some_power false m u power e n = absurd (n (sym e))

  spared_admin : (power : Power) → power_using launch false ≡ power → (power ≡ Nowise → ⊥) → Powered launch l o true power
  spared_admin power e n =
      let x = some_power (has (caps_by launch false Nowise) 21) (lets launch ChangesMounts) (lets launch RemovesMounts) power e n in
      let g = before_caps 21 x in
      let same : power_of launch ≡ power = ap (λ b. power_by b (lets launch ChangesMounts) (lets launch RemovesMounts)) (g.1 ∙ sym x) ∙ e in
      from_gained launch l o true power same g.0

  pub powered_spared : (power : Power) → power_using launch false ≡ power → Powered launch l o true power
  powered_spared Nowise e = without_calls launch l o true
  powered_spared Unmounting e = spared_admin Unmounting e (λ x. cc)
  powered_spared Mounting e = spared_admin Mounting e (λ x. cc)

pub ids_are_reached : SparedIdsAreReached
ids_are_reached world s =
    let launch = launch_of world in
    let l = s.launched.launched in
    let solo = solo_of world s in
    record {
      uids = λ id h.
          let power = power_using launch false in
          let t = uid_without launch l s.offers true true power (powered_spared launch l s.offers power refl) id h in
          (t.calls, creds_show launch launch.creds t.creds launch.table t.now world t.calls (asking.Uid id) solo t.way t.has, way_spares launch l false (lets launch TakesGid) t.way (inr (t.no_uid refl)) (inl refl) world solo);
      gids = λ id h.
          let power = power_of launch in
          let t = gid_without launch l s.offers false true power (powered launch l s.offers power refl) id h in
          (t.calls, creds_show launch launch.creds t.creds launch.table t.now world t.calls (asking.Gid id) solo t.way t.has, way_spares launch l (lets launch TakesUid) false t.way (inl refl) (inr (t.no_gid refl)) world solo);
    }
