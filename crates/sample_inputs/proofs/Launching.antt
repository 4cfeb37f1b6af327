-- The steps of a launch without filters, part by part: each is done.
use Rattle.std.proofs.Common.{◌≡◌, ℕ, zero, suc, Bool, true, false, cond, codes, List, [], ◌∷◌, ◌++◌, Ok, refl, ap, ◌∙◌, sym, subst, arith}
use Rattle.std.proofs.Common.{eqb}
use Rattle.std.specs.Prelude.{filter, map, not, ◌||◌, ◌+◌, ◌<◌, ◌≤◌, ◌^◌, ◌%◌}
use Rattle.std.specs.List.{AllByRecursion}
use Rattle.std.proofs.lemmas.Bool.{not-true}
use Rattle.std.proofs.lemmas.Bool.Decides.{nat_tests}
use Rattle.launcher.specs.call_table.declared.call_names.rule.CallRule.TheVariants as known
use Rattle.launcher.specs.call_table.Table as calls
use Rattle.launcher.specs.cap_sets.Sets.{has, none, all, single, union, minus, within, IsWithin}
use Rattle.launcher.proofs.OfCapSets.Members.{within_self, within_through, within_union_left, within_union_right, within-from_IsWithin}
use Rattle.launcher.specs.kern_creds.declared.creds.Creds.{Creds}
use Rattle.launcher.specs.kern_creds.Ids.{kept_ids}
use Rattle.launcher.specs.kern_creds.RootChange.{with_uids}
use Rattle.launcher.specs.kern_creds.Setresuid.{after_setresuid, after_setresgid}
use Rattle.launcher.specs.kern_creds.Setgroups.{after_setgroups}
use Rattle.launcher.specs.kern_creds.Capset.{after_capset, with_sets}
use Rattle.launcher.specs.kern_creds.Prctl.{after_drop_bounding, after_raise, after_set_keepcaps, after_set_no_new_privs}
use Rattle.launcher.specs.kern_mounts.Split.{Table}
use Rattle.launcher.specs.kernel_model.declared.kernel_calls.payload.Payload.TheVariants.{Nothing, Sets, Ids}
use Rattle.launcher.specs.kernel_model.declared.kernel_calls.rule.Rule.TheVariants as rule
use Rattle.launcher.specs.kernel_model.kernel_calls.Operation as d
use Rattle.launcher.specs.kernel_laws.Questions.{if_so, count_from}
use Rattle.launcher.specs.kernel_model.World.{World}
use Rattle.launcher.specs.Launch.{Wanted, makes, prctl_step, capset_step, group_steps, drop_steps, inherit_steps, user_steps, raise_steps}
use Rattle.launcher.specs.Launch.{left_steps, privilege_steps, memory_steps, identity_steps, set_keepcaps, capbset_drop, set_no_new_privs, cap_ambient}
use Rattle.launcher.specs.Launch.{set_mdwe, refuse_exec_gain}
use Rattle.launcher.specs.Launch.{ambient_raise, left_by, with_held}
use Rattle.launcher.specs.Launches.{HasLaunchCalls}
use Rattle.launcher.proofs.LaunchCreds.{Has, set_groups, set_gids, drops, set_all, keeps_caps, set_uid}
use Rattle.launcher.proofs.Leading.{clash}
use Rattle.launcher.proofs.Solo.{At, weaker}
use Rattle.launcher.specs.linux_numbers.Limits.{no_id}
use Rattle.launcher.specs.site_table.Table.{Site}
use Rattle.sample_inputs.specs.sample_launch.EndsWell.{IsPlain}
use Rattle.sample_inputs.proofs.Going.{Goes, stays, goes_on, goes_each}
use Rattle.sample_inputs.proofs.Granted.{full, groups_granted, gids_granted, uids_granted, drop_granted, still_within, sets_granted}
use Rattle.sample_inputs.proofs.Granted.{raise_granted}
use Rattle.sample_inputs.proofs.MadeSteps.{goes_creds}

-- what is counted is below the end, and what a filter leaves has what it asks for
counted_below : (from count : ℕ) → from + count ≤ 41 → AllByRecursion (λ n. n < 41) (count_from from count)
counted_below from zero le = tt
counted_below from (suc count) le = (omega arith, counted_below (from + 1) count (omega arith))

chosen : (P : ℕ → Type 0) (p : ℕ → Bool) (xs : List ℕ) → AllByRecursion P xs → AllByRecursion (λ x. P x × (p x ≡ true)) (filter p xs)
chosen P p [] all' = tt
chosen P p (x ∷ xs) all' = by (p x) refl (chosen P p xs all'.1)
  where
    by : (b : Bool) → p x ≡ b → AllByRecursion (λ y. P y × (p y ≡ true)) (filter p xs)
        → AllByRecursion (λ y. P y × (p y ≡ true)) (cond b (x ∷ filter p xs) (filter p xs))
    by true is more = ((all'.0, is), more)
    by false is more = more

module _ (table : calls.Table) (site : Site) (calls' : HasLaunchCalls table.calls) (wanted : Wanted) (plan : Table) (plain : IsPlain wanted) where
  abbrev Here : (Creds → Type 0) → World → Type 0
  Here Q = At table site Q [] plan

  -- before the first capset, behind it, with keepcaps, and behind setresuid
  abbrev pub Root : Creds → Type 0
  Root creds = Has 0 all all none creds × IsWithin wanted.ambient creds.bounding

  abbrev Ready : Creds → Type 0
  Ready creds = Has 0 all all wanted.ambient creds

  abbrev Keeping : Creds → Type 0
  Keeping creds = Ready creds × (creds.keepcaps ≡ true)

  abbrev Kept : Creds → Type 0
  Kept creds = (creds.permitted ≡ all) × (creds.inheritable ≡ wanted.ambient)

  abbrev pub Any : Creds → Type 0
  Any creds = Unit {0}

  ambient_known : IsWithin wanted.ambient all
  ambient_known = within_through wanted.ambient wanted.bounding all plain.ambient plain.bounding

  goes_groups : (world : World) → Here Root world → Goes (Here Root) world (group_steps table.calls wanted)
  goes_groups world at =
      let g : ℕ = wanted.gid % 2 ^ 32 in
      goes_on (Here Root) (Here Root) world (makes table.calls (codes "setgroups") 0 0 0 (Ids wanted.groups) ∷ [])
      (makes table.calls (codes "setresgid") wanted.gid wanted.gid wanted.gid Nothing ∷ [])
      (goes_creds table site Root Root (codes "setgroups") 0 0 0 (Ids wanted.groups) (rule.Known known.Setgroups)
      (d.Setgroups wanted.groups) (λ c. after_setgroups c wanted.groups)
      (λ c. record c { groups = wanted.groups }) calls'.setgroups refl (λ host process mounts owns. refl)
      (λ c own. groups_granted c wanted.groups own.0.effective plain.groups)
      (λ c own. (set_groups 0 all all none wanted.groups c (record c { groups = wanted.groups }) own.0 (groups_granted c wanted.groups own.0.effective plain.groups), own.1)) plan world at)
      (λ mid own. goes_creds table site Root Root (codes "setresgid") wanted.gid wanted.gid wanted.gid Nothing
      (rule.Known known.Setresgid) (d.Setresgid g g g) (λ c. after_setresgid c g g g)
      (λ c. record c { gids = kept_ids c.gids g g g }) calls'.setresgid refl (λ host process mounts owns. refl)
      (λ c has'. gids_granted c g has'.0.effective)
      (λ c has'. (set_gids 0 all all none g c (record c { gids = kept_ids c.gids g g g }) has'.0 (gids_granted c g has'.0.effective), has'.1)) plan mid own)

  abbrev IsDropped : ℕ → Type 0
  IsDropped cap = (cap < 41) × (not (has wanted.bounding cap) ≡ true)

  goes_drop : (cap : ℕ) (world : World) → IsDropped cap → Here Root world
      → Goes (Here Root) world (prctl_step table.calls capbset_drop cap 0 ∷ [])
  goes_drop cap world dropped at =
      let own : ℕ = cap % 2 ^ 32 in
      let known' : cap < 41 = dropped.0 in
      let same : cap ≡ own = omega (arith, known') in
      let below : own < 41 = subst (λ n. n < 41) same known' in
      goes_creds table site Root Root (codes "prctl") 24 cap 0 Nothing (rule.Known known.Prctl) (d.Prctl 24 own 0 0 0)
      (λ c. after_drop_bounding c own) (λ c. record c { bounding = minus c.bounding (single own) }) calls'.prctl refl
      (λ host process mounts owns. refl)
      (λ c has'. drop_granted c own has'.0.effective below)
      (λ c has'. (drops 0 all all own c (record c { bounding = minus c.bounding (single own) }) has'.0 (drop_granted c own has'.0.effective below), still_within wanted.ambient c.bounding own (subst (λ n. has wanted.ambient n ≡ false) same (lacks dropped.1)) has'.1)) plan world at
    where
      by : (b : Bool) → has wanted.ambient cap ≡ b → has wanted.bounding cap ≡ false → b ≡ false
      by true is not_bound = absurd (clash (has wanted.bounding cap) (plain.ambient.each cap is) not_bound)
      by false is not_bound = refl

      lacks : not (has wanted.bounding cap) ≡ true → has wanted.ambient cap ≡ false
      lacks e = by (has wanted.ambient cap) refl (not-true (has wanted.bounding cap) e)

  goes_drops : (world : World) → Here Root world → Goes (Here Root) world (drop_steps table.calls wanted)
  goes_drops world at =
      let P : Bool → Type 0 = λ keeps. Goes (Here Root) world (map (λ cap. prctl_step table.calls capbset_drop cap 0) (filter (λ cap. not (has (with_held keeps wanted.bounding) cap)) (count_from 0 41))) in
      subst P (sym plain.keeps)
      (goes_each (Here Root) IsDropped (λ cap. prctl_step table.calls capbset_drop cap 0)
      (filter (λ cap. not (has wanted.bounding cap)) (count_from 0 41))
      (chosen (λ n. n < 41) (λ cap. not (has wanted.bounding cap)) (count_from 0 41) (counted_below 0 41 (omega arith))) goes_drop world at)

  inherits : (creds : Creds) → Root creds → after_capset creds all all wanted.ambient ≡ Ok (with_sets creds all all wanted.ambient)
  inherits creds own =
      sets_granted creds all wanted.ambient (subst (IsWithin all) (sym own.0.permitted) (within_self all))
      (within_union_right wanted.ambient creds.inheritable creds.bounding own.1)
      (ap (λ b. b || within wanted.ambient (union creds.inheritable creds.permitted)) (full creds.effective 8 own.0.effective refl))

  goes_inherit : (world : World) → Here Root world → Goes (Here Ready) world (inherit_steps table.calls wanted)
  goes_inherit world at =
      let P : Bool → Type 0 = λ keeps. Goes (Here Ready) world (capset_step table.calls all all (with_held keeps wanted.ambient) ∷ []) in
      subst P (sym plain.keeps)
      (goes_creds table site Root Ready (codes "capset") 0 0 0 (Sets all all wanted.ambient) (rule.Known known.Capset)
      (d.Capset all all wanted.ambient) (λ c. after_capset c all all wanted.ambient)
      (λ c. with_sets c all all wanted.ambient) calls'.capset refl (λ host process mounts owns. refl)
      inherits (λ c own. set_all 0 all all wanted.ambient c (with_sets c all all wanted.ambient) own.0 (inherits c own)) plan world at)

  goes_user : (b : Bool) → eqb wanted.uid 0 ≡ b → (world : World) → Here Ready world
      → Goes (Here Kept) world (cond b []
      (prctl_step table.calls set_keepcaps 1 0 ∷ makes table.calls (codes "setresuid") wanted.uid wanted.uid wanted.uid Nothing ∷ []))
  goes_user true is world at =
      stays (Here Kept) world (weaker table site Ready Kept [] plan world (λ c own. (own.permitted, own.inheritable)) at)
  goes_user false is world at =
      let small : wanted.uid < no_id = plain.uid in
      let u : ℕ = wanted.uid % 2 ^ 32 in
      let low : u ≡ wanted.uid = omega (arith, small) in
      let other : eqb u 0 ≡ false = ap (λ n. eqb n 0) low ∙ is in
      let taken : eqb u no_id ≡ false = ap (λ n. eqb n no_id) low ∙ grind (arith, nat_tests, small) in
      goes_on (Here Keeping) (Here Kept) world (prctl_step table.calls set_keepcaps 1 0 ∷ [])
      (makes table.calls (codes "setresuid") wanted.uid wanted.uid wanted.uid Nothing ∷ [])
      (goes_creds table site Ready Keeping (codes "prctl") 8 1 0 Nothing (rule.Known known.Prctl) (d.Prctl 8 1 0 0 0)
      (λ c. Ok (after_set_keepcaps c true)) (λ c. after_set_keepcaps c true) calls'.prctl refl (λ host process mounts owns. refl)
      (λ c own. refl) (λ c own. keeps_caps 0 all all wanted.ambient c (after_set_keepcaps c true) own refl) plan world at)
      (λ mid own. goes_creds table site Keeping Kept (codes "setresuid") wanted.uid wanted.uid wanted.uid Nothing
      (rule.Known known.Setresuid) (d.Setresuid u u u) (λ c. after_setresuid c u u u)
      (λ c. with_uids c (kept_ids c.uids u u u)) calls'.setresuid refl (λ host process mounts owns. refl)
      (λ c has'. uids_granted c u has'.0.effective)
      (λ c has'. let now = set_uid u all all wanted.ambient taken other c (with_uids c (kept_ids c.uids u u u)) has' (uids_granted c u has'.0.effective) in (now.permitted, now.inheritable)) plan mid own)

  abbrev IsRaised : ℕ → Type 0
  IsRaised cap = (cap < 41) × (has wanted.ambient cap ≡ true)

  goes_raise : (cap : ℕ) (world : World) → IsRaised cap → Here Kept world
      → Goes (Here Kept) world (prctl_step table.calls cap_ambient ambient_raise cap ∷ [])
  goes_raise cap world raised at =
      let own : ℕ = cap % 2 ^ 32 in
      let known' : cap < 41 = raised.0 in
      let same : cap ≡ own = omega (arith, known') in
      let below : own < 41 = subst (λ n. n < 41) same known' in
      let wants : has wanted.ambient own ≡ true = subst (λ n. has wanted.ambient n ≡ true) same raised.1 in
      goes_creds table site Kept Kept (codes "prctl") 47 2 cap Nothing (rule.Known known.Prctl) (d.Prctl 47 2 own 0 0)
      (λ c. after_raise c own) (λ c. record c { ambient = union c.ambient (single own) }) calls'.prctl refl
      (λ host process mounts owns. refl)
      (λ c has'. raise_granted c own below (ap (λ s. has s own) has'.0 ∙ ambient_known.each own wants) (ap (λ s. has s own) has'.1 ∙ wants))
      (λ c has'. has') plan world at

  goes_raises : (world : World) → Here Kept world → Goes (Here Kept) world (raise_steps table.calls wanted)
  goes_raises world at =
      goes_each (Here Kept) IsRaised (λ cap. prctl_step table.calls cap_ambient ambient_raise cap)
      (filter (has wanted.ambient) (count_from 0 41))
      (chosen (λ n. n < 41) (has wanted.ambient) (count_from 0 41) (counted_below 0 41 (omega arith))) goes_raise world at

  leaves : (creds : Creds) → Kept creds → after_capset creds wanted.ambient wanted.ambient wanted.ambient
      ≡ Ok (with_sets creds wanted.ambient wanted.ambient wanted.ambient)
  leaves creds own =
      let inherited : IsWithin wanted.ambient creds.inheritable = subst (IsWithin wanted.ambient) (sym own.1) (within_self wanted.ambient) in
      sets_granted creds wanted.ambient wanted.ambient (subst (IsWithin wanted.ambient) (sym own.0) ambient_known)
      (within_union_left wanted.ambient creds.inheritable creds.bounding inherited)
      (ap (λ b. has creds.effective 8 || b)
      (within-from_IsWithin wanted.ambient (union creds.inheritable creds.permitted)
      (within_union_left wanted.ambient creds.inheritable creds.permitted inherited)) ∙ or_true (has creds.effective 8))
    where
      or_true : (b : Bool) → (b || true) ≡ true
      or_true true = refl
      or_true false = refl

  goes_left : (b : Bool) (world : World) → Here Kept world → Goes (Here Any) world
      (cond b [] (capset_step table.calls wanted.ambient wanted.ambient wanted.ambient ∷ []))
  goes_left true world at = stays (Here Any) world (weaker table site Kept Any [] plan world (λ c own. tt) at)
  goes_left false world at =
      goes_creds table site Kept Any (codes "capset") 0 0 0 (Sets wanted.ambient wanted.ambient wanted.ambient) (rule.Known known.Capset)
      (d.Capset wanted.ambient wanted.ambient wanted.ambient) (λ c. after_capset c wanted.ambient wanted.ambient wanted.ambient)
      (λ c. with_sets c wanted.ambient wanted.ambient wanted.ambient) calls'.capset refl (λ host process mounts owns. refl)
      leaves (λ c own. tt) plan world at

  goes_leaving : (world : World) → Here Kept world → Goes (Here Any) world (left_steps table.calls wanted)
  goes_leaving world at =
      let P : Bool → Type 0 = λ keeps. Goes (Here Any) world (left_by table.calls wanted.uid (with_held keeps wanted.ambient)) in
      subst P (sym plain.keeps) (goes_left (eqb wanted.uid 0) world at)

  goes_privileges : (b : Bool) (world : World) → Here Any world
      → Goes (Here Any) world (if_so b (prctl_step table.calls set_no_new_privs 1 0))
  goes_privileges true world at =
      goes_creds table site Any Any (codes "prctl") 38 1 0 Nothing (rule.Known known.Prctl) (d.Prctl 38 1 0 0 0)
      (λ c. Ok (after_set_no_new_privs c)) after_set_no_new_privs calls'.prctl refl (λ host process mounts owns. refl)
      (λ c own. refl) (λ c own. tt) plan world at
  goes_privileges false world at = stays (Here Any) world at

  goes_memory : (world : World) → Here Any world → Goes (Here Any) world (memory_steps table.calls wanted)
  goes_memory world at =
      let P : Bool → Type 0 = λ b. Goes (Here Any) world (if_so b (prctl_step table.calls set_mdwe refuse_exec_gain 0)) in
      subst P (sym plain.memory) (stays (Here Any) world at)

  pub goes_identity : (world : World) → Here Root world → Goes (Here Any) world (identity_steps table.calls wanted)
  goes_identity world at =
      let lines = table.calls in
      let groups = group_steps lines wanted in
      let dropping = groups ++ drop_steps lines wanted in
      let inheriting = dropping ++ inherit_steps lines wanted in
      let taking = inheriting ++ user_steps lines wanted in
      let raising = taking ++ raise_steps lines wanted in
      let leaving = raising ++ left_steps lines wanted in
      let holding = leaving ++ privilege_steps lines wanted in
      goes_on (Here Any) (Here Any) world holding (memory_steps lines wanted)
      (goes_on (Here Any) (Here Any) world leaving (privilege_steps lines wanted)
      (goes_on (Here Kept) (Here Any) world raising (left_steps lines wanted)
      (goes_on (Here Kept) (Here Kept) world taking (raise_steps lines wanted)
      (goes_on (Here Ready) (Here Kept) world inheriting (user_steps lines wanted)
      (goes_on (Here Root) (Here Ready) world dropping (inherit_steps lines wanted)
      (goes_on (Here Root) (Here Root) world groups (drop_steps lines wanted) (goes_groups world at) goes_drops)
      goes_inherit)
      (goes_user (eqb wanted.uid 0) refl))
      goes_raises)
      goes_leaving)
      (goes_privileges wanted.no_new_privs))
      goes_memory
