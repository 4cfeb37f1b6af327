-- The mount steps of a launch make the plan.
use Rattle.std.proofs.Common.{◌≡◌, Bool, true, false, cond, codes, List, [], ◌∷◌, ◌++◌, refl, ap, ◌∙◌, sym, subst}
use Rattle.std.specs.Prelude.{map, ◌||◌}
use Rattle.exec_settings.specs.abs_path.Paths.{Path, is_root}
use Rattle.kernel_laws.specs.bpf_code.declared.machine.Insn.{Insn}
use Rattle.kernel_laws.specs.call_table.Table as calls
use Rattle.exec_settings.specs.site_table.Table.{Site}
use Rattle.kernel_laws.specs.kern_creds.declared.creds.Creds.{Creds}
use Rattle.kernel_laws.specs.kern_mounts.Table as mounts
use Rattle.kernel_laws.specs.kern_mounts.Split.{Table}
use Rattle.kernel_laws.specs.kern_mounts.declared.step.Flags.{Flags}
use Rattle.kernel_laws.specs.kern_mounts.declared.step.What.TheVariants.{Host}
use Rattle.kernel_laws.specs.kern_mounts.declared.step.MountStep.{MountStep}
use Rattle.kernel_laws.specs.kernel_model.declared.kernel_calls.payload.Payload.TheVariants.{Nothing}
use Rattle.kernel_laws.specs.kernel_model.World.{World}
use Rattle.kernel_laws.specs.Questions.{if_so}
use Rattle.launcher.specs.Launch.{Mounts, makes, launch_step, mount_steps, with_unshare, has_flags, new_mounts}
use Rattle.launcher.specs.Launches.{HasLaunchCalls}
use Rattle.launcher.proofs.HostRoot.{AreBelowRoot, BeginsAtHostRoot}
use Rattle.launcher.proofs.Leading.{Leads, append_assoc, append_none}
use Rattle.launcher.proofs.Solo.{At, makes_unshare, mounts_entry, with_entry, with_first_flags}

module _ (table : calls.Table) (site : Site) (calls' : HasLaunchCalls table.calls) where
  abbrev Here : (Creds → Type 0) → List (List Insn) → Table → World → Type 0
  Here = At table site

  pushed : (Q : Creds → Type 0) (stack : List (List Insn)) (rest : Table) (own : Table) (world last : World) → AreBelowRoot rest
      → Here Q stack own world → Leads world (map Mounts rest) last → Here Q stack (own ++ rest) last
  pushed Q stack [] own world last below at l = subst (λ (t : Table). Here Q stack t last) (sym (append_none own))
      (subst (Here Q stack own) l at)
  pushed Q stack (entry ∷ rest) own world last below at l =
      let next = mounts_entry table site Q entry stack own world at in
      let grown : with_entry own entry ≡ own ++ entry ∷ [] = ap (λ b. cond b (with_first_flags entry.flags own) (own ++ entry ∷ [])) below.0 in
      let more = pushed Q stack rest (own ++ entry ∷ []) (launch_step world (Mounts entry)).1 last below.1 (subst (λ (t : Table). Here Q stack t (launch_step world (Mounts entry)).1) grown next) l.1 in
      subst (λ (t : Table). Here Q stack t last) (append_assoc own (entry ∷ []) rest) more

  first_mounted : (first : MountStep) → first.place ≡ [] → first.what ≡ Host [] → with_entry mounts.start first ≡ first ∷ []
  first_mounted first place what =
      ap (λ (p : Path). cond (is_root p) (record { place = []; what = Host []; flags = first.flags } ∷ []) (mounts.start ++ first ∷ []))
      place
      ∙ ap (λ (p : Path). record { place = p; what = Host []; flags = first.flags } ∷ []) (sym place)
      ∙ ap (λ (h : _). record { place = first.place; what = h; flags = first.flags } ∷ []) (sym what)

  flags_none : (flags : Flags) → has_flags flags ≡ false → flags ≡ mounts.no_flags
  flags_none flags e = by flags.read_only flags.no_exec flags.no_suid e
    where
      by : (a b c : Bool) → (a || (b || c)) ≡ false → record { read_only = a; no_exec = b; no_suid = c } ≡ mounts.no_flags
      by true b c e = cc
      by false true c e = cc
      by false false true e = cc
      by false false false e = refl

  first_plain : (first : MountStep) → first.place ≡ [] → first.what ≡ Host [] → has_flags first.flags ≡ false → mounts.start ≡ first ∷ []
  first_plain first place what plain =
      ap (λ (p : Path). record { place = p; what = Host []; flags = mounts.no_flags } ∷ []) (sym place)
      ∙ ap (λ (h : _). record { place = first.place; what = h; flags = mounts.no_flags } ∷ []) (sym what)
      ∙ ap (λ (f : Flags). record { place = first.place; what = first.what; flags = f } ∷ []) (sym (flags_none first.flags plain))

  mounts_done : (Q : Creds → Type 0) (stack : List (List Insn)) (first : MountStep) (rest : Table) (world last : World) (b : Bool)
      → has_flags first.flags ≡ b
      → (first.place ≡ []) × (first.what ≡ Host []) × AreBelowRoot rest
      → Here Q stack mounts.start world → Leads world (with_unshare table.calls (if_so b (Mounts first) ++ map Mounts rest)) last
      → Here Q stack (first ∷ rest) last
  mounts_done Q stack first rest world last true flags (place, what, below) at l =
      let unshared = makes_unshare table site Q calls'.unshare stack mounts.start world at l.0 in
      let own : World = (launch_step world (makes table.calls (codes "unshare") new_mounts 0 0 Nothing)).1 in
      let next = mounts_entry table site Q first stack mounts.start own unshared in
      pushed Q stack rest (first ∷ []) (launch_step own (Mounts first)).1 last below
      (subst (λ (t : Table). Here Q stack t (launch_step own (Mounts first)).1) (first_mounted first place what) next) l.1.1
  mounts_done Q stack first [] world last false flags (place, what, below) at l =
      subst (Here Q stack (first ∷ [])) l (subst (λ (t : Table). Here Q stack t world) (first_plain first place what flags) at)
  mounts_done Q stack first (entry ∷ rest) world last false flags (place, what, below) at l =
      let unshared = makes_unshare table site Q calls'.unshare stack mounts.start world at l.0 in
      let own : World = (launch_step world (makes table.calls (codes "unshare") new_mounts 0 0 Nothing)).1 in
      pushed Q stack (entry ∷ rest) (first ∷ []) own last below
      (subst (λ (t : Table). Here Q stack t own) (first_plain first place what flags) unshared) l.1

  pub plan_mounted : (Q : Creds → Type 0) (stack : List (List Insn)) (plan : Table) (world last : World) → BeginsAtHostRoot plan
      → Here Q stack mounts.start world → Leads world (with_unshare table.calls (mount_steps plan)) last → Here Q stack plan last
  plan_mounted Q stack [] world last begins at l = absurd begins
  plan_mounted Q stack (first ∷ rest) world last begins at l =
      mounts_done Q stack first rest world last (has_flags first.flags) refl begins at l
