-- The launched world has one process, and what that process reaches answers questions.
use Rattle.std.proofs.Common.{◌≡◌, map, ℕ, Bool, true, false, List, [], ◌∷◌, Some, None, refl, ap, ◌∙◌, sym, subst, cond, length, eqb}
use Rattle.std.proofs.Common.{arith}
use Rattle.std.specs.Prelude.{slice_get, ◌<◌, ◌-◌}
use Rattle.std.proofs.lemmas.Bool.Decides.{nat_tests}
use Rattle.launcher.specs.abs_path.Paths.{Path}
use Rattle.launcher.specs.call_table.Lookups.{numbered}
use Rattle.launcher.specs.call_table.Table.{calls_in, every_call}
use Rattle.launcher.specs.call_table.declared.listed.CallLine.{CallLine}
use Rattle.launcher.specs.site_table.declared.row.Row.{Row}
use Rattle.launcher.specs.site_table.Table.{row_at}
use Rattle.launcher.specs.kern_creds.declared.creds.Creds.{Creds}
use Rattle.launcher.specs.kern_mounts.Finds.{row, finds}
use Rattle.launcher.specs.kernel_model.declared.kernel_calls.call.Call.{Call}
use Rattle.launcher.specs.kernel_laws.Denied.{path_for, ReachesRow, ReachesCall, Performs, SomeLiving}
use Rattle.launcher.specs.kernel_model.kernel_calls.Operation.{Operation}
use Rattle.launcher.specs.kernel_model.Effects.{Effect}
use Rattle.launcher.specs.kernel_laws.Launched.{Launch, IsLaunchedWorld, launch_of, first_of}
use Rattle.launcher.specs.kern_mounts.Mounts.{Mounts, plain, steps_of}
use Rattle.launcher.proofs.OfKernMounts.Plain.{steps_plain, plain_again}
use Rattle.launcher.specs.kern_mounts.Split.{Table}
use Rattle.launcher.specs.kernel_laws.declared.question_types.wish.Wish.{Wish}
use Rattle.launcher.specs.kernel_model.Runs.{moment_at, IsDone}
use Rattle.launcher.specs.kernel_model.MountNamespaces.{namespace_or, owned_by_first}
use Rattle.launcher.specs.kernel_model.World.{World, process_of, namespace_of, mounts_of, table_of}
use Rattle.launcher.specs.kernel_model.declared.mount_namespace.MountNamespace.{MountNamespace}
use Rattle.launcher.specs.kernel_model.declared.process.Process.{Process}
use Rattle.launcher.specs.kernel_model.Step.{most_namespaces, step}
use Rattle.kernel_ways.specs.Ways.{IsSolo, Makes, solo_world, solo_process}

some_of : {X : Type 0} (xs : List X) (namespace : ℕ) (x : X) (b : Bool) → eqb namespace 0 ≡ b
    → cond b None (slice_get xs (namespace - 1)) ≡ Some x
    → (eqb namespace 0 ≡ false) × (slice_get xs (namespace - 1) ≡ Some x)
some_of xs namespace x true n e = cc
some_of xs namespace x false n e = (n, e)

pub starts_solo : (world : World) → IsLaunchedWorld world → length world.namespaces < most_namespaces
    → IsSolo (launch_of world) (launch_of world).creds (launch_of world).table world
starts_solo world s few =
    let first = first_of world in
    let whole : first ≡ solo_process (launch_of world) first.creds first.namespace = ap (λ (b : Bool). record first { alive = b }) s.lives ∙ ap (λ (u : ℕ). record first { user = u; alive = true }) s.user in
    let space : namespace_of world first.namespace ≡ owned_by_first (map plain (table_of world first.namespace)) =
    ap (λ (o : ℕ). record (namespace_of world first.namespace) { owner = o }) s.home
    ∙ ap (λ (t : Mounts). owned_by_first t) (sym (plain_again (mounts_of world first.namespace) s.plain)) in
    let both = some_of world.namespaces first.namespace (owned_by_first (map plain (table_of world first.namespace))) (eqb first.namespace 0) refl (s.own ∙ ap (λ (n : MountNamespace). Some n) space) in
    record {
      namespace = first.namespace;
      spaces = world.namespaces;
      is = ap (λ (ps : List Process). record world { processes = ps }) (s.alone ∙ ap (λ (p : Process). p ∷ []) whole)
          ∙ ap (λ (u : ℕ). record world { processes = solo_process (launch_of world) first.creds first.namespace ∷ []; users = u })
          s.no_users;
      numbered = both.0;
      own = both.1;
      few = grind (arith, nat_tests, few);
    }

module _ (launch : Launch) (creds : Creds) (table : Table) (world : World) (s : IsSolo launch creds table world) where
  abbrev own_world : World
  own_world = solo_world launch creds s.namespace s.spaces

  table_is : table_of own_world s.namespace ≡ table
  table_is = ap (λ b. steps_of (namespace_or (cond b None (slice_get s.spaces (s.namespace - 1)))).table) s.numbered
      ∙ ap (λ o. steps_of (namespace_or o).table) s.own ∙ steps_plain table

  pub holds : (P : Process → Type 0) → P (solo_process launch creds s.namespace) → SomeLiving P world
  holds P h =
      let Q : World → Type 0 = λ w. SomeLiving P w in
      subst Q (sym s.is) (record { pid = 1; process = solo_process launch creds s.namespace; lives = refl; has = h })

  pub reaches_row : (wish : Wish) (place : ℕ) (target : Row) → slice_get launch.site.rows place ≡ Some target
      → (operation : Operation) (call : Call) (effect : Effect) → Makes launch creds table operation call effect → (path : Path)
      → path_for wish operation ≡ Some path
      → finds (row_at launch.site.rows) table path ≡ row target → IsDone (step world call).0 → ReachesRow wish place (moment_at world call)
  reaches_row wish place target listed operation call effect m path wanted found =
      let Q : World → Type 0 = λ w. IsDone (step w call).0 → ReachesRow wish place (moment_at w call) in
      subst Q (sym s.is) (λ done. record {
        done = done;
        operation = operation;
        asks = m.asks;
        path = path;
        wanted = wanted;
        target = target;
        listed = listed;
        process = solo_process launch creds s.namespace;
        caller = ap (λ (pid : ℕ). process_of own_world pid) m.first;
        found = ap (λ (t : Table). finds (row_at launch.site.rows) t path) table_is ∙ found;
      })

  pub performs : (p : Operation → Bool) (operation : Operation) (call : Call) (effect : Effect) → Makes launch creds table operation call effect
      → p operation ≡ true → IsDone (step world call).0 → Performs p (moment_at world call)
  performs p operation call effect m such =
      let Q : World → Type 0 = λ w. IsDone (step w call).0 → Performs p (moment_at w call) in
      subst Q (sym s.is) (λ done. record { done = done; operation = operation; is = m.asks; such = such })

  pub reaches_call : (place : ℕ) (line : CallLine) → slice_get (every_call launch.calls) place ≡ Some line
      → (called : CallLine) (call : Call) → numbered call.nr (calls_in launch.calls call.abi) ≡ Some called → line.name ≡ called.name
      → IsDone (step world call).0 → ReachesCall place (moment_at world call)
  reaches_call place line listed called call found same =
      let Q : World → Type 0 = λ w. IsDone (step w call).0 → ReachesCall place (moment_at w call) in
      subst Q (sym s.is) (λ done. record { done = done; line = line; listed = listed; called = called; found = found; same = same })
