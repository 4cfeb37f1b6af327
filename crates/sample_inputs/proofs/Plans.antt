-- The plan of a sample, which computes: the host enters it at the folders alone.
use Rattle.std.proofs.Common.{◌≡◌, ◌∙◌, ℕ, ◌<◌, Bool, true, cond, Option, Some, None, List, [], ◌∷◌, map, refl, sym, ap, subst, ltb, ◌+◌}
use Rattle.std.proofs.Common.{◌%◌}
use Rattle.std.specs.Prelude.{Ok, Result, ◌==◌, not, filter, flat_map, slice_get, option_map, option_and_then}
use Rattle.std.specs.List.{list_all}
use Rattle.std.specs.Fmt.{digits}
use Rattle.std.proofs.lemmas.Bool.{ltb-true, and_parts}
use Rattle.launcher.specs.dropin_merge.declared.resolved.Resolved.{Resolved}
use Rattle.launcher.specs.exec_settings.Mounts.{unit_mentions}
use Rattle.launcher.specs.abs_path.Prefix.{is_same}
use Rattle.launcher.specs.path_settings.declared.mentions.Kind.{Kind}
use Rattle.launcher.specs.path_settings.declared.mentions.Kind.TheVariants.{Ro, Rw, Exec, NoExec, Hide, Tmp, Bind}
use Rattle.launcher.specs.path_settings.declared.mentioned.Mentioned.TheVariants.{Base}
use Rattle.launcher.specs.path_settings.declared.mentions.Mention.{Mention}
use Rattle.launcher.specs.path_settings.Mentions.{is_bind, source_of}
use Rattle.launcher.specs.site_table.Kinds.{is_dir}
use Rattle.launcher.specs.site_table.Table.{Site, row_at}
use Rattle.launcher.specs.kern_mounts.Entry.{entry_of}
use Rattle.launcher.specs.kern_mounts.Finds.{found_at, row_or_nothing}
use Rattle.launcher.specs.kern_mounts.declared.step.MountStep.{MountStep}
use Rattle.launcher.specs.mount_plan.Host.{host_of}
use Rattle.launcher.specs.mount_plan.Plan.{places_of, table_of}
use Rattle.launcher.specs.mount_plan.Planned.{planned, unless_refused}
use Rattle.launcher.specs.path_settings.view_map.Asked.{asked_of, beneath_places}
use Rattle.launcher.specs.path_settings.view_map.Kept.{Host, Refusal, kept_of}
use Rattle.launcher.specs.path_settings.view_map.Resting.{AreSame, AreSameSources}
use Rattle.launcher.proofs.OfPathSettings.Resting.{kept_rests}
use Rattle.launcher.proofs.OfMountPlan.Resting.{plan_rests}
use Rattle.sample_inputs.specs.Facts.{HasSampleRows, SaysSample, folder, program}
use Rattle.sample_inputs.specs.sample_launch.Mentions.{folder_mentions_by, sample_mentions}
use Rattle.sample_inputs.specs.sample_launch.Planned.{FindsItsProgram, PathsAreNotRefused, ProgramsAreFound, whole_host}
use Rattle.sample_inputs.proofs.Settling.{mentioned}
use Rattle.sample_inputs.proofs.Alike.{below_four, turn_below, unit_is}

-- the folders of which something is said, in byte order
abbrev ordered : List ℕ
ordered = 0 ∷ 1 ∷ 10 ∷ 11 ∷ 12 ∷ 13 ∷ 14 ∷ 15 ∷ 2 ∷ 3 ∷ 4 ∷ 5 ∷ 6 ∷ 7 ∷ 8 ∷ 9 ∷ []

abbrev said_of : ℕ → List ℕ
said_of m = filter (λ k. not ((k + m) % 4 == 3)) ordered

-- a host of directories, but for its root
abbrev all_dirs : Option Bool → Host
all_dirs root path = cond (is_same path []) root (Some true)

-- the rules ask for these folders, and find each a directory
asks_folders : (root : Option Bool) (m : ℕ) → m < 4 → asked_of (all_dirs root) (sample_mentions m) ≡ map folder (said_of m)
unfolding digits
asks_folders root m h = below_four (λ m. asked_of (all_dirs root) (sample_mentions m) ≡ map folder (said_of m)) refl refl refl refl m h

-- there all mentions are kept, in byte order of their paths
abbrev kept_mentions : ℕ → List Mention
kept_mentions m = flat_map (λ k. folder_mentions_by ((k + m) % 4) (folder k)) ordered

keeps : (root : Option Bool) (m : ℕ) → m < 4 → kept_of (all_dirs root) (sample_mentions m) ≡ Ok (kept_mentions m)
unfolding digits
keeps root m h = below_four (λ m. kept_of (all_dirs root) (sample_mentions m) ≡ Ok (kept_mentions m)) refl refl refl refl m h

-- their table asks for the root too, where nothing is hidden
asks_the_root_and_folders : (m : ℕ) → m < 4 → beneath_places (kept_mentions m) (places_of (kept_mentions m)) ≡ [] ∷ map folder (said_of m)
unfolding digits
asks_the_root_and_folders m h =
    below_four (λ m. beneath_places (kept_mentions m) (places_of (kept_mentions m)) ≡ [] ∷ map folder (said_of m)) refl refl refl refl m h

starts_whole : (root : Option Bool) (m : ℕ) → m < 4 → slice_get (table_of (all_dirs root) (kept_mentions m)) 0 ≡ Some whole_host
unfolding digits
starts_whole root m h = below_four (λ m. slice_get (table_of (all_dirs root) (kept_mentions m)) 0 ≡ Some whole_host) refl refl refl refl m h

finds_whole : (root : Option Bool) (m : ℕ) → m < 4 → entry_of (table_of (all_dirs root) (kept_mentions m)) program ≡ Some whole_host
unfolding digits
finds_whole root m h = below_four (λ m. entry_of (table_of (all_dirs root) (kept_mentions m)) program ≡ Some whole_host) refl refl refl
    refl m h

-- no mention is a bind
sourceless : (row_at other : Host) (m : ℕ) → m < 4 → AreSameSources row_at other (sample_mentions m)
unfolding digits
sourceless row_at other m h = no_binds row_at other (sample_mentions m)
    (below_four (λ m. list_all (λ mention. not (is_bind mention.kind)) (sample_mentions m) ≡ true) refl refl refl refl m h)
  where
    by_kind : (kind : Kind) → not (is_bind kind) ≡ true → source_of kind ≡ None
    by_kind Ro e = refl
    by_kind Rw e = refl
    by_kind Exec e = refl
    by_kind NoExec e = refl
    by_kind Hide e = refl
    by_kind (Tmp read_only no_exec no_suid) e = refl
    by_kind (Bind source read_only recursive) e = cc

    no_binds : (row_at other : Host) (mentions : List Mention) → list_all (λ mention. not (is_bind mention.kind)) mentions ≡ true
        → AreSameSources row_at other mentions
    no_binds row_at other [] e = tt
    no_binds row_at other (mention ∷ mentions) e =
        let no_source = by_kind mention.kind (and_parts _ _ e).0 in
        (ap (option_and_then other) no_source ∙ sym (ap (option_and_then row_at) no_source), no_binds row_at other mentions (and_parts _ _ e).1)

-- ---- the same at a site

module _ (site : Site) (has : HasSampleRows site) where
  abbrev root : Option Bool
  root = host_of site []

  is_a_dir : (k : ℕ) → k < 16 → host_of site (folder k) ≡ Some true
  is_a_dir k h = ap (λ row. option_map is_dir (option_map (λ row. row.kind) row)) (has.folders k h)

  same_at_folders : (ks : List ℕ) → list_all (λ k. ltb k 16) ks ≡ true → AreSame (all_dirs root) (host_of site) (map folder ks)
  same_at_folders [] e = tt
  same_at_folders (k ∷ ks) e = (is_a_dir k (ltb-true k 16 (and_parts _ _ e).0), same_at_folders ks (and_parts _ _ e).1)

  said_below : (m : ℕ) → m < 4 → list_all (λ k. ltb k 16) (said_of m) ≡ true
  said_below m h = below_four (λ m. list_all (λ k. ltb k 16) (said_of m) ≡ true) refl refl refl refl m h

  keeps_here : (m : ℕ) → m < 4 → kept_of (host_of site) (sample_mentions m) ≡ Ok (kept_mentions m)
  keeps_here m h =
      kept_rests (all_dirs root) (host_of site) (sample_mentions m) (sourceless (all_dirs root) (host_of site) m h)
      (subst (AreSame (all_dirs root) (host_of site)) (sym (asks_folders root m h)) (same_at_folders (said_of m) (said_below m h)))
      ∙ keeps root m h

  same_table : (m : ℕ) → m < 4 → table_of (host_of site) (kept_mentions m) ≡ table_of (all_dirs root) (kept_mentions m)
  same_table m h =
      plan_rests (all_dirs root) (host_of site) (kept_mentions m)
      (subst (AreSame (all_dirs root) (host_of site)) (sym (asks_the_root_and_folders m h))
      (refl, same_at_folders (said_of m) (said_below m h)))

  of_whole : (table : List MountStep) → slice_get table 0 ≡ Some whole_host → entry_of table program ≡ Some whole_host
      → FindsItsProgram site table
  of_whole table first entry = record {
    first = first;
    entry = entry;
    found = ap (found_at (row_at site.rows) program) entry ∙ ap row_or_nothing has.program;
  }

  finds_here : (m : ℕ) → m < 4 → FindsItsProgram site (table_of (host_of site) (kept_mentions m))
  finds_here m h = subst (FindsItsProgram site) (sym (same_table m h))
      (of_whole (table_of (all_dirs root) (kept_mentions m)) (starts_whole root m h) (finds_whole root m h))

  -- the plan of the four
  plans_here : (m : ℕ) → m < 4
      → planned (host_of site) (Base (sample_mentions m)) ≡ Ok (table_of (host_of site) (kept_mentions m))
  unfolding planned
  plans_here m h = ap (unless_refused (table_of (host_of site))) (keeps_here m h)

  module _ (n : ℕ) (unit : Resolved) (says : SaysSample n unit) where
    plans_of : planned (host_of site) (unit_mentions unit site) ≡ Ok (table_of (host_of site) (kept_mentions (n % 4)))
    plans_of =
        ap (λ one. planned (host_of site) (unit_mentions one site)) (unit_is n unit says)
        ∙ ap (planned (host_of site)) (mentioned unit site (n % 4) (turn_below n))
        ∙ plans_here (n % 4) (turn_below n)

    finds_of : (table : List MountStep) → planned (host_of site) (unit_mentions unit site) ≡ Ok table → FindsItsProgram site table
    finds_of table are =
        subst (FindsItsProgram site) (same_table_of _ _ _ plans_of are) (finds_here (n % 4) (turn_below n))
      where
        same_table_of : (one other : List MountStep) (answer : Result (List MountStep) Refusal) → answer ≡ Ok one → answer ≡ Ok other
            → one ≡ other
        same_table_of one other answer e f = cc

pub paths_are_not_refused : PathsAreNotRefused
paths_are_not_refused n unit site says has = (table_of (host_of site) (kept_mentions (n % 4)), plans_of site has n unit says)

pub programs_are_found : ProgramsAreFound
programs_are_found n unit site table says has are = finds_of site has n unit says table are
