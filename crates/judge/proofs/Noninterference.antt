-- What a service is blind to, it cannot tell: its settings, its plan, its launch and its replies are the same.
use Rattle.std.proofs.Common.{◌≡◌, ◌∙◌, ◌⊎◌, ℕ, Bool, true, List, [], ◌∷◌, map, inl, inr, ap, sym, subst}
use Rattle.std.specs.Prelude.{nat_le, length}
use Rattle.std.specs.List.{AllByRecursion, list_all}
use Rattle.std.proofs.lemmas.Bool.{and_parts}
use Rattle.ceilings.specs.abs_path.Paths.{Path, text_of, is_normal}
use Rattle.ceilings.specs.call_table.Table as calls
use Rattle.ceilings.specs.dropin_merge.declared.resolved.Resolved.{Resolved}
use Rattle.ceilings.specs.exec_settings.AreSettings.{AreSettings}
use Rattle.ceilings.specs.exec_settings.OtherSites.{AreSameFor}
use Rattle.ceilings.specs.exec_settings.declared.service.Settings.{Settings}
use Rattle.ceilings.proofs.OfExecSettings.OtherSites.{refusal_rests, settings_rest}
use Rattle.ceilings.specs.kern_mounts.Split.{Table}
use Rattle.ceilings.specs.kernel_laws.Blind.{IsFolder, IsSmall}
use Rattle.ceilings.specs.kernel_laws.Denied.{IsBlind}
use Rattle.ceilings.specs.kernel_laws.Launched.{Launch}
use Rattle.ceilings.specs.kernel_model.Runs.{replies}
use Rattle.ceilings.specs.kernel_model.World.{World}
use Rattle.ceilings.specs.launcher.Answers.{wanted_of}
use Rattle.ceilings.specs.launcher.Launch.{Launched, Wanted}
use Rattle.ceilings.specs.launcher.Launches.{Leaves}
use Rattle.ceilings.proofs.OfLauncher.Conditions.{keeps_for_user, settings_can_be_launched}
use Rattle.ceilings.proofs.OfLauncher.LaunchWorld.{launch_leaves}
use Rattle.ceilings.specs.mount_plan.Host.{host_of}
use Rattle.ceilings.specs.mount_plan.Resting.{HasTheHostsRoot, HaveSameSources, ShowsNothingOf}
use Rattle.ceilings.proofs.OfMountPlan.BothPlans.{plan_is_blind}
use Rattle.ceilings.specs.mount_plan.Planned.{paths_of}
use Rattle.ceilings.specs.path_settings.Mentioned.{AreKept, leaves_the_root}
use Rattle.ceilings.specs.path_settings.Mentions.{is_path, is_whole, has_whole_source}
use Rattle.ceilings.specs.path_settings.declared.mentioned.Mentioned.{Mentioned}
use Rattle.ceilings.specs.path_settings.declared.mentioned.Mentioned.TheVariants.{Base, Systemd}
use Rattle.ceilings.specs.path_settings.systemd.Entries.{is_whole as is_whole_entry, has_whole_source as has_entry_source}
use Rattle.ceilings.specs.site_table.Table.{Site}
use Rattle.judge.specs.Alike.{BlindToOthers, IsAlike, IsServiceOf}
use Rattle.judge.specs.Sites.{AgreeForUnit, AgreeOutside}
use Rattle.judge.specs.Worlds.{with_site}
use Rattle.judge.proofs.LaunchIsBlind.{has_plan, launch_is_blind}
use Rattle.judge.proofs.NoneBelow.{folder_or_same}
use Rattle.judge.proofs.Runs.{replies_are_blind}
use Rattle.judge.proofs.ShownNothing.{blind_is_shown_nothing}
use Rattle.judge.proofs.Sites.{same_hosts}

paths_normal : {X : Type 0} (at : X → Path) (test : X → Bool) (xs : List X)
    → ((x : X) → test x ≡ true → is_normal (at x) ≡ true) → list_all test xs ≡ true
    → AllByRecursion (λ path. is_normal path ≡ true) (map at xs)
paths_normal at test [] each all = tt
paths_normal at test (x ∷ xs) each all =
    let both = and_parts (test x) (list_all test xs) all in (each x both.0, paths_normal at test xs each both.1)

kept_normal : (mentions : Mentioned) → AreKept mentions → AllByRecursion (λ path. is_normal path ≡ true) (paths_of mentions)
kept_normal (Base list) kept = paths_normal (λ mention. mention.path) is_whole list
    (λ mention whole. (and_parts (is_normal mention.path) (nat_le (length (text_of mention.path)) 512)
    (and_parts (is_path mention.path) (has_whole_source mention.kind) whole).0).0) kept.whole
kept_normal (Systemd list no_new_privs) kept = paths_normal (λ one. one.path) is_whole_entry list
    (λ one whole. (and_parts (is_normal one.path) (nat_le (length (text_of one.path)) 512)
    (and_parts (is_path one.path) (has_entry_source one.mode) whole).0).0) kept.whole

hosts_root : (mentions : Mentioned) → leaves_the_root mentions ≡ true → HasTheHostsRoot mentions
hosts_root (Base list) leave = tt
hosts_root (Systemd list no_new_privs) leave = leave

-- ---- a folder of a site
module _ (folder : Path) (unit : Resolved) (table : calls.Table) (site other : Site) (made : Settings) (plan : Table)
    (programs : List (List ℕ)) (last : World) (steps : ℕ)
    (s : IsServiceOf unit table site made plan programs last steps) where
  leaves : Leaves table site (wanted_of made programs) plan last
  leaves = (launch_leaves table site (wanted_of made programs) plan last steps s.whole s.mounts
      (settings_can_be_launched unit table site made s.is_site s.settings).uid
      (keeps_for_user made programs (settings_can_be_launched unit table site made s.is_site s.settings)) s.launches).0

  at_site : last.site ≡ site
  at_site = ap (λ (launch : Launch). launch.site) leaves.is

  module _ (blind : IsBlind last folder) (agree : AgreeForUnit folder unit site other) where
    outside : IsFolder folder → IsAlike unit table other made plan programs last steps
    outside fit =
        let wanted : Wanted = wanted_of made programs in
        let can = settings_can_be_launched unit table site made s.is_site s.settings in
        let has = has_plan leaves in
        let small : IsSmall plan = record { few = s.mounts.few; places = s.mounts.places_are_short } in
        let nothing : ShowsNothingOf plan folder = subst (λ (t : Table). ShowsNothingOf t folder) has.own (blind_is_shown_nothing folder last 1 has.process has.lives (subst IsSmall (sym has.own) small) fit blind) in
        let sources : HaveSameSources (host_of site) (host_of other) made.mentions = subst (λ (mentions : Mentioned). HaveSameSources (host_of site) (host_of other) mentions) (sym s.settings.mentions_written_and_implied) agree.sources in
        let planned = plan_is_blind folder (host_of site) (host_of other) made.mentions plan (kept_normal made.mentions s.mentions) (hosts_root made.mentions s.settings.leaves_the_root) s.planned sources (same_hosts folder site other agree.outside) nothing in
        let few : AreSameFor unit site other = record {
          dynamic_uid = agree.outside.dynamic_uid;
          users = agree.outside.users;
          groups = agree.outside.groups;
          implied = agree.implied;
          searched = agree.searched;
        } in
        let there : AreSettings unit table other made = settings_rest unit table site other made few s.settings in
        record {
          accepted = refusal_rests unit table site other few ∙ s.accepted;
          settings = there;
          planned = planned;
          launches = launch_is_blind folder table site other wanted plan last steps s.whole s.mounts can.uid
              (keeps_for_user made programs can) s.program agree.outside blind s.launches;
          replies = λ calls fits. (replies_are_blind folder other last calls
              (subst (λ (s : Site). AgreeOutside folder s other) (sym at_site) agree.outside) blind fits).replies;
        }

  -- ---- the same site
  itself : IsAlike unit table site made plan programs last steps
  itself =
      let same : with_site site last ≡ last = ap (λ (s : Site). with_site s last) (sym at_site) in
      record {
        accepted = s.accepted;
        settings = s.settings;
        planned = s.planned;
        launches = s.launches ∙ ap (λ (world : World). Launched world steps) (sym same);
        replies = λ calls fits. ap (λ (world : World). replies world calls) same;
      }

pub blind_to_others : BlindToOthers
blind_to_others folder unit table site other made plan programs last steps s is_other blind agree =
    by (folder_or_same folder site other s.is_site is_other agree.outside)
  where
    by : IsFolder folder ⊎ (other ≡ site) → IsAlike unit table other made plan programs last steps
    by (inl fit) = outside folder unit table site other made plan programs last steps s blind agree fit
    by (inr same) = subst (λ (there : Site). IsAlike unit table there made plan programs last steps) (sym same)
        (itself folder unit table site other made plan programs last steps s)
