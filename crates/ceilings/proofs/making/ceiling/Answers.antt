use Rattle.std.proofs.Common.{◌≡◌, ◌∙◌, ap, sym}
use Rattle.std.specs.Prelude.{◌&&◌}
use Rattle.kernel_ways.specs.linux_numbers.Capabilities.{cap_sys_admin, cap_setuid, cap_setgid}
use Rattle.kernel_ways.specs.cap_sets.Sets.{has}
use Rattle.kernel_ways.specs.kernel_laws.Bound.{caps_at, power_by, power_of}
use Rattle.kernel_ways.specs.kernel_laws.declared.question_types.kind.CallKind.TheVariants.{ChangesMounts, RemovesMounts, TakesUid}
use Rattle.kernel_ways.specs.kernel_laws.declared.question_types.kind.CallKind.TheVariants.{TakesGid}
use Rattle.kernel_ways.specs.kernel_laws.Launched.{Launch, launch_of, lets}
use Rattle.kernel_ways.proofs.Exact.{ceiling_is_exact}
use Rattle.kernel_ways.specs.Spared.{caps_by, power_using}
use Rattle.ceilings.proofs.Bounded.{cap_denied, uid_denied, gid_denied}
use Rattle.ceilings.proofs.Given.{has_id, uids_given, gids_given}
use Rattle.ceilings.proofs.Spares.{power_once}
use Rattle.ceilings.proofs.Sparing.{uids_spared, gids_spared}
use Rattle.ceilings.proofs.making.ceiling.Goals as goal

pub returns-clause-is_its_own : goal.returns-clause-is_its_own
returns-clause-is_its_own c =
    let launch : Launch = launch_of c.args.launched.now.world in
    let power : c.power_using-power.result ≡ power_of launch = c.power_using-power.ensures ∙ ap (power_using launch) c.of-passing.ensures.takes_uid in
    let caps : c.caps_by-effective.result ≡ caps_at launch (power_of launch) =
    c.caps_by-effective.ensures
    ∙ ap (λ used. caps_by launch used (c.power_using-power.result)) c.of-passing.ensures.takes_uid
    ∙ ap (caps_at launch) power in
    record {
      effective = caps;
      power = power;
      any_uid = c.can_take_any.ensures ∙ ap (λ used. has c.caps_by-effective.result cap_setuid && used) c.of-passing.ensures.takes_uid
          ∙ ap (λ set. has set cap_setuid && lets launch TakesUid) caps;
      any_gid = c.can_take_any-2.ensures ∙ ap (λ used. has c.caps_by-effective.result cap_setgid && used) c.of-passing.ensures.takes_gid
          ∙ ap (λ set. has set cap_setgid && lets launch TakesGid) caps;
      uids = λ id. ap (has_id id) c.in_ok-uids.ensures ∙ uids_given launch (c.power_using-spared.result) id c.power_using-spared.ensures;
      gids = λ id. ap (has_id id) c.in_ok-gids.ensures ∙ gids_given launch (c.power_using-power.result) id power;
      paths = c.of-2.ensures;
      rules = c.in_ok-rules.ensures;
      leads = c.in_ok-all_leads.ensures;
    }

pub returns-clause-power_is_by_what_can_be_had : goal.returns-clause-power_is_by_what_can_be_had
returns-clause-power_is_by_what_can_be_had c =
    let own = returns-clause-is_its_own c in
    let launch : Launch = launch_of c.args.launched.now.world in
    own.power ∙ power_once launch ∙ ap (λ caps. power_by (has caps cap_sys_admin) (lets launch ChangesMounts) (lets launch RemovesMounts))
    (sym own.effective)

pub returns-clause-more_is_denied : goal.returns-clause-more_is_denied
returns-clause-more_is_denied c =
    let own = returns-clause-is_its_own c in
    let world = c.args.launched.now.world in
    record {
      capabilities = cap_denied world c.requires c.caps_by-effective.result own.effective;
      uids = uid_denied world c.requires c.can_take_any.result c.in_ok-uids.field-0 own.any_uid own.uids;
      gids = gid_denied world c.requires c.can_take_any-2.result c.in_ok-gids.field-0 own.any_gid own.gids;
    }

pub returns-clause-all_is_had : goal.returns-clause-all_is_had
returns-clause-all_is_had c = λ served.
    let own = returns-clause-is_its_own c in
    let world = c.args.launched.now.world in
    let exact = ceiling_is_exact world served in
    record {
      capabilities = λ number e. exact.held number (ap (λ caps. has caps number) (sym own.effective) ∙ e);
      any_uid = λ id e small. exact.any_uid (sym own.any_uid ∙ e) id small;
      any_gid = λ id e small. exact.any_gid (sym own.any_gid ∙ e) id small;
      listed_uids = uids_spared world served c.in_ok-uids.field-0 own.uids;
      listed_gids = gids_spared world served c.in_ok-gids.field-0 own.gids;
    }
