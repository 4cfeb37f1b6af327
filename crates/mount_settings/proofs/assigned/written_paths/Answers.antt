use Rattle.std.proofs.Common.{◌≡◌, sym, ap, ◌∙◌, subst}
use Rattle.std.specs.List.{filter_map}
use Rattle.dropin_merge.proofs.Found.{added_more}
use Rattle.mount_settings.specs.Assigned.{assigned_by, assigned_of, dialect_of}
use Rattle.mount_settings.specs.Written.{written, unit_written}
use Rattle.mount_settings.specs.Notes.{notes_by}
use Rattle.mount_settings.specs.Roots.{AreRead}
use Rattle.mount_settings.specs.Steps.{after}
use Rattle.mount_settings.proofs.Passing.{after_more, written_is}
use Rattle.mount_settings.proofs.AsKeys.{written_are_read}
use Rattle.mount_settings.proofs.assigned.written_paths.Goals as goal

pub loop-place-preserved : goal.loop-place-preserved
loop-place-preserved c = record {
  means = after_more (dialect_of c.args.unit.now.systemd) (assigned_by c.args.unit.now.systemd c.args.unit.now.name) _ _ (c.in-Some.place, c.in-Some.assignment.now) _ _ _ c.in-Some.ensures.steps
      c.loop-place.invariant.means c.in_ok-add_assigned.ensures.means;
  noted = added_more (notes_by c.args.unit.now.systemd c.args.unit.now.name) _ _ (c.in-Some.place, c.in-Some.assignment.now) _ _ _ c.in-Some.ensures.steps
      c.loop-place.invariant.noted c.in_ok-add_assigned.ensures.noted;
}

pub new-requires : goal.new-requires
new-requires c =
    let values = assigned_of c.args.unit.now in
    let all : c.loop-place.paths.items ≡ written (dialect_of c.args.unit.now.systemd) values =
    sym (c.loop-place.invariant.means ∙ ap (λ ones. after (dialect_of c.args.unit.now.systemd) c.loop-place.paths.items (filter_map (assigned_by c.args.unit.now.systemd c.args.unit.now.name) ones)) c.in-None.ensures.steps.0) ∙ written_is (dialect_of c.args.unit.now.systemd) values in
    subst AreRead (sym all) (written_are_read (dialect_of c.args.unit.now.systemd) values)

pub returns-clause-in_order_of_assignments : goal.returns-clause-in_order_of_assignments
unfolding unit_written
returns-clause-in_order_of_assignments c =
    c.new.ensures.holds_them
    ∙ sym (c.loop-place.invariant.means ∙ ap (λ ones. after (dialect_of c.args.unit.now.systemd) c.loop-place.paths.items (filter_map (assigned_by c.args.unit.now.systemd c.args.unit.now.name) ones))
    c.in-None.ensures.steps.0)
    ∙ written_is (dialect_of c.args.unit.now.systemd) (assigned_of c.args.unit.now)
