use Rattle.std.proofs.Common.{sym, arith, refl, inr, subst, ◌≤◌, length}
use Rattle.ceilings.specs.kern_mounts.Split.{Table}
use Rattle.ceilings.specs.kernel_laws.declared.question_types.power.Power.TheVariants.{Unmount as Unmounting}
use Rattle.ceilings.specs.kern_mounts.Mounts.{steps_of}
use Rattle.ceilings.specs.reach_paths.Needs.{allows}
use Rattle.open_calls.proofs.Leading.{leads_by}
use Rattle.open_calls.proofs.service.Service.push_unmounts.Goals as goal

pub shown_at-requires-clause-in_range : goal.shown_at-requires-clause-in_range
shown_at-requires-clause-in_range c =
    (leads_by c.args.self.now.world.now c.requires.served c.args.row.now c.requires.known (allows c.args.need) Unmounting
    (inr refl) c.requires.reached (steps_of c.launched_table-table.result.now) c.args.at c.launched_table-table.ensures.its_own
    c.requires.number).in_range

pub shown_at-requires-clause-leads : goal.shown_at-requires-clause-leads
shown_at-requires-clause-leads c =
    (leads_by c.args.self.now.world.now c.requires.served c.args.row.now c.requires.known (allows c.args.need) Unmounting
    (inr refl) c.requires.reached (steps_of c.launched_table-table.result.now) c.args.at c.launched_table-table.ensures.its_own
    c.requires.number).leads

pub overflow_add-at : goal.overflow_add-at
overflow_add-at c =
    let x = leads_by c.args.self.now.world.now c.requires.served c.args.row.now c.requires.known (allows c.args.need) Unmounting (inr refl) c.requires.reached (steps_of c.launched_table-table.result.now) c.args.at c.launched_table-table.ensures.its_own c.requires.number in
    let few : length (steps_of c.launched_table-table.result.now) ≤ 193 = let P : Table → Type 0 = λ t. length t ≤ 193 in subst P (sym c.launched_table-table.ensures.its_own) c.requires.served.offers.plan.few in
    omega (arith, x.in_range, few)

pub push_uncovering-requires : goal.push_uncovering-requires
push_uncovering-requires c =
    let x = leads_by c.args.self.now.world.now c.requires.served c.args.row.now c.requires.known (allows c.args.need) Unmounting (inr refl) c.requires.reached (steps_of c.launched_table-table.result.now) c.args.at c.launched_table-table.ensures.its_own c.requires.number in
    record { in_range = omega (arith, x.in_range) }
