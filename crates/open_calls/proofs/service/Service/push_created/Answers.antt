use Rattle.std.proofs.Common.{◌≡◌, ap, ◌∙◌, sym, Some}
use Rattle.std.specs.Prelude.{option_copied}
use Rattle.ceilings.specs.kernel_laws.Launched.{launch_of}
use Rattle.ceilings.specs.kernel_laws.declared.question_types.power.Power.TheVariants.{None as Nowise}
use Rattle.open_calls.specs.chosen_calls.Chosen.{writable}
use Rattle.open_calls.proofs.Opening.{is_writable}
use Rattle.open_calls.proofs.service.Service.push_created.Goals as goal

pub push_creating-requires-clause-known : goal.push_creating-requires-clause-known
push_creating-requires-clause-known c =
    let is : writable (launch_of c.args.self.now.world.now) Nowise ≡ Some c.in-Some.row.now = sym c.writable.ensures ∙ ap option_copied c.in-Some.is in
    (is_writable (launch_of c.args.self.now.world.now) c.requires.served.offers Nowise c.in-Some.row.now is).0

pub push_creating-requires-clause-can_be_written : goal.push_creating-requires-clause-can_be_written
push_creating-requires-clause-can_be_written c =
    let is : writable (launch_of c.args.self.now.world.now) Nowise ≡ Some c.in-Some.row.now = sym c.writable.ensures ∙ ap option_copied c.in-Some.is in
    (is_writable (launch_of c.args.self.now.world.now) c.requires.served.offers Nowise c.in-Some.row.now is).1

pub push_creating-requires-in-Some-writable-clause-known : goal.push_creating-requires-in-Some-writable-clause-known
push_creating-requires-in-Some-writable-clause-known c =
    let is : writable (launch_of c.args.self.now.world.now) c.args.self.now.power ≡ Some c.in-Some-writable.row.now =
    sym c.writable-2.ensures ∙ ap option_copied c.in-Some-writable.is in
    (is_writable (launch_of c.args.self.now.world.now) c.requires.served.offers c.args.self.now.power c.in-Some-writable.row.now is).0

pub push_creating-requires-in-Some-writable-clause-can_be_written : goal.push_creating-requires-in-Some-writable-clause-can_be_written
push_creating-requires-in-Some-writable-clause-can_be_written c =
    let is : writable (launch_of c.args.self.now.world.now) c.args.self.now.power ≡ Some c.in-Some-writable.row.now =
    sym c.writable-2.ensures ∙ ap option_copied c.in-Some-writable.is in
    (is_writable (launch_of c.args.self.now.world.now) c.requires.served.offers c.args.self.now.power c.in-Some-writable.row.now is).1
