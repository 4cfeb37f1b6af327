use Rattle.std.proofs.Common.{◌∙◌, sym}
use Rattle.ceilings.specs.kernel_laws.Launched.{launch_of}
use Rattle.open_calls.proofs.Inside.{made_inside, not_user}
use Rattle.open_calls.proofs.service.Service.push_space.Goals as goal

pub call_inside-requires : goal.call_inside-requires
call_inside-requires c =
    let both = made_inside (launch_of c.args.self.now.world.now) c.args.kind (not_user c.args.kind c.in_default.not-User) (sym c.args.self.now.its_top ∙ c.if-self.false) c.requires.reachable in
    record { some_passes = both.0; user_passes = both.1 }
