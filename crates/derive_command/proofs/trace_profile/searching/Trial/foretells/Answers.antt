use Rattle.std.proofs.Common.{rules}
use Rattle.std.specs.Prelude.{IsTrue}
use Rattle.derive_command.proofs.HeardAlike.{told_by}
use Rattle.derive_command.proofs.trace_profile.searching.Trial.foretells.Goals as goal

pub returns-in-Some : goal.returns-in-Some
returns-in-Some c =
    let is : IsTrue c.args.self.now.is_foretold = search rules in
    told_by c.args.self.now c.requires.heard c.args.service.now c.requires.launched c.dynamic_uid-uid.ensures.holds_of_each_site
    c.look_at.ensures.whole c.look_at.ensures.native c.look_at.ensures.second is c.in-Some.process.now
    c.in-Some.ensures.process_of_the_number c.foretell.result c.foretell.ensures.foretells
