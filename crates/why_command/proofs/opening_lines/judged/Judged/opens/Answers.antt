use Rattle.std.proofs.Common.{Ok, [], ◌∷◌, subst, sym}
use Rattle.asked_service.specs.launcher.declared.launched.Launched.{Launched as Service}
use Rattle.asked_service.specs.launching.Starting.{StartsAs}
use Rattle.why_command.proofs.Asked.{served}
use Rattle.why_command.specs.deciding_lines.Tried.{inputs_without}
use Rattle.why_command.specs.opening_lines.Judging.{inputs_in}
use Rattle.why_command.proofs.opening_lines.judged.Judged.opens.Goals as goal

pub bound-requires : goal.bound-requires
bound-requires c = record
    { served = served (inputs_without (inputs_in c.args.self.now) (c.args.place ∷ [])) c.args.service c.requires.starts }

pub opens_by-requires : goal.opens_by-requires
opens_by-requires c = record {
  judged = c.requires.judged;
  shut = c.requires.shut;
  bounded = c.in_ok-after.ensures.bounds.1;
  starts = subst (λ (own : Service). StartsAs (inputs_without (inputs_in c.args.self.now) (c.args.place ∷ [])) (Ok own))
      (sym c.in_ok-after.ensures.bounds.0) c.requires.starts;
}
