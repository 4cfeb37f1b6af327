use Rattle.std.proofs.Common.{sym, subst, []}
use Rattle.filter_check.specs.filter_paths.Regions.{IsWithin}
use Rattle.filter_check.specs.filter_paths.Covered.{AddsEnds}
use Rattle.filter_check.proofs.Told.{tells_all, tells_more}
use Rattle.filter_check.proofs.filter_paths.walks.all_ends.Goals as goal

pub returns-then-branch : goal.returns-then-branch
returns-then-branch c =
    let code = c.args.insns.now in
    let new = c.add_ends.new.found in
    let adds = subst (λ old. AddsEnds code c.start.result c.args.most old new.items c.in_ok-add_ends.field-0) c.new-found.ensures.items c.in_ok-add_ends.ensures.adds in
    record {
      tells_paths = tells_all code c.start.result c.args.most new record
          { first = c.start.ensures.first; nothing = c.start.ensures.nothing }
          (λ input fits. subst (λ region. IsWithin region input) (sym c.start.ensures.region) (c.in_ok-all.ensures.every_call input fits))
          c.in_ok-add_ends.ensures.few
          (subst (AddsEnds code c.start.result c.args.most [] new.items) c.if-branch.true adds);
    }

pub returns-else-branch : goal.returns-else-branch
returns-else-branch c =
    let code = c.args.insns.now in
    let new = c.add_ends.new.found in
    let adds = subst (λ old. AddsEnds code c.start.result c.args.most old new.items c.in_ok-add_ends.field-0) c.new-found.ensures.items c.in_ok-add_ends.ensures.adds in
    record {
      tells_paths = tells_more code c.start.result c.args.most new.items record
          { first = c.start.ensures.first; nothing = c.start.ensures.nothing }
          (subst (AddsEnds code c.start.result c.args.most [] new.items) c.if-branch.false adds);
    }
