use Rattle.std.proofs.Common.{◌≡◌, ◌∙◌, subst}
use Rattle.std.specs.Prelude.{IsErrOf}
use Rattle.asked_service.specs.declared.launching.refusal.Refusal.{Refusal}
use Rattle.asked_service.specs.launching.Launched.{IsNotLaunched}
use Rattle.tighten_command.specs.declared.tightening.tight.TightenError.TheVariants.{NotLaunched}
use Rattle.tighten_command.specs.tightening.Tried.{tried_with}
use Rattle.tighten_command.specs.tightening.Wishes.{wishes_by}
use Rattle.tighten_command.proofs.Served.{at_error, denies_one, is_over, own_service, refuses_one}
use Rattle.tighten_command.proofs.tightening.tightening.tighten.Goals as goal

pub returns-in_err-service-clause-launch_refusal : goal.returns-in_err-service-clause-launch_refusal
returns-in_err-service-clause-launch_refusal g c =
    at_error (λ result. (why : Refusal) → IsErrOf result (NotLaunched why)
    → IsNotLaunched c.args.unit.now c.args.calls.now c.args.site.now why)
    c.from_residual-in_err-service.result (NotLaunched c.in_err-service.field-0.0) c.from_residual-in_err-service.ensures.1
    (λ why is. (let same : c.in_err-service.field-0.0 ≡ why = cc in
    subst (IsNotLaunched c.args.unit.now c.args.calls.now c.args.site.now) same c.in_err-service.ensures.launches))

pub bound-requires : goal.bound-requires
bound-requires g c = record { served = c.in_ok-service.ensures.launches.launched.is_served }

pub lack-requires : goal.lack-requires
lack-requires g c =
    let tried = tried_with c.args.unit.now c.args.calls.now c.args.site.now c.args.keep.now (wishes_by (λ wish. wish.must_open) (λ wish shown answer. (goal.Fn-dyn g).post (wish.test.vtable, wish.test.value) (shown, tt) answer) c.args.wishes.now) in
    record {
      can_be_tried = record { all = c.deref.ensures.value ∙ c.in_ok-list.ensures.in_their_order; listed = c.requires.listed };
      over_the_tables = is_over tried tried.unit c.in_ok-own.own
          (own_service tried c.in_ok-service.service c.in_ok-own.own.service c.in_ok-own.ensures.bounds.0
          c.in_ok-service.ensures.launches) c.in_ok-own.ensures.bounds.1;
    }

pub tight_from-requires : goal.tight_from-requires
tight_from-requires g c =
    let tried = tried_with c.args.unit.now c.args.calls.now c.args.site.now c.args.keep.now (wishes_by (λ wish. wish.must_open) (λ wish shown answer. (goal.Fn-dyn g).post (wish.test.vtable, wish.test.value) (shown, tt) answer) c.args.wishes.now) in
    record {
      can_be_tried = record { all = c.deref.ensures.value ∙ c.in_ok-list.ensures.in_their_order; listed = c.requires.listed };
      serves = record {
        launched = own_service tried c.in_ok-service.service c.in_ok-own.own.service c.in_ok-own.ensures.bounds.0
            c.in_ok-service.ensures.launches;
        is_bounded = c.in_ok-own.ensures.bounds.1;
        pleases = rw c.in-None.is at c.in_ok-number.ensures.first_lack;
      };
    }

pub returns-in-Some-Keep-clause-keep_refusal : goal.returns-in-Some-Keep-clause-keep_refusal
returns-in-Some-Keep-clause-keep_refusal g c = λ number is.
    let tried = tried_with c.args.unit.now c.args.calls.now c.args.site.now c.args.keep.now (wishes_by (λ wish. wish.must_open) (λ wish shown answer. (goal.Fn-dyn g).post (wish.test.vtable, wish.test.value) (shown, tt) answer) c.args.wishes.now) in
    denies_one tried c.in_ok-own.own.service
    (own_service tried c.in_ok-service.service c.in_ok-own.own.service c.in_ok-own.ensures.bounds.0 c.in_ok-service.ensures.launches)
    c.in-Some-Keep.number number (cc) (rw c.in-Some-Keep.field-0-is at (rw c.in-Some-Keep.is at c.in_ok-number.ensures.first_lack))

pub returns-in-Some-Wish-clause-wish_refusal : goal.returns-in-Some-Wish-clause-wish_refusal
returns-in-Some-Wish-clause-wish_refusal g c = λ number is.
    let tried = tried_with c.args.unit.now c.args.calls.now c.args.site.now c.args.keep.now (wishes_by (λ wish. wish.must_open) (λ wish shown answer. (goal.Fn-dyn g).post (wish.test.vtable, wish.test.value) (shown, tt) answer) c.args.wishes.now) in
    refuses_one tried c.in_ok-own.own.service
    (own_service tried c.in_ok-service.service c.in_ok-own.own.service c.in_ok-own.ensures.bounds.0 c.in_ok-service.ensures.launches)
    c.in-Some-Wish.number number (cc) (rw c.in-Some-Wish.field-0-is at (rw c.in-Some-Wish.is at c.in_ok-number.ensures.first_lack))
