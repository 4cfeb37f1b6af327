-- Where two lists of programs have the same replies, a list that answers each call as one of the two has them too.
use Rattle.std.proofs.Common.{◌≡◌, List, [], ◌∷◌, refl, ap, ◌∙◌, sym, subst}
use Rattle.asked_service.specs.bpf_code.declared.machine.Insn.{Insn}
use Rattle.asked_service.specs.call_table.Table.{Table}
use Rattle.asked_service.specs.kernel_model.declared.kernel_calls.call.Call.{Call}
use Rattle.asked_service.specs.kernel_model.Runs.{replies}
use Rattle.asked_service.specs.kernel_model.World.{World}
use Rattle.asked_service.specs.kernel_model.declared.reply.Reply.{Reply}
use Rattle.asked_service.specs.launcher.Alike.{HasWordArchs, above}
use Rattle.asked_service.proofs.OfLauncher.Alike.{calls_kept, fits, own_step, step_above}
use Rattle.derive_command.specs.trace_profile.allow_laws.Either.{EitherReplies, PushNone}
use Rattle.derive_command.proofs.Same.{as_one, same_reply}

pub heads : (a b : Reply) (xs ys : List Reply) → a ∷ xs ≡ b ∷ ys → a ≡ b
heads a b xs ys e = cc

pub tails : (a b : Reply) (xs ys : List Reply) → a ∷ xs ≡ b ∷ ys → xs ≡ ys
tails a b xs ys e = cc

-- the replies, said of the world without the programs
pub own_replies : (programs : List (List Insn)) (world : World) (call : Call) (calls : List Call)
    → replies (above programs world) (call ∷ calls) ≡ (own_step programs world call).0 ∷ replies
    (above programs (own_step programs world call).1) calls
own_replies programs world call calls = ap (λ (out : Reply × World). out.0 ∷ replies out.1 calls) (step_above programs world call)

pub either_replies : EitherReplies
either_replies both one other base [] like arch fit nothing e = refl
either_replies both one other base (call ∷ calls) like arch fit nothing e =
    let all = sym (own_replies one base call calls) ∙ e ∙ own_replies other base call calls in
    let same = same_reply one other base call nothing.0 (heads _ _ _ _ all) in
    let own = as_one both one other base call nothing.0 like (fits base call arch fit.0) same in
    let next : World = (own_step one base call).1 in
    let rest : replies (above one next) calls ≡ replies (above other next) calls =
    tails _ _ _ _ all ∙ ap (λ (out : Reply × World). replies (above other out.1) calls) (sym same) in
    let kept : next.calls ≡ base.calls = calls_kept one base call in
    own_replies both base call calls
    ∙ ap (λ (out : Reply × World). out.0 ∷ replies (above both out.1) calls) own
    ∙ ap (λ (rs : List Reply). (own_step one base call).0 ∷ rs)
    (either_replies both one other next calls like (subst HasWordArchs (sym kept) arch) fit.1
    (subst (λ (table : Table). PushNone table calls) (sym kept) nothing.1) rest)
    ∙ sym (own_replies one base call calls)
