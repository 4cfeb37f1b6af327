use Rattle.std.proofs.Common.{◌≡◌}
use Rattle.asked_service.proofs.OfUnitInputs.ReadyTexts.{ready_reads_nothing}
use Rattle.asked_service.specs.unit_inputs.declared.command_answers.exit_status.ExitStatus.TheVariants.{Done}
use Rattle.tighten_command.specs.tightening.Tried.{tried_with}
use Rattle.tighten_command.specs.tightening.Wishes.{wishes_by}
use Rattle.tighten_command.specs.Lines.{keep_line, tight_text, wish_line}
use Rattle.tighten_command.specs.Telling.{TellsTight, denies, refuses_wish}
use Rattle.tighten_command.proofs.Telling.{line_told, refusal_told, tight_told}
use Rattle.tighten_command.proofs.answering.answer.Goals as goal

pub tell_tight-requires : goal.tell_tight-requires
tell_tight-requires g c = record { are_items = c.in-Ok.ensures.tight.are_items }

pub returns-in-Ok-clause-answers : goal.returns-in-Ok-clause-answers
returns-in-Ok-clause-answers g c =
    let tried = tried_with c.args.unit.now c.args.calls.now c.args.site.now c.args.keep.now (wishes_by (λ wish. wish.must_open) (λ wish shown answer. (goal.Fn-dyn g).post (wish.test.vtable, wish.test.value) (shown, tt) answer) c.args.wishes.now) in
    tight_told c.args.name.now tried c.in-Ok.tight c.in-Ok.ensures.tight c.tell_tight.result c.tell_tight.ensures

pub returns-in-Ok-clause-reads_nothing : goal.returns-in-Ok-clause-reads_nothing
returns-in-Ok-clause-reads_nothing g c = ready_reads_nothing (λ status text. (status ≡ Done) × (text ≡ tight_text c.in-Ok.tight)) c.tell_tight.result c.tell_tight.ensures

pub returns-in-Err-NotLaunched-clause-answers : goal.returns-in-Err-NotLaunched-clause-answers
returns-in-Err-NotLaunched-clause-answers g c =
    let tried = tried_with c.args.unit.now c.args.calls.now c.args.site.now c.args.keep.now (wishes_by (λ wish. wish.must_open) (λ wish shown answer. (goal.Fn-dyn g).post (wish.test.vtable, wish.test.value) (shown, tt) answer) c.args.wishes.now) in
    refusal_told c.args.name.now tried c.in-Err-NotLaunched.refusal
    (c.in-Err-NotLaunched.ensures.launch_refusal c.in-Err-NotLaunched.refusal (cc)) c.tell_refusal.result c.tell_refusal.ensures.tells

pub returns-in-Err-Keep-clause-answers : goal.returns-in-Err-Keep-clause-answers
returns-in-Err-Keep-clause-answers g c =
    let tried = tried_with c.args.unit.now c.args.calls.now c.args.site.now c.args.keep.now (wishes_by (λ wish. wish.must_open) (λ wish shown answer. (goal.Fn-dyn g).post (wish.test.vtable, wish.test.value) (shown, tt) answer) c.args.wishes.now) in
    let number = c.in-Err-Keep.number in
    line_told (TellsTight c.args.name.now tried) (keep_line c.args.name.now number) c.keep_line.result c.refuse.result
    c.refuse.ensures.tells_the_line c.keep_line.ensures.names_the_question (denies number (c.in-Err-Keep.ensures.keep_refusal number (cc)))

pub returns-in-Err-Wish-clause-answers : goal.returns-in-Err-Wish-clause-answers
returns-in-Err-Wish-clause-answers g c =
    let tried = tried_with c.args.unit.now c.args.calls.now c.args.site.now c.args.keep.now (wishes_by (λ wish. wish.must_open) (λ wish shown answer. (goal.Fn-dyn g).post (wish.test.vtable, wish.test.value) (shown, tt) answer) c.args.wishes.now) in
    let number = c.in-Err-Wish.number in
    line_told (TellsTight c.args.name.now tried) (wish_line c.args.name.now number) c.wish_line.result c.refuse-in-Err-Wish.result
    c.refuse-in-Err-Wish.ensures.tells_the_line c.wish_line.ensures.names_the_wish
    (refuses_wish number (c.in-Err-Wish.ensures.wish_refusal number (cc)))
