use Rattle.std.proofs.Common.{map}
use Rattle.std.specs.Option.{option_map}
use Rattle.score_command.specs.exposure_score.StoredTests.{stored_by}
use Rattle.tighten_command.specs.tightening.Wishes.{wishes_by}
use Rattle.top_call.specs.Requests.{request_of}
use Rattle.top_call.proofs.Runs.{does_for_words}
use Rattle.top_call.proofs.running.run.Goals as goal

pub returns-clause-does_what_is_asked : goal.returns-clause-does_what_is_asked
returns-clause-does_what_is_asked g c =
    does_for_words g.S.Shelf.asks (g.S.Shelf.agrees c.answer.new.shelf)
    (λ tests. stored_by (λ test. test.id) (λ test. test.range)
    (λ test shown answer. (goal.dyn-1-members g).post (test.check.vtable, test.check.value) (shown, tt) answer) tests)
    (λ wishes. wishes_by (λ wish. wish.must_open)
    (λ wish shown answer. (goal.dyn-2-members g).post (wish.test.vtable, wish.test.value) (shown, tt) answer) wishes)
    _ c.args.shelf.now c.answer.new.shelf (option_map request_of c.parse.result) (map (λ word. word.now) c.args.words.now)
    c.deref.result.now c.args.tests.items c.deref-2.result.now c.args.wishes.items c.answer.result c.of.result
    c.parse.ensures.request c.deref.ensures.value c.deref-2.ensures.value c.of.ensures.is_the_status
    c.answer.ensures.runs c.answer.ensures.reads_in_order c.answer.ensures.reads_only_for_it
