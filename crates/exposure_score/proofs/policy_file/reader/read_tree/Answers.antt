use Rattle.std.proofs.Common.{true, false, Ok, ap, sym, ◌∙◌}
use Rattle.exposure_score.specs.policy_file.Reading.{policy_of_object}
use Rattle.exposure_score.proofs.Bytes.{all_read}
use Rattle.exposure_score.proofs.Read.{read_members, too_many, few_enough, is_policy_read}
use Rattle.exposure_score.proofs.policy_file.reader.read_tree.Goals as goal

pub returns-then-len-gt-MOST_TESTS : goal.returns-then-len-gt-MOST_TESTS
returns-then-len-gt-MOST_TESTS c =
    let entries = c.in-Some.members.now.entries in
    sym (ap policy_of_object c.in-Some.ensures)
    ∙ all_read (read_members entries) true c.in_ok-tests.ensures.0
    (too_many entries c.len.result c.len.ensures.len c.if-len-gt-MOST_TESTS.true)

pub new-requires : goal.new-requires
new-requires c =
    let entries = c.in-Some.members.now.entries in
    is_policy_read entries c.len.result c.in_ok-tests.tests.items c.len.ensures.len c.if-len-gt-MOST_TESTS.false c.len.ensures.ordered
    c.in_ok-tests.ensures.0 c.in_ok-tests.ensures.1

pub returns : goal.returns
returns c =
    let entries = c.in-Some.members.now.entries in
    sym (ap policy_of_object c.in-Some.ensures)
    ∙ all_read (read_members entries) false c.in_ok-tests.ensures.0
    (few_enough entries c.len.result c.len.ensures.len c.if-len-gt-MOST_TESTS.false)
    ∙ ap Ok (sym c.in_ok-tests.ensures.1) ∙ ap Ok (sym c.new.ensures.holds_them)
