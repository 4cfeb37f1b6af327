use Rattle.kernel_ways.proofs.Entering.{calls_show_inside}
use Rattle.kernel_ways.proofs.Showing.{calls_show, creds_show, ways_are_done, served_is_solo}
use Rattle.kernel_ways.proofs.ways.Goals as goal

pub returns-clause-begin : goal.returns-clause-begin
returns-clause-begin c = served_is_solo

pub returns-clause-are_done : goal.returns-clause-are_done
returns-clause-are_done c = ways_are_done

pub returns-clause-show_by_a_call : goal.returns-clause-show_by_a_call
returns-clause-show_by_a_call c = calls_show

pub returns-clause-show_by_credentials : goal.returns-clause-show_by_credentials
returns-clause-show_by_credentials c = creds_show

pub returns-clause-show_inside : goal.returns-clause-show_inside
returns-clause-show_inside c = calls_show_inside
