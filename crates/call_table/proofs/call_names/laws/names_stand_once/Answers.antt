use Rattle.call_table.proofs.Lines.{once, found, once_in_linux, found_in_linux, as_in_base}
use Rattle.call_table.proofs.call_names.laws.names_stand_once.Goals as goal

pub returns-clause-once : goal.returns-clause-once
returns-clause-once c = once

pub returns-clause-each_line_is_found : goal.returns-clause-each_line_is_found
returns-clause-each_line_is_found c = found

pub returns-clause-once_in_linux : goal.returns-clause-once_in_linux
returns-clause-once_in_linux c = once_in_linux

pub returns-clause-each_line_of_linux_is_found : goal.returns-clause-each_line_of_linux_is_found
returns-clause-each_line_of_linux_is_found c = found_in_linux

pub returns-clause-others_are_as_in_base : goal.returns-clause-others_are_as_in_base
returns-clause-others_are_as_in_base c = as_in_base
