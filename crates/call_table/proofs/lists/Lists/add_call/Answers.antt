use Rattle.std.proofs.Common.{[], ap}
use Rattle.std.specs.List.{cons_option}
use Rattle.std.specs.Option.{option_map}
use Rattle.call_table.specs.Kinds.{seen_entry}
use Rattle.call_table.specs.Reading.{listed_as}
use Rattle.call_table.specs.Views.{made, made_second}
use Rattle.call_table.proofs.Adding.{native_sound, second_sound}
use Rattle.call_table.proofs.lists.Lists.add_call.Goals as goal

pub returns-in-None-clause-sound : goal.returns-in-None-clause-sound
returns-in-None-clause-sound c =
    native_sound (made c.args.self.now) _ c.args.at (cons_option (listed_as 0 (seen_entry c.args.row)) []) c.add_entry.new.lines
    c.add_entry.result c.requires (ap (option_map made_second) c.in-None.is) c.add_entry.ensures.steps c.add_entry.ensures.sound
    c.add_entry.ensures.of_abi

pub returns-in-Some-clause-sound : goal.returns-in-Some-clause-sound
returns-in-Some-clause-sound c =
    second_sound (made c.args.self.now) (made_second c.in-Some.second) _ c.args.at (cons_option (listed_as 1 (seen_entry c.args.row)) []) c.add_entry-in-Some.new.lines c.add_entry-in-Some.result c.requires (ap (option_map made_second) c.in-Some.is) c.add_entry-in-Some.ensures.steps c.add_entry-in-Some.ensures.sound c.add_entry-in-Some.ensures.same_caps c.add_entry-in-Some.ensures.of_abi
