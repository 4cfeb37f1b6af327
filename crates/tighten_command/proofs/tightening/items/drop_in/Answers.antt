use Rattle.tighten_command.proofs.tightening.items.drop_in.Goals as goal

pub line-requires : goal.line-requires
line-requires c =
    let within = c.requires.are_items c.loop-item.item-index 0 c.loop-item-test.true in
    record { from_1 = within.0; to_17 = within.1 }
