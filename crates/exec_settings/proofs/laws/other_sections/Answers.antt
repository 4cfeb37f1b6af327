use Rattle.exec_settings.proofs.Others.{others_change_nothing}
use Rattle.exec_settings.proofs.laws.other_sections.Goals as goal

pub returns : goal.returns
returns c = record { no_change = others_change_nothing }
