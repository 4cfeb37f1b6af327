use Rattle.text_forms.proofs.Bounded.{beside_small}
use Rattle.text_forms.proofs.errnos.errno_number.Goals as goal

pub returns-in-Some-clause-small : goal.returns-in-Some-clause-small
returns-in-Some-clause-small c = beside_small _ c.args.text.now c.in-Some.number c.errno_names.ensures.each_with_its_name c.in-Some.ensures
