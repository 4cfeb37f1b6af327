-- The values of the code, as definitions see them.
use Rattle.script_text.specs.Reading.{Named}
use Rattle.script_text.specs.declared.names.NamedCall.{NamedCall}

abbrev pub view_named : NamedCall → Named
view_named call = record { abi = call.abi; nr = call.nr; form = call.form }
