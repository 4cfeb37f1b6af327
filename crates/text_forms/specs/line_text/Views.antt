-- Contracts see the values of the code in this way.
use Rattle.text_forms.specs.line_text.Lines.{Line}
use Rattle.text_forms.specs.declared.line_text.lines.Line.{Line as ReadLine}

abbrev pub line_view : ReadLine → Line
line_view line = record { number = line.number; text = line.text.now }
