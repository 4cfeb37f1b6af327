use Rattle.std.proofs.Common.{subst, map}
use Rattle.filter_check.specs.filter_lines.Reading.{ReadsCode, code_lines}
use Rattle.filter_check.proofs.Read.{lines_refused}
use Rattle.filter_check.proofs.filter_lines.reading.program_of_lines.Goals as goal

pub returns-in_err-code : goal.returns-in_err-code
returns-in_err-code c = record {
  reads = lines_refused (map (λ line. line.now) c.args.lines.now) c.in_err-code.field-0.0 c.from_residual.result
      c.from_residual.ensures.1 c.in_err-code.ensures.refused;
}

pub returns : goal.returns
returns c = record {
  reads = code_lines c.in_ok-code.code.items c.program_of_code.result c.in_ok-code.ensures.code
      (subst (λ code. ReadsCode code c.program_of_code.result) c.as_slice.ensures.value c.program_of_code.ensures.reads);
}
