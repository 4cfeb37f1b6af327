use Rattle.std.proofs.Common.{◌∙◌, ◌+◌, Some, length, ap, sym}
use Rattle.call_table.specs.Lookups.{has_name}
use Rattle.call_table.specs.Views.{lines_seen}
use Rattle.call_table.proofs.Places.{place_stays, place_behind, place_nowhere_more, some_line}
use Rattle.call_table.proofs.lookups.place_among.Goals as goal

pub returns-in_err-place_in-in-None : goal.returns-in_err-place_in-in-None
returns-in_err-place_in-in-None c = record {
  by_name =
      c.from_residual.ensures ∙ sym (place_nowhere_more (has_name c.args.name.now) c.args.calls.now (lines_seen c.args.more) (sym c.in-None.ensures.by_name) (sym c.in_err-place_in-in-None.ensures));
}

pub returns-in-Some : goal.returns-in-Some
returns-in-Some c = record {
  by_name = sym (place_stays (has_name c.args.name.now) c.args.calls.now (lines_seen c.args.more) c.in-Some.place some_line
      (sym c.in-Some.ensures.by_name));
}

pub returns-in_ok-place_in-in-None : goal.returns-in_ok-place_in-in-None
returns-in_ok-place_in-in-None c = record {
  by_name =
      ap (λ count. Some (length count + c.in_ok-place_in-in-None.field-0)) c.lines.ensures.all_in_order
      ∙ sym (place_behind (has_name c.args.name.now) c.args.calls.now (lines_seen c.args.more) c.in_ok-place_in-in-None.field-0 some_line (sym c.in-None.ensures.by_name) (sym c.in_ok-place_in-in-None.ensures));
}
