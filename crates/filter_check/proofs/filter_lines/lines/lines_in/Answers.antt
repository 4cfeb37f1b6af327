use Rattle.std.proofs.Common.{◌≡◌, ◌-◌, ℕ, length, take, map, sym, ap, ◌∙◌, arith}
use Rattle.std.specs.Prelude.{vec_len, ◌==◌}
use Rattle.std.specs.List.{slice_split}
use Rattle.filter_check.proofs.Lined.{lines_cut}
use Rattle.filter_check.proofs.filter_lines.lines.lines_in.Goals as goal

pub returns : goal.returns
returns c =
    let old = c.in_ok-lines.lines in
    record {
      the_lines =
          ap (map (λ line. line.now)) c.pop.ensures.rest
          ∙ lines_cut (λ line. line.now) old.items (slice_split (λ byte. byte == 10) c.args.text.now) (vec_len old)
          (omega (arith, old.ok.0)) c.in_ok-lines.ensures;
    }
