use Rattle.std.proofs.Common.{sym, ap, ◌∙◌, arith}
use Rattle.std.specs.List.{list_any}
use Rattle.std.specs.Str.{bytes_eq}
use Rattle.filter_settings.proofs.Mapped.{list_any-map}
use Rattle.exec_settings.proofs.ShortKeys.{short_judged}
use Rattle.exec_settings.proofs.judged.is_judged.Goals as goal

pub returns-then-key-lt-LONG_KEY : goal.returns-then-key-lt-LONG_KEY
returns-then-key-lt-LONG_KEY c = record {
  by_the_keys = c.is_among.ensures ∙ short_judged c.args.systemd c.args.key.now (omega arith);
}

pub returns : goal.returns
returns c =
    record {
      by_the_keys =
          c.is_named.ensures
          ∙ sym (list_any-map (λ row. bytes_eq row.0 c.args.key.now) (λ row. (row.0.now, row.1)) c.keys.result.now)
          ∙ ap (list_any (λ row. bytes_eq row.0 c.args.key.now)) c.keys.ensures.all_that_are_judged;
    }
