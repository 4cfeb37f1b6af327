use Rattle.std.proofs.Common.{sym, ap, ◌∙◌}
use Rattle.std.specs.List.{list_any}
use Rattle.std.specs.Str.{bytes_eq}
use Rattle.filter_settings.proofs.Mapped.{list_any-map}
use Rattle.exec_settings.proofs.judged.counts.Goals as goal

pub returns : goal.returns
returns c =
    c.is_among.ensures
    ∙ sym (list_any-map (λ name. bytes_eq name c.args.key.now) (λ name. name.now) c.noted_keys.result.now)
    ∙ ap (list_any (λ name. bytes_eq name c.args.key.now)) c.noted_keys.ensures.each
