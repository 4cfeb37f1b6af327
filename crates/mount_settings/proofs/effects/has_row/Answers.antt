use Rattle.std.proofs.Common.{ap, ◌∙◌, append-nil, refl}
use Rattle.std.specs.Prelude.{is_some}
use Rattle.mount_settings.specs.Effects.{has_row}
use Rattle.mount_settings.proofs.effects.has_row.Goals as goal

pub returns : goal.returns
returns c =
    c.is_some.ensures
    ∙ ap is_some (c.find.ensures.place_of_the_path (record { parts = refl; whole = refl }))
    ∙ ap (has_row c.args.site.now) (append-nil c.args.path.now)
