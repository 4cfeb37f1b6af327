use Rattle.std.proofs.Common.{◌≡◌, List, [], ◌++◌, append_assoc, sym, subst}
use Rattle.std.specs.Prelude.{filter, OnOk}
use Rattle.path_settings.specs.declared.mentions.Mention.{Mention}
use Rattle.mount_settings.specs.declared.effects.Effect.TheVariants.{ReadOnly, Hidden}
use Rattle.mount_settings.specs.Effects.{stands}
use Rattle.mount_settings.specs.Table.{when, tunables, memory, by_modules, by_logs, by_control_groups}
use Rattle.mount_settings.proofs.table.bring_kernel.Goals as goal

pub returns : goal.returns
returns c =
    let P : List Mention → Type 0 = λ all. OnOk c.bring_groups.result (c.bring_groups.new.mentions.items ≡ c.args.mentions.now.items ++ filter (stands c.args.site.now) all) in
    let on = c.args.protections.protect_kernel_tunables in
    let rest = by_modules c.args.switches.protect_kernel_modules ++ (by_logs c.args.switches.protect_kernel_logs ++ (by_control_groups c.args.protections.protect_control_groups ++ [])) in
    subst P (sym (append_assoc (when on ReadOnly tunables) (when on Hidden memory) rest)) c.bring_groups.ensures
