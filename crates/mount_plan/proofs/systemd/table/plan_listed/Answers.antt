use Rattle.std.proofs.Common.{◌≡◌, ◌∙◌, ap, subst, sym, map, List}
use Rattle.std.specs.List.{AllByRecursion}
use Rattle.std.proofs.lemmas.List.Elements.{All-from_recursion}
use Rattle.std.proofs.lemmas.Result.{err_from_is_err_and}
use Rattle.path_settings.specs.declared.systemd.entries.MountEntry.{MountEntry}
use Rattle.path_settings.specs.systemd.Made.{made}
use Rattle.path_settings.proofs.ViewMapLists.{mapped_all}
use Rattle.mount_plan.specs.Host.{host_of}
use Rattle.mount_plan.specs.Short.{HasShortHost}
use Rattle.mount_plan.specs.systemd.Table.{object_among}
use Rattle.mount_plan.proofs.EntriesPlan.{is_beginning, is_made, is_made_of, is_putting, is_refused, is_table}
use Rattle.mount_plan.proofs.EntriesShort.{short_hosts}
use Rattle.mount_plan.proofs.Hosts.{short_rows}
use Rattle.mount_plan.proofs.systemd.table.plan_listed.Goals as goal

pub returns-in_err-ask_each : goal.returns-in_err-ask_each
returns-in_err-ask_each c =
    let row_at = host_of c.args.site.now in
    let list = map (λ one. one.now) c.args.list.now in
    let devices = map (λ one. one.now) c.args.devices.now in
    let put = is_putting row_at c.args.entries.now list devices c.requires.all_listed c.requires.all_nodes
    (map (λ one. one.now) c.deref.result.now) (ap (map (λ one. one.now)) c.deref.ensures.value ∙ c.in_ok-putting.ensures) in
    let told = err_from_is_err_and c.from_residual-in_err-ask_each.result c.from_residual-in_err-ask_each.ensures.1 in
    rw (told.1, told.2) (is_refused row_at c.args.entries.now list devices c.requires.all_listed c.requires.all_nodes
    (map (λ one. one.now) c.deref.result.now) put c.args.no_new_privs c.in_err-ask_each.field-0.0 c.in_err-ask_each.ensures)

pub steps_among-requires : goal.steps_among-requires
steps_among-requires c =
    let row_at = host_of c.args.site.now in
    let list = map (λ one. one.now) c.args.list.now in
    let devices = map (λ one. one.now) c.args.devices.now in
    let put = λ (some : List MountEntry) (is : some ≡ map (λ one. one.now) c.in_ok-putting.putting.items).
    is_putting row_at c.args.entries.now list devices c.requires.all_listed c.requires.all_nodes some (is ∙ c.in_ok-putting.ensures) in
    let found = is_made row_at c.args.entries.now list devices c.requires.all_listed c.requires.all_nodes
    (map (λ one. one.now) c.deref-2.result.now) (map (λ one. one.now) c.deref-6.result.now)
    (put (map (λ one. one.now) c.deref-2.result.now) (ap (map (λ one. one.now)) c.deref-2.ensures.value))
    (ap (map (λ one. one.now)) c.deref-6.ensures.value ∙ c.in_ok-made.ensures) in
    let short = subst (λ (some : List MountEntry). AllByRecursion (λ one. HasShortHost (object_among some one)) (made row_at c.args.entries.now))
    (sym (put (map (λ one. one.now) c.deref-4.result.now) (ap (map (λ one. one.now)) c.deref-4.ensures.value)))
    (short_hosts row_at c.args.entries.now (short_rows c.args.site.now c.requires.sound) c.requires.whole) in
    All-from_recursion _ c.deref-6.result.now
    (mapped_all (λ one. one.now) (λ one. HasShortHost (object_among (map (λ one. one.now) c.deref-4.result.now) one)) c.deref-6.result.now
    (subst (AllByRecursion (λ one. HasShortHost (object_among (map (λ one. one.now) c.deref-4.result.now) one))) (sym found) short))

pub returns : goal.returns
returns c =
    let row_at = host_of c.args.site.now in
    let entries = c.args.entries.now in
    let list = map (λ one. one.now) c.args.list.now in
    let devices = map (λ one. one.now) c.args.devices.now in
    let put = λ (some : List MountEntry) (is : some ≡ map (λ one. one.now) c.in_ok-putting.putting.items).
    is_putting row_at entries list devices c.requires.all_listed c.requires.all_nodes some (is ∙ c.in_ok-putting.ensures) in
    let found = λ (some : List MountEntry) (is : some ≡ map (λ one. one.now) c.in_ok-made.made.items).
    is_made row_at entries list devices c.requires.all_listed c.requires.all_nodes (map (λ one. one.now) c.deref-2.result.now) some
    (put (map (λ one. one.now) c.deref-2.result.now) (ap (map (λ one. one.now)) c.deref-2.ensures.value)) (is ∙ c.in_ok-made.ensures) in
    let begun = is_beginning row_at entries list devices c.requires.all_listed c.requires.all_nodes
    (map (λ one. one.now) c.deref-3.result.now) (map (λ one. one.now) c.deref-5.result.now)
    (found (map (λ one. one.now) c.deref-3.result.now) (ap (map (λ one. one.now)) c.deref-3.ensures.value))
    (ap (map (λ one. one.now)) c.deref-5.ensures.value ∙ c.in_ok-beginning.ensures) in (
      made row_at entries,
      is_made_of row_at entries list devices c.requires.all_listed c.requires.all_nodes (map (λ one. one.now) c.deref.result.now)
          (put (map (λ one. one.now) c.deref.result.now) (ap (map (λ one. one.now)) c.deref.ensures.value)) c.in_ok-ask_each.ensures,
      c.in_ok-steps_among.ensures ∙ is_table row_at c.args.no_new_privs entries (map (λ one. one.now) c.deref-4.result.now)
          (map (λ one. one.now) c.deref-5.result.now) (map (λ one. one.now) c.deref-6.result.now)
          (put (map (λ one. one.now) c.deref-4.result.now) (ap (map (λ one. one.now)) c.deref-4.ensures.value)) begun
          (found (map (λ one. one.now) c.deref-6.result.now) (ap (map (λ one. one.now)) c.deref-6.ensures.value)),
    )
