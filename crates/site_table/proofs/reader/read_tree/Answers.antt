use Rattle.std.proofs.Common.{◌≡◌, List, map, Ok, Err, refl, ap, sym, ◌∙◌, subst}
use Rattle.std.proofs.lemmas.Result.{err_from_is_err_and}
use Rattle.toml.specs.Data.{Data}
use Rattle.toml.specs.View.{view}
use Rattle.site_table.specs.declared.accounts.User.{User}
use Rattle.site_table.specs.declared.accounts.Group.{Group}
use Rattle.site_table.specs.Order.{rows_in_order, with_fixed}
use Rattle.site_table.specs.Owners.{user_of, group_of}
use Rattle.site_table.specs.Reading.{IsUnlessMemory, unless_fault, row_faults, user_faults, group_faults}
use Rattle.site_table.specs.Rings.{rings_at}
use Rattle.site_table.specs.Rows.{row_of}
use Rattle.site_table.proofs.SiteRead.{IsBegun, users_stop, groups_stop, whole, holds, answered}
use Rattle.site_table.proofs.reader.read_tree.Goals as goal

pub returns-in_err-users : goal.returns-in_err-users
returns-in_err-users c =
    let p = err_from_is_err_and c.from_residual-in_err-users.result c.from_residual-in_err-users.ensures.1 in
    let rows_read = subst (λ (rows : List Data). unless_fault (row_faults rows) (rows_in_order (with_fixed (map row_of rows))) ≡ Ok c.in_ok-rows.rows.items) c.elements_at.ensures.all_in_order c.in_ok-rows.ensures.reads_the_rows in
    rw (p.1, p.2)
    (users_stop (view c.args.site.now) c.in-Some.dynamic_uid c.in-Some.user_namespaces c.in-Some.systemd (rings_at (view c.args.site.now)) c.in_ok-rows.rows.items
    (record { top = c.in-Some.ensures; rings = refl; size = sym c.is_too_large.ensures ∙ c.if-is_too_large.false }) rows_read c.in_err-users.field-0.0
    (subst (λ (users : List Data). IsUnlessMemory (λ (read : List User). read) (Err c.in_err-users.field-0.0)
    (unless_fault (user_faults users) (map user_of users))) c.elements_at-2.ensures.all_in_order
    c.in_err-users.ensures.reads_the_users))

pub returns-in_err-groups : goal.returns-in_err-groups
returns-in_err-groups c =
    let p = err_from_is_err_and c.from_residual-in_err-groups.result c.from_residual-in_err-groups.ensures.1 in
    let rows_read = subst (λ (rows : List Data). unless_fault (row_faults rows) (rows_in_order (with_fixed (map row_of rows))) ≡ Ok c.in_ok-rows.rows.items) c.elements_at.ensures.all_in_order c.in_ok-rows.ensures.reads_the_rows in
    let users_read = subst (λ (users : List Data). unless_fault (user_faults users) (map user_of users) ≡ Ok c.in_ok-users.users) c.elements_at-2.ensures.all_in_order c.in_ok-users.ensures.reads_the_users in
    rw (p.1, p.2)
    (groups_stop (view c.args.site.now) c.in-Some.dynamic_uid c.in-Some.user_namespaces c.in-Some.systemd (rings_at (view c.args.site.now)) c.in_ok-rows.rows.items
    (record { top = c.in-Some.ensures; rings = refl; size = sym c.is_too_large.ensures ∙ c.if-is_too_large.false }) rows_read
    c.in_ok-users.users users_read c.in_err-groups.field-0.0
    (subst (λ (groups : List Data). IsUnlessMemory (λ (read : List Group). read) (Err c.in_err-groups.field-0.0)
    (unless_fault (group_faults groups) (map group_of groups))) c.elements_at-3.ensures.all_in_order
    c.in_err-groups.ensures.reads_the_groups))

pub new-requires : goal.new-requires
new-requires c =
    let site = view c.args.site.now in
    let begun : IsBegun site c.in-Some.dynamic_uid c.in-Some.user_namespaces c.in-Some.systemd c.rings_at-io_uring.result = record { top = c.in-Some.ensures; rings = sym c.rings_at-io_uring.ensures.stated_or_missing; size = sym c.is_too_large.ensures ∙ c.if-is_too_large.false } in
    let rows_read = subst (λ (rows : List Data). unless_fault (row_faults rows) (rows_in_order (with_fixed (map row_of rows))) ≡ Ok c.in_ok-rows.rows.items) c.elements_at.ensures.all_in_order c.in_ok-rows.ensures.reads_the_rows in
    let users_read = subst (λ (users : List Data). unless_fault (user_faults users) (map user_of users) ≡ Ok c.in_ok-users.users) c.elements_at-2.ensures.all_in_order c.in_ok-users.ensures.reads_the_users in
    let groups_read = subst (λ (groups : List Data). unless_fault (group_faults groups) (map group_of groups) ≡ Ok c.in_ok-groups.groups) c.elements_at-3.ensures.all_in_order c.in_ok-groups.ensures.reads_the_groups in
    holds site c.in-Some.dynamic_uid c.in-Some.user_namespaces c.in-Some.systemd c.rings_at-io_uring.result c.in_ok-rows.rows.items begun rows_read c.in_ok-users.users users_read
    c.in_ok-groups.groups
    (whole site c.in-Some.dynamic_uid c.in-Some.user_namespaces c.in-Some.systemd c.rings_at-io_uring.result c.in_ok-rows.rows.items begun rows_read c.in_ok-users.users users_read
    c.in_ok-groups.groups groups_read)

pub returns : goal.returns
returns c =
    let site = view c.args.site.now in
    let begun : IsBegun site c.in-Some.dynamic_uid c.in-Some.user_namespaces c.in-Some.systemd c.rings_at-io_uring.result = record { top = c.in-Some.ensures; rings = sym c.rings_at-io_uring.ensures.stated_or_missing; size = sym c.is_too_large.ensures ∙ c.if-is_too_large.false } in
    let rows_read = subst (λ (rows : List Data). unless_fault (row_faults rows) (rows_in_order (with_fixed (map row_of rows))) ≡ Ok c.in_ok-rows.rows.items) c.elements_at.ensures.all_in_order c.in_ok-rows.ensures.reads_the_rows in
    let users_read = subst (λ (users : List Data). unless_fault (user_faults users) (map user_of users) ≡ Ok c.in_ok-users.users) c.elements_at-2.ensures.all_in_order c.in_ok-users.ensures.reads_the_users in
    let groups_read = subst (λ (groups : List Data). unless_fault (group_faults groups) (map group_of groups) ≡ Ok c.in_ok-groups.groups) c.elements_at-3.ensures.all_in_order c.in_ok-groups.ensures.reads_the_groups in
    answered site c.in-Some.dynamic_uid c.in-Some.user_namespaces c.in-Some.systemd c.rings_at-io_uring.result c.in_ok-rows.rows.items begun rows_read c.in_ok-users.users users_read
    c.in_ok-groups.groups
    (whole site c.in-Some.dynamic_uid c.in-Some.user_namespaces c.in-Some.systemd c.rings_at-io_uring.result c.in_ok-rows.rows.items begun rows_read c.in_ok-users.users users_read
    c.in_ok-groups.groups groups_read)
    ∙ ap Ok (sym c.new.ensures)
