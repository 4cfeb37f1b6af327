use Rattle.std.proofs.Common.{◌∙◌, List, Err, ap, subst, sym}
use Rattle.std.proofs.lemmas.Result.{err_from_is_err_and}
use Rattle.path_settings.specs.declared.mentions.Mention.{Mention}
use Rattle.path_settings.specs.declared.systemd.entries.MountEntry.{MountEntry}
use Rattle.path_settings.specs.systemd.Made.{made_of}
use Rattle.mount_plan.specs.Host.{host_of}
use Rattle.mount_plan.specs.Answers.{PlansBase, Tables}
use Rattle.mount_plan.specs.systemd.Table.{table_of}
use Rattle.mount_plan.proofs.BothPlans.{base_answer, entries_answer, entries_error}
use Rattle.mount_plan.proofs.planning.plan.Goals as goal

pub returns-in-Base-clause-table_or_first_refusal : goal.returns-in-Base-clause-table_or_first_refusal
returns-in-Base-clause-table_or_first_refusal c =
    let list = c.in-Base.list in
    let answer = base_answer c.args.site.now c.args.mentions.now list c.in-Base.is c.rows-rows.ensures.holds_of_each_site c.list.ensures.whole
    c.requires.root_is_the_hosts c.list.ensures.at_most_192 c.plan_of.result
    (subst (λ (some : List Mention). PlansBase (host_of c.args.site.now) some c.plan_of.result) c.list.ensures.all_in_order c.plan_of.ensures) in
    answer.table

pub returns-in-Base-clause-keeps_by_rules : goal.returns-in-Base-clause-keeps_by_rules
returns-in-Base-clause-keeps_by_rules c =
    let list = c.in-Base.list in
    let answer = base_answer c.args.site.now c.args.mentions.now list c.in-Base.is c.rows-rows.ensures.holds_of_each_site c.list.ensures.whole
    c.requires.root_is_the_hosts c.list.ensures.at_most_192 c.plan_of.result
    (subst (λ (some : List Mention). PlansBase (host_of c.args.site.now) some c.plan_of.result) c.list.ensures.all_in_order c.plan_of.ensures) in
    answer.rules

pub returns-in-Base-clause-finds_as_view : goal.returns-in-Base-clause-finds_as_view
returns-in-Base-clause-finds_as_view c =
    let list = c.in-Base.list in
    let answer = base_answer c.args.site.now c.args.mentions.now list c.in-Base.is c.rows-rows.ensures.holds_of_each_site c.list.ensures.whole
    c.requires.root_is_the_hosts c.list.ensures.at_most_192 c.plan_of.result
    (subst (λ (some : List Mention). PlansBase (host_of c.args.site.now) some c.plan_of.result) c.list.ensures.all_in_order c.plan_of.ensures) in
    answer.seen

pub returns-in-Base-clause-places_are_mentioned : goal.returns-in-Base-clause-places_are_mentioned
returns-in-Base-clause-places_are_mentioned c =
    let list = c.in-Base.list in
    let answer = base_answer c.args.site.now c.args.mentions.now list c.in-Base.is c.rows-rows.ensures.holds_of_each_site c.list.ensures.whole
    c.requires.root_is_the_hosts c.list.ensures.at_most_192 c.plan_of.result
    (subst (λ (some : List Mention). PlansBase (host_of c.args.site.now) some c.plan_of.result) c.list.ensures.all_in_order c.plan_of.ensures) in
    answer.places

pub returns-in-Base-clause-can_be_mounted : goal.returns-in-Base-clause-can_be_mounted
returns-in-Base-clause-can_be_mounted c =
    let list = c.in-Base.list in
    let answer = base_answer c.args.site.now c.args.mentions.now list c.in-Base.is c.rows-rows.ensures.holds_of_each_site c.list.ensures.whole
    c.requires.root_is_the_hosts c.list.ensures.at_most_192 c.plan_of.result
    (subst (λ (some : List Mention). PlansBase (host_of c.args.site.now) some c.plan_of.result) c.list.ensures.all_in_order c.plan_of.ensures) in
    answer.fits

pub returns-in_err-steps-in-Systemd-clause-table_or_first_refusal : goal.returns-in_err-steps-in-Systemd-clause-table_or_first_refusal
returns-in_err-steps-in-Systemd-clause-table_or_first_refusal c =
    let told = err_from_is_err_and c.from_residual.result c.from_residual.ensures.1 in
    rw (told.1, told.2) (entries_error (host_of c.args.site.now) c.args.mentions.now c.in-Systemd.entries c.in-Systemd.no_new_privs c.in-Systemd.is
    c.in_err-steps-in-Systemd.field-0.0
    (subst (λ (some : List MountEntry). Tables (host_of c.args.site.now) c.in-Systemd.no_new_privs some (Err c.in_err-steps-in-Systemd.field-0.0))
    c.list-in-Systemd.ensures.all_in_order c.in_err-steps-in-Systemd.ensures))

pub returns-in_ok-steps-in-Systemd-clause-table_or_first_refusal : goal.returns-in_ok-steps-in-Systemd-clause-table_or_first_refusal
returns-in_ok-steps-in-Systemd-clause-table_or_first_refusal c =
    let list = c.in-Systemd.entries in
    let made = c.in_ok-steps-in-Systemd.ensures in
    let answer = entries_answer c.args.site.now c.args.mentions.now list c.in-Systemd.no_new_privs c.in-Systemd.is c.rows-rows.ensures.holds_of_each_site
    c.list-in-Systemd.ensures.whole c.requires.root_is_the_hosts c.list-in-Systemd.ensures.at_most_192 made.0
    (sym (ap (made_of (host_of c.args.site.now)) c.list-in-Systemd.ensures.all_in_order) ∙ made.1) c.new.result
    (c.new.ensures.holds_them ∙ made.2 ∙ ap (table_of (host_of c.args.site.now) c.in-Systemd.no_new_privs) c.list-in-Systemd.ensures.all_in_order) in
    answer.table

pub returns-in_ok-steps-in-Systemd-clause-finds_as_view : goal.returns-in_ok-steps-in-Systemd-clause-finds_as_view
returns-in_ok-steps-in-Systemd-clause-finds_as_view c =
    let list = c.in-Systemd.entries in
    let made = c.in_ok-steps-in-Systemd.ensures in
    let answer = entries_answer c.args.site.now c.args.mentions.now list c.in-Systemd.no_new_privs c.in-Systemd.is c.rows-rows.ensures.holds_of_each_site
    c.list-in-Systemd.ensures.whole c.requires.root_is_the_hosts c.list-in-Systemd.ensures.at_most_192 made.0
    (sym (ap (made_of (host_of c.args.site.now)) c.list-in-Systemd.ensures.all_in_order) ∙ made.1) c.new.result
    (c.new.ensures.holds_them ∙ made.2 ∙ ap (table_of (host_of c.args.site.now) c.in-Systemd.no_new_privs) c.list-in-Systemd.ensures.all_in_order) in
    answer.seen

pub returns-in_ok-steps-in-Systemd-clause-places_are_mentioned : goal.returns-in_ok-steps-in-Systemd-clause-places_are_mentioned
returns-in_ok-steps-in-Systemd-clause-places_are_mentioned c =
    let list = c.in-Systemd.entries in
    let made = c.in_ok-steps-in-Systemd.ensures in
    let answer = entries_answer c.args.site.now c.args.mentions.now list c.in-Systemd.no_new_privs c.in-Systemd.is c.rows-rows.ensures.holds_of_each_site
    c.list-in-Systemd.ensures.whole c.requires.root_is_the_hosts c.list-in-Systemd.ensures.at_most_192 made.0
    (sym (ap (made_of (host_of c.args.site.now)) c.list-in-Systemd.ensures.all_in_order) ∙ made.1) c.new.result
    (c.new.ensures.holds_them ∙ made.2 ∙ ap (table_of (host_of c.args.site.now) c.in-Systemd.no_new_privs) c.list-in-Systemd.ensures.all_in_order) in
    answer.places

pub returns-in_ok-steps-in-Systemd-clause-can_be_mounted : goal.returns-in_ok-steps-in-Systemd-clause-can_be_mounted
returns-in_ok-steps-in-Systemd-clause-can_be_mounted c =
    let list = c.in-Systemd.entries in
    let made = c.in_ok-steps-in-Systemd.ensures in
    let answer = entries_answer c.args.site.now c.args.mentions.now list c.in-Systemd.no_new_privs c.in-Systemd.is c.rows-rows.ensures.holds_of_each_site
    c.list-in-Systemd.ensures.whole c.requires.root_is_the_hosts c.list-in-Systemd.ensures.at_most_192 made.0
    (sym (ap (made_of (host_of c.args.site.now)) c.list-in-Systemd.ensures.all_in_order) ∙ made.1) c.new.result
    (c.new.ensures.holds_them ∙ made.2 ∙ ap (table_of (host_of c.args.site.now) c.in-Systemd.no_new_privs) c.list-in-Systemd.ensures.all_in_order) in
    answer.fits
