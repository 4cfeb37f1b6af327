-- Units that are launched, and lists that are tried.
use Rattle.std.proofs.Common.{◌≡◌, ◌≢◌, inl, inr, ℕ, Bool, true, false, List, filter, Result, Ok, Err, refl, sym, ap, ◌∙◌, subst}
use Rattle.std.specs.Prelude.{IfOk}
use Rattle.std.specs.Result.{IsErrAnd}
use Rattle.std.specs.declared.alloc.AllocError.{AllocError}
use Rattle.asked_service.specs.call_table.Table as calls
use Rattle.asked_service.specs.dropin_merge.declared.resolved.Resolved.{Resolved}
use Rattle.asked_service.specs.kernel_model.declared.kernel_calls.call.Call.{Call}
use Rattle.asked_service.specs.kernel_model.Runs.{replies}
use Rattle.asked_service.specs.kernel_model.declared.reply.Reply.{Reply}
use Rattle.asked_service.specs.launching.Launched.{IsLaunchedUnit, IsNotLaunched}
use Rattle.asked_service.specs.declared.launching.refusal.Refusal.{Refusal}
use Rattle.asked_service.specs.declared.launching.refusal.Refusal.TheVariants.{Memory}
use Rattle.asked_service.specs.launcher.declared.launched.Launched.{Launched as Service}
use Rattle.asked_service.specs.site_table.Table.{Site}
use Rattle.derive_command.specs.trace_profile.Derived.{IsDerived, IsLeast, Serves, Tells, Tried, not_launched, other_reply, tried_with}
use Rattle.derive_command.specs.trace_profile.Extended.{every_name, extended, open_unit}
use Rattle.derive_command.specs.declared.trace_profile.fates.Fate.{Fate}
use Rattle.derive_command.specs.trace_profile.Foretelling.{fates}
use Rattle.derive_command.specs.trace_profile.Names.{AreNames, is_marked, without}
use Rattle.derive_command.specs.trace_profile.Replies.{Compares}
use Rattle.derive_command.specs.trace_profile.Searching.{AreServing, IsHeardOf, LaunchedBy, LeavesOut}
use Rattle.derive_command.proofs.Lists.{every_are_names, some_are_names}

-- what holds of an error holds of a result that passes it on
pub at_error : {R : Type 0} (P : Result R Refusal → Type 0) (result : Result R Refusal) (error : Refusal)
    → IsErrAnd result (λ own. own ≡ error) → P (Err error) → P result
at_error P (Ok made) error is holds = absurd is
at_error P (Err own) error is holds = subst (λ one. P (Err one)) (sym is) holds

module _ (tried : Tried) (names : List ℕ) (unit : Resolved) (is : unit ≡ extended tried.unit tried.table names) where
  -- the names launch the service
  pub launched_by : (service : Service) → AreNames tried.table names → IsLaunchedUnit unit tried.table tried.site service
      → LaunchedBy tried service
  launched_by service are launched = record {
    names = names;
    are_names = are;
    launched = subst (λ own. IsLaunchedUnit own tried.table tried.site service) is launched;
  }

  -- the unit is launched, and its replies are these or others
  pub tells_replies : (service : Service) (result : Result Bool AllocError) → IsLaunchedUnit unit tried.table tried.site service
      → IfOk result (Compares (replies service.world tried.script) tried.said) → IfOk result (Tells tried names)
  tells_replies service (Ok true) launched same =
      record { service = service; launched = subst (λ own. IsLaunchedUnit own tried.table tried.site service) is launched; replies = same }
  tells_replies service (Ok false) launched others =
      other_reply (replies service.world tried.script) (record { service = service; launched = subst (λ own. IsLaunchedUnit own tried.table tried.site service) is launched; replies = refl }) others
  tells_replies service (Err error) launched none = tt

  -- the unit is not launched
  pub tells_no_launch : (error : Refusal) (result : Result Bool AllocError) → IsNotLaunched unit tried.table tried.site error
      → IfOk result (λ serves. (serves ≡ false) × (error ≢ Memory)) → IfOk result (Tells tried names)
  tells_no_launch error (Ok serves) refused told =
      subst (Tells tried names) (sym told.0)
      (not_launched error told.1 (subst (λ own. IsNotLaunched own tried.table tried.site error) is refused))
  tells_no_launch error (Err none) refused told = tt

-- what was told of a list that was lent
told_of : (tried : Tried) (lent names : List ℕ) (told answer : Bool) → lent ≡ names → Tells tried lent told → told ≡ answer
    → Tells tried names answer
told_of tried lent names told answer lends tells is = subst (Tells tried names) is (subst (λ these. Tells tried these told) lends tells)

module _ (tried : Tried) (names lent fewer lent_fewer : List ℕ) (name : ℕ) (told : Bool) (lends : lent ≡ names) (is : fewer ≡ without name lent) (lends_fewer : lent_fewer ≡ fewer) (tells : Tells tried lent_fewer told) where
  -- the others serve
  pub leaves_it : told ≡ true → LeavesOut tried names name fewer
  leaves_it does = inl (is ∙ ap (without name) lends, told_of tried lent_fewer fewer told true lends_fewer tells does)

  -- they do not
  pub keeps_it : told ≡ false → LeavesOut tried names name names
  keeps_it does = inr (refl, told_of tried lent_fewer (without name names) told false (lends_fewer ∙ is ∙ ap (without name) lends) tells does)

-- some names of a list are names of the table
pub lent_are_names : (table : calls.Table) (p : ℕ → Bool) (names lent some lent_some : List ℕ) → AreNames table names → lent ≡ names
    → some ≡ filter p lent → lent_some ≡ some → AreNames table lent_some
lent_are_names table p names lent some lent_some are lends is lends_some =
    subst (AreNames table) (sym (lends_some ∙ is ∙ ap (filter p) lends)) (some_are_names table p names are)

-- the names that are marked serve
pub marked_serve : (tried : Tried) (marks : List Bool) (every lent used lent_used : List ℕ) (told : Bool) → AreServing tried every
    → lent ≡ every → used ≡ filter (is_marked marks) lent → lent_used ≡ used → Tells tried lent_used told → told ≡ true
    → AreServing tried used
marked_serve tried marks every lent used lent_used told serving lends is lends_used tells does = record {
  are_names = subst (λ these. AreNames tried.table these) (sym (is ∙ ap (filter (is_marked marks)) lends))
      (some_are_names tried.table (is_marked marks) every serving.are_names);
  serves = told_of tried lent_used used told true lends_used tells does;
}

module _ (unit : Resolved) (table : calls.Table) (site : Site) (script : List Call) (every lent_every : List ℕ) (all : every ≡ every_name table) (lends : lent_every ≡ every) where
  -- the unit that allows every call is not launched
  pub not_opened : (error : Refusal) → IsNotLaunched (extended unit table lent_every) table site error
      → IsNotLaunched (open_unit unit table) table site error
  not_opened error refused = subst (λ these. IsNotLaunched (extended unit table these) table site error) (lends ∙ all) refused

  module _ (said lent_said : List Reply) (first lent : List Call) (serves : Serves (tried_with unit table site first said) lent_every) (lends_first : first ≡ script) (lends_script : lent ≡ script) (lends_said : lent_said ≡ said) where
    says_so : lent_said ≡ replies serves.service.world script
    says_so = lends_said ∙ sym serves.replies ∙ ap (replies serves.service.world) lends_first

    -- all names serve
    pub every_serve : AreServing (tried_with unit table site lent lent_said) every
    every_serve = record {
      are_names = subst (AreNames table) (sym all) (every_are_names table);
      serves = record {
        service = serves.service;
        launched = subst (λ these. IsLaunchedUnit (extended unit table these) table site serves.service) lends serves.launched;
        replies = ap (replies serves.service.world) lends_script ∙ sym says_so;
      };
    }

    -- and so their service is heard
    pub every_heard : (done lent_done : List Fate) → done ≡ fates serves.service.world first → lent_done ≡ done
        → IsHeardOf (tried_with unit table site lent lent_said) every lent_done
    unfolding every_serve
    every_heard done lent_done are lends_done = record {
      serves = every_serve.serves;
      of_its_service = lends_done ∙ are ∙ ap (fates serves.service.world) (lends_first ∙ sym lends_script);
    }

    -- the least list is derived
    pub derived_is : (names made : List ℕ) → made ≡ names → IsLeast (tried_with unit table site lent lent_said) names
        → IsDerived unit table site script made
    derived_is names made same least = record {
      service = serves.service;
      opened = subst (λ these. IsLaunchedUnit (extended unit table these) table site serves.service) (lends ∙ all) serves.launched;
      least = subst (IsLeast (tried_with unit table site script (replies serves.service.world script))) (sym same)
          (subst (λ these. IsLeast (tried_with unit table site script these) names) says_so
          (subst (λ (calls : List Call). IsLeast (tried_with unit table site calls lent_said) names) lends_script least));
    }
