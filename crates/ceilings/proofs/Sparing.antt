-- The ids of a ceiling are those that are had without a use of the capability.
use Rattle.std.proofs.Common.{◌≡◌, ℕ, true, false, List, ◌∙◌, sym}
use Rattle.std.specs.Prelude.{Contains}
use Rattle.std.proofs.lemmas.Cmp.{nat_eq_equiv}
use Rattle.std.proofs.lemmas.Map.Views.{list_any-from_Contains}
use Rattle.kernel_ways.specs.kernel_laws.declared.question_types.kind.CallKind.TheVariants.{TakesUid, TakesGid}
use Rattle.kernel_ways.specs.kernel_laws.declared.question_types.question.Question.TheVariants.{Uid, Gid}
use Rattle.kernel_ways.specs.kernel_laws.Launched.{launch_of, lets}
use Rattle.kernel_ways.specs.kernel_model.World.{World}
use Rattle.kernel_ways.specs.Laws.{IsServedWorld}
use Rattle.kernel_ways.specs.Spared.{uids_of, gids_of}
use Rattle.kernel_ways.proofs.SparedLaws.{ids_are_bounded}
use Rattle.kernel_ways.proofs.SparedWays.{ids_are_reached}
use Rattle.ceilings.specs.Sparing.{AreHadSparing}
use Rattle.ceilings.proofs.Bounded.{not_listed}
use Rattle.ceilings.proofs.Given.{has_id}

listed : (id : ℕ) (ids : List ℕ) → Contains ids id → has_id id ids ≡ true
listed id ids h = list_any-from_Contains nat_eq_equiv id ids h

module _ (world : World) (served : IsServedWorld world) (ids : List ℕ) where
  pub uids_spared : ((id : ℕ) → has_id id ids ≡ uids_of (launch_of world) id)
      → AreHadSparing false (lets (launch_of world) TakesGid) world Uid ids
  uids_spared own = record {
    each = λ id h. (ids_are_reached world served).uids id (sym (own id) ∙ listed id ids h);
    no_other = λ id n. (ids_are_bounded world served).uids id (sym (own id) ∙ not_listed id ids n);
  }

  pub gids_spared : ((id : ℕ) → has_id id ids ≡ gids_of (launch_of world) id)
      → AreHadSparing (lets (launch_of world) TakesUid) false world Gid ids
  gids_spared own = record {
    each = λ id h. (ids_are_reached world served).gids id (sym (own id) ∙ listed id ids h);
    no_other = λ id n. (ids_are_bounded world served).gids id (sym (own id) ∙ not_listed id ids n);
  }
