-- What is beyond a ceiling is denied.
use Rattle.std.proofs.Common.{◌≡◌, ℕ, Bool, true, false, List, refl, ap, ◌∙◌, sym, eqb}
use Rattle.std.specs.Prelude.{Contains}
use Rattle.std.proofs.lemmas.Bool.{or_from, eqb-true}
use Rattle.std.proofs.lemmas.Map.Views.{Contains-from_any}
use Rattle.kernel_ways.specs.cap_sets.Sets.{has}
use Rattle.kernel_ways.specs.kernel_laws.Bound.{caps_at, power_of, any_uid, any_gid}
use Rattle.kernel_ways.specs.kernel_laws.Denied.{IsDenied}
use Rattle.kernel_ways.specs.kernel_laws.Launched.{launch_of, IsLaunchedWorld}
use Rattle.kernel_ways.specs.kernel_laws.declared.question_types.question.Question.TheVariants.{Cap, Uid, Gid}
use Rattle.kernel_ways.proofs.OfKernelLaws.Verdict.{denial_is_sound}
use Rattle.kernel_ways.specs.kernel_model.World.{World}
use Rattle.kernel_ways.specs.Spared.{uids_of, gids_of}
use Rattle.ceilings.proofs.Given.{has_id}
use Rattle.ceilings.proofs.Spares.{uid_either, gid_either}

pub not_listed : (id : ℕ) (ids : List ℕ) → ¬ Contains ids id → has_id id ids ≡ false
not_listed id ids n = by (has_id id ids) refl
  where
    by : (b : Bool) → has_id id ids ≡ b → b ≡ false
    by true e = absurd (n (Contains-from_any {eq = eqb} (λ x y h. eqb-true x y h) id ids e))
    by false e = refl

module _ (world : World) (l : IsLaunchedWorld world) where
  pub cap_denied : (effective : ℕ) → effective ≡ caps_at (launch_of world) (power_of (launch_of world)) → (number : ℕ)
      → has effective number ≡ false → IsDenied world (Cap number)
  cap_denied effective is number off = denial_is_sound world (Cap number) l tt (ap (λ caps. has caps number) (sym is) ∙ off)

  pub uid_denied : (any : Bool) (ids : List ℕ) → any ≡ any_uid (launch_of world) (caps_at (launch_of world) (power_of (launch_of world)))
      → ((id : ℕ) → has_id id ids ≡ uids_of (launch_of world) id)
      → (id : ℕ) → any ≡ false → ¬ Contains ids id → IsDenied world (Uid id)
  uid_denied any ids is each id off n = denial_is_sound world (Uid id) l tt
      (uid_either (launch_of world) id ∙ or_from _ _ (sym is ∙ off) (sym (each id) ∙ not_listed id ids n))

  pub gid_denied : (any : Bool) (ids : List ℕ) → any ≡ any_gid (launch_of world) (caps_at (launch_of world) (power_of (launch_of world)))
      → ((id : ℕ) → has_id id ids ≡ gids_of (launch_of world) id)
      → (id : ℕ) → any ≡ false → ¬ Contains ids id → IsDenied world (Gid id)
  gid_denied any ids is each id off n = denial_is_sound world (Gid id) l tt
      (gid_either (launch_of world) id ∙ or_from _ _ (sym is ∙ off) (sym (each id) ∙ not_listed id ids n))
