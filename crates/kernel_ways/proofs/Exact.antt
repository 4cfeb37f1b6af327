-- The verdict and the bounds are exact.
use Rattle.std.proofs.Common.{◌≡◌, Bool, true, false, List, [], ◌∷◌, refl, ap, ◌∙◌, sym, inl, inr, suc, arith, length, ◌<◌}
use Rattle.std.specs.Prelude.{Any}
use Rattle.std.proofs.lemmas.Bool.{or_left}
use Rattle.launcher.specs.cap_sets.Sets.{has}
use Rattle.std.specs.List.{AllByRecursion}
use Rattle.launcher.specs.kernel_laws.Bound.{any_uid, any_gid, caps_at, power_by, power_of, ceiling, is_open}
use Rattle.launcher.specs.kernel_laws.Denied.{IsDenied, LastIs, Reaches}
use Rattle.launcher.specs.kernel_laws.declared.question_types.kind.CallKind.TheVariants.{ChangesMounts, RemovesMounts}
use Rattle.launcher.specs.kernel_laws.declared.question_types.question.Question.{Question}
use Rattle.launcher.specs.kernel_laws.declared.question_types.power.Power.{Power}
use Rattle.launcher.specs.kernel_laws.declared.question_types.power.Power.TheVariants.{None as Nowise}
use Rattle.launcher.specs.kernel_laws.declared.question_types.question.Question.TheVariants as asking
use Rattle.launcher.specs.kernel_laws.Launched.{Launch, lets, launch_of}
use Rattle.launcher.specs.kernel_laws.Questions.{IsAsked, questions}
use Rattle.launcher.specs.kernel_model.Runs.{Moment, moments}
use Rattle.launcher.specs.kernel_model.World.{World}
use Rattle.launcher.proofs.OfKernelLaws.AskedQuestions.{all_asked}
use Rattle.launcher.proofs.OfKernelLaws.Verdict.{denial_is_sound}
use Rattle.kernel_ways.proofs.FitQuestions.{listed_are_fit}
use Rattle.kernel_ways.specs.Laws.{IsFit, IsServedWorld, IsShown, IsExact, VerdictIsExact, QuestionsAreExact, BoundsAreExact}
use Rattle.kernel_ways.specs.Laws.{CeilingIsExact}
use Rattle.kernel_ways.proofs.Attained.{at_nowise}
use Rattle.kernel_ways.proofs.Shown.{open_is_shown}
use Rattle.kernel_ways.proofs.Shown as shown

any_head : {X : Type 0} (P : X → Type 0) (x : X) (xs : List X) → P x → Any P (x ∷ xs)
any_head P x xs h = (0, x, omega arith, refl, h)

any_tail : {X : Type 0} (P : X → Type 0) (x : X) (xs : List X) → Any P xs → Any P (x ∷ xs)
any_tail P x xs (k, y, lt, is, h) = let more : suc k < suc (length xs) = omega (arith, lt) in (suc k, y, more, is, h)

last_any : (P : Moment → Type 0) (ms : List Moment) → LastIs P ms → Any P ms
last_any P [] h = absurd h
last_any P (m ∷ []) h = any_head P m [] h
last_any P (m ∷ next ∷ ms) h = any_tail P m (next ∷ ms) (last_any P (next ∷ ms) h)

pub shown_not_denied : (world : World) (question : Question) → IsShown world question → IsDenied world question → ⊥
shown_not_denied world question (list, s) d = elim s.last [
  | inl reached ↦ d.no_moment list s.fit (last_any (Reaches question) (moments world list) reached)
  | inr held ↦ d.no_world list s.fit held
]

is_true : (b : Bool) → (b ≡ false → ⊥) → b ≡ true
is_true true h = refl
is_true false h = absurd (h refl)

is_false : (b : Bool) → (b ≡ true → ⊥) → b ≡ false
is_false true h = absurd (h refl)
is_false false h = refl

pub verdict_is_exact : VerdictIsExact
verdict_is_exact world question s asked fit =
    let open' = is_open (launch_of world) question in
    record {
      opens = open_is_shown world question s fit;
      shows = λ h. is_true open' (λ e. shown_not_denied world question h (denial_is_sound world question s.launched asked e));
      denies = denial_is_sound world question s.launched asked;
      stays_denied = λ d. is_false open' (λ e. shown_not_denied world question (open_is_shown world question s fit e) d);
    }

each_exact : (world : World) (s : IsServedWorld world) (list : List Question) → AllByRecursion (IsAsked world.calls) list
    → AllByRecursion (IsFit world.site) list → AllByRecursion (IsExact world) list
each_exact world s [] asked fit = tt
each_exact world s (question ∷ list) asked fit = (verdict_is_exact world question s asked.0 fit.0, each_exact world s list asked.1 fit.1)

pub questions_are_exact : QuestionsAreExact
questions_are_exact world s = each_exact world s (questions world.calls world.site) (all_asked world.calls world.site)
    (listed_are_fit world.calls world.site s.offers.site)

module _ (world : World) (s : IsServedWorld world) where
  abbrev launch : Launch
  launch = launch_of world

  abbrev admin : Power → Bool
  admin power = has (caps_at launch power) 21

  -- CAP_SYS_ADMIN that is had on the launched table is had at any power
  more : admin Nowise ≡ true → admin (power_of launch) ≡ true
  more e =
      let g = at_nowise launch s.launched.launched s.offers 21 e in
      let held' : IsShown world (asking.Cap 21) = shown.cap_shown world launch s.launched.launched s.offers (shown.solo_of world s) 21 launch.table g in
      is_true (admin (power_of launch))
      (λ f. shown_not_denied world (asking.Cap 21) held' (denial_is_sound world (asking.Cap 21) s.launched tt f))

  once : (b : Bool) → admin Nowise ≡ b → power_of launch ≡ power_by (admin (power_of launch)) (lets launch ChangesMounts)
      (lets launch RemovesMounts)
  once true f = ap (λ b. power_by b (lets launch ChangesMounts) (lets launch RemovesMounts)) (f ∙ sym (more f))
  once false f =
      let none' : power_of launch ≡ Nowise = ap (λ b. power_by b (lets launch ChangesMounts) (lets launch RemovesMounts)) f in
      ap (λ b. power_by b (lets launch ChangesMounts) (lets launch RemovesMounts)) (sym (ap admin none'))

  pub bounds_are_exact : BoundsAreExact world
  bounds_are_exact = record {
    held = λ number e. open_is_shown world (asking.Cap number) s tt e;
    withheld = λ number e. denial_is_sound world (asking.Cap number) s.launched tt e;
    power = once (admin Nowise) refl;
    any_uid = λ e id small. open_is_shown world (asking.Uid id) s small (or_left (any_uid launch (ceiling launch).effective) _ e);
    any_gid = λ e id small. open_is_shown world (asking.Gid id) s small (or_left (any_gid launch (ceiling launch).effective) _ e);
  }

pub ceiling_is_exact : CeilingIsExact
ceiling_is_exact world s = bounds_are_exact world s
