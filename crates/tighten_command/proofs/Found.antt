-- The first of a list, and what is before it.
use Rattle.std.proofs.Common.{◌≡◌, ◌∙◌, ℕ, ◌+◌, ◌<◌, Bool, true, false, List, length, get_or, take, sym, subst}
use Rattle.std.specs.Prelude.{Contains}
use Rattle.std.specs.List.{All}
use Rattle.std.proofs.lemmas.List.{take_more}
use Rattle.std.proofs.lemmas.List.Elements.{All-push}
use Rattle.std.proofs.lemmas.Option.{get_or_from_slice_get, slice_get-get_or, slice_get_within}
use Rattle.asked_service.specs.Rows.{IsSo}
use Rattle.asked_service.specs.kernel_model.World.{World}
use Rattle.asked_service.specs.kernel_laws.declared.question_types.question.Question.{Question}
use Rattle.tighten_command.specs.tightening.Tried.{IsFirst, IsKept, IsShut}

module _ {X : Type 0} (Good Bad : X → Type 0) (list : List X) where
  -- one more is good
  pub good_more : (at : ℕ) (d : X) → at < length list → Good (get_or list at d) → All Good (take at list) → All Good (take (at + 1) list)
  good_more at d lt good before = subst (All Good) (sym (take_more list at d lt))
      (All-push Good (take at list) (get_or list at d) before good)

  -- the next is bad
  pub first_at : (at number : ℕ) (d : X) → at < length list → number ≡ at + 1 → Bad (get_or list at d) → All Good (take at list)
      → IsFirst Good Bad list number
  first_at at number d lt is bad before = record {
    place = at;
    counted = is;
    one = get_or list at d;
    stands = slice_get-get_or list at d lt;
    is_bad = bad;
    before = before;
  }

  -- it is in the list
  pub first_in : (number : ℕ) (first : IsFirst Good Bad list number) → Contains list first.one
  first_in number first = (first.place, slice_get_within list first.place first.one first.stands, get_or_from_slice_get list first.place first.one first.one first.stands)

-- by the verdict on a question
module _ (world : World) (question : Question) (open' : Bool) (so : IsSo world question open') where
  pub kept_by : open' ≡ true → IsKept world question
  kept_by is shut = (let both : true ≡ false = sym is ∙ so.1 shut in cc)

  pub shut_by : open' ≡ false → IsShut world question
  shut_by is = so.0 is
