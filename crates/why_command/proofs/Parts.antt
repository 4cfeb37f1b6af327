-- Some of some things, in their order.
use Rattle.std.proofs.Common.{◌≡◌, inl, inr, ◌≤◌, List, [], ◌∷◌, ◌++◌, length, refl, sym, ap, ◌∙◌, subst, arith}
use Rattle.why_command.specs.deciding_lines.Least.{IsPartOf}

module _ {T : Type 0} where
  pub part_self : (things : List T) → IsPartOf things things
  part_self [] = refl
  part_self (thing ∷ things) = inr (things, refl, part_self things)

  -- all but one
  pub part_without : (before behind : List T) (thing : T) → IsPartOf (before ++ behind) (before ++ (thing ∷ behind))
  part_without [] behind thing = inl (part_self behind)
  part_without (first ∷ before) behind thing = inr (before ++ behind, refl, part_without before behind thing)

  part_on : (few rest all : List T) (thing : T) → ((some : List T) → IsPartOf some rest → IsPartOf some all)
      → IsPartOf few (thing ∷ rest) → IsPartOf few (thing ∷ all)
  part_on few rest all thing goes (inl less) = inl (goes few less)
  part_on few rest all thing goes (inr (more, also, one)) = inr (more, also, goes more one)

  pub part_of_part : (few some all : List T) → IsPartOf few some → IsPartOf some all → IsPartOf few all
  part_of_part few some [] is none = subst (IsPartOf few) none is
  part_of_part few some (thing ∷ all) is (inl gone) = inl (part_of_part few some all is gone)
  part_of_part few some (thing ∷ all) is (inr (rest, same, stays)) =
      part_on few rest all thing (λ these part. part_of_part these rest all part stays) (subst (IsPartOf few) same is)

  pub part_no_longer : (part things : List T) → IsPartOf part things → length part ≤ length things
  part_no_longer part [] none = let e = ap length none in omega arith
  part_no_longer part (thing ∷ things) (inl gone) = let rest = part_no_longer part things gone in omega arith
  part_no_longer part (thing ∷ things) (inr (rest, same, stays)) =
      let less = part_no_longer rest things stays in
      let e = ap length same in
      omega arith

  -- as many of them are all
  pub part_as_long : (part things : List T) → IsPartOf part things → length part ≡ length things → things ≡ part
  part_as_long part [] none long = sym none
  part_as_long part (thing ∷ things) (inl gone) long = let less = part_no_longer part things gone in absurd (omega arith)
  part_as_long part (thing ∷ things) (inr (rest, same, stays)) long =
      let e = ap length same in
      ap (λ these. thing ∷ these) (part_as_long rest things stays (omega arith)) ∙ sym same
