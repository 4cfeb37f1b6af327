-- Things are left out, one after the other.
use Rattle.std.proofs.Common.{◌≡◌, ◌⊎◌, inl, inr, List, [], ◌∷◌, ◌++◌, Some, None, Result, Ok, Err, length}
use Rattle.std.proofs.Common.{sym, ap, ◌∙◌, subst, arith, append_assoc, append-nil, length-append}
use Rattle.std.specs.Prelude.{IfOk}
use Rattle.std.specs.declared.alloc.AllocError.{AllocError}
use Rattle.why_command.specs.deciding_lines.Least.{AreNeeded, IsPartOf, Tells}
use Rattle.why_command.specs.deciding_lines.LeavingOut.{IsHeld, IsRound, LeavesOut}
use Rattle.why_command.specs.declared.deciding_lines.leaving_out.Serving.{Serving}
use Rattle.why_command.proofs.Parts.{part_no_longer, part_of_part, part_self, part_without}

module _ {T F : Type 0} (Serves : List T → F → Type 0) (Fails : List T → Type 0) where
  -- nothing is tried yet
  pub starts_held : (things : List T) (kept : Serving T F) → kept.things.items ≡ [] → Serves things kept.found
      → IsHeld Serves Fails things things kept
  starts_held things kept none serves =
      let all : things ≡ things ++ kept.things.items = sym (append-nil things) ∙ ap (λ these. things ++ these) (sym none) in
      record {
        serves = subst (λ these. Serves these kept.found) all serves;
        part = subst (λ these. IsPartOf these things) all (part_self things);
        needed = λ long before behind thing is. absurd (no_thing before behind thing (sym none ∙ is));
      }
    where
      no_thing : (before behind : List T) (thing : T) → [] ≡ before ++ (thing ∷ behind) → ⊥
      no_thing [] behind thing is = cc
      no_thing (first ∷ before) behind thing is = cc

  module _ (things before : List T) (thing : T) where
    joins : (rest : List T) → (before ++ (thing ∷ [])) ++ rest ≡ before ++ (thing ∷ rest)
    joins rest = append_assoc before (thing ∷ []) rest

    one_more : (kept : List T) → AreNeeded (λ others. Fails ((before ++ (thing ∷ [])) ++ others)) kept → Fails (before ++ kept)
        → AreNeeded (λ others. Fails (before ++ others)) (thing ∷ kept)
    one_more kept each fails [] behind other is = (let e : kept ≡ behind = cc in subst (λ rest. Fails (before ++ rest)) e fails)
    one_more kept each fails (first ∷ more) behind other is =
        let same : kept ≡ more ++ (other ∷ behind) = cc in
        let own : thing ≡ first = cc in
        subst Fails (joins (more ++ behind) ∙ ap (λ one. before ++ (one ∷ (more ++ behind))) own) (each more behind other same)

    pub with_last : (left : List T) (kept : Serving T F) → left ≡ before ++ (thing ∷ []) → IsHeld Serves Fails things left kept
        → Serves (before ++ (thing ∷ kept.things.items)) kept.found
    with_last left kept last held = subst (λ these. Serves these kept.found)
        (ap (λ these. these ++ kept.things.items) last ∙ joins kept.things.items) held.serves

    pub steps : (left : List T) (kept next : Serving T F) → left ≡ before ++ (thing ∷ []) → IsHeld Serves Fails things left kept
        → LeavesOut Serves Fails before thing kept.things.items next → IsHeld Serves Fails things before next
    steps left kept next last held tried = by tried.1 where
      all : left ++ kept.things.items ≡ before ++ (thing ∷ kept.things.items)
      all = ap (λ these. these ++ kept.things.items) last ∙ joins kept.things.items

      part : IsPartOf (before ++ (thing ∷ kept.things.items)) things
      part = subst (λ these. IsPartOf these things) all held.part

      -- it is left out
      fewer : (next.things.items ≡ kept.things.items) → length (before ++ next.things.items) ≡ length things → ⊥
      fewer goes long =
          let less = part_no_longer (before ++ (thing ∷ kept.things.items)) things part in
          let one = length-append before (thing ∷ kept.things.items) in
          let other = length-append before kept.things.items in
          let e = ap (λ (these : List T). length (before ++ these)) goes in
          omega arith

      by : ((next.things.items ≡ kept.things.items) ⊎ ((next.things.items ≡ thing ∷ kept.things.items) × Fails (before ++ kept.things.items)))
          → IsHeld Serves Fails things before next
      by (inl goes) = record {
        serves = tried.0;
        part = subst (λ these. IsPartOf (before ++ these) things) (sym goes)
            (part_of_part (before ++ kept.things.items) (before ++ (thing ∷ kept.things.items)) things
            (part_without before kept.things.items thing) part);
        needed = λ long. absurd (fewer goes long);
      }
      by (inr stays) = record {
        serves = tried.0;
        part = subst (λ these. IsPartOf (before ++ these) things) (sym stays.0) part;
        needed = λ long. subst (AreNeeded (λ others. Fails (before ++ others))) (sym stays.0)
            (one_more kept.things.items
            (subst (λ these. AreNeeded (λ others. Fails (these ++ others)) kept.things.items) last
            (held.needed (ap length all ∙ ap (λ (these : List T). length (before ++ these)) (sym stays.0) ∙ long))) stays.1);
      }

  -- all are tried
  pub ends : (things left : List T) (kept : Serving T F) → length left ≡ 0 → IsHeld Serves Fails things left kept
      → IsRound Serves Fails things kept
  ends things [] kept none held = record {
    serves = held.serves;
    part = held.part;
    no_more = part_no_longer kept.things.items things held.part;
    needed = held.needed;
  }
  ends things (first ∷ left) kept none held = absurd (omega (arith, none))

  -- a thing that was tried
  module _ (before kept others lent : List T) (thing : T) (is : others ≡ before ++ kept) (lends : lent ≡ others) where
    pub goes : (next : Serving T F) → next.things.items ≡ kept → Tells (Serves lent) (Fails lent) (Some next.found)
        → LeavesOut Serves Fails before thing kept next
    goes next same serves =
        (subst (λ these. Serves these next.found) (lends ∙ is ∙ ap (λ these. before ++ these) (sym same)) serves, inl same)

    pub stays : (next : Serving T F) → next.things.items ≡ thing ∷ kept → Serves (before ++ (thing ∷ kept)) next.found
        → Tells {F = F} (Serves lent) (Fails lent) None → LeavesOut Serves Fails before thing kept next
    stays next same serves fails =
        (subst (λ these. Serves (before ++ these) next.found) (sym same) serves, inr (same, subst Fails (lends ∙ is) fails))

-- what is left of what was kept is left of the things
pub part_goes_on : {T F : Type 0} (things kept : List T) → IsPartOf kept things → (result : Result (Serving T F) AllocError)
    → IfOk result (λ left. IsPartOf left.things.items kept) → IfOk result (λ left. IsPartOf left.things.items things)
part_goes_on things kept part (Ok left) is = part_of_part left.things.items kept things is part
part_goes_on things kept part (Err none) is = tt
