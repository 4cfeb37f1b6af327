-- The code of a tree from the code of its parts.
use Rattle.std.proofs.Common.{◌≡◌, ℕ, ◌+◌, ◌-◌, ◌%◌, ◌<◌, ◌≤◌, Bool, true, false, cond, List, [], ◌∷◌, ◌++◌, length, drop, refl, sym, ap}
use Rattle.std.proofs.Common.{◌∙◌, subst, arith, length-append}
use Rattle.std.specs.Prelude.{nat_le}
use Rattle.std.proofs.lemmas.Bool.{leb-true}
use Rattle.call_rules.specs.bpf_code.declared.machine.Insn.{Insn}
use Rattle.call_rules.specs.bpf_code.declared.machine.CallData.{CallData}
use Rattle.call_rules.specs.bpf_code.declared.machine.Regs.{Regs}
use Rattle.call_rules.proofs.OfBpfCode.Endings.{drop_at_found}
use Rattle.call_rules.specs.Tested.{Tested}
use Rattle.call_rules.specs.declared.actions.Action.{Action}
use Rattle.call_rules.specs.Action.{test_holds}
use Rattle.seccomp_compile.specs.declared.tree.Comparison.{Comparison}
use Rattle.seccomp_compile.specs.Code.{skip, compare, end, look_code}
use Rattle.seccomp_compile.specs.Looks.{test_code}
use Rattle.seccomp_compile.specs.Decisions.{Decision, ends, looks, splits, both, decide, is_end, tested_word}
use Rattle.seccomp_compile.specs.Lengths.{most_of, jumps, hop, look_len, PathWithin}
use Rattle.seccomp_compile.specs.Placed.{EndsWithin, from_place, IsSound, Grows, Placed, Reached, StandsAt}
use Rattle.seccomp_compile.proofs.Steps.{from_place-grows, from_place-all, grows_not, grows-trans, grows-le, ends_later, jump_ends}
use Rattle.seccomp_compile.proofs.Steps.{end_ends, is_end_insn, compare_ends, look_ends, test_ends, end_sound, jump_sound, compare_sound}
use Rattle.seccomp_compile.proofs.Steps.{look_sound, test_sound, look_length, test_length}

-- An ending.

pub end_found : (action : Action) (skip place : ℕ) (code : List Insn) → StandsAt action code skip → place ≡ length code - skip
    → IsSound code → Placed (ends action) code code place
end_found action skip place code stands e sound = record {
  grows = grows_not code;
  short = omega arith;
  some = omega (arith, stands.there);
  inside = omega arith;
  near = omega (arith, stands.near);
  front = λ other. cc;
  does = λ input regs limit le.
      let back : length code - place ≡ skip = omega (arith, stands.there) in
      let here : from_place place code ≡ stands.insn ∷ drop (skip + 1) code = ap (λ n. drop n code) back ∙ drop_at_found code stands.insn skip stands.found in
      subst (λ code. EndsWithin code input regs action limit) (sym here)
      (end_ends stands.insn (drop (skip + 1) code) input regs action limit stands.ends le);
  sound = sound;
}

pub end_added : (action : Action) (place : ℕ) (before after : List Insn) → after ≡ end action ∷ before → place ≡ length after
    → IsSound before → Placed (ends action) before after place
end_added action place before after added e sound =
    let longer = ap length added in
    record {
      grows = (end action ∷ [], added);
      short = omega arith;
      some = omega arith;
      inside = omega arith;
      near = omega arith;
      front = λ other. cc;
      does = λ input regs limit le.
          subst (λ code. EndsWithin code input regs action limit) (sym (from_place-all after place e ∙ added))
          (end_ends (end action) before input regs action limit (is_end_insn action) le);
      sound = subst IsSound (sym added) (end_sound action before sound);
    }

-- A place within reach.

pub reached_there : (place limit skip : ℕ) (code : List Insn) → skip ≡ length code - place → skip ≤ limit → 0 < place
    → place ≤ length code → IsSound code → Reached code code place place limit
reached_there place limit skip code e near some inside sound = record {
  grows = grows_not code;
  short = omega arith;
  stays = λ le. refl;
  some = some;
  inside = inside;
  near = omega arith;
  does = λ input regs answer steps h. ends_later _ input regs answer steps (steps + 1) (omega arith) h;
  sound = sound;
}

pub reached_by_jump : (place limit count reached : ℕ) (before after : List Insn) → count ≡ length before - place → limit < count
    → after ≡ skip count ∷ before → reached ≡ length after → 0 < place → place ≤ length before → IsSound before
    → Reached before after place reached limit
reached_by_jump place limit count reached before after e far added r some inside sound =
    let longer = ap length added in
    record {
      grows = (skip count ∷ [], added);
      short = omega arith;
      stays = λ le. absurd (omega arith);
      some = omega arith;
      inside = omega arith;
      near = omega arith;
      does = λ input regs answer steps h.
          subst (λ code. EndsWithin code input regs answer (steps + 1)) (sym (from_place-all after reached r ∙ added))
          (jump_ends before input regs answer steps count (subst (λ n. EndsWithin (drop n before) input regs answer steps) (sym e) h));
      sound = subst IsSound (sym added) (jump_sound count before (omega arith) sound);
    }

-- A word that is looked at.

hop_at : (next : Decision) (b : Bool) (before middle after : List Insn) (place reached : ℕ) → is_end next ≡ b
    → Placed next before middle place → Reached middle after place reached 0 → length after ≤ length before + most_of next + hop b
hop_at next true before middle after place reached e p r = omega (arith, p.short, r.short)
hop_at next false before middle after place reached e p r =
    let same = ap length (r.stays (omega (arith, p.front e))) in
    omega (arith, p.short, same)

pub looks_placed : (offset mask place reached at : ℕ) (next : Decision) (before middle near after : List Insn) → offset < 64
    → offset % 4 ≡ 0 →
    Placed next before middle place → Reached middle near place reached 0 → after ≡ look_code offset mask ++ near → at ≡ length after
    → Placed (looks offset mask next) before after at
looks_placed offset mask place reached at next before middle near after lt whole p r added e =
    let longer : length after ≡ look_len mask + length near = ap length added ∙ length-append (look_code offset mask) near ∙ ap (λ n. n + length near) (look_length offset mask) in
    record {
      grows = grows-trans before middle after p.grows (grows-trans middle near after r.grows (look_code offset mask, added));
      short = omega (arith, longer, hop_at next (is_end next) before middle near place reached refl p r);
      some = omega (arith, longer, r.some, r.inside);
      inside = omega arith;
      near = omega arith;
      front = λ other. e;
      does = λ input regs limit path.
          subst (λ code. EndsWithin code input regs (decide (looks offset mask next) input regs.a) limit)
          (sym (from_place-all after at e ∙ added))
          (ends_later _ input regs _ (path.0 + 1 + 2) limit (omega (arith, path.2))
          (look_ends offset mask near input regs _ (path.0 + 1) (λ looked word.
          subst (λ code. EndsWithin code input looked (decide (looks offset mask next) input regs.a) (path.0 + 1))
          (from_place-all near reached (omega (arith, r.inside, r.near)))
          (r.does input looked _ path.0
          (subst (λ word. EndsWithin (from_place place middle) input looked (decide next input word) path.0) word
          (p.does input looked path.0 path.1))))));
      sound = subst IsSound (sym added) (look_sound offset mask near lt whole (omega (arith, r.some, r.inside)) r.sound);
    }

-- A comparison.

pub split_added : (comparison : Comparison) (number no_at yes_at at extra : ℕ) (miss hit : Decision) (before near after : List Insn) →
    Grows before near → length near ≤ length before + most_of miss + most_of hit + jumps (is_end hit) (most_of miss) →
    (0 < no_at) → (no_at ≤ length near) → (0 < yes_at) → (yes_at ≤ length near) →
    ((input : CallData) (regs : Regs) (limit : ℕ) → PathWithin limit miss
    → EndsWithin (from_place no_at near) input regs (decide miss input regs.a) limit) →
    ((input : CallData) (regs : Regs) (limit : ℕ) → PathWithin limit hit
    → EndsWithin (from_place yes_at near) input regs (decide hit input regs.a) (limit + 1)) →
    IsSound near → after ≡ compare comparison number (length near - yes_at) (length near - no_at) ∷ near → at ≡ length after
    → Placed (splits comparison number miss hit) before after at
split_added comparison number no_at yes_at at extra miss hit before near after grows short no_some no_inside yes_some yes_inside no_does
    yes_does sound added e =
    let longer = ap length added in
    record {
      grows = grows-trans before near after grows (compare comparison number (length near - yes_at) (length near - no_at) ∷ [], added);
      short = omega (arith, longer, short);
      some = omega arith;
      inside = omega arith;
      near = omega arith;
      front = λ other. e;
      does = λ input regs limit path.
          subst (λ code. EndsWithin code input regs (decide (splits comparison number miss hit) input regs.a) limit)
          (sym (from_place-all after at e ∙ added))
          (ends_later _ input regs _ (path.0 + 1 + 1) limit (omega (arith, path.3))
          (compare_ends comparison number (length near - yes_at) (length near - no_at) near input regs (decide hit input regs.a)
          (decide miss input regs.a) (path.0 + 1)
          (yes_does input regs path.0 path.2)
          (ends_later _ input regs _ path.0 (path.0 + 1) (omega arith) (no_does input regs path.0 path.1))));
      sound = subst IsSound (sym added)
          (compare_sound comparison number (length near - yes_at) (length near - no_at) near (omega arith) (omega arith) sound);
    }

-- where the second tree ends at once, it is placed last
pub split_by_end : (comparison : Comparison) (number no_at yes_at at : ℕ) (miss hit : Decision) (before middle near after : List Insn)
    → is_end hit ≡ true →
    Placed miss before middle no_at → Placed hit middle near yes_at
    → after ≡ compare comparison number (length near - yes_at) (length near - no_at) ∷ near → at ≡ length after
    → Placed (splits comparison number miss hit) before after at
split_by_end comparison number no_at yes_at at miss hit before middle near after ending n y added e =
    let no_jump : jumps (is_end hit) (most_of miss) ≡ 0 = ap (λ b. jumps b (most_of miss)) ending in
    split_added comparison number no_at yes_at at 0 miss hit before near after (grows-trans before middle near n.grows y.grows)
    (omega (arith, n.short, y.short, no_jump))
    n.some (omega (arith, n.inside, grows-le middle near y.grows)) y.some y.inside
    (λ input regs limit path. subst (λ code. EndsWithin code input regs (decide miss input regs.a) limit)
    (sym (from_place-grows middle near no_at y.grows n.inside)) (n.does input regs limit path))
    (λ input regs limit path. ends_later _ input regs _ limit (limit + 1) (omega arith) (y.does input regs limit path))
    y.sound added e

-- how much longer the code becomes by the jump
jump_at : (between : Bool) (miss hit : Decision) (before low middle near : List Insn) (far_at no_at yes_at : ℕ)
    → nat_le (most_of miss) 50 ≡ between →
    Placed hit before low far_at → Placed miss low middle no_at → Reached middle near far_at yes_at 254
    → length near ≤ length middle + cond between 0 1
jump_at true miss hit before low middle near far_at no_at yes_at short y n r =
    let small = leb-true (most_of miss) 50 short in
    let same = ap length (r.stays (omega (arith, small, y.near, n.short))) in
    omega (arith, same)
jump_at false miss hit before low middle near far_at no_at yes_at short y n r = omega (arith, r.short)

-- else it is placed first, and reached by a jump where it is far
pub split_by_jump : (comparison : Comparison) (number far_at no_at yes_at at : ℕ) (miss hit : Decision)
    (before low middle near after : List Insn) → is_end hit ≡ false →
    Placed hit before low far_at → Placed miss low middle no_at → Reached middle near far_at yes_at 254 →
    after ≡ compare comparison number (length near - yes_at) (length near - no_at) ∷ near → at ≡ length after
    → Placed (splits comparison number miss hit) before after at
split_by_jump comparison number far_at no_at yes_at at miss hit before low middle near after tree y n r added e =
    let jump : jumps (is_end hit) (most_of miss) ≡ cond (nat_le (most_of miss) 50) 0 1 = ap (λ b. jumps b (most_of miss)) tree in
    split_added comparison number no_at yes_at at 0 miss hit before near after
    (grows-trans before low near y.grows (grows-trans low middle near n.grows r.grows))
    (omega (arith, y.short, n.short, jump, jump_at (nat_le (most_of miss) 50) miss hit before low middle near far_at no_at yes_at refl y n r))
    n.some (omega (arith, n.inside, grows-le middle near r.grows)) r.some r.inside
    (λ input regs limit path. subst (λ code. EndsWithin code input regs (decide miss input regs.a) limit)
    (sym (from_place-grows middle near no_at r.grows n.inside)) (n.does input regs limit path))
    (λ input regs limit path. r.does input regs _ limit
    (subst (λ code. EndsWithin code input regs (decide hit input regs.a) limit)
    (sym (from_place-grows low middle far_at n.grows y.inside)) (y.does input regs limit path)))
    r.sound added e

-- Two tests.

module _ (first second : Tested) (action : Action) (no_at yes_at second_at at : ℕ) (otherwise : Decision)
    (before low near middle after : List Insn)
    (inside_first : first.arg ≤ 5) (inside_second : second.arg ≤ 5)
    (n : Placed otherwise before low no_at) (y : Placed (ends action) low near yes_at)
    (tested : middle ≡ test_code second (length near - yes_at) (length near - no_at) ++ near) (s : second_at ≡ length middle)
    (added : after ≡ test_code first (length middle - second_at) (length middle - no_at) ++ middle) (e : at ≡ length after) where
  grown_near : Grows low near
  grown_near = y.grows

  grown_middle : Grows near middle
  grown_middle = (test_code second (length near - yes_at) (length near - no_at), tested)

  grown_after : Grows middle after
  grown_after = (test_code first (length middle - second_at) (length middle - no_at), added)

  middle_long : length middle ≡ length (test_code second (length near - yes_at) (length near - no_at)) + length near
  middle_long = ap length tested ∙ length-append (test_code second (length near - yes_at) (length near - no_at)) near

  after_long : length after ≡ length (test_code first (length middle - second_at) (length middle - no_at)) + length middle
  after_long = ap length added ∙ length-append (test_code first (length middle - second_at) (length middle - no_at)) middle

  otherwise_does : (code : List Insn) → Grows low code → (input : CallData) (regs : Regs) (limit more : ℕ) → PathWithin limit otherwise
      → limit ≤ more → EndsWithin (from_place no_at code) input regs (decide otherwise input regs.a) more
  otherwise_does code grows input regs limit more path le =
      ends_later _ input regs _ limit more le
      (subst (λ code. EndsWithin code input regs (decide otherwise input regs.a) limit)
      (sym (from_place-grows low code no_at grows n.inside)) (n.does input regs limit path))

  second_does : (input : CallData) (regs : Regs) (limit more : ℕ) → PathWithin limit otherwise → limit ≤ more → 1 ≤ more →
      EndsWithin middle input regs (cond (test_holds input second) action (decide otherwise input (tested_word input second))) (more + 3)
  second_does input regs limit more path le some =
      subst (λ code. EndsWithin code input regs
      (cond (test_holds input second) action (decide otherwise input (tested_word input second))) (more + 3)) (sym tested)
      (test_ends second (length near - yes_at) (length near - no_at) near input regs action
      (decide otherwise input (tested_word input second)) more
      (λ after. y.does input after more some)
      (λ after word. subst (λ w. EndsWithin (from_place no_at near) input after (decide otherwise input w) more) word
      (otherwise_does near grown_near input after limit more path le)))

  both_does : (input : CallData) (regs : Regs) (limit : ℕ) → PathWithin limit (both first second action otherwise)
      → EndsWithin after input regs (decide (both first second action otherwise) input regs.a) limit
  both_does input regs limit path =
      let more : ℕ = limit - 6 in
      let room : more + 3 + 3 ≤ limit = omega (arith, path.3) in
      let all = test_ends first (length middle - second_at) (length middle - no_at) middle input regs
      (cond (test_holds input second) action (decide otherwise input (tested_word input second)))
      (decide otherwise input (tested_word input first)) (more + 3)
      (λ after. subst (λ code. EndsWithin code input after
      (cond (test_holds input second) action (decide otherwise input (tested_word input second))) (more + 3))
      (sym (from_place-all middle second_at s))
      (second_does input after path.0 more path.1 (omega (arith, path.2)) (omega (arith, path.3))))
      (λ after word. subst (λ w. EndsWithin (from_place no_at middle) input after (decide otherwise input w) (more + 3)) word
      (otherwise_does middle (grows-trans low near middle grown_near grown_middle) input after path.0 (more + 3) path.1 (omega (arith, path.2)))) in
      subst (λ code. EndsWithin code input regs (decide (both first second action otherwise) input regs.a) limit) (sym added)
      (ends_later _ input regs _ (more + 3 + 3) limit room all)

  no_behind : no_at ≤ length near
  no_behind = omega (arith, n.inside, grows-le low near y.grows)

  pub both_placed : Placed (both first second action otherwise) before after at
  both_placed = record {
    grows = grows-trans before low after n.grows
        (grows-trans low near after grown_near (grows-trans near middle after grown_middle grown_after));
    short = omega (arith, after_long, middle_long, test_length first (length middle - second_at) (length middle - no_at), test_length second (length near - yes_at) (length near - no_at), n.short, y.short);
    some = omega (arith, after_long, middle_long, n.some, no_behind);
    inside = omega arith;
    near = omega arith;
    front = λ other. e;
    does = λ input regs limit path.
        subst (λ code. EndsWithin code input regs (decide (both first second action otherwise) input regs.a) limit)
        (sym (from_place-all after at e)) (both_does input regs limit path);
    sound = subst IsSound (sym added)
        (test_sound first (length middle - second_at) (length middle - no_at) middle inside_first
        (omega (arith, middle_long, n.some, no_behind)) (omega (arith, middle_long, n.some, no_behind))
        (subst IsSound (sym tested)
        (test_sound second (length near - yes_at) (length near - no_at) near inside_second (omega (arith, y.some, y.inside))
        (omega (arith, n.some, no_behind)) y.sound)));
  }

-- What an ending has.

pub end_most : (decision : Decision) → is_end decision ≡ true → most_of decision ≡ 1
end_most (ends action) e = refl
end_most (looks offset mask next) e = cc
end_most (splits comparison number miss hit) e = cc
end_most (both first second action otherwise) e = cc
