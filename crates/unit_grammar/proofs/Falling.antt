-- The parts of a file fall into stretches in one way, and these stretches are joined.
use Rattle.std.proofs.Common.{◌≡◌, ℕ, true, false, cond, List, [], ◌∷◌, ◌++◌, map, refl, sym, ap, ◌∙◌}
use Rattle.std.specs.Prelude.{◌↔◌, not, ◌&&◌, flat_map}
use Rattle.std.specs.List.{onto_first}
use Rattle.std.proofs.lemmas.Bool.{and_parts, and_from, false≢true}
use Rattle.unit_grammar.specs.Spaces.{continues}
use Rattle.unit_grammar.specs.Lines.{file_parts, split_after, line_of, joined_lines}
use Rattle.unit_grammar.specs.Stretches.{is_stretch, ends_whole, are_stretches, Joins}
use Rattle.unit_grammar.specs.declared.joined.Line.{Line}

abbrev groups_of : List Line → List (List Line)
groups_of parts = split_after (λ part. not (continues part.text)) parts

abbrev all_of : List (List Line) → List Line
all_of stretches = flat_map (λ stretch. stretch) stretches

all_of-onto_first : (part : Line) (groups : List (List Line)) → all_of (onto_first part groups) ≡ part ∷ all_of groups
all_of-onto_first part [] = refl
all_of-onto_first part (group ∷ groups) = refl

-- no part is lost
all_of-groups_of : (parts : List Line) → parts ≡ all_of (groups_of parts)
all_of-groups_of [] = refl
all_of-groups_of (part ∷ parts) =
    elim (continues part.text) as
    (λ b. part ∷ parts ≡ all_of (cond (not b) ((part ∷ []) ∷ groups_of parts) (onto_first part (groups_of parts)))) [
      | true ↦ ap (λ rest. part ∷ rest) (all_of-groups_of parts) ∙ sym (all_of-onto_first part (groups_of parts))
      | false ↦ ap (λ rest. part ∷ rest) (all_of-groups_of parts)
    ]

-- a part ends a stretch of its own
with_whole : (part : Line) (groups : List (List Line)) → continues part.text ≡ false → are_stretches groups ≡ true
    → are_stretches ((part ∷ []) ∷ groups) ≡ true
with_whole part [] ends h = refl
with_whole part (group ∷ groups) ends h = and_from (not (continues part.text)) (are_stretches (group ∷ groups)) (ap not ends) h

-- a part is in front of a stretch
longer_stretch : (part : Line) (group : List Line) → continues part.text ≡ true → is_stretch group ≡ true → is_stretch (part ∷ group) ≡ true
longer_stretch part [] goes_on h = refl
longer_stretch part (next ∷ group) goes_on h = and_from (continues part.text) (is_stretch (next ∷ group)) goes_on h

same_end : (part : Line) (group : List Line) → ends_whole group ≡ true → ends_whole (part ∷ group) ≡ true
same_end part [] h = absurd (false≢true h)
same_end part (next ∷ group) h = h

with_part : (part : Line) (groups : List (List Line)) → continues part.text ≡ true → are_stretches groups ≡ true
    → are_stretches (onto_first part groups) ≡ true
with_part part [] goes_on h = refl
with_part part (group ∷ []) goes_on h = longer_stretch part group goes_on h
with_part part (group ∷ next ∷ groups) goes_on h =
    let both = and_parts (is_stretch group && ends_whole group) (are_stretches (next ∷ groups)) h in
    let first = and_parts (is_stretch group) (ends_whole group) both.0 in
    and_from (is_stretch (part ∷ group) && ends_whole (part ∷ group)) (are_stretches (next ∷ groups))
    (and_from (is_stretch (part ∷ group)) (ends_whole (part ∷ group)) (longer_stretch part group goes_on first.0)
    (same_end part group first.1))
    both.1

-- the groups are stretches
are_stretches-groups_of : (parts : List Line) → are_stretches (groups_of parts) ≡ true
are_stretches-groups_of [] = refl
are_stretches-groups_of (part ∷ parts) =
    elim (continues part.text) as (λ b. continues part.text ≡ b
    → are_stretches (cond (not b) ((part ∷ []) ∷ groups_of parts) (onto_first part (groups_of parts))) ≡ true) [
      | true ↦ λ e. with_part part (groups_of parts) e (are_stretches-groups_of parts)
      | false ↦ λ e. with_whole part (groups_of parts) e (are_stretches-groups_of parts)
    ]
    refl

group_more : (part : Line) (parts : List Line) → continues part.text ≡ true → groups_of (part ∷ parts) ≡ onto_first part (groups_of parts)
group_more part parts e =
    ap (λ b. cond (not b) ((part ∷ []) ∷ groups_of parts) (onto_first part (groups_of parts))) e

-- a stretch at the end of the file is one group
last_group : (stretch : List Line) → is_stretch stretch ≡ true → groups_of (stretch ++ []) ≡ stretch ∷ []
last_group [] h = absurd (false≢true h)
last_group (part ∷ []) h =
    elim (continues part.text) as (λ b. cond (not b) ((part ∷ []) ∷ []) ((part ∷ []) ∷ []) ≡ (part ∷ []) ∷ [])
    [ true ↦ refl | false ↦ refl ]
last_group (part ∷ next ∷ stretch) h =
    let both = and_parts (continues part.text) (is_stretch (next ∷ stretch)) h in
    group_more part ((next ∷ stretch) ++ []) both.0 ∙ ap (onto_first part) (last_group (next ∷ stretch) both.1)

-- a stretch that ends whole is one group
whole_group : (stretch rest : List Line) → is_stretch stretch ≡ true → ends_whole stretch ≡ true
    → groups_of (stretch ++ rest) ≡ stretch ∷ groups_of rest
whole_group [] rest h ends = absurd (false≢true h)
whole_group (part ∷ []) rest h ends =
    ap (λ b. cond b ((part ∷ []) ∷ groups_of rest) (onto_first part (groups_of rest))) ends
whole_group (part ∷ next ∷ stretch) rest h ends =
    let both = and_parts (continues part.text) (is_stretch (next ∷ stretch)) h in
    group_more part ((next ∷ stretch) ++ rest) both.0 ∙ ap (onto_first part) (whole_group (next ∷ stretch) rest both.1 ends)

-- there are no other stretches
groups_of-all_of : (stretches : List (List Line)) → are_stretches stretches ≡ true → groups_of (all_of stretches) ≡ stretches
groups_of-all_of [] h = refl
groups_of-all_of (stretch ∷ []) h = last_group stretch h
groups_of-all_of (stretch ∷ next ∷ stretches) h =
    let both = and_parts (is_stretch stretch && ends_whole stretch) (are_stretches (next ∷ stretches)) h in
    let first = and_parts (is_stretch stretch) (ends_whole stretch) both.0 in
    whole_group stretch (all_of (next ∷ stretches)) first.0 first.1
    ∙ ap (λ rest. stretch ∷ rest) (groups_of-all_of (next ∷ stretches) both.1)

-- the joined lines of a text are its stretches
pub joining : (text : List ℕ) (lines : List Line) → (joined_lines text ≡ lines) ↔ Joins text lines
joining text lines = (
  λ e. record {
    stretches = groups_of (file_parts text);
    well_formed = are_stretches-groups_of (file_parts text);
    all_parts = all_of-groups_of (file_parts text);
    made = sym e;
  },
  λ j. ap (λ parts. map line_of (groups_of parts)) j.all_parts ∙ ap (map line_of) (groups_of-all_of j.stretches j.well_formed) ∙ sym j.made,
)
