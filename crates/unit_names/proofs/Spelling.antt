-- A text is read as a name exactly if it spells that name.
use Rattle.std.proofs.Common.{◌≡◌, ℕ, true, false, cond, eqb, ltb, leb, Option, Some, None, List, [], ◌∷◌, ◌++◌, length, refl, sym, ap, ◌∙◌}
use Rattle.std.proofs.Common.{append-nil}
use Rattle.std.specs.Prelude.{◌↔◌, not, codes, ◌&&◌}
use Rattle.std.specs.List.{list_all}
use Rattle.std.specs.Option.{option_and_then}
use Rattle.std.proofs.lemmas.Bool.{and_parts, and_from, eqb-true, true≢false}
use Rattle.std.proofs.lemmas.Option.{cond_some, option_and_then_some}
use Rattle.unit_names.specs.Names.{Name, Names, at_sign, is_prefix_byte, is_instance, is_filled_by, is_unit_name, behind_prefix, stem_of}
use Rattle.unit_names.specs.Names.{text_of}
use Rattle.unit_names.specs.Cutting.{before_end, cut_at, of_sides, of_stem, if_allowed, name_of}
use Rattle.unit_names.proofs.Endings.{before_end_whole, before_end-append}
use Rattle.unit_names.proofs.AtSigns.{cut_at_whole, cut_at_none, cut_at-append}

-- the parts spell the stem that they were cut from
stem_of_sides : (stem : List ℕ) (sides : Option (List ℕ × List ℕ)) → cut_at at_sign stem ≡ sides → stem ≡ stem_of (of_sides stem sides)
stem_of_sides stem None e = sym (append-nil stem)
stem_of_sides stem (Some sides) e = cut_at_whole at_sign stem sides e

pub stem_of-of_stem : (stem : List ℕ) → stem ≡ stem_of (of_stem stem)
stem_of-of_stem stem = stem_of_sides stem (cut_at at_sign stem) refl

pub spelled_by : (text stem : List ℕ) → before_end (codes ".service") text ≡ Some stem → text ≡ text_of (of_stem stem)
spelled_by text stem e = before_end_whole text (codes ".service") stem e ∙ ap (λ s. s ++ codes ".service") (stem_of-of_stem stem)

-- a prefix has no `@`
other_than_at : (byte : ℕ) → is_prefix_byte byte ≡ true → not (eqb byte at_sign) ≡ true
other_than_at byte h =
    elim (eqb byte at_sign) as (λ b. eqb byte at_sign ≡ b → not b ≡ true)
    [ true ↦ λ e. absurd (true≢false (sym h ∙ ap is_prefix_byte (eqb-true byte at_sign e))) | false ↦ λ e. refl ] refl

free_of_at : (text : List ℕ) → list_all is_prefix_byte text ≡ true → list_all (λ b. not (eqb b at_sign)) text ≡ true
free_of_at [] h = refl
free_of_at (byte ∷ text) h =
    let both = and_parts (is_prefix_byte byte) (list_all is_prefix_byte text) h in
    and_from (not (eqb byte at_sign)) (list_all (λ b. not (eqb b at_sign)) text) (other_than_at byte both.0) (free_of_at text both.1)

prefix_free : (name : Name) → is_unit_name name ≡ true → list_all (λ b. not (eqb b at_sign)) name.prefix ≡ true
prefix_free name h =
    let parts = and_parts (is_filled_by is_prefix_byte name.prefix && is_instance name.instance) (leb (length (text_of name)) 255) h in
    let both = and_parts (is_filled_by is_prefix_byte name.prefix) (is_instance name.instance) parts.0 in
    free_of_at name.prefix (and_parts (ltb 0 (length name.prefix)) (list_all is_prefix_byte name.prefix) both.0).1

of_stem_spelled : (prefix : List ℕ) (instance : Option (List ℕ)) → list_all (λ b. not (eqb b at_sign)) prefix ≡ true
    → of_stem (prefix ++ behind_prefix instance) ≡ record { prefix = prefix; instance = instance }
of_stem_spelled prefix None h =
    ap of_stem (append-nil prefix) ∙ ap (of_sides prefix) (cut_at_none at_sign prefix h)
of_stem_spelled prefix (Some instance) h =
    ap (of_sides (prefix ++ at_sign ∷ instance)) (cut_at-append at_sign prefix instance h)

names_from : (text : List ℕ) (name : Name) → name_of text ≡ Some name → Names text name
names_from text name e =
    option_and_then_some (λ stem. if_allowed (of_stem stem)) (before_end (codes ".service") text) name e
    (λ stem cut allowed.
    let both = cond_some (is_unit_name (of_stem stem)) (of_stem stem) name allowed in
    record {
      spelled = spelled_by text stem cut ∙ ap text_of both.1;
      allowed = ap is_unit_name (sym both.1) ∙ both.0;
    })

name_from : (text : List ℕ) (name : Name) → Names text name → name_of text ≡ Some name
name_from text name names =
    ap (option_and_then (λ stem. if_allowed (of_stem stem))) (before_end-append text (codes ".service") (stem_of name) names.spelled)
    ∙ ap if_allowed (of_stem_spelled name.prefix name.instance (prefix_free name names.allowed))
    ∙ ap (λ b. cond b (Some name) None) names.allowed

-- a text is read as the name that it spells
pub reading : (text : List ℕ) (name : Name) → (name_of text ≡ Some name) ↔ Names text name
reading text name = (names_from text name, name_from text name)
