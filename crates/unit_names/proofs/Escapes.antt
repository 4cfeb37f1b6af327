-- An escaped text has a plain text exactly if it consists of pieces.
use Rattle.std.proofs.Common.{◌≡◌, ℕ, ◌+◌, ◌*◌, Bool, true, false, cond, eqb, Option, Some, None, List, [], ◌∷◌, map, refl, sym, ap, ◌∙◌}
use Rattle.std.proofs.Common.{subst}
use Rattle.std.specs.Prelude.{◌↔◌, not, ◌&&◌, flat_map}
use Rattle.std.specs.Char.{is_ascii_hexdigit, digit_value}
use Rattle.std.proofs.lemmas.Bool.{and_parts, and_from, not-true, eqb-true}
use Rattle.std.proofs.lemmas.Option.{none-some, same_Some}
use Rattle.unit_names.specs.Unescaping.{dash, slash, backslash, letter_x, Part, dashed, coded, other, part_text, part_byte, begins_with}
use Rattle.unit_names.specs.Unescaping.{is_other, are_parts, Unescapes, onto, hex_byte, plain_byte, is_escape, unescaped}

-- whether a byte before a text begins an escape
abbrev escapes : ℕ → List ℕ → Bool
escapes byte text = eqb byte backslash && begins_with letter_x text

-- a byte that begins no escape means itself or a slash
unescaped_plain : (byte : ℕ) (text : List ℕ) → escapes byte text ≡ false
    → unescaped (byte ∷ text) ≡ onto (Some (plain_byte byte)) (unescaped text)
unescaped_plain a [] e = refl
unescaped_plain a (b ∷ []) e = ap (λ v. cond v None (onto (Some (plain_byte a)) (unescaped (b ∷ [])))) e
unescaped_plain a (b ∷ c ∷ []) e = ap (λ v. cond v None (onto (Some (plain_byte a)) (unescaped (b ∷ c ∷ [])))) e
unescaped_plain a (b ∷ c ∷ d ∷ text) e =
    ap (λ v. cond v (onto (hex_byte c d) (unescaped text)) (onto (Some (plain_byte a)) (unescaped (b ∷ c ∷ d ∷ text)))) e

-- the text of pieces unescapes to their bytes
parts_stand : (parts : List Part) → are_parts parts ≡ true → unescaped (flat_map part_text parts) ≡ Some (map part_byte parts)
parts_stand [] h = refl
parts_stand (dashed ∷ parts) h =
    unescaped_plain dash (flat_map part_text parts) refl ∙ ap (onto (Some slash)) (parts_stand parts h)
parts_stand (coded high low ∷ parts) h =
    let both = and_parts (is_ascii_hexdigit high && is_ascii_hexdigit low) (are_parts parts) h in
    ap (λ v. onto (cond v (Some (16 * digit_value high + digit_value low)) None) (unescaped (flat_map part_text parts))) both.0
    ∙ ap (onto (Some (16 * digit_value high + digit_value low))) (parts_stand parts both.1)
parts_stand (other byte ∷ parts) h =
    let both = and_parts (is_other byte (flat_map part_text parts)) (are_parts parts) h in
    let tests = and_parts (not (eqb byte dash)) (not (escapes byte (flat_map part_text parts))) both.0 in
    unescaped_plain byte (flat_map part_text parts) (not-true (escapes byte (flat_map part_text parts)) tests.1)
    ∙ ap (λ v. onto (Some (cond v slash byte)) (unescaped (flat_map part_text parts))) (not-true (eqb byte dash) tests.0)
    ∙ ap (onto (Some byte)) (parts_stand parts both.1)

-- an escaped text may have one more piece in front
with_coded : (high low : ℕ) (text plain : List ℕ) → (is_ascii_hexdigit high && is_ascii_hexdigit low) ≡ true → Unescapes text plain
    → Unescapes (backslash ∷ letter_x ∷ high ∷ low ∷ text) ((16 * digit_value high + digit_value low) ∷ plain)
with_coded high low text plain digits u = record {
  parts = coded high low ∷ u.parts;
  well_formed = and_from (is_ascii_hexdigit high && is_ascii_hexdigit low) (are_parts u.parts) digits u.well_formed;
  spelled = ap (λ rest. backslash ∷ letter_x ∷ high ∷ low ∷ rest) u.spelled;
  meant = ap (λ rest. (16 * digit_value high + digit_value low) ∷ rest) u.meant;
}

with_dash : (text plain : List ℕ) → Unescapes text plain → Unescapes (dash ∷ text) (slash ∷ plain)
with_dash text plain u = record {
  parts = dashed ∷ u.parts;
  well_formed = u.well_formed;
  spelled = ap (λ rest. dash ∷ rest) u.spelled;
  meant = ap (λ rest. slash ∷ rest) u.meant;
}

with_other : (byte : ℕ) (text plain : List ℕ) → eqb byte dash ≡ false → escapes byte text ≡ false → Unescapes text plain
    → Unescapes (byte ∷ text) (byte ∷ plain)
with_other byte text plain apart begins u = record {
  parts = other byte ∷ u.parts;
  well_formed =
      and_from (is_other byte (flat_map part_text u.parts)) (are_parts u.parts)
      (and_from (not (eqb byte dash)) (not (escapes byte (flat_map part_text u.parts))) (ap not apart)
      (ap not (ap (escapes byte) (sym u.spelled) ∙ begins)))
      u.well_formed;
  spelled = ap (λ rest. byte ∷ rest) u.spelled;
  meant = ap (λ rest. byte ∷ rest) u.meant;
}

with_plain : (byte : ℕ) (text plain : List ℕ) → escapes byte text ≡ false → Unescapes text plain
    → Unescapes (byte ∷ text) (plain_byte byte ∷ plain)
with_plain byte text plain begins u =
    elim (eqb byte dash) as (λ v. eqb byte dash ≡ v → Unescapes (byte ∷ text) (cond v slash byte ∷ plain)) [
      | true ↦ λ e. subst (λ b. Unescapes (b ∷ text) (slash ∷ plain)) (sym (eqb-true byte dash e)) (with_dash text plain u)
      | false ↦ λ e. with_other byte text plain e begins u
    ]
    refl

-- a text that consists of pieces does so with one more byte in front
after_plain : (byte : ℕ) (text plain : List ℕ) (rest : Option (List ℕ)) → escapes byte text ≡ false
    → ((more : List ℕ) → rest ≡ Some more → Unescapes text more) → onto (Some (plain_byte byte)) rest ≡ Some plain
    → Unescapes (byte ∷ text) plain
after_plain byte text plain None begins known e = absurd (none-some plain e)
after_plain byte text plain (Some more) begins known e =
    subst (Unescapes (byte ∷ text)) (same_Some (plain_byte byte ∷ more) plain e) (with_plain byte text more begins (known more refl))

after_code : (high low : ℕ) (text plain : List ℕ) (rest : Option (List ℕ)) → ((more : List ℕ) → rest ≡ Some more → Unescapes text more)
    → onto (hex_byte high low) rest ≡ Some plain → Unescapes (backslash ∷ letter_x ∷ high ∷ low ∷ text) plain
after_code high low text plain rest known e =
    elim (is_ascii_hexdigit high && is_ascii_hexdigit low) as
    (λ v. (is_ascii_hexdigit high && is_ascii_hexdigit low) ≡ v
    → onto (cond v (Some (16 * digit_value high + digit_value low)) None) rest ≡ Some plain
    → Unescapes (backslash ∷ letter_x ∷ high ∷ low ∷ text) plain)
    [ true ↦ λ digits e. with_rest rest known digits e | false ↦ λ digits e. absurd (none-some plain e) ] refl e
  where
    with_rest : (rest : Option (List ℕ)) → ((more : List ℕ) → rest ≡ Some more → Unescapes text more)
        → (is_ascii_hexdigit high && is_ascii_hexdigit low) ≡ true
        → onto (Some (16 * digit_value high + digit_value low)) rest ≡ Some plain
        → Unescapes (backslash ∷ letter_x ∷ high ∷ low ∷ text) plain
    with_rest None known digits e = absurd (none-some plain e)
    with_rest (Some more) known digits e =
        subst (Unescapes (backslash ∷ letter_x ∷ high ∷ low ∷ text))
        (same_Some ((16 * digit_value high + digit_value low) ∷ more) plain e) (with_coded high low text more digits (known more refl))

nothing_follows : (byte : ℕ) → escapes byte [] ≡ false
nothing_follows byte = elim (eqb byte backslash) as (λ v. (v && false) ≡ false) [ true ↦ refl | false ↦ refl ]

at_two : (a b : ℕ) (text plain : List ℕ) (code : Option (List ℕ))
    → ((more : List ℕ) → unescaped (b ∷ text) ≡ Some more → Unescapes (b ∷ text) more)
    → (code ≡ Some plain → Unescapes (backslash ∷ letter_x ∷ text) plain)
    → cond (is_escape a b) code (onto (Some (plain_byte a)) (unescaped (b ∷ text))) ≡ Some plain → Unescapes (a ∷ b ∷ text) plain
at_two a b text plain code known coded_so e =
    elim (is_escape a b) as (λ v. is_escape a b ≡ v → cond v code (onto (Some (plain_byte a)) (unescaped (b ∷ text))) ≡ Some plain
    → Unescapes (a ∷ b ∷ text) plain) [
      | true ↦ λ begins e.
          let both = and_parts (eqb a backslash) (eqb b letter_x) begins in
          subst (λ x. Unescapes (x ∷ b ∷ text) plain) (sym (eqb-true a backslash both.0))
          (subst (λ y. Unescapes (backslash ∷ y ∷ text) plain) (sym (eqb-true b letter_x both.1)) (coded_so e))
      | false ↦ λ begins e. after_plain a (b ∷ text) plain (unescaped (b ∷ text)) begins known e
    ]
    refl e

parts_found : (text plain : List ℕ) → unescaped text ≡ Some plain → Unescapes text plain
parts_found [] plain e = record { parts = []; well_formed = refl; spelled = refl; meant = sym (same_Some [] plain e) }
parts_found (a ∷ []) plain e =
    after_plain a [] plain (Some []) (nothing_follows a) (λ more f. parts_found [] more f) e
parts_found (a ∷ b ∷ []) plain e = at_two a b [] plain None (λ more f. parts_found (b ∷ []) more f) (λ f. absurd (none-some plain f)) e
parts_found (a ∷ b ∷ c ∷ []) plain e = at_two a b (c ∷ []) plain None (λ more f. parts_found (b ∷ c ∷ []) more f)
    (λ f. absurd (none-some plain f)) e
parts_found (a ∷ b ∷ c ∷ d ∷ text) plain e =
    at_two a b (c ∷ d ∷ text) plain (onto (hex_byte c d) (unescaped text)) (λ more f. parts_found (b ∷ c ∷ d ∷ text) more f)
    (λ f. after_code c d text plain (unescaped text) (λ more g. parts_found text more g) f) e

-- an escaped text has a plain text exactly if its pieces have it
pub unescaping : (text plain : List ℕ) → (unescaped text ≡ Some plain) ↔ Unescapes text plain
unescaping text plain =
    (parts_found text plain, λ u. ap unescaped u.spelled ∙ parts_stand u.parts u.well_formed ∙ ap Some (sym u.meant))
