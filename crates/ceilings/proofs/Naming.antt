-- In a table of calls each name is given once in an ABI: a search by the name of a line finds that line or none.
use Rattle.std.proofs.Common.{◌≡◌, ◌<◌, ◌∙◌, ℕ, zero, suc, Bool, true, false, List, [], ◌∷◌, Option, Some, None, refl, cond, ap, sym, subst}
use Rattle.std.proofs.Common.{length, arith}
use Rattle.std.specs.Prelude.{find, slice_get, ◌&&◌}
use Rattle.std.specs.Option.{option_or}
use Rattle.std.specs.Str.{bytes_eq}
use Rattle.kernel_ways.proofs.OfAbsPath.Prefixes.{same_part, part_itself}
use Rattle.kernel_ways.proofs.OfCallTable.AllCalls.{front_call}
use Rattle.kernel_ways.specs.call_table.Lookups.{AreOnce, place_named}
use Rattle.kernel_ways.specs.call_table.Table.{Table, calls_in, every_call}
use Rattle.kernel_ways.specs.call_table.declared.listed.CallLine.{CallLine}
use Rattle.ceilings.proofs.AllCalls.{found_in_all}

module _ (q p : CallLine → Bool) where
  none_there : (lines : List CallLine) → ((at : ℕ) (other : CallLine) → slice_get lines at ≡ Some other → q other ≡ false)
      → find (λ other. q other && p other) lines ≡ None
  none_there [] h = refl
  none_there (first ∷ lines) h =
      ap (λ b. cond (b && p first) (Some first) (find (λ other. q other && p other) lines)) (h zero first refl)
      ∙ none_there lines (λ at other e. h (suc at) other e)

  only_there : (lines : List CallLine) (at : ℕ) (line : CallLine) → slice_get lines at ≡ Some line → q line ≡ true
      → ((place : ℕ) (other : CallLine) → slice_get lines place ≡ Some other → q other ≡ true → place ≡ at)
      → find (λ other. q other && p other) lines ≡ cond (p line) (Some line) None
  only_there [] at line e is once = cc
  only_there (first ∷ lines) zero line e is once =
      let same : first ≡ line = cc in
      ap (λ (o : Option CallLine). cond (q first && p first) (Some first) o) (none_there lines (λ at other f. by at other f (q other) refl))
      ∙ ap (λ (own : CallLine). cond (q own && p own) (Some own) None) same
      ∙ ap (λ b. cond (b && p line) (Some line) None) is
    where
      by : (at : ℕ) (other : CallLine) → slice_get lines at ≡ Some other → (b : Bool) → q other ≡ b → b ≡ false
      by at other f true t = absurd (let never = once (suc at) other f t in omega (arith, never))
      by at other f false t = refl
  only_there (first ∷ lines) (suc at) line e is once =
      ap (λ b. cond (b && p first) (Some first) (find (λ other. q other && p other) lines)) (by (q first) refl)
      ∙ only_there lines at line e is (λ place other f t. let n = once (suc place) other f t in omega (arith, n))
    where
      by : (b : Bool) → q first ≡ b → b ≡ false
      by true t = absurd (let never = once zero first refl t in omega (arith, never))
      by false t = refl

-- of the lines of one ABI only the line itself has its name
own_line : (p : CallLine → Bool) (lines : List CallLine) (at : ℕ) (line : CallLine) → AreOnce lines → slice_get lines at ≡ Some line
    → find (λ other. bytes_eq line.name other.name && p other) lines ≡ cond (p line) (Some line) None
own_line p lines at line once e = only_there (λ other. bytes_eq line.name other.name) p lines at line e
    (part_itself line.name line.name refl) one
  where
    one : (place : ℕ) (other : CallLine) → slice_get lines place ≡ Some other → bytes_eq line.name other.name ≡ true → place ≡ at
    one place other f t =
        let there : place_named line.name lines ≡ Some place = ap (λ name. place_named name lines) (same_part line.name other.name t) ∙ once.by_name place other f in
        let here : place_named line.name lines ≡ Some at = once.by_name at line e in
        let same : ◌≡◌ {A = Option ℕ} (Some place) (Some at) = sym there ∙ here in cc

-- the lines are those of the native ABI
module _ (p : CallLine → Bool) (table all : Table) (told : table ≡ all) (lines : List CallLine) (listed : lines ≡ table.calls) (at : ℕ)
    (line : CallLine)
    (once : AreOnce table.calls) (native : at < length lines) (is : slice_get (every_call all) at ≡ Some line) where
  abbrev own : CallLine → Bool
  own other = bytes_eq line.name other.name && p other

  inside : at < length all.calls
  inside = subst (λ (ls : List CallLine). at < length ls) (listed ∙ ap (λ (t : Table). t.calls) told) native

  native_first : find own (every_call all) ≡ option_or (cond (p line) (Some line) None) (find own (calls_in all 1))
  native_first =
      found_in_all own all
      ∙ ap (λ (o : Option CallLine). option_or o (find own (calls_in all 1)))
      (own_line p all.calls at line (subst (λ (t : Table). AreOnce t.calls) told once) (sym (front_call all at inside) ∙ is))

  -- where it passes it is found, and else what the other ABI has
  pub itself_found : p line ≡ true → Some line ≡ find own (every_call all)
  itself_found passes = sym (native_first ∙ ap (λ b. option_or (cond b (Some line) None) (find own (calls_in all 1))) passes)

  pub other_found : p line ≡ false → find own (calls_in all 1) ≡ find own (every_call all)
  other_found fails = sym (native_first ∙ ap (λ b. option_or (cond b (Some line) None) (find own (calls_in all 1))) fails)
