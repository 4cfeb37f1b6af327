-- `strip_prefix` returns the text after a prefix.
use Rattle.std.proofs.Common.{◌≡◌, ℕ, List, length, drop, true, false, cond, Option, Some, None, sym, ap, ◌∙◌, subst}
use Rattle.std.specs.Option.{MatchOption, option_map}
use Rattle.std.specs.Str.Pattern.{FindsTextPrefix, StripsPrefix}
use Rattle.std.proofs.lemmas.Str.Pattern.{starts_text}
use Rattle.std.specs.Str.{IsCharBoundary}
use denote.Ref.{Bor}
use Rattle.abs_path.specs.Prefix.{after}

pub strip_text : (p s : List ℕ) (r : Option (Bor (List ℕ))) → MatchOption r (FindsTextPrefix p s None)
    (λ x. StripsPrefix (FindsTextPrefix p) s x.now) → option_map (λ x. x.now) r ≡ after p s
strip_text p s None h = ap (λ b. cond b (Some (drop (length p) s)) None) (starts_text false p s h)
strip_text p s (Some x) h =
    ap Some (h.2 ∙ ap (λ n. drop n s) h.1.0)
    ∙ ap (λ b. cond b (Some (drop (length p) s)) None) (starts_text true p s (h.0, h.1, subst (λ k. IsCharBoundary s k) (sym h.1.0) h.1.2))
