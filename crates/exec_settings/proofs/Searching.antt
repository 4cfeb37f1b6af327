-- what is found in a folder is found among all folders, if nothing is found in those before it
use Rattle.std.proofs.Common.{◌≡◌, ◌∙◌, sym, ap, ℕ, suc, ◌<◌, Bool, Option, Some, None, List, [], length, drop, map, get_or, Bor, Result, Ok, Err, arith}
use Rattle.std.proofs.Math.Seq.{drop-cons}
use Rattle.std.specs.Prelude.{find, IfOk}
use Rattle.std.specs.List.{cons_option, filter_map}

found_first : {X : Type 0} (p : X → Bool) (o : Option X) (rest : List X) (x : X)
    → Some x ≡ find p (cons_option o []) → Some x ≡ find p (cons_option o rest)
found_first p None rest x e = grind (arith, e)
found_first p (Some y) rest x e = grind (arith, e)

pub found_in : {X : Type 0} (p : X → Bool) (f : List ℕ → Option X) (folders : List (Bor (List ℕ))) (i : ℕ) (d : Bor (List ℕ)) (x : X)
    → i < length folders
    → Some x ≡ find p (cons_option (f (get_or folders i d).now) [])
    → find p (filter_map f (map (λ folder. folder.now) (drop i folders))) ≡ find p (filter_map f (map (λ folder. folder.now) folders))
    → Some x ≡ find p (filter_map f (map (λ folder. folder.now) folders))
found_in p f folders i d x lt found same =
    found_first p (f (get_or folders i d).now) (filter_map f (map (λ folder. folder.now) (drop (suc i) folders))) x found
    ∙ sym (ap (λ l. find p (filter_map f (map (λ folder. folder.now) l))) (drop-cons folders i d lt))
    ∙ same

pub given : {X E : Type 0} (P : X → Type 0) (r : Result X E) (x : X) → r ≡ Ok x → IfOk r P → P x
given P (Ok y) x e holds = grind (arith, e, holds)
given P (Err y) x e holds = grind (arith, e)
