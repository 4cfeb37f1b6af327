-- Paths that a call can name: a short place and a short rest behind it.
use Rattle.std.proofs.Common.{◌≡◌, ◌≤◌, true, ◌++◌, ap, length, arith}
use Rattle.kernel_laws.specs.abs_path.Paths.{Path, tail_of, text_of, is_normal}
use Rattle.kernel_laws.specs.kernel_model.kernel_calls.Calls.{IsPath}
use Rattle.kernel_laws.proofs.Exposed.{normal_append, normal_rest, tail_append, text_length, tail_length}

-- of two paths of at most 250 bytes, the one behind the other
pub named_both : (place rest : Path) → is_normal place ≡ true → length (text_of place) ≤ 250 → is_normal rest ≡ true
    → length (tail_of rest) ≤ 250 → IsPath (place ++ rest)
named_both place rest n s m t = record {
  normal = normal_append place rest n m;
  short = omega (arith, text_length (place ++ rest), tail_append place rest, tail_length place);
}

-- what such a path has behind a front is normal and as short
pub rest_short : (front rest path : Path) → path ≡ front ++ rest → is_normal path ≡ true → length (text_of path) ≤ 250
    → (is_normal rest ≡ true) × (length (tail_of rest) ≤ 250)
rest_short front rest path e n s =
    let length_is : length (tail_of path) ≡ length (tail_of (front ++ rest)) = ap (λ (p : Path). length (tail_of p)) e in
    (normal_rest front rest (rw e at n), omega (arith, tail_length path, tail_append front rest, length_is))
