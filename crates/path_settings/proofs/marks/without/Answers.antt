use Rattle.std.proofs.Common.{◌≡◌, ◌∙◌, ap, refl, ℕ, List, Option, Some, None, unwrap_or, Bor}
use Rattle.std.specs.Option.{option_map}
use Rattle.abs_path.proofs.Stripped.{strip_text}
use Rattle.path_settings.proofs.marks.without.Goals as goal

read_or : (rest : Option (Bor (List ℕ))) (word : Bor (List ℕ))
    → (unwrap_or rest word).now ≡ unwrap_or (option_map (λ text. text.now) rest) word.now
read_or None word = refl
read_or (Some text) word = refl

pub returns : goal.returns
returns c = ap (λ text. text.now) c.unwrap_or.ensures ∙ read_or c.strip_prefix.result c.args.word
    ∙ ap (λ rest. unwrap_or rest c.args.word.now)
    (strip_text c.args.front.now c.args.word.now c.strip_prefix.result c.strip_prefix.ensures.cases)
