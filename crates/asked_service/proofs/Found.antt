-- What is found of a folder is what the rules say.
use Rattle.std.proofs.Common.{◌≡◌, Bool, ap₂}
use Rattle.judge.specs.abs_path.Paths.{Path}
use Rattle.asked_service.specs.verdict_changes.ByRule.{blind_change}

pub turned_is : (first second was is : Bool) (folder : Path) → first ≡ was → second ≡ is
    → blind_change first second folder ≡ blind_change was is folder
turned_is first second was is folder one other = ap₂ (λ a b. blind_change a b folder) one other
