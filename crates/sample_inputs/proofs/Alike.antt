-- A unit that says a sample, in four cases; and a site, of which the users and groups are written out.
use Rattle.std.proofs.Common.{◌≡◌, ◌∙◌, ℕ, zero, suc, ◌<◌, ◌%◌, None, [], ◌∷◌, refl, ap, arith}
use Rattle.std.specs.Prelude.{◌+◌, ◌++◌, List, flat_map}
use Rattle.launcher.specs.dropin_merge.declared.resolved.Resolved.{Resolved}
use Rattle.launcher.specs.site_table.Table.{Site}
use Rattle.sample_inputs.specs.Facts.{HasSampleRows, SaysSample, folder, site_account_groups, site_accounts}
use Rattle.sample_inputs.specs.Unit.{unit_path, unit_said}
use Rattle.sample_inputs.specs.Site.{numbers_from}
use Rattle.sample_inputs.specs.sample_launch.Mentions.{folder_mentions_by, sample_mentions}
use Rattle.sample_inputs.proofs.SampleLaunchTurns.{same_said, same_turn}

abbrev pub unit_by : Resolved → ℕ → Resolved
unit_by unit m = record unit { files = record { path = unit_path; text = unit_said m } ∷ []; systemd = None }

abbrev pub site_by : Site → Site
site_by site = record site { users = site_accounts; groups = site_account_groups }

-- what holds of the four turns holds of each
pub below_four : (P : ℕ → Type 0) → P 0 → P 1 → P 2 → P 3 → (m : ℕ) → m < 4 → P m
below_four P a b c d zero h = a
below_four P a b c d (suc zero) h = b
below_four P a b c d (suc (suc zero)) h = c
below_four P a b c d (suc (suc (suc zero))) h = d
below_four P a b c d (suc (suc (suc (suc m)))) h = absurd (omega arith)

pub turn_below : (n : ℕ) → n % 4 < 4
turn_below n = omega arith

pub same_twice : (n : ℕ) → n % 4 ≡ n % 4 % 4
same_twice n = omega arith

-- each unit that says a sample is one of the four
pub unit_is : (n : ℕ) (unit : Resolved) → SaysSample n unit → unit ≡ unit_by unit (n % 4)
unit_is n unit says = ap (λ files. record unit { files = files }) says.files
    ∙ ap (λ said. record unit { files = record { path = unit_path; text = said } ∷ [] }) (same_said n (n % 4) (same_twice n))
    ∙ ap (λ systemd. record unit { files = record { path = unit_path; text = unit_said (n % 4) } ∷ []; systemd = systemd }) says.systemd

pub site_is : (site : Site) → HasSampleRows site → site ≡ site_by site
site_is site has = ap (λ users. record site { users = users }) has.users
    ∙ ap (λ groups. record site { users = site_accounts; groups = groups }) has.groups

module _ (n m : ℕ) (same : n % 4 ≡ m % 4) where
  same_of : (ks : List ℕ) → flat_map (λ k. folder_mentions_by ((k + n) % 4) (folder k)) ks
      ≡ flat_map (λ k. folder_mentions_by ((k + m) % 4) (folder k)) ks
  same_of [] = refl
  same_of (k ∷ ks) =
      ap (λ turn. folder_mentions_by turn (folder k) ++ flat_map (λ k. folder_mentions_by ((k + n) % 4) (folder k)) ks)
      (same_turn n m same k)
      ∙ ap (λ rest. folder_mentions_by ((k + m) % 4) (folder k) ++ rest) (same_of ks)

  pub same_mentions : sample_mentions n ≡ sample_mentions m
  same_mentions = same_of (numbers_from 0 16)
