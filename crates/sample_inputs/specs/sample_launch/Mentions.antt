-- The mentions of a sample's unit (systemd.exec(5), Paths).
use Rattle.std.specs.Prelude.{ℕ, ◌+◌, ◌%◌, ◌==◌, false, cond, List, [], ◌∷◌, flat_map}
use Rattle.launcher.specs.abs_path.Paths.{Path}
use Rattle.launcher.specs.path_settings.declared.mentions.Kind.{Kind}
use Rattle.launcher.specs.path_settings.declared.mentions.Kind.TheVariants.{Ro, Hide, NoExec}
use Rattle.launcher.specs.path_settings.declared.mentions.Mention.{Mention}
use Rattle.sample_inputs.specs.Facts.{folder}
use Rattle.sample_inputs.specs.Site.{numbers_from}

abbrev pub says : Kind → Path → List Mention
says kind path = record { path = path; kind = kind; optional = false } ∷ []

-- of a folder, in four turns: it is read-only, hidden, without programs, and nothing is said
abbrev pub folder_mentions_by : ℕ → Path → List Mention
folder_mentions_by turn path = cond (turn == 0) (says Ro path) (cond (turn == 1) (says Hide path) (cond (turn == 2) (says NoExec path) []))

abbrev pub sample_mentions : ℕ → List Mention
sample_mentions n = flat_map (λ k. folder_mentions_by ((k + n) % 4) (folder k)) (numbers_from 0 16)
