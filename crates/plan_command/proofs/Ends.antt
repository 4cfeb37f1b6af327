-- Each line ends in a line feed.
use Rattle.std.proofs.Common.{inr, ℕ, codes}
use Rattle.std.specs.Fmt.{decimal}
use Rattle.unit_inputs.specs.abs_path.Paths.{text_of as path_text}
use Rattle.unit_inputs.specs.text_forms.Escaped.{escaped_word}
use Rattle.mount_plan.specs.kern_mounts.declared.step.MountStep.{MountStep}
use Rattle.unit_inputs.specs.command_answers.Lines.{IsOfLines}
use Rattle.unit_inputs.proofs.Lines.{ends_behind, ends_feed}
use Rattle.plan_command.specs.Lines.{count_line, mount_line, shown_words}

pub mount_ends : (step : MountStep) → IsOfLines (mount_line step)
mount_ends step = inr (ends_behind (codes "mount ") _ (ends_behind (escaped_word (path_text step.place)) _
    (ends_behind (shown_words step.what step.flags) _ ends_feed)))

pub count_ends : (count : ℕ) → IsOfLines (count_line count)
count_ends count = inr (ends_behind (codes "mounts ") _ (ends_behind (decimal count) _ ends_feed))
