use Rattle.std.proofs.Common.{ℕ, List, length, subst, ◌≤◌}
use Rattle.kernel_rows.proofs.alike.elsewhere.know_alike.Goals as goal

pub returns : goal.returns
returns c = record {
  whichever_programs = λ last steps launches blind agree.
      c.alike.ensures.to_what_is_blind c.args.settings.now c.args.plan.now last steps c.requires.accepted c.requires.settings
      c.know_mentions.ensures.kept
      (record { normal = c.text-program.ensures.normal; short = subst (λ (text : List ℕ). length text ≤ 512) c.text-program.ensures.whole c.text-program.ensures.short })
      c.requires.plan c.requires.mounts launches blind agree;
}
