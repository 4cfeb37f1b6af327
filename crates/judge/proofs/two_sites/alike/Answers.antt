use Rattle.judge.proofs.Noninterference.{blind_to_others}
use Rattle.ceilings.specs.launcher.Answers.{given_bytes}
use Rattle.judge.proofs.two_sites.alike.Goals as goal

pub returns : goal.returns
returns c = record {
  to_what_is_blind = λ settings plan last steps accepted are kept path planned mounts launches blind agree.
      blind_to_others c.args.folder.now c.args.unit.now c.args.calls.now c.args.site.now c.args.other.now settings plan
      (given_bytes c.args.programs.now) last steps
      (record {
        whole = c.look_at.ensures.whole;
        is_site = c.know_sites.ensures.site;
        accepted = accepted;
        settings = are;
        mentions = kept;
        program = path;
        planned = planned;
        mounts = mounts;
        launches = launches;
      })
      c.know_sites.ensures.other blind agree;
}
