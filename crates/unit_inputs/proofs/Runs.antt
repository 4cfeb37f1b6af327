-- A run is put together from its preparation and its printing, in the same way for all commands.
use Rattle.std.proofs.Common.{◌≡◌, ℕ, ◌≤◌, List, Result, Ok, Err, refl, sym, ap, subst, arith, inl, inr}
use Rattle.std.specs.Prelude.{IsTrue, IsErrOf}
use Rattle.exec_settings.specs.host_io.Causes.{Rose}
use Rattle.exec_settings.specs.host_io.declared.writing.SinkError.{SinkError}
use Rattle.exec_settings.specs.host_io.declared.writing.SinkError.TheVariants as sink
use Rattle.unit_inputs.specs.command_answers.ExitStatuses.{is_whole}
use Rattle.unit_inputs.specs.command_answers.Laws.{GoTogether, IsAdmitted, Laws}
use Rattle.unit_inputs.specs.command_answers.Printing.{Finishes, HasWriteCause, IsUntouched, PrintsText, PutsText, status_of_put}
use Rattle.unit_inputs.specs.command_answers.Runs.{IsRun, Outside, WrotePrefix}
use Rattle.unit_inputs.specs.command_answers.CommandErrors.{HasReadCause}
use Rattle.unit_inputs.specs.declared.command_answers.exit_status.ExitStatus.{ExitStatus}
use Rattle.unit_inputs.specs.declared.command_answers.exit_status.ExitStatus.TheVariants.{Refused, ReadFault, WriteFault, OutOfMemory}
use Rattle.unit_inputs.specs.declared.command_answers.error.CommandError.{CommandError}
use Rattle.unit_inputs.specs.declared.command_answers.error.CommandError.TheVariants as stop

-- a status after a whole text is no fault
not_whole : (status : ExitStatus) (kind : ExitStatus) → IsTrue (is_whole status) → status ≡ kind → IsTrue (is_whole kind)
not_whole status kind whole e = subst (λ k. IsTrue (is_whole k)) e whole

module _ (laws : Laws) (together : GoTogether laws) (outside : Outside) where
  -- the run printed a whole admitted text
  ran_whole : (status : ExitStatus) (text : List ℕ) → laws.admits status text
      → PutsText outside.sink.taken outside.sink.puts outside.sink.before outside.sink.after text (Ok tt)
      → outside.shelf_after ≡ outside.shelf_before → outside.sink.faults outside.sink.after ≡ outside.sink.faults outside.sink.before → IsRun laws status outside
  ran_whole status text admitted puts shelf put =
      let ends = together.ends status text admitted in
      let whole = together.whole status ends in
      record {
        prints_the_whole_text = λ w. (text, admitted, puts);
        prints_a_prefix = inr (status, text, Ok tt, admitted, puts);
        ends_by_the_inputs = record { whole = λ w. ends; failed_read = λ e. (let f = not_whole status ReadFault whole e in cc) };
        faults_have_causes = record {
          shelf_later = omega (arith, shelf);
          sink_later = omega (arith, put);
          read_fault = λ e. (let f = not_whole status ReadFault whole e in cc);
          nothing_written = λ e. (let f = not_whole status ReadFault whole e in cc);
          write_fault = λ e. (let f = not_whole status WriteFault whole e in cc);
          shelf_grew = λ lt. absurd (omega (arith, shelf, lt));
          sink_grew = λ lt. absurd (omega (arith, put, lt));
        };
        completes = λ accepted shelf_fault sink_fault. inl (together.answers accepted status ends);
      }

  -- a write failed
  ran_cut : WrotePrefix laws.admits outside.sink → outside.shelf_after ≡ outside.shelf_before
      → outside.sink.faults outside.sink.before ≤ outside.sink.faults outside.sink.after
      → Rose (outside.sink.faults outside.sink.before) (outside.sink.faults outside.sink.after)
      → IsRun laws WriteFault outside
  ran_cut prefix shelf later rose = record {
    prints_the_whole_text = λ w. cc;
    prints_a_prefix = prefix;
    ends_by_the_inputs = record { whole = λ w. cc; failed_read = λ e. cc };
    faults_have_causes = record {
      shelf_later = omega (arith, shelf);
      sink_later = later;
      read_fault = λ e. cc;
      nothing_written = λ e. cc;
      write_fault = λ e. rose;
      shelf_grew = λ lt. absurd (omega (arith, shelf, lt));
      sink_grew = λ lt. refl;
    };
    completes = λ accepted shelf_fault sink_fault. absurd (sink_fault rose);
  }

  -- memory ran out
  ran_out : WrotePrefix laws.admits outside.sink → outside.shelf_after ≡ outside.shelf_before
      → outside.sink.faults outside.sink.after ≡ outside.sink.faults outside.sink.before → IsRun laws OutOfMemory outside
  ran_out prefix shelf put = record {
    prints_the_whole_text = λ w. cc;
    prints_a_prefix = prefix;
    ends_by_the_inputs = record { whole = λ w. cc; failed_read = λ e. cc };
    faults_have_causes = record {
      shelf_later = omega (arith, shelf);
      sink_later = omega (arith, put);
      read_fault = λ e. cc;
      nothing_written = λ e. cc;
      write_fault = λ e. cc;
      shelf_grew = λ lt. absurd (omega (arith, shelf, lt));
      sink_grew = λ lt. absurd (omega (arith, put, lt));
    };
    completes = λ accepted shelf_fault sink_fault. inr refl;
  }

  -- a read failed
  ran_unread : laws.reads → IsUntouched outside.sink → outside.shelf_before ≤ outside.shelf_after
      → Rose outside.shelf_before outside.shelf_after → IsRun laws ReadFault outside
  ran_unread reads untouched later rose = record {
    prints_the_whole_text = λ w. cc;
    prints_a_prefix = inl untouched;
    ends_by_the_inputs = record { whole = λ w. cc; failed_read = λ e. reads };
    faults_have_causes = record {
      shelf_later = later;
      sink_later = omega (arith, ap outside.sink.faults untouched);
      read_fault = λ e. rose;
      nothing_written = λ e. untouched;
      write_fault = λ e. cc;
      shelf_grew = λ lt. refl;
      sink_grew = λ lt. absurd (omega (arith, ap outside.sink.faults untouched, lt));
    };
    completes = λ accepted shelf_fault sink_fault. absurd (shelf_fault rose);
  }

  -- the run has its laws after the put of its text
  ran_by_put : (status : ExitStatus) (text : List ℕ) (put : Result (Unit {0}) SinkError) → laws.admits status text
      → PutsText outside.sink.taken outside.sink.puts outside.sink.before outside.sink.after text put → outside.shelf_after ≡ outside.shelf_before
      → HasWriteCause (outside.sink.faults outside.sink.before) (outside.sink.faults outside.sink.after) put
      → IsRun laws (status_of_put put status) outside
  ran_by_put status text (Ok u) admitted takes shelf cause = ran_whole status text admitted takes shelf cause.no_other_fault
  ran_by_put status text (Err sink.Failed) admitted takes shelf cause =
      ran_cut (inr (status, text, Err sink.Failed, admitted, takes)) shelf cause.later (cause.failed refl)
  ran_by_put status text (Err sink.Memory) admitted takes shelf cause =
      ran_out (inr (status, text, Err sink.Memory, admitted, takes)) shelf (cause.no_other_fault (λ e. cc))

  ran_text : (status : ExitStatus) (text : List ℕ) (ended : ExitStatus) → laws.admits status text → PrintsText status text ended outside.sink
      → outside.shelf_after ≡ outside.shelf_before → IsRun laws ended outside
  ran_text status text ended admitted printed shelf =
      subst (λ e. IsRun laws e outside) (sym printed.ends)
      (ran_by_put status text printed.put admitted printed.puts_the_text shelf printed.cause)

  -- a command that is prepared and then finished runs by its laws
  pub ran : {R : Type 0} (behind : R → ExitStatus) (text : R → List ℕ) (prepared : Result R CommandError) (ended : ExitStatus)
      → IsAdmitted laws behind text prepared → (IsErrOf prepared stop.ReadFault → laws.reads)
      → HasReadCause outside.shelf_before outside.shelf_after prepared → Finishes behind text prepared ended outside.sink
      → IsRun laws ended outside
  ran behind text (Ok ready) ended admitted reads cause finished =
      ran_text (behind ready) (text ready) ended admitted finished cause.no_other_fault
  ran behind text (Err (stop.Refused line)) ended admitted reads cause finished =
      ran_text Refused line.items ended admitted finished (cause.no_other_fault (λ e. cc))
  ran behind text (Err stop.ReadFault) ended admitted reads cause finished =
      subst (λ e. IsRun laws e outside) (sym finished.0) (ran_unread (reads refl) finished.1 cause.later (cause.failed refl))
  ran behind text (Err stop.Memory) ended admitted reads cause finished =
      subst (λ e. IsRun laws e outside) (sym finished.0)
      (ran_out (inl finished.1) (cause.no_other_fault (λ e. cc)) (ap outside.sink.faults finished.1))
