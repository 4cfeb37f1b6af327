-- Calls that name a path, and what they come to.
use Rattle.std.proofs.Common.{◌≡◌, ℕ, Bool, true, false, List, Option, Some, Result, Ok, Err, refl, ap, ◌∙◌, sym, cond, arith, ◌<◌}
use Rattle.std.specs.Prelude.{◌^◌, ◌&&◌, not}
use Rattle.launcher.specs.abs_path.Paths.{Path}
use Rattle.launcher.specs.linux_numbers.Errnos.{eacces, eisdir, erofs, eperm}
use Rattle.launcher.specs.call_table.declared.call_names.rule.Argument.TheVariants as argument
use Rattle.launcher.specs.call_table.declared.call_names.rule.CallRule.TheVariants as known
use Rattle.launcher.specs.site_table.declared.row.Row.{Row}
use Rattle.launcher.specs.site_table.Kinds.{is_dev, is_dir, is_exe}
use Rattle.launcher.specs.site_table.Table.{row_at}
use Rattle.launcher.specs.kern_creds.declared.creds.Creds.{Creds}
use Rattle.launcher.specs.kern_creds.Exec.{exec_done, is_refused}
use Rattle.launcher.specs.kern_mounts.Finds.{row, finds}
use Rattle.launcher.specs.kern_mounts.Split.{Table}
use Rattle.launcher.specs.kern_mounts.declared.step.Flags.{Flags}
use Rattle.launcher.specs.kernel_model.kern_files.Executing.{marks_of, executed, exec_answer}
use Rattle.launcher.specs.kernel_model.kern_files.Looking.{flags_at, see_answer, write_answer}
use Rattle.launcher.specs.kernel_model.kernel_calls.Calls.{IsPath}
use Rattle.launcher.specs.kernel_model.kernel_calls.Operation as d
use Rattle.launcher.specs.kernel_model.kernel_calls.Operation.{Operation}
use Rattle.launcher.specs.kernel_model.kernel_calls.Rules.{rule_at}
use Rattle.launcher.specs.kernel_model.declared.kernel_calls.call.Call.{Call}
use Rattle.launcher.specs.kernel_model.declared.kernel_calls.payload.Payload.TheVariants as pay
use Rattle.launcher.specs.kernel_model.declared.kernel_calls.rule.Rule.{Rule}
use Rattle.launcher.specs.kernel_model.declared.kernel_calls.rule.Rule.TheVariants as rule
use Rattle.launcher.specs.kernel_model.Effects as f
use Rattle.launcher.specs.kernel_model.Effects.{Effect, SetCreds, looks, creds_effect, effect_of}
use Rattle.launcher.specs.kernel_laws.Denied.{path_for}
use Rattle.launcher.specs.kernel_laws.Kinds.{AreWords, asks_created_mode, no_words, one_word, path_payload}
use Rattle.launcher.specs.kernel_laws.Launched.{Launch, passes}
use Rattle.launcher.specs.kernel_laws.declared.question_types.wish.Wish.{Wish}
use Rattle.launcher.specs.kernel_laws.declared.question_types.wish.Wish.TheVariants.{See as ToSee, Read as ToRead, Write as ToWrite}
use Rattle.launcher.specs.kernel_laws.declared.question_types.wish.Wish.TheVariants.{Exec as ToExec}
use Rattle.launcher.specs.kernel_laws.declared.question_types.kind.CallKind.TheVariants as k
use Rattle.launcher.specs.kernel_laws.Reach.{fits, mount_wish}
use Rattle.kernel_ways.specs.Ways.{effect_on, Makes, host_at, caller_at, place_of, CallAt, IsCallAt, rule_there, passes_at}
use Rattle.kernel_ways.proofs.Choices as choices
use Rattle.kernel_ways.proofs.Lines.{Line, choice_of, make, six, zeros, first_by}
use Rattle.kernel_ways.specs.Showing.{IsDoable}

-- what a mount must allow for writing: nothing for a device
fits_write : (device : Bool) (flags : Flags) → fits (cond device ToRead ToWrite) flags ≡ cond device true (not flags.read_only)
fits_write true flags = refl
fits_write false flags = refl

module _ (launch : Launch) (creds : Creds) (table : Table) where
  -- a call by this path, that is done
  pub record PathCall (wish : Wish) (path : Path) (call : Call) : Type 0 where
    pub operation : Operation
    pub effect : Effect
    pub makes : Makes launch creds table operation call effect
    pub doable : IsDoable effect
    pub wanted : path_for wish operation ≡ Some path

  -- a call that is done and asks for such a thing
  pub record Performed (p : Operation → Bool) (call : Call) : Type 0 where
    pub operation : Operation
    pub effect : Effect
    pub makes : Makes launch creds table operation call effect
    pub doable : IsDoable effect
    pub such : p operation ≡ true

  abbrev rows : Path → Option Row
  rows = row_at launch.site.rows

  module _ (path : Path) (fit : IsPath path) (target : Row) (found : finds rows table path ≡ row target) where
    pub seen : (value : ℕ) → looks (see_answer value (finds rows table path)) ≡ f.Answer value
    seen value = ap (λ x. looks (see_answer value x)) found

    -- a call by the path alone that changes nothing
    by_path : (nr : CallAt) (own : Rule) (args : List ℕ) (operation : Operation) (value : ℕ) (wish : Wish) → IsCallAt nr → AreWords args
        → rule_there launch nr ≡ Some own → passes_at launch nr args
        → d.operation_by own args (pay.OnePath path) ≡ Some operation → path_for wish operation ≡ Some path
        → effect_on (host_at launch) (caller_at launch creds table) table operation ≡ f.Answer value
        → PathCall wish path (first_by nr args (pay.OnePath path))
    by_path nr own args operation value wish n w at t is wanted e = record {
      operation = operation;
      effect = f.Answer value;
      makes = make launch creds table nr own args (pay.OnePath path) operation (f.Answer value) n w fit at is t e;
      doable = tt;
      wanted = wanted;
    }

    -- the same by openat2(2), which carries the flags
    by_how : (nr : CallAt) (flags value : ℕ) (wish : Wish) → IsCallAt nr → flags < 2 ^ 32
        → rule_there launch nr ≡ Some (rule.Known known.Openat2) → passes_at launch nr no_words
        → path_for wish (d.Open flags 0 path) ≡ Some path
        → effect_on (host_at launch) (caller_at launch creds table) table (d.Open flags 0 path) ≡ f.Answer value
        → PathCall wish path (first_by nr no_words (pay.PathFlags path flags))
    by_how nr flags value wish n small at t wanted e = record {
      operation = d.Open flags 0 path;
      effect = f.Answer value;
      makes = make launch creds table nr (rule.Known known.Openat2) no_words (pay.PathFlags path flags) (d.Open flags 0 path)
          (f.Answer value) n zeros (fit, small) at refl t e;
      doable = tt;
      wanted = wanted;
    }

    see_by : {own : Rule} {args : List ℕ} → (nr : CallAt) → IsCallAt nr → rule_there launch nr ≡ Some own → passes_at launch nr args
        → choices.Choice (k.ForPath ToSee) own args → PathCall ToSee path (first_by nr args (pay.OnePath path))
    see_by nr n at t choices.sees = by_path nr (rule.Known known.See) no_words (d.See path) 0 ToSee n zeros at t refl refl (seen 0)

    pub see_path : (line : Line launch (k.ForPath ToSee)) → PathCall ToSee path (first_by (place_of line.line) line.args (pay.OnePath path))
    see_path line = see_by (place_of line.line) line.number line.at line.through (choice_of line)

    read_by : {own : Rule} {args : List ℕ} → (nr : CallAt) → IsCallAt nr → rule_there launch nr ≡ Some own → passes_at launch nr args
        → choices.Choice (k.ForPath ToRead) own args → PathCall ToRead path (first_by nr args (path_payload ToRead own path))
    read_by nr n at t (choices.reads argument.Second) = by_path nr (rule.Known (known.Open argument.Second)) no_words
        (d.Open 0 0 path) 3 ToRead n zeros at t refl refl (seen 3)
    read_by nr n at t (choices.reads argument.Third) = by_path nr (rule.Known (known.Open argument.Third)) no_words
        (d.Open 0 0 path) 3 ToRead n zeros at t refl refl (seen 3)
    read_by nr n at t (choices.reads_with argument.Second) = by_path nr (rule.Known (known.OpenWith argument.Second)) no_words
        (d.Open 0 0 path) 3 ToRead n zeros at t refl refl (seen 3)
    read_by nr n at t (choices.reads_with argument.Third) = by_path nr (rule.Known (known.OpenWith argument.Third)) no_words
        (d.Open 0 0 path) 3 ToRead n zeros at t refl refl (seen 3)
    read_by nr n at t choices.reads_how = by_how nr 0 3 ToRead n (omega arith) at t refl (seen 3)

    pub read_path : (line : Line launch (k.ForPath ToRead)) → PathCall ToRead path
        (first_by (place_of line.line) line.args (path_payload ToRead line.own path))
    read_path line = read_by (place_of line.line) line.number line.at line.through (choice_of line)

    module _ (file : is_dir target.kind ≡ false) (writes : fits (mount_wish target.kind ToWrite) (flags_at table path) ≡ true) where
      pub written : (value : ℕ) → looks (write_answer value (flags_at table path) (finds rows table path)) ≡ f.Answer value
      written value = ap (λ x. looks (write_answer value (flags_at table path) x)) found
          ∙ by (is_dir target.kind) (is_dev target.kind) (flags_at table path).read_only file
          (sym (fits_write (is_dev target.kind) (flags_at table path)) ∙ writes)
        where
          by : (a c b : Bool) → a ≡ false → cond c true (not b) ≡ true → looks
              (cond {A = Result ℕ ℕ} a (Err eisdir) (cond {A = Result ℕ ℕ} (b && not c) (Err erofs) (Ok value))) ≡ f.Answer value
          by false true true g h = refl
          by false true false g h = refl
          by false false false g h = refl
          by false false true g h = cc
          by true c b g h = cc

      write_by : {own : Rule} {args : List ℕ} → (nr : CallAt) → IsCallAt nr → rule_there launch nr ≡ Some own → passes_at launch nr args
          → choices.Choice (k.ForPath ToWrite) own args → PathCall ToWrite path (first_by nr args (path_payload ToWrite own path))
      write_by nr n at t (choices.opens argument.Second) =
          by_path nr (rule.Known (known.Open argument.Second)) (one_word 1 1) (d.Open 1 0 path) 3 ToWrite n
          (six 0 1 0 0 (omega arith) (omega arith) (omega arith) (omega arith)) at t refl refl (written 3)
      write_by nr n at t (choices.opens argument.Third) =
          by_path nr (rule.Known (known.Open argument.Third)) (one_word 2 1) (d.Open 1 0 path) 3 ToWrite n
          (six 0 0 1 0 (omega arith) (omega arith) (omega arith) (omega arith)) at t refl refl (written 3)
      write_by nr n at t (choices.opens_with argument.Second) =
          by_path nr (rule.Known (known.OpenWith argument.Second)) (one_word 1 1) (d.Open 1 0 path) 3 ToWrite n
          (six 0 1 0 0 (omega arith) (omega arith) (omega arith) (omega arith)) at t refl refl (written 3)
      write_by nr n at t (choices.opens_with argument.Third) =
          by_path nr (rule.Known (known.OpenWith argument.Third)) (one_word 2 1) (d.Open 1 0 path) 3 ToWrite n
          (six 0 0 1 0 (omega arith) (omega arith) (omega arith) (omega arith)) at t refl refl (written 3)
      write_by nr n at t choices.opens_how = by_how nr 1 3 ToWrite n (omega arith) at t refl (written 3)
      write_by nr n at t choices.creates = by_path nr (rule.Known known.Create) no_words (d.Create 0 path) 3 ToWrite n zeros at t refl refl
          (written 3)
      write_by nr n at t choices.creates_with = by_path nr (rule.Known known.CreateWith) no_words (d.Create 0 path) 3 ToWrite n zeros at t
          refl refl (written 3)
      write_by nr n at t choices.truncates = by_path nr (rule.Known known.Truncate) no_words
          (d.Truncate path) 0 ToWrite n zeros at t refl refl (written 0)

      pub write_path : (line : Line launch (k.ForPath ToWrite))
          → PathCall ToWrite path (first_by (place_of line.line) line.args (path_payload ToWrite line.own path))
      write_path line = write_by (place_of line.line) line.number line.at line.through (choice_of line)

      -- a file with a set-id bit, by creat(2)
      create_by : {own : Rule} {args : List ℕ} → (nr : CallAt) → IsCallAt nr → rule_there launch nr ≡ Some own → passes_at launch nr args
          → choices.Choice k.CreatesMode own args → Performed asks_created_mode (first_by nr args (pay.OnePath path))
      create_by nr n at t choices.creates_mode = record {
        operation = d.Create 0x800 path;
        effect = f.Answer 3;
        makes = make launch creds table nr (rule.Known known.CreateWith) (one_word 1 0x800) (pay.OnePath path) (d.Create 0x800 path)
            (f.Answer 3) n (six 0 0x800 0 0 (omega arith) (omega arith) (omega arith) (omega arith)) fit at refl t (written 3);
        doable = tt;
        such = refl;
      }

      pub creates_mode : (line : Line launch k.CreatesMode)
          → Performed asks_created_mode (first_by (place_of line.line) line.args (pay.OnePath path))
      creates_mode line = create_by (place_of line.line) line.number line.at line.through (choice_of line)

    module _ (exe : is_exe target.kind ≡ true) (runs : fits ToExec (flags_at table path) ≡ true) (admitted : is_refused creds (marks_of target) (flags_at table path).no_suid ≡ false) where
      abbrev pub after_run : Creds
      after_run = exec_done creds (marks_of target) (flags_at table path).no_suid

      pub exec_is : creds_effect (exec_answer creds (flags_at table path) (finds rows table path)) ≡ SetCreds 0 after_run
      exec_is = ap (λ x. creds_effect (exec_answer creds (flags_at table path) x)) found
          ∙ by (is_exe target.kind) (flags_at table path).no_exec exe runs
        where
          by : (a b : Bool) → a ≡ true → not b ≡ true
              → creds_effect (executed creds
              (cond (not a) (Err eacces)
              (cond b (Err eacces) (Ok (record { file = marks_of target; no_suid = (flags_at table path).no_suid })))))
              ≡ SetCreds 0 after_run
          by true false g h = ap (λ b. creds_effect (cond {A = Result Creds ℕ} b (Err eperm) (Ok after_run))) admitted
          by true true g h = cc
          by false b g h = cc

      exec_by : {own : Rule} {args : List ℕ} → (nr : CallAt) → IsCallAt nr → rule_there launch nr ≡ Some own → passes_at launch nr args
          → choices.Choice (k.ForPath ToExec) own args → Makes launch creds table (d.Execve path) (first_by nr args (pay.OnePath path))
          (SetCreds 0 after_run)
      exec_by nr n at t choices.execs = make launch creds table nr (rule.Known known.Execve) no_words (pay.OnePath path) (d.Execve path)
          (SetCreds 0 after_run) n zeros fit at refl t exec_is

      -- its call
      pub exec_path : (line : Line launch (k.ForPath ToExec))
          → Makes launch creds table (d.Execve path) (first_by (place_of line.line) line.args (pay.OnePath path)) (SetCreds 0 after_run)
      exec_path line = exec_by (place_of line.line) line.number line.at line.through (choice_of line)
