-- Calls that change mount tables, ids and capability sets.
use Rattle.std.proofs.Common.{◌≡◌, map, ℕ, Bool, true, false, List, [], ◌∷◌, Some, Result, Ok, Err, refl, ap, ◌∙◌, cond, arith, ◌<◌, ◌≤◌}
use Rattle.std.proofs.Common.{inl, inr, eqb}
use Rattle.std.specs.Prelude.{◌^◌, ◌%◌}
use Rattle.std.proofs.lemmas.Bool.{eq-eqb, or_left}
use Rattle.std.proofs.lemmas.Bool.Decides.{nat_tests}
use Rattle.launcher.specs.abs_path.Paths.{Path}
use Rattle.launcher.specs.cap_sets.Sets.{has}
use Rattle.launcher.specs.site_table.Table.{row_at}
use Rattle.launcher.specs.kern_creds.declared.creds.Creds.{Creds}
use Rattle.launcher.specs.linux_numbers.Limits.{no_id}
use Rattle.launcher.specs.kern_creds.declared.ids.Ids.{Ids}
use Rattle.launcher.specs.kern_creds.Ids.{all_of}
use Rattle.launcher.specs.kern_creds.RootChange.{with_uids}
use Rattle.launcher.specs.kern_creds.Capset.{may_capset, with_sets}
use Rattle.launcher.specs.kernel_model.declared.kernel_calls.payload.Payload.TheVariants as pay
use Rattle.launcher.specs.kernel_model.declared.kernel_calls.call.Call.{Call}
use Rattle.launcher.specs.kernel_model.kernel_calls.Calls.{IsPath}
use Rattle.launcher.specs.kernel_laws.Denied.{HasGid}
use Rattle.launcher.specs.kernel_model.kernel_calls.Operation as d
use Rattle.launcher.specs.kernel_model.kernel_calls.Operation.{Operation}
use Rattle.launcher.specs.kernel_model.Effects as f
use Rattle.launcher.specs.kernel_model.Effects.{SetCreds, SetTable, creds_effect, table_effect}
use Rattle.launcher.specs.kernel_laws.declared.question_types.kind.CallKind.TheVariants as k
use Rattle.launcher.specs.kernel_laws.Kinds.{AreWords, no_words, asks}
use Rattle.launcher.specs.kernel_laws.Launched.{Launch}
use Rattle.launcher.specs.kernel_model.kern_files.MountCall.{after_mount}
use Rattle.launcher.specs.kern_mounts.Mounts.{plain}
use Rattle.launcher.specs.kern_mounts.Split.{Table}
use Rattle.launcher.specs.kern_mounts.Umount.{after_umount}
use Rattle.launcher.specs.kernel_model.declared.kernel_calls.rule.Rule.TheVariants as rule
use Rattle.launcher.specs.call_table.declared.call_names.rule.CallRule.TheVariants as known
use Rattle.launcher.specs.kernel_model.declared.kernel_calls.rule.Rule.{Rule}
use Rattle.kernel_ways.specs.Offers.{Offers, is_unlooked}
use Rattle.kernel_ways.specs.Taking.{id_call, sets_call}
use Rattle.kernel_ways.specs.Ways.{place_of, Makes, CallAt, IsCallAt, rule_there, passes_at}
use Rattle.kernel_ways.proofs.Choices as choices
use Rattle.kernel_ways.proofs.Lines.{Line, choice_of, make, six, zeros, first_by}

low : (n : ℕ) → n < 2 ^ 32 → n % 2 ^ 32 ≡ n
low n h = omega (arith, h)

not_none : (id : ℕ) → id ≤ 4294967294 → eqb id 4294967295 ≡ false
not_none id h = grind (arith, nat_tests, h)

-- the ids after a call of this rule that takes an id: setreuid(2) and setregid(2) leave the saved one
abbrev pub ids_by : Rule → Ids → ℕ → Ids
ids_by (rule.Known known.Setreuid) old id = record { real = id; effective = id; saved = old.saved }
ids_by (rule.Known known.Setregid) old id = record { real = id; effective = id; saved = old.saved }
ids_by own old id = all_of id

pub effective_by : (own : Rule) (old : Ids) (id : ℕ) → (ids_by own old id).effective ≡ id
effective_by (rule.Known known.Setreuid) old id = refl
effective_by (rule.Known known.Setregid) old id = refl
effective_by own old id = refl

module _ (launch : Launch) (o : Offers launch) (creds : Creds) (table : Table) where
  pub record TableCall (now : Table) : Type 0 where
    pub call : Call
    pub operation : Operation
    pub makes : Makes launch creds table operation call (SetTable (map plain now))
    pub no_uid : asks k.TakesUid operation ≡ false
    pub no_gid : asks k.TakesGid operation ≡ false

  pub record CredsCall (spares : Bool) (now : Creds) (call : Call) : Type 0 where
    pub operation : Operation
    pub makes : Makes launch creds table operation call (SetCreds 0 now)
    pub no_uid : spares ≡ true → asks k.TakesUid operation ≡ false
    pub no_gid : asks k.TakesGid operation ≡ false

  pub record GroupCall (now : Creds) (call : Call) : Type 0 where
    pub operation : Operation
    pub makes : Makes launch creds table operation call (SetCreds 0 now)

  -- other words of a call that no filter looks at
  pub other : (nr : CallAt) (own : Rule) (args : List ℕ) → IsCallAt nr → AreWords args → rule_there launch nr ≡ Some own
      → is_unlooked own ≡ true → passes_at launch nr no_words → passes_at launch nr args
  other nr own args n w at u t = o.alike nr own no_words args n zeros w at u t

  module _ (admin : has creds.effective 21 ≡ true) where
    umount_by : {own : Rule} {args : List ℕ} → (nr : CallAt) → IsCallAt nr → rule_there launch nr ≡ Some own → passes_at launch nr args
        → choices.Choice k.RemovesMounts own args
        → (path : Path) → IsPath path → (detach : Bool) (now : Table) → after_umount (map plain table) path detach ≡ Ok (map plain now) → TableCall now
    umount_by nr n at t choices.unmounts path fit true now e =
        let w = six 0 2 0 0 (omega arith) (omega arith) (omega arith) (omega arith) in
        record {
          call = first_by nr (0 ∷ 2 ∷ 0 ∷ 0 ∷ 0 ∷ 0 ∷ []) (pay.OnePath path);
          operation = d.Umount path 2;
          makes = make launch creds table nr (rule.Known known.Umount) (0 ∷ 2 ∷ 0 ∷ 0 ∷ 0 ∷ 0 ∷ []) (pay.OnePath path) (d.Umount path 2)
              (SetTable (map plain now)) n w fit at refl (other nr (rule.Known known.Umount) (0 ∷ 2 ∷ 0 ∷ 0 ∷ 0 ∷ 0 ∷ []) n w at refl t)
              (ap (λ b. cond b (table_effect (after_umount (map plain table) path true)) (f.Refuse 1)) admin
              ∙ ap table_effect e);
          no_uid = refl;
          no_gid = refl;
        }
    umount_by nr n at t choices.unmounts path fit false now e =
        record {
          call = first_by nr no_words (pay.OnePath path);
          operation = d.Umount path 0;
          makes = make launch creds table nr (rule.Known known.Umount) no_words (pay.OnePath path) (d.Umount path 0)
              (SetTable (map plain now)) n zeros fit at refl t
              (ap (λ b. cond b (table_effect (after_umount (map plain table) path false)) (f.Refuse 1)) admin
              ∙ ap table_effect e);
          no_uid = refl;
          no_gid = refl;
        }

    pub umount_call : Line launch k.RemovesMounts → (path : Path) → IsPath path → (detach : Bool) (now : Table)
        → after_umount (map plain table) path detach ≡ Ok (map plain now) → TableCall now
    umount_call line = umount_by (place_of line.line) line.number line.at line.through (choice_of line)

    mount_by : {own : Rule} {args : List ℕ} → (nr : CallAt) → IsCallAt nr → rule_there launch nr ≡ Some own → passes_at launch nr args
        → choices.Choice k.ChangesMounts own args
        → (source target : Path) → IsPath source → IsPath target → (flags : ℕ) → flags < 2 ^ 32 → (now : Table)
        → after_mount (row_at launch.site.rows) (map plain table) source target flags ≡ Ok (map plain now) → TableCall now
    mount_by nr n at t choices.mounts source target s g flags small now e =
        let w = six 0 0 0 flags (omega arith) (omega arith) (omega arith) small in
        record {
          call = first_by nr (0 ∷ 0 ∷ 0 ∷ flags ∷ 0 ∷ 0 ∷ []) (pay.TwoPaths source target);
          operation = d.Mount source target flags;
          makes = make launch creds table nr (rule.Known known.Mount) (0 ∷ 0 ∷ 0 ∷ flags ∷ 0 ∷ 0 ∷ []) (pay.TwoPaths source target)
              (d.Mount source target flags) (SetTable (map plain now)) n w (s, g) at
              (ap (λ w. Some (d.Mount source target w)) (low flags small))
              (other nr (rule.Known known.Mount) (0 ∷ 0 ∷ 0 ∷ flags ∷ 0 ∷ 0 ∷ []) n w at refl t)
              (ap (λ b. cond b (table_effect (after_mount (row_at launch.site.rows) (map plain table) source target flags))
              (f.Refuse 1)) admin ∙ ap table_effect e);
          no_uid = refl;
          no_gid = refl;
        }

    pub mount_call : Line launch k.ChangesMounts → (source target : Path) → IsPath source → IsPath target → (flags : ℕ) → flags < 2 ^ 32
        → (now : Table) → after_mount (row_at launch.site.rows) (map plain table) source target flags ≡ Ok (map plain now) → TableCall now
    mount_call line = mount_by (place_of line.line) line.number line.at line.through (choice_of line)

  capset_by : {own : Rule} {args : List ℕ} → (nr : CallAt) → IsCallAt nr → rule_there launch nr ≡ Some own → passes_at launch nr args
      → choices.Choice k.SetsCaps own args
      → (p e i : ℕ) → p < 2 ^ 41 → e < 2 ^ 41 → i < 2 ^ 41 → may_capset creds p e i ≡ true
      → CredsCall true (with_sets creds p e i) (sets_call nr p e i)
  capset_by nr n at t choices.capset p e i hp he hi may = record {
    operation = d.Capset p e i;
    makes = make launch creds table nr (rule.Known known.Capset) no_words (pay.Sets p e i) (d.Capset p e i)
        (SetCreds 0 (with_sets creds p e i)) n zeros (hp, he, hi) at refl t
        (ap (λ b. creds_effect (cond {A = Result Creds ℕ} b (Ok (with_sets creds p e i)) (Err 1))) may);
    no_uid = λ e. refl;
    no_gid = refl;
  }

  pub capset_call : (line : Line launch k.SetsCaps) (p e i : ℕ) → p < 2 ^ 41 → e < 2 ^ 41 → i < 2 ^ 41 → may_capset creds p e i ≡ true
      → CredsCall true (with_sets creds p e i) (sets_call (place_of line.line) p e i)
  capset_call line = capset_by (place_of line.line) line.number line.at line.through (choice_of line)

  -- all three ids by the capability
  module _ (id : ℕ) (small : id ≤ 4294967294) where
    word : id < 2 ^ 32
    word = omega (arith, small)

    uid_by : {own : Rule} {args : List ℕ} → (nr : CallAt) → IsCallAt nr → rule_there launch nr ≡ Some own → passes_at launch nr args
        → choices.Choice k.TakesUid own args → has creds.effective 7 ≡ true
        → CredsCall false (with_uids creds (ids_by own creds.uids id)) (id_call nr own id)
    uid_by nr n at t choices.setuid h =
        let w = six id 0 0 0 word (omega arith) (omega arith) (omega arith) in
        record {
          operation = d.Setuid id;
          makes = make launch creds table nr (rule.Known known.Setuid) (id ∷ 0 ∷ 0 ∷ 0 ∷ 0 ∷ 0 ∷ []) pay.Nothing (d.Setuid id)
              (SetCreds 0 (with_uids creds (all_of id))) n w tt at (ap (λ w. Some (d.Setuid w)) (low id word))
              (other nr (rule.Known known.Setuid) (id ∷ 0 ∷ 0 ∷ 0 ∷ 0 ∷ 0 ∷ []) n w at refl t) (rw (not_none id small, h) refl);
          no_uid = λ e. cc;
          no_gid = refl;
        }
    uid_by nr n at t choices.setresuid h =
        let w = six id id id 0 word word word (omega arith) in
        record {
          operation = d.Setresuid id id id;
          makes = make launch creds table nr (rule.Known known.Setresuid) (id ∷ id ∷ id ∷ 0 ∷ 0 ∷ 0 ∷ []) pay.Nothing
              (d.Setresuid id id id) (SetCreds 0 (with_uids creds (all_of id))) n w tt at (ap (λ w. Some (d.Setresuid w w w)) (low id word))
              (other nr (rule.Known known.Setresuid) (id ∷ id ∷ id ∷ 0 ∷ 0 ∷ 0 ∷ []) n w at refl t) (rw (not_none id small, h) refl);
          no_uid = λ e. cc;
          no_gid = refl;
        }
    uid_by nr n at t choices.setreuid h =
        let w = six id id 0 0 word word (omega arith) (omega arith) in
        record {
          operation = d.Setresuid id id no_id;
          makes = make launch creds table nr (rule.Known known.Setreuid) (id ∷ id ∷ 0 ∷ 0 ∷ 0 ∷ 0 ∷ []) pay.Nothing
              (d.Setresuid id id no_id) (SetCreds 0 (with_uids creds (ids_by (rule.Known known.Setreuid) creds.uids id))) n w tt at
              (ap (λ w. Some (d.Setresuid w w no_id)) (low id word))
              (other nr (rule.Known known.Setreuid) (id ∷ id ∷ 0 ∷ 0 ∷ 0 ∷ 0 ∷ []) n w at refl t) (rw (not_none id small, h) refl);
          no_uid = λ e. cc;
          no_gid = refl;
        }

    pub uid_call : (line : Line launch k.TakesUid) → has creds.effective 7 ≡ true
        → CredsCall false (with_uids creds (ids_by line.own creds.uids id)) (id_call (place_of line.line) line.own id)
    uid_call line = uid_by (place_of line.line) line.number line.at line.through (choice_of line)

    pub record GidCall (call : Call) : Type 0 where
      pub now : Creds
      pub change : GroupCall now call
      pub has_gid : HasGid id now

    gid_by : {own : Rule} {args : List ℕ} → (nr : CallAt) → IsCallAt nr → rule_there launch nr ≡ Some own → passes_at launch nr args
        → choices.Choice k.TakesGid own args → has creds.effective 6 ≡ true → GidCall (id_call nr own id)
    gid_by nr n at t choices.setgid h =
        let w = six id 0 0 0 word (omega arith) (omega arith) (omega arith) in
        record {
          now = record creds { gids = all_of id };
          change = record {
            operation = d.Setgid id;
            makes = make launch creds table nr (rule.Known known.Setgid) (id ∷ 0 ∷ 0 ∷ 0 ∷ 0 ∷ 0 ∷ []) pay.Nothing (d.Setgid id)
                (SetCreds 0 (record creds { gids = all_of id })) n w tt at (ap (λ w. Some (d.Setgid w)) (low id word))
                (other nr (rule.Known known.Setgid) (id ∷ 0 ∷ 0 ∷ 0 ∷ 0 ∷ 0 ∷ []) n w at refl t) (rw (not_none id small, h) refl);
          };
          has_gid = inl refl;
        }
    gid_by nr n at t choices.setresgid h =
        let w = six id id id 0 word word word (omega arith) in
        record {
          now = record creds { gids = all_of id };
          change = record {
            operation = d.Setresgid id id id;
            makes = make launch creds table nr (rule.Known known.Setresgid) (id ∷ id ∷ id ∷ 0 ∷ 0 ∷ 0 ∷ []) pay.Nothing
                (d.Setresgid id id id) (SetCreds 0 (record creds { gids = all_of id })) n w tt at
                (ap (λ w. Some (d.Setresgid w w w)) (low id word))
                (other nr (rule.Known known.Setresgid) (id ∷ id ∷ id ∷ 0 ∷ 0 ∷ 0 ∷ []) n w at refl t) (rw (not_none id small, h) refl);
          };
          has_gid = inl refl;
        }
    gid_by nr n at t choices.setregid h =
        let w = six id id 0 0 word word (omega arith) (omega arith) in
        let ids = ids_by (rule.Known known.Setregid) creds.gids id in
        record {
          now = record creds { gids = ids };
          change = record {
            operation = d.Setresgid id id no_id;
            makes = make launch creds table nr (rule.Known known.Setregid) (id ∷ id ∷ 0 ∷ 0 ∷ 0 ∷ 0 ∷ []) pay.Nothing
                (d.Setresgid id id no_id) (SetCreds 0 (record creds { gids = ids })) n w tt at
                (ap (λ w. Some (d.Setresgid w w no_id)) (low id word))
                (other nr (rule.Known known.Setregid) (id ∷ id ∷ 0 ∷ 0 ∷ 0 ∷ 0 ∷ []) n w at refl t) (rw (not_none id small, h) refl);
          };
          has_gid = inl refl;
        }
    gid_by nr n at t choices.setgroups h =
        record {
          now = record creds { groups = id ∷ [] };
          change = record {
            operation = d.Setgroups (id ∷ []);
            makes = make launch creds table nr (rule.Known known.Setgroups) no_words (pay.Ids (id ∷ [])) (d.Setgroups (id ∷ []))
                (SetCreds 0 (record creds { groups = id ∷ [] })) n zeros (word, tt) at refl t (rw h refl);
          };
          has_gid = inr (or_left (eqb id id) false (eq-eqb id id refl));
        }

    pub gid_call : (line : Line launch k.TakesGid) → has creds.effective 6 ≡ true → GidCall (id_call (place_of line.line) line.own id)
    gid_call line = gid_by (place_of line.line) line.number line.at line.through (choice_of line)
