-- What execve of a row gives, and capset behind it.
use Rattle.std.proofs.Common.{◌≡◌, ℕ, Bool, true, false, refl, ap, ◌∙◌, sym, subst, cond, arith, ◌<◌, eqb}
use Rattle.std.specs.Prelude.{not, ◌&&◌, ◌||◌, ◌^◌}
use Rattle.std.proofs.lemmas.Bool.{and_from, or_left, or_right}
use Rattle.std.proofs.lemmas.Nat.{and_le_r}
use Rattle.launcher.specs.abs_path.Paths.{Path}
use Rattle.launcher.specs.cap_sets.Sets.{has, union, cut, within, IsWithin}
use Rattle.launcher.proofs.OfCapSets.Members.{within_self, within-from_IsWithin, cut_within_right, within_union_left, within_union_right}
use Rattle.launcher.specs.site_table.declared.row.Row.{Row}
use Rattle.launcher.specs.site_table.Table.{row_at}
use Rattle.launcher.specs.kern_creds.declared.creds.Creds.{Creds}
use Rattle.launcher.specs.kern_creds.declared.ids.Ids.{Ids}
use Rattle.launcher.specs.kern_creds.declared.file.FileCreds.{FileCreds}
use Rattle.launcher.specs.kern_creds.Exec.{is_refused, exec_done, exec_uids, exec_gains, exec_ambient, honours, owner_or, runs_as_root}
use Rattle.launcher.specs.kern_creds.Capset.{may_capset}
use Rattle.launcher.specs.kernel_laws.Bound.{is_barred}
use Rattle.launcher.specs.kernel_model.declared.kernel_calls.call.Call.{Call}
use Rattle.launcher.specs.kernel_model.kernel_calls.Operation as d
use Rattle.launcher.specs.kernel_model.declared.kernel_calls.payload.Payload.TheVariants as pay
use Rattle.launcher.specs.kernel_model.Effects.{SetCreds}
use Rattle.launcher.specs.kernel_model.kern_files.Looking.{flags_at}
use Rattle.launcher.specs.kernel_model.kern_files.Executing.{marks_of}
use Rattle.launcher.specs.kernel_laws.declared.question_types.kind.CallKind.TheVariants.{ForPath}
use Rattle.launcher.specs.kernel_laws.declared.question_types.wish.Wish.TheVariants.{Exec as ToExec}
use Rattle.launcher.specs.kernel_laws.Launched.{Launch, IsLaunched}
use Rattle.launcher.specs.site_table.Kinds.{is_exe}
use Rattle.launcher.specs.kern_mounts.Split.{Table}
use Rattle.reach_paths.specs.Finding.{FindsRow}
use Rattle.launcher.proofs.OfKernelLaws.KeptExec.{above_if}
use Rattle.launcher.specs.kernel_laws.Reach.{fits}
use Rattle.kernel_ways.specs.Offers.{Offers}
use Rattle.kernel_ways.specs.Ways.{place_of, Makes}
use Rattle.kernel_ways.proofs.Operations.{exec_path}
use Rattle.kernel_ways.proofs.Lines.{Line, first_by, some_line}
use Rattle.kernel_ways.proofs.Rows.{IsKnown}

-- what each of the lists of calls keeps
pub record Basis (launch : Launch) (creds : Creds) : Type 0 where
  pub bounding : creds.bounding ≡ launch.creds.bounding
  pub inheritable : creds.inheritable ≡ launch.creds.inheritable
  pub mark : creds.no_new_privs ≡ launch.creds.no_new_privs

-- a row that can be run on this table, by whether its mount has nosuid
pub record RunnableBy (no_suid : Bool) (launch : Launch) (table : Table) (target : Row) : Type 0 where
  pub found : FindsRow (row_at launch.site.rows) table (fits ToExec) target
  pub known : IsKnown launch.site target
  pub exe : is_exe target.kind ≡ true
  pub suid : (flags_at table found.path).no_suid ≡ no_suid
  pub free : is_barred launch target ≡ false

-- with its marks looked at
abbrev pub Runnable : Launch → Table → Row → Type 0
Runnable launch table target = RunnableBy false launch table target

-- ---- the credentials after it
-- uid 0 gives the bounding set at once, even where marks are not looked at
pub root_gives : (creds : Creds) (file : FileCreds) (no_suid : Bool) → creds.no_new_privs ≡ false
    → eqb (exec_uids creds file no_suid).effective 0 ≡ true → IsWithin creds.bounding (exec_done creds file no_suid).effective
root_gives creds file no_suid off root =
    let uids = exec_uids creds file no_suid in
    let gains = exec_gains creds file no_suid in
    let ambient = exec_ambient creds file no_suid in
    let whole : IsWithin creds.bounding gains = above_if (eqb uids.real 0 || eqb uids.effective 0) (union creds.inheritable creds.bounding) _ creds.bounding
    (λ z. within_union_right _ _ _ (within_self _)) (λ z. let yes = or_right (eqb uids.real 0) (eqb uids.effective 0) root in let no' : true ≡ false = sym yes ∙ z in cc) in
    above_if (eqb uids.effective 0 || (honours creds no_suid && file.effective)) (exec_done creds file no_suid).permitted ambient creds.bounding
    (λ y. above_if creds.no_new_privs (cut gains creds.permitted) gains creds.bounding (λ n. let no' : false ≡ true = sym off ∙ n in cc) (λ n. whole))
    (λ y. let yes = or_left (eqb uids.effective 0) (honours creds no_suid && file.effective) root in let no' : true ≡ false = sym yes ∙ y in cc)

module _ (creds : Creds) (file : FileCreds) (off : creds.no_new_privs ≡ false) where
  abbrev pub done : Creds
  done = exec_done creds file false

  abbrev uids : Ids
  uids = exec_uids creds file false

  abbrev pub common : ℕ
  common = cut file.caps creds.bounding

  pub honoured : honours creds false ≡ true
  honoured = ap (λ b. not b && true) off

  gains_permitted : (a : ℕ) → IsWithin a (exec_gains creds file false) → IsWithin a done.permitted
  gains_permitted a h = above_if creds.no_new_privs (cut (exec_gains creds file false) creds.permitted) (exec_gains creds file false) a (λ y. let no' : false ≡ true = sym off ∙ y in cc) (λ y. h)

  pub common_permitted : IsWithin common done.permitted
  common_permitted = gains_permitted common
      (above_if (runs_as_root uids) (union creds.inheritable creds.bounding) _ common
      (λ z. within_union_right _ _ _ (cut_within_right _ _ _ (within_self _)))
      λ z. above_if (honours creds false) (union common (exec_ambient creds file false)) (exec_ambient creds file false) common (λ h. within_union_left _ _ _ (within_self common)) (λ h. let no' : true ≡ false = sym honoured ∙ h in cc))

  -- uid 0 gives the bounding set at once
  pub zero_gives : eqb uids.effective 0 ≡ true → IsWithin creds.bounding done.effective
  zero_gives root = above_if (eqb uids.effective 0 || (honours creds false && file.effective)) done.permitted
      (exec_ambient creds file false) creds.bounding
      (λ y. gains_permitted creds.bounding (above_if (eqb uids.real 0 || eqb uids.effective 0) (union creds.inheritable creds.bounding) _ creds.bounding (λ z. within_union_right _ _ _ (within_self _)) (λ z. let yes = or_right (eqb uids.real 0) (eqb uids.effective 0) root in let no' : true ≡ false = sym yes ∙ z in cc)))
      (λ y. let yes = or_left (eqb uids.effective 0) (honours creds false && file.effective) root in let no' : true ≡ false = sym yes ∙ y in cc)

  -- the owner becomes the effective id
  pub uid_after : uids.effective ≡ owner_or file.setuid creds.uids.effective
  uid_after = ap (λ b. cond b (owner_or file.setuid creds.uids.effective) creds.uids.effective) honoured

  pub gid_after : done.gids.effective ≡ owner_or file.setgid creds.gids.effective
  gid_after = ap (λ b. cond b (owner_or file.setgid creds.gids.effective) creds.gids.effective) honoured

  -- the effective bit gives the file's set at once
  pub bit_gives : file.effective ≡ true → IsWithin common done.effective
  bit_gives e = above_if (eqb uids.effective 0 || (honours creds false && file.effective)) done.permitted
      (exec_ambient creds file false) common (λ y. common_permitted)
      (λ y. let yes = or_right (eqb uids.effective 0) (honours creds false && file.effective) (and_from _ _ honoured e) in let no' : true ≡ false = sym yes ∙ y in cc)

  -- else capset takes it up
  pub may_take : may_capset done common common creds.inheritable ≡ true
  may_take =
      and_from _ _ (and_from _ _ (within-from_IsWithin common done.permitted common_permitted)
      (within-from_IsWithin common common (within_self common)))
      (and_from _ _ (within-from_IsWithin creds.inheritable (union creds.inheritable creds.bounding)
      (within_union_left _ _ _ (within_self _)))
      (or_right (has done.effective 8) _
      (within-from_IsWithin creds.inheritable (union creds.inheritable done.permitted) (within_union_left _ _ _ (within_self _)))))

pub common_small : (caps bounding : ℕ) → bounding < 2 ^ 41 → cut caps bounding < 2 ^ 41
unfolding cut
common_small caps bounding h = omega (arith, and_le_r caps bounding, h)

-- ---- its call
module _ (launch : Launch) (l : IsLaunched launch) (o : Offers launch) where
  -- a row that is not barred is not refused
  pub not_refused : (no_suid : Bool) (creds : Creds) (target : Row) → creds.bounding ≡ launch.creds.bounding → is_barred launch target ≡ false
      → is_refused creds (marks_of target) no_suid ≡ false
  not_refused true creds target bounding free = refl
  not_refused false creds target bounding free = ap (λ s. target.effective && not (within target.caps s)) bounding ∙ free

  -- by a line that execve follows
  pub runs_by : (no_suid : Bool) (line : Line launch (ForPath ToExec)) (creds : Creds) (table : Table) (target : Row)
      → creds.bounding ≡ launch.creds.bounding → (r : RunnableBy no_suid launch table target)
      → Makes launch creds table (d.Execve r.found.path) (first_by (place_of line.line) line.args (pay.OnePath r.found.path))
      (SetCreds 0 (exec_done creds (marks_of target) no_suid))
  runs_by no_suid line creds table target bounding r =
      let path = r.found.path in
      let admitted : is_refused creds (marks_of target) (flags_at table path).no_suid ≡ false =
      ap (λ b. is_refused creds (marks_of target) b) r.suid ∙ not_refused no_suid creds target bounding r.free in
      let x = exec_path launch creds table path r.found.can_be_named target r.found.is_found r.exe r.found.is_allowed admitted line in
      let P : Bool → Type 0 = λ b. Makes launch creds table (d.Execve path) (first_by (place_of line.line) line.args (pay.OnePath path)) (SetCreds 0 (exec_done creds (marks_of target) b)) in subst P r.suid x

  pub record RanBy (no_suid : Bool) (creds : Creds) (table : Table) (target : Row) : Type 0 where
    pub call : Call
    pub path : Path
    pub makes : Makes launch creds table (d.Execve path) call (SetCreds 0 (exec_done creds (marks_of target) no_suid))

  pub runs : (no_suid : Bool) (creds : Creds) (table : Table) (target : Row) → creds.bounding ≡ launch.creds.bounding
      → RunnableBy no_suid launch table target → RanBy no_suid creds table target
  runs no_suid creds table target bounding r =
      let line = some_line launch l (ForPath ToExec) o.execs in
      record { call = first_by (place_of line.line) line.args (pay.OnePath r.found.path); path = r.found.path; makes = runs_by no_suid line creds table target bounding r }
