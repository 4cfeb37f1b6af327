-- Values of further keys that agree key by key.
use Rattle.std.proofs.Common.{◌≡◌, Bool}
use Rattle.std.specs.Prelude.{◌||◌}
use Rattle.mount_settings.specs.declared.systemd.keys.FurtherKeys.{FurtherKeys}
use Rattle.mount_settings.specs.declared.systemd.words.ControlGroups.{ControlGroups}
use Rattle.mount_settings.specs.declared.systemd.words.PrivateMounts.{PrivateMounts}
use Rattle.mount_settings.specs.declared.systemd.words.OwnTmp.{OwnTmp}

pub any_same : (a b c d e a' b' c' d' e' : Bool) → a ≡ a' → b ≡ b' → c ≡ c' → d ≡ d' → e ≡ e'
    → (a || (b || (c || (d || e)))) ≡ (a' || (b' || (c' || (d' || e'))))
any_same a b c d e a' b' c' d' e' ea eb ec ed ee = cc

-- the keys with these values
abbrev pub keys_with : Bool → Bool → Bool → PrivateMounts → Bool → Bool → Bool → Bool → Bool → Bool → Bool → ControlGroups → Bool → OwnTmp
    → Bool → FurtherKeys
keys_with a b d e f g h i j k l m n o p = record {
  protect_proc = a;
  proc_subset = b;
  mount_api_vfs = d;
  private_mounts = e;
  private_ipc = f;
  private_pids = g;
  log_namespace = h;
  bind_log_sockets = i;
  own_network = j;
  credentials = k;
  protect_hostname = l;
  control_groups = m;
  keeps_runtime = n;
  own_tmp = o;
  no_new_privs = p;
}

pub keys_same : (a a' b b' d d' f f' g g' h h' i i' j j' k k' l l' n n' p p' : Bool) (e e' : PrivateMounts) (m m' : ControlGroups) (o o' : OwnTmp)
    → a ≡ a' → b ≡ b' → d ≡ d' → e ≡ e' → f ≡ f' → g ≡ g' → h ≡ h' → i ≡ i' → j ≡ j' → k ≡ k' → l ≡ l' → m ≡ m' → n ≡ n' → o ≡ o' → p ≡ p'
    → keys_with a b d e f g h i j k l m n o p ≡ keys_with a' b' d' e' f' g' h' i' j' k' l' m' n' o' p'
keys_same a a' b b' d d' f f' g g' h h' i i' j j' k k' l l' n n' p p' e e' m m' o o' ea eb ed ee ef eg eh ei ej ek el em en eo ep = cc
