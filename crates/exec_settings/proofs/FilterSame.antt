-- Settings of filters that agree part by part.
use Rattle.std.proofs.Common.{◌≡◌, Bool, Option}
use Rattle.mount_settings.specs.unit_names.declared.version.Version.{Version}
use Rattle.filter_settings.specs.call_rules.declared.actions.Action.{Action}
use Rattle.filter_settings.specs.declared.filter_rules.mentions.CallList.{CallList}
use Rattle.filter_settings.specs.declared.filter_rules.mentions.FamilyList.{FamilyList}
use Rattle.filter_settings.specs.declared.filter_rules.namespace_types.NamespaceTypes.{NamespaceTypes}
use Rattle.filter_settings.specs.declared.filter_rules.personality.Domain.{Domain}
use Rattle.filter_settings.proofs.Joined.{made}

pub same_settings : (calls calls' : Option CallList) (action action' : Action) (families families' : Option FamilyList)
    (types types' : NamespaceTypes) (systemd systemd' : Option Version) (a a' b b' c c' d d' e e' f f' g g' h h' i i' j j' k k' : Bool)
    (domain domain' : Domain) →
    calls ≡ calls' → action ≡ action' → families ≡ families' → types ≡ types' → systemd ≡ systemd' → a ≡ a' → b ≡ b' → c ≡ c' → d ≡ d' → e ≡ e' → f ≡ f'
    → g ≡ g' → h ≡ h' → i ≡ i' → j ≡ j' → k ≡ k' → domain ≡ domain' →
    made a b c d e f g h i action types families calls j systemd k domain
    ≡ made a' b' c' d' e' f' g' h' i' action' types' families' calls' j' systemd' k' domain'
same_settings calls calls' action action' families families' types types' systemd systemd' a a' b b' c c' d d' e e' f f' g g' h h' i i' j j' k k' domain domain' same_calls
    same_action same_families same_types same_systemd same_a same_b same_c same_d same_e same_f same_g same_h same_i same_j same_k same_domain = cc
