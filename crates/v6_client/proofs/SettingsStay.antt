-- No call of a client changes its settings.
use Rattle.std.proofs.Common.{◌≡◌, ℕ, not, ◌&&◌, refl}
use Rattle.machine.specs.Moment.{is_due}
use Rattle.net_types.proofs.CaseLaws.{gated}
use Rattle.net_types.specs.declared.address.Ip6.{Ip6}
use Rattle.v6_message.specs.declared.kind.ServerKind6.{ServerKind6}
use Rattle.v6_message.specs.declared.kind.ServerKind6.TheVariants.{Advertise, Reply}
use Rattle.v6_message.specs.Replies.{Content6}
use Rattle.v6_client.specs.declared.states.Carrier6.{Carrier6}
use Rattle.v6_client.specs.declared.states.Carrier6.TheVariants.{Up, Down}
use Rattle.v6_items.specs.declared.scope.Cause6.TheVariants.{Lapse, Duplicate}
use Rattle.v6_client.specs.declared.states.Tell6.{Tell6}
use Rattle.v6_client.specs.Answers.{advertise_answer, counts, learnt}
use Rattle.v6_client.specs.Calls.{due_of, stands_at}
use Rattle.v6_client.specs.Clients.{ClientContent, holds, is_at_end, is_restarting}
use Rattle.v6_client.specs.Hearing.{is_kept_offer}
use Rattle.v6_client.specs.Moves.{parting_at}
use Rattle.v6_client.specs.Runs.{Turned6, answered, carrier_turned, contested_turned, hears_turned, rebind_turned, release_turned, tick_turned}
use Rattle.v6_client.specs.RunsStay.{SettingsStay}

abbrev SameSettings : ClientContent → Turned6 → Type 0
SameSettings c turned = turned.client.settings ≡ c.settings

tick_settings : (c : ClientContent) (at salt : ℕ) → SameSettings c (tick_turned at salt c)
unfolding tick_turned
tick_settings c at salt =
    gated (SameSettings c) (is_due (due_of c) at) _ _
    (gated (λ (d : ClientContent). d.settings ≡ c.settings) (holds c.state && (parting_at (Lapse at) c).goes && not (is_at_end at c.state)) _ _ refl refl) refl

answer_settings : (kind : ServerKind6) (c : ClientContent) (message : Content6) (at salt : ℕ) → SameSettings c (answered at salt message kind c)
answer_settings Advertise c message at salt =
    gated (λ (d : ClientContent). d.settings ≡ c.settings) (is_kept_offer (advertise_answer c message) c.state) _ _ refl refl
answer_settings Reply c message at salt = refl

message_settings : (c : ClientContent) (message : Content6) (at salt : ℕ) → SameSettings c (hears_turned at salt message c)
unfolding hears_turned
message_settings c message at salt =
    gated (SameSettings c) (counts c message) _ _ (answer_settings message.kind (learnt message.sol_max c) message at salt) refl

duplicate_settings : (c : ClientContent) (address : Ip6) (at salt : ℕ) → SameSettings c (contested_turned address at salt c)
unfolding contested_turned
duplicate_settings c address at salt =
    gated (λ (d : ClientContent). d.settings ≡ c.settings) (holds c.state && (parting_at (Duplicate address) c).goes) _ _
    (gated (λ (d : ClientContent). d.settings ≡ c.settings) (is_restarting c.state) _ _ refl refl) refl

carrier_settings : (c : ClientContent) (carrier : Carrier6) (at salt : ℕ) → SameSettings c (carrier_turned carrier at salt c)
unfolding carrier_turned
carrier_settings c Up at salt = gated (λ (d : ClientContent). d.settings ≡ c.settings) (stands_at at c) _ _ refl refl
carrier_settings c Down at salt = refl

release_settings : (c : ClientContent) (tell : Tell6) (at salt : ℕ) → SameSettings c (release_turned tell at salt c)
unfolding release_turned
release_settings c tell at salt = refl

rebind_settings : (c : ClientContent) (at salt : ℕ) → SameSettings c (rebind_turned at salt c)
unfolding rebind_turned
rebind_settings c at salt = refl

pub settings_stay : SettingsStay
settings_stay c at salt = record {
  tick = tick_settings c at salt;
  message = λ message any. message_settings c message at salt;
  carrier = λ carrier. carrier_settings c carrier at salt;
  duplicate = λ address. duplicate_settings c address at salt;
  release = λ tell. release_settings c tell at salt;
  rebind = rebind_settings c at salt;
}
