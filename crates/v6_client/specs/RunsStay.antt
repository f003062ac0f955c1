-- What stays so of a client whatever call comes.
use Rattle.std.specs.Prelude.{◌≡◌, ℕ, IfSome}
use Rattle.net_types.specs.Moments.{IsMoment}
use Rattle.net_types.specs.declared.address.Ip6.{Ip6}
use Rattle.v6_options.specs.OptionGrammar.{AreBytes}
use Rattle.v6_message.specs.Replies.{Content6}
use Rattle.lease6_text.specs.Bounds.{FitsLease6}
use Rattle.v6_client.specs.declared.states.Carrier6.{Carrier6}
use Rattle.v6_client.specs.declared.states.Tell6.{Tell6}
use Rattle.v6_client.specs.Answers.{learnt}
use Rattle.v6_client.specs.Calls.{fresh_in}
use Rattle.v6_client.specs.Clients.{ClientContent}
use Rattle.v6_client.specs.OwnLeases.{OwnIas}
use Rattle.v6_client.specs.Runs.{carrier_turned, contested_turned, hears_turned, rebind_turned, release_turned, tick_turned}
use Rattle.v6_client.specs.Sound.{IsSound}

-- It holds of the client after each call of this moment. What a message brings is told by `Fits`.
pub record AfterEach (P : ClientContent → Type 0) (Fits : Content6 → Type 0) (c : ClientContent)
    (at salt : ℕ) : Type 0 where
  pub tick : P (tick_turned at salt c).client
  pub message : (message : Content6) → Fits message → P (hears_turned at salt message c).client
  pub carrier : (carrier : Carrier6) → P (carrier_turned carrier at salt c).client
  pub duplicate : (address : Ip6) → P (contested_turned address at salt c).client
  pub release : (tell : Tell6) → P (release_turned tell at salt c).client
  pub rebind : P (rebind_turned at salt c).client

abbrev pub AnyMessage : Content6 → Type 0
AnyMessage message = Unit {0}

abbrev pub SettingsStay : Type 0
SettingsStay = (c : ClientContent) (at salt : ℕ) → AfterEach (λ new. new.settings ≡ c.settings) AnyMessage c at salt

abbrev pub OwnIasStay : Type 0
OwnIasStay = (c : ClientContent) (at salt : ℕ) → OwnIas c → AfterEach OwnIas AnyMessage c at salt

-- the lease that the message grants is within the bounds of its text
abbrev pub GrantsFitting : (at : ℕ) → ClientContent → Content6 → Type 0
GrantsFitting at c message = IfSome (fresh_in at (learnt message.sol_max c) message) FitsLease6

abbrev pub SoundStays : Type 0
SoundStays = (c : ClientContent) (at salt : ℕ) → IsSound c → AfterEach IsSound (GrantsFitting at c) c at salt

-- so it is where the options are bytes, and the moment is one at which calls come
abbrev pub GrantsFit : Type 0
GrantsFit = (c : ClientContent) (message : Content6) (at : ℕ) → IsMoment at → IsSound c → AreBytes message.options
    → GrantsFitting at c message
