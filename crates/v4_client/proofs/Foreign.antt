-- A message of another exchange, client or server than those of the state changes nothing.
use Rattle.std.proofs.Common.{◌≡◌, ◌≢◌, ℕ, inl, inr, Bool, true, false, ◌&&◌, List, Option, Some, None, refl, sym, ◌∙◌, ap, subst, bytes_eq, eqb}
use Rattle.std.specs.Option.{is_some}
use Rattle.std.proofs.lemmas.Bool.{eqb-true}
use Rattle.net_types.proofs.CaseLaws.{split}
use Rattle.net_types.specs.declared.address.Ip4.{Ip4}
use Rattle.v4_options.specs.declared.code.TheConstants.{SERVER_IDENTIFIER}
use Rattle.lease_text.specs.Leases.{ValueContent}
use Rattle.v4_client.specs.declared.states.Answer4.{Answer4}
use Rattle.v4_client.specs.declared.states.Answer4.TheVariants as answer
use Rattle.v4_client.specs.declared.states.Exchange4.{Exchange4}
use Rattle.v4_client.specs.declared.states.State4.{State4}
use Rattle.v4_client.specs.declared.states.State4.TheVariants.{Off, Init, Selecting, Requesting, Rebooting, Checking, Waiting, Bound, Renewing, Rebinding}
use Rattle.v4_client.specs.declared.states.Turn4.{Turn4}
use Rattle.v4_client.specs.Answers.{is_answer, is_blacklisted, unless_blacklisted, answering, reply_by, answer_of}
use Rattle.v4_client.specs.Awaited.{is_awaited, is_awaited_by, awaited}
use Rattle.v4_client.specs.Calls.{answer_to}
use Rattle.v4_client.specs.Clients.{ClientContent, turn_of}
use Rattle.v4_client.specs.Moves.{IsQuiet, is_grant, moved, told, with_values}
use Rattle.v4_client.specs.Granting.{kept_values}
use Rattle.v4_client.specs.Hearing.{heard_row}
use Rattle.v4_client.specs.Laws.{IgnoresForeign, IsForeign, IsOfOtherServer}
use Rattle.v4_message.specs.Messages.{address_at}
use Rattle.v4_client.specs.Messages.{Arrival}
use Rattle.v4_client.specs.Settings.{SettingsContent}
use Rattle.v4_client.specs.Steps.{rests}

-- ---- nothing is said

nothing_rests : (turn : Turn4) (state : State4) → heard_row turn answer.Nothing state ≡ rests turn state
nothing_rests turn Off = refl
nothing_rests turn (Init due) = refl
nothing_rests turn (Selecting xid began secs backoff due) = refl
nothing_rests turn (Requesting exchange secs backoff due) = refl
nothing_rests turn (Rebooting exchange backoff end due stands) = refl
nothing_rests turn (Checking xid terms origin acd stands) = refl
nothing_rests turn (Waiting due) = refl
nothing_rests turn (Bound xid terms acd) = refl
nothing_rests turn (Renewing exchange terms acd due) = refl
nothing_rests turn (Rebinding exchange terms acd due) = refl

unchanged : (c : ClientContent) (at salt : ℕ) (said : Answer4) (values : List ValueContent) → said ≡ answer.Nothing
    → moved (heard_row (turn_of at salt c) said c.state) (with_values said values c) ≡ c
unchanged c at salt said values e = rw (e, nothing_rests (turn_of at salt c) c.state) refl

quiet : (c : ClientContent) (at salt : ℕ) (said : Answer4) (values : List ValueContent) → said ≡ answer.Nothing
    → IsQuiet (told (heard_row (turn_of at salt c) said c.state) (with_values said values c))
quiet c at salt said values e =
    rw (e, nothing_rests (turn_of at salt c) c.state)
    (record { no_message = refl; no_arp = refl; no_news = refl; no_lease = refl })

-- ---- no server answers

ignored : (settings : SettingsContent) (arrival : Arrival) (state : State4)
    → ((xid : ℕ) → awaited state ≡ Some xid → answering settings xid arrival ≡ None)
    → answer_of settings arrival state ≡ answer.Nothing
ignored settings arrival Off none = refl
ignored settings arrival (Init due) none = refl
ignored settings arrival (Selecting xid began secs backoff due) none = rw (none xid refl) refl
ignored settings arrival (Requesting exchange secs backoff due) none = rw (none exchange.xid refl) refl
ignored settings arrival (Rebooting exchange backoff end due stands) none = rw (none exchange.xid refl) refl
ignored settings arrival (Checking xid terms origin acd stands) none = refl
ignored settings arrival (Waiting due) none = refl
ignored settings arrival (Bound xid terms acd) none = refl
ignored settings arrival (Renewing exchange terms acd due) none = rw (none exchange.xid refl) refl
ignored settings arrival (Rebinding exchange terms acd due) none = rw (none exchange.xid refl) refl

no_answer : (settings : SettingsContent) (xid : ℕ) (arrival : Arrival) → is_answer settings xid arrival ≡ false
    → answering settings xid arrival ≡ None
no_answer settings xid arrival e = rw e refl

other_xid : (settings : SettingsContent) (xid : ℕ) (arrival : Arrival) → Some xid ≢ Some arrival.message.xid
    → answering settings xid arrival ≡ None
other_xid settings xid arrival other =
    split (eqb arrival.message.xid xid) (λ e. absurd (other (ap Some (sym (eqb-true arrival.message.xid xid e)))))
    (λ e. no_answer settings xid arrival (rw e refl))

and_false : (b other : Bool) → other ≡ false → (b && other) ≡ false
and_false true other e = e
and_false false other e = refl

other_mac : (settings : SettingsContent) (xid : ℕ) (arrival : Arrival)
    → bytes_eq arrival.message.chaddr.bytes settings.site.iface.mac.bytes ≡ false → answering settings xid arrival ≡ None
other_mac settings xid arrival e =
    no_answer settings xid arrival (and_false (eqb arrival.message.xid xid) (bytes_eq arrival.message.chaddr.bytes settings.site.iface.mac.bytes) e)

-- ---- another server answers

allowed : (settings : SettingsContent) (named : Option Ip4) (server : Ip4) → unless_blacklisted settings named ≡ Some server
    → named ≡ Some server
allowed settings None server e = absurd cc
allowed settings (Some named) server e =
    split (is_blacklisted settings named) (λ b. absurd (none (rw b at e))) (λ b. rw b at e)
  where
    none : None ≡ Some server → ⊥
    none f = cc

named : (settings : SettingsContent) (xid : ℕ) (arrival : Arrival) (server : Ip4) → answering settings xid arrival ≡ Some server
    → address_at SERVER_IDENTIFIER arrival.message.instances ≡ Some server
named settings xid arrival server e =
    split (is_answer settings xid arrival)
    (λ b. allowed settings (address_at SERVER_IDENTIFIER arrival.message.instances) server (rw b at e)) (λ b. absurd (none (rw b at e)))
  where
    none : None ≡ Some server → ⊥
    none f = cc

same_address : (one other : Ip4) → one.number ≡ other.number → one ≡ other
same_address one other e = let make : ℕ → Ip4 = λ (n : ℕ). record { number = n } in ap make e

not_chosen : (settings : SettingsContent) (exchange : Exchange4) (arrival : Arrival) (chosen : Ip4) (answered : Option Ip4)
    → exchange.server ≡ Some chosen → ((server : Ip4) → answered ≡ Some server → Some server ≢ Some chosen)
    → reply_by settings exchange arrival answered ≡ answer.Nothing
not_chosen settings exchange arrival chosen None is other = refl
not_chosen settings exchange arrival chosen (Some server) is other =
    split (eqb server.number chosen.number)
    (λ e. absurd (other server refl (ap Some (same_address server chosen (eqb-true server.number chosen.number e)))))
    (λ e. rw (is, e) refl)

other_server : (settings : SettingsContent) (arrival : Arrival) (state : State4) → IsOfOtherServer arrival state
    → answer_of settings arrival state ≡ answer.Nothing
other_server settings arrival (Requesting exchange secs backoff due) other =
    not_chosen settings exchange arrival other.chosen (answering settings exchange.xid arrival) other.is
    (λ server e f. other.other (named settings exchange.xid arrival server e ∙ f))
other_server settings arrival Off other = refl
other_server settings arrival (Init due) other = refl
other_server settings arrival (Selecting xid began secs backoff due) other = let is : None ≡ Some other.chosen = other.is in absurd cc
other_server settings arrival (Rebooting exchange backoff end due stands) other = let is : None ≡ Some other.chosen = other.is in absurd cc
other_server settings arrival (Checking xid terms origin acd stands) other = refl
other_server settings arrival (Waiting due) other = refl
other_server settings arrival (Bound xid terms acd) other = refl
other_server settings arrival (Renewing exchange terms acd due) other = let is : None ≡ Some other.chosen = other.is in absurd cc
other_server settings arrival (Rebinding exchange terms acd due) other = let is : None ≡ Some other.chosen = other.is in absurd cc

foreign_says_nothing : (settings : SettingsContent) (arrival : Arrival) (state : State4) → IsForeign settings arrival state
    → answer_of settings arrival state ≡ answer.Nothing
foreign_says_nothing settings arrival state foreign =
    elim foreign [
      | inl exchange ↦ ignored settings arrival state (λ xid e. other_xid settings xid arrival (λ f. exchange (e ∙ f)))
      | inr rest ↦ elim rest [
        | inl mac ↦ ignored settings arrival state (λ xid e. other_mac settings xid arrival mac)
        | inr server ↦ other_server settings arrival state server
      ]
    ]

pub ignores_foreign : IgnoresForeign
ignores_foreign c arrival salt foreign =
    let nothing : answer_to arrival c ≡ answer.Nothing = foreign_says_nothing c.settings arrival c.state foreign in
    let values : List ValueContent = kept_values c.settings.refused arrival.message.instances in
    record {
      unchanged = unchanged c arrival.at salt (answer_to arrival c) values nothing;
      quiet = quiet c arrival.at salt (answer_to arrival c) values nothing;
    }

-- ---- memory

none_answers : (answered : Option Ip4) → is_some answered ≡ false → answered ≡ None
none_answers None e = refl
none_answers (Some server) e = absurd cc

-- what isn't awaited says nothing
unawaited : (settings : SettingsContent) (arrival : Arrival) (state : State4) → is_awaited settings arrival state ≡ false
    → answer_of settings arrival state ≡ answer.Nothing
unawaited settings arrival state e =
    ignored settings arrival state (λ xid f. none_answers (answering settings xid arrival) (by_xid xid f))
  where
    by_xid : (xid : ℕ) → awaited state ≡ Some xid → is_some (answering settings xid arrival) ≡ false
    by_xid xid f = subst (λ (o : Option ℕ). is_awaited_by settings arrival o ≡ false) f e

-- an ACK that is taken was awaited
pub grant_awaited : (settings : SettingsContent) (arrival : Arrival) (state : State4)
    → is_grant (answer_of settings arrival state) ≡ true → is_awaited settings arrival state ≡ true
grant_awaited settings arrival state e =
    split (is_awaited settings arrival state) (λ b. b)
    (λ b. absurd (no (ap is_grant (unawaited settings arrival state b)) e))
  where
    no : is_grant (answer_of settings arrival state) ≡ false → is_grant (answer_of settings arrival state) ≡ true → ⊥
    no f g = cc
