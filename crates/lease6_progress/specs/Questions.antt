-- What a DHCPv6 client asks, and which message of a server answers it (RFC 8415, sections 15, 16 and 18.2).
use Rattle.std.specs.Prelude.{ℕ, Bool, true, false, not, ◌&&◌, List, [], ◌∷◌, Option, Some, None, ◌==◌, if◌then◌else◌}
use Rattle.std.specs.List.{list_all, list_any}
use Rattle.v6_options.specs.declared.ia.ItemSaid.{ItemSaid}
use Rattle.v6_options.specs.Ias.{ias_in}
use Rattle.v6_message.specs.declared.kind.Kind6.{Kind6}
use Rattle.v6_message.specs.declared.kind.Kind6.TheVariants as kind
use Rattle.v6_message.specs.declared.kind.ServerKind6.{ServerKind6}
use Rattle.v6_message.specs.declared.kind.ServerKind6.TheVariants.{Advertise, Reply}
use Rattle.v6_message.specs.Replies.{Content6}
use Rattle.v6_client.specs.V6Items.declared.asks.IaAsk.{IaAsk}
use Rattle.v6_client.specs.Answers.{has_bytes, is_from}
use Rattle.v6_client.specs.V6Items.Reading.{ia_for, saids_of, serves}
use Rattle.v6_client.specs.Saying.{SpokenContent}
use Rattle.v6_client.specs.Settings.{SettingsContent}
use Rattle.lease6_progress.specs.ClientTurns.{ClientTurn, Input6, Hears, Start, acts_in, begun, client_run, takes_in}

-- a message that waits for an answer, and when it was said for the first time
pub record Question : Type 0 where
  pub said : SpokenContent
  pub asked : ℕ

-- the messages by which items are asked for (sections 18.2.1, 18.2.2, 18.2.4 and 18.2.5)
abbrev pub is_asking : Kind6 → Bool
is_asking kind.Solicit = true
is_asking kind.Request = true
is_asking kind.Renew = true
is_asking kind.Rebind = true
is_asking kind.Release = false
is_asking kind.Decline = false

abbrev pub new_question : (at : ℕ) → SpokenContent → Question
new_question at said = record { said = said; asked = at }

-- Said again, with the same transaction id, it is the same question (section 16.1).
abbrev pub asked_anew : (at : ℕ) → SpokenContent → Option Question → Question
asked_anew at said None = new_question at said
asked_anew at said (Some pending) = if said.xid == pending.said.xid then pending else new_question at said

abbrev pub asked_by : (at : ℕ) → Option SpokenContent → Option Question → Option Question
asked_by at None pending = pending
asked_by at (Some said) pending = if is_asking said.kind then Some (asked_anew at said pending) else pending

-- ---- answers

-- a message of the exchange, to this client, of a server that a DUID tells, and of the one that was asked where one was
-- (sections 16.3 and 16.10)
abbrev pub is_answer : SettingsContent → SpokenContent → Content6 → Bool
is_answer settings said message =
    (said.xid == message.xid) && has_bytes message.client settings.duid && is_from said.server message.server

abbrev pub is_solicit : Kind6 → Bool
is_solicit kind.Solicit = true
is_solicit kind.Request = false
is_solicit kind.Renew = false
is_solicit kind.Rebind = false
is_solicit kind.Release = false
is_solicit kind.Decline = false

-- An Advertise answers a SOLICIT, where it serves what is asked for (section 18.2.9).
abbrev pub is_offer : SettingsContent → SpokenContent → Content6 → Bool
is_offer settings said message = is_answer settings said message && is_solicit said.kind && serves settings.asks message

-- A Reply may answer each such message; a SOLICIT where both have the Rapid Commit option (sections 18.2.1 and 21.14).
abbrev pub may_reply : Kind6 → (rapid : Bool) → Bool
may_reply kind.Solicit rapid = rapid
may_reply kind.Request rapid = true
may_reply kind.Renew rapid = true
may_reply kind.Rebind rapid = true
may_reply kind.Release rapid = false
may_reply kind.Decline rapid = false

-- what a message says of an IA that is asked for
abbrev pub said_for : IaAsk → Content6 → List ItemSaid
said_for ask message = saids_of (ia_for ask (ias_in message.options))

-- items, none of which is taken back by a valid lifetime of 0 (section 18.2.10.1)
abbrev pub gives_items : List ItemSaid → Bool
gives_items [] = false
gives_items (said ∷ saids) = list_all (λ item. not (item.valid == 0)) (said ∷ saids)

-- It gives items of some IA that is asked for.
abbrev pub gives : List IaAsk → Content6 → Bool
gives asks message = list_any (λ ask. gives_items (said_for ask message)) asks

abbrev pub is_grant : SettingsContent → SpokenContent → Content6 → Bool
is_grant settings said message =
    is_answer settings said message
    && (may_reply said.kind (message.rapid && said.rapid) && serves settings.asks message)
    && gives settings.asks message

abbrev pub answers : ServerKind6 → SettingsContent → SpokenContent → Content6 → Bool
answers Advertise settings said message = is_offer settings said message
answers Reply settings said message = is_grant settings said message

-- the question, unless the message answers it
abbrev pub unanswered : SettingsContent → Content6 → Option Question → Option Question
unanswered settings message None = None
unanswered settings message (Some pending) =
    if answers message.kind settings pending.said message then None else Some pending

abbrev pub left_by : SettingsContent → Input6 → Option Question → Option Question
left_by settings (Hears message) pending = unanswered settings message pending
left_by settings _ pending = pending

-- ---- turns

-- The question that is pending after some turns: the last one, unless it was answered. In a turn the client may ask,
-- may be answered, and may ask anew.
abbrev pub question_in : Start → List ClientTurn → Option Question
question_in s [] = asked_by s.at (begun s).out.say None
question_in s (turn ∷ past) =
    let c = client_run s past in
    asked_by turn.at (takes_in turn c).out.say
    (left_by s.settings turn.input (asked_by turn.at (acts_in turn c).out.say (question_in s past)))
