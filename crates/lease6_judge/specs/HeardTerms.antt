-- How long a judge of DHCPv6 leases holds one item by all that the Replies give (RFC 8415, sections 18.2.10 and
-- 18.2.10.1). Moments are in milliseconds.
use Rattle.std.specs.Prelude.{ℕ, Bool, not, ◌&&◌, ◌==◌, if◌then◌else◌, List, [], ◌∷◌, Option, Some, None}
use Rattle.std.specs.List.{filter_map, flat_map}
use Rattle.net_types.specs.declared.address.Net6.{Net6}
use Rattle.v6_options.specs.declared.ia.ItemSaid.{ItemSaid}
use Rattle.v6_options.specs.Ias.{IaContent, ias_in}
use Rattle.v6_message.specs.Replies.{Content6}
use Rattle.v6_client.specs.V6Items.declared.asks.IaAsk.{IaAsk}
use Rattle.v6_client.specs.V6Items.Reading.{is_for, is_readable, read_item, serves}
use Rattle.lease6_evidence.specs.EvidenceWords.Entries.{Entry}
use Rattle.lease6_evidence.specs.EvidenceWords.Inputs.{Site}
use Rattle.lease6_evidence.specs.Exchanges6.{Numbered6, messages6_at, show6}
use Rattle.lease6_evidence.specs.Replies6.{answers, asks_at, message6_at}
use Rattle.lease6_judge.specs.Watching.{Replied, Watch, watch_in}
use Rattle.lease6_judge.specs.Terms.{Term, not_held, if_left, is_left, longer, revises, term_in_saids}

-- ---- Replies

-- a good Reply of the open exchange, if that is what came
abbrev pub good_in : Site → Option Numbered6 → (came : Option Content6) → Option Replied
good_in site None came = None
good_in site (Some opened) None = None
good_in site (Some opened) (Some message) =
    if answers site opened.exchange message && serves (asks_at site) message
    then Some (record { opened = opened; message = message })
    else None

-- The interface's own messages of a turn count before the Reply that came in it.
abbrev pub good_reply : Site → Entry → Watch → Option Replied
good_reply site e watch = good_in site (show6 (messages6_at site e) watch.seen).current (message6_at site e)

-- whether its exchange had none before it
abbrev pub is_new : (answered : ℕ) → Replied → Bool
is_new answered replied = not (answered == replied.opened.number)

-- ---- what a message has

-- all items of an IA that are read
abbrev pub items_read : IaContent → List ItemSaid
items_read ia = if is_readable ia then filter_map (read_item ia.kind) ia.items else []

abbrev pub items_if_of : IaAsk → IaContent → List ItemSaid
items_if_of ask ia = if is_for ask ia then items_read ia else []

-- those of each IA of a kind and an IAID
abbrev pub all_items : IaAsk → List IaContent → List ItemSaid
all_items ask ias = flat_map (items_if_of ask) ias

abbrev pub items_heard : IaAsk → Content6 → List ItemSaid
items_heard ask message = all_items ask (ias_in message.options)

-- ---- turn by turn

-- The first good Reply of an exchange takes back what it revises.
abbrev pub if_unrevised : (is_new : Bool) → IaAsk → Net6 → Content6 → Term → Term
if_unrevised is_new ask net message term = if is_new && revises ask net message then not_held else term

-- Each good one gives all items that it has, beside what stands.
abbrev pub heard_from : (came : ℕ) → (is_new : Bool) → IaAsk → Net6 → Content6 → Term → Term
heard_from came is_new ask net message term =
    longer (term_in_saids came net (items_heard ask message)) (if_unrevised is_new ask net message term)

abbrev pub heard_by : (came answered : ℕ) → IaAsk → Net6 → Option Replied → Term → Term
heard_by came answered ask net None term = term
heard_by came answered ask net (Some replied) term =
    heard_from came (is_new answered replied) ask net replied.message term

abbrev pub heard_after : Site → IaAsk → Net6 → Entry → Watch → Term → Term
heard_after site ask net e watch term =
    heard_by e.moment watch.answered ask net (good_reply site e watch) (if_left (is_left site ask net e watch.up) term)

-- how long the item is held after some turns
abbrev pub heard_in : Site → IaAsk → Net6 → List Entry → Term
heard_in site ask net [] = not_held
heard_in site ask net (e ∷ past) = heard_after site ask net e (watch_in site past) (heard_in site ask net past)
