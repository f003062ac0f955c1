-- What the client reads of a server's message is what the message gives, both ways.
use Rattle.std.specs.Prelude.{◌≡◌, ℕ, List, Option, Some}
use Rattle.std.specs.Bool.{Decides}
use Rattle.std.specs.List.{Contains}
use Rattle.v6_options.specs.declared.ia.ItemSaid.{ItemSaid}
use Rattle.v6_options.specs.Ias.{IaContent}
use Rattle.v6_client.specs.V6Message.Replies.{Content6}
use Rattle.lease6_text.specs.declared.lease.Item6.{Item6}
use Rattle.lease6_text.specs.Leases.{Lease6Content}
use Rattle.v6_items.specs.declared.asks.IaAsk.{IaAsk}
use Rattle.v6_client.specs.Answers.{meeting_of, server_of}
use Rattle.v6_client.specs.Calls.{fresh_in}
use Rattle.v6_client.specs.Clients.{ClientContent}
use Rattle.v6_items.specs.Reading.{ia_for, is_unbound, saids_of, serves}
use Rattle.v6_items.specs.Taking.{IaTaking, Meeting, spans_granted, t1_granted, t2_granted, taken_from}
use Rattle.v6_client_laws.specs.GivenItems.{GivesItem, HasNoBinding, NamesServer, Serves}
use Rattle.v6_client_laws.specs.GivenTimes.{AreTimes}
use Rattle.v6_client_laws.specs.Least.{LeastOf}
use Rattle.v6_client_laws.specs.TakenItems.{IsPreferredFor, Takes}

-- of an IA those items count that the message gives
pub record ReadsItems (ask : IaAsk) (ias : List IaContent) (held : ItemSaid) : Type 0 where
  pub sound : Contains (saids_of (ia_for ask ias)) held → GivesItem ask.kind ask.iaid ias held
  pub whole : GivesItem ask.kind ask.iaid ias held → Contains (saids_of (ia_for ask ias)) held

abbrev pub ItemsAreGiven : Type 0
ItemsAreGiven = (ask : IaAsk) (ias : List IaContent) (held : ItemSaid) → ReadsItems ask ias held

abbrev pub BindingsAreKnown : Type 0
BindingsAreKnown =
    (ask : IaAsk) (ias : List IaContent) → Decides (is_unbound (ia_for ask ias)) (HasNoBinding ask.kind ask.iaid ias)

abbrev pub MessagesServe : Type 0
MessagesServe = (asks : List IaAsk) (message : Content6) → Decides (serves asks message) (Serves asks message)

pub record ReadsServer (message : Content6) (server : List ℕ) : Type 0 where
  pub sound : server_of message ≡ Some server → NamesServer message server
  pub whole : NamesServer message server → server_of message ≡ Some server

abbrev pub ServersAreNamed : Type 0
ServersAreNamed = (message : Content6) (server : List ℕ) → ReadsServer message server

-- ---- items that are taken

-- the items are these, and the shortest lifetime is the least of those that were held
pub record IsTaking (taking : IaTaking) (held : List Item6) (set : List ItemSaid) : Type 0 where
  pub items : taking.items ≡ held
  pub shortest : LeastOf (IsPreferredFor set) taking.shortest

pub record TakesItems (at : ℕ) (had : List Item6) (saids : List ItemSaid) : Type 0 where
  pub set : List ItemSaid
  pub takes : Takes at had saids (taken_from at had saids).items set
  pub whole : (held : List Item6) (others : List ItemSaid) → Takes at had saids held others
      → IsTaking (taken_from at had saids) held others

abbrev pub ItemsAreTaken : Type 0
ItemsAreTaken = (at : ℕ) (had : List Item6) (saids : List ItemSaid) → TakesItems at had saids

-- ---- times

-- a lease gets the times that a Reply tells, and these are the only ones
pub record GetsTimes (m : Meeting) (asks : List IaAsk) : Type 0 where
  pub sound : AreTimes m asks (t1_granted m (spans_granted m asks)) (t2_granted m (spans_granted m asks))
  pub whole : (t1 t2 : Option ℕ) → AreTimes m asks t1 t2
      → (t1 ≡ t1_granted m (spans_granted m asks)) × (t2 ≡ t2_granted m (spans_granted m asks))

abbrev pub TimesAreTold : Type 0
TimesAreTold = (m : Meeting) (asks : List IaAsk) → GetsTimes m asks

-- ---- the lease

pub record IsGranted (at : ℕ) (c : ClientContent) (message : Content6) (lease : Lease6Content) : Type 0 where
  pub serves : Serves c.settings.asks message
  pub server : NamesServer message lease.server
  pub times : AreTimes (meeting_of at c message) c.settings.asks lease.t1 lease.t2

-- so the lease that a Reply grants
abbrev pub LeasesAreGranted : Type 0
LeasesAreGranted =
    (at : ℕ) (c : ClientContent) (message : Content6) (lease : Lease6Content) → fresh_in at c message ≡ Some lease
    → IsGranted at c message lease
