-- A message that is foreign changes nothing, and a lease comes by a Reply that is taken alone.
use Rattle.std.proofs.Common.{◌≡◌, ℕ, ◌⊎◌, inl, inr, Bool, true, false, not, cond, ◌&&◌, List, Option, Some, None, option_map, refl, sym, ap, ◌∙◌}
use Rattle.std.proofs.lemmas.Bool.{and_parts, eqb-true}
use Rattle.std.proofs.lemmas.Slice.Eq.{bytes_eq-Decides}
use Rattle.net_types.proofs.CaseLaws.{split}
use Rattle.v6_message.specs.declared.kind.ServerKind6.{ServerKind6}
use Rattle.v6_message.specs.declared.kind.ServerKind6.TheVariants.{Advertise, Reply}
use Rattle.v6_message.specs.Replies.{Content6}
use Rattle.lease6_text.specs.Leases.{Lease6Content}
use Rattle.v6_client.specs.declared.states.Carrier6.TheVariants.{Up, Down}
use Rattle.v6_items.specs.declared.scope.Cause6.{Cause6}
use Rattle.v6_items.specs.declared.scope.Cause6.TheVariants.{Lapse}
use Rattle.v6_client.specs.declared.states.Keep6.{Keep6}
use Rattle.v6_client.specs.declared.states.Keep6.TheVariants.{Stays, Clears, Takes}
use Rattle.v6_items.specs.declared.scope.Parting6.{Parting6}
use Rattle.v6_client.specs.declared.states.Step6.{Step6}
use Rattle.v6_client.specs.Answers.{advertise_answer, advertised, awaited, chosen, counts, has_bytes, is_awaited, is_from, is_taken, learnt}
use Rattle.v6_client.specs.Calls.{IsAnswered, fresh_in, pruned, pruned_lease, stands_at}
use Rattle.v6_client.specs.Clients.{ClientContent, holds, is_at_end}
use Rattle.v6_client.specs.Hearing.{is_kept_offer}
use Rattle.v6_client.specs.Laws.{BeginsBringNothing, BringsNothing, CameFrom, IgnoresForeign, IsForeign, IsGranting, KeepsGranted, TicksBringNothing}
use Rattle.v6_client.specs.Moves.{IsStep6, OutContent, kept_after, lapsed, parting_at, thinned_lease}
use Rattle.v6_client.specs.Saying.{lease_server, plea_server}

-- ---- foreign messages

to_false : (b : Bool) → (b ≡ true → ⊥) → b ≡ false
to_false true never = absurd (never refl)
to_false false never = refl

awaits : (last : Option ℕ) (xid : ℕ) → is_awaited last xid ≡ true → last ≡ Some xid
awaits None xid e = absurd cc
awaits (Some before) xid e = ap Some (eqb-true before xid e)

has : (told : Option (List ℕ)) (bytes : List ℕ) → has_bytes told bytes ≡ true → told ≡ Some bytes
has None bytes e = absurd cc
has (Some told) bytes e = ap Some ((bytes_eq-Decides told bytes).0 e)

foreign : (c : ClientContent) (message : Content6) → IsForeign c message → counts c message ≡ true → ⊥
foreign c message (inl other) e =
    let parts = and_parts (is_awaited (awaited c.last c.state) message.xid && has_bytes message.client c.settings.duid)
    (is_from (chosen c.state (lease_server c.kept) (plea_server c.plea)) message.server) e in
    other (awaits (awaited c.last c.state) message.xid
    (and_parts (is_awaited (awaited c.last c.state) message.xid) (has_bytes message.client c.settings.duid) parts.0).0)
foreign c message (inr other) e =
    let parts = and_parts (is_awaited (awaited c.last c.state) message.xid && has_bytes message.client c.settings.duid)
    (is_from (chosen c.state (lease_server c.kept) (plea_server c.plea)) message.server) e in
    other (has message.client c.settings.duid
    (and_parts (is_awaited (awaited c.last c.state) message.xid) (has_bytes message.client c.settings.duid) parts.0).1)

pub ignores_foreign : IgnoresForeign
ignores_foreign c new message at salt out is hears = hears.ignores (to_false (counts c message) (foreign c message is))

-- ---- what a step keeps

kept_by : (keep : Keep6) (fresh kept : Option Lease6Content) (lease : Lease6Content) → kept_after keep fresh kept ≡ Some lease
    → (kept ≡ Some lease) ⊎ (fresh ≡ Some lease)
kept_by Stays fresh kept lease e = inl e
kept_by Clears fresh kept lease e = absurd cc
kept_by Takes fresh kept lease e = inr e

step_keeps : (step : Step6) (fresh : Option Lease6Content) (c new : ClientContent) (out : OutContent) (lease : Lease6Content)
    → IsStep6 step fresh c new out → new.kept ≡ Some lease → (c.kept ≡ Some lease) ⊎ (fresh ≡ Some lease)
step_keeps step fresh c new out lease goes e =
    kept_by step.keep fresh c.kept lease (sym (ap (λ (n : ClientContent). n.kept) goes.goes_on) ∙ e)

or_nothing : (P : Type 0) (lease : Lease6Content) → (P ⊎ (None ≡ Some lease)) → P
or_nothing P lease (inl p) = p
or_nothing P lease (inr e) = absurd cc

pub brings_nothing : BringsNothing
brings_nothing step c new out lease goes e =
    or_nothing (c.kept ≡ Some lease) lease (step_keeps step None c new out lease goes e)

-- ---- a message

advertised_keeps : (b : Bool) (c d : ClientContent) → d.kept ≡ c.kept → (cond b d c).kept ≡ c.kept
advertised_keeps true c d e = e
advertised_keeps false c d e = refl

taken_from : (taken : Bool) (found : Option Lease6Content) (lease : Lease6Content) → cond taken found None ≡ Some lease → taken ≡ true
taken_from true found lease e = refl
taken_from false found lease e = absurd cc

answered : (kind : ServerKind6) (c new : ClientContent) (message : Content6) (at salt : ℕ) (out : OutContent) (lease : Lease6Content)
    → message.kind ≡ kind → counts c message ≡ true → IsAnswered at salt message kind (learnt message.sol_max c) new out
    → new.kept ≡ Some lease → (c.kept ≡ Some lease) ⊎ IsGranting at message c lease
answered Advertise c new message at salt out lease kind counted goes e =
    let l : ClientContent = learnt message.sol_max c in
    inl (sym (advertised_keeps (is_kept_offer (advertise_answer l message) l.state) l _ refl)
    ∙ brings_nothing _ (advertised (advertise_answer l message) message l) new out lease goes e)
answered Reply c new message at salt out lease kind counted goes e =
    by_reply (step_keeps _ (fresh_in at (learnt message.sol_max c) message) (learnt message.sol_max c) new out lease goes e)
  where
    by_reply : ((c.kept ≡ Some lease) ⊎ (fresh_in at (learnt message.sol_max c) message ≡ Some lease))
        → (c.kept ≡ Some lease) ⊎ IsGranting at message c lease
    by_reply (inl kept) = inl kept
    by_reply (inr grants) = inr (record {
      counted = counted;
      reply = kind;
      taken = taken_from (is_taken (learnt message.sol_max c) message) _ lease grants;
      grants = grants;
    })

pub keeps_granted : KeepsGranted
keeps_granted c new message at salt out lease hears e =
    split (counts c message)
    (λ counted. answered message.kind c new message at salt out lease refl counted (hears.goes counted) e)
    (λ ignored. inl (sym (ap (λ (n : ClientContent). n.kept) (hears.ignores ignored).0) ∙ e))

-- ---- a tick

thin_from : (stays : Bool) (cause : Cause6) (kept : Option Lease6Content) (lease : Lease6Content)
    → cond stays (option_map (thinned_lease cause) kept) kept ≡ Some lease → CameFrom cause kept lease
thin_from true cause kept lease e = inr e
thin_from false cause kept lease e = inl e

lapse_from : (b : Bool) (at : ℕ) (stays : Bool) (c d : ClientContent) (lease : Lease6Content)
    → d.kept ≡ cond stays (option_map (thinned_lease (Lapse at)) c.kept) c.kept → (cond b d c).kept ≡ Some lease → CameFrom (Lapse at) c.kept lease
lapse_from true at stays c d lease same e = thin_from stays (Lapse at) c.kept lease (sym same ∙ e)
lapse_from false at stays c d lease same e = inl e

pub ticks_bring_nothing : TicksBringNothing
ticks_bring_nothing c new at salt out lease goes e =
    let parting : Parting6 = parting_at (Lapse at) c in
    lapse_from (holds c.state && parting.goes && not (is_at_end at c.state)) at parting.stays c _ lease refl
    (brings_nothing _ (lapsed at parting c) new out lease goes e)

-- ---- a begin

prune_from : (at : ℕ) (stands : Bool) (c : ClientContent) (lease : Lease6Content) → (pruned at stands c).kept ≡ Some lease
    → (c.kept ≡ Some lease) ⊎ (option_map (pruned_lease at c.settings.asks) c.kept ≡ Some lease)
prune_from at true c lease e = inr e
prune_from at false c lease e = inl e

pub begins_bring_nothing : BeginsBringNothing
begins_bring_nothing c new Up at salt out lease goes e =
    prune_from at (stands_at at c) c lease (brings_nothing _ (pruned at (stands_at at c) c) new out lease goes e)
begins_bring_nothing c new Down at salt out lease goes e = inl (brings_nothing _ c new out lease goes e)
