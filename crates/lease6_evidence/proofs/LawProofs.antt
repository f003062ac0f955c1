-- The laws of the basis.
use Rattle.std.proofs.Common.{◌≡◌, ℕ, ◌+◌, ◌*◌, ◌≤◌, inl, inr, true, List, [], ◌∷◌, arith}
use Rattle.machine.specs.Since.{Since, Always}
use Rattle.net_types.specs.declared.address.Net6.{Net6}
use Rattle.v6_message.specs.Replies.{Content6}
use Rattle.v6_client.specs.V6Items.declared.asks.IaAsk.{IaAsk}
use Rattle.v6_client.specs.V6Items.declared.times.TheConstants.{SECOND}
use Rattle.lease_evidence.specs.EvidenceWords.Entries.{Entry}
use Rattle.lease_evidence.specs.EvidenceWords.Inputs.{Site}
use Rattle.lease6_evidence.specs.Exchanges6.{Numbered6}
use Rattle.lease6_evidence.specs.ItemBasis.{Gives, IsValid, Leaves}
use Rattle.lease6_evidence.specs.Laws6.{EndsWithValid, ForeignGivesNothing6, HearsForeign6, IsForeign6, IsOver, Names, NeedsReply}
use Rattle.lease6_evidence.specs.Replies6.{answers}
use Rattle.lease6_evidence.proofs.ReplyParts.{IsAnswer, answer_parts, has_client, same_xid}

-- what no entry is hasn't begun
pub never : {A : Type 0} (P Q N : A → List A → Type 0) → ((e : A) (earlier : List A) → N e earlier → Q e earlier → ⊥)
    → (past : List A)
    → Always N past → Since P Q past → ⊥
never P Q N f [] none h = h
never P Q N f (e ∷ past) none h = elim h [ inl q ↦ f e past none.0 q | inr later ↦ never P Q N f past none.1 later.1 ]

abbrev pub named : (site : Site) (ask : IaAsk) (net : Net6) (now : ℕ) (e : Entry) (past : List Entry)
    → Gives site ask net now e past → Names site ask net e past
named site ask net now e past gives =
    record { opened = gives.opened; message = gives.message; good = gives.reply.good; mentions = gives.mentions }

pub needs_reply : NeedsReply
needs_reply site ask net now past none basis =
    never (Leaves site ask net) (Gives site ask net now) (λ e earlier. Names site ask net e earlier → ⊥)
    (λ e earlier n gives. n (named site ask net now e earlier gives)) past none basis

is_over : (came valid now : ℕ) → IsOver came valid now → IsValid came valid now → ⊥
is_over came valid now over (inl endless) = over.ends endless
is_over came valid now over (inr early) = let late : came + SECOND * valid ≤ now = over.over in omega (arith, early, late)

pub ends_with_valid : EndsWithValid
ends_with_valid site ask net now past over basis =
    never (Leaves site ask net) (Gives site ask net now)
    (λ e earlier. (names : Names site ask net e earlier) → IsOver e.moment names.mentions.said.valid now)
    (λ e earlier n gives. is_over e.moment gives.mentions.said.valid now (n (named site ask net now e earlier gives))
    gives.valid) past over basis

not_foreign : (site : Site) (opened : Numbered6) (message : Content6) → answers site opened.exchange message ≡ true
    → IsForeign6 site opened message → ⊥
not_foreign site opened message good foreign =
    let parts : IsAnswer site opened.exchange message = answer_parts site opened.exchange message good in
    elim foreign [
      | inl other ↦ other (same_xid message.xid opened.exchange.xid parts.xid)
      | inr client ↦ client (has_client message.client site.duid parts.client)
    ]

pub foreign_gives_nothing : ForeignGivesNothing6
foreign_gives_nothing site ask net now past foreign basis =
    never (Leaves site ask net) (Gives site ask net now) (HearsForeign6 site)
    (λ e earlier n gives.
    let good = gives.reply.good in
    not_foreign site gives.opened gives.message good.good (n gives.opened gives.message good.is_open good.came)) past foreign
    basis
