-- The laws of the judge.
use Rattle.std.proofs.Common.{◌≡◌, ℕ, inl, inr, Bool, true, false, List, [], ◌∷◌, Option, Some, None, refl, sym, ap, subst, ◌∙◌}
use Rattle.std.specs.Prelude.{if◌then◌else◌}
use Rattle.std.proofs.lemmas.Bool.{and_parts, and_from}
use Rattle.net_types.specs.declared.address.Net.{Net}
use Rattle.net_types.specs.declared.address.Net6.{Net6}
use Rattle.v6_options.specs.Ias.{ias_in}
use Rattle.v6_message.specs.Replies.{Content6}
use Rattle.v6_client.specs.V6Items.declared.asks.IaAsk.{IaAsk}
use Rattle.v6_client_laws.proofs.Given.{items_are_given}
use Rattle.lease6_evidence.specs.EvidenceWords.Entries.{Entry}
use Rattle.lease6_evidence.specs.EvidenceWords.Inputs.{GoesOn, Site, StaysOn, index_at}
use Rattle.lease6_evidence.specs.Ends6.{said_for}
use Rattle.lease6_evidence.specs.Exchanges6.{Numbered6}
use Rattle.lease6_evidence.specs.ItemBasis.{AddressBasis, Gives, ItemBasis, Leaves, NotContested, Revises}
use Rattle.lease6_evidence.specs.Replies6.{FirstReply}
use Rattle.lease6_judge.specs.Watching.{Replied, first_reply, watch_in}
use Rattle.lease6_judge.specs.Terms.{Term, hears, if_left, is_alone, is_held, is_left, revises, stays, term_in, term_in_saids}
use Rattle.lease6_judge.specs.Laws.{AddressesAreJudged, IsJudged, ItemsAreTold}
use Rattle.lease6_judge.proofs.Numbering.{has_first_reply, is_first_reply, up_is}
use Rattle.lease6_judge.proofs.TermsTold.{GivenIn, alone, does_alone, does_go, does_revise, given_in, goes, in_given, revised, said_among}

pub left_parts : (left : Bool) (term : Term) (now : ℕ) → is_held now (if_left left term) ≡ true → (left ≡ true) × (is_held now term ≡ true)
left_parts true term now h = (refl, h)
left_parts false term now h = absurd cc

pub both_left : (left : Bool) (term : Term) (now : ℕ) → left ≡ true → is_held now term ≡ true → is_held now (if_left left term) ≡ true
both_left true term now l h = h
both_left false term now l h = absurd cc

pub opposite : (b : Bool) → b ≡ true → b ≡ false → ⊥
opposite true t f = cc
opposite false t f = cc

pub none_not : (o : Option Replied) (r : Replied) → o ≡ None → o ≡ Some r → ⊥
none_not None r n s = cc
none_not (Some x) r n s = cc

pub one_reply : (o : Option Replied) (a b : Replied) → o ≡ Some a → o ≡ Some b → a ≡ b
one_reply None a b s t = absurd (none_not None a refl s)
one_reply (Some x) a b s t = cc

module _ (site : Site) (ask : IaAsk) (net : Net6) (now : ℕ) (e : Entry) (past : List Entry) where
  abbrev kept : Term
  kept = if_left (is_left site ask net e (watch_in site past).up) (term_in site ask net past)

  abbrev came_now : Option Replied
  came_now = first_reply site e (watch_in site past)

  -- ---- a turn that leaves what is held

  pub is_left_on : is_left site ask net e (watch_in site past).up ≡ true
      → StaysOn site e past × NotContested (index_at site) ask.kind net.ip e.event
  is_left_on h =
      let parts =
      and_parts (stays (watch_in site past).up (index_at site) e.event) (is_alone (index_at site) ask.kind net.ip e.event) h in (
        subst (λ (up : Bool). GoesOn up (index_at site) e.event) (up_is site past)
            (goes (watch_in site past).up (index_at site) e.event parts.0),
        alone (index_at site) ask.kind net.ip e.event parts.1,
      )

  pub left_is : StaysOn site e past → NotContested (index_at site) ask.kind net.ip e.event
      → is_left site ask net e (watch_in site past).up ≡ true
  left_is goes_on own =
      and_from (stays (watch_in site past).up (index_at site) e.event) (is_alone (index_at site) ask.kind net.ip e.event)
      (does_go (watch_in site past).up (index_at site) e.event
      (subst (λ (up : Bool). GoesOn up (index_at site) e.event) (sym (up_is site past)) goes_on))
      (does_alone (index_at site) ask.kind net.ip e.event own)

  -- ---- what is held has its basis

  abbrev Unrevised : Type 0
  Unrevised = (opened : Numbered6) (message : Content6) → FirstReply site opened message e past → Revises ask net message → ⊥

  stays_based : Unrevised → (is_held now (term_in site ask net past) ≡ true → ItemBasis site ask net now past)
      → is_held now kept ≡ true → ItemBasis site ask net now (e ∷ past)
  stays_based unrevised before h =
      let parts = left_parts (is_left site ask net e (watch_in site past).up) (term_in site ask net past) now h in
      let on = is_left_on parts.0 in
      inr (record { stays = on.0; own = on.1; unrevised = unrevised }, before parts.1)

  gives_now : (r : Replied) → came_now ≡ Some r → GivenIn e.moment net now (said_for ask r.message) → Gives site ask net now e past
  gives_now r is g = record {
    opened = r.opened;
    message = r.message;
    reply = is_first_reply site e past r.opened r.message is;
    mentions = record { said = g.said; gives = (items_are_given ask (ias_in r.message.options) g.said).sound g.among; item = g.item };
    some = g.some;
    valid = g.valid;
  }

  reply_unrevised : (r : Replied) → came_now ≡ Some r → revises ask net r.message ≡ false → Unrevised
  reply_unrevised r is silent opened message first rev =
      let one : record { opened = opened; message = message } ≡ r =
      one_reply came_now (record { opened = opened; message = message }) r (has_first_reply site e past opened message first) is in
      opposite (revises ask net r.message)
      (subst (λ (x : Replied). revises ask net x.message ≡ true) one (does_revise ask net message rev)) silent

  based_by : (r : Replied) → came_now ≡ Some r → (is_held now (term_in site ask net past) ≡ true → ItemBasis site ask net now past)
      → (b : Bool) → revises ask net r.message ≡ b
      → is_held now (if b then term_in_saids e.moment net (said_for ask r.message) else kept) ≡ true → ItemBasis site ask net now (e ∷ past)
  based_by r is before true rev h = inl (gives_now r is (given_in e.moment net now (said_for ask r.message) h))
  based_by r is before false rev h = stays_based (reply_unrevised r is rev) before h

  based : (is_held now (term_in site ask net past) ≡ true → ItemBasis site ask net now past) → (k : Option Replied) → came_now ≡ k
      → is_held now (hears e.moment ask net k kept) ≡ true → ItemBasis site ask net now (e ∷ past)
  based before None is h =
      stays_based (λ opened message first rev.
      none_not came_now (record { opened = opened; message = message }) is (has_first_reply site e past opened message first)) before h
  based before (Some r) is h = based_by r is before (revises ask net r.message) refl h

  -- ---- what has its basis is held

  given_held : Gives site ask net now e past → is_held now (hears e.moment ask net came_now kept) ≡ true
  given_held g =
      ap (λ (k : Option Replied). is_held now (hears e.moment ask net k kept)) (has_first_reply site e past g.opened g.message g.reply)
      ∙ ap (λ (b : Bool). is_held now (if b then term_in_saids e.moment net (said_for ask g.message) else kept))
      (does_revise ask net g.message (inl g.mentions))
      ∙ in_given e.moment net now (said_for ask g.message) (record {
        said = g.mentions.said;
        among = said_among ask net g.message g.mentions;
        item = g.mentions.item;
        some = g.some;
        valid = g.valid;
      })

  kept_by : (r : Replied) → came_now ≡ Some r → Leaves site ask net e past → is_held now kept ≡ true → (b : Bool)
      → revises ask net r.message ≡ b → is_held now (if b then term_in_saids e.moment net (said_for ask r.message) else kept) ≡ true
  kept_by r is leaves h true rev =
      absurd (leaves.unrevised r.opened r.message (is_first_reply site e past r.opened r.message is) (revised ask net r.message rev))
  kept_by r is leaves h false rev = h

  kept_held : Leaves site ask net e past → is_held now kept ≡ true → (k : Option Replied) → came_now ≡ k
      → is_held now (hears e.moment ask net k kept) ≡ true
  kept_held leaves h None is = h
  kept_held leaves h (Some r) is = kept_by r is leaves h (revises ask net r.message) refl

  left_held : Leaves site ask net e past → is_held now (term_in site ask net past) ≡ true
      → is_held now (hears e.moment ask net came_now kept) ≡ true
  left_held leaves h =
      kept_held leaves (both_left (is_left site ask net e (watch_in site past).up) (term_in site ask net past) now
      (left_is leaves.stays leaves.own) h) came_now refl

module _ (site : Site) (ask : IaAsk) (net : Net6) (now : ℕ) where
  sound : (past : List Entry) → is_held now (term_in site ask net past) ≡ true → ItemBasis site ask net now past
  sound [] h = absurd cc
  sound (e ∷ past) h = based site ask net now e past (sound past) (first_reply site e (watch_in site past)) refl h

  whole : (past : List Entry) → ItemBasis site ask net now past → is_held now (term_in site ask net past) ≡ true
  whole [] basis = absurd basis
  whole (e ∷ past) (inl g) = given_held site ask net now e past g
  whole (e ∷ past) (inr on) = left_held site ask net now e past on.0 (whole past on.1)

pub items_told : ItemsAreTold
items_told site ask net now past = (sound site ask net now past, whole site ask net now past)

judged : (site : Site) (net : Net) (now : ℕ) (past : List Entry) → AddressBasis site net now past → IsJudged site net now past
judged site net now past it = record {
  ask = it.ask;
  asked = it.asked;
  is_address = it.is_address;
  item = it.item;
  is_item = it.is_item;
  held = whole site it.ask it.item now past it.basis;
}

rests : (site : Site) (net : Net) (now : ℕ) (past : List Entry) → IsJudged site net now past → AddressBasis site net now past
rests site net now past it = record {
  ask = it.ask;
  asked = it.asked;
  is_address = it.is_address;
  item = it.item;
  is_item = it.is_item;
  basis = sound site it.ask it.item now past it.held;
}

pub addresses_judged : AddressesAreJudged
addresses_judged site net now past = (judged site net now past, rests site net now past)
