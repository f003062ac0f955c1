-- The turn that is found of an item is that of the Reply on which it rests.
use Rattle.std.proofs.Common.{◌≡◌, ℕ, suc, ◌<◌, inl, inr, Bool, true, false, ◌&&◌, ◌||◌, List, [], ◌∷◌, length, Option, Some, None, IfSome, refl, sym, ap, subst, ◌∙◌, arith}
use Rattle.std.specs.List.{Contains, list_any}
use Rattle.std.specs.Option.{is_some, option_map}
use Rattle.std.specs.Prelude.{◌==◌, if◌then◌else◌}
use Rattle.std.proofs.lemmas.Bool.{and_parts, and_from}
use Rattle.net_types.specs.declared.address.Net.{Net}
use Rattle.net_types.specs.declared.address.Net.TheVariants.{V6}
use Rattle.net_types.specs.declared.address.Net6.{Net6}
use Rattle.v6_options.specs.declared.ia.IaKind.{IaKind}
use Rattle.v6_options.specs.declared.ia.IaKind.TheVariants.{Na, Pd}
use Rattle.v6_message.specs.Replies.{Content6}
use Rattle.v6_items.specs.declared.asks.IaAsk.{IaAsk}
use Rattle.evidence_words.specs.Entries.{Entry}
use Rattle.evidence_words.specs.Inputs.{Site}
use Rattle.item_judge.specs.Lease6Evidence.Exchanges6.{Numbered6}
use Rattle.item_judge.specs.Lease6Evidence.ItemBasis.{Revises}
use Rattle.item_judge.specs.Lease6Evidence.Replies6.{FirstReply, asks_at}
use Rattle.item_judge.specs.Lease6Judge.HeardTerms.{heard_by, heard_in, if_unrevised, is_new, items_heard}
use Rattle.item_judge.specs.Lease6Judge.Terms.{Term, if_left, is_held, is_left, not_held, revises, term_in_saids}
use Rattle.item_judge.specs.Lease6Judge.Watching.{Replied, watch_in}
use Rattle.item_judge.proofs.Lease6Judge.HeardTold.{came_good, first_new, good_of, has_good}
use Rattle.item_judge.proofs.Lease6Judge.ItemsRead.{lasting_of}
use Rattle.item_judge.proofs.Lease6Judge.Judging.{is_left_on, left_parts, none_not, one_reply, opposite}
use Rattle.item_judge.proofs.Lease6Judge.TermsTold.{does_revise, given_in, held_longer}
use Rattle.item_judge.proofs.Giving.{addresses_given}
use Rattle.item_judge.specs.Hearing.{gives_by, holder_in, holder_of, holds_in}
use Rattle.item_judge.specs.Judging.{is_given, is_na}
use Rattle.basis_turns.specs.ItemFinds.{item_found, item_turns, reply_in}
use Rattle.basis_turns.specs.ItemLaws.{FoundItemsAreShown}
use Rattle.basis_turns.specs.ItemShown.{ItemShown, ItemSince}

module _ (site : Site) (ask : IaAsk) (net : Net6) (now : ℕ) (e : Entry) (past : List Entry) where
  abbrev answered : ℕ
  answered = (watch_in site past).answered

  abbrev kept : Term
  kept = if_left (is_left site ask net e (watch_in site past).up) (heard_in site ask net past)

  abbrev given : Content6 → Term
  given message = term_in_saids e.moment net (items_heard ask message)

  abbrev reply_now : Bool → ℕ
  reply_now b = if b then length past else reply_in site ask net now past

  abbrev Unrevised : Type 0
  Unrevised = (opened : Numbered6) (message : Content6) → FirstReply site opened message e past → Revises ask net message → ⊥

  abbrev Before : Type 0
  Before = is_held now (heard_in site ask net past) ≡ true → ItemSince (reply_in site ask net now past) site ask net now past

  stays_so : Unrevised → Before → is_held now kept ≡ true → ItemSince (reply_in site ask net now past) site ask net now (e ∷ past)
  stays_so unrevised was h =
      let parts = left_parts (is_left site ask net e (watch_in site past).up) (heard_in site ask net past) now h in
      let on = is_left_on site ask net now e past parts.0 in
      let basis = was parts.1 in
      record {
        number = basis.number;
        since = inr (
          record { stays = on.0; own = on.1; unrevised = λ opened message first less rev. unrevised opened message first rev },
          basis.since,
        );
      }

  gives_so : (r : Replied) → came_good site e past ≡ Some r → is_held now (given r.message) ≡ true → ItemSince (length past) site ask net now (e ∷ past)
  gives_so r is h =
      let lasting = lasting_of ask net e.moment now r.message (given_in e.moment net now (items_heard ask r.message) h) in
      record {
        number = r.opened.number;
        since = inl (
          refl,
          record {
            opened = r.opened;
            message = r.message;
            good = good_of site e past r is;
            same = refl;
            has = lasting.has;
            some = lasting.some;
            valid = lasting.valid;
          },
        );
      }

  revised_so : (r : Replied) → came_good site e past ≡ Some r → (is_new answered r && revises ask net r.message) ≡ false → Unrevised
  revised_so r is none opened message first rev =
      let one : record { opened = opened; message = message } ≡ r =
      one_reply (came_good site e past) (record { opened = opened; message = message }) r (has_good site e past opened message first.good) is in
      opposite (is_new answered r && revises ask net r.message)
      (subst (λ (x : Replied). (is_new answered x && revises ask net x.message) ≡ true) one
      (and_from (is_new answered (record { opened = opened; message = message })) (revises ask net message)
      (first_new site e past opened message first) (does_revise ask net message rev))) none

  stood : (r : Replied) → came_good site e past ≡ Some r → Before → (b : Bool) → (is_new answered r && revises ask net r.message) ≡ b
      → is_held now (if b then not_held else kept) ≡ true → ItemSince (reply_in site ask net now past) site ask net now (e ∷ past)
  stood r is was true rev h = absurd cc
  stood r is was false rev h = stays_so (revised_so r is rev) was h

  unless_given : (given kept : Bool) → given ≡ false → (given || kept) ≡ true → kept ≡ true
  unless_given true kept n h = absurd cc
  unless_given false kept n h = h

  by_reply : (r : Replied) → came_good site e past ≡ Some r → Before → (b : Bool) → is_held now (given r.message) ≡ b
      → is_held now (heard_by e.moment answered ask net (Some r) kept) ≡ true → ItemSince (reply_now b) site ask net now (e ∷ past)
  by_reply r is was true g h = gives_so r is g
  by_reply r is was false g h =
      stood r is was (is_new answered r && revises ask net r.message) refl
      (unless_given (is_held now (given r.message)) (is_held now (if_unrevised (is_new answered r) ask net r.message kept)) g
      (sym (held_longer now (given r.message) (if_unrevised (is_new answered r) ask net r.message kept)) ∙ h))

  based : Before → (k : Option Replied) → came_good site e past ≡ k → is_held now (heard_by e.moment answered ask net k kept) ≡ true
      → ItemSince (reply_now (gives_by e.moment ask net now k)) site ask net now (e ∷ past)
  based was None is h =
      stays_so (λ opened message first rev.
      none_not (came_good site e past) (record { opened = opened; message = message }) is (has_good site e past opened message first.good)) was h
  based was (Some r) is h = by_reply r is was (is_held now (given r.message)) refl h

pub since_reply : (site : Site) (ask : IaAsk) (net : Net6) (now : ℕ) (past : List Entry) → is_held now (heard_in site ask net past) ≡ true
    → ItemSince (reply_in site ask net now past) site ask net now past
since_reply site ask net now [] h = absurd cc
since_reply site ask net now (e ∷ past) h = based site ask net now e past (since_reply site ask net now past) (came_good site e past) refl h

-- ---- the IA

na_of : (kind : IaKind) → is_na kind ≡ true → kind ≡ Na
na_of Na h = refl
na_of Pd h = absurd cc

one_of : {A : Type 0} (a b : A) → Some a ≡ Some b → a ≡ b
one_of a b h = cc

module _ (site : Site) (net : Net6) (now : ℕ) (past : List Entry) where
  record IsHolder (asks : List IaAsk) (ask : IaAsk) : Type 0 where
    among : Contains asks ask
    holds : holds_in site net now past ask ≡ true

  later : (first : IaAsk) (asks : List IaAsk) (ask : IaAsk) → IsHolder asks ask → IsHolder (first ∷ asks) ask
  later first asks ask h = record {
    among = (suc h.among.0, (let less : h.among.0 < length asks = h.among.1 in omega (arith, less)), h.among.2);
    holds = h.holds;
  }

  holder_by : (first : IaAsk) (asks : List IaAsk) (ask : IaAsk) → ((o : IaAsk) → holder_of site net now past asks ≡ Some o → IsHolder asks o)
      → (b : Bool) → holds_in site net now past first ≡ b → (if b then Some first else holder_of site net now past asks) ≡ Some ask
      → IsHolder (first ∷ asks) ask
  holder_by first asks ask more true is h =
      subst (λ (a : IaAsk). IsHolder (first ∷ asks) a) (one_of first ask h) (record { among = (0, omega arith, refl); holds = is })
  holder_by first asks ask more false is h = later first asks ask (more ask h)

  holder_is : (asks : List IaAsk) (ask : IaAsk) → holder_of site net now past asks ≡ Some ask → IsHolder asks ask
  holder_is [] ask h = absurd cc
  holder_is (first ∷ asks) ask h =
      holder_by first asks ask (λ o is. holder_is asks o is) (holds_in site net now past first) refl h

  shown_by : (k : Option IaAsk) → holder_in site net now past ≡ k
      → IfSome (option_map (item_turns site net now past) k) (λ turns. ItemShown turns site (V6 net) now past)
  shown_by None is = tt
  shown_by (Some ask) is =
      let it = holder_is (asks_at site) ask is in
      let parts = and_parts (is_na ask.kind && (net.len == 128)) (is_held now (heard_in site ask net past)) it.holds in
      record {
        ask = ask;
        asked = it.among;
        is_address = na_of ask.kind (and_parts (is_na ask.kind) (net.len == 128) parts.0).0;
        iaid = refl;
        item = net;
        is_item = refl;
        basis = since_reply site ask net now past parts.1;
      }

  pub item_shown : IfSome (item_found site net now past) (λ turns. ItemShown turns site (V6 net) now past)
  item_shown = shown_by (holder_in site net now past) refl

  some_map : (k : Option IaAsk) → is_some (option_map (item_turns site net now past) k) ≡ is_some k
  some_map None = refl
  some_map (Some ask) = refl

  either : (b : Bool) (first : IaAsk) (rest : Option IaAsk) → is_some (if b then Some first else rest) ≡ (b || is_some rest)
  either true first rest = refl
  either false first rest = refl

  any_holds : (asks : List IaAsk) → is_some (holder_of site net now past asks) ≡ list_any (holds_in site net now past) asks
  any_holds [] = refl
  any_holds (ask ∷ asks) =
      either (holds_in site net now past ask) ask (holder_of site net now past asks)
      ∙ ap (λ (b : Bool). holds_in site net now past ask || b) (any_holds asks)

  -- it is found where an address is given
  pub item_some : is_some (item_found site net now past) ≡ is_given site (V6 net) now past
  item_some = some_map (holder_in site net now past) ∙ any_holds (asks_at site)

pub found_shown : FoundItemsAreShown
found_shown site net now past = record {
  shown = item_shown site net now past;
  all = (
    λ found. (addresses_given site (V6 net) now past).0 (sym (item_some site net now past) ∙ found),
    λ basis. item_some site net now past ∙ (addresses_given site (V6 net) now past).1 basis,
  );
}
