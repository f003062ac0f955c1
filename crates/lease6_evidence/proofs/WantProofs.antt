-- What the basis of an item can't do without.
use Rattle.std.proofs.Common.{◌≡◌, ℕ, inl, inr, Bool, true, false, not, ◌||◌, List, [], ◌∷◌, ◌++◌, Option, Some, None, map, refl, sym, ap, subst, ◌∙◌, bytes_eq}
use Rattle.std.specs.Prelude.{if◌then◌else◌}
use Rattle.std.specs.List.{AllByRecursion, list_all}
use Rattle.std.proofs.lemmas.Bool.{and_parts}
use Rattle.std.proofs.lemmas.List.Folds.{list_all-append}
use Rattle.std.proofs.lemmas.Slice.Eq.{bytes_eq-Decides}
use Rattle.machine.specs.Since.{Always}
use Rattle.v6_options.specs.Ias.{ias_in}
use Rattle.v6_message.specs.Replies.{Content6}
use Rattle.v6_frames.specs.Spelled.{Sent6}
use Rattle.v6_client.specs.Answers.{is_duid}
use Rattle.v6_client.specs.V6Items.Reading.{serves}
use Rattle.v6_client_laws.specs.GivenItems.{Serves}
use Rattle.v6_client_laws.proofs.Given.{items_are_given, messages_serve}
use Rattle.lease_evidence.specs.EvidenceWords.Entries.{Entry, Offer}
use Rattle.lease_evidence.specs.EvidenceWords.IfaceLives.{now_in}
use Rattle.lease_evidence.specs.EvidenceWords.Inputs.{Site, offers_at}
use Rattle.lease6_evidence.specs.Ends6.{WasAnswered}
use Rattle.lease6_evidence.specs.Exchanges6.{Numbered6, Seen6, asks, asks_reply, closes6, message6_of, seen6_in, show6, shows6}
use Rattle.lease6_evidence.specs.ItemBasis.{Gives, Leaves}
use Rattle.lease6_evidence.specs.Laws6.{Names}
use Rattle.lease6_evidence.specs.Replies6.{NoReply, answers, asks_at, is_from, is_reply}
use Rattle.lease6_evidence.specs.Wanting6.{AddressesAreAsked, AsksNothing, FirstAloneGives, GivesNothing, HearsIdle6, HearsNot, HeldItemsAreAsked, IsIdle6, IsOfOther, IsSilent6, NeedsItsName}
use Rattle.lease6_evidence.proofs.EndProofs.{none_not, opposite}
use Rattle.lease6_evidence.proofs.LawProofs.{named, needs_reply, never}
use Rattle.lease6_evidence.proofs.ReplyParts.{IsAnswer, answer_parts}

-- ---- an exchange of one's own

module _ (site : Site) where
  stays_none : (message : Option Sent6) (seen : Seen6)
      → ((sent : Sent6) → message ≡ Some sent → asks_reply sent.said.kind sent.said.rapid ≡ false) → seen.current ≡ None
      → (shows6 message seen).current ≡ None
  stays_none None seen silent h = h
  stays_none (Some sent) seen silent h =
      ap (λ (b : Bool). (if b then asks sent.said seen seen.current else closes6 seen).current) (silent sent refl)

  all_silent : (offers : List Offer) (seen : Seen6) → AllByRecursion (AsksNothing site) offers → seen.current ≡ None
      → (show6 (map (message6_of site) offers) seen).current ≡ None
  all_silent [] seen all h = h
  all_silent (o ∷ offers) seen all h =
      all_silent offers (shows6 (message6_of site o) seen) all.1 (stays_none (message6_of site o) seen all.0 h)

  none_open : (past : List Entry) → Always (IsSilent6 site) past → (seen6_in site past).current ≡ None
  none_open [] all = refl
  none_open (e ∷ past) all = all_silent (offers_at site e) (seen6_in site past) all.0 (none_open past all.1)

pub silent_gives_nothing : GivesNothing IsSilent6
silent_gives_nothing site ask net now [] all h = h
silent_gives_nothing site ask net now (e ∷ past) all h = elim h [
  | inl q ↦ none_not (seen6_in site (e ∷ past)).current q.opened (none_open site (e ∷ past) all) q.reply.good.is_open
  | inr later ↦ silent_gives_nothing site ask net now past all.1 later.1
]

-- ---- a Reply that counts

nameless : (servers : List (List ℕ)) (told : Option (List ℕ)) → is_from servers told ≡ true
    → ((server : List ℕ) → told ≡ Some server → is_duid server ≡ false) → ⊥
nameless servers None h none = cc
nameless servers (Some server) h none =
    opposite (is_duid server) (and_parts (is_duid server) (list_all (λ named. bytes_eq server named) servers) h).0 (none server refl)

of_named : (server : List ℕ) (before : List (List ℕ)) (named : List ℕ) (after : List (List ℕ))
    → list_all (λ named. bytes_eq server named) (before ++ named ∷ after) ≡ true → server ≡ named
of_named server before named after h =
    let test : List ℕ → Bool = λ named. bytes_eq server named in
    let parts = and_parts (list_all test before) (list_all test (named ∷ after)) (sym (list_all-append test before (named ∷ after)) ∙ h) in
    (bytes_eq-Decides server named).0 (and_parts (bytes_eq server named) (list_all test after) parts.1).0

not_other : (opened : Numbered6) (message : Content6) → is_from opened.exchange.servers message.server ≡ true
    → IsOfOther opened message → ⊥
not_other opened message h other =
    let server : is_from opened.exchange.servers (Some other.server) ≡ true =
    subst (λ (told : Option (List ℕ)). is_from opened.exchange.servers told ≡ true) other.is_its h in
    let each : list_all (λ named. bytes_eq other.server named) opened.exchange.servers ≡ true =
    (and_parts (is_duid other.server) (list_all (λ named. bytes_eq other.server named) opened.exchange.servers) server).1 in
    other.other (of_named other.server other.before other.named other.after
    (subst (λ (servers : List (List ℕ)). list_all (λ named. bytes_eq other.server named) servers ≡ true) other.cut each))

hasty : (rapid solicits : Bool) → (rapid || not solicits) ≡ true → solicits ≡ true → rapid ≡ false → ⊥
hasty true solicits h s r = cc
hasty false true h s r = cc
hasty false false h s r = cc

not_idle : (site : Site) (opened : Numbered6) (message : Content6) → answers site opened.exchange message ≡ true
    → Serves (asks_at site) message → IsIdle6 site opened message → ⊥
not_idle site opened message good served idle =
    let parts : IsAnswer site opened.exchange message = answer_parts site opened.exchange message good in
    elim idle [
      | inl kind ↦ opposite (is_reply message.kind) parts.reply (ap is_reply kind)
      | inr more ↦ elim more [
        | inl none ↦ nameless opened.exchange.servers message.server parts.server none
        | inr more ↦ elim more [
          | inl other ↦ not_other opened message parts.server other
          | inr more ↦ elim more [
            | inl soon ↦ hasty message.rapid opened.exchange.solicits parts.rapid soon.solicits soon.plain
            | inr nothing ↦ opposite (serves (asks_at site) message) ((messages_serve (asks_at site) message).1 served) nothing
          ]
        ]
      ]
    ]

pub idle_gives_nothing : GivesNothing HearsIdle6
idle_gives_nothing site ask net now past idle basis =
    never (Leaves site ask net) (Gives site ask net now) (HearsIdle6 site)
    (λ e earlier n gives.
    let good = gives.reply.good in
    not_idle site gives.opened gives.message good.good good.serves (n gives.opened gives.message good.is_open good.came)) past idle basis

-- what holds of each turn holds of one among them
pub at_cut : {A : Type 0} (P : A → List A → Type 0) (later : List A) (e : A) (earlier : List A) → Always P (later ++ e ∷ earlier) → P e earlier
at_cut P [] e earlier all = all.0
at_cut P (l ∷ later) e earlier all = at_cut P later e earlier all.1

was_not : (site : Site) (number : ℕ) (past : List Entry) → Always (NoReply site number) past → WasAnswered site number past → ⊥
was_not site number past none was =
    at_cut (NoReply site number) was.later was.e was.earlier
    (subst (λ (turns : List Entry). Always (NoReply site number) turns) was.cut none) was.opened was.message was.good was.same

pub first_alone_gives : FirstAloneGives
first_alone_gives site ask net now past second basis =
    never (Leaves site ask net) (Gives site ask net now)
    (λ e earlier. (names : Names site ask net e earlier) → WasAnswered site names.opened.number earlier)
    (λ e earlier n gives.
    was_not site gives.opened.number earlier gives.reply.first (n (named site ask net now e earlier gives))) past second basis

-- ---- the item itself

pub needs_its_name : NeedsItsName
needs_its_name site ask net now past none basis =
    never (Leaves site ask net) (Gives site ask net now) (HearsNot site ask net)
    (λ e earlier n gives.
    n gives.message gives.mentions.said gives.reply.good.came
    ((items_are_given ask (ias_in gives.message.options) gives.mentions.said).whole gives.mentions.gives) gives.mentions.item) past
    none basis

pub addresses_are_asked : AddressesAreAsked
addresses_are_asked site net now past none basis =
    needs_reply site basis.ask basis.item now past (none basis.ask basis.item basis.asked basis.is_address basis.is_item) basis.basis

pub held_items_are_asked : HeldItemsAreAsked
held_items_are_asked site ia item past none held =
    needs_reply site held.ask item.net (now_in past) past (none held.ask held.asked held.kind held.iaid) held.basis
