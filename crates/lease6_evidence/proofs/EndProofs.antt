-- What takes an item away ends its basis.
use Rattle.std.proofs.Common.{◌≡◌, ℕ, ◌<◌, inl, inr, Bool, true, false, ◌&&◌, List, [], ◌∷◌, ◌++◌, Option, Some, None, refl, ap, subst, ◌∙◌, arith}
use Rattle.std.specs.Prelude.{◌==◌, if◌then◌else◌, option_map}
use Rattle.std.specs.List.{Contains}
use Rattle.std.proofs.lemmas.Bool.{eqb-true, eq-eqb}
use Rattle.machine.specs.Since.{Always}
use Rattle.net_types.specs.declared.address.Ip6.{Ip6}
use Rattle.net_types.specs.declared.address.Net6.{Net6}
use Rattle.v6_options.specs.declared.ia.IaKind.{IaKind}
use Rattle.v6_options.specs.declared.ia.IaKind.TheVariants.{Na}
use Rattle.v6_options.specs.declared.ia.ItemSaid.{ItemSaid}
use Rattle.v6_options.specs.Ias.{IaContent, ias_in}
use Rattle.v6_options.specs.Statuses.{success}
use Rattle.v6_message.specs.Replies.{Content6}
use Rattle.v6_frames.specs.Heard.{HeardMessage6}
use Rattle.v6_client.specs.V6Items.declared.asks.IaAsk.{IaAsk}
use Rattle.v6_client.specs.V6Items.Reading.{are_ordered, front_items, is_unbound, no_binding, read_items, saids_of}
use Rattle.v6_client_laws.proofs.Given.{bindings_are_known, items_are_given}
use Rattle.world.specs.declared.wakes.Event.{Event}
use Rattle.world.specs.declared.wakes.Event.TheVariants.{Frame, Carrier, Duplicate, Release, Rebind, Stop, Quiet, End}
use Rattle.lease_evidence.specs.EvidenceWords.Entries.{Entry}
use Rattle.lease_evidence.specs.EvidenceWords.Inputs.{GoesOn, Site, carrier_after, has_carrier, index_at}
use Rattle.lease_evidence.specs.EvidenceWords.Probed.{EachAfter}
use Rattle.lease6_evidence.specs.Ends6.{Answers6, EndsBy, IsReleased, IsStopped, IsUnknown, IsUsedTwice, IsWithdrawn, LosesCarrier, NamesNot, WasAnswered, said_for}
use Rattle.lease6_evidence.specs.ItemBasis.{Gives, ItemBasis, Leaves, NotContested}
use Rattle.lease6_evidence.specs.Replies6.{FirstReply, NoReply, message6_at, message6_on}
use Rattle.lease6_evidence.proofs.LawProofs.{named}

-- ---- values

pub opposite : (b : Bool) → b ≡ true → b ≡ false → ⊥
opposite true t f = cc
opposite false t f = cc

pub none_not : {A : Type 0} (o : Option A) (x : A) → o ≡ None → o ≡ Some x → ⊥
none_not None x n s = cc
none_not (Some y) x n s = cc

same_message : (o : Option Content6) (a b : Content6) → o ≡ Some a → o ≡ Some b → a ≡ b
same_message None a b x y = absurd (none_not None a refl x)
same_message (Some z) a b x y = cc

-- ---- a turn that neither gives nor leaves

ends_at : (site : Site) (ask : IaAsk) (net : Net6) (now : ℕ) (later : List Entry) (e : Entry) (earlier : List Entry)
    → (Gives site ask net now e earlier → ⊥) → (Leaves site ask net e earlier → ⊥)
    → EachAfter (NamesNot site ask net) later (e ∷ earlier) → ItemBasis site ask net now (later ++ e ∷ earlier) → ⊥
ends_at site ask net now [] e earlier gives leaves none h = elim h [ inl q ↦ gives q | inr on ↦ leaves on.0 ]
ends_at site ask net now (l ∷ later) e earlier gives leaves none h = elim h [
  | inl q ↦ none.0 (named site ask net now l (later ++ e ∷ earlier) q)
  | inr on ↦ ends_at site ask net now later e earlier gives leaves none.1 on.1
]

abbrev EndsOf : (Takes : Site → IaAsk → Net6 → Entry → List Entry → Type 0) → Type 0
EndsOf Takes = (site : Site) (ask : IaAsk) (net : Net6) (now : ℕ) (e : Entry) (earlier : List Entry) → Takes site ask net e earlier
    → (Gives site ask net now e earlier → ⊥) × (Leaves site ask net e earlier → ⊥)

ends_by : (Takes : Site → IaAsk → Net6 → Entry → List Entry → Type 0) → EndsOf Takes → EndsBy Takes
ends_by Takes ends site ask net now past later e earlier cut takes none basis =
    let both = ends site ask net now e earlier takes in
    ends_at site ask net now later e earlier both.0 both.1 none (subst (λ (turns : List Entry). ItemBasis site ask net now turns) cut basis)

-- ---- inputs

-- what no message came with gives nothing
unheard : (site : Site) (ask : IaAsk) (net : Net6) (now : ℕ) (e : Entry) (earlier : List Entry) (event : Event) → e.event ≡ event
    → message6_on site event e.bytes ≡ None → Gives site ask net now e earlier → ⊥
unheard site ask net now e earlier event is none gives =
    let unheard_here : message6_at site e ≡ None =
    ap (λ (event : Event). option_map (λ (heard : HeardMessage6). heard.message) (message6_on site event e.bytes)) is
    ∙ ap (λ (heard : Option HeardMessage6). option_map (λ (heard : HeardMessage6). heard.message) heard) none in
    none_not (message6_at site e) gives.message unheard_here gives.reply.good.came

-- an input after which there is no carrier that there was before
carrier_case : (test up before : Bool) → before ≡ true → (if test then up else before) ≡ false
    → (test ≡ true → before ≡ true → up ≡ true) → ⊥
carrier_case true up before b a on = opposite up (on refl b) a
carrier_case false up before b a on = opposite before b a

pub lost_goes : (index : ℕ) (event : Event) (before : Bool) → before ≡ true → carrier_after index event before ≡ false
    → GoesOn before index event → ⊥
lost_goes index (Frame other len) before b a on = opposite before b a
lost_goes index (Carrier other up) before b a on =
    carrier_case (index == other) up before b a (λ same was. on (eqb-true index other same) was)
lost_goes index (Duplicate other addr) before b a on = opposite before b a
lost_goes index (Release other) before b a on = opposite before b a
lost_goes index (Rebind other) before b a on = opposite before b a
lost_goes index Stop before b a on = opposite before b a
lost_goes index Quiet before b a on = opposite before b a
lost_goes index End before b a on = opposite before b a

lost_unheard : (site : Site) (event : Event) (bytes : List ℕ) (before : Bool) → before ≡ true
    → carrier_after (index_at site) event before ≡ false → message6_on site event bytes ≡ None
lost_unheard site (Frame other len) bytes before b a = absurd (opposite before b a)
lost_unheard site (Carrier other up) bytes before b a = refl
lost_unheard site (Duplicate other addr) bytes before b a = refl
lost_unheard site (Release other) bytes before b a = refl
lost_unheard site (Rebind other) bytes before b a = refl
lost_unheard site Stop bytes before b a = refl
lost_unheard site Quiet bytes before b a = refl
lost_unheard site End bytes before b a = refl

carrier_ends : EndsOf LosesCarrier
carrier_ends site ask net now e earlier lost = (
  unheard site ask net now e earlier e.event refl (lost_unheard site e.event e.bytes (has_carrier site earlier) lost.before lost.after),
  λ leaves. lost_goes (index_at site) e.event (has_carrier site earlier) lost.before lost.after leaves.stays,
)

pub ends_with_the_carrier : EndsBy LosesCarrier
ends_with_the_carrier = ends_by LosesCarrier carrier_ends

release_ends : EndsOf IsReleased
release_ends site ask net now e earlier told = (
  unheard site ask net now e earlier (Release (index_at site)) told refl,
  λ leaves. subst (λ (event : Event). GoesOn (has_carrier site earlier) (index_at site) event) told leaves.stays refl,
)

pub ends_with_a_release : EndsBy IsReleased
ends_with_a_release = ends_by IsReleased release_ends

stop_ends : EndsOf IsStopped
stop_ends site ask net now e earlier told = (
  unheard site ask net now e earlier Stop told refl,
  λ leaves. subst (λ (event : Event). GoesOn (has_carrier site earlier) (index_at site) event) told leaves.stays,
)

pub ends_with_a_stop : EndsBy IsStopped
ends_with_a_stop = ends_by IsStopped stop_ends

used_contests : (index : ℕ) (kind : IaKind) (ip : Ip6) (event : Event) → kind ≡ Na → event ≡ Duplicate index ip
    → NotContested index kind ip event → ⊥
used_contests index kind ip event is_address told own =
    let here : NotContested index Na ip (Duplicate index ip) =
    subst (λ (event : Event). NotContested index Na ip event) told (subst (λ (kind : IaKind). NotContested index kind ip event) is_address own) in
    here refl refl

duplicate_ends : EndsOf IsUsedTwice
duplicate_ends site ask net now e earlier used = (
  unheard site ask net now e earlier (Duplicate (index_at site) net.ip) used.told refl,
  λ leaves. used_contests (index_at site) ask.kind net.ip e.event used.is_address used.told leaves.own,
)

pub ends_with_a_duplicate : EndsBy IsUsedTwice
ends_with_a_duplicate = ends_by IsUsedTwice duplicate_ends

-- ---- Replies

module _ (site : Site) (number : ℕ) where
  pub unanswered : (past : List Entry) → (WasAnswered site number past → ⊥) → Always (NoReply site number) past
  unanswered [] none = tt
  unanswered (e ∷ past) none = (
    λ opened message good same.
        none (record { later = []; e = e; earlier = past; cut = refl; opened = opened; message = message; good = good; same = same }),
    unanswered past (λ was.
        none (record {
          later = e ∷ was.later;
          e = was.e;
          earlier = was.earlier;
          cut = ap (λ (turns : List Entry). e ∷ turns) was.cut;
          opened = was.opened;
          message = was.message;
          good = was.good;
          same = was.same;
        })),
  )

first_of : (site : Site) (e : Entry) (past : List Entry) (reply : Answers6 site e past) → FirstReply site reply.opened reply.message e past
first_of site e past reply = record { good = reply.good; first = unanswered site reply.opened.number past reply.unanswered }

-- the message that gives is the one that came
module _ (site : Site) (ask : IaAsk) (net : Net6) (now : ℕ) (e : Entry) (earlier : List Entry) where
  given_is : (message : Content6) → message6_at site e ≡ Some message → (gives : Gives site ask net now e earlier) → gives.message ≡ message
  given_is message came gives = same_message (message6_at site e) gives.message message gives.reply.good.came came

  given_among : (message : Content6) → message6_at site e ≡ Some message → (gives : Gives site ask net now e earlier)
      → Contains (said_for ask message) gives.mentions.said
  given_among message came gives =
      subst (λ (m : Content6). Contains (said_for ask m) gives.mentions.said) (given_is message came gives)
      ((items_are_given ask (ias_in gives.message.options) gives.mentions.said).whole gives.mentions.gives)

  withdrawn_gives : IsWithdrawn site ask net e earlier → Gives site ask net now e earlier → ⊥
  withdrawn_gives gone gives =
      let zero_said : gives.mentions.said.valid ≡ 0 =
      gone.none gives.mentions.said (given_among gone.reply.message gone.reply.good.came gives) gives.mentions.item in
      let some : 0 < gives.mentions.said.valid = gives.some in
      omega (arith, zero_said, some)

  withdrawn_leaves : IsWithdrawn site ask net e earlier → Leaves site ask net e earlier → ⊥
  withdrawn_leaves gone leaves =
      leaves.unrevised gone.reply.opened gone.reply.message (first_of site e earlier gone.reply)
      (inl (record {
        said = gone.said;
        gives = (items_are_given ask (ias_in gone.reply.message.options) gone.said).sound gone.among;
        item = gone.item;
      }))

  nothing_said : (ia : IaContent) → ia.status ≡ no_binding → read_items ia ≡ []
  nothing_said ia status =
      ap (λ (n : ℕ). if (n == success) && are_ordered ia.t1 ia.t2 then front_items ia else []) status

  unknown_gives : IsUnknown site ask net e earlier → Gives site ask net now e earlier → ⊥
  unknown_gives gone gives =
      let none : said_for ask gone.reply.message ≡ [] = ap saids_of gone.is_its ∙ nothing_said gone.ia gone.status in
      let among : Contains [] gives.mentions.said =
      subst (λ (saids : List ItemSaid). Contains saids gives.mentions.said) none
      (given_among gone.reply.message gone.reply.good.came gives) in
      omega (arith, among.1)

  unknown_leaves : IsUnknown site ask net e earlier → Leaves site ask net e earlier → ⊥
  unknown_leaves gone leaves =
      leaves.unrevised gone.reply.opened gone.reply.message (first_of site e earlier gone.reply)
      (inr ((bindings_are_known ask (ias_in gone.reply.message.options)).0
      (ap is_unbound gone.is_its ∙ eq-eqb gone.ia.status no_binding gone.status)))

pub ends_when_withdrawn : EndsBy IsWithdrawn
ends_when_withdrawn =
    ends_by IsWithdrawn (λ site ask net now e earlier gone.
    (withdrawn_gives site ask net now e earlier gone, withdrawn_leaves site ask net now e earlier gone))

pub ends_when_unknown : EndsBy IsUnknown
ends_when_unknown =
    ends_by IsUnknown (λ site ask net now e earlier gone.
    (unknown_gives site ask net now e earlier gone, unknown_leaves site ask net now e earlier gone))
