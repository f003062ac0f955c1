-- The lease that a Reply of bytes grants is within the bounds of its text.
use Rattle.std.proofs.Common.{ℕ, zero, suc, ◌*◌, ◌^◌, ◌<◌, Bool, List, [], ◌∷◌, take, drop, get_or, find, fold, Option, Some, None, IfSome, arith, unwrap_or, eqb}
use Rattle.std.specs.List.{AllByRecursion, filter_map}
use Rattle.std.specs.Option.{option_and_then}
use Rattle.net_types.specs.Moments.{IsMoment}
use Rattle.net_types.proofs.CaseLaws.{gated}
use Rattle.net_types.proofs.Checksum.{drop_bytes, take_bytes}
use Rattle.net_types.proofs.WireNumbers.{four_bytes_fit}
use Rattle.v6_options.specs.declared.area.Front.{Front}
use Rattle.v6_options.specs.declared.area.Front.TheVariants.{End, Bad, Whole}
use Rattle.v6_options.specs.declared.ia.IaKind.{IaKind}
use Rattle.v6_options.specs.declared.ia.IaKind.TheVariants.{Na, Pd}
use Rattle.v6_options.specs.declared.ia.ItemSaid.{ItemSaid}
use Rattle.v6_options.specs.Codes.{ia_na, ia_pd}
use Rattle.v6_options.specs.Ias.{IaContent, address_in, ia_by, ia_in, ias_in, item_by, number_in, prefix_in}
use Rattle.v6_options.specs.Layout.{ia_fields_len}
use Rattle.v6_options.specs.OptionArea.{Instance, field, front_of, instances_by, instances_in, instances_within}
use Rattle.v6_options.specs.OptionGrammar.{AreBytes}
use Rattle.v6_message.specs.Replies.{Content6}
use Rattle.lease6_text.specs.Bounds.{FitsItem, FitsLease6}
use Rattle.v6_items.specs.declared.renewing.Spans6.{Spans6}
use Rattle.v6_items.specs.declared.asks.IaAsk.{IaAsk}
use Rattle.v6_items.specs.declared.times.TheConstants.{FOREVER, SECOND, T1_PART, T2_PART}
use Rattle.v6_client.specs.Answers.{granted, is_taken, learnt, meeting_of, server_of}
use Rattle.v6_items.specs.Bounds.{AreTimed, IsTimed}
use Rattle.v6_client.specs.Calls.{fresh_in}
use Rattle.v6_client.specs.Clients.{ClientContent}
use Rattle.v6_items.specs.Items.{is_nonempty}
use Rattle.v6_items.specs.Reading.{cleared, ia_for, is_for, is_read, is_readable, read_item, saids_of}
use Rattle.v6_items.specs.Renewing.{AreShort, joined, span, spans_of}
use Rattle.v6_client.specs.RunsStay.{GrantsFit}
use Rattle.v6_client.specs.Sound.{IsSound}
use Rattle.v6_items.specs.Taking.{IaTaking, Meeting, ia_spans, ias_granted, item_from, place_of, placed, shorter, spans_granted, taken_by, takes_item}
use Rattle.v6_items.specs.Times.{earlier}
use Rattle.v6_items.proofs.LeaseFits.{ias_fit, t1_fits, t2_fits, values_fit}
use Rattle.v6_items.proofs.SaidFits.{cons_all, saids_fit, take_all}
use Rattle.v6_client_laws.proofs.StayingRuns.{learnt_sound}

-- ---- bytes

abbrev IsByte : ℕ → Type 0
IsByte byte = byte < 256

abbrev AllBytes : List ℕ → Type 0
AllBytes bytes = AllByRecursion IsByte bytes

all_bytes : (bytes : List ℕ) → AreBytes bytes → AllBytes bytes
all_bytes [] are = tt
all_bytes (byte ∷ bytes) are = (are 0, all_bytes bytes (λ i. are (suc i)))

drop_all : {X : Type 0} (P : X → Type 0) (n : ℕ) (xs : List X) → AllByRecursion P xs → AllByRecursion P (drop n xs)
drop_all P zero xs all = all
drop_all P (suc n) [] all = tt
drop_all P (suc n) (x ∷ xs) all = drop_all P n xs all.1

byte_at : (bytes : List ℕ) (i : ℕ) → AllBytes bytes → get_or bytes i 0 < 256
byte_at [] i all = omega arith
byte_at (byte ∷ bytes) zero all = all.0
byte_at (byte ∷ bytes) (suc i) all = byte_at bytes i all.1

number_short : (at : ℕ) (bytes : List ℕ) → AllBytes bytes → number_in at bytes < 2 ^ 32
number_short at bytes all =
    four_bytes_fit (field at 4 bytes) (take_bytes 4 (drop at bytes) (drop_bytes at bytes (λ i. byte_at bytes i all)))

abbrev HasBytes : Instance → Type 0
HasBytes instance = AllBytes instance.1

by_front : (front : Front) (area : List ℕ) (later : List ℕ → List Instance) → AllBytes area
    → ((rest : List ℕ) → AllBytes rest → AllByRecursion HasBytes (later rest)) → AllByRecursion HasBytes (instances_by front area later)
by_front End area later all each = tt
by_front Bad area later all each = tt
by_front (Whole code len) area later all each = (
  take_all IsByte len (drop 4 area) (drop_all IsByte 4 area all),
  each (drop len (drop 4 area)) (drop_all IsByte len (drop 4 area) (drop_all IsByte 4 area all)),
)

within_bytes : (more : ℕ) (area : List ℕ) → AllBytes area → AllByRecursion HasBytes (instances_within more area)
within_bytes zero area all = tt
within_bytes (suc more) area all = by_front (front_of area) area (instances_within more) all (within_bytes more)

instances_bytes : (area : List ℕ) → AllBytes area → AllByRecursion HasBytes (instances_in area)
unfolding instances_in
instances_bytes area all = within_bytes _ area all

-- ---- IAs

found_all : {X Y : Type 0} (P : X → Type 0) (Q : Y → Type 0) (f : X → Option Y) → ((x : X) → P x → IfSome (f x) Q) → (xs : List X)
    → AllByRecursion P xs → AllByRecursion Q (filter_map f xs)
found_all P Q f each [] all = tt
found_all P Q f each (x ∷ xs) all = cons_all Q (f x) (filter_map f xs) (each x all.0) (found_all P Q f each xs all.1)

find_all : {X : Type 0} (P : X → Type 0) (p : X → Bool) (xs : List X) → AllByRecursion P xs → IfSome (find p xs) P
find_all P p [] all = tt
find_all P p (x ∷ xs) all = gated (λ o. IfSome o P) (p x) (Some x) (find p xs) all.0 (find_all P p xs all.1)

item_timed : (kind : IaKind) (instance : Instance) → HasBytes instance → IfSome (item_by kind instance) IsTimed
item_timed Na instance bytes =
    gated (λ o. IfSome o IsTimed) _ (Some (address_in instance.1)) None
    (record { preferred = number_short 16 instance.1 bytes; valid = number_short 20 instance.1 bytes }) tt
item_timed Pd instance bytes =
    gated (λ o. IfSome o IsTimed) _ (Some (prefix_in instance.1)) None
    (record { preferred = number_short 0 instance.1 bytes; valid = number_short 4 instance.1 bytes }) tt

record IsTimedIa (ia : IaContent) : Type 0 where
  t1 : ia.t1 < 2 ^ 32
  t2 : ia.t2 < 2 ^ 32
  items : AreTimed ia.items

ia_in_timed : (kind : IaKind) (value : List ℕ) → AllBytes value → IsTimedIa (ia_in kind value)
ia_in_timed kind value bytes = record {
  t1 = number_short 4 value bytes;
  t2 = number_short 8 value bytes;
  items = found_all HasBytes IsTimed (item_by kind) (item_timed kind) (instances_in (drop ia_fields_len value))
      (instances_bytes (drop ia_fields_len value) (drop_all IsByte ia_fields_len value bytes));
}

ia_timed : (instance : Instance) → HasBytes instance → IfSome (ia_by instance) IsTimedIa
ia_timed instance bytes =
    gated (λ o. IfSome o IsTimedIa) (eqb instance.0 ia_na) (Some (ia_in Na instance.1)) _ (ia_in_timed Na instance.1 bytes)
    (gated (λ o. IfSome o IsTimedIa) (eqb instance.0 ia_pd) (Some (ia_in Pd instance.1)) None (ia_in_timed Pd instance.1 bytes) tt)

-- the IA that counts
its_timed : (ask : IaAsk) (options : List ℕ) → AllBytes options → IfSome (ia_for ask (ias_in options)) IsTimedIa
its_timed ask options bytes =
    find_all IsTimedIa (is_for ask) (ias_in options)
    (found_all HasBytes IsTimedIa ia_by ia_timed (instances_in options) (instances_bytes options bytes))

cleared_timed : (kind : IaKind) (said : ItemSaid) → IsTimed said → IsTimed (cleared kind said)
cleared_timed Na said timed = timed
cleared_timed Pd said timed = record { preferred = timed.preferred; valid = timed.valid }

read_timed : (kind : IaKind) (said : ItemSaid) → IsTimed said → IfSome (read_item kind said) IsTimed
read_timed kind said timed =
    gated (λ o. IfSome o IsTimed) (is_read kind said) (Some (cleared kind said)) None (cleared_timed kind said timed) tt

saids_timed : (o : Option IaContent) → IfSome o IsTimedIa → AreTimed (saids_of o)
saids_timed None timed = tt
saids_timed (Some ia) timed =
    gated AreTimed (is_readable ia) (take 4 (filter_map (read_item ia.kind) ia.items)) []
    (take_all IsTimed 4 (filter_map (read_item ia.kind) ia.items)
    (found_all IsTimed IsTimed (read_item ia.kind) (read_timed ia.kind) ia.items timed.items)) tt

-- ---- T1 and T2

abbrev IsShort : Option ℕ → Type 0
IsShort time = IfSome time (λ seconds. seconds < 2 ^ 32)

shorter_short : (shortest : Option ℕ) (preferred : ℕ) → preferred < 2 ^ 32 → IsShort shortest → IsShort (shorter shortest preferred)
shorter_short None preferred short before = short
shorter_short (Some shortest) preferred short before = omega (arith, short, before)

placed_short : (at : ℕ) (said : ItemSaid) (place : Option ℕ) (taking : IaTaking) → IsTimed said → IsShort taking.shortest
    → IsShort (placed at said place taking).shortest
placed_short at said (Some place) taking timed short = shorter_short taking.shortest said.preferred timed.preferred short
placed_short at said None taking timed short =
    gated (λ (t : IaTaking). IsShort t.shortest) _ _ taking (shorter_short taking.shortest said.preferred timed.preferred short) short

takes_short : (at : ℕ) (taking : IaTaking) (said : ItemSaid) → IsTimed said → IsShort taking.shortest
    → IsShort (takes_item at taking said).shortest
takes_short at taking said timed short =
    gated (λ (t : IaTaking). IsShort t.shortest) (eqb said.valid 0) _ (placed at said (place_of said.net taking.items) taking) short
    (placed_short at said (place_of said.net taking.items) taking timed short)

fold_short : (at : ℕ) (saids : List ItemSaid) (taking : IaTaking) → AreTimed saids → IsShort taking.shortest
    → IsShort (fold (takes_item at) taking saids).shortest
fold_short at [] taking timed short = short
fold_short at (said ∷ saids) taking timed short =
    fold_short at saids (takes_item at taking said) timed.1 (takes_short at taking said timed.0 short)

span_short : (said shortest part : ℕ) → said < 2 ^ 32 → part * shortest < 10 ^ 13 → unwrap_or (span said shortest part) 0 < 10 ^ 13
span_short said shortest part short fits =
    gated (λ o. unwrap_or o 0 < 10 ^ 13) (eqb said 0) _ _
    (gated (λ o. unwrap_or o 0 < 10 ^ 13) (eqb shortest FOREVER) None (Some (part * shortest)) (omega arith) fits)
    (gated (λ o. unwrap_or o 0 < 10 ^ 13) (eqb said FOREVER) None (Some (SECOND * said)) (omega arith) (omega (arith, short)))

spans_short : (o : Option IaContent) (shortest : Option ℕ) → IfSome o IsTimedIa → IsShort shortest → IfSome (spans_of o shortest) AreShort
spans_short None shortest timed short = tt
spans_short (Some ia) None timed short = tt
spans_short (Some ia) (Some shortest) timed short = record {
  t1 = span_short ia.t1 shortest T1_PART timed.t1 (omega (arith, short));
  t2 = span_short ia.t2 shortest T2_PART timed.t2 (omega (arith, short));
}

earlier_short : (one other : Option ℕ) → unwrap_or one 0 < 10 ^ 13 → unwrap_or other 0 < 10 ^ 13 → unwrap_or (earlier one other) 0 < 10 ^ 13
earlier_short None other one_short short = short
earlier_short (Some one) None one_short short = one_short
earlier_short (Some one) (Some other) one_short short = omega (arith, one_short, short)

joined_short : (one other : Option Spans6) → IfSome one AreShort → IfSome other AreShort → IfSome (joined one other) AreShort
joined_short None other one_short short = short
joined_short (Some one) None one_short short = one_short
joined_short (Some one) (Some other) one_short short = record {
  t1 = earlier_short one.t1 other.t1 one_short.t1 short.t1;
  t2 = earlier_short one.t2 other.t2 one_short.t2 short.t2;
}

joins_short : (m : Meeting) (asks : List IaAsk) (spans : Option Spans6) → ((ask : IaAsk) → IfSome (ia_spans m ask) AreShort)
    → IfSome spans AreShort → IfSome (fold (λ spans ask. joined spans (ia_spans m ask)) spans asks) AreShort
joins_short m [] spans each short = short
joins_short m (ask ∷ asks) spans each short =
    joins_short m asks (joined spans (ia_spans m ask)) each (joined_short spans (ia_spans m ask) short (each ask))

-- ---- the lease

every : {X : Type 0} (P : X → Type 0) → ((x : X) → P x) → (xs : List X) → AllByRecursion P xs
every P each [] = tt
every P each (x ∷ xs) = (each x, every P each xs)

granted_fits : (c : ClientContent) (message : Content6) (at : ℕ) (server : List ℕ) → IsMoment at → IsSound c → AllBytes message.options
    → IfSome (granted at c message server) FitsLease6
granted_fits c message at server early sound bytes =
    let m : Meeting = meeting_of at c message in
    let timed : (ask : IaAsk) → AreTimed (saids_of (ia_for ask m.ias)) =
    λ ask. saids_timed (ia_for ask m.ias) (its_timed ask message.options bytes) in
    let short : IfSome (spans_granted m c.settings.asks) AreShort =
    joins_short m c.settings.asks None
    (λ ask. spans_short (ia_for ask m.ias) (taken_by m ask).shortest (its_timed ask message.options bytes)
    (fold_short at (saids_of (ia_for ask m.ias)) _ (timed ask) tt)) tt in
    gated (λ lease. IfSome lease FitsLease6) (is_nonempty (ias_granted m c.settings.asks)) _ None
    (record {
      origin = early;
      name = sound.name;
      t1 = t1_fits m (spans_granted m c.settings.asks) early short sound.kept;
      t2 = t2_fits m (spans_granted m c.settings.asks) early short sound.kept;
      ias = ias_fit m c.settings.asks sound.asks sound.kept
          (every (λ (ask : IaAsk). AllByRecursion (λ said. FitsItem ask.kind (item_from at said)) (saids_of (ia_for ask m.ias)))
          (λ ask. saids_fit ask at message.options early (timed ask)) c.settings.asks);
      values = values_fit message.dns message.search;
    }) tt

of_server : (c : ClientContent) (message : Content6) (at : ℕ) (server : Option (List ℕ)) → IsMoment at → IsSound c → AllBytes message.options
    → IfSome (option_and_then (granted at c message) server) FitsLease6
of_server c message at None early sound bytes = tt
of_server c message at (Some server) early sound bytes = granted_fits c message at server early sound bytes

fresh_fits : (c : ClientContent) (message : Content6) (at : ℕ) → IsMoment at → IsSound c → AllBytes message.options
    → IfSome (fresh_in at c message) FitsLease6
fresh_fits c message at early sound bytes =
    gated (λ lease. IfSome lease FitsLease6) (is_taken c message) _ None (of_server c message at (server_of message) early sound bytes) tt

pub grants_fit : GrantsFit
grants_fit c message at early sound are =
    fresh_fits (learnt message.sol_max c) message at early (learnt_sound message.sol_max c sound) (all_bytes message.options are)
