-- Rows: what is read is spelled so, and what is spelled so is read.
use Rattle.std.proofs.Common.{◌≡◌, ℕ, ◌/◌, ◌%◌, ◌^◌, ◌<◌, ◌≤◌, Bool, true, false, not, ◌&&◌, List, [], ◌∷◌, ◌++◌, drop, Option, Some, None, refl, sym, ap, ◌∙◌, subst, arith, codes, leb, eqb, inl, inr}
use Rattle.std.specs.Fmt.{decimal}
use Rattle.std.specs.List.{list_all}
use Rattle.std.specs.Char.{is_ascii_digit}
use Rattle.std.proofs.lemmas.Bool.{and_parts, and_from, both_ways, eqb-true, eq-eqb, leb-true, le-leb}
use Rattle.std.proofs.lemmas.List.{append_assoc}
use Rattle.std.proofs.lemmas.List.Folds.{list_all-append}
use Rattle.net_types.specs.declared.address.Ip4.{Ip4}
use Rattle.net_types.specs.declared.address.Ip6.{Ip6}
use Rattle.net_types.specs.declared.address.Net.{Net}
use Rattle.net_types.specs.declared.address.Net.TheVariants.{V4, V6}
use Rattle.net_types.specs.declared.address.Net4.{Net4}
use Rattle.net_types.specs.declared.address.Net6.{Net6}
use Rattle.net_types.specs.declared.interface.IfIndex.{IfIndex}
use Rattle.net_types.specs.AddressText.{ip4_text, net4_text, FitsIp4, FitsIp6, FitsNet4}
use Rattle.net_types.specs.Cutting.{strip_word, by_word, differ}
use Rattle.net_types.specs.Ip6Text.{is_group_byte, SpellsIp6, SpellsNet6}
use Rattle.net_types.specs.Marks.{Lacks}
use Rattle.net_types.specs.Reads.{Reads}
use Rattle.net_types.proofs.AddressLaws.{ip4_reads, net4_reads}
use Rattle.net_types.proofs.ChoiceLaws.{words_apart}
use Rattle.net_types.proofs.Ip6Laws.{ip6_found, ip6_whole, net6_found, net6_whole}
use Rattle.net_types.proofs.MarkLaws.{decimal_lacks, lacks-append, lacks_from, ip4_lacks, net4_lacks}
use Rattle.net_types.proofs.NumberLaws.{number_reads}
use Rattle.net_types.proofs.ReadsLaws.{strip_sound, map_reads, guard_reads}
use Rattle.world.specs.declared.rows.HostRow.{HostRow}
use Rattle.world.specs.declared.rows.HostRow.TheVariants.{Addr, Route}
use Rattle.world.specs.declared.rows.Via.{Via}
use Rattle.world.specs.declared.rows.Via.TheVariants.{OnLink, Reject, Gate4, Gate6}
use Rattle.world.specs.Rows.{IsInterface, IsNet, IsNetwork, IsRow, LeadsTo}
use Rattle.script_model.specs.RowSpellings.{SpellsNet, SpellsWay, SpellsRoute, SpellsRow}
use Rattle.row_texts.specs.RowReading.{iface_at, metric_at, net_at, gateway_at, Tail, on_link_at, reject_at, gate_at, tail_at, addr_at, is_network, is_way_to, RouteParts, route_parts_at, route_at, row_at}
use Rattle.row_texts.proofs.SpellingLaws.{Finds, OneText, one_text, same_finds, Made, map_finds, Tested, guard_finds, After, word_finds, Parted, pair_finds, OneOf, either_finds, choice_finds}

-- by the first word: what was read after it, or otherwise
pub by_cases : {X P : Type 0} (word text : List ℕ) (read : List ℕ → Option X) (other : Option X) (x : X) → by_word (strip_word word text) read other ≡ Some x
    → ((rest : List ℕ) → text ≡ word ++ rest → read rest ≡ Some x → P) → (other ≡ Some x → P) → P
by_cases {X} {P} word text read other x e here there = go (strip_word word text) refl e
  where
    go : (o : Option (List ℕ)) → strip_word word text ≡ o → by_word o read other ≡ Some x → P
    go (Some rest) was f = here rest (strip_sound word text rest was) f
    go None was f = there f

-- ---- numbers of interfaces

abbrev pub FitsIface : IfIndex → Type 0
FitsIface iface = IsInterface iface.number

abbrev pub iface_text : IfIndex → List ℕ
iface_text iface = decimal iface.number

pub iface_reads : Reads iface_text FitsIface iface_at
unfolding iface_at
iface_reads =
    map_reads (λ n. record { number = n }) (λ iface. iface.number)
    (guard_reads (λ n. leb 1 n) (number_reads 65 (omega arith)))
    (λ n fits. refl)
    (λ iface fits. refl)
    (λ n fits. (leb-true _ _ fits.1, (let below : n < 65 = fits.0 in omega arith)))
    (λ iface fits. ((let within : iface.number ≤ 64 = fits.1 in omega arith), le-leb _ _ fits.0))

pub iface_lacks : (iface : IfIndex) → FitsIface iface → Lacks 32 (iface_text iface)
iface_lacks iface fits = let within : iface.number ≤ 64 = fits.1 in decimal_lacks iface.number 32 (omega arith) refl

abbrev pub SpellsIface : List ℕ → IfIndex → Type 0
SpellsIface = OneText iface_text FitsIface

pub iface_finds : Finds SpellsIface iface_at
iface_finds = one_text iface_reads

pub iface_apart : (text : List ℕ) (iface : IfIndex) → SpellsIface text iface → Lacks 32 text
iface_apart text iface spells = subst (Lacks 32) (sym spells.0) (iface_lacks iface spells.1)

metric_reads : Reads decimal (λ n. n < 2 ^ 32) metric_at
unfolding metric_at
metric_reads = number_reads (2 ^ 32) (omega arith)

-- ---- nets and gateways of either family

net6_lacks : (byte : ℕ) (text : List ℕ) (net : Net6) → SpellsNet6 text net → is_group_byte byte ≡ false → Lacks byte (codes "/") → is_ascii_digit byte ≡ false
    → Lacks byte text
net6_lacks byte text net spells group slash digit =
    let small : net.len < 2 ^ 64 = let most = spells.prefix in omega arith in
    subst (Lacks byte) (sym spells.spelled)
    (lacks-append byte (spells.address ++ codes "/") (decimal net.len)
    (lacks-append byte spells.address (codes "/") (lacks_from is_group_byte byte spells.address group spells.spells.bytes) slash)
    (decimal_lacks net.len byte small digit))

ip6_dotless : (text : List ℕ) (ip : Ip6) → SpellsIp6 text ip → Lacks 46 text
ip6_dotless text ip spells = lacks_from is_group_byte 46 text refl spells.bytes

front_lacks : (front back : List ℕ) → Lacks 46 (front ++ back) → Lacks 46 front
front_lacks front back lacks =
    (and_parts (list_all (λ b. not (eqb b 46)) front) (list_all (λ b. not (eqb b 46)) back) (sym (list_all-append (λ b. not (eqb b 46)) front back) ∙ lacks)).0

no_dot : (front : List ℕ) → Lacks 46 (front ++ 46 ∷ []) → ⊥
no_dot front lacks =
    both_ways false refl (and_parts (list_all (λ b. not (eqb b 46)) front) false (sym (list_all-append (λ b. not (eqb b 46)) front (46 ∷ [])) ∙ lacks)).1

-- an IPv4 address has a dot, and one of IPv6 none
ip4_has_dot : (ip : Ip4) → Lacks 46 (ip4_text ip) → ⊥
unfolding ip4_text
ip4_has_dot ip lacks =
    let front = decimal (ip.number / 2 ^ 24) ++ codes "." ++ decimal (ip.number / 2 ^ 16 % 256) ++ codes "." ++ decimal (ip.number / 2 ^ 8 % 256) in
    no_dot front (front_lacks (front ++ codes ".") (decimal (ip.number % 256)) lacks)

net4_has_dot : (net : Net4) → Lacks 46 (net4_text net) → ⊥
unfolding net4_text
net4_has_dot net lacks = ip4_has_dot net.ip (front_lacks (ip4_text net.ip) (codes "/") (front_lacks (ip4_text net.ip ++ codes "/") (decimal net.len) lacks))

abbrev FitNet : List ℕ → Net → Type 0
FitNet text net = SpellsNet text net × IsNet net

abbrev EitherNet : List ℕ → Net → Type 0
EitherNet = OneOf (Made V4 (OneText net4_text FitsNet4)) (Made V6 SpellsNet6)

net_to : (text : List ℕ) (net : Net) → EitherNet text net → FitNet text net
net_to text net (inl made) =
    let fits = made.spells.1 in
    subst (FitNet text) made.makes (made.spells.0, (fits.address, fits.prefix))
net_to text net (inr made) = subst (FitNet text) made.makes (made.spells, (made.spells.spells.range, made.spells.prefix))

net_from : (text : List ℕ) (net : Net) → FitNet text net → EitherNet text net
net_from text (V4 net) fit = inl (record { value = net; makes = refl; spells = (fit.0, record { address = fit.1.0; prefix = fit.1.1 }) })
net_from text (V6 net) fit = inr (record { value = net; makes = refl; spells = fit.0 })

nets_apart : (text : List ℕ) (x y : Net) → Made V4 (OneText net4_text FitsNet4) text x → ¬ (Made V6 SpellsNet6 text y)
nets_apart text x y one other = net4_has_dot one.value (subst (Lacks 46) one.spells.0 (net6_lacks 46 text other.value other.spells refl refl refl))

net_finds : Finds FitNet net_at
unfolding net_at
net_finds =
    same_finds FitNet net_to net_from
    (either_finds (map_finds V4 (one_text net4_reads)) (map_finds V6 (record { sound = net6_found; whole = net6_whole })) nets_apart)

net_apart : (text : List ℕ) (net : Net) → FitNet text net → Lacks 32 text
net_apart text (V4 net) fit = subst (Lacks 32) (sym fit.0) (net4_lacks net 32 (record { address = fit.1.0; prefix = fit.1.1 }) refl)
net_apart text (V6 net) fit = net6_lacks 32 text net fit.0 refl refl refl

abbrev SpellsGateway : List ℕ → Via → Type 0
SpellsGateway text OnLink = ⊥
SpellsGateway text Reject = ⊥
SpellsGateway text (Gate4 ip) = OneText ip4_text FitsIp4 text ip
SpellsGateway text (Gate6 ip) = SpellsIp6 text ip

abbrev EitherGateway : List ℕ → Via → Type 0
EitherGateway = OneOf (Made Gate4 (OneText ip4_text FitsIp4)) (Made Gate6 SpellsIp6)

gateway_to : (text : List ℕ) (way : Via) → EitherGateway text way → SpellsGateway text way
gateway_to text way (inl made) = subst (SpellsGateway text) made.makes made.spells
gateway_to text way (inr made) = subst (SpellsGateway text) made.makes made.spells

gateway_from : (text : List ℕ) (way : Via) → SpellsGateway text way → EitherGateway text way
gateway_from text OnLink spells = absurd spells
gateway_from text Reject spells = absurd spells
gateway_from text (Gate4 ip) spells = inl (record { value = ip; makes = refl; spells = spells })
gateway_from text (Gate6 ip) spells = inr (record { value = ip; makes = refl; spells = spells })

gateways_apart : (text : List ℕ) (x y : Via) → Made Gate4 (OneText ip4_text FitsIp4) text x → ¬ (Made Gate6 SpellsIp6 text y)
gateways_apart text x y one other = ip4_has_dot one.value (subst (Lacks 46) one.spells.0 (ip6_dotless text other.value other.spells))

gateway_finds : Finds SpellsGateway gateway_at
unfolding gateway_at
gateway_finds =
    same_finds SpellsGateway gateway_to gateway_from
    (either_finds (map_finds Gate4 (one_text ip4_reads)) (map_finds Gate6 (record { sound = ip6_found; whole = ip6_whole })) gateways_apart)

gateway_apart : (text : List ℕ) (way : Via) → SpellsGateway text way → Lacks 32 text
gateway_apart text OnLink spells = absurd spells
gateway_apart text Reject spells = absurd spells
gateway_apart text (Gate4 ip) spells = subst (Lacks 32) (sym spells.0) (ip4_lacks ip 32 spells.1 refl)
gateway_apart text (Gate6 ip) spells = lacks_from is_group_byte 32 text refl spells.bytes

-- ---- where a route leads, and its metric

abbrev FitsWay : Via → Type 0
FitsWay OnLink = Unit {0}
FitsWay Reject = Unit {0}
FitsWay (Gate4 ip) = FitsIp4 ip
FitsWay (Gate6 ip) = FitsIp6 ip

-- the words after a destination's, without the blank that parts them from it
record SpellsTail (text : List ℕ) (tail : Tail) : Type 0 where
  path : List ℕ
  spelled : 32 ∷ text ≡ path ++ (codes " metric " ++ decimal tail.1)
  leads : SpellsWay path tail.0
  way : FitsWay tail.0
  metric : tail.1 < 2 ^ 32

abbrev SpellsMetric : List ℕ → ℕ → Type 0
SpellsMetric = OneText decimal (λ n. n < 2 ^ 32)

metric_finds : Finds SpellsMetric metric_at
metric_finds = one_text metric_reads

abbrev on_link : ℕ → Tail
on_link m = (OnLink, m)

abbrev reject : ℕ → Tail
reject m = (Reject, m)

abbrev LinkTail : List ℕ → Tail → Type 0
LinkTail = After (codes "metric ") (Made on_link SpellsMetric)

abbrev RejectTail : List ℕ → Tail → Type 0
RejectTail = After (codes "reject metric ") (Made reject SpellsMetric)

abbrev GateTail : List ℕ → Tail → Type 0
GateTail = After (codes "via ") (Parted 32 SpellsGateway (After (codes "metric ") SpellsMetric))

abbrev AnyTail : List ℕ → Tail → Type 0
AnyTail = OneOf LinkTail (OneOf RejectTail GateTail)

gate_leads : (text : List ℕ) (way : Via) → SpellsGateway text way → SpellsWay (codes " via " ++ text) way × FitsWay way
gate_leads text OnLink spells = absurd spells
gate_leads text Reject spells = absurd spells
gate_leads text (Gate4 ip) spells = (ap (λ t. codes " via " ++ t) spells.0, spells.1)
gate_leads text (Gate6 ip) spells = (record { address = text; spelled = refl; spells = spells }, spells.range)

tail_to : (text : List ℕ) (tail : Tail) → AnyTail text tail → SpellsTail text tail
tail_to text tail (inl after) =
    let made = after.spells in
    let spelled : 32 ∷ text ≡ codes " metric " ++ decimal made.value = ap (λ t. 32 ∷ t) (after.spelled ∙ ap (λ w. codes "metric " ++ w) made.spells.0) in
    subst (SpellsTail text) made.makes (record { path = []; spelled = spelled; leads = refl; way = tt; metric = made.spells.1 })
tail_to text tail (inr (inl after)) =
    let made = after.spells in
    let spelled : 32 ∷ text ≡ codes " reject" ++ (codes " metric " ++ decimal made.value) =
    ap (λ t. 32 ∷ t) (after.spelled ∙ ap (λ w. codes "reject metric " ++ w) made.spells.0) in
    subst (SpellsTail text) made.makes (record { path = codes " reject"; spelled = spelled; leads = refl; way = tt; metric = made.spells.1 })
tail_to text tail (inr (inr after)) =
    let gate = after.spells in
    let number = gate.second in
    let words : number.words ≡ decimal tail.1 = number.spells.0 in
    let back : gate.back ≡ codes "metric " ++ decimal tail.1 = number.spelled ∙ ap (λ w. codes "metric " ++ w) words in
    let leads = gate_leads gate.front tail.0 gate.first in
    let spelled : text ≡ codes "via " ++ (gate.front ++ (codes " metric " ++ decimal tail.1)) =
    after.spelled ∙ ap (λ w. codes "via " ++ w) (gate.spelled ∙ ap (λ b. gate.front ++ 32 ∷ b) back) in
    record {
      path = codes " via " ++ gate.front;
      spelled = ap (λ t. 32 ∷ t) spelled ∙ sym (append_assoc (codes " via ") gate.front (codes " metric " ++ decimal tail.1));
      leads = leads.0;
      way = leads.1;
      metric = number.spells.1;
    }

gate_from : (text front : List ℕ) (way : Via) (m : ℕ) → 32 ∷ text ≡ (codes " via " ++ front) ++ (codes " metric " ++ decimal m) → SpellsGateway front way
    → m < 2 ^ 32 → AnyTail text (way, m)
gate_from text front way m spelled spells small =
    let metric : After (codes "metric ") SpellsMetric (codes "metric " ++ decimal m) m = record { words = decimal m; spelled = refl; spells = (refl, small) } in
    inr (inr (record {
      words = front ++ (codes " metric " ++ decimal m);
      spelled = ap (drop 1) (spelled ∙ append_assoc (codes " via ") front (codes " metric " ++ decimal m));
      spells = record { front = front; back = codes "metric " ++ decimal m; spelled = refl; first = spells; second = metric };
    }))

tail_from : (text : List ℕ) (tail : Tail) → SpellsTail text tail → AnyTail text tail
tail_from text (OnLink, m) spells =
    let spelled : 32 ∷ text ≡ codes " metric " ++ decimal m = spells.spelled ∙ ap (λ p. p ++ (codes " metric " ++ decimal m)) spells.leads in
    inl (record { words = decimal m; spelled = ap (drop 1) spelled; spells = record { value = m; makes = refl; spells = (refl, spells.metric) } })
tail_from text (Reject, m) spells =
    let spelled : 32 ∷ text ≡ codes " reject" ++ (codes " metric " ++ decimal m) =
    spells.spelled ∙ ap (λ p. p ++ (codes " metric " ++ decimal m)) spells.leads in
    inr (inl (record { words = decimal m; spelled = ap (drop 1) spelled; spells = record { value = m; makes = refl; spells = (refl, spells.metric) } }))
tail_from text (Gate4 ip, m) spells =
    gate_from text (ip4_text ip) (Gate4 ip) m (spells.spelled ∙ ap (λ p. p ++ (codes " metric " ++ decimal m)) spells.leads) (refl, spells.way) spells.metric
tail_from text (Gate6 ip, m) spells =
    let gate = spells.leads in
    gate_from text gate.address (Gate6 ip) m (spells.spelled ∙ ap (λ p. p ++ (codes " metric " ++ decimal m)) gate.spelled) gate.spells spells.metric

word_apart : {X : Type 0} {Spells : List ℕ → X → Type 0} (word other text : List ℕ) (x : X) → After other Spells text x → differ word other ≡ true
    → strip_word word text ≡ None
word_apart word other text x after apart = ap (strip_word word) after.spelled ∙ words_apart word other after.words apart

rest_apart : (text : List ℕ) (tail : Tail) → OneOf RejectTail GateTail text tail → strip_word (codes "metric ") text ≡ None
rest_apart text tail (inl after) = word_apart (codes "metric ") (codes "reject metric ") text tail after refl
rest_apart text tail (inr after) = word_apart (codes "metric ") (codes "via ") text tail after refl

gate_apart : (text : List ℕ) (tail : Tail) → GateTail text tail → strip_word (codes "reject metric ") text ≡ None
gate_apart text tail after = word_apart (codes "reject metric ") (codes "via ") text tail after refl

link_finds : Finds (Made on_link SpellsMetric) on_link_at
unfolding on_link_at
link_finds = map_finds on_link metric_finds

reject_finds : Finds (Made reject SpellsMetric) reject_at
unfolding reject_at
reject_finds = map_finds reject metric_finds

gate_finds : Finds (Parted 32 SpellsGateway (After (codes "metric ") SpellsMetric)) gate_at
unfolding gate_at
gate_finds = pair_finds 32 gateway_finds (word_finds (codes "metric ") metric_finds) gateway_apart

tail_finds : Finds SpellsTail tail_at
unfolding tail_at
tail_finds =
    same_finds SpellsTail tail_to tail_from
    (choice_finds (codes "metric ") link_finds
    (choice_finds (codes "reject metric ") reject_finds (word_finds (codes "via ") gate_finds) gate_apart) rest_apart)

-- ---- addresses

abbrev AddrParts : Type 0
AddrParts = IfIndex × Net

abbrev addr_row : AddrParts → HostRow
addr_row p = Addr p.0 p.1

abbrev AddrWords : List ℕ → AddrParts → Type 0
AddrWords = Parted 32 SpellsIface FitNet

addr_finds : Finds (Made addr_row AddrWords) addr_at
unfolding addr_at
addr_finds = map_finds addr_row (pair_finds 32 iface_finds net_finds iface_apart)

-- ---- routes

abbrev RouteWords : List ℕ → RouteParts → Type 0
RouteWords = Parted 32 SpellsIface (Parted 32 FitNet SpellsTail)

route_parts_finds : Finds RouteWords route_parts_at
unfolding route_parts_at
route_parts_finds = pair_finds 32 iface_finds (pair_finds 32 net_finds tail_finds net_apart) iface_apart

abbrev route_test : RouteParts → Bool
route_test p = is_network p.1.0 && is_way_to p.1.0 p.1.1.0

abbrev route_row : RouteParts → HostRow
route_row p = Route p.0 p.1.0 p.1.1.0 p.1.1.1

route_finds : Finds (Made route_row (Tested route_test RouteWords)) route_at
unfolding route_at
route_finds = map_finds route_row (guard_finds route_test route_parts_finds)

network_is : (dest : Net) → is_network dest ≡ true → IsNetwork dest
network_is (V4 net) test = eqb-true _ _ test
network_is (V6 net) test = eqb-true _ _ test

is_network_true : (dest : Net) → IsNetwork dest → is_network dest ≡ true
is_network_true (V4 net) is = eq-eqb _ _ is
is_network_true (V6 net) is = eq-eqb _ _ is

leads_to : (dest : Net) (way : Via) → FitsWay way → is_way_to dest way ≡ true → LeadsTo dest way
leads_to dest OnLink fits test = tt
leads_to dest Reject fits test = tt
leads_to (V4 net) (Gate4 ip) fits test = fits
leads_to (V4 net) (Gate6 ip) fits test = both_ways false refl test
leads_to (V6 net) (Gate4 ip) fits test = both_ways false refl test
leads_to (V6 net) (Gate6 ip) fits test = fits

led_to : (dest : Net) (way : Via) → LeadsTo dest way → FitsWay way × (is_way_to dest way ≡ true)
led_to (V4 net) OnLink leads = (tt, refl)
led_to (V6 net) OnLink leads = (tt, refl)
led_to (V4 net) Reject leads = (tt, refl)
led_to (V6 net) Reject leads = (tt, refl)
led_to (V4 net) (Gate4 ip) leads = (leads, refl)
led_to (V4 net) (Gate6 ip) leads = absurd leads
led_to (V6 net) (Gate4 ip) leads = absurd leads
led_to (V6 net) (Gate6 ip) leads = (leads, refl)

-- ---- rows

abbrev pub IsSpelledRow : List ℕ → HostRow → Type 0
IsSpelledRow text row = SpellsRow text row × IsRow row

abbrev AnyRow : List ℕ → HostRow → Type 0
AnyRow = OneOf (After (codes "addr ") (Made addr_row AddrWords)) (After (codes "route ") (Made route_row (Tested route_test RouteWords)))

addr_grouped : (number : ℕ) (address : List ℕ) → codes "addr " ++ decimal number ++ codes " " ++ address ≡ codes "addr " ++ (decimal number ++ 32 ∷ address)
addr_grouped number address = simp append_assoc

route_grouped : (a b c d e f : List ℕ) → a ++ b ++ codes " " ++ c ++ d ++ e ++ f ≡ a ++ (b ++ 32 ∷ (c ++ (d ++ (e ++ f))))
route_grouped a b c d e f = simp append_assoc

addr_to : (text words : List ℕ) (p : AddrParts) → text ≡ codes "addr " ++ words → AddrWords words p → IsSpelledRow text (addr_row p)
addr_to text words p spelled parts =
    let whole : text ≡ codes "addr " ++ (decimal p.0.number ++ 32 ∷ parts.back) =
    spelled ∙ ap (λ w. codes "addr " ++ w) (parts.spelled ∙ ap (λ f. f ++ 32 ∷ parts.back) parts.first.0) in
    (record { address = parts.back; spelled = whole ∙ sym (addr_grouped p.0.number parts.back); spells = parts.second.0 }, (parts.first.1, parts.second.1))

route_to : (text words : List ℕ) (p : RouteParts) → text ≡ codes "route " ++ words → RouteWords words p → route_test p ≡ true → IsSpelledRow text (route_row p)
route_to text words p spelled parts test =
    let others = parts.second in
    let tail = others.second in
    let tests = and_parts (is_network p.1.0) (is_way_to p.1.0 p.1.1.0) test in
    let ending = codes " metric " ++ decimal p.1.1.1 in
    let after : parts.back ≡ others.front ++ (tail.path ++ ending) = others.spelled ∙ ap (λ t. others.front ++ t) tail.spelled in
    let whole : text ≡ codes "route " ++ (decimal p.0.number ++ 32 ∷ (others.front ++ (tail.path ++ ending))) =
    spelled ∙ ap (λ w. codes "route " ++ w) (parts.spelled ∙ ap (λ f. f ++ 32 ∷ parts.back) parts.first.0 ∙ ap (λ b. decimal p.0.number ++ 32 ∷ b) after) in
    let route : SpellsRoute text p.0 p.1.0 p.1.1.0 p.1.1.1 = record {
      network = others.front;
      path = tail.path;
      spelled = whole ∙ sym (route_grouped (codes "route ") (decimal p.0.number) others.front tail.path (codes " metric ") (decimal p.1.1.1));
      spells = others.first.0;
      leads = tail.leads;
    } in
    (route, (parts.first.1, others.first.1, network_is p.1.0 tests.0, leads_to p.1.0 p.1.1.0 tail.way tests.1, tail.metric))

row_to : (text : List ℕ) (row : HostRow) → AnyRow text row → IsSpelledRow text row
row_to text row (inl after) =
    let made = after.spells in
    subst (IsSpelledRow text) made.makes (addr_to text after.words made.value after.spelled made.spells)
row_to text row (inr after) =
    let made = after.spells in
    subst (IsSpelledRow text) made.makes (route_to text after.words made.value after.spelled made.spells.0 made.spells.1)

-- the words that say where a route leads, and those after them, begin with a blank
path_blank : (path : List ℕ) (way : Via) (ending : List ℕ) → SpellsWay path way → path ++ (32 ∷ ending) ≡ 32 ∷ drop 1 (path ++ (32 ∷ ending))
path_blank path OnLink ending spells = ap (λ p. p ++ (32 ∷ ending)) spells ∙ ap (λ p. 32 ∷ drop 1 (p ++ (32 ∷ ending))) (sym spells)
path_blank path Reject ending spells = ap (λ p. p ++ (32 ∷ ending)) spells ∙ ap (λ p. 32 ∷ drop 1 (p ++ (32 ∷ ending))) (sym spells)
path_blank path (Gate4 ip) ending spells = ap (λ p. p ++ (32 ∷ ending)) spells ∙ ap (λ p. 32 ∷ drop 1 (p ++ (32 ∷ ending))) (sym spells)
path_blank path (Gate6 ip) ending spells = ap (λ p. p ++ (32 ∷ ending)) spells.spelled ∙ ap (λ p. 32 ∷ drop 1 (p ++ (32 ∷ ending))) (sym spells.spelled)

row_from : (text : List ℕ) (row : HostRow) → IsSpelledRow text row → AnyRow text row
row_from text (Addr iface net) is =
    let spells = is.0 in
    let words : AddrWords (decimal iface.number ++ 32 ∷ spells.address) (iface, net) = record {
      front = decimal iface.number;
      back = spells.address;
      spelled = refl;
      first = (refl, is.1.0);
      second = (spells.spells, is.1.1);
    } in
    inl (record {
      words = decimal iface.number ++ 32 ∷ spells.address;
      spelled = spells.spelled ∙ addr_grouped iface.number spells.address;
      spells = record { value = (iface, net); makes = refl; spells = words };
    })
row_from text (Route iface dest way metric) is =
    let spells = is.0 in
    let leads = led_to dest way is.1.3 in
    let ending = codes " metric " ++ decimal metric in
    let tail = drop 1 (spells.path ++ ending) in
    let blank : spells.path ++ ending ≡ 32 ∷ tail = path_blank spells.path way (codes "metric " ++ decimal metric) spells.leads in
    let grouped = route_grouped (codes "route ") (decimal iface.number) spells.network spells.path (codes " metric ") (decimal metric) in
    let words : RouteWords (decimal iface.number ++ 32 ∷ (spells.network ++ 32 ∷ tail)) (iface, (dest, (way, metric))) = record {
      front = decimal iface.number;
      back = spells.network ++ 32 ∷ tail;
      spelled = refl;
      first = (refl, is.1.0);
      second = record {
        front = spells.network;
        back = tail;
        spelled = refl;
        first = (spells.spells, is.1.1);
        second = record { path = spells.path; spelled = sym blank; leads = spells.leads; way = leads.0; metric = is.1.4 };
      };
    } in
    inr (record {
      words = decimal iface.number ++ 32 ∷ (spells.network ++ 32 ∷ tail);
      spelled = spells.spelled ∙ grouped ∙ ap (λ t. codes "route " ++ (decimal iface.number ++ 32 ∷ (spells.network ++ t))) blank;
      spells = record { value = (iface, (dest, (way, metric))); makes = refl; spells = (words, and_from _ _ (is_network_true dest is.1.2) leads.1) };
    })

route_apart : (text : List ℕ) (row : HostRow) → After (codes "route ") (Made route_row (Tested route_test RouteWords)) text row
    → strip_word (codes "addr ") text ≡ None
route_apart text row after = word_apart (codes "addr ") (codes "route ") text row after refl

pub row_finds : Finds IsSpelledRow row_at
unfolding row_at
row_finds = same_finds IsSpelledRow row_to row_from (choice_finds (codes "addr ") addr_finds (word_finds (codes "route ") route_finds) route_apart)
