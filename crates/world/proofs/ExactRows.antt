-- Rows that compare as equal are equal.
use Rattle.std.proofs.Common.{◌≡◌, ◌<◌, refl, arith}
use Rattle.std.specs.declared.cmp.Ordering.{Ordering}
use Rattle.std.specs.declared.cmp.Ordering.TheVariants.{Less, Equal, Greater}
use Rattle.std.specs.Ordering.{ordering_then}
use Rattle.std.proofs.lemmas.Map.Lookups.{exact_unsigned}
use Rattle.net_types.specs.declared.address.Net.{Net}
use Rattle.net_types.specs.declared.address.Net.TheVariants as Family
use Rattle.world.specs.declared.rows.HostRow.{HostRow}
use Rattle.world.specs.declared.rows.HostRow.TheVariants.{Addr, Route}
use Rattle.world.specs.declared.rows.Via.{Via}
use Rattle.world.specs.declared.rows.Via.TheVariants as Ways
use Rattle.world.specs.RowOrder.{family, net_number, net_len, way_rank, way_gate, row_rank, row_iface, row_net, row_metric, row_gate, row_cmp}

both_equal : (r s : Ordering) → ordering_then r s ≡ Equal → (r ≡ Equal) × (s ≡ Equal)
both_equal Less s e = cc
both_equal Equal s e = (refl, e)
both_equal Greater s e = cc

same_net : (a b : Net) → family a ≡ family b → net_number a ≡ net_number b → net_len a ≡ net_len b → a ≡ b
same_net (Family.V4 a) (Family.V4 b) f n l = λ i. Family.V4 (record { ip = record { number = n i }; len = l i })
same_net (Family.V4 a) (Family.V6 b) f n l = absurd (omega arith)
same_net (Family.V6 a) (Family.V4 b) f n l = absurd (omega arith)
same_net (Family.V6 a) (Family.V6 b) f n l = λ i. Family.V6 (record { ip = record { number = n i }; len = l i })

same_way : (a b : Via) → way_rank a ≡ way_rank b → way_gate a ≡ way_gate b → a ≡ b
same_way Ways.OnLink Ways.OnLink r g = refl
same_way Ways.OnLink Ways.Reject r g = absurd (omega arith)
same_way Ways.OnLink (Ways.Gate4 y) r g = absurd (omega arith)
same_way Ways.OnLink (Ways.Gate6 y) r g = absurd (omega arith)
same_way Ways.Reject Ways.OnLink r g = absurd (omega arith)
same_way Ways.Reject Ways.Reject r g = refl
same_way Ways.Reject (Ways.Gate4 y) r g = absurd (omega arith)
same_way Ways.Reject (Ways.Gate6 y) r g = absurd (omega arith)
same_way (Ways.Gate4 x) Ways.OnLink r g = absurd (omega arith)
same_way (Ways.Gate4 x) Ways.Reject r g = absurd (omega arith)
same_way (Ways.Gate4 x) (Ways.Gate4 y) r g = λ i. Ways.Gate4 (record { number = g i })
same_way (Ways.Gate4 x) (Ways.Gate6 y) r g = absurd (omega arith)
same_way (Ways.Gate6 x) Ways.OnLink r g = absurd (omega arith)
same_way (Ways.Gate6 x) Ways.Reject r g = absurd (omega arith)
same_way (Ways.Gate6 x) (Ways.Gate4 y) r g = absurd (omega arith)
same_way (Ways.Gate6 x) (Ways.Gate6 y) r g = λ i. Ways.Gate6 (record { number = g i })

rank_above : (way : Via) → 0 < way_rank way
rank_above Ways.OnLink = omega arith
rank_above Ways.Reject = omega arith
rank_above (Ways.Gate4 x) = omega arith
rank_above (Ways.Gate6 x) = omega arith

same_row : (a b : HostRow) → row_rank a ≡ row_rank b → row_iface a ≡ row_iface b → row_net a ≡ row_net b → row_metric a ≡ row_metric b → row_gate a ≡ row_gate b
    → a ≡ b
same_row (Addr i n) (Addr j m) r e f k g = λ x. Addr (record { number = e x }) (f x)
same_row (Addr i n) (Route j m way q) r e f k g = let h : 0 < way_rank way = rank_above way in absurd (omega arith)
same_row (Route i n way p) (Addr j m) r e f k g = let h : 0 < way_rank way = rank_above way in absurd (omega arith)
same_row (Route i n way p) (Route j m road q) r e f k g = let w : way ≡ road = same_way way road r g in λ x. Route (record { number = e x }) (f x) (w x) (k x)

pub row_cmp_exact : (a b : HostRow) → row_cmp a b ≡ Equal → a ≡ b
row_cmp_exact a b e =
    let p1 = both_equal _ _ e in
    let p2 = both_equal _ _ p1.1 in
    let p3 = both_equal _ _ p2.1 in
    let p4 = both_equal _ _ p3.1 in
    let p5 = both_equal _ _ p4.1 in
    let p6 = both_equal _ _ p5.1 in
    same_row a b (exact_unsigned _ _ p1.0) (exact_unsigned _ _ p3.0)
    (same_net (row_net a) (row_net b) (exact_unsigned _ _ p2.0) (exact_unsigned _ _ p4.0) (exact_unsigned _ _ p5.0))
    (exact_unsigned _ _ p6.0) (exact_unsigned _ _ p6.1)
