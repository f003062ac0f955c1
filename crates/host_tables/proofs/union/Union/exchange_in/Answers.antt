use Rattle.std.proofs.Common.{◌≡◌, ◌≤◌, ◌<◌, ◌+◌, ◌^◌, List, vec_len, length, sym, ap, ap₂, subst, ◌∙◌, arith}
use Rattle.std.specs.Global.{Vec}
use Rattle.std.specs.Vec.{vec_capacity}
use Rattle.world.specs.declared.rows.HostRow.{HostRow}
use Rattle.world.specs.RowOrder.{rows_beyond}
use Rattle.host_tables.specs.declared.bringing.Bringing.{Bringing}
use Rattle.host_tables.specs.Bringings.{rows_in}
use Rattle.host_tables.specs.Unions.{AddsRows, AreHeads, RemovesRows}
use Rattle.host_tables.proofs.Counting.{all_steps, fewer_left}
use Rattle.host_tables.proofs.Exchanges.{exchanged}
use Rattle.host_tables.proofs.union.Union.exchange_in.Goals as goal

pub add_all-requires-clause-room : goal.add_all-requires-clause-room
add_all-requires-clause-room g c =
    let m = length c.args.before.now in let k = length c.args.after.now in
    let few : length c.deref-8.result.now ≤ length c.deref-5.result.now =
    subst (λ (rows : List HostRow). length rows ≤ length c.deref-5.result.now) (sym (c.deref-8.ensures.value ∙ c.beyond_into-2.ensures.found))
    (fewer_left _ c.deref-5.result.now) in
    let same : c.bring.new.self.wanted ≡ c.args.self.now.wanted = c.bring.ensures.brings.wanted ∙ c.take_out.ensures.takes_out.wanted in
    omega (
      arith,
      few,
      ap (λ (all : Vec HostRow). vec_len all) same,
      ap (λ (all : Vec HostRow). vec_capacity all) same,
      ap length c.deref-5.ensures.value,
      c.heads_into-2.new.heads.ok.0,
      c.heads_into-2.ensures.len,
      c.requires.room.wanted,
      c.remove_all.ensures.len,
      c.remove_all.ensures.capacity,
    )

pub returns-clause-exchanges : goal.returns-clause-exchanges
returns-clause-exchanges g c =
    let before = c.args.before.now in let after = c.args.after.now in
    let gone = c.beyond_into.new.found in let come = c.beyond_into-2.new.found in
    exchanged c.args.place before after c.args.self.now c.take_out.new.self c.bring.new.self c.heads_into.new.heads c.heads_into-2.new.heads
    c.remove_all.new.all c.add_all.new.all
    (record { gone = gone; come = come })
    (record {
      heads_before =
          subst (λ (all : List Bringing). AreHeads before after (rows_in all) c.heads_into.new.heads.items) c.deref.ensures.value c.heads_into.ensures.heads;
      takes_out = c.take_out.ensures.takes_out;
      brings = c.bring.ensures.brings;
      heads_after =
          subst
          (λ (all : List Bringing). AreHeads before after (rows_in all) c.heads_into-2.new.heads.items) c.deref-2.ensures.value
          c.heads_into-2.ensures.heads;
      gone = c.beyond_into.ensures.found ∙ ap₂ (λ (rows others : List HostRow). rows_beyond others rows) c.deref-3.ensures.value c.deref-4.ensures.value;
      come = c.beyond_into-2.ensures.found ∙ ap₂ (λ (rows others : List HostRow). rows_beyond others rows) c.deref-5.ensures.value c.deref-6.ensures.value;
      removes =
          subst
          (λ (rows : List HostRow). RemovesRows rows c.bring.new.self.wanted.items c.remove_all.new.all.items) c.deref-7.ensures.value
          c.remove_all.ensures.removes;
      adds = subst (λ (rows : List HostRow). AddsRows rows c.remove_all.new.all.items c.add_all.new.all.items) c.deref-8.ensures.value c.add_all.ensures.adds;
    })

pub returns-clause-steps : goal.returns-clause-steps
returns-clause-steps g c = λ d few.
    let m = length c.args.before.now in let k = length c.args.after.now in
    let stood : length c.deref-3.result.now ≤ m + k = omega (arith, ap length c.deref-3.ensures.value, c.heads_into.new.heads.ok.0, c.heads_into.ensures.len) in
    let others : length c.deref-6.result.now ≤ m + k =
    omega (arith, ap length c.deref-6.ensures.value, c.heads_into.new.heads.ok.0, c.heads_into.ensures.len) in
    let stand : length c.deref-5.result.now ≤ m + k =
    omega (arith, ap length c.deref-5.ensures.value, c.heads_into-2.new.heads.ok.0, c.heads_into-2.ensures.len) in
    let lacking : length c.deref-4.result.now ≤ m + k =
    omega (arith, ap length c.deref-4.ensures.value, c.heads_into-2.new.heads.ok.0, c.heads_into-2.ensures.len) in
    let gone : length c.deref-7.result.now ≤ m + k =
    omega (
      arith,
      stood,
      subst (λ (rows : List HostRow). length rows ≤ length c.deref-3.result.now) (sym (c.deref-7.ensures.value ∙ c.beyond_into.ensures.found))
          (fewer_left _ c.deref-3.result.now),
    )
    in
    let come : length c.deref-8.result.now ≤ m + k =
    omega (
      arith,
      stand,
      subst (λ (rows : List HostRow). length rows ≤ length c.deref-5.result.now) (sym (c.deref-8.ensures.value ∙ c.beyond_into-2.ensures.found))
          (fewer_left _ c.deref-5.result.now),
    )
    in
    let before = c.heads_into.ensures.steps d (omega (arith, ap length c.deref.ensures.value, c.args.self.now.brought.ok.0, few.brought)) few.changed in
    let out = c.take_out.ensures.steps d few.brought in
    let brought = c.bring.ensures.steps d few.brings in
    let after = c.heads_into-2.ensures.steps d (omega (arith, ap length c.deref-2.ensures.value, c.bring.new.self.brought.ok.0, few.brings)) few.changed in
    let same : c.bring.new.self.wanted ≡ c.args.self.now.wanted = c.bring.ensures.brings.wanted ∙ c.take_out.ensures.takes_out.wanted in
    let wanted : vec_len c.bring.new.self.wanted < 2 ^ d = subst (λ (all : Vec HostRow). vec_len all < 2 ^ d) (sym same) few.wanted in
    let removed = c.remove_all.ensures.steps d wanted in
    let added = c.add_all.ensures.steps d few.wants in
    all_steps m k d (length c.deref-7.result.now)
    (length c.deref-8.result.now) c.args.steps.now c.heads_into.new.steps c.take_out.new.steps c.bring.new.steps c.heads_into-2.new.steps
    c.beyond_into.new.steps c.beyond_into-2.new.steps c.remove_all.new.steps c.add_all.new.steps gone come before out brought after
    (omega (arith, stood, lacking, c.beyond_into.ensures.steps)) (omega (arith, stand, others, c.beyond_into-2.ensures.steps)) removed added
