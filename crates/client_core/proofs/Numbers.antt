-- The numbers of machines: each has one, and each number is one's.
use Rattle.std.proofs.Common.{ℕ, zero, suc, ◌≡◌, ◌%◌, ◌<◌, refl, sym, ap, ◌∙◌, arith, get_or, [], ◌∷◌}
use Rattle.client_model.specs.declared.machines.TimedMachine.{TimedMachine}
use Rattle.client_model.specs.declared.machines.TimedMachine.TheVariants.{Dhcp4, LinkLocal, Dhcp6}
use Rattle.client_core.specs.Due.{rank_of, machine_ranked, number_of, place_in, machine_in}

pub rank_below : (machine : TimedMachine) → rank_of machine < 3
rank_below Dhcp4 = omega arith
rank_below LinkLocal = omega arith
rank_below Dhcp6 = omega arith

back : (machine : TimedMachine) → machine_ranked (rank_of machine) ≡ machine
back Dhcp4 = refl
back LinkLocal = refl
back Dhcp6 = refl

pub rank_exact : (a b : TimedMachine) → rank_of a ≡ rank_of b → a ≡ b
rank_exact a b e = sym (back a) ∙ ap machine_ranked e ∙ back b

pub placed : (place : ℕ) (machine : TimedMachine) → place_in (number_of place machine) ≡ place
placed place machine = let below = rank_below machine in omega arith

pub ranked : (place : ℕ) (machine : TimedMachine) → machine_in (number_of place machine) ≡ machine
ranked place machine =
    let below = rank_below machine in
    let rank : number_of place machine % 3 ≡ rank_of machine = omega arith in
    ap machine_ranked rank ∙ back machine

forth : (n : ℕ) → n < 3 → rank_of (machine_ranked n) ≡ n
forth zero lt = refl
forth (suc zero) lt = refl
forth (suc (suc zero)) lt = refl
forth (suc (suc (suc n))) lt = absurd (omega arith)

pub numbered : (key : ℕ) → number_of (place_in key) (machine_in key) ≡ key
numbered key = let rank : rank_of (machine_in key) ≡ key % 3 = forth (key % 3) (omega arith) in omega arith

-- the machines by rank
abbrev pub at_rank : ℕ → TimedMachine
at_rank i = get_or (Dhcp4 ∷ LinkLocal ∷ Dhcp6 ∷ []) i Dhcp4

pub rank_at : (i : ℕ) → i < 3 → rank_of (at_rank i) ≡ i
rank_at zero lt = refl
rank_at (suc zero) lt = refl
rank_at (suc (suc zero)) lt = refl
rank_at (suc (suc (suc i))) lt = absurd (omega arith)
