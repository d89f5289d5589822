-- The signals of a part end before the places do.
use Rattle.std.specs.Prelude.{◌≡◌, ℕ, zero, suc, ◌+◌, ◌^◌, ◌<◌, length, Some, slice_get, refl}
use Rattle.std.proofs.Common.{arith}
use Rattle.netlist.specs.declared.netlist.Module.{Module}
use Rattle.sim_values.specs.declared.edge.Part.{Part}
use Rattle.sim_layout.specs.Running.{Running, Stands}

pub part_room : (r : Running) (q : ℕ) (p : Part) (m : Module) → Stands r → length r.numbers < 2 ^ 64 → slice_get r.parts q ≡ Some p → slice_get r.modules p.module ≡ Some m
    → p.spot.base < 2 ^ 64 → p.spot.base + length m.signals < 2 ^ 64
part_room r q p m st room listed kind small = last (length m.signals) refl
  where
    last : (n : ℕ) → length m.signals ≡ n → p.spot.base + length m.signals < 2 ^ 64
    last zero e = omega (arith, e, small)
    last (suc n) e =
        let l = st.apart.room q p m n (record { listed = listed; kind = kind }) (omega (arith, e)) in omega (arith, e, l, room)

pub part_places : (r : Running) (q : ℕ) (p : Part) (m : Module) → Stands r → length r.numbers < 2 ^ 64 → slice_get r.parts q ≡ Some p → slice_get r.modules p.module ≡ Some m
    → (x : ℕ) → x < length m.signals → p.spot.base + x < 2 ^ 64
part_places r q p m st room listed kind x low =
    let l = st.apart.room q p m x (record { listed = listed; kind = kind }) low in omega (arith, l, room)
