-- The example is a leaf of a thread.
use Rattle.std.proofs.Common.{◌≡◌, ℕ, zero, suc, ◌<◌, ◌≤◌, Bool, true, false, nat_eq, nat_lt, List, [], ◌++◌, if◌then◌else◌, refl, sym, ap, arith, lit<}
use Rattle.std.specs.Prelude.{◌&&◌, ◌||◌}
use Rattle.std.proofs.Math.Arith.{lt-one}
use Rattle.circuit.specs.Modules.{IsLeaf}
use Rattle.circuit.specs.Table.{place}
use Rattle.circuit.specs.Fits.{fits}
use Rattle.circuit.proofs.TableSound.{IsLaid, leaf as table_leaf, no_memories}
use Rattle.leaf_machine.specs.Leaves.{Grant, IsThreadLeaf, IsHeard}
use Rattle.leaf_machine.specs.Example.{rows, example, input_at, ports}

-- each row is one signal
same_place : (k x : ℕ) → place 1 rows k ≤ x → x < place 1 rows (suc k) → x ≡ k
same_place zero x a b = omega arith
same_place (suc zero) x a b = omega arith
same_place (suc (suc zero)) x a b = omega arith
same_place (suc (suc (suc zero))) x a b = omega arith
same_place (suc (suc (suc (suc zero)))) x a b = omega arith
same_place (suc (suc (suc (suc (suc zero))))) x a b = omega arith
same_place (suc (suc (suc (suc (suc (suc zero)))))) x a b = omega arith
same_place (suc (suc (suc (suc (suc (suc (suc zero))))))) x a b = omega arith
same_place (suc (suc (suc (suc (suc (suc (suc (suc zero)))))))) x a b = omega arith
same_place (suc (suc (suc (suc (suc (suc (suc (suc (suc zero))))))))) x a b = omega arith
same_place (suc (suc (suc (suc (suc (suc (suc (suc (suc (suc zero)))))))))) x a b = absurd (omega arith)
same_place (suc (suc (suc (suc (suc (suc (suc (suc (suc (suc (suc k))))))))))) x a b = absurd (omega arith)

leaf : (late : ℕ → Bool) → fits late [] rows ≡ true → IsLeaf example 3 late
leaf late passes =
    let laid : IsLaid 1 late [] rows example late =
    record { few = omega arith; passes = passes; signals = refl; agrees = λ k x a b. ap late (same_place k x a b); words = no_memories example } in
    table_leaf laid refl
    (((record { signal = _; listed = refl; wide = refl }, tt), (1, record { signal = _; listed = refl; wide = refl; is = tt }, record { signal = _; listed = refl; wide = refl })), tt)
    tt

-- what a grant reaches, and what the enable reaches too
abbrev late : ℕ → Bool
late x = nat_eq x 2 || nat_eq x 6

abbrev live : ℕ → Bool
live x = nat_eq x 1 || nat_eq x 2 || nat_eq x 6 || nat_eq x 7

heard : (x : ℕ) → x < 3 → IsHeard example 3 ports 1 (λ k. 1) (λ k. 0) x (input_at x)
heard zero l = refl
heard (suc zero) l = refl
heard (suc (suc zero)) l = (lit< tt, refl, refl)
heard (suc (suc (suc x))) l = absurd (omega arith)

nothing : (b : Bool) → let none : List ℕ = [] in (if b then none else none) ++ none ≡ none
nothing true = refl
nothing false = refl

pub example_is_leaf : IsThreadLeaf example 3 ports 1 (λ k. 1) (λ k. 0)
example_is_leaf = record {
  ported = record {
    all = heard;
    enable = record { input = lit< tt; is = refl };
    grants = λ k l u. record { input = lit< tt; is = ap Grant (sym (lt-one l)) };
    tells = λ k j l u d. absurd (omega arith);
  };
  clockless = record { signals = leaf (λ x. nat_eq x 0) refl; acts = (((lit< tt, tt), (lit< tt, tt)), tt) };
  late = late;
  answered = record { leaf = leaf late refl; grants = λ k l u. refl; tells = λ k j l u d. absurd (omega arith) };
  asks = λ k j l u d. (1, record { has = record { signal = _; listed = refl; wide = refl }; after = lit< tt; early = refl });
  need = record {
    late = live;
    answered = record { leaf = leaf live refl; grants = λ k l u. refl; tells = λ k j l u d. absurd (omega arith) };
    enable = refl;
    bit = record { has = record { signal = _; listed = refl; wide = refl }; after = lit< tt; early = refl };
  };
  silent = λ r. nothing (nat_lt 0 (r.signal 1) && true);
}
