-- The arbiter's table of rows grants the first candidate.
use Rattle.std.proofs.Common.{◌≡◌, ℕ, ◌+◌, ◌*◌, ◌^◌, ◌<◌, ◌≤◌, [], Bool, true, false, nat_eq, nat_lt, if◌then◌else◌, refl, sym, ap, subst, ◌∙◌, arith, zero-add, zero-mul}
use Rattle.std.specs.Prelude.{not, ◌&&◌}
use Rattle.hls_ints.specs.Residues.{bit_of}
use Rattle.netlist.specs.declared.netlist.Module.{Module}
use Rattle.verilog_meaning.specs.Readings.{Reading, width, action_bytes}
use Rattle.circuit.specs.Rows.{EachOf}
use Rattle.circuit.specs.Modules.{FitsAction, FitsMemory, Obeys, IsLeaf}
use Rattle.circuit.specs.Arbitration.{at_or_after, granted_to, is_granted, Arbitrates}
use Rattle.circuit.specs.Fits.{fits}
use Rattle.circuit.proofs.Tables.{Told}
use Rattle.circuit.proofs.TableRows.{ByRow}
use Rattle.circuit.proofs.TableSound as sound
use Rattle.circuit.proofs.Chains.{any_below, any_is}
use Rattle.circuit.proofs.Arbitration.{candidate, granted_candidate, granted_first}
use Rattle.bank_arbiter.specs.Rows as row
use Rattle.bank_arbiter.specs.Arbiter.{rows, at, places, inputs, never, IsArbiter}

-- the rows are in order
rows_fit : fits never [] rows ≡ true
rows_fit = refl

leading : (a b p : ℕ) → (0 * a + 0) * b + p ≡ p
leading a b p = ap (λ x. (x + 0) * b + p) (zero-mul a) ∙ ap (λ x. x + p) (zero-mul b) ∙ zero-add p

-- a bit where another is off, else 0
masked : (b c : Bool) (e a z : ℕ) → e ≡ bit_of c → a ≡ bit_of b → z ≡ 0 → (if nat_eq e 0 then a else z) ≡ bit_of (b && not c)
masked true true e a z p q s = ap (λ x. if nat_eq x 0 then a else z) p ∙ s
masked false true e a z p q s = ap (λ x. if nat_eq x 0 then a else z) p ∙ s
masked true false e a z p q s = ap (λ x. if nat_eq x 0 then a else z) p ∙ q
masked false false e a z p q s = ap (λ x. if nat_eq x 0 then a else z) p ∙ q

either_bit : (t b c : Bool) (e x y : ℕ) → e ≡ bit_of t → x ≡ bit_of b → y ≡ bit_of c → (if nat_eq e 0 then y else x) ≡ bit_of (if t then b else c)
either_bit true b c e x y p q s = ap (λ z. if nat_eq z 0 then y else x) p ∙ q
either_bit false b c e x y p q s = ap (λ z. if nat_eq z 0 then y else x) p ∙ s

module _ (n : ℕ) (few : n ≤ 64) (m : Module) (is : IsArbiter n m) where
  pub laid_by : sound.IsLaid n never [] rows m never
  laid_by = record { few = few; passes = rows_fit; signals = is.signals; agrees = λ k x a b. refl; words = sound.no_memories m }

  -- ---- the promise

  pub arbiter_leaf : IsLeaf m (inputs n) never
  arbiter_leaf = sound.leaf laid_by is.instances (subst (EachOf (FitsAction m)) (sym is.actions) tt) (subst (EachOf FitsMemory) (sym is.memories) tt)

  module _ (r : Reading) (obeys : Obeys m r) (f : ℕ → Bool) (asked : (i : ℕ) → i < n → r.signal (at n row.asks + i) ≡ bit_of (f i)) where
    told : ByRow n rows (Told m r)
    told = sound.told laid_by r obeys

    wide_is : r.signal (at n row.wide) ≡ r.signal (at n row.preference)
    wide_is =
        (told row.wide)
        ∙ ap (λ x. (0 * 2 ^ width m (at n row.zeros) + x) * 2 ^ width m (at n row.preference) + r.signal (at n row.preference)) (told row.zeros)
        ∙ leading (2 ^ width m (at n row.zeros)) (2 ^ width m (at n row.preference)) (r.signal (at n row.preference))

    earlier_is : (k : ℕ) → k < n → r.signal (at n row.earlier + k) ≡ bit_of (nat_lt k (r.signal (at n row.preference)))
    earlier_is k l =
        (told row.earlier) k l
        ∙ ap (λ x. bit_of (nat_lt x (r.signal (at n row.wide)))) (told row.numbers k l ∙ zero-add k)
        ∙ ap (λ x. bit_of (nat_lt k x)) wide_is

    preferred_is : (k : ℕ) → k < n → r.signal (at n row.preferred + k) ≡ bit_of (at_or_after (r.signal (at n row.preference)) f k)
    preferred_is k l =
        (told row.preferred) k l
        ∙ masked (f k) (nat_lt k (r.signal (at n row.preference))) (r.signal (at n row.earlier + k)) (r.signal (at n row.asks + k)) (r.signal (at n row.none)) (earlier_is k l) (asked k l) (told row.none)

    some_is : r.signal (at n row.any + n) ≡ bit_of (any_below (at_or_after (r.signal (at n row.preference)) f) n)
    some_is = any_is r n (at n row.any) (at n row.preferred) (at n row.one) (at_or_after (r.signal
        (at n row.preference)) f) (told row.any).0 (told row.one) (told row.any).1 preferred_is n (omega arith)

    candidate_is : (k : ℕ) → k < n → r.signal (at n row.candidates + k) ≡ bit_of (candidate n (r.signal (at n row.preference)) f k)
    candidate_is k l =
        (told row.candidates) k l
        ∙ either_bit (any_below (at_or_after (r.signal (at n row.preference)) f) n) (at_or_after (r.signal (at n row.preference)) f k) (f k) (r.signal (at n row.any + n)) (r.signal (at n row.preferred + k))
        (r.signal (at n row.asks + k)) some_is (preferred_is k l) (asked k l)

    taken_is : (k : ℕ) → k ≤ n → r.signal (at n row.taken + k) ≡ bit_of (any_below (candidate n (r.signal (at n row.preference)) f) k)
    taken_is = any_is r n (at n row.taken) (at n row.candidates) (at n row.one) (candidate n (r.signal
        (at n row.preference)) f) (told row.taken).0 (told row.one) (told row.taken).1 candidate_is

    grant_is : (k : ℕ) → k < n → r.signal (at n row.grants + k) ≡ bit_of (is_granted (granted_to n (r.signal (at n row.preference)) f) k)
    grant_is k l =
        (told row.grants) k l ∙ told row.chosen k l
        ∙ masked (candidate n (r.signal (at n row.preference)) f k) (any_below (candidate n (r.signal (at n row.preference)) f) k) (r.signal (at n row.taken + k)) (r.signal (at n row.candidates + k))
        (r.signal (at n row.none)) (taken_is k (omega arith)) (candidate_is k l) (told row.none)
        ∙ ap bit_of (sym (granted_first (candidate n (r.signal (at n row.preference)) f) n k l) ∙ ap (λ o. is_granted o k) (sym (granted_candidate n (r.signal (at n row.preference)) f)))

  pub arbiter_grants : Arbitrates n (places n) m
  arbiter_grants = record {
    grants = λ r f obeys asked i l. grant_is r obeys f asked i l;
    preferred_input = arbiter_leaf.first (at n row.preference) (omega arith);
    ask_inputs = λ i l. arbiter_leaf.first (at n row.asks + i) (omega arith);
    silent = λ r. ap (action_bytes m r) is.actions;
  }
