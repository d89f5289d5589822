-- What a thread of the machine does with the banks in a cycle.
use Rattle.std.specs.Prelude.{nat_lt, ◌&&◌, Bool, true, false, slice_get, ℤ}
use Rattle.std.proofs.Common.{◌≡◌, ◌≢◌, ℕ, ◌<◌, [], refl, sym, ap, ap₂, ◌∙◌, subst, ⊎_elim, arith}
use Rattle.std.proofs.lemmas.Bool.Decides.{nat_tests}
use Rattle.std.proofs.lemmas.Option.{slice_get_past}
use Rattle.hls_ints.specs.Residues.{residue_of, bit_of}
use Rattle.hls_ints.specs.Types.{width_of}
use Rattle.interleaving.specs.Memory.{Memory}
use Rattle.bank_partition.specs.declared.banks.Spread.{Spread}
use Rattle.bank_cores.specs.Machine.{ask_of}
use Rattle.block_ir.specs.declared.block.Block.{Block}
use Rattle.block_ir.specs.declared.plan.BlockPlan.{BlockPlan}
use Rattle.planned_block.specs.Block.{operation_at, size}
use Rattle.planned_block.specs.Slot.{Slot}
use Rattle.planned_block.specs.Advance.{advance, accesses_of_cycle, requests, answered, wires}
use Rattle.plan_blocks.specs.View.{planned_view, plan_view}
use Rattle.verilog_meaning.specs.Readings.{Reading}
use Rattle.thread_promise.specs.Slots.{ShowsInBlock}
use Rattle.thread_promise.specs.Globals.{bank_total, bank_of, place_now, bank_now, written_now, IsOpen}
use Rattle.thread_promise.specs.Promise.{is_run}
use Rattle.law_banks.specs.Cycle.{IsAskFor, AreBanked, Works, Does, Elsewhere}
use Rattle.law_banks.proofs.StateAccesses.{request_is, request_now, spread_of}
use Rattle.law_banks.proofs.AskingOperation.{IsFound, find, stopped_is_silent}
use Rattle.law_cycle.specs.Thread as thread
use Rattle.law_cycle.specs.Thread.{Thread, Runs, IsThread, Where, AtAct, AtRest, AtMeeting}
use Rattle.law_cycle.specs.Asks.{AsksFor, IsWanted, Asks}
use Rattle.law_cycle.proofs.ThreadMoves.{bank_below}
use Rattle.law_cycle.proofs.SlotStands.{same_block}

bit_asks : (c : Bool) → nat_lt 0 (bit_of c) ≡ c
bit_asks true = refl
bit_asks false = refl

pub bit_on : (c : Bool) → bit_of c ≢ 0 → c ≡ true
bit_on true ne = refl
bit_on false ne = absurd (ne refl)

pub zero_of : (n : ℕ) → nat_lt 0 n ≡ false → n ≡ 0
zero_of n e = grind (arith, nat_tests)

-- an ask at the parts of a bank
ask_for : (f : ℕ → ℕ) (enabled : Bool) (s : Spread) (j : ℕ) (writes : Bool) (number : ℕ) → AsksFor f enabled s j writes number → enabled ≡ true →
    IsAskFor (ask_of f) s j writes number
ask_for f enabled s j writes number a on = record {
  asks = ap (nat_lt 0) (a.raised ∙ ap bit_of on);
  operation = ap (nat_lt 0) a.operation ∙ bit_asks writes;
  address = a.address;
  value = a.value;
}

module _ (t : Thread) (banked : AreBanked t.spreads t.globals) (total : bank_total t.spreads ≡ t.numbers.banks) (enabled : Bool) (q : Slot) (ask : ℕ → ℕ → ℕ)
    (asks : Asks t enabled q ask) where
  a_bank : (n : ℕ) → n < bank_total t.spreads → n < t.numbers.banks
  a_bank n l = subst (λ z. n < z) total l

  -- outside blocks no bank is asked
  outside_asks : is_run (slice_get t.code.stages q.stage) ≡ false → (n : ℕ) → n < t.numbers.banks → ask n 0 ≡ 0
  outside_asks off n l = asks.no_bank n l (λ k x w b p wanted. let e = sym (ap is_run wanted.runs.listed) ∙ off in let f : true ≡ false = e in cc)

  pub outside_does : (granted : ℕ → Bool) (memory : Memory ℤ) (next : Slot) → is_run (slice_get t.code.stages q.stage) ≡ false → ((n : ℕ) → next.words n ≡ q.words n) →
      Does t.spreads t.globals (λ n. ask_of (ask n)) granted memory q.words next.words []
  outside_does granted memory next off same = Elsewhere (λ n l. ap (nat_lt 0) (outside_asks off n (a_bank n l))) same refl

  -- ---- in a block

  module _ (b : Block) (p : BlockPlan) (runs : Runs t q.stage b p) (inside : q.state < p.states) where
    abbrev Opens : ℕ → ℕ → Bool → Type 0
    Opens = IsOpen t.spreads b p q

    wanted_here : (n k x : ℕ) (w : Bool) → Opens k x w → bank_now t.spreads b p q k x ≡ n → IsWanted t enabled q ask n k x w b p
    wanted_here n k x w o e = record { runs = runs; inside = inside; is_open = o; bank = e }

    -- the bank of an open operation is asked
    raised : (k x : ℕ) (w : Bool) → Opens k x w → ask (bank_now t.spreads b p q k x) 0 ≡ bit_of enabled
    raised k x w o =
        let s = spread_of t.globals t.spreads t.code t.plan t.places q b p runs k x w o.below o.target in
        let ty = banked.spread.type x s.0 s.1 in
        (asks.bank (bank_now t.spreads b p q k x) k x w b p s.0 ty.0 (wanted_here (bank_now t.spreads b p q k x) k x w o refl) s.1 ty.1).raised

    -- and no other one
    none_asks : (n : ℕ) → n < t.numbers.banks → ((k x : ℕ) (w : Bool) → Opens k x w → bank_now t.spreads b p q k x ≡ n → ⊥) → ask n 0 ≡ 0
    none_asks n l none =
        asks.no_bank n l
        (λ k x w c d wanted.
        let same = same_block t q.stage c b d p wanted.runs runs in
        let here : IsOpen t.spreads b p q k x w × (bank_now t.spreads b p q k x ≡ n) =
        subst (λ z. IsOpen t.spreads z p q k x w × (bank_now t.spreads z p q k x ≡ n)) same.0
        (subst (λ z. IsOpen t.spreads c z q k x w × (bank_now t.spreads c z q k x ≡ n)) same.1 (wanted.is_open, wanted.bank)) in
        none k x w here.0 here.1)

    stopped : enabled ≡ false → (n : ℕ) → n < bank_total t.spreads → (ask_of (ask n)).asks ≡ false
    stopped off =
        stopped_is_silent t.spreads b p q (λ n. ask_of (ask n)) (λ k x w o. ap (nat_lt 0) (raised k x w o ∙ ap bit_of off))
        (λ n l none. ap (nat_lt 0) (none_asks n (a_bank n l) none))

    pub stopped_does : (granted : ℕ → Bool) (memory : Memory ℤ) (next : Slot) → enabled ≡ false → ((n : ℕ) → next.words n ≡ q.words n) →
        Does t.spreads t.globals (λ n. ask_of (ask n)) granted memory q.words next.words []
    stopped_does granted memory next off same = Elsewhere (stopped off) same refl

    -- a bank that is asked is asked by an open operation
    asked_by : (n : ℕ) → n < t.numbers.banks → ask n 0 ≢ 0 → IsFound t.spreads b p q n
    asked_by n l ne =
        ⊎_elim
        (λ (found : IsFound t.spreads b p q n). found)
        (λ (none : (j x : ℕ) (w : Bool) → j < size (planned_view b) → Opens j x w → bank_now t.spreads b p q j x ≡ n → ⊥).
        absurd (ne (none_asks n l (λ j x w o same. none j x w o.below o same))))
        (find t.spreads b p q n (size (planned_view b)) (omega arith))

    asked_on : (n : ℕ) → n < t.numbers.banks → ask n 0 ≢ 0 → enabled ≡ true
    asked_on n l ne =
        let f = asked_by n l ne in
        bit_on enabled (λ z. ne (subst (λ m. ask m 0 ≡ 0) f.4 (raised f.0 f.1 f.2 f.3 ∙ z)))

    module _ (granted : ℕ → Bool) (grant : ℕ → Bool) (heard : (k x : ℕ) (w : Bool) → Opens k x w → grant k ≡ granted (bank_now t.spreads b p q k x)) where
      -- a bank that is asked and grants answers an operation
      pub serves : (n : ℕ) → n < t.numbers.banks → ask n 0 ≢ 0 → granted n ≡ true →
          (k : ℕ) × (k < size (planned_view b)) × (answered (planned_view b) (plan_view b p) q grant k ≡ true)
      serves n l ne won =
          let f = asked_by n l ne in
          (f.0, f.3.below, ap₂ (λ (u v : Bool). u && v) f.3.requested (heard f.0 f.1 f.2 f.3 ∙ ap granted f.4 ∙ won))

      pub works : (on : enabled ≡ true) (r : Reading) → ShowsInBlock t.globals t.code t.places b p r q → (memory : Memory ℤ) (next : Slot) →
          next ≡ advance (bank_of t.spreads) (planned_view b) (plan_view b p) q memory grant →
          Works t.spreads t.globals (λ n. ask_of (ask n)) granted memory q.words next.words
          (accesses_of_cycle (planned_view b) (plan_view b p) q grant (wires (bank_of t.spreads) (planned_view b) (plan_view b p) q))
      works on r shown memory next slot = record {
        code = t.code;
        plan = t.plan;
        slot = q;
        block = b;
        times = p;
        runs = runs;
        places = t.places;
        reading = r;
        shown = shown;
        asked = λ k x w s ty o e u.
            ask_for (ask (bank_now t.spreads b p q k x)) enabled s (place_now t.spreads b p q k x).index w (residue_of (width_of ty) (written_now t.spreads b p q k))
            (asks.bank (bank_now t.spreads b p q k x) k x w b p s ty (wanted_here (bank_now t.spreads b p q k x) k x w o refl) e u) on;
        unasked = λ n l none. ap (nat_lt 0) (none_asks n (a_bank n l) none);
        grant = grant;
        heard = heard;
        before = λ n. refl;
        after = λ n. ap (λ (z : Slot). z.words n) slot;
        makes = refl;
      }

    -- a request asks a bank
    pub wants : IsThread t → enabled ≡ true → (k : ℕ) → k < size (planned_view b) → requests (planned_view b) (plan_view b p) q k ≡ true →
        (n : ℕ) × (n < t.numbers.banks) × (ask n 0 ≢ 0)
    wants is on k l e =
        let r = request_is (operation_at (planned_view b) k).kind (request_now t.globals t.spreads t.code t.plan t.places q b p runs k e).0 in
        let o : Opens k r.0 r.1 = record { below = l; requested = e; target = r.2 } in
        (bank_now t.spreads b p q k r.0, bank_below t is q b p runs k r.0 r.1 o, λ z. absurd (let one = sym (raised k r.0 r.1 o ∙ ap bit_of on) ∙ z in omega (arith, one)))

  -- ---- anywhere

  -- who asks a bank is enabled and in a block
  pub asks_in_block : (s : Reading) → Where t s q → (n : ℕ) → n < t.numbers.banks → ask n 0 ≢ 0 → (enabled ≡ true) × (is_run (slice_get t.code.stages q.stage) ≡ true)
  asks_in_block s (thread.InBlock b p inside) n l ne = (asked_on b p inside.runs inside.state n l ne, ap is_run inside.runs.listed)
  asks_in_block s (AtAct a next listed state shown) n l ne = absurd (ne (outside_asks (ap is_run listed) n l))
  asks_in_block s (AtRest at state shown) n l ne = absurd (ne (outside_asks (ap is_run (slice_get_past t.code.stages q.stage (omega (arith, at)))) n l))
  asks_in_block s (AtMeeting m next o at listed below state shown) n l ne =
      absurd (ne (outside_asks (ap is_run (slice_get_past t.code.stages q.stage (omega (arith, at)))) n l))
