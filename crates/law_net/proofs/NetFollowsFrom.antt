-- The net follows the program from a fresh state where its machine does.
use Rattle.std.proofs.Common.{◌≡◌, ◌⊎◌, ℕ, zero, suc, ◌+◌, ◌/◌, ◌%◌, ◌<◌, ◌≤◌, Bool, true, false, List, [], ◌∷◌, length, take, Some, slice_get}
use Rattle.std.proofs.Common.{slice_index, refl, sym, ap, ◌∙◌, subst, inl, inr, arith}
use Rattle.std.specs.Prelude.{◌↔◌, map, ℤ, Option, None}
use Rattle.std.proofs.lemmas.Option.{slice_get_within}
use Rattle.std.proofs.lemmas.List.Elements.{All-nil}
use Rattle.std.proofs.Math.Pow.{ones_lt}
use Rattle.hls_ints.specs.Residues.{bit_of, residue_of}
use Rattle.c_program.specs.Tree.{GlobalVariable, Program}
use Rattle.bank_partition.specs.declared.banks.Spread.{Spread}
use Rattle.bank_cores.specs.declared.bank.Shape.{Shape as Bank}
use Rattle.bank_cores.specs.Bank.{memory_of}
use Rattle.thread_semantics.specs.Memory.{element}
use Rattle.thread_semantics.specs.State.{State}
use Rattle.thread_semantics.specs.Step.{Steps, after}
use Rattle.race_model.proofs.Agreement.{same_meaning}
use Rattle.race_model.proofs.Orderly.{orderly}
use Rattle.bank_partition.proofs.BankCount as counting
use Rattle.netlist.specs.declared.netlist.Memory.{Memory}
use Rattle.netlist.specs.declared.netlist.Module.{Module}
use Rattle.verilog_meaning.specs.Readings.{Reading}
use Rattle.verilog_meaning.specs.Cycles.{Valuation, Choice, IsState, Runs, ShowsDone}
use Rattle.verilog_meaning.specs.Threads.{IsChoice, all_enabled}
use Rattle.verilog_meaning.specs.Follows.{Lively}
use Rattle.verilog_meaning.specs.Follows as net
use Rattle.verilog_meaning.proofs.Banks.{banks_below}
use Rattle.circuit.proofs.Staged.{staged_settles}
use Rattle.leaf_machine.specs.Leaves.{leaf_thread}
use Rattle.good_verilog.specs.Program.{HasBits, seen_of}
use Rattle.law_cycle.specs.Family.{CoreKind, Mutex, Barrier, ThreadIds, Printer, machine_of, places_of, words_of}
use Rattle.law_cycle.specs.Family as family
use Rattle.law_banks.proofs.Partitioned.{some_banks, count_low, bank_below, core_of, type_here}
use Rattle.law_cycle.specs.Built.{Parts, Machine}
use Rattle.law_cycle.specs.Bodies.{core_at}
use Rattle.law_cycle.proofs.Listed.{bank_at}
use Rattle.law_net.specs.Follows as machine
use Rattle.law_net.specs.Follows.{machine_from, printed_from, IsFull, Changes}
use Rattle.law_net.proofs.MachineFollows.{machine_follows_from}
use Rattle.law_net.specs.From.{MatchesFrom, FollowsFrom, NetFollowsFrom}
use Rattle.law_net.specs.Whole.{IsWhole}
use Rattle.law_net.proofs.Determined.{some_thread, done_is, shown_is}
use Rattle.law_net.proofs.Cycles.{Shows, run_shows_from, run_state}
use Rattle.law_net.proofs.Slots.{changes}
use Rattle.law_net.proofs.Counted.{counted}

bit_set : (b : Bool) → 1 ≡ bit_of b → b ≡ true
bit_set true e = refl
bit_set false e = absurd (omega arith)

in_last : {A B C D : Type 0} → A ⊎ (B ⊎ C) → (C → D) → A ⊎ (B ⊎ D)
in_last (inl a) f = inl a
in_last (inr (inl b)) f = inr (inl b)
in_last (inr (inr c)) f = inr (inr (f c))

-- a reading that shows a core shows its words
core_words : (o : Option CoreKind) (b : Bank) → o ≡ Some (family.Bank b) → (r : Reading) (s : (machine_of o).State) → (places_of o).shows r s → (a : ℕ) →
    a < length b.initial → r.word 0 a ≡ slice_index (words_of o s).words a
core_words None b e r s shown a l = absurd cc
core_words (Some (family.Bank d)) b e r s shown a l = let same : d ≡ b = cc in shown.words a (subst (λ (z : Bank). a < length z.initial) (sym same) l)
core_words (Some (Mutex d)) b e r s shown a l = absurd cc
core_words (Some (Barrier d)) b e r s shown a l = absurd cc
core_words (Some (ThreadIds d)) b e r s shown a l = absurd cc
core_words (Some (Printer d)) b e r s shown a l = absurd cc

-- an element that is there is below its row's length
element_within : (rows : List (List ℤ)) (gs : List GlobalVariable) (x j : ℕ) (v : ℤ) (g : GlobalVariable) → map length rows ≡ map (λ (d : GlobalVariable). d.length) gs →
    slice_get gs x ≡ Some g → element rows x j ≡ Some v → j < g.length
element_within [] gs x j v g e at there = absurd cc
element_within (row ∷ rows) [] x j v g e at there = absurd cc
element_within (row ∷ rows) (d ∷ gs) zero j v g e at there =
    let head : length row ≡ d.length = cc in
    let same : d ≡ g = cc in
    let lt = slice_get_within row j v there in
    subst (λ n. j < n) (head ∙ ap (λ (z : GlobalVariable). z.length) same) lt
element_within (row ∷ rows) (d ∷ gs) (suc x) j v g e at there =
    let tail : map length rows ≡ map (λ (z : GlobalVariable). z.length) gs = cc in
    element_within rows gs x j v g tail at there

module _ (P : Program) (K : Parts) (modules : List Module) (top : Module) (whole : IsWhole P K modules top) where
  -- done is shown exactly where the machine is done
  done_both : (h : Valuation) (s : Machine K) → IsState modules top h → Shows P K modules top whole h s
      → ShowsDone modules top h (all_enabled K.cores.threads []) 1 ↔ ((leaf_thread (K.bodies 0).body (K.bodies 0).leaf).is_done (s.slots 0) ≡ true)
  done_both h s state shown =
      let before = shown.slots 0 (some_thread P K modules top whole) in (
        λ shows. bit_set ((leaf_thread (K.bodies 0).body (K.bodies 0).leaf).is_done (s.slots 0))
            (shown_is P K modules top whole h (all_enabled K.cores.threads []) 1 shows (s.slots 0) before),
        λ done.
            let c = all_enabled K.cores.threads [] in
            let choice : IsChoice K.cores.threads c = (ones_lt K.cores.threads, All-nil (λ p. p < 64)) in
            let v = staged_settles modules top whole.stages whole.staged h c state (whole.fits c choice) in
            record {
              place = whole.done.shows.place;
              signal = whole.done.shows.signal;
              is = whole.done.shows.is;
              out = whole.done.shows.out;
              bit = whole.done.shows.bit;
              through = v.0;
              settled = v.1;
              number = done_is P K modules top whole h v.0 c v.1 (s.slots 0) before ∙ ap bit_of done;
            },
      )

  -- the banks of a global are those of the numbers below their count
  has_banks : (x : ℕ) (g : GlobalVariable) (t : Spread) → slice_get P.globals x ≡ Some g → slice_get K.spreads x ≡ Some t → net.HasBanks modules top g.name t.count
  has_banks x g t declared listed =
      let low = count_low P K.cores.threads K.spreads K.cores.banks whole.built.banked x t listed in
      banks_below modules top g.name t.count (omega (arith, low)) (λ k l. (whole.banked.stands x k g t declared listed l).0)
      (λ digits minimal b. whole.banked.only x g t declared listed digits minimal b)

  -- an element that the machine has is a word of its bank
  has_word : (h : Valuation) (s : Machine K) → Shows P K modules top whole h s →
      (state : State) (steps : List ℕ) → after P steps ≡ Steps state → ((x j : ℕ) → machine.HasElement P K s state.globals x j) →
      (x : List ℕ) (j width word : ℕ) → HasBits P state x j width word → net.HasWord modules top h x j width word
  has_word h s shown state steps led has x j width word bits =
      let banked = whole.built.banked in
      let resolved = whole.built.resolved in
      let reached = ((same_meaning P resolved).reached steps state).1 led in
      let within = element_within state.globals P.globals bits.number j bits.value bits.global (orderly P resolved state (steps, reached)).globals bits.declared bits.has in
      let there = banked.elements bits.number j bits.global bits.declared within in
      let t = there.spread in
      let some = some_banks P K.cores.threads K.spreads K.cores.banks banked bits.number t there.stands in
      let below : j % t.count < t.count = omega arith in
      let core = core_of P K.cores.threads K.spreads K.cores.banks banked bits.number (j % t.count) t bits.global there.stands bits.declared below in
      let at = t.first + j % t.count in
      let bank = whole.banked.stands bits.number (j % t.count) bits.global t bits.declared there.stands below in
      let place : bank.0.place ≡ whole.at.core at = bank.1 in
      let memory : bank.0.memory ≡ memory_of core.bank = bank.3 core.bank core.found in
      let shows = shown.states at (let l = bank_below P K.cores.threads K.spreads K.cores.banks banked bits.number (j % t.count) t there.stands below in omega (arith, l)) in
      let small : j / t.count < length core.bank.initial = (let w = counting.has_word t.count t.length j some there.inside in let long = core.long in omega (arith, w, long)) in
      let word_is : (h (bank.0.place ∷ [])).word bank.0.number (j / t.count) ≡ word =
      ap (λ i. (h (i ∷ [])).word bank.0.number (j / t.count)) place
      ∙ ap (λ i. (h (whole.at.core at ∷ [])).word i (j / t.count)) bank.2
      ∙ core_words (core_at K.cores at) core.bank (bank_at K.cores at core.bank core.found) (h (whole.at.core at ∷ [])) (s.states at) shows (j / t.count) small
      ∙ has bits.number j t bits.global.ty bits.value there.stands (type_here P K.cores.threads K.spreads K.cores.banks banked bits.number bits.global bits.declared) bits.has
      ∙ ap (λ w. residue_of w bits.value) (sym bits.wide) ∙ sym bits.bits in
      subst (λ (name : List ℕ). net.HasWord modules top h name j width word) bits.named (record {
        element = record {
          banks = t.count;
          has = has_banks bits.number bits.global t bits.declared there.stands;
          some = some;
          bank = bank.0;
          inside = subst (λ (z : Memory). j / t.count < length z.initial) (sym memory) small;
        };
        wide = ap (λ (z : Memory). z.width) memory ∙ core.width ∙ sym bits.wide;
        holds = word_is;
      })

  module _ (from : Valuation) (from_state : IsState modules top from) (first : Machine K) (from_shows : Shows P K modules top whole from first)
      (choices : List Choice) (follows : machine.FollowsFrom P K first choices) where
    module _ (n : ℕ) (h : Valuation) (out : List ℕ) (reaches : Runs modules top from (take n choices) h out) where
      shown : Shows P K modules top whole h (machine_from K first (take n choices))
      shown = (run_shows_from P K modules top whole (take n choices) from h out first reaches from_shows).0

      state_here : IsState modules top h
      state_here =
          run_state P K modules top whole (take n choices) from h out reaches from_state

      -- where every full choice changes a slot of the machine, every choice of all threads changes one of the net
      lively : ((c : Choice) → IsFull K c → Changes K (machine_from K first (take n choices)) c) → Lively modules top K.cores.threads (seen_of P) h
      lively moves prefs g written within cycle =
          changes P K modules top whole h g (all_enabled K.cores.threads prefs) written (machine_from K first (take n choices)) cycle shown (moves (all_enabled K.cores.threads prefs) refl)

      matches_here : n ≤ length choices
          → machine.MatchesFrom P K first (machine_from K first (take n choices)) (printed_from K first (take n choices)) (take (follows.steps n) follows.interleaving) (take n choices)
          → MatchesFrom modules top K.cores.threads (seen_of P) from (take n choices) h out (take (follows.steps n) follows.interleaving)
      matches_here l q =
          let both = done_both h (machine_from K first (take n choices)) state_here shown in
          record {
            state = q.state;
            after = q.after_;
            printed = (run_shows_from P K modules top whole (take n choices) from h out first reaches from_shows).1 ∙ q.printed;
            done = (λ shows. q.done.0 (both.0 shows), λ ended. both.1 (q.done.1 ended));
            globals = λ ended x j width word bits. has_word h (machine_from K first (take n choices)) shown q.state
                (take (follows.steps n) follows.interleaving) q.after_ (q.globals ended) x j width word bits;
            progress = in_last q.progress
                (λ moves. (
                  lively moves.0,
                  λ k count. moves.1 k (counted P K modules top whole from (take n choices) k count first from_shows),
                ));
          }

    pub net_follows_it : FollowsFrom modules top K.cores.threads (seen_of P) from choices
    net_follows_it = record {
      interleaving = follows.interleaving;
      steps = follows.steps;
      rises = follows.rises;
      rests = λ n c h g out written at reaches cycle never.
          follows.rests n c at
          (λ moves. never (changes P K modules top whole h g c written (machine_from K first (take n choices)) cycle (shown n h out reaches) moves));
      matches = λ n h out l reaches. matches_here n h out reaches l (follows.matches n l);
    }

pub net_follows_from : NetFollowsFrom
net_follows_from P K modules top whole from state first is shows good choices =
    net_follows_it P K modules top whole from state first.net shows choices (machine_follows_from P K whole.built good first is choices)
