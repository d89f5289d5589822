-- THE MACHINE FOLLOWS: it is the machine of a planned program, whose runs follow one interleaving.
use Rattle.std.specs.Prelude.{Bool, true, false, ◌||◌, ◌⊎◌, ◌↔◌, ◌/◌, ◌%◌, ◌^◌, ◌-◌, if◌then◌else◌, Option, Some, slice_get, slice_index, take, map, unwrap_or, ℤ, pos}
use Rattle.std.proofs.Common.{◌≡◌, ℕ, zero, suc, ◌+◌, ◌<◌, ◌≤◌, List, [], ◌∷◌, ◌++◌, length, refl, sym, ap, ap₂, ◌∙◌, subst, inl, inr, ⊎_elim, arith, append_assoc}
use Rattle.std.proofs.lemmas.List.{append-nil}
use Rattle.std.proofs.lemmas.Option.{slice_get_within}
use Rattle.std.proofs.lemmas.Bool.{or_right}
use Rattle.hls_ints.specs.Residues.{residue_of}
use Rattle.hls_ints.specs.Types.{width_of}
use Rattle.c_program.specs.Tree.{GlobalVariable, Program}
use Rattle.c_program.specs.Weight.{bound}
use Rattle.thread_semantics.specs.Memory.{element}
use Rattle.thread_semantics.specs.Step.{IsDeadlocked}
use Rattle.thread_semantics.specs.Races.{IsGood}
use Rattle.race_model.specs.Agreement.{IsSameMeaning}
use Rattle.race_model.specs.Source.{c_source}
use Rattle.race_model.proofs.Agreement.{same_meaning}
use Rattle.race_model.proofs.Orderly.{orderly}
use Rattle.interleaving.specs.Run.{machine_after as run_after, counted_choices, FollowsOne}
use Rattle.interleaving.specs.Headline.{Shows}
use Rattle.planned_block.specs.Headline.{is_still}
use Rattle.planned_block.proofs.CycleChain.{planned_runs}
use Rattle.planned_block.specs.Advance.{any_below}
use Rattle.planned_block.proofs.Advances.{any_tells, some_tells}
use Rattle.planned_block.proofs.Bits.{same_is, other_is}
use Rattle.verilog_meaning.specs.Cycles.{Choice}
use Rattle.circuit.specs.Wiring.{run, outputs}
use Rattle.block_ir.specs.Asked.{printer_core}
use Rattle.law_banks.specs.Memory.{place_at}
use Rattle.law_banks.proofs.Partitioned.{global_there, long_as_global}
use Rattle.law_cycle.specs.Built.{Parts, Machine, IsBuilt}
use Rattle.law_cycle.specs.Bodies.{numbers_of, core_machine, core_count}
use Rattle.law_cycle.specs.Stage.{Stage, held, printed_now}
use Rattle.law_net.specs.Follows.{machine_of_thread, next_machine, machine_from, printed_from, IsFull, Changes, Counted, none, counts, passes}
use Rattle.law_net.specs.Follows.{HasElement, IsFirst, MatchesFrom, FollowsFrom, MachineFollows, MachineFollowsFrom}
use Rattle.law_net.proofs.Clock as clock
use Rattle.law_net.proofs.Clock.{cycled, next, moves, is_full, same_slots}
use Rattle.law_net.proofs.Beats.{move_changes, kept_agrees}
use Rattle.law_net.proofs.First.{begin, is_first}
use Rattle.law_net.proofs.Seen.{program}

-- an element that is there is below its row's length
element_within : (rows : List (List ℤ)) (gs : List GlobalVariable) (x j : ℕ) (v : ℤ) (g : GlobalVariable) → map length rows ≡ map (λ (d : GlobalVariable). d.length) gs →
    slice_get gs x ≡ Some g → element rows x j ≡ Some v → j < g.length
element_within [] gs x j v g e at there = absurd cc
element_within (row ∷ rows) [] x j v g e at there = absurd cc
element_within (row ∷ rows) (d ∷ gs) zero j v g e at there =
    let head : length row ≡ d.length = cc in
    let same : d ≡ g = cc in
    let lt = slice_get_within row j v there in
    subst (λ n. j < n) (head ∙ ap (λ (z : GlobalVariable). z.length) same) lt
element_within (row ∷ rows) (d ∷ gs) (suc x) j v g e at there =
    let tail : map length rows ≡ map (λ (z : GlobalVariable). z.length) gs = cc in
    element_within rows gs x j v g tail at there

module _ (P : Program) (K : Parts) (built : IsBuilt P K) (first : Stage P K) (is : IsFirst P K first) where
  abbrev after_choices : Stage P K → List Choice → Stage P K
  after_choices = run_after (next P K built)

  net_is : (h : Stage P K) (c : Choice) → (next P K built h c).net ≡ next_machine K h.net c
  net_is h c = (cycled P K built h c).net

  net_after : (h : Stage P K) (choices : List Choice) → (after_choices h choices).net ≡ run K.cores.threads (core_count K.cores) (machine_of_thread K) (core_machine K.cores) h.net choices
  net_after h [] = refl
  net_after h (c ∷ choices) =
      net_after (next P K built h c) choices
      ∙ ap (λ (m : Machine K). run K.cores.threads (core_count K.cores) (machine_of_thread K) (core_machine K.cores) m choices) (net_is h c)

  out_after : (h : Stage P K) (choices : List Choice) →
      (after_choices h choices).out ≡ h.out ++ outputs K.cores.threads (core_count K.cores) (machine_of_thread K) (core_machine K.cores) (printer_core (numbers_of K.cores)) h.net choices
  out_after h [] = sym (append-nil h.out)
  out_after h (c ∷ choices) =
      out_after (next P K built h c) choices
      ∙ ap₂ (λ (o : List ℕ) (m : Machine K). o ++ outputs K.cores.threads (core_count K.cores) (machine_of_thread K) (core_machine K.cores) (printer_core (numbers_of K.cores)) m choices)
      (cycled P K built h c).out (net_is h c)
      ∙ append_assoc h.out (printed_now P K c h.net)
      (outputs K.cores.threads (core_count K.cores) (machine_of_thread K) (core_machine K.cores) (printer_core (numbers_of K.cores)) (next_machine K h.net c) choices)

  -- ---- what counts

  -- a thread that does not move keeps its registers
  moved_where : (h : Stage P K) (c : Choice) → Changes K h.net c → any_below (moves P K built h c) K.cores.threads ≡ true
  moved_where h c change = by (moves P K built h c change.0) refl
    where
      by : (b : Bool) → moves P K built h c change.0 ≡ b → any_below (moves P K built h c) K.cores.threads ≡ true
      by true e = some_tells (moves P K built h c) K.cores.threads change.0 change.1 e
      by false e = absurd (change.2 (kept_agrees P K built h c change.0 change.1 ((cycled P K built h c).stays change.0 change.1 e)))

  changes_where : (h : Stage P K) (c : Choice) → any_below (moves P K built h c) K.cores.threads ≡ true → Changes K h.net c
  changes_where h c some =
      let one = any_tells (moves P K built h c) K.cores.threads some in
      (one.0, one.1, move_changes P K built h c one.0 one.1 one.2)

  counts_full : (h : Stage P K) (c : Choice) (b : Bool) → b ≡ true → (b || any_below (moves P K built h c) K.cores.threads) ≡ true
  counts_full h c true e = refl
  counts_full h c false e = absurd cc

  counts_is : (h : Stage P K) (c : Choice) → IsFull K c ⊎ Changes K h.net c → clock.counts P K built h c ≡ true
  counts_is h c why =
      ⊎_elim
      (λ (full : IsFull K c). counts_full h c (is_full P K built c) (same_is c.mask (2 ^ K.cores.threads - 1) full))
      (λ (change : Changes K h.net c). or_right (is_full P K built c) (any_below (moves P K built h c) K.cores.threads) (moved_where h c change))
      why

  passes_is : (h : Stage P K) (c : Choice) → (IsFull K c → ⊥) → (Changes K h.net c → ⊥) → clock.counts P K built h c ≡ false
  passes_is h c full change =
      ap₂ (λ (a b : Bool). a || b) (other_is c.mask (2 ^ K.cores.threads - 1) full) (by (any_below (moves P K built h c) K.cores.threads) refl)
    where
      by : (b : Bool) → any_below (moves P K built h c) K.cores.threads ≡ b → any_below (moves P K built h c) K.cores.threads ≡ false
      by true e = absurd (change (changes_where h c e))
      by false e = e

  counted : (m : Machine K) (choices : List Choice) (k : ℕ) → Counted K m choices k → (h : Stage P K) → h.net ≡ m →
      k ≡ counted_choices (next P K built) (clock.counts P K built) h choices
  counted m choices k none h e = refl
  counted m choices k (counts {c = c} {choices = rest} {n = n} why more) h e =
      let adds = counts_is h c (subst (λ (z : Machine K). IsFull K c ⊎ Changes K z c) (sym e) why) in
      let tail = counted (next_machine K m c) rest n more (next P K built h c) (net_is h c ∙ ap (λ (z : Machine K). next_machine K z c) e) in
      (let one : suc n ≡ 1 + n = omega arith in one)
      ∙ ap₂ (λ (b : Bool) (r : ℕ). (if b then 1 else 0) + r) (sym adds) tail
  counted m choices k (passes {c = c} {choices = rest} {n = n} full change more) h e =
      let skip = passes_is h c full (λ d. change (subst (λ (z : Machine K). Changes K z c) e d)) in
      let tail = counted (next_machine K m c) rest n more (next P K built h c) (net_is h c ∙ ap (λ (z : Machine K). next_machine K z c) e) in
      (let one : n ≡ 0 + n = omega arith in one)
      ∙ ap₂ (λ (b : Bool) (r : ℕ). (if b then 1 else 0) + r) (sym skip) tail

  -- ---- still choices

  unchanged : (h : Stage P K) (c : Choice) → (Changes K h.net c → ⊥) → (i : ℕ) → i < K.cores.threads → moves P K built h c i ≡ false
  unchanged h c same i lt = by (moves P K built h c i) refl
    where
      by : (b : Bool) → moves P K built h c i ≡ b → moves P K built h c i ≡ false
      by true e = absurd (same (i, lt, move_changes P K built h c i lt e))
      by false e = e

  still_of : (h : Stage P K) (c : Choice) → (Changes K h.net c → ⊥) → is_still (program P K built first is) h c
  still_of h c same = same_slots P K built h c (unchanged h c same)

  moves_where : (h : Stage P K) (c : Choice) → (is_still (program P K built first is) h c → ⊥) → Changes K h.net c
  moves_where h c goes_on = by (any_below (moves P K built h c) K.cores.threads) refl
    where
      quiet : any_below (moves P K built h c) K.cores.threads ≡ false → (i : ℕ) → i < K.cores.threads → moves P K built h c i ≡ false
      quiet unset i lt = go (moves P K built h c i) refl
        where
          go : (b : Bool) → moves P K built h c i ≡ b → moves P K built h c i ≡ false
          go true e = absurd (let some = some_tells (moves P K built h c) K.cores.threads i lt e in let z : true ≡ false = sym some ∙ unset in cc)
          go false e = e

      by : (b : Bool) → any_below (moves P K built h c) K.cores.threads ≡ b → Changes K h.net c
      by true e = changes_where h c e
      by false e = absurd (goes_on (same_slots P K built h c (quiet e)))

  module _ (good : IsGood P) (choices : List Choice) where
    meaning : IsSameMeaning P
    meaning = same_meaning P built.resolved

    abbrev ShowsThere : List ℕ → Stage P K → ℕ → Type 0
    ShowsThere = Shows (c_source P) (program P K built first is).views K.cores.threads (bound P) (is_full P K built) (is_still (program P K built first is))

    one : FollowsOne (next P K built) (clock.counts P K built) (is_still (program P K built first is)) ShowsThere first choices
    one = planned_runs (program P K built first is) (meaning.good.1 good) choices

    abbrev run_at : ℕ → Stage P K
    run_at n = after_choices first (take n choices)

    same_net : (n : ℕ) → (run_at n).net ≡ machine_from K first.net (take n choices)
    same_net n = net_after first (take n choices)

    same_out : (n : ℕ) → (run_at n).out ≡ printed_from K first.net (take n choices)
    same_out n = out_after first (take n choices) ∙ ap (λ (o : List ℕ). o ++ printed_from K first.net (take n choices)) is.out

    -- how many of the first n choices count
    abbrev count_at : ℕ → ℕ
    count_at n = counted_choices (next P K built) (clock.counts P K built) first (take n choices)

    goes : (n : ℕ) (L : List ℕ) (s : ShowsThere L (run_at n) (count_at n)) →
        (s.state.ended ≡ true)
        ⊎ (IsDeadlocked P s.state
        ⊎ (((c : Choice) → IsFull K c → Changes K (machine_from K first.net (take n choices)) c)
        × ((k : ℕ) → Counted K first.net (take n choices) k → k / bound P ≤ length L + K.cores.threads)))
    goes n L s =
        ⊎_elim
        (λ ended. inl ended)
        (λ runs. inr (⊎_elim (λ dead. inl ((meaning.deadlocked s.state).0 dead))
        (λ free. inr (
          (λ c full. subst (λ (z : Machine K). Changes K z c) (same_net n)
              (moves_where (run_at n) c (free.0 c (same_is c.mask (2 ^ K.cores.threads - 1) full)))),
          (λ k count. subst (λ m. m / bound P ≤ length L + K.cores.threads) (sym (counted first.net (take n choices) k count first refl)) free.1),
        )) runs))
        s.goes_on

    -- where it is ended the banks have the globals
    elements : (n : ℕ) (L : List ℕ) (s : ShowsThere L (run_at n) (count_at n)) → s.state.ended ≡ true → (x j : ℕ) →
        HasElement P K (machine_from K first.net (take n choices)) s.state.globals x j
    elements n L s ended x j t ty v listed typed there =
        let g = global_there P K.cores.threads K.spreads K.cores.banks built.banked x t listed in
        let long = long_as_global P K.cores.threads K.spreads K.cores.banks built.banked x t g.0 listed g.1 in
        let within = element_within s.state.globals P.globals x j v g.0 (orderly P built.resolved s.state (L, s.reached)).globals g.1 there in
        subst (λ (h : Machine K). slice_index (held P K h (t.first + j % t.count)).words (j / t.count) ≡ residue_of (width_of ty) v) (same_net n)
        ((run_at n).holds.elements x j t ty listed typed (omega (arith, long, within))
        ∙ ap (residue_of (width_of ty)) (s.globals ended (place_at x j) ∙ ap (λ (o : Option ℤ). unwrap_or o (pos 0)) there))

    matches : (n : ℕ) (L : List ℕ) → ShowsThere L (run_at n) (count_at n) →
        MatchesFrom P K first.net (machine_from K first.net (take n choices)) (printed_from K first.net (take n choices)) L (take n choices)
    matches n L s = record {
      state = s.state;
      after_ = (meaning.reached L s.state).0 s.reached;
      printed = sym (same_out n) ∙ s.printed;
      done = subst (λ (h : Machine K). ((machine_of_thread K 0).is_done (h.slots 0) ≡ true) ↔ (s.state.ended ≡ true)) (same_net n) s.done;
      globals = elements n L s;
      progress = goes n L s;
    }

    follows : FollowsFrom P K first.net choices
    follows = record {
      interleaving = one.interleaving;
      steps = one.taken;
      rises = one.rises;
      rests = λ n c e same. one.rests n c e (still_of (run_at n) c (λ d. same (subst (λ (z : Machine K). Changes K z c) (same_net n) d)));
      matches = λ n le. matches n (take (one.taken n) one.interleaving) (one.each n le);
    }

pub machine_follows : MachineFollows
machine_follows P K built good choices =
    subst (λ (m : Machine K). FollowsFrom P K m choices) (begin P K built).net (follows P K built (begin P K built).stage (is_first P K built) good choices)

pub machine_follows_from : MachineFollowsFrom
machine_follows_from P K built good first is choices = follows P K built first is good choices
