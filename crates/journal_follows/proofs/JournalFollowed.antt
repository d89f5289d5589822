-- A legal journal's choices are choices of threads, so a good program's net follows it; and no thread of a stuck net can move.
use Rattle.std.proofs.Common.{◌≡◌, ℕ, zero, suc, ◌<◌, List, [], ◌∷◌, ◌++◌, ◌^◌, length, take, refl, sym, subst, ⊎_elim, arith}
use Rattle.std.specs.List.{All}
use Rattle.std.proofs.lemmas.List.{take_all}
use Rattle.std.proofs.lemmas.List.Elements.{All-append, All-cons, All-nil}
use Rattle.std.proofs.lemmas.Nat.{pow_pos}
use Rattle.c_program.specs.Tree.{Program}
use Rattle.c_program.specs.Weight.{thread_count}
use Rattle.thread_semantics.specs.Races.{IsGood}
use Rattle.netlist.specs.declared.netlist.Module.{Module}
use Rattle.netlist.specs.NetlistOf.{netlist_of}
use Rattle.verilog_meaning.specs.Cycles.{Valuation, Choice, IsState, IsSameIn, Cycle, Runs, Reaches, initial_state}
use Rattle.verilog_meaning.specs.Threads.{Entry, IsThreaded, IsLegal, IsStuck, IsChoice, alone, all_enabled, times, entry_choices, choices_of, slot, ChangesSlot}
use Rattle.verilog_meaning.specs.Follows as net
use Rattle.circuit.specs.Nets.{FitsNet, FitsStatements}
use Rattle.circuit.proofs.States.{keeps_states}
use Rattle.cycle_sim.proofs.Same.{same_refl, cycle_moved}
use Rattle.cycle_sim.proofs.Once.{SettlesInOneWay, runs_once}
use Rattle.slot_sim.proofs.Bits.{alone_is_choice}
use Rattle.slot_sim.proofs.Sames.{to_at, within}
use Rattle.well_formed_net.proofs.Modules.{fits_of_well_formed}
use Rattle.sim_layout.specs.Running.{IsRight}
use Rattle.well_formed_net.proofs.Right.{right}
use Rattle.good_verilog.specs.Program.{seen_of}
use Rattle.good_verilog.specs.GoodVerilog.{IsGoodVerilog}
use Rattle.journal_follows.specs.Follows.{ShowsInterleaving}

all_of_threads : (threads : ℕ) → IsChoice threads (all_enabled threads [])
all_of_threads threads = ((let p : 0 < 2 ^ threads = pow_pos threads in omega (arith, p)), All-nil (λ p. p < 64))

module _ (modules : List Module) (top : Module) (threads : ℕ) where
  -- ---- the choices of a legal journal

  times_are : (n : ℕ) (c : Choice) → IsChoice threads c → All (IsChoice threads) (times modules top threads n c)
  times_are zero c is = All-nil (IsChoice threads)
  times_are (suc n) c is = All-cons (IsChoice threads) c (times modules top threads n c) is (times_are n c is)

  pub entries_are : (journal : List (Entry modules top threads)) (h g : Valuation) → IsLegal modules top threads h journal g → All (IsChoice threads) (choices_of modules top threads journal)
  entries_are [] h g legal = All-nil (IsChoice threads)
  entries_are (e ∷ journal) h g legal =
      All-append (IsChoice threads) (entry_choices modules top threads e) (choices_of modules top threads journal)
      (times_are _ (alone e.thread) (alone_is_choice threads e.thread legal.1.thread))
      (entries_are journal legal.0 g legal.2)

  -- ---- a run of one cycle more

  -- it ends with that cycle
  record EndsWith (choices : List Choice) (c : Choice) (h : Valuation) : Type 0 where
    pub mid : Valuation
    pub first : List ℕ
    pub runs : Runs modules top h choices mid first
    pub next : Valuation
    pub last : List ℕ
    pub cycle : Cycle modules top mid c next last

  ends_with : (choices : List Choice) (c : Choice) (h g : Valuation) (out : List ℕ) → Runs modules top h (choices ++ c ∷ []) g out → EndsWith choices c h
  ends_with [] c h g out runs =
      record { mid = h; first = []; runs = (same_refl modules top h, refl); next = runs.0; last = runs.1; cycle = runs.3 }
  ends_with (d ∷ choices) c h g out runs =
      let rest = ends_with choices c runs.0 g runs.2 runs.4 in
      record { mid = rest.mid; first = runs.1 ++ rest.first; runs = (runs.0, runs.1, rest.first, runs.3, rest.runs, refl); next = rest.next; last = rest.last; cycle = rest.cycle }

-- ---- a state in which no thread can move

module _ (modules : List Module) (top : Module) (threads : ℕ) (threaded : IsThreaded modules top threads) (settled : SettlesInOneWay modules top) (fits : FitsNet modules top)
    (statements : FitsStatements modules top) where
  state_same : (h g : Valuation) → IsState modules top h → IsSameIn modules top [] h g → IsState modules top g
  state_same h g is same = record {
    registers = λ path m x s at i. subst (λ (z : ℕ). z < 2 ^ s.width) ((to_at modules top h g same path).registers m x s at i) (is.registers path m x s at i);
    words = λ path m j k s at l. subst (λ (z : ℕ). z < 2 ^ s.width) ((to_at modules top h g same path).words m j k s at l) (is.words path m j k s at l);
  }

  keep : (choices : List Choice) (h g : Valuation) (out : List ℕ) → IsState modules top h → Runs modules top h choices g out → IsState modules top g
  keep [] h g out is runs = state_same h g is runs.0
  keep (c ∷ choices) h g out is runs = keep choices runs.0 g runs.2 ((keeps_states modules top fits statements).1 h runs.0 c runs.1 is runs.3) runs.4

  -- it is none in which each choice of all threads changes a slot
  pub never_lively : {State : Type 0} (seen : net.Program State) → ((choices : List Choice) → All (IsChoice threads) choices → (h : Valuation) × (out : List ℕ) × Reaches modules top choices h out)
      → (choices : List Choice) (h : Valuation) (out : List ℕ) → All (IsChoice threads) choices → Reaches modules top choices h out → IsStuck modules top threads h
      → net.Lively modules top threads seen h → ⊥
  never_lively seen runs choices h out are reached stuck lively =
      let start = initial_state modules top in
      let all = all_enabled threads [] in
      let is = all_of_threads threads in
      let more = runs (choices ++ all ∷ []) (All-append (IsChoice threads) choices (all ∷ []) are (All-cons (IsChoice threads) all [] is (All-nil (IsChoice threads)))) in
      let e = ends_with modules top threads choices all start more.0 more.1 more.2 in
      let same = (runs_once modules top settled statements choices start start h e.mid out e.first (same_refl modules top start) reached e.runs).0 in
      let cycle = cycle_moved modules top h e.mid same all e.next e.last e.cycle in
      let changes : ChangesSlot modules top threads h e.next = lively [] e.next e.last (All-nil (λ p. p < 64)) cycle in
      let stays = threaded.stuck h (keep choices start h out (keeps_states modules top fits statements).0 reached) stuck e.next all e.last is cycle in
      changes.2 (within modules top (slot modules top threads changes.0) h e.next stays.0)

-- ---- the net of good Verilog

pub shows_interleaving : (P : Program) (text : List ℕ) (good : IsGoodVerilog P text) → IsGood P → IsThreaded (netlist_of good.net).modules good.top (thread_count P)
    → (journal : List (Entry (netlist_of good.net).modules good.top (thread_count P))) (g h : Valuation) (out : List ℕ)
    → IsLegal (netlist_of good.net).modules good.top (thread_count P) (initial_state (netlist_of good.net).modules good.top) journal g
    → Reaches (netlist_of good.net).modules good.top (choices_of (netlist_of good.net).modules good.top (thread_count P) journal) h out
    → ShowsInterleaving P (netlist_of good.net).modules good.top h out
shows_interleaving P text good is threaded journal g h out legal reached =
    let modules = (netlist_of good.net).modules in
    let top = good.top in
    let threads = thread_count P in
    let choices = choices_of modules top threads journal in
    let are : All (IsChoice threads) choices = entries_are modules top threads journal (initial_state modules top) g legal in
    let fit : IsRight modules top = right modules (fits_of_well_formed good.net good.formed) top good.is_top in
    let f = good.follows is choices are in
    let whole : take (length choices) choices ≡ choices = take_all (length choices) choices (omega arith) in
    let m = f.matches (length choices) h out (omega arith) (subst (λ (cs : List Choice). Reaches modules top cs h out) (sym whole) reached) in
    record {
      steps = take (f.steps (length choices)) f.interleaving;
      state = m.state;
      after = m.after;
      printed = m.printed;
      done = m.done;
      deadlocked = λ entries most stuck.
          ⊎_elim
          (λ ended. absurd (let bit : 1 ≡ 0 = good.determined.done h (all_enabled threads []) (all_enabled threads []) 1 0 (m.done.1 ended) stuck.0 in cc))
          (λ rest.
          ⊎_elim (λ dead. dead)
          (λ going. absurd (never_lively modules top threads threaded good.determined.unique fit.fits fit.statements (seen_of P) good.runs choices h out are reached stuck.1 going.0))
          rest)
          m.progress;
    }
