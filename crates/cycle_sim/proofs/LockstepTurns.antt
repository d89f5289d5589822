-- The parts of a run in lockstep: its choices fit, done is told, and a cycle is run.
use Rattle.std.specs.Prelude.{◌≡◌, ℕ, suc, ◌+◌, ◌<◌, ◌≤◌, ◌⊎◌, Bool, true, false, List, [], ◌∷◌, ◌++◌, replicate, Some, refl}
use Rattle.std.proofs.Common.{ap, sym, ◌∙◌, subst, inr, ⊎_elim, arith}
use Rattle.std.proofs.lemmas.List.{length-replicate, append_assoc, append-nil}
use Rattle.std.proofs.lemmas.Option.{same_Some}
use Rattle.netlist.specs.declared.netlist.Module.{Module}
use Rattle.verilog_meaning.specs.Names.{top_of}
use Rattle.verilog_meaning.specs.Cycles.{Choice, IsSameIn, ShowsDone, Cycle, Runs}
use Rattle.verilog_meaning.specs.Threads.{all_enabled}
use Rattle.circuit.specs.Nets.{FitsChoice}
use Rattle.sim_layout.specs.Running.{Running, Stands, state_of, Fits, IsSameNet, IsSameState, IsCycleOf, TellsDone}
use Rattle.sim_layout.specs.Rounds.{threads_of, round, rounds, Tells, IsGoing}
use Rattle.cycle_sim.specs.Lockstep.{TakesRounds, IsTurned, IsLockstep, IsCutOff}
use Rattle.cycle_sim.proofs.Same.{same_refl, same_sym, shows_moved, runs_to_same, runs_on}

-- ---- one net

pub net_refl : (r : Running) → IsSameNet r r
net_refl r = record { modules = refl; parts = refl; steps = refl; starts = refl; prefs = refl; done = refl }

pub net_trans : (a b c : Running) → IsSameNet a b → IsSameNet b c → IsSameNet a c
net_trans a b c x y = record {
  modules = y.modules ∙ x.modules;
  parts = y.parts ∙ x.parts;
  steps = y.steps ∙ x.steps;
  starts = y.starts ∙ x.starts;
  prefs = y.prefs ∙ x.prefs;
  done = y.done ∙ x.done;
}

module _ (old r : Running) (top : Module) (is_top : top_of old.modules ≡ Some top) (net : IsSameNet old r) where
  same_top : (t : Module) → top_of r.modules ≡ Some t → t ≡ top
  same_top t e = same_Some t top (sym e ∙ ap top_of net.modules ∙ is_top)

  -- of the net that the simulator had before
  pub here : (P : List Module → Module → Type 0) (t : Module) → top_of r.modules ≡ Some t → P r.modules t → P old.modules top
  here P t e p = subst (λ z. P old.modules z) (same_top t e) (subst (λ ms. P ms t) net.modules p)

  there : (P : List Module → Module → Type 0) (t : Module) → top_of r.modules ≡ Some t → P old.modules top → P r.modules t
  there P t e p = subst (λ ms. P ms t) (sym net.modules) (subst (λ z. P old.modules z) (sym (same_top t e)) p)

-- ---- choices fit

pub takes_rounds : (r : Running) → Stands r → TakesRounds r
takes_rounds r is = record { top = is.top; is_top = is.is_top; fits = λ prefs preferred few l. is.takes prefs preferred l }

module _ (old r : Running) (takes : TakesRounds old) (net : IsSameNet old r) where
  pub fits : (n preferred : ℕ) → n ≤ old.prefs → preferred < 16 → Fits r (all_enabled (threads_of old.modules) (replicate n preferred))
  fits n preferred few l = record {
    few = (let e = length-replicate {A = ℕ} n preferred in let room = net.prefs in omega (arith, e, room, few));
    numbers = λ t e.
        there old r takes.top takes.is_top net (λ ms z. FitsChoice ms z (all_enabled (threads_of old.modules) (replicate n preferred))) t e (takes.fits n preferred few l);
  }

  pub fits_all : (c : Choice) → c ≡ all_enabled (threads_of old.modules) [] → Fits r c
  fits_all c e = subst (Fits r) (sym e) (fits 0 0 (omega arith) (omega arith))

  pub fits_round : (c : Choice) (preferred : ℕ) → c ≡ all_enabled (threads_of old.modules) (replicate old.prefs preferred) → preferred < 16 → Fits r c
  fits_round c preferred e l = subst (Fits r) (sym e) (fits old.prefs preferred (omega arith) l)

-- ---- a run

pub turned_none : (r : Running) (out : List ℕ) → TakesRounds r → IsTurned r r 0 out out
turned_none r out takes = record {
  top = takes.top;
  is_top = takes.is_top;
  net = net_refl r;
  bytes = [];
  appended = sym (append-nil out);
  rounds = record { turned = (same_refl r.modules takes.top (state_of r), refl); going = λ k l. absurd (omega arith) };
}

-- done was told in the state that n cycles led to
pub record IsTold (old q : Running) (n : ℕ) (before out : List ℕ) (shown : Bool) : Type 0 where
  pub turned : IsTurned old q n before out
  pub tells : Tells old.modules turned.top (threads_of old.modules) (state_of q) shown

module _ (old r q : Running) (n : ℕ) (before out : List ℕ) where
  told_by : (shown : Bool) → IsTurned old r n before out → IsSameNet r q → TellsDone (all_enabled (threads_of old.modules) []) r shown → IsSameState r q → IsTold old q n before out shown
  told_by shown is net tells same =
      let there = here old r is.top is.is_top is.net (λ ms t. IsSameIn ms t [] (state_of r) (state_of q)) same.top same.is_top same.same in
      let back = same_sym old.modules is.top (state_of r) (state_of q) there in
      let choice = all_enabled (threads_of old.modules) [] in
      let shows = here old r is.top is.is_top is.net (λ ms t. ShowsDone ms t (state_of r) choice tells.number) tells.top tells.is_top tells.shows in
      record {
        turned = record {
          top = is.top;
          is_top = is.is_top;
          net = net_trans old r q is.net net;
          bytes = is.bytes;
          appended = is.appended;
          rounds = record {
            turned = runs_to_same old.modules is.top (rounds (threads_of old.modules) old.prefs n) (state_of old) (state_of r) (state_of q) is.bytes is.rounds.turned there;
            going = is.rounds.going;
          };
        };
        tells = (tells.number, shows_moved old.modules is.top (state_of q) (state_of r) back choice tells.number shows, tells.is);
      }

  pub told : (c : Choice) (b shown : Bool) → c ≡ all_enabled (threads_of old.modules) [] → b ≡ shown → IsTurned old r n before out → IsSameNet r q → TellsDone c r b → IsSameState r q
      → IsTold old q n before out shown
  told c b shown e s is net tells same =
      told_by shown is net (subst (TellsDone (all_enabled (threads_of old.modules) []) r) s (subst (λ z. TellsDone z r b) e tells)) same

module _ (old r q : Running) (n : ℕ) (before out : List ℕ) where
  going_on : (is : IsTold old r n before out false) (k : ℕ) → k < suc n → IsGoing old.modules is.turned.top (threads_of old.modules) old.prefs (state_of old) k
  going_on is k l =
      ⊎_elim (λ (b : k < n). is.turned.rounds.going k b)
      (λ (e : n ≡ k). subst (IsGoing old.modules is.turned.top (threads_of old.modules) old.prefs (state_of old)) e
      (record { state = state_of r; out = is.turned.bytes; turned = is.turned.rounds.turned; going = is.tells }))
      (let d : (k < n) ⊎ (n ≡ k) = grind arith in d)

  -- a cycle more
  turned_by : (more : List ℕ) (c : Choice) → c ≡ round (threads_of old.modules) old.prefs n → IsTold old r n before out false → IsSameNet r q → IsCycleOf c r q out more
      → IsTurned old q (suc n) before more
  turned_by more c e is net cycle =
      let t = is.turned in
      let there = here old r t.top t.is_top t.net (λ ms z. Cycle ms z (state_of r) c (state_of q) cycle.bytes) cycle.top cycle.is_top cycle.cycle in
      let first = rounds (threads_of old.modules) old.prefs n in
      let run = runs_on old.modules t.top first (state_of old) (state_of r) (state_of q) c t.bytes cycle.bytes t.rounds.turned there in
      record {
        top = t.top;
        is_top = t.is_top;
        net = net_trans old r q t.net net;
        bytes = t.bytes ++ cycle.bytes;
        appended = cycle.appended ∙ ap (λ l. l ++ cycle.bytes) t.appended ∙ append_assoc before t.bytes cycle.bytes;
        rounds = record {
          turned = subst (λ z. Runs old.modules t.top (state_of old) (first ++ z ∷ []) (state_of q) (t.bytes ++ cycle.bytes)) e run;
          going = going_on is;
        };
      }

  pub turned_on : (more : List ℕ) (c : Choice) → c ≡ round (threads_of old.modules) old.prefs n → IsTold old r n before out false → IsSameNet r q → IsCycleOf c r q out more
      → IsTurned old q (n + 1) before more
  turned_on more c e is net cycle =
      let next : suc n ≡ n + 1 = omega arith in
      subst (λ k. IsTurned old q k before more) next (turned_by more c e is net cycle)

-- ---- how it ends

pub ended_done : (old q : Running) (most n : ℕ) (before out : List ℕ) → IsTold old q n before out true → n ≤ most → IsLockstep old q most n before out
ended_done old q most n before out is l = record { within = l; turned = is.turned; ends = inr is.tells }

-- the cycle that memory was wanting for has changed nothing
pub cut_off : (old r q : Running) (most n : ℕ) (before out more : List ℕ) → IsTold old r n before out false → IsSameNet r q → IsSameState r q → more ≡ out → n ≤ most → IsCutOff old q most before more
cut_off old r q most n before out more is net same e l =
    let t = is.turned in
    let there = here old r t.top t.is_top t.net (λ ms z. IsSameIn ms z [] (state_of r) (state_of q)) same.top same.is_top same.same in
    record {
      cycles = n;
      within = l;
      turned = record {
        top = t.top;
        is_top = t.is_top;
        net = net_trans old r q t.net net;
        bytes = t.bytes;
        appended = e ∙ t.appended;
        rounds = record {
          turned = runs_to_same old.modules t.top (rounds (threads_of old.modules) old.prefs n) (state_of old) (state_of r) (state_of q) t.bytes t.rounds.turned there;
          going = t.rounds.going;
        };
      };
    }
