-- The steps that the output `done` hangs on, settled by themselves, tell it as all steps do, and leave the state as it is.
use Rattle.std.specs.Prelude.{◌≡◌, ℕ, ◌<◌, ◌^◌, Bool, nat_eq, List, [], ◌++◌, length, slice_index, refl}
use Rattle.std.proofs.Common.{ap, sym, ◌∙◌, subst}
use Rattle.netlist.specs.declared.netlist.Source.{Source}
use Rattle.netlist.specs.declared.netlist.Source.TheVariants.{Input, Register, Assigned, Port}
use Rattle.netlist.specs.declared.netlist.Signal.{Signal}
use Rattle.netlist.specs.declared.netlist.Module.{Module}
use Rattle.verilog_meaning.specs.Cycles.{Path, Choice, IsAt, IsRegister}
use Rattle.sim_values.specs.declared.settle.Step.{Step}
use Rattle.sim_values.specs.Flat.{settled}
use Rattle.sim_values.specs.Stands.{word_of, IsFree, StandsFor, IsPlan}
use Rattle.sim_values.proofs.Settles.{settled-length, gives_new}
use Rattle.sim_layout.specs.Running.{Running, running, flat, Stands, IsApart, IsSameState, Fits, TellsDone, settled_run}
use Rattle.sim_events.specs.Cones.{IsCone, cone_of}
use Rattle.sim_events.proofs.ConeNumbers.{cone_settles, cone_leaves}
use Rattle.cycle_sim.specs.DoneRun.{cone_run}
use Rattle.cycle_sim.proofs.Cycles.{done_told}
use Rattle.cycle_sim.proofs.PutNumbers.{signal_room}

module _ (r : Running) (st : Stands r) (c : Choice) (cone : List Step) (is : IsCone r.modules r.steps (length r.numbers) r.done cone) where
  abbrev new : List ℕ
  new = settled r.modules c (flat r) cone

  long : length new ≡ length r.numbers
  long = settled-length r.modules c cone (flat r)

  -- what gives a register its word is no step
  free_of : (path : Path) (x : ℕ) (name : List ℕ) (source : Source) → StandsFor r.modules st.top r.parts r.steps st.free r.prefs path x name source → IsRegister source
      → IsFree st.free (word_of r.parts path x)
  free_of path x name (Register n) f i = f
  free_of path x name Input f i = absurd i
  free_of path x name (Assigned v) f i = absurd i
  free_of path x name (Port j port) f i = absurd i

  leaves : (y : ℕ) → IsFree st.free y → slice_index new y ≡ slice_index r.numbers y
  leaves y free =
      ap (λ (steps : List Step). slice_index (settled r.modules c (flat r) steps) y) is.is
      ∙ cone_leaves r.modules c is.marks r.steps (flat r) y (λ k s at e. gives_new r.modules (IsFree st.free) r.steps k y s st.plan.ordered at free e)

  pub register_same : (path : Path) (m : Module) (x : ℕ) (s : Signal) → IsAt r.modules st.top path m x s → IsRegister s.source
      → slice_index new (word_of r.parts path x) ≡ slice_index r.numbers (word_of r.parts path x)
  register_same path m x s at i = leaves (word_of r.parts path x) (free_of path x s.name s.source (st.plan.feeds path m x s at) i)

  done_room : r.done < length r.numbers
  done_room = subst (λ k. k < length r.numbers) (sym st.done.stands) (signal_room r st [] st.top st.done.has.place st.done.has.signal (record { stands = refl; listed = st.done.has.is.listed }))

  done_same : slice_index new r.done ≡ slice_index (settled_run c r).numbers r.done
  done_same =
      ap (λ (steps : List Step). slice_index (settled r.modules c (flat r) steps) r.done) is.is
      ∙ cone_settles r.modules c is.marks r.steps (flat r) is.long is.closed r.done (is.has done_room)

  pub cone_stands : Stands (cone_run c cone r)
  cone_stands = record {
    top = st.top;
    is_top = st.is_top;
    right = st.right;
    takes = st.takes;
    free = st.free;
    plan = subst (IsPlan r.modules st.top r.parts r.steps st.free r.prefs) (sym long) st.plan;
    apart = subst (λ (n : ℕ). IsApart r.modules st.top r.parts r.starts n (length r.words)) (sym long) st.apart;
    state = record {
      registers = λ path m x s at i. subst (λ n. n < 2 ^ s.width) (sym (register_same path m x s at i)) (st.state.registers path m x s at i);
      words = st.state.words;
    };
    done = st.done;
  }

  pub cone_same : IsSameState r (cone_run c cone r)
  cone_same = record {
    top = st.top;
    is_top = st.is_top;
    same = record {
      registers = λ path m x s at i. sym (register_same (path ++ []) m x s at i);
      words = λ path m j k s at l. refl;
    };
  }

  pub cone_told : (fits : Fits r c) (shown : Bool) → shown ≡ nat_eq (slice_index new r.done) 1 → TellsDone c r shown
  cone_told fits shown e = done_told r st c fits shown (e ∙ ap (λ n. nat_eq n 1) done_same)
