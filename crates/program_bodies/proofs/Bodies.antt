-- The modules of threads as they are laid out are what a program's parts ask of them.
use Rattle.std.proofs.Common.{◌≡◌, ℕ, suc, ◌<◌, Bool, true, false, List, map, refl, sym, ap, ◌∙◌, subst, arith}
use Rattle.c_program.specs.Tree.{Program}
use Rattle.bank_partition.specs.declared.banks.Spread.{Spread}
use Rattle.block_refine.specs.Routines.{RoutineCode}
use Rattle.netlist.specs.declared.netlist.Module.{Module}
use Rattle.block_ir.specs.Asked.{Numbers, printer_core}
use Rattle.leaf_machine.specs.Leaves.{Heard, Clock, Enable, Grant, Told, LeafPorts, IsHeard, IsPorted, AnswersAreLate, IsSlotBit, IsThreadLeaf}
use Rattle.leaf_machine.specs.Steady.{IsSteadyThread, IsSteadyMain}
use Rattle.leaf_machine.specs.Ports.{CorePort, IsRoutineModule}
use Rattle.core_family.specs.Family.{machine_at, port_of}
use Rattle.core_family.specs.declared.cores.Cores.{Cores}
use Rattle.core_family.specs.Kinds as kinds
use Rattle.thread_promise.specs.Globals.{bank_total}
use Rattle.thread_promise.specs.Serving.{RunsCode}
use Rattle.law_banks.specs.Partition.{globals_of}
use Rattle.law_banks.proofs.Partitioned.{total}
use Rattle.fsm_datapath.specs.SoundLeaf.{parts_of, tells_of}
use Rattle.thread_slots.specs.Services.{numbers_with}
use Rattle.thread_slots.specs.declared.shape.Shape.{Shape}
use Rattle.verilog_tree.specs.Scope.{is_clk}
use Rattle.fsm_datapath.specs.Thread.{core_ports, cores_of, inputs_of, places_of, IsServed}
use Rattle.fsm_datapath.specs.Leaf.{leaf_of}
use Rattle.law_net.proofs.Listed.{count_is}
use Rattle.law_net.specs.Cores.{AreCoresOf}
use Rattle.law_net.specs.Bodies.{core_count, numbers_of, promised_ports, IsBody}
use Rattle.program_bodies.specs.Bodies.{served_by, shape_of, laid_body, IsLaid, LaidAreBodies, LaidMainStays}
use Rattle.program_bodies.proofs.Ports.{parts_fit, told_fit, ports_are}

-- ---- cores with as many parts and told numbers are the same to a leaf

module _ (m : Module) (inputs : ℕ) (ports : LeafPorts) (cores : ℕ) (p q t u : ℕ → ℕ) (same_parts : (k : ℕ) → k < cores → q k ≡ p k) (same_told : (k : ℕ) → k < cores → u k ≡ t k) where
  heard : (x : ℕ) (h : Heard) → IsHeard m inputs ports cores p t x h → IsHeard m inputs ports cores q u x h
  heard x Clock h = h
  heard x Enable h = h
  heard x (Grant k) h = h
  heard x (Told k j) h = (h.0, h.1, (let e = same_told k h.0 in let l = h.2 in omega (arith, e, l)), h.3)

  ported : IsPorted m inputs ports cores p t → IsPorted m inputs ports cores q u
  ported h = record {
    all = λ x l. heard x (ports.heard x) (h.all x l);
    enable = record { input = h.enable.input; is = h.enable.is };
    grants = λ k l uses. let g = h.grants k l uses in record { input = g.input; is = g.is };
    tells = λ k j l uses b. let e = same_told k l in let g = h.tells k j l uses (omega (arith, e, b)) in record { input = g.input; is = g.is };
  }

  answered : (late : ℕ → Bool) → AnswersAreLate m inputs ports cores p t late → AnswersAreLate m inputs ports cores q u late
  answered late h = record {
    leaf = h.leaf;
    grants = h.grants;
    tells = λ k j l uses b. let e = same_told k l in h.tells k j l uses (omega (arith, e, b));
  }

  slot_bit : (x : ℕ) → IsSlotBit m inputs ports cores p t x → IsSlotBit m inputs ports cores q u x
  slot_bit x h = record { late = h.late; answered = answered h.late h.answered; enable = h.enable; bit = h.bit }

  thread_leaf : IsThreadLeaf m inputs ports cores p t → IsThreadLeaf m inputs ports cores q u
  thread_leaf h = record {
    ported = ported h.ported;
    clockless = h.clockless;
    late = h.late;
    answered = answered h.late h.answered;
    asks = λ k j l uses b. let e = same_parts k l in h.asks k j l uses (omega (arith, e, b));
    need = slot_bit ports.need h.need;
    silent = h.silent;
  }

module _ (P : Program) (spreads : List Spread) (w : Cores) (cores : AreCoresOf P spreads w) where
  same_numbers : numbers_with (bank_total spreads) (served_by w) ≡ numbers_of w
  same_numbers = ap (λ n. numbers_with n (served_by w)) (total P w.threads spreads w.banks cores.banked)

  -- as many cores as the shape has
  pub same_count : (main : Bool) (name : List ℕ) → cores_of (shape_of P spreads w main name) ≡ core_count w
  same_count main name = ap (λ (n : Numbers). suc (printer_core n)) same_numbers

  module _ (main : Bool) (name : List ℕ) (c : RoutineCode) (m : Module) (other : is_clk name ≡ false) (served : IsServed (shape_of P spreads w main name) c.code c.plan)
      (laid : IsLaid (shape_of P spreads w main name) c m) where
    abbrev shape : Shape
    shape = shape_of P spreads w main name

    ports : core_ports shape ≡ map port_of (kinds.kinds_of w)
    ports = ports_are P spreads w cores.banked served.spreads main name

    count : cores_of shape ≡ core_count w
    count = same_count main name

    parts_same : (k : ℕ) → k < cores_of shape → (machine_at (kinds.kinds_of w) k).parts ≡ parts_of (core_ports shape) k
    parts_same k l = parts_fit (kinds.kinds_of w) k (let n = count in let c = count_is w in omega (arith, n, c, l)) ∙ ap (λ (ps : List CorePort). parts_of ps k) (sym ports)

    told_same : (k : ℕ) → k < cores_of shape → (machine_at (kinds.kinds_of w) k).told ≡ tells_of (core_ports shape) k
    told_same k l = told_fit (kinds.kinds_of w) k (let n = count in let c = count_is w in omega (arith, n, c, l)) ∙ ap (λ (ps : List CorePort). tells_of ps k) (sym ports)

    is_body : IsBody P spreads w main c name (laid_body shape c m)
    is_body = record {
      routine = subst (λ (ps : List CorePort). IsRoutineModule name ps m (inputs_of shape) (leaf_of shape m)) ports (laid.routine other served);
      leaf = subst (λ n. IsThreadLeaf m (inputs_of shape) (leaf_of shape m) n (λ k. (machine_at (kinds.kinds_of w) k).parts) (λ k. (machine_at (kinds.kinds_of w) k).told)) count
          (thread_leaf m (inputs_of shape) (leaf_of shape m) (cores_of shape) (parts_of (core_ports shape)) (λ k. (machine_at (kinds.kinds_of w) k).parts)
          (tells_of (core_ports shape)) (λ k. (machine_at (kinds.kinds_of w) k).told) parts_same told_same (laid.leaf served).thread);
      done = subst (λ n. IsSlotBit m (inputs_of shape) (leaf_of shape m) n (λ k. (machine_at (kinds.kinds_of w) k).parts) (λ k. (machine_at (kinds.kinds_of w) k).told)
          (leaf_of shape m).done) count
          (slot_bit m (inputs_of shape) (leaf_of shape m) (cores_of shape) (parts_of (core_ports shape)) (λ k. (machine_at (kinds.kinds_of w) k).parts)
          (tells_of (core_ports shape)) (λ k. (machine_at (kinds.kinds_of w) k).told) parts_same told_same (leaf_of shape m).done (laid.leaf served).done);
      runs = λ f. subst (λ (n : Numbers). RunsCode (globals_of P) spreads n main f c.code c.plan m (places_of (inputs_of shape) c.code c.plan) (promised_ports (leaf_of shape m)))
          same_numbers (laid.serves served f);
      beats =
          let s = (laid.steady served).stands in
          record { signal = s.signal; is = s.is; register = s.register; one_bit = s.one_bit; turns = (laid.steady served).beat };
      steady = subst (λ n. IsSteadyThread n m (leaf_of shape m)) count (laid.steady served).steady;
    }

pub laid_are_bodies : LaidAreBodies
laid_are_bodies P spreads w main name c m cores other served laid = is_body P spreads w cores main name c m other served laid

pub laid_main_stays : LaidMainStays
laid_main_stays P spreads w name c m cores served laid =
    let steady = laid.steady served in
    subst (λ n. IsSteadyMain n m (leaf_of (shape_of P spreads w true name) m)) (same_count P spreads w cores true name) (record { thread = steady.steady; ended = steady.ended refl })
