-- Where the signals and the instances of top stand.
use Rattle.std.proofs.Common.{◌≡◌, ℕ, zero, suc, ◌+◌, ◌<◌, Bool, true, false, nat_eq, if◌then◌else◌, List, []}
use Rattle.std.proofs.Common.{◌∷◌, ◌++◌, length, take, map, replicate, Some, refl, ap, ◌∙◌, subst, arith, zero-add, length-append}
use Rattle.std.specs.Prelude.{slice_get, slice_index, codes}
use Rattle.std.proofs.lemmas.Bool.Decides.{nat_tests}
use Rattle.std.proofs.lemmas.List.{length-replicate}
use Rattle.std.proofs.lemmas.List.{length-map}
use Rattle.lists.proofs.Places.{get_front, get_back, get_mapped, copies_there}
use Rattle.netlist.specs.declared.netlist.Signal.{Signal}
use Rattle.netlist.specs.declared.netlist.Instance.{Instance}
use Rattle.netlist.specs.declared.netlist.Module.{Module}
use Rattle.circuit.specs.Rows.{spread}
use Rattle.circuit.proofs.Growth.{length-spread}
use Rattle.top_parts.specs.declared.layout.Core.{Core}
use Rattle.top_parts.specs.declared.layout.Layout.{Layout}
use Rattle.top_parts.specs.declared.parts.Part.{Part}
use Rattle.top_parts.specs.declared.wires.Wire.{Wire}
use Rattle.top_parts.specs.declared.wires.Wire.TheVariants.{Whole, Bit, Port}
use Rattle.top_parts.specs.Parts.{each_from, flat_from, ask_widths, thread_part, core_part, arbiter_part, parts, output_count}
use Rattle.top_parts.specs.Wires.{first_port, port_wire, ports, enables, blocks, wire_signal}
use Rattle.top_wiring.specs.Top.{input, preference, output, thread_instance, core_instance, arbiter_instance, all_wires, starts, done_place, IsTop}
use Rattle.top_parts.proofs.GrownLists.{length-each_from}
use Rattle.top_wiring.proofs.Lists.{get_behind, get_each, get_spread, get_flat_from, starts_at}

-- the wire that says whether thread i is enabled
abbrev pub enable_wire : ℕ → ℕ → Wire
enable_wire n i = if nat_eq n 1 then Whole else Bit i

enables_by : (n i : ℕ) (b : Bool) → i < n → nat_eq n 1 ≡ b → slice_get (if b then Whole ∷ [] else spread Bit 0 n) i ≡ Some (if b then Whole else Bit i)
enables_by n zero true l e = refl
enables_by n (suc i) true l e = absurd (let q : n ≡ 1 = grind (arith, nat_tests) in omega arith)
enables_by n i false l e = get_spread Bit n i l

pub enable_there : (n i : ℕ) → i < n → slice_get (enables n) i ≡ Some (enable_wire n i)
enable_there n i l = enables_by n i (nat_eq n 1) l refl

length-by : (n : ℕ) (b : Bool) → nat_eq n 1 ≡ b → length (if b then Whole ∷ [] else spread Bit 0 n) ≡ n
length-by n true e = (let q : n ≡ 1 = grind (arith, nat_tests) in omega arith)
length-by n false e = length-spread Bit 0 n

pub length-enables : (n : ℕ) → length (enables n) ≡ n
length-enables n = length-by n (nat_eq n 1) refl

-- ---- the instances

module _ (layout : Layout) where
  abbrev asks : List ℕ
  asks = ask_widths layout.cores

  abbrev T : ℕ
  T = length layout.threads

  abbrev K : ℕ
  K = length layout.cores

  pub thread_part_at : (i number : ℕ) → slice_get layout.threads i ≡ Some number → slice_get (parts layout) i ≡ Some (thread_part asks number)
  thread_part_at i number e =
      get_front (map (thread_part asks) layout.threads ++ map (core_part T) layout.cores) (spread (arbiter_part T layout.arbiter) 0 K) i (thread_part asks number)
      (get_front (map (thread_part asks) layout.threads) (map (core_part T) layout.cores) i (thread_part asks number)
      (get_mapped (thread_part asks) layout.threads i number e))

  pub core_part_at : (k : ℕ) (c : Core) → slice_get layout.cores k ≡ Some c → slice_get (parts layout) (T + k) ≡ Some (core_part T c)
  core_part_at k c e =
      get_front (map (thread_part asks) layout.threads ++ map (core_part T) layout.cores) (spread (arbiter_part T layout.arbiter) 0 K) (T + k) (core_part T c)
      (get_behind T (map (thread_part asks) layout.threads) (map (core_part T) layout.cores) k (core_part T c)
      (length-map layout.threads (thread_part asks)) (get_mapped (core_part T) layout.cores k c e))

  pub arbiter_part_at : (k : ℕ) → k < K → slice_get (parts layout) (T + K + k) ≡ Some (arbiter_part T layout.arbiter k)
  arbiter_part_at k l =
      get_behind (T + K) (map (thread_part asks) layout.threads ++ map (core_part T) layout.cores) (spread (arbiter_part T layout.arbiter) 0 K) k (arbiter_part T layout.arbiter k)
      (let a = length-append (map (thread_part asks) layout.threads) (map (core_part T) layout.cores) in
      let b = length-map layout.threads (thread_part asks) in
      let c : length (map (core_part T) layout.cores) ≡ K = length-map layout.cores (core_part T) in
      omega arith)
      (get_spread (arbiter_part T layout.arbiter) K k l)

module _ (modules : List Module) (layout : Layout) where
  abbrev n : ℕ
  n = length layout.threads

  abbrev c : ℕ
  c = length layout.cores

  abbrev pub start : ℕ → ℕ
  start j = slice_index (starts modules layout) j

  -- the instances
  module _ (top : Module) (is : IsTop modules layout top) where
    abbrev thread_list : List Instance
    thread_list = each_from (thread_instance (starts modules layout) n c (parts layout) layout.cores) 0 layout.threads

    abbrev core_list : List Instance
    core_list = each_from (λ k x. core_instance (starts modules layout) n c (parts layout) (length (ask_widths (take k layout.cores))) k x) 0 layout.cores

    abbrev arbiter_list : List Instance
    arbiter_list = spread (arbiter_instance (starts modules layout) n c (parts layout) layout.arbiter) 0 c

    pub thread_stands : (i number : ℕ) → slice_get layout.threads i ≡ Some number
        → slice_get top.instances i ≡ Some (thread_instance (starts modules layout) n c (parts layout) layout.cores i number)
    thread_stands i number e =
        let x = thread_instance (starts modules layout) n c (parts layout) layout.cores in
        ap (λ xs. slice_get xs i) is.instances
        ∙ get_front (thread_list ++ core_list) arbiter_list i (x i number)
        (get_front thread_list core_list i (x i number) (get_each x 0 layout.threads i number e ∙ ap (λ j. Some (x j number)) (zero-add i)))

    pub core_stands : (k : ℕ) (x : Core) → slice_get layout.cores k ≡ Some x
        → slice_get top.instances (n + k) ≡ Some (core_instance (starts modules layout) n c (parts layout) (length (ask_widths (take k layout.cores))) k x)
    core_stands k x e =
        let f : ℕ → Core → Instance = λ k y. core_instance (starts modules layout) n c (parts layout) (length (ask_widths (take k layout.cores))) k y in
        ap (λ xs. slice_get xs (n + k)) is.instances
        ∙ get_front (thread_list ++ core_list) arbiter_list (n + k) (f k x)
        (get_behind n thread_list core_list k (f k x) (length-each_from (thread_instance (starts modules layout) n c (parts layout) layout.cores) 0 layout.threads)
        (get_each f 0 layout.cores k x e ∙ ap (λ j. Some (f j x)) (zero-add k)))

    pub arbiter_stands : (k : ℕ) → k < c → slice_get top.instances (n + c + k) ≡ Some (arbiter_instance (starts modules layout) n c (parts layout) layout.arbiter k)
    arbiter_stands k l =
        let f : ℕ → Core → Instance = λ k y. core_instance (starts modules layout) n c (parts layout) (length (ask_widths (take k layout.cores))) k y in
        let x = arbiter_instance (starts modules layout) n c (parts layout) layout.arbiter in
        let a = length-append thread_list core_list in
        let b = length-each_from (thread_instance (starts modules layout) n c (parts layout) layout.cores) 0 layout.threads in
        let d = length-each_from f 0 layout.cores in
        ap (λ xs. slice_get xs (n + c + k)) is.instances
        ∙ get_behind (n + c) (thread_list ++ core_list) arbiter_list k (x k) (omega arith) (get_spread x c k l)

    -- ---- the signals

    abbrev heads : List Signal
    heads = input (codes "clk") 1 ∷ input (codes "en") n ∷ []

    abbrev inputs : List Signal
    inputs = heads ++ spread preference 0 c

    abbrev inners : List Signal
    inners = each_from wire_signal (2 + c) (all_wires modules layout)

    abbrev outputs : List Signal
    outputs = output (done_place modules layout) ∷ []

    pub length-inputs : length inputs ≡ 2 + c
    length-inputs =
        let a = length-append heads (spread preference 0 c) in
        let b = length-spread preference 0 c in
        omega arith

    pub mask_stands : slice_get top.signals 1 ≡ Some (input (codes "en") n)
    mask_stands = ap (λ xs. slice_get xs 1) is.signals

    pub clock_stands : slice_get top.signals 0 ≡ Some (input (codes "clk") 1)
    clock_stands = ap (λ xs. slice_get xs 0) is.signals

    pub preference_stands : (k : ℕ) → k < c → slice_get top.signals (2 + k) ≡ Some (preference k)
    preference_stands k l =
        ap (λ xs. slice_get xs (2 + k)) is.signals
        ∙ get_front (inputs ++ inners) outputs (2 + k) (preference k)
        (get_front inputs inners (2 + k) (preference k)
        (get_behind 2 heads (spread preference 0 c) k (preference k) refl (get_spread preference c k l)))

    wire_stands : (y : ℕ) (w : Wire) → slice_get (all_wires modules layout) y ≡ Some w → slice_get top.signals (2 + c + y) ≡ Some (wire_signal (2 + c + y) w)
    wire_stands y w e =
        ap (λ xs. slice_get xs (2 + c + y)) is.signals
        ∙ get_front (inputs ++ inners) outputs (2 + c + y) (wire_signal (2 + c + y) w)
        (get_behind (2 + c) inputs inners y (wire_signal (2 + c + y) w) length-inputs (get_each wire_signal (2 + c) (all_wires modules layout) y w e))

    pub enable_stands : (i : ℕ) → i < n → slice_get top.signals (2 + c + i) ≡ Some (wire_signal (2 + c + i) (enable_wire n i))
    enable_stands i l = wire_stands i (enable_wire n i) (get_front (enables n) (blocks modules (parts layout)) i (enable_wire n i) (enable_there n i l))

    pub start_is : (j : ℕ) (p : Part) → slice_get (parts layout) j ≡ Some p → start j ≡ 2 + c + n + length (flat_from (ports modules) 0 (take j (parts layout)))
    start_is j p e =
        starts_at (2 + c + length (enables n)) (parts layout) modules 0 j p e
        ∙ ap (λ x. 2 + c + x + length (flat_from (ports modules) 0 (take j (parts layout)))) (length-enables n)

    -- output x of instance j drives the wire that stands x behind its first one
    pub port_stands : (j x w : ℕ) (p : Part) → slice_get (parts layout) j ≡ Some p → slice_get p.outputs x ≡ Some w
        → slice_get top.signals (start j + x) ≡ Some (wire_signal (start j + x) (Port w j (first_port modules p + x)))
    port_stands j x w p e g =
        let wire = Port w j (first_port modules p + x) in
        let before = length (flat_from (ports modules) 0 (take j (parts layout))) in
        let here : slice_get (ports modules (0 + j) p) x ≡ Some wire =
        get_each (port_wire (0 + j) (first_port modules p)) 0 p.outputs x w g
        ∙ ap (λ a. Some (Port w a (first_port modules p + (0 + x)))) (zero-add j) ∙ ap (λ a. Some (Port w j (first_port modules p + a))) (zero-add x) in
        let there = get_behind n (enables n) (blocks modules (parts layout)) (before + x) wire (length-enables n)
        (get_flat_from (ports modules) 0 (parts layout) j x p wire e here) in
        let s = start_is j p e in
        let q : 2 + c + (n + (before + x)) ≡ start j + x = omega arith in
        subst (λ (a : ℕ). slice_get top.signals a ≡ Some (wire_signal a wire)) q (wire_stands (n + (before + x)) wire there)

    -- each part is an instance
    pub as_many : length top.instances ≡ length (parts layout)
    as_many =
        let f : ℕ → Core → Instance = λ k y. core_instance (starts modules layout) n c (parts layout) (length (ask_widths (take k layout.cores))) k y in
        let a = ap length is.instances in
        let b = length-append (thread_list ++ core_list) arbiter_list in
        let d = length-append thread_list core_list in
        let e = length-each_from (thread_instance (starts modules layout) n c (parts layout) layout.cores) 0 layout.threads in
        let g = length-each_from f 0 layout.cores in
        let h = length-spread (arbiter_instance (starts modules layout) n c (parts layout) layout.arbiter) 0 c in
        let asks = ask_widths layout.cores in
        let i = length-append (map (thread_part asks) layout.threads ++ map (core_part n) layout.cores) (spread (arbiter_part n layout.arbiter) 0 c) in
        let j = length-append (map (thread_part asks) layout.threads) (map (core_part n) layout.cores) in
        let k = length-map layout.threads (thread_part asks) in
        let l = length-map layout.cores (core_part n) in
        let m = length-spread (arbiter_part n layout.arbiter) 0 c in
        omega arith

    pub length-signals : length top.signals ≡ 2 + c + length (all_wires modules layout) + 1
    length-signals =
        let a = ap length is.signals in
        let b = length-append (inputs ++ inners) outputs in
        let d = length-append inputs inners in
        let e = length-each_from wire_signal (2 + c) (all_wires modules layout) in
        let f = length-inputs in
        omega arith

    -- the last output of thread 0
    pub done_stands : (number : ℕ) → slice_get layout.threads 0 ≡ Some number → slice_get top.signals (done_place modules layout)
        ≡ Some (wire_signal (done_place modules layout) (Port 1 0 (first_port modules (thread_part (ask_widths layout.cores) number) + (length (ask_widths layout.cores) + 1))))
    done_stands number e =
        let asks = ask_widths layout.cores in
        let own = thread_part asks number in
        let x = length asks + 1 in
        let here : slice_get own.outputs x ≡ Some 1 = get_behind (length asks) asks (replicate 2 1) 1 1 refl (copies_there 2 1 1 (omega arith)) in
        let part = thread_part_at layout 0 number e in
        let a = length-append asks (replicate {A = ℕ} 2 1) in
        let b : length (replicate {A = ℕ} 2 1) ≡ 2 = length-replicate {A = ℕ} 2 1 in
        let many : length own.outputs ≡ length asks + 2 = omega arith in
        let count : output_count (slice_get (parts layout) 0) ≡ length asks + 2 = ap output_count part ∙ many in
        let place : start 0 + x ≡ done_place modules layout = omega arith in
        subst (λ (z : ℕ). slice_get top.signals z ≡ Some (wire_signal z (Port 1 0 (first_port modules own + x)))) place (port_stands 0 x 1 own part here)

    pub output_stands : slice_get top.signals (2 + c + length (all_wires modules layout)) ≡ Some (output (done_place modules layout))
    output_stands =
        let x = output (done_place modules layout) in
        let a = length-append inputs inners in
        let b = length-each_from wire_signal (2 + c) (all_wires modules layout) in
        let d = length-inputs in
        let e : 2 + c + length (all_wires modules layout) ≡ length (inputs ++ inners) + 0 = omega arith in
        ap (λ xs. slice_get xs (2 + c + length (all_wires modules layout))) is.signals ∙ ap (slice_get (inputs ++ inners ++ outputs)) e ∙ get_back (inputs ++ inners) outputs 0 x refl
