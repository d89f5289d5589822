-- What is made of a program is what its machine is built of, and the text that is written of it is good.
use Rattle.std.proofs.Common.{◌≡◌, ℕ, zero, suc, ◌<◌, ◌≤◌, Bool, true, false, nat_eq, List, [], ◌∷◌, ◌++◌, length, Option, Some, None, codes}
use Rattle.std.proofs.Common.{refl, sym, ap, ◌∙◌, subst, inl, inr, ⊎_elim, arith}
use Rattle.std.specs.Prelude.{slice_get}
use Rattle.std.proofs.lemmas.Bool.{cases_lt, eqb-true}
use Rattle.std.proofs.lemmas.List.{length-map}
use Rattle.std.proofs.lemmas.Option.{none-some, same_Some, slice_get_within, get_or_from_slice_get}
use Rattle.hls_ints.specs.Residues.{bit_of}
use Rattle.lists.proofs.Places.{get_there, get_front}
use Rattle.c_program.specs.Tree.{Program}
use Rattle.c_program.specs.Resolved.{IsResolved}
use Rattle.c_program.specs.Weight.{thread_count, thread_functions, hardware_routines}
use Rattle.c_program.proofs.Runners.{routines_count}
use Rattle.bank_partition.specs.declared.banks.Spread.{Spread}
use Rattle.block_refine.specs.Routines.{RoutineCode}
use Rattle.netlist.specs.declared.netlist.Module.{Module}
use Rattle.netlist.specs.declared.netlist.Netlist.{Netlist}
use Rattle.verilog_meaning.specs.Cycles.{module_at}
use Rattle.verilog_meaning.specs.Threads.{slot, IsThreaded}
use Rattle.leaf_machine.specs.Steady.{IsSteadyMain}
use Rattle.core_tables.specs.Tables.{PlacedCore, Table, kinds_in}
use Rattle.core_tables.specs.Tables as table
use Rattle.core_tables.specs.Whole.{IsThreadName, IsWholeTable, AreThreads}
use Rattle.core_tables.specs.Nets.{IsNetOfTable}
use Rattle.core_tables.proofs.TableNets.{tables_are_nets}
use Rattle.law_net.specs.Threaded.{AreSteady}
use Rattle.law_net.proofs.TablesAreThreaded.{net_of_table_is_threaded}
use Rattle.law_net.specs.Grants.{IsGranting}
use Rattle.law_net.specs.Served.{AreServed, names_of, table_names}
use Rattle.law_net.proofs.CoreNames.{names_placed}
use Rattle.law_net.proofs.TablesGrant.{cores_of_table_are_served}
use Rattle.law_net.proofs.PortableTexts.{text_is_free}
use Rattle.law_cycle.specs.Cores.{Cores}
use Rattle.program_cores.specs.Placing.{placed}
use Rattle.law_cycle.specs.Kinds.{kinds_of}
use Rattle.program_cores.proofs.CoresPlaced.{cores_are_placed}
use Rattle.law_routines.specs.Surroundings.{routine_in, routine_of}
use Rattle.law_routines.specs.Built.{Parts, thread_modules, thread_leaves, IsBuilt, IsCode}
use Rattle.law_cycle.proofs.Listed.{count_is}
use Rattle.law_net.proofs.ThreadsStand.{leaf_there, done_there, steady_there}
use Rattle.law_routines.specs.Plans.{IsRoutine, AreRoutines, chain_of}
use Rattle.law_routines.proofs.Routines.{routines_are_code, routines_are_coded}
use Rattle.net_emitter.specs.Portable.{IsPortable}
use Rattle.net_emitter.specs.Written.{table_of, IsTextOf}
use Rattle.law_net.specs.Tables.{HaveThreads, IsLaidTable}
use Rattle.law_net.specs.Texts.{IsNetOf}
use Rattle.law_net.specs.Good.{IsPlacedTable}
use Rattle.law_net.proofs.LaidTablesAreWhole.{laid_tables_are_whole}
use Rattle.law_net.proofs.LaidTablesAreGood.{each_thread_stands, laid_tables_are_good, placed_tables_are_laid}
use Rattle.program_cores.specs.Cores.{AreCoresOf}
use Rattle.program_modules.specs.Numbers.{place_in, module_numbers, has_idle, function_module}
use Rattle.law_cycle.specs.Bodies.{ThreadBody, core_count, IsBody}
use Rattle.law_net.specs.Parts.{no_code, code_at, codes_of, body_of, parts_of, AreBodies}
use Rattle.law_net.specs.Parts.{thread_module, HaveModules, IsGoodText, PartsAreGood}
use Rattle.program_modules.proofs.Numbers as numbers
use Rattle.law_net.proofs.ModuleNames.{same_function, not_idle, function_named, idle_named}
use Rattle.law_net.proofs.FirstNamed.{first_named}

-- ---- lists

code_there : (cs : List RoutineCode) (k : ℕ) (c : RoutineCode) → slice_get cs k ≡ Some c → code_at cs k ≡ c
code_there [] k c e = absurd (none-some c e)
code_there (d ∷ cs) zero c e = same_Some d c e
code_there (d ∷ cs) (suc k) c e = code_there cs k c e

code_beyond : (cs : List RoutineCode) (k : ℕ) → length cs ≤ k → code_at cs k ≡ no_code
code_beyond [] k l = refl
code_beyond (c ∷ cs) zero l = absurd (omega (arith, l))
code_beyond (c ∷ cs) (suc k) l = code_beyond cs k (omega (arith, l))

module _ (P : Program) (spreads : List Spread) (w : Cores) (made : List RoutineCode) (bodies : ℕ → ThreadBody) (routines : List Module) (R : IsResolved P)
    (cores : AreCoresOf P spreads w)
    (are : AreBodies P spreads w made bodies routines) where
  abbrev K : Parts
  K = parts_of P spreads w made bodies

  abbrev FS : List ℕ
  FS = thread_functions P

  abbrev HR : List (Option ℕ)
  HR = hardware_routines P

  -- ---- codes

  made_there : (k f : ℕ) → slice_get FS k ≡ Some f → (c : RoutineCode) × (slice_get made k ≡ Some c)
  made_there k f e = get_there made k (let l = slice_get_within FS k f e in let n = are.count in omega (arith, l, n))

  routine_code : (f : ℕ) → slice_get FS (place_in FS f) ≡ Some f → IsRoutine P f (codes_of P spreads w made bodies f)
  routine_code f e =
      let c = made_there (place_in FS f) f e in
      subst (IsRoutine P f) (sym (code_there made (place_in FS f) c.0 c.1)) (are.thread_codes (place_in FS f) f c.0 e c.1)

  none_code : (f : ℕ) → place_in FS f ≡ length FS → codes_of P spreads w made bodies f ≡ no_code
  none_code f e = code_beyond made (place_in FS f) (let n = are.count in omega (arith, n, e))

  are_routines : AreRoutines P (codes_of P spreads w made bodies)
  are_routines = record {
    threads = λ f c. routine_code f (numbers.contains_place FS f c);
    each = λ f.
        ⊎_elim (λ (there : slice_get FS (place_in FS f) ≡ Some f). inl (routine_code f there))
        (λ (none : place_in FS f ≡ length FS). inr (ap (λ (c : RoutineCode). c.code.stages) (none_code f none))) (numbers.place_cases FS f);
  }

  -- ---- threads

  -- the module of thread i
  record Runner (i : ℕ) : Type 0 where
    number : ℕ
    listed : slice_get (module_numbers P) i ≡ Some number
    below : number < length routines
    code : RoutineCode
    is_code : codes_of P spreads w made bodies (routine_of P i) ≡ code
    name : List ℕ
    named : IsThreadName name
    is_name : (o : Option ℕ) → slice_get HR i ≡ Some o → name ≡ thread_module P o
    body : IsBody P spreads w (nat_eq i 0) code name (bodies number)

  runner_by : (i : ℕ) (o : Option (Option ℕ)) → slice_get HR i ≡ o → i < thread_count P → Runner i
  runner_by i None e l = absurd (let t = get_there HR i (let n = routines_count P in omega (arith, n, l)) in none-some t.0 (sym e ∙ t.1))
  runner_by i (Some (Some f)) e l =
      let place = numbers.runner_place P R i f e in
      let c = made_there (place_in FS f) f place in
      let is : routine_of P i ≡ f = ap (routine_in P) e in
      record {
        number = place_in FS f;
        listed = numbers.thread_there P R i (Some f) e;
        below = let h = slice_get_within FS (place_in FS f) f place in let n = are.count in let m = are.total in omega (arith, h, n, m);
        code = c.0;
        is_code = ap (codes_of P spreads w made bodies) is ∙ code_there made (place_in FS f) c.0 c.1;
        name = function_module P f;
        named = function_named P f;
        is_name = λ o d. ap (thread_module P) (same_Some (Some f) o (sym e ∙ d));
        body = subst (λ b. IsBody P spreads w b c.0 (function_module P f) (bodies (place_in FS f))) (numbers.is_first P R i (Some f) e)
            (are.each (place_in FS f) f c.0 place c.1);
      }
  runner_by i (Some None) e l =
      let on = numbers.idle_there P R i e in
      let bit : bit_of (has_idle P) ≡ 1 = ap bit_of on in
      let is : routine_of P i ≡ length P.functions = ap (routine_in P) e in
      let same : length made ≡ length FS = are.count in
      record {
        number = length FS;
        listed = numbers.thread_there P R i None e;
        below = let m = are.total in omega (arith, m, bit, same);
        code = no_code;
        is_code = ap (codes_of P spreads w made bodies) is ∙ none_code (length P.functions) (numbers.no_place P R);
        name = codes "idle";
        named = idle_named;
        is_name = λ o d. ap (thread_module P) (same_Some None o (sym e ∙ d));
        body = subst (λ b. IsBody P spreads w b no_code (codes "idle") (bodies (length FS))) (numbers.idle_not_first P R i e)
            (subst (λ k. IsBody P spreads w false no_code (codes "idle") (bodies k)) same (are.idle on));
      }

  runner : (i : ℕ) → i < w.threads → Runner i
  runner i l = runner_by i (slice_get HR i) refl (let t = cores.threads in omega (arith, t, l))

  -- what holds of its module holds of that of the parts
  of_thread : (i : ℕ) (l : i < w.threads) (Q : ThreadBody → Type 0) → Q (bodies (runner i l).number) → Q (body_of P spreads w made bodies i)
  of_thread i l Q q = subst (λ k. Q (bodies k)) (sym (get_or_from_slice_get (module_numbers P) i (runner i l).number 0 (runner i l).listed)) q

  -- ---- as parts

  body_there : (i : ℕ) (l : i < w.threads) → IsBody P spreads w (nat_eq i 0) (K.codes (routine_of P i)) (runner i l).name (K.bodies i)
  body_there i l =
      let r = runner i l in
      of_thread i l (IsBody P spreads w (nat_eq i 0) (K.codes (routine_of P i)) r.name)
      (subst (λ (c : RoutineCode). IsBody P spreads w (nat_eq i 0) c r.name (bodies r.number)) (sym r.is_code) r.body)

  -- ---- the table

  module _ (n : Netlist) (text : List ℕ) (is : IsTextOf (module_numbers P) routines w n text) where
    abbrev t : Table
    t = table_of (module_numbers P) routines is.arbiter w is.kinds

    threads_count : length (module_numbers P) ≡ w.threads
    threads_count = numbers.count P R ∙ sym cores.threads

    shapes : kinds_in t ≡ kinds_of w
    shapes = (cores_are_placed w t refl threads_count is.are).shapes

    core_total : length t.cores ≡ core_count w
    core_total = sym (length-map t.cores (λ (c : PlacedCore). c.kind)) ∙ ap length shapes ∙ count_is w

    is_built : IsBuilt P K
    is_built = record {
      resolved = R;
      threads = cores.threads;
      few_threads = cores.modules.few;
      few_cores = let few = cores.few in let b : length (placed w) ≡ core_count w = core_total in omega (arith, few, b);
      mutexes = cores.mutexes;
      barriers = cores.barriers;
      thread_ids = cores.thread_ids;
      chain = chain_of P (codes_of P spreads w made bodies);
      coded = routines_are_coded P (codes_of P spreads w made bodies) R are_routines;
      codes = λ f.
          subst (IsCode P spreads (codes_of P spreads w made bodies f)) (sym cores.values)
          (subst (λ (ss : List Spread). IsCode P ss (codes_of P spreads w made bodies f) 4) (sym (cores.banked.spread ∙ cores.banked.is.spreads))
          (routines_are_code P cores.banked.threads (codes_of P spreads w made bodies) are_routines f));
      banked = cores.banked;
      bodies = λ i l. ((runner i l).name, body_there i l);
      printer = cores.printer;
    }

    -- a module of a thread is that of the runner of its number
    routine_there : (number : ℕ) → number < length routines → slice_get routines number ≡ Some (bodies number).body
    routine_there number l = let m = get_there routines number l in m.1 ∙ ap Some (are.listed number m.0 m.1)

    runs_listed : (i number : ℕ) → slice_get (module_numbers P) i ≡ Some number → slice_get routines number ≡ Some (body_of P spreads w made bodies i).body
    runs_listed i number e =
        let l : i < w.threads = (let b = slice_get_within (module_numbers P) i number e in let c = threads_count in omega (arith, b, c)) in
        let same : (runner i l).number ≡ number = same_Some (runner i l).number number (sym (runner i l).listed ∙ e) in
        of_thread i l (λ (b : ThreadBody). slice_get routines number ≡ Some b.body)
        (ap (slice_get routines) (sym same) ∙ routine_there (runner i l).number (runner i l).below)

    -- the function of a module, or none
    data Whose (k : ℕ) : Type 0 where
      OfThreads : (f : ℕ) (there : slice_get FS k ≡ Some f) (name : (bodies k).body.name ≡ function_module P f) → Whose k
      OfNone : (on : has_idle P ≡ true) (at : k ≡ length FS) (name : (bodies k).body.name ≡ codes "idle") → Whose k

    set_bit : (b : Bool) → 0 < bit_of b → b ≡ true
    set_bit true l = refl
    set_bit false l = absurd (omega (arith, l))

    low_bit : (b : Bool) → bit_of b ≤ 1
    low_bit true = omega arith
    low_bit false = omega arith

    whose : (k : ℕ) → k < length routines → Whose k
    whose k l =
        ⊎_elim
        (λ (h : k < length FS).
        let f = get_there FS k h in
        let c = made_there k f.0 f.1 in
        OfThreads f.0 f.1 (are.each k f.0 c.0 f.1 c.1).routine.named)
        (λ (h : length FS ≤ k).
        let n = are.count in
        let m = are.total in
        let on = set_bit (has_idle P) (omega (arith, l, h, n, m)) in
        let low = low_bit (has_idle P) in
        let at : k ≡ length FS = omega (arith, l, h, n, m, low) in
        let same : length made ≡ k = n ∙ sym at in
        OfNone on at (subst (λ j. (bodies j).body.name ≡ codes "idle") same (are.idle on).routine.named))
        (cases_lt k (length FS))

    apart_by : (i j : ℕ) → Whose i → Whose j → (bodies i).body.name ≡ (bodies j).body.name → i ≡ j
    apart_by i j (OfThreads f there name) (OfThreads g there2 name2) e =
        let same = same_function P R f g (numbers.function_there P R i f there) (numbers.function_there P R j g there2) (sym name ∙ e ∙ name2) in
        numbers.once P R i j f there (there2 ∙ ap Some (sym same))
    apart_by i j (OfThreads f there name) (OfNone on at name2) e = absurd (not_idle P f (sym name ∙ e ∙ name2))
    apart_by i j (OfNone on at name) (OfThreads g there2 name2) e = absurd (not_idle P g (sym name2 ∙ sym e ∙ name))
    apart_by i j (OfNone on at name) (OfNone on2 at2 name2) e = at ∙ sym at2

    run_by : (k : ℕ) → Whose k → (i : ℕ) × (slice_get (module_numbers P) i ≡ Some k)
    run_by k (OfThreads f there name) = numbers.module_runs P R k f there
    run_by k (OfNone on at name) = let r = numbers.idle_runs P R on in (r.0, r.1 ∙ ap Some (sym at))

    have_threads : HaveThreads K t
    have_threads = record {
      count = threads_count;
      runs = runs_listed;
      named = λ i l.
          of_thread i l (λ (b : ThreadBody). IsThreadName b.body.name) (subst IsThreadName (sym (runner i l).body.routine.named) (runner i l).named);
      run = λ k m e. run_by k (whose k (slice_get_within routines k m e));
      apart = λ i j m o d e same.
          apart_by i j (whose i (slice_get_within routines i m d)) (whose j (slice_get_within routines j o e))
          (ap (λ (x : Module). x.name) (sym (are.listed i m d)) ∙ same ∙ ap (λ (x : Module). x.name) (are.listed j o e));
    }

    placed_table : IsPlacedTable K t
    placed_table = record { threads = have_threads; granting = is.granting; cores = refl; kinds = is.are }

    laid : IsLaidTable K t
    laid = placed_tables_are_laid P K t is_built (let v = cores.values in omega (arith, v)) placed_table

    whole : IsWholeTable t
    whole = laid_tables_are_whole P K t is_built laid

    stand : AreThreads t (thread_modules K) (thread_leaves K)
    stand = each_thread_stands P K t is_built laid

    in_table : (i : ℕ) → i < length t.threads → i < w.threads
    in_table i l = let c = threads_count in omega (arith, c, l)

    first : 0 < w.threads
    first = let s = cores.modules.some in omega (arith, s)

    first_number : (runner 0 first).number ≡ 0
    first_number =
        same_Some (runner 0 first).number 0
        (sym (runner 0 first).listed ∙ numbers.thread_there P R 0 (Some P.main) refl ∙ ap Some (eqb-true (place_in FS P.main) 0 (numbers.is_first P R 0 (Some P.main) refl)))

    steady : AreSteady t (thread_modules K) (thread_leaves K)
    steady = record {
      inputs = λ i. (K.bodies i).inputs;
      leaf = λ i l. leaf_there P K t is_built shapes i (in_table i l);
      each = λ i l. steady_there P K t is_built shapes i (in_table i l);
      done = done_there P K t is_built shapes 0 first;
      main =
          subst (λ k. IsSteadyMain k (K.bodies 0).body (K.bodies 0).leaf) (sym core_total)
          (of_thread 0 first (λ (b : ThreadBody). IsSteadyMain (core_count w) b.body b.leaf)
          (subst (λ k. IsSteadyMain (core_count w) (bodies k).body (bodies k).leaf) (sym first_number) are.main));
    }

    -- ---- the module of each thread

    abbrev top : Module
    top = is.written.wired.top

    net : IsNetOfTable t (thread_modules K) (thread_leaves K) n top
    net = tables_are_nets t (thread_modules K) (thread_leaves K) n whole stand is.written.wired

    in_net : (number : ℕ) (m : Module) → slice_get routines number ≡ Some m → slice_get n.modules number ≡ Some m
    in_net number m e =
        let given : List Module = routines ++ is.arbiter ∷ is.kinds in
        ap (λ (ms : List Module). slice_get ms number) is.written.wired.are
        ∙ get_front (given ++ top ∷ []) (is.written.wired.round ∷ []) number m
        (get_front given (top ∷ []) number m (get_front routines (is.arbiter ∷ is.kinds) number m e))

    have : HaveModules P n top
    have i o e =
        let l : i < w.threads = (let b = slice_get_within HR i o e in let c = routines_count P in let s = cores.threads in omega (arith, b, c, s)) in
        let r = runner i l in
        let own = (bodies r.number).body in
        let there = routine_there r.number r.below in
        let slot_number : i < length t.threads = (let c = threads_count in omega (arith, c, l)) in (
          own,
          first_named n.modules r.number own (thread_module P o) (in_net r.number own there) (r.body.routine.named ∙ r.is_name o e)
              (λ j other less d same.
              let m = get_there routines j (let b = r.below in omega (arith, b, less)) in
              let one : m.0 ≡ other = same_Some m.0 other (sym (in_net j m.0 m.1) ∙ d) in
              let place : j ≡ r.number = have_threads.apart j r.number m.0 own m.1 there
              (ap (λ (x : Module). x.name) one ∙ same ∙ sym (r.body.routine.named ∙ r.is_name o e)) in
              absurd (let no : 1 ≤ 0 = omega (arith, less, place) in omega (arith, no))),
          subst (λ (k : ℕ). module_at n.modules top (slot n.modules top k i) ≡ Some own) (numbers.count P R)
              (ap (module_at n.modules top) (net.slots i slot_number) ∙ net.runs i slot_number
              ∙ ap Some (of_thread i l (λ (b : ThreadBody). b.body ≡ own) refl)),
        )

    good : IsGoodText P (names_of w) n text
    good =
        let law = laid_tables_are_good P K t n is.net text is_built laid is.written in
        let read : (o : IsNetOf (thread_count P) n text) × (o.net ≡ is.net) = subst (λ k. (o : IsNetOf k n text) × (o.net ≡ is.net)) cores.threads law.1 in
        let served : (g : IsGranting n.modules top (thread_count P)) × AreServed n.modules top (thread_count P) g.has (names_of w) =
        subst (λ names. (g : IsGranting n.modules top (thread_count P)) × AreServed n.modules top (thread_count P) g.has names) (names_placed w)
        (subst (λ k. (g : IsGranting n.modules top k) × AreServed n.modules top k g.has (table_names (placed w))) (numbers.count P R)
        (cores_of_table_are_served t (thread_modules K) (thread_leaves K) (λ i. (K.bodies i).places.beat) n whole stand steady (λ i l. (body_there i (in_table i l)).beats) is.written.wired)) in
        record {
          good = law.0;
          net = read.0;
          portable = subst IsPortable (sym read.1) (is.written.portable read.0.sound (text_is_free (module_numbers P) routines w n text is are.free));
          threaded = record {
            top = top;
            is_top = net.is_top;
            threaded = subst (λ k. IsThreaded n.modules top k) (numbers.count P R) (net_of_table_is_threaded t (thread_modules K) (thread_leaves K) n whole stand steady is.written.wired);
            granting = served.0;
          };
          modules = have;
          served = served.1;
        }

pub parts_are_good : PartsAreGood
parts_are_good P spreads w made bodies routines n text R cores are is = good P spreads w made bodies routines R cores are n text is
