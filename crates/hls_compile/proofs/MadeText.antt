-- What is made of a program is written as its text, and the modules of its net run its thread functions.
use Rattle.std.proofs.Common.{◌≡◌, ℕ, zero, suc, ◌+◌, ◌<◌, ◌≤◌, Bool, true, false, nat_eq, List, [], ◌∷◌, ◌++◌, length, map, Option, Some, None}
use Rattle.std.proofs.Common.{refl, sym, ap, ◌∙◌, subst, arith}
use Rattle.std.specs.Prelude.{slice_get}
use Rattle.std.proofs.lemmas.Bool.Decides.{nat_tests}
use Rattle.std.proofs.lemmas.Option.{none-some, same_Some, slice_get_within}
use Rattle.std.proofs.lemmas.Bool.{eq-eqb}
use Rattle.lists.proofs.Places.{get_there, get_front, get_mapped}
use Rattle.hls_ints.specs.Residues.{bit_of}
use Rattle.c_program.specs.Tree.{Program}
use Rattle.c_program.specs.Resolved.{IsResolved}
use Rattle.c_program.specs.Weight.{thread_functions, hardware_routines}
use Rattle.c_limits.specs.Counts.{first_passed}
use Rattle.bank_partition.specs.declared.banks.Banks.{Banks}
use Rattle.bank_partition.specs.declared.banks.Spread.{Spread}
use Rattle.block_refine.specs.Routines.{RoutineCode}
use Rattle.netlist.specs.declared.netlist.Module.{Module}
use Rattle.netlist.specs.declared.netlist.Netlist.{Netlist}
use Rattle.net_emitter.specs.Cores.{Cores}
use Rattle.program_modules.specs.Numbers.{place_in, number_in, module_numbers, has_idle, function_module}
use Rattle.program_modules.proofs.Few.{no_more_modules}
use Rattle.program_modules.proofs.Numbers as numbers
use Rattle.net_emitter.specs.Written.{FitsTable, IsTextOf}
use Rattle.program_cores.specs.Cores.{AreCoresOf}
use Rattle.program_bodies.specs.Parts.{code_at, thread_module, AreBodies, IsGoodText}
use Rattle.program_bodies.proofs.ModuleNames.{same_function}
use Rattle.program_bodies.proofs.PartsAreGood.{parts_are_good}
use Rattle.program_bodies.specs.PlannedFunction.{PlannedFunction}
use Rattle.program_bodies.specs.Plans.{routine_of}
use Rattle.program_bodies.specs.Bodies.{shape_of, IsLaid}
use Rattle.program_bodies.specs.Modules.{AreLaid, module_shape, bodies_of}
use Rattle.program_bodies.proofs.Served.{codes_are_served}
use Rattle.hls_compile.specs.Banks.{AreBanksOf}
use Rattle.hls_compile.specs.Plans.{RunsPlanned, RunPlanned}
use Rattle.hls_compile.specs.Served.{core_names}
use Rattle.hls_compile.proofs.CoreNames.{cores_named}
use Rattle.program_bodies.proofs.FirstNamed.{first_named}
use Rattle.program_cores.proofs.Cores.{few_threads}

-- the code of a planned function stands at its place
code_there : (plans : List PlannedFunction) (k : ℕ) (p : PlannedFunction) → slice_get plans k ≡ Some p → code_at (map routine_of plans) k ≡ routine_of p
code_there [] k p e = absurd (none-some p e)
code_there (q ∷ plans) zero p e = ap routine_of (same_Some q p e)
code_there (q ∷ plans) (suc k) p e = code_there plans k p e

-- what is made of a program beside these banks: its cores, and the modules of its threads
pub record IsMade (P : Program) (spreads : List Spread) (w : Cores) (plans : List PlannedFunction) (modules : List Module) : Type 0 where
  pub cores : AreCoresOf P spreads w
  pub laid : AreLaid P spreads w (map routine_of plans) (length (thread_functions P) + bit_of (has_idle P)) modules
  pub bodies : AreBodies P spreads w (map routine_of plans) (bodies_of P spreads w (map routine_of plans) modules) modules

module _ (P : Program) (banks : Banks) (w : Cores) (plans : List PlannedFunction) (modules : List Module) (R : IsResolved P) (limits : first_passed P ≡ None)
    (banked : AreBanksOf P banks) (made : IsMade P banks.spreads.items w plans modules) where
  abbrev FS : List ℕ
  FS = thread_functions P

  modules_count : length modules ≡ length FS + bit_of (has_idle P)
  modules_count = made.laid.count

  -- ---- the table

  runs_by : (i number : ℕ) (o : Option ℕ) → slice_get (hardware_routines P) i ≡ Some o → number_in FS o ≡ number → number < length modules
  runs_by i number (Some f) e same =
      let low = slice_get_within FS (place_in FS f) f (numbers.runner_place P R i f e) in
      let count = modules_count in
      omega (arith, low, count, same)
  runs_by i number None e same =
      let bit : bit_of (has_idle P) ≡ 1 = ap bit_of (numbers.idle_there P R i e) in
      let count = modules_count in
      omega (arith, bit, count, same)

  pub fits : FitsTable (module_numbers P) modules w
  fits = record {
    count = numbers.count P R ∙ sym made.cores.threads;
    few_routines = let count = modules_count in let most = no_more_modules P R in let few = few_threads P limits in omega (arith, count, most, few);
    runs = λ i number e. let o = numbers.thread_back P R i number e in runs_by i number o.0 o.1 o.2;
    few_cores = made.cores.few;
    narrow = let v = made.cores.values in omega (arith, v);
  }

  -- ---- the text

  module _ (n : Netlist) (text : List ℕ) (is : IsTextOf (module_numbers P) modules w n text) where
    pub is_good : IsGoodText P (core_names P) n text
    is_good =
        subst (λ names. IsGoodText P names n text) (cores_named P banks w banked made.cores)
        (parts_are_good P banks.spreads.items w (map routine_of plans) (bodies_of P banks.spreads.items w (map routine_of plans) modules) modules n text R made.cores
        made.bodies is)

    module _ (k f : ℕ) (p : PlannedFunction) (function : slice_get FS k ≡ Some f) (plan : slice_get plans k ≡ Some p) where
      is_main : nat_eq k 0 ≡ nat_eq f P.main
      is_main = by k function
        where
          other : (b : Bool) (j : ℕ) → nat_eq f P.main ≡ b → slice_get FS (suc j) ≡ Some f → nat_eq (suc j) 0 ≡ b
          other true j e there =
              let same : f ≡ P.main = grind (arith, nat_tests, e) in
              let bad : suc j ≡ 0 = numbers.once P R (suc j) 0 f there (ap Some (sym same)) in
              absurd (let no : 1 ≤ 0 = omega (arith, bad) in omega (arith, no))
          other false j e there = (let no : nat_eq (suc j) 0 ≡ false = grind (arith, nat_tests) in no)

          by : (j : ℕ) → slice_get FS j ≡ Some f → nat_eq j 0 ≡ nat_eq f P.main
          by zero there = sym (ap (λ z. nat_eq z P.main) (sym (same_Some P.main f there)) ∙ eq-eqb P.main P.main refl)
          by (suc j) there = other (nat_eq f P.main) j refl there

      there : (m : Module) × (slice_get modules k ≡ Some m)
      there =
          let low = slice_get_within FS k f function in
          let count = modules_count in
          get_there modules k (omega (arith, low, count))

      -- the module of a function has its name
      named : (j g : ℕ) (m : Module) → slice_get FS j ≡ Some g → slice_get modules j ≡ Some m → m.name ≡ function_module P g
      named j g m e d =
          let q = get_there (map routine_of plans) j (let low = slice_get_within FS j g e in let count = made.bodies.count in omega (arith, low, count)) in
          ap (λ (z : Module). z.name) (made.bodies.listed j m d) ∙ (made.bodies.each j g q.0 e q.1).routine.named

      listed : (j : ℕ) (m : Module) → slice_get modules j ≡ Some m → slice_get n.modules j ≡ Some m
      listed j m e =
          let whole : List Module = modules ++ is.arbiter ∷ is.kinds in
          ap (λ (ms : List Module). slice_get ms j) is.written.wired.are
          ∙ get_front (whole ++ is.written.wired.top ∷ []) (is.written.wired.round ∷ []) j m
          (get_front whole (is.written.wired.top ∷ []) j m (get_front modules (is.arbiter ∷ is.kinds) j m e))

      earlier : (j : ℕ) (o : Module) → j < k → slice_get n.modules j ≡ Some o → o.name ≡ function_module P f → ⊥
      earlier j o l d q =
          let low = slice_get_within FS k f function in
          let count = modules_count in
          let g = get_there FS j (omega (arith, l, low)) in
          let m = get_there modules j (omega (arith, l, low, count)) in
          let same : m.0 ≡ o = same_Some m.0 o (sym (listed j m.0 m.1) ∙ d) in
          let names : function_module P g.0 ≡ function_module P f = sym (named j g.0 m.0 g.1 m.1) ∙ ap (λ (z : Module). z.name) same ∙ q in
          let function_same = same_function P R g.0 f (numbers.function_there P R j g.0 g.1) (numbers.function_there P R k f function) names in
          let place : j ≡ k = numbers.once P R j k f (g.1 ∙ ap Some function_same) function in
          absurd (let no : 1 ≤ 0 = omega (arith, l, place) in omega (arith, no))

      laid_there : IsLaid (shape_of P banks.spreads.items w (nat_eq k 0) (function_module P f)) (routine_of p) there.0
      laid_there =
          subst (λ (o : Option ℕ). IsLaid (shape_of P banks.spreads.items w (nat_eq k 0) (thread_module P o)) (routine_of p) there.0) function
          (subst (λ (c : RoutineCode). IsLaid (module_shape P banks.spreads.items w k) c there.0) (code_there plans k p plan) (made.laid.each k there.0 there.1))

      pub runs_planned : RunsPlanned P banks.spreads.items w n f p
      runs_planned = record {
        module_ = there.0;
        listed = first_named n.modules k there.0 (function_module P f) (listed k there.0 there.1) (named k f there.0 function there.1) earlier;
        served = codes_are_served P banks.spreads.items w f (routine_of p) R limits made.cores
            (made.bodies.thread_codes k f (routine_of p) function (get_mapped routine_of plans k p plan)) (nat_eq f P.main) (function_module P f);
        laid = subst (λ b. IsLaid (shape_of P banks.spreads.items w b (function_module P f)) (routine_of p) there.0) is_main laid_there;
      }

    pub run_planned : RunPlanned P n plans
    run_planned = record {
      counts = banked.counts;
      counted = banked.counted;
      cores = w;
      are_cores = subst (λ (ss : List Spread). AreCoresOf P ss w) banked.parted.is.spreads made.cores;
      each = λ k f p function plan. subst (λ (ss : List Spread). RunsPlanned P ss w n f p) banked.parted.is.spreads (runs_planned k f p function plan);
    }
