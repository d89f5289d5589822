-- The modules of all threads of a program, as they are laid out, are what its parts ask of them.
use Rattle.std.proofs.Common.{◌≡◌, ℕ, zero, suc, ◌+◌, ◌<◌, ◌≤◌, Bool, true, false, nat_eq, List, [], ◌∷◌, ◌++◌, length, map, Option, None, Some, String, codes}
use Rattle.std.proofs.Common.{refl, sym, ap, ◌∙◌, subst, ⊎_elim, arith, length-append}
use Rattle.std.specs.Prelude.{slice_get, slice_index_or, string_bytes}
use Rattle.std.specs.declared.alloc.Global.{Global}
use Rattle.std.proofs.lemmas.List.{length-map}
use Rattle.std.proofs.lemmas.Option.{none-some, same_Some, slice_get_within, slice_get-get_or, slice_get_past, get_or_from_slice_get}
use Rattle.std.proofs.lemmas.Bool.{cases_lt}
use Rattle.std.proofs.Math.Dec.{eqb-suc-zero}
use Rattle.lists.proofs.Places.{get_there, get_mapped, get_pushed}
use Rattle.hls_ints.specs.Residues.{bit_of}
use Rattle.hls_ints.specs.Types.{IntegerType}
use Rattle.c_limits.specs.Counts.{first_passed}
use Rattle.c_program.specs.Tree.{Program}
use Rattle.c_program.specs.Resolved.{IsFunction, IsResolved}
use Rattle.c_program.specs.Weight.{thread_functions, routines}
use Rattle.verilog_tree.specs.Scope.{is_clk}
use Rattle.verilog_tree.specs.Spelling.{all_pass, is_name_byte}
use Rattle.netlist.specs.declared.netlist.Module.{Module}
use Rattle.bank_partition.specs.declared.banks.Spread.{Spread}
use Rattle.block_ir.specs.declared.code.Act.TheVariants.{Print}
use Rattle.block_ir.specs.declared.code.Array.{Array}
use Rattle.block_ir.specs.declared.code.Stage.{Stage}
use Rattle.block_ir.specs.declared.code.Stage.TheVariants as stage
use Rattle.block_ir.specs.declared.plan.StagePlan.{StagePlan}
use Rattle.block_refine.specs.Routines.{RoutineCode}
use Rattle.core_family.specs.declared.cores.Cores.{Cores}
use Rattle.thread_slots.specs.declared.shape.Shape.{Shape}
use Rattle.fsm_datapath.specs.Thread.{IsServed}
use Rattle.fsm_datapath.specs.Runs.{ServesCode}
use Rattle.fsm_datapath.specs.SoundLeaf.{IsLeafOfServedCode}
use Rattle.fsm_datapath.specs.Routine.{IsRoutineOfServedCode}
use Rattle.fsm_datapath.specs.Steady.{IsSteadyServedCode}
use Rattle.law_net.specs.Plans.{IsRoutine}
use Rattle.program_modules.specs.Numbers.{has_idle, name_if, module_name, function_module}
use Rattle.program_modules.proofs.Numbers.{function_there}
use Rattle.law_net.specs.Cores.{AreCoresOf}
use Rattle.law_net.proofs.Globals.{named}
use Rattle.law_net.specs.Bodies.{IsBody}
use Rattle.law_net.specs.Parts.{no_code, code_at, thread_module, AreBodies}
use Rattle.law_net.specs.Portable.{IsFree, IsFreelyNamed}
use Rattle.program_plans.specs.declared.PlannedFunction.{PlannedFunction}
use Rattle.program_plans.specs.Plans.{ArePlanned, routine_of, PlannedAreRoutines}
use Rattle.program_bodies.specs.Bodies.{shape_of, IsLaid}
use Rattle.program_bodies.specs.Modules.{module_shape, AreLaid, no_module, bodies_of}
use Rattle.program_bodies.proofs.Bodies.{laid_are_bodies, laid_main_stays}
use Rattle.program_bodies.proofs.Served.{at_place, codes_are_served}
use Rattle.program_bodies.proofs.RoutineNames.{thread_name_free, routine_free}
use Rattle.program_bodies.proofs.Spreads.{right_spreads}

-- ---- codes by place

code_listed : (made : List RoutineCode) (k : ℕ) (c : RoutineCode) → slice_get made k ≡ Some c → code_at made k ≡ c
code_listed [] k c e = absurd (none-some c e)
code_listed (d ∷ made) zero c e = same_Some d c e
code_listed (d ∷ made) (suc k) c e = code_listed made k c e

code_past : (made : List RoutineCode) → code_at made (length made) ≡ no_code
code_past [] = refl
code_past (c ∷ made) = code_past made

-- ---- the code of threads without a function

abbrev pub code_of : List IntegerType → List (String Global) → List Array → List Stage → List StagePlan → RoutineCode
code_of variables names arrays stages plans = record {
  code = record { argument = None; variables = variables; names = names; arrays = arrays; stages = stages };
  plan = record { stages = plans; registers = 0 };
}

pub empty_code : (variables : List IntegerType) (names : List (String Global)) (arrays : List Array) (stages : List Stage) (plans : List StagePlan) → variables ≡ [] → names ≡ [] →
    arrays ≡ [] → stages ≡ [] → plans ≡ [] → code_of variables names arrays stages plans ≡ no_code
empty_code variables names arrays stages plans v n a s p =
    ap (λ (l : List IntegerType). code_of l names arrays stages plans) v ∙ ap (λ (l : List (String Global)). code_of [] l arrays stages plans) n
    ∙ ap (λ (l : List Array). code_of [] [] l stages plans) a ∙ ap (λ (l : List Stage). code_of [] [] [] l plans) s ∙ ap (λ (l : List StagePlan). code_of [] [] [] [] l) p

-- ---- modules that are laid out

-- a module by its promises, with another shape that is the same
pub laid_for : (s t : Shape) (c : RoutineCode) (m : Module) → s ≡ t → ServesCode s c.code c.plan m → IsLeafOfServedCode s c.code c.plan m →
    IsRoutineOfServedCode s c.code c.plan m → IsSteadyServedCode s c.code c.plan m → IsLaid t c m
laid_for s t c m same serves leaf routine steady = subst (λ z. IsLaid z c m) same (record { serves = serves; leaf = leaf; routine = routine; steady = steady })

module _ (P : Program) (spreads : List Spread) (w : Cores) (made : List RoutineCode) where
  pub none_laid : AreLaid P spreads w made 0 []
  none_laid = record { count = refl; each = λ k m e. absurd (none-some m e) }

  pub one_more : (n : ℕ) (modules : List Module) (m : Module) → AreLaid P spreads w made n modules → IsLaid (module_shape P spreads w n) (code_at made n) m →
      AreLaid P spreads w made (n + 1) (modules ++ m ∷ [])
  one_more n modules m are is = record {
    count = (let l = length-append modules (m ∷ []) in let c = are.count in omega (arith, l, c));
    each = λ k d e.
        ⊎_elim (λ (before : slice_get modules k ≡ Some d). are.each k d before)
        (λ (last : (k ≡ length modules) × (m ≡ d)).
        subst (λ (z : Module). IsLaid (module_shape P spreads w k) (code_at made k) z) last.1
        (subst (λ j. IsLaid (module_shape P spreads w j) (code_at made j) m) (sym (last.0 ∙ are.count)) is))
        (get_pushed modules m k d e);
  }

  -- without a module for threads without a function, or with one
  pub without_idle : (n : ℕ) (modules : List Module) → AreLaid P spreads w made n modules → has_idle P ≡ false → AreLaid P spreads w made (n + bit_of (has_idle P)) modules
  without_idle n modules are none =
      subst (λ k. AreLaid P spreads w made k modules) (let e : n ≡ n + bit_of (has_idle P) = (let z : bit_of (has_idle P) ≡ 0 = ap bit_of none in omega (arith, z)) in e) are

  idle_place : length made ≡ length (thread_functions P) → (m : Module) → IsLaid (shape_of P spreads w false (codes "idle")) no_code m →
      IsLaid (module_shape P spreads w (length (thread_functions P))) (code_at made (length (thread_functions P))) m
  idle_place count m is =
      let k = length (thread_functions P) in
      let past : slice_get (thread_functions P) k ≡ None = slice_get_past (thread_functions P) k (omega arith) in
      subst (λ (c : RoutineCode). IsLaid (module_shape P spreads w k) c m) (sym (ap (code_at made) (sym count) ∙ code_past made))
      (subst (λ (o : Option ℕ). IsLaid (shape_of P spreads w (nat_eq k 0) (thread_module P o)) no_code m) (sym past)
      (subst (λ main. IsLaid (shape_of P spreads w main (codes "idle")) no_code m) (sym (eqb-suc-zero (length (routines P)))) is))

  pub with_idle : length made ≡ length (thread_functions P) → (modules : List Module) (m : Module) → AreLaid P spreads w made (length (thread_functions P)) modules →
      IsLaid (shape_of P spreads w false (codes "idle")) no_code m → has_idle P ≡ true →
      AreLaid P spreads w made (length (thread_functions P) + bit_of (has_idle P)) (modules ++ m ∷ [])
  with_idle count modules m are is some =
      let n = length (thread_functions P) in
      subst (λ k. AreLaid P spreads w made k (modules ++ m ∷ [])) (ap (λ b. n + bit_of b) (sym some)) (one_more n modules m are (idle_place count m is))

-- ---- planned functions

module _ (P : Program) (resolved : IsResolved P) (plans : List PlannedFunction) (are : ArePlanned P plans) where
  function_of : (k : ℕ) (p : PlannedFunction) → slice_get plans k ≡ Some p → (f : ℕ) × (slice_get (thread_functions P) k ≡ Some f)
  function_of k p e = get_there (thread_functions P) k (let l = slice_get_within plans k p e in let c = are.count in omega (arith, l, c))

  -- a name of bytes that may stand in names
  pub function_named : (k : ℕ) (p : PlannedFunction) → slice_get plans k ≡ Some p → all_pass is_name_byte (string_bytes p.name) ≡ true
  function_named k p e =
      let f = function_of k p e in
      let g = get_there P.functions f.0 (function_there P resolved k f.0 f.1) in
      ap (all_pass is_name_byte) ((are.each k f.0 p f.1 e).named ∙ ap name_if g.1)
      ∙ named g.0.name (at_place (IsFunction P) P.functions f.0 g.0 resolved.functions g.1).name

  -- the module of a planned function is the one of its place
  pub laid_at_place : (spreads : List Spread) (w : Cores) (k : ℕ) (p : PlannedFunction) (m : Module) → slice_get plans k ≡ Some p →
      IsLaid (shape_of P spreads w (nat_eq k 0) (module_name (string_bytes p.name))) (routine_of p) m →
      IsLaid (module_shape P spreads w k) (code_at (map routine_of plans) k) m
  laid_at_place spreads w k p m e laid =
      let f = function_of k p e in
      let name : module_name (string_bytes p.name) ≡ thread_module P (slice_get (thread_functions P) k) =
      ap module_name (are.each k f.0 p f.1 e).named ∙ ap (thread_module P) (sym f.1) in
      subst (λ (c : RoutineCode). IsLaid (module_shape P spreads w k) c m)
      (sym (code_listed (map routine_of plans) k (routine_of p) (get_mapped routine_of plans k p e)))
      (subst (λ n. IsLaid (shape_of P spreads w (nat_eq k 0) n) (routine_of p) m) name laid)

  pub as_many : length (map routine_of plans) ≡ length (thread_functions P)
  as_many = length-map plans routine_of ∙ are.count

-- ---- bodies

low_bit : (b : Bool) → bit_of b ≤ 1
low_bit true = omega arith
low_bit false = omega arith

other_name : (P : Program) (o : Option ℕ) → is_clk (thread_module P o) ≡ false
other_name P None = refl
other_name P (Some f) = refl

module _ (P : Program) (resolved : IsResolved P) (limits : first_passed P ≡ None) (spreads : List Spread) (w : Cores) (cores : AreCoresOf P spreads w) where
  -- the code without stages
  idle_served : (main : Bool) (name : List ℕ) → IsServed (shape_of P spreads w main name) no_code.code no_code.plan
  idle_served main name = record {
    argument = λ other x e. absurd (none-some x e);
    spreads = right_spreads P resolved limits w.threads spreads w.banks cores.banked;
    arrays = λ a array e. absurd (none-some array e);
    registers = λ l k x b p o e planned listed kept. absurd (none-some (stage.Run b) e);
    site_low = (let some : 1 ≤ 16 = omega arith in some);
    site_high = (let few : 16 ≤ 64 = omega arith in few);
    prints = λ l site next values e. absurd (none-some (stage.Act (Print site values) next) e);
    leads = λ l a next e other. absurd (none-some (stage.Act a next) e);
    typed = λ l a next call e asks j v listed. absurd (none-some (stage.Act a next) e);
  }

  module _ (made : List RoutineCode) (count : length made ≡ length (thread_functions P))
      (right : (k f : ℕ) (c : RoutineCode) → slice_get (thread_functions P) k ≡ Some f → slice_get made k ≡ Some c → IsRoutine P f c)
      (modules : List Module) (laid : AreLaid P spreads w made (length (thread_functions P) + bit_of (has_idle P)) modules) where
    abbrev function_at : ℕ → Option ℕ
    function_at k = slice_get (thread_functions P) k

    -- module k is a body where its code is served
    body_at : (k : ℕ) → k < length modules → IsServed (module_shape P spreads w k) (code_at made k).code (code_at made k).plan →
        IsBody P spreads w (nat_eq k 0) (code_at made k) (thread_module P (function_at k)) (bodies_of P spreads w made modules k)
    body_at k l served =
        laid_are_bodies P spreads w (nat_eq k 0) (thread_module P (function_at k)) (code_at made k) (slice_index_or modules k no_module) cores (other_name P (function_at k)) served
        (laid.each k (slice_index_or modules k no_module) (slice_get-get_or modules k no_module l))

    served_at : (k f : ℕ) (c : RoutineCode) → function_at k ≡ Some f → slice_get made k ≡ Some c →
        IsServed (module_shape P spreads w k) (code_at made k).code (code_at made k).plan
    served_at k f c d e =
        subst (λ (z : RoutineCode). IsServed (module_shape P spreads w k) z.code z.plan) (sym (code_listed made k c e))
        (codes_are_served P spreads w f c resolved limits cores (right k f c d e) (nat_eq k 0) (thread_module P (function_at k)))

    within : (k : ℕ) (c : RoutineCode) → slice_get made k ≡ Some c → k < length modules
    within k c e = let l = slice_get_within made k c e in let n = laid.count in omega (arith, l, n, count)

    each_body : (k f : ℕ) (c : RoutineCode) → function_at k ≡ Some f → slice_get made k ≡ Some c →
        IsBody P spreads w (nat_eq k 0) c (function_module P f) (bodies_of P spreads w made modules k)
    each_body k f c d e =
        subst (λ (z : RoutineCode). IsBody P spreads w (nat_eq k 0) z (function_module P f) (bodies_of P spreads w made modules k)) (code_listed made k c e)
        (subst (λ n. IsBody P spreads w (nat_eq k 0) (code_at made k) n (bodies_of P spreads w made modules k)) (ap (thread_module P) d)
        (body_at k (within k c e) (served_at k f c d e)))

    idle_body : has_idle P ≡ true → IsBody P spreads w false no_code (codes "idle") (bodies_of P spreads w made modules (length made))
    idle_body idle =
        let k = length made in
        let past : function_at k ≡ None = slice_get_past (thread_functions P) k (omega (arith, count)) in
        let later : nat_eq k 0 ≡ false = ap (λ n. nat_eq n 0) count ∙ eqb-suc-zero (length (routines P)) in
        let inside : k < length modules = (let n = laid.count in let one : bit_of (has_idle P) ≡ 1 = ap bit_of idle in omega (arith, n, one, count)) in
        let served = subst (λ (z : RoutineCode). IsServed (module_shape P spreads w k) z.code z.plan) (sym (code_past made)) (idle_served (nat_eq k 0) (thread_module P (function_at k))) in
        subst (λ main. IsBody P spreads w main no_code (codes "idle") (bodies_of P spreads w made modules k)) later
        (subst (λ n. IsBody P spreads w (nat_eq k 0) no_code n (bodies_of P spreads w made modules k)) (ap (thread_module P) past)
        (subst (λ (z : RoutineCode). IsBody P spreads w (nat_eq k 0) z (thread_module P (function_at k)) (bodies_of P spreads w made modules k)) (code_past made)
        (body_at k inside served)))

    -- nothing in a module is called by a reserved word
    free_at : (k : ℕ) (m : Module) → slice_get modules k ≡ Some m → IsServed (module_shape P spreads w k) (code_at made k).code (code_at made k).plan → IsFreelyNamed m
    free_at k m e served =
        let own = laid.each k m e in
        let routine = own.routine (other_name P (function_at k)) served in
        routine_free (module_shape P spreads w k) m (subst IsFree (sym routine.named) (thread_name_free P (function_at k))) routine.stands.alone (own.leaf served)

    each_free : (k : ℕ) (m : Module) → slice_get modules k ≡ Some m → IsFreelyNamed m
    each_free k m e =
        ⊎_elim
        (λ (h : k < length (thread_functions P)).
        let f = get_there (thread_functions P) k h in
        let c = get_there made k (omega (arith, h, count)) in
        free_at k m e (served_at k f.0 c.0 f.1 c.1))
        (λ (h : length (thread_functions P) ≤ k).
        let l = slice_get_within modules k m e in
        let n = laid.count in
        let low = low_bit (has_idle P) in
        let at : length made ≡ k = omega (arith, h, l, n, low, count) in
        free_at k m e
        (subst (λ (z : RoutineCode). IsServed (module_shape P spreads w k) z.code z.plan) (sym (ap (code_at made) (sym at) ∙ code_past made))
        (idle_served (nat_eq k 0) (thread_module P (function_at k)))))
        (cases_lt k (length (thread_functions P)))

    pub all_bodies : AreBodies P spreads w made (bodies_of P spreads w made modules) modules
    all_bodies = record {
      count = count;
      thread_codes = right;
      total = laid.count ∙ ap (λ n. n + bit_of (has_idle P)) (sym count);
      listed = λ k m e. sym (get_or_from_slice_get modules k m no_module e);
      each = each_body;
      idle = idle_body;
      main =
          (let c = get_there made 0 (omega (arith, count)) in
          laid_main_stays P spreads w (thread_module P (function_at 0)) (code_at made 0) (slice_index_or modules 0 no_module) cores (served_at 0 P.main c.0 refl c.1)
          (laid.each 0 (slice_index_or modules 0 no_module) (slice_get-get_or modules 0 no_module (within 0 c.0 c.1))));
      free = each_free;
    }

-- the modules of planned functions, and one for threads without a function
pub finished : (P : Program) → IsResolved P → first_passed P ≡ None → (spreads : List Spread) (w : Cores) → AreCoresOf P spreads w → (plans : List PlannedFunction) →
    ArePlanned P plans → PlannedAreRoutines → (modules : List Module) →
    AreLaid P spreads w (map routine_of plans) (length (thread_functions P) + bit_of (has_idle P)) modules →
    AreBodies P spreads w (map routine_of plans) (bodies_of P spreads w (map routine_of plans) modules) modules
finished P resolved limits spreads w cores plans are right modules laid =
    all_bodies P resolved limits spreads w cores (map routine_of plans) (as_many P resolved plans are) (right P plans are) modules laid
