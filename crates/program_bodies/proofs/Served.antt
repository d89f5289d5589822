-- The typed code of a thread function, by a right plan, is served beside a program's cores: its arrays fit, its globals have few banks, it has registers
-- enough, its acts lead to stages, and the printer can print its printfs.
use Rattle.std.proofs.Common.{◌≡◌, ℕ, zero, suc, ◌<◌, ◌≤◌, ◌^◌, Bool, true, false, List, [], ◌∷◌, length, map, Option, Some, None, refl, sym, ap, ◌∙◌, subst, arith}
use Rattle.std.specs.Prelude.{slice_get}
use Rattle.std.specs.List.{AllByRecursion}
use Rattle.std.proofs.lemmas.List.{length-map}
use Rattle.std.proofs.lemmas.Option.{none-some, same_Some, slice_get_within}
use Rattle.hls_ints.specs.Types.{IntegerType}
use Rattle.c_program.specs.declared.tree.LocalVariable.{LocalVariable}
use Rattle.c_program.specs.Tree.{Piece, Program}
use Rattle.c_program.specs.Limits.{greatest, longest_local}
use Rattle.c_program.specs.Resolved.{IsFunction, IsResolved}
use Rattle.c_limits.specs.Counts.{first_passed}
use Rattle.c_limits.proofs.Within.{within_limits}
use Rattle.block_ir.specs.declared.block.Operation.{Operation}
use Rattle.block_ir.specs.declared.block.Block.{Block}
use Rattle.block_ir.specs.Asked.{Request as Call, request_of}
use Rattle.block_ir.specs.declared.code.Act.{Act}
use Rattle.block_ir.specs.declared.code.Act.TheVariants.{Print, Create, Join, MutexInit, MutexLock, MutexUnlock, MutexDestroy, BarrierInit, BarrierWait, BarrierDestroy, Return}
use Rattle.block_ir.specs.declared.code.ActOperand.{ActOperand}
use Rattle.block_ir.specs.declared.code.ActOperand.TheVariants.{Constant, Variable}
use Rattle.block_ir.specs.declared.code.Array.{Array}
use Rattle.block_ir.specs.declared.code.Stage.TheVariants as stage
use Rattle.block_ir.specs.declared.code.ThreadCode.{ThreadCode}
use Rattle.block_ir.specs.declared.plan.BlockPlan.{BlockPlan}
use Rattle.block_ir.specs.declared.plan.StagePlan.TheVariants as planned
use Rattle.plan_blocks.specs.View.{register_at}
use Rattle.code_following.specs.Following.{print_formats}
use Rattle.code_following.specs.Typed.{types_of, IsTypedValue, IsTypedNumber, IsTypedCode, BeginsWith}
use Rattle.plan_conditions.specs.Right.{IsRight}
use Rattle.plan_conditions.proofs.Stages.{right_plans_are_there}
use Rattle.block_refine.specs.Routines.{RoutineCode}
use Rattle.law_net.specs.Plans.{IsRoutine}
use Rattle.bank_partition.specs.declared.banks.Spread.{Spread}
use Rattle.core_family.specs.declared.cores.Cores.{Cores}
use Rattle.law_net.specs.Built.{part_of}
use Rattle.fsm_datapath.specs.Fields.{IsTypedActOperand}
use Rattle.fsm_datapath.specs.Acts.{IsTypedArgument}
use Rattle.fsm_datapath.specs.Thread.{IsPrintable, IsServed}
use Rattle.law_net.specs.Cores.{AreCoresOf}
use Rattle.program_bodies.specs.Bodies.{served_by, shape_of, CodesAreServed}
use Rattle.program_bodies.proofs.Spreads.{right_spreads}

-- ---- arrays

pub at_place : {A : Type 0} (Is : A → Type 0) (xs : List A) (n : ℕ) (x : A) → AllByRecursion Is xs → slice_get xs n ≡ Some x → Is x
at_place Is [] n x all e = absurd (none-some x e)
at_place Is (y ∷ ys) zero x all e = subst Is (same_Some y x e) all.0
at_place Is (y ∷ ys) (suc n) x all e = at_place Is ys n x all.1 e

below_greatest : {A : Type 0} (f : A → ℕ) (xs : List A) (n : ℕ) (x : A) → slice_get xs n ≡ Some x → f x ≤ greatest f xs
below_greatest f [] n x e = absurd (none-some x e)
below_greatest f (y ∷ ys) zero x e = subst (λ z. f z ≤ greatest f (y ∷ ys)) (same_Some y x e) (omega arith)
below_greatest f (y ∷ ys) (suc n) x e = let rest = below_greatest f ys n x e in omega arith

arrays_fit : (P : Program) (f : ℕ) (code : ThreadCode) → IsResolved P → IsTypedCode P f code → first_passed P ≡ None → (a : ℕ) (array : Array) → slice_get code.arrays a ≡ Some array →
    (1 ≤ array.length) × (array.length < 2 ^ 31)
arrays_fit P f code resolved typed limits a array e =
    let local = typed.arrays a array e in
    let whole = (within_limits P limits).arrays in
    let long = below_greatest longest_local P.functions local.number local.function local.found in
    let own = below_greatest (λ (l : LocalVariable). l.length) local.function.locals local.place local.variable local.declared_ in
    let function = at_place (IsFunction P) P.functions local.number local.function resolved.functions local.found in
    let some = at_place (λ (l : LocalVariable). 0 < l.length) local.function.locals local.place local.variable function.lengths local.declared_ in
    let same = local.long in
    (omega (arith, some, same), omega (arith, whole, long, own, same))

-- ---- operands

module _ (P : Program) (code : ThreadCode) where
  value_typed : (v : ActOperand) → IsTypedValue (types_of P code) v → IsTypedActOperand code v
  value_typed (Constant ty v) h = h
  value_typed (Variable x ty) h = h

  number_typed : (count : ℕ) (v : ActOperand) → IsTypedNumber (types_of P code) count v → IsTypedActOperand code v
  number_typed count (Constant ty v) h = h.0
  number_typed count (Variable x ty) h = h

  values_typed : (vs : List ActOperand) (j : ℕ) (v : ActOperand) → AllByRecursion (IsTypedValue (types_of P code)) vs → slice_get vs j ≡ Some v → IsTypedActOperand code v
  values_typed [] j v all e = absurd (none-some v e)
  values_typed (x ∷ vs) zero v all e = subst (IsTypedActOperand code) (same_Some x v e) (value_typed x all.0)
  values_typed (x ∷ vs) (suc j) v all e = values_typed vs j v all.1 e

  one_typed : (o : ActOperand) (j : ℕ) (v : ActOperand) → IsTypedActOperand code o → slice_get (o ∷ []) j ≡ Some v → IsTypedActOperand code v
  one_typed o zero v h e = subst (IsTypedActOperand code) (same_Some o v e) h
  one_typed o (suc j) v h e = absurd (none-some v e)

  two_typed : (o q : ActOperand) (j : ℕ) (v : ActOperand) → IsTypedActOperand code o → IsTypedActOperand code q → slice_get (o ∷ q ∷ []) j ≡ Some v → IsTypedActOperand code v
  two_typed o q zero v h i e = subst (IsTypedActOperand code) (same_Some o v e) h
  two_typed o q (suc j) v h i e = one_typed q j v i e

-- ---- all of it

module _ (P : Program) (resolved : IsResolved P) (limits : first_passed P ≡ None) (spreads : List Spread) (w : Cores) (cores : AreCoresOf P spreads w) (f : ℕ) (c : RoutineCode)
    (is : IsRoutine P f c) where
  typed : IsTypedCode P f c.code
  typed = is.code.typed

  few_formats : length (print_formats P) < 2 ^ 16
  few_formats =
      let long = length-map (print_formats P) (λ (format : List Piece). map part_of format) in
      let same = ap length cores.printer.sites in
      let few = cores.modules.printer.few_sites in
      omega (arith, long, same, few)

  enough : (l k x : ℕ) (b : Block) (p : BlockPlan) (o : Operation) → slice_get c.code.stages l ≡ Some (stage.Run b) → slice_get c.plan.stages l ≡ Some (planned.Run p) →
      slice_get b.operations k ≡ Some o → register_at p.registers k ≡ Some x → x < c.plan.registers
  enough l k x b p o at planned_so listed kept =
      let q = right_plans_are_there c.code c.plan is.plan l b at (typed.stages l (stage.Run b) at).few in
      let same : q.0 ≡ p = (let both : Some (planned.Run q.0) ≡ Some (planned.Run p) = sym q.1 ∙ planned_so in cc) in
      let right : IsRight c.plan.registers b p = subst (λ (z : BlockPlan). IsRight c.plan.registers b z) same q.2 in
      right.below k x (slice_get_within b.operations k o listed) kept

  printable : (l site next : ℕ) (values : List ActOperand) → slice_get c.code.stages l ≡ Some (stage.Act (Print site values) next) →
      IsPrintable (served_by w).printer site values
  printable l site next values at =
      let h = typed.stages l (stage.Act (Print site values) next) at in
      record {
        site_fits = (let inside = slice_get_within (print_formats P) site h.0.format h.0.listed in let few = few_formats in omega (arith, inside, few));
        few = (let n = h.0.few in let four = cores.values in omega (arith, n, four));
      }

  leads : (l : ℕ) (a : Act) (next : ℕ) → slice_get c.code.stages l ≡ Some (stage.Act a next) → (a ≡ Return → ⊥) → next ≤ length c.code.stages
  leads l (Print site values) next at other = let n = (typed.stages l (stage.Act (Print site values) next) at).1 in omega (arith, n)
  leads l (Create thread argument) next at other = let n = (typed.stages l (stage.Act (Create thread argument) next) at).1 in omega (arith, n)
  leads l (Join thread) next at other = let n = (typed.stages l (stage.Act (Join thread) next) at).1 in omega (arith, n)
  leads l (MutexInit mutex) next at other = let n = (typed.stages l (stage.Act (MutexInit mutex) next) at).1 in omega (arith, n)
  leads l (MutexLock mutex) next at other = let n = (typed.stages l (stage.Act (MutexLock mutex) next) at).1 in omega (arith, n)
  leads l (MutexUnlock mutex) next at other = let n = (typed.stages l (stage.Act (MutexUnlock mutex) next) at).1 in omega (arith, n)
  leads l (MutexDestroy mutex) next at other = let n = (typed.stages l (stage.Act (MutexDestroy mutex) next) at).1 in omega (arith, n)
  leads l (BarrierInit barrier count) next at other = let n = (typed.stages l (stage.Act (BarrierInit barrier count) next) at).1 in omega (arith, n)
  leads l (BarrierWait barrier) next at other = let n = (typed.stages l (stage.Act (BarrierWait barrier) next) at).1 in omega (arith, n)
  leads l (BarrierDestroy barrier) next at other = let n = (typed.stages l (stage.Act (BarrierDestroy barrier) next) at).1 in omega (arith, n)
  leads l Return next at other = absurd (other refl)

  -- the operands of a call are those of the act
  of_call : (ops : List ActOperand) (call : Call) (j : ℕ) (v : ActOperand) → ops ≡ call.operands → slice_get call.operands j ≡ Some v → slice_get ops j ≡ Some v
  of_call ops call j v same e = ap (λ (l : List ActOperand). slice_get l j) same ∙ e

  operands_typed : (main : Bool) (l : ℕ) (a : Act) (next : ℕ) (call : Call) → slice_get c.code.stages l ≡ Some (stage.Act a next) → request_of main a ≡ Some call →
      (j : ℕ) (v : ActOperand) → slice_get call.operands j ≡ Some v → IsTypedActOperand c.code v
  operands_typed main l (Print site values) next call at r j v e =
      values_typed P c.code values j v (typed.stages l (stage.Act (Print site values) next) at).0.typed (of_call values call j v (let same : values ≡ call.operands = cc in same) e)
  operands_typed main l (Create thread argument) next call at r j v e =
      let h = (typed.stages l (stage.Act (Create thread argument) next) at).0 in
      two_typed P c.code thread argument j v (number_typed P c.code _ thread h.0) (value_typed P c.code argument h.1)
      (of_call (thread ∷ argument ∷ []) call j v (let same : thread ∷ argument ∷ [] ≡ call.operands = cc in same) e)
  operands_typed main l (Join thread) next call at r j v e =
      one_typed P c.code thread j v (number_typed P c.code _ thread (typed.stages l (stage.Act (Join thread) next) at).0)
      (of_call (thread ∷ []) call j v (let same : thread ∷ [] ≡ call.operands = cc in same) e)
  operands_typed main l (MutexInit mutex) next call at r j v e =
      one_typed P c.code mutex j v (number_typed P c.code _ mutex (typed.stages l (stage.Act (MutexInit mutex) next) at).0)
      (of_call (mutex ∷ []) call j v (let same : mutex ∷ [] ≡ call.operands = cc in same) e)
  operands_typed main l (MutexLock mutex) next call at r j v e =
      one_typed P c.code mutex j v (number_typed P c.code _ mutex (typed.stages l (stage.Act (MutexLock mutex) next) at).0)
      (of_call (mutex ∷ []) call j v (let same : mutex ∷ [] ≡ call.operands = cc in same) e)
  operands_typed main l (MutexUnlock mutex) next call at r j v e =
      one_typed P c.code mutex j v (number_typed P c.code _ mutex (typed.stages l (stage.Act (MutexUnlock mutex) next) at).0)
      (of_call (mutex ∷ []) call j v (let same : mutex ∷ [] ≡ call.operands = cc in same) e)
  operands_typed main l (MutexDestroy mutex) next call at r j v e =
      one_typed P c.code mutex j v (number_typed P c.code _ mutex (typed.stages l (stage.Act (MutexDestroy mutex) next) at).0)
      (of_call (mutex ∷ []) call j v (let same : mutex ∷ [] ≡ call.operands = cc in same) e)
  operands_typed main l (BarrierInit barrier count) next call at r j v e =
      let h = (typed.stages l (stage.Act (BarrierInit barrier count) next) at).0 in
      two_typed P c.code barrier count j v (number_typed P c.code _ barrier h.0) (value_typed P c.code count h.1)
      (of_call (barrier ∷ count ∷ []) call j v (let same : barrier ∷ count ∷ [] ≡ call.operands = cc in same) e)
  operands_typed main l (BarrierWait barrier) next call at r j v e =
      one_typed P c.code barrier j v (number_typed P c.code _ barrier (typed.stages l (stage.Act (BarrierWait barrier) next) at).0)
      (of_call (barrier ∷ []) call j v (let same : barrier ∷ [] ≡ call.operands = cc in same) e)
  operands_typed main l (BarrierDestroy barrier) next call at r j v e =
      one_typed P c.code barrier j v (number_typed P c.code _ barrier (typed.stages l (stage.Act (BarrierDestroy barrier) next) at).0)
      (of_call (barrier ∷ []) call j v (let same : barrier ∷ [] ≡ call.operands = cc in same) e)
  operands_typed true l Return next call at r j v e = absurd (none-some call r)
  operands_typed false l Return next call at r j v e =
      absurd (none-some v (of_call [] call j v (let same : [] ≡ call.operands = cc in same) e))

  begins : (argument : Option ℕ) (types : List IntegerType) → BeginsWith P f argument types → IsTypedArgument argument types
  begins None types h x e = absurd (none-some x e)
  begins (Some y) types h x e = ap (slice_get types) (sym (same_Some y x e)) ∙ h.1

  pub is_served : (main : Bool) (name : List ℕ) → IsServed (shape_of P spreads w main name) c.code c.plan
  is_served main name = record {
    argument = λ e. begins c.code.argument c.code.variables typed.argument;
    spreads = right_spreads P resolved limits w.threads spreads w.banks cores.banked;
    arrays = arrays_fit P f c.code resolved typed limits;
    registers = enough;
    site_low = (let some : 1 ≤ 16 = omega arith in some);
    site_high = (let few : 16 ≤ 64 = omega arith in few);
    prints = printable;
    leads = leads;
    typed = operands_typed main;
  }

pub codes_are_served : CodesAreServed
codes_are_served P spreads w f c resolved limits cores is main name = is_served P resolved limits spreads w cores f c is main name
