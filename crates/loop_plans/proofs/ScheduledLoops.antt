-- The schedule of a loop of the code meets the table of its plan.
use Rattle.std.proofs.Common.{◌≡◌, ℕ, zero, suc, ◌+◌, ◌*◌, ◌<◌, ◌≤◌, Bool, true, false, not, ◌&&◌, List, [], ◌∷◌, ◌++◌, length, length-append}
use Rattle.std.proofs.Common.{slice_get}
use Rattle.std.proofs.Common.{Option, Some, None, if◌then◌else◌, nat_eq, refl, sym, ap, subst, ◌∙◌, inl, inr, ⊎_elim, arith, ℤ, pos}
use Rattle.std.specs.Prelude.{slice_index, ◌-ℤ◌}
use Rattle.std.specs.Option.{option_or}
use Rattle.std.proofs.lemmas.Bool.{cases_eq, cases_lt}
use Rattle.std.proofs.lemmas.Int.{ints}
use Rattle.lists.proofs.Places.{get_there}
use Rattle.hls_ints.specs.Types.{IntegerType}
use Rattle.schedule_sdc.specs.declared.constraint.Constraint.{Constraint}
use Rattle.schedule_sdc.specs.Solution.{Meets}
use Rattle.c_program.specs.declared.tree.BinaryOperator.{BinaryOperator}
use Rattle.c_program.specs.declared.tree.BinaryOperator.TheVariants.{Multiply as Times, Divide as Over, Remainder}
use Rattle.block_ir.specs.declared.operand.Source.{Source}
use Rattle.block_ir.specs.declared.operand.Source.TheVariants.{Constant as FromConstant, Variable as FromVariable, Value as FromValue}
use Rattle.block_ir.specs.declared.operand.Operand.{Operand as CodeOperand}
use Rattle.block_ir.specs.declared.block.Operation.{Operation as CodeOperation}
use Rattle.block_ir.specs.declared.block.Operation.TheVariants.{Unary, Binary, ReadGlobal, WriteGlobal, ReadArray, WriteArray}
use Rattle.block_ir.specs.declared.block.Final.{Final as CodeFinal}
use Rattle.block_ir.specs.declared.block.Block.{Block as CodeBlock}
use Rattle.planned_block.specs.Block.{Operand, Variable, Operation, Block, Final, operation_at, size, UsesIn, Uses, IsOrdered}
use Rattle.planned_block.specs.Plan.{is_simple as seen_simple, target_of, NoTarget, OfGlobal, OfArray}
use Rattle.planned_block.specs.Table.{latency}
use Rattle.plan_blocks.specs.View.{source_view, converted_to, operand_view, binary_kind, operation_view, finals_view, planned_view}
use Rattle.plan_blocks.proofs.ViewRuns.{size-view}
use Rattle.plan_blocks.proofs.OrderedView.{view_ordered, needs_converted}
use Rattle.op_graph.specs.declared.node.Kind.TheVariants.{Array}
use Rattle.op_graph.specs.declared.node.Node.{Node}
use Rattle.op_graph.specs.Graph.{nodes_of, kind_at, is_simple, latency_of, latency_at, Uses as UsesNode, UsesValue}
use Rattle.op_graph.specs.Table.{Row, Ends, Chained, Kept, Awaited, OneArray}
use Rattle.op_graph.specs.Listed.{row}
use Rattle.loop_plans.proofs.NodeViews.{view_at, node_at, length-nodes, simple_is, latency_is, array_is, uses_is}
use Rattle.planned_loop.specs.Loop.{Loop}
use Rattle.planned_loop.specs.Plan.{final_of, Names, IsOperand, ComesFrom, Comes}
use Rattle.planned_loop.specs.Table.{IsLoop, MeetsLoopTable}
use Rattle.planned_loop.specs.Law.{TableKeepsLoop}
use Rattle.loop_pipeline.specs.declared.table.Carried.{Carried}
use Rattle.loop_pipeline.specs.Table.{Within, Tested, Follows, Carries, Shares, MeetsLoop}
use Rattle.loop_pipeline.proofs.SplitStarts.{at_middle, at_second}
use Rattle.loop_plans.specs.Carried.{last_source, GivenBy, HandedOn, SourceNames, OperationNames, AreUses}
use Rattle.loop_plans.specs.Fits.{is_comparison, is_comparing, is_local, is_write, all_local, none_writes, FitsPipeline}
use Rattle.loop_plans.specs.Scheduled.{loop_view, IsScheduledLoop, TablesAgree, PlanKeepsLoop}
use Rattle.loop_pipeline.specs.declared.search.Pipelined.{Pipelined}
use Rattle.loop_pipeline.specs.Pipeline.{IsPipeline}
use Rattle.std.proofs.Common.{Ok, Err}
use Rattle.std.specs.Prelude.{Result, IfOk}
use Rattle.std.specs.declared.alloc.AllocError.{AllocError}
use Rattle.loop_plans.proofs.UseLists.{handed_below, get_below}

-- ---- a loop that fits, as its plan sees it

comparison_simple : (operator : BinaryOperator) (f : ℤ → ℤ → ℤ) → is_comparison operator ≡ true → seen_simple (binary_kind operator f) ≡ true
comparison_simple Times f e = absurd cc
comparison_simple Over f e = absurd cc
comparison_simple Remainder f e = absurd cc
comparison_simple _ f e = refl

compared_simple : (o : CodeOperation) → is_comparing (Some o) ≡ true → seen_simple (operation_view o).kind ≡ true
compared_simple (Unary operator ty a) e = absurd cc
compared_simple (Binary operator ty a b) e = comparison_simple operator _ e
compared_simple (ReadGlobal x n i) e = absurd cc
compared_simple (WriteGlobal x n i a) e = absurd cc
compared_simple (ReadArray x n i) e = absurd cc
compared_simple (WriteArray x n i a) e = absurd cc

compared_writes_not : (o : CodeOperation) → is_comparing (Some o) ≡ true → is_write o ≡ false
compared_writes_not (Unary operator ty a) e = refl
compared_writes_not (Binary operator ty a b) e = refl
compared_writes_not (ReadGlobal x n i) e = refl
compared_writes_not (WriteGlobal x n i a) e = absurd cc
compared_writes_not (ReadArray x n i) e = refl
compared_writes_not (WriteArray x n i a) e = absurd cc

no_target : (operator : BinaryOperator) (f : ℤ → ℤ → ℤ) → target_of (binary_kind operator f) ≡ NoTarget
no_target Times f = refl
no_target Over f = refl
no_target Remainder f = refl
no_target _ f = refl

target_writes : (o : CodeOperation) (x : ℕ) → target_of (operation_view o).kind ≡ OfArray x true → is_write o ≡ true
target_writes (Unary operator ty a) x e = absurd cc
target_writes (Binary operator ty a b) x e = let n : NoTarget ≡ OfArray x true = sym (no_target operator _) ∙ e in absurd cc
target_writes (ReadGlobal y n i) x e = absurd cc
target_writes (WriteGlobal y n i a) x e = refl
target_writes (ReadArray y n i) x e = absurd cc
target_writes (WriteArray y n i a) x e = refl

target_global : (o : CodeOperation) (x : ℕ) (w : Bool) → target_of (operation_view o).kind ≡ OfGlobal x w → is_local o ≡ false
target_global (Unary operator ty a) x w e = absurd cc
target_global (Binary operator ty a b) x w e = let n : NoTarget ≡ OfGlobal x w = sym (no_target operator _) ∙ e in absurd cc
target_global (ReadGlobal y n i) x w e = refl
target_global (WriteGlobal y n i a) x w e = refl
target_global (ReadArray y n i) x w e = absurd cc
target_global (WriteArray y n i a) x w e = absurd cc

both_true : (b c : Bool) → (b && c) ≡ true → (b ≡ true) × (c ≡ true)
both_true true c e = (refl, e)
both_true false c e = absurd cc

local_at : (os : List CodeOperation) (k : ℕ) (o : CodeOperation) → all_local os ≡ true → slice_get os k ≡ Some o → is_local o ≡ true
local_at [] k o e g = absurd cc
local_at (p ∷ os) zero o e g =
    let same : p ≡ o = cc in
    ap is_local (sym same) ∙ (both_true (is_local p) (all_local os) e).0
local_at (p ∷ os) (suc k) o e g = local_at os k o (both_true (is_local p) (all_local os) e).1 g

not_true : (b : Bool) → not b ≡ true → b ≡ false
not_true true e = absurd cc
not_true false e = refl

written_not : (n : ℕ) (os : List CodeOperation) (k : ℕ) (o : CodeOperation) → none_writes n os ≡ true → k < n → slice_get os k ≡ Some o → is_write o ≡ false
written_not zero os k o e l g = absurd (omega arith)
written_not (suc n) [] k o e l g = absurd cc
written_not (suc n) (p ∷ os) zero o e l g =
    let same : p ≡ o = cc in
    ap is_write (sym same) ∙ not_true (is_write p) (both_true (not (is_write p)) (none_writes n os) e).0
written_not (suc n) (p ∷ os) (suc k) o e l g = written_not n os k o (both_true (not (is_write p)) (none_writes n os) e).1 (omega arith) g

found_there : (o : Option CodeOperation) → is_comparing o ≡ true → (p : CodeOperation) × (o ≡ Some p) × (is_comparing (Some p) ≡ true)
found_there None e = absurd cc
found_there (Some p) e = (p, refl, e)

-- ---- the uses of earlier iterations

names_converted : (types : List IntegerType) (o : Operand) (x : ℕ) → Names (converted_to types o) x → Names o x
names_converted [] o x n = n
names_converted (ty ∷ types) o x n = names_converted types _ x n

source_named : (s : Source) (x : ℕ) → Names (source_view s) x → SourceNames s x
source_named (FromConstant ty v) x n = absurd n
source_named (FromVariable y ty) x n = n
source_named (FromValue j ty) x n = absurd n

operand_named : (a : CodeOperand) (x : ℕ) → Names (operand_view a) x → SourceNames a.source x
operand_named a x n = source_named a.source x (names_converted a.conversions (source_view a.source) x n)

names_same : (a b : Operand) (x : ℕ) → a ≡ b → Names a x → Names b x
names_same a b x e n = subst (λ (o : Operand). Names o x) e n

operation_named : (o : CodeOperation) (a : Operand) (x : ℕ) → IsOperand (operation_view o) a → Names a x → OperationNames o x
operation_named (Unary operator ty b) a x (inl e) n = operand_named b x (names_same a _ x e n)
operation_named (Unary operator ty b) a x (inr e) n = absurd (names_same a _ x e n)
operation_named (Binary operator ty b c) a x (inl e) n = inl (operand_named b x (names_same a _ x e n))
operation_named (Binary operator ty b c) a x (inr e) n = inr (operand_named c x (names_same a _ x e n))
operation_named (ReadGlobal g m b) a x (inl e) n = operand_named b x (names_same a _ x e n)
operation_named (ReadGlobal g m b) a x (inr e) n = absurd (names_same a _ x e n)
operation_named (WriteGlobal g m b c) a x (inl e) n = inl (operand_named b x (names_same a _ x e n))
operation_named (WriteGlobal g m b c) a x (inr e) n = inr (operand_named c x (names_same a _ x e n))
operation_named (ReadArray y m b) a x (inl e) n = operand_named b x (names_same a _ x e n)
operation_named (ReadArray y m b) a x (inr e) n = absurd (names_same a _ x e n)
operation_named (WriteArray y m b c) a x (inl e) n = inl (operand_named b x (names_same a _ x e n))
operation_named (WriteArray y m b c) a x (inr e) n = inr (operand_named c x (names_same a _ x e n))

-- the final of the view, and what the code's final gives before conversions
abbrev AreMatched : Option Operand → Option Source → Type 0
AreMatched None None = Unit {0}
AreMatched None (Some s) = ⊥
AreMatched (Some a) None = ⊥
AreMatched (Some a) (Some s) = (types : List IntegerType) × (a ≡ converted_to types (source_view s))

match_or : (a b : Option Operand) (s r : Option Source) → AreMatched a s → AreMatched b r → AreMatched (option_or a b) (option_or s r)
match_or None b None r m k = k
match_or None b (Some s) r m k = absurd m
match_or (Some a) b None r m k = absurd m
match_or (Some a) b (Some s) r m k = m

match_if : (b : Bool) (a : CodeOperand) → AreMatched (if b then Some (operand_view a) else None) (if b then Some a.source else None)
match_if true a = (a.conversions, refl)
match_if false a = tt

final_matched : (fs : List CodeFinal) (x : ℕ) → AreMatched (final_of (finals_view fs) x) (last_source fs x)
final_matched [] x = tt
final_matched (f ∷ fs) x =
    match_or (final_of (finals_view fs) x) (if nat_eq x f.variable then Some (operand_view f.value) else None) (last_source fs x)
    (if nat_eq x f.variable then Some f.value.source else None) (final_matched fs x) (match_if (nat_eq x f.variable) f.value)

module _ (fs : List CodeFinal) where
  abbrev fv : List Final
  fv = finals_view fs

  -- a variable that no final names comes from nowhere
  never_given : (t x i : ℕ) → final_of fv x ≡ None → Comes fv t (Variable x) i → ⊥
  never_given zero x i e c = c
  never_given (suc t) x i e c =
      never_given t x i e
      (subst (λ (o : Option Operand). ComesFrom (Comes fv t) o x i) e
      (subst (λ (y : ℕ). ComesFrom (Comes fv t) (final_of fv y) y i) (sym c.1) c.2))

  came_from : (t x i : ℕ) → ComesFrom (Comes fv t) (final_of fv x) x i → HandedOn fs (suc t) x i
  came_from zero x i c = by_final (final_of fv x) (last_source fs x) refl (final_matched fs x) c
    where
      by_source : (s : Source) → UsesIn (source_view s) i → GivenBy 0 (λ y. HandedOn fs 0 y i) (Some s) i
      by_source (FromConstant ty v) u = absurd u
      by_source (FromVariable y ty) u = absurd u
      by_source (FromValue j ty) u = (refl, u)

      by_final : (o : Option Operand) (s : Option Source) → final_of fv x ≡ o → AreMatched o s → ComesFrom (Comes fv 0) o x i →
          GivenBy 0 (λ y. HandedOn fs 0 y i) s i
      by_final None None e m d = absurd d
      by_final None (Some s) e m d = absurd m
      by_final (Some a) None e m d = absurd m
      by_final (Some a) (Some s) e m d = by_source s (needs_converted m.0 (source_view s) i (subst (λ (o : Operand). UsesIn o i) m.1 d))
  came_from (suc t) x i c = by_final (came_from t) (final_of fv x) (last_source fs x) refl (final_matched fs x) c
    where
      by_source : ((y j : ℕ) → ComesFrom (Comes fv t) (final_of fv y) y j → HandedOn fs (suc t) y j) → (s : Source) (y : ℕ) → SourceNames s y →
          ComesFrom (Comes fv t) (final_of fv y) y i → GivenBy (suc t) (λ z. HandedOn fs (suc t) z i) (Some s) i
      by_source rest (FromConstant ty v) y n d = absurd n
      by_source rest (FromVariable z ty) y n d = subst (λ (w : ℕ). HandedOn fs (suc t) w i) (sym n) (rest y i d)
      by_source rest (FromValue j ty) y n d = absurd n

      by_final : ((y j : ℕ) → ComesFrom (Comes fv t) (final_of fv y) y j → HandedOn fs (suc t) y j) → (o : Option Operand) (s : Option Source) →
          final_of fv x ≡ o →
          AreMatched o s → ComesFrom (Comes fv (suc t)) o x i → GivenBy (suc t) (λ y. HandedOn fs (suc t) y i) s i
      by_final rest None None e m d = absurd (never_given (suc t) x i e d)
      by_final rest None (Some s) e m d = absurd m
      by_final rest (Some a) None e m d = absurd m
      by_final rest (Some a) (Some s) e m d =
          by_source rest s d.0 (source_named s d.0 (names_converted m.0 (source_view s) d.0 (names_same a _ d.0 m.1 d.1))) d.2

-- ---- the table

module _ (turn : CodeBlock) (comparison : ℕ) (fits : FitsPipeline turn comparison) where
  abbrev l : Loop
  l = loop_view turn comparison

  abbrev v : Block
  v = planned_view turn

  abbrev nodes : List Node
  nodes = nodes_of turn.operations

  abbrev n : ℕ
  n = length turn.operations

  nodes_length : length nodes ≡ n
  nodes_length = length-nodes turn.operations

  size_is : size v ≡ n
  size_is = size-view turn.operations

  ordered : IsOrdered v
  ordered = view_ordered turn fits.order

  -- operation k, as the code, the schedule and the plan see it
  record Seen (k : ℕ) : Type 0 where
    o : CodeOperation
    there : slice_get turn.operations k ≡ Some o
    view : operation_at v k ≡ operation_view o
    simple : seen_simple (operation_at v k).kind ≡ is_simple (kind_at nodes k)
    lasts : latency (operation_at v k).kind ≡ latency_at nodes k
    uses : (i : ℕ) → Uses (operation_at v k) i → i < k → UsesNode nodes k i
    array : (x : ℕ) (w : Bool) → target_of (operation_at v k).kind ≡ OfArray x w → kind_at nodes k ≡ Array x w

  seen : (k : ℕ) → k < n → Seen k
  seen k lt =
      let w = get_there turn.operations k lt in
      let e = view_at turn.operations k w.0 w.1 in
      let f = node_at turn.operations k w.0 w.1 in
      record {
        o = w.0;
        there = w.1;
        view = e;
        simple = ap (λ (z : Operation). seen_simple z.kind) e ∙ (simple_is w.0 k ∙ sym (ap (λ (z : Node). is_simple z.kind) f));
        lasts = ap (λ (z : Operation). latency z.kind) e ∙ (latency_is w.0 k ∙ sym (ap (λ (z : Node). latency_of z.kind) f));
        uses = λ i u m. subst (λ (z : Node). UsesValue z i) (sym f) (uses_is w.0 k i (subst (λ (z : Operation). Uses z i) e u) m);
        array = λ x t h. ap (λ (z : Node). z.kind) f ∙ array_is w.0 k x t (sym (ap (λ (z : Operation). target_of z.kind) e) ∙ h);
      }

  compared : (p : CodeOperation) × (slice_get turn.operations comparison ≡ Some p) × (is_comparing (Some p) ≡ true)
  compared = found_there (slice_get turn.operations comparison) fits.compares

  pub compared_inside : comparison < n
  compared_inside = get_below turn.operations comparison compared.0 compared.1

  -- an operation that writes stands behind the comparison
  writes_behind : (k : ℕ) (o : CodeOperation) → slice_get turn.operations k ≡ Some o → is_write o ≡ true → comparison < k
  writes_behind k o g w = ⊎_elim
      (λ low. (let no = written_not comparison turn.operations k o fits.condition low g in absurd cc))
      (λ high. ⊎_elim
      (λ e. (let g' : slice_get turn.operations comparison ≡ Some o = subst (λ (z : ℕ). slice_get turn.operations z ≡ Some o) e g in
      let same : compared.0 ≡ o = (let both : Some compared.0 ≡ Some o = sym compared.1 ∙ g' in cc) in
      let no : is_write o ≡ false = ap is_write (sym same) ∙ compared_writes_not compared.0 compared.2 in
      absurd cc))
      (λ ne. omega (arith, high, ne))
      (cases_eq k comparison))
      (cases_lt k comparison)

  pub is_loop : IsLoop l
  is_loop = record {
    earlier = ordered.earlier;
    final = λ k f among u. ordered.final k (inl (f, among, u));
    compares = (let e = size_is in let c = compared_inside in omega (arith, e, c));
    simple = ap (λ (z : Operation). seen_simple z.kind) (view_at turn.operations comparison compared.0 compared.1) ∙ compared_simple compared.0 compared.2;
    writes = λ k x lt e.
        (let s = seen k (let z = size_is in omega (arith, z, lt)) in
        writes_behind k s.o s.there (target_writes s.o x (sym (ap (λ (z : Operation). target_of z.kind) s.view) ∙ e)));
    local = λ k x w lt e.
        (let s = seen k (let z = size_is in omega (arith, z, lt)) in
        let yes = local_at turn.operations k s.o fits.local s.there in
        let no = target_global s.o x w (sym (ap (λ (z : Operation). target_of z.kind) s.view) ∙ e) in
        absurd cc);
  }

  module _ (interval : ℕ) (carried : List Carried) (start : ℕ → ℕ) (are : AreUses turn.operations turn.finals carried)
      (meets : MeetsLoop nodes comparison carried interval start) (begins : start (n + 1) ≡ 0) where
    met_row : (i j gap : ℕ) → Row nodes (row i j gap) → start i + gap ≤ start j
    met_row i j gap r = let m : Meets start (row i j gap) = meets (row i j gap) (Within r) in omega (arith, ints, m)

    abbrev link : ℕ → ℕ → ℤ → Constraint
    link from to gap = record { from = from; to = to; gap = gap }

    follows : start comparison + 1 ≤ interval
    follows =
        let m = meets (link comparison (length nodes + 1) (pos 1 -ℤ pos interval)) (Follows refl refl refl) in
        let e : start (length nodes + 1) ≡ 0 = ap (λ (z : ℕ). start (z + 1)) nodes_length ∙ begins in
        omega (arith, ints, m, e)

    carry : (k t i : ℕ) (a : Operand) → k < size v → IsOperand (operation_at v k) a → Comes (finals_view turn.finals) (suc t) a i →
        start i + latency (operation_at v i).kind ≤ start k + suc t * interval
    carry k t i a lt operand comes =
        let z = size_is in
        let s = seen k (omega (arith, z, lt)) in
        let names = operation_named s.o a comes.0 (subst (λ (o : Operation). IsOperand o a) s.view operand) comes.1 in
        let handed = came_from turn.finals t comes.0 i comes.2 in
        let listed = are.1 (record { from = i; to = k; turns = suc t })
        (record { user = s.o; there = s.there; variable = comes.0; names = names; handed = handed }) in
        let m = meets (link i k (pos (latency_at nodes i) -ℤ pos (suc t * interval)))
        (Carries (record { from = i; to = k; turns = suc t }) listed refl refl refl) in
        let inside = handed_below n turn.finals (suc t) comes.0 i fits.order.finals handed in
        let e = (seen i inside).lasts in
        omega (arith, ints, m, e)

    pub meets_table : MeetsLoopTable l interval (start n) start
    meets_table = record {
      ends = λ k lt.
          (let z = size_is in
          let s = seen k (omega (arith, z, lt)) in
          let e = s.lasts in
          let g = met_row k n (latency_at nodes k) (Ends (let y = nodes_length in omega (arith, y, z, lt)) (sym nodes_length) refl) in
          omega (arith, e, g));
      chained = λ i j lt u x y.
          (let z = size_is in
          let before = ordered.earlier i j lt u in
          let a = seen i (omega (arith, z, lt, before)) in
          let b = seen j (omega (arith, z, lt)) in
          let g = met_row i j 0 (Chained (let w = nodes_length in omega (arith, w, z, lt)) (b.uses i u before) (sym a.simple ∙ x) (sym b.simple ∙ y) refl) in
          omega (arith, g));
      kept = λ i j lt u x y.
          (let z = size_is in
          let before = ordered.earlier i j lt u in
          let a = seen i (omega (arith, z, lt, before)) in
          let b = seen j (omega (arith, z, lt)) in
          met_row i j 1 (Kept (let w = nodes_length in omega (arith, w, z, lt)) (b.uses i u before) (sym a.simple ∙ x) (sym b.simple ∙ y) refl));
      awaited = λ i j lt u x.
          (let z = size_is in
          let before = ordered.earlier i j lt u in
          let a = seen i (omega (arith, z, lt, before)) in
          let b = seen j (omega (arith, z, lt)) in
          let e = a.lasts in
          let g = met_row i j (latency_at nodes i) (Awaited (let w = nodes_length in omega (arith, w, z, lt)) (b.uses i u before) (sym a.simple ∙ x) refl) in
          omega (arith, e, g));
      one_array = λ j k x d w less lt p q o.
          (let z = size_is in
          let a = seen j (omega (arith, z, lt, less)) in
          let b = seen k (omega (arith, z, lt)) in
          met_row j k 1 (OneArray x d w less (let y = nodes_length in omega (arith, y, z, lt)) (a.array x d p) (b.array x w q) o refl));
      tested = λ k less lt.
          (let z = size_is in
          let w = nodes_length in
          let m = meets (link comparison k (pos 1)) (Tested refl less (omega (arith, w, z, lt)) refl) in
          omega (arith, ints, m));
      follows = follows;
      carried = carry;
      shares = λ j k x d w lj lk p q o.
          (let z = size_is in
          let y = nodes_length in
          let a = seen j (omega (arith, z, lj)) in
          let b = seen k (omega (arith, z, lk)) in
          let m = meets (link j k (pos 1 -ℤ pos interval))
          (Shares x d w (omega (arith, y, z, lj)) (omega (arith, y, z, lk)) (a.array x d p) (b.array x w q) o refl) in
          omega (arith, ints, m));
    }

pub tables_agree : TablesAgree
tables_agree turn comparison interval carried start fits are meets begins = meets_table turn comparison fits interval carried start are meets begins

counted : (starts : List ℕ) (depth n : ℕ) → length (starts ++ depth ∷ 0 ∷ []) ≡ n + 2 → length starts ≡ n
counted starts depth n e = omega (arith, e, length-append starts (depth ∷ 0 ∷ []))

pub plan_keeps_loop : TableKeepsLoop → PlanKeepsLoop
plan_keeps_loop keeps turn comparison interval depth carried starts register bit fits are least =
    let c : length starts ≡ length turn.operations =
    (let a = least.count in let b = length-nodes turn.operations in counted starts depth (length turn.operations) (omega (arith, a, b))) in
    let end : slice_index (starts ++ depth ∷ 0 ∷ []) (length turn.operations) ≡ depth =
    ap (slice_index (starts ++ depth ∷ 0 ∷ [])) (sym c) ∙ at_middle starts depth (0 ∷ []) in
    let begin : slice_index (starts ++ depth ∷ 0 ∷ []) (length turn.operations + 1) ≡ 0 =
    ap (λ (z : ℕ). slice_index (starts ++ depth ∷ 0 ∷ []) (z + 1)) (sym c) ∙ at_second starts depth 0 [] in
    let table = meets_table turn comparison fits interval carried (slice_index (starts ++ depth ∷ 0 ∷ [])) are least.meets begin in
    keeps (loop_view turn comparison) interval depth (slice_index (starts ++ depth ∷ 0 ∷ [])) register bit (is_loop turn comparison fits)
    (subst (λ (d : ℕ). MeetsLoopTable (loop_view turn comparison) interval d (slice_index (starts ++ depth ∷ 0 ∷ []))) end table)

-- what is answered, over the operations of the loop
pub scheduled_result : (turn : CodeBlock) (comparison least : ℕ) (graph : List Node) (uses carried : List Carried) (r : Result Pipelined AllocError) →
    graph ≡ nodes_of turn.operations → uses ≡ carried → AreUses turn.operations turn.finals carried → IfOk r (IsPipeline graph comparison uses least) →
    IfOk r (IsScheduledLoop turn comparison least)
scheduled_result turn comparison least graph uses carried (Ok p) e f are h = (
  carried,
  are,
  subst (λ (ns : List Node). IsPipeline ns comparison carried least p) e
      (subst (λ (us : List Carried). IsPipeline graph comparison us least p) f h),
)
scheduled_result turn comparison least graph uses carried (Err x) e f are h = tt
