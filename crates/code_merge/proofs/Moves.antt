-- Moves after moves, with the globals that they leave.
use Rattle.std.proofs.Common.{◌≡◌, ℕ, zero, suc, ◌+◌, List, [], ◌∷◌, ◌++◌, ℤ, Option, Some, None, refl, sym, ap, ◌∙◌, subst, ⊎_elim, arith, append-nil, append_assoc}
use Rattle.std.specs.Prelude.{◌⊎◌}
use Rattle.c_program.specs.Tree.{Program}
use Rattle.thread_semantics.specs.Memory.{Location}
use Rattle.thread_semantics.specs.State.{Frame}
use Rattle.thread_semantics.specs.Move.{Move, Moves, Acts, Ends, Faults, Impossible, Write, move}
use Rattle.thread_semantics.specs.Step.{written_to}
use Rattle.block_ir.specs.declared.block.Operation.{Operation}
use Rattle.block_ir.specs.declared.block.Operation.TheVariants.{Unary, Binary, ReadGlobal, WriteGlobal, ReadArray, WriteArray}
use Rattle.block_ir.specs.declared.block.Block.{Block}
use Rattle.block_ir.specs.declared.code.Act.{Act}
use Rattle.block_ir.specs.Run.{Cells, Access, with_cell, Running, operation_run, operations_run, started, block_run}
use Rattle.block_ir.specs.Run as run
use Rattle.code_blocks.proofs.Cells.{element_with, cell_same, cell_other}
use Rattle.code_following.specs.Following.{reads_of, write_of, AfterMove, AfterMoves, HoldGlobals, IsAct}

-- ---- cells after accesses

abbrev pub cells_after : Cells → List Access → Cells
cells_after cells [] = cells
cells_after cells (run.Read x i ∷ more) = cells_after cells more
cells_after cells (run.Write x i v ∷ more) = cells_after (with_cell x i v cells) more

pub cells_both : (cells : Cells) (made more : List Access) → cells_after cells (made ++ more) ≡ cells_after (cells_after cells made) more
cells_both cells [] more = refl
cells_both cells (run.Read x i ∷ made) more = cells_both cells made more
cells_both cells (run.Write x i v ∷ made) more = cells_both (with_cell x i v cells) made more

pub cells_reads : (cells : Cells) (reads : List Location) (more : List Access) → cells_after cells (reads_of reads ++ more) ≡ cells_after cells more
cells_reads cells [] more = refl
cells_reads cells (l ∷ ls) more = cells_reads cells ls more

-- a run's globals are what its accesses leave
module _ (variables : ℕ → ℤ) (cells : Cells) where
  one_kept : (o : Operation) (r : Running) → r.globals ≡ cells_after cells r.accesses →
      (operation_run variables o r).globals ≡ cells_after cells (operation_run variables o r).accesses
  one_kept (Unary operator ty a) r h = h
  one_kept (Binary operator ty a b) r h = h
  one_kept (ReadGlobal x n i) r h = h ∙ sym (cells_both cells r.accesses _)
  one_kept (WriteGlobal x n i a) r h = ap (with_cell x _ _) h ∙ sym (cells_both cells r.accesses _)
  one_kept (ReadArray x n i) r h = h
  one_kept (WriteArray x n i a) r h = h

  all_kept : (os : List Operation) (r : Running) → r.globals ≡ cells_after cells r.accesses →
      (operations_run variables os r).globals ≡ cells_after cells (operations_run variables os r).accesses
  all_kept [] r h = h
  all_kept (o ∷ os) r h = all_kept os (operation_run variables o r) (one_kept o r h)

  pub block_kept : (b : Block) (arrays : Cells) → (block_run b variables arrays cells).globals ≡ cells_after cells (block_run b variables arrays cells).accesses
  unfolding block_run
  block_kept b arrays = all_kept b.operations (started arrays cells) refl

-- ---- a write to the globals

hold_write : (globals : List (List ℤ)) (cells : Cells) (w : Option Write) → HoldGlobals globals cells → HoldGlobals (written_to globals w) (cells_after cells (write_of w))
hold_write globals cells None h = h
hold_write globals cells (Some w) h = λ y i v e.
    ⊎_elim
    (λ p. cell_same w.place.variable w.place.index w.value cells y i p.0 p.1 ∙ sym p.2)
    (λ p. cell_other w.place.variable w.place.index w.value cells y i p.0 ∙ h y i v p.1)
    (element_with globals w.place.variable w.place.index w.value y i v e)

hold_after : (globals : List (List ℤ)) (cells : Cells) (reads : List Location) (w : Option Write) → HoldGlobals globals cells →
    HoldGlobals (written_to globals w) (cells_after cells (reads_of reads ++ write_of w))
hold_after globals cells reads w h = subst (HoldGlobals (written_to globals w)) (sym (cells_reads cells reads (write_of w))) (hold_write globals cells w h)

-- ---- moves

abbrev pub AfterOne : Type 1
AfterOne = List Frame → List (List ℤ) → List Access → Type 0

after_one : (m : Move) (globals : List (List ℤ)) (N Q : AfterOne) →
    ((next : List Frame) (reads : List Location) (write : Option Write) →
    N next (written_to globals write) (reads_of reads ++ write_of write) → Q next (written_to globals write) (reads_of reads ++ write_of write)) →
    AfterMove m globals N → AfterMove m globals Q
after_one (Moves next reads write) globals N Q go h = go next reads write h
after_one (Acts offset act operands after) globals N Q go h = h
after_one (Ends offset reads) globals N Q go h = h
after_one (Faults offset cause) globals N Q go h = tt
after_one Impossible globals N Q go h = tt

module _ (P : Program) where
  -- n moves, and then k
  pub after_both : (n k : ℕ) (frames : List Frame) (globals : List (List ℤ)) (cells : Cells) (made : List Access) (N Q : List Frame → List Access → Type 0) →
      HoldGlobals globals cells →
      AfterMoves P n frames globals made N →
      ((next : List Frame) (left : List (List ℤ)) (more : List Access) → N next (made ++ more) → HoldGlobals left (cells_after cells more) →
      AfterMoves P k next left (made ++ more) Q) →
      AfterMoves P (n + k) frames globals made Q
  after_both zero k frames globals cells made N Q hold h go =
      subst (λ c. AfterMoves P c frames globals made Q) (let e : k ≡ 0 + k = omega arith in e)
      (subst (λ m. AfterMoves P k frames globals m Q) (append-nil made) (go frames globals [] (subst (N frames) (sym (append-nil made)) h) hold))
  after_both (suc n) k frames globals cells made N Q hold h go =
      subst (λ c. AfterMoves P c frames globals made Q) (let e : suc (n + k) ≡ suc n + k = omega arith in e)
      (after_one (move P globals frames) globals (λ next after more. AfterMoves P n next after (made ++ more) N)
      (λ next after more. AfterMoves P (n + k) next after (made ++ more) Q)
      (λ next reads write g.
      after_both n k next (written_to globals write) (cells_after cells (reads_of reads ++ write_of write)) (made ++ (reads_of reads ++ write_of write)) N Q
      (hold_after globals cells reads write hold) g
      (λ last left more is held.
      subst (λ m. AfterMoves P k last left m Q) (sym (append_assoc made (reads_of reads ++ write_of write) more))
      (go last left ((reads_of reads ++ write_of write) ++ more) (subst (N last) (append_assoc made (reads_of reads ++ write_of write) more) is)
      (subst (HoldGlobals left) (sym (cells_both cells (reads_of reads ++ write_of write) more)) held))))
      h)

  -- accesses made before
  pub after_more : (n : ℕ) (frames : List Frame) (globals : List (List ℤ)) (before made : List Access) (N Q : List Frame → List Access → Type 0) →
      ((next : List Frame) (all : List Access) → N next all → Q next (before ++ all)) → AfterMoves P n frames globals made N → AfterMoves P n frames globals (before ++ made) Q
  after_more zero frames globals before made N Q go h = go frames made h
  after_more (suc n) frames globals before made N Q go h =
      after_one (move P globals frames) globals (λ next after more. AfterMoves P n next after (made ++ more) N)
      (λ next after more. AfterMoves P n next after ((before ++ made) ++ more) Q)
      (λ next reads write g.
      subst (λ m. AfterMoves P n next (written_to globals write) m Q) (sym (append_assoc before made (reads_of reads ++ write_of write)))
      (after_more n next (written_to globals write) before (made ++ (reads_of reads ++ write_of write)) N Q go g))
      h

  pub after_so : (n : ℕ) (frames : List Frame) (globals : List (List ℤ)) (made : List Access) (N Q : List Frame → List Access → Type 0) →
      ((next : List Frame) (all : List Access) → N next all → Q next all) → AfterMoves P n frames globals made N → AfterMoves P n frames globals made Q
  after_so n frames globals made N Q go h = after_more n frames globals [] made N Q go h

  pub is_act_so : (variables : ℕ → ℤ) (a : Act) (m : Move) (N Q : List Frame → Type 0) → ((fs : List Frame) → N fs → Q fs) → IsAct P variables a m N → IsAct P variables a m Q
  is_act_so variables a (Moves frames reads write) N Q go h = h
  is_act_so variables a (Acts offset act operands frames) N Q go h = (h.0, go frames h.1)
  is_act_so variables a (Ends offset reads) N Q go h = h
  is_act_so variables a (Faults offset cause) N Q go h = h
  is_act_so variables a Impossible N Q go h = h
