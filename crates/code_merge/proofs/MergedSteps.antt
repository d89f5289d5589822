-- Code with two blocks in one does the steps of the thread.
use Rattle.std.proofs.Common.{◌≡◌, ◌≢◌, ℕ, zero, suc, ◌+◌, ◌^◌, ◌<◌, ◌≤◌, List, [], ◌++◌, length, ℤ, Option, Some, None, refl, sym, ap, ◌∙◌, append-nil, subst, ⊎_elim, arith}
use Rattle.std.specs.Prelude.{if◌then◌else◌, Bool, true, false, slice_get, slice_set}
use Rattle.std.proofs.lemmas.Bool.Decides.{eqb_tells}
use Rattle.std.proofs.lemmas.List.{length-set}
use Rattle.std.proofs.lemmas.Option.{slice_get_within}
use Rattle.lists.proofs.Places.{set_other, set_same}
use Rattle.hls_ints.specs.Operators.{is_zero}
use Rattle.c_program.specs.Tree.{Program}
use Rattle.thread_semantics.specs.State.{Frame}
use Rattle.thread_semantics.specs.Move.{move}
use Rattle.block_ir.specs.declared.operand.Operand.{Operand}
use Rattle.block_ir.specs.declared.block.Final.{Final}
use Rattle.block_ir.specs.declared.block.Next.{Next}
use Rattle.block_ir.specs.declared.block.Next.TheVariants.{Jump, Branch}
use Rattle.block_ir.specs.declared.block.Block.{Block}
use Rattle.block_ir.specs.declared.code.Act.{Act as CodeAct}
use Rattle.block_ir.specs.declared.code.Act.TheVariants as code
use Rattle.block_ir.specs.declared.code.Stage.{Stage}
use Rattle.block_ir.specs.declared.code.Stage.TheVariants.{Run, Act}
use Rattle.block_ir.specs.Run.{Cells, Access, Running, operand_value, leads_to, finished, block_run, variables_after, stage_after}
use Rattle.code_following.specs.Following.{AtStage, AfterMoves, HoldGlobals, DoesSteps, DoesAct, DoesStage, Follows}
use Rattle.code_merge.specs.Joined.{joined, AreLeft}
use Rattle.code_merge.specs.Maximal.{one_way, next_ways, stage_ways, ways}
use Rattle.code_merge.proofs.Ways.{one_here, two_of, moved_ways}
use Rattle.code_merge.proofs.Values.{LeftBelow, behind, first, between, second, joined_run, joined_variables, joined_stage}
use Rattle.code_merge.proofs.Moves.{cells_after, block_kept, after_both, after_more, after_so, is_act_so}
use Rattle.code_blocks.proofs.OperationRuns.{same_function}

-- ---- one block behind another

module _ (P : Program) (Next : AtStage) (b d : Block) (current : List (Option Operand)) (variables : ℕ → ℤ) (arrays : Cells) (frames : List Frame)
    (left : AreLeft current b.finals) (below : LeftBelow (length b.operations) b.finals) (few : length b.operations + length d.operations < 2 ^ 32)
    (does : DoesSteps P (λ l vs cells fs. DoesSteps P Next d vs cells fs) b variables arrays frames) where
  module _ (globals : List (List ℤ)) (cells : Cells) where
    abbrev one : Running
    one = first b d current variables arrays cells left below few

    abbrev vs : ℕ → ℤ
    vs = between b d current variables arrays cells left below few

    abbrev two : Running
    two = second b d current variables arrays cells left below few

    abbrev Comes : List Frame → List Access → Running → Type 0
    Comes after made t =
        (t.accesses ≡ made) × Next (stage_after (joined current b d) variables t) (variables_after (joined current b d) variables t) t.arrays after

    comes : (after : List Frame) (rest all : List Access) → one.accesses ≡ rest → two.accesses ≡ all → Next (stage_after d vs two) (variables_after d vs two) two.arrays after →
        Comes after (rest ++ all) (block_run (joined current b d) variables arrays cells)
    comes after rest all e f h =
        subst (Comes after (rest ++ all)) (sym (joined_run b d current variables arrays cells left below few)) (
          ap (λ l. l ++ two.accesses) e ∙ ap (λ l. rest ++ l) f,
          subst (λ (l : ℕ). Next l (variables_after (joined current b d) variables (behind one two)) two.arrays after)
              (sym (joined_stage b d current variables arrays cells left below few))
              (subst (λ (g : ℕ → ℤ). Next (stage_after d vs two) g two.arrays after) (sym (joined_variables b d current variables arrays cells left below few)) h),
        )

    joined_steps : HoldGlobals globals cells → AfterMoves P (b.steps + d.steps) frames globals []
        (λ after made. Comes after made (block_run (joined current b d) variables arrays cells))
    joined_steps hold =
        after_both P b.steps d.steps frames globals cells []
        (λ after made. (one.accesses ≡ made) × DoesSteps P Next d vs one.arrays after)
        (λ after made. Comes after made (block_run (joined current b d) variables arrays cells)) hold
        (does.steps globals cells hold)
        (λ next after rest is held.
        subst (λ m. AfterMoves P d.steps next after m (λ last made. Comes last made (block_run (joined current b d) variables arrays cells)))
        (append-nil rest)
        (after_more P d.steps next after rest [] (λ last all. (two.accesses ≡ all) × Next (stage_after d vs two) (variables_after d vs two) two.arrays last)
        (λ last made. Comes last made (block_run (joined current b d) variables arrays cells))
        (λ last all h. comes last rest all is.0 h.0 h.1)
        (is.1.steps after one.globals
        (subst (HoldGlobals after) (sym (block_kept variables cells b arrays ∙ ap (cells_after cells) is.0)) held))))

  pub joined_does : DoesSteps P Next (joined current b d) variables arrays frames
  joined_does = record { steps = λ globals cells hold. joined_steps globals cells hold }

-- ---- what comes after a stage

way_taken : (variables : ℕ → ℤ) (values : List ℤ) (nx : Next) → 0 < next_ways (leads_to variables values nx) nx
way_taken variables values (Jump l) = let h = one_here l in omega (arith, h)
way_taken variables values (Branch test nonzero zero_) = by (is_zero (operand_value variables values test))
  where
    by : (t : Bool) → 0 < one_way (if t then zero_ else nonzero) nonzero + one_way (if t then zero_ else nonzero) zero_
    by true = let h = one_here zero_ in omega (arith, h)
    by false = let h = one_here nonzero in omega (arith, h)

module _ (P : Program) (Next Other : AtStage) where
  pub steps_so : (b : Block) (variables : ℕ → ℤ) (arrays : Cells) (frames : List Frame) →
      ((k : ℕ) (vs : ℕ → ℤ) (cells : Cells) (fs : List Frame) → 0 < next_ways k b.next → Next k vs cells fs → Other k vs cells fs) →
      DoesSteps P Next b variables arrays frames → DoesSteps P Other b variables arrays frames
  steps_so b variables arrays frames go h = record {
    steps = λ globals cells hold.
        after_so P b.steps frames globals []
        (λ after made. ((block_run b variables arrays cells).accesses ≡ made)
        × Next (stage_after b variables (block_run b variables arrays cells)) (variables_after b variables (block_run b variables arrays cells))
        (block_run b variables arrays cells).arrays after)
        (λ after made. ((block_run b variables arrays cells).accesses ≡ made)
        × Other (stage_after b variables (block_run b variables arrays cells)) (variables_after b variables (block_run b variables arrays cells))
        (block_run b variables arrays cells).arrays after)
        (λ next all e. (e.0, go _ _ _ next (way_taken variables (block_run b variables arrays cells).values b.next) e.1))
        (h.steps globals cells hold);
  }

  act_so : (a : CodeAct) (next : ℕ) (variables : ℕ → ℤ) (arrays : Cells) (frames : List Frame) →
      ((fs : List Frame) → Next next variables arrays fs → Other next variables arrays fs) → DoesAct P Next a next variables arrays frames →
      DoesAct P Other a next variables arrays frames
  act_so code.Return next variables arrays frames go h = h
  act_so a next variables arrays frames go h = λ globals. is_act_so P variables a (move P globals frames) (λ after. Next next variables arrays after)
      (λ after. Other next variables arrays after) go (h globals)

  pub stage_so : (o : Option Stage) (variables : ℕ → ℤ) (arrays : Cells) (frames : List Frame) →
      ((s : Stage) → o ≡ Some s → (k : ℕ) (vs : ℕ → ℤ) (cells : Cells) (fs : List Frame) → 0 < stage_ways k s → Next k vs cells fs → Other k vs cells fs) →
      DoesStage P Next o variables arrays frames → DoesStage P Other o variables arrays frames
  stage_so None variables arrays frames go h = h
  stage_so (Some (Run b)) variables arrays frames go h = steps_so b variables arrays frames (go (Run b) refl) h
  stage_so (Some (Act a next)) variables arrays frames go h =
      act_so a next variables arrays frames (λ fs. go (Act a next) refl next variables arrays fs (let e = one_here next in omega (arith, e))) h

pub follows_less : (P : Program) (stages : List Stage) (n k : ℕ) (vs : ℕ → ℤ) (cells : Cells) (fs : List Frame) → Follows P stages (suc n) k vs cells fs →
    Follows P stages n k vs cells fs
follows_less P stages zero k vs cells fs h = tt
follows_less P stages (suc n) k vs cells fs h =
    stage_so P (Follows P stages (suc n)) (Follows P stages n) (slice_get stages k) vs cells fs (λ s e j ws ds gs w g. follows_less P stages n j ws ds gs g) h

-- ---- two blocks in one

abbrev pub double : ℕ → ℕ
double zero = zero
double (suc n) = suc (suc (double n))

module _ (P : Program) (old : List Stage) (l m : ℕ) (b d : Block) (current : List (Option Operand)) (dead : Stage) (at : slice_get old l ≡ Some (Run b)) (leads : b.next ≡ Jump m)
    (there : slice_get old m ≡ Some (Run d)) (apart : m ≢ l) (once : ways m old ≤ 1)
    (left : AreLeft current b.finals) (below : LeftBelow (length b.operations) b.finals) (few : length b.operations + length d.operations < 2 ^ 32) where
  abbrev pub new : List Stage
  new = slice_set (slice_set old m dead) l (Run (joined current b d))

  elsewhere : (k : ℕ) (s : Stage) → k ≢ l → slice_get old k ≡ Some s → (j : ℕ) → 0 < stage_ways j s → j ≢ m
  elsewhere k s off e j taken is =
      let both = two_of m old k l s (Run b) off e at in
      let one : next_ways m b.next ≡ 1 = ap (next_ways m) leads ∙ one_here m in
      let some : 0 < stage_ways m s = subst (λ i. 0 < stage_ways i s) is taken in
      omega (arith, both, one, some, once)

  new_there : slice_get new l ≡ Some (Run (joined current b d))
  new_there = set_same (slice_set old m dead) l (Run (joined current b d)) (let h = slice_get_within old l (Run b) at in let e = length-set old m dead in omega (arith, h, e))

  new_other : (k : ℕ) → k ≢ l → k ≢ m → slice_get new k ≡ slice_get old k
  new_other k off other = set_other (slice_set old m dead) l k (Run (joined current b d)) off ∙ set_other old m k dead other

  abbrev Goes : ℕ → Type 0
  Goes n = (k : ℕ) (vs : ℕ → ℤ) (cells : Cells) (fs : List Frame) → k ≢ m → Follows P old (double n) k vs cells fs → Follows P new n k vs cells fs

  at_both : (n : ℕ) → Goes n → (vs : ℕ → ℤ) (cells : Cells) (fs : List Frame) → DoesStage P (Follows P old (suc (double n))) (Some (Run b)) vs cells fs →
      DoesStage P (Follows P new n) (Some (Run (joined current b d))) vs cells fs
  at_both n again vs cells fs h =
      steps_so P (Follows P old (double n)) (Follows P new n) (joined current b d) vs cells fs
      (λ j ws ds gs taken g. again j ws ds gs (elsewhere m (Run d) apart there j (subst (λ w. 0 < w) (moved_ways current (length b.operations) j d.next) taken)) g)
      (joined_does P (Follows P old (double n)) b d current vs cells fs left below few
      (steps_so P (Follows P old (suc (double n))) (λ i ws ds gs. DoesSteps P (Follows P old (double n)) d ws ds gs) b vs cells fs
      (λ j ws ds gs taken g.
      subst (λ o. DoesStage P (Follows P old (double n)) o ws ds gs) there
      (subst (λ i. Follows P old (suc (double n)) i ws ds gs) (only j (subst (λ nx. 0 < next_ways j nx) leads taken)) g))
      h))
    where
      only : (j : ℕ) → 0 < one_way j m → j ≡ m
      only j taken = ⊎_elim (λ t. t.1) (λ t. absurd (let z = ap (λ (c : Bool). let w : ℕ = if c then 1 else 0 in w) t.0 in omega (arith, z, taken))) (eqb_tells j m)

  at_other : (n : ℕ) → Goes n → (k : ℕ) (vs : ℕ → ℤ) (cells : Cells) (fs : List Frame) → k ≢ l → DoesStage P (Follows P old (suc (double n))) (slice_get old k) vs cells fs →
      DoesStage P (Follows P new n) (slice_get old k) vs cells fs
  at_other n again k vs cells fs off h =
      stage_so P (Follows P old (suc (double n))) (Follows P new n) (slice_get old k) vs cells fs
      (λ s e j ws ds gs taken g. again j ws ds gs (elsewhere k s off e j taken) (follows_less P old (double n) j ws ds gs g)) h

  pub follows_joined : (n : ℕ) → Goes n
  follows_joined zero k vs cells fs other h = tt
  follows_joined (suc n) k vs cells fs other h =
      ⊎_elim
      (λ t. subst (λ i. Follows P new (suc n) i vs cells fs) (sym t.1)
      (subst (λ o. DoesStage P (Follows P new n) o vs cells fs) (sym new_there)
      (at_both n (follows_joined n) vs cells fs
      (subst (λ o. DoesStage P (Follows P old (suc (double n))) o vs cells fs) at (subst (λ i. Follows P old (suc (suc (double n))) i vs cells fs) t.1 h)))))
      (λ t. subst (λ o. DoesStage P (Follows P new n) o vs cells fs) (sym (new_other k t.1 other)) (at_other n (follows_joined n) k vs cells fs t.1 h))
      (eqb_tells k l)

-- ---- other finals that leave the same

module _ (P : Program) (old : List Stage) (l : ℕ) (b : Block) (finals : List Final) (at : slice_get old l ≡ Some (Run b))
    (alike : (variables : ℕ → ℤ) (values : List ℤ) (x : ℕ) → finished variables values finals variables x ≡ finished variables values b.finals variables x) where
  abbrev pub tidy : Block
  tidy = record { operations = b.operations; finals = finals; next = b.next; steps = b.steps }

  abbrev pub tidied : List Stage
  tidied = slice_set old l (Run tidy)

  same_after : (variables : ℕ → ℤ) (r : Running) → variables_after tidy variables r ≡ variables_after b variables r
  same_after variables r = same_function _ _ (λ x. alike variables r.values x)

  tidy_does : (Next : AtStage) (variables : ℕ → ℤ) (arrays : Cells) (frames : List Frame) → DoesSteps P Next b variables arrays frames →
      DoesSteps P Next tidy variables arrays frames
  unfolding block_run
  tidy_does Next variables arrays frames h = record {
    steps = λ globals cells hold.
        after_so P b.steps frames globals []
        (λ after made. ((block_run b variables arrays cells).accesses ≡ made)
        × Next (stage_after b variables (block_run b variables arrays cells)) (variables_after b variables (block_run b variables arrays cells))
        (block_run b variables arrays cells).arrays after)
        (λ after made. ((block_run tidy variables arrays cells).accesses ≡ made)
        × Next (stage_after tidy variables (block_run tidy variables arrays cells)) (variables_after tidy variables (block_run tidy variables arrays cells))
        (block_run tidy variables arrays cells).arrays after)
        (λ next all e. (
          e.0,
          subst (λ (g : ℕ → ℤ). Next (stage_after b variables (block_run b variables arrays cells)) g (block_run b variables arrays cells).arrays next)
              (sym (same_after variables (block_run b variables arrays cells))) e.1,
        ))
        (h.steps globals cells hold);
  }

  abbrev Tidies : ℕ → Type 0
  Tidies n = (k : ℕ) (vs : ℕ → ℤ) (cells : Cells) (fs : List Frame) → Follows P old n k vs cells fs → Follows P tidied n k vs cells fs

  goes : (n : ℕ) → Tidies n → (o : Option Stage) (vs : ℕ → ℤ) (cells : Cells) (fs : List Frame) → DoesStage P (Follows P old n) o vs cells fs →
      DoesStage P (Follows P tidied n) o vs cells fs
  goes n again o vs cells fs g = stage_so P (Follows P old n) (Follows P tidied n) o vs cells fs (λ s e j ws ds gs taken z. again j ws ds gs z) g

  pub follows_tidied : (n k : ℕ) (vs : ℕ → ℤ) (cells : Cells) (fs : List Frame) → Follows P old n k vs cells fs → Follows P tidied n k vs cells fs
  follows_tidied zero k vs cells fs h = tt
  follows_tidied (suc n) k vs cells fs h =
      ⊎_elim
      (λ t. subst (λ i. Follows P tidied (suc n) i vs cells fs) (sym t.1)
      (subst (λ o. DoesStage P (Follows P tidied n) o vs cells fs) (sym (set_same old l (Run tidy) (slice_get_within old l (Run b) at)))
      (tidy_does (Follows P tidied n) vs cells fs
      (subst (λ o. DoesStage P (Follows P tidied n) o vs cells fs) at (goes n (follows_tidied n) (slice_get old l) vs cells fs
      (subst (λ i. Follows P old (suc n) i vs cells fs) t.1 h))))))
      (λ t. subst (λ o. DoesStage P (Follows P tidied n) o vs cells fs) (sym (set_other old l k (Run tidy) t.1)) (goes n (follows_tidied n) (slice_get old k) vs cells fs h))
      (eqb_tells k l)
