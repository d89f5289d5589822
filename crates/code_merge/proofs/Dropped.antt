-- What the code without its unused stages keeps.
use Rattle.std.proofs.Common.{◌≡◌, ◌≢◌, ℕ, zero, suc, ◌+◌, ◌-◌, ◌*◌, ◌<◌, ◌≤◌, ℤ, Bool, true, false, List, [], ◌∷◌, length, map, leb, lt-ltb, ltb-true, eq-eqb}
use Rattle.std.proofs.Common.{Option, Some, None, refl, sym, ap, ◌∙◌, subst, ⊎_elim, inl, inr, arith}
use Rattle.std.specs.Prelude.{◌⊎◌, ◌||◌, ◌&&◌, not, if◌then◌else◌, nat_eq, nat_lt, slice_get}
use Rattle.std.proofs.lemmas.Bool.Decides.{eqb_tells, leb_tells}
use Rattle.std.proofs.lemmas.Option.{slice_get_within}
use Rattle.lists.proofs.Places.{get_there, get_mapped, get_unmapped}
use Rattle.c_program.specs.Tree.{Program}
use Rattle.c_program.specs.Weight.{weight}
use Rattle.thread_semantics.specs.State.{Frame, started}
use Rattle.thread_semantics.specs.Move.{move}
use Rattle.hls_ints.specs.Operators.{is_zero}
use Rattle.block_ir.specs.declared.block.Operation.{Operation}
use Rattle.block_ir.specs.declared.block.Next.{Next}
use Rattle.block_ir.specs.declared.block.Next.TheVariants.{Jump, Branch}
use Rattle.block_ir.specs.declared.block.Block.{Block}
use Rattle.block_ir.specs.declared.code.Act.{Act as CodeAct}
use Rattle.block_ir.specs.declared.code.Act.TheVariants as code
use Rattle.block_ir.specs.declared.code.Stage.{Stage}
use Rattle.block_ir.specs.declared.code.Stage.TheVariants.{Run, Act}
use Rattle.block_ir.specs.declared.code.ThreadCode.{ThreadCode}
use Rattle.block_ir.specs.Run.{Cells, operand_value, leads_to, stage_after, block_run, variables_after}
use Rattle.code_following.specs.Following.{AtStage, IsAct, DoesSteps, DoesAct, DoesStage, Follows, IsLowered}
use Rattle.code_following.specs.Idle.{idle_stage, idle_count, TakesStep, LeadsOn, IsComparison, AreComparisons}
use Rattle.code_following.specs.Typed.{types_of, most_operations, Types, IsTypedNext, IsTypedStage, IsTypedCode}
use Rattle.code_merge.specs.Maximal.{next_ways, stage_ways, ways, StandApart, IsMaximalAt, IsMaximal}
use Rattle.code_merge.specs.Used.{empty, leads_to_first, is_empty, is_used, used_from, used, kept, number, next_renumbered, renumbered, used_stages, with_used}
use Rattle.code_merge.specs.declared.numbers.Numbers.{Numbers}
use Rattle.code_merge.specs.Dropping.{number_in, AreNumbers}
use Rattle.code_merge.proofs.KeptItems.{number_first, kept_get, kept_from, number_less}
use Rattle.code_merge.proofs.KeptWays.{ways_kept}
use Rattle.code_merge.proofs.Ways.{one_here, one_elsewhere, one_of}
use Rattle.code_merge.proofs.Moves.{after_so, is_act_so}

used_at : (all : List Stage) (n : ℕ) (rest : List Stage) (l : ℕ) (s : Stage) → slice_get rest l ≡ Some s → slice_get (used_from all n rest) l ≡ Some (is_used all (n + l) s)
used_at all n [] l s e = cc
used_at all n (t ∷ rest) zero s e = let h : t ≡ s = cc in let k : n ≡ n + 0 = omega arith in ap (λ z. Some (is_used all n z)) h ∙ ap (λ z. Some (is_used all z s)) k
used_at all n (t ∷ rest) (suc l) s e = used_at all (suc n) rest l s e ∙ (let k : suc n + l ≡ n + suc l = omega arith in ap (λ z. Some (is_used all z s)) k)

any_last : (a b c : Bool) → c ≡ true → (a || b || c) ≡ true
any_last true b c h = cc
any_last false true c h = cc
any_last false false c h = h

any_second : (a b c : Bool) → b ≡ true → (a || b || c) ≡ true
any_second true b c h = cc
any_second false true c h = cc
any_second false false c h = cc

all_last : (a b c d : Bool) → (a && b && c && d) ≡ true → d ≡ true
all_last true true true d h = h
all_last true true false d h = cc
all_last true false c d h = cc
all_last false b c d h = cc

first_idle : (m : ℕ) (nx : Next) → m ≢ 0 → leads_to_first nx ≡ true → next_ways m nx ≡ 0
first_idle m (Jump l) off h = ⊎_elim (λ t. one_elsewhere m l (λ e. off (e ∙ t.1))) (λ t. absurd cc) (eqb_tells l 0)
first_idle m (Branch test nonzero zero_) off h = absurd cc

empty_idle : (m : ℕ) (s : Stage) → m ≢ 0 → is_empty s ≡ true → stage_ways m s ≡ 0
empty_idle m (Run b) off h =
    first_idle m b.next off (all_last (nat_eq (length b.operations) 0) (nat_eq (length b.finals) 0) (nat_eq b.steps 1) (leads_to_first b.next) h)
empty_idle m (Act act next) off h = absurd cc

led_next : (nx : Next) (variables : ℕ → ℤ) (values : List ℤ) → 0 < next_ways (leads_to variables values nx) nx
led_next (Jump l) variables values = let h = one_here l in omega (arith, h)
led_next (Branch test nonzero zero_) variables values = by (is_zero (operand_value variables values test))
  where
    by : (z : Bool) → 0 < next_ways (if z then zero_ else nonzero) (Branch test nonzero zero_)
    by true = let h = one_here zero_ in omega (arith, h)
    by false = let h = one_here nonzero in omega (arith, h)

leads_new : (new : ℕ → ℕ) (nx : Next) (variables : ℕ → ℤ) (values : List ℤ) → leads_to variables values (next_renumbered new nx) ≡ new (leads_to variables values nx)
leads_new new (Jump l) variables values = refl
leads_new new (Branch test nonzero zero_) variables values = by (is_zero (operand_value variables values test))
  where
    by : (z : Bool) → (if z then new zero_ else new nonzero) ≡ new (if z then zero_ else nonzero)
    by true = refl
    by false = refl

next_typed : (T : Types) (n k : ℕ) (before : List Operation) (new : ℕ → ℕ) (nx : Next) → ((l : ℕ) → l < n → 0 < next_ways l nx → new l < k) →
    IsTypedNext T n before nx → IsTypedNext T k before (next_renumbered new nx)
next_typed T n k before new (Jump l) less h = less l h (let g = one_here l in omega (arith, g))
next_typed T n k before new (Branch test nonzero zero_) less h = (
  h.0,
  less nonzero h.1 (let g = one_here nonzero in omega (arith, g)),
  less zero_ h.2 (let g = one_here zero_ in omega (arith, g)),
)

all_third : (a b c d : Bool) → (a && b && c && d) ≡ true → c ≡ true
all_third true true true d h = refl
all_third true true false d h = cc
all_third true false c d h = cc
all_third false b c d h = cc

empty_busy : (s : Stage) → is_empty s ≡ true → idle_stage s ≡ 0
empty_busy (Run b) h =
    let third = all_third (nat_eq (length b.operations) 0) (nat_eq (length b.finals) 0) (nat_eq b.steps 1) (leads_to_first b.next) h in
    ⊎_elim (λ t. let one = t.1 in omega (arith, one)) (λ t. absurd (let no = t.0 in cc)) (eqb_tells b.steps 1)
empty_busy (Act act next) h = refl

idle_renumbered : (new : ℕ → ℕ) (s : Stage) → idle_stage (renumbered new s) ≡ idle_stage s
idle_renumbered new (Run b) = refl
idle_renumbered new (Act act next) = refl

-- where the others are no blocks without steps
idle_kept : (new : ℕ → ℕ) (us : List Bool) (ss : List Stage) → ((l : ℕ) (s : Stage) → slice_get ss l ≡ Some s → (slice_get us l ≡ Some true) ⊎ (idle_stage s ≡ 0)) →
    idle_count (map (renumbered new) (kept us ss)) ≡ idle_count ss
idle_kept new [] [] h = refl
idle_kept new (u ∷ us) [] h = refl
idle_kept new [] (s ∷ ss) h = let g = idle_kept new [] ss (λ l t e. h (suc l) t e) in ⊎_elim (λ u. absurd cc) (λ z. omega (arith, g, z)) (h 0 s refl)
idle_kept new (true ∷ us) (s ∷ ss) h = let g = idle_kept new us ss (λ l t e. h (suc l) t e) in let k = idle_renumbered new s in omega (arith, g, k)
idle_kept new (false ∷ us) (s ∷ ss) h = let g = idle_kept new us ss (λ l t e. h (suc l) t e) in ⊎_elim (λ u. absurd cc) (λ z. omega (arith, g, z)) (h 0 s refl)

module _ (stages : List Stage) where
  abbrev us : List Bool
  us = used stages

  abbrev new : ℕ → ℕ
  new = number us

  abbrev after : List Stage
  after = used_stages stages

  flag : (l : ℕ) (s : Stage) → slice_get stages l ≡ Some s → slice_get us l ≡ Some (is_used stages l s)
  flag l s e = used_at stages 0 stages l s e ∙ (let k : 0 + l ≡ l = omega arith in ap (λ z. Some (is_used stages z s)) k)

  -- it is used, if it is there
  abbrev IsKept : ℕ → Type 0
  IsKept l = (s : Stage) → slice_get stages l ≡ Some s → slice_get us l ≡ Some true

  first : IsKept 0
  first s e = flag 0 s e

  led : (l : ℕ) → 0 < ways l stages → IsKept l
  led l h s e = flag l s e ∙ ap Some (any_last (nat_eq l 0) (not (is_empty s)) (nat_lt 0 (ways l stages)) (lt-ltb 0 (ways l stages) h))

  led_from : (l m : ℕ) (s : Stage) → slice_get stages l ≡ Some s → 0 < stage_ways m s → IsKept m
  led_from l m s e h = led m (let g = one_of m stages l s e in omega (arith, g, h))

  -- what is not used leads to the first stage alone
  idle : (m : ℕ) → m ≢ 0 → (l : ℕ) (s : Stage) → slice_get stages l ≡ Some s → (slice_get us l ≡ Some true) ⊎ (stage_ways m s ≡ 0)
  idle m off l s e = by (is_empty s) refl
    where
      by : (b : Bool) → is_empty s ≡ b → (slice_get us l ≡ Some true) ⊎ (stage_ways m s ≡ 0)
      by true h = inr (empty_idle m s off h)
      by false h = inl (flag l s e ∙ ap Some (any_second (nat_eq l 0) (not (is_empty s)) (nat_lt 0 (ways l stages)) (ap not h)))

  more_ways : (m : ℕ) → m ≢ 0 → ways m stages ≤ ways (new m) after
  more_ways m off = ways_kept new m us stages (idle m off)

  at_new : (l : ℕ) (s : Stage) → slice_get us l ≡ Some true → slice_get stages l ≡ Some s → slice_get after (new l) ≡ Some (renumbered new s)
  at_new l s u e = get_mapped (renumbered new) (kept us stages) (new l) s (kept_get us stages l s u e)

  less_new : (l : ℕ) → l < length stages → IsKept l → new l < length after
  less_new l lt there = let g = get_there stages l lt in slice_get_within after (new l) (renumbered new g.0) (at_new l g.0 (there g.0 g.1) g.1)

  -- where a stage comes from
  from : (k : ℕ) (t : Stage) → slice_get after k ≡ Some t →
      (l : ℕ) × (s : Stage) × (slice_get us l ≡ Some true) × (slice_get stages l ≡ Some s) × (new l ≡ k) × (renumbered new s ≡ t)
  from k t e =
      let g = get_unmapped (renumbered new) (kept us stages) k t e in
      let h = kept_from us stages k g.0 g.1 in
      (h.0, g.0, h.1, h.2, h.3, g.2)

  -- ---- lowered

  module _ (P : Program) (N Q : AtStage) (go : (l : ℕ) (variables : ℕ → ℤ) (arrays : Cells) (frames : List Frame) → IsKept l → N l variables arrays frames →
      Q (new l) variables arrays frames) where
    block_does : (l : ℕ) (b : Block) (variables : ℕ → ℤ) (arrays : Cells) (frames : List Frame) → slice_get stages l ≡ Some (Run b) →
        DoesSteps P N b variables arrays frames → DoesStage P Q (Some (renumbered new (Run b))) variables arrays frames
    unfolding block_run
    block_does l b variables arrays frames e h = record {
      steps = λ globals cells hold.
          after_so P b.steps frames globals [] _ _
          (λ next made g. (
            g.0,
            subst (λ m. Q m (variables_after b variables (block_run b variables arrays cells)) (block_run b variables arrays cells).arrays next)
                (sym (leads_new new b.next variables (block_run b variables arrays cells).values))
                (go (stage_after b variables (block_run b variables arrays cells)) _ _ next
                (led_from l _ (Run b) e (led_next b.next variables (block_run b variables arrays cells).values))
                g.1),
          ))
          (h.steps globals cells hold);
    }

    act_does : (a : CodeAct) (l m : ℕ) (variables : ℕ → ℤ) (arrays : Cells) (frames : List Frame) → slice_get stages l ≡ Some (Act a m) →
        DoesAct P N a m variables arrays frames → DoesAct P Q a (new m) variables arrays frames
    act_does a l m variables arrays frames e = by a
      where
        on : (next : List Frame) → N m variables arrays next → Q (new m) variables arrays next
        on next = go m variables arrays next (led_from l m (Act a m) e (let g = one_here m in omega (arith, g)))

        so : (c : CodeAct) → ((globals : List (List ℤ)) → IsAct P variables c (move P globals frames) (λ next. N m variables arrays next)) →
            (globals : List (List ℤ)) → IsAct P variables c (move P globals frames) (λ next. Q (new m) variables arrays next)
        so c h globals = is_act_so P variables c (move P globals frames) _ _ on (h globals)

        by : (c : CodeAct) → DoesAct P N c m variables arrays frames → DoesAct P Q c (new m) variables arrays frames
        by code.Return h = h
        by (code.Print site values) h = so (code.Print site values) h
        by (code.Create thread argument) h = so (code.Create thread argument) h
        by (code.Join thread) h = so (code.Join thread) h
        by (code.MutexInit mutex) h = so (code.MutexInit mutex) h
        by (code.MutexDestroy mutex) h = so (code.MutexDestroy mutex) h
        by (code.MutexLock mutex) h = so (code.MutexLock mutex) h
        by (code.MutexUnlock mutex) h = so (code.MutexUnlock mutex) h
        by (code.BarrierInit barrier count) h = so (code.BarrierInit barrier count) h
        by (code.BarrierDestroy barrier) h = so (code.BarrierDestroy barrier) h
        by (code.BarrierWait barrier) h = so (code.BarrierWait barrier) h

    stage_does : (l : ℕ) (s : Stage) (variables : ℕ → ℤ) (arrays : Cells) (frames : List Frame) → slice_get stages l ≡ Some s →
        DoesStage P N (Some s) variables arrays frames → DoesStage P Q (Some (renumbered new s)) variables arrays frames
    stage_does l (Run b) variables arrays frames e h = block_does l b variables arrays frames e h
    stage_does l (Act a m) variables arrays frames e h = act_does a l m variables arrays frames e h

    there_does : (l : ℕ) (o : Option Stage) (variables : ℕ → ℤ) (arrays : Cells) (frames : List Frame) → IsKept l → slice_get stages l ≡ o →
        DoesStage P N o variables arrays frames → DoesStage P Q (slice_get after (new l)) variables arrays frames
    there_does l None variables arrays frames there e h = absurd h
    there_does l (Some s) variables arrays frames there e h =
        subst (λ o. DoesStage P Q o variables arrays frames) (sym (at_new l s (there s e) e)) (stage_does l s variables arrays frames e h)

  follows : (P : Program) (n l : ℕ) (variables : ℕ → ℤ) (arrays : Cells) (frames : List Frame) → IsKept l → Follows P stages n l variables arrays frames →
      Follows P after n (new l) variables arrays frames
  follows P zero l variables arrays frames there h = tt
  follows P (suc n) l variables arrays frames there h =
      there_does P (Follows P stages n) (Follows P after n) (λ m vs cells fs kept_ g. follows P n m vs cells fs kept_ g) l (slice_get stages l) variables arrays frames there refl h

  -- ---- typed

  act_typed : (T : Types) (P : Program) (most : ℕ) (a : CodeAct) (m : ℕ) → (m < length stages → new m < length after) → IsTypedStage T P (length stages) most (Act a m) →
      IsTypedStage T P (length after) most (Act a (new m))
  act_typed T P most code.Return m less h = tt
  act_typed T P most (code.Print site values) m less h = (h.0, less h.1)
  act_typed T P most (code.Create thread argument) m less h = (h.0, less h.1)
  act_typed T P most (code.Join thread) m less h = (h.0, less h.1)
  act_typed T P most (code.MutexInit mutex) m less h = (h.0, less h.1)
  act_typed T P most (code.MutexDestroy mutex) m less h = (h.0, less h.1)
  act_typed T P most (code.MutexLock mutex) m less h = (h.0, less h.1)
  act_typed T P most (code.MutexUnlock mutex) m less h = (h.0, less h.1)
  act_typed T P most (code.BarrierInit barrier count) m less h = (h.0, less h.1)
  act_typed T P most (code.BarrierDestroy barrier) m less h = (h.0, less h.1)
  act_typed T P most (code.BarrierWait barrier) m less h = (h.0, less h.1)

  stage_typed : (T : Types) (P : Program) (most l : ℕ) (s : Stage) → slice_get stages l ≡ Some s → IsTypedStage T P (length stages) most s →
      IsTypedStage T P (length after) most (renumbered new s)
  stage_typed T P most l (Run b) e h = record {
    operations = h.operations;
    few = h.few;
    size = h.size;
    finals = h.finals;
    next = next_typed T (length stages) (length after) b.operations new b.next (λ m lt way. less_new m lt (led_from l m (Run b) e way)) h.next;
  }
  stage_typed T P most l (Act a m) e h =
      act_typed T P most a m (λ lt. less_new m lt (led_from l m (Act a m) e (let g = one_here m in omega (arith, g)))) h

  -- ---- maximal

  same_number : (q m : ℕ) (s : Stage) → slice_get us q ≡ Some true → slice_get stages q ≡ Some s → IsKept m → new q ≡ new m → q ≡ m
  same_number q m s u e there same = by (leb_tells m q)
    where
      before : q < m → ⊥
      before lt = let h = number_less us q m u lt in omega (arith, h, same)

      behind : m < q → ⊥
      behind lt =
          let in_range = slice_get_within stages q s e in
          let g = get_there stages m (omega (arith, lt, in_range)) in
          let h = number_less us m q (there g.0 g.1) lt in
          omega (arith, h, same)

      by : ((leb m q ≡ true) × (m ≤ q)) ⊎ ((leb m q ≡ false) × (q < m)) → q ≡ m
      by (inl le) = ⊎_elim (λ t. t.1) (λ t. absurd (behind (let apart = t.1 in let h = le.1 in omega (arith, h, apart)))) (eqb_tells q m)
      by (inr lt) = absurd (before lt.1)

  same_run : (x y : Block) → Run x ≡ Run y → x ≡ y
  same_run x y e = cc

  -- where a block that leads to a stage comes from
  jump_from : (nx : Next) (k : ℕ) → next_renumbered new nx ≡ Jump k → (m : ℕ) × (nx ≡ Jump m) × (new m ≡ k)
  jump_from (Jump m) k e = (m, refl, cc)
  jump_from (Branch test nonzero zero_) k e = absurd cc

  new_first : (m : ℕ) → m ≡ 0 → new m ≡ 0
  new_first m e = ap new e ∙ number_first us

  maximal_at : (most l m q : ℕ) (b d : Block) → slice_get stages l ≡ Some (Run b) → slice_get us q ≡ Some true → slice_get stages q ≡ Some (Run d) →
      b.next ≡ Jump m → new q ≡ new m →
      IsMaximalAt most stages l → (new m ≡ 0) ⊎ (new m ≡ new l) ⊎ (1 < ways (new m) after) ⊎ StandApart most b d
  maximal_at most l m q b d at u there leads same was =
      let way : 0 < next_ways m b.next = (let g = ap (next_ways m) leads in let h = one_here m in omega (arith, g, h)) in
      let e = same_number q m (Run d) u there (led_from l m (Run b) at way) same in
      by (was b d m at leads (ap (slice_get stages) (sym e) ∙ there)) (eqb_tells m 0)
    where
      by : (m ≡ 0) ⊎ (m ≡ l) ⊎ (1 < ways m stages) ⊎ StandApart most b d → ((nat_eq m 0 ≡ true) × (m ≡ 0)) ⊎ ((nat_eq m 0 ≡ false) × (m ≢ 0)) →
          (new m ≡ 0) ⊎ (new m ≡ new l) ⊎ (1 < ways (new m) after) ⊎ StandApart most b d
      by h (inl t) = inl (new_first m t.1)
      by (inl h) (inr t) = inl (new_first m h)
      by (inr (inl h)) (inr t) = inr (inl (ap new h))
      by (inr (inr (inl h))) (inr t) = inr (inr (inl (let g = more_ways m t.1 in omega (arith, g, h))))
      by (inr (inr (inr h))) (inr t) = inr (inr (inr h))

  -- a block of the new code
  run_from : (k : ℕ) (b : Block) → slice_get after k ≡ Some (Run b) →
      (l : ℕ) × (c : Block) × (slice_get us l ≡ Some true) × (slice_get stages l ≡ Some (Run c)) × (new l ≡ k) × (renumbered new (Run c) ≡ Run b)
  run_from k b e = let g = from k (Run b) e in by g.0 g.1 g.2 g.3 g.4 g.5
    where
      by : (l : ℕ) (s : Stage) → slice_get us l ≡ Some true → slice_get stages l ≡ Some s → new l ≡ k → renumbered new s ≡ Run b →
          (l : ℕ) × (c : Block) × (slice_get us l ≡ Some true) × (slice_get stages l ≡ Some (Run c)) × (new l ≡ k) × (renumbered new (Run c) ≡ Run b)
      by l (Run c) u at is same = (l, c, u, at, is, same)
      by l (Act a m) u at is same = absurd cc

  abbrev block_new : Block → Block
  block_new b = record { operations = b.operations; finals = b.finals; next = next_renumbered new b.next; steps = b.steps }

  large_as : (most : ℕ) (b d x y : Block) → renumbered new (Run b) ≡ Run x → renumbered new (Run d) ≡ Run y → StandApart most b d → StandApart most x y
  large_as most b d x y e f h =
      subst (λ (z : Block). StandApart most z y) (same_run (block_new b) x e) (subst (λ (z : Block). StandApart most (block_new b) z) (same_run (block_new d) y f) h)

  maximal : (most : ℕ) → ((l : ℕ) → IsMaximalAt most stages l) → (k : ℕ) → IsMaximalAt most after k
  maximal most was k x y j at leads there =
      let b = run_from k x at in
      let d = run_from j y there in
      let jump = jump_from b.1.next j (ap (λ (z : Block). z.next) (same_run _ x b.5) ∙ leads) in
      by b.0 b.1 b.3 b.4 b.5 d.0 d.1 d.2 d.3 d.4 d.5 jump.0 jump.1 jump.2
    where
      by : (l : ℕ) (b : Block) → slice_get stages l ≡ Some (Run b) → new l ≡ k → renumbered new (Run b) ≡ Run x →
          (q : ℕ) (d : Block) → slice_get us q ≡ Some true → slice_get stages q ≡ Some (Run d) → new q ≡ j → renumbered new (Run d) ≡ Run y →
          (m : ℕ) → b.next ≡ Jump m → new m ≡ j → (j ≡ 0) ⊎ (j ≡ k) ⊎ (1 < ways j after) ⊎ StandApart most x y
      by l b from_ is same_b q d u at_ is_ same_d m leads_ same =
          subst (λ n. (n ≡ 0) ⊎ (n ≡ k) ⊎ (1 < ways n after) ⊎ StandApart most x y) same
          (subst (λ n. (new m ≡ 0) ⊎ (new m ≡ n) ⊎ (1 < ways (new m) after) ⊎ StandApart most x y) is
          (⊎_elim (λ h. inl h)
          (λ h. inr (⊎_elim (λ g. inl g) (λ g. inr (⊎_elim (λ w. inl w) (λ w. inr (large_as most b d x y same_b same_d w)) g)) h))
          (maximal_at most l m q b d from_ u at_ leads_ (is_ ∙ sym same) (was l))))

  -- ---- comparisons

  takes_led : (m : ℕ) → IsKept m → TakesStep stages m → TakesStep after (new m)
  takes_led m there takes x e = let g = run_from (new m) x e in by g.0 g.1 g.2 g.3 g.4 g.5
    where
      by : (q : ℕ) (d : Block) → slice_get us q ≡ Some true → slice_get stages q ≡ Some (Run d) → new q ≡ new m → renumbered new (Run d) ≡ Run x → 0 < x.steps
      by q d u at same is =
          let e = same_number q m (Run d) u at there same in
          let some = takes d (ap (slice_get stages) (sym e) ∙ at) in
          let steps = ap (λ (z : Block). z.steps) (same_run (block_new d) x is) in
          omega (arith, some, steps)

  leads_on : (l m : ℕ) (b : Block) → slice_get us l ≡ Some true → slice_get stages l ≡ Some (Run b) → 0 < next_ways m b.next → LeadsOn stages l m → LeadsOn after (new l) (new m)
  leads_on l m b u at way (inl lt) = inl (number_less us l m u lt)
  leads_on l m b u at way (inr takes) = inr (takes_led m (led_from l m (Run b) at way) takes)

  comparison_new : (l : ℕ) (b : Block) → slice_get us l ≡ Some true → slice_get stages l ≡ Some (Run b) → IsComparison stages l b → IsComparison after (new l) (block_new b)
  comparison_new l b u at is = record {
    one = is.one;
    test = is.test;
    nonzero = new is.nonzero;
    zero_ = new is.zero_;
    next = ap (next_renumbered new) is.next;
    on_nonzero = leads_on l is.nonzero b u at (let way = ap (next_ways is.nonzero) is.next in let h = one_here is.nonzero in omega (arith, way, h)) is.on_nonzero;
    on_zero = leads_on l is.zero_ b u at (let way = ap (next_ways is.zero_) is.next in let h = one_here is.zero_ in omega (arith, way, h)) is.on_zero;
  }

  comparisons_new : AreComparisons stages → AreComparisons after
  comparisons_new are k x e none = let g = run_from k x e in by g.0 g.1 g.2 g.3 g.4 g.5
    where
      by : (l : ℕ) (b : Block) → slice_get us l ≡ Some true → slice_get stages l ≡ Some (Run b) → new l ≡ k → renumbered new (Run b) ≡ Run x → IsComparison after k x
      by l b u at is same =
          let e = same_run (block_new b) x same in
          let steps = ap (λ (z : Block). z.steps) e in
          subst (λ n. IsComparison after n x) is
          (subst (IsComparison after (new l)) e (comparison_new l b u at (are l b at (omega (arith, steps, none)))))

  -- what is dropped takes a step
  dropped_busy : (l : ℕ) (s : Stage) → slice_get stages l ≡ Some s → (slice_get us l ≡ Some true) ⊎ (idle_stage s ≡ 0)
  dropped_busy l s e = by (is_empty s) refl
    where
      by : (b : Bool) → is_empty s ≡ b → (slice_get us l ≡ Some true) ⊎ (idle_stage s ≡ 0)
      by true h = inr (empty_busy s h)
      by false h = inl (flag l s e ∙ ap Some (any_second (nat_eq l 0) (not (is_empty s)) (nat_lt 0 (ways l stages)) (ap not h)))

  count_new : idle_count after ≡ idle_count stages
  count_new = idle_kept new us stages dropped_busy

  -- ---- tight

  none_of : {A : Type 0} (xs : List A) → xs ≡ [] → nat_eq (length xs) 0 ≡ true
  none_of xs e = rw e refl

  empty_from : (b : Block) → ((s : Stage) → slice_get stages 0 ≡ Some s → slice_get us 0 ≡ Some true) → 0 < length stages → renumbered new (Run b) ≡ empty → is_empty (Run b) ≡ true
  empty_from b there some e =
      let same = same_run (block_new b) (record { operations = []; finals = []; next = Jump 0; steps = 1 }) e in
      all_true (none_of b.operations (ap (λ (z : Block). z.operations) same)) (none_of b.finals (ap (λ (z : Block). z.finals) same))
      (eq-eqb b.steps 1 (ap (λ (z : Block). z.steps) same))
      (by b.next (ap (λ (z : Block). z.next) same))
    where
      all_true : {x y z w : Bool} → x ≡ true → y ≡ true → z ≡ true → w ≡ true → (x && y && z && w) ≡ true
      all_true ex ey ez ew = rw (ex, ey, ez, ew) refl

      by : (nx : Next) → next_renumbered new nx ≡ Jump 0 → leads_to_first nx ≡ true
      by (Jump m) h =
          let n : new m ≡ 0 = cc in
          ⊎_elim (λ t. t.0)
          (λ t. let g = get_there stages 0 some in let less = number_less us 0 m (there g.0 g.1) (let apart = t.1 in omega (arith, apart)) in absurd (omega (arith, less, n)))
          (eqb_tells m 0)
      by (Branch test nonzero zero_) h = absurd cc

  tight : (k : ℕ) → k ≢ 0 → slice_get after k ≡ Some empty → 0 < ways k after
  tight k off e = let g = run_from k _ e in by g.0 g.1 g.2 g.3 g.4 g.5
    where
      by : (l : ℕ) (b : Block) → slice_get us l ≡ Some true → slice_get stages l ≡ Some (Run b) → new l ≡ k → renumbered new (Run b) ≡ empty → 0 < ways k after
      by l b u at is same =
          let in_range = slice_get_within stages l (Run b) at in
          let none = empty_from b first (omega (arith, in_range)) same in
          let apart : l ≢ 0 = λ z. off (sym is ∙ new_first l z) in
          let f : is_used stages l (Run b) ≡ true = (let h : Some (is_used stages l (Run b)) ≡ Some true = sym (flag l (Run b) at) ∙ u in cc) in
          let way = used_led (nat_eq l 0) (is_empty (Run b)) (nat_lt 0 (ways l stages)) (⊎_elim (λ t. absurd (apart t.1)) (λ t. t.0) (eqb_tells l 0)) none f in
          let more = more_ways l apart in
          subst (λ n. 0 < ways n after) is (let h = ltb-true 0 (ways l stages) way in omega (arith, h, more))
        where
          used_led : (a b c : Bool) → a ≡ false → b ≡ true → (a || not b || c) ≡ true → c ≡ true
          used_led true b c ha hb h = cc
          used_led false false c ha hb h = cc
          used_led false true c ha hb h = h

-- ---- what the parts make

renumbered_same : (f g : ℕ → ℕ) → ((l : ℕ) → f l ≡ g l) → (s : Stage) → renumbered f s ≡ renumbered g s
renumbered_same f g same (Run b) = ap (λ (nx : Next). Run (record { operations = b.operations; finals = b.finals; next = nx; steps = b.steps })) (by b.next)
  where
    by : (nx : Next) → next_renumbered f nx ≡ next_renumbered g nx
    by (Jump l) = ap Jump (same l)
    by (Branch test nonzero zero_) = ap (λ n. Branch test n (f zero_)) (same nonzero) ∙ ap (Branch test (g nonzero)) (same zero_)
renumbered_same f g same (Act act next) = ap (Act act) (same next)

all_same : (f g : ℕ → ℕ) → ((l : ℕ) → f l ≡ g l) → (ss : List Stage) → map (renumbered f) ss ≡ map (renumbered g) ss
all_same f g same [] = refl
all_same f g same (s ∷ ss) = ap (λ z. z ∷ map (renumbered f) ss) (renumbered_same f g same s) ∙ ap (λ z. renumbered g s ∷ z) (all_same f g same ss)

pub all_used : (stages : List Stage) (us flags : List Bool) (numbers : Numbers) (new : List Stage) → us ≡ used stages → flags ≡ us → AreNumbers us numbers →
    new ≡ map (renumbered (number_in numbers)) (kept flags stages) → new ≡ used_stages stages
all_used stages us flags numbers new is flags_are are made =
    made ∙ ap (λ z. map (renumbered (number_in numbers)) (kept z stages)) flags_are ∙ all_same (number_in numbers) (number us) are (kept us stages)
    ∙ ap (λ z. map (renumbered (number z)) (kept z stages)) is

-- ---- the clauses

pub lowered_kept : (code new : ThreadCode) → new ≡ with_used code → (P : Program) (f : ℕ) → IsLowered P f code → IsLowered P f new
lowered_kept code new is P f h = rw is (λ n variables arrays arguments has.
    subst (λ l. Follows P (used_stages code.stages) n l variables arrays (started (slice_get P.functions f) f arguments)) (number_first (used code.stages))
    (follows code.stages P n 0 variables arrays _ (first code.stages) (h n variables arrays arguments has)))

pub typed_kept : (code new : ThreadCode) → new ≡ with_used code → (P : Program) (f : ℕ) → IsTypedCode P f code → IsTypedCode P f new
typed_kept code new is P f h = rw is (record {
  some = let g = less_new code.stages 0 h.some (first code.stages) in omega (arith, g);
  stages = λ k t e.
      (let g = from code.stages k t e in
      subst (λ n. IsTypedStage (types_of P code) P (length (used_stages code.stages)) (4 * weight P - 2 * n) t) (sym (count_new code.stages))
      (subst (IsTypedStage (types_of P code) P (length (used_stages code.stages)) (most_operations P code.stages)) g.5
      (stage_typed code.stages (types_of P code) P (most_operations P code.stages) g.0 g.1 g.3 (h.stages g.0 g.1 g.3))));
  comparisons = comparisons_new code.stages h.comparisons;
  few_idle = let few = h.few_idle in let same = count_new code.stages in omega (arith, few, same);
  arrays = h.arrays;
  argument = h.argument;
  names = h.names;
  named = h.named;
})

-- it has as many blocks without steps
pub count_kept : (code new : ThreadCode) → new ≡ with_used code → idle_count new.stages ≡ idle_count code.stages
count_kept code new is = rw is (count_new code.stages)

pub maximal_kept : (code new : ThreadCode) → new ≡ with_used code → (most : ℕ) → IsMaximal most code → IsMaximal most new
maximal_kept code new is most h = rw is (maximal code.stages most h)

pub none_left : (code new : ThreadCode) → new ≡ with_used code → (l : ℕ) → l ≢ 0 → slice_get new.stages l ≡ Some empty → 0 < ways l new.stages
none_left code new is = rw is (tight code.stages)
