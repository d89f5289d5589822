-- A switch: its step, the comparisons with its labels, and its body.
use Rattle.std.proofs.Common.{◌≡◌, ℕ, suc, ◌+◌, ◌-◌, ◌*◌, ◌<◌, ◌≤◌, Bool, true, List, [], ◌∷◌, ◌++◌, length, ℤ, Option, Some, None, refl, sym, ap, ◌∙◌, subst, arith}
use Rattle.std.proofs.Common.{append-nil, append_assoc, length-append, pos}
use Rattle.std.specs.Prelude.{slice_get}
use Rattle.std.proofs.lemmas.List.{append_cancel_left}
use Rattle.hls_ints.specs.Types.{IntegerType, long_int, wrapped}
use Rattle.hls_ints.proofs.Conversions.{wrapped-range}
use Rattle.c_program.specs.Tree.{Expression, Statement, Function, Program}
use Rattle.c_program.specs.Weight.{expression_weight}
use Rattle.c_program.specs.Resolved.{Around, IsStatement, IsLabel, in_switch}
use Rattle.thread_semantics.specs.Memory.{Memory, Evaluation, Gives, Fails, and_then}
use Rattle.thread_semantics.specs.Value.{value}
use Rattle.thread_semantics.specs.Work.{Work, Do, Past, Onward, settled, switched}
use Rattle.thread_semantics.specs.State.{Frame}
use Rattle.thread_semantics.specs.Move.{switch_move, work_move, move}
use Rattle.block_ir.specs.declared.block.Block.{Block}
use Rattle.block_ir.specs.declared.block.Operation.{Operation}
use Rattle.block_ir.specs.declared.code.Stage.TheVariants as stage
use Rattle.block_ir.specs.Run.{Access, Running, operations_run}
use Rattle.code_following.specs.Following.{reads_of, formats_of, AfterMove, AfterMoves}
use Rattle.code_blocks.specs.declared.homes.Home.{Home}
use Rattle.code_blocks.specs.declared.open_block.OpenBlock.{OpenBlock}
use Rattle.code_blocks.specs.declared.fault.LoweringFault.{LoweringFault}
use Rattle.code_blocks.specs.Room.{IsFull}
use Rattle.code_blocks.specs.Evaluating.{held_by}
use Rattle.code_blocks.specs.Printing.{PutsValue}
use Rattle.code_blocks.specs.Typing.{Typing, Fits, IsTypedOpen}
use Rattle.code_following.specs.Idle.{idle_count}
use Rattle.code_blocks.proofs.Room.{full_more}
use Rattle.code_blocks.proofs.OperationRuns.{run_append, run_length}
use Rattle.code_storage.specs.Formats.{HasSites}
use Rattle.code_storage.proofs.Sites.{part_sites}
use Rattle.code_places.specs.declared.stages.Stages.{Stages}
use Rattle.code_places.specs.declared.targets.Loop.{Loop}
use Rattle.code_places.specs.declared.lowering.Lowering.{Lowering}
use Rattle.code_places.specs.Apart.{room, IsTypedNow, IsGood}
use Rattle.code_places.specs.Labels.{IsHere, is_used}
use Rattle.code_places.specs.Resuming.{Setting, Keeping, nothing_kept, IsMid, Comes, InBlock, AtFresh, IsSound}
use Rattle.code_places.specs.Control.{Binds, Whole, IsIn, AtLabelUpTo, GoesOn}
use Rattle.code_places.specs.Needing.{needed, IsFullFor}
use Rattle.code_places.specs.Doing.{Grows, Shifts, Relabels, OnwardUpTo, IfUsed, LeadsOut, Suits, SuitsTyping, Leads}
use Rattle.code_places.specs.Weighing.{inlined_weight}
use Rattle.code_places.proofs.BlockSteps.{block_grows}
use Rattle.code_places.proofs.CodeGrowth.{grows_both, goes_relabelled, jumps_shifts, jumps_used, binds_shifts, binds_at, binds_goes}
use Rattle.code_places.proofs.KeptLocals.{seat_on, seat_kept}
use Rattle.code_places.proofs.LabelTargets.{goes_of_in, jump_goes_on}
use Rattle.code_places.proofs.Shapes.{have_homes}
use Rattle.code_places.proofs.TypedGrowth.{open_more, now_more}
use Rattle.code_control.proofs.NestedStatements.{suits_part, typing_part, out_before}
use Rattle.ir_lower.specs.declared.labels.SwitchLabels.{SwitchLabels}
use Rattle.ir_lower.specs.Switching.{labels_of, compared, default_label, AreCases, case_count, cases_weight, entries, Enter, Enters, OpensSwitch, inside, IsFullCases}
use Rattle.ir_lower.proofs.SwitchLabels.{switch_enters}
use Rattle.ir_lower.proofs.SwitchBodies.{cases_weigh, cases_few}
use Rattle.ir_lower.proofs.ComparisonChains.{comparisons_grow, comparisons_site, comparisons_go, compared_used, comparisons_typed}

-- ---- what a step leaves that depends on a value

module _ (S : Setting) (homes : List Home) (Kept : Keeping) (A : Type 0) (some : A) (After : A → Keeping) (after : A → List Work) (old new : OpenBlock) (more : List Operation) (k : List Work)
    (added : new.operations ≡ old.operations ++ more) (stepped : new.steps ≡ suc old.steps)
    (goes : (variables : ℕ → ℤ) (r : Running) (f : Frame) (fs : List Frame) (globals : List (List ℤ)) → f.work ≡ k → IsMid S homes Kept old variables r f fs globals →
    (Cont : List Frame → List (List ℤ) → List Access → Type 0) →
    ((x : A) (g : Frame) (gs : List Frame) (left : List (List ℤ)) (made : List Access) → g.work ≡ after x → IsMid S homes (After x) new variables (operations_run variables more r) g gs left →
    (operations_run variables more r).accesses ≡ r.accesses ++ made → Cont (g ∷ gs) left made) →
    AfterMove (move S.program globals (f ∷ fs)) globals Cont) where
  in_each : (n l : ℕ) → ((x : A) → InBlock S homes (After x) n l new (after x)) → InBlock S homes Kept n l old k
  in_each n l inside =
      let i = inside some in
      record {
        block = i.block;
        at = i.at;
        rest = more ++ i.rest;
        operations = i.operations ∙ ap (λ os. os ++ i.rest) added ∙ append_assoc old.operations more i.rest;
        count = suc i.count;
        steps = (let e = i.steps in omega (arith, e, stepped));
        goes = λ j lt resume variables r f fs globals is mid.
            goes variables r f fs globals is mid
            (λ next left made. AfterMoves S.program i.count next left (r.accesses ++ made)
            (λ frames all. Comes S homes Kept i.block j variables (operations_run variables (more ++ i.rest) r) frames all))
            (λ x g gs left made is' mid' same.
            subst (λ a. AfterMoves S.program i.count (g ∷ gs) left a (λ frames all. Comes S homes Kept i.block j variables (operations_run variables (more ++ i.rest) r) frames all)) same
            (subst (λ s. AfterMoves S.program i.count (g ∷ gs) left (operations_run variables more r).accesses (λ frames all. Comes S homes Kept i.block j variables s frames all))
            (sym (run_append variables more i.rest r))
            (one j variables (operations_run variables more r) g gs left i (inside x) ((inside x).goes j lt resume variables (operations_run variables more r) g gs left is' mid'))));
      }
    where
      -- all of them are of one stage
      one : {x : A} (j : ℕ) (variables : ℕ → ℤ) (s : Running) (g : Frame) (gs : List Frame) (left : List (List ℤ)) (i : InBlock S homes (After some) n l new (after some))
          (h : InBlock S homes (After x) n l new (after x)) →
          AfterMoves S.program h.count (g ∷ gs) left s.accesses (λ frames all. Comes S homes Kept h.block j variables (operations_run variables h.rest s) frames all) →
          AfterMoves S.program i.count (g ∷ gs) left s.accesses (λ frames all. Comes S homes Kept i.block j variables (operations_run variables i.rest s) frames all)
      one j variables s g gs left i h goes =
          let there : Some (stage.Run h.block) ≡ Some (stage.Run i.block) = sym h.at ∙ i.at in
          let block : h.block ≡ i.block = cc in
          let rest : h.rest ≡ i.rest = append_cancel_left new.operations h.rest i.rest (sym h.operations ∙ ap (λ (z : Block). z.operations) block ∙ i.operations) in
          let count : h.count ≡ i.count = (let a = h.steps in let b = i.steps in let e = ap (λ (z : Block). z.steps) block in omega (arith, a, b, e)) in
          subst (λ c. AfterMoves S.program c (g ∷ gs) left s.accesses (λ frames all. Comes S homes Kept i.block j variables (operations_run variables i.rest s) frames all)) count
          (subst (λ os. AfterMoves S.program h.count (g ∷ gs) left s.accesses (λ frames all. Comes S homes Kept i.block j variables (operations_run variables os s) frames all)) rest
          (subst (λ (z : Block). AfterMoves S.program h.count (g ∷ gs) left s.accesses (λ frames all. Comes S homes Kept z j variables (operations_run variables h.rest s) frames all)) block goes))

-- ---- what is known of a variable may be forgotten

fresh_forget : (S : Setting) (homes : List Home) (Kept : Keeping) (n l : ℕ) (k : List Work) → AtFresh S homes nothing_kept n l k → AtFresh S homes Kept n l k
fresh_forget S homes Kept n l k h = λ resume variables arrays f fs is stands.
    h resume variables arrays f fs is (record { number = stands.number; shape = stands.shape; locals = stands.locals; kept = tt; callers = stands.callers })

goes_forget : (W : Whole) (homes : List Home) (Kept : Keeping) (n : ℕ) (c : Lowering) (k : List Work) → GoesOn W homes nothing_kept n c k → GoesOn W homes Kept n c k
goes_forget W homes Kept n c k g = record {
  fresh = λ idle label among. fresh_forget W.setting homes Kept n (W.stage_of label) k (g.fresh idle label among);
  busy = λ busy.
      let i = g.busy busy in
      record {
        block = i.block;
        at = i.at;
        rest = i.rest;
        operations = i.operations;
        count = i.count;
        steps = i.steps;
        goes = λ j lt resume variables r f fs globals is m.
            i.goes j lt resume variables r f fs globals is
            (record { number = m.number; shape = m.shape; values = m.values; holds = m.holds; kept = tt; callers = m.callers });
      };
  here = g.here;
}

-- ---- the labels of a switch are of its type

cases_append : (ty : IntegerType) (xs ys : List (Option ℤ)) → AreCases ty xs → AreCases ty ys → AreCases ty (xs ++ ys)
cases_append ty [] ys a b = b
cases_append ty (None ∷ xs) ys a b = cases_append ty xs ys a b
cases_append ty (Some v ∷ xs) ys a b = (a.0, cases_append ty xs ys a.1 b)

are_cases : (P : Program) (a : Around) (f : Function) (ty : IntegerType) (s : Statement) → a.labels ≡ Some ty → IsStatement P f a s → AreCases ty (labels_of s)
are_cases P a f ty (Statement.Sequence x y) is ok = cases_append ty (labels_of x) (labels_of y) (are_cases P a f ty x is ok.0) (are_cases P a f ty y is ok.1)
are_cases P a f ty (Statement.Label None operators) is ok = tt
are_cases P a f ty (Statement.Label (Some v) operators) is ok = (subst (λ o. IsLabel o (Some v)) is ok, tt)
are_cases P a f ty s is ok = tt

-- ---- a switch

-- its head is too large
pub switch_head_for : (P : Program) (offset : ℕ) (ty : IntegerType) (operand : Expression) (body : Statement) (old : Lowering) (depth : ℕ) (fault : LoweringFault) →
    IsFull (length old.variables + (length old.block.operations + old.block.steps) + (3 * expression_weight operand + 2)) fault → IsFullFor P depth (Statement.Switch offset ty operand body) old fault
switch_head_for P offset ty operand body old depth fault full = λ S w size suits deep now.
    let variables = suits.good.variables in
    let operations = now.size in
    let steps = now.steps in
    full_more fault (length old.variables + (length old.block.operations + old.block.steps) + (3 * expression_weight operand + 2))
    (needed S size (w + inlined_weight S.program (Statement.Switch offset ty operand body))) (omega (arith, variables, operations, steps)) full

-- where break and continue lead
switch_outs : (W : Whole) (homes : List Home) (n : ℕ) (used : List Bool) (around : Option Loop) (own : SwitchLabels) (k : List Work) → LeadsOut W homes n used around k →
    IfUsed W homes n used own.past (settled Onward k) → LeadsOut W homes n used (Some (inside around own)) (Past ∷ k)
switch_outs W homes n used None own k out behind = (behind, tt)
switch_outs W homes n used (Some l) own k out behind = (behind, out.1)

module _ (P : Program) (offset : ℕ) (ty : IntegerType) (operand : Expression) (body : Statement) (own : SwitchLabels) (old m : Lowering) (on : old.reached ≡ true)
    (opens : OpensSwitch ty operand body own old m) where
  abbrev past : ℕ
  past = own.past

  abbrev l : ℕ
  l = own.first

  abbrev x : ℕ
  x = opens.word

  abbrev a : Lowering
  a = opens.labelled

  abbrev b : Lowering
  b = opens.stepped

  abbrev c : Lowering
  c = opens.compared

  abbrev put : OpenBlock
  put = opens.put

  abbrev relabels : Relabels old a
  relabels = opens.labels_.has.relabels

  abbrev statement : Statement
  statement = Statement.Switch offset ty operand body

  abbrev other : ℕ
  other = default_label (labels_of body) l past

  abbrev labels : List (Option ℤ)
  labels = labels_of body

  block_is : b.block ≡ record put { steps = suc put.steps }
  block_is = ap (λ (z : Lowering). z.block) opens.steps

  b_sound : (size : ℕ) → IsSound size a.block → IsSound size b.block
  b_sound size sound = subst (IsSound size) (sym block_is) (record {
    size = opens.puts.size ∙ sound.size;
    noted = opens.puts.noted sound.noted;
    below = opens.puts.below sound.below;
    fresh = λ idle. absurd cc;
  })

  a_b : Grows a b
  a_b = block_grows a b (opens.steps ∙ ap (λ z. record a { block = z }) (sym block_is)) b_sound (relabels.reached ∙ on)

  b_c : Grows b c
  b_c = comparisons_grow x labels l b c opens.comparisons

  c_m : Shifts c m
  c_m = jumps_shifts other c m opens.jumps

  old_b : Grows old b
  old_b = grows_both old a b relabels.shifts.grows a_b

  old_c : Grows old c
  old_c = grows_both old b c old_b b_c

  old_m : Grows old m
  old_m = grows_both old c m old_c c_m.grows

  m_site : m.site ≡ old.site
  m_site = c_m.site ∙ comparisons_site x labels l b c opens.comparisons ∙ ap (λ (z : Lowering). z.site) opens.steps ∙ relabels.shifts.site

  body_sites : (Q : Program) → HasSites Q statement old.site → HasSites Q body m.site
  body_sites Q sites = part_sites Q statement body [] [] old.site m.site sites (sym (append-nil (formats_of body))) (let s = m_site in omega (arith, s))

  suits_body : (S : Typing) (size : ℕ) → SuitsTyping P S size statement old → SuitsTyping P S size body m
  suits_body S size suits = typing_part P S size statement body old m old_m suits (in_switch ty suits.around) (omega arith) suits.resolved.2 (body_sites S.program suits.sites) (λ g h. h)

  -- what is weighed before the body
  abbrev opened_weight : ℕ → ℕ
  opened_weight w = w + (expression_weight operand + 1) + (case_count labels - 1)

  opened_typed : (S : Typing) (w size : ℕ) → SuitsTyping P S size statement old → IsTypedNow S w old → IsTypedNow S (opened_weight w) m
  opened_typed S w size suits now =
      let good_a = relabels.shifts.grows.good size suits.good in
      let now_a = relabels.shifts.typed S w size suits.good now in
      let v = w + (expression_weight operand + 1) in
      let x_size : x ≡ size = opens.word_ ∙ good_a.variables in
      let word : slice_get S.types.variables x ≡ Some long_int =
      subst (λ n. slice_get S.types.variables n ≡ Some long_int) (let e : size + 0 ≡ x = omega (arith, x_size) in e) (suits.words 0 (omega arith)) in
      let open_ = opens.works.typed S (subst (λ hs. Fits S hs) (sym relabels.shifts.grows.homes) suits.fits) (suits.resolved.1, word) now_a.block in
      let b_typed : IsTypedNow S v b =
      open_more S w v a b (ap (λ (z : Lowering). z.stages.stages.items) opens.steps) (omega arith)
      (subst (IsTypedOpen S.types) (sym block_is) (record { operations = open_.operations; few = open_.few; current = open_.current }))
      (let n = opens.works.count in let t = ap (λ (z : OpenBlock). length z.operations) block_is in omega (arith, n, t))
      (let f = now_a.steps in let p = opens.puts.steps in let t = ap (λ (z : OpenBlock). z.steps) block_is in omega (arith, f, p, t)) now_a in
      let fits_b : length b.block.operations + 1 ≤ room v b =
      (let n = opens.works.count in let t = ap (λ (z : OpenBlock). length z.operations) block_is in let f = now_a.size in let few = now_a.idle in
      let same = ap (λ (z : Lowering). idle_count z.stages.stages.items) opens.steps in omega (arith, n, t, f, few, same)) in
      let c_typed = comparisons_typed S x size word v labels l b c opens.comparisons (old_b.good size suits.good)
      (let t = ap (λ (z : OpenBlock). z.steps) block_is in omega (arith, t)) b_typed fits_b in
      c_m.typed S (opened_weight w) size (old_c.good size suits.good) c_typed

  -- its body is too large
  pub switch_body_for : (depth : ℕ) (fault : LoweringFault) → IsFullCases P depth body m fault → IsFullFor P depth statement old fault
  switch_body_for depth fault full = λ S w size suits deep now.
      let weighs = cases_weigh S.program body in
      let few = cases_few labels in
      full_more fault (needed S size (opened_weight w + cases_weight S.program body)) (needed S size (w + inlined_weight S.program statement)) (omega (arith, weighs, few))
      (full S (opened_weight w) size (suits_body S size suits) deep (opened_typed S w size suits now))

  module _ (around : Option Loop) (e new : Lowering) (enters : Enters P (Some (inside around own)) body l m e) (binds : Binds past e new) where
    e_new : Shifts e new
    e_new = binds_shifts past e new binds

    old_e : Grows old e
    old_e = grows_both old m e old_m enters.grows

    switch_typed : (S : Typing) (w size : ℕ) → SuitsTyping P S size statement old → IsTypedNow S w old → IsTypedNow S (w + inlined_weight S.program statement) new
    switch_typed S w size suits now =
        let weighs = cases_weigh S.program body in
        let few = cases_few labels in
        now_more S (opened_weight w + cases_weight S.program body) (w + inlined_weight S.program statement) new (omega (arith, weighs, few))
        (e_new.typed S (opened_weight w + cases_weight S.program body) size (old_e.good size suits.good)
        (enters.typed S (opened_weight w) size (suits_body S size suits) (opened_typed S w size suits now)))

    module _ (W : Whole) (homes : List Home) (size n : ℕ) (k : List Work) (suits : Suits P W homes size statement old) (whole : IsIn W new) (out : LeadsOut W homes n new.stages.used around k)
        (after : OnwardUpTo W homes n new (settled Onward k)) where
      whole_e : IsIn W e
      whole_e = e_new.grows.whole W whole

      whole_m : IsIn W m
      whole_m = enters.grows.whole W whole_e

      whole_c : IsIn W c
      whole_c = c_m.grows.whole W whole_m

      behind_e : IfUsed W homes n e.stages.used past (settled Onward k)
      behind_e = binds_at W homes n (settled Onward k) past size e new (old_e.good size suits.good) binds whole after

      body_leads : OnwardUpTo W homes n m (settled Onward (Do body ∷ Past ∷ k)) × Enter (IfUsed W homes n m.stages.used) l (entries body (Past ∷ k))
      body_leads =
          enters.leads W homes size n (Past ∷ k)
          (suits_part P W homes size statement body old m old_m suits (in_switch ty suits.around) suits.resolved.2 (body_sites W.setting.program suits.sites) (λ g h. h)) whole_e
          (switch_outs W homes n e.stages.used around own k (out_before W homes n e new around k e_new.grows out) behind_e)
          (binds_goes W homes n (settled Onward k) past size e new (old_e.good size suits.good) binds whole after)

      -- where the switch goes with a value
      entered : (v : ℤ) → IfUsed W homes n m.stages.used (compared v labels l other) (switched v body k)
      entered v =
          switch_enters (IfUsed W homes n m.stages.used) v body k l past body_leads.1 (λ used. behind_e (enters.grows.used past used))

      all_used : (v : ℤ) → is_used m.stages.used (compared v labels l other) ≡ true
      all_used v = compared_used x labels l other v b c m.stages.used opens.comparisons (λ label used. c_m.grows.used label used) (jumps_used W homes n k other c m opens.jumps)

      good_b : IsGood size b
      good_b = old_b.good size suits.good

      abbrev Holding : ℤ → Keeping
      Holding v = λ variables kept. wrapped long_int (variables x) ≡ wrapped long_int (wrapped ty v)

      compares : (v : ℤ) (j : ℕ) → j ≤ n → GoesOn W homes (Holding v) j b (switched (wrapped ty v) body k)
      compares v j le =
          comparisons_go W homes size (switched (wrapped ty v) body k) x ty (wrapped ty v) (wrapped-range ty v) j labels l other b c opens.comparisons
          (are_cases W.setting.program (in_switch ty suits.around) W.setting.function ty body refl suits.resolved.2) good_b whole_c
          (λ i below. fresh_forget W.setting homes (Holding v) i (W.stage_of (compared (wrapped ty v) labels l other)) (switched (wrapped ty v) body k)
          (entered (wrapped ty v) (all_used (wrapped ty v)) i (omega (arith, le, below))))
          (λ i below last. goes_forget W homes (Holding v) i c (switched (wrapped ty v) body k)
          (jump_goes_on W homes i (switched (wrapped ty v) body k) other c m (old_c.good size suits.good).sound.noted opens.jumps whole_m
          (λ h under. subst (λ z. AtLabelUpTo W homes n z (switched (wrapped ty v) body k)) last (entered (wrapped ty v) (all_used (wrapped ty v))) h (omega (arith, le, below, under)))))

      puts_here : PutsValue homes size ty operand a.block put
      puts_here =
          subst (λ i. PutsValue homes i ty operand a.block put) (opens.word_ ∙ (relabels.shifts.grows.good size suits.good).variables)
          (subst (λ hs. PutsValue hs x ty operand a.block put) (relabels.shifts.grows.homes ∙ suits.homes_) opens.puts)

      x_size : x ≡ size
      x_size = opens.word_ ∙ (relabels.shifts.grows.good size suits.good).variables

      good_a : IsGood size a
      good_a = relabels.shifts.grows.good size suits.good

      prepares : (variables : ℕ → ℤ) (r : Running) (f : Frame) (fs : List Frame) (globals : List (List ℤ)) → f.work ≡ Do statement ∷ k →
          IsMid W.setting homes nothing_kept a.block variables r f fs globals → (Cont : List Frame → List (List ℤ) → List Access → Type 0) →
          ((v : ℤ) (g : Frame) (gs : List Frame) (left : List (List ℤ)) (made : List Access) → g.work ≡ switched (wrapped ty v) body k →
          IsMid W.setting homes (Holding v) b.block variables (operations_run variables puts_here.operations r) g gs left →
          (operations_run variables puts_here.operations r).accesses ≡ r.accesses ++ made → Cont (g ∷ gs) left made) →
          AfterMove (move W.setting.program globals (f ∷ fs)) globals Cont
      prepares variables r f fs globals work mid Cont then_ =
          subst (λ w. AfterMove (work_move W.setting.program seen f fs w) globals Cont) (sym work) (by (value operand seen) refl)
        where
          seen : Memory
          seen = record { locals = f.locals; globals = globals }

          by : (E : Evaluation ℤ) → value operand seen ≡ E → AfterMove (switch_move offset ty E body f fs k) globals Cont
          by (Fails cause) q = tt
          by (Gives v ls) q =
              let held = puts_here.does variables r seen (wrapped ty v ∷ []) (ls ++ []) good_a.sound.below mid.values
              (have_homes W.setting.function.locals homes size f.locals suits.locals mid.shape) (let all = good_a.sound.size in omega (arith, all)) mid.holds
              (ap (λ E. and_then E (λ u. Gives (wrapped ty u ∷ []) [])) q) in
              let s = operations_run variables puts_here.operations r in
              then_ v (record f { work = switched (wrapped ty v) body k; kept = [] }) fs globals (reads_of ls ++ []) refl
              (subst (λ (z : OpenBlock). IsMid W.setting homes (Holding v) z variables s (record f { work = switched (wrapped ty v) body k; kept = [] }) fs globals) (sym block_is)
              (record {
                number = mid.number;
                shape = mid.shape;
                values = (let h = run_length variables puts_here.operations r in let a = ap length puts_here.added
                    ∙ length-append a.block.operations puts_here.operations in let i = mid.values in omega (arith, h, a, i));
                holds = held.holds;
                kept = subst (λ i. wrapped long_int (held_by put.current variables s.values i) ≡ wrapped long_int (wrapped ty v)) (sym x_size) held.words.0;
                callers = seat_kept P W homes size a (held_by a.block.current variables r.values) (held_by put.current variables s.values) r.arrays s.arrays fs
                    (seat_on P W homes size old a relabels.shifts.grows.back relabels.shifts.grows.rooms relabels.shifts.grows.objects suits.seated) held.spares mid.callers;
              }))
              (held.reads.accesses ∙ ap (λ z. r.accesses ++ reads_of z) (append-nil ls) ∙ ap (λ z. r.accesses ++ z) (sym (append-nil (reads_of ls))))

      busy_b : 0 < b.block.steps
      busy_b = let t = ap (λ (z : OpenBlock). z.steps) block_is in omega (arith, t)

      steps_go : (j : ℕ) → j ≤ n → GoesOn W homes nothing_kept j a (Do statement ∷ k)
      steps_go j le =
          goes_of_in W homes nothing_kept size j a (Do statement ∷ k) good_a.sound
          (in_each W.setting homes nothing_kept ℤ (pos 0) Holding (λ v. switched (wrapped ty v) body k) a.block b.block puts_here.operations (Do statement ∷ k)
          (ap (λ (z : OpenBlock). z.operations) block_is ∙ puts_here.added) (ap (λ (z : OpenBlock). z.steps) block_is ∙ ap suc puts_here.steps) prepares j (length a.stages.stages.items)
          (λ v.
          subst (λ (z : Stages). InBlock W.setting homes (Holding v) j (length z.stages.items) b.block (switched (wrapped ty v) body k)) (ap (λ (z : Lowering). z.stages) opens.steps)
          ((compares v j le).busy busy_b)))
          (λ label among.
          (compares (pos 0) j le).here busy_b label (subst (λ (z : Stages). IsHere z label) (sym (ap (λ (z : Lowering). z.stages) opens.steps)) among)
          ∙ ap (λ (z : Lowering). length z.stages.stages.items) opens.steps)

      switch_goes : OnwardUpTo W homes n old (settled Onward (Do statement ∷ k))
      switch_goes reached j le = goes_relabelled W homes nothing_kept j (Do statement ∷ k) old a relabels (steps_go j le)

    pub switch_leads : Leads P around statement old new
    switch_leads = record {
      grows = grows_both old e new old_e e_new.grows;
      site = (let s = m_site in let t = enters.site in let u = e_new.site in omega (arith, s, t, u));
      typed = switch_typed;
      leads = λ W homes size n k suits whole out after. switch_goes W homes size n k suits whole out after;
    }
