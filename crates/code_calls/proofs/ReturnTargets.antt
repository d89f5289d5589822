-- Returns lead to the caller.
use Rattle.std.proofs.Common.{◌≡◌, ℕ, suc, ◌<◌, List, [], ◌∷◌, ◌++◌, length, ℤ, Option, Some, None, refl, sym, ap, ◌∙◌, subst, ⊎_elim, inl, inr, arith, append-nil}
use Rattle.std.specs.Prelude.{slice_get, ◌⊎◌}
use Rattle.std.proofs.lemmas.List.{length-set}
use Rattle.lists.proofs.Places.{set_other, set_same, set_element}
use Rattle.hls_ints.specs.Types.{IntegerType, long_int, wrapped}
use Rattle.c_program.specs.declared.tree.ReturnType.{ReturnType}
use Rattle.c_program.specs.declared.tree.ReturnType.TheVariants.{Void, Integer, Pointer}
use Rattle.c_program.specs.Tree.{Program}
use Rattle.thread_semantics.specs.Memory.{Location}
use Rattle.thread_semantics.specs.Work.{Work, Take}
use Rattle.thread_semantics.specs.State.{Frame}
use Rattle.thread_semantics.specs.Move.{return_type, returned_value, resumed, returned}
use Rattle.block_ir.specs.declared.operand.Operand.{Operand}
use Rattle.block_ir.specs.declared.block.Operation.{Operation}
use Rattle.block_ir.specs.declared.block.Next.{Next}
use Rattle.block_ir.specs.declared.block.Next.TheVariants.{Jump}
use Rattle.block_ir.specs.declared.block.Block.{Block}
use Rattle.block_ir.specs.declared.code.Stage.TheVariants as stage
use Rattle.block_ir.specs.Run.{Cells, Access, Running, operand_value, operations_run, leads_to, variables_after, stage_after}
use Rattle.code_following.specs.Following.{reads_of, AfterMove, Follows}
use Rattle.code_blocks.specs.declared.homes.Home.{Home}
use Rattle.code_blocks.specs.declared.homes.Home.TheVariants as home
use Rattle.code_blocks.specs.declared.open_block.OpenBlock.{OpenBlock}
use Rattle.code_places.specs.declared.targets.Back.{Back}
use Rattle.code_places.specs.declared.stages.Stages.{Stages}
use Rattle.code_places.specs.declared.lowering.Lowering.{Lowering}
use Rattle.code_blocks.specs.Needs.{IsBelow, AreBelow}
use Rattle.code_blocks.specs.Evaluating.{current_value, local_value, Reads, held_by}
use Rattle.code_blocks.specs.Closing.{HasNoted}
use Rattle.code_storage.specs.Housing.{IsHomeOf, homes_in}
use Rattle.code_places.specs.Labels.{IsHere, led_next}
use Rattle.code_places.proofs.LabelSteps.{pushed_here}
use Rattle.code_places.specs.Resuming.{home_value, calling, in_call, going_again, AreHeld, Keeping, nothing_kept, Stands, AllResume, IsMid, InBlock}
use Rattle.code_places.specs.Apart.{IsGood}
use Rattle.code_places.specs.Control.{marked, LeadsOn, EndsBusy, Jumps, Whole, IsIn, GoesOn}
use Rattle.code_places.specs.Seats.{AreWaiting, IsInto, GoesBack, IsSeated}
use Rattle.code_calls.specs.Calling.{PutsWord, PutsReturned}
use Rattle.code_blocks.proofs.Stores.{conversion_right}
use Rattle.code_blocks.proofs.Puts.{same_source}
use Rattle.code_storage.proofs.Housed.{local_there}
use Rattle.code_places.proofs.ResumedPlaces.{Goes}
use Rattle.code_places.proofs.LabelTargets.{mid_stands, pushed_at, goes_of_in}
use Rattle.code_places.proofs.KeptLocals.{callers_kept, all_waiting}
use Rattle.code_places.proofs.KeptValues.{returned_stands, dropped_stands, nothing_stands}

pub home_local : (current : List (Option Operand)) (variables : ℕ → ℤ) (s : Running) (x j : ℕ) (o : Option Home) →
    home_value o (held_by current variables s.values) s.arrays x j ≡ local_value o current variables s x j
home_local current variables s x j (Some (home.Array a)) = refl
home_local current variables s x j (Some (home.Variable n)) = refl
home_local current variables s x j None = refl

-- what a return leaves in the variables: the value, if there is one and the caller keeps it, in the variable for it, and in the others
-- what they held
pub record Leaves (size : ℕ) (into : Option ℕ) (given : Option ℤ) (before after : ℕ → ℤ) : Type 0 where
  pub put : (n : ℕ) (u : ℤ) → into ≡ Some n → given ≡ Some u → after n ≡ wrapped long_int u
  pub others : (m : ℕ) → m < size → ((u : ℤ) → into ≡ Some m → given ≡ Some u → ⊥) → after m ≡ before m

-- the caller of the call at hand
module _ (P : Program) (W : Whole) (homes : List Home) (size : ℕ) (b : Back) (c : Lowering) (seated : IsSeated P W homes size c) (back : GoesBack W b) where
  abbrev rank : ℕ → ℕ
  rank = seated.resolved.acyclic.rank

  waiting : AreWaiting W.setting.program seated.root seated.housing rank W.setting.number (back.caller ∷ back.rest)
  waiting = subst (AreWaiting W.setting.program seated.root seated.housing rank W.setting.number) back.callers seated.waiting

  slot_small : (slot n : ℕ) → slice_get back.caller.homes slot ≡ Some (home.Variable n) → n < size
  slot_small slot n at =
      let there : slice_get (homes_in seated.housing back.caller.number) slot ≡ Some (home.Variable n) = ap (λ hs. slice_get hs slot) (sym waiting.0.homes) ∙ at in
      let l = local_there W.setting.program seated.root seated.housing seated.housed back.caller.number back.caller.function waiting.0.runs waiting.0.found slot (home.Variable n) there in
      let fit = subst (IsHomeOf (length seated.housing.variables) l.0) there
      ((seated.housed.homes back.caller.number back.caller.function waiting.0.runs waiting.0.found).each slot l.0 l.1) in
      let below = fit.1 in let long = seated.size_is in omega (arith, below, long)

  -- the variable for a value is a local's
  pub into_small : (n : ℕ) → b.into ≡ Some n → n < size
  into_small n is = by back.caller.work b.into is back.into
    where
      by : (w : List Work) (into : Option ℕ) → into ≡ Some n → IsInto back.caller.homes w into → n < size
      by (Take (Some slot) ∷ k) (Some m) at kept = let same : m ≡ n = cc in subst (λ i. i < size) same (slot_small slot m kept)
      by (Take None ∷ k) None at kept = absurd cc
      by w into at kept = absurd kept

  module _ (given : Option ℤ) (before after : ℕ → ℤ) (arrays : Cells) (leaves : Leaves size b.into given before after) (g : Frame) (gs : List Frame)
      (held : AreHeld (back.caller ∷ back.rest) before arrays (g ∷ gs)) where
    abbrev Resumed : Option ℤ → Type 0
    Resumed v = Stands (calling W.setting.program W.setting.stages W.setting.word back.caller back.rest) back.caller.homes nothing_kept after arrays (resumed v g.work g) gs
        × ((resumed v g.work g).work ≡ going_again back.caller.work)

    unchanged : ((m : ℕ) (u : ℤ) → b.into ≡ Some m → given ≡ Some u → ⊥) → AreHeld (back.caller ∷ back.rest) after arrays (g ∷ gs)
    unchanged none =
        callers_kept W.setting.program seated.root seated.housing seated.housed rank W.setting.number before after arrays arrays
        (record { variables_ = λ m lt free. leaves.others m (let long = seated.size_is in omega (arith, lt, long)) (none m); arrays_ = λ a free. refl })
        (back.caller ∷ back.rest) (g ∷ gs)
        (all_waiting W.setting.program seated.root seated.housing rank W.setting.number (back.caller ∷ back.rest) waiting) held

    -- it goes on with the value, or without one
    pub caller_stands : Resumed given
    caller_stands = by back.caller.work b.into given refl refl refl back.into
      where
        by : (w : List Work) (into : Option ℕ) (v : Option ℤ) → back.caller.work ≡ w → b.into ≡ into → given ≡ v → IsInto back.caller.homes w into → Resumed v
        by (Take (Some slot) ∷ k) (Some n) (Some u) work into v kept =
            returned_stands W.setting.program seated.root seated.housing seated.housed rank W.setting.number back.caller back.rest waiting slot n kept u before after arrays
            (leaves.put n u into v) (λ m lt apart. leaves.others m (let long = seated.size_is in omega (arith, lt, long)) (λ x at is. apart (let both : Some m ≡ Some n = sym at ∙ into in cc)))
            W.setting.stages W.setting.word k g gs work held
        by (Take (Some slot) ∷ k) (Some n) None work into v kept =
            nothing_stands W.setting.program back.caller back.rest after arrays W.setting.stages W.setting.word k g gs (unchanged (λ m u at is. absurd (let none : None ≡ Some u = sym v ∙ is in cc)))
            slot work
        by (Take None ∷ k) None v work into is kept =
            dropped_stands W.setting.program back.caller back.rest after arrays W.setting.stages W.setting.word k g gs (unchanged (λ m u at any. absurd (let none : None ≡ Some m = sym into ∙ at in cc)))
            v work
        by w into v work is any kept = absurd kept

-- the call at hand returns this value, or none: the caller goes on
module _ (P : Program) (W : Whole) (homes : List Home) (size : ℕ) (b : Back) (old : Lowering) (new : OpenBlock) (more : List Operation) (Kept : Keeping) (seated : IsSeated P W homes size old)
    (back : GoesBack W b) (variables : ℕ → ℤ) (r : Running) (f : Frame) (fs : List Frame) (globals : List (List ℤ)) (mid : IsMid W.setting homes Kept old.block variables r f fs globals)
    (Cont : List Frame → List (List ℤ) → List Access → Type 0)
    (then_ : (g : Frame) (gs : List Frame) (left : List (List ℤ)) (made : List Access) → g.work ≡ going_again back.caller.work →
    IsMid (in_call W.setting back.caller.number back.caller.function back.rest) back.caller.homes nothing_kept new variables (operations_run variables more r) g gs left →
    (operations_run variables more r).accesses ≡ r.accesses ++ made → Cont (g ∷ gs) left made)
    (v : Option ℤ) (ls : List Location) (reads : Reads r (operations_run variables more r) ls) (long : length (operations_run variables more r).values ≡ length new.operations)
    (leaves : Leaves size b.into (returned_value W.setting.function.returns v) (held_by old.block.current variables r.values)
    (held_by new.current variables (operations_run variables more r).values)) where
  abbrev s : Running
  s = operations_run variables more r

  abbrev after : ℕ → ℤ
  after = held_by new.current variables s.values

  held : AreHeld (back.caller ∷ back.rest) (held_by old.block.current variables r.values) s.arrays fs
  held =
      subst (λ cs. AreHeld cs (held_by old.block.current variables r.values) s.arrays fs) back.callers
      (subst (λ cells. AreHeld W.setting.callers (held_by old.block.current variables r.values) cells fs) (sym reads.arrays) mid.callers)

  abbrev given : Option ℤ
  given = returned_value (return_type (slice_get W.setting.program.functions f.function)) v

  given_is : returned_value W.setting.function.returns v ≡ given
  given_is =
      sym (ap (λ n. returned_value (return_type (slice_get W.setting.program.functions n)) v) mid.number
      ∙ ap (λ o. returned_value (return_type o) v) seated.found)

  caller_mid : (g : Frame) (gs : List Frame) →
      Stands (calling W.setting.program W.setting.stages W.setting.word back.caller back.rest) back.caller.homes nothing_kept after s.arrays g gs →
      IsMid (in_call W.setting back.caller.number back.caller.function back.rest) back.caller.homes nothing_kept new variables s g gs globals
  caller_mid g gs h = record {
    number = h.number;
    shape = h.shape;
    values = long;
    holds = record {
      locals = λ x j u e. sym (home_local new.current variables s x j (slice_get back.caller.homes x)) ∙ h.locals x j u e;
      globals = λ x j u e. ap (λ cells. cells x j) reads.globals ∙ mid.holds.globals x j u e;
    };
    kept = tt;
    callers = h.callers;
  }

  pub returned_goes : (offset : ℕ) → AfterMove (returned W.setting.program offset v ls f fs) globals Cont
  returned_goes offset = by fs held
    where
      by : (gs : List Frame) → AreHeld (back.caller ∷ back.rest) (held_by old.block.current variables r.values) s.arrays gs → AfterMove (returned W.setting.program offset v ls f gs) globals Cont
      by [] h = absurd h
      by (g ∷ gs) h =
          let on = caller_stands P W homes size b old seated back given (held_by old.block.current variables r.values) after s.arrays
          (subst (λ o. Leaves size b.into o (held_by old.block.current variables r.values) after) given_is leaves) g gs h in
          then_ (resumed given g.work g) gs globals (reads_of ls ++ []) on.1 (caller_mid (resumed given g.work g) gs on.0)
          (reads.accesses ∙ ap (λ l. r.accesses ++ l) (sym (append-nil (reads_of ls))))

-- a block whose last step returns leads to where the caller goes on
module _ (W : Whole) (homes : List Home) (size n : ℕ) (Kept : Keeping) (k : List Work) (b : Back) (back : GoesBack W b) (old stepped new : Lowering) (more : List Operation)
    (good : IsGood size old) (noted : HasNoted stepped.block) (same : stepped.stages ≡ old.stages) (added : stepped.block.operations ≡ old.block.operations ++ more)
    (steps : stepped.block.steps ≡ suc old.block.steps) (jumps : Jumps b.label stepped new) (whole : IsIn W new)
    (goes : Goes W.setting homes (in_call W.setting back.caller.number back.caller.function back.rest) back.caller.homes Kept nothing_kept old.block stepped.block more k
    (going_again back.caller.work)) where
  module _ (p : EndsBusy b.label (marked b.label stepped) new) where
    abbrev final : Block
    final = record p.ends.block { next = led_next W.stage_of p.ends.block.next }

    there : (variables : ℕ → ℤ) (s : Running) → back.caller.stage ≡ stage_after final variables s
    there variables s = back.stage ∙ ap (λ (z : Next). leads_to variables s.values (led_next W.stage_of z)) (sym p.ends.closes.next_)

    inside : InBlock W.setting homes Kept n (length old.stages.stages.items) old.block k
    inside = record {
      block = final;
      at =
          ap (λ (z : Stages). slice_get W.setting.stages (length z.stages.items)) (sym same)
          ∙ pushed_at W.stage_of W.setting.stages (marked b.label stepped).stages new.stages whole (stage.Run p.ends.block) p.ends.pushes;
      rest = more;
      operations = p.ends.closes.operations ∙ added;
      count = 1;
      steps = (let e = p.ends.closes.steps in omega (arith, e, steps));
      goes = λ j lt resume variables r f fs globals is mid.
          goes variables r f fs globals is mid
          (λ frames left made.
          ((operations_run variables more r).accesses ≡ r.accesses ++ made)
          × Follows W.setting.program W.setting.stages j (stage_after final variables (operations_run variables more r)) (variables_after final variables (operations_run variables more r))
          (operations_run variables more r).arrays frames)
          (λ g gs left made is' mid' accesses. (
            accesses,
            subst (λ l. Follows W.setting.program W.setting.stages j l (variables_after final variables (operations_run variables more r)) (operations_run variables more r).arrays (g ∷ gs))
                (there variables (operations_run variables more r))
                ((subst (λ cs. AllResume W.setting.program W.setting.stages W.setting.word cs j) back.callers resume).0 j (omega arith)
                (variables_after final variables (operations_run variables more r)) (operations_run variables more r).arrays g gs is'
                (mid_stands W homes n k (Jump b.label) (marked b.label stepped) new noted p.busy p.ends whole variables (operations_run variables more r)
                (in_call W.setting back.caller.number back.caller.function back.rest) back.caller.homes nothing_kept g gs left mid')),
          ));
    }

    at_end : GoesOn W homes Kept n old k
    at_end =
        goes_of_in W homes Kept size n old k good.sound inside
        (λ label among.
        pushed_here (stage.Run p.ends.block) (marked b.label stepped).stages new.stages p.ends.pushes W.stage_of whole.obeys label
        (subst (λ (z : Stages). IsHere z label) (sym same) among) ∙ ap (λ (z : Stages). length z.stages.items) same)

  pub back_goes : GoesOn W homes Kept n old k
  back_goes = by jumps.way
    where
      by : LeadsOn b.label (marked b.label stepped) new ⊎ EndsBusy b.label (marked b.label stepped) new → GoesOn W homes Kept n old k
      by (inl p) = absurd (let idle = p.idle in omega (arith, idle, steps))
      by (inr p) = at_end p

-- what is returned stands in the variable for it
pub record IsReturned (into : Option ℕ) (returns : ReturnType) (a : Operand) (old new : OpenBlock) : Type 0 where
  pub operations : new.operations ≡ old.operations
  pub size : length new.current ≡ length old.current
  pub steps : new.steps ≡ old.steps
  pub noted : HasNoted old → HasNoted new
  pub below : (k : ℕ) → IsBelow k a → AreBelow k old.current → AreBelow k new.current
  pub other : (v : ℤ) (i : ℕ) → ((u : ℤ) → into ≡ Some i → returned_value returns (Some v) ≡ Some u → ⊥) → slice_get new.current i ≡ slice_get old.current i
  pub there : (variables : ℕ → ℤ) (vs : List ℤ) (v u : ℤ) (n : ℕ) → into ≡ Some n → n < length old.current → operand_value variables vs a ≡ v → returned_value returns (Some v) ≡ Some u →
      held_by new.current variables vs n ≡ wrapped long_int u

nothing_returned : (into : Option ℕ) (returns : ReturnType) (a : Operand) (old new : OpenBlock) → new ≡ old →
    ((v u : ℤ) (n : ℕ) → into ≡ Some n → returned_value returns (Some v) ≡ Some u → ⊥) → IsReturned into returns a old new
nothing_returned into returns a old new p none = record {
  operations = ap (λ (z : OpenBlock). z.operations) p;
  size = ap (λ (z : OpenBlock). length z.current) p;
  steps = ap (λ (z : OpenBlock). z.steps) p;
  noted = λ h. subst HasNoted (sym p) h;
  below = λ k under fits. subst (λ (z : OpenBlock). AreBelow k z.current) (sym p) fits;
  other = λ v i free. ap (λ (z : OpenBlock). slice_get z.current i) p;
  there = λ variables vs v u n into_is known is given. absurd (none v u n into_is given);
}

word_returned : (word : ℕ) (ty : IntegerType) (a : Operand) (old new : OpenBlock) → PutsWord word ty a old new → IsReturned (Some word) (Integer ty) a old new
word_returned word ty a old new p = record {
  operations = p.operations;
  size = ap length p.current ∙ length-set old.current word (Some p.twice);
  steps = p.steps;
  noted = p.noted;
  below = λ k under fits x o e.
      ⊎_elim
      (λ q. let same : o ≡ p.twice = cc in subst (IsBelow k) (sym same) (same_source k a p.twice (p.second.source ∙ p.first.source) under))
      (λ q. fits x o q.1)
      (set_element old.current word x (Some p.twice) (Some o) (ap (λ c. slice_get c x) (sym p.current) ∙ e));
  other = λ v i free. ap (λ c. slice_get c i) p.current ∙ set_other old.current word i (Some p.twice) (λ same. free (wrapped ty v) (ap Some (sym same)) refl);
  there = λ variables vs v u n at known is given.
      let same : word ≡ n = cc in
      let value : wrapped ty v ≡ u = cc in
      let one : operand_value variables vs p.once ≡ wrapped ty v = conversion_right variables vs ty a p.once v p.first is in
      let two : operand_value variables vs p.twice ≡ wrapped long_int (wrapped ty v) = conversion_right variables vs long_int p.once p.twice (wrapped ty v) p.second one in
      subst (λ m. held_by new.current variables vs m ≡ wrapped long_int u) same
      (ap (λ c. current_value (slice_get c word) variables vs word) p.current
      ∙ ap (λ o. current_value o variables vs word) (set_same old.current word (Some p.twice) (subst (λ m. m < length old.current) (sym same) known)) ∙ two
      ∙ ap (wrapped long_int) value);
}

pub is_returned : (into : Option ℕ) (returns : ReturnType) (a : Operand) (old new : OpenBlock) → PutsReturned into returns a old new → IsReturned into returns a old new
is_returned None returns a old new p = nothing_returned None returns a old new p (λ v u n at given. absurd cc)
is_returned (Some word) Void a old new p = nothing_returned (Some word) Void a old new p (λ v u n at given. absurd cc)
is_returned (Some word) Pointer a old new p = nothing_returned (Some word) Pointer a old new p (λ v u n at given. absurd cc)
is_returned (Some word) (Integer ty) a old new p = word_returned word ty a old new p

pub returned_none : (returns : ReturnType) → returned_value returns None ≡ None
returned_none Void = refl
returned_none (Integer ty) = refl
returned_none Pointer = refl
