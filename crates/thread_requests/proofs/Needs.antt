-- Where a core is needed though none may be asked: one more place, and one more stage.
use Rattle.std.proofs.Common.{◌≡◌, ℕ, suc, ◌+◌, ◌<◌, ◌^◌, nat_eq, Bool, true, false, ◌&&◌, ◌||◌, List, length, slice_get, slice_index, Option, Some, None, refl, sym, ap}
use Rattle.std.proofs.Common.{subst, ◌∙◌, arith}
use Rattle.std.proofs.lemmas.Option.{slice_get_within}
use Rattle.std.proofs.lemmas.Bool.{eqb-true}
use Rattle.std.proofs.Math.Bool.{and-true, and-false, and-or_distrib_left, or-false, or_assoc}
use Rattle.hls_ints.specs.Residues.{bit_of}
use Rattle.hls_ints.specs.Words.{word_inclusive_or}
use Rattle.block_ir.specs.declared.block.Operation.{Operation}
use Rattle.block_ir.specs.declared.block.Block.{Block}
use Rattle.block_ir.specs.declared.code.Act.{Act}
use Rattle.block_ir.specs.declared.code.Act.TheVariants.{BarrierWait}
use Rattle.block_ir.specs.declared.code.ActOperand.{ActOperand}
use Rattle.block_ir.specs.declared.code.Stage.{Stage}
use Rattle.block_ir.specs.declared.code.Stage.TheVariants as stage
use Rattle.block_ir.specs.declared.code.ThreadCode.{ThreadCode}
use Rattle.block_ir.specs.declared.plan.BlockPlan.{BlockPlan}
use Rattle.block_ir.specs.declared.plan.StagePlan.{StagePlan}
use Rattle.block_ir.specs.declared.plan.StagePlan.TheVariants as planned
use Rattle.block_ir.specs.declared.plan.Planned.{Planned}
use Rattle.netlist.specs.declared.netlist.Signal.{Signal}
use Rattle.netlist.specs.declared.netlist.Module.{Module}
use Rattle.verilog_meaning.specs.Readings.{Reading, width}
use Rattle.circuit.specs.Modules.{Obeys}
use Rattle.operator_wires.specs.Gives.{Grows, Gives}
use Rattle.operator_wires.specs.Built.{Base, IsEarlier, Adds}
use Rattle.operator_wires.specs.Added.{BothAdds}
use Rattle.operator_wires.proofs.PutSignals.{grows_refl, grows_then}
use Rattle.operator_wires.proofs.BuiltWires.{stands_after, wires_none, adds_after}
use Rattle.planned_block.specs.Advance.{any_below}
use Rattle.block_datapath.specs.declared.registers.Registers.{Registers}
use Rattle.block_datapath.specs.Chains.{TellsStage, TellsState}
use Rattle.block_datapath.specs.Wired.{IsStateBit}
use Rattle.thread_slots.specs.Bits.{HasBit}
use Rattle.thread_requests.specs.Needing.{takes_word, takes_at, needs_in, needs_at, NeedsMore, HasStates, IsBehind, IsTaken, IsThere, AreTaken, IsNeedOf, IsNeedOfFirst, IsNumbered}
use Rattle.thread_requests.specs.Needing.{FitsStage, FitStages}
use Rattle.thread_slots.specs.Idle.{is_idle}
use Rattle.thread_slots.specs.Numbers.{is_wait}
use Rattle.block_datapath.specs.Moves.{meeting}
use Rattle.thread_slots.proofs.BitLists.{has_either}
use Rattle.thread_slots.proofs.NextLink.{has_stage}
use Rattle.thread_slots.proofs.StageNumbers.{has_meeting}
use Rattle.thread_slots.proofs.Taken.{Told}

-- ---- bits

pub idle_needs : (s : Stage) (plan : Option StagePlan) (state : ℕ) → is_idle s plan ≡ true → needs_in (Some s) plan state ≡ true
idle_needs (stage.Run b) (Some (planned.Run p)) state e = absurd cc
idle_needs (stage.Run b) (Some planned.Act) state e = refl
idle_needs (stage.Run b) None state e = refl
idle_needs (stage.Act a next) plan state e = absurd cc

no_wait : (s : Stage) (plan : Option StagePlan) → is_idle s plan ≡ true → is_wait s ≡ false
no_wait (stage.Run b) plan e = refl
no_wait (stage.Act a next) plan e = absurd cc

pub other_act : (a : Act) (next : ℕ) → ((barrier : ActOperand) → a ≡ BarrierWait barrier → ⊥) → is_wait (stage.Act a next) ≡ false
other_act (BarrierWait barrier) next other = absurd (other barrier refl)
other_act _ next other = refl

-- ---- one place more

module _ (registers : Registers) where
  abbrev Room : Type 1
  Room = Base → List Signal → Type 0

  abbrev Places : Type 1
  Places = Module → Reading → Bool → Type 0

  -- a bit of a place
  needs_or : (H : Room) (W : Places) (a b c : List Signal) (before bit out : ℕ) → Grows a b
      → Gives b c out 1 (λ m r. word_inclusive_or (width m before) (r.signal before) (r.signal bit)) → BothAdds b c before bit out
      → ((m : Module) (r : Reading) (u : Bool) → Grows b m.signals → Obeys m r → W m r u → HasBit m r bit u)
      → ((base : Base) → IsEarlier a base registers.stage.register registers.stage.width → IsEarlier a base registers.state.register registers.state.width → H base a →
      Adds base a b 1 bit)
      → NeedsMore registers H W a c before out
  needs_or H W a b c before bit out more gives adds has_bit stands = record {
    grows = grows_then a b c more gives.grows;
    wide = λ m g is. gives.wide m g;
    shows = λ m r t u g o has place. has_either b c out before bit gives m r t u g o has (has_bit m r u (grows_then b c m.signals gives.grows g) o place);
    wired = λ base stage state room earlier.
        let first = stands base stage state room in
        adds_after base a b c 1 out first.wires (adds base (stands_after a b base before 1 more earlier) first.stands);
  }

  -- two places
  pub needs_then : (H I J : Room) (V W X : Places) (a b c : List Signal) (x y z : ℕ) → NeedsMore registers H V a b x y → NeedsMore registers I W b c y z
      → ((base : Base) → J base a → H base a) → ((base : Base) → Grows a b → J base a → I base b)
      → ((m : Module) (r : Reading) (u : Bool) → X m r u → (v : Bool) × (w : Bool) × V m r v × W m r w × (u ≡ (v || w))) → NeedsMore registers J X a c x z
  needs_then H I J V W X a b c x y z one two first second split = record {
    grows = grows_then a b c one.grows two.grows;
    wide = λ m g is. two.wide m g (one.wide m (grows_then b c m.signals two.grows g) is);
    shows = λ m r t u g o has place.
        let s = split m r u place in
        let middle = one.shows m r t s.0 (grows_then b c m.signals two.grows g) o has s.2 in
        subst (λ k. HasBit m r z k) (or_assoc t s.0 s.1 ∙ ap (λ k. t || k) (sym s.4)) (two.shows m r (t || s.0) s.1 g o middle s.3);
    wired = λ base stage state room earlier.
        let before = one.wired base stage state (first base room) earlier in
        adds_after base a b c 1 z before.wires
        (two.wired base (stands_after a b base registers.stage.register registers.stage.width one.grows stage)
        (stands_after a b base registers.state.register registers.state.width one.grows state) (second base one.grows room) before.stands);
  }

  -- the same of other places
  pub needs_as : (H J : Room) (V X : Places) (a b : List Signal) (x y : ℕ) → NeedsMore registers H V a b x y → ((base : Base) → J base a → H base a)
      → ((m : Module) (r : Reading) (u : Bool) → X m r u → V m r u) → NeedsMore registers J X a b x y
  needs_as H J V X a b x y t room place = record {
    grows = t.grows;
    wide = t.wide;
    shows = λ m r v u g o has is. t.shows m r v u g o has (place m r u is);
    wired = λ base stage state room_is earlier. t.wired base stage state (room base room_is) earlier;
  }

  -- no place
  pub needs_none : (J : Room) (X : Places) (a : List Signal) (x : ℕ) → ((m : Module) (r : Reading) (u : Bool) → X m r u → u ≡ false) → NeedsMore registers J X a a x x
  needs_none J X a x none = record {
    grows = grows_refl a;
    wide = λ m g is. is;
    shows = λ m r t u g o has place. subst (λ k. HasBit m r x k) (sym (or-false t) ∙ ap (λ k. t || k) (sym (none m r u place))) has;
    wired = λ base stage state room earlier. record { wires = wires_none base a; stands = earlier };
  }

  -- ---- a stage

  pub needs_there : (l : ℕ) (a b c : List Signal) (before at out : ℕ) → TellsStage a b registers l at → Told a b registers l at
      → Gives b c out 1 (λ m r. word_inclusive_or (width m before) (r.signal before) (r.signal at)) → BothAdds b c before at out
      → NeedsMore registers (IsNumbered registers l) (IsThere registers l) a c before out
  needs_there l a b c before at out told told_wired gives adds =
      needs_or (IsNumbered registers l) (IsThere registers l) a b c before at out told.grows gives adds
      (λ m r u g o place. record { wide = told.wide m g; shows = told.shows m r g o place.has.wide place.has.room place.has.fits ∙ ap bit_of (sym place.is) })
      (λ base stage state room. told_wired base stage room.stage)

  -- ---- a word that is taken

  pub needs_word : (at states start state : ℕ) (a b c : List Signal) (before here out : ℕ) → (start + 1 < 2 ^ 64 → state ≡ start + 1)
      → TellsState a b registers (record { at = at; state = state; states = states }) here → IsStateBit a b registers (record { at = at; state = state; states = states }) here
      → Gives b c out 1 (λ m r. word_inclusive_or (width m before) (r.signal before) (r.signal here)) → BothAdds b c before here out
      → NeedsMore registers (HasStates registers at states) (IsBehind registers at states start) a c before out
  needs_word at states start state a b c before here out follows tells tells_wired gives adds =
      needs_or (HasStates registers at states) (IsBehind registers at states start) a b c before here out tells.grows gives adds
      (λ m r u g o place. record { wide = tells.wide m g place.wide; shows = by m r u g o place place.here refl })
      (λ base stage now room. tells_wired base now room.stands room.fits)
    where
      by : (m : Module) (r : Reading) (u : Bool) (g : Grows b m.signals) (o : Obeys m r) (place : IsBehind registers at states start m r u) (h : Bool) → place.here ≡ h
          → r.signal here ≡ bit_of u
      by m r u g o place true e =
          let fits = place.within e in
          let less = fits.0 in
          let few = fits.1 in
          let same : state ≡ suc start = (let p : state ≡ start + 1 = follows (omega arith) in omega arith) in
          tells.shows m r true place.state g o (place.moment e) (subst (λ k. k < states) (sym same) less)
          ∙ ap (λ k. bit_of (nat_eq place.state k)) same
          ∙ ap bit_of (sym (place.is ∙ ap (λ k. k && nat_eq place.state (suc start)) e))
      by m r u g o place false e =
          tells.rests m r g o place.wide (place.shows ∙ ap bit_of e) ∙ ap bit_of (sym (place.is ∙ ap (λ k. k && nat_eq place.state (suc start)) e))

  -- ---- an operation

  pub needs_read : (at states start : ℕ) (op : Operation) (a b : List Signal) (x y : ℕ) → takes_word (Some op) ≡ true
      → NeedsMore registers (HasStates registers at states) (IsBehind registers at states start) a b x y
      → NeedsMore registers (HasStates registers at states) (IsTaken registers at states start op) a b x y
  needs_read at states start op a b x y takes t =
      needs_as (HasStates registers at states) (HasStates registers at states) (IsBehind registers at states start) (IsTaken registers at states start op) a b x y t
      (λ base room. room)
      (λ m r u place. record {
        wide = place.wide;
        here = place.here;
        shows = place.shows;
        state = place.state;
        moment = place.moment;
        within = λ e. place.within e takes;
        is = place.is ∙ ap (λ k. place.here && (k && nat_eq place.state (suc start))) takes;
      })

  pub needs_other : (at states start : ℕ) (op : Operation) (a : List Signal) (x : ℕ) → takes_word (Some op) ≡ false
      → NeedsMore registers (HasStates registers at states) (IsTaken registers at states start op) a a x x
  needs_other at states start op a x takes =
      needs_none (HasStates registers at states) (IsTaken registers at states start op) a x
      (λ m r u place. place.is ∙ ap (λ k. place.here && (k && nat_eq place.state (suc start))) takes ∙ and-false place.here)

  -- ---- a block

  module _ (at : ℕ) (b : Block) (p : BlockPlan) where
    pub reads_none : (a : List Signal) (x : ℕ) → NeedsMore registers (HasStates registers at p.states) (AreTaken registers at b p 0) a a x x
    reads_none a x = needs_none (HasStates registers at p.states) (AreTaken registers at b p 0) a x (λ m r u place. place.is ∙ and-false place.here)

    pub reads_more : (n start : ℕ) (op : Operation) (s0 s1 s2 : List Signal) (x y z : ℕ) → slice_get b.operations n ≡ Some op → start ≡ slice_index p.starts n
        → NeedsMore registers (HasStates registers at p.states) (AreTaken registers at b p n) s0 s1 x y
        → NeedsMore registers (HasStates registers at p.states) (IsTaken registers at p.states start op) s1 s2 y z
        → NeedsMore registers (HasStates registers at p.states) (AreTaken registers at b p (n + 1)) s0 s2 x z
    reads_more n start op s0 s1 s2 x y z listed start_is t u =
        needs_then (HasStates registers at p.states) (HasStates registers at p.states) (HasStates registers at p.states) (AreTaken registers at b p n)
        (IsTaken registers at p.states start op) (AreTaken registers at b p (n + 1)) s0 s1 s2 x y z t u (λ base room. room)
        (λ base more room. record { stands = stands_after s0 s1 base at 1 more room.stands; fits = room.fits })
        (λ m r v place. (
          place.here && any_below (takes_at b p place.state) n,
          place.here && (takes_word (Some op) && nat_eq place.state (suc start)),
          record { wide = place.wide; here = place.here; shows = place.shows; state = place.state; inside = place.inside; is = refl },
          record {
            wide = place.wide;
            here = place.here;
            shows = place.shows;
            state = place.state;
            moment = λ e.
                let own = place.inside e in
                record {
                  wide = place.wide;
                  shows = place.shows ∙ ap bit_of e;
                  state_wide = λ yes. own.wide;
                  state = λ yes. own.is;
                  below = λ yes. own.below;
                  room = λ yes. own.room;
                };
            within = λ e takes.
                let own = place.inside e in
                (subst (λ k. suc k < p.states) (sym start_is) (own.taken n (ap takes_word listed ∙ takes)), own.small);
            is = refl;
          },
          place.is
              ∙ ap (λ k. place.here && any_below (takes_at b p place.state) k) (let next : n + 1 ≡ suc n = omega arith in next)
              ∙ ap (λ k. place.here && (any_below (takes_at b p place.state) n || (takes_word k && nat_eq place.state (suc (slice_index p.starts n))))) listed
              ∙ ap (λ k. place.here && (any_below (takes_at b p place.state) n || (takes_word (Some op) && nat_eq place.state (suc k)))) (sym start_is)
              ∙ and-or_distrib_left place.here (any_below (takes_at b p place.state) n) (takes_word (Some op) && nat_eq place.state (suc start)),
        ))

    -- at a stage
    pub needs_block : (n l : ℕ) (s0 s1 s2 : List Signal) (x y : ℕ) → TellsStage s0 s1 registers l at → Told s0 s1 registers l at
        → NeedsMore registers (HasStates registers at p.states) (AreTaken registers at b p (length b.operations)) s1 s2 x y
        → NeedsMore registers (FitsStage registers n l (Some (planned.Run p))) (IsNeedOf registers n l (Some (stage.Run b)) (Some (planned.Run p))) s0 s2 x y
    needs_block n l s0 s1 s2 x y told told_wired t = record {
      grows = grows_then s0 s1 s2 told.grows t.grows;
      wide = t.wide;
      shows = λ m r v u g o has place.
          let from = grows_then s1 s2 m.signals t.grows g in
          t.shows m r v u g o has
          (record {
            wide = told.wide m from;
            here = nat_eq (r.signal registers.stage.register) l;
            shows = told.shows m r from o place.has.wide place.has.room place.has.fits;
            state = place.state;
            inside = λ e. place.inside b p refl refl (eqb-true (r.signal registers.stage.register) l e);
            is = place.is ∙ (or-false (nat_eq (r.signal registers.stage.register) l && any_below (takes_at b p place.state) (length b.operations)));
          });
      wired = λ base stage state room earlier.
          let first = told_wired base stage room.stage in
          adds_after base s0 s1 s2 1 y first.wires
          (t.wired base (stands_after s0 s1 base registers.stage.register registers.stage.width told.grows stage)
          (stands_after s0 s1 base registers.state.register registers.state.width told.grows state) (record { stands = first.stands; fits = room.states p refl })
          (stands_after s0 s1 base x 1 told.grows earlier));
    }

  -- ---- stages

  pub needs_idle : (n l : ℕ) (s : Stage) (plan : Option StagePlan) (a b : List Signal) (x y : ℕ) → is_idle s plan ≡ true
      → NeedsMore registers (IsNumbered registers l) (IsThere registers l) a b x y →
      NeedsMore registers (FitsStage registers n l plan) (IsNeedOf registers n l (Some s) plan) a b x y
  needs_idle n l s plan a b x y idle t =
      needs_as (IsNumbered registers l) (FitsStage registers n l plan) (IsThere registers l) (IsNeedOf registers n l (Some s) plan) a b x y t
      (λ base room. record { stage = room.stage })
      (λ m r u place.
      let at = nat_eq (r.signal registers.stage.register) l in
      record {
        has = place.has;
        is =
            place.is
            ∙ ap (λ k. (at && k) || (is_wait s && nat_eq (r.signal registers.stage.register) (meeting n l))) (idle_needs s plan place.state idle)
            ∙ ap (λ k. (at && true) || (k && nat_eq (r.signal registers.stage.register) (meeting n l))) (no_wait s plan idle)
            ∙ (or-false (at && true)) ∙ and-true at;
      })

  -- an act other than a wait
  pub needs_going : (n l : ℕ) (a' : Act) (next : ℕ) (plan : Option StagePlan) (a : List Signal) (x : ℕ) → is_wait (stage.Act a' next) ≡ false
      → NeedsMore registers (FitsStage registers n l plan) (IsNeedOf registers n l (Some (stage.Act a' next)) plan) a a x x
  needs_going n l a' next plan a x goes =
      needs_none (FitsStage registers n l plan) (IsNeedOf registers n l (Some (stage.Act a' next)) plan) a x
      (λ m r u place.
      let at = nat_eq (r.signal registers.stage.register) l in
      place.is
      ∙ ap (λ k. (at && false) || (k && nat_eq (r.signal registers.stage.register) (meeting n l))) goes
      ∙ (or-false (at && false)) ∙ and-false at)

  pub needs_meeting : (n l : ℕ) (a' : Act) (next : ℕ) (plan : Option StagePlan) (a b : List Signal) (x y : ℕ) → is_wait (stage.Act a' next) ≡ true
      → NeedsMore registers (IsNumbered registers (meeting n l)) (IsThere registers (meeting n l)) a b x y
      → NeedsMore registers (FitsStage registers n l plan) (IsNeedOf registers n l (Some (stage.Act a' next)) plan) a b x y
  needs_meeting n l a' next plan a b x y waits t =
      needs_as (IsNumbered registers (meeting n l)) (FitsStage registers n l plan) (IsThere registers (meeting n l)) (IsNeedOf registers n l (Some (stage.Act a' next)) plan) a b x y t
      (λ base room. record { stage = room.meets })
      (λ m r u place.
      let at = nat_eq (r.signal registers.stage.register) l in
      record {
        has = place.meets;
        is =
            place.is
            ∙ ap (λ k. (at && false) || (k && nat_eq (r.signal registers.stage.register) (meeting n l))) waits
            ∙ ap (λ k. k || nat_eq (r.signal registers.stage.register) (meeting n l)) (and-false at);
      })

  module _ (code : ThreadCode) (plan : Planned) where
    pub stages_none : (a : List Signal) (x : ℕ) → NeedsMore registers (FitStages registers code plan) (IsNeedOfFirst registers code plan 0) a a x x
    stages_none a x = needs_none (FitStages registers code plan) (IsNeedOfFirst registers code plan 0) a x (λ m r u place. place.is)

    pub stages_more : (n : ℕ) (s : Stage) (s0 s1 s2 : List Signal) (x y z : ℕ) → slice_get code.stages n ≡ Some s
        → NeedsMore registers (FitStages registers code plan) (IsNeedOfFirst registers code plan n) s0 s1 x y
        → NeedsMore registers (FitsStage registers (length code.stages) n (slice_get plan.stages n)) (IsNeedOf registers (length code.stages) n (Some s) (slice_get plan.stages n))
        s1 s2 y z
        → NeedsMore registers (FitStages registers code plan) (IsNeedOfFirst registers code plan (n + 1)) s0 s2 x z
    stages_more n s s0 s1 s2 x y z listed t u =
        needs_then (FitStages registers code plan) (FitsStage registers (length code.stages) n (slice_get plan.stages n)) (FitStages registers code plan)
        (IsNeedOfFirst registers code plan n) (IsNeedOf registers (length code.stages) n (Some s) (slice_get plan.stages n))
        (IsNeedOfFirst registers code plan (n + 1)) s0 s1 s2 x y z t u (λ base room. room)
        (λ base more room. record {
          stage = (let less = slice_get_within code.stages n s listed in let most = room.stages in omega arith);
          meets = (let less = slice_get_within code.stages n s listed in let most = room.stages in omega arith);
          states = room.states n;
        })
        (λ m r v place.
        let now = r.signal registers.stage.register in
        let less = slice_get_within code.stages n s listed in (
          any_below (λ l. needs_at (length code.stages) l (slice_get code.stages l) (slice_get plan.stages l) place.state now) n,
          needs_at (length code.stages) n (Some s) (slice_get plan.stages n) place.state now,
          record { knows = place.knows; state = place.state; inside = place.inside; is = refl },
          record {
            has = has_stage code registers n m r place.knows (omega arith);
            meets = has_meeting code registers n m r place.knows less;
            state = place.state;
            inside = λ b p e f here. place.inside n b p (listed ∙ e) f here;
            is = refl;
          },
          place.is
              ∙ ap (any_below (λ l. needs_at (length code.stages) l (slice_get code.stages l) (slice_get plan.stages l) place.state now))
              (let next : n + 1 ≡ suc n = omega arith in next)
              ∙ ap
              (λ k. any_below (λ l. needs_at (length code.stages) l (slice_get code.stages l) (slice_get plan.stages l) place.state now) n
              || needs_at (length code.stages) n k (slice_get plan.stages n) place.state now) listed,
        ))
