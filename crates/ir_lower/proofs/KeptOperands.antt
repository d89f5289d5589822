-- The code of a step that keeps the chosen operand of ?:, in a block that it begins.
use Rattle.std.proofs.Common.{◌≡◌, ℕ, suc, ◌+◌, ◌*◌, true, ◌∷◌, length, Option, refl, sym, ap, ◌∙◌, subst, inl, arith}
use Rattle.std.specs.Prelude.{slice_get}
use Rattle.hls_ints.specs.Types.{IntegerType}
use Rattle.c_program.specs.Tree.{Expression, Statement, Program}
use Rattle.c_program.specs.Limits.{print_count}
use Rattle.c_program.specs.Weight.{expression_weight}
use Rattle.c_program.specs.Resolved.{IsExpression, IsPlace}
use Rattle.thread_semantics.specs.Work.{Do, Onward, settled}
use Rattle.thread_semantics.specs.Move.{assignment, slot_place}
use Rattle.code_following.specs.Idle.{idle_count}
use Rattle.code_blocks.specs.declared.fault.LoweringFault.{LoweringFault}
use Rattle.code_places.specs.declared.targets.Loop.{Loop}
use Rattle.code_places.specs.declared.lowering.Lowering.{Lowering}
use Rattle.code_blocks.specs.Assigning.{Assigns}
use Rattle.code_blocks.specs.Room.{IsFull}
use Rattle.code_blocks.specs.Typing.{Typing, Fits, WorksOnKept}
use Rattle.code_storage.specs.Formats.{HasSites}
use Rattle.code_places.specs.Resuming.{nothing_kept, IsSound}
use Rattle.code_places.specs.Apart.{room, IsTypedNow}
use Rattle.code_places.specs.Control.{BeginsStage}
use Rattle.code_places.specs.Doing.{Grows, Proceeds, Leads, LowersHere}
use Rattle.code_places.specs.Needing.{needed, IsFullFor}
use Rattle.code_places.specs.Weighing.{inlined_weight}
use Rattle.code_blocks.proofs.Room.{full_more}
use Rattle.code_places.proofs.BlockSteps.{assigning_leads, block_grows}
use Rattle.code_places.proofs.CodeGrowth.{grows_both, stage_shifts, stage_idle, stage_reached, stage_goes}
use Rattle.code_places.proofs.HeadPlaces.{stage_heads}
use Rattle.code_places.proofs.OpenLabels.{stage_advance, stage_begun}
use Rattle.code_places.proofs.OpenParts.{begun_proceeds, proceeds_both, proceeds_same}
use Rattle.code_places.proofs.Shapes.{assignment_there}
use Rattle.code_places.proofs.TypedGrowth.{anywhere_more}
use Rattle.code_control.proofs.NestedStatements.{suits_part, typing_part}

-- ---- a block that begins

pub stage_proceeds : (old mid : Lowering) → old.reached ≡ true → BeginsStage old mid → (around : Option Loop) → Proceeds around old mid
stage_proceeds old mid on begins around =
    begun_proceeds around old mid (stage_shifts old mid begins).grows.back on (stage_advance old mid begins) (stage_begun old mid begins)
    (λ label l head. stage_heads label l old mid begins (inl head))

-- a statement whose code begins a block
pub staged_leads : (P : Program) (around : Option Loop) (s : Statement) (old mid new : Lowering) → old.reached ≡ true → BeginsStage old mid → Grows mid new →
    new.site ≡ mid.site + print_count s → (mid.block.steps ≡ 0 → Leads P around s mid new) → Leads P around s old new
staged_leads P around s old mid new on begins grows site leads_ =
    let shifts = stage_shifts old mid begins in
    record {
      grows = grows_both old mid new shifts.grows grows;
      site = site ∙ ap (λ n. n + print_count s) shifts.site;
      typed = λ S w size suits now.
          (leads_ (stage_idle size old mid suits.good begins)).typed S w size
          (typing_part P S size s s old mid shifts.grows suits suits.around (omega arith) suits.resolved (subst (HasSites S.program s) (sym shifts.site) suits.sites) (λ g c. c))
          (shifts.typed S w size suits.good now);
      leads = λ W homes size n k suits whole out after reached j le.
          stage_goes W homes j (settled Onward (Do s ∷ k)) nothing_kept size old mid suits.good reached begins (grows.whole W whole)
          (λ i below.
          (leads_ (stage_idle size old mid suits.good begins)).leads W homes size n k
          (suits_part P W homes size s s old mid shifts.grows suits suits.around suits.resolved (subst (HasSites W.setting.program s) (sym shifts.site) suits.sites) (λ g c. c))
          whole out after (stage_reached old mid on begins) i (omega arith));
    }

-- ---- what is kept

-- in a block that begins there are 4 operations more for one unit of the weight that no block without steps has
kept_typed : (S : Typing) (w size slot : ℕ) (e : Expression) (old new : Lowering) → old.block.steps ≡ 0 → IsSound size old.block → new ≡ record old { block = new.block } →
    new.block.steps ≡ suc old.block.steps → WorksOnKept old.homes slot e old.block new.block → Fits S old.homes →
    IsPlace S.program S.function (slot_place slot) → IsExpression S.program S.function e → IsTypedNow S w old → IsTypedNow S (w + expression_weight e) new
kept_typed S w size slot e old new idle sound same stepped works fits there is now =
    let items : new.stages.stages.items ≡ old.stages.stages.items = ap (λ (z : Lowering). z.stages.stages.items) same in
    let count = ap idle_count items in
    let none = ap length (sound.fresh idle).operations in
    let few = now.idle in
    record {
      block = works.typed S fits (there, is) now.block;
      idle = omega (arith, few, count);
      size = (let more = works.count in omega (arith, few, count, none, more));
      steps = omega (arith, few, stepped, idle);
      stages = λ l s at.
          anywhere_more S.types S.program (room w old) (room (w + expression_weight e) new) (omega (arith, count)) s (now.stages l s (ap (λ ss. slice_get ss l) (sym items) ∙ at));
    }

module _ (P : Program) (offset slot : ℕ) (ty : IntegerType) (e : Expression) (old mid new : Lowering)
    (a : Assigns mid.homes (λ m. assignment (slot_place slot) (Expression.Cast ty e) m) mid.block new.block) (works : WorksOnKept mid.homes slot e mid.block new.block)
    (same : new ≡ record mid { block = new.block }) where
  abbrev keep : Statement
  keep = Statement.Keep offset slot ty e

  sounds : (size : ℕ) → IsSound size mid.block → IsSound size new.block
  sounds size sound = record {
    size = a.size ∙ sound.size;
    noted = a.noted sound.noted;
    below = a.below sound.below;
    fresh = λ idle. absurd (let steps = a.steps in omega (arith, idle, steps));
  }

  kept_leads : (around : Option Loop) → mid.reached ≡ true → mid.block.steps ≡ 0 → Leads P around keep mid new
  kept_leads around on idle =
      assigning_leads P keep offset (λ m. assignment (slot_place slot) (Expression.Cast ty e) m) mid new a same (λ P m f fs k. refl)
      (λ P f at m ok shape x ls gives. assignment_there P f m shape (slot_place slot) (Expression.Cast ty e) x ls ok.0.local gives) refl (λ k. refl) around on
      (λ S w size suits now. kept_typed S w size slot e mid new idle suits.good.sound same a.steps works suits.fits suits.resolved.0.local suits.resolved.1 now)

  pub kept_lowers : BeginsStage old mid → (around : Option Loop) → LowersHere P around keep old new
  kept_lowers begins around = λ on.
      staged_leads P around keep old mid new on begins (block_grows mid new same sounds (stage_reached old mid on begins))
      (let site = ap (λ (z : Lowering). z.site) same in omega (arith, site)) (kept_leads around (stage_reached old mid on begins))

pub kept_proceeds : (around : Option Loop) (old mid new : Lowering) → old.reached ≡ true → BeginsStage old mid → new ≡ record mid { block = new.block } →
    new.block.steps ≡ suc mid.block.steps → Proceeds around old new
kept_proceeds around old mid new on begins same stepped =
    proceeds_both around old mid new (stage_proceeds old mid on begins around)
    (proceeds_same mid new (ap (λ (z : Lowering). z.stages) same) (ap (λ (z : Lowering). z.reached) same) (ap (λ (z : Lowering). z.back) same) (omega (arith, stepped))
    around)

-- ---- what it needs, where it is too large

pub kept_for : (P : Program) (depth offset slot : ℕ) (ty : IntegerType) (e : Expression) (t : Statement) (old mid : Lowering) (fault : LoweringFault) →
    t ≡ Statement.Keep offset slot ty e → BeginsStage old mid → IsFull (length mid.block.operations + mid.block.steps + (3 * expression_weight e + 2)) fault → IsFullFor P depth t old fault
kept_for P depth offset slot ty e t old mid fault is begins full =
    subst (λ z. IsFullFor P depth z old fault) (sym is) (λ S w size suits deep now.
    let good = (stage_shifts old mid begins).grows.good size suits.good in
    let idle = stage_idle size old mid suits.good begins in
    let none = ap length (good.sound.fresh idle).operations in
    let few = now.idle in
    full_more fault (length mid.block.operations + mid.block.steps + (3 * expression_weight e + 2))
    (needed S size (w + inlined_weight S.program (Statement.Keep offset slot ty e))) (omega (arith, few, idle, none)) full)
