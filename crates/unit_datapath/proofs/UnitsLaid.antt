-- The functional units of a thread: kind after kind.
use Rattle.std.proofs.Common.{◌≡◌, ℕ, zero, suc, ◌<◌, ◌≤◌, Bool, true, false, if◌then◌else◌, List, [], ◌∷◌, ◌++◌, length, Some, slice_get, slice_index, ℤ}
use Rattle.std.proofs.Common.{refl, sym, ap, subst, ◌∙◌, arith, ⊎_elim}
use Rattle.std.proofs.lemmas.Option.{slice_get_within, slice_get-get_or}
use Rattle.std.proofs.lemmas.List.{append-nil}
use Rattle.std.proofs.lemmas.Bool.{and_parts}
use Rattle.lists.proofs.Places.{get_either}
use Rattle.hls_ints.specs.Types.{IntegerType, width_of, wrapped}
use Rattle.c_program.specs.declared.tree.BinaryOperator.{BinaryOperator}
use Rattle.block_ir.specs.Arithmetic.{binary_total}
use Rattle.block_ir.specs.declared.block.Block.{Block}
use Rattle.block_ir.specs.declared.code.Stage.TheVariants as stage
use Rattle.block_ir.specs.declared.code.ThreadCode.{ThreadCode}
use Rattle.block_ir.specs.declared.plan.BlockPlan.{BlockPlan}
use Rattle.block_ir.specs.declared.plan.Planned.{Planned}
use Rattle.planned_block.specs.Slot.{Slot, operand_now}
use Rattle.plan_blocks.specs.View.{operand_view, planned_view, plan_view}
use Rattle.operator_words.specs.Shown.{binary_result}
use Rattle.netlist.specs.declared.netlist.Signal.{Signal}
use Rattle.netlist.specs.declared.netlist.Module.{Module}
use Rattle.verilog_meaning.specs.Readings.{Reading, width, signal_width}
use Rattle.circuit.specs.Modules.{Obeys}
use Rattle.operator_wires.specs.Gives.{Grows}
use Rattle.operator_wires.specs.Words.{IsWord}
use Rattle.operator_wires.specs.Built.{Base, IsEarlier, AreWires}
use Rattle.operator_wires.proofs.PutSignals.{grows_refl, grows_then, listed}
use Rattle.operator_wires.proofs.BuiltWires.{stands_after, wires_none, wires_then}
use Rattle.operator_wires.proofs.TypedWords.{at_least, at_most}
use Rattle.block_datapath.specs.declared.registers.Registers.{Registers}
use Rattle.block_datapath.specs.declared.registers.UnitResults.{UnitResults}
use Rattle.block_datapath.specs.Units.{is_for, unit_type, unit_place, same_operator, same_type, word_at, HasUnits}
use Rattle.block_datapath.proofs.SharedResults.{shared_at}
use Rattle.block_datapath.proofs.BlockWires.{registers_after, room}
use Rattle.unit_datapath.specs.declared.kinds.UnitKind.{UnitKind}
use Rattle.unit_datapath.specs.declared.inputs.UnitInputs.{UnitInputs}
use Rattle.unit_datapath.specs.Kinds.{is_of}
use Rattle.unit_datapath.specs.Inputs.{AreInputs, BeginsInputs}
use Rattle.unit_datapath.specs.Links.{IsAtWork, LinksStages}
use Rattle.unit_datapath.specs.Results.{HasWidth, AddsPlaces, ShowsResults}
use Rattle.unit_datapath.specs.Units.{CanHaveUnits, UnitsStand, IsInCode, LaysInputs, ShowsUnits, LaysUnits, IsLaid}
use Rattle.unit_datapath.proofs.UnitInputs.{inputs_after}
use Rattle.unit_datapath.proofs.UnitKinds.{shared_from}
use Rattle.unit_datapath.proofs.UnitValues.{type_is, operator_is, made_of_kind, unit_value, kind_result}

-- ---- widths

earlier_wide : (a : List Signal) (base : Base) (y w : ℕ) (m : Module) → IsEarlier a base y w → Grows a m.signals → width m y ≡ w
earlier_wide a base y w m e g = ap signal_width (listed a m.signals y e.signal g e.listed) ∙ e.wide

links_wide : (a : List Signal) (base : Base) (n x : ℕ) (ty : IntegerType) (c : UnitInputs) (m : Module) → AreInputs a base (width_of ty) n c → x < n → Grows a m.signals →
    HasWidth m c x ty
links_wide a base n x ty c m t less g = record {
  left = earlier_wide a base (slice_index c.lefts x) (width_of ty) m
      (t.lefts.each x (slice_index c.lefts x) (slice_get-get_or c.lefts x 0 (subst (λ (k : ℕ). x < k) (sym t.lefts.count) less))) g;
  right = earlier_wide a base (slice_index c.rights x) (width_of ty) m
      (t.rights.each x (slice_index c.rights x) (slice_get-get_or c.rights x 0 (subst (λ (k : ℕ). x < k) (sym t.rights.count) less))) g;
}

-- ---- lists

pub only_get : {A : Type 0} (v u : A) (x : ℕ) → slice_get (v ∷ []) x ≡ Some u → v ≡ u
only_get v u zero e = cc
only_get v u (suc x) e = absurd cc

-- ---- operands

can_after : (a b : List Signal) (base : Base) (code : ThreadCode) (registers : Registers) (plan : Planned) → Grows a b → CanHaveUnits base a code registers plan →
    CanHaveUnits base b code registers plan
can_after a b base code registers plan g t = record { slots = registers_after a b base code.variables registers g t.slots; stages = t.stages; states = t.states }

module _ (code : ThreadCode) (registers : Registers) (plan : Planned) where
  pub inputs_laid : (kind : UnitKind) (count w : ℕ) (a b c : List Signal) (before after : UnitInputs) → w ≡ width_of kind.ty → BeginsInputs a b count w before →
      LinksStages code registers kind plan b c before after (length code.stages) → LaysInputs code registers plan kind count a c after
  inputs_laid kind count w a b c before after wide begins0 links = record {
    grows = grows_then a b c begins.grows links.grows;
    many = links.many count begins.many;
    works = λ globals m r q block p wire k left right few g o at less work.
        links.works q.stage block p globals m r q wire k count left right (slice_get_within code.stages q.stage (stage.Run block) at.listed) at.listed at.planned_so at.right g o
        (λ j inside. record { wide = at.inside.has.wide; room = omega (arith, inside, few); fits = at.inside.has.fits }) at.inside at.sees begins.many less work;
    wired = λ base can.
        let low = at_least kind.ty in
        let high = at_most kind.ty in
        let first = begins.wired base (room a base code.variables registers can.slots) (omega (arith, low)) high in
        let small = can.stages in
        let last = links.wired base count (registers_after a b base code.variables registers first.wires.grows can.slots) (omega (arith, small)) can.states first.inputs in
        record { wires = wires_then base a b c first.wires last.wires; inputs = last.inputs };
  }
    where
      begins : BeginsInputs a b count (width_of kind.ty) before
      begins = subst (λ (n : ℕ). BeginsInputs a b count n before) wide begins0

  -- ---- the results of one operator

  module _ (kind : UnitKind) (count : ℕ) (a b : List Signal) (c : UnitInputs) (inputs : LaysInputs code registers plan kind count a b c) (base : Base)
      (can : CanHaveUnits base a code registers plan) where
    entry_shown : (d e : List Signal) (operator : BinaryOperator) (n : ℕ) (u : UnitResults) → Grows b d → n ≤ count → is_of kind operator kind.ty ≡ true → u.operator ≡ operator →
        u.ty ≡ kind.ty → ShowsResults d e c operator kind.ty n u.places → ShowsUnits code registers plan e u
    entry_shown d e operator n u more few of_kind same_o same_t results globals m r q block p wire k place own ty left right g o at there from to free made got =
        let one : same_operator operator own ≡ true =
        subst (λ (z : BinaryOperator). same_operator z own ≡ true) same_o (and_parts (same_operator u.operator own) (same_type u.ty (unit_type own ty)) made).0 in
        let two : same_type kind.ty (unit_type own ty) ≡ true =
        subst (λ (z : IntegerType). same_type z (unit_type own ty) ≡ true) same_t (and_parts (same_operator u.operator own) (same_type u.ty (unit_type own ty)) made).1 in
        let is_own : operator ≡ own = operator_is operator own one in
        let is_type : kind.ty ≡ unit_type own ty = type_is kind.ty (unit_type own ty) two in
        let self : same_operator own own ≡ true = subst (λ (z : BinaryOperator). same_operator z own ≡ true) is_own one in
        let kind_of_own : is_of kind own kind.ty ≡ true = subst (λ (z : BinaryOperator). is_of kind z kind.ty ≡ true) is_own of_kind in
        let inside : slice_index p.units k < n = subst (λ (z : ℕ). slice_index p.units k < z) results.count (slice_get_within u.places (slice_index p.units k) place got) in
        let less : slice_index p.units k < count = omega (arith, inside, few) in
        let work : IsAtWork kind block p q k left right =
        record {
          operator = own;
          ty = ty;
          listed = there;
          shared = shared_from kind own ty left right (made_of_kind kind own ty self kind_of_own two) free;
          from = from;
          to = to;
        }
        in
        let to_d = grows_then d e m.signals results.grows g in
        let to_b = grows_then b d m.signals more to_d in
        let first : ℤ = operand_now (planned_view block) (plan_view block p) q wire (operand_view left) in
        let second : ℤ = operand_now (planned_view block) (plan_view block p) q wire (operand_view right) in
        let gets = inputs.works globals m r q block p wire k left right can.stages to_b o at less work in
        let made_inputs = inputs.wired base can in
        let wide = links_wide b base count (slice_index p.units k) kind.ty c m made_inputs.inputs less to_b in
        let word = results.shows m r (slice_index p.units k) place first second g o got wide gets in
        unit_value m r place ty first second own self
        (subst (λ (z : IntegerType). IsWord m r (word_at place (binary_result own z)) (binary_result own z) (binary_total own z (wrapped z first) (wrapped z second))) is_type
        (subst (λ (z : BinaryOperator). IsWord m r (word_at place (binary_result z kind.ty)) (binary_result z kind.ty)
        (binary_total z kind.ty (wrapped kind.ty first) (wrapped kind.ty second))) is_own word))

  -- lists of results of some operators of a kind, behind its operands
  pub record LaysFrom (a b new : List Signal) (results : List UnitResults) : Type 0 where
    pub grows : Grows b new
    pub shown : (base : Base) → CanHaveUnits base a code registers plan → (x : ℕ) (u : UnitResults) → slice_get results x ≡ Some u → ShowsUnits code registers plan new u
    pub wires : (base : Base) → CanHaveUnits base a code registers plan → AreWires base b new
    pub stands : (base : Base) → CanHaveUnits base a code registers plan → UnitsStand new base results

  shown_later : (d e : List Signal) (u : UnitResults) → Grows d e → ShowsUnits code registers plan d u → ShowsUnits code registers plan e u
  shown_later d e u more t globals m r q b p wire k place own ty left right g o at there from to free made got =
      t globals m r q b p wire k place own ty left right (grows_then d e m.signals more g) o at there from to free made got

  pub from_none : (a b : List Signal) → LaysFrom a b b []
  from_none a b = record {
    grows = grows_refl b;
    shown = λ base can x u e. absurd cc;
    wires = λ base can. wires_none base b;
    stands = λ base can x n place u e f. absurd cc;
  }

  pub from_more : (kind : UnitKind) (count : ℕ) (a b d e : List Signal) (c : UnitInputs) (operator : BinaryOperator) (n : ℕ) (results more : List UnitResults) →
      LaysInputs code registers plan kind count a b c → LaysFrom a b d results → n ≤ count → (0 < n → is_of kind operator kind.ty ≡ true) →
      IsLaid d e c operator kind.ty n more → LaysFrom a b e (results ++ more)
  from_more kind count a b d e c operator n results [] inputs t few of_kind laid =
      subst (λ (l : List UnitResults). LaysFrom a b e l) (sym (append-nil results)) (subst (λ (s : List Signal). LaysFrom a b s results) (sym laid.1) t)
  from_more kind count a b d e c operator n results (u ∷ v ∷ us) inputs t few of_kind laid = absurd laid
  from_more kind count a b d e c operator n results (u ∷ []) inputs t few of_kind laid = record {
    grows = grows_then b d e t.grows shows.grows;
    shown = λ base can x w there.
        ⊎_elim
        (λ (f : slice_get results x ≡ Some w). shown_later d e w shows.grows (t.shown base can x w f))
        (λ (f : (y : ℕ) × (slice_get (u ∷ []) y ≡ Some w)).
        subst (λ (z : UnitResults). ShowsUnits code registers plan e z) (only_get u w f.0 f.1)
        (entry_shown kind count a b c inputs base can d e operator n u t.grows few yes laid.0 laid.1 shows))
        (get_either results (u ∷ []) x w there);
    wires = λ base can. wires_then base b d e (t.wires base can) (added base can).wires;
    stands = λ base can x k place w there got.
        ⊎_elim
        (λ (f : slice_get results x ≡ Some w). stands_after d e base place (width_of w.ty) shows.grows (t.stands base can x k place w f got))
        (λ (f : (y : ℕ) × (slice_get (u ∷ []) y ≡ Some w)).
        let same : u ≡ w = only_get u w f.0 f.1 in
        let wide : width_of (binary_result operator kind.ty) ≡ width_of w.ty = ap width_of (kind_result kind operator yes ∙ sym laid.1 ∙ ap (λ (z : UnitResults). z.ty) same) in
        subst (λ (z : ℕ). IsEarlier e base place z) wide
        ((added base can).stand.each k place (subst (λ (z : UnitResults). slice_get z.places k ≡ Some place) (sym same) got)))
        (get_either results (u ∷ []) x w there);
  }
    where
      shows : ShowsResults d e c operator kind.ty n u.places
      shows = laid.3

      yes : is_of kind operator kind.ty ≡ true
      yes = of_kind laid.2

      added : (base : Base) → CanHaveUnits base a code registers plan → AddsPlaces base d e (width_of (binary_result operator kind.ty)) n u.places
      added base can = shows.wired base count (inputs_after b d base (width_of kind.ty) count c t.grows (inputs.wired base can).inputs)

  pub kind_laid : (kind : UnitKind) (count : ℕ) (a b e : List Signal) (c : UnitInputs) (results : List UnitResults) → LaysInputs code registers plan kind count a b c →
      LaysFrom a b e results → LaysUnits code registers plan a e results
  kind_laid kind count a b e c results inputs t = record {
    grows = grows_then a b e inputs.grows t.grows;
    shown = t.shown;
    wires = λ base can. wires_then base a b e (inputs.wired base can).wires (t.wires base can);
    stands = t.stands;
  }

  pub kind_empty : (a : List Signal) → LaysUnits code registers plan a a []
  kind_empty a = record {
    grows = grows_refl a;
    shown = λ base can x u e. absurd cc;
    wires = λ base can. wires_none base a;
    stands = λ base can x n place u e f. absurd cc;
  }

  -- ---- all kinds

  pub units_more : (a b d : List Signal) (xs ys : List UnitResults) → LaysUnits code registers plan a b xs → LaysUnits code registers plan b d ys →
      LaysUnits code registers plan a d (xs ++ ys)
  units_more a b d xs ys t u = record {
    grows = grows_then a b d t.grows u.grows;
    shown = λ base can x w there.
        ⊎_elim
        (λ (f : slice_get xs x ≡ Some w). shown_later b d w u.grows (t.shown base can x w f))
        (λ (f : (y : ℕ) × (slice_get ys y ≡ Some w)). u.shown base (can_after a b base code registers plan t.grows can) f.0 w f.1)
        (get_either xs ys x w there);
    wires = λ base can. wires_then base a b d (t.wires base can) (u.wires base (can_after a b base code registers plan t.grows can));
    stands = λ base can x k place w there got.
        ⊎_elim
        (λ (f : slice_get xs x ≡ Some w). stands_after b d base place (width_of w.ty) u.grows (t.stands base can x k place w f got))
        (λ (f : (y : ℕ) × (slice_get ys y ≡ Some w)). u.stands base (can_after a b base code registers plan t.grows can) f.0 k place w f.1 got)
        (get_either xs ys x w there);
  }

-- a place is found in a list for the operator and the type
pub place_found : (us : List UnitResults) (operator : BinaryOperator) (ty : IntegerType) (n place : ℕ) → unit_place us operator ty n ≡ Some place →
    (x : ℕ) × (u : UnitResults) × (slice_get us x ≡ Some u) × (is_for operator ty u ≡ true) × (slice_get u.places n ≡ Some place)
place_found [] operator ty n place e = absurd cc
place_found (u ∷ us) operator ty n place e = by_first (is_for operator ty u) refl (λ f. place_found us operator ty n place f)
  where
    by_first : (t : Bool) → is_for operator ty u ≡ t →
        (unit_place us operator ty n ≡ Some place →
        (x : ℕ) × (w : UnitResults) × (slice_get us x ≡ Some w) × (is_for operator ty w ≡ true) × (slice_get w.places n ≡ Some place)) →
        (x : ℕ) × (w : UnitResults) × (slice_get (u ∷ us) x ≡ Some w) × (is_for operator ty w ≡ true) × (slice_get w.places n ≡ Some place)
    by_first true f later = (0, u, refl, f, sym (ap (λ (z : Bool). if z then slice_get u.places n else unit_place us operator ty n) f) ∙ e)
    by_first false f later =
        let rest = later (sym (ap (λ (z : Bool). if z then slice_get u.places n else unit_place us operator ty n) f) ∙ e) in
        (suc rest.0, rest.1, rest.2, rest.3, rest.4)

pub units_seen : (code : ThreadCode) (registers : Registers) (plan : Planned) (a b : List Signal) (results : List UnitResults) → LaysUnits code registers plan a b results →
    (base : Base) →
    CanHaveUnits base a code registers plan → (globals : List IntegerType) (m : Module) (r : Reading) (q : Slot) (block : Block) (p : BlockPlan) (wire : ℕ → ℤ) →
    Grows b m.signals →
    Obeys m r → IsInCode code registers plan globals m r q block p → HasUnits results block p m r q wire
units_seen code registers plan a b results t base can globals m r q block p wire g o at k place operator ty left right there from to got =
    let shares = shared_at results operator ty left right (slice_index p.units k) place got in
    let found = place_found results operator ty (slice_index p.units k) place shares.1 in
    t.shown base can found.0 found.1 found.2 globals m r q block p wire k place operator ty left right g o at there from to shares.0 found.3 found.4
