-- Chains whose links stand among signals, with more links.
use Rattle.std.proofs.Common.{◌≡◌, ℕ, suc, ◌<◌, ◌≤◌, ◌^◌, Bool, if◌then◌else◌, List, length, map, Some, sym, ap, subst, ◌∙◌, arith}
use Rattle.std.specs.Prelude.{slice_get, option_map}
use Rattle.std.proofs.lemmas.Option.{slice_get-map}
use Rattle.std.proofs.Math.Dec.{eqb-suc-zero}
use Rattle.hls_ints.specs.Types.{width_of}
use Rattle.block_ir.specs.declared.code.ThreadCode.{ThreadCode}
use Rattle.netlist.specs.declared.netlist.Signal.{Signal}
use Rattle.operator_wires.specs.Gives.{Grows}
use Rattle.operator_wires.specs.Built.{Base, IsEarlier, AreWires, Adds}
use Rattle.operator_wires.proofs.PutSignals.{grows_then}
use Rattle.operator_wires.proofs.BuiltWires.{stands_after, wires_then, room_of, longer}
use Rattle.block_datapath.specs.declared.registers.Held.{Held}
use Rattle.block_datapath.specs.declared.registers.Registers.{Registers}
use Rattle.block_datapath.specs.Wired.{CanRead}
use Rattle.thread_slots.specs.declared.chains.Chains.{Chains}
use Rattle.thread_slots.specs.Links.{Begins}
use Rattle.thread_slots.specs.Wired.{field_width, LinkFields, AreSlots, AreLinked, KeepsLinks}

-- ---- more signals behind

module _ (base : Base) (a b : List Signal) (g : Grows a b) where
  abbrev later : (y w : ℕ) → IsEarlier a base y w → IsEarlier b base y w
  later y w e = stands_after a b base y w g e

  pub slots_later : (code : ThreadCode) (registers : Registers) → AreSlots base a code registers → AreSlots base b code registers
  slots_later code registers t = record {
    stage = later registers.stage.register registers.stage.width t.stage;
    state = later registers.state.register registers.state.width t.state;
    beat = later registers.beat 1 t.beat;
    variables = λ x h e. later h.register h.width (t.variables x h e);
    kept = λ x h e. later h.register h.width (t.kept x h e);
    typed = t.typed;
    count = t.count;
    room = t.room;
    arrays = t.arrays;
    words = λ n h e f. later h.register h.width (t.words n h e f);
    units = λ x n place u e f. later place (width_of u.ty) (t.units x n place u e f);
  }

  pub fields_later : (site_width : ℕ) (links : List ℕ) → LinkFields base a site_width links → LinkFields base b site_width links
  fields_later site_width links t x y e = later y (field_width site_width x) (t x y e)

  pub linked_later : (code : ThreadCode) (registers : Registers) (c : Chains) → AreLinked base a code registers c → AreLinked base b code registers c
  linked_later code registers c t = record {
    slots = slots_later code registers t.slots;
    reads = t.reads;
    stage = later c.stage registers.stage.width t.stage;
    variables = λ x y h e f. later y h.width (t.variables x y h e f);
    kept = λ x y h e f. later y h.width (t.kept x y h e f);
    variables_count = t.variables_count;
    kept_count = t.kept_count;
    is_last = later c.is_last 1 t.is_last;
    waits = later c.waits 1 t.waits;
  }

-- ---- one more link

module _ (base : Base) (a b c : List Signal) (code : ThreadCode) (registers : Registers) (before after : Chains) (linked : AreLinked base a code registers before) where
  pub lead_linked : Adds base a b 1 after.is_last → Adds base b c registers.stage.width after.stage → after ≡ record before { is_last = after.is_last; stage = after.stage }
      → KeepsLinks base a c code registers after
  lead_linked t u same =
      let old = linked_later base a c (grows_then a b c t.wires.grows u.wires.grows) code registers before linked in
      record {
        wires = wires_then base a b c t.wires u.wires;
        linked =
            subst (λ (z : Chains). AreLinked base c code registers z) (sym same)
            (record {
              slots = old.slots;
              reads = old.reads;
              stage = u.stands;
              variables = old.variables;
              kept = old.kept;
              variables_count = old.variables_count;
              kept_count = old.kept_count;
              is_last = stands_after b c base after.is_last 1 u.wires.grows t.stands;
              waits = old.waits;
            });
      }

  pub wait_linked : Adds base a c 1 after.waits → after ≡ record before { waits = after.waits } → KeepsLinks base a c code registers after
  wait_linked t same =
      let old = linked_later base a c t.wires.grows code registers before linked in
      record {
        wires = t.wires;
        linked =
            subst (λ (z : Chains). AreLinked base c code registers z) (sym same)
            (record {
              slots = old.slots;
              reads = old.reads;
              stage = old.stage;
              variables = old.variables;
              kept = old.kept;
              variables_count = old.variables_count;
              kept_count = old.kept_count;
              is_last = old.is_last;
              waits = t.stands;
            });
      }

pub keeps_then : (base : Base) (a b c : List Signal) (code : ThreadCode) (registers : Registers) (x : Chains) → AreWires base a b → KeepsLinks base b c code registers x
    → KeepsLinks base a c code registers x
keeps_then base a b c code registers x t u = record { wires = wires_then base a b c t u.wires; linked = u.linked }

-- ---- the first links

held_places : (hs : List Held) (places : List ℕ) → places ≡ map (λ (h : Held). h.register) hs → (x y : ℕ) (h : Held) → slice_get places x ≡ Some y → slice_get hs x ≡ Some h →
    h.register ≡ y
held_places hs places e x y h f g =
    let there : slice_get places x ≡ Some h.register =
    ap (λ (l : List ℕ). slice_get l x) e ∙ slice_get-map (λ (k : Held). k.register) hs x ∙ ap (option_map (λ (k : Held). k.register)) g in
    cc

pub begin_linked : (base : Base) (a b c : List Signal) (code : ThreadCode) (registers : Registers) (first second : List Held) (chains : Chains)
    → first ≡ registers.variables → second ≡ registers.kept → chains.variables ≡ map (λ (h : Held). h.register) first → chains.kept ≡ map (λ (h : Held). h.register) second
    → length chains.variables ≡ length registers.variables → length chains.kept ≡ length registers.kept → AreSlots base a code registers → CanRead base code registers
    → Adds base a b 1 chains.is_last → Adds base b c 1 chains.waits → chains.stage ≡ registers.stage.register → KeepsLinks base a c code registers chains
begin_linked base a b c code registers first second chains one two variables kept variables_count kept_count slots reads is_last waits stage =
    let from_a : Grows a c = grows_then a b c is_last.wires.grows waits.wires.grows in
    record {
      wires = wires_then base a b c is_last.wires waits.wires;
      linked = record {
        slots = slots_later base a c from_a code registers slots;
        reads = reads;
        stage = subst (λ z. IsEarlier c base z registers.stage.width) (sym stage) (stands_after a c base registers.stage.register registers.stage.width from_a slots.stage);
        variables = λ x y h p q.
            let at = held_places first chains.variables variables x y h p (ap (λ (l : List Held). slice_get l x) one ∙ q) in
            subst (λ z. IsEarlier c base z h.width) at (stands_after a c base h.register h.width from_a (slots.variables x h q));
        kept = λ x y h p q.
            let at = held_places second chains.kept kept x y h p (ap (λ (l : List Held). slice_get l x) two ∙ q) in
            subst (λ z. IsEarlier c base z h.width) at (stands_after a c base h.register h.width from_a (slots.kept x h q));
        variables_count = variables_count;
        kept_count = kept_count;
        is_last = stands_after b c base chains.is_last 1 waits.wires.grows is_last.stands;
        waits = waits.stands;
      };
    }

-- all fields but the first have 64 bits
pub later_field : (site_width k : ℕ) → field_width site_width (suc k) ≡ 64
later_field site_width k = ap (λ (t : Bool). if t then site_width else 64) (eqb-suc-zero k)

-- wires that can be added behind enough signals
abbrev pub Bit : Base → List Signal → List Signal → ℕ → Type 0
Bit base a b place = base.first ≤ length a → 1 ≤ 1 → 1 ≤ 64 → 0 < 2 ^ 1 → Adds base a b 1 place

pub begun : (base : Base) (a b c : List Signal) (code : ThreadCode) (registers : Registers) (first second : List Held) (chains : Chains)
    → first ≡ registers.variables → second ≡ registers.kept → chains.variables ≡ map (λ (h : Held). h.register) first → chains.kept ≡ map (λ (h : Held). h.register) second
    → Begins a c registers chains → AreSlots base a code registers → CanRead base code registers → Bit base a b chains.is_last → Bit base b c chains.waits → Grows a b
    → chains.stage ≡ registers.stage.register → KeepsLinks base a c code registers chains
begun base a b c code registers first second chains one two variables kept begins slots reads is_last waits ab stage =
    let room_a = room_of a base registers.stage.register registers.stage.width slots.stage in
    let room_b : base.first ≤ length b = (let l = longer a b ab in omega arith) in
    let some : 0 < 2 ^ 1 = omega arith in
    begin_linked base a b c code registers first second chains one two variables kept begins.variables begins.kept slots reads (is_last room_a (omega arith) (omega arith) some)
    (waits room_b (omega arith) (omega arith) some) stage
