-- Registers one behind the other, and their widths.
use Rattle.std.proofs.Common.{◌≡◌, ◌≢◌, ℕ, ◌+◌, ◌<◌, ◌≤◌, ◌^◌, List, [], ◌∷◌, ◌++◌, length, map, slice_get, Some, refl, sym, ap, subst, ◌∙◌, arith, ⊎_elim, length-append}
use Rattle.std.proofs.lemmas.List.{length-map}
use Rattle.hls_ints.specs.Types.{IntegerType, width_of}
use Rattle.bank_partition.specs.declared.banks.Spread.{Spread}
use Rattle.block_ir.specs.declared.block.Operation.{Operation}
use Rattle.block_ir.specs.declared.block.Block.{Block}
use Rattle.block_ir.specs.declared.code.Stage.{Stage}
use Rattle.block_ir.specs.declared.code.ThreadCode.{ThreadCode}
use Rattle.block_ir.specs.declared.plan.BlockPlan.{BlockPlan}
use Rattle.block_ir.specs.declared.plan.StagePlan.{StagePlan}
use Rattle.block_ir.specs.declared.plan.StagePlan.TheVariants as planned
use Rattle.block_ir.specs.declared.plan.Planned.{Planned}
use Rattle.block_datapath.specs.View.{register_at}
use Rattle.netlist.specs.declared.netlist.Signal.{Signal}
use Rattle.netlist.specs.declared.netlist.Source.{Source}
use Rattle.netlist.specs.declared.netlist.Source.TheVariants as source
use Rattle.operator_wires.specs.declared.wires.Role.TheVariants.{Beat}
use Rattle.operator_wires.specs.Built.{Lays}
use Rattle.operator_wires.specs.Gives.{Grows, Stands}
use Rattle.operator_wires.proofs.PutSignals.{grows_refl, grows_then, listed}
use Rattle.block_datapath.specs.Types.{value_type}
use Rattle.block_datapath.specs.declared.registers.Held.{Held}
use Rattle.block_datapath.specs.declared.registers.Registers.{Registers}
use Rattle.std.specs.Prelude.{false, codes, string_bytes}
use Rattle.std.proofs.lemmas.Bool.{cases_eq}
use Rattle.lists.proofs.Places.{get_last, get_front}
use Rattle.thread_slots.specs.Naming.{register_name, LaysNamed, IsNamedAt, AreNamed}
use Rattle.thread_slots.specs.Slots.{StandsAt, LaysRegister, StandFrom, LaysAll, IsHeldAt, LaysSlot, Widens, HasRoomAt, KeepsOperations, WidensStage, AreKeptWidths}

-- ---- places

pub stands_last : (a b : List Signal) (w place : ℕ) (d : Source) → Stands a b w d place → StandsAt b (length a) w d
stands_last a b w place d t = record {
  signal = t.signal;
  listed = ap (λ l. slice_get l (length a)) t.is ∙ get_last a t.signal;
  wide = t.wide;
  drives = t.drives;
}

pub stands_grow : (a b : List Signal) (w place : ℕ) (d : Source) → Stands a b w d place → Grows a b
stands_grow a b w place d t = record { more = t.signal ∷ []; is = t.is }

pub stands_long : (a b : List Signal) (w place : ℕ) (d : Source) → Stands a b w d place → length b ≡ length a + 1
stands_long a b w place d t = ap length t.is ∙ length-append a (t.signal ∷ [])

pub stands_later : (a b : List Signal) (place w : ℕ) (d : Source) → Grows a b → StandsAt a place w d → StandsAt b place w d
stands_later a b place w d g t = record { signal = t.signal; listed = listed a b place t.signal g t.listed; wide = t.wide; drives = t.drives }

pub stand_later : (d : Source) (a b : List Signal) (from : ℕ) (widths : List ℕ) (registers : List Held) (n : ℕ) → Grows a b → StandFrom d a from widths registers n
    → StandFrom d b from widths registers n
stand_later d a b from widths registers n g t k w lt e = let f = t k w lt e in (f.0, f.1, f.2, f.3, stands_later a b (from + k) w d g f.4)

pub lays_none : (d : Source) (a : List Signal) (widths : List ℕ) (registers : List Held) → registers ≡ [] → LaysAll d a a widths 0 registers
lays_none d a widths registers e = record { grows = grows_refl a; long = omega arith; count = ap length e; each = λ k w lt there. absurd (omega arith) }

pub lays_more : (d : Source) (a b c : List Signal) (widths : List ℕ) (n : ℕ) (registers after : List Held) (w : ℕ) (h : Held) → LaysAll d a b widths n registers →
    slice_get widths n ≡ Some w
    → h.width ≡ w → Stands b c w d h.register → after ≡ registers ++ h ∷ [] → LaysAll d a c widths (n + 1) after
lays_more d a b c widths n registers after w h t here says u e =
    subst (λ (l : List Held). LaysAll d a c widths (n + 1) l) (sym e)
    (record {
      grows = grows_then a b c t.grows more;
      long = (let x = t.long in let y = stands_long b c w h.register d u in omega arith);
      count = length-append registers (h ∷ []) ∙ ap (λ k. k + 1) t.count;
      each = λ k v lt there. ⊎_elim
          (λ (same : k ≡ n).
          let one : w ≡ v = (let z = ap (slice_get widths) same in cc) in
          let long = t.long in
          let at : length b ≡ length a + k = omega arith in (
            h,
            ap (slice_get (registers ++ h ∷ [])) (same ∙ sym t.count) ∙ get_last registers h,
            says ∙ one,
            u.last ∙ at,
            subst (λ (x : ℕ). StandsAt c x v d) at
                (subst (λ (x : ℕ). StandsAt c (length b) x d) one (stands_last b c w h.register d u)),
          ))
          (λ (ne : k ≢ n).
          let less : k < n = omega arith in
          let f = t.each k v less there in
          (f.0, get_front registers (h ∷ []) k f.0 f.1, f.2, f.3, stands_later b c (length a + k) v d more f.4))
          (cases_eq k n);
    })
  where
    more : Grows b c
    more = stands_grow b c w h.register d u

held_at : (a b c : List Signal) (w initial place : ℕ) (h : Held) → LaysRegister a b w initial h → Grows b c → length a ≡ place → IsHeldAt c h place initial
held_at a b c w initial place h t g e = record {
  register = t.stands.last ∙ e;
  stands =
      subst (λ (x : ℕ). StandsAt c x h.width (source.Register initial)) e
      (subst (λ (x : ℕ). StandsAt c (length a) x (source.Register initial)) (sym t.width)
      (stands_later b c (length a) w (source.Register initial) g (stands_last a b w h.register (source.Register initial) t.stands)));
}

-- ---- names

named_last : (a b : List Signal) (name : List ℕ) (w : ℕ) (h : Held) → LaysNamed a b name w h → IsNamedAt b (length a) name
named_last a b name w h t = record { signal = t.signal; listed = ap (λ l. slice_get l (length a)) t.is ∙ get_last a t.signal; named = t.named }

-- the beat
beat_last : (a b : List Signal) (place : ℕ) → Lays a b Beat 1 false (source.Register 0) place → IsNamedAt b (length a) (codes "beat")
beat_last a b place t = record { signal = t.signal; listed = ap (λ l. slice_get l (length a)) t.is ∙ get_last a t.signal; named = t.named }

named_later : (a b : List Signal) (place : ℕ) (name : List ℕ) → Grows a b → IsNamedAt a place name → IsNamedAt b place name
named_later a b place name g t = record { signal = t.signal; listed = listed a b place t.signal g t.listed; named = t.named }

pub are_named_later : (a b : List Signal) (from : ℕ) (names : List (List ℕ)) (n : ℕ) → Grows a b → AreNamed a from names n → AreNamed b from names n
are_named_later a b from names n g t k less = named_later a b (from + k) (register_name names k (from + k)) g (t k less)

pub named_stands : (a b : List Signal) (name : List ℕ) (w : ℕ) (h : Held) → LaysNamed a b name w h → Stands a b w (source.Register 0) h.register
named_stands a b name w h t = record { last = t.last; signal = t.signal; is = t.is; wide = t.wide; drives = t.drives }

pub named_none : (a : List Signal) (from : ℕ) (names : List (List ℕ)) → AreNamed a from names 0
named_none a from names k less = absurd (omega arith)

pub named_more : (a b c : List Signal) (names : List (List ℕ)) (n w : ℕ) (h : Held) → length b ≡ length a + n → AreNamed b (length a) names n →
    LaysNamed b c (register_name names n (length b)) w h → AreNamed c (length a) names (n + 1)
named_more a b c names n w h long t u k less =
    ⊎_elim
    (λ (same : k ≡ n).
    let at : length b ≡ length a + k = long ∙ ap (λ i. length a + i) (sym same) in
    subst (λ x. IsNamedAt c x (register_name names k x)) at
    (subst (λ i. IsNamedAt c (length b) (register_name names i (length b))) (sym same) (named_last b c (register_name names n (length b)) w h u)))
    (λ (ne : k ≢ n).
    named_later b c (length a + k) (register_name names k (length a + k)) (stands_grow b c w h.register (source.Register 0) (named_stands b c (register_name names n (length b)) w h u))
    (t k (let z : k < n = omega arith in z)))
    (cases_eq k n)

-- ---- the slot

pub slot_laid : (a b c d e f : List Signal) (code : ThreadCode) (plan : Planned) (first end most stage_width state_width : ℕ) (widths kept_widths : List ℕ)
    (types : List IntegerType)
    (plans : List StagePlan) (words : List Held) (spreads : List Spread) (registers : Registers) → registers.words ≡ words → registers.spreads ≡ spreads → plans ≡ plan.stages →
    types ≡ code.variables → widths ≡ map width_of types → end ≡ length code.stages
    → end + end < 2 ^ stage_width → most ≤ 2 ^ state_width → most < 2 ^ 64 → ((l : ℕ) (p : BlockPlan) → slice_get plans l ≡ Some (planned.Run p) → p.states ≤ most)
    → LaysRegister a b stage_width first registers.stage → LaysRegister b c state_width 0 registers.state → Stands c d 1 (source.Register 0) registers.beat
    → Lays c d Beat 1 false (source.Register 0) registers.beat
    → LaysAll (source.Register 0) d e widths (length widths) registers.variables → AreNamed e (length d) (map string_bytes code.names) (length widths)
    → LaysAll (source.Register 0) e f kept_widths (length kept_widths) registers.kept
    → LaysSlot code plan first kept_widths words spreads a f registers
slot_laid a b c d e f code plan first end most stage_width state_width widths kept_widths types plans words spreads registers words_are spreads_are plans_are types_are widths_are
    end_is room state_room fits states s t u called v named w =
    let b_long = stands_long a b stage_width registers.stage.register (source.Register first) s.stands in
    let c_long = stands_long b c state_width registers.state.register (source.Register 0) t.stands in
    let d_long = stands_long c d 1 registers.beat (source.Register 0) u in
    let e_long = v.long in
    let count : length widths ≡ length code.variables = ap length widths_are ∙ length-map types width_of ∙ ap length types_are in
    let list : widths ≡ map width_of code.variables = widths_are ∙ ap (map width_of) types_are in
    let from_d : Grows d f = grows_then d e f v.grows w.grows in
    let from_c : Grows c f = grows_then c d f (stands_grow c d 1 registers.beat (source.Register 0) u) from_d in
    let from_b : Grows b f = grows_then b c f (stands_grow b c state_width registers.state.register (source.Register 0) t.stands) from_c in
    let at_state : length b ≡ length a + 1 = omega arith in
    let at_beat : length c ≡ length a + 2 = omega arith in
    let at_variables : length d ≡ length a + 3 = omega arith in
    let at_kept : length e ≡ length a + 3 + length code.variables = omega arith in
    let held_states : (l : ℕ) (p : BlockPlan) → slice_get plan.stages l ≡ Some (planned.Run p) → p.states ≤ most =
    λ l p listed. states l p (ap (λ (x : List StagePlan). slice_get x l) plans_are ∙ listed) in
    record {
      grows = grows_then a b f (stands_grow a b stage_width registers.stage.register (source.Register first) s.stands) from_b;
      stage = held_at a b f stage_width first (length a) registers.stage s from_b refl;
      state = held_at b c f state_width 0 (length a + 1) registers.state t from_c at_state;
      beat = u.last ∙ at_beat;
      beat_stands =
          subst (λ (x : ℕ). StandsAt f x 1 (source.Register 0)) at_beat
          (stands_later d f (length c) 1 (source.Register 0) from_d (stands_last c d 1 registers.beat (source.Register 0) u));
      beat_named =
          subst (λ (x : ℕ). IsNamedAt f x (codes "beat")) at_beat (named_later d f (length c) (codes "beat") from_d (beat_last c d registers.beat called));
      variables_count = v.count ∙ count;
      variables =
          subst (λ (n : ℕ). StandFrom (source.Register 0) f (length a + 3) (map width_of code.variables) registers.variables n) count
          (subst (λ (l : List ℕ). StandFrom (source.Register 0) f (length a + 3) l registers.variables (length widths)) list
          (subst (λ (x : ℕ). StandFrom (source.Register 0) f x widths registers.variables (length widths)) at_variables
          (stand_later (source.Register 0) e f (length d) widths registers.variables (length widths) w.grows v.each)));
      variables_named =
          subst (λ (n : ℕ). AreNamed f (length a + 3) (map string_bytes code.names) n) count
          (subst (λ (x : ℕ). AreNamed f x (map string_bytes code.names) (length widths)) at_variables
          (are_named_later e f (length d) (map string_bytes code.names) (length widths) w.grows named));
      kept_count = w.count;
      words_are = words_are;
      spreads_are = spreads_are;
      kept = subst (λ (x : ℕ). StandFrom (source.Register 0) f x kept_widths registers.kept (length kept_widths)) at_kept w.each;
      stage_room = subst (λ (n : ℕ). length code.stages + length code.stages < 2 ^ n) (sym s.width) (subst (λ (n : ℕ). n + n < 2 ^ stage_width) end_is room);
      state_room = λ l p listed. subst (λ (n : ℕ). p.states ≤ 2 ^ n) (sym t.width) (let h = held_states l p listed in omega arith);
      states_fit = λ l p listed. (let h = held_states l p listed in omega arith);
    }

-- ---- widths

pub widens_then : (a b c : List ℕ) → Widens a b → Widens b c → Widens a c
widens_then a b c t u = record { count = u.count ∙ t.count; more = λ x w h. u.more x w (t.more x w h) }

module _ (globals : List IntegerType) (code : ThreadCode) where
  pub operations_more : (b : Block) (p : BlockPlan) (first before after : List ℕ) (n w : ℕ) (o : Operation) → KeepsOperations globals code b p first before n →
      slice_get b.operations n ≡ Some o
      → w ≡ width_of (value_type globals code o) → Widens before after → ((x : ℕ) → register_at p.registers n ≡ Some x → HasRoomAt after x w)
      → KeepsOperations globals code b p first after (n + 1)
  operations_more b p first before after n w o t listed e more room = record {
    widens = widens_then first before after t.widens more;
    room = λ k x u lt there register. ⊎_elim
        (λ (same : k ≡ n).
        let one : o ≡ u = (let z = ap (slice_get b.operations) same in cc) in
        subst (λ (z : Operation). HasRoomAt after x (width_of (value_type globals code z))) one
        (subst (λ (z : ℕ). HasRoomAt after x z) e (room x (ap (register_at p.registers) (sym same) ∙ register))))
        (λ (ne : k ≢ n). more.more x (width_of (value_type globals code u)) (t.room k x u (let less : k < n = omega arith in less) there register))
        (cases_eq k n);
  }

  pub stages_more : (plan : Planned) (n : ℕ) (s : Stage) (before after : List ℕ) → AreKeptWidths globals code plan n before → slice_get code.stages n ≡ Some s
      → WidensStage globals code s (slice_get plan.stages n) before after → AreKeptWidths globals code plan (n + 1) after
  stages_more plan n s before after t listed w = record {
    count = w.widens.count ∙ t.count;
    room = λ l b p k x o lt there planned_there at register. ⊎_elim
        (λ (same : l ≡ n).
        w.room b p k x o (let z = ap (slice_get code.stages) same in cc) (ap (slice_get plan.stages) (sym same) ∙ planned_there) at register)
        (λ (ne : l ≢ n).
        w.widens.more x (width_of (value_type globals code o)) (t.room l b p k x o (let less : l < n = omega arith in less) there planned_there at register))
        (cases_eq l n);
  }
