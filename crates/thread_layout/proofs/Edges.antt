-- What an edge leaves in the registers and the words of memories.
use Rattle.std.proofs.Common.{◌≡◌, ◌≢◌, ℕ, zero, suc, ◌+◌, ◌<◌, Bool, true, false, ◌&&◌, nat_eq, nat_lt, if◌then◌else◌, List, [], ◌∷◌, ◌++◌, length, map, slice_get, Option, Some}
use Rattle.std.proofs.Common.{None, refl, sym, ap, ◌∙◌, arith}
use Rattle.std.proofs.lemmas.Option.{slice_get_within}
use Rattle.netlist.specs.declared.netlist.Action.{Action}
use Rattle.verilog_meaning.specs.Readings.{Reading, is_on, register_after, word_after}
use Rattle.planned_block.proofs.Bits.{same_is, other_is}
use Rattle.block_datapath.specs.declared.registers.Held.{Held}
use Rattle.block_datapath.specs.declared.registers.Registers.{Registers}
use Rattle.thread_slots.specs.declared.chains.Chains.{Chains}
use Rattle.thread_states.specs.declared.control.Edge.{Edge}
use Rattle.thread_slots.specs.declared.stores.Store.{Store}
use Rattle.thread_states.specs.Actions.{set_action, sets_of, sets_from, actions_of}
use Rattle.thread_slots.specs.Cells.{store_action}

-- ---- one list behind another

after-append : (r : Reading) (xs ys : List Action) (k old : ℕ) → register_after r (xs ++ ys) k old ≡ register_after r ys k (register_after r xs k old)
after-append r [] ys k old = refl
after-append r (x ∷ xs) ys k old = after-append r xs ys k _

word-append : (r : Reading) (xs ys : List Action) (j k old : ℕ) → word_after r (xs ++ ys) j k old ≡ word_after r ys j k (word_after r xs j k old)
word-append r [] ys j k old = refl
word-append r (x ∷ xs) ys j k old = word-append r xs ys j k _

either_same : (t : Bool) (x : ℕ) → (if t then x else x) ≡ x
either_same true x = refl
either_same false x = refl

-- ---- one statement

module _ (r : Reading) (condition : ℕ) where
  set_hit : (x y k old : ℕ) → r.signal condition ≡ 1 → x ≡ k → register_after r (set_action condition x y ∷ []) k old ≡ r.signal y
  set_hit x y k old on same =
      ap (λ n. if nat_lt 0 n && true then (if nat_eq x k then r.signal y else old) else old) on ∙ ap (λ t. if t then r.signal y else old) (same_is x k same)

  set_miss : (x y k old : ℕ) → x ≢ k → register_after r (set_action condition x y ∷ []) k old ≡ old
  set_miss x y k old ne =
      ap (λ t. if nat_lt 0 (r.signal condition) && true then (if t then r.signal y else old) else old) (other_is x k ne) ∙ either_same (nat_lt 0 (r.signal condition) && true) old

  set_off : (x y k old : ℕ) → r.signal condition ≡ 0 → register_after r (set_action condition x y ∷ []) k old ≡ old
  set_off x y k old off = ap (λ n. if nat_lt 0 n && true then (if nat_eq x k then r.signal y else old) else old) off

  set_word : (x y j k old : ℕ) → word_after r (set_action condition x y ∷ []) j k old ≡ old
  set_word x y j k old = either_same (nat_lt 0 (r.signal condition) && true) old

  -- ---- a statement for each register

  sets_of-off : (h : Held) (next : Option ℕ) (k old : ℕ) → r.signal condition ≡ 0 → register_after r (sets_of condition h next) k old ≡ old
  sets_of-off h None k old off = refl
  sets_of-off h (Some next) k old off = set_off h.register next k old off

  sets_of-miss : (h : Held) (next : Option ℕ) (k old : ℕ) → h.register ≢ k → register_after r (sets_of condition h next) k old ≡ old
  sets_of-miss h None k old ne = refl
  sets_of-miss h (Some next) k old ne = set_miss h.register next k old ne

  sets_of-word : (h : Held) (next : Option ℕ) (j k old : ℕ) → word_after r (sets_of condition h next) j k old ≡ old
  sets_of-word h None j k old = refl
  sets_of-word h (Some next) j k old = set_word h.register next j k old

  sets-off : (nexts : List ℕ) (n : ℕ) (hs : List Held) (k old : ℕ) → r.signal condition ≡ 0 → register_after r (sets_from condition nexts n hs) k old ≡ old
  sets-off nexts n [] k old off = refl
  sets-off nexts n (h ∷ hs) k old off =
      after-append r (sets_of condition h (slice_get nexts n)) (sets_from condition nexts (suc n) hs) k old ∙ sets-off nexts (suc n) hs k _ off
      ∙ sets_of-off h (slice_get nexts n) k old off

  sets-word : (nexts : List ℕ) (n : ℕ) (hs : List Held) (j k old : ℕ) → word_after r (sets_from condition nexts n hs) j k old ≡ old
  sets-word nexts n [] j k old = refl
  sets-word nexts n (h ∷ hs) j k old =
      word-append r (sets_of condition h (slice_get nexts n)) (sets_from condition nexts (suc n) hs) j k old ∙ sets-word nexts (suc n) hs j k _ ∙ sets_of-word h
      (slice_get nexts n) j k old

  sets-miss : (nexts : List ℕ) (n : ℕ) (hs : List Held) (k old : ℕ) → ((i : ℕ) (h : Held) → slice_get hs i ≡ Some h → h.register ≢ k) →
      register_after r (sets_from condition nexts n hs) k old ≡ old
  sets-miss nexts n [] k old ne = refl
  sets-miss nexts n (h ∷ hs) k old ne =
      after-append r (sets_of condition h (slice_get nexts n)) (sets_from condition nexts (suc n) hs) k old
      ∙ sets-miss nexts (suc n) hs k _ (λ i x e. ne (suc i) x e)
      ∙ sets_of-miss h (slice_get nexts n) k old (ne 0 h refl)

  sets-hit : (nexts : List ℕ) (n : ℕ) (hs : List Held) (from i next old : ℕ) (h : Held) → ((j : ℕ) (x : Held) → slice_get hs j ≡ Some x → x.register ≡ from + j) →
      slice_get hs i ≡ Some h
      → slice_get nexts (n + i) ≡ Some next → r.signal condition ≡ 1 → register_after r (sets_from condition nexts n hs) (from + i) old ≡ r.signal next
  sets-hit nexts n [] from i next old h at e f on = absurd cc
  sets-hit nexts n (y ∷ hs) from zero next old h at e f on =
      let head : slice_get nexts n ≡ Some next = (let same : n + 0 ≡ n = omega arith in ap (slice_get nexts) (sym same) ∙ f) in
      after-append r (sets_of condition y (slice_get nexts n)) (sets_from condition nexts (suc n) hs) (from + 0) old
      ∙ sets-miss nexts (suc n) hs (from + 0) _ (λ j x listed same. absurd (let p : x.register ≡ from + suc j = at (suc j) x listed in omega arith))
      ∙ ap (λ o. register_after r (sets_of condition y o) (from + 0) old) head
      ∙ set_hit y.register next (from + 0) old on (at 0 y refl)
  sets-hit nexts n (y ∷ hs) from (suc i) next old h at e f on =
      let step : from + suc i ≡ suc from + i = omega arith in
      let index : n + suc i ≡ suc n + i = omega arith in
      after-append r (sets_of condition y (slice_get nexts n)) (sets_from condition nexts (suc n) hs) (from + suc i) old
      ∙ ap (λ k. register_after r (sets_from condition nexts (suc n) hs) k (register_after r (sets_of condition y (slice_get nexts n)) (from + suc i) old)) step
      ∙ sets-hit nexts (suc n) hs (suc from) i next _ h (λ j x listed. (let p : x.register ≡ from + suc j = at (suc j) x listed in omega arith)) e
      (ap (slice_get nexts) (sym index) ∙ f) on

  -- ---- stores

  stores-stay : (stores : List Store) (k old : ℕ) → register_after r (map (store_action condition) stores) k old ≡ old
  stores-stay [] k old = refl
  stores-stay (s ∷ stores) k old =
      stores-stay stores k _ ∙ either_same (is_on r (condition ∷ s.condition ∷ [])) old

  stores-off : (stores : List Store) (j k old : ℕ) → r.signal condition ≡ 0 → word_after r (map (store_action condition) stores) j k old ≡ old
  stores-off [] j k old off = refl
  stores-off (s ∷ stores) j k old off =
      stores-off stores j k _ off
      ∙ ap (λ n. if nat_lt 0 n && (nat_lt 0 (r.signal s.condition) && true) then (if nat_eq s.memory j && nat_eq (r.signal s.address) k then r.signal s.source else old) else old)
      off

-- ---- all statements of a thread

module _ (r : Reading) (registers : Registers) (c : Chains) (granted : List Held) (stores : List Store) (edge : Edge) where
  abbrev firsts : List Action
  firsts = set_action edge.leave registers.stage.register c.stage ∷ set_action edge.leave registers.state.register edge.state ∷ set_action edge.moved registers.beat edge.beat ∷ []

  abbrev sets_variables : List Action
  sets_variables = sets_from edge.leave c.variables 0 registers.variables

  abbrev sets_kept : List Action
  sets_kept = sets_from edge.leave c.kept 0 registers.kept

  abbrev sets_granted : List Action
  sets_granted = sets_from edge.moved edge.granted 0 granted

  -- the parts in their order
  parts : (k old : ℕ) → register_after r (actions_of registers c granted stores edge) k old
      ≡ register_after r sets_granted k (register_after r sets_kept k (register_after r sets_variables k (register_after r firsts k old)))
  parts k old =
      after-append r (firsts ++ sets_variables ++ sets_kept ++ sets_granted) (map (store_action edge.leave) stores) k old
      ∙ stores-stay r edge.leave stores k _
      ∙ after-append r (firsts ++ sets_variables ++ sets_kept) sets_granted k old
      ∙ ap (register_after r sets_granted k)
      (after-append r (firsts ++ sets_variables) sets_kept k old ∙ ap (register_after r sets_kept k) (after-append r firsts sets_variables k old))

  three : (k old : ℕ) → register_after r firsts k old
      ≡ register_after r (set_action edge.moved registers.beat edge.beat ∷ []) k
      (register_after r (set_action edge.leave registers.state.register edge.state ∷ []) k (register_after r (set_action edge.leave registers.stage.register c.stage ∷ []) k old))
  three k old = refl

  -- where the state is not left nothing changes but the beat and what has been granted
  pub edge_keeps : (k old : ℕ) → r.signal edge.leave ≡ 0 → registers.beat ≢ k → ((i : ℕ) (h : Held) → slice_get granted i ≡ Some h → h.register ≢ k)
      → register_after r (actions_of registers c granted stores edge) k old ≡ old
  edge_keeps k old off beat marks =
      parts k old
      ∙ sets-miss r edge.moved edge.granted 0 granted k _ marks
      ∙ sets-off r edge.leave c.kept 0 registers.kept k _ off
      ∙ sets-off r edge.leave c.variables 0 registers.variables k _ off
      ∙ three k old
      ∙ set_miss r edge.moved registers.beat edge.beat k _ beat
      ∙ set_off r edge.leave registers.state.register edge.state k _ off
      ∙ set_off r edge.leave registers.stage.register c.stage k old off

  -- and nothing at all where nothing moves
  pub edge_stays : (k old : ℕ) → r.signal edge.leave ≡ 0 → r.signal edge.moved ≡ 0 → register_after r (actions_of registers c granted stores edge) k old ≡ old
  edge_stays k old off still =
      parts k old
      ∙ sets-off r edge.moved edge.granted 0 granted k _ still
      ∙ sets-off r edge.leave c.kept 0 registers.kept k _ off
      ∙ sets-off r edge.leave c.variables 0 registers.variables k _ off
      ∙ three k old
      ∙ set_off r edge.moved registers.beat edge.beat k _ still
      ∙ set_off r edge.leave registers.state.register edge.state k _ off
      ∙ set_off r edge.leave registers.stage.register c.stage k old off

  -- the words of memories are those that the stores leave
  pub edge_stores : (j k old : ℕ) → word_after r (actions_of registers c granted stores edge) j k old ≡ word_after r (map (store_action edge.leave) stores) j k old
  edge_stores j k old =
      word-append r (firsts ++ sets_variables ++ sets_kept ++ sets_granted) (map (store_action edge.leave) stores) j k old
      ∙ ap (word_after r (map (store_action edge.leave) stores) j k)
      (word-append r (firsts ++ sets_variables ++ sets_kept) sets_granted j k old
      ∙ sets-word r edge.moved edge.granted 0 granted j k _
      ∙ word-append r (firsts ++ sets_variables) sets_kept j k old
      ∙ sets-word r edge.leave c.kept 0 registers.kept j k _
      ∙ word-append r firsts sets_variables j k old
      ∙ sets-word r edge.leave c.variables 0 registers.variables j k _
      ∙ set_word r edge.moved registers.beat edge.beat j k _
      ∙ set_word r edge.leave registers.state.register edge.state j k _
      ∙ set_word r edge.leave registers.stage.register c.stage j k old)

  pub edge_words : (j k old : ℕ) → r.signal edge.leave ≡ 0 → word_after r (actions_of registers c granted stores edge) j k old ≡ old
  edge_words j k old off = edge_stores j k old ∙ stores-off r edge.leave stores j k old off

  module _ (base : ℕ) (stage_at : registers.stage.register ≡ base) (state_at : registers.state.register ≡ base + 1) (beat_at : registers.beat ≡ base + 2)
      (variables_at : (i : ℕ) (h : Held) → slice_get registers.variables i ≡ Some h → h.register ≡ base + 3 + i)
      (kept_at : (i : ℕ) (h : Held) → slice_get registers.kept i ≡ Some h → h.register ≡ base + 3 + length registers.variables + i)
      (granted_at : (i : ℕ) (h : Held) → slice_get granted i ≡ Some h → h.register ≡ base + 3 + length registers.variables + length registers.kept + i) where
    -- a register before the variables
    front : (k old w : ℕ) → k < base + 3 → register_after r firsts k old ≡ w → register_after r (actions_of registers c granted stores edge) k old ≡ w
    front k old w less e =
        parts k old
        ∙ sets-miss r edge.moved edge.granted 0 granted k _ (λ i h listed same. absurd (let p = granted_at i h listed in omega arith))
        ∙ sets-miss r edge.leave c.kept 0 registers.kept k _ (λ i h listed same. absurd (let p = kept_at i h listed in omega arith))
        ∙ sets-miss r edge.leave c.variables 0 registers.variables k _ (λ i h listed same. absurd (let p = variables_at i h listed in omega arith))
        ∙ e

    pub beat_next : (old : ℕ) → r.signal edge.moved ≡ 1 → register_after r (actions_of registers c granted stores edge) (base + 2) old ≡ r.signal edge.beat
    beat_next old moved =
        front (base + 2) old (r.signal edge.beat) (omega arith) (three (base + 2) old ∙ set_hit r edge.moved registers.beat edge.beat (base + 2) _ moved beat_at)

    pub granted_next : (i next old : ℕ) (h : Held) → r.signal edge.moved ≡ 1 → slice_get granted i ≡ Some h → slice_get edge.granted i ≡ Some next
        → register_after r (actions_of registers c granted stores edge) (base + 3 + length registers.variables + length registers.kept + i) old ≡ r.signal next
    granted_next i next old h moved listed e =
        let index : i ≡ 0 + i = omega arith in
        parts (base + 3 + length registers.variables + length registers.kept + i) old
        ∙ sets-hit r edge.moved edge.granted 0 granted (base + 3 + length registers.variables + length registers.kept) i next _ h granted_at listed
        (ap (slice_get edge.granted) (sym index) ∙ e)
        moved

    module _ (on : r.signal edge.leave ≡ 1) where
      pub stage_next : (old : ℕ) → register_after r (actions_of registers c granted stores edge) base old ≡ r.signal c.stage
      stage_next old =
          front base old (r.signal c.stage) (omega arith)
          (three base old
          ∙ set_miss r edge.moved registers.beat edge.beat base _ (λ same. absurd (omega arith))
          ∙ set_miss r edge.leave registers.state.register edge.state base _ (λ same. absurd (omega arith))
          ∙ set_hit r edge.leave registers.stage.register c.stage base old on stage_at)

      pub state_next : (old : ℕ) → register_after r (actions_of registers c granted stores edge) (base + 1) old ≡ r.signal edge.state
      state_next old =
          front (base + 1) old (r.signal edge.state) (omega arith)
          (three (base + 1) old
          ∙ set_miss r edge.moved registers.beat edge.beat (base + 1) _ (λ same. absurd (omega arith))
          ∙ set_hit r edge.leave registers.state.register edge.state (base + 1) _ on state_at)

      pub variable_next : (i next old : ℕ) (h : Held) → slice_get registers.variables i ≡ Some h → slice_get c.variables i ≡ Some next
          → register_after r (actions_of registers c granted stores edge) (base + 3 + i) old ≡ r.signal next
      variable_next i next old h listed e =
          let index : i ≡ 0 + i = omega arith in
          let within = slice_get_within registers.variables i h listed in
          parts (base + 3 + i) old
          ∙ sets-miss r edge.moved edge.granted 0 granted (base + 3 + i) _ (λ j x there same. absurd (let p = granted_at j x there in omega arith))
          ∙ sets-miss r edge.leave c.kept 0 registers.kept (base + 3 + i) _ (λ j x there same. absurd (let p = kept_at j x there in omega arith))
          ∙ sets-hit r edge.leave c.variables 0 registers.variables (base + 3) i next _ h variables_at listed (ap (slice_get c.variables) (sym index) ∙ e) on

      pub kept_next : (i next old : ℕ) (h : Held) → slice_get registers.kept i ≡ Some h → slice_get c.kept i ≡ Some next
          → register_after r (actions_of registers c granted stores edge) (base + 3 + length registers.variables + i) old ≡ r.signal next
      kept_next i next old h listed e =
          let index : i ≡ 0 + i = omega arith in
          let within = slice_get_within registers.kept i h listed in
          parts (base + 3 + length registers.variables + i) old
          ∙ sets-miss r edge.moved edge.granted 0 granted (base + 3 + length registers.variables + i) _ (λ j x there same. absurd (let p = granted_at j x there in omega arith))
          ∙ sets-hit r edge.leave c.kept 0 registers.kept (base + 3 + length registers.variables) i next _ h kept_at listed (ap (slice_get c.kept) (sym index) ∙ e) on
