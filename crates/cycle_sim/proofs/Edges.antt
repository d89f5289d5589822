-- The edge on flat words is the edge of each instance.
use Rattle.std.specs.Prelude.{◌≡◌, ℕ, zero, suc, ◌+◌, ◌<◌, Bool, true, false, nat_eq, if◌then◌else◌, List, [], ◌∷◌, length, Some, slice_get, slice_index, slice_set, refl}
use Rattle.std.proofs.Common.{ap, sym, ◌∙◌, subst, ⊎_elim, arith}
use Rattle.std.proofs.lemmas.List.{get_or-set_same, get_or-set_other}
use Rattle.std.proofs.Math.ListN.{length-set}
use Rattle.std.proofs.lemmas.Bool.{cases_eq, ne_eqb, eq-eqb, cond-false, cond-true}
use Rattle.netlist.specs.declared.netlist.Effect.{Effect}
use Rattle.netlist.specs.declared.netlist.Effect.TheVariants.{Set, Store, Write}
use Rattle.netlist.specs.declared.netlist.Action.{Action}
use Rattle.netlist.specs.declared.netlist.Module.{Module}
use Rattle.verilog_meaning.specs.Readings.{is_on, set_by, register_after}
use Rattle.sim_values.specs.declared.value.Spot.{Spot}
use Rattle.sim_values.specs.declared.edge.Part.{Part}
use Rattle.circuit.specs.Rows.{EachOf}
use Rattle.sim_values.specs.Flat.{Flat, reading, set_number, act_number, acted_numbers, actions_of, all_numbers}

module _ (spot : Spot) (f : Flat) where
  set_length : (next : List ℕ) (e : Effect) → length (set_number spot f next e) ≡ length next
  set_length next (Set x y) = length-set next (spot.base + x) (slice_index f.numbers (spot.base + y))
  set_length next (Store j x y) = refl
  set_length next (Write text arguments) = refl

  act_length_by : (b : Bool) (next : List ℕ) (e : Effect) → length (if b then set_number spot f next e else next) ≡ length next
  act_length_by true next e = set_length next e
  act_length_by false next e = refl

  act_length : (next : List ℕ) (a : Action) → length (act_number spot f next a) ≡ length next
  act_length next a = act_length_by (is_on (reading spot f) a.conditions) next a.effect

  pub acted_length : (actions : List Action) (next : List ℕ) → length (acted_numbers spot f next actions) ≡ length next
  acted_length [] next = refl
  acted_length (a ∷ actions) next = acted_length actions (act_number spot f next a) ∙ act_length next a

  -- ---- a register of the instance

  set_register : (k : ℕ) (next : List ℕ) (e : Effect) → spot.base + k < length next
      → slice_index (set_number spot f next e) (spot.base + k) ≡ set_by (reading spot f) e k (slice_index next (spot.base + k))
  set_register k next (Set x y) l =
      let v = slice_index f.numbers (spot.base + y) in
      ⊎_elim
      (λ same.
      ap (λ (p : ℕ). slice_index (slice_set next (spot.base + p) v) (spot.base + k)) same
      ∙ get_or-set_same next (spot.base + k) v 0 l
      ∙ sym (cond-true (nat_eq x k) v (slice_index next (spot.base + k)) (eq-eqb x k same)))
      (λ apart.
      get_or-set_other next (spot.base + x) (spot.base + k) v 0 (λ e. apart (omega arith))
      ∙ sym (cond-false (nat_eq x k) v (slice_index next (spot.base + k)) (ne_eqb x k apart)))
      (cases_eq x k)
  set_register k next (Store j x y) l = refl
  set_register k next (Write text arguments) l = refl

  act_register_by : (b : Bool) (k : ℕ) (next : List ℕ) (e : Effect) → spot.base + k < length next
      → slice_index (if b then set_number spot f next e else next) (spot.base + k) ≡ (if b then set_by (reading spot f) e k (slice_index next (spot.base + k)) else slice_index next (spot.base + k))
  act_register_by true k next e l = set_register k next e l
  act_register_by false k next e l = refl

  pub acted_register : (k : ℕ) (actions : List Action) (next : List ℕ) → spot.base + k < length next
      → slice_index (acted_numbers spot f next actions) (spot.base + k) ≡ register_after (reading spot f) actions k (slice_index next (spot.base + k))
  acted_register k [] next l = refl
  acted_register k (a ∷ actions) next l =
      acted_register k actions (act_number spot f next a) (subst (λ (n : ℕ). spot.base + k < n) (sym (act_length next a)) l)
      ∙ ap (register_after (reading spot f) actions k) (act_register_by (is_on (reading spot f) a.conditions) k next a.effect l)

  -- ---- a place of another instance

  abbrev pub Misses : ℕ → Effect → Type 0
  Misses place (Set x y) = place ≡ spot.base + x → ⊥
  Misses place (Store j x y) = Unit {0}
  Misses place (Write text arguments) = Unit {0}

  set_missed : (place : ℕ) (next : List ℕ) (e : Effect) → Misses place e → slice_index (set_number spot f next e) place ≡ slice_index next place
  set_missed place next (Set x y) misses = get_or-set_other next (spot.base + x) place (slice_index f.numbers (spot.base + y)) 0 misses
  set_missed place next (Store j x y) misses = refl
  set_missed place next (Write text arguments) misses = refl

  act_missed_by : (b : Bool) (place : ℕ) (next : List ℕ) (e : Effect) → Misses place e → slice_index (if b then set_number spot f next e else next) place ≡ slice_index next place
  act_missed_by true place next e misses = set_missed place next e misses
  act_missed_by false place next e misses = refl

  pub acted_missed : (place : ℕ) (actions : List Action) (next : List ℕ) → EachOf (λ (a : Action). Misses place a.effect) actions
      → slice_index (acted_numbers spot f next actions) place ≡ slice_index next place
  acted_missed place [] next misses = refl
  acted_missed place (a ∷ actions) next misses =
      acted_missed place actions (act_number spot f next a) misses.1 ∙ act_missed_by (is_on (reading spot f) a.conditions) place next a.effect misses.0

module _ (modules : List Module) (f : Flat) where
  abbrev acts : Part → List Action
  acts p = actions_of (slice_get modules p.module)

  pub all_length : (parts : List Part) (next : List ℕ) → length (all_numbers modules f next parts) ≡ length next
  all_length [] next = refl
  all_length (p ∷ parts) next = all_length parts (acted_numbers p.spot f next (acts p)) ∙ acted_length p.spot f (acts p) next

  -- no statement of a part sets the place
  abbrev pub PartMisses : ℕ → Part → Type 0
  PartMisses place p = EachOf (λ (a : Action). Misses p.spot f place a.effect) (acts p)

  all_missed : (place : ℕ) (parts : List Part) (next : List ℕ) → ((q : ℕ) (p : Part) → slice_get parts q ≡ Some p → PartMisses place p)
      → slice_index (all_numbers modules f next parts) place ≡ slice_index next place
  all_missed place [] next misses = refl
  all_missed place (p ∷ parts) next misses =
      all_missed place parts (acted_numbers p.spot f next (acts p)) (λ q o at. misses (suc q) o at) ∙ acted_missed p.spot f place (acts p) next (misses 0 p refl)

  -- what the edge leaves in register x of one part, where no other part has its place
  pub all_register : (parts : List Part) (q : ℕ) (p : Part) (k : ℕ) (next : List ℕ) → slice_get parts q ≡ Some p → p.spot.base + k < length next
      → ((o : ℕ) (other : Part) → slice_get parts o ≡ Some other → (o ≡ q → ⊥) → PartMisses (p.spot.base + k) other)
      → slice_index (all_numbers modules f next parts) (p.spot.base + k) ≡ register_after (reading p.spot f) (acts p) k (slice_index next (p.spot.base + k))
  all_register [] q p k next at l misses = absurd cc
  all_register (t ∷ parts) zero p k next at l misses =
      let same : t ≡ p = cc in
      all_missed (p.spot.base + k) parts (acted_numbers t.spot f next (acts t)) (λ o other there. misses (suc o) other there (λ e. absurd (omega arith)))
      ∙ ap (λ (u : Part). slice_index (acted_numbers u.spot f next (acts u)) (p.spot.base + k)) same
      ∙ acted_register p.spot f k (acts p) next l
  all_register (t ∷ parts) (suc q) p k next at l misses =
      all_register parts q p k (acted_numbers t.spot f next (acts t)) at (subst (λ (n : ℕ). p.spot.base + k < n) (sym (acted_length t.spot f (acts t) next)) l)
      (λ o other there apart. misses (suc o) other there (λ e. apart (omega arith)))
      ∙ ap (register_after (reading p.spot f) (acts p) k) (acted_missed t.spot f (p.spot.base + k) (acts t) next (misses 0 t refl (λ e. absurd (omega arith))))
