-- The edge is found to change parts exactly where it changes the state in the instances below a path; and whether a thread moves.
use Rattle.std.specs.Prelude.{◌≡◌, ℕ, zero, suc, ◌<◌, true, false, List, [], ◌∷◌, ◌++◌, length, Option, Some, None, slice_get, refl}
use Rattle.std.proofs.Common.{ap, sym, ◌∙◌, subst, ⊎_elim, arith}
use Rattle.std.proofs.lemmas.Bool.{or_cases, or_parts}
use Rattle.netlist.specs.declared.netlist.Effect.{Effect}
use Rattle.netlist.specs.declared.netlist.Effect.TheVariants.{Set}
use Rattle.netlist.specs.declared.netlist.Action.{Action}
use Rattle.netlist.specs.declared.netlist.Memory.{Memory}
use Rattle.netlist.specs.declared.netlist.Module.{Module}
use Rattle.verilog_meaning.specs.Readings.{memory_words}
use Rattle.verilog_meaning.specs.Cycles.{Path, Valuation, Choice, module_at, IsSettled, IsSameIn, next_at, next_state}
use Rattle.circuit.specs.Rows.{EachOf}
use Rattle.circuit.specs.Modules.{FitsAction, FitsEffect, HasRegister}
use Rattle.sim_values.specs.declared.value.Spot.{Spot}
use Rattle.sim_values.specs.declared.edge.Part.{Part}
use Rattle.sim_values.specs.Flat.{Flat, reading}
use Rattle.sim_values.specs.Stands.{place_of, spot_of, spot_at}
use Rattle.sim_layout.specs.Running.{Running, IsPart, Stands, flat, state_of, Fits, settled_run, advanced}
use Rattle.cycle_sim.proofs.PutNumbers.{part_is}
use Rattle.cycle_sim.proofs.Lift.{flat_settled}
use Rattle.cycle_sim.proofs.Cycles.{settled_same, run_cycle}
use Rattle.cycle_sim.proofs.Same.{same_trans}
use Rattle.cycle_sim.proofs.FlatLaws.{settles_alike}
use Rattle.cycle_sim.proofs.Once.{next_same}
use Rattle.slot_sim.specs.Members.{AreMembers}
use Rattle.slot_sim.specs.Changing.{changes, part_changes, part_changes_at, parts_change, SomeSets, LeavesOther, other_number, other_word, LeavesAll}
use Rattle.slot_sim.proofs.CollectedParts.{instance_here}
use Rattle.slot_sim.proofs.Changes.{found, left_alone}
use Rattle.slot_sim.proofs.Sames.{in_trans, in_sym, within}

-- ---- parts at some places

one_left : (modules : List Module) (parts : List Part) (f : Flat) (places : List ℕ) → parts_change modules parts f places ≡ false → (k q : ℕ) → slice_get places k ≡ Some q
    → part_changes_at modules f (slice_get parts q) ≡ false
one_left modules parts f [] e k q at = absurd cc
one_left modules parts f (o ∷ places) e zero q at =
    let same : o ≡ q = cc in
    subst (λ z. part_changes_at modules f (slice_get parts z) ≡ false) same (or_parts (part_changes_at modules f (slice_get parts o)) (parts_change modules parts f places) e).0
one_left modules parts f (o ∷ places) e (suc k) q at =
    one_left modules parts f places (or_parts (part_changes_at modules f (slice_get parts o)) (parts_change modules parts f places) e).1 k q at

-- a part that is listed, whose module the edge changes
record IsChanged (modules : List Module) (parts : List Part) (f : Flat) (places : List ℕ) : Type 0 where
  pub number : ℕ
  pub place : ℕ
  pub at : slice_get places number ≡ Some place
  pub part : Part
  pub kind : Module
  pub is : IsPart modules parts place part kind
  pub changes_there : changes kind (reading part.spot f) kind.actions ≡ true

changed_by : (modules : List Module) (parts : List Part) (f : Flat) (q : ℕ) (places : List ℕ) (o : Option Part) → slice_get parts q ≡ o → (part_changes_at modules f o ≡ true)
    → IsChanged modules parts f (q ∷ places)
changed_by modules parts f q places None listed e = absurd cc
changed_by modules parts f q places (Some p) listed e = here (slice_get modules p.module) refl e
  where
    here : (o : Option Module) → slice_get modules p.module ≡ o → part_changes f p o ≡ true → IsChanged modules parts f (q ∷ places)
    here None kind e = absurd cc
    here (Some m) kind e = record { number = 0; place = q; at = refl; part = p; kind = m; is = record { listed = listed; kind = kind }; changes_there = e }

changed : (modules : List Module) (parts : List Part) (f : Flat) (places : List ℕ) → parts_change modules parts f places ≡ true → IsChanged modules parts f places
changed modules parts f [] e = absurd cc
changed modules parts f (q ∷ places) e = ⊎_elim
    (λ here. changed_by modules parts f q places (slice_get parts q) refl here)
    (λ rest.
    let c = changed modules parts f places rest in
    record { number = suc c.number; place = c.place; at = c.at; part = c.part; kind = c.kind; is = c.is; changes_there = c.changes_there })
    (or_cases (part_changes_at modules f (slice_get parts q)) (parts_change modules parts f places) e)

-- ---- one of the statements

pick : (m : Module) (actions : List Action) → EachOf (FitsAction m) actions → (k : ℕ) (a : Action) → slice_get actions k ≡ Some a → FitsAction m a
pick m [] fits k a at = absurd cc
pick m (b ∷ actions) fits zero a at = subst (FitsAction m) (let same : b ≡ a = cc in same) fits.0
pick m (b ∷ actions) fits (suc k) a at = pick m actions fits.1 k a at

set_register : (m : Module) (e : Effect) (x y : ℕ) → e ≡ Set x y → FitsEffect m e → (w : ℕ) × HasRegister m x w
set_register m e x y is fits = let f : FitsEffect m (Set x y) = subst (FitsEffect m) is fits in (f.0, f.1)

sets_register : (m : Module) (actions : List Action) → EachOf (FitsAction m) actions → (x : ℕ) → SomeSets actions x → (w : ℕ) × HasRegister m x w
sets_register m actions fits x s = set_register m (s.1).effect x s.2 s.4 (pick m actions fits s.0 s.1 s.3).1

memory_here : (m : Module) (j k : ℕ) (o : Option Memory) → slice_get m.memories j ≡ o → k < memory_words o → (s : Memory) × (slice_get m.memories j ≡ Some s) × (k < length s.initial)
memory_here m j k None e l = absurd (let none : k < 0 = l in omega (arith, none))
memory_here m j k (Some s) e l = (s, e, l)

-- ---- the edge from settled words

module _ (r : Running) (st : Stands r) (c : Choice) (fits : Fits r c) (outer : Path) (places : List ℕ) (members : AreMembers r.modules st.top r.parts outer places) where
  abbrev f : Flat
  f = flat (settled_run c r)

  abbrev through : Valuation
  through = state_of (settled_run c r)

  abbrev next : Valuation
  next = next_state r.modules st.top through

  -- what is held in the part of a path
  abbrev At : Path → Module → Type 0
  At path m = module_at r.modules st.top path ≡ Some m

  next_register : (path : Path) (m : Module) → At path m → (x : ℕ) → (next path).signal x ≡ (next_at r.modules st.top (Some m) (through path)).signal x
  next_register path m at x = ap (λ (o : Option Module). (next_at r.modules st.top o (through path)).signal x) at

  next_word : (path : Path) (m : Module) → At path m → (j k : ℕ) → (next path).word j k ≡ (next_at r.modules st.top (Some m) (through path)).word j k
  next_word path m at j k = ap (λ (o : Option Module). (next_at r.modules st.top o (through path)).word j k) at

  module _ (e : parts_change r.modules r.parts f places ≡ false) where
    all_left : (inner : Path) (m : Module) → At (inner ++ outer) m → LeavesAll m (through (inner ++ outer)) m.actions
    all_left inner m at =
        let is = part_is r st (inner ++ outer) m at in
        let listed = members.each inner m at in
        let none : changes m (reading (is.0).spot f) m.actions ≡ false =
        sym (ap (part_changes_at r.modules f) is.1.listed ∙ ap (part_changes f is.0) is.1.kind)
        ∙ one_left r.modules r.parts f places e listed.0 (place_of r.parts (inner ++ outer)) listed.1 in
        subst (λ (t : Spot). LeavesAll m (reading t f) m.actions) (sym is.2) (left_alone m (reading (is.0).spot f) m.actions none)

    pub parts_stay : IsSameIn r.modules st.top outer through next
    parts_stay = record {
      registers = λ inner m x s at i. sym (next_register (inner ++ outer) m at.stands x ∙ (all_left inner m at.stands).registers x);
      words = λ inner m j k s at l.
          sym (next_word (inner ++ outer) m at.stands j k ∙ (all_left inner m at.stands).words j k (subst (λ (n : ℕ). k < n) (sym (ap memory_words at.listed)) l));
    }

  module _ (same : IsSameIn r.modules st.top outer through next) where
    never : (inner : Path) (m : Module) → At (inner ++ outer) m → EachOf (FitsAction m) m.actions → LeavesOther m (through (inner ++ outer)) m.actions → ⊥
    never inner m at fits_all (other_number x s apart) =
        let g = (sets_register m m.actions fits_all x s).1 in
        apart ((through (inner ++ outer)).signal x)
        (sym (next_register (inner ++ outer) m at x) ∙ sym (same.registers inner m x g.signal (record { stands = at; listed = g.listed }) g.is))
    never inner m at fits_all (other_word j k l apart) =
        let g = memory_here m j k (slice_get m.memories j) refl l in
        apart ((through (inner ++ outer)).word j k)
        (sym (next_word (inner ++ outer) m at j k) ∙ sym (same.words inner m j k g.0 (record { stands = at; listed = g.1 }) g.2))

    pub parts_differ : parts_change r.modules r.parts f places ≡ true → ⊥
    parts_differ e =
        let d = changed r.modules r.parts f places e in
        let m = d.kind in
        let reached = st.apart.reached d.place d.part m d.is in
        let i = members.only d.place (d.number, d.at) in
        let path : reached.0 ≡ i.0 ++ outer =
        st.apart.paths reached.0 (i.0 ++ outer) (instance_here r.modules st.top reached.0 m reached.2) i.1 (reached.1 ∙ sym i.2) in
        let stands : At (i.0 ++ outer) m = ap (module_at r.modules st.top) (sym path) ∙ reached.2 in
        let spot : spot_at r.parts (i.0 ++ outer) ≡ (d.part).spot = ap (λ z. spot_of (slice_get r.parts z)) i.2 ∙ ap spot_of d.is.listed in
        never i.0 m stands (st.right.acts (d.part).module m d.is.kind)
        (subst (λ (t : Spot). LeavesOther m (reading t f) m.actions) (sym spot) (found m (reading (d.part).spot f) m.actions d.changes_there))

  -- ---- the cycle leads there

  is_settled : IsSettled r.modules st.top (state_of r) c through
  is_settled =
      flat_settled r.modules st.top r.parts r.steps st.free r.prefs (length r.numbers) st.plan st.right.fits st.right.narrow c fits.few (fits.numbers st.top st.is_top) (flat r) refl st.state

  abbrev after : Valuation
  after = state_of (advanced (settled_run c r))

  leads : IsSameIn r.modules st.top [] next after
  leads =
      let cycle = run_cycle r st c fits in
      same_trans r.modules st.top next (next_state r.modules st.top cycle.through) after
      (next_same r.modules st.top (settles_alike r st st.top st.is_top) st.right.statements (state_of r) c through cycle.through is_settled cycle.settled) cycle.next

  begins : IsSameIn r.modules st.top outer (state_of r) through
  begins =
      let same = settled_same r st c fits in
      within r.modules st.top outer (state_of r) through
      (subst (λ (t : Module). IsSameIn r.modules t [] (state_of r) through) (let x : Some same.top ≡ Some st.top = sym same.is_top ∙ st.is_top in let y : same.top ≡ st.top = cc in y) same.same)

  pub stays : parts_change r.modules r.parts f places ≡ false → IsSameIn r.modules st.top outer (state_of r) after
  stays e =
      in_trans r.modules st.top outer (state_of r) through after begins
      (in_trans r.modules st.top outer through next after (parts_stay e) (within r.modules st.top outer next after leads))

  pub differs : parts_change r.modules r.parts f places ≡ true → IsSameIn r.modules st.top outer (state_of r) after → ⊥
  differs e same =
      parts_differ
      (in_trans r.modules st.top outer through (state_of r) next (in_sym r.modules st.top outer (state_of r) through begins)
      (in_trans r.modules st.top outer (state_of r) after next same (in_sym r.modules st.top outer next after (within r.modules st.top outer next after leads))))
      e
