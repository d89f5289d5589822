-- Right sides and statements read back as the places that they were made from.
use Rattle.std.proofs.Common.{◌≡◌, ℕ, suc, ◌<◌, List, [], ◌∷◌, ◌++◌, Bool, true, false, Some, refl, sym, ap, ◌∙◌, length, map, append_assoc}
use Rattle.std.specs.Prelude.{slice_get, option_map, unwrap_or, nat_eq, if◌then◌else◌}
use Rattle.std.specs.List.{flat_map}
use Rattle.std.proofs.lemmas.Bool.{eqb-true}
use Rattle.std.proofs.lemmas.List.{append-nil}
use Rattle.lists.proofs.Places.{get_there, get_mapped}
use Rattle.verilog_tree.specs.declared.tree.Expression.{Expression}
use Rattle.verilog_tree.specs.declared.tree.Expression.TheVariants as e
use Rattle.verilog_tree.specs.declared.tree.Statement.{Statement}
use Rattle.verilog_tree.specs.declared.tree.Statement.TheVariants as s
use Rattle.verilog_tree.specs.declared.tree.Statement.TheOpen.{Statement-F}
use Rattle.verilog_tree.specs.declared.tree.Statement.TheFolds.{fold-roll-Statement}
use Rattle.netlist.specs.declared.netlist.Value.{Value}
use Rattle.netlist.specs.declared.netlist.Value.TheVariants as v
use Rattle.netlist.specs.declared.netlist.Signal.{Signal}
use Rattle.netlist.specs.declared.netlist.Memory.{Memory}
use Rattle.netlist.specs.declared.netlist.Argument.{Argument}
use Rattle.netlist.specs.declared.netlist.Argument.TheVariants as a
use Rattle.netlist.specs.declared.netlist.Effect.{Effect}
use Rattle.netlist.specs.declared.netlist.Effect.TheVariants as effect
use Rattle.netlist.specs.declared.netlist.Action.{Action}
use Rattle.netlist.specs.declared.netlist.Module.{Module}
use Rattle.netlist.specs.NetlistOf as n
use Rattle.netlist.specs.NetlistOf.{Name, place}
use Rattle.netlist.specs.Laid.{AreApart, AreSignals, AreMemories, IsLaidAction, operands, memories_read, argument_place, effect_signals, memories_stored, signal_names, memory_names}
use Rattle.netlist_text.specs.LaidOut as laid
use Rattle.netlist_text.proofs.Places.{place_at, map_back}

-- the name of the signal at a place
pub signal_name_at : (m : Module) (x : ℕ) (s : Signal) → slice_get m.signals x ≡ Some s → laid.signal_name m x ≡ s.name
signal_name_at m x s h = ap (λ o. unwrap_or (option_map (λ (y : Signal). y.name) o) m.name) h

pub memory_name_at : (m : Module) (j : ℕ) (c : Memory) → slice_get m.memories j ≡ Some c → laid.memory_name m j ≡ c.name
memory_name_at m j c h = ap (λ o. unwrap_or (option_map (λ (y : Memory). y.name) o) m.name) h

module _ (m : Module) (signals_apart : AreApart (signal_names m)) (memories_apart : AreApart (memory_names m)) where
  pub signal_back : (x : ℕ) → x < length m.signals → place (signal_names m) (laid.signal_name m x) ≡ x
  signal_back x lt =
      let s = get_there m.signals x lt in
      ap (place (signal_names m)) (signal_name_at m x s.0 s.1) ∙ place_at (signal_names m) x s.0.name signals_apart (get_mapped (λ (y : Signal). y.name) m.signals x s.0 s.1)

  pub memory_back : (j : ℕ) → j < length m.memories → place (memory_names m) (laid.memory_name m j) ≡ j
  memory_back j lt =
      let c = get_there m.memories j lt in
      ap (place (memory_names m)) (memory_name_at m j c.0 c.1) ∙ place_at (memory_names m) j c.0.name memories_apart (get_mapped (λ (y : Memory). y.name) m.memories j c.0 c.1)

  -- ---- right sides

  abbrev read : Expression → Value
  read = n.value (signal_names m) (memory_names m)

  select_back : (x high low : ℕ) → place (signal_names m) (laid.signal_name m x) ≡ x → (b : Bool) → (b ≡ true → high ≡ low)
      → read (if b then e.BitSelect (laid.signal_name m x) high else e.PartSelect (laid.signal_name m x) high low) ≡ v.Select x high low
  select_back x high low p true same = ap (λ k. v.Select k high high) p ∙ ap (λ k. v.Select x high k) (same refl)
  select_back x high low p false same = ap (λ k. v.Select k high low) p

  pub value_back : (width : ℕ) (right : Value) → AreSignals m (operands right) → AreMemories m (memories_read right) → read (laid.expression m width right) ≡ right
  value_back width (v.Copy x) p q = ap v.Copy (signal_back x (p 0 x refl))
  value_back width (v.Constant c) p q = refl
  value_back width (v.BitwiseNot x) p q = ap v.BitwiseNot (signal_back x (p 0 x refl))
  value_back width (v.Binary operator x y) p q =
      ap (λ k. v.Binary operator k (place (signal_names m) (laid.signal_name m y))) (signal_back x (p 0 x refl)) ∙ ap (v.Binary operator x) (signal_back y (p 1 y refl))
  value_back width (v.SignedLess x y) p q =
      ap (λ k. v.SignedLess k (place (signal_names m) (laid.signal_name m y))) (signal_back x (p 0 x refl)) ∙ ap (v.SignedLess x) (signal_back y (p 1 y refl))
  value_back width (v.ArithmeticShiftRight x y) p q =
      ap (λ k. v.ArithmeticShiftRight k (place (signal_names m) (laid.signal_name m y))) (signal_back x (p 0 x refl)) ∙ ap (v.ArithmeticShiftRight x) (signal_back y (p 1 y refl))
  value_back width (v.Conditional c x y) p q =
      ap (λ k. v.Conditional k (place (signal_names m) (laid.signal_name m x)) (place (signal_names m) (laid.signal_name m y))) (signal_back c (p 0 c refl))
      ∙ ap (λ k. v.Conditional c k (place (signal_names m) (laid.signal_name m y))) (signal_back x (p 1 x refl)) ∙ ap (v.Conditional c x) (signal_back y (p 2 y refl))
  value_back width (v.Division operator x y) p q =
      ap (λ k. v.Division operator k (place (signal_names m) (laid.signal_name m y))) (signal_back x (p 0 x refl)) ∙ ap (v.Division operator x) (signal_back y (p 1 y refl))
  value_back width (v.SignedDivision operator x y) p q =
      ap (λ k. v.SignedDivision operator k (place (signal_names m) (laid.signal_name m y))) (signal_back x (p 0 x refl)) ∙ ap (v.SignedDivision operator x) (signal_back y (p 1 y refl))
  value_back width (v.MemoryRead j x) p q =
      ap (λ k. v.MemoryRead k (place (signal_names m) (laid.signal_name m x))) (memory_back j (q 0 j refl)) ∙ ap (v.MemoryRead j) (signal_back x (p 0 x refl))
  value_back width (v.Select x high low) p q = select_back x high low (signal_back x (p 0 x refl)) (nat_eq high low) (λ h. eqb-true high low h)
  value_back width (v.Concatenation xs) p q = ap v.Concatenation (map_back (place (signal_names m)) (laid.signal_name m) xs (λ k x h. signal_back x (p k x h)))
  value_back width (v.Replication c x) p q = ap (v.Replication c) (signal_back x (p 0 x refl))

  -- ---- statements

  abbrev actions : Statement → List ℕ → List Action
  actions = n.statement_actions (signal_names m) (memory_names m)

  abbrev action : List ℕ → Effect → Action
  action conditions x = record { conditions = conditions; effect = x }

  argument_back : (x : Argument) → argument_place x < length m.signals → n.argument (signal_names m) (memory_names m) (laid.argument m x) ≡ x
  argument_back (a.Unsigned x) lt = ap a.Unsigned (signal_back x lt)
  argument_back (a.Signed x) lt = ap a.Signed (signal_back x lt)

  effect_back : (x : Effect) (under : List ℕ) → AreSignals m (effect_signals x) → AreMemories m (memories_stored x) → actions (laid.effect_statement m x) under ≡ action under x ∷ []
  effect_back (effect.Set x y) under p q =
      ap (λ k. actions k under) (sym (s.rolls-Set (laid.signal_name m x) (laid.signal_name m y)))
      ∙ ap (λ f. f under) (fold-roll-Statement (List ℕ → List Action) (n.statement_step (signal_names m) (memory_names m)) (Statement-F.Set (laid.signal_name m x) (laid.signal_name m y)))
      ∙ ap (λ k. action under (effect.Set k (place (signal_names m) (laid.signal_name m y))) ∷ []) (signal_back x (p 0 x refl))
      ∙ ap (λ k. action under (effect.Set x k) ∷ []) (signal_back y (p 1 y refl))
  effect_back (effect.Store j x y) under p q =
      ap (λ k. actions k under) (sym (s.rolls-Store (laid.memory_name m j) (laid.signal_name m x) (laid.signal_name m y)))
      ∙ ap (λ f. f under) (fold-roll-Statement (List ℕ → List Action) (n.statement_step (signal_names m) (memory_names m))
      (Statement-F.Store (laid.memory_name m j) (laid.signal_name m x) (laid.signal_name m y)))
      ∙ ap (λ k. action under (effect.Store k (place (signal_names m) (laid.signal_name m x)) (place (signal_names m) (laid.signal_name m y))) ∷ []) (memory_back j (q 0 j refl))
      ∙ ap (λ k. action under (effect.Store j k (place (signal_names m) (laid.signal_name m y))) ∷ []) (signal_back x (p 0 x refl))
      ∙ ap (λ k. action under (effect.Store j x k) ∷ []) (signal_back y (p 1 y refl))
  effect_back (effect.Write text xs) under p q =
      ap (λ k. actions k under) (sym (s.rolls-Write text (map (laid.argument m) xs)))
      ∙ ap (λ f. f under) (fold-roll-Statement (List ℕ → List Action) (n.statement_step (signal_names m) (memory_names m)) (Statement-F.Write text (map (laid.argument m) xs)))
      ∙ ap (λ k. action under (effect.Write text k) ∷ [])
      (map_back (n.argument (signal_names m) (memory_names m)) (laid.argument m) xs (λ k x h. argument_back x (p k (argument_place x) (get_mapped argument_place xs k x h))))

  if_back : (c : ℕ) (inner : Statement) (under : List ℕ) → c < length m.signals → actions (s.If (laid.signal_name m c) (inner ∷ [])) under ≡ actions inner (under ++ c ∷ [])
  if_back c inner under lt =
      ap (λ k. actions k under) (sym (s.rolls-If (laid.signal_name m c) (inner ∷ [])))
      ∙ ap (λ f. f under) (fold-roll-Statement (List ℕ → List Action) (n.statement_step (signal_names m) (memory_names m)) (Statement-F.If (laid.signal_name m c) (inner ∷ [])))
      ∙ append-nil (actions inner (under ++ place (signal_names m) (laid.signal_name m c) ∷ []))
      ∙ ap (λ k. actions inner (under ++ k ∷ [])) (signal_back c lt)

  guarded_back : (cs : List ℕ) (x : Effect) (under : List ℕ) → AreSignals m cs → AreSignals m (effect_signals x) → AreMemories m (memories_stored x)
      → actions (laid.guarded m cs x) under ≡ action (under ++ cs) x ∷ []
  guarded_back [] x under r p q = effect_back x under p q ∙ ap (λ l. action l x ∷ []) (sym (append-nil under))
  guarded_back (c ∷ cs) x under r p q =
      if_back c (laid.guarded m cs x) under (r 0 c refl) ∙ guarded_back cs x (under ++ c ∷ []) (λ k y h. r (suc k) y h) p q
      ∙ ap (λ l. action l x ∷ []) (append_assoc under (c ∷ []) cs)

  pub actions_back : (xs : List Action) → ((k : ℕ) (x : Action) → slice_get xs k ≡ Some x → IsLaidAction m x)
      → flat_map (λ y. actions y []) (map (laid.statement m) xs) ≡ xs
  actions_back [] h = refl
  actions_back (x ∷ xs) h =
      let one = h 0 x refl in
      ap (λ l. l ++ flat_map (λ y. actions y []) (map (laid.statement m) xs)) (guarded_back x.conditions x.effect [] one.conditions one.signals one.memories)
      ∙ ap (λ l. x ∷ l) (actions_back xs (λ k y q. h (suc k) y q))
