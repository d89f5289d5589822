-- The statements of a module: widths, what they write, whether they print.
use Rattle.std.proofs.Common.{◌≡◌, ℕ, suc, ◌<◌, List, [], ◌∷◌, Bool, true, Some, refl, sym, ap, ◌∙◌, subst, length, map}
use Rattle.std.specs.Prelude.{slice_get, ◌&&◌, ◌||◌}
use Rattle.std.specs.List.{flat_map, list_any}
use Rattle.std.proofs.lemmas.List.{append-nil, length-map}
use Rattle.lists.proofs.Places.{get_there, get_mapped}
use mathlib.Core.Bool.{or-false}
use Rattle.std.proofs.lemmas.Bool.{and_parts}
use Rattle.verilog_tree.specs.declared.tree.WriteArgument.{WriteArgument}
use Rattle.verilog_tree.specs.declared.tree.Statement.{Statement}
use Rattle.verilog_tree.specs.declared.tree.Statement.TheVariants as s
use Rattle.verilog_tree.specs.declared.tree.Statement.TheOpen.{Statement-F}
use Rattle.verilog_tree.specs.declared.tree.Statement.TheFolds.{fold-Statement, fold-roll-Statement}
use Rattle.verilog_tree.specs.Scope as scope
use Rattle.verilog_tree.specs.Scope.{Name, Names, Scope}
use Rattle.verilog_tree.specs.Rules as rules
use Rattle.verilog_tree.specs.Rules.{all_right, Between, values_in, has_values}
use Rattle.verilog_tree.specs.Facts.{written_by, written_step, statement_prints, prints_step}
use Rattle.verilog_tree.specs.WellFormed.{none_known}
use Rattle.verilog_tree.proofs.Tests.{and_both}
use Rattle.netlist.specs.declared.netlist.Argument.{Argument}
use Rattle.netlist.specs.declared.netlist.Argument.TheVariants as a
use Rattle.netlist.specs.declared.netlist.Effect.{Effect}
use Rattle.netlist.specs.declared.netlist.Effect.TheVariants as effect
use Rattle.netlist.specs.declared.netlist.Action.{Action}
use Rattle.netlist.specs.declared.netlist.Module.{Module}
use Rattle.netlist.specs.Laid.{AreSignals, AreMemories, IsLaidAction, argument_place, effect_signals, memories_stored}
use Rattle.netlist.specs.Sound as sound
use Rattle.netlist_text.specs.LaidOut as laid
use Rattle.netlist_text.proofs.Values.{signal_name_at}
use Rattle.netlist_text.proofs.Members.{In, in_first, in_flat}
use Rattle.netlist_text.proofs.Widths.{KnowsNames, has_is, read_is, memory_width_is, register_told}

-- ---- a fold, level by level

module _ (A : Type 0) (f : Statement-F A → A) where
  pub fold_set : (x y : Name) → fold-Statement A f (s.Set x y) ≡ f (Statement-F.Set x y)
  fold_set x y = ap (fold-Statement A f) (sym (s.rolls-Set x y)) ∙ fold-roll-Statement A f (Statement-F.Set x y)

  pub fold_store : (x y z : Name) → fold-Statement A f (s.Store x y z) ≡ f (Statement-F.Store x y z)
  fold_store x y z = ap (fold-Statement A f) (sym (s.rolls-Store x y z)) ∙ fold-roll-Statement A f (Statement-F.Store x y z)

  pub fold_write : (x : List ℕ) (ys : List WriteArgument) → fold-Statement A f (s.Write x ys) ≡ f (Statement-F.Write x ys)
  fold_write x ys = ap (fold-Statement A f) (sym (s.rolls-Write x ys)) ∙ fold-roll-Statement A f (Statement-F.Write x ys)

  pub fold_if : (x : Name) (y : Statement) → fold-Statement A f (s.If x (y ∷ [])) ≡ f (Statement-F.If x (fold-Statement A f y ∷ []))
  fold_if x y = ap (fold-Statement A f) (sym (s.rolls-If x (y ∷ []))) ∙ fold-roll-Statement A f (Statement-F.If x (y ∷ []))

-- ---- printing

module _ (m : Module) where
  effect_prints : (x : Effect) → statement_prints (laid.effect_statement m x) ≡ sound.is_write x
  effect_prints (effect.Set x y) = fold_set Bool prints_step (laid.signal_name m x) (laid.signal_name m y)
  effect_prints (effect.Store j x y) = fold_store Bool prints_step (laid.memory_name m j) (laid.signal_name m x) (laid.signal_name m y)
  effect_prints (effect.Write text xs) = fold_write Bool prints_step text (map (laid.argument m) xs)

  guarded_prints : (cs : List ℕ) (x : Effect) → statement_prints (laid.guarded m cs x) ≡ sound.is_write x
  guarded_prints [] x = effect_prints x
  guarded_prints (c ∷ cs) x = fold_if Bool prints_step (laid.signal_name m c) (laid.guarded m cs x) ∙ or-false (statement_prints (laid.guarded m cs x)) ∙ guarded_prints cs x

  pub prints_are : (xs : List Action) → list_any statement_prints (map (laid.statement m) xs) ≡ list_any (λ (x : Action). sound.is_write x.effect) xs
  prints_are [] = refl
  prints_are (x ∷ xs) =
      ap (λ b. b || list_any statement_prints (map (laid.statement m) xs)) (guarded_prints x.conditions x.effect) ∙ ap (λ b. sound.is_write x.effect || b) (prints_are xs)

  -- ---- registers that are set

  guarded_writes : (cs : List ℕ) (x y : ℕ) → In (written_by (laid.guarded m cs (effect.Set x y))) (laid.signal_name m x)
  guarded_writes [] x y =
      subst (λ (l : Names). In l (laid.signal_name m x)) (sym (fold_set Names written_step (laid.signal_name m x) (laid.signal_name m y))) (in_first (laid.signal_name m x) [])
  guarded_writes (c ∷ cs) x y =
      subst (λ (l : Names). In l (laid.signal_name m x))
      (sym (fold_if Names written_step (laid.signal_name m c) (laid.guarded m cs (effect.Set x y)) ∙ append-nil (written_by (laid.guarded m cs (effect.Set x y)))))
      (guarded_writes cs x y)

  pub set_written : (k : ℕ) (x : Action) (r y : ℕ) → slice_get m.actions k ≡ Some x → x.effect ≡ effect.Set r y
      → In (flat_map written_by (map (laid.statement m) m.actions)) (laid.signal_name m r)
  set_written k x r y h e =
      in_flat written_by (map (laid.statement m) m.actions) k (laid.statement m x) (laid.signal_name m r) (get_mapped (laid.statement m) m.actions k x h)
      (subst (λ (z : Effect). In (written_by (laid.guarded m x.conditions z)) (laid.signal_name m r)) (sym e) (guarded_writes x.conditions r y))

-- nothing is known to an empty list
none_of : (xs : Names) → none_known [] xs ≡ true
none_of [] = refl
none_of (x ∷ xs) = none_of xs

pub none_written : (body : List Statement) → all_right (λ x. none_known [] (written_by x)) body ≡ true
none_written [] = refl
none_written (x ∷ body) = and_both _ _ (none_of (written_by x)) (none_written body)

-- ---- widths

module _ (sc : Scope) (m : Module) (knows : KnowsNames sc m) where
  register_is : (x : ℕ) → x < length m.signals → scope.register_width (scope.kind_of sc (laid.signal_name m x)) ≡ sound.register_width m x
  register_is x lt =
      let t = get_there m.signals x lt in
      ap (λ k. scope.register_width (scope.kind_of sc k)) (signal_name_at m x t.0 t.1) ∙ ap scope.register_width (knows.signal x t.0 t.1)
      ∙ register_told m t.0 (knows.plain x t.0 t.1) t.0.source t.0.is_output ∙ sym (ap (sound.width_of_register m) t.1)

  arguments_right : (xs : List Argument) → ((k : ℕ) (x : Argument) → slice_get xs k ≡ Some x → argument_place x < length m.signals)
      → all_right (rules.argument_right sc) (map (laid.argument m) xs) ≡ all_right (λ (x : Argument). sound.is_read m (argument_place x)) xs
  arguments_right [] h = refl
  arguments_right (a.Unsigned x ∷ xs) h =
      ap (λ b. b && all_right (rules.argument_right sc) (map (laid.argument m) xs)) (read_is sc m knows x (h 0 (a.Unsigned x) refl))
      ∙ ap (λ b. sound.is_read m x && b) (arguments_right xs (λ k y q. h (suc k) y q))
  arguments_right (a.Signed x ∷ xs) h =
      ap (λ b. b && all_right (rules.argument_right sc) (map (laid.argument m) xs)) (read_is sc m knows x (h 0 (a.Signed x) refl))
      ∙ ap (λ b. sound.is_read m x && b) (arguments_right xs (λ k y q. h (suc k) y q))

  effect_right : (x : Effect) → AreSignals m (effect_signals x) → AreMemories m (memories_stored x) → sound.effect_fits m x ≡ true
      → rules.statement_right sc (laid.effect_statement m x) ≡ true
  effect_right (effect.Set x y) p q h =
      let w = scope.register_width (scope.kind_of sc (laid.signal_name m x)) in
      let same : w ≡ sound.register_width m x = register_is x (p 0 x refl) in
      fold_set Bool (rules.statement_step sc) (laid.signal_name m x) (laid.signal_name m y) ∙ has_is sc m knows y w (p 1 y refl) ∙ ap (sound.has_width m y) same ∙ h
  effect_right (effect.Store j x y) p q h =
      let w = scope.memory_width (scope.kind_of sc (laid.memory_name m j)) in
      fold_store Bool (rules.statement_step sc) (laid.memory_name m j) (laid.signal_name m x) (laid.signal_name m y)
      ∙ ap (λ b. b && rules.has_width sc (laid.signal_name m y) w) (read_is sc m knows x (p 0 x refl))
      ∙ ap (λ b. sound.is_read m x && b) (has_is sc m knows y w (p 1 y refl)) ∙ ap (λ k. sound.is_read m x && sound.has_width m y k) (memory_width_is sc m knows j (q 0 j refl)) ∙ h
  effect_right (effect.Write text xs) p q h =
      fold_write Bool (rules.statement_step sc) text (map (laid.argument m) xs)
      ∙ ap (λ k. has_values (values_in Between text) k && all_right (rules.argument_right sc) (map (laid.argument m) xs)) (length-map xs (laid.argument m))
      ∙ ap (λ b. has_values (values_in Between text) (length xs) && b) (arguments_right xs (λ k x r. p k (argument_place x) (get_mapped argument_place xs k x r))) ∙ h

  guarded_right : (cs : List ℕ) (x : Effect) → AreSignals m cs → AreSignals m (effect_signals x) → AreMemories m (memories_stored x)
      → all_right (λ c. sound.has_width m c 1) cs ≡ true → sound.effect_fits m x ≡ true → rules.statement_right sc (laid.guarded m cs x) ≡ true
  guarded_right [] x r p q g h = effect_right x p q h
  guarded_right (c ∷ cs) x r p q g h =
      fold_if Bool (rules.statement_step sc) (laid.signal_name m c) (laid.guarded m cs x)
      ∙ and_both _ _ (has_is sc m knows c 1 (r 0 c refl) ∙ (and_parts _ _ g).0)
      (and_both _ true (guarded_right cs x (λ k y o. r (suc k) y o) p q (and_parts (sound.has_width m c 1) _ g).1 h) refl)

  statements_of : (xs : List Action) → ((k : ℕ) (x : Action) → slice_get xs k ≡ Some x → IsLaidAction m x) → ((k : ℕ) (x : Action) → slice_get xs k ≡ Some x → sound.action_fits m x ≡ true)
      → all_right (rules.statement_right sc) (map (laid.statement m) xs) ≡ true
  statements_of [] h g = refl
  statements_of (x ∷ xs) h g =
      let one = h 0 x refl in
      let fit = g 0 x refl in
      and_both _ _ (guarded_right x.conditions x.effect one.conditions one.signals one.memories (and_parts _ _ fit).0 (and_parts (all_right (λ c. sound.has_width m c 1) x.conditions) _ fit).1)
      (statements_of xs (λ k y q. h (suc k) y q) (λ k y q. g (suc k) y q))

  pub statements_right : ((k : ℕ) (x : Action) → slice_get m.actions k ≡ Some x → IsLaidAction m x) → ((k : ℕ) (x : Action) → slice_get m.actions k ≡ Some x → sound.action_fits m x ≡ true)
      → all_right (rules.statement_right sc) (map (laid.statement m) m.actions) ≡ true
  statements_right h g = statements_of m.actions h g
