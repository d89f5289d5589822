-- A rule is met or broken as its test says.
use Rattle.std.proofs.Common.{◌≡◌, Bool, true, false, refl, ◌⊎◌, inl, inr, ⊎_elim, List, [], ◌∷◌}
use Rattle.std.specs.Prelude.{not, ◌&&◌, ◌||◌, nat_lt, is_some}
use Rattle.std.specs.List.{list_any}
use Rattle.std.proofs.lemmas.Bool.{and_cases, not-false, not-true, and_parts}
use Rattle.verilog_tree.specs.declared.tree.Expression.{Expression}
use Rattle.verilog_tree.specs.declared.tree.Expression.TheVariants as expr
use Rattle.verilog_tree.specs.declared.tree.Port.{Port}
use Rattle.verilog_tree.specs.declared.tree.Item.{Item}
use Rattle.verilog_tree.specs.declared.tree.Item.TheVariants as i
use Rattle.verilog_tree.specs.declared.tree.Module.{Module}
use Rattle.verilog_tree.specs.Grammar.{clk}
use Rattle.verilog_tree.specs.Scope.{Names, is_known, is_clk, is_declared, declaration, width_of}
use Rattle.verilog_tree.specs.Rules.{all_right, has_port}
use Rattle.verilog_tree.specs.Reads.{IsFilled, IsFullExpression, IsFullItem}
use Rattle.verilog_tree.specs.Facts.{Facts, interface_named, is_top, drives, written_by, body_of, item_prints}
use Rattle.verilog_tree.specs.WellFormed.{IsItem, IsPort, is_new_declaration, are_new, none_known, is_complete, is_input, is_clocked}
use Rattle.net_check.specs.Breaks.{is_empty, lacks_parts, lacks, BreaksItem, BreaksPort, BreaksHead}
use Rattle.net_check.specs.Breaks.{BreaksItem as item, BreaksPort as port, BreaksHead as head}
use Rattle.net_check.specs.Search as search_for

-- ---- lists that are not empty

pub filled : {A : Type 0} (xs : List A) → is_empty xs ≡ false → IsFilled xs
filled [] e = cc
filled (x ∷ xs) e = tt

pub not_empty : {A : Type 0} (xs : List A) → IsFilled xs → is_empty xs ≡ false
not_empty [] h = absurd h
not_empty (x ∷ xs) h = refl

full_expression : (x : Expression) → lacks_parts x ≡ false → IsFullExpression x
full_expression (expr.Concatenation parts) e = filled parts e
full_expression (expr.Copy a) e = tt
full_expression (expr.Constant a) e = tt
full_expression (expr.BitwiseNot a) e = tt
full_expression (expr.Binary a b c) e = tt
full_expression (expr.SignedLess a b) e = tt
full_expression (expr.ArithmeticShiftRight a b) e = tt
full_expression (expr.Conditional a b c) e = tt
full_expression (expr.Division a b c d f g) e = tt
full_expression (expr.SignedDivision a b c d f g) e = tt
full_expression (expr.MemoryRead a b c d f) e = tt
full_expression (expr.BitSelect a b) e = tt
full_expression (expr.PartSelect a b c) e = tt
full_expression (expr.Replication a b) e = tt

expression_lacks_none : (x : Expression) → IsFullExpression x → lacks_parts x ≡ false
expression_lacks_none (expr.Concatenation parts) h = not_empty parts h
expression_lacks_none (expr.Copy a) h = refl
expression_lacks_none (expr.Constant a) h = refl
expression_lacks_none (expr.BitwiseNot a) h = refl
expression_lacks_none (expr.Binary a b c) h = refl
expression_lacks_none (expr.SignedLess a b) h = refl
expression_lacks_none (expr.ArithmeticShiftRight a b) h = refl
expression_lacks_none (expr.Conditional a b c) h = refl
expression_lacks_none (expr.Division a b c d f g) h = refl
expression_lacks_none (expr.SignedDivision a b c d f g) h = refl
expression_lacks_none (expr.MemoryRead a b c d f) h = refl
expression_lacks_none (expr.BitSelect a b) h = refl
expression_lacks_none (expr.PartSelect a b c) h = refl
expression_lacks_none (expr.Replication a b) h = refl

pub full_item : (x : Item) → lacks x ≡ false → IsFullItem x
full_item (i.Assign x) e = full_expression x.value e
full_item (i.Instance x) e = filled x.connections e
full_item (i.Wire x) e = tt
full_item (i.Register x) e = tt
full_item (i.Memory x) e = tt
full_item (i.Initial x) e = tt
full_item (i.Always x) e = tt

pub lacks_none : (x : Item) → IsFullItem x → lacks x ≡ false
lacks_none (i.Assign x) h = expression_lacks_none x.value h
lacks_none (i.Instance x) h = not_empty x.connections h
lacks_none (i.Wire x) h = refl
lacks_none (i.Register x) h = refl
lacks_none (i.Memory x) h = refl
lacks_none (i.Initial x) h = refl
lacks_none (i.Always x) h = refl

-- ---- items

pub record MeetsItem (all before : Facts) (x : Item) : Type 0 where
  pub is : IsItem all before x
  pub full : lacks x ≡ false

module _ (all before : Facts) (x : Item) where
  pub item_meets : search_for.item_stands all before x ≡ true → MeetsItem all before x
  item_meets h =
      let new = (and_parts (search_for.is_new all before x) _ h).0 in
      let rest = (and_parts (search_for.is_new all before x) _ h).1 in
      let once = (and_parts (search_for.prints_once before x) _ rest).0 in
      let others = (and_parts (search_for.prints_once before x) _ rest).1 in
      let after_declared = (and_parts (is_new_declaration before.scope (declaration x)) _ new).1 in
      let after_driven = (and_parts (are_new before.driven (drives all.modules x)) _ after_declared).1 in
      let after_lacks = (and_parts (not (lacks x)) _ others).1 in
      record {
        is = record {
          new = (and_parts (is_new_declaration before.scope (declaration x)) _ new).0;
          right = (and_parts (is_complete all x) _ after_lacks).1;
          driver = (and_parts (are_new before.driven (drives all.modules x)) _ after_declared).0;
          writer = (and_parts (all_right (λ s. none_known before.written (written_by s)) (body_of x)) _ after_driven).0;
          initial = (and_parts (all_right (λ s. none_known before.written (written_by s)) (body_of x)) _ after_driven).1;
          complete = (and_parts (is_complete all x) _ after_lacks).0;
          printing = not-true _ (and_parts (not (item_prints x && before.printed)) _ once).0;
          printer = (and_parts (not (item_prints x && before.printed)) _ once).1;
        };
        full = not-true _ (and_parts (not (lacks x)) _ others).0;
      }

  new_breaks : search_for.is_new all before x ≡ false → BreaksItem all before x
  new_breaks h =
      ⊎_elim item.Declares (λ g. ⊎_elim item.Drives (λ k. ⊎_elim item.Writes item.Gives (and_cases _ _ k)) (and_cases _ _ g)) (and_cases _ _ h)

  once_breaks : search_for.prints_once before x ≡ false → BreaksItem all before x
  once_breaks h = ⊎_elim (λ g. item.Prints (not-false _ g)) item.Places (and_cases _ _ h)

  pub item_breaks : search_for.item_stands all before x ≡ false → BreaksItem all before x
  item_breaks h =
      ⊎_elim new_breaks (λ g. ⊎_elim once_breaks (λ k. ⊎_elim (λ l. item.Lacks (not-false _ l)) (λ l. ⊎_elim item.Incomplete item.Differs (and_cases _ _ l))
      (and_cases _ _ k)) (and_cases _ _ g)) (and_cases _ _ h)

  pub item_unbroken : MeetsItem all before x → BreaksItem all before x → ⊥
  item_unbroken m (item.Lacks h) = let e = m.full in cc
  item_unbroken m (item.Declares h) = let e = m.is.new in cc
  item_unbroken m (item.Differs h) = let e = m.is.right in cc
  item_unbroken m (item.Drives h) = let e = m.is.driver in cc
  item_unbroken m (item.Writes h) = let e = m.is.writer in cc
  item_unbroken m (item.Gives h) = let e = m.is.initial in cc
  item_unbroken m (item.Incomplete h) = let e = m.is.complete in cc
  item_unbroken m (item.Prints h) = let e = m.is.printing in cc
  item_unbroken m (item.Places h) = let e = m.is.printer in cc

-- ---- ports

module _ (all before : Facts) (p : Port) where
  pub port_meets : search_for.port_stands all before p ≡ true → IsPort all before p
  port_meets h =
      let rest = (and_parts (not (is_declared before.scope p.name)) _ h).1 in
      let others = (and_parts (nat_lt 0 (width_of p.high)) _ rest).1 in
      record {
        new = not-true _ (and_parts (not (is_declared before.scope p.name)) _ h).0;
        width = (and_parts (nat_lt 0 (width_of p.high)) _ rest).0;
        driven = (and_parts (is_input p.direction || is_known all.driven p.name) _ others).0;
        clock = (and_parts (is_input p.direction || is_known all.driven p.name) _ others).1;
      }

  pub port_breaks : search_for.port_stands all before p ≡ false → BreaksPort all before p
  port_breaks h =
      ⊎_elim (λ g. port.Declares (not-false _ g)) (λ g. ⊎_elim port.Width (λ k. ⊎_elim port.Undriven port.Clock (and_cases _ _ k)) (and_cases _ _ g)) (and_cases _ _ h)

  pub port_unbroken : IsPort all before p → BreaksPort all before p → ⊥
  port_unbroken m (port.Declares h) = let e = m.new in cc
  port_unbroken m (port.Width h) = let e = m.width in cc
  port_unbroken m (port.Undriven h) = let e = m.driven in cc
  port_unbroken m (port.Clock h) = let e = m.clock in cc

-- ---- heads

pub record MeetsHead (all_placed : Names) (before : Facts) (m : Module) : Type 0 where
  pub ports : is_empty m.ports ≡ false
  pub new : is_some (interface_named before.modules m.name) ≡ false
  pub name : is_clk m.name ≡ false
  pub clock : (not (list_any (is_clocked before.modules) m.items) || has_port m.ports clk) ≡ true
  pub placed : (not (list_any item_prints m.items) || (is_top m.name || is_known all_placed m.name)) ≡ true

module _ (whole before : Facts) (m : Module) where
  pub head_meets : search_for.head_stands whole.placed before m ≡ true → MeetsHead whole.placed before m
  head_meets h =
      let named = (and_parts (not (is_empty m.ports)) _ h).1 in
      let unclocked = (and_parts (not (is_some (interface_named before.modules m.name))) _ named).1 in
      let others = (and_parts (not (is_clk m.name)) _ unclocked).1 in
      record {
        ports = not-true _ (and_parts (not (is_empty m.ports)) _ h).0;
        new = not-true _ (and_parts (not (is_some (interface_named before.modules m.name))) _ named).0;
        name = not-true _ (and_parts (not (is_clk m.name)) _ unclocked).0;
        clock = (and_parts (not (list_any (is_clocked before.modules) m.items) || has_port m.ports clk) _ others).0;
        placed = (and_parts (not (list_any (is_clocked before.modules) m.items) || has_port m.ports clk) _ others).1;
      }

  pub head_breaks : search_for.head_stands whole.placed before m ≡ false → BreaksHead whole before m
  head_breaks h =
      ⊎_elim (λ g. head.Portless (not-false _ g)) (λ g. ⊎_elim (λ k. head.Named (not-false _ k)) (λ k. ⊎_elim (λ l. head.NamedClock (not-false _ l))
      (λ l. ⊎_elim head.Clockless head.Unplaced (and_cases _ _ l)) (and_cases _ _ k)) (and_cases _ _ g)) (and_cases _ _ h)

  pub head_unbroken : MeetsHead whole.placed before m → BreaksHead whole before m → ⊥
  head_unbroken k (head.Portless h) = let e = k.ports in cc
  head_unbroken k (head.Named h) = let e = k.new in cc
  head_unbroken k (head.NamedClock h) = let e = k.name in cc
  head_unbroken k (head.Clockless h) = let e = k.clock in cc
  head_unbroken k (head.Unplaced h) = let e = k.placed in cc
