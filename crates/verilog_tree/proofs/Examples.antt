-- The rules at small examples: a net that counts to 2 is well formed, and what breaks a rule is refused.
use Rattle.std.proofs.Common.{◌≡◌, ℕ, List, [], ◌∷◌, Some, None, Bool, true, false, refl, sym, ap, ◌∙◌}
use Rattle.std.specs.Prelude.{codes, not, ◌&&◌, ◌||◌}
use Rattle.verilog_tree.specs.declared.kind.SignalClass.TheVariants as class
use Rattle.verilog_tree.specs.declared.kind.Kind.TheVariants as kind
use Rattle.verilog_tree.specs.declared.tree.Constant.{Constant}
use Rattle.verilog_tree.specs.declared.tree.BinaryOperator.TheVariants as op
use Rattle.verilog_tree.specs.declared.tree.DivisionOperator.TheVariants as d
use Rattle.verilog_tree.specs.declared.tree.Direction.TheVariants as dir
use Rattle.verilog_tree.specs.declared.tree.Expression.TheVariants as expr
use Rattle.verilog_tree.specs.declared.tree.Statement.{Statement}
use Rattle.verilog_tree.specs.declared.tree.Statement.TheVariants as st
use Rattle.verilog_tree.specs.declared.tree.Statement.TheOpen.{Statement-F}
use Rattle.verilog_tree.specs.declared.tree.Statement.TheFolds.{fold-Statement, fold-roll-Statement}
use Rattle.verilog_tree.specs.declared.tree.Connection.{Connection}
use Rattle.verilog_tree.specs.declared.tree.Item.TheVariants as i
use Rattle.verilog_tree.specs.declared.tree.Port.{Port}
use Rattle.verilog_tree.specs.declared.tree.Module.{Module}
use Rattle.verilog_tree.specs.declared.tree.Net.{Net}
use Rattle.verilog_tree.specs.Scope.{Name, Names, Scope, is_known}
use Rattle.verilog_tree.specs.Rules.{Between, values_in, expression_right, assign_right, statement_step, initial_constant_right, connections_right}
use Rattle.verilog_tree.specs.Facts.{Facts, nothing, after, with_name, module_facts, written_step, prints_step}
use Rattle.verilog_tree.specs.WellFormed.{IsWellFormed, none_known}

-- ---- expressions

abbrev names : Scope
names =
    (codes "clk", kind.Clock) ∷ (codes "a", kind.Signal class.Wire 8 true) ∷ (codes "b", kind.Signal class.Register 8 true) ∷ (codes "c", kind.Signal class.Input 1 false)
    ∷ (codes "w", kind.Signal class.Output 16 true) ∷ (codes "m", kind.Memory 8 3) ∷ (codes "u", kind.Instance) ∷ []

abbrev constant : ℕ → ℕ → Constant
constant w n = record { width = w; value = n }

sum : assign_right names (codes "a") (expr.Binary op.Add (codes "a") (codes "b")) ≡ true
sum = refl

sum_of_two_widths : assign_right names (codes "a") (expr.Binary op.Add (codes "a") (codes "w")) ≡ false
sum_of_two_widths = refl

shift : assign_right names (codes "a") (expr.Binary op.ShiftLeft (codes "a") (codes "w")) ≡ true
shift = refl

comparison : (expression_right names (expr.Binary op.Less (codes "a") (codes "b")) 1 ≡ true) × (expression_right names (expr.Binary op.Less (codes "a") (codes "b")) 8 ≡ false)
comparison = (refl, refl)

assign_to_register : assign_right names (codes "b") (expr.Copy (codes "a")) ≡ false
assign_to_register = refl

reads_clk : expression_right names (expr.Copy (codes "clk")) 1 ≡ false
reads_clk = refl

wide_constant : (expression_right names (expr.Constant (constant 8 255)) 8 ≡ true) × (expression_right names (expr.Constant (constant 8 256)) 8 ≡ false)
wide_constant = (refl, refl)

division : expression_right names (expr.SignedDivision (codes "b") (constant 8 0) (constant 8 0) d.Quotient (codes "a") (codes "b")) 8 ≡ true
division = refl

division_by_another : expression_right names (expr.Division (codes "a") (constant 8 0) (constant 8 0) d.Quotient (codes "a") (codes "b")) 8 ≡ false
division_by_another = refl

read : expression_right names (expr.MemoryRead (codes "a") (constant 8 4) (codes "m") (codes "a") (constant 8 0)) 8 ≡ true
read = refl

read_past_its_end : expression_right names (expr.MemoryRead (codes "a") (constant 8 5) (codes "m") (codes "a") (constant 8 0)) 8 ≡ false
read_past_its_end = refl

select : (expression_right names (expr.BitSelect (codes "a") 7) 1 ≡ true)
    × (expression_right names (expr.BitSelect (codes "a") 8) 1 ≡ false) × (expression_right names (expr.BitSelect (codes "c") 0) 1 ≡ false)
select = (refl, refl, refl)

part : (expression_right names (expr.PartSelect (codes "a") 6 2) 5 ≡ true) × (expression_right names (expr.PartSelect (codes "a") 2 6) 5 ≡ false)
part = (refl, refl)

joined : (expression_right names (expr.Concatenation (codes "a" ∷ codes "b" ∷ [])) 16 ≡ true) × (expression_right names (expr.Concatenation (codes "a" ∷ codes "m" ∷ [])) 16 ≡ false)
joined = (refl, refl)

repeated : (expression_right names (expr.Replication 8 (codes "c")) 8 ≡ true) × (expression_right names (expr.Replication 7 (codes "c")) 8 ≡ false)
repeated = (refl, refl)

-- ---- strings, constants, connections

strings : (values_in Between (codes "%0d, %0d%%") ≡ Some 2) × (values_in Between (codes "%d") ≡ None) × (values_in Between (92 ∷ 110 ∷ []) ≡ Some 0) × (values_in Between (92 ∷ 97 ∷ []) ≡ None)
strings = (refl, refl, refl, refl)

words : (initial_constant_right names (record { name = codes "m"; word = Some 3; value = constant 8 1 }) ≡ true)
    × (initial_constant_right names (record { name = codes "m"; word = Some 4; value = constant 8 1 }) ≡ false)
    × (initial_constant_right names (record { name = codes "a"; word = None; value = constant 8 1 }) ≡ false)
words = (refl, refl, refl)

abbrev bank_ports : List Port
bank_ports =
    record { direction = dir.Input; high = None; name = codes "clk" } ∷ record { direction = dir.Input; high = Some 7; name = codes "address" }
    ∷ record { direction = dir.Output; high = Some 7; name = codes "word" } ∷ []

abbrev connected : Name → Name → Name → List Connection
connected x y z = record { port = codes "clk"; signal = x } ∷ record { port = codes "address"; signal = y } ∷ record { port = codes "word"; signal = z } ∷ []

connections : (connections_right names bank_ports (connected (codes "clk") (codes "b") (codes "a")) ≡ true)
    × (connections_right names bank_ports (connected (codes "c") (codes "b") (codes "a")) ≡ false)
    × (connections_right names bank_ports (connected (codes "clk") (codes "w") (codes "a")) ≡ false)
    × (connections_right names bank_ports (connected (codes "clk") (codes "a") (codes "b")) ≡ false)
    × (connections_right names bank_ports (record { port = codes "clk"; signal = codes "clk" } ∷ []) ≡ false)
connections = (refl, refl, refl, refl, refl)

-- ---- a whole net

abbrev set : Statement
set = st.Set (codes "q") (codes "n")

set_fold : (A : Type 0) (f : Statement-F A → A) → fold-Statement A f set ≡ f (Statement-F.Set (codes "q") (codes "n"))
set_fold A f = ap (fold-Statement A f) (sym (st.rolls-Set (codes "q") (codes "n"))) ∙ fold-roll-Statement A f (Statement-F.Set (codes "q") (codes "n"))

abbrev counter : Module
counter = record {
  name = codes "top";
  ports = record { direction = dir.Input; high = None; name = codes "clk" } ∷ record { direction = dir.Output; high = None; name = codes "done" } ∷ [];
  items =
      i.Register (record { high = Some 1; name = codes "q" })
      ∷ i.Wire (record { high = Some 1; name = codes "n" })
      ∷ i.Assign (record { target = codes "n"; value = expr.Binary op.Add (codes "q") (codes "q") })
      ∷ i.Assign (record { target = codes "done"; value = expr.BitSelect (codes "q") 1 })
      ∷ i.Initial (record { constants = record { name = codes "q"; word = None; value = constant 2 0 } ∷ [] })
      ∷ i.Always (record { body = set ∷ [] }) ∷ [];
}

abbrev net : Net
net = record { modules = counter ∷ [] }

abbrev all : Facts
all = module_facts nothing counter

net_is_well_formed : IsWellFormed net
net_is_well_formed = record {
  full = (tt, ((tt, (tt, (tt, (tt, (tt, (tt, (tt, tt))))))), tt));
  modules = (
    record {
      new = refl;
      name = refl;
      clock = refl;
      placed = ap (λ b. not (b || false || false) || (true || is_known [] (codes "top"))) (set_fold Bool prints_step);
      ports = (record { new = refl; width = refl; driven = refl; clock = refl }, (record { new = refl; width = refl; driven = refl; clock = refl }, tt));
      items = (
        record {
          new = refl;
          right = refl;
          driver = refl;
          writer = refl;
          initial = refl;
          complete = ap (λ ws. is_known (after with_name [] ws) (codes "q") && true) (set_fold Names written_step);
          printing = refl;
          printer = refl;
        },
        (
          record { new = refl; right = refl; driver = refl; writer = refl; initial = refl; complete = refl; printing = refl; printer = refl },
          (
            record { new = refl; right = refl; driver = refl; writer = refl; initial = refl; complete = refl; printing = refl; printer = refl },
            (
              record { new = refl; right = refl; driver = refl; writer = refl; initial = refl; complete = refl; printing = refl; printer = refl },
              (
                record { new = refl; right = refl; driver = refl; writer = refl; initial = refl; complete = refl; printing = refl; printer = refl },
                (
                  record {
                    new = refl;
                    right = ap (λ b. b && true) (set_fold Bool (statement_step all.scope));
                    driver = refl;
                    writer = ap (λ ws. none_known [] ws && true) (set_fold Names written_step);
                    initial = refl;
                    complete = refl;
                    printing = ap (λ b. (b || false) && false) (set_fold Bool prints_step);
                    printer = refl;
                  },
                  tt,
                ),
              ),
            ),
          ),
        ),
      );
    },
    tt,
  );
}
