-- How many tokens phrases have.
use Rattle.std.specs.Prelude.{◌≡◌, ℕ, zero, suc, ◌+◌, ◌-◌, ◌*◌, ◌<◌, List, [], ◌∷◌, ◌++◌, length, take, Option}
use Rattle.std.proofs.Common.{refl, sym, ap, ◌∙◌, get_or, add-one, arith, length-append, append_assoc}
use Rattle.std.proofs.lemmas.List.{append-nil}
use Rattle.verilog_tree.specs.declared.token.Mark.TheVariants as m
use Rattle.verilog_tree.specs.declared.token.Word.TheVariants as w
use Rattle.verilog_tree.specs.declared.token.Token.{Token}
use Rattle.verilog_tree.specs.declared.token.Token.TheVariants as t
use Rattle.verilog_tree.specs.declared.tree.Expression.TheVariants as expr
use Rattle.verilog_tree.specs.declared.tree.Direction.{Direction}
use Rattle.verilog_tree.specs.declared.tree.Direction.TheVariants as dir
use Rattle.verilog_tree.specs.declared.tree.WriteArgument.{WriteArgument}
use Rattle.verilog_tree.specs.declared.tree.Port.{Port}
use Rattle.verilog_tree.specs.declared.tree.Connection.{Connection}
use Rattle.verilog_tree.specs.declared.tree.Statement.{Statement}
use Rattle.verilog_tree.specs.declared.tree.Statement.TheVariants as st
use Rattle.verilog_tree.specs.declared.tree.InitialConstant.{InitialConstant}
use Rattle.verilog_tree.specs.declared.tree.Wire.{Wire}
use Rattle.verilog_tree.specs.declared.tree.Register.{Register}
use Rattle.verilog_tree.specs.declared.tree.Assign.{Assign}
use Rattle.verilog_tree.specs.declared.tree.Initial.{Initial}
use Rattle.verilog_tree.specs.declared.tree.Always.{Always}
use Rattle.verilog_tree.specs.declared.tree.Instance.{Instance}
use Rattle.verilog_tree.specs.declared.tree.Item.TheVariants as i
use Rattle.verilog_tree.specs.declared.tree.Module.{Module}
use Rattle.verilog_tree.specs.Grammar as g
use Rattle.verilog_tree.proofs.Fold.{statement_set, statement_store, statement_if, statement_write}
use Rattle.verilog_reader.specs.Before.{port_and_comma, before_name, before_port, before_item, before}

-- ---- one phrase more

module _ {A : Type 0} (f : A → List Token) where
  all_take : (xs : List A) (k : ℕ) (x : A) → x ≡ get_or xs k x → k < length xs → g.all f (take (suc k) xs) ≡ g.all f (take k xs) ++ f x
  all_take [] k x e lt = absurd (omega arith)
  all_take (y ∷ xs) zero x e lt = append-nil (f y) ∙ ap f (sym e)
  all_take (y ∷ xs) (suc k) x e lt = ap (λ l. f y ++ l) (all_take xs k x e (omega arith)) ∙ sym (append_assoc (f y) (g.all f (take k xs)) (f x))

  pub counted : (xs : List A) (k : ℕ) (x : A) (a b n : ℕ) → a ≡ length (g.all f (take k xs)) → b ≡ a + n → n ≡ length (f x) → x ≡ get_or xs k x → k < length xs
      → b ≡ length (g.all f (take (k + 1) xs))
  counted xs k x a b n before sum more is lt =
      let longer = ap length (ap (λ n. g.all f (take n xs)) (add-one k) ∙ all_take xs k x is lt) in
      let both = length-append (g.all f (take k xs)) (f x) in
      omega (arith, before, sum, more, longer, both)

-- ---- lists with commas

more_all : {A : Type 0} (f : A → List Token) (xs : List A) → g.more f xs ≡ g.all (λ x. g.mark m.Comma ++ f x) xs
more_all f [] = refl
more_all f (x ∷ xs) = ap (λ l. t.Mark m.Comma ∷ (f x ++ l)) (more_all f xs)

-- an argument behind a comma
pub comma_counted : (xs : List WriteArgument) (k : ℕ) (x : WriteArgument) (a b n : ℕ) → a ≡ length (g.more g.argument (take k xs)) → b ≡ a + (1 + n)
    → n ≡ length (g.argument x) → x ≡ get_or xs k x → k < length xs
    → b ≡ length (g.more g.argument (take (k + 1) xs))
comma_counted xs k x a b n before sum more is lt =
    let one : 1 + n ≡ length (g.mark m.Comma ++ g.argument x) = omega (arith, more) in
    counted (λ y. g.mark m.Comma ++ g.argument y) xs k x a b (1 + n) (before ∙ ap length (more_all g.argument (take k xs))) sum one is lt
    ∙ ap length (sym (more_all g.argument (take (k + 1) xs)))

more_names : (xs : List (List ℕ)) → length (g.more g.name xs) ≡ length xs + length xs
more_names [] = refl
more_names (x ∷ xs) = let e = more_names xs in omega (arith, e)

names_length : (xs : List (List ℕ)) → length (g.commas g.name xs) ≡ length xs + (length xs - 1)
names_length [] = refl
names_length (x ∷ xs) = let e = more_names xs in omega (arith, e)

pub concatenation_length : (xs : List (List ℕ)) → length (g.expression (expr.Concatenation xs)) ≡ 2 + (length xs + (length xs - 1))
concatenation_length xs =
    let a = names_length xs in
    let b = length-append (g.commas g.name xs) (g.mark m.CloseCurly) in
    omega (arith, a, b)

more_connections : (xs : List Connection) → length (g.more g.connection xs) ≡ 6 * length xs
more_connections [] = refl
more_connections (x ∷ xs) = let e = more_connections xs in omega (arith, e)

connections_length : (xs : List Connection) → length (g.commas g.connection xs) ≡ 6 * length xs - 1
connections_length [] = refl
connections_length (x ∷ xs) = let e = more_connections xs in omega (arith, e)

-- ---- ports

direction_length : (d : Direction) → length (g.direction d) ≡ 1
direction_length dir.Input = refl
direction_length dir.Output = refl

port_parts : (p : Port) → length (g.port p) ≡ 3 + length (g.range p.high)
port_parts p =
    let a = direction_length p.direction in
    let b = length-append (g.direction p.direction) (g.word w.Wire) in
    let c = length-append (g.direction p.direction ++ g.word w.Wire) (g.range p.high) in
    let d = length-append ((g.direction p.direction ++ g.word w.Wire) ++ g.range p.high) (g.name p.name) in
    omega (arith, a, b, c, d)

pub port_length : (p : Port) → length (port_and_comma p) ≡ 4 + length (g.range p.high)
port_length p = let a = port_parts p in let b = length-append (g.port p) (g.mark m.Comma) in omega (arith, a, b)

more_ports : (xs : List Port) → length (g.more g.port xs) ≡ length (g.all port_and_comma xs)
more_ports [] = refl
more_ports (x ∷ xs) =
    let e = more_ports xs in
    let a = length-append (g.port x) (g.more g.port xs) in
    let b = length-append (port_and_comma x) (g.all port_and_comma xs) in
    let c = length-append (g.port x) (g.mark m.Comma) in
    omega (arith, a, b, c, e)

pub listed_ports : (xs : List Port) → length (g.commas g.port xs) ≡ length (g.all port_and_comma xs) - 1
listed_ports [] = refl
listed_ports (x ∷ xs) =
    let e = more_ports xs in
    let a = length-append (g.port x) (g.more g.port xs) in
    let b = length-append (port_and_comma x) (g.all port_and_comma xs) in
    let c = length-append (g.port x) (g.mark m.Comma) in
    omega (arith, a, b, c, e)

-- ---- statements

pub set_length : (x y : List ℕ) → length (g.statement (st.Set x y)) ≡ 4
set_length x y = ap length (statement_set x y)

pub store_length : (x y z : List ℕ) → length (g.statement (st.Store x y z)) ≡ 7
store_length x y z = ap length (statement_store x y z)

pub if_length : (x : List ℕ) (body : List Statement) → length (g.statement (st.If x body)) ≡ 6 + length (g.all g.statement body)
if_length x body =
    let a = ap length (statement_if x body) in
    let b = length-append (g.all g.statement body) (g.word w.End) in
    omega (arith, a, b)

pub write_length : (text : List ℕ) (xs : List WriteArgument) → length (g.statement (st.Write text xs)) ≡ 5 + length (g.more g.argument xs)
write_length text xs =
    let a = ap length (statement_write text xs) in
    let b = length-append (g.more g.argument xs) (g.mark m.CloseRound) in
    let c = length-append (g.more g.argument xs ++ g.mark m.CloseRound) (g.mark m.Semicolon) in
    omega (arith, a, b, c)

-- ---- items

pub initial_length : (c : InitialConstant) → length (g.initial_constant c) ≡ 6 + length (g.index c.word)
initial_length c =
    let a = length-append (g.index c.word) (g.mark m.Equal) in
    let b = length-append (g.index c.word ++ g.mark m.Equal) (g.constant c.value) in
    let d = length-append ((g.index c.word ++ g.mark m.Equal) ++ g.constant c.value) (g.mark m.Semicolon) in
    omega (arith, a, b, d)

ranged_length : (high : Option ℕ) (n : List ℕ) → length ((g.range high ++ g.name n) ++ g.mark m.Semicolon) ≡ 2 + length (g.range high)
ranged_length high n =
    let a = length-append (g.range high) (g.name n) in
    let b = length-append (g.range high ++ g.name n) (g.mark m.Semicolon) in
    omega (arith, a, b)

pub wire_length : (x : Wire) → length (g.item (i.Wire x)) ≡ 3 + length (g.range x.high)
wire_length x = let a = ranged_length x.high x.name in omega (arith, a)

pub register_length : (x : Register) → length (g.item (i.Register x)) ≡ 3 + length (g.range x.high)
register_length x = let a = ranged_length x.high x.name in omega (arith, a)

pub assign_length : (x : Assign) → length (g.item (i.Assign x)) ≡ 4 + length (g.expression x.value)
assign_length x = let a = length-append (g.expression x.value) (g.mark m.Semicolon) in omega (arith, a)

pub initials_length : (x : Initial) → length (g.item (i.Initial x)) ≡ 3 + length (g.all g.initial_constant x.constants)
initials_length x = let a = length-append (g.all g.initial_constant x.constants) (g.word w.End) in omega (arith, a)

pub always_length : (x : Always) → length (g.item (i.Always x)) ≡ 8 + length (g.all g.statement x.body)
always_length x = let a = length-append (g.all g.statement x.body) (g.word w.End) in omega (arith, a)

pub instance_length : (x : Instance) → length (g.item (i.Instance x)) ≡ 5 + (6 * length x.connections - 1)
instance_length x =
    let e = connections_length x.connections in
    let a = length-append (g.commas g.connection x.connections) (g.mark m.CloseRound) in
    let b = length-append (g.commas g.connection x.connections ++ g.mark m.CloseRound) (g.mark m.Semicolon) in
    omega (arith, a, b, e)

pub ruleset item_lengths = (wire_length, register_length, assign_length, initials_length, always_length, instance_length)

-- ---- modules

head_length : (n : List ℕ) (ports : List Port) → length ((g.commas g.port ports ++ g.mark m.CloseRound) ++ g.mark m.Semicolon) ≡ length (g.commas g.port ports) + 2
head_length n ports =
    let a = length-append (g.commas g.port ports) (g.mark m.CloseRound) in
    let b = length-append (g.commas g.port ports ++ g.mark m.CloseRound) (g.mark m.Semicolon) in
    omega (arith, a, b)

pub item_place_length : (k : ℕ) (x : Module) → length (before_item k x) ≡ (length (g.commas g.port x.ports) + 5) + length (g.all g.item (take k x.items))
item_place_length k x =
    let a = head_length x.name x.ports in
    let b = length-append ((g.commas g.port x.ports ++ g.mark m.CloseRound) ++ g.mark m.Semicolon) (g.all g.item (take k x.items)) in
    omega (arith, a, b)

pub module_length : (x : Module) → length (g.module_tokens x) ≡ (length (g.commas g.port x.ports) + 5) + length (g.all g.item x.items) + 1
module_length x =
    let a = head_length x.name x.ports in
    let b = length-append ((g.commas g.port x.ports ++ g.mark m.CloseRound) ++ g.mark m.Semicolon) (g.all g.item x.items) in
    let c = length-append (((g.commas g.port x.ports ++ g.mark m.CloseRound) ++ g.mark m.Semicolon) ++ g.all g.item x.items) (g.word w.EndModule) in
    omega (arith, a, b, c)

-- ---- places in a net

module _ (modules : List Module) (number count : ℕ) (is : count ≡ length (g.all g.module_tokens (take number modules))) where
  placed : (within : List Token) (n : ℕ) → n ≡ count + length within → n ≡ length (before modules number within)
  placed within n e = let a = length-append (g.all g.module_tokens (take number modules)) within in omega (arith, a, is, e)

  pub name_place : (x : Module) (n : ℕ) → n ≡ count + 1 → n ≡ length (before modules number (before_name x))
  name_place x n e = placed (before_name x) n e

  pub port_place : (k : ℕ) (x : Module) (ports n : ℕ) → ports ≡ length (g.all port_and_comma (take k x.ports)) → n ≡ (count + 3) + ports
      → n ≡ length (before modules number (before_port k x))
  port_place k x ports n p e = placed (before_port k x) n (omega (arith, p, e))

  pub item_place : (k : ℕ) (x : Module) (head items n : ℕ) → head ≡ length (g.commas g.port x.ports) + 5 → items ≡ length (g.all g.item (take k x.items))
      → n ≡ (count + head) + items
      → n ≡ length (before modules number (before_item k x))
  item_place k x head items n h j e = let a = item_place_length k x in placed (before_item k x) n (omega (arith, a, h, j, e))
