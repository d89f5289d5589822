-- The readings of items, modules and whole texts read the grammar's phrases.
use Rattle.std.proofs.Common.{ℕ, suc, List, [], ◌∷◌, Option, Some, None, Bool, true, false, refl, arith}
use Rattle.std.specs.Prelude.{◌||◌, is_some}
use Rattle.verilog_tree.specs.declared.token.Word.{Word}
use Rattle.verilog_tree.specs.declared.token.Word.TheVariants as w
use Rattle.verilog_tree.specs.declared.token.Mark.TheVariants as m
use Rattle.verilog_tree.specs.declared.token.Token.{Token}
use Rattle.verilog_tree.specs.declared.tree.Item.TheVariants as i
use Rattle.verilog_tree.specs.declared.tree.Module.{Module}
use Rattle.verilog_tree.specs.declared.tree.Net.{Net}
use Rattle.grammar.specs.Rules.{pure, many, optional, ◌>>=◌}
use Rattle.grammar.specs.Readers as d
use Rattle.grammar.proofs.Good.{Reads}
use Rattle.grammar.proofs.Parts.{nowhere, some_then, in_turn, both}
use Rattle.grammar.proofs.Choice.{either_in, may}
use Rattle.grammar.proofs.Loops.{collected, loop, as_list}
use Rattle.verilog_rules.specs.declared.sign.Sign.TheVariants as s
use Rattle.verilog_rules.specs.Signs.{same_word, same_mark, is, is_name, direction_at}
use Rattle.verilog_rules.specs.Phrases as g
use Rattle.verilog_rules.specs.Reading as r
use Rattle.verilog_rules.proofs.Singles.{All, gives_value, on, on_name, on_number, on_direction, sign_alone, sign_apart}
use Rattle.verilog_rules.proofs.Shapes.{listed, optional_range, constant, comma, semicolon, open_square}
use Rattle.verilog_rules.proofs.Expressions.{at, after_value, expression}
use Rattle.verilog_rules.proofs.Statements.{statement}

-- whether a token is of the word
abbrev at_word : Word → Token → Bool
at_word x = is (s.Word x)

-- what stands behind the name of a register or of a memory
abbrev begins_end : Option ℕ → Token → Bool
begins_end None x = is semicolon x
begins_end (Some high) x = is open_square x || is semicolon x

module _ (n : ℕ) where
  wire : Reads All n (λ depth. g.wire) (λ room. r.read_wire) (at_word w.Wire) (λ v. nowhere) false
  unfolding r.read_wire
  wire =
      on n (s.Word w.Wire) (λ u. both (optional_range n) (λ high. on_name n (λ x. on n semicolon (λ u. gives_value n (i.Wire (record { high = high; name = x })))))
      (λ v x l h. sign_apart open_square is_name refl x l h) (λ v. nowhere) (λ b x h. h) (λ v depth k b x f c l. cc))

  register_end : (high : Option ℕ) (x : List ℕ) → Reads All n (λ depth. g.register_end high x) (λ room. r.read_register_end high x) (is semicolon) (λ v. nowhere) false
  unfolding r.read_register_end
  register_end high x = on n semicolon (λ u. gives_value n (i.Register (record { high = high; name = x })))

  memory_end : (high : ℕ) (x : List ℕ) → Reads All n (λ depth. g.memory_end high x) (λ room. r.read_memory_end high x) (is open_square) (λ v. nowhere) false
  unfolding r.read_memory_end
  memory_end high x =
      on n open_square (λ u. on n s.Zero (λ u. on n (s.Mark m.Colon) (λ u. on_number n (λ last. on n (s.Mark m.CloseSquare) (λ u. on n semicolon (λ u.
      gives_value n (i.Memory (record { high = high; name = x; last = last }))))))))

  stored_end : (high : Option ℕ) (x : List ℕ) → Reads All n (λ depth. g.stored_end high x) (λ room. r.read_stored_end high x) (begins_end high) (λ v. nowhere) false
  unfolding r.read_stored_end same_mark
  stored_end None x = register_end None x
  stored_end (Some high) x =
      either_in (memory_end high x) (register_end (Some high) x) (λ y a b. sign_apart open_square (is semicolon) refl y a b) (λ v. nowhere) (λ v y h. h) (λ v y h. h)
      (λ depth k v y a b c. cc)

  stored : Reads All n (λ depth. g.stored) (λ room. r.read_stored) (at_word w.Reg) (λ v. nowhere) false
  unfolding r.read_stored
  stored =
      on n (s.Word w.Reg) (λ u. both (optional_range n) (λ high. on_name n (λ x. stored_end high x)) (λ v x l h. sign_apart open_square is_name refl x l h) (λ v. nowhere)
      (λ b x h. h)
      (λ v depth k b x f c l. cc))

  assign : Reads All n (λ depth. g.assign) (λ room. r.read_assign) (at_word w.Assign) (λ v. nowhere) false
  unfolding r.read_assign same_mark
  assign =
      on n (s.Word w.Assign) (λ u. on_name n (λ x. on n (s.Mark m.Equal) (λ u. in_turn (expression n) (λ value. on n semicolon (λ u. gives_value n (i.Assign
      (record { target = x; value = value }))))
      (λ v y l h. sign_apart semicolon after_value refl y h l))))

  index : Reads All n (λ depth. g.index) (λ room. r.read_index) (is open_square) (λ v. nowhere) false
  unfolding r.read_index
  index = on n open_square (λ u. on_number n (λ k. on n (s.Mark m.CloseSquare) (λ u. gives_value n k)))

  optional_index : Reads All n (λ depth. optional g.index) (λ room. r.read_optional_index) (is open_square) (λ v. is open_square) true
  unfolding r.read_optional_index
  optional_index = may index (λ o. is open_square) (λ v x h. cc) (λ x h. h)

  initial_constant : Reads All n (λ depth. g.initial_constant) (λ room. r.read_initial_constant) is_name (λ v. nowhere) false
  unfolding r.read_initial_constant same_mark
  initial_constant =
      on_name n (λ x. both optional_index (λ word. on n (s.Mark m.Equal) (λ u. in_turn (constant n) (λ c. on n semicolon (λ u. gives_value n
      (record { name = x; word = word; value = c })))
      (λ v y l h. cc)))
      (λ v y l h. sign_apart open_square (at m.Equal) refl y l h) (λ v. nowhere) (λ b y h. h) (λ v depth k b y f c l. cc))

  initial : Reads All n (λ depth. g.initial) (λ room. r.read_initial) (at_word w.Initial) (λ v. nowhere) false
  unfolding r.read_initial r.read_initial_constants
  initial =
      on n (s.Word w.Initial) (λ u. on n (s.Word w.Begin) (λ u. both (collected initial_constant (λ x l h. cc))
      (λ found. on n (s.Word w.End) (λ u. gives_value n (i.Initial (record { constants = found }))))
      (λ vs x l h. sign_apart (s.Word w.End) (λ y. false || is_name y) refl x h l) (λ v. nowhere) (λ b x h. h) (λ vs depth k b x f c l. cc)))

  always_head : Reads All n (λ depth. g.always_head) (λ room. r.read_always_head) (at_word w.Always) (λ v. nowhere) false
  unfolding r.read_always_head
  always_head =
      on n (s.Word w.Always) (λ u. on n (s.Mark m.At) (λ u. on n (s.Mark m.OpenRound) (λ u. on n (s.Word w.PosEdge) (λ u. on n s.Clock (λ u. on n (s.Mark m.CloseRound)
      (λ u. sign_alone n (s.Word w.Begin)))))))

  always : Reads All n (λ depth. g.always (g.statement depth)) (λ room. r.read_always (r.read_statement (suc room))) (at_word w.Always) (λ v. nowhere) false
  unfolding r.read_always r.read_statements same_word
  always =
      in_turn always_head (λ u. both (collected (statement n) (λ x l h. cc)) (λ body. on n (s.Word w.End) (λ u. gives_value n (i.Always (record { body = body }))))
      (λ vs x l h. sign_apart (s.Word w.End) (λ y. false || r.begins_statement y) refl x h l) (λ v. nowhere) (λ b x h. h) (λ vs depth k b x f c l. cc))
      (λ v x l h. cc)

  connection : Reads All n (λ depth. g.connection) (λ room. r.read_connection) (at m.Dot) (λ v. nowhere) false
  unfolding r.read_connection
  connection =
      on n (s.Mark m.Dot) (λ u. on_name n (λ port. on n (s.Mark m.OpenRound) (λ u. on_name n (λ x. on n (s.Mark m.CloseRound) (λ u. gives_value n
      (record { port = port; signal = x }))))))

  instance : Reads All n (λ depth. g.instance) (λ room. r.read_instance) is_name (λ v. nowhere) false
  unfolding r.read_instance same_mark
  instance =
      on_name n (λ module_name. on_name n (λ x. on n (s.Mark m.OpenRound) (λ u. in_turn (listed connection (λ y l h. cc)) (λ found. on n (s.Mark m.CloseRound)
      (λ u. on n semicolon (λ u.
      gives_value n (i.Instance (record { module_name = module_name; name = x; connections = found }))))) (λ vs y l h. sign_apart (s.Mark m.CloseRound)
      (λ z. false || is comma z) refl y h l))))

  pub item : Reads All n (λ depth. g.item (g.statement depth)) (λ room. r.read_item (r.read_statement (suc room))) r.begins_item (λ v. nowhere) false
  unfolding r.read_item same_word
  item =
      let last = either_in always instance (λ x a b. sign_apart (s.Word w.Always) is_name refl x a b) (λ v. nowhere) (λ v x h. h) (λ v x h. h) (λ depth k v x a b c. cc) in
      let fourth = either_in initial last (λ x a b. sign_apart (s.Word w.Initial) (λ y. at_word w.Always y || is_name y) refl x a b) (λ v. nowhere) (λ v x h. h)
      (λ v x h. h) (λ depth k v x a b c. cc) in
      let third = either_in assign fourth (λ x a b. sign_apart (s.Word w.Assign) (λ y. at_word w.Initial y || (at_word w.Always y || is_name y)) refl x a b) (λ v. nowhere)
      (λ v x h. h) (λ v x h. h)
      (λ depth k v x a b c. cc) in
      let second = either_in stored third (λ x a b. sign_apart (s.Word w.Reg) (λ y. at_word w.Assign y || (at_word w.Initial y ||
      (at_word w.Always y || is_name y))) refl x a b) (λ v. nowhere)
      (λ v x h. h) (λ v x h. h) (λ depth k v x a b c. cc) in
      either_in wire second (λ x a b. sign_apart (s.Word w.Wire) (λ y. at_word w.Reg y || (at_word w.Assign y || (at_word w.Initial y ||
      (at_word w.Always y || is_name y)))) refl x a b) (λ v. nowhere)
      (λ v x h. h) (λ v x h. h) (λ depth k v x a b c. cc)

  -- ---- modules

  port : Reads All n (λ depth. g.port) (λ room. r.read_port) (λ x. is_some (direction_at x)) (λ v. nowhere) false
  unfolding r.read_port
  port =
      on_direction n (λ way. on n (s.Word w.Wire) (λ u. both (optional_range n) (λ high. on_name n (λ x. gives_value n (record { direction = way; high = high; name = x })))
      (λ v x l h. sign_apart open_square is_name refl x l h) (λ v. nowhere) (λ b x h. h) (λ v depth k b x f c l. cc)))

  module_head : Reads All n (λ depth. g.module_head) (λ room. r.read_module_head) (at_word w.Module) (λ v. nowhere) false
  unfolding r.read_module_head same_mark
  module_head =
      on n (s.Word w.Module) (λ u. on_name n (λ x. on n (s.Mark m.OpenRound) (λ u. in_turn (listed port (λ y l h. cc)) (λ ports. on n (s.Mark m.CloseRound)
      (λ u. on n semicolon (λ u.
      gives_value n (x, ports)))) (λ vs y l h. sign_apart (s.Mark m.CloseRound) (λ z. false || is comma z) refl y h l))))

  pub module_of : Reads All n (λ depth. g.module_of (g.statement depth)) (λ room. r.read_module (r.read_statement (suc room))) (at_word w.Module) (λ v. nowhere) false
  unfolding r.read_module r.read_items same_word
  module_of =
      in_turn module_head (λ head. both (collected item (λ x l h. cc)) (λ items. on n (s.Word w.EndModule) (λ u. gives_value n
      (record { name = head.0; ports = head.1; items = items })))
      (λ vs x l h. sign_apart (s.Word w.EndModule) (λ y. false || r.begins_item y) refl x h l) (λ v. nowhere) (λ b x h. h) (λ vs depth k b x f c l. cc))
      (λ v x l h. cc)

  abbrev net_from : List Module → Net
  net_from modules = record { modules = modules }

  more_modules : (first : Module) → Reads All n (λ depth. many (g.module_of (g.statement depth)) >>= (λ more. pure (net_from (first ∷ more))))
      (λ room ts. d.and_then (r.read_modules (r.read_statement (suc room)) first ts) (λ modules. d.reads_pure (net_from modules))) (λ x. at_word w.Module x || false)
      (λ v. at_word w.Module) true
  unfolding r.read_modules
  more_modules first =
      as_list (λ modules depth. pure (net_from modules)) (first ∷ [])
      (loop d.appended module_of (λ modules. gives_value n (net_from modules)) (λ v x l h. cc) (λ v x l h. cc) (λ x a b. cc) (λ v. at_word w.Module) (λ b x h. cc)
      (λ v b x z h. cc) (λ b x z h. h) (first ∷ []))

  pub net : Reads All n g.net (λ room. r.read_net (suc room)) (at_word w.Module) (λ v. at_word w.Module) false
  unfolding r.read_net
  net = some_then {n = n} {m = n} (omega arith) module_of more_modules (λ v x l h. cc) (λ v. at_word w.Module) (λ b x h. h) (λ a depth k b x f c l. cc)
