-- Operations of a loop give what they give: lemmas of each function that puts the word of an operation together.
use Rattle.std.proofs.Common.{◌≡◌, ℕ, ◌-◌, List, slice_get, Some, ℤ, pos, refl, sym, subst}
use Rattle.std.specs.Prelude.{Result, IfOk}
use Rattle.netlist.specs.declared.netlist.Signal.{Signal}
use Rattle.netlist.specs.declared.netlist.Module.{Module}
use Rattle.verilog_meaning.specs.Readings.{Reading}
use Rattle.hls_ints.specs.Types.{IntegerType, wrapped}
use Rattle.c_program.specs.declared.tree.UnaryOperator.{UnaryOperator}
use Rattle.c_program.specs.declared.tree.BinaryOperator.{BinaryOperator}
use Rattle.interleaving.specs.Memory.{Memory}
use Rattle.block_ir.specs.Arithmetic.{unary_total, binary_total}
use Rattle.block_ir.specs.Run.{place_read}
use Rattle.block_ir.specs.declared.operand.Operand.{Operand}
use Rattle.block_ir.specs.declared.block.Operation.{Operation}
use Rattle.block_ir.specs.declared.block.Operation.TheVariants.{Unary, Binary, ReadGlobal, WriteGlobal, ReadArray, WriteArray}
use Rattle.block_ir.specs.declared.block.Block.{Block}
use Rattle.block_ir.specs.declared.code.Array.{Array}
use Rattle.block_ir.specs.declared.code.ThreadCode.{ThreadCode}
use Rattle.operator_words.specs.Shown.{unary_result, binary_result}
use Rattle.operator_wires.specs.declared.words.Word.{Word}
use Rattle.operator_wires.specs.Words.{IsWord, Holds, Becomes, Combine}
use Rattle.operator_wires.proofs.PutSignals.{grows_then}
use Rattle.operator_wires.proofs.MadeWords.{of_ok}
use Rattle.operator_wires.proofs.Typed.{has_zero}
use Rattle.block_datapath.proofs.OperandWords.{own_word}
use Rattle.thread_promise.specs.Types.{value_type, operand_type}
use Rattle.thread_promise.specs.Slots.{element_at}
use Rattle.block_datapath.specs.declared.registers.Registers.{Registers}
use Rattle.block_datapath.specs.Operations.{seen_value, operation_value, ReadsArray}
use Rattle.planned_loop.specs.Loop.{nothing}
use Rattle.loop_datapath.specs.declared.times.LoopTimes.{LoopTimes}
use Rattle.loop_datapath.specs.Ahead.{value_there, variable_there, operand_there, ShowsOperandIn}
use Rattle.loop_datapath.specs.Operations.{IsOwn, ShowsOperationIn}

module _ (code : ThreadCode) (registers : Registers) (turn : Block) (times : LoopTimes) (words : List Word) (rounds : List ℕ) (stage phase : ℕ) where
  -- whatever the globals are
  abbrev pub AnyGlobals : List Signal → List Signal → Operation → Word → Type 0
  AnyGlobals a b o out = (globals : List IntegerType) → ShowsOperationIn globals code registers turn times a b words rounds stage phase o out

  -- and however many elements the array has
  abbrev pub AnyLength : List Signal → List Signal → ℕ → Operand → Word → Type 0
  AnyLength a b array index out = (globals : List IntegerType) (n : ℕ) → ShowsOperationIn globals code registers turn times a b words rounds stage phase (ReadArray array n index) out

  pub unary_given : {E : Type 0} (x : Result Word E) (a b c : List Signal) (operator : UnaryOperator) (ty : IntegerType) (operand : Operand) (word : Word) →
      ShowsOperandIn a b registers code.variables turn times words rounds stage phase operand word →
      IfOk x (Becomes b c word (unary_result operator ty) (unary_total operator ty)) → IfOk x (AnyGlobals a c (Unary operator ty operand))
  unary_given x a b c operator ty operand word t made =
      of_ok x (Becomes b c word (unary_result operator ty) (unary_total operator ty)) (AnyGlobals a c (Unary operator ty operand))
      (λ out u globals. record {
        grows = grows_then a b c t.grows u.grows;
        shows = λ comparison m r q wire begun g o has low less arrays own seen.
            u.shows m r (operand_type operand) (operand_there turn comparison times begun phase q wire (begun - stage) operand) g o
            (t.shows comparison m r q wire begun (grows_then b c m.signals u.grows g) o has low less seen);
      }) made

  pub binary_given : {E : Type 0} (x : Result Word E) (a b c d : List Signal) (operator : BinaryOperator) (ty : IntegerType) (left right : Operand) (first second : Word) →
      ShowsOperandIn a b registers code.variables turn times words rounds stage phase left first →
      ShowsOperandIn b c registers code.variables turn times words rounds stage phase right second →
      IfOk x (Combine c d first second (binary_result operator ty) (binary_total operator ty)) → IfOk x (AnyGlobals a d (Binary operator ty left right))
  binary_given x a b c d operator ty left right first second t u made =
      of_ok x (Combine c d first second (binary_result operator ty) (binary_total operator ty)) (AnyGlobals a d (Binary operator ty left right))
      (λ out v globals. record {
        grows = grows_then a b d t.grows (grows_then b c d u.grows v.grows);
        shows = λ comparison m r q wire begun g o has low less arrays own seen.
            let later = grows_then c d m.signals v.grows g in
            v.shows m r (operand_type left) (operand_type right) (operand_there turn comparison times begun phase q wire (begun - stage) left)
            (operand_there turn comparison times begun phase q wire (begun - stage) right) g o
            (t.shows comparison m r q wire begun (grows_then b c m.signals u.grows later) o has low less seen.0)
            (u.shows comparison m r q wire begun later o has low less seen.1);
      }) made

  pub element_given : {E : Type 0} (x : Result Word E) (a b c : List Signal) (array : ℕ) (index : Operand) (word : Word) →
      ShowsOperandIn a b registers code.variables turn times words rounds stage phase index word → IfOk x (ReadsArray b c code array word) →
      IfOk x (AnyLength a c array index)
  element_given x a b c array index word t made =
      of_ok x (ReadsArray b c code array word) (AnyLength a c array index)
      (λ out u globals n. record {
        grows = grows_then a b c t.grows u.grows;
        shows = λ comparison m r q wire begun g o has low less arrays own seen.
            let held : Array = own.0 in
            let first = t.shows comparison m r q wire begun (grows_then b c m.signals u.grows g) o has low less seen in
            element_word m r globals array n index out held (variable_there turn comparison times begun phase q wire (begun - stage))
            (value_there turn comparison times begun phase q wire (begun - stage)) q.arrays own.1 own.2
            (u.shows m r (operand_type index) (operand_there turn comparison times begun phase q wire (begun - stage) index) held q.arrays g o arrays own.1 first) nothing;
      }) made
    where
      element_word : (m : Module) (r : Reading) (globals : List IntegerType) (array n : ℕ) (index : Operand) (out : Word) (held : Array) (variables given : ℕ → ℤ)
          (arrays : Memory ℤ) → slice_get code.arrays array ≡ Some held → held.length ≡ n →
          IsWord m r out held.ty (arrays (element_at array (place_read held.length (seen_value variables given index)))) → (told : Memory ℤ) →
          IsWord m r out (value_type globals code (ReadArray array n index)) (operation_value variables given arrays told (ReadArray array n index))
      element_word m r globals array n index out held variables given arrays e f is told = rw e
          (subst (λ k. IsWord m r out held.ty (arrays (element_at array (place_read k (seen_value variables given index))))) f is)

-- an arm of a match on an operation
pub known_given : {E : Type 0} (x : Result Word E) (globals : List IntegerType) (code : ThreadCode) (registers : Registers) (turn : Block) (times : LoopTimes)
    (words : List Word) (rounds : List ℕ) (stage phase : ℕ) (a b : List Signal) (operation known : Operation) → operation ≡ known →
    IfOk x (AnyGlobals code registers turn times words rounds stage phase a b known) →
    IfOk x (ShowsOperationIn globals code registers turn times a b words rounds stage phase operation)
known_given x globals code registers turn times words rounds stage phase a b operation known e made =
    subst (λ (o : Operation). IfOk x (ShowsOperationIn globals code registers turn times a b words rounds stage phase o)) (sym e)
    (of_ok x (AnyGlobals code registers turn times words rounds stage phase a b known)
    (ShowsOperationIn globals code registers turn times a b words rounds stage phase known) (λ out t. t globals) made)

pub read_given : {E : Type 0} (x : Result Word E) (globals : List IntegerType) (code : ThreadCode) (registers : Registers) (turn : Block) (times : LoopTimes)
    (words : List Word) (rounds : List ℕ) (stage phase : ℕ) (a b : List Signal) (operation : Operation) (array n : ℕ) (index : Operand) →
    operation ≡ ReadArray array n index → IfOk x (AnyLength code registers turn times words rounds stage phase a b array index) →
    IfOk x (ShowsOperationIn globals code registers turn times a b words rounds stage phase operation)
read_given x globals code registers turn times words rounds stage phase a b operation array n index e made =
    subst (λ (o : Operation). IfOk x (ShowsOperationIn globals code registers turn times a b words rounds stage phase o)) (sym e)
    (of_ok x (AnyLength code registers turn times words rounds stage phase a b array index)
    (ShowsOperationIn globals code registers turn times a b words rounds stage phase (ReadArray array n index)) (λ out t. t globals n) made)

-- what has no arm of its own: accesses of globals, which no loop has, and writes, whose value is 0
none_given : (code : ThreadCode) (variables given : ℕ → ℤ) (arrays told : Memory ℤ) (o : Operation) →
    ((operator : UnaryOperator) (ty : IntegerType) (a : Operand) → o ≡ Unary operator ty a → ⊥) →
    ((operator : BinaryOperator) (ty : IntegerType) (a b : Operand) → o ≡ Binary operator ty a b → ⊥) →
    ((x n : ℕ) (i : Operand) → o ≡ ReadArray x n i → ⊥) → IsOwn code o → operation_value variables given arrays told o ≡ pos 0
none_given code variables given arrays told (Unary operator ty a) unary binary read own = absurd (unary operator ty a refl)
none_given code variables given arrays told (Binary operator ty a b) unary binary read own = absurd (binary operator ty a b refl)
none_given code variables given arrays told (ReadGlobal x n i) unary binary read own = absurd own
none_given code variables given arrays told (WriteGlobal x n i a) unary binary read own = absurd own
none_given code variables given arrays told (ReadArray x n i) unary binary read own = absurd (read x n i refl)
none_given code variables given arrays told (WriteArray x n i a) unary binary read own = refl

pub default_given : {E : Type 0} (x : Result Word E) (globals : List IntegerType) (code : ThreadCode) (registers : Registers) (turn : Block) (times : LoopTimes)
    (words : List Word) (rounds : List ℕ) (stage phase : ℕ) (a b : List Signal) (o : Operation) (ty : IntegerType) (z : ℤ) →
    ((operator : UnaryOperator) (ty : IntegerType) (a : Operand) → o ≡ Unary operator ty a → ⊥) →
    ((operator : BinaryOperator) (ty : IntegerType) (a b : Operand) → o ≡ Binary operator ty a b → ⊥) →
    ((x n : ℕ) (i : Operand) → o ≡ ReadArray x n i → ⊥) → ty ≡ value_type globals code o → z ≡ pos 0 → IfOk x (Holds a b ty (wrapped ty z)) →
    IfOk x (ShowsOperationIn globals code registers turn times a b words rounds stage phase o)
default_given x globals code registers turn times words rounds stage phase a b o ty z unary binary read same zero made =
    of_ok x (Holds a b ty (wrapped ty z)) (ShowsOperationIn globals code registers turn times a b words rounds stage phase o)
    (λ out t. record {
      grows = t.grows;
      shows = λ comparison m r q wire begun g obeys has low less arrays own seen.
          let zeroed : IsWord m r out ty (wrapped ty (pos 0)) = subst (λ (k : ℤ). IsWord m r out ty (wrapped ty k)) zero (t.shows m r g obeys) in
          subst (λ (k : ℤ). IsWord m r out (value_type globals code o) k)
          (sym (none_given code (variable_there turn comparison times begun phase q wire (begun - stage)) (value_there turn comparison times begun phase q wire (begun - stage))
          q.arrays nothing o unary binary read own))
          (subst (λ (k : IntegerType). IsWord m r out k (pos 0)) same (own_word m r out ty (pos 0) (has_zero ty) zeroed));
    }) made
