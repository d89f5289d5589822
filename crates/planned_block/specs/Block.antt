-- Basic blocks over integers, as plans of them see them.
use Rattle.std.specs.Prelude.{◌≡◌, ℕ, ◌<◌, nat_eq, ℤ, pos, negsuc, List, [], ◌∷◌, length, slice_index_or, if◌then◌else◌, Bool, false, ◌⊎◌}
use Rattle.interleaving.specs.Memory.{Location}

-- a value: a constant, a variable as the block found it, or what an earlier operation of the block gives
pub data Operand : Type 0 where
  Constant : (number : ℤ) → Operand
  Variable : (name : ℕ) → Operand
  Value : (operation : ℕ) → Operand
  -- a conversion: wires alone, so it takes no operation and no state
  Through : (f : ℤ → ℤ) (of : Operand) → Operand

-- what an operation does with its two operands
pub data Kind : Type 0 where
  Simple : (f : ℤ → ℤ → ℤ) → Kind
  Multiply : (f : ℤ → ℤ → ℤ) → Kind
  Divide : (f : ℤ → ℤ → ℤ) → Kind
  -- of a global: the left operand is the index, the right one what is written
  BankRead : (global : ℕ) → Kind
  BankWrite : (global : ℕ) → Kind
  -- of a local array
  ArrayRead : (array : ℕ) → Kind
  ArrayWrite : (array : ℕ) → Kind

pub record Operation : Type 0 where
  pub kind : Kind
  pub left : Operand
  pub right : Operand

-- what a variable holds after the block
pub record Final : Type 0 where
  pub variable : ℕ
  pub value : Operand

-- the stage to which a block leads
pub data Next : Type 0 where
  Jump : (to : ℕ) → Next
  Branch : (test : Operand) (if_nonzero if_zero : ℕ) → Next

pub record Block : Type 0 where
  pub operations : List Operation
  -- the variables that change, all at the end
  pub finals : List Final
  pub next : Next
  -- how many steps of the source it does, none of them an act
  pub steps : ℕ

abbrev pub IsAmong : {A : Type 0} → List A → A → Type 0
IsAmong [] x = ⊥
IsAmong (y ∷ ys) x = (x ≡ y) ⊎ IsAmong ys x

-- what stands beyond the last operation
abbrev pub no_operation : Operation
no_operation = record { kind = Simple (λ l r. pos 0); left = Constant (pos 0); right = Constant (pos 0) }

abbrev pub operation_at : Block → ℕ → Operation
operation_at b k = slice_index_or b.operations k no_operation

abbrev pub size : Block → ℕ
size b = length b.operations

-- an operand, where the variables and the values of the operations are these
abbrev pub operand_value : (ℕ → ℤ) → (ℕ → ℤ) → Operand → ℤ
operand_value variables values (Constant n) = n
operand_value variables values (Variable x) = variables x
operand_value variables values (Value k) = values k
operand_value variables values (Through f o) = f (operand_value variables values o)

-- the operand needs the value of operation k
abbrev pub UsesIn : Operand → ℕ → Type 0
UsesIn (Constant n) k = ⊥
UsesIn (Variable x) k = ⊥
UsesIn (Value j) k = j ≡ k
UsesIn (Through f o) k = UsesIn o k

abbrev pub Uses : Operation → ℕ → Type 0
Uses o k = UsesIn o.left k ⊎ UsesIn o.right k

-- what is used at the block's end: what a variable gets, and what the branch tests
abbrev pub IsUsedAtEnd : Block → ℕ → Type 0
IsUsedAtEnd b k =
    ((f : Final) × IsAmong b.finals f × UsesIn f.value k)
    ⊎ ((test : Operand) × (if_nonzero : ℕ) × (if_zero : ℕ) × (b.next ≡ Branch test if_nonzero if_zero) × UsesIn test k)

-- an operation uses earlier ones, and the block's end uses operations of the block
pub record IsOrdered (b : Block) : Type 0 where
  pub earlier : (j k : ℕ) → k < size b → Uses (operation_at b k) j → j < k
  pub final : (k : ℕ) → IsUsedAtEnd b k → k < size b

-- the variables after the block
abbrev pub finished : (Operand → ℤ) → List Final → (ℕ → ℤ) → ℕ → ℤ
finished value [] after = after
finished value (f ∷ fs) after = finished value fs (λ x. if nat_eq x f.variable then value f.value else after x)

abbrev pub is_zero : ℤ → Bool
is_zero (pos n) = nat_eq n 0
is_zero (negsuc n) = false

-- where it leads
abbrev pub leads_to : (Operand → ℤ) → Next → ℕ
leads_to value (Jump l) = l
leads_to value (Branch test if_nonzero if_zero) = if is_zero (value test) then if_zero else if_nonzero

-- a negative index stands for 0
abbrev pub index_of : ℤ → ℕ
index_of (pos j) = j
index_of (negsuc j) = 0

-- an element of a global or of a local array, by the number of the object and the value of the index
abbrev pub element : ℕ → ℤ → Location
element x v = record { object = x; index = index_of v }
