-- Banks as plain data, and what a program's banks are.
use Rattle.std.specs.Prelude.{ℕ, zero, suc, ◌+◌, ◌*◌, List, [], ◌∷◌, ◌++◌, pos, slice_get, unwrap_or, string_bytes}
use Rattle.hls_ints.specs.Types.{width_of}
use Rattle.hls_ints.specs.Residues.{residue_of}
use Rattle.c_program.specs.Tree.{GlobalVariable}
use Rattle.bank_partition.specs.declared.banks.Bank.{Bank}
use Rattle.bank_partition.specs.declared.banks.Spread.{Spread}
use Rattle.bank_partition.specs.Counts.{bank_count, words_of}

-- a bank: the number and the name of its global, its number there and how many banks there are, its words, their width
-- and their first values
pub record BankShape : Type 0 where
  pub global : ℕ
  pub name : List ℕ
  pub number : ℕ
  pub count : ℕ
  pub words : ℕ
  pub width : ℕ
  pub initial : List ℕ

abbrev pub shape_of : Bank → BankShape
shape_of b = record {
  global = b.global;
  name = string_bytes b.name;
  number = b.number;
  count = b.count;
  words = b.words;
  width = b.width;
  initial = b.initial.items;
}

-- the things of n numbers, from number i on
abbrev pub spread : {A : Type 0} → (ℕ → A) → ℕ → ℕ → List A
spread f i zero = []
spread f i (suc n) = f i ∷ spread f (i + 1) n

-- the number at an index of a list, 0 past its end
abbrev pub number_at : List ℕ → ℕ → ℕ
number_at list x = unwrap_or (slice_get list x) 0

-- the bits of the first value of element j: the given value, and 0 where none is given (C99 6.7.8)
abbrev pub first_value : GlobalVariable → ℕ → ℕ
first_value g j = residue_of (width_of g.ty) (unwrap_or (slice_get g.initial j) (pos 0))

-- bank k of so many of the global x: word a is element a * count + k
abbrev pub bank_of : ℕ → GlobalVariable → ℕ → ℕ → BankShape
bank_of x g count k = record {
  global = x;
  name = g.name;
  number = k;
  count = count;
  words = words_of count k g.length;
  width = width_of g.ty;
  initial = spread (λ a. first_value g (a * count + k)) 0 (words_of count k g.length);
}

-- the number of banks of the global x, where so many hardware threads name each
abbrev pub count_of : List ℕ → ℕ → GlobalVariable → ℕ
count_of threads x g = bank_count (number_at threads x) g.length

-- the banks of these globals, the first of which has number x: in order of declaration, and of each global by number
abbrev pub banks_from : List ℕ → ℕ → List GlobalVariable → List BankShape
banks_from threads x [] = []
banks_from threads x (g ∷ globals) = spread (bank_of x g (count_of threads x g)) 0 (count_of threads x g) ++ banks_from threads (x + 1) globals

-- where the banks of each begin, if there are so many before them
abbrev pub spreads_from : List ℕ → ℕ → ℕ → List GlobalVariable → List Spread
spreads_from threads x first [] = []
spreads_from threads x first (g ∷ globals) =
    record { first = first; count = count_of threads x g; length = g.length } ∷ spreads_from threads (x + 1) (first + count_of threads x g) globals
