-- Systems of difference constraints (Cormen, Leiserson, Rivest and Stein, section 24.4), as schedules of operations
-- are stated in them (Cong and Zhang 2006): their solutions, and the closed walks that show that there is none.
use Rattle.std.specs.Prelude.{◌≡◌, ℕ, ◌+◌, ◌^◌, ◌<◌, ◌≤◌, List, [], ◌∷◌, length, ℤ, pos, negsuc, ◌+ℤ◌, ◌-ℤ◌, ◌≤ℤ◌, ◌<ℤ◌, slice_index}
use Rattle.std.specs.List.{All, Contains}
use Rattle.schedule_sdc.specs.declared.constraint.Constraint.{Constraint}
use Rattle.schedule_sdc.specs.declared.constraint.Solved.{Solved}
use Rattle.schedule_sdc.specs.declared.constraint.Solved.TheVariants.{Starts, Cyclic}

-- the constraint names places below n
abbrev pub IsWithin : ℕ → Constraint → Type 0
IsWithin n c = (c.from < n) × (c.to < n)

-- the start of `to` is at least that of `from` and the gap
abbrev pub Meets : (ℕ → ℕ) → Constraint → Type 0
Meets start c = (pos (start c.from) +ℤ c.gap) ≤ℤ pos (start c.to)

abbrev pub IsSolution : List Constraint → (ℕ → ℕ) → Type 0
IsSolution list start = All (Meets start) list

-- the starts of n places meet every constraint, and no solution is earlier at any of them
pub record IsLeast (n : ℕ) (list : List Constraint) (starts : List ℕ) : Type 0 where
  pub places : length starts ≡ n
  pub meets : IsSolution list (slice_index starts)
  pub least : (t : ℕ → ℕ) → IsSolution list t → (i : ℕ) → i < n → slice_index starts i ≤ t i

-- if there is a solution at all, there is one whose starts at the n places fit 64 bits
pub record FitsIfSolvable (n : ℕ) (list : List Constraint) : Type 0 where
  pub small : (t : ℕ → ℕ) → IsSolution list t → (s : ℕ → ℕ) × IsSolution list s × ((i : ℕ) → i < n → s i < 2 ^ 64)

-- the sum of the gaps above 0; where it is below 2 ^ 64, starts fit (`sums_fit` of proofs/GapSums.antt)
abbrev pub rise_of : ℤ → ℕ
rise_of (pos gap) = gap
rise_of (negsuc gap) = 0

abbrev pub gap_sum : List Constraint → ℕ
gap_sum [] = 0
gap_sum (c ∷ list) = rise_of c.gap + gap_sum list

-- a walk from p through the places that follow, by constraints whose gaps have that sum
abbrev pub Walks : List Constraint → ℕ → List ℕ → ℤ → Type 0
Walks list p [] sum = sum ≡ pos 0
Walks list p (q ∷ rest) sum = (c : Constraint) × Contains list c × (c.from ≡ p) × (c.to ≡ q) × Walks list q rest (sum -ℤ c.gap)

abbrev pub end_of : ℕ → List ℕ → ℕ
end_of p [] = p
end_of p (q ∷ rest) = end_of q rest

-- a walk that ends where it begins, whose gaps have a positive sum
abbrev pub IsPositiveCycle : List Constraint → List ℕ → Type 0
IsPositiveCycle list [] = ⊥
IsPositiveCycle list (p ∷ rest) = (sum : ℤ) × Walks list p rest sum × (end_of p rest ≡ p) × (pos 0 <ℤ sum)

-- no starts meet every constraint
abbrev pub IsUnsolvable : List Constraint → Type 0
IsUnsolvable list = (t : ℕ → ℕ) → IsSolution list t → ⊥

-- the least starts, or a closed walk of positive sum, by which there is no solution
abbrev pub IsAnswer : ℕ → List Constraint → Solved → Type 0
IsAnswer n list (Starts starts) = IsLeast n list starts.items
IsAnswer n list (Cyclic walk) = IsPositiveCycle list walk.items × IsUnsolvable list
