-- Lists of banks, one longer.
use Rattle.std.proofs.Common.{◌≡◌, ℕ, zero, suc, ◌+◌, ◌^◌, ◌<◌, ◌≤◌, List, [], ◌∷◌, ◌++◌, map, drop, length, get_or, sym, ap, ◌∙◌, subst, arith, append_assoc, append-nil, length-append, add-one}
use Rattle.std.proofs.lemmas.List.{length-map, map-append, drop_all}
use Rattle.std.proofs.Math.Seq.{drop-cons}
use Rattle.c_program.specs.declared.tree.GlobalVariable.{GlobalVariable as GlobalVariableTree}
use Rattle.c_program.specs.Plain.{global_of}
use Rattle.c_program.specs.Tree.{GlobalVariable}
use Rattle.bank_partition.specs.declared.banks.Bank.{Bank}
use Rattle.bank_partition.specs.declared.banks.Spread.{Spread}
use Rattle.bank_partition.specs.Shapes.{BankShape, shape_of, spread, count_of, bank_of, banks_from, spreads_from}
use Rattle.bank_partition.specs.Partition.{AreBanks, AreShort, AreHeld, HasElements}
use Rattle.bank_partition.proofs.BanksOfSpreads.{length-spread, are_banks, are_held, elements_stand}

spread-last : {A : Type 0} (f : ℕ → A) (i n : ℕ) → spread f i (suc n) ≡ spread f i n ++ f (i + n) ∷ []
spread-last f i zero = let e : i ≡ i + 0 = omega arith in ap (λ j. f j ∷ []) e
spread-last f i (suc n) =
    let e : i + 1 + n ≡ i + suc n = omega arith in
    ap (λ xs. f i ∷ xs) (spread-last f (i + 1) n ∙ ap (λ j. spread f (i + 1) n ++ f j ∷ []) e)

spread-next : {A : Type 0} (f : ℕ → A) (n : ℕ) → spread f 0 (n + 1) ≡ spread f 0 n ++ f n ∷ []
spread-next f n =
    let e : 0 + n ≡ n = omega arith in
    ap (spread f 0) (add-one n) ∙ spread-last f 0 n ∙ ap (λ j. spread f 0 n ++ f j ∷ []) e

-- one more value
pub value_pushed : (old new : List ℕ) (f : ℕ → ℕ) (n value : ℕ) → old ≡ spread f 0 n → new ≡ old ++ value ∷ [] → value ≡ f n → new ≡ spread f 0 (n + 1)
value_pushed old new f n value e g v = g ∙ ap (λ l. l ++ value ∷ []) e ∙ ap (λ x. spread f 0 n ++ x ∷ []) v ∙ sym (spread-next f n)

-- one more bank
pub bank_pushed : (start old new : List Bank) (b : Bank) (f : ℕ → BankShape) (n : ℕ) → map shape_of old ≡ map shape_of start ++ spread f 0 n → new ≡ old ++ b ∷ [] → shape_of b ≡ f n
    → map shape_of new ≡ map shape_of start ++ spread f 0 (n + 1)
bank_pushed start old new b f n e g v =
    ap (map shape_of) g ∙ map-append shape_of old (b ∷ []) ∙ ap (λ (l : List BankShape). l ++ shape_of b ∷ []) e
    ∙ ap (λ x. (map shape_of start ++ spread f 0 n) ++ x ∷ []) v
    ∙ append_assoc (map shape_of start) (spread f 0 n) (f n ∷ []) ∙ ap (λ (l : List BankShape). map shape_of start ++ l) (sym (spread-next f n))

-- the globals from one on
pub front : (items : List GlobalVariableTree) (x : ℕ) (g : GlobalVariableTree) → x < length items → g ≡ get_or items x g → drop x items ≡ g ∷ drop (x + 1) items
front items x g l e =
    drop-cons items x g l ∙ ap (λ (y : GlobalVariableTree). y ∷ drop (suc x) items) (sym e) ∙ ap (λ k. g ∷ drop k items) (sym (add-one x))

module _ (threads : List ℕ) (x count : ℕ) (items : List GlobalVariableTree) (g : GlobalVariableTree) (at : drop x items ≡ g ∷ drop (x + 1) items)
    (counted : count ≡ count_of threads x (global_of g)) where
  abbrev later : List GlobalVariable
  later = map global_of (drop (x + 1) items)

  -- the banks of one more global
  pub banks_pushed : (old new : List Bank) (all : List BankShape) → map shape_of new ≡ map shape_of old ++ spread (bank_of x (global_of g) count) 0 count
      → map shape_of old ++ banks_from threads x (map global_of (drop x items)) ≡ all → map shape_of new ++ banks_from threads (x + 1) later ≡ all
  banks_pushed old new all e known =
      let rest = banks_from threads (x + 1) later in
      ap (λ (l : List BankShape). l ++ rest) e
      ∙ append_assoc (map shape_of old) (spread (bank_of x (global_of g) count) 0 count) rest
      ∙ ap (λ c. map shape_of old ++ (spread (bank_of x (global_of g) c) 0 c ++ rest)) counted
      ∙ ap (λ (l : List GlobalVariableTree). map shape_of old ++ banks_from threads x (map global_of l)) (sym at)
      ∙ known

  -- and where they stand
  pub spreads_pushed : (old new : List Bank) (before after all : List Spread) (first : ℕ) → first ≡ length old → map shape_of new ≡ map shape_of old ++ spread (bank_of x (global_of g) count) 0 count
      → after ≡ before ++ record { first = first; count = count; length = g.length } ∷ [] → before ++ spreads_from threads x (length old) (map global_of (drop x items)) ≡ all
      → after ++ spreads_from threads (x + 1) (length new) later ≡ all
  spreads_pushed old new before after all first begins e pushed known =
      let own : ℕ → ℕ → Spread = λ f k. record { first = f; count = k; length = g.length } in
      let a = ap length e in
      let b = length-map new shape_of in
      let c = length-map old shape_of in
      let d = length-append (map shape_of old) (spread (bank_of x (global_of g) count) 0 count) in
      let f = length-spread (bank_of x (global_of g) count) 0 count in
      let long : length new ≡ length old + count = omega arith in
      ap (λ k. after ++ spreads_from threads (x + 1) k later) long
      ∙ ap (λ (l : List Spread). l ++ spreads_from threads (x + 1) (length old + count) later) (pushed ∙ ap (λ k. before ++ own k count ∷ []) begins)
      ∙ append_assoc before (own (length old) count ∷ []) (spreads_from threads (x + 1) (length old + count) later)
      ∙ ap (λ k. before ++ (own (length old) k ∷ spreads_from threads (x + 1) (length old + k) later)) counted
      ∙ ap (λ (l : List GlobalVariableTree). before ++ spreads_from threads x (length old) (map global_of l)) (sym at)
      ∙ known

-- ---- no length is longer than a number of the program

pub short_pushed : (before : List Spread) (s : Spread) → AreShort before → s.length < 2 ^ 64 → AreShort (before ++ s ∷ [])
short_pushed [] s known l = (l, tt)
short_pushed (t ∷ before) s known l = (known.0, short_pushed before s known.1 l)

-- all globals have their banks
pub record IsDone (threads : List ℕ) (items : List GlobalVariableTree) (banks : List Bank) (spreads : List Spread) : Type 0 where
  pub banks_are : map shape_of banks ≡ banks_from threads 0 (map global_of items)
  pub spreads_are : spreads ≡ spreads_from threads 0 0 (map global_of items)
  pub stand : AreBanks spreads (map shape_of banks)
  pub held : AreHeld spreads (map shape_of banks)
  pub elements : HasElements (map global_of items) spreads

pub partitioned : (threads : List ℕ) (items : List GlobalVariableTree) (banks : List Bank) (spreads : List Spread) (x : ℕ) → length items ≤ x
    → map shape_of banks ++ banks_from threads x (map global_of (drop x items)) ≡ banks_from threads 0 (map global_of items)
    → spreads ++ spreads_from threads x (length banks) (map global_of (drop x items)) ≡ spreads_from threads 0 0 (map global_of items) → AreShort spreads
    → IsDone threads items banks spreads
partitioned threads items banks spreads x l b s short =
    let none = drop_all x items l in
    let first : map shape_of banks ≡ banks_from threads 0 (map global_of items) =
    sym (append-nil (map shape_of banks)) ∙ sym (ap (λ (r : List GlobalVariableTree). map shape_of banks ++ banks_from threads x (map global_of r)) none) ∙ b in
    let second : spreads ≡ spreads_from threads 0 0 (map global_of items) =
    sym (append-nil spreads) ∙ sym (ap (λ (r : List GlobalVariableTree). spreads ++ spreads_from threads x (length banks) (map global_of r)) none) ∙ s in
    let all : (P : List Spread → List BankShape → Type 0) → P (spreads_from threads 0 0 (map global_of items)) (banks_from threads 0 (map global_of items)) → P spreads (map shape_of banks) =
    λ P p. subst (λ (y : List Spread). P y (map shape_of banks)) (sym second) (subst (λ (y : List BankShape). P (spreads_from threads 0 0 (map global_of items)) y) (sym first) p) in
    record {
      banks_are = first;
      spreads_are = second;
      stand = all AreBanks (are_banks threads (map global_of items) (subst AreShort second short));
      held = all AreHeld (are_held threads (map global_of items));
      elements = subst (HasElements (map global_of items)) (sym second) (elements_stand threads 0 0 (map global_of items));
    }
