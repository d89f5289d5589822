-- The names of the cores of a program's hardware, in their order.
use Rattle.std.proofs.Common.{◌≡◌, ℕ, zero, suc, ◌+◌, ◌-◌, Bool, true, false, List, [], ◌∷◌, ◌++◌, length, map, replicate, Some, refl, sym, ap, ◌∙◌, append_assoc}
use Rattle.std.proofs.Common.{arith}
use Rattle.std.specs.Prelude.{slice_get, codes}
use Rattle.std.proofs.lemmas.Option.{same_Some}
use Rattle.std.proofs.lemmas.List.{length-map, map-append}
use Rattle.c_program.specs.Tree.{GlobalVariable, Program}
use Rattle.bank_partition.specs.declared.banks.Spread.{Spread}
use Rattle.bank_partition.specs.Shapes.{BankShape, bank_of, count_of, banks_from, spreads_from}
use Rattle.bank_partition.specs.Shapes as banks
use Rattle.bank_partition.specs.Partition.{shapes}
use Rattle.bank_cores.specs.declared.bank.Shape.{Shape as Bank}
use Rattle.mutex_cores.specs.declared.mutex.Shape.{Shape as Mutex}
use Rattle.verilog_meaning.specs.Names.{numbered}
use Rattle.core_tables.specs.Family.{CoreKind}
use Rattle.core_tables.specs.Family as kind
use Rattle.core_tables.specs.Tables.{core_name}
use Rattle.top_wiring.specs.Parts.{each_from}
use Rattle.law_banks.specs.Partition.{ArePartitioned}
use Rattle.law_cycle.specs.Cores.{Cores}
use Rattle.law_cycle.specs.Kinds.{barrier, thread_ids, one_if}
use Rattle.net_emitter.specs.Placing.{number_of, placed_core, placed}
use Rattle.law_net.specs.Served.{names_from, numbered_names, bank_instance, thread_ids_names, names_of, table_names}

-- ---- lists

behind : {A : Type 0} (a b c d e : List A) → a ++ (b ++ (c ++ (d ++ e))) ≡ a ++ b ++ c ++ d ++ e
behind a b c d e = sym (append_assoc a b (c ++ (d ++ e))) ∙ sym (append_assoc (a ++ b) c (d ++ e)) ∙ sym (append_assoc (a ++ b ++ c) d e)

maps_same : {A B C : Type 0} (f : A → C) (g : B → C) (xs : List A) (ys : List B) → length xs ≡ length ys →
    ((k : ℕ) (x : A) (y : B) → slice_get xs k ≡ Some x → slice_get ys k ≡ Some y → f x ≡ g y) → map f xs ≡ map g ys
maps_same f g [] [] e h = refl
maps_same f g [] (y ∷ ys) e h = absurd (omega arith)
maps_same f g (x ∷ xs) [] e h = absurd (omega arith)
maps_same f g (x ∷ xs) (y ∷ ys) e h =
    ap (λ z. z ∷ map f xs) (h 0 x y refl refl) ∙ ap (λ l. g y ∷ l) (maps_same f g xs ys (omega arith) (λ k a b p q. h (suc k) a b p q))

-- ---- the cores as they are placed

module _ (w : Cores) where
  abbrev name_at : ℕ → CoreKind → List ℕ
  name_at k s = core_name s (number_of w k s)

  abbrev names_at : ℕ → List CoreKind → List (List ℕ)
  names_at i ks = table_names (each_from (placed_core w) i ks)

  names_append : (i : ℕ) (xs ys : List CoreKind) → names_at i (xs ++ ys) ≡ names_at i xs ++ names_at (i + length xs) ys
  names_append i [] ys = let z : i ≡ i + 0 = omega arith in ap (λ k. names_at k ys) z
  names_append i (x ∷ xs) ys =
      let z : i + 1 + length xs ≡ i + suc (length xs) = omega arith in
      ap (λ l. name_at i x ∷ l) (names_append (i + 1) xs ys ∙ ap (λ k. names_at (i + 1) xs ++ names_at k ys) z)

  banks_named : (i : ℕ) (bs : List Bank) → names_at i (map kind.Bank bs) ≡ map bank_instance bs
  banks_named i [] = refl
  banks_named i (b ∷ bs) = ap (λ l. bank_instance b ∷ l) (banks_named (i + 1) bs)

  abbrev B : ℕ
  B = length w.banks

  abbrev M : ℕ
  M = length w.mutexes

  mutexes_named : (j i : ℕ) (ms : List Mutex) → i ≡ B + j → names_at i (map kind.Mutex ms) ≡ names_from (codes "umutex") j (length ms)
  mutexes_named j i [] at = refl
  mutexes_named j i (m ∷ ms) at =
      let own : i - B ≡ j = omega arith in
      let next : i + 1 ≡ B + (j + 1) = omega arith in
      ap (λ n. numbered (codes "umutex") n ∷ names_at (i + 1) (map kind.Mutex ms)) own
      ∙ ap (λ l. numbered (codes "umutex") j ∷ l) (mutexes_named (j + 1) (i + 1) ms next)

  barriers_named : (n j i : ℕ) → i ≡ B + M + j → names_at i (replicate n (barrier w)) ≡ names_from (codes "ubarrier") j n
  barriers_named zero j i at = refl
  barriers_named (suc n) j i at =
      let own : i - B - M ≡ j = omega arith in
      let next : i + 1 ≡ B + M + (j + 1) = omega arith in
      ap (λ k. numbered (codes "ubarrier") k ∷ names_at (i + 1) (replicate n (barrier w))) own
      ∙ ap (λ l. numbered (codes "ubarrier") j ∷ l) (barriers_named n (j + 1) (i + 1) next)

  thread_ids_named : (b : Bool) (i : ℕ) → names_at i (one_if b (thread_ids w)) ≡ thread_ids_names b
  thread_ids_named true i = refl
  thread_ids_named false i = refl

  pub names_placed : table_names (placed w) ≡ names_of w
  names_placed =
      let a = map kind.Bank w.banks in
      let b = map kind.Mutex w.mutexes in
      let c = replicate w.barriers (barrier w) in
      let d = one_if w.thread_ids (thread_ids w) in
      let e : List CoreKind = kind.Printer w.printer ∷ [] in
      let banked = map bank_instance w.banks in
      let locked = numbered_names (codes "umutex") M in
      let met = numbered_names (codes "ubarrier") w.barriers in
      let known = thread_ids_names w.thread_ids in
      let at_b : 0 + length a ≡ B + 0 = (let l = length-map w.banks kind.Bank in omega arith) in
      let at_c : 0 + length a + length b ≡ B + M + 0 = (let l = length-map w.banks kind.Bank in let m = length-map w.mutexes kind.Mutex in omega arith) in
      names_append 0 a (b ++ (c ++ (d ++ e))) ∙ ap (λ l. l ++ names_at (0 + length a) (b ++ (c ++ (d ++ e)))) (banks_named 0 w.banks)
      ∙ ap (λ l. banked ++ l)
      (names_append (0 + length a) b (c ++ (d ++ e)) ∙ ap (λ l. l ++ names_at (0 + length a + length b) (c ++ (d ++ e))) (mutexes_named 0 (0 + length a) w.mutexes at_b)
      ∙ ap (λ l. locked ++ l)
      (names_append (0 + length a + length b) c (d ++ e)
      ∙ ap (λ l. l ++ names_at (0 + length a + length b + length c) (d ++ e)) (barriers_named w.barriers 0 (0 + length a + length b) at_c)
      ∙ ap (λ l. met ++ l)
      (names_append (0 + length a + length b + length c) d e
      ∙ ap (λ l. l ++ codes "uprinter_0" ∷ []) (thread_ids_named w.thread_ids (0 + length a + length b + length c)))))
      ∙ behind banked locked met known (codes "uprinter_0" ∷ [])

-- ---- the banks of a partition

-- the banks of these globals, the first of which has number x, where so many threads name each
abbrev pub global_names : List ℕ → ℕ → List GlobalVariable → List (List ℕ)
global_names counts x [] = []
global_names counts x (g ∷ globals) = numbered_names (codes "u_" ++ g.name) (count_of counts x g) ++ global_names counts (x + 1) globals

abbrev shape_instance : BankShape → List ℕ
shape_instance b = numbered (codes "u_" ++ b.name) b.number

spread_named : (x : ℕ) (g : GlobalVariable) (count i n : ℕ) → map shape_instance (banks.spread (bank_of x g count) i n) ≡ names_from (codes "u_" ++ g.name) i n
spread_named x g count i zero = refl
spread_named x g count i (suc n) = ap (λ l. numbered (codes "u_" ++ g.name) i ∷ l) (spread_named x g count (i + 1) n)

tail_of : List Spread → List Spread
tail_of [] = []
tail_of (s ∷ spreads) = spreads

module _ (own counts : List ℕ) where
  names_by : (x first : ℕ) (gs : List GlobalVariable) → spreads_from own x first gs ≡ spreads_from counts x first gs → map shape_instance (banks_from own x gs) ≡ global_names counts x gs
  unfolding tail_of
  names_by x first [] e = refl
  names_by x first (g ∷ gs) e =
      let many = count_of own x g in
      let same : many ≡ count_of counts x g = ap (λ (s : Spread). s.count) (same_Some _ _ (ap (λ l. slice_get l 0) e)) in
      let rest : spreads_from own (x + 1) (first + count_of counts x g) gs ≡ spreads_from counts (x + 1) (first + count_of counts x g) gs =
      ap (λ n. spreads_from own (x + 1) (first + n) gs) (sym same) ∙ ap tail_of e in
      map-append shape_instance (banks.spread (bank_of x g many) 0 many) (banks_from own (x + 1) gs)
      ∙ ap (λ l. l ++ map shape_instance (banks_from own (x + 1) gs)) (spread_named x g many 0 many ∙ ap (numbered_names (codes "u_" ++ g.name)) same)
      ∙ ap (λ l. numbered_names (codes "u_" ++ g.name) (count_of counts x g) ++ l) (names_by (x + 1) (first + count_of counts x g) gs rest)

-- THE NAMES OF THE BANKS: of each global as many as its spread says
pub partitioned_names : (P : Program) (T : ℕ) (spreads : List Spread) (bs : List Bank) (counts : List ℕ) → ArePartitioned P T spreads bs →
    spreads ≡ spreads_from counts 0 0 P.globals → map bank_instance bs ≡ global_names counts 0 P.globals
partitioned_names P T spreads bs counts are e =
    maps_same bank_instance shape_instance bs (shapes are.partition) are.count
    (λ k b s p q. let own = are.each k s b q p in ap (λ n. numbered (codes "u_" ++ n) b.number) own.name ∙ ap (numbered (codes "u_" ++ s.name)) own.number)
    ∙ ap (map shape_instance) are.is.banks
    ∙ names_by are.threads counts 0 0 P.globals (sym are.is.spreads ∙ sym are.spread ∙ e)
