-- What a thread in a block does to a bank: nothing where it is not granted, and else one read or one write.
use Rattle.std.specs.Prelude.{nat_eq, Bool, true, false, ◌&&◌, if◌then◌else◌, Option, Some, slice_get, ℤ}
use Rattle.std.proofs.Common.{◌≡◌, ◌≢◌, ℕ, zero, suc, ◌+◌, ◌%◌, ◌<◌, List, refl, sym, ap, ap₂, ◌∙◌, subst, ⊎_elim, arith}
use Rattle.std.proofs.lemmas.Bool.{or_parts, cases_eq}
use Rattle.hls_ints.specs.Residues.{residue_of}
use Rattle.hls_ints.specs.Types.{IntegerType, HasType, width_of}
use Rattle.interleaving.specs.Memory.{Location, Memory, Access, memory_after, Writes}
use Rattle.bank_partition.specs.declared.banks.Spread.{Spread}
use Rattle.bank_cores.specs.Machine.{Ask}
use Rattle.block_ir.specs.declared.block.Block.{Block}
use Rattle.block_ir.specs.declared.plan.BlockPlan.{BlockPlan}
use Rattle.planned_block.specs.Block.{Kind, Simple, Multiply, Divide, BankRead, BankWrite, ArrayRead, ArrayWrite, Block as PlannedBlock, operation_at, size, element}
use Rattle.planned_block.specs.Plan.{Plan, OfGlobal, target_of}
use Rattle.planned_block.specs.Run.{bank_access}
use Rattle.planned_block.specs.Slot.{Slot, operand_now, bank_access_now, stayed, gone_on}
use Rattle.planned_block.specs.Advance.{requests, answered, is_ready, is_answered, any_below, wires, reads_bank, word_read, words_next, registers_next, left_for_next, state_left}
use Rattle.planned_block.specs.Advance.{advance}
use Rattle.planned_block.proofs.Bits.{both_true, is_same, same_is}
use Rattle.planned_block.proofs.LastPassing.{last_hit, last_miss}
use Rattle.plan_blocks.specs.View.{planned_view, plan_view}
use Rattle.thread_promise.specs.Globals.{bank_total, bank_at, bank_of, IsAddress, place_now, bank_now, written_now, IsOpen}
use Rattle.law_banks.specs.Memory.{place_at, IsReadPlace, IsWrittenPlace}
use Rattle.law_banks.specs.Cycle.{IsAskFor, AreBanked, Works}
use Rattle.law_banks.proofs.AskingOperation.{IsFound, find}
use Rattle.law_banks.proofs.StateAccesses.{read_kind, write_kind, writes_is, written_by_one, after_one}
use Rattle.law_banks.proofs.StateAccesses.{one_open, spread_of, reads_there, writes_there, written_typed}

-- ---- the words of a slot that advances

module _ (bank : Location → ℕ) (b : PlannedBlock) (p : Plan) (q : Slot) (memory : Memory ℤ) (grant : ℕ → Bool) where
  abbrev read_words : ℕ → ℤ
  read_words = words_next bank b p q memory (answered b p q grant)

  left_words : (c : Bool) → (if c then left_for_next bank b p q read_words else gone_on b p q (wires bank b p q) read_words (registers_next bank b p q)).words ≡ read_words
  left_words true = refl
  left_words false = refl

  none_answered : (n : ℕ) → any_below (answered b p q grant) n ≡ false → (k : ℕ) → k < n → answered b p q grant k ≡ true → ⊥
  none_answered zero e k lt t = omega arith
  none_answered (suc n) e k lt t =
      let s = or_parts (any_below (answered b p q grant) n) (answered b p q grant n) e in
      ⊎_elim
      (λ (last : k ≡ n). let z = sym t ∙ ap (answered b p q grant) last ∙ s.1 in let f : true ≡ false = cc in cc)
      (λ (ne : k ≢ n). none_answered n s.0 k (omega arith) t)
      (cases_eq k n)

  -- also where it waits for grants
  pub advance_words : (n : ℕ) → (advance bank b p q memory grant).words n ≡ read_words n
  advance_words n = by (is_ready b p q grant) (is_answered b p q grant) refl
    where
      by : (c d : Bool) → is_answered b p q grant ≡ d →
          (if c then state_left bank b p q read_words else (if d then stayed b p q (answered b p q grant) read_words else q)).words n ≡ read_words n
      by true d e = ap (λ (f : ℕ → ℤ). f n) (left_words (nat_eq (suc q.state) p.states))
      by false true e = refl
      by false false e =
          sym
          (last_miss (λ k. answered b p q grant k && reads_bank bank (operation_at b k).kind (operand_now b p q (wires bank b p q) (operation_at b k).left) n)
          (λ k. word_read bank (operation_at b k).kind (operand_now b p q (wires bank b p q) (operation_at b k).left) memory) (q.words n) (size b)
          (λ k lt t.
          none_answered (size b) e k lt
          (both_true (answered b p q grant k) (reads_bank bank (operation_at b k).kind (operand_now b p q (wires bank b p q) (operation_at b k).left) n) t).0))

-- a kind of operation that reads a bank
reads_is : (bank : Location → ℕ) (kind : Kind) (l : ℤ) (n : ℕ) → reads_bank bank kind l n ≡ true → (x : ℕ) × (target_of kind ≡ OfGlobal x false) × (bank (element x l) ≡ n)
reads_is bank (Simple f) l n e = absurd cc
reads_is bank (Multiply f) l n e = absurd cc
reads_is bank (Divide f) l n e = absurd cc
reads_is bank (BankRead x) l n e = (x, refl, is_same (bank (element x l)) n e)
reads_is bank (BankWrite x) l n e = absurd cc
reads_is bank (ArrayRead x) l n e = absurd cc
reads_is bank (ArrayWrite x) l n e = absurd cc

-- ---- what it does to a bank

module _ (asks : ℕ → Ask) (memory : Memory ℤ) (words next_words : ℕ → ℤ) (made : List (Access ℤ)) where
  -- a thread that is granted bank k of the global x
  pub data AtBank (x k : ℕ) (s : Spread) (ty : IntegerType) : Type 0 where
    ReadsThere : (j : ℕ) (writes : (asks (s.first + k)).writes ≡ false) (address : IsAddress s j (asks (s.first + k)).address) (own : j % s.count ≡ k)
        (place : IsReadPlace s.length j) (silent : (i : ℕ) → i % s.count ≡ k → Writes (place_at x i) made → ⊥) (word : next_words (s.first + k) ≡ memory (place_at x j)) →
        AtBank x k s ty
    WritesThere : (j : ℕ) (v : ℤ) (writes : (asks (s.first + k)).writes ≡ true) (address : IsAddress s j (asks (s.first + k)).address)
        (number : (asks (s.first + k)).value ≡ residue_of (width_of ty) v) (own : j % s.count ≡ k) (place : IsWrittenPlace s.length j) (right : HasType ty v)
        (here : memory_after made memory (place_at x j) ≡ v) (others : (i : ℕ) → i % s.count ≡ k → i ≢ j → Writes (place_at x i) made → ⊥)
        (word : next_words (s.first + k) ≡ words (s.first + k)) → AtBank x k s ty

-- the bank of a place of a global
pub bank_there : (spreads : List Spread) (x i : ℕ) (s : Spread) → slice_get spreads x ≡ Some s → bank_of spreads (place_at x i) ≡ s.first + i % s.count
bank_there spreads x i s e = ap (λ (o : Option Spread). bank_at (bank_total spreads) o (place_at x i)) e

module _ (spreads : List Spread) (globals : List IntegerType) (banked : AreBanked spreads globals) (asks : ℕ → Ask) (granted : ℕ → Bool) (memory : Memory ℤ)
    (words next_words : ℕ → ℤ) (made : List (Access ℤ)) (t : Works spreads globals asks granted memory words next_words made) where
  abbrev b : Block
  b = t.block

  abbrev p : BlockPlan
  p = t.times

  abbrev q : Slot
  q = t.slot

  abbrev Opens : ℕ → ℕ → Bool → Type 0
  Opens = IsOpen spreads b p q

  abbrev bank_at_now : ℕ → ℕ → ℕ
  bank_at_now = bank_now spreads b p q

  abbrev Found : ℕ → Type 0
  Found = IsFound spreads b p q

  in_bank : (i : ℕ) (s : Spread) (x : ℕ) → slice_get spreads x ≡ Some s → i % s.count < s.count
  in_bank i s x e = let c = banked.spread.some x s e in omega arith

  -- what an open operation asks
  pub record IsAsked (j x : ℕ) (w : Bool) (s : Spread) (ty : IntegerType) : Type 0 where
    pub listed : slice_get spreads x ≡ Some s
    pub typed : slice_get globals x ≡ Some ty
    pub place : bank_at_now j x ≡ s.first + (place_now spreads b p q j x).index % s.count
    pub below : (place_now spreads b p q j x).index % s.count < s.count
    pub asks_it : IsAskFor (asks (s.first + (place_now spreads b p q j x).index % s.count)) s (place_now spreads b p q j x).index w
        (residue_of (width_of ty) (written_now spreads b p q j))

  asked_so : (j x : ℕ) (w : Bool) (s : Spread) (ty : IntegerType) → Opens j x w → slice_get spreads x ≡ Some s → slice_get globals x ≡ Some ty → IsAsked j x w s ty
  asked_so j x w s ty o e u =
      let place = bank_there spreads x (place_now spreads b p q j x).index s e in
      record {
        listed = e;
        typed = u;
        place = place;
        below = in_bank (place_now spreads b p q j x).index s x e;
        asks_it = subst (λ z. IsAskFor (asks z) s (place_now spreads b p q j x).index w (residue_of (width_of ty) (written_now spreads b p q j))) place
            (t.asked j x w s ty o e u);
      }

  -- of an open operation
  asked_by : (j x : ℕ) (w : Bool) → Opens j x w → (s : Spread) × (ty : IntegerType) × IsAsked j x w s ty
  asked_by j x w o =
      let s = spread_of globals spreads t.code t.plan t.places q b p t.runs j x w o.below o.target in
      let ty = banked.spread.type x s.0 s.1 in
      (s.0, ty.0, asked_so j x w s.0 ty.0 o s.1 ty.1)

  abbrev wire : ℕ → ℤ
  wire = wires (bank_of spreads) (planned_view b) (plan_view b p) q

  abbrev is_answered_now : ℕ → Bool
  is_answered_now = answered (planned_view b) (plan_view b p) q t.grant

  -- an answered operation that accesses a global is open, and its bank has granted it
  answered_open : (j x : ℕ) (w : Bool) → j < size (planned_view b) → is_answered_now j ≡ true → target_of (operation_at (planned_view b) j).kind ≡ OfGlobal x w → Opens j x w
  answered_open j x w lt e u = record { below = lt; requested = (both_true (requests (planned_view b) (plan_view b p) q j) (t.grant j) e).0; target = u }

  answered_granted : (j x : ℕ) (w : Bool) → Opens j x w → is_answered_now j ≡ true → granted (bank_at_now j x) ≡ true
  answered_granted j x w o e = sym (t.heard j x w o) ∙ (both_true (requests (planned_view b) (plan_view b p) q j) (t.grant j) e).1

  open_answered : (j x : ℕ) (w : Bool) → Opens j x w → granted (bank_at_now j x) ≡ true → is_answered_now j ≡ true
  open_answered j x w o e = ap₂ (λ (u v : Bool). u && v) o.requested (t.heard j x w o ∙ e)

  -- a bank is asked by one operation
  only : (i j y x : ℕ) (v w : Bool) → Opens i y v → Opens j x w → bank_at_now i y ≡ bank_at_now j x → i ≡ j
  only i j y x v w o u same =
      let one : y ≡ x = banked.apart (place_now spreads b p q i y) (place_now spreads b p q j x) same in
      one_open globals spreads t.code t.plan t.places q b p t.runs i j x v w (subst (λ z. Opens i z v) one o) u

  -- who writes a place
  pub record IsWriter (l : Location) (j : ℕ) : Type 0 where
    pub object : ℕ
    pub opens : Opens j object true
    pub place : place_now spreads b p q j object ≡ l
    pub granted_it : granted (bank_of spreads l) ≡ true

  writer : (l : Location) (j : ℕ) → j < size (planned_view b) → is_answered_now j ≡ true → Writes l (bank_access_now (planned_view b) (plan_view b p) q wire j) → IsWriter l j
  writer l j lt e w =
      let is = writes_is (operation_at (planned_view b) j).kind (operand_now (planned_view b) (plan_view b p) q wire (operation_at (planned_view b) j).left)
      (operand_now (planned_view b) (plan_view b p) q wire (operation_at (planned_view b) j).right) l w in
      let o = answered_open j is.0 true lt e is.1 in
      record { object = is.0; opens = o; place = sym is.2; granted_it = ap (λ z. granted (bank_of spreads z)) is.2 ∙ answered_granted j is.0 true o e }

  wrote : (l : Location) → Writes l made → (j : ℕ) × IsWriter l j
  wrote l w =
      let j = written_by_one is_answered_now (bank_access_now (planned_view b) (plan_view b p) q wire) (size (planned_view b)) 0 l
      (subst (λ (es : List (Access ℤ)). Writes l es) t.makes w) in
      (j.0, writer l j.0 (let lt = j.2 in omega arith) j.3 j.4)

  -- NOT GRANTED, NOT WRITTEN
  pub writes_granted : (l : Location) → Writes l made → granted (bank_of spreads l) ≡ true
  writes_granted l w = (wrote l w).1.granted_it

  -- who reads a bank
  pub record IsReader (n j : ℕ) : Type 0 where
    pub object : ℕ
    pub opens : Opens j object false
    pub place : bank_at_now j object ≡ n
    pub granted_it : granted n ≡ true

  abbrev reads_now : ℕ → ℕ → Bool
  reads_now n j =
      is_answered_now j && reads_bank (bank_of spreads) (operation_at (planned_view b) j).kind
      (operand_now (planned_view b) (plan_view b p) q wire (operation_at (planned_view b) j).left) n

  reader : (n j : ℕ) → j < size (planned_view b) → reads_now n j ≡ true → IsReader n j
  reader n j lt e =
      let u = both_true (is_answered_now j)
      (reads_bank (bank_of spreads) (operation_at (planned_view b) j).kind (operand_now (planned_view b) (plan_view b p) q wire (operation_at (planned_view b) j).left) n) e in
      let is = reads_is (bank_of spreads) (operation_at (planned_view b) j).kind
      (operand_now (planned_view b) (plan_view b p) q wire (operation_at (planned_view b) j).left) n u.1 in
      let o = answered_open j is.0 false lt u.0 is.1 in
      record { object = is.0; opens = o; place = is.2; granted_it = ap granted (sym is.2) ∙ answered_granted j is.0 false o u.0 }

  abbrev word_value : ℕ → ℤ
  word_value j =
      word_read (bank_of spreads) (operation_at (planned_view b) j).kind (operand_now (planned_view b) (plan_view b p) q wire (operation_at (planned_view b) j).left) memory

  unread : (n : ℕ) → ((j : ℕ) → IsReader n j → ⊥) → next_words n ≡ words n
  unread n never =
      t.after n ∙ advance_words (bank_of spreads) (planned_view b) (plan_view b p) q memory t.grant n
      ∙ last_miss (reads_now n) word_value (q.words n) (size (planned_view b)) (λ j lt e. never j (reader n j lt e)) ∙ sym (t.before n)

  -- NOT GRANTED, NOT READ
  pub unread_there : (n : ℕ) → granted n ≡ false → next_words n ≡ words n
  unread_there n off = unread n (λ j is. let z = sym off ∙ is.granted_it in let f : false ≡ true = cc in cc)

  -- operation j asks the bank of its place
  module _ (j x : ℕ) (w : Bool) (s : Spread) (ty : IntegerType) (o : Opens j x w) (is : IsAsked j x w s ty) where
    same_asker : (i y : ℕ) (v : Bool) → Opens i y v → bank_at_now i y ≡ s.first + (place_now spreads b p q j x).index % s.count → i ≡ j
    same_asker i y v u same = only i j y x v w u o (same ∙ sym is.place)

    -- who writes a place of the bank
    writer_is : (i n : ℕ) (u : IsWriter (place_at x n) i) → n % s.count ≡ (place_now spreads b p q j x).index % s.count → i ≡ j
    writer_is i n u own =
        same_asker i u.object true u.opens (ap (bank_of spreads) u.place ∙ bank_there spreads x n s is.listed ∙ ap (λ z. s.first + z) own)

  mixed : (j k x y : ℕ) → target_of (operation_at (planned_view b) j).kind ≡ OfGlobal x false → target_of (operation_at (planned_view b) k).kind ≡ OfGlobal y true →
      k ≡ j → ⊥
  mixed j k x y a d same = let z = sym a ∙ sym (ap (λ i. target_of (operation_at (planned_view b) i).kind) same) ∙ d in let f : false ≡ true = cc in cc

  abbrev ThisBank : ℕ → ℕ → Spread → IntegerType → Type 0
  ThisBank = AtBank asks memory words next_words made

  read_there : (j x : ℕ) (s : Spread) (ty : IntegerType) (o : Opens j x false) (is : IsAsked j x false s ty) → granted (bank_at_now j x) ≡ true →
      ThisBank x ((place_now spreads b p q j x).index % s.count) s ty
  read_there j x s ty o is g =
      let n = s.first + (place_now spreads b p q j x).index % s.count in
      ReadsThere (place_now spreads b p q j x).index is.asks_it.operation is.asks_it.address refl
      (reads_there globals spreads t.code t.plan t.places q b p t.runs j x s is.listed o.below o.target)
      (λ i own w.
      let k = wrote (place_at x i) w in
      mixed j k.0 x k.1.object o.target k.1.opens.target (writer_is j x false s ty o is k.0 i k.1 own))
      (t.after n ∙ advance_words (bank_of spreads) (planned_view b) (plan_view b p) q memory t.grant n
      ∙ last_hit (reads_now n) word_value (q.words n) (size (planned_view b)) j o.below
      (ap₂ (λ (u v : Bool). u && v) (open_answered j x false o g)
      (ap (λ (z : Kind). reads_bank (bank_of spreads) z (operand_now (planned_view b) (plan_view b p) q wire (operation_at (planned_view b) j).left) n)
      (read_kind (operation_at (planned_view b) j).kind x o.target) ∙ same_is (bank_at_now j x) n is.place))
      (λ i lt e. let u = reader n i lt e in same_asker j x false s ty o is i u.object false u.opens u.place)
      ∙ ap (λ (z : Kind). word_read (bank_of spreads) z (operand_now (planned_view b) (plan_view b p) q wire (operation_at (planned_view b) j).left) memory)
      (read_kind (operation_at (planned_view b) j).kind x o.target))

  write_there : (j x : ℕ) (s : Spread) (ty : IntegerType) (o : Opens j x true) (is : IsAsked j x true s ty) → granted (bank_at_now j x) ≡ true →
      ThisBank x ((place_now spreads b p q j x).index % s.count) s ty
  write_there j x s ty o is g =
      let n = s.first + (place_now spreads b p q j x).index % s.count in
      WritesThere (place_now spreads b p q j x).index (written_now spreads b p q j) is.asks_it.operation is.asks_it.address (is.asks_it.value refl) refl
      (writes_there globals spreads t.code t.plan t.places q b p t.runs j x s is.listed o.below o.target)
      (written_typed globals spreads t.code t.plan t.places q b p t.runs t.reading t.shown j x o ty is.typed)
      (ap (λ (es : List (Access ℤ)). memory_after es memory (place_now spreads b p q j x)) t.makes
      ∙ after_one is_answered_now (bank_access_now (planned_view b) (plan_view b p) q wire) (size (planned_view b)) 0 j
      (place_now spreads b p q j x) (written_now spreads b p q j) memory (omega arith) (let lt = o.below in omega (arith, lt)) (open_answered j x true o g)
      (ap (λ (z : Kind). bank_access z (operand_now (planned_view b) (plan_view b p) q wire (operation_at (planned_view b) j).left)
      (operand_now (planned_view b) (plan_view b p) q wire (operation_at (planned_view b) j).right)) (write_kind (operation_at (planned_view b) j).kind x o.target))
      (λ i lt e ne w. ne (writer_is j x true s ty o is i (place_now spreads b p q j x).index (writer (place_now spreads b p q j x) i (omega (arith, lt)) e w) refl)))
      (λ i own ne w.
      let k = wrote (place_at x i) w in
      let same : k.0 ≡ j = writer_is j x true s ty o is k.0 i k.1 own in
      ne (sym (ap (λ z. (place_now spreads b p q z k.1.object).index) (sym same) ∙ ap (λ (l : Location). l.index) k.1.place)))
      (unread n (λ i u. mixed i j u.object x u.opens.target o.target (sym (same_asker j x true s ty o is i u.object false u.opens u.place))))

  there_by : (w : Bool) (j x : ℕ) (s : Spread) (ty : IntegerType) (o : Opens j x w) (is : IsAsked j x w s ty) → granted (bank_at_now j x) ≡ true →
      ThisBank x ((place_now spreads b p q j x).index % s.count) s ty
  there_by true j x s ty o is g = write_there j x s ty o is g
  there_by false j x s ty o is g = read_there j x s ty o is g

  -- GRANTED, ONE ACCESS
  pub granted_there : (x k : ℕ) (s : Spread) (ty : IntegerType) → slice_get spreads x ≡ Some s → slice_get globals x ≡ Some ty → k < s.count →
      (asks (s.first + k)).asks ≡ true → granted (s.first + k) ≡ true → ThisBank x k s ty
  granted_there x k s ty e u l on g =
      ⊎_elim
      (λ (found : Found (s.first + k)).
      let of = asked_by found.0 found.1 found.2 found.3 in
      let one : found.1 ≡ x =
      banked.same_object found.1 x ((place_now spreads b p q found.0 found.1).index % of.0.count) k of.0 s of.2.listed e of.2.below l
      (sym of.2.place ∙ found.4) in
      let o : Opens found.0 x found.2 = subst (λ z. Opens found.0 z found.2) one found.3 in
      let is = asked_so found.0 x found.2 s ty o e u in
      let at_bank : bank_at_now found.0 x ≡ s.first + k = subst (λ z. bank_at_now found.0 z ≡ s.first + k) one found.4 in
      let same : (place_now spreads b p q found.0 x).index % s.count ≡ k = (let place = is.place in omega (arith, place, at_bank)) in
      subst (λ z. ThisBank x z s ty) same (there_by found.2 found.0 x s ty o is (ap granted at_bank ∙ g)))
      (λ (none : (j y : ℕ) (w : Bool) → j < size (planned_view b) → Opens j y w → bank_at_now j y ≡ s.first + k → ⊥).
      absurd (let off = t.unasked (s.first + k) (banked.below x k s e l) (λ j y w o same. none j y w o.below o same) in let f : false ≡ true = cc in cc))
      (find spreads b p q (s.first + k) (size (planned_view b)) (omega arith))
