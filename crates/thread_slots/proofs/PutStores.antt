-- What stores put.
use Rattle.std.proofs.Common.{◌≡◌, ◌≢◌, ℕ, zero, suc, ◌+◌, ◌<◌, ◌≤◌, ◌^◌, Bool, true, false, ◌&&◌, nat_eq, nat_lt, if◌then◌else◌, List, [], ◌∷◌, ◌++◌, map, Option, Some, None, ℤ}
use Rattle.std.proofs.Common.{pos, negsuc, refl, sym, ap, subst, ◌∙◌, arith, ⊎_elim, append-nil, append_assoc}
use Rattle.std.specs.Prelude.{Result, Ok, Err, OnOk, slice_get, slice_index}
use Rattle.std.proofs.lemmas.Bool.Decides.{nat_tests}
use Rattle.std.proofs.lemmas.Bool.{cases_eq, and_parts, eqb-true}
use Rattle.hls_ints.specs.Residues.{residue_of, bit_of}
use Rattle.hls_ints.specs.Types.{IntegerType, HasType, width_of, wrapped}
use Rattle.block_ir.specs.Run.{place_written}
use Rattle.block_ir.specs.declared.operand.Operand.{Operand}
use Rattle.block_ir.specs.declared.block.Operation.{Operation}
use Rattle.block_ir.specs.declared.block.Operation.TheVariants.{Unary, Binary, ReadGlobal, WriteGlobal, ReadArray, WriteArray}
use Rattle.block_ir.specs.declared.code.Array.{Array}
use Rattle.block_ir.specs.declared.code.ThreadCode.{ThreadCode}
use Rattle.netlist.specs.declared.netlist.Signal.{Signal}
use Rattle.netlist.specs.declared.netlist.Module.{Module}
use Rattle.verilog_meaning.specs.Readings.{Reading, word_after}
use Rattle.circuit.specs.Modules.{Obeys}
use Rattle.planned_block.proofs.Bits.{same_is, other_is}
use Rattle.operator_wires.specs.declared.words.Word.{Word}
use Rattle.operator_wires.specs.Gives.{Grows}
use Rattle.operator_wires.specs.Words.{IsWord, Becomes}
use Rattle.operator_wires.proofs.PutSignals.{grows_refl, grows_then}
use Rattle.block_datapath.specs.declared.registers.Registers.{Registers}
use Rattle.block_datapath.specs.declared.states.Moment.{Moment}
use Rattle.block_datapath.specs.Chains.{IsMoment, TellsState}
use Rattle.block_datapath.specs.Types.{operand_type}
use Rattle.block_datapath.specs.declared.operands.Given.{Given}
use Rattle.block_datapath.specs.Seen.{ShowsOperand}
use Rattle.block_datapath.specs.Operations.{seen_value, IsOutside, Addresses}
use Rattle.block_datapath.proofs.OperandWords.{own_word}
use Rattle.thread_slots.specs.declared.stores.Store.{Store}
use Rattle.thread_slots.specs.Cells.{store_action, AreOff, Cells, cell_at, cells_first, PutsFirst, PutsCells, AddsIn, PutsWord, cell_after, SeesWrite, PutsOne}

-- ---- one store

one_off : (r : Reading) (s : Store) → r.signal s.condition ≡ 0 → AreOff r (s ∷ [])
one_off r s off zero x listed = let same : s ≡ x = cc in subst (λ (z : Store). r.signal z.condition ≡ 0) same off
one_off r s off (suc k) x listed = absurd cc

same_test : (a b : ℕ) → nat_eq a b ≡ nat_eq b a
same_test a b = grind (arith, nat_tests)

module _ (r : Reading) (s : Store) (leave a j word : ℕ) (on : r.signal leave ≡ 1) (set : r.signal s.condition ≡ 1) where
  stored : word_after r (map (store_action leave) (s ∷ [])) a j word ≡ (if nat_eq s.memory a && nat_eq (r.signal s.address) j then r.signal s.source else word)
  stored =
      ap (λ n. if nat_lt 0 n && (nat_lt 0 (r.signal s.condition) && true) then (if nat_eq s.memory a && nat_eq (r.signal s.address) j then r.signal s.source else word) else word)
      on
      ∙ ap (λ n. if nat_lt 0 n && true then (if nat_eq s.memory a && nat_eq (r.signal s.address) j then r.signal s.source else word) else word) set

-- the place that is written is that of the address, among the elements
place_at : (inside : Bool) (i j n address : ℕ) → nat_lt i n ≡ inside → j < n → (inside ≡ true → address ≡ i) → (inside ≡ false → n ≤ address)
    → nat_eq address j ≡ nat_eq j (if inside then i else suc n)
place_at true i j n address e less same past = ap (λ k. nat_eq k j) (same refl) ∙ same_test i j
place_at false i j n address e less same past =
    let le = past refl in
    other_is address j (λ h. absurd (omega arith)) ∙ sym (other_is j (suc n) (λ h. absurd (omega arith)))

place_is : (v : ℤ) (j n address : ℕ) → j < n → ((i : ℕ) → v ≡ pos i → i < n → address ≡ i) → (IsOutside n v → n ≤ address) → nat_eq address j ≡ nat_eq j (place_written n v)
place_is (pos i) j n address less same past =
    place_at (nat_lt i n) i j n address refl less (λ e. same i refl (let l : i < n = grind (arith, nat_tests) in l)) (λ e. past (let l : n ≤ i = grind (arith, nat_tests) in l))
place_is (negsuc i) j n address less same past =
    let le = past tt in
    other_is address j (λ h. absurd (omega arith)) ∙ sym (other_is j (suc n) (λ h. absurd (omega arith)))

pub word_put : (a b c d : List Signal) (registers : Registers) (number : ℕ) (array : Array) (index value source : Word) (moment : Moment) (condition address : ℕ)
    (before after : List Store)
    (s : Store) → TellsState a b registers moment condition → Addresses b c index array.length address → Becomes c d value array.ty (wrapped array.ty) source → s.memory ≡ number
    → s.condition ≡ condition → s.address ≡ address → s.source ≡ source.place → after ≡ before ++ s ∷ [] → PutsWord a d registers moment before after number array index value
word_put a b c d registers number array index value source moment condition address before after s told addressed made in_ on_ at from same = record {
  added = s ∷ [];
  adds = record {
    grows = grows_then a c d (grows_then a b c told.grows addressed.grows) made.grows;
    more = same;
    rests = λ m r g o wide off. one_off r s (ap r.signal on_ ∙ told.rests m r (to_b m g) o wide off);
    elsewhere = λ m r k g o moment_ less ne.
        one_off r s (ap r.signal on_ ∙ told.shows m r true k (to_b m g) o moment_ less ∙ ap bit_of (other_is k moment.state ne));
  };
  here = λ m r ty v w leave i j word g o moment_ less index_is value_is few on within.
      let set : r.signal s.condition ≡ 1 = ap r.signal on_ ∙ told.shows m r true moment.state (to_b m g) o moment_ less ∙ ap bit_of (same_is moment.state moment.state refl) in
      let source_is : IsWord m r source array.ty w = own_word m r source array.ty w value_is.typed (made.shows m r array.ty w g o value_is) in
      let number_is : r.signal s.source ≡ residue_of (width_of array.ty) w = ap r.signal from ∙ source_is.shows in
      stored r s leave i j word on set
      ∙ ⊎_elim
      (λ (e : i ≡ number).
      let address_is : nat_eq (r.signal s.address) j ≡ nat_eq j (place_written array.length v) =
      ap (λ n. nat_eq (r.signal n) j) at
      ∙ place_is v j array.length (r.signal address) (within e)
      (λ k is below. addressed.inside m r ty k (to_c m g) o (subst (λ z. IsWord m r index ty z) is index_is) below)
      (λ past. addressed.outside m r ty v (to_c m g) o index_is few past) in
      ap (λ t. if t && nat_eq (r.signal s.address) j then r.signal s.source else word) (same_is s.memory i (in_ ∙ sym e))
      ∙ ap (λ t. if t then r.signal s.source else word) address_is
      ∙ ap (λ n. if nat_eq j (place_written array.length v) then n else word) number_is
      ∙ sym (ap (λ t. if t && nat_eq j (place_written array.length v) then residue_of (width_of array.ty) w else word) (same_is i number e)))
      (λ (ne : i ≢ number).
      ap (λ t. if t && nat_eq (r.signal s.address) j then r.signal s.source else word) (other_is s.memory i (λ h. ne (sym h ∙ in_)))
      ∙ sym (ap (λ t. if t && nat_eq j (place_written array.length v) then residue_of (width_of array.ty) w else word) (other_is i number ne)))
      (cases_eq i number);
}
  where
    to_c : (m : Module) → Grows d m.signals → Grows c m.signals
    to_c m g = grows_then c d m.signals made.grows g

    to_b : (m : Module) → Grows d m.signals → Grows b m.signals
    to_b m g = grows_then b c m.signals addressed.grows (grows_then c d m.signals made.grows g)

pub word_answered : {A E : Type 0} (x : Result A E) (a b c d : List Signal) (registers : Registers) (number : ℕ) (array : Array) (index value source : Word) (moment : Moment)
    (condition address : ℕ) (before after : List Store) (s : Store) → TellsState a b registers moment condition → Addresses b c index array.length address
    → Becomes c d value array.ty (wrapped array.ty) source → s.memory ≡ number → s.condition ≡ condition → s.address ≡ address → s.source ≡ source.place →
    OnOk x (after ≡ before ++ s ∷ [])
    → OnOk x (PutsWord a d registers moment before after number array index value)
word_answered (Ok z) a b c d registers number array index value source moment condition address before after s told addressed made in_ on_ at from same =
    word_put a b c d registers number array index value source moment condition address before after s told addressed made in_ on_ at from same
word_answered (Err e) a b c d registers number array index value source moment condition address before after s told addressed made in_ on_ at from same = tt

-- ---- one operation

pub nothing_off : (r : Reading) → AreOff r []
nothing_off r k s listed = absurd cc

adds_none : (a b : List Signal) (registers : Registers) (moment : Moment) (stores : List Store) → Grows a b → AddsIn a b registers moment stores stores []
adds_none a b registers moment stores g = record {
  grows = g;
  more = sym (append-nil stores);
  rests = λ m r g o wide off. nothing_off r;
  elsewhere = λ m r s g o moment_ less ne. nothing_off r;
}

-- an operation that stores nothing
puts_none : (a b : List Signal) (registers : Registers) (moment : Moment) (stores : List Store) (code : ThreadCode) (values : List Given) (o : Operation) → Grows a b
    → ((variables given : ℕ → ℤ) (i j : ℕ) (v : ℤ) → cell_after variables given o i j v ≡ v) → PutsOne a b registers moment stores stores code values o
puts_none a b registers moment stores code values o g same = record {
  added = [];
  adds = adds_none a b registers moment stores g;
  here = λ m r variables given g obeys moment_ less sees. record {
    words = λ leave i j old array v on listed below is typed. (
      is ∙ ap (residue_of (width_of array.ty)) (sym (same variables given i j v)),
      subst (HasType array.ty) (sym (same variables given i j v)) typed,
    );
    outside = λ i array v listed. same variables given i array.length v;
  };
}

-- an operation that is no write of an array
pub puts_others : (a b : List Signal) (registers : Registers) (moment : Moment) (stores : List Store) (code : ThreadCode) (values : List Given) (o : Operation) → Grows a b
    → ((x n : ℕ) (i v : Operand) → o ≡ WriteArray x n i v → ⊥) → PutsOne a b registers moment stores stores code values o
puts_others a b registers moment stores code values (Unary operator ty x) g other = puts_none a b registers moment stores code values _ g (λ variables given i j v. refl)
puts_others a b registers moment stores code values (Binary operator ty x y) g other = puts_none a b registers moment stores code values _ g (λ variables given i j v. refl)
puts_others a b registers moment stores code values (ReadGlobal x n k) g other = puts_none a b registers moment stores code values _ g (λ variables given i j v. refl)
puts_others a b registers moment stores code values (WriteGlobal x n k y) g other = puts_none a b registers moment stores code values _ g (λ variables given i j v. refl)
puts_others a b registers moment stores code values (ReadArray x n k) g other = puts_none a b registers moment stores code values _ g (λ variables given i j v. refl)
puts_others a b registers moment stores code values (WriteArray x n k y) g other = absurd (other x n k y refl)

-- a write, where its array is
module _ (a b c d : List Signal) (registers : Registers) (moment : Moment) (before after : List Store) (code : ThreadCode) (values : List Given) (number : ℕ) (own : Array)
    (index value : Operand)
    (index_word value_word : Word) (there : slice_get code.arrays number ≡ Some own) (first : ShowsOperand a b registers code.variables values moment.state index index_word)
    (second : ShowsOperand b c registers code.variables values moment.state value value_word) (put : PutsWord c d registers moment before after number own index_word value_word)
    (n : ℕ) where
  to_c : (m : Module) → Grows d m.signals → Grows c m.signals
  to_c m g = grows_then c d m.signals put.adds.grows g

  module _ (m : Module) (r : Reading) (variables given : ℕ → ℤ) (g : Grows d m.signals) (o : Obeys m r) (moment_ : IsMoment m r registers moment.at moment.states true moment.state)
      (less : moment.state < moment.states) (sees : SeesWrite code registers values m r moment.state variables given (WriteArray number n index value)) where
    abbrev place : ℤ
    place = seen_value variables given index

    abbrev stored_value : ℤ
    stored_value = seen_value variables given value

    long : own.length ≡ n
    long = let h = sees.2 in let same : h.0 ≡ own = (let e = h.1 in cc) in ap (λ (k : Array). k.length) (sym same) ∙ h.2

    index_is : IsWord m r index_word (operand_type index) place
    index_is = first.shows m r variables given (grows_then b c m.signals second.grows (to_c m g)) o sees.0

    value_is : IsWord m r value_word own.ty stored_value
    value_is =
        let h = sees.3 in
        let same : h.0 ≡ own = (let e = h.1 in cc) in
        subst (λ (t : IntegerType). IsWord m r value_word t stored_value) (h.2 ∙ ap (λ (k : Array). k.ty) same) (second.shows m r variables given (to_c m g) o sees.1)

    few : own.length < 2 ^ 31
    few = let e = long in let f = sees.4 in subst (λ k. k < 2 ^ 31) (sym e) f

    by_test : (t : Bool) (i j old : ℕ) (array : Array) (v : ℤ) → (nat_eq i number && nat_eq j (place_written n place)) ≡ t → slice_get code.arrays i ≡ Some array
        → old ≡ residue_of (width_of array.ty) v → HasType array.ty v
        → ((if t then residue_of (width_of own.ty) stored_value else old) ≡ residue_of (width_of array.ty) (if t then stored_value else v)) × HasType array.ty
        (if t then stored_value else v)
    by_test false i j old array v e listed is typed = (is, typed)
    by_test true i j old array v e listed is typed =
        let at : i ≡ number = eqb-true i number (and_parts (nat_eq i number) (nat_eq j (place_written n place)) e).0 in
        let same : own ≡ array = (let f = ap (slice_get code.arrays) at in cc) in (
          ap (λ (k : Array). residue_of (width_of k.ty) stored_value) same,
          subst (λ (k : Array). HasType k.ty stored_value) same value_is.typed,
        )

    past_end : (w : ℤ) → n ≢ place_written n w
    past_end (pos i) h = by (nat_lt i n) refl h
      where
        by : (t : Bool) → nat_lt i n ≡ t → n ≡ (if t then i else suc n) → ⊥
        by true e same = absurd (let l : i < n = grind (arith, nat_tests) in omega arith)
        by false e same = absurd (omega arith)
    past_end (negsuc i) h = absurd (omega arith)

    pub put_cells : PutsCells code r put.added (cell_after variables given (WriteArray number n index value))
    put_cells = record {
      words = λ leave i j old array v on listed below is typed.
          let t = nat_eq i number && nat_eq j (place_written n place) in
          let made = by_test t i j old array v refl listed is typed in
          let one =
          put.here m r (operand_type index) place stored_value leave i j old g o moment_ less index_is value_is few on
          (λ e. let same : own ≡ array = (let f = ap (slice_get code.arrays) e in cc) in subst (λ (k : Array). j < k.length) (sym same) below) in (
            one ∙ ap (λ k. if nat_eq i number && nat_eq j (place_written k place) then residue_of (width_of own.ty) stored_value else old) long ∙ made.0,
            made.1,
          );
      outside = λ i array v listed. by_place i array v listed (nat_eq i number) refl;
    }
      where
        by_place : (i : ℕ) (array : Array) (v : ℤ) → slice_get code.arrays i ≡ Some array → (t : Bool) → nat_eq i number ≡ t
            → (if nat_eq i number && nat_eq array.length (place_written n place) then stored_value else v) ≡ v
        by_place i array v listed false e = ap (λ t. if t && nat_eq array.length (place_written n place) then stored_value else v) e
        by_place i array v listed true e =
            let at : i ≡ number = eqb-true i number e in
            let same : own ≡ array = (let f = ap (slice_get code.arrays) at in cc) in
            let size : array.length ≡ n = ap (λ (k : Array). k.length) (sym same) ∙ long in
            ap (λ t. if t && nat_eq array.length (place_written n place) then stored_value else v) e
            ∙ ap (λ k. if nat_eq k (place_written n place) then stored_value else v) size
            ∙ ap (λ t. if t then stored_value else v) (other_is n (place_written n place) (past_end place))

  pub puts_write : PutsOne a d registers moment before after code values (WriteArray number n index value)
  puts_write = record {
    added = put.added;
    adds = record {
      grows = grows_then a b d first.grows (grows_then b c d second.grows put.adds.grows);
      more = put.adds.more;
      rests = put.adds.rests;
      elsewhere = put.adds.elsewhere;
    };
    here = put_cells;
  }

-- a write of no array
pub puts_missing : (a d : List Signal) (registers : Registers) (moment : Moment) (stores : List Store) (code : ThreadCode) (values : List Given) (number n : ℕ)
    (index value : Operand) → Grows a d
    → slice_get code.arrays number ≡ None → PutsOne a d registers moment stores stores code values (WriteArray number n index value)
puts_missing a d registers moment stores code values number n index value g missing = record {
  added = [];
  adds = adds_none a d registers moment stores g;
  here = λ m r variables given grows obeys moment_ less sees. absurd (let h = sees.2 in let e = h.1 in cc);
}

-- ---- one after the other

word_append : (r : Reading) (leave : ℕ) (xs ys : List Store) (j k old : ℕ)
    → word_after r (map (store_action leave) (xs ++ ys)) j k old ≡ word_after r (map (store_action leave) ys) j k (word_after r (map (store_action leave) xs) j k old)
word_append r leave [] ys j k old = refl
word_append r leave (x ∷ xs) ys j k old = word_append r leave xs ys j k _

pub off_stores : (r : Reading) (leave : ℕ) (stores : List Store) (j k old : ℕ) → AreOff r stores → word_after r (map (store_action leave) stores) j k old ≡ old
off_stores r leave [] j k old off = refl
off_stores r leave (s ∷ stores) j k old off =
    off_stores r leave stores j k _ (λ i x e. off (suc i) x e)
    ∙ ap (λ n. if nat_lt 0 (r.signal leave) && (nat_lt 0 n && true) then (if nat_eq s.memory j && nat_eq (r.signal s.address) k then r.signal s.source else old) else old)
    (off 0 s refl)
    ∙ either_old (nat_lt 0 (r.signal leave)) old (if nat_eq s.memory j && nat_eq (r.signal s.address) k then r.signal s.source else old)
  where
    either_old : (t : Bool) (old new : ℕ) → (if t && false then new else old) ≡ old
    either_old true old new = refl
    either_old false old new = refl

pub off_both : (r : Reading) (xs ys : List Store) → AreOff r xs → AreOff r ys → AreOff r (xs ++ ys)
off_both r [] ys a b k s e = b k s e
off_both r (x ∷ xs) ys a b zero s e = a zero s e
off_both r (x ∷ xs) ys a b (suc k) s e = off_both r xs ys (λ i z f. a (suc i) z f) b k s e

-- nothing is put where no store is made
pub puts_off : (code : ThreadCode) (r : Reading) (stores : List Store) → AreOff r stores → PutsCells code r stores (λ a j v. v)
puts_off code r stores off = record {
  words = λ leave a j old array v on listed below is typed. (off_stores r leave stores a j old off ∙ is, typed);
  outside = λ a array v listed. refl;
}

pub puts_both : (code : ThreadCode) (r : Reading) (xs ys : List Store) (f g : Cells) → PutsCells code r xs f → PutsCells code r ys g →
    PutsCells code r (xs ++ ys) (λ a j v. g a j (f a j v))
puts_both code r xs ys f g first second = record {
  words = λ leave a j old array v on listed below is typed.
      let one = first.words leave a j old array v on listed below is typed in
      let two = second.words leave a j (word_after r (map (store_action leave) xs) a j old) array (f a j v) on listed below one.0 one.1 in
      (word_append r leave xs ys a j old ∙ two.0, two.1);
  outside = λ a array v listed. second.outside a array (f a array.length v) listed ∙ first.outside a array v listed;
}

-- ---- the operations of a block

pub first_none : (a : List Signal) (registers : Registers) (at states : ℕ) (stores : List Store) (code : ThreadCode) (values : List Given) (operations : List Operation)
    (starts : List ℕ)
    → PutsFirst a a registers at states stores stores code values operations starts 0
first_none a registers at states stores code values operations starts = record {
  added = [];
  grows = grows_refl a;
  more = sym (append-nil stores);
  rests = λ m r g o wide off. nothing_off r;
  here = λ m r variables given s g o moment_ sees. puts_off code r [] (nothing_off r);
}

module _ (a b c : List Signal) (registers : Registers) (at states start : ℕ) (before middle after : List Store) (code : ThreadCode) (values : List Given)
    (operations : List Operation)
    (starts : List ℕ) (n : ℕ) (o : Operation) (first : PutsFirst a b registers at states before middle code values operations starts n) (listed : slice_get operations n ≡ Some o)
    (start_is : start ≡ slice_index starts n)
    (next : PutsOne b c registers (record { at = at; state = start; states = states }) middle after code values o) where
  to_b : (m : Module) → Grows c m.signals → Grows b m.signals
  to_b m g = grows_then b c m.signals next.adds.grows g

  module _ (m : Module) (r : Reading) (variables given : ℕ → ℤ) (s : ℕ) (g : Grows c m.signals) (obeys : Obeys m r) (moment_ : IsMoment m r registers at states true s)
      (sees : (k : ℕ) (p : Operation) → k < n + 1 → slice_get operations k ≡ Some p
      → (slice_index starts k < states) × (slice_index starts k ≡ s → SeesWrite code registers values m r s variables given p)) where
    abbrev so_far : Cells
    so_far = cells_first operations starts s variables given n

    earlier : PutsCells code r first.added so_far
    earlier = first.here m r variables given s (to_b m g) obeys moment_ (λ k p less e. sees k p (omega arith) e)

    next_by : (t : Bool) → nat_eq (slice_index starts n) s ≡ t
        → PutsCells code r (first.added ++ next.added) (λ i j v. if t then cell_at variables given (slice_get operations n) i j (so_far i j v) else so_far i j v)
    next_by true e =
        let here_is : slice_index starts n ≡ s = eqb-true (slice_index starts n) s e in
        let told = sees n o (omega arith) listed in
        let now : start ≡ s = start_is ∙ here_is in
        let moment_now : IsMoment m r registers at states true start = subst (λ k. IsMoment m r registers at states true k) (sym now) moment_ in
        let seen : SeesWrite code registers values m r start variables given o = subst (λ k. SeesWrite code registers values m r k variables given o) (sym now) (told.1 here_is) in
        let one : PutsCells code r next.added (cell_after variables given o) =
        next.here m r variables given g obeys moment_now (subst (λ k. k < states) (sym start_is) told.0) seen in
        subst (λ (x : Option Operation). PutsCells code r (first.added ++ next.added) (λ i j v. cell_at variables given x i j (so_far i j v))) (sym listed)
        (puts_both code r first.added next.added so_far (cell_after variables given o) earlier one)
    next_by false e =
        let told = sees n o (omega arith) listed in
        let ne : s ≢ start = λ same. let hit : nat_eq (slice_index starts n) s ≡ true = same_is (slice_index starts n) s (sym start_is ∙ sym same) in let clash : true
        ≡ false = sym hit ∙ e in absurd cc in
        puts_both code r first.added next.added so_far (λ i j v. v) earlier
        (puts_off code r next.added (next.adds.elsewhere m r s g obeys moment_ (subst (λ k. k < states) (sym start_is) told.0) ne))

  pub first_more : PutsFirst a c registers at states before after code values operations starts (n + 1)
  first_more = record {
    added = first.added ++ next.added;
    grows = grows_then a b c first.grows next.adds.grows;
    more = next.adds.more ∙ ap (λ l. l ++ next.added) first.more ∙ append_assoc before first.added next.added;
    rests = λ m r g obeys wide off. off_both r first.added next.added (first.rests m r (to_b m g) obeys wide off) (next.adds.rests m r g obeys wide off);
    here = λ m r variables given s g obeys moment_ sees.
        let e : n + 1 ≡ suc n = omega arith in
        subst (λ k. PutsCells code r (first.added ++ next.added) (cells_first operations starts s variables given k)) (sym e)
        (next_by m r variables given s g obeys moment_ sees (nat_eq (slice_index starts n) s) refl);
  }
