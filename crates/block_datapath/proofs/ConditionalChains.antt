-- Chains of conditionals: lemmas of each function that adds a link.
use Rattle.std.proofs.Common.{◌≡◌, ◌≢◌, ℕ, zero, suc, ◌+◌, ◌%◌, ◌^◌, ◌<◌, ◌≤◌, Bool, true, false, not, ◌&&◌, nat_eq, if◌then◌else◌, List, [], ◌∷◌, length, slice_get, Option, Some}
use Rattle.std.proofs.Common.{None, refl, sym, ap, subst, ◌∙◌, arith, ⊎_elim, add-one}
use Rattle.std.specs.Prelude.{Result, IfOk}
use Rattle.std.proofs.Math.Nat.{mod-eq_of_lt}
use Rattle.std.proofs.lemmas.Bool.{eqb-true, cases_eq}
use Rattle.netlist.specs.declared.netlist.Signal.{Signal}
use Rattle.verilog_meaning.specs.Readings.{width}
use Rattle.hls_ints.specs.Residues.{bit_of}
use Rattle.hls_ints.specs.Words.{word, word_equal, word_and}
use Rattle.planned_block.specs.Advance.{last_of, is_register}
use Rattle.planned_block.proofs.Bits.{same_is, other_is}
use Rattle.operator_wires.specs.Gives.{Gives}
use Rattle.operator_wires.specs.Words.{Resizes, resized_word}
use Rattle.operator_wires.proofs.PutSignals.{grows_refl, grows_then}
use Rattle.operator_wires.proofs.MadeWords.{of_ok}
use Rattle.operator_wires.proofs.Bits.{and_bits, set_bit}
use Rattle.block_datapath.specs.declared.registers.Held.{Held}
use Rattle.block_datapath.specs.declared.registers.Registers.{Registers}
use Rattle.block_datapath.specs.declared.operands.Given.{Given}
use Rattle.block_datapath.specs.declared.states.Moment.{Moment}
use Rattle.block_datapath.specs.Chains.{next_number, is_set, SetsNext, TellsStage, IsMoment, TellsState, held_width, keeps_in, kept_number, KeepsOne, KeepsFirst}

-- ---- bits

pub equal_small : (v w a l : ℕ) → v ≡ w → a < 2 ^ w → l < 2 ^ w → word_equal v a l ≡ bit_of (nat_eq a l)
equal_small v w a l e p q =
    ap (λ x. word_equal x a l) e ∙ ap (λ x. bit_of (nat_eq x (l % 2 ^ w))) (mod-eq_of_lt p) ∙ ap (λ x. bit_of (nat_eq a x)) (mod-eq_of_lt q)

-- ---- stages and states

pub stage_answer : {E : Type 0} (x : Result ℕ E) (a b : List Signal) (registers : Registers) (l : ℕ)
    → IfOk x (λ place. Gives a b place 1 (λ m r. word_equal (width m registers.stage.register) (r.signal registers.stage.register) l)) → IfOk x (TellsStage a b registers l)
stage_answer x a b registers l made =
    of_ok x (λ place. Gives a b place 1 (λ m r. word_equal (width m registers.stage.register) (r.signal registers.stage.register) l)) (TellsStage a b registers l)
    (λ place t. record {
      grows = t.grows;
      wide = t.wide;
      shows = λ m r g o wide low small. t.shows m r g o ∙ equal_small (width m registers.stage.register) registers.stage.width (r.signal registers.stage.register) l wide small low;
    }) made

single_state : (t : Bool) (s n states : ℕ) → (t ≡ true → s < states) → n < states → states ≤ 1 → t ≡ (t && nat_eq s n)
single_state true s n states below low one = let small = below refl in let same : nat_eq s n ≡ true = grind arith in sym same
single_state false s n states below low one = refl

pub state_single : (a : List Signal) (registers : Registers) (moment : Moment) → moment.states ≤ 1 → TellsState a a registers moment moment.at
state_single a registers moment one = record {
  grows = grows_refl a;
  wide = λ m g e. e;
  shows = λ m r t s g o is low. is.shows ∙ ap bit_of (single_state t s moment.state moment.states is.below low one);
  rests = λ m r g o wide off. off;
}

state_seen : (t : Bool) (v w a s n states : ℕ) → (t ≡ true → v ≡ w) → (t ≡ true → a ≡ s) → (t ≡ true → s < states) → (t ≡ true → states ≤ 2 ^ w) → n < states
    → (t && nat_eq (word v a) (word v n)) ≡ (t && nat_eq s n)
state_seen true v w a s n states wide state below room low =
    let e = wide refl in
    let f = state refl in
    let b = below refl in
    let k = room refl in
    let small : s < 2 ^ w = omega arith in
    let other : n < 2 ^ w = omega arith in
    ap (λ x. nat_eq (word x a) (word x n)) e ∙ ap (λ x. nat_eq (word w x) (word w n)) f ∙ ap (λ x. nat_eq x (word w n)) (mod-eq_of_lt small) ∙ ap (nat_eq s) (mod-eq_of_lt other)
state_seen false v w a s n states wide state below room low = refl

pub state_answer : {E : Type 0} (x : Result ℕ E) (a b c : List Signal) (registers : Registers) (moment : Moment) (bit : ℕ)
    → Gives a b bit 1 (λ m r. word_equal (width m registers.state.register) (r.signal registers.state.register) moment.state)
    → IfOk x (λ place. Gives b c place 1 (λ m r. word_and (width m moment.at) (r.signal moment.at) (r.signal bit))) → IfOk x (TellsState a c registers moment)
state_answer x a b c registers moment bit t made =
    of_ok x (λ place. Gives b c place 1 (λ m r. word_and (width m moment.at) (r.signal moment.at) (r.signal bit))) (TellsState a c registers moment)
    (λ place u. record {
      grows = grows_then a b c t.grows u.grows;
      wide = λ m g e. u.wide m g;
      shows = λ m r k s g o is low.
          let v = width m registers.state.register in
          let n = r.signal registers.state.register in
          u.shows m r g o
          ∙ ap (λ w. word_and w (r.signal moment.at) (r.signal bit)) is.wide
          ∙ ap (λ y. word_and 1 y (r.signal bit)) is.shows
          ∙ ap (word_and 1 (bit_of k)) (t.shows m r (grows_then b c m.signals u.grows g) o)
          ∙ and_bits k (nat_eq (word v n) (word v moment.state))
          ∙ ap bit_of (state_seen k v registers.state.width n s moment.state moment.states is.state_wide is.state is.below is.room low);
      rests = λ m r g o wide off.
          let v = width m registers.state.register in
          let n = r.signal registers.state.register in
          u.shows m r g o
          ∙ ap (λ w. word_and w (r.signal moment.at) (r.signal bit)) wide
          ∙ ap (λ y. word_and 1 y (r.signal bit)) off
          ∙ ap (word_and 1 0) (t.shows m r (grows_then b c m.signals u.grows g) o)
          ∙ and_bits false (nat_eq (word v n) (word v moment.state));
    }) made

-- ---- one link

not_within : {X : Type 0} (xs : List X) (k : ℕ) → slice_get xs k ≡ None → k < length xs → ⊥
not_within [] k e h = absurd (omega arith)
not_within (y ∷ xs) zero e h = absurd cc
not_within (y ∷ xs) (suc k) e h = not_within xs k e (omega arith)

no_link : (c t : Bool) (S O : ℕ) → c ≡ false → O ≡ (if c && t then S else O)
no_link true t S O e = absurd cc
no_link false t S O e = refl

pub set_none : (a : List Signal) (before : List ℕ) (number condition source : ℕ) → slice_get before number ≡ None → SetsNext a a before before number condition source
set_none a before number condition source e = record {
  grows = grows_refl a;
  count = refl;
  shows = λ m r x g o less.
      let ne : x ≢ number = λ same. not_within before number e (subst (λ (k : ℕ). k < length before) same less) in
      no_link (nat_eq x number) (is_set r condition) (r.signal source) (next_number r before x) (other_is x number ne);
}

-- ---- values that are kept

unkept : (t : Bool) (K O : ℕ) → O ≡ (if t && false then K else O)
unkept true K O = refl
unkept false K O = refl

chosen : (c b : Bool) (S K O : ℕ) → (c ≡ true → b ≡ true → S ≡ K) → (if c && b then S else O) ≡ (if b && c then K else O)
chosen true true S K O h = h refl refl
chosen true false S K O h = refl
chosen false true S K O h = refl
chosen false false S K O h = refl

choose : (c b i d : Bool) (S K O : ℕ) → i ≡ b → d ≡ c → (c ≡ true → b ≡ true → S ≡ K) → (if c && i then S else O) ≡ (if b && d then K else O)
choose c b i d S K O e f h = ap (λ k. if c && k then S else O) e ∙ chosen c b S K O h ∙ ap (λ k. if b && k then K else O) (sym f)

eq_turned : (x n : ℕ) → nat_eq n x ≡ nat_eq x n
eq_turned x n = ⊎_elim (λ e. same_is n x (sym e) ∙ sym (same_is x n e)) (λ ne. other_is n x (λ e. ne (sym e)) ∙ sym (other_is x n ne)) (cases_eq x n)

pub keep_missing : (a : List Signal) (registers : Registers) (at states : ℕ) (before : List ℕ) (g : Given) (number : ℕ) → g.register ≡ Some number →
    slice_get registers.kept number ≡ None
    → KeepsOne a a registers at states before before g
keep_missing a registers at states before g number e missing = record {
  grows = grows_refl a;
  count = refl;
  shows = λ m r t s x grows o is can less same.
      let value = kept_number r (held_width (slice_get registers.kept x)) (Some g) in
      let ne : number ≢ x = λ k. not_within registers.kept number missing (subst (λ (n : ℕ). n < length registers.kept) (sym k) (omega arith)) in
      unkept (t && nat_eq s g.last) value (next_number r before x)
      ∙ ap (λ (k : Bool). if (t && nat_eq s g.last) && k then value else next_number r before x) (sym (other_is number x ne))
      ∙ ap (λ (k : Option ℕ). if (t && nat_eq s g.last) && is_register k x then value else next_number r before x) (sym e);
  rests = λ m r x grows o wide off less. refl;
}

pub keep_linked : (a b c d : List Signal) (registers : Registers) (moment : Moment) (states : ℕ) (before after : List ℕ) (g : Given) (number condition source : ℕ) (held : Held)
    → g.register ≡ Some number → slice_get registers.kept number ≡ Some held → moment.state ≡ g.last → moment.states ≡ states → TellsState a b registers moment condition
    → Resizes b c g.word.place g.word.width held.width false source → SetsNext c d before after number condition source → KeepsOne a d registers moment.at states before after g
keep_linked a b c d registers moment states before after g number condition source held e listed last count t u v = record {
  grows = grows_then a b d t.grows (grows_then b c d u.grows v.grows);
  count = v.count;
  shows = λ m r k s x grows o is can less same.
      let later = grows_then c d m.signals v.grows grows in
      let here : IsMoment m r registers moment.at moment.states k s = subst (λ (n : ℕ). IsMoment m r registers moment.at n k s) (sym count) is in
      let low : moment.state < moment.states = (let b = can.below in omega arith) in
      let told = t.shows m r k s (grows_then b c m.signals u.grows later) o here low ∙ ap (λ n. bit_of (k && nat_eq s n)) last in
      let bit : is_set r condition ≡ (k && nat_eq s g.last) = ap (λ n. not (nat_eq n 0)) told ∙ set_bit (k && nat_eq s g.last) in
      let named : is_register g.register x ≡ nat_eq x number = ap (λ (n : Option ℕ). is_register n x) e ∙ eq_turned x number in
      v.shows m r x grows o less
      ∙ choose (nat_eq x number) (k && nat_eq s g.last) (is_set r condition) (is_register g.register x) (r.signal source)
      (kept_number r (held_width (slice_get registers.kept x)) (Some g)) (next_number r before x) bit named
      (λ h bits.
      let w : held_width (slice_get registers.kept x) ≡ held.width = ap (λ n. held_width (slice_get registers.kept n)) (eqb-true x number h) ∙ ap held_width listed in
      u.shows m r later o (can.wide bits) ∙ ap (λ n. resized_word false g.word.width n (r.signal g.word.place)) (sym w));
  rests = λ m r x grows o wide off less.
      let later = grows_then c d m.signals v.grows grows in
      let bit : is_set r condition ≡ false = ap (λ n. not (nat_eq n 0)) (t.rests m r (grows_then b c m.signals u.grows later) o wide off) in
      v.shows m r x grows o less
      ∙ ap (λ (k : Bool). if nat_eq x number && k then r.signal source else next_number r before x) bit
      ∙ sym (unkept (nat_eq x number) (r.signal source) (next_number r before x));
}

-- ---- all of them

pub keeps_none : (a : List Signal) (registers : Registers) (at states : ℕ) (before : List ℕ) (values : List Given) → KeepsFirst a a registers at states before before values 0
keeps_none a registers at states before values = record {
  grows = grows_refl a;
  count = refl;
  shows = λ m r t s x g o is can less same. refl;
  rests = λ m r x grows o wide off less.
      refl;
}

pub keeps_more : (a b c : List Signal) (registers : Registers) (at states : ℕ) (before middle after : List ℕ) (values : List Given) (n : ℕ) (g : Given)
    → KeepsFirst a b registers at states before middle values n → slice_get values n ≡ Some g → KeepsOne b c registers at states middle after g
    → KeepsFirst a c registers at states before after values (n + 1)
keeps_more a b c registers at states before middle after values n g t listed u = record {
  grows = grows_then a b c t.grows u.grows;
  count = u.count ∙ t.count;
  shows = λ m r k s x grows o is can less same.
      let w = held_width (slice_get registers.kept x) in
      let test : ℕ → Bool = λ j. keeps_in (slice_get values j) k s x in
      let number : ℕ → ℕ = λ j. kept_number r w (slice_get values j) in
      let middle_less : x < length middle = subst (λ (z : ℕ). x < z) (sym t.count) less in
      u.shows m r k s x grows o is (can n g listed) middle_less (t.count ∙ same)
      ∙ ap (λ (z : ℕ). if keeps_in (Some g) k s x then kept_number r w (Some g) else z) (t.shows m r k s x (grows_then b c m.signals u.grows grows) o is can less same)
      ∙ ap (λ (z : Option Given). if keeps_in z k s x then kept_number r w z else last_of test number (next_number r before x) n) (sym listed)
      ∙ ap (last_of test number (next_number r before x)) (sym (add-one n));
  rests = λ m r x grows o wide off less.
      let middle_less : x < length middle = subst (λ (z : ℕ). x < z) (sym t.count) less in
      u.rests m r x grows o wide off middle_less ∙ t.rests m r x (grows_then b c m.signals u.grows grows) o wide off less;
}
