-- A planned block in flight, and one cycle of it.
use Rattle.std.specs.Prelude.{◌⊎◌, nat_eq, nat_lt, ◌&&◌, ℤ, Bool, true, false, ◌||◌, if◌then◌else◌}
use Rattle.std.proofs.Common.{inr, ◌≡◌, ◌≢◌, ℕ, zero, suc, ◌+◌, ◌<◌, ◌≤◌, List, [], ◌∷◌, ◌++◌, refl, sym, ap, ◌∙◌, subst, ⊎_elim, inl, arith}
use Rattle.std.proofs.Math.Path.{fun_ext}
use Rattle.std.proofs.lemmas.Bool.Decides.{nat_tests}
use mathlib.Core.Bool.{or-false}
use Rattle.std.proofs.lemmas.Bool.{cases_eq}
use Rattle.interleaving.specs.Memory.{Location, Memory, Access, memory_after, Touches, AreApart, AgreeOn}
use Rattle.interleaving.specs.AnyOrder.{Event, ReadEvent, accesses_in, ReadsRight, Remains}
use Rattle.interleaving.proofs.Accesses.{memory_after-append}
use Rattle.interleaving.proofs.AnyOrder.{accesses_in-append, remains_none}
use Rattle.planned_block.specs.Block.{Operand, Kind, Simple, Multiply, Divide, BankRead, BankWrite, ArrayRead, ArrayWrite, Final, Next, Jump, Branch}
use Rattle.planned_block.specs.Block.{Block, operation_at, size, operand_value, UsesIn, IsUsedAtEnd, finished, leads_to, is_zero, element, IsAmong}
use Rattle.planned_block.specs.Plan.{Plan, last_state, further_states, KeepsOrders, target_of, OfGlobal, gap_after}
use Rattle.planned_block.specs.Run.{bank_events, array_events, bank_events_at, array_events_at, events_from}
use Rattle.planned_block.specs.Slot.{AreBanks, Slot, is_request, accesses_where, operand_now, starts_now, asks, granted_with, was_granted, bank_access_now}
use Rattle.planned_block.specs.Slot.{array_access_now, arrays_next, stayed, gone_on, AllGranted, RegistersAfter, Leaves, Works}
use Rattle.planned_block.specs.InFlight.{events_but, started_before, InFlight}
use Rattle.planned_block.proofs.Bits.{both_true, is_same, same_is, less_is, not_less_is, not_before, less_or_not, bits_stay, bits_go}
use Rattle.planned_block.proofs.Sweep.{events_where, IsOne, undone_same, none_left, left_within, sweep, sweep_right}
use Rattle.planned_block.proofs.Touches.{bank_one, array_one, bank_access-events, array_access-events, bank_apart, array_apart}
use Rattle.planned_block.proofs.Wires.{Holds, wire_right, left_right, right_right, final_right, operand_right}

-- accesses that are those of some events
pub accesses_where-events : (f : ℕ → Bool) (made : ℕ → List (Access ℤ)) (ev : ℕ → List (Event ℤ)) (count n : ℕ) →
    ((k : ℕ) → n ≤ k → k < n + count → f k ≡ true → made k ≡ accesses_in (ev k)) → accesses_where f made count n ≡ accesses_in (events_where ev f count n)
accesses_where-events f made ev zero n each = refl
accesses_where-events f made ev (suc count) n each =
    here (f n) refl (accesses_where f made count (suc n)) (events_where ev f count (suc n))
    (accesses_where-events f made ev count (suc n) (λ k le lt t. each k (omega arith) (omega arith) t))
  where
    here : (t : Bool) → f n ≡ t → (acs : List (Access ℤ)) (es : List (Event ℤ)) → acs ≡ accesses_in es → (if f n then made n else []) ++ acs ≡ accesses_in ((if f n then ev n else []) ++ es)
    here true e acs es rest =
        ap (λ (t : Bool). (if t then made n else []) ++ acs) e ∙ ap (λ l. l ++ acs) (each n (omega arith) (omega arith) e) ∙ ap (λ l. accesses_in (ev n) ++ l) rest
        ∙ sym (accesses_in-append (ev n) es) ∙ ap (λ (t : Bool). accesses_in ((if t then ev n else []) ++ es)) (sym e)
    here false e acs es rest =
        ap (λ (t : Bool). (if t then made n else []) ++ acs) e ∙ rest ∙ ap (λ (t : Bool). accesses_in ((if t then ev n else []) ++ es)) (sym e)

pub finished_same : (a c : Operand → ℤ) (fs : List Final) (u v : ℕ → ℤ) → ((x : ℕ) → u x ≡ v x) → ((f : Final) → IsAmong fs f → a f.value ≡ c f.value) →
    (x : ℕ) → finished a fs u x ≡ finished c fs v x
finished_same a c [] u v same each x = same x
finished_same a c (f ∷ fs) u v same each x =
    finished_same a c fs (λ y. if nat_eq y f.variable then a f.value else u y) (λ y. if nat_eq y f.variable then c f.value else v y)
    (λ y. ap (λ z. if nat_eq y f.variable then z else u y) (each f (inl refl)) ∙ ap (λ z. if nat_eq y f.variable then c f.value else z) (same y))
    (λ g t. each g (inr t)) x

pub leads_same : (a c : Operand → ℤ) (n : Next) → ((o : Operand) (l k : ℕ) → n ≡ Branch o l k → a o ≡ c o) → leads_to a n ≡ leads_to c n
leads_same a c (Jump l) each = refl
leads_same a c (Branch o l k) each = ap (λ v. if is_zero v then k else l) (each o l k refl)

some_gap : (v : Bool) → 0 < gap_after v
some_gap true = omega arith
some_gap false = omega arith

no_request : (kind : Kind) (l r v : ℤ) → is_request kind ≡ false → bank_events kind l r v ≡ []
no_request (Simple f) l r v e = refl
no_request (Multiply f) l r v e = refl
no_request (Divide f) l r v e = refl
no_request (BankRead x) l r v e = absurd cc
no_request (BankWrite x) l r v e = absurd cc
no_request (ArrayRead x) l r v e = refl
no_request (ArrayWrite x) l r v e = refl

module _ (bank : Location → ℕ) (banks : AreBanks bank) (b : Block) (p : Plan) (keeps : KeepsOrders b p) where
  -- operations that are not in order of their starts touch nothing in common that matters
  bank_clear : (variables values : ℕ → ℤ) (j k : ℕ) → j < k → k < size b → p.start k ≤ p.start j →
      AreApart (accesses_in (bank_events_at b variables values j)) (accesses_in (bank_events_at b variables values k))
  bank_clear variables values j k lt below le =
      bank_apart (operation_at b j).kind (operation_at b k).kind _ _ _ _ _ _
      (λ x v w tj tk. let order = keeps.banks j k x v w lt below tj tk in let one = some_gap v in omega arith)

  array_clear : (variables values : ℕ → ℤ) (j k : ℕ) → j < k → k < size b → p.start k ≤ p.start j →
      AreApart (accesses_in (array_events_at b variables values j)) (accesses_in (array_events_at b variables values k))
  array_clear variables values j k lt below le =
      array_apart (operation_at b j).kind (operation_at b k).kind _ _ _ _ _ _
      (λ x v w tj tk some. let order = keeps.arrays j k x v w lt below tj tk some in omega arith)

  bank_ones : (variables values : ℕ → ℤ) (k : ℕ) → IsOne (bank_events_at b variables values k)
  bank_ones variables values k = bank_one (operation_at b k).kind _ _ _

  array_ones : (variables values : ℕ → ℤ) (k : ℕ) → IsOne (array_events_at b variables values k)
  array_ones variables values k = array_one (operation_at b k).kind _ _ _

  module _ (m : Memory ℤ) (all : List (Access ℤ)) (first : Memory ℤ) (values : ℕ → ℤ) (made stored : List (Access ℤ)) (q : Slot) (f : InFlight bank b p m all first values made stored q) where
    abbrev bank_ev : ℕ → List (Event ℤ)
    bank_ev = bank_events_at b q.variables values

    abbrev array_ev : ℕ → List (Event ℤ)
    array_ev = array_events_at b q.variables values

    -- the operands in the run
    abbrev left_of : ℕ → ℤ
    left_of k = operand_value q.variables values (operation_at b k).left

    abbrev right_of : ℕ → ℤ
    right_of k = operand_value q.variables values (operation_at b k).right

    -- the array accesses of this state, all at once
    now_fresh : (k : ℕ) → starts_now b p q k ≡ true → started_before p q.state k ≡ false
    now_fresh k t = let e = is_same (p.start k) q.state t in not_less_is (p.start k) q.state (omega arith)

    now_clear : (j k : ℕ) → j < k → k < size b → starts_now b p q k ≡ true → started_before p q.state j ≡ false → AreApart (accesses_in (array_ev j)) (accesses_in (array_ev k))
    now_clear j k lt below t w =
        let e = is_same (p.start k) q.state t in
        let le : q.state ≤ p.start j = not_before (p.start j) q.state false (or-false (started_before p q.state j) ∙ w) in
        array_clear q.variables values j k lt below (omega arith)

    array_read : (k x : ℕ) → k < size b → (operation_at b k).kind ≡ ArrayRead x → p.start k ≡ q.state → q.arrays (element x (left_of k)) ≡ values k
    array_read k x lt e s =
        let right = sweep_right array_ev first (accesses_in (events_from array_ev (size b) 0)) (size b) (array_ones q.variables values) (started_before p q.state) (starts_now b p q)
        now_fresh now_clear stored k f.array lt (same_is (p.start k) q.state s) in
        let got : ReadsRight (memory_after stored first) (ReadEvent (element x (left_of k)) (values k) ∷ []) =
        subst (λ kind. ReadsRight (memory_after stored first) (array_events kind (left_of k) (right_of k) (values k))) e right in
        f.arrays (element x (left_of k)) ∙ got.0

    word_there : (k x : ℕ) → k < size b → (operation_at b k).kind ≡ BankRead x → last_state b p k ≡ q.state → q.words (bank (element x (left_of k))) ≡ values k
    word_there k x lt e s =
        let at_last : p.start k + 1 ≡ q.state = sym (ap (λ kind. p.start k + further_states kind) e) ∙ s in
        f.word_taken k x lt e (omega arith)

    holds : Holds bank b p keeps values q
    holds = record { computed = f.computed; registers = f.registers; reads = array_read; words = word_there }

    module _ (now : Memory ℤ) (es : List (Access ℤ)) (t : Works bank b p q now es) (sees : AgreeOn all (memory_after made m) now) where
      left_now : (k : ℕ) → k < size b → p.start k ≡ q.state → operand_now b p q t.wire (operation_at b k).left ≡ left_of k
      left_now k lt e = left_right bank b p keeps values q holds t.wire t.wired k lt (omega arith) (omega arith)

      right_now : (k : ℕ) → k < size b → p.start k ≡ q.state → operand_now b p q t.wire (operation_at b k).right ≡ right_of k
      right_now k lt e = right_right bank b p keeps values q holds t.wire t.wired k lt (omega arith) (omega arith)

      -- the arrays after this state
      abbrev pub stored_next : List (Access ℤ)
      stored_next = stored ++ accesses_in (events_where array_ev (starts_now b p q) (size b) 0)

      arrays_right : (l : Location) → arrays_next b p q t.wire l ≡ memory_after stored_next first l
      arrays_right l =
          ap (λ a. memory_after a q.arrays l) (accesses_where-events (starts_now b p q) (array_access_now b p q t.wire) array_ev (size b) 0
          (λ k _ lt c. let e = is_same (p.start k) q.state c in
          array_access-events (operation_at b k).kind _ _ (values k)
          ∙ ap (λ y. accesses_in (array_events (operation_at b k).kind y (operand_now b p q t.wire (operation_at b k).right) (values k))) (left_now k (omega arith) e)
          ∙ ap (λ y. accesses_in (array_events (operation_at b k).kind (left_of k) y (values k))) (right_now k (omega arith) e)))
          ∙ ap (λ (w : Memory ℤ). memory_after (accesses_in (events_where array_ev (starts_now b p q) (size b) 0)) w l) (fun_ext f.arrays)
          ∙ sym (ap (λ (w : Memory ℤ). w l) (memory_after-append stored (accesses_in (events_where array_ev (starts_now b p q) (size b) 0)) first))

      passes_state : (a s : ℕ) → (nat_lt a s || nat_eq a s) ≡ nat_lt a (suc s)
      passes_state a s = grind (arith, nat_tests)

      array_next : Remains first (accesses_in (events_from array_ev (size b) 0)) stored_next (events_but array_ev (started_before p (suc q.state)) (size b) 0)
      array_next =
          subst (Remains first (accesses_in (events_from array_ev (size b) 0)) stored_next)
          (undone_same array_ev (λ k. started_before p q.state k || starts_now b p q k) (started_before p (suc q.state)) (size b) 0 (λ k _ _. inr (passes_state (p.start k) q.state)))
          (sweep array_ev first (accesses_in (events_from array_ev (size b) 0)) (size b) (array_ones q.variables values) (started_before p q.state) (starts_now b p q)
          now_fresh now_clear stored f.array)

      -- the requests granted in this cycle
      state_of : (k : ℕ) → t.grants k ≡ true → p.start k ≡ q.state
      state_of k g = is_same (p.start k) q.state (both_true (is_request (operation_at b k).kind) (starts_now b p q k) (t.requested k g).1).1

      grant_fresh : (k : ℕ) → t.grants k ≡ true → was_granted b p q k ≡ false
      grant_fresh k g =
          let e = state_of k g in
          ap (λ c. c || (starts_now b p q k && q.granted k)) (not_less_is (p.start k) q.state (omega arith))
          ∙ ap (λ c. c && q.granted k) (same_is (p.start k) q.state e) ∙ (t.requested k g).2

      grant_clear : (j k : ℕ) → j < k → k < size b → t.grants k ≡ true → was_granted b p q j ≡ false → AreApart (accesses_in (bank_ev j)) (accesses_in (bank_ev k))
      grant_clear j k lt below g w =
          let e = state_of k g in
          let le = not_before (p.start j) q.state _ w in
          bank_clear q.variables values j k lt below (omega arith)

      -- the accesses of this cycle are the run's
      pub accesses_right : es ≡ accesses_in (events_where bank_ev t.grants (size b) 0)
      accesses_right =
          t.accesses ∙ accesses_where-events t.grants (bank_access_now b p q t.wire) bank_ev (size b) 0
          (λ k _ lt g. let e = state_of k g in
          bank_access-events (operation_at b k).kind _ _ (values k)
          ∙ ap (λ y. accesses_in (bank_events (operation_at b k).kind y (operand_now b p q t.wire (operation_at b k).right) (values k))) (left_now k (omega arith) e)
          ∙ ap (λ y. accesses_in (bank_events (operation_at b k).kind (left_of k) y (values k))) (right_now k (omega arith) e))

      banks_next : Remains m all (made ++ es) (events_but bank_ev (λ k. was_granted b p q k || t.grants k) (size b) 0)
      banks_next =
          subst (λ l. Remains m all (made ++ l) (events_but bank_ev (λ k. was_granted b p q k || t.grants k) (size b) 0)) (sym accesses_right)
          (sweep bank_ev m all (size b) (bank_ones q.variables values) (was_granted b p q) t.grants grant_fresh grant_clear made f.banks)

      -- the word read is the run's
      word_read : (k x : ℕ) → k < size b → (operation_at b k).kind ≡ BankRead x → t.grants k ≡ true → t.words (bank (element x (left_of k))) ≡ values k
      word_read k x lt e g =
          let right = sweep_right bank_ev m all (size b) (bank_ones q.variables values) (was_granted b p q) t.grants grant_fresh grant_clear made k f.banks lt g in
          let place = element x (left_of k) in
          let got : ReadsRight (memory_after made m) (ReadEvent place (values k) ∷ []) =
          subst (λ kind. ReadsRight (memory_after made m) (bank_events kind (left_of k) (right_of k) (values k))) e right in
          let touches : Touches place (accesses_in (bank_ev k)) =
          subst (λ kind. Touches place (accesses_in (bank_events kind (left_of k) (right_of k) (values k)))) (sym e) (inl refl) in
          let same = left_now k lt (state_of k g) in
          ap (λ y. t.words (bank (element x y))) (sym same) ∙ t.read.read k x lt g e ∙ ap (λ y. now (element x y)) same
          ∙ sym (sees place (left_within bank_ev m all (size b) (bank_ones q.variables values) made (was_granted b p q) k place f.banks lt (grant_fresh k g) touches)) ∙ got.0

      -- a word of a read in this state or the one before is kept from other reads, since these are of other globals
      word_kept : (k x : ℕ) → k < size b → (operation_at b k).kind ≡ BankRead x → (p.start k ≡ q.state) ⊎ (suc (p.start k) ≡ q.state) → t.grants k ≡ false →
          t.words (bank (element x (left_of k))) ≡ q.words (bank (element x (left_of k)))
      word_kept k x lt e s off =
          t.read.kept (bank (element x (left_of k))) (λ j y below g e' same_bank.
          let sj = state_of j g in
          let same_global : y ≡ x = banks (element y (operand_now b p q t.wire (operation_at b j).left)) (element x (left_of k)) same_bank in
          let tk : target_of (operation_at b k).kind ≡ OfGlobal x false = ap target_of e in
          let tj : target_of (operation_at b j).kind ≡ OfGlobal x false = subst (λ z. target_of (operation_at b j).kind ≡ OfGlobal z false) same_global (ap target_of e') in
          ⊎_elim
          (λ (same : j ≡ k). absurd (cc (off, sym (ap t.grants same) ∙ g)))
          (λ (ne : j ≢ k).
          ⊎_elim
          (λ (less : j < k). let o = keeps.banks j k x false false less lt tj tk in ⊎_elim (λ z. absurd (omega arith)) (λ z. absurd (omega arith)) s)
          (λ (le : k ≤ j). let less : k < j = omega arith in let o = keeps.banks k j x false false less below tk tj in ⊎_elim (λ z. absurd (omega arith)) (λ z. absurd (omega arith)) s)
          (less_or_not j k))
          (cases_eq j k))

      not_granted_before : (k : ℕ) → suc (p.start k) ≡ q.state → (g : Bool) → t.grants k ≡ g → t.grants k ≡ false
      not_granted_before k s true g = let e = state_of k g in absurd (omega arith)
      not_granted_before k s false g = g

      word_still : (k x : ℕ) → k < size b → (operation_at b k).kind ≡ BankRead x → suc (p.start k) ≡ q.state → t.words (bank (element x (left_of k))) ≡ values k
      word_still k x lt e s = word_kept k x lt e (inr s) (not_granted_before k s (t.grants k) refl) ∙ f.word_taken k x lt e s

      word_now : (k x : ℕ) → k < size b → (operation_at b k).kind ≡ BankRead x → p.start k ≡ q.state → granted_with b p q t.grants k ≡ true →
          t.words (bank (element x (left_of k))) ≡ values k
      word_now k x lt e s c = by_grant (t.grants k) refl
        where
          only : (a d : Bool) → d ≡ false → (a || d) ≡ true → a ≡ true
          only true d z y = refl
          only false d z y = absurd cc

          by_grant : (g : Bool) → t.grants k ≡ g → t.words (bank (element x (left_of k))) ≡ values k
          by_grant true g = word_read k x lt e g
          by_grant false g = word_kept k x lt e (inl s) g ∙ f.word_granted k x lt e s (only (q.granted k) (t.grants k) g c)

      -- the state is kept
      pub stays : InFlight bank b p m all first values (made ++ es) stored (stayed b p q t.grants t.words)
      stays = record {
        inside = f.inside;
        computed = f.computed;
        banks = subst (Remains m all (made ++ es))
            (undone_same bank_ev (λ k. was_granted b p q k || t.grants k) _ (size b) 0
            (λ k _ _. inr (bits_stay (nat_lt (p.start k) q.state) (starts_now b p q k) (q.granted k) (t.grants k) (λ g. same_is (p.start k) q.state (state_of k g)))))
            banks_next;
        array = f.array;
        arrays = f.arrays;
        registers = f.registers;
        word_granted = λ k x lt e s c. word_now k x lt e s c;
        word_taken = λ k x lt e s. word_still k x lt e s;
      }

      -- what stands when the block is left
      pub record IsDone (r : Slot) : Type 0 where
        pub none_left_over : Remains m all (made ++ es) []
        pub arrays : (l : Location) → r.arrays l ≡ memory_after (accesses_in (events_from array_ev (size b) 0)) first l
        pub variables : (x : ℕ) → r.variables x ≡ finished (operand_value q.variables values) b.finals q.variables x
        pub stage : r.stage ≡ leads_to (operand_value q.variables values) b.next

      module _ (granted : AllGranted b p q t.grants) where
        bits : (k : ℕ) → k < size b → (request : Bool) → is_request (operation_at b k).kind ≡ request →
            (bank_ev k ≡ []) ⊎ ((was_granted b p q k || t.grants k) ≡ (nat_lt (p.start k) (suc q.state) || (nat_eq (p.start k) (suc q.state) && false)))
        bits k lt false e = inl (no_request (operation_at b k).kind _ _ _ e)
        bits k lt true e =
            inr (bits_go (p.start k) q.state (q.granted k) (t.grants k)
            (λ s. granted k lt (ap (λ c. c && starts_now b p q k) e ∙ same_is (p.start k) q.state s)) (λ g. state_of k g))

        asks_read : (k x : ℕ) → (operation_at b k).kind ≡ BankRead x → p.start k ≡ q.state → asks b p q k ≡ true
        asks_read k x e s = ap (λ kind. is_request kind && starts_now b p q k) e ∙ same_is (p.start k) q.state s

        -- the state is left
        pub goes_on : (registers : ℕ → ℤ) → RegistersAfter b p q t.wire registers → suc q.state < p.states →
            InFlight bank b p m all first values (made ++ es) stored_next (gone_on b p q t.wire t.words registers)
        goes_on registers after within = record {
          inside = within;
          computed = f.computed;
          banks = subst (Remains m all (made ++ es))
              (undone_same bank_ev (λ k. was_granted b p q k || t.grants k) _ (size b) 0 (λ k _ lt. bits k (omega arith) (is_request (operation_at b k).kind) refl))
              banks_next;
          array = array_next;
          arrays = arrays_right;
          registers = λ k r lt less used e.
              ⊎_elim
              (λ (s : last_state b p k ≡ q.state). after.written k r lt s e ∙ wire_right bank b p keeps values q holds t.wire t.wired k lt s)
              (λ (ne : last_state b p k ≢ q.state).
              after.kept r (λ j below s e'.
              let kept = keeps.short j r below e' in
              ⊎_elim
              (λ (same : j ≡ k). ne (sym (ap (λ i. last_state b p i) same) ∙ s))
              (λ (other : j ≢ k).
              ⊎_elim
              (λ (z : p.until j ≤ last_state b p k). absurd (omega arith))
              (λ (z : p.until k ≤ last_state b p j). absurd (omega arith))
              (keeps.apart j k r below lt other e' e))
              (cases_eq j k))
              ∙ f.registers k r lt (omega arith) (omega arith) e)
              (cases_eq (last_state b p k) q.state);
          word_granted = λ k x lt e s c. absurd cc;
          word_taken = λ k x lt e s. word_now k x lt e (omega arith) (granted k lt (asks_read k x e (omega arith)));
        }

        module _ (at_end : suc q.state ≡ p.states) where
          over : (k : ℕ) → k < size b → p.start k < suc q.state
          over k lt = let e = keeps.ends k lt in omega arith

          -- the block is over: all accesses are made
          banks_over : Remains m all (made ++ es) []
          banks_over =
              subst (Remains m all (made ++ es))
              (undone_same bank_ev (λ k. was_granted b p q k || t.grants k) _ (size b) 0 (λ k _ lt. bits k (omega arith) (is_request (operation_at b k).kind) refl)
              ∙ none_left bank_ev _ (size b) 0 (λ k _ lt. inr (ap (λ c. c || (nat_eq (p.start k) (suc q.state) && false)) (less_is (p.start k) (suc q.state) (over k (omega arith))))))
              banks_next

          arrays_over : (l : Location) → arrays_next b p q t.wire l ≡ memory_after (accesses_in (events_from array_ev (size b) 0)) first l
          arrays_over l =
              arrays_right l
              ∙ remains_none first (accesses_in (events_from array_ev (size b) 0)) stored_next
              (subst (Remains first (accesses_in (events_from array_ev (size b) 0)) stored_next)
              (none_left array_ev (started_before p (suc q.state)) (size b) 0 (λ k _ lt. inr (less_is (p.start k) (suc q.state) (over k (omega arith))))) array_next) l

          final_operand : (o : Operand) → ((j : ℕ) → UsesIn o j → IsUsedAtEnd b j) → operand_now b p q t.wire o ≡ operand_value q.variables values o
          final_operand o each =
              operand_right bank b p keeps values q holds t.wire o (λ j e. final_right bank b p keeps values q holds t.wire t.wired at_end j (each j e))

        pub leaves : (r : Slot) → Leaves b p q t.wire r → IsDone r
        leaves r e = record {
          none_left_over = banks_over e.at_end;
          arrays = λ l. e.arrays l ∙ arrays_over e.at_end l;
          variables = λ x. e.variables x ∙ finished_same (operand_now b p q t.wire) (operand_value q.variables values) b.finals q.variables q.variables (λ y. refl)
              (λ g among. final_operand e.at_end g.value (λ j u. inl (g, among, u))) x;
          stage = e.stage ∙ leads_same (operand_now b p q t.wire) (operand_value q.variables values) b.next
              (λ o l k z. final_operand e.at_end o (λ j u. inr (o, l, k, z, u)));
        }
