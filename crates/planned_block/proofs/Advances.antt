-- A module that advances turns, where it moves.
use Rattle.std.specs.Prelude.{◌⊎◌, ℤ, Bool, true, false, ◌&&◌, ◌||◌, not, if◌then◌else◌}
use Rattle.std.proofs.Common.{inr, ◌≡◌, ◌≢◌, ℕ, zero, suc, ◌+◌, ◌<◌, ◌≤◌, List, [], ◌++◌, refl, sym, ap, ◌∙◌, subst, ⊎_elim, inl, arith}
use Rattle.std.proofs.lemmas.Bool.{cases_eq, or_right, or_parts}
use Rattle.interleaving.specs.Memory.{Location, Memory, Access, Touches, AgreeOn}
use Rattle.interleaving.proofs.Accesses.{touches_left, touches_right, touches_either}
use Rattle.planned_block.specs.Block.{Block, operation_at, size, element}
use Rattle.planned_block.specs.Plan.{Plan}
use Rattle.planned_block.specs.Run.{bank_access}
use Rattle.planned_block.specs.Slot.{Slot, accesses_where, operand_now, bank_access_now, asks, granted_with, AllGranted, Works, Turns}
use Rattle.planned_block.specs.Advance.{accesses_of_cycle, all_below, any_below, requests, answered, is_granted, is_ready, is_answered, Advances}
use Rattle.planned_block.proofs.Bits.{both_true}

all_tells : (f : ℕ → Bool) (n k : ℕ) → all_below f n ≡ true → k < n → f k ≡ true
all_tells f zero k e lt = absurd (omega arith)
all_tells f (suc n) k e lt =
    let t = both_true (all_below f n) (f n) e in
    ⊎_elim (λ (s : k ≡ n). ap f s ∙ t.1) (λ (ne : k ≢ n). all_tells f n k t.0 (omega arith)) (cases_eq k n)

pub any_tells : (f : ℕ → Bool) (n : ℕ) → any_below f n ≡ true → (k : ℕ) × (k < n) × (f k ≡ true)
any_tells f zero e = absurd cc
any_tells f (suc n) e = by_last (f n) refl (any_below f n) refl (any_tells f n)
  where
    by_last : (c : Bool) → f n ≡ c → (d : Bool) → any_below f n ≡ d → (any_below f n ≡ true → (k : ℕ) × (k < n) × (f k ≡ true)) → (k : ℕ) × (k < suc n) × (f k ≡ true)
    by_last true q d r rest = (n, omega arith, q)
    by_last false q true r rest = let k = rest r in (k.0, (let lt = k.1 in omega arith), k.2)
    by_last false q false r rest = absurd (cc (e, r, q))

none_tells : (f : ℕ → Bool) (n k : ℕ) → any_below f n ≡ false → k < n → f k ≡ false
none_tells f zero k e lt = absurd (omega arith)
none_tells f (suc n) k e lt =
    ⊎_elim (λ (s : k ≡ n). ap f s ∙ (or_parts (any_below f n) (f n) e).1) (λ (ne : k ≢ n). none_tells f n k ((or_parts (any_below f n) (f n) e).0) (omega arith)) (cases_eq k n)

pub all_true : (f : ℕ → Bool) (n : ℕ) → ((k : ℕ) → k < n → f k ≡ true) → all_below f n ≡ true
all_true f zero each = refl
all_true f (suc n) each = ap (λ c. c && f n) (all_true f n (λ k lt. each k (omega arith))) ∙ each n (omega arith)

none_made : (f : ℕ → Bool) (made : ℕ → List (Access ℤ)) (r n : ℕ) → ((k : ℕ) → n ≤ k → k < n + r → f k ≡ false) → accesses_where f made r n ≡ []
none_made f made zero n none = refl
none_made f made (suc r) n none = ap (λ (c : Bool). (if c then made n else []) ++ accesses_where f made r (suc n)) (none n (omega arith) (omega arith))
    ∙ none_made f made r (suc n) (λ k le lt. none k (omega arith) (omega arith))

not_all : (f : ℕ → Bool) (n : ℕ) → all_below f n ≡ false → (k : ℕ) × (k < n) × (f k ≡ false)
not_all f zero e = absurd cc
not_all f (suc n) e = by_last (f n) refl (λ r. not_all f n r)
  where
    and_true : (a c : Bool) → (a && c) ≡ false → c ≡ true → a ≡ false
    and_true true true z t = z
    and_true true false z t = absurd cc
    and_true false c z t = refl

    by_last : (c : Bool) → f n ≡ c → (all_below f n ≡ false → (k : ℕ) × (k < n) × (f k ≡ false)) → (k : ℕ) × (k < suc n) × (f k ≡ false)
    by_last false q rest = (n, omega arith, q)
    by_last true q rest = let k = rest (and_true (all_below f n) (f n) e q) in (k.0, (let lt = k.1 in omega arith), k.2)

pub some_tells : (f : ℕ → Bool) (n k : ℕ) → k < n → f k ≡ true → any_below f n ≡ true
some_tells f zero k lt e = absurd (omega arith)
some_tells f (suc n) k lt e = ⊎_elim (λ (s : k ≡ n). or_right (any_below f n) (f n) (sym (ap f s) ∙ e)) (λ (ne : k ≢ n). ap (λ c. c || f n) (some_tells f n k (omega arith) e)) (cases_eq k n)

module _ (bank : Location → ℕ) (b : Block) (p : Plan) where
  -- a state is ready, or has a request that waits
  pub ready_or_asks : (q : Slot) (grant : ℕ → Bool) → (is_ready b p q grant ≡ true) ⊎ ((k : ℕ) × (k < size b) × (requests b p q k ≡ true))
  ready_or_asks q grant = by_ready (is_ready b p q grant) refl
    where
      parts : (x g t : Bool) → (not x || (g || t)) ≡ false → (x && not g) ≡ true
      parts true false t e = refl
      parts true true t e = absurd cc
      parts false g t e = absurd cc

      by_ready : (c : Bool) → is_ready b p q grant ≡ c → (is_ready b p q grant ≡ true) ⊎ ((k : ℕ) × (k < size b) × (requests b p q k ≡ true))
      by_ready true e = inl e
      by_ready false e =
          let k = not_all (λ j. not (asks b p q j) || granted_with b p q (answered b p q grant) j) (size b) e in
          inr (k.0, k.1, parts (asks b p q k.0) (q.granted k.0) (answered b p q grant k.0) k.2)

  -- an enabled module in a block: it makes a turn, or nothing changes and it makes no access
  abbrev Outcome : Slot → Memory ℤ → (ℕ → Bool) → (ℕ → ℤ) → Slot → Type 0
  Outcome q m grant wire r =
      (Turns bank b p q m (accesses_of_cycle b p q grant wire) r × ((is_ready b p q grant || is_answered b p q grant) ≡ true))
      ⊎ ((r ≡ q) × (accesses_of_cycle b p q grant wire ≡ []) × ((is_ready b p q grant || is_answered b p q grant) ≡ false))

  pub advances : (q : Slot) (m : Memory ℤ) (grant : ℕ → Bool) (wire : ℕ → ℤ) (r : Slot) → Advances bank b p q m grant wire r → q.state < p.states →
      ((k : ℕ) → grant k ≡ true → k < size b) → Outcome q m grant wire r
  advances q m grant wire r a inside within = by_bits (is_ready b p q grant) refl (is_answered b p q grant) refl
    where
      parts : (x g t : Bool) → ((x && not g) && t) ≡ true → (x ≡ true) × (g ≡ false) × (t ≡ true)
      parts true true t e = absurd cc
      parts true false true e = (refl, refl, refl)
      parts true false false e = absurd cc
      parts false g t e = absurd cc

      requested : (k : ℕ) → answered b p q grant k ≡ true → (k < size b) × (asks b p q k ≡ true) × (q.granted k ≡ false)
      requested k e = let t = parts (asks b p q k) (q.granted k) (grant k) e in (within k t.2, t.0, t.1)

      works : Works bank b p q m (accesses_of_cycle b p q grant wire)
      works = record { inside = inside; grants = answered b p q grant; wire = wire; words = a.words; requested = requested; wired = a.wired; read = a.read; accesses = refl }

      implied : (x y : Bool) → (not x || y) ≡ true → x ≡ true → y ≡ true
      implied true y e t = e
      implied false y e t = absurd cc

      all : is_ready b p q grant ≡ true → AllGranted b p q (answered b p q grant)
      all e k lt t = implied (asks b p q k) (granted_with b p q (answered b p q grant) k) (all_tells (is_granted b p q grant) (size b) k e lt) t

      by_bits : (c : Bool) → is_ready b p q grant ≡ c → (d : Bool) → is_answered b p q grant ≡ d → Outcome q m grant wire r
      by_bits true e d f =
          inl (⊎_elim (λ g. inl (works, inr (all e, g))) (λ l. inr (works, all e, l)) (a.leaves e), ap (λ c. c || is_answered b p q grant) e)
      by_bits false e true f = inl (inl (works, inl (a.waits e f)), ap (λ c. c || is_answered b p q grant) e ∙ f)
      by_bits false e false f =
          inr (
            a.rests e f,
            none_made (answered b p q grant) (bank_access_now b p q wire) (size b) 0 (λ k _ lt. none_tells (answered b p q grant) (size b) k f (omega arith)),
            ap (λ c. c || is_answered b p q grant) e ∙ f,
          )

-- who passes is among those
among : (f : ℕ → Bool) (made : ℕ → List (Access ℤ)) (count n k : ℕ) (l : Location) → n ≤ k → k < n + count → f k ≡ true → Touches l (made k) → Touches l (accesses_where f made count n)
among f made zero n k l le lt e t = absurd (omega arith)
among f made (suc count) n k l le lt e t =
    ⊎_elim
    (λ (same : n ≡ k).
    touches_left (if f n then made n else []) (accesses_where f made count (suc n)) l
    (subst (λ (c : Bool). Touches l (if c then made n else [])) (sym (ap f same ∙ e)) (subst (λ j. Touches l (made j)) (sym same) t)))
    (λ (ne : n ≢ k). touches_right (if f n then made n else []) (accesses_where f made count (suc n)) l (among f made count (suc n) k l (omega arith) (omega arith) e t))
    (cases_eq n k)

-- what those touch one of them touches
pub touched_by_one : (f : ℕ → Bool) (made : ℕ → List (Access ℤ)) (count n : ℕ) (l : Location) → Touches l (accesses_where f made count n) → (k : ℕ) × (f k ≡ true) × Touches l (made k)
touched_by_one f made zero n l t = absurd t
touched_by_one f made (suc count) n l t =
    ⊎_elim (λ u. here (f n) refl u) (λ u. touched_by_one f made count (suc n) l u) (touches_either (if f n then made n else []) (accesses_where f made count (suc n)) l t)
  where
    here : (c : Bool) → f n ≡ c → Touches l (if f n then made n else []) → (k : ℕ) × (f k ≡ true) × Touches l (made k)
    here true e u = (n, e, subst (λ (c : Bool). Touches l (if c then made n else [])) e u)
    here false e u = absurd (subst (λ (c : Bool). Touches l (if c then made n else [])) e u)

module _ (bank : Location → ℕ) (b : Block) (p : Plan) where
  works_frame : (q : Slot) (m n : Memory ℤ) (es : List (Access ℤ)) → Works bank b p q m es → AgreeOn es m n → Works bank b p q n es
  works_frame q m n es t agree = record {
    inside = t.inside;
    grants = t.grants;
    wire = t.wire;
    words = t.words;
    requested = t.requested;
    wired = t.wired;
    read = record {
      read = λ k x lt g e.
          let place = element x (operand_now b p q t.wire (operation_at b k).left) in
          let mine : Touches place (bank_access_now b p q t.wire k) =
          subst (λ kind. Touches place (bank_access kind (operand_now b p q t.wire (operation_at b k).left) (operand_now b p q t.wire (operation_at b k).right))) (sym e) (inl refl) in
          t.read.read k x lt g e
          ∙ agree place (subst (Touches place) (sym t.accesses) (among t.grants (bank_access_now b p q t.wire) (size b) 0 k place (omega arith) (omega arith) g mine));
      kept = t.read.kept;
    };
    accesses = t.accesses;
  }

  -- a turn depends on what its accesses touch alone
  pub turns_frame : (q : Slot) (m n : Memory ℤ) (es : List (Access ℤ)) (r : Slot) → Turns bank b p q m es r → AgreeOn es m n → Turns bank b p q n es r
  unfolding works_frame
  turns_frame q m n es r t agree =
      ⊎_elim
      (λ pass. inl (works_frame q m n es pass.0 agree, pass.1))
      (λ last. inr (works_frame q m n es last.0 agree, last.1, last.2))
      t

  -- each turn changes the slot
  pub turns_change : (q : Slot) (m : Memory ℤ) (es : List (Access ℤ)) (r : Slot) → Turns bank b p q m es r → r ≢ q
  turns_change q m es r t same = flip q.beat (sym beat ∙ ap (λ (z : Slot). z.beat) same)
    where
      flip : (c : Bool) → not c ≡ c → ⊥
      flip true e = cc
      flip false e = cc

      beat : r.beat ≡ not q.beat
      beat =
          ⊎_elim
          (λ pass. ⊎_elim (λ s. ap (λ (z : Slot). z.beat) s.slot) (λ g. ap (λ (z : Slot). z.beat) g.1.slot) pass.1)
          (λ last. last.2.beat)
          t
