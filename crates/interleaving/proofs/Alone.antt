-- The runs of one thread alone.
use Rattle.std.proofs.Common.{◌≡◌, ◌≢◌, ℕ, List, [], ◌∷◌, ◌++◌, Some, length, replicate, refl, sym, ap, ◌∙◌, subst, append-nil}
use Rattle.interleaving.specs.Memory.{Location, Memory, Access, memory_after, AreApart, AgreeOn}
use Rattle.interleaving.specs.Source.{Outcome, StepsTo, Blocked, Undefined, Source, Move, accesses_of, end_of, RunsAlone}
use Rattle.interleaving.specs.Interleaving.{if_steps, after_from, Reached, Reachable}
use Rattle.interleaving.specs.Threaded.{Moved, IsThreaded}
use Rattle.interleaving.proofs.Accesses.{memory_after-agree, memory_after-append, touches_left, touches_right}
use Rattle.interleaving.proofs.Apart.{memory_after-apart}

module _ {Value Local State : Type 0} (P : Source Value Local State) where
  pub after_from-append : (s t : State) (L M : List ℕ) → after_from P s L ≡ Some t → after_from P s (L ++ M) ≡ after_from P t M
  after_from-append s t [] M e =
      let same : s ≡ t = cc in
      ap (λ (u : State). after_from P u M) same
  after_from-append s t (i ∷ L) M e = go (P.step s i) (λ u. after_from-append u t L M) e
    where
      go : (o : Outcome State) → ((u : State) → after_from P u L ≡ Some t → after_from P u (L ++ M) ≡ after_from P t M) →
          if_steps o (λ u. after_from P u L) ≡ Some t → if_steps o (λ u. after_from P u (L ++ M)) ≡ after_from P t M
      go (StepsTo u) ih e = ih u e
      go Blocked ih e = absurd cc
      go Undefined ih e = absurd cc

  -- t is what a run of thread i alone leaves of s
  pub record Ran (s : State) (i : ℕ) (hs : List (Move Value Local)) (t : State) : Type 0 where
    pub leads : after_from P s (replicate (length hs) i) ≡ Some t
    pub own : P.local t i ≡ end_of (P.local s i) hs
    pub others : (j : ℕ) → j ≢ i → P.local t j ≡ P.local s j
    pub memory : (p : Location) → P.memory t p ≡ memory_after (accesses_of hs) (P.memory s) p

module _ {Value Local State : Type 0} (P : Source Value Local State) (law : IsThreaded P) where
  pub runs_alone_frame : (x : Local) (hs : List (Move Value Local)) (m n : Memory Value) → RunsAlone P x m hs → AgreeOn (accesses_of hs) m n → RunsAlone P x n hs
  runs_alone_frame x [] m n r a = tt
  runs_alone_frame x (h ∷ hs) m n r a = (
    law.move_frame x h.to h.accesses m n r.0 (λ p t. a p (touches_left h.accesses (accesses_of hs) p t)),
    runs_alone_frame h.to hs (memory_after h.accesses m) (memory_after h.accesses n) r.1 (λ p t. memory_after-agree h.accesses m n p (a p (touches_right h.accesses (accesses_of hs) p t))),
  )

  -- a run goes on from where a move led
  unfoldable pub after_move : (s t : State) (i : ℕ) (h : Move Value Local) (hs : List (Move Value Local)) → Moved P s i h.to h.accesses t →
      RunsAlone P h.to (memory_after h.accesses (P.memory s)) hs → RunsAlone P (P.local t i) (P.memory t) hs
  after_move s t i h hs moved r =
      subst (λ x. RunsAlone P x (P.memory t) hs) (sym moved.own) (runs_alone_frame h.to hs (memory_after h.accesses (P.memory s)) (P.memory t) r (λ p _. sym (moved.memory p)))

  -- where a move leads is reached
  unfoldable pub reach_move : (s t : State) (i : ℕ) (h : Move Value Local) → Reachable P s → Moved P s i h.to h.accesses t → Reachable P t
  reach_move s t i h at m = (at.0 ++ i ∷ [], after_from-append P P.start s at.0 (i ∷ []) at.1 ∙ subst (λ o. if_steps o (λ u. after_from P u []) ≡ Some t) (sym m.steps) refl)

  -- no move leaves all as it was
  pub ran_none : (s : State) (i : ℕ) → Ran P s i [] s
  ran_none s i = record { leads = refl; own = refl; others = λ j ne. refl; memory = λ p. refl }

  -- one move, and the run that follows it
  pub ran_more : (s m t : State) (i : ℕ) (h : Move Value Local) (hs : List (Move Value Local)) → Moved P s i h.to h.accesses m → Ran P m i hs t → Ran P s i (h ∷ hs) t
  ran_more s m t i h hs moved rest = record {
    leads = subst (λ o. if_steps o (λ u. after_from P u (replicate (length hs) i)) ≡ Some t) (sym moved.steps) rest.leads;
    own = rest.own ∙ ap (λ x. end_of x hs) moved.own;
    others = λ j ne. rest.others j ne ∙ moved.others j ne;
    memory = λ p. rest.memory p ∙ memory_after-agree (accesses_of hs) (P.memory m) (memory_after h.accesses (P.memory s)) p (moved.memory p)
        ∙ sym (ap (λ (f : Memory Value). f p) (memory_after-append h.accesses (accesses_of hs) (P.memory s)));
  }

  -- a thread runs alone from a state as it does by itself
  unfoldable pub run : (s : State) (i : ℕ) (hs : List (Move Value Local)) → Reachable P s → RunsAlone P (P.local s i) (P.memory s) hs → (t : State) × Ran P s i hs t
  run s i [] at r = (s, ran_none s i)
  run s i (h ∷ hs) at r =
      let m = law.moves s i h.to h.accesses at r.0 in
      let rest = run m.0 i hs (reach_move s m.0 i h at m.1) (after_move s m.0 i h hs m.1 r.1) in
      (rest.0, ran_more s m.0 rest.0 i h hs m.1 rest.1)

  -- the run of another thread is what it was
  pub others_run : (s t : State) (i j : ℕ) (hs fs : List (Move Value Local)) → j ≢ i → Ran P s i hs t → AreApart (accesses_of hs) (accesses_of fs) →
      RunsAlone P (P.local s j) (P.memory s) fs → RunsAlone P (P.local t j) (P.memory t) fs
  others_run s t i j hs fs ne ran apart r =
      subst (λ x. RunsAlone P x (P.memory t) fs) (sym (ran.others j ne)) (runs_alone_frame (P.local s j) fs (P.memory s) (P.memory t) r
      (λ p u. memory_after-apart (accesses_of hs) (accesses_of fs) (P.memory s) apart p u ∙ sym (ran.memory p)))

  -- one move is a run
  pub one_move : (s t : State) (i : ℕ) (h : Move Value Local) → Moved P s i h.to h.accesses t → Ran P s i (h ∷ []) t
  one_move s t i h m = record {
    leads = subst (λ o. if_steps o (λ u. after_from P u []) ≡ Some t) (sym m.steps) refl;
    own = m.own;
    others = m.others;
    memory = λ p. m.memory p ∙ sym (ap (λ (es : List (Access Value)). memory_after es (P.memory s) p) (append-nil h.accesses));
  }

  -- a reached state, after a run
  pub reached_on : (L : List ℕ) (s t : State) (i : ℕ) (hs : List (Move Value Local)) → Reached P L s → Ran P s i hs t → Reached P (L ++ replicate (length hs) i) t
  reached_on L s t i hs at ran = after_from-append P P.start s L (replicate (length hs) i) at ∙ ran.leads
