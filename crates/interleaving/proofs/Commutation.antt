-- Runs of two threads that are apart may be merged in any way.
use Rattle.std.proofs.Common.{◌≡◌, ◌≢◌, ℕ, List, [], ◌∷◌, ◌++◌, Some, append-nil, refl, sym, ap, ◌∙◌, subst}
use Rattle.std.specs.Prelude.{Bool, true, false}
use Rattle.interleaving.specs.Memory.{Memory, Access, memory_after, AreApart}
use Rattle.interleaving.specs.Source.{Source, Move, accesses_of, end_of, RunsAlone}
use Rattle.interleaving.specs.Interleaving.{if_steps, after_from, Reachable}
use Rattle.interleaving.specs.Threaded.{IsThreaded}
use Rattle.interleaving.specs.Commutation.{Merges, threads_of, BothRan, RunsCommute}
use Rattle.interleaving.proofs.Accesses.{memory_after-agree, memory_after-append, touches_left, touches_right, writes_left, writes_right}
use Rattle.interleaving.proofs.Apart.{apart_swap, memory_after-commute}
use Rattle.interleaving.proofs.Alone.{after_move, reach_move, one_move, others_run}

module _ {Value : Type 0} where
  -- what is apart from a whole is apart from its parts
  pub apart_part : (es fs gs : List (Access Value)) → AreApart (es ++ fs) gs → AreApart es gs × AreApart fs gs
  apart_part es fs gs a = (
    record { first = λ p w t. a.first p (writes_left es fs p w) t; second = λ p t w. a.second p (touches_left es fs p t) w },
    record { first = λ p w t. a.first p (writes_right es fs p w) t; second = λ p t w. a.second p (touches_right es fs p t) w },
  )

module _ {Value Local State : Type 0} (P : Source Value Local State) (law : IsThreaded P) where
  -- every merge of two runs that are apart is defined, and leaves the same
  pub merged : (M : List Bool) (s : State) (i j : ℕ) (hs fs : List (Move Value Local)) → Reachable P s → i ≢ j → Merges M hs fs →
      RunsAlone P (P.local s i) (P.memory s) hs → RunsAlone P (P.local s j) (P.memory s) fs → AreApart (accesses_of hs) (accesses_of fs) →
      (t : State) × (after_from P s (threads_of i j M) ≡ Some t) × BothRan P s i j hs fs t
  merged [] s i j hs fs at ne m r q a = (
    s,
    refl,
    record {
      first = ap (λ l. end_of (P.local s i) l) (sym m.0);
      second = ap (λ l. end_of (P.local s j) l) (sym m.1);
      others = λ k _ _. refl;
      memory = λ p. sym (ap (λ l. memory_after (accesses_of l) (memory_after (accesses_of hs) (P.memory s)) p) m.1 ∙ ap (λ l. memory_after (accesses_of l) (P.memory s) p) m.0);
    },
  )
  merged (true ∷ M) s i j [] fs at ne m r q a = absurd m
  merged (true ∷ M) s i j (h ∷ hs) fs at ne m r q a =
      let part = apart_part h.accesses (accesses_of hs) (accesses_of fs) a in
      let v = law.moves s i h.to h.accesses at r.0 in
      let one = one_move P law s v.0 i h v.1 in
      let still = others_run P law s v.0 i j (h ∷ []) fs (λ e. ne (sym e)) one (subst (λ x. AreApart x (accesses_of fs)) (sym (append-nil h.accesses)) part.0) q in
      let rest = merged M v.0 i j hs fs (reach_move P law s v.0 i h at v.1) ne m (after_move P law s v.0 i h hs v.1 r.1) still part.1 in (
        rest.0,
        subst (λ o. if_steps o (λ u. after_from P u (threads_of i j M)) ≡ Some rest.0) (sym v.1.steps) rest.1,
        record {
          first = rest.2.first ∙ ap (λ x. end_of x hs) v.1.own;
          second = rest.2.second ∙ ap (λ x. end_of x fs) (v.1.others j (λ e. ne (sym e)));
          others = λ k a b. rest.2.others k a b ∙ v.1.others k a;
          memory = λ p. rest.2.memory p ∙ memory_after-agree (accesses_of fs) (memory_after (accesses_of hs) (P.memory v.0))
              (memory_after (h.accesses ++ accesses_of hs) (P.memory s)) p (memory_after-agree (accesses_of hs) (P.memory v.0)
              (memory_after h.accesses (P.memory s)) p (v.1.memory p) ∙ sym (ap (λ (f : Memory Value). f p) (memory_after-append h.accesses (accesses_of hs) (P.memory s))));
        },
      )
  merged (false ∷ M) s i j hs [] at ne m r q a = absurd m
  merged (false ∷ M) s i j hs (f ∷ fs) at ne m r q a =
      let b = apart_swap (accesses_of hs) (f.accesses ++ accesses_of fs) a in
      let part = apart_part f.accesses (accesses_of fs) (accesses_of hs) b in
      let v = law.moves s j f.to f.accesses at q.0 in
      let one = one_move P law s v.0 j f v.1 in
      let still = others_run P law s v.0 j i (f ∷ []) hs ne one (subst (λ x. AreApart x (accesses_of hs)) (sym (append-nil f.accesses)) part.0) r in
      let rest = merged M v.0 i j hs fs (reach_move P law s v.0 j f at v.1) ne m still (after_move P law s v.0 j f fs v.1 q.1) (apart_swap (accesses_of fs) (accesses_of hs) part.1) in (
        rest.0,
        subst (λ o. if_steps o (λ u. after_from P u (threads_of i j M)) ≡ Some rest.0) (sym v.1.steps) rest.1,
        record {
          first = rest.2.first ∙ ap (λ x. end_of x hs) (v.1.others i ne);
          second = rest.2.second ∙ ap (λ x. end_of x fs) v.1.own;
          others = λ k a b. rest.2.others k a b ∙ v.1.others k b;
          memory = λ p. rest.2.memory p
              ∙ memory_after-agree (accesses_of fs) (memory_after (accesses_of hs) (P.memory v.0)) (memory_after f.accesses (memory_after (accesses_of hs) (P.memory s))) p
              (memory_after-agree (accesses_of hs) (P.memory v.0) (memory_after f.accesses (P.memory s)) p (v.1.memory p) ∙ memory_after-commute f.accesses (accesses_of hs) (P.memory s) p part.0)
              ∙ sym (ap (λ (g : Memory Value). g p) (memory_after-append f.accesses (accesses_of fs) (memory_after (accesses_of hs) (P.memory s))));
        },
      )

  -- COMMUTATION
  pub runs_commute : RunsCommute P
  runs_commute merge s i j hs fs at ne m r q a = merged merge s i j hs fs at ne m r q a
