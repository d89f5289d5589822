-- What each cycle keeps, with some steps appended to the interleaving, every run follows.
use Rattle.std.proofs.Common.{◌≡◌, ℕ, zero, suc, ◌+◌, ◌≤◌, List, [], ◌∷◌, ◌++◌, length, take, refl, sym, ap, ◌∙◌, subst, arith, append_assoc, append-nil, length-append, zero-add}
use Rattle.std.specs.Prelude.{Bool, Some, slice_get, if◌then◌else◌}
use Rattle.std.proofs.Math.Seq.{take-append_seam, take-length, take-nil}
use Rattle.std.proofs.Math.Nat.{add-zero}
use Rattle.interleaving.specs.Run.{machine_after, counted_choices, FollowsOne, EachCycleKeeps, RunsFollowOne}

module _ {Machine Choice : Type 0} (cycle : Machine → Choice → Machine) (counts : Machine → Choice → Bool) (still : Machine → Choice → Type 0) (R : List ℕ → Machine → ℕ → Type 0) where
  -- as FollowsOne, of a run from any moment: L has been taken, and m cycles have counted
  record FollowsFrom (L : List ℕ) (w : Machine) (m : ℕ) (C : List Choice) : Type 0 where
    steps : List ℕ
    count : ℕ → ℕ
    first : count 0 ≡ length L
    extends : (rest : List ℕ) × (steps ≡ L ++ rest)
    rises : (n : ℕ) → count n ≤ count (suc n)
    rests : (n : ℕ) (c : Choice) → slice_get C n ≡ Some c → still (machine_after cycle w (take n C)) c → count (suc n) ≡ count n
    each : (n : ℕ) → n ≤ length C → R (take (count n) steps) (machine_after cycle w (take n C)) (m + counted_choices cycle counts w (take n C))

  follows : EachCycleKeeps cycle counts still R → (C : List Choice) (L : List ℕ) (w : Machine) (m : ℕ) → R L w m → FollowsFrom L w m C
  follows goes [] L w m r = record {
    steps = L;
    count = λ n. length L;
    first = refl;
    extends = ([], sym (append-nil L));
    rises = λ n. omega arith;
    rests = λ n c e q. refl;
    each = λ n le. subst (λ C. R (take (length L) L) (machine_after cycle w C) (m + counted_choices cycle counts w C)) (sym (take-nil n))
        (subst (λ M. R M w (m + 0)) (sym (take-length L)) (subst (λ k. R L w k) (sym (add-zero m)) r));
  }
  follows goes (c ∷ C) L w m r =
      let t = goes L w m c r in
      let rest = follows goes C (L ++ t.0) (cycle w c) (m + (if counts w c then 1 else 0)) t.1 in
      let longer : rest.count 0 ≡ length L + length t.0 = rest.first ∙ length-append L t.0 in
      let more : rest.steps ≡ L ++ (t.0 ++ rest.extends.0) = rest.extends.1 ∙ append_assoc L t.0 rest.extends.0 in
      record {
        steps = rest.steps;
        count = elim [ zero ↦ length L | suc n ↦ rest.count n ];
        first = refl;
        extends = (t.0 ++ rest.extends.0, more);
        rises = elim [ zero ↦ omega (arith, longer) | suc n ↦ rest.rises n ];
        rests = elim [
          | zero ↦ λ b e q. let same : c ≡ b = cc in longer ∙ ap (λ (M : List ℕ). length L + length M) (t.2 (subst (λ d. still w d) (sym same) q)) ∙ add-zero (length L)
          | suc n ↦ λ b e q. rest.rests n b e q
        ];
        each = elim [
          | zero ↦ λ le. subst (λ M. R M w (m + 0)) (sym (ap (λ (M : List ℕ). take (length L) M) more ∙ take-append_seam L (t.0 ++ rest.extends.0))) (subst (λ k. R L w k) (sym (add-zero m)) r)
          | suc n ↦ λ le. subst (λ k. R (take (rest.count n) rest.steps) (machine_after cycle (cycle w c) (take n C)) k) (omega arith) (rest.each n (omega arith))
        ];
      }

  -- ONE INTERLEAVING
  pub runs_follow_one : RunsFollowOne cycle counts still R
  runs_follow_one goes h r C =
      let f = follows goes C [] h 0 r in
      record {
        interleaving = f.steps;
        taken = f.count;
        rises = f.rises;
        rests = f.rests;
        each = λ n le. subst (λ m. R (take (f.count n) f.steps) (machine_after cycle h (take n C)) m) (zero-add (counted_choices cycle counts h (take n C))) (f.each n le);
      }

-- what holds of each moment may be weakened
pub follows_weaker :
    {Machine Choice : Type 0} (cycle : Machine → Choice → Machine) (counts : Machine → Choice → Bool) (still : Machine → Choice → Type 0)
    (R Q : List ℕ → Machine → ℕ → Type 0) (h : Machine) (C : List Choice) →
    ((L : List ℕ) (g : Machine) (m : ℕ) → R L g m → Q L g m) → FollowsOne cycle counts still R h C → FollowsOne cycle counts still Q h C
follows_weaker cycle counts still R Q h C weaker f = record {
  interleaving = f.interleaving;
  taken = f.taken;
  rises = f.rises;
  rests = f.rests;
  each = λ n le. weaker (take (f.taken n) f.interleaving) (machine_after cycle h (take n C)) (counted_choices cycle counts h (take n C)) (f.each n le);
}
