-- How many banks a list of spreads has: those of the first one, and those of the others.
use Rattle.std.proofs.Common.{◌≡◌, ℕ, ◌+◌, List, [], ◌∷◌, fold, arith}
use Rattle.bank_partition.specs.declared.banks.Spread.{Spread}
use Rattle.thread_promise.specs.Globals.{bank_total}

shifted : (a : ℕ) (ss : List Spread) → fold (λ n (s : Spread). n + s.count) a ss ≡ a + fold (λ n (s : Spread). n + s.count) 0 ss
shifted a [] = let e : a ≡ a + 0 = omega arith in e
shifted a (s ∷ ss) =
    let one = shifted (a + s.count) ss in
    let two = shifted (0 + s.count) ss in
    omega arith

pub total_cons : (s : Spread) (ss : List Spread) → bank_total (s ∷ ss) ≡ s.count + bank_total ss
total_cons s ss = let e = shifted (0 + s.count) ss in omega arith
