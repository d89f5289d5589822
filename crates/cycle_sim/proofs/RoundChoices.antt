-- The choices of `top_rr`: so many there are, each is one of the threads, and enables them all.
use Rattle.std.proofs.Common.{◌≡◌, ℕ, zero, suc, ◌-◌, ◌^◌, ◌<◌, ◌%◌, [], ◌∷◌, length, refl, arith}
use Rattle.std.specs.List.{All}
use Rattle.std.proofs.lemmas.List.{length-append}
use Rattle.std.proofs.lemmas.List.Elements.{All-nil, All-push, All-replicate}
use Rattle.std.proofs.lemmas.Nat.{pow_pos}
use Rattle.verilog_meaning.specs.Cycles.{Choice}
use Rattle.verilog_meaning.specs.Threads.{IsChoice}
use Rattle.sim_layout.specs.Rounds.{round, rounds}

pub length-rounds : (threads prefs n : ℕ) → length (rounds threads prefs n) ≡ n
length-rounds threads prefs zero = refl
length-rounds threads prefs (suc n) =
    let m = length-append (rounds threads prefs n) (round threads prefs n ∷ []) in
    let k = length-rounds threads prefs n in omega (arith, m, k)

-- what holds of each of these choices holds of all
all_rounds : (X : Choice → Type 0) (threads prefs n : ℕ) → ((k : ℕ) → X (round threads prefs k)) → All X (rounds threads prefs n)
all_rounds X threads prefs zero each = All-nil X
all_rounds X threads prefs (suc n) each = All-push X (rounds threads prefs n) (round threads prefs n) (all_rounds X threads prefs n each) (each n)

round_is_choice : (threads prefs k : ℕ) → IsChoice threads (round threads prefs k)
round_is_choice threads prefs k =
    ((let p : 0 < 2 ^ threads = pow_pos threads in omega (arith, p)), All-replicate (λ p. p < 64) prefs (k % 16) (omega arith))

pub rounds_are_choices : (threads prefs n : ℕ) → All (IsChoice threads) (rounds threads prefs n)
rounds_are_choices threads prefs n = all_rounds (IsChoice threads) threads prefs n (round_is_choice threads prefs)

pub rounds_enable_all : (threads prefs n : ℕ) → All (λ c. c.mask ≡ 2 ^ threads - 1) (rounds threads prefs n)
rounds_enable_all threads prefs n = all_rounds (λ c. c.mask ≡ 2 ^ threads - 1) threads prefs n (λ k. refl)
