-- The text of a seed is that of a good program.
use Rattle.std.proofs.Common.{◌≡◌, ℕ, zero, suc, ◌≤◌, List, length, refl, ap, sym, subst, arith}
use Rattle.c_program.specs.Tree.{Program}
use Rattle.generated_text.specs.declared.draws.Line.{Line}
use Rattle.generated_text.specs.Draws.{behind_line, lines_of}
use Rattle.generated_text.specs.Text.{text_of}
use Rattle.generated_profile.proofs.Accepted.{generated_is_accepted}
use Rattle.generated_good.proofs.GeneratedGood.{generated_is_good}
use Rattle.hls_gen.specs.Good.{IsAcceptedAsGood}

lines_length : (seed size : ℕ) → length (lines_of seed size) ≡ size
lines_length seed zero = refl
lines_length seed (suc size) = ap suc (lines_length (behind_line seed) size)

good_of : (threads : ℕ) (lines : List Line) → 1 ≤ threads → threads ≤ 63 → length lines ≤ 1000 → IsAcceptedAsGood threads (text_of threads lines)
good_of threads lines some most few =
    let accepted = generated_is_accepted threads lines some most few in
    let P : Program = accepted.0 in
    (P, accepted.1, accepted.2, generated_is_good threads lines P some most accepted.3, accepted.4)

pub seed_is_good : (seed threads size : ℕ) (text : List ℕ) → 1 ≤ threads → threads ≤ 63 → size ≤ 1000 →
    text ≡ text_of threads (lines_of seed size) → IsAcceptedAsGood threads text
seed_is_good seed threads size text some most few is =
    subst (IsAcceptedAsGood threads) (sym is) (good_of threads (lines_of seed size) some most (omega (arith, few, lines_length seed size)))
