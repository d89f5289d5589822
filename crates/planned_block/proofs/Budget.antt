-- What a slot has left is bounded by the latencies; code that follows its thread is lowered code.
use Rattle.std.specs.Prelude.{ℤ, Bool, true, false, if◌then◌else◌}
use Rattle.std.proofs.Common.{ℕ, zero, suc, ◌+◌, ◌*◌, ◌<◌, ◌≤◌, length, sym, ap, ◌∙◌, arith}
use Rattle.interleaving.specs.Memory.{Memory}
use Rattle.interleaving.specs.Source.{Source}
use Rattle.planned_block.specs.Block.{Block, operation_at, size, operand_value}
use Rattle.planned_block.specs.Plan.{Plan}
use Rattle.planned_block.specs.Run.{block_run}
use Rattle.planned_block.specs.Slot.{is_request}
use Rattle.planned_block.specs.Table.{latencies_before}
use Rattle.planned_block.specs.Hardware.{count_below, changes_of}
use Rattle.planned_block.specs.Following.{AtStage, own_latencies, code_of, AreChains, FollowersAreLowered}

-- each request has a latency of its own
requests_fit : (b : Block) (n : ℕ) → count_below (λ k. is_request (operation_at b k).kind) n ≤ latencies_before b n
requests_fit b zero = omega arith
requests_fit b (suc n) =
    let rest = requests_fit b n in
    let one = at_most_one (is_request (operation_at b n).kind) in
    omega arith
  where
    at_most_one : (c : Bool) → (if c then 1 else 0) ≤ 1
    at_most_one true = omega arith
    at_most_one false = omega arith

module _ (blocks : ℕ → ℕ → Block) (plans : ℕ → ℕ → Plan) (chain : ℕ → ℕ → ℕ) (spare : ℕ → ℕ → ℕ → ℕ) (weight : ℕ) (chains : AreChains blocks plans chain spare weight) where
  -- a block has at most one change for each state and one for each request
  pub within_chain : (f l : ℕ) → changes_of (code_of blocks plans chain spare) f l < 2 * chain f l + spare f l 0
  within_chain f l =
      let s = chains.short f l in
      let h = chains.holds f l in
      let c = requests_fit (blocks f l) (size (blocks f l)) in
      omega arith

  -- a stepless block's successor is paid for
  fits : (f l k : ℕ) → own_latencies (blocks f l) + (chain f k + spare f k 0) ≤ chain f l → changes_of (code_of blocks plans chain spare) f k ≤ (code_of blocks plans chain spare).reserve f l
  fits f l k e = let t = within_chain f k in omega arith

  bounded : (f l : ℕ) → changes_of (code_of blocks plans chain spare) f l < 64 * (weight + 1)
  bounded f l = let t = within_chain f l in let c = chains.bounded f l in omega arith

-- FOLLOWING
pub followers_are_lowered : {Local State : Type 0} (P : Source ℤ Local State) (Typed : Memory ℤ → Type 0)
    (AtAct : AtStage Local → Local → ℕ → ℕ → (ℕ → ℤ) → Memory ℤ → Type 0) → FollowersAreLowered P Typed AtAct
followers_are_lowered P Typed AtAct blocks plans chain spare weight typed ordered chains = record {
  blocks = λ s i f l variables arrays at starts some. record {
    only_moves = ((starts 1).0 some (P.memory s) (typed s at)).only_moves;
    block_runs = λ hs run n. record {
      accesses = ((starts 1).0 some (P.memory s) (typed s at)).accesses hs run n;
      ends = λ k. ((starts (suc k)).0 some (P.memory s) (typed s at)).leads hs run n;
      fits = λ z.
          fits blocks plans chain spare weight chains f l _
          (chains.stepless f l some (sym n ∙ ap length z) (operand_value variables (block_run (blocks f l) variables arrays (P.memory s)).values));
    };
  };
  bounded = bounded blocks plans chain spare weight chains;
}
