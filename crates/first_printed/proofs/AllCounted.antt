-- Cycles in which all threads are enabled all count.
use Rattle.std.proofs.Common.{◌≡◌, ℕ, ◌-◌, ◌^◌, List, [], ◌∷◌, length, inl}
use Rattle.std.specs.List.{All}
use Rattle.std.proofs.lemmas.List.Elements.{All-head, All-tail}
use Rattle.netlist.specs.declared.netlist.Module.{Module}
use Rattle.verilog_meaning.specs.Cycles.{Valuation, Choice, Runs}
use Rattle.verilog_meaning.specs.Threads.{Counted, none, counts}

module _ (modules : List Module) (top : Module) (threads : ℕ) where
  pub all_counted : (choices : List Choice) (h g : Valuation) (out : List ℕ) → Runs modules top h choices g out → All (λ c. c.mask ≡ 2 ^ threads - 1) choices
      → Counted modules top threads h choices (length choices)
  all_counted [] h g out r all = none
  all_counted (c ∷ choices) h g out r all =
      counts r.3 (inl (All-head (λ c. c.mask ≡ 2 ^ threads - 1) c choices all))
      (all_counted choices r.0 g r.2 r.4 (All-tail (λ c. c.mask ≡ 2 ^ threads - 1) c choices all))
