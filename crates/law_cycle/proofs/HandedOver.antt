-- What acts hand over to a core.
use Rattle.std.specs.Prelude.{Bool, true, false, Option, Some, None, ℤ}
use Rattle.std.proofs.Common.{◌≡◌, ℕ, List, [], ◌∷◌, refl, subst, arith}
use Rattle.hls_ints.specs.Residues.{residue_of}
use Rattle.block_ir.specs.declared.code.Act.{Act}
use Rattle.block_ir.specs.declared.code.Act.TheVariants as act
use Rattle.block_ir.specs.declared.code.ActOperand.{ActOperand}
use Rattle.block_ir.specs.Asked.{act_value, Asked, asked, operand_words}
use Rattle.block_ir.specs.declared.service.Service.TheVariants.{Mutex, Barrier, ThreadIds, Printer}

-- an init of a barrier has a count, a create an id and an argument, a join an id; and a printf its site and its values
pub record HandsOver (a : Act) (variables : ℕ → ℤ) (asks : Asked) : Type 0 where
  pub count : asks.service ≡ Barrier → asks.number ≡ 0 → (w : ℕ) × (ws : List ℕ) × (asks.values ≡ w ∷ ws)
  pub created : asks.service ≡ ThreadIds → asks.number ≡ 0 → (v : ℕ) × (w : ℕ) × (ws : List ℕ) × (asks.values ≡ v ∷ w ∷ ws)
  pub joined : asks.service ≡ ThreadIds → asks.number ≡ 1 → (v : ℕ) × (ws : List ℕ) × (asks.values ≡ v ∷ ws)
  pub printed : asks.service ≡ Printer →
      (site : ℕ) × (values : List ActOperand) × (a ≡ act.Print site values) × (asks.number ≡ site) × (asks.values ≡ operand_words variables values)

abbrev Hands : Act → (ℕ → ℤ) → Option Asked → Type 0
Hands a variables None = Unit {0}
Hands a variables (Some asks) = HandsOver a variables asks

-- of a mutex nothing of this is wanted
of_mutex : (a : Act) (variables : ℕ → ℤ) (asks : Asked) → asks.service ≡ Mutex → HandsOver a variables asks
of_mutex a variables asks e = record { count = λ s n. absurd cc; created = λ s n. absurd cc; joined = λ s n. absurd cc; printed = λ s. absurd cc }

each : (main : Bool) (a : Act) (variables : ℕ → ℤ) → Hands a variables (asked main a variables)
each main (act.Print site values) variables =
    record { count = λ s n. absurd cc; created = λ s n. absurd cc; joined = λ s n. absurd cc; printed = λ s. (site, values, refl, refl, refl) }
each main (act.Create thread argument) variables = record {
  count = λ s n. absurd cc;
  created = λ s n. (residue_of 64 (act_value variables thread), residue_of 64 (act_value variables argument), [], refl);
  joined = λ s n. absurd (omega arith);
  printed = λ s. absurd cc;
}
each main (act.Join thread) variables = record {
  count = λ s n. absurd cc;
  created = λ s n. absurd (omega arith);
  joined = λ s n. (residue_of 64 (act_value variables thread), [], refl);
  printed = λ s. absurd cc;
}
each main (act.MutexInit m) variables = of_mutex (act.MutexInit m) variables _ refl
each main (act.MutexLock m) variables = of_mutex (act.MutexLock m) variables _ refl
each main (act.MutexUnlock m) variables = of_mutex (act.MutexUnlock m) variables _ refl
each main (act.MutexDestroy m) variables = of_mutex (act.MutexDestroy m) variables _ refl
each main (act.BarrierInit b count) variables = record {
  count = λ s n. (residue_of 64 (act_value variables count), [], refl);
  created = λ s n. absurd cc;
  joined = λ s n. absurd cc;
  printed = λ s. absurd cc;
}
each main (act.BarrierWait b) variables = record { count = λ s n. absurd (omega arith); created = λ s n. absurd cc; joined = λ s n. absurd cc; printed = λ s. absurd cc }
each main (act.BarrierDestroy b) variables =
    record { count = λ s n. absurd (omega arith); created = λ s n. absurd cc; joined = λ s n. absurd cc; printed = λ s. absurd cc }
each true act.Return variables = tt
each false act.Return variables = record {
  count = λ s n. absurd cc;
  created = λ s n. absurd (omega arith);
  joined = λ s n. absurd (omega arith);
  printed = λ s. absurd cc;
}

pub hands_over : (main : Bool) (a : Act) (variables : ℕ → ℤ) (asks : Asked) → asked main a variables ≡ Some asks → HandsOver a variables asks
hands_over main a variables asks e = subst (Hands a variables) e (each main a variables)
