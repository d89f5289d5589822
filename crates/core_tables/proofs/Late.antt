-- Signals that are late under two choices are a choice of late signals.
use Rattle.std.proofs.Common.{ℕ, Bool}
use Rattle.std.specs.Prelude.{◌&&◌, slice_get}
use Rattle.std.proofs.lemmas.Bool.{and_parts}
use Rattle.verilog_tree.proofs.Tests.{and_both}
use Rattle.netlist.specs.declared.netlist.Source.{Source}
use Rattle.netlist.specs.declared.netlist.Source.TheVariants.{Input, Register, Assigned, Port}
use Rattle.netlist.specs.declared.netlist.Module.{Module}
use Rattle.circuit.specs.Modules.{Reads, IsSoundSource, IsLeaf}
use Rattle.circuit.proofs.Tables.{fits_among, operand_of}

abbrev pub both_late : (ℕ → Bool) → (ℕ → Bool) → ℕ → Bool
both_late a b x = a x && b x

module _ (m : Module) (inputs : ℕ) (a b : ℕ → Bool) where
  joint_source : (x w : ℕ) (source : Source) → IsSoundSource m inputs a x w source → IsSoundSource m inputs b x w source → IsSoundSource m inputs (both_late a b) x w source
  joint_source x w Input f g = f
  joint_source x w (Register n) f g = f
  joint_source x w (Assigned v) f g =
      fits_among (Reads m a x) (Reads m (both_late a b) x) (λ j. slice_get m.memories j) w v
      (λ y u i h. record {
        has = h.has;
        before = h.before;
        in_time = λ t.
            let o = operand_of (Reads m b x) (λ j. slice_get m.memories j) w v g y i in
            and_both (a x) (b x) (h.in_time (and_parts (a y) (b y) t).0) (o.1.in_time (and_parts (a y) (b y) t).1);
      }) f
  joint_source x w (Port i p) f g = f

  pub joint_leaf : IsLeaf m inputs a → IsLeaf m inputs b → IsLeaf m inputs (both_late a b)
  joint_leaf f g = record {
    alone = f.alone;
    first = f.first;
    sound = λ x s e. joint_source x s.width s.source (f.sound x s e) (g.sound x s e);
    acts = f.acts;
    begins = f.begins;
  }
