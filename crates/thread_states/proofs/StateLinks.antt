-- One more link of a chain.
use Rattle.std.proofs.Common.{◌≡◌, ℕ, true, false, nat_eq, if◌then◌else◌, List, length, refl, ap, ◌∙◌}
use Rattle.std.proofs.Math.Bool.{or-false}
use Rattle.netlist.specs.declared.netlist.Signal.{Signal}
use Rattle.netlist.specs.declared.netlist.Module.{Module}
use Rattle.verilog_meaning.specs.Readings.{Reading, width}
use Rattle.hls_ints.specs.Residues.{bit_of}
use Rattle.circuit.specs.Modules.{Obeys}
use Rattle.operator_wires.specs.Gives.{Grows}
use Rattle.operator_wires.proofs.PutSignals.{grows_then}
use Rattle.block_datapath.specs.declared.registers.Registers.{Registers}
use Rattle.block_datapath.specs.Chains.{next_number, TellsStage}
use Rattle.planned_block.proofs.Bits.{other_is}
use Rattle.thread_slots.specs.declared.chains.Chains.{Chains}
use Rattle.thread_slots.specs.Links.{AreBits, LeadsTo, WaitsAt, IsStill, ShowSame, AreAsMany}
use Rattle.thread_states.specs.Acts.{StepsOver}

-- ---- what chains show

pub same_refl : (r : Reading) (c : Chains) → ShowSame r c c
same_refl r c = record { stage = refl; variables = λ x. refl; kept = λ x. refl; is_last = λ t e. e; waits = λ t e. e }

pub same_then : (r : Reading) (a b c : Chains) → ShowSame r a b → ShowSame r b c → ShowSame r a c
same_then r a b c t u = record {
  stage = u.stage ∙ t.stage;
  variables = λ x. u.variables x ∙ t.variables x;
  kept = λ x. u.kept x ∙ t.kept x;
  is_last = λ v e. u.is_last v (t.is_last v e);
  waits = λ v e. u.waits v (t.waits v e);
}

pub still_later : (r : Reading) (registers : Registers) (a b : Chains) → ShowSame r a b → IsStill r registers a → IsStill r registers b
still_later r registers a b t still = record {
  stage = t.stage ∙ still.stage;
  variables = λ x h e. t.variables x ∙ still.variables x h e;
  kept = λ x h e. t.kept x ∙ still.kept x h e;
  is_last = t.is_last false still.is_last;
  waits = t.waits false still.waits;
}

pub many_refl : (c : Chains) → AreAsMany c c
many_refl c = record { variables = refl; kept = refl }

pub many_then : (a b c : Chains) → AreAsMany a b → AreAsMany b c → AreAsMany a c
many_then a b c t u = record { variables = u.variables ∙ t.variables; kept = u.kept ∙ t.kept }

-- ---- links whose condition does not hold

-- chains that show the same where a bit is not set
pub record OffAt (at : ℕ) (old new : List Signal) (before after : Chains) : Type 0 where
  pub grows : Grows old new
  pub many : AreAsMany before after
  pub bits : AreBits old before → AreBits new after
  pub off : (m : Module) (r : Reading) → Grows new m.signals → Obeys m r → AreBits old before → r.signal at ≡ 0 → ShowSame r before after

pub off_then : (at : ℕ) (a b c : List Signal) (x y z : Chains) → OffAt at a b x y → OffAt at b c y z → OffAt at a c x z
off_then at a b c x y z t u = record {
  grows = grows_then a b c t.grows u.grows;
  many = many_then x y z t.many u.many;
  bits = λ e. u.bits (t.bits e);
  off = λ m r g o e no. same_then r x y z (t.off m r (grows_then b c m.signals u.grows g) o e no) (u.off m r g o (t.bits e) no);
}

pub bits_later : (a b : List Signal) (c : Chains) → Grows a b → AreBits a c → AreBits b c
bits_later a b c grows e = record {
  is_last = λ m g. e.is_last m (grows_then a b m.signals grows g);
  waits = λ m g. e.waits m (grows_then a b m.signals grows g);
}

-- signals alone are put behind others
pub off_grown : (at : ℕ) (a b : List Signal) (c : Chains) → Grows a b → OffAt at a b c c
off_grown at a b c grows = record {
  grows = grows;
  many = many_refl c;
  bits = λ e. bits_later a b c grows e;
  off = λ m r g o e no. same_refl r c;
}

-- links behind a stage's bit
pub off_steps : (registers : Registers) (l at : ℕ) (a b c : List Signal) (x y : Chains) → TellsStage a b registers l at → OffAt at b c x y → StepsOver registers l a c x y
off_steps registers l at a b c x y told t = record {
  grows = grows_then a b c told.grows t.grows;
  many = t.many;
  bits = λ e. t.bits (bits_later a b x told.grows e);
  rests = λ m r g o e has ne.
      let off = told.shows m r (grows_then b c m.signals t.grows g) o has.wide has.room has.fits ∙ ap bit_of (other_is (r.signal registers.stage.register) l ne) in
      t.off m r g o (bits_later a b x told.grows e) off;
}

pub lead_off : (a b : List Signal) (before after : Chains) (last target : ℕ) → LeadsTo a b before after last target → OffAt last a b before after
lead_off a b before after last target t = record {
  grows = t.grows;
  many = record {
    variables = ap (λ (c : Chains). length c.variables) t.same;
    kept = ap (λ (c : Chains). length c.kept) t.same;
  };
  bits = λ e. record {
    is_last = t.bit.wide;
    waits = λ m g. ap (λ (c : Chains). width m c.waits) t.same ∙ e.waits m (grows_then a b m.signals t.grows g);
  };
  off = λ m r g o e no. record {
    stage = t.stage m r g o ∙ ap (λ n. if nat_eq n 0 then r.signal before.stage else r.signal target) no;
    variables = λ x. ap (λ (c : Chains). next_number r c.variables x) t.same;
    kept = λ x. ap (λ (c : Chains). next_number r c.kept x) t.same;
    is_last = λ v is. t.bit.shows m r v false g o (e.is_last m (grows_then a b m.signals t.grows g)) is no ∙ ap bit_of (or-false v);
    waits = λ v is. ap (λ (c : Chains). r.signal c.waits) t.same ∙ is;
  };
}

pub wait_off : (a b : List Signal) (before after : Chains) (condition : ℕ) → WaitsAt a b before after condition → OffAt condition a b before after
wait_off a b before after condition t = record {
  grows = t.grows;
  many = record {
    variables = ap (λ (c : Chains). length c.variables) t.same;
    kept = ap (λ (c : Chains). length c.kept) t.same;
  };
  bits = λ e. record {
    is_last = λ m g. ap (λ (c : Chains). width m c.is_last) t.same ∙ e.is_last m (grows_then a b m.signals t.grows g);
    waits = t.bit.wide;
  };
  off = λ m r g o e no. record {
    stage = ap (λ (c : Chains). r.signal c.stage) t.same;
    variables = λ x. ap (λ (c : Chains). next_number r c.variables x) t.same;
    kept = λ x. ap (λ (c : Chains). next_number r c.kept x) t.same;
    is_last = λ v is. ap (λ (c : Chains). r.signal c.is_last) t.same ∙ is;
    waits = λ v is. t.bit.shows m r v false g o (e.waits m (grows_then a b m.signals t.grows g)) is no ∙ ap bit_of (or-false v);
  };
}

-- ---- links whose condition holds

pub lead_on : (a b : List Signal) (before after : Chains) (last target : ℕ) (m : Module) (r : Reading) → LeadsTo a b before after last target → AreBits a before →
    Grows b m.signals → Obeys m r
    → r.signal before.is_last ≡ 0 → r.signal last ≡ 1 → (r.signal after.is_last ≡ 1) × (r.signal after.stage ≡ r.signal target)
lead_on a b before after last target m r t e g o none on = (
  t.bit.shows m r false true g o (e.is_last m (grows_then a b m.signals t.grows g)) none on,
  t.stage m r g o ∙ ap (λ n. if nat_eq n 0 then r.signal before.stage else r.signal target) on,
)
