-- One more link of a chain.
use Rattle.std.proofs.Common.{◌≡◌, ℕ, ◌<◌, ◌≤◌, List, length, sym, ap, ◌∙◌, arith, ⊎_elim}
use Rattle.std.proofs.lemmas.List.{get_or_past}
use Rattle.std.proofs.lemmas.Bool.{cases_lt}
use Rattle.netlist.specs.declared.netlist.Signal.{Signal}
use Rattle.netlist.specs.declared.netlist.Module.{Module}
use Rattle.verilog_meaning.specs.Readings.{Reading, width}
use Rattle.hls_ints.specs.Residues.{bit_of}
use Rattle.hls_ints.specs.Words.{word_inclusive_or}
use Rattle.circuit.specs.Modules.{Obeys}
use Rattle.operator_wires.specs.Gives.{Grows, Gives}
use Rattle.operator_wires.proofs.Bits.{or_bits}
use Rattle.block_datapath.specs.declared.registers.Registers.{Registers}
use Rattle.block_datapath.specs.Chains.{next_number, TellsStage}
use Rattle.block_datapath.specs.Leave.{HasStage}
use Rattle.block_ir.specs.declared.code.ThreadCode.{ThreadCode}
use Rattle.planned_block.proofs.Bits.{same_is}
use Rattle.thread_slots.specs.Links.{AddsBit}
use Rattle.thread_slots.specs.Slots.{KnowsStage}

-- ---- bits

pub bit_added : (a b : List Signal) (before after condition : ℕ) → Gives a b after 1 (λ m r. word_inclusive_or (width m before) (r.signal before) (r.signal condition))
    → AddsBit b before after condition
bit_added a b before after condition t = record {
  wide = t.wide;
  shows = λ m r x y g o wide e f.
      t.shows m r g o
      ∙ ap (λ w. word_inclusive_or w (r.signal before) (r.signal condition)) wide
      ∙ ap (λ n. word_inclusive_or 1 n (r.signal condition)) e
      ∙ ap (word_inclusive_or 1 (bit_of x)) f
      ∙ or_bits x y;
}

-- ---- what chains show

-- past the end of two lists of one length nothing differs
pub same_everywhere : (r : Reading) (before after : List ℕ) → length after ≡ length before → ((x : ℕ) → x < length before → next_number r after x ≡ next_number r before x)
    → (x : ℕ) → next_number r after x ≡ next_number r before x
same_everywhere r before after count same x =
    ⊎_elim
    (λ (less : x < length before). same x less)
    (λ (past : length before ≤ x).
    let later : length after ≤ x = omega arith in
    ap r.signal (get_or_past after x 0 later) ∙ sym (ap r.signal (get_or_past before x 0 past)))
    (cases_lt x (length before))

-- ---- links whose condition does not hold

pub stage_on : (registers : Registers) (l at : ℕ) (a b : List Signal) (m : Module) (r : Reading) → TellsStage a b registers l at → Grows b m.signals → Obeys m r →
    HasStage registers l m r
    → r.signal registers.stage.register ≡ l → r.signal at ≡ 1
stage_on registers l at a b m r told g o has here = told.shows m r g o has.wide has.room has.fits ∙ ap bit_of (same_is (r.signal registers.stage.register) l here)

pub has_stage : (code : ThreadCode) (registers : Registers) (l : ℕ) (m : Module) (r : Reading) → KnowsStage code registers m r → l ≤ length code.stages → HasStage registers l m r
has_stage code registers l m r knows le = record { wide = knows.wide; room = (let room = knows.room in omega arith); fits = knows.fits }
