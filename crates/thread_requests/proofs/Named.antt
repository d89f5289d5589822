-- Nobody is asked, and at a meeting a barrier is named.
use Rattle.std.proofs.Common.{◌≡◌, ℕ, suc, List, length, arith}
use Rattle.block_ir.specs.declared.code.ThreadCode.{ThreadCode}
use Rattle.block_ir.specs.declared.service.Service.{Service}
use Rattle.block_ir.specs.declared.service.Service.TheVariants.{Mutex, Barrier, ThreadIds, Printer}
use Rattle.netlist.specs.declared.netlist.Signal.{Signal}
use Rattle.netlist.specs.declared.netlist.Module.{Module}
use Rattle.verilog_meaning.specs.Readings.{Reading, width}
use Rattle.circuit.specs.Modules.{Obeys}
use Rattle.operator_wires.specs.Gives.{Grows}
use Rattle.operator_wires.specs.Built.{Base, IsEarlier}
use Rattle.operator_wires.proofs.PutSignals.{grows_then}
use Rattle.operator_wires.proofs.BuiltWires.{wires_then}
use Rattle.block_datapath.specs.declared.registers.Registers.{Registers}
use Rattle.thread_slots.specs.declared.shape.Served.{Served}
use Rattle.thread_slots.specs.declared.requests.Requests.{Requests}
use Rattle.thread_slots.specs.Requests.{group, BeginsAsking, BeginsLinked, RequestStands}
use Rattle.thread_slots.specs.Services.{number_width, value_count}
use Rattle.thread_asks.specs.Met.{NamesMet}
use Rattle.thread_asks.proofs.Asks.{ask_links_after}
use Rattle.thread_requests.specs.Early.{BeginsLinkedOf}

-- requests that name this barrier
abbrev pub naming : Requests → ℕ → Requests
naming c met = record c { barrier = record c.barrier { object = met } }

pub begins_met : (code : ThreadCode) (registers : Registers) (served : Served) (words : List ℕ) (a b d : List Signal) (c : Requests) (met n : ℕ)
    → BeginsAsking a b served words c → NamesMet code registers n b d met → BeginsAsking a d served words (naming c met)
begins_met code registers served words a b d c met n t u = record {
  grows = grows_then a b d t.grows u.grows;
  bits = bits;
  counts = counts;
  many = t.many;
  silent = silent;
  nothing = λ m r j g o less. t.nothing m r j (back m g) o less;
}
  where
    back : (m : Module) → Grows d m.signals → Grows b m.signals
    back m g = grows_then b d m.signals u.grows g

    bits : (s : Service) (m : Module) → Grows d m.signals → width m (group (naming c met) s).wants ≡ 1
    bits Mutex m g = t.bits Mutex m (back m g)
    bits Barrier m g = t.bits Barrier m (back m g)
    bits ThreadIds m g = t.bits ThreadIds m (back m g)
    bits Printer m g = t.bits Printer m (back m g)

    counts : (s : Service) → length (group (naming c met) s).fields ≡ suc (value_count served s)
    counts Mutex = t.counts Mutex
    counts Barrier = t.counts Barrier
    counts ThreadIds = t.counts ThreadIds
    counts Printer = t.counts Printer

    silent : (s : Service) (m : Module) (r : Reading) → Grows d m.signals → Obeys m r → r.signal (group (naming c met) s).wants ≡ 0
    silent Mutex m r g o = t.silent Mutex m r (back m g) o
    silent Barrier m r g o = t.silent Barrier m r (back m g) o
    silent ThreadIds m r g o = t.silent ThreadIds m r (back m g) o
    silent Printer m r g o = t.silent Printer m r (back m g) o

pub linked_met : (code : ThreadCode) (registers : Registers) (served : Served) (words : List ℕ) (a b d : List Signal) (c : Requests) (met : ℕ)
    → BeginsLinked a b served words c → NamesMet code registers (length code.stages) b d met → BeginsLinkedOf code registers served words a d (naming c met)
linked_met code registers served words a b d c met t u base globals spreads bits wide own slots low high fit one two three have =
    let first = t base code registers globals spreads bits wide own slots low high fit one two three have in
    let named = u.wired (omega arith) base first.linked.slots in
    let later = ask_links_after globals spreads code registers base served bits wide own b d c named.wires.grows first.linked in
    record {
      wires = wires_then base a b d first.wires named.wires;
      linked = record {
        slots = later.slots;
        site_low = later.site_low;
        site_high = later.site_high;
        requests = requests base later.requests named.stands;
        banks = later.banks;
        widths = later.widths;
      };
    }
  where
    requests : (base : Base) → ((s : Service) → RequestStands base d (number_width served s) (group c s)) → IsEarlier d base met 64 → (s : Service)
        → RequestStands base d (number_width served s) (group (naming c met) s)
    requests base stand there Mutex = stand Mutex
    requests base stand there Barrier = let own = stand Barrier in record { wants = own.wants; object = there; fields = own.fields }
    requests base stand there ThreadIds = stand ThreadIds
    requests base stand there Printer = stand Printer
