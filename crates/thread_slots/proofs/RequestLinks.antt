-- What is asked of cores: the first links, and one more link.
use Rattle.std.proofs.Common.{◌≡◌, ℕ, List, zero, suc, ◌<◌, ◌≤◌, ◌^◌, ◌∷◌, length, Some, refl, sym, ap, subst, ◌∙◌, arith}
use Rattle.std.specs.Prelude.{replicate, slice_get}
use Rattle.hls_ints.specs.Words.{word_inclusive_or}
use Rattle.block_ir.specs.declared.service.Service.{Service}
use Rattle.block_ir.specs.declared.service.Service.TheVariants.{Mutex, Barrier, ThreadIds, Printer}
use Rattle.netlist.specs.declared.netlist.Signal.{Signal}
use Rattle.netlist.specs.declared.netlist.Module.{Module}
use Rattle.verilog_meaning.specs.Readings.{Reading, width}
use Rattle.circuit.specs.Modules.{Obeys}
use Rattle.operator_wires.specs.Gives.{Grows, Gives}
use Rattle.operator_wires.specs.Built.{Base}
use Rattle.operator_wires.specs.Added.{BothAdds, ConstantAdds}
use Rattle.thread_slots.specs.declared.requests.Request.{Request}
use Rattle.thread_slots.specs.declared.requests.Requests.{Requests}
use Rattle.thread_slots.specs.declared.shape.Served.{Served}
use Rattle.thread_slots.specs.Requests.{group, IsAskBit, WantsRequest, BitIsLinked, RequestStands, BeginsRequest, BeginsAsking, BeginsLinked}
use Rattle.thread_slots.proofs.NextLink.{bit_added}
use Rattle.std.proofs.lemmas.Option.{slice_get_within}
use Rattle.operator_wires.proofs.PutSignals.{grows_then}
use Rattle.operator_wires.proofs.BuiltWires.{stands_after, wires_then, room_of, longer}
use Rattle.block_datapath.specs.Requests.{AsksNothing, AreZeroChains, AreEmptyChains, ShowsZeros, HaveWidths}
use Rattle.thread_slots.specs.Wired.{field_width}
use Rattle.thread_slots.specs.Services.{number_width, value_count}
use Rattle.thread_slots.proofs.Linked.{slots_later, later_field, fields_later}
use Rattle.thread_slots.proofs.Taken.{fields_held, fields_count, held_there, held_is}

-- ---- bits

pub request_wanted : (a b : List Signal) (before after : Request) (condition : ℕ)
    → Gives a b after.wants 1 (λ m r. word_inclusive_or (width m before.wants) (r.signal before.wants) (r.signal condition)) → after ≡ record before { wants = after.wants }
    → WantsRequest a b before after condition
request_wanted a b before after condition t same = record { grows = t.grows; bit = bit_added a b before.wants after.wants condition t; same = same }

pub request_linked : (a b : List Signal) (before after : Request) (condition : ℕ) → BothAdds a b before.wants condition after.wants → BitIsLinked a b before after condition
request_linked a b before after condition t base wants bit = let made = t base wants bit in record { wires = made.wires; wants = made.stands }

-- ---- nothing is asked

pub request_later : (base : Base) (a b : List Signal) (w : ℕ) (q : Request) → Grows a b → RequestStands base a w q → RequestStands base b w q
request_later base a b w q g t = record {
  wants = stands_after a b base q.wants 1 g t.wants;
  object = stands_after a b base q.object 64 g t.object;
  fields = fields_later base a b g w q.fields t.fields;
}

field_there : (w values k y : ℕ) → slice_get (w ∷ replicate values 64) k ≡ Some y → y ≡ field_width w k
field_there w values zero y e = let same : w ≡ y = cc in sym same
field_there w zero (suc k) y e = absurd cc
field_there w (suc values) (suc zero) y e = let same : 64 ≡ y = cc in sym same ∙ sym (later_field w zero)
field_there w (suc values) (suc (suc k)) y e = field_there w values (suc k) y e ∙ later_field w k ∙ sym (later_field w (suc k))

fields_long : (w values : ℕ) → length (w ∷ replicate values 64) ≡ suc values
fields_long w zero = refl
fields_long w (suc values) = ap suc (fields_long w values)

-- a: before, b: the bit, c: the object, d: the fields
pub begins_request : (a b c d : List Signal) (w values : ℕ) (widths : List ℕ) (q : Request) → widths ≡ w ∷ replicate values 64 → Gives a b q.wants 1 (λ m r. 0)
    → Grows b c → ShowsZeros c d (length widths) q.fields → ConstantAdds a b 1 0 q.wants → ConstantAdds b c 64 0 q.object → AreZeroChains c d widths q.fields
    → BeginsRequest a d w values q
begins_request a b c d w values widths q are bit object zeros bit_adds object_adds zeros_added =
    let from_b = grows_then b c d object zeros.grows in
    let long : length widths ≡ suc values = ap length are ∙ fields_long w values in
    record {
      grows = grows_then a b d bit.grows from_b;
      bit = λ m g. bit.wide m (grows_then b d m.signals from_b g);
      count = zeros.count ∙ long;
      silent = λ m r g o. bit.shows m r (grows_then b d m.signals from_b g) o;
      wired = λ base room low high.
          let one : 0 < 2 ^ 1 = omega arith in
          let more : 0 < 2 ^ 64 = omega arith in
          let t = bit_adds base room (omega arith) (omega arith) one in
          let room_b : base.first ≤ length b = (let l = longer a b t.wires.grows in omega arith) in
          let u = object_adds base room_b (omega arith) (omega arith) more in
          let room_c : base.first ≤ length c = (let l = longer b c u.wires.grows in omega arith) in
          let there : (k y : ℕ) → slice_get widths k ≡ Some y → y ≡ field_width w k = λ k y e. field_there w values k y (ap (λ l. slice_get l k) (sym are) ∙ e) in
          let held : HaveWidths (fields_held w (length widths)) widths = record {
            count = fields_count w (length widths);
            each = λ k y h at listed. held_is w (length widths) k h at ∙ sym (there k y listed);
          } in
          let v = zeros_added base (fields_held w (length widths)) room_c (λ k y listed. subst (λ n. (1 ≤ n) × (n ≤ 64)) (sym (there k y listed)) (field_fits w k low high)) held in
          record {
            wires = wires_then base a b d t.wires (wires_then base b c d u.wires v.wires);
            stands = record {
              wants = stands_after b d base q.wants 1 (grows_then b c d u.wires.grows v.wires.grows) t.stands;
              object = stands_after c d base q.object 64 v.wires.grows u.stands;
              fields = λ k y e.
                  let less : k < length widths = subst (λ n. k < n) zeros.count (slice_get_within q.fields k y e) in
                  v.chains.each k y _ (held_there w (length widths) k less) e;
            };
          };
    }
  where
    field_fits : (w k : ℕ) → 1 ≤ w → w ≤ 64 → (1 ≤ field_width w k) × (field_width w k ≤ 64)
    field_fits w zero low high = (low, high)
    field_fits w (suc k) low high = let wide = later_field w k in (subst (λ n. 1 ≤ n) (sym wide) (omega arith), subst (λ n. n ≤ 64) (sym wide) (omega arith))

-- a: before, then the mutexes' request, the barriers', that of the thread ids, the printer's, the banks'
module _ (a b c d e f : List Signal) (served : Served) (words : List ℕ) (x : Requests) (mutex : BeginsRequest a b 2 0 x.mutex) (barrier : BeginsRequest b c 2 1 x.barrier)
    (thread_ids : BeginsRequest c d 2 2 x.thread_ids) (printer : BeginsRequest d e served.printer.site_width served.printer.values x.printer) (banks : AsksNothing e f words x.banks) where
  from_d : Grows d f
  from_d = grows_then d e f printer.grows banks.grows

  from_c : Grows c f
  from_c = grows_then c d f thread_ids.grows from_d

  from_b : Grows b f
  from_b = grows_then b c f barrier.grows from_c

  pub begins_asking : BeginsAsking a f served words x
  begins_asking = record {
    grows = grows_then a b f mutex.grows from_b;
    bits = bits;
    counts = counts;
    many = banks.many;
    silent = silent;
    nothing = λ m r j g o less. banks.shows m r j g o less;
  }
    where
      bits : (s : Service) → IsAskBit f (group x s)
      bits Mutex m g = mutex.bit m (grows_then b f m.signals from_b g)
      bits Barrier m g = barrier.bit m (grows_then c f m.signals from_c g)
      bits ThreadIds m g = thread_ids.bit m (grows_then d f m.signals from_d g)
      bits Printer m g = printer.bit m (grows_then e f m.signals banks.grows g)

      counts : (s : Service) → length (group x s).fields ≡ suc (value_count served s)
      counts Mutex = mutex.count
      counts Barrier = barrier.count
      counts ThreadIds = thread_ids.count
      counts Printer = printer.count

      silent : (s : Service) (m : Module) (r : Reading) → Grows f m.signals → Obeys m r → r.signal (group x s).wants ≡ 0
      silent Mutex m r g o = mutex.silent m r (grows_then b f m.signals from_b g) o
      silent Barrier m r g o = barrier.silent m r (grows_then c f m.signals from_c g) o
      silent ThreadIds m r g o = thread_ids.silent m r (grows_then d f m.signals from_d g) o
      silent Printer m r g o = printer.silent m r (grows_then e f m.signals banks.grows g) o

  pub begins_linked : AreEmptyChains e f words x.banks → BeginsLinked a f served words x
  begins_linked w base code registers globals spreads bits wide own slots low high fit one two three have =
      let room_a = room_of a base registers.stage.register registers.stage.width slots.stage in
      let two_low : 1 ≤ 2 = omega arith in
      let two_high : 2 ≤ 64 = omega arith in
      let t = mutex.wired base room_a two_low two_high in
      let room_b : base.first ≤ length b = (let l = longer a b t.wires.grows in omega arith) in
      let u = barrier.wired base room_b two_low two_high in
      let room_c : base.first ≤ length c = (let l = longer b c u.wires.grows in omega arith) in
      let v = thread_ids.wired base room_c two_low two_high in
      let room_d : base.first ≤ length d = (let l = longer c d v.wires.grows in omega arith) in
      let p = printer.wired base room_d low high in
      let room_e : base.first ≤ length e = (let l = longer d e p.wires.grows in omega arith) in
      let k = w base bits wide own room_e fit one two three in
      let all = wires_then base a b f t.wires (wires_then base b c f u.wires (wires_then base c d f v.wires (wires_then base d e f p.wires k.wires))) in
      record {
        wires = all;
        linked = record {
          slots = slots_later base a f all.grows code registers slots;
          site_low = low;
          site_high = high;
          requests = requests base t.stands u.stands v.stands p.stands k.wires.grows;
          banks = k.chains;
          widths = have;
        };
      }
    where
      requests : (base : Base) → RequestStands base b 2 x.mutex → RequestStands base c 2 x.barrier → RequestStands base d 2 x.thread_ids
          → RequestStands base e served.printer.site_width x.printer → Grows e f → (s : Service) → RequestStands base f (number_width served s) (group x s)
      requests base t u v p g Mutex = request_later base b f 2 x.mutex from_b t
      requests base t u v p g Barrier = request_later base c f 2 x.barrier from_c u
      requests base t u v p g ThreadIds = request_later base d f 2 x.thread_ids from_d v
      requests base t u v p g Printer = request_later base e f served.printer.site_width x.printer g p
