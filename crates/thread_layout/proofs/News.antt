-- What is heard of the cores of acts, and where they tell it.
use Rattle.std.proofs.Common.{◌≡◌, ℕ, zero, suc, ◌+◌, ◌<◌, ◌≤◌, Bool, nat_eq, if◌then◌else◌, List, [], ◌∷◌, ◌++◌, length, map, slice_get, Some}
use Rattle.std.proofs.Common.{refl, ap, subst, ◌∙◌, arith}
use Rattle.std.specs.Prelude.{option_map, replicate}
use Rattle.std.proofs.lemmas.Option.{slice_get_within, slice_get-map, get_or_from_slice_get}
use Rattle.hls_ints.specs.Residues.{bit_of}
use Rattle.hls_ints.specs.Types.{width_of}
use Rattle.block_ir.specs.declared.code.ThreadCode.{ThreadCode}
use Rattle.block_ir.specs.declared.plan.Planned.{Planned}
use Rattle.block_ir.specs.Asked.{barrier_core, thread_ids_core}
use Rattle.block_ir.specs.declared.service.Service.{Service}
use Rattle.block_ir.specs.declared.service.Service.TheVariants.{Mutex, Barrier, ThreadIds, Printer}
use Rattle.netlist.specs.declared.netlist.Source.TheVariants.{Input}
use Rattle.netlist.specs.declared.netlist.Module.{Module}
use Rattle.verilog_meaning.specs.Readings.{Reading, width}
use Rattle.circuit.specs.Modules.{Obeys}
use Rattle.thread_promise.specs.Globals.{bank_total}
use Rattle.block_datapath.specs.declared.registers.Held.{Held}
use Rattle.leaf_machine.specs.Ports.{CorePort, told_place}
use Rattle.thread_slots.specs.declared.shape.Served.{Served}
use Rattle.thread_slots.specs.declared.shape.Shape.{Shape}
use Rattle.thread_slots.specs.Bits.{HasBit}
use Rattle.thread_slots.specs.Services.{services, news_widths}
use Rattle.thread_slots.specs.Slots.{StandsAt}
use Rattle.thread_slots.proofs.LaidRegisters.{stands_later}
use Rattle.thread_requests.specs.Early.{spread_out}
use Rattle.thread_layout.specs.Leaf.{served_ports}
use Rattle.thread_layout.specs.Modules.{IsModule}
use Rattle.thread_layout.specs.Telling.{heard_place}
use Rattle.thread_layout.specs.Thread.{numbers_of, cores_of, bank_port, act_port, core_ports, IsServed}
use Rattle.thread_layout.proofs.Placed.{wide_bit, stands_wide, from_heard, from_inputs, bank_count, ports_long, ports_count}

-- ---- where a core tells what

bank_front : (ws : List ℕ) (ps : List CorePort) (k : ℕ) → told_place (map bank_port ws ++ ps) (length ws + k) ≡ length ws + told_place ps k
bank_front [] ps k = ap (told_place ps) (let z : 0 + k ≡ k = omega arith in z) ∙ (let z : told_place ps k ≡ 0 + told_place ps k = omega arith in z)
bank_front (w ∷ ws) ps k =
    let rest = bank_front ws ps k in
    let at : length (w ∷ ws) + k ≡ suc (length ws + k) = omega arith in
    let next : told_place (map bank_port (w ∷ ws) ++ ps) (suc (length ws + k)) ≡ suc (told_place (map bank_port ws ++ ps) (length ws + k)) = refl in
    ap (told_place (map bank_port (w ∷ ws) ++ ps)) at ∙ next ∙ (let z : suc (told_place (map bank_port ws ++ ps) (length ws + k)) ≡ length (w ∷ ws) + told_place ps k = omega arith in z)

bank_place : (ws : List ℕ) (ps : List CorePort) (n : ℕ) → n ≤ length ws → told_place (map bank_port ws ++ ps) n ≡ n
bank_place ws ps zero le = refl
bank_place [] ps (suc n) le = absurd (omega arith)
bank_place (w ∷ ws) ps (suc n) le =
    let next : told_place (map bank_port (w ∷ ws) ++ ps) (suc n) ≡ suc (told_place (map bank_port ws ++ ps) n) = refl in
    next ∙ ap suc (bank_place ws ps n (omega arith))

module _ (served : Served) where
  abbrev ports : List Service → List CorePort
  ports ks = map (act_port served) ks

  mutex_front : (n k : ℕ) (ks : List Service) → told_place (ports (replicate n Mutex ++ ks)) (n + k) ≡ told_place (ports ks) k
  mutex_front zero k ks = ap (told_place (ports ks)) (let z : 0 + k ≡ k = omega arith in z)
  mutex_front (suc n) k ks =
      let at : suc n + k ≡ suc (n + k) = omega arith in
      let next : told_place (ports (replicate (suc n) Mutex ++ ks)) (suc (n + k)) ≡ told_place (ports (replicate n Mutex ++ ks)) (n + k) = refl in
      ap (told_place (ports (replicate (suc n) Mutex ++ ks))) at ∙ next ∙ mutex_front n k ks

  barrier_place : (n j : ℕ) (ks : List Service) → j ≤ n → told_place (ports (replicate n Barrier ++ ks)) j ≡ j
  barrier_place n zero ks le = refl
  barrier_place zero (suc j) ks le = absurd (omega arith)
  barrier_place (suc n) (suc j) ks le =
      let next : told_place (ports (replicate (suc n) Barrier ++ ks)) (suc j) ≡ suc (told_place (ports (replicate n Barrier ++ ks)) j) = refl in
      next ∙ ap suc (barrier_place n j ks (omega arith))

module _ (shape : Shape) (code : ThreadCode) (plan : Planned) (m : Module) (t : IsModule shape code plan m) (served : IsServed shape code plan) where
  abbrev banks : ℕ
  banks = bank_total shape.spreads

  -- A BANK tells its word on the input of the word
  pub word_told : (n : ℕ) → n ≤ banks → ((served_ports shape m).bank n).word ≡ 2 + cores_of shape + n
  word_told n le =
      let ws = spread_out shape.spreads (map width_of shape.globals) in
      let have = bank_count shape code plan m t served in
      let at = bank_place ws (ports shape.served (services shape.served)) n (omega arith) in
      let count = ports_count shape code plan m t served in
      let z : 2 + length (core_ports shape) + (told_place (core_ports shape) n + 0) ≡ 2 + cores_of shape + n = omega arith in z

  -- behind mutexes and i barriers
  place_is : (i : ℕ) → i ≤ shape.served.barriers → told_place (core_ports shape) (banks + shape.served.mutexes + i) ≡ banks + i
  place_is i le =
      let ws = spread_out shape.spreads (map width_of shape.globals) in
      let count = bank_count shape code plan m t served in
      let at : banks + shape.served.mutexes + i ≡ length ws + (shape.served.mutexes + i) = omega arith in
      ap (told_place (core_ports shape)) at ∙ bank_front ws (ports shape.served (services shape.served)) (shape.served.mutexes + i)
      ∙ ap (λ z. length ws + z) (mutex_front shape.served shape.served.mutexes i _ ∙ barrier_place shape.served shape.served.barriers i _ le) ∙ ap (λ z. z + i) count

  -- on this input news number k are told
  abbrev pub news_input : ℕ → ℕ
  news_input k = 2 + cores_of shape + (banks + k)

  -- A BARRIER tells on it whether the thread waits
  pub bar_told : (i : ℕ) → i < shape.served.barriers → ((served_ports shape m).core (barrier_core (numbers_of shape) i)).told 0 ≡ news_input i
  bar_told i less =
      let at = place_is i (omega arith) in
      let count = ports_count shape code plan m t served in
      let z : 2 + length (core_ports shape) + (told_place (core_ports shape) (banks + shape.served.mutexes + i) + 0) ≡ news_input i = omega arith in z

  -- and behind barriers the core of the thread ids
  pub thread_ids_told : (j : ℕ) → ((served_ports shape m).core (thread_ids_core (numbers_of shape))).told j ≡ news_input (shape.served.barriers + j)
  thread_ids_told j =
      let at = place_is shape.served.barriers (omega arith) in
      let count = ports_count shape code plan m t served in
      let z : 2 + length (core_ports shape) + (told_place (core_ports shape) (banks + shape.served.mutexes + shape.served.barriers) + j)
      ≡ news_input (shape.served.barriers + j) = omega arith in z

  -- ---- what is heard

  pub record HasNews (k w : ℕ) : Type 0 where
    pub wide : width m (heard_place t.inside.news k) ≡ w
    pub shows : (r : Reading) → Obeys m r → r.signal (heard_place t.inside.news k) ≡ (if nat_eq (r.signal t.inside.early.need) 0 then 0 else r.signal (news_input k))
    pub stands : StandsAt m.signals (news_input k) w Input

  pub news_held : (k w : ℕ) → slice_get (news_widths shape.served) k ≡ Some w → HasNews k w
  news_held k w there =
      let f = t.laid.news_stand.each k w (slice_get_within (news_widths shape.served) k w there) there in
      let g = t.laid.hears_news.each k f.0 (slice_get_within t.laid.news k f.0 f.1) f.1 in
      let listed : slice_get (map (λ (h : Held). h.register) t.inside.news) k ≡ Some g.0.register =
      slice_get-map (λ (h : Held). h.register) t.inside.news k ∙ ap (option_map (λ (h : Held). h.register)) g.1 in
      let place : heard_place t.inside.news k ≡ g.0.register = get_or_from_slice_get (map (λ (h : Held). h.register) t.inside.news) k g.0.register 0 listed in
      let one = t.laid.words.long in
      let two = ports_long shape code plan m t served in
      let three = bank_count shape code plan m t served in
      let at : length t.laid.with_words + k ≡ news_input k = omega arith in
      record {
        wide = ap (width m) place ∙ g.2.wide m (from_heard shape code plan m t served) ∙ f.2;
        shows = λ r o.
            ap r.signal place ∙ g.2.shows m r (from_heard shape code plan m t served) o
            ∙ ap (λ z. if nat_eq (r.signal t.inside.early.need) 0 then 0 else r.signal z) (f.3 ∙ at);
        stands =
            subst (λ n. StandsAt m.signals n w Input) at
            (stands_later t.laid.with_inputs m.signals (length t.laid.with_words + k) w Input (from_inputs shape code plan m t served) f.4);
      }

  module _ (r : Reading) (o : Obeys m r) (need : r.signal t.inside.early.need ≡ 1) where
    -- where a core is needed that is what is told
    pub news_shown : (k w : ℕ) → HasNews k w → r.signal (heard_place t.inside.news k) ≡ r.signal (news_input k)
    news_shown k w h = h.shows r o ∙ ap (λ z. if nat_eq z 0 then 0 else r.signal (news_input k)) need

    pub news_bit : (k : ℕ) → HasNews k 1 → (b : Bool) × (r.signal (news_input k) ≡ bit_of b) × HasBit m r (heard_place t.inside.news k) b
    news_bit k h =
        let b = wide_bit m r (news_input k) o (stands_wide m (news_input k) 1 Input h.stands) in
        (b.0, b.1, record { wide = h.wide; shows = news_shown k 1 h ∙ b.1 })
