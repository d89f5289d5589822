-- A thread's module has the ports of the program's cores.
use Rattle.std.proofs.Common.{◌≡◌, ℕ, zero, suc, ◌+◌, ◌<◌, Bool, true, false, if◌then◌else◌, List, [], ◌∷◌, ◌++◌, length, map, replicate, take, Some, refl, sym, ap, ◌∙◌, arith}
use Rattle.std.specs.Prelude.{slice_get, option_map}
use Rattle.std.proofs.lemmas.List.{length-map, map-append}
use Rattle.std.proofs.lemmas.Option.{none-some, same_Some, slice_get-map}
use Rattle.hls_ints.specs.Types.{width_of}
use Rattle.c_program.specs.Tree.{Program}
use Rattle.bank_partition.specs.declared.banks.Spread.{Spread}
use Rattle.bank_cores.specs.declared.bank.Shape.{Shape as BankShape}
use Rattle.mutex_cores.specs.declared.mutex.Shape.{Shape as MutexShape}
use Rattle.leaf_machine.specs.Ports.{CorePort}
use Rattle.core_family.specs.Family.{CoreKind, Bank, Mutex, Printer, machine_at, port_of}
use Rattle.core_family.proofs.OnePrinter.{each_fits}
use Rattle.core_family.specs.declared.cores.Cores.{Cores}
use Rattle.core_family.specs.Kinds.{barrier, thread_ids, thread_ids_kinds, kinds_of}
use Rattle.thread_promise.specs.Globals.{bank_total}
use Rattle.law_banks.specs.Partition.{globals_of, ArePartitioned}
use Rattle.law_banks.proofs.Partitioned.{total, bank_is, type_here}
use Rattle.block_ir.specs.declared.service.Service.{Service}
use Rattle.block_ir.specs.declared.service.Service.TheVariants.{Mutex, Barrier, ThreadIds, Printer}
use Rattle.thread_slots.specs.Services.{if_thread_ids, services}
use Rattle.fsm_datapath.specs.SoundLeaf.{parts_of, tells_of}
use Rattle.fsm_datapath.specs.Thread.{AreRightSpreads, bank_port, act_port, core_ports}
use Rattle.fsm_datapath.proofs.SpreadBanks.{spread_there, spread_count}
use Rattle.fsm_datapath.specs.Early.{spread_out}
use Rattle.program_bodies.specs.Bodies.{served_by, shape_of}

list_same : {X : Type 0} (xs ys : List X) → length xs ≡ length ys → ((k : ℕ) (x : X) → slice_get ys k ≡ Some x → slice_get xs k ≡ Some x) → xs ≡ ys
list_same [] [] e f = refl
list_same [] (y ∷ ys) e f = absurd (omega arith)
list_same (x ∷ xs) [] e f = absurd (omega arith)
list_same (x ∷ xs) (y ∷ ys) e f =
    let same : x ≡ y = (let z = f 0 y refl in cc) in
    ap (λ z. z ∷ xs) same ∙ ap (λ l. y ∷ l) (list_same xs ys (omega arith) (λ k z there. f (suc k) z there))

width_at : (banks : List BankShape) (n w : ℕ) → slice_get (map (λ (b : BankShape). b.width) banks) n ≡ Some w → (b : BankShape) × (slice_get banks n ≡ Some b) × (b.width ≡ w)
width_at [] n w e = absurd (none-some w e)
width_at (b ∷ banks) zero w e = (b, refl, same_Some b.width w e)
width_at (b ∷ banks) (suc n) w e = width_at banks n w e

-- ---- the cores that acts ask

mutex_ports : (w : Cores) (ms : List MutexShape) → map (act_port (served_by w)) (replicate (length ms) Mutex) ≡ map port_of (map Mutex ms)
mutex_ports w [] = refl
mutex_ports w (m ∷ ms) = ap (λ (l : List CorePort). port_of (Mutex m) ∷ l) (mutex_ports w ms)

barrier_ports : (w : Cores) (n : ℕ) → map (act_port (served_by w)) (replicate n Barrier) ≡ map port_of (replicate n (barrier w))
barrier_ports w zero = refl
barrier_ports w (suc n) = ap (λ (l : List CorePort). port_of (barrier w) ∷ l) (barrier_ports w n)

last_ports : (w : Cores) (on : Bool) → map (act_port (served_by w)) (if_thread_ids on (ThreadIds ∷ []) ++ Printer ∷ []) ≡ map port_of ((if on then thread_ids w ∷ [] else []) ++ (Printer w.printer ∷ []))
last_ports w true = refl
last_ports w false = refl

bank_ports : (bs : List BankShape) → map bank_port (map (λ (b : BankShape). b.width) bs) ≡ map port_of (map Bank bs)
bank_ports [] = refl
bank_ports (b ∷ bs) = ap (λ (l : List CorePort). port_of (Bank b) ∷ l) (bank_ports bs)

abbrev act : Cores → Service → CorePort
act w k = act_port (served_by w) k

act_ports : (w : Cores) → map (act w) (services (served_by w)) ≡ map port_of (map Mutex w.mutexes ++ (replicate w.barriers (barrier w) ++ (thread_ids_kinds w ++ (Printer w.printer ∷ []))))
act_ports w =
    map-append (act w) (replicate (length w.mutexes) Mutex) (replicate w.barriers Barrier ++ (if_thread_ids w.thread_ids (ThreadIds ∷ []) ++ Printer ∷ []))
    ∙ ap (λ (l : List CorePort). l ++ map (act w) (replicate w.barriers Barrier ++ (if_thread_ids w.thread_ids (ThreadIds ∷ []) ++ Printer ∷ []))) (mutex_ports w w.mutexes)
    ∙ ap (λ (l : List CorePort). map port_of (map Mutex w.mutexes) ++ l)
    (map-append (act w) (replicate w.barriers Barrier) (if_thread_ids w.thread_ids (ThreadIds ∷ []) ++ Printer ∷ [])
    ∙ ap (λ (l : List CorePort). l ++ map (act w) (if_thread_ids w.thread_ids (ThreadIds ∷ []) ++ Printer ∷ [])) (barrier_ports w w.barriers)
    ∙ ap (λ (l : List CorePort). map port_of (replicate w.barriers (barrier w)) ++ l) (last_ports w w.thread_ids)
    ∙ sym (map-append port_of (replicate w.barriers (barrier w)) (thread_ids_kinds w ++ (Printer w.printer ∷ []))))
    ∙ sym (map-append port_of (map Mutex w.mutexes) (replicate w.barriers (barrier w) ++ (thread_ids_kinds w ++ (Printer w.printer ∷ []))))

-- ---- parts

pub parts_fit : (shapes : List CoreKind) (k : ℕ) → k < length shapes → (machine_at shapes k).parts ≡ parts_of (map port_of shapes) k
parts_fit [] k l = absurd (omega (arith, l))
parts_fit (s ∷ shapes) zero l = (each_fits s).asks
parts_fit (s ∷ shapes) (suc k) l = parts_fit shapes k (omega (arith, l))

pub told_fit : (shapes : List CoreKind) (k : ℕ) → k < length shapes → (machine_at shapes k).told ≡ tells_of (map port_of shapes) k
told_fit [] k l = absurd (omega (arith, l))
told_fit (s ∷ shapes) zero l = (each_fits s).told
told_fit (s ∷ shapes) (suc k) l = told_fit shapes k (omega (arith, l))

module _ (P : Program) (spreads : List Spread) (w : Cores) (banked : ArePartitioned P w.threads spreads w.banks) (right : AreRightSpreads (globals_of P) spreads) where
  abbrev own : List ℕ
  own = spread_out spreads (map width_of (globals_of P))

  abbrev words : List ℕ
  words = map (λ (b : BankShape). b.width) w.banks

  wide : length words ≡ bank_total spreads
  wide = length-map w.banks (λ (b : BankShape). b.width) ∙ sym (total P w.threads spreads w.banks banked)

  own_count : length own ≡ bank_total spreads
  own_count = spread_count spreads (map width_of (globals_of P)) (length-map (globals_of P) width_of ∙ sym right.count)

  -- the words of the banks are as wide as the types of their globals
  same_words : own ≡ words
  same_words =
      list_same own words (own_count ∙ sym wide)
      (λ n v e.
      let b = width_at w.banks n v e in
      let is = bank_is P w.threads spreads w.banks banked n b.0 b.1 in
      let declared : slice_get (map width_of (globals_of P)) is.x ≡ Some (width_of is.global.ty) =
      slice_get-map width_of (globals_of P) is.x ∙ ap (option_map width_of) (type_here P w.threads spreads w.banks banked is.x is.global is.declared) in
      let at : bank_total (take is.x spreads) + is.k ≡ n = ap (λ z. z + is.k) (sym (right.firsts is.x is.spread is.listed)) ∙ sym is.place in
      ap (slice_get own) (sym at) ∙ spread_there spreads (map width_of (globals_of P)) is.x is.k (width_of is.global.ty) is.spread is.listed declared is.below
      ∙ ap Some (sym is.width ∙ b.2))

  pub ports_are : (main : Bool) (name : List ℕ) → core_ports (shape_of P spreads w main name) ≡ map port_of (kinds_of w)
  ports_are main name =
      ap (λ (l : List ℕ). map bank_port l ++ map (act_port (served_by w)) (services (served_by w))) same_words
      ∙ ap (λ (l : List CorePort). l ++ map (act_port (served_by w)) (services (served_by w))) (bank_ports w.banks)
      ∙ ap (λ (l : List CorePort). map port_of (map Bank w.banks) ++ l) (act_ports w)
      ∙ sym (map-append port_of (map Bank w.banks) (map Mutex w.mutexes ++ (replicate w.barriers (barrier w) ++ (thread_ids_kinds w ++ (Printer w.printer ∷ [])))))
