-- The table of a program's parts is whole.
use Rattle.std.proofs.Common.{◌≡◌, ℕ, ◌^◌, ◌<◌, ◌≤◌, List, length, Some, sym, ap, ◌∙◌, subst, arith}
use Rattle.std.specs.Prelude.{slice_get, sum_by}
use Rattle.std.proofs.lemmas.Option.{same_Some, slice_get_within}
use Rattle.c_program.specs.Tree.{Program}
use Rattle.c_program.specs.declared.tree.ThreadObject.{ThreadObject}
use Rattle.bank_partition.specs.declared.banks.Spread.{Spread}
use Rattle.bank_cores.specs.declared.bank.Shape.{Shape as BankShape}
use Rattle.netlist.specs.declared.netlist.Module.{Module}
use Rattle.circuit.specs.Rows.{EachOf}
use Rattle.circuit.specs.Interfaces.{IsTableModule}
use Rattle.leaf_machine.specs.Standing.{IsSilent}
use Rattle.block_ir.specs.Asked.{printer_core}
use Rattle.law_banks.proofs.Partitioned.{bank_is, count_low}
use Rattle.leaf_machine.specs.Ports as port
use Rattle.core_tables.specs.Family.{CoreKind, Bank, Mutex, Barrier, ThreadIds, Printer}
use Rattle.core_tables.specs.Tables.{PlacedCore, Table, HasCores, IsNarrow, IsArbiterModule, kinds_in, ports_of}
use Rattle.core_tables.specs.Laws.{SameOf, IsLow, StandOnce, HasPrinter}
use Rattle.core_tables.specs.Whole.{IsThreadName, HasRoutines, IsWholeTable}
use Rattle.core_tables.proofs.Lists.{map_back, map_get, each_of}
use Rattle.law_cycle.specs.Built.{Parts, IsBuilt}
use Rattle.law_cycle.specs.Bodies.{numbers_of, core_at, core_count}
use Rattle.law_cycle.proofs.Listed.{printer_at, bank_back, thread_ids_back, printer_back}
use Rattle.net_emitter.proofs.CoresPlaced.{narrow}
use Rattle.net_emitter.specs.Placing.{IsNumbered}
use Rattle.law_net.proofs.ThreadsStand.{count_there, routine_there}
use Rattle.law_net.specs.Tables.{IsLaidTable, LaidTablesAreWhole}
use Rattle.law_net.proofs.NamesApart.{same_name}

module _ (P : Program) (K : Parts) (built : IsBuilt P K) where
  -- ---- banks

  pub same_bank : (i j : ℕ) (b d : BankShape) → slice_get K.cores.banks i ≡ Some b → slice_get K.cores.banks j ≡ Some d → b.name ≡ d.name → b.number ≡ d.number → i ≡ j
  same_bank i j b d e f name number =
      let one = bank_is P K.cores.threads K.spreads K.cores.banks built.banked i b e in
      let two = bank_is P K.cores.threads K.spreads K.cores.banks built.banked j d f in
      let x : one.x ≡ two.x = same_name P built.resolved one.x two.x one.global two.global one.declared two.declared (sym one.named ∙ name ∙ two.named) in
      let listed : Some one.spread ≡ Some two.spread = sym one.listed ∙ ap (slice_get K.spreads) x ∙ two.listed in
      let same : one.spread ≡ two.spread = cc in
      let first = ap (λ (z : Spread). z.first) same in
      let at = one.place in let to = two.place in let k = one.number in let l = two.number in
      omega (arith, first, at, to, k, l, number)

  low_bank : (i : ℕ) (b : BankShape) → slice_get K.cores.banks i ≡ Some b → b.number < 2 ^ 64
  low_bank i b e =
      let one = bank_is P K.cores.threads K.spreads K.cores.banks built.banked i b e in
      let most = count_low P K.cores.threads K.spreads K.cores.banks built.banked one.x one.spread one.listed in
      let less = one.below in let number = one.number in omega (arith, most, less, number)

module _ (P : Program) (K : Parts) (t : Table) (built : IsBuilt P K) (is : IsLaidTable K t) where
  -- ---- cores

  core_is : (k : ℕ) (c : PlacedCore) → slice_get t.cores k ≡ Some c → core_at K.cores k ≡ Some c.kind
  core_is k c e = ap (λ (l : List CoreKind). slice_get l k) (sym is.shapes) ∙ map_get (λ (z : PlacedCore). z.kind) t.cores k c e

  count : length t.cores ≡ core_count K.cores
  count = count_there P K t built is.shapes

  below : (k : ℕ) (c : PlacedCore) → slice_get t.cores k ≡ Some c → k < 2 ^ 15
  below k c e = let w = slice_get_within t.cores k c e in let n = count in let f = built.few_cores in omega (arith, w, n, f)

  some_threads : 1 ≤ K.cores.threads
  some_threads = let e = built.threads in let n = sum_by (λ (object : ThreadObject). object.length) P.threads in omega (arith, e)

  has_cores : HasCores t
  has_cores = record {
    some = (let e = is.threads.count in let s = some_threads in omega (arith, e, s));
    few_threads = (let e = is.threads.count in let f = built.few_threads in omega (arith, e, f));
    few_cores = (let e = count in let f = built.few_cores in omega (arith, e, f));
    narrow = each_of (λ (c : PlacedCore). IsNarrow c.kind) t.cores (λ k c e. narrow K.cores is.narrow k c.kind (core_is k c e));
    granting = subst (λ n. IsArbiterModule n t.arbiter) (sym is.threads.count) is.granting;
    each = is.each;
    threads = λ i number e. slice_get_within t.routines number (K.bodies i).body (is.threads.runs i number e);
  }

  -- ---- each stands once

  low : (k : ℕ) (s : CoreKind) (n : ℕ) → core_at K.cores k ≡ Some s → IsNumbered K.cores k s n → k < 2 ^ 15 → IsLow s n
  low k (Bank s) n e numbered few = low_bank P K built k s (bank_back K.cores k s e)
  low k (Mutex s) n e numbered few = omega (arith, numbered, few)
  low k (Barrier s) n e numbered few = omega (arith, numbered, few)
  low k (ThreadIds s) n e numbered few = omega (arith, numbered)
  low k (Printer s) n e numbered few = omega (arith, numbered)

  once : (k l : ℕ) (s : CoreKind) (n : ℕ) (r : CoreKind) (m : ℕ) → core_at K.cores k ≡ Some s → core_at K.cores l ≡ Some r → IsNumbered K.cores k s n → IsNumbered K.cores l r m → SameOf s n r m → k ≡ l
  once k l (Bank s) n (Bank r) m e f g h same = same_bank P K built k l s r (bank_back K.cores k s e) (bank_back K.cores l r f) same.0 same.1
  once k l (Bank s) n (Mutex r) m e f g h same = absurd same
  once k l (Bank s) n (Barrier r) m e f g h same = absurd same
  once k l (Bank s) n (ThreadIds r) m e f g h same = absurd same
  once k l (Bank s) n (Printer r) m e f g h same = absurd same
  once k l (Mutex s) n (Bank r) m e f g h same = absurd same
  once k l (Mutex s) n (Mutex r) m e f g h same = omega (arith, g, h, same)
  once k l (Mutex s) n (Barrier r) m e f g h same = absurd same
  once k l (Mutex s) n (ThreadIds r) m e f g h same = absurd same
  once k l (Mutex s) n (Printer r) m e f g h same = absurd same
  once k l (Barrier s) n (Bank r) m e f g h same = absurd same
  once k l (Barrier s) n (Mutex r) m e f g h same = absurd same
  once k l (Barrier s) n (Barrier r) m e f g h same = omega (arith, g, h, same)
  once k l (Barrier s) n (ThreadIds r) m e f g h same = absurd same
  once k l (Barrier s) n (Printer r) m e f g h same = absurd same
  once k l (ThreadIds s) n (Bank r) m e f g h same = absurd same
  once k l (ThreadIds s) n (Mutex r) m e f g h same = absurd same
  once k l (ThreadIds s) n (Barrier r) m e f g h same = absurd same
  once k l (ThreadIds s) n (ThreadIds r) m e f g h same = thread_ids_back K.cores k s e ∙ sym (thread_ids_back K.cores l r f)
  once k l (ThreadIds s) n (Printer r) m e f g h same = absurd same
  once k l (Printer s) n (Bank r) m e f g h same = absurd same
  once k l (Printer s) n (Mutex r) m e f g h same = absurd same
  once k l (Printer s) n (Barrier r) m e f g h same = absurd same
  once k l (Printer s) n (ThreadIds r) m e f g h same = absurd same
  once k l (Printer s) n (Printer r) m e f g h same = printer_back K.cores k s e ∙ sym (printer_back K.cores l r f)

  stand_once : StandOnce t
  stand_once = record {
    low = λ k c e. low k c.kind c.number (core_is k c e) (is.numbered k c e) (below k c e);
    once = λ k l c d e f same. once k l c.kind c.number d.kind d.number (core_is k c e) (core_is l d f) (is.numbered k c e) (is.numbered l d f) same;
  }

  -- ---- threads

  -- a module of a thread is one of the parts
  record IsPart (m : Module) : Type 0 where
    i : ℕ
    below_ : i < K.cores.threads
    same : (K.bodies i).body ≡ m

  part_of : (number : ℕ) (m : Module) → slice_get t.routines number ≡ Some m → IsPart m
  part_of number m e =
      let u = is.threads.run number m e in
      record {
        i = u.0;
        below_ = (let w = slice_get_within t.threads u.0 number u.1 in let n = is.threads.count in omega (arith, w, n));
        same = same_Some (K.bodies u.0).body m (sym (is.threads.runs u.0 number u.1) ∙ e);
      }

  has_routines : HasRoutines t
  has_routines = record {
    stands = λ number m e.
        let p = part_of number m e in
        subst (λ (z : Module). IsTableModule z (port.thread_inputs (ports_of t)) (port.thread_outputs (ports_of t))) p.same (routine_there P K t built is.shapes p.i p.below_).stands;
    named = λ number m e. let p = part_of number m e in subst (λ (z : Module). IsThreadName z.name) p.same (is.threads.named p.i p.below_);
    apart = is.threads.apart;
  }

  -- the core that is the printer
  has_printer : HasPrinter t
  has_printer =
      let at : slice_get (kinds_in t) (printer_core (numbers_of K.cores)) ≡ Some (Printer K.cores.printer) =
      ap (λ (l : List CoreKind). slice_get l (printer_core (numbers_of K.cores))) is.shapes ∙ printer_at K.cores in
      let c = map_back (λ (z : PlacedCore). z.kind) t.cores (printer_core (numbers_of K.cores)) (Printer K.cores.printer) at in
      record {
        silent = λ number m e. let p = part_of number m e in subst (λ (z : Module). EachOf IsSilent z.actions) p.same (built.bodies p.i p.below_).1.routine.silent;
        used = is.used;
        place = printer_core (numbers_of K.cores);
        core = c.0;
        shape = K.cores.printer;
        listed = c.1;
        is = sym c.2;
      }

  pub is_whole : IsWholeTable t
  is_whole = record { cores = has_cores; once = stand_once; kinds = is.kinds; printer = has_printer; routines = has_routines }

pub laid_tables_are_whole : LaidTablesAreWhole
laid_tables_are_whole P K t built is = is_whole P K t built is
