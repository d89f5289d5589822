-- The printer's module alone writes, and it has one instance.
use Rattle.std.proofs.Common.{◌≡◌, ◌⊎◌, ℕ, ◌+◌, true, false, List, ◌++◌, length, map, Some, inl, inr, refl, sym, ap, ◌∙◌, subst, ⊎_elim, arith}
use Rattle.std.specs.Prelude.{slice_get}
use Rattle.std.proofs.lemmas.Option.{same_Some, none-some}
use Rattle.std.proofs.lemmas.List.{length-map}
use Rattle.netlist.specs.declared.netlist.Action.{Action}
use Rattle.netlist.specs.declared.netlist.Module.{Module}
use Rattle.netlist.specs.Sound.{is_write}
use Rattle.circuit.specs.Rows.{EachOf, spread}
use Rattle.leaf_machine.specs.Standing.{IsSilent}
use Rattle.top_parts.specs.declared.layout.Core.{Core}
use Rattle.top_parts.specs.declared.parts.Part.{Part}
use Rattle.top_wiring.specs.Parts.{ask_widths, thread_part, core_part, arbiter_part, parts}
use Rattle.top_wiring.specs.Sound.{WritesIn, IsOf}
use Rattle.top_wiring.proofs.Lists.{IsBehind, get_either, spread_back}
use Rattle.top_wiring.proofs.TopPlaces.{core_part_at}
use Rattle.core_family.specs.Family.{CoreKind, Bank, Mutex, Barrier, ThreadIds, Printer}
use Rattle.core_family.specs.Laws.{IsNoPrinter}
use Rattle.core_family.proofs.OnePrinter.{others_silent}
use Rattle.printer_cores.specs.declared.printer.Shape.{Shape as PrinterShape}
use Rattle.core_tables.specs.Tables.{PlacedCore, Table, HasCores, kinds_at, laid_core, layout_of, modules_of}
use Rattle.core_tables.specs.Laws.{SameOf, StandOnce, HasPrinter, OneWrites, PrintersWrite}
use Rattle.core_tables.proofs.Lists.{map_back, map_get, there, behind_one, InMiddle, InFront, TheOne, Behind, in_middle}

-- a shape is that of a printer or of none
either_kind : (s : CoreKind) → ((p : PrinterShape) × (s ≡ Printer p)) ⊎ IsNoPrinter s
either_kind (Bank s) = inr (λ p e. cc)
either_kind (Mutex s) = inr (λ p e. cc)
either_kind (Barrier s) = inr (λ p e. cc)
either_kind (ThreadIds s) = inr (λ p e. cc)
either_kind (Printer s) = inl (s, refl)

module _ (t : Table) (has : HasCores t) (stands : StandOnce t) (prints : HasPrinter t) where
  abbrev asks : List ℕ
  asks = ask_widths (layout_of t).cores

  abbrev T : ℕ
  T = length t.threads

  abbrev writer : ℕ
  writer = kinds_at t + prints.core.place

  -- ---- which module writes

  no_write : (m : Module) → EachOf IsSilent m.actions → (i : ℕ) (a : Action) → slice_get m.actions i ≡ Some a → is_write a.effect ≡ true → ⊥
  no_write m silent i a e w = let s : is_write a.effect ≡ false = there IsSilent m.actions silent i a e in let z : true ≡ false = sym w ∙ s in cc

  -- a core that writes is the printer
  is_printer : (k : ℕ) (c : PlacedCore) → slice_get t.cores k ≡ Some c → ((p : PrinterShape) × (c.kind ≡ Printer p)) → k ≡ prints.place
  is_printer k c e p =
      stands.once k prints.place c prints.core e prints.listed
      (subst (λ s. SameOf s c.number prints.core.kind prints.core.number) (sym p.1)
      (subst (λ s. SameOf (Printer p.0) c.number s prints.core.number) (sym prints.is) tt))

  -- the same core has the same kind
  same_kind : (k : ℕ) (c : PlacedCore) → slice_get t.cores k ≡ Some c → k ≡ prints.place → c.place ≡ prints.core.place
  same_kind k c e at =
      ap (λ (z : PlacedCore). z.place) (same_Some c prints.core (sym e ∙ ap (slice_get t.cores) at ∙ prints.listed))

  -- a module of a core that writes is a printer's
  writes_as : (k : ℕ) (c : PlacedCore) (m : Module) → slice_get t.cores k ≡ Some c → slice_get t.kinds c.place ≡ Some m →
      (i : ℕ) (a : Action) → slice_get m.actions i ≡ Some a → is_write a.effect ≡ true → k ≡ prints.place
  writes_as k c m e l i a f w =
      let its = has.each k c e in
      let same : its.body ≡ m = same_Some its.body m (sym its.listed ∙ l) in
      ⊎_elim (λ (p : (q : PrinterShape) × (c.kind ≡ Printer q)). is_printer k c e p)
      (λ (never : IsNoPrinter c.kind).
      absurd (no_write m (subst (λ (z : Module). EachOf IsSilent z.actions) same (others_silent T c.kind its.body its.is never)) i a f w))
      (either_kind c.kind)

  writer_is : (k : ℕ) → WritesIn (layout_of t) (modules_of t) k → k ≡ writer
  writer_is k w = by (in_middle t.routines t.arbiter t.kinds k w.module_ w.listed)
    where
      by : InMiddle t.routines t.arbiter t.kinds k w.module_ → k ≡ writer
      by (InFront l) = absurd (no_write w.module_ (prints.silent k w.module_ l) w.number w.action w.stands w.writes)
      by (TheOne at is) =
          absurd (none-some w.action
          (ap (λ l. slice_get l w.number) (sym has.granting.table.actions) ∙ ap (λ (z : Module). slice_get z.actions w.number) (sym is) ∙ w.stands))
      by (Behind j at l) =
          let u = prints.used j w.module_ l in
          let c = u.1 in
          let kind : c.place ≡ j = u.3 in
          let own : slice_get t.kinds c.place ≡ Some w.module_ = ap (slice_get t.kinds) kind ∙ l in
          let place = writes_as u.0 c w.module_ u.2 own w.number w.action w.stands w.writes in
          let same : c.place ≡ prints.core.place = same_kind u.0 c u.2 place in
          omega (arith, at, kind, same)

  -- ---- its instance

  abbrev printer_core : Core
  printer_core = laid_core (kinds_at t) prints.core

  printer_listed : slice_get (layout_of t).cores prints.place ≡ Some printer_core
  printer_listed = map_get (laid_core (kinds_at t)) t.cores prints.place prints.core prints.listed

  placed : (k : ℕ) → WritesIn (layout_of t) (modules_of t) k → (j : ℕ) × IsOf (layout_of t) (modules_of t) j k
  placed k w = (
    T + prints.place,
    record {
      part = core_part T printer_core;
      listed = core_part_at (layout_of t) prints.place printer_core printer_listed;
      is = sym (writer_is k w);
    },
  )

  -- an instance of a module that writes is the printer's
  its_place : (k i : ℕ) → WritesIn (layout_of t) (modules_of t) k → (p : Part) → slice_get (parts (layout_of t)) i ≡ Some p → p.of ≡ k → i ≡ T + prints.place
  its_place k i w p l of =
      ⊎_elim
      (λ (g : slice_get (map (thread_part asks) t.threads ++ map (core_part T) (layout_of t).cores) i ≡ Some p).
      ⊎_elim
      (λ (f : slice_get (map (thread_part asks) t.threads) i ≡ Some p). absurd (of_thread f))
      (λ (f : IsBehind (length (map (thread_part asks) t.threads)) (map (core_part T) (layout_of t).cores) i p). of_core f.at f.is f.found)
      (get_either (map (thread_part asks) t.threads) (map (core_part T) (layout_of t).cores) i p g))
      (λ (g : IsBehind (length (map (thread_part asks) t.threads ++ map (core_part T) (layout_of t).cores))
      (spread (arbiter_part T (length t.routines)) 0 (length (layout_of t).cores)) i p). absurd (of_arbiter g.at g.found))
      (get_either (map (thread_part asks) t.threads ++ map (core_part T) (layout_of t).cores)
      (spread (arbiter_part T (length t.routines)) 0 (length (layout_of t).cores)) i p l)
    where
      at_writer : k ≡ length t.routines + 1 + prints.core.place
      at_writer = writer_is k w

      of_thread : slice_get (map (thread_part asks) t.threads) i ≡ Some p → ⊥
      of_thread f =
          let b = map_back (thread_part asks) t.threads i p f in
          let below = has.threads i b.0 b.1 in
          let same : p.of ≡ b.0 = ap (λ (z : Part). z.of) b.2 in
          let wr = at_writer in
          omega (arith, below, same, of, wr)

      of_arbiter : (j : ℕ) → slice_get (spread (arbiter_part T (length t.routines)) 0 (length (layout_of t).cores)) j ≡ Some p → ⊥
      of_arbiter j f =
          let b = spread_back (arbiter_part T (length t.routines)) 0 (length (layout_of t).cores) j p f in
          let same : p.of ≡ length t.routines = ap (λ (z : Part). z.of) b.1 in
          let wr = at_writer in
          omega (arith, same, of, wr)

      of_core : (j : ℕ) → i ≡ length (map (thread_part asks) t.threads) + j → slice_get (map (core_part T) (layout_of t).cores) j ≡ Some p → i ≡ T + prints.place
      of_core j at f =
          let x = map_back (core_part T) (layout_of t).cores j p f in
          let c = map_back (laid_core (kinds_at t)) t.cores j x.0 x.1 in
          let number : p.of ≡ length t.routines + 1 + c.0.place = ap (λ (z : Part). z.of) x.2 ∙ ap (λ (z : Core). z.module) c.2 in
          let wr = at_writer in
          let same : k ≡ length t.routines + 1 + c.0.place = omega (arith, number, of) in
          let listed : slice_get t.kinds c.0.place ≡ Some w.module_ =
          sym (behind_one t.routines t.arbiter t.kinds c.0.place) ∙ ap (slice_get (modules_of t)) (sym same) ∙ w.listed in
          let place = writes_as j c.0 w.module_ c.1 listed w.number w.action w.stands w.writes in
          let many : length (map (thread_part asks) t.threads) ≡ T = length-map t.threads (thread_part asks) in
          omega (arith, at, place, many)

  pub one_writes : OneWrites t
  one_writes = record {
    one = λ k l a b. writer_is k a ∙ sym (writer_is l b);
    placed = placed;
    once = λ k i j w a b. its_place k i w a.part a.listed a.is ∙ sym (its_place k j w b.part b.listed b.is);
  }

pub printers_write : PrintersWrite
printers_write t has stands prints = one_writes t has stands prints
