-- The modules of a table are sound together.
use Rattle.std.proofs.Common.{◌≡◌, ◌≢◌, ℕ, ◌+◌, ◌*◌, ◌^◌, ◌<◌, Bool, true, false, List, [], ◌∷◌, ◌++◌, length, get_or, take, Some, refl, sym, ap, ◌∙◌, subst, arith}
use Rattle.std.specs.Prelude.{◌||◌, nat_eq, slice_get, codes}
use Rattle.std.proofs.lemmas.Option.{same_Some}
use Rattle.netlist.specs.declared.netlist.Module.{Module}
use Rattle.netlist.specs.Laid.{AreApart, module_names, IsLaidModule}
use Rattle.netlist.specs.Sound.{IsSoundModule}
use Rattle.circuit.specs.Interfaces.{HasInterface, IsTableModule}
use Rattle.top_wiring.specs.Parts.{ask_widths, thread_outputs, core_outputs}
use Rattle.top_wiring.specs.Ports.{threads, thread_inputs, core_inputs, arbiter_inputs, arbiter_outputs}
use Rattle.top_wiring.specs.Sound.{AreSound}
use Rattle.lists.proofs.Places.{get_there}
use Rattle.bank_cores.specs.Bank.{bank_name}
use Rattle.mutex_cores.specs.Mutex.{mutex_name}
use Rattle.leaf_machine.specs.Ports as port
use Rattle.core_family.specs.Family.{CoreKind, Bank, Mutex, Barrier, ThreadIds, Printer, IsTable, IsCoreModule, input_widths, output_widths}
use Rattle.core_tables.specs.Tables.{PlacedCore, Table, HasCores, layout_of, modules_of, ports_of}
use Rattle.core_tables.specs.Laws.{IsLow}
use Rattle.core_tables.specs.Whole.{IsThreadName, OfFunction, OfIdle, SameModule, IsWholeTable, TablesAreSound}
use Rattle.core_tables.proofs.Lists.{map_back, InMiddle, InFront, TheOne, Behind, in_middle}
use Rattle.core_tables.proofs.Decimals.{numbered_tells}
use Rattle.core_tables.proofs.CoreNames.{cores_are_named}
use Rattle.core_tables.proofs.Widths.{thread_ports}
use Rattle.core_tables.proofs.OneWriter.{printers_write}
use Rattle.core_tables.proofs.Small.{is_small}
use Rattle.core_tables.proofs.TablesFit.{each_module}

-- ---- names

-- the first and the third byte
abbrev key : List ℕ → ℕ
key x = get_or x 0 0 * 256 + get_or x 2 0

abbrev kind_name : CoreKind → List ℕ
kind_name (Bank s) = bank_name s.name s.number
kind_name (Mutex s) = mutex_name s.initialised
kind_name (Barrier s) = codes "barrier"
kind_name (ThreadIds s) = codes "forkjoin"
kind_name (Printer s) = codes "printer"

abbrev kind_key : CoreKind → ℕ
kind_key (Bank s) = 25198
kind_key (Mutex s) = 28020
kind_key (Barrier s) = 25202
kind_key (ThreadIds s) = 26226
kind_key (Printer s) = 28777

mutex_keyed : (b : Bool) → key (mutex_name b) ≡ 28020
mutex_keyed true = refl
mutex_keyed false = refl

kind_keyed : (s : CoreKind) → key (kind_name s) ≡ kind_key s
kind_keyed (Bank s) = refl
kind_keyed (Mutex s) = mutex_keyed s.initialised
kind_keyed (Barrier s) = refl
kind_keyed (ThreadIds s) = refl
kind_keyed (Printer s) = refl

table_named : (s : CoreKind) (m : Module) → IsTable s m → m.name ≡ kind_name s
table_named (Bank s) m is = is.named
table_named (Mutex s) m is = is.named
table_named (Barrier s) m is = is.named
table_named (ThreadIds s) m is = is.named
table_named (Printer s) m is = is.named

mutex_tells : (a b : Bool) → mutex_name a ≡ mutex_name b → a ≡ b
mutex_tells true true e = refl
mutex_tells false false e = refl
mutex_tells true false e = absurd (let l : 7 ≡ 5 = ap length e in omega (arith, l))
mutex_tells false true e = absurd (let l : 5 ≡ 7 = ap length e in omega (arith, l))

abbrev BankLow : CoreKind → Type 0
BankLow (Bank s) = s.number < 2 ^ 64
BankLow _ = Unit {0}

other_kind : (s r : CoreKind) → (kind_key s ≡ kind_key r → ⊥) → kind_name s ≡ kind_name r → ⊥
other_kind s r other e = other (sym (kind_keyed s) ∙ ap key e ∙ kind_keyed r)

kind_tells : (s r : CoreKind) → BankLow s → BankLow r → kind_name s ≡ kind_name r → SameModule s r
kind_tells (Bank s) (Bank r) l m e =
    let both = numbered_tells (codes "bank" ++ 95 ∷ s.name) (codes "bank" ++ 95 ∷ r.name) s.number r.number l m e in
    ((let q : 98 ∷ 97 ∷ 110 ∷ 107 ∷ 95 ∷ s.name ≡ 98 ∷ 97 ∷ 110 ∷ 107 ∷ 95 ∷ r.name = both.0 in let z : s.name ≡ r.name = cc in z), both.1)
kind_tells (Bank s) (Mutex r) l m e = absurd (other_kind (Bank s) (Mutex r) (λ z. omega arith) e)
kind_tells (Bank s) (Barrier r) l m e = absurd (other_kind (Bank s) (Barrier r) (λ z. omega arith) e)
kind_tells (Bank s) (ThreadIds r) l m e = absurd (other_kind (Bank s) (ThreadIds r) (λ z. omega arith) e)
kind_tells (Bank s) (Printer r) l m e = absurd (other_kind (Bank s) (Printer r) (λ z. omega arith) e)
kind_tells (Mutex s) (Bank r) l m e = absurd (other_kind (Mutex s) (Bank r) (λ z. omega arith) e)
kind_tells (Mutex s) (Mutex r) l m e = mutex_tells s.initialised r.initialised e
kind_tells (Mutex s) (Barrier r) l m e = absurd (other_kind (Mutex s) (Barrier r) (λ z. omega arith) e)
kind_tells (Mutex s) (ThreadIds r) l m e = absurd (other_kind (Mutex s) (ThreadIds r) (λ z. omega arith) e)
kind_tells (Mutex s) (Printer r) l m e = absurd (other_kind (Mutex s) (Printer r) (λ z. omega arith) e)
kind_tells (Barrier s) (Bank r) l m e = absurd (other_kind (Barrier s) (Bank r) (λ z. omega arith) e)
kind_tells (Barrier s) (Mutex r) l m e = absurd (other_kind (Barrier s) (Mutex r) (λ z. omega arith) e)
kind_tells (Barrier s) (Barrier r) l m e = tt
kind_tells (Barrier s) (ThreadIds r) l m e = absurd (other_kind (Barrier s) (ThreadIds r) (λ z. omega arith) e)
kind_tells (Barrier s) (Printer r) l m e = absurd (other_kind (Barrier s) (Printer r) (λ z. omega arith) e)
kind_tells (ThreadIds s) (Bank r) l m e = absurd (other_kind (ThreadIds s) (Bank r) (λ z. omega arith) e)
kind_tells (ThreadIds s) (Mutex r) l m e = absurd (other_kind (ThreadIds s) (Mutex r) (λ z. omega arith) e)
kind_tells (ThreadIds s) (Barrier r) l m e = absurd (other_kind (ThreadIds s) (Barrier r) (λ z. omega arith) e)
kind_tells (ThreadIds s) (ThreadIds r) l m e = tt
kind_tells (ThreadIds s) (Printer r) l m e = absurd (other_kind (ThreadIds s) (Printer r) (λ z. omega arith) e)
kind_tells (Printer s) (Bank r) l m e = absurd (other_kind (Printer s) (Bank r) (λ z. omega arith) e)
kind_tells (Printer s) (Mutex r) l m e = absurd (other_kind (Printer s) (Mutex r) (λ z. omega arith) e)
kind_tells (Printer s) (Barrier r) l m e = absurd (other_kind (Printer s) (Barrier r) (λ z. omega arith) e)
kind_tells (Printer s) (ThreadIds r) l m e = absurd (other_kind (Printer s) (ThreadIds r) (λ z. omega arith) e)
kind_tells (Printer s) (Printer r) l m e = tt

-- ---- names of other parts

abbrev is_thread_key : ℕ → Bool
is_thread_key n = nat_eq n 26207 || nat_eq n 26988

abbrev is_arbiter_key : ℕ → Bool
is_arbiter_key n = nat_eq n 24930

abbrev is_top_key : ℕ → Bool
is_top_key n = nat_eq n 29808

-- a test of keys tells names apart
apart_by : (test : ℕ → Bool) (x y : List ℕ) → test (key x) ≡ true → test (key y) ≡ false → x ≡ y → ⊥
apart_by test x y p q e = let z : true ≡ false = sym p ∙ ap (λ (l : List ℕ). test (key l)) e ∙ q in cc

thread_keyed : (x : List ℕ) → IsThreadName x → is_thread_key (key x) ≡ true
thread_keyed x (OfFunction name is) = ap (λ (l : List ℕ). is_thread_key (key l)) is
thread_keyed x (OfIdle is) = ap (λ (l : List ℕ). is_thread_key (key l)) is

thread_no_top : (x : List ℕ) → IsThreadName x → is_top_key (key x) ≡ false
thread_no_top x (OfFunction name is) = ap (λ (l : List ℕ). is_top_key (key l)) is
thread_no_top x (OfIdle is) = ap (λ (l : List ℕ). is_top_key (key l)) is

-- none of these is of a core
record IsOfNone (k : ℕ) : Type 0 where
  thread : is_thread_key k ≡ false
  arbiter : is_arbiter_key k ≡ false
  top : is_top_key k ≡ false

kind_of_none : (s : CoreKind) → IsOfNone (kind_key s)
kind_of_none (Bank s) = record { thread = refl; arbiter = refl; top = refl }
kind_of_none (Mutex s) = record { thread = refl; arbiter = refl; top = refl }
kind_of_none (Barrier s) = record { thread = refl; arbiter = refl; top = refl }
kind_of_none (ThreadIds s) = record { thread = refl; arbiter = refl; top = refl }
kind_of_none (Printer s) = record { thread = refl; arbiter = refl; top = refl }

module _ (t : Table) (whole : IsWholeTable t) where
  abbrev has : HasCores t
  has = whole.cores

  -- a module of a core is that of one
  record IsKind (j : ℕ) (m : Module) : Type 0 where
    place : ℕ
    core : PlacedCore
    listed : slice_get t.cores place ≡ Some core
    placed : core.place ≡ j
    is : IsCoreModule (length t.threads) core.kind m

  kind_of : (j : ℕ) (m : Module) → slice_get t.kinds j ≡ Some m → IsKind j m
  kind_of j m l =
      let u = whole.printer.used j m l in
      let its = has.each u.0 u.1 u.2 in
      let same : its.body ≡ m = same_Some its.body m (sym its.listed ∙ ap (slice_get t.kinds) u.3 ∙ l) in
      record {
        place = u.0;
        core = u.1;
        listed = u.2;
        placed = u.3;
        is = subst (λ (z : Module). IsCoreModule (length t.threads) u.1.kind z) same its.is;
      }

  -- what all modules are
  all : (P : Module → Type 0) → ((m : Module) → IsTableModule m (port.thread_inputs (ports_of t)) (port.thread_outputs (ports_of t)) → P m) → P t.arbiter →
      ((s : CoreKind) (m : Module) → IsTableModule m (input_widths s) (output_widths s) → P m) → (k : ℕ) (m : Module) → slice_get (modules_of t) k ≡ Some m → P m
  all P p q r k m e = by (in_middle t.routines t.arbiter t.kinds k m e)
    where
      by : InMiddle t.routines t.arbiter t.kinds k m → P m
      by (InFront l) = p m (whole.routines.stands k m l)
      by (TheOne at is) = subst P (sym is) q
      by (Behind j at l) = let own = kind_of j m l in r own.core.kind m own.is.stands

  laid : (k : ℕ) (m : Module) → slice_get (modules_of t) k ≡ Some m → IsLaidModule (take k (modules_of t)) m
  laid k m e =
      all (λ z. (before : List Module) → IsLaidModule before z) (λ z s. s.laid) has.granting.stands.laid (λ c z s. s.laid) k m e (take k (modules_of t))

  sound : (k : ℕ) (m : Module) → slice_get (modules_of t) k ≡ Some m → IsSoundModule m (take k (modules_of t))
  sound k m e =
      all (λ z. (before : List Module) → IsSoundModule z before) (λ z s. s.sound) has.granting.stands.sound (λ c z s. s.sound) k m e (take k (modules_of t))

  pub alone : (k : ℕ) (m : Module) → slice_get (modules_of t) k ≡ Some m → m.instances ≡ []
  alone = all (λ (z : Module). z.instances ≡ []) (λ z s. s.alone) has.granting.stands.alone (λ c z s. s.alone)

  -- ---- names

  -- whose name it is
  data NameOf (k : ℕ) (x : List ℕ) : Type 0 where
    OfRoutine : (m : Module) (listed : slice_get t.routines k ≡ Some m) (is : x ≡ m.name) → NameOf k x
    OfArbiter : (at : k ≡ length t.routines) (is : x ≡ codes "arbiter") → NameOf k x
    OfKind : (j : ℕ) (at : k ≡ length t.routines + 1 + j) (place : ℕ) (core : PlacedCore) (listed : slice_get t.cores place ≡ Some core) (placed : core.place ≡ j)
        (is : x ≡ kind_name core.kind) → NameOf k x

  name_of : (k : ℕ) (m : Module) → slice_get (modules_of t) k ≡ Some m → NameOf k m.name
  name_of k m e = by (in_middle t.routines t.arbiter t.kinds k m e)
    where
      by : InMiddle t.routines t.arbiter t.kinds k m → NameOf k m.name
      by (InFront l) = OfRoutine m l refl
      by (TheOne at is) = OfArbiter at (ap (λ (z : Module). z.name) is ∙ has.granting.table.named)
      by (Behind j at l) =
          let own = kind_of j m l in OfKind j at own.place own.core own.listed own.placed (table_named own.core.kind m own.is.table)

  thread_name : (k : ℕ) (m : Module) → slice_get t.routines k ≡ Some m → IsThreadName m.name
  thread_name = whole.routines.named

  kind_test : (test : ℕ → Bool) (s : CoreKind) → test (kind_key s) ≡ false → test (key (kind_name s)) ≡ false
  kind_test test s e = ap test (kind_keyed s) ∙ e

  low : (place : ℕ) (c : PlacedCore) → slice_get t.cores place ≡ Some c → BankLow c.kind
  low place c e = by c.kind (whole.once.low place c e)
    where
      by : (s : CoreKind) → IsLow s c.number → BankLow s
      by (Bank s) l = l
      by (Mutex s) l = tt
      by (Barrier s) l = tt
      by (ThreadIds s) l = tt
      by (Printer s) l = tt

  same_place : (i j : ℕ) (x : List ℕ) → NameOf i x → NameOf j x → i ≡ j
  same_place i j x (OfRoutine m l e) (OfRoutine n k f) = whole.routines.apart i j m n l k (sym e ∙ f)
  same_place i j x (OfRoutine m l e) (OfArbiter b f) =
      absurd (apart_by is_thread_key m.name (codes "arbiter") (thread_keyed m.name (thread_name i m l)) refl (sym e ∙ f))
  same_place i j x (OfRoutine m l e) (OfKind n b p c h k f) =
      absurd (apart_by is_thread_key m.name (kind_name c.kind) (thread_keyed m.name (thread_name i m l))
      (kind_test is_thread_key c.kind (kind_of_none c.kind).thread) (sym e ∙ f))
  same_place i j x (OfArbiter a e) (OfRoutine m l f) =
      absurd (apart_by is_thread_key m.name (codes "arbiter") (thread_keyed m.name (thread_name j m l)) refl (sym f ∙ e))
  same_place i j x (OfArbiter a e) (OfArbiter b f) = a ∙ sym b
  same_place i j x (OfArbiter a e) (OfKind n b p c h k f) =
      absurd (apart_by is_arbiter_key (codes "arbiter") (kind_name c.kind) refl (kind_test is_arbiter_key c.kind (kind_of_none c.kind).arbiter) (sym e ∙ f))
  same_place i j x (OfKind n b p c h k f) (OfRoutine m l e) =
      absurd (apart_by is_thread_key m.name (kind_name c.kind) (thread_keyed m.name (thread_name j m l))
      (kind_test is_thread_key c.kind (kind_of_none c.kind).thread) (sym e ∙ f))
  same_place i j x (OfKind n b p c h k f) (OfArbiter a e) =
      absurd (apart_by is_arbiter_key (codes "arbiter") (kind_name c.kind) refl (kind_test is_arbiter_key c.kind (kind_of_none c.kind).arbiter) (sym e ∙ f))
  same_place i j x (OfKind n b p c h k f) (OfKind o a q d g r e) =
      let tells = kind_tells c.kind d.kind (low p c h) (low q d g) (sym f ∙ e) in
      let same : c.place ≡ d.place = whole.kinds p q c d h g tells in
      omega (arith, a, b, k, r, same)

  names : AreApart (module_names (modules_of t))
  names i j x a b =
      let p = map_back (λ (m : Module). m.name) (modules_of t) i x a in
      let q = map_back (λ (m : Module). m.name) (modules_of t) j x b in
      same_place i j x (subst (NameOf i) (sym p.2) (name_of i p.0 p.1)) (subst (NameOf j) (sym q.2) (name_of j q.0 q.1))

  pub no_top : (k : ℕ) (m : Module) → slice_get (modules_of t) k ≡ Some m → (m.name ≢ codes "top") × (m.name ≢ codes "top_rr")
  no_top k m e = by (name_of k m e)
    where
      both : (x : List ℕ) → m.name ≡ x → is_top_key (key x) ≡ false → (m.name ≢ codes "top") × (m.name ≢ codes "top_rr")
      both x is f = (
        (λ q. apart_by is_top_key (codes "top") x refl f (sym q ∙ is)),
        (λ q. apart_by is_top_key (codes "top_rr") x refl f (sym q ∙ is)),
      )

      by : NameOf k m.name → (m.name ≢ codes "top") × (m.name ≢ codes "top_rr")
      by (OfRoutine n l is) = both n.name is (thread_no_top n.name (thread_name k n l))
      by (OfArbiter at is) = both (codes "arbiter") is refl
      by (OfKind j at p c h r is) = both (kind_name c.kind) is (kind_test is_top_key c.kind (kind_of_none c.kind).top)

  -- ---- ports

  thread_interface : (number : ℕ) (m : Module) → slice_get t.routines number ≡ Some m →
      HasInterface m (thread_inputs (layout_of t)) (thread_outputs (ask_widths (layout_of t).cores))
  thread_interface number m l =
      subst (λ (os : List ℕ). HasInterface m (thread_inputs (layout_of t)) os) (sym (thread_ports t).outputs)
      (subst (λ (is : List ℕ). HasInterface m is (port.thread_outputs (ports_of t))) (sym (thread_ports t).inputs) (whole.routines.stands number m l).interface)

  pub are_sound : AreSound (layout_of t) (modules_of t)
  are_sound =
      let named = cores_are_named t whole.once in
      let writes = printers_write t has whole.once whole.printer in
      record {
        small = is_small t has;
        laid = laid;
        sound = sound;
        alone = alone;
        names = names;
        no_top = no_top;
        core_names = named.begin;
        cores_apart = named.apart;
        each = each_module t has (λ i m. HasInterface m (thread_inputs (layout_of t)) (thread_outputs (ask_widths (layout_of t).cores)))
            (λ k c m. HasInterface m (core_inputs (layout_of t) c) (core_outputs (threads (layout_of t)) c))
            (λ k m. HasInterface m (arbiter_inputs (layout_of t)) (arbiter_outputs (layout_of t)))
            (λ i number e. let m = get_there t.routines number (has.threads i number e) in (m.0, m.1, thread_interface number m.0 m.1)) (λ k x p. p.fits.interface)
            (λ k. has.granting.stands.interface);
        one_writes = writes.one;
        placed = writes.placed;
        once = writes.once;
      }

pub tables_are_sound : TablesAreSound
tables_are_sound t whole = are_sound t whole
