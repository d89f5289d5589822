-- Where no step can be taken any more, though not all are, some signal depends on itself; and the first one is found.
use Rattle.std.specs.Prelude.{◌≡◌, ℕ, zero, suc, ◌+◌, ◌<◌, ◌≤◌, Bool, true, false, List, [], ◌∷◌, map, length, Option, Some, None, slice_get, slice_index_or, refl}
use Rattle.std.proofs.Common.{ap, sym, ◌∙◌, subst, inl, inr, ⊎_elim, arith}
use Rattle.std.proofs.lemmas.Option.{slice_get_within}
use Rattle.std.proofs.lemmas.Bool.{both_ways}
use Rattle.lists.proofs.Places.{get_there}
use Rattle.netlist.specs.declared.netlist.Source.{Source}
use Rattle.netlist.specs.declared.netlist.Source.TheVariants.{Input, Register, Assigned, Port}
use Rattle.netlist.specs.declared.netlist.Value.{Value}
use Rattle.netlist.specs.declared.netlist.Signal.{Signal}
use Rattle.netlist.specs.declared.netlist.Module.{Module}
use Rattle.verilog_meaning.specs.Readings.{signal_width, width}
use Rattle.verilog_meaning.specs.Cycles.{Path, IsRegister, module_at, instance_at, connected, IsAt}
use Rattle.verilog_meaning.specs.Threads.{Place, Names, Depends, IsOneOf, operands}
use Rattle.verilog_meaning.specs.Threads.Depends.{directly, through}
use Rattle.circuit.specs.Modules.{Has}
use Rattle.circuit.specs.Nets.{FitsSource}
use Rattle.sim_values.specs.declared.settle.Feed.TheVariants.{Computed}
use Rattle.sim_values.specs.declared.settle.Step.{Step}
use Rattle.sim_values.specs.declared.edge.Part.{Part}
use Rattle.sim_layout.specs.declared.loops.Found.{Found}
use Rattle.sim_values.specs.Flat.{IsNarrowSource}
use Rattle.sim_values.specs.Order.{source_reads, signal_reads, module_reads, reads, Takes, IsClear, IsStuck}
use Rattle.sim_values.specs.Stands.{place_of, spot_at, kind_at, word_of}
use Rattle.sim_layout.specs.Placed.{is_register}
use Rattle.sim_layout.specs.Wires.{signals_of}
use Rattle.cycle_sim.specs.LaidOut.{IsLaidOut}
use Rattle.sim_layout.specs.Leads.{Leads, AreInRoom, AreWithin, AreLoopless, IsFirstFound}
use Rattle.sim_layout.specs.Leads.Leads.{Directly, Through}
use Rattle.sim_values.specs.Loops.{IsFirstLoop}
use Rattle.sim_layout.proofs.LeadSearch.{one_clear, each_among}
use Rattle.cycle_sim.proofs.Pigeons.{twice}
use Rattle.sim_values.proofs.Settles.{each_from}
use Rattle.sim_values.proofs.Trees.{rising, instance_of, front_or_back}
use Rattle.cycle_sim.proofs.Laid.{place_same, found, spot_is, laid, part_at, Gives, has_step, gives_target, gives_here, origin, one_signal, register_free, in_room}

among_map : (base : ℕ) (xs : List ℕ) (y : ℕ) → IsOneOf y (map (λ x. base + x) xs) → (x : ℕ) × IsOneOf x xs × (y ≡ base + x)
among_map base [] y i = absurd i
among_map base (x ∷ xs) y (inl e) = (x, inl refl, e)
among_map base (x ∷ xs) y (inr i) = let r = among_map base xs y i in (r.0, inr r.1, r.2)

map_among : (base : ℕ) (xs : List ℕ) (x : ℕ) → IsOneOf x xs → IsOneOf (base + x) (map (λ x. base + x) xs)
map_among base [] x i = absurd i
map_among base (y ∷ ys) x (inl e) = inl (ap (λ z. base + z) e)
map_among base (y ∷ ys) x (inr i) = inr (map_among base ys x i)

wide_signal : (o : Option Signal) → 1 ≤ signal_width o → (s : Signal) × (o ≡ Some s)
wide_signal None l = absurd (omega arith)
wide_signal (Some s) l = (s, refl)

pub some_module : (x : ℕ) (o : Option Module) → x < length (signals_of o) → (m : Module) × (o ≡ Some m)
some_module x None l = absurd (omega arith)
some_module x (Some m) l = (m, refl)

module _ {modules : List Module} {t : Module} {parts : List Part} {numbers : List ℕ} {free : List Bool} {words starts : List ℕ} {wires : List Step} {prefs : ℕ}
    (l : IsLaidOut modules t parts numbers free words starts wires prefs) where
  -- a signal, by its place
  pub record IsSignalAt (p : Place) : Type 0 where
    pub kind : Module
    pub signal : Signal
    pub is : IsAt modules t p.0 kind p.1 signal

  abbrev word_at : Place → ℕ
  word_at p = word_of parts p.0 p.1

  one_place : (p q : Place) → IsSignalAt p → IsSignalAt q → word_at p ≡ word_at q → p ≡ q
  one_place p q a b e =
      let one = one_signal l p.0 q.0 a.kind b.kind p.1 q.1 a.signal b.signal a.is b.is e in
      let whole : Path → ℕ → Place = λ path x. (path, x) in
      ap (λ z. whole z p.1) one.paths ∙ ap (whole q.0) one.indices

  -- ---- what a step reads is what its signal's equation names

  pub record Reads (path : Path) (x : ℕ) (source : Source) (y : ℕ) : Type 0 where
    pub place : Place
    pub is : IsSignalAt place
    pub names : Names modules t path x source place
    pub word : y ≡ word_at place

  computed_reads : (path : Path) (m : Module) (x : ℕ) (s : Signal) → IsAt modules t path m x s → (v : Value) → s.source ≡ Assigned v
      → reads modules (Computed (kind_at parts path) x (spot_at parts path)) ≡ map (λ y. (spot_at parts path).base + y) (operands v)
  computed_reads path m x s at v e =
      let base = (spot_at parts path).base in
      ap (module_reads base x) (laid l path m at.stands) ∙ ap (signal_reads base) at.listed ∙ ap (source_reads base) e

  has_place : (path : Path) (m : Module) (x w : ℕ) → module_at modules t path ≡ Some m → Has m x w → IsSignalAt (path, x)
  has_place path m x w at has = record { kind = m; signal = has.signal; is = record { stands = at; listed = has.listed } }

  read_by : (path : Path) (m : Module) (x : ℕ) (s : Signal) → IsAt modules t path m x s → (source : Source) → s.source ≡ source → (w : Step) → Gives l path x s.name source w
      → (y : ℕ) → IsOneOf y (reads modules w.feed) → Reads path x source y
  read_by path m x s at (Register n) e w g y i = absurd g
  read_by path m x s at (Assigned v) e w g y i =
      let here = subst (λ (u : Step). IsOneOf y (reads modules u.feed)) g i in
      let mapped = subst (IsOneOf y) (computed_reads path m x s at v e) here in
      let found = among_map (spot_at parts path).base (operands v) y mapped in
      let narrow = subst (IsNarrowSource m) e (l.right.values (kind_at parts path) x m s (laid l path m at.stands) at.listed) in
      let wide = each_among (λ z. (1 ≤ width m z) × (width m z ≤ 64)) (operands v) narrow.wide found.0 found.1 in
      let signal = wide_signal (slice_get m.signals found.0) wide.0 in
      record {
        place = (path, found.0);
        is = record { kind = m; signal = signal.0; is = record { stands = at.stands; listed = signal.1 } };
        names = (refl, found.1);
        word = found.2;
      }
  read_by path m x s at (Port i port) e w g y among =
      let here = subst (λ (u : Step). IsOneOf y (reads modules u.feed)) g among in
      let fits = subst (FitsSource modules t path m x s.width) e (l.right.fits path m x s at) in
      record {
        place = (i ∷ path, port);
        is = has_place (i ∷ path) fits.0 port s.width fits.1 fits.2;
        names = (refl, refl);
        word = ⊎_elim (λ same. same) (λ none. absurd none) here;
      }
  read_by [] m x s at Input e w g y i = absurd (subst (IsOneOf y) (g.1.plain modules) i)
  read_by (i ∷ outer) m x s at Input e w g y among =
      let from = connected modules t (instance_at modules t outer i) x in
      let here = subst (λ (u : Step). IsOneOf y (reads modules u.feed)) g among in
      let fits = subst (FitsSource modules t (i ∷ outer) m x s.width) e (l.right.fits (i ∷ outer) m x s at) in
      record {
        place = (outer, from);
        is = has_place outer fits.0 from s.width fits.1 fits.2;
        names = (refl, refl);
        word = ⊎_elim (λ same. same) (λ none. absurd none) here;
      }

  -- what the equation names is read
  named_by : (path : Path) (m : Module) (x : ℕ) (s : Signal) → IsAt modules t path m x s → (source : Source) → s.source ≡ source → (w : Step) → Gives l path x s.name source w
      → (q : Place) → Names modules t path x source q → IsOneOf (word_at q) (reads modules w.feed)
  named_by path m x s at (Register n) e w g q names = absurd names
  named_by path m x s at (Assigned v) e w g q names =
      let mapped = map_among (spot_at parts path).base (operands v) q.1 names.1 in
      let here = subst (IsOneOf (word_of parts path q.1)) (sym (computed_reads path m x s at v e)) mapped in
      let there = subst (λ (z : Path). IsOneOf (word_of parts z q.1) (reads modules (Computed (kind_at parts path) x (spot_at parts path)))) (sym names.0) here in
      subst (λ (u : Step). IsOneOf (word_at q) (reads modules u.feed)) (sym g) there
  named_by path m x s at (Port i port) e w g q names =
      let same : word_at q ≡ word_of parts (i ∷ path) port = ap (λ (z : Path). word_of parts z q.1) names.0 ∙ ap (λ y. word_of parts (i ∷ path) y) names.1 in
      subst (λ (u : Step). IsOneOf (word_at q) (reads modules u.feed)) (sym g) (inl same)
  named_by [] m x s at Input e w g q names = absurd names
  named_by (i ∷ outer) m x s at Input e w g q names =
      let same : word_at q ≡ word_of parts outer (connected modules t (instance_at modules t outer i) x) =
      ap (λ (z : Path). word_of parts z q.1) names.0 ∙ ap (λ y. word_of parts outer y) names.1 in
      subst (λ (u : Step). IsOneOf (word_at q) (reads modules u.feed)) (sym g) (inl same)

  no_names : (path : Path) (x : ℕ) (source : Source) (q : Place) → Names modules t path x source q → IsRegister source → ⊥
  no_names path x Input q names r = absurd r
  no_names path x (Register n) q names r = names
  no_names path x (Assigned v) q names r = absurd r
  no_names path x (Port i port) q names r = absurd r

  -- ---- signals depend on one another exactly where their words lead to one another

  pub leads_of : {p q : Place} → Depends modules t p q → Leads modules wires (word_at p) (word_at q)
  leads_of (directly {path = path} {m = m} {x = x} {s = s} {q = q} at names) =
      let h = has_step l path m x s at (no_names path x s.source q names) in
      subst (λ a. Leads modules wires a (word_at q)) (gives_target l path x s.name s.source h.step_is h.gives)
      (Directly h.step_is (word_at q) h.takes (named_by path m x s at s.source refl h.step_is h.gives q names))
  leads_of (through {p = p} {q = q} {r = r} d e) = Through (word_at p) (word_at q) (word_at r) (leads_of d) (leads_of e)

  pub first_signal : {p q : Place} → Depends modules t p q → IsSignalAt p
  first_signal (directly {m = m} {s = s} at names) = record { kind = m; signal = s; is = at }
  first_signal (through d e) = first_signal d

  pub record DependsTo (p : Place) (b : ℕ) : Type 0 where
    pub place : Place
    pub is : IsSignalAt place
    pub depends : Depends modules t p place
    pub word : word_at place ≡ b

  depends_of : {a b : ℕ} → Leads modules wires a b → (p : Place) → IsSignalAt p → word_at p ≡ a → DependsTo p b
  depends_of (Directly s y has among) p here e =
      let g = gives_here l p.0 here.kind p.1 here.signal here.is s has (sym e) in
      let r = read_by p.0 here.kind p.1 here.signal here.is (here.signal).source refl s g y among in
      record { place = r.place; is = r.is; depends = directly here.is r.names; word = sym r.word }
  depends_of (Through a b c first rest) p here e =
      let f = depends_of first p here e in
      let r = depends_of rest f.place f.is f.word in
      record { place = r.place; is = r.is; depends = through f.depends r.depends; word = r.word }

  pub loop_of : (p : Place) → IsSignalAt p → Leads modules wires (word_at p) (word_at p) → Depends modules t p p
  loop_of p here leads =
      let d = depends_of leads p here refl in
      subst (Depends modules t p) (one_place d.place p d.is here d.word) d.depends

  -- ---- room

  read_in_room : (w : Step) → Takes wires w → (y : ℕ) → IsOneOf y (reads modules w.feed) → y < length numbers
  read_in_room w has y i =
      let o = origin l w has in
      let r = read_by o.path o.kind o.number o.signal o.is (o.signal).source refl w o.gives y i in
      let z = r.is in
      let low = in_room l (r.place).0 z.kind (r.place).1 z.signal z.is in
      let e = r.word in omega (arith, low, e)

  pub wires_in_room : AreInRoom modules wires (length numbers)
  wires_in_room w has =
      let o = origin l w has in
      let low = in_room l o.path o.kind o.number o.signal o.is in
      let e = gives_target l o.path o.number (o.signal).name (o.signal).source w o.gives in
      (omega (arith, low, e), each_from (λ y. y < length numbers) (reads modules w.feed) (read_in_room w has))

  pub parts_within : AreWithin modules parts (length numbers)
  parts_within q p x listed inside =
      let m = some_module x (slice_get modules p.module) inside in
      l.placed.room q p m.0 x (record { listed = listed; kind = m.1 }) (subst (λ o. x < length (signals_of o)) m.1 inside)

  -- ---- where steps are left

  module _ (stuck : IsStuck modules wires free) where
    pub record IsLeft (p : Place) : Type 0 where
      pub is : IsSignalAt p
      pub clear : IsClear stuck.marks (word_at p)

    pub record Next (p : Place) : Type 0 where
      pub place : Place
      pub left : IsLeft place
      pub depends : Depends modules t p place

    is_free : (source : Source) → IsRegister source → is_register source ≡ true
    is_free Input r = absurd r
    is_free (Register n) r = refl
    is_free (Assigned v) r = absurd r
    is_free (Port i port) r = absurd r

    next_of : (p : Place) → IsLeft p → Next p
    next_of p left =
        let here = left.is in
        let lacks : IsRegister (here.signal).source → ⊥ =
        λ r. both_ways (slice_index_or stuck.marks (word_at p) false)
        left.clear (stuck.free_known (word_at p) (register_free l p.0 here.kind p.1 here.signal here.is ∙ is_free (here.signal).source r)) in
        let h = has_step l p.0 here.kind p.1 here.signal here.is lacks in
        let target = gives_target l p.0 p.1 (here.signal).name (here.signal).source h.step_is h.gives in
        let room = in_room l p.0 here.kind p.1 here.signal here.is in
        let long = stuck.long in
        let placed = l.placed.long in
        let some = stuck.held h.step_is h.takes (omega (arith, target, room, long, placed)) (subst (IsClear stuck.marks) (sym target) left.clear) in
        let o = one_clear stuck.marks (reads modules (h.step_is).feed) some in
        let r = read_by p.0 here.kind p.1 here.signal here.is (here.signal).source refl h.step_is h.gives o.place o.among in
        record {
          place = r.place;
          left = record { is = r.is; clear = subst (IsClear stuck.marks) r.word o.clear };
          depends = directly here.is r.names;
        }

    pub record Walked : Type 0 where
      pub place : Place
      pub left : IsLeft place

    walk : ℕ → Walked
    walk zero =
        let o = origin l stuck.left stuck.taken in
        record {
          place = (o.path, o.number);
          left = record {
            is = record { kind = o.kind; signal = o.signal; is = o.is };
            clear = subst (IsClear stuck.marks) (gives_target l o.path o.number (o.signal).name (o.signal).source stuck.left o.gives) stuck.clear;
          };
        }
    walk (suc n) = let w = walk n in let next = next_of w.place w.left in record { place = next.place; left = next.left }

    walked : (n m : ℕ) → n < m → Depends modules t (walk n).place (walk m).place
    unfolding walk
    walked n zero less = absurd (omega arith)
    walked n (suc m) less = ⊎_elim
        (λ (rest : n < m). through (walked n m rest) (next_of (walk m).place (walk m).left).depends)
        (λ back.
        let e : n ≡ m = (let z = back.1 in omega (arith, less, z)) in
        subst (λ i. Depends modules t (walk i).place (walk (suc m)).place) (sym e) (next_of (walk m).place (walk m).left).depends)
        (front_or_back n m)

    pub record HasLoop : Type 0 where
      pub place : Place
      pub is : IsSignalAt place
      pub depends : Depends modules t place place

    pub has_loop : HasLoop
    has_loop =
        let f : ℕ → ℕ = λ n. word_at (walk n).place in
        let below : (k : ℕ) → k ≤ length numbers → f k < length numbers =
        λ k h. (let z = ((walk k).left).is in in_room l ((walk k).place).0 z.kind ((walk k).place).1 z.signal z.is) in
        let two = twice (length numbers) f below in
        let p = walk two.first in
        let q = walk two.other in
        let there : Depends modules t p.place q.place = walked two.first two.other two.before in
        let same : q.place ≡ p.place = one_place q.place p.place (q.left).is (p.left).is (sym two.same) in
        record { place = p.place; is = (p.left).is; depends = subst (Depends modules t p.place) same there }

  -- ---- the first one

  -- a part before which none has a loop
  pub no_loop_before : (q : ℕ) → AreLoopless modules wires parts q → (p : Place) → (here : IsSignalAt p) → place_of parts p.0 < q → Depends modules t p p → ⊥
  no_loop_before q none p here less d =
      let f = found l p.0 here.kind here.is.stands in
      let spot = spot_is l p.0 here.kind f in
      let kinds : signals_of (slice_get modules (f.part).module) ≡ (here.kind).signals = ap signals_of f.is.kind in
      let inside = slice_get_within (here.kind).signals p.1 here.signal here.is.listed in
      none (place_of parts p.0) f.part less f.is.listed p.1 (subst (λ ss. p.1 < length ss) (sym kinds) inside)
      (subst (λ u. Leads modules wires (u.base + p.1) (u.base + p.1)) spot (leads_of d))

  pub no_loop : AreLoopless modules wires parts (length parts) → IsStuck modules wires free → ⊥
  no_loop none stuck =
      let h = has_loop stuck in
      let here = h.is in
      let f = found l (h.place).0 here.kind here.is.stands in
      no_loop_before (length parts) none h.place here (slice_get_within parts (place_of parts (h.place).0) f.part f.is.listed) h.depends

  pub first_is : (loop : Found) → IsFirstFound modules wires parts loop → IsFirstLoop modules loop.module loop.signal
  first_is loop first =
      let p = first.part in
      let x = loop.signal in
      let loops = first.loops in
      let m = some_module x (slice_get modules p.module) loops.inside in
      let s = get_there (m.0).signals x (subst (λ o. x < length (signals_of o)) m.1 loops.inside) in
      let r = part_at l first.number p first.listed m.0 m.1 in
      let here : IsSignalAt (r.0, x) = record { kind = m.0; signal = s.0; is = record { stands = r.2; listed = s.1 } } in
      let f = found l r.0 m.0 r.2 in
      let same : Some p ≡ Some f.part = sym first.listed ∙ ap (slice_get parts) (sym r.1) ∙ f.is.listed in
      let part : p ≡ f.part = cc in
      let spot : p.spot ≡ spot_at parts r.0 = ap (λ (z : Part). z.spot) part ∙ sym (spot_is l r.0 m.0 f) in
      let leads : Leads modules wires (word_at (r.0, x)) (word_at (r.0, x)) = subst (λ u. Leads modules wires (u.base + x) (u.base + x)) spot loops.leads in
      record {
        top = t;
        is_top = l.is_top;
        path = r.0;
        kind = m.0;
        signal = s.0;
        is = here.is;
        numbered = ap (slice_get modules) first.kind ∙ m.1;
        depends = loop_of (r.0, x) here leads;
        first = λ q earlier d.
            let there = first_signal d in
            ⊎_elim
            (λ before.
            let less = rising modules l.number l.kinds l.children t l.tree l.top_at q.0 r.0
            (instance_of modules l.number l.kinds l.children t l.tree l.top_at q.0 there.kind there.is.stands)
            (instance_of modules l.number l.kinds l.children t l.tree l.top_at r.0 m.0 r.2) before in
            let a = place_same l q.0 in
            let b = place_same l r.0 in
            let c = r.1 in
            no_loop_before first.number first.first q there (omega (arith, less, a, b, c)) d)
            (λ same.
            let words : Leads modules wires (word_of parts r.0 q.1) (word_of parts r.0 q.1) = subst
            (λ (z : Path). Leads modules wires (word_of parts z q.1) (word_of parts z q.1)) same.0 (leads_of d) in
            loops.first q.1 same.1 (subst (λ u. Leads modules wires (u.base + q.1) (u.base + q.1)) (sym spot) words))
            earlier;
      }
