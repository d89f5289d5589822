-- What the search finds is the first part that breaks a rule, and where it finds none, the net is well formed.
use Rattle.std.proofs.Common.{◌≡◌, ℕ, zero, suc, ◌+◌, ◌<◌, take, arith, List, [], ◌∷◌, Option, Some, None, Bool, true, false, refl, sym, ap, ◌∙◌, subst, ⊎_elim}
use Rattle.std.specs.Prelude.{slice_get}
use Rattle.verilog_tree.specs.declared.tree.Item.{Item}
use Rattle.verilog_tree.specs.declared.tree.Module.{Module}
use Rattle.verilog_tree.specs.declared.tree.Net.{Net}
use Rattle.verilog_tree.specs.Reads.{Each, IsFullItem, IsFullModule, IsFilled}
use Rattle.verilog_tree.specs.Facts.{Facts, nothing, after, after_port, after_item, head_facts, port_facts, module_facts, after_module}
use Rattle.verilog_tree.specs.WellFormed.{IsItem, IsPort, IsModule, IsWellFormed, EachAfter}
use Rattle.net_check.specs.declared.fault.ModulePart.{ModulePart}
use Rattle.net_check.specs.declared.fault.ModulePart.TheVariants as part
use Rattle.net_check.specs.declared.fault.NetPart.{NetPart}
use Rattle.net_check.specs.declared.fault.NetPart.TheVariants as net
use Rattle.net_check.specs.Breaks.{is_empty, BreaksPart, Breaks, StandsBefore, GoesBefore, IsFirstBroken, NoneBreaks, WellFormedWhereNoneBreaks}
use Rattle.net_check.specs.Search.{head_stands, port_stands, item_stands, first_wrong, in_order, first_part, or_later, first_among, first_of}
use Rattle.net_check.proofs.Rules.{MeetsItem, MeetsHead, filled, not_empty, full_item, lacks_none, item_meets, item_breaks, item_unbroken, port_meets}
use Rattle.net_check.proofs.Rules.{port_breaks, port_unbroken, head_meets, head_breaks, head_unbroken}
use Rattle.net_check.proofs.Firsts.{each_at, Fails, first_fails, all_pass, each_after_map}

-- ---- one module

-- it meets each rule
pub record Meets (whole before : Facts) (m : Module) : Type 0 where
  pub head : MeetsHead whole.placed before m
  pub ports : EachAfter (IsPort (module_facts before m)) after_port (head_facts before) m.ports
  pub items : EachAfter (MeetsItem (module_facts before m)) after_item (port_facts before m) m.items

pub record IsFirstIn (whole before : Facts) (m : Module) (p : ModulePart) : Type 0 where
  pub breaks : BreaksPart whole before m p
  pub first : (q : ModulePart) → StandsBefore q p → BreaksPart whole before m q → ⊥

module _ (whole before : Facts) (m : Module) where
  pub unbroken : Meets whole before m → (q : ModulePart) → BreaksPart whole before m q → ⊥
  unbroken h part.Head b = head_unbroken whole before m h.head b
  unbroken h (part.Port k) b = port_unbroken _ _ b.0 (each_at (IsPort (module_facts before m)) after_port (head_facts before) m.ports k b.0 h.ports b.1) b.2
  unbroken h (part.Item k) b = item_unbroken _ _ b.0 (each_at (MeetsItem (module_facts before m)) after_item (port_facts before m) m.items k b.0 h.items b.1) b.2

  abbrev Told : Option ModulePart → Type 0
  Told None = Meets whole before m
  Told (Some p) = IsFirstIn whole before m p

  none_before_head : (q : ModulePart) → StandsBefore q part.Head → BreaksPart whole before m q → ⊥
  none_before_head part.Head lt b = lt
  none_before_head (part.Port j) lt b = lt
  none_before_head (part.Item j) lt b = lt

  abbrev PortFails : ℕ → Type 0
  PortFails = Fails (port_stands (module_facts before m)) after_port (head_facts before) m.ports

  abbrev ItemFails : ℕ → Type 0
  ItemFails = Fails (item_stands (module_facts before m)) after_item (port_facts before m) m.items

  none_before_port : (k : ℕ) → MeetsHead whole.placed before m → PortFails k → (q : ModulePart) → StandsBefore q (part.Port k) → BreaksPart whole before m q → ⊥
  none_before_port k h f part.Head lt b = head_unbroken whole before m h b
  none_before_port k h f (part.Port j) lt b = port_unbroken _ _ b.0 (port_meets _ _ b.0 (f.before j lt b.0 b.1)) b.2
  none_before_port k h f (part.Item j) lt b = lt

  abbrev PortsStand : Type 0
  PortsStand = EachAfter (λ s p. port_stands (module_facts before m) s p ≡ true) after_port (head_facts before) m.ports

  abbrev ItemsStand : Type 0
  ItemsStand = EachAfter (λ s x. item_stands (module_facts before m) s x ≡ true) after_item (port_facts before m) m.items

  ports_meet : PortsStand → EachAfter (IsPort (module_facts before m)) after_port (head_facts before) m.ports
  ports_meet =
      each_after_map (λ s p. port_stands (module_facts before m) s p
      ≡ true) (IsPort (module_facts before m)) after_port (head_facts before) m.ports (port_meets (module_facts before m))

  items_meet : ItemsStand → EachAfter (MeetsItem (module_facts before m)) after_item (port_facts before m) m.items
  items_meet =
      each_after_map (λ s x. item_stands (module_facts before m) s x
      ≡ true) (MeetsItem (module_facts before m)) after_item (port_facts before m) m.items (item_meets (module_facts before m))

  none_before_item : (k : ℕ) → MeetsHead whole.placed before m → PortsStand → ItemFails k → (q : ModulePart) → StandsBefore q (part.Item k) → BreaksPart whole before m q → ⊥
  none_before_item k h ps f part.Head lt b = head_unbroken whole before m h b
  none_before_item k h ps f (part.Port j) lt b =
      port_unbroken _ _ b.0 (each_at (IsPort (module_facts before m)) after_port (head_facts before) m.ports j b.0 (ports_meet ps) b.1) b.2
  none_before_item k h ps f (part.Item j) lt b = item_unbroken _ _ b.0 (item_meets _ _ b.0 (f.before j lt b.0 b.1)) b.2

  by_cases : (b : Bool) (o r : Option ℕ) → head_stands whole.placed before m ≡ b → first_wrong (port_stands (module_facts before m)) after_port (head_facts before) m.ports 0 ≡ o
      → first_wrong (item_stands (module_facts before m)) after_item (port_facts before m) m.items 0 ≡ r → Told (in_order b o r)
  by_cases false o r h g k = record { breaks = head_breaks whole before m h; first = none_before_head }
  by_cases true (Some n) r h g k =
      let f : PortFails n = first_fails (port_stands (module_facts before m)) after_port (head_facts before) m.ports n g in
      record { breaks = (f.item, f.here, port_breaks _ _ f.item f.fails); first = none_before_port n (head_meets whole before m h) f }
  by_cases true None (Some n) h g k =
      let f : ItemFails n = first_fails (item_stands (module_facts before m)) after_item (port_facts before m) m.items n k in
      let ps : PortsStand = all_pass (port_stands (module_facts before m)) after_port (head_facts before) m.ports 0 g in
      record { breaks = (f.item, f.here, item_breaks _ _ f.item f.fails); first = none_before_item n (head_meets whole before m h) ps f }
  by_cases true None None h g k = record {
    head = head_meets whole before m h;
    ports = ports_meet (all_pass (port_stands (module_facts before m)) after_port (head_facts before) m.ports 0 g);
    items = items_meet (all_pass (item_stands (module_facts before m)) after_item (port_facts before m) m.items 0 k);
  }

  pub told : Told (first_part whole.placed before m)
  told = by_cases _ _ _ refl refl refl

  pub part_is_first : (p : ModulePart) → first_part whole.placed before m ≡ Some p → IsFirstIn whole before m p
  part_is_first p e = subst Told e told

  pub all_meet : first_part whole.placed before m ≡ None → Meets whole before m
  all_meet e = subst Told e told

-- ---- the modules of a net

module _ (whole : Facts) where
  pub record FirstAmong (before : Facts) (ms : List Module) (k : ℕ) (r : NetPart) : Type 0 where
    pub at : ℕ
    pub one : Module
    pub inside : ModulePart
    pub is : r ≡ net.Module (k + at) inside
    pub here : slice_get ms at ≡ Some one
    pub first : IsFirstIn whole (after after_module before (take at ms)) one inside
    pub earlier : (j : ℕ) (x : Module) → j < at → slice_get ms j ≡ Some x → Meets whole (after after_module before (take j ms)) x

  meet_later : (s : Facts) (m : Module) (ms : List Module) (at : ℕ) → Meets whole s m
      → ((j : ℕ) (x : Module) → j < at → slice_get ms j ≡ Some x → Meets whole (after after_module (after_module s m) (take j ms)) x)
      → (j : ℕ) (x : Module) → j < suc at → slice_get (m ∷ ms) j ≡ Some x → Meets whole (after after_module s (take j (m ∷ ms))) x
  meet_later s m ms at h g zero x lt e = let same : m ≡ x = cc in subst (Meets whole s) same h
  meet_later s m ms at h g (suc j) x lt e = g j x (omega arith) e

  first_at : (s : Facts) (m : Module) (ms : List Module) (k : ℕ) (r : NetPart) (o : Option ModulePart) → first_part whole.placed s m ≡ o
      → or_later k o (first_among whole.placed (after_module s m) ms (k + 1)) ≡ Some r
      → (first_among whole.placed (after_module s m) ms (k + 1) ≡ Some r → FirstAmong (after_module s m) ms (k + 1) r) → FirstAmong s (m ∷ ms) k r
  first_at s m ms k r None e h rest =
      let f = rest h in
      let there : k + 1 + f.at ≡ k + suc f.at = omega arith in
      record {
        at = suc f.at;
        one = f.one;
        inside = f.inside;
        is = f.is ∙ ap (λ n. net.Module n f.inside) there;
        here = f.here;
        first = f.first;
        earlier = meet_later s m ms f.at (all_meet whole s m e) f.earlier;
      }
  first_at s m ms k r (Some p) e h rest =
      let there : k + 0 ≡ k = omega arith in
      let same : net.Module k p ≡ r = cc in
      record {
        at = 0;
        one = m;
        inside = p;
        is = sym same ∙ ap (λ n. net.Module n p) (sym there);
        here = refl;
        first = part_is_first whole s m p e;
        earlier = λ j x lt. absurd (omega arith);
      }

  pub among_first : (s : Facts) (ms : List Module) (k : ℕ) (r : NetPart) → first_among whole.placed s ms k ≡ Some r → FirstAmong s ms k r
  among_first s [] k r h = cc
  among_first s (m ∷ ms) k r h = first_at s m ms k r (first_part whole.placed s m) refl h (among_first (after_module s m) ms (k + 1) r)

  meet_at : (s : Facts) (m : Module) (ms : List Module) (k : ℕ) (o : Option ModulePart) → first_part whole.placed s m ≡ o
      → or_later k o (first_among whole.placed (after_module s m) ms (k + 1)) ≡ None
      → (first_among whole.placed (after_module s m) ms (k + 1) ≡ None → EachAfter (Meets whole) after_module (after_module s m) ms)
      → EachAfter (Meets whole) after_module s (m ∷ ms)
  meet_at s m ms k None e h rest = (all_meet whole s m e, rest h)
  meet_at s m ms k (Some p) e h rest = cc

  pub among_none : (s : Facts) (ms : List Module) (k : ℕ) → first_among whole.placed s ms k ≡ None → EachAfter (Meets whole) after_module s ms
  among_none s [] k h = tt
  among_none s (m ∷ ms) k h = meet_at s m ms k (first_part whole.placed s m) refl h (among_none (after_module s m) ms (k + 1))

-- ---- well-formed nets

full_items : (all s : Facts) (xs : List Item) → EachAfter (MeetsItem all) after_item s xs → Each IsFullItem xs
full_items all s [] h = tt
full_items all s (x ∷ xs) h = (full_item x h.0.full, full_items all (after_item s x) xs h.1)

meeting_items : (all s : Facts) (xs : List Item) → EachAfter (IsItem all) after_item s xs → Each IsFullItem xs → EachAfter (MeetsItem all) after_item s xs
meeting_items all s [] h g = tt
meeting_items all s (x ∷ xs) h g = (record { is = h.0; full = lacks_none x g.0 }, meeting_items all (after_item s x) xs h.1 g.1)

module _ (whole : Facts) where
  is_module : (s : Facts) (m : Module) → Meets whole s m → IsModule whole s m
  is_module s m h = record {
    new = h.head.new;
    name = h.head.name;
    clock = h.head.clock;
    placed = h.head.placed;
    ports = h.ports;
    items = each_after_map (MeetsItem (module_facts s m)) (IsItem (module_facts s m)) after_item (port_facts s m) m.items (λ t x g. g.is) h.items;
  }

  full_modules : (s : Facts) (ms : List Module) → EachAfter (Meets whole) after_module s ms → Each IsFullModule ms
  full_modules s [] h = tt
  full_modules s (m ∷ ms) h = ((filled m.ports h.0.head.ports, full_items (module_facts s m) (port_facts s m) m.items h.0.items), full_modules (after_module s m) ms h.1)

  meeting : (s : Facts) (m : Module) → IsModule whole s m → IsFullModule m → Meets whole s m
  meeting s m h g = record {
    head = record { ports = not_empty m.ports g.0; new = h.new; name = h.name; clock = h.clock; placed = h.placed };
    ports = h.ports;
    items = meeting_items (module_facts s m) (port_facts s m) m.items h.items g.1;
  }

  meeting_modules : (s : Facts) (ms : List Module) → EachAfter (IsModule whole) after_module s ms → Each IsFullModule ms → EachAfter (Meets whole) after_module s ms
  meeting_modules s [] h g = tt
  meeting_modules s (m ∷ ms) h g = (meeting s m h.0 g.0, meeting_modules (after_module s m) ms h.1 g.1)

abbrev whole_of : Net → Facts
whole_of n = after after_module nothing n.modules

well_formed_of : (n : Net) → IsFilled n.modules → EachAfter (Meets (whole_of n)) after_module nothing n.modules → IsWellFormed n
well_formed_of n f h = record {
  full = (f, full_modules (whole_of n) nothing n.modules h);
  modules = each_after_map (Meets (whole_of n)) (IsModule (whole_of n)) after_module nothing n.modules (is_module (whole_of n)) h;
}

pub breaks_none : (n : Net) → IsWellFormed n → NoneBreaks n
breaks_none n h net.Modules b = let e : is_empty n.modules ≡ false = not_empty n.modules h.full.0 in cc
breaks_none n h (net.Module k p) b =
    let stand = meeting_modules (whole_of n) nothing n.modules h.modules h.full.1 in
    unbroken (whole_of n) (after after_module nothing (take k n.modules)) b.0 (each_at (Meets (whole_of n)) after_module nothing n.modules k b.0 stand b.1) p b.2

-- ---- what is found

abbrev pub Answers : Net → Option NetPart → Type 0
Answers n None = IsWellFormed n
Answers n (Some p) = IsFirstBroken n p

none_before : (n : Net) (r : NetPart) (f : FirstAmong (whole_of n) nothing n.modules 0 r) → is_empty n.modules ≡ false → (q : NetPart)
    → GoesBefore q (net.Module f.at f.inside) → Breaks n q → ⊥
none_before n r f e net.Modules lt b = cc
none_before n r f e (net.Module j q) lt b =
    ⊎_elim (λ less. unbroken (whole_of n) _ b.0 (f.earlier j b.0 less b.1) q b.2)
    (λ same.
    let here : slice_get n.modules j ≡ Some f.one = ap (slice_get n.modules) same.0 ∙ f.here in
    let one : b.0 ≡ f.one = cc in
    let broken : BreaksPart (whole_of n) (after after_module nothing (take j n.modules)) f.one q =
    subst (λ x. BreaksPart (whole_of n) (after after_module nothing (take j n.modules)) x q) one b.2 in
    f.first.first q same.1 (subst (λ a. BreaksPart (whole_of n) (after after_module nothing (take a n.modules)) f.one q) same.0 broken))
    lt

broken_net : (n : Net) (r : NetPart) → is_empty n.modules ≡ false → FirstAmong (whole_of n) nothing n.modules 0 r → IsFirstBroken n r
broken_net n r e f =
    let there : f.at ≡ 0 + f.at = omega arith in
    let same : net.Module f.at f.inside ≡ r = ap (λ k. net.Module k f.inside) there ∙ sym f.is in
    subst (IsFirstBroken n) same (record { breaks = (f.one, f.here, f.first.breaks); first = none_before n r f e })

empty_first : (n : Net) (q : NetPart) → GoesBefore q net.Modules → Breaks n q → ⊥
empty_first n net.Modules lt b = lt
empty_first n (net.Module k p) lt b = lt

answers_at : (n : Net) (ms : List Module) (o : Option NetPart) → n.modules ≡ ms → first_of ms ≡ o → Answers n o
answers_at n [] None e h = cc
answers_at n [] (Some r) e h =
    let same : net.Modules ≡ r = cc in
    let none : is_empty n.modules ≡ true = ap is_empty e in
    subst (IsFirstBroken n) same (record { breaks = none; first = empty_first n })
answers_at n (m ∷ ms) None e h =
    let filled_one : IsFilled n.modules = filled n.modules (ap is_empty e) in
    let found : first_among (whole_of n).placed nothing n.modules 0 ≡ None = (ap (λ l. first_among (after after_module nothing l).placed nothing l 0) e) ∙ h in
    well_formed_of n filled_one (among_none (whole_of n) nothing n.modules 0 found)
answers_at n (m ∷ ms) (Some r) e h =
    let found : first_among (whole_of n).placed nothing n.modules 0 ≡ Some r = (ap (λ l. first_among (after after_module nothing l).placed nothing l 0) e) ∙ h in
    broken_net n r (ap is_empty e) (among_first (whole_of n) nothing n.modules 0 r found)

pub answers : (n : Net) (o : Option NetPart) → first_of n.modules ≡ o → Answers n o
answers n o h = answers_at n n.modules o refl h

well_formed : (n : Net) → NoneBreaks n → (o : Option NetPart) → first_of n.modules ≡ o → IsWellFormed n
well_formed n none None h = answers n None h
well_formed n none (Some p) h = let a : IsFirstBroken n p = answers n (Some p) h in absurd (none p a.breaks)

pub well_formed_where_none_breaks : WellFormedWhereNoneBreaks
well_formed_where_none_breaks n = (breaks_none n, λ none. well_formed n none (first_of n.modules) refl)
