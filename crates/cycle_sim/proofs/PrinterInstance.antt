-- In a netlist where $write stands in one module, which has one instance at most, one instance at most has a $write.
use Rattle.std.specs.Prelude.{◌≡◌, ℕ, zero, suc, ◌<◌, ◌≤◌, Bool, true, false, ◌||◌, List, [], ◌∷◌, take, Some, slice_get, if◌then◌else◌, refl, codes}
use Rattle.std.proofs.Common.{ap, sym, ◌∙◌, subst, ⊎_elim, arith}
use Rattle.std.specs.Str.{bytes_eq}
use Rattle.std.proofs.lemmas.Slice.Eq.{bytes_eq-Decides}
use Rattle.std.proofs.lemmas.Option.{same_Some}
use Rattle.netlist.specs.declared.netlist.Action.{Action}
use Rattle.netlist.specs.declared.netlist.Instance.{Instance}
use Rattle.netlist.specs.declared.netlist.Module.{Module}
use Rattle.netlist.specs.declared.netlist.Netlist.{Netlist}
use Rattle.netlist.specs.Laid.{AreApart, module_names}
use Rattle.netlist.specs.Sound.{IsSound, IsPrinting, IsTop, Places, is_write}
use Rattle.netlist.specs.Sound as sound
use Rattle.verilog_meaning.specs.Names.{module_named, top_of}
use Rattle.verilog_meaning.specs.Cycles.{Path, module_at}
use Rattle.sim_layout.specs.Running.{some_write}
use Rattle.cycle_sim.specs.Opened.{HasPrinters}
use Rattle.cycle_sim.proofs.Right.{held}

taken_below : {X : Type 0} (xs : List X) (k i : ℕ) (x : X) → slice_get (take k xs) i ≡ Some x → i < k
taken_below [] zero i x e = absurd cc
taken_below [] (suc k) i x e = absurd cc
taken_below (y ∷ xs) zero i x e = absurd cc
taken_below (y ∷ xs) (suc k) zero x e = omega arith
taken_below (y ∷ xs) (suc k) (suc i) x e = let l = taken_below xs k i x e in omega (arith, l)

-- the module of a name
record IsNamed (modules : List Module) (name : List ℕ) (m : Module) : Type 0 where
  pub number : ℕ
  pub listed : slice_get modules number ≡ Some m
  pub same : bytes_eq name m.name ≡ true

named_by : (b : Bool) (t : Module) (ms : List Module) (name : List ℕ) (m : Module) → bytes_eq name t.name ≡ b → (if b then Some t else module_named ms name) ≡ Some m
    → (module_named ms name ≡ Some m → IsNamed ms name m) → IsNamed (t ∷ ms) name m
named_by true t ms name m q e rest = let same = same_Some t m e in record { number = 0; listed = e; same = subst (λ (z : Module). bytes_eq name z.name ≡ true) same q }
named_by false t ms name m q e rest = let r = rest e in record { number = suc r.number; listed = r.listed; same = r.same }

named : (ms : List Module) (name : List ℕ) (m : Module) → module_named ms name ≡ Some m → IsNamed ms name m
named [] name m e = absurd cc
named (t ∷ ms) name m e = named_by (bytes_eq name t.name) t ms name m refl e (named ms name m)

name_at : (ms : List Module) (k : ℕ) (m : Module) → slice_get ms k ≡ Some m → slice_get (module_names ms) k ≡ Some m.name
name_at [] k m e = absurd cc
name_at (t ∷ ms) zero m e = ap (λ (z : Module). Some z.name) (same_Some t m e)
name_at (t ∷ ms) (suc k) m e = name_at ms k m e

-- an action that writes
record IsWritten (actions : List Action) : Type 0 where
  pub number : ℕ
  pub action : Action
  pub listed : slice_get actions number ≡ Some action
  pub writes : is_write action.effect ≡ true

written_or : (a : Action) (actions : List Action) (b : Bool) → is_write a.effect ≡ b → (b || some_write actions) ≡ true → (some_write actions ≡ true → IsWritten actions) → IsWritten (a ∷ actions)
written_or a actions true q e rest = record { number = 0; action = a; listed = refl; writes = q }
written_or a actions false q e rest = let r = rest e in record { number = suc r.number; action = r.action; listed = r.listed; writes = r.writes }

written_by : (actions : List Action) → some_write actions ≡ true → IsWritten actions
written_by [] e = absurd cc
written_by (a ∷ actions) e = written_or a actions (is_write a.effect) refl e (written_by actions)

-- what makes one instance at most print: no two modules have one name, that of an instance stands earlier, and $write stands in one
pub record PrintsOnce (n : Netlist) : Type 0 where
  pub names : AreApart (module_names n.modules)
  pub earlier : (k i : ℕ) (m : Module) (x : Instance) → slice_get n.modules k ≡ Some m → slice_get m.instances i ≡ Some x → x.of < k
  pub printing : IsPrinting n

module _ (n : Netlist) (is : PrintsOnce n) (top : Module) (is_top : top_of n.modules ≡ Some top) where
  abbrev modules : List Module
  modules = n.modules

  root : IsNamed modules (codes "top") top
  root = named modules (codes "top") top is_top

  -- the module named `top` is one
  top_number : (k : ℕ) → IsTop n k → k ≡ root.number
  top_number k t =
      let here = name_at modules k t.0 t.1 in
      let there = name_at modules root.number top root.listed in
      let same : (t.0).name ≡ top.name = (bytes_eq-Decides (t.0).name (codes "top")).0 t.2 ∙ (bytes_eq-Decides (codes "top") top.name).0 root.same in
      is.names k root.number (t.0).name here (there ∙ ap Some (sym same))

  -- ---- instances by the numbers of their modules

  abbrev numbered : (path : Path) (m : Module) → module_at modules top path ≡ Some m → (k : ℕ) × (slice_get modules k ≡ Some m)
  numbered [] m at = (root.number, root.listed ∙ at)
  numbered (i ∷ outer) m at = let h = held modules top outer i m at in (h.instance.of, h.kind)

  abbrev number : (path : Path) (m : Module) → module_at modules top path ≡ Some m → ℕ
  number path m at = (numbered path m at).0

  -- what stands round an instance has a later module
  record HasOuter (i : ℕ) (outer : Path) (k : ℕ) : Type 0 where
    pub holder : Module
    pub stands : module_at modules top outer ≡ Some holder
    pub places : Places n (number outer holder stands) i k
    pub lower : k < number outer holder stands

  outside : (i : ℕ) (outer : Path) (m : Module) (at : module_at modules top (i ∷ outer) ≡ Some m) → HasOuter i outer (number (i ∷ outer) m at)
  outside i outer m at =
      let h = held modules top outer i m at in
      let k = numbered outer h.holder h.stands in
      record { holder = h.holder; stands = h.stands; places = (h.holder, h.instance, k.1, h.listed, refl); lower = is.earlier k.0 i h.holder h.instance k.1 h.listed }

  at_most : (path : Path) (m : Module) (at : module_at modules top path ≡ Some m) → number path m at ≤ root.number
  at_most [] m at = let e : number [] m at ≡ root.number = refl in omega (arith, e)
  at_most (i ∷ outer) m at =
      let o = outside i outer m at in
      let l = o.lower in
      let rest = at_most outer o.holder o.stands in omega (arith, l, rest)

  inside : (i : ℕ) (outer : Path) (m : Module) (at : module_at modules top (i ∷ outer) ≡ Some m) → number (i ∷ outer) m at < root.number
  inside i outer m at =
      let o = outside i outer m at in
      let l = o.lower in
      let rest = at_most outer o.holder o.stands in omega (arith, l, rest)

  outermost : (path : Path) (m : Module) (at : module_at modules top path ≡ Some m) → number path m at ≡ root.number → path ≡ []
  outermost [] m at e = refl
  outermost (i ∷ outer) m at e = absurd (let l = inside i outer m at in omega (arith, l, e))

  both_outermost : (p q : Path) → p ≡ [] → q ≡ [] → p ≡ q
  both_outermost p q e f = e ∙ sym f

  -- a module that prints, or in which one stands that does, has one instance
  one_path : (p q : Path) (m k : Module) (at : module_at modules top p ≡ Some m) (there : module_at modules top q ≡ Some k) → number p m at ≡ number q k there
      → is.printing.below (number p m at) ≡ true → p ≡ q
  one_path [] q m k at there e b = sym (outermost q k there (sym e))
  one_path (i ∷ p) [] m k at there e b = absurd (let l = inside i p m at in omega (arith, l, e))
  one_path (i ∷ p) (j ∷ q) m k at there e b =
      let o = outside i p m at in
      let r = outside j q k there in
      let same = is.printing.once (number p o.holder o.stands) i (number q r.holder r.stands) j (number (i ∷ p) m at) b o.places
      (subst (Places n (number q r.holder r.stands) j) (sym e) r.places) in
      let outer : p ≡ q =
      ⊎_elim
      (λ (t : IsTop n (number p o.holder o.stands)).
      let here = top_number (number p o.holder o.stands) t in
      both_outermost p q (outermost p o.holder o.stands here) (outermost q r.holder r.stands (sym same.0 ∙ here)))
      (λ (low : is.printing.below (number p o.holder o.stands) ≡ true). one_path p q o.holder r.holder o.stands r.stands same.0 low)
      (is.printing.holds (number p o.holder o.stands) i (number (i ∷ p) m at) o.places b) in
      ap (λ z. z ∷ p) same.1 ∙ ap (λ (z : Path). j ∷ z) outer

  writes_here : (path : Path) (m : Module) (at : module_at modules top path ≡ Some m) → some_write m.actions ≡ true → sound.Writes n (number path m at)
  writes_here path m at e = let w = written_by m.actions e in (m, w.number, w.action, (numbered path m at).1, w.listed, w.writes)

  one_writes : (p q : Path) (m k : Module) → module_at modules top p ≡ Some m → module_at modules top q ≡ Some k → some_write m.actions ≡ true → some_write k.actions ≡ true → p ≡ q
  one_writes p q m k at there a b =
      let w = writes_here p m at a in
      let same = is.printing.one (number p m at) (number q k there) w (writes_here q k there b) in
      ⊎_elim
      (λ (t : IsTop n (number p m at)).
      let here = top_number (number p m at) t in
      both_outermost p q (outermost p m at here) (outermost q k there (sym same ∙ here)))
      (λ (low : is.printing.below (number p m at) ≡ true). one_path p q m k at there same low)
      (is.printing.writes (number p m at) w)

pub printer_of : (n : Netlist) → PrintsOnce n → HasPrinters n.modules → ⊥
printer_of n is two =
    two.apart (one_writes n is two.top two.is_top two.path two.other (two.writes).kind (two.writes_too).kind (two.writes).stands (two.writes_too).stands (two.writes).writes (two.writes_too).writes)

sound_prints : (n : Netlist) → IsSound n → PrintsOnce n
sound_prints n is = record {
  names = is.laid.names;
  earlier = λ k i m x e g. let laid = (is.laid.modules k m e).instances i x g in taken_below n.modules k x.of laid.of laid.earlier;
  printing = is.printing;
}

-- a sound netlist is one
pub one_printer : (n : Netlist) → IsSound n → HasPrinters n.modules → ⊥
one_printer n is = printer_of n (sound_prints n is)
