-- The memories of a well-formed module, and its initial constants, which fit.
use Rattle.std.proofs.Common.{◌≡◌, ℕ, zero, suc, ◌+◌, ◌^◌, ◌<◌, List, [], ◌∷◌, Bool, true, false}
use Rattle.std.proofs.Common.{Option, Some, None, refl, sym, ap, ◌∙◌, subst, inl, inr, map, length, arith}
use Rattle.std.specs.Prelude.{◌&&◌, ◌==◌, slice_get, nat_lt, if◌then◌else◌}
use Rattle.std.specs.List.{flat_map}
use Rattle.std.specs.Str.{bytes_eq}
use Rattle.std.proofs.lemmas.Nat.{pow_pos}
use Rattle.std.proofs.lemmas.Option.{same_Some, none-some}
use Rattle.std.proofs.lemmas.Bool.{ltb-true, and_parts}
use Rattle.std.proofs.lemmas.Slice.Eq.{bytes_eq-Decides}
use Rattle.lists.proofs.Places.{get_mapped, get_unmapped}
use Rattle.verilog_tree.specs.declared.kind.Kind.{Kind}
use Rattle.verilog_tree.specs.declared.kind.Kind.TheVariants as kind
use Rattle.verilog_tree.specs.declared.tree.Constant.{Constant}
use Rattle.verilog_tree.specs.declared.tree.InitialConstant.{InitialConstant}
use Rattle.verilog_tree.specs.declared.tree.Memory as text_memory
use Rattle.verilog_tree.specs.declared.tree.Port.{Port}
use Rattle.verilog_tree.specs.declared.tree.Item.{Item}
use Rattle.verilog_tree.specs.declared.tree.Item.TheVariants as i
use Rattle.verilog_tree.specs.declared.tree.Module.{Module}
use Rattle.verilog_tree.specs.Scope.{Name, Scope, kind_of, is_clk, port_declaration, port_class, signal, declaration, register_width, memory_width, words_of}
use Rattle.verilog_tree.specs.Scope as scope
use Rattle.verilog_tree.specs.Rules.{all_right, is_constant, place_right, initial_constant_right}
use Rattle.verilog_tree.specs.Facts.{Facts}
use Rattle.verilog_tree.specs.WellFormed.{IsModule}
use Rattle.netlist.specs.declared.netlist.Memory.{Memory}
use Rattle.netlist.specs.NetlistOf as n
use Rattle.netlist.specs.NetlistOf.{place}
use Rattle.netlist_text.proofs.Members.{In, Entry, in_first, in_rest, in_map, in_flat, in_unflat}
use Rattle.circuit.specs.Rows.{EachOf}
use Rattle.circuit.specs.Modules.{FitsMemory}
use Rattle.well_formed_net.proofs.Tests.{right_in}
use Rattle.well_formed_net.proofs.Lists.{place_found, some_in}
use Rattle.well_formed_net.proofs.Declarations.{all, item_is, item_kind, kind_named}
use Rattle.well_formed_net.proofs.Signals.{range_of}
use Rattle.well_formed_net.proofs.Rights.{IsWords}

-- ---- the constant of a place

given_by : (c : InitialConstant) (cs : List InitialConstant) (x : Name) (word : Option ℕ) (w : ℕ) (b : Bool) → (b ≡ true → c.value.value < 2 ^ w) → n.initial_of cs x word < 2 ^ w
    → (if b then c.value.value else n.initial_of cs x word) < 2 ^ w
given_by c cs x word w true here rest = here refl
given_by c cs x word w false here rest = rest

initial_below : (cs : List InitialConstant) (x : Name) (word : Option ℕ) (w : ℕ)
    → ((c : InitialConstant) → In cs c → x ≡ c.name → n.same_word word c.word ≡ true → c.value.value < 2 ^ w) → n.initial_of cs x word < 2 ^ w
initial_below [] x word w each = pow_pos w
initial_below (c ∷ cs) x word w each =
    given_by c cs x word w (bytes_eq x c.name && n.same_word word c.word)
    (λ h. each c (in_first c cs) ((bytes_eq-Decides x c.name).0 (and_parts (bytes_eq x c.name) (n.same_word word c.word) h).0) (and_parts (bytes_eq x c.name) (n.same_word word c.word) h).1)
    (initial_below cs x word w (λ d q. each d (in_rest c d cs q)))

words_below : (cs : List InitialConstant) (x : Name) (w : ℕ) → ((k : ℕ) → n.initial_of cs x (Some k) < 2 ^ w) → (k count : ℕ) → EachOf (λ v. v < 2 ^ w) (n.words_of cs x k count)
words_below cs x w each k zero = tt
words_below cs x w each k (suc count) = (each k, words_below cs x w each (k + 1) count)

words_long : (cs : List InitialConstant) (x : Name) (k count : ℕ) → length (n.words_of cs x k count) ≡ count
words_long cs x k zero = refl
words_long cs x k (suc count) = ap suc (words_long cs x (k + 1) count)

register_value : (sc : Scope) (o : Option Kind) (word : Option ℕ) (value : Constant) → n.same_word None word ≡ true → place_right sc o word value ≡ true →
    value.value < 2 ^ register_width o
register_value sc o None value e h =
    ltb-true value.value (2 ^ register_width o)
    (and_parts (value.width == register_width o) (nat_lt value.value (2 ^ register_width o)) (and_parts (nat_lt 0 (register_width o)) (is_constant value (register_width o)) h).1).1
register_value sc o (Some k) value e h = absurd (cc)

word_value : (sc : Scope) (o : Option Kind) (k : ℕ) (word : Option ℕ) (value : Constant) → n.same_word (Some k) word ≡ true → place_right sc o word value ≡ true →
    value.value < 2 ^ memory_width o
word_value sc o k None value e h = absurd (cc)
word_value sc o k (Some j) value e h =
    let rest = (and_parts (nat_lt 0 (memory_width o)) (nat_lt j (words_of o) && is_constant value (memory_width o)) h).1 in
    ltb-true value.value (2 ^ memory_width o)
    (and_parts (value.width == memory_width o) (nat_lt value.value (2 ^ memory_width o)) (and_parts (nat_lt j (words_of o)) (is_constant value (memory_width o)) rest).1).1

memory_is : (x : Item) (y : text_memory.Memory) → n.memory_item x ≡ Some y → x ≡ i.Memory y
memory_is (i.Memory z) y e = ap i.Memory (same_Some z y e)
memory_is (i.Wire z) y e = absurd (none-some y e)
memory_is (i.Register z) y e = absurd (none-some y e)
memory_is (i.Assign z) y e = absurd (none-some y e)
memory_is (i.Initial z) y e = absurd (none-some y e)
memory_is (i.Always z) y e = absurd (none-some y e)
memory_is (i.Instance z) y e = absurd (none-some y e)

module _ (whole f : Facts) (m : Module) (is : IsModule whole f m) where
  abbrev sc : Scope
  sc = (all whole f m is).scope

  abbrev constants : List InitialConstant
  constants = flat_map n.initial_constants m.items

  abbrev names : List Name
  names = map (λ (y : text_memory.Memory). y.name) (n.memory_items m)

  item_constants : (at : ℕ) (x : Item) → slice_get m.items at ≡ Some x → all_right (initial_constant_right sc) (n.initial_constants x) ≡ true
  item_constants at (i.Initial y) found = (item_is whole f m is at (i.Initial y) found).right
  item_constants at (i.Memory y) found = refl
  item_constants at (i.Wire y) found = refl
  item_constants at (i.Register y) found = refl
  item_constants at (i.Assign y) found = refl
  item_constants at (i.Always y) found = refl
  item_constants at (i.Instance y) found = refl

  constant_right : (c : InitialConstant) → In constants c → initial_constant_right sc c ≡ true
  constant_right c q =
      let p = in_unflat n.initial_constants m.items c q in
      right_in (initial_constant_right sc) (n.initial_constants p.x) c (item_constants p.at p.x p.found) p.inside

  -- the constant of a register
  pub register_below : (x : Name) → n.initial_of constants x None < 2 ^ register_width (kind_of sc x)
  register_below x =
      initial_below constants x None (register_width (kind_of sc x))
      (λ c q e h. subst (λ (z : Name). c.value.value < 2 ^ register_width (kind_of sc z)) (sym e) (register_value sc (kind_of sc c.name) c.word c.value h (constant_right c q)))

  word_below : (x : Name) (k : ℕ) → n.initial_of constants x (Some k) < 2 ^ memory_width (kind_of sc x)
  word_below x k =
      initial_below constants x (Some k) (memory_width (kind_of sc x))
      (λ c q e h. subst (λ (z : Name). c.value.value < 2 ^ memory_width (kind_of sc z)) (sym e) (word_value sc (kind_of sc c.name) k c.word c.value h (constant_right c q)))

  -- ---- memories

  memory_at : (at : ℕ) (y : text_memory.Memory) → slice_get m.items at ≡ Some (i.Memory y) → kind_of sc y.name ≡ Some (kind.Memory (y.high + 1) y.last)
  memory_at at y found =
      let k = item_kind whole f m is at (i.Memory y) (y.name, kind.Memory (scope.width_of (Some y.high)) y.last) found refl in
      k.0 ∙ ap (λ w. Some (kind.Memory w y.last)) (range_of (Some y.high) (item_is whole f m is at (i.Memory y) found).right).width

  -- a memory of the module is declared by its name
  pub memory_told : (y : text_memory.Memory) → In (n.memory_items m) y → kind_of sc y.name ≡ Some (kind.Memory (y.high + 1) y.last)
  memory_told y q =
      let p = in_unflat (λ (x : Item). n.some (n.memory_item x)) m.items y q in
      memory_at p.at y (p.found ∙ ap Some (memory_is p.x y (some_in (n.memory_item p.x) y p.inside)))

  no_port : (b : Bool) (k : Kind) → memory_width (Some k) ≡ 0 → memory_width (Some (if b then kind.Clock else k)) ≡ 0
  no_port true k e = refl
  no_port false k e = e

  port_words : (p : Port) → memory_width (Some (port_declaration p).1) ≡ 0
  port_words p = no_port (is_clk p.name) (signal (port_class p.direction) p.high) refl

  item_words : (at : ℕ) (x : Item) (d : Entry) → slice_get m.items at ≡ Some x → declaration x ≡ Some d → 0 < memory_width (Some d.1) → In names d.0
  item_words at (i.Memory y) d found e l =
      subst (λ (t : Entry). In names t.0) (same_Some _ d e)
      (in_map (λ (t : text_memory.Memory). t.name) (n.memory_items m) y (in_flat (λ (x : Item). n.some (n.memory_item x)) m.items at (i.Memory y) y found (in_first y [])))
  item_words at (i.Wire y) d found e l = absurd (let z : 0 ≡ memory_width (Some d.1) = ap (λ (t : Entry). memory_width (Some t.1)) (same_Some _ d e) in omega (arith, z, l))
  item_words at (i.Register y) d found e l = absurd (let z : 0 ≡ memory_width (Some d.1) = ap (λ (t : Entry). memory_width (Some t.1)) (same_Some _ d e) in omega (arith, z, l))
  item_words at (i.Instance y) d found e l = absurd (let z : 0 ≡ memory_width (Some d.1) = ap (λ (t : Entry). memory_width (Some t.1)) (same_Some _ d e) in omega (arith, z, l))
  item_words at (i.Assign y) d found e l = absurd (none-some d e)
  item_words at (i.Initial y) d found e l = absurd (none-some d e)
  item_words at (i.Always y) d found e l = absurd (none-some d e)

  words_named : (x : Name) (k : Kind) → kind_of sc x ≡ Some k → 0 < memory_width (Some k) → In names x
  words_named x k e l = elim (kind_named whole f m is x k e) [
    | inl p ↦ absurd (let z : memory_width (Some k) ≡ 0 = sym (ap (λ t. memory_width (Some t)) p.kind) ∙ port_words p.port in omega (arith, z, l))
    | inr p ↦ subst (In names) p.name (item_words p.at p.item p.entry p.found p.declared (subst (λ (t : Kind). 0 < memory_width (Some t)) (sym p.kind) l))
  ]

  words_kind : (x : Name) (o : Option Kind) → kind_of sc x ≡ o → 0 < memory_width o → In names x
  words_kind x None e l = absurd (omega arith)
  words_kind x (Some k) e l = words_named x k e l

  abbrev pub memory_of : text_memory.Memory → Memory
  memory_of y = record { name = y.name; width = y.high + 1; initial = n.words_of constants y.name 0 (y.last + 1) }

  -- the memory of a name
  pub memory_found : (x : Name) → 0 < memory_width (kind_of sc x) → IsWords (λ j. slice_get (map memory_of (n.memory_items m)) j) names sc x
  memory_found x l =
      let q = get_unmapped (λ (y : text_memory.Memory). y.name) (n.memory_items m) (place names x) x (place_found names x (words_kind x (kind_of sc x) refl l)) in
      let told : kind_of sc x ≡ Some (kind.Memory ((q.0).high + 1) (q.0).last) = ap (kind_of sc) (sym q.2) ∙ memory_told q.0 (record { at = place names x; found = q.1 }) in
      record {
        words = memory_of q.0;
        listed = get_mapped memory_of (n.memory_items m) (place names x) q.0 q.1;
        wide = sym (ap memory_width told);
        long = words_long constants (q.0).name 0 ((q.0).last + 1) ∙ sym (ap words_of told);
      }

  memory_fits : (y : text_memory.Memory) → In (n.memory_items m) y → FitsMemory (memory_of y)
  memory_fits y q =
      words_below constants y.name (y.high + 1)
      (λ k. subst (λ w. n.initial_of constants y.name (Some k) < 2 ^ w) (ap memory_width (memory_told y q)) (word_below y.name k)) 0 (y.last + 1)

  memories_fit : (ys : List text_memory.Memory) → ((y : text_memory.Memory) → In ys y → In (n.memory_items m) y) → EachOf FitsMemory (map memory_of ys)
  memories_fit [] each = tt
  memories_fit (y ∷ ys) each = (memory_fits y (each y (in_first y ys)), memories_fit ys (λ z q. each z (in_rest y z ys q)))

  -- their initial constants fit
  pub all_memories_fit : EachOf FitsMemory (map memory_of (n.memory_items m))
  all_memories_fit = memories_fit (n.memory_items m) (λ y q. q)
