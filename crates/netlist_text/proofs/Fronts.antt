-- Tests over the items of a module, and facts that hold item after item.
use Rattle.std.proofs.Common.{◌≡◌, ℕ, ◌<◌, ◌⊎◌, List, [], ◌∷◌, ◌++◌, Bool, true, false}
use Rattle.std.proofs.Common.{Some, refl, sym, ap, ◌∙◌, subst, inl, inr, length, map, add-zero, append_assoc, arith}
use Rattle.std.specs.Prelude.{slice_get, ◌||◌}
use Rattle.std.specs.List.{flat_map, list_any}
use Rattle.std.proofs.lemmas.List.{append-nil}
use Rattle.std.proofs.lemmas.List.Concat.{flat_map-append, flat_map_single}
use Rattle.lists.proofs.Places.{get_back}
use Rattle.verilog_tree.specs.declared.tree.InitialConstant.{InitialConstant}
use Rattle.verilog_tree.specs.declared.tree.Statement.{Statement}
use Rattle.verilog_tree.specs.declared.tree.Wire.{Wire}
use Rattle.verilog_tree.specs.declared.tree.Register.{Register}
use Rattle.verilog_tree.specs.declared.tree.Memory as text_memory
use Rattle.verilog_tree.specs.declared.tree.Assign.{Assign}
use Rattle.verilog_tree.specs.declared.tree.Initial.{Initial}
use Rattle.verilog_tree.specs.declared.tree.Item.{Item}
use Rattle.verilog_tree.specs.declared.tree.Item.TheVariants as i
use Rattle.verilog_tree.specs.Facts.{after}
use Rattle.verilog_tree.specs.WellFormed.{EachAfter}
use Rattle.netlist.specs.declared.netlist.Source.{Source}
use Rattle.netlist.specs.declared.netlist.Source.TheVariants as source
use Rattle.netlist.specs.declared.netlist.Signal.{Signal}
use Rattle.netlist.specs.declared.netlist.Memory.{Memory}
use Rattle.netlist.specs.declared.netlist.Instance.{Instance}
use Rattle.netlist.specs.declared.netlist.Module.{Module}
use Rattle.netlist.specs.NetlistOf.{Kind, InputPort, OutputPort, PlainWire, Reg}
use Rattle.netlist.specs.Laid.{kind_of}
use Rattle.netlist_text.specs.LaidOut as laid
use Rattle.netlist_text.proofs.Members.{In, in_none, in_one, in_first, in_rest, in_either, in_unmap, in_unflat}
use Rattle.netlist_text.proofs.Grown.{after-append}
use Rattle.netlist_text.proofs.Views.{front}

pub split_at : {A : Type 0} (xs a b : List A) (x : A) → xs ≡ a ++ x ∷ b → slice_get xs (length a) ≡ Some x
split_at xs a b x e = ap (λ l. slice_get l (length a)) e ∙ ap (slice_get (a ++ x ∷ b)) (sym (add-zero (length a))) ∙ get_back a (x ∷ b) 0 x refl

-- ---- some item passes a test

pub record Passes {A : Type 0} (p : A → Bool) (xs : List A) : Type 0 where
  pub x : A
  pub held : In xs x
  pub passes : p x ≡ true

passes_step : {A : Type 0} (p : A → Bool) (y : A) (xs : List A) → (list_any p xs ≡ true → Passes p xs) → (b : Bool) → p y ≡ b → (b || list_any p xs) ≡ true → Passes p (y ∷ xs)
passes_step p y xs next true e h = record { x = y; held = in_first y xs; passes = e }
passes_step p y xs next false e h = let n = next h in record { x = n.x; held = in_rest y n.x xs n.held; passes = n.passes }

pub any_passes : {A : Type 0} (p : A → Bool) (xs : List A) → list_any p xs ≡ true → Passes p xs
any_passes p [] h = absurd (cc)
any_passes p (y ∷ xs) h = passes_step p y xs (any_passes p xs) (p y) refl h

block_in : {A B : Type 0} (f : List A → B) (xs : List A) (y : B) → In (laid.block f xs) y → (f xs ≡ y) × (0 < length xs)
block_in f [] y h = absurd (in_none y h)
block_in f (x ∷ xs) y h = (in_one (f (x ∷ xs)) y h, omega arith)

module _ (p : Item → Bool) (wire : (y : Wire) → p (i.Wire y) ≡ false) (register : (y : Register) → p (i.Register y) ≡ false) (memory : (y : text_memory.Memory) → p (i.Memory y) ≡ false)
    (assign : (y : Assign) → p (i.Assign y) ≡ false) (initial : (y : Initial) → p (i.Initial y) ≡ false) where
  declared_no : (s : Signal) (k : Kind) (y : Item) → In (laid.declared_by s k) y → p y ≡ false
  declared_no s InputPort y h = absurd (in_none y h)
  declared_no s OutputPort y h = absurd (in_none y h)
  declared_no s PlainWire y h = ap p (sym (in_one _ y h)) ∙ wire _
  declared_no s Reg y h = ap p (sym (in_one _ y h)) ∙ register _

  assign_no : (m : Module) (s : Signal) (from : Source) (y : Item) → In (laid.assign_by m s from) y → p y ≡ false
  assign_no m s source.Input y h = absurd (in_none y h)
  assign_no m s (source.Register v) y h = absurd (in_none y h)
  assign_no m s (source.Assigned right) y h = ap p (sym (in_one _ y h)) ∙ assign _
  assign_no m s (source.Port j port) y h = absurd (in_none y h)

  clash : {X : Type 0} (y : Item) → p y ≡ true → p y ≡ false → X
  clash y a b = let e : true ≡ false = sym a ∙ b in absurd (cc)

  pub any_front : (all : List Module) (m : Module) (ss : List Signal) (cs : List Memory) (ts : List Signal) (constants : List InitialConstant) (body : List Statement) (ns : List Instance)
      → list_any p (front all m ss cs ts constants body ns) ≡ true
      → ((p (laid.always_item body) ≡ true) × (0 < length body)) ⊎ ((k : ℕ) × (n : Instance) × (slice_get ns k ≡ Some n) × (p (laid.instance_item all m n) ≡ true))
  any_front all m ss cs ts constants body ns h =
      let a = flat_map laid.declared ss in
      let b = map laid.memory_item cs in
      let c = flat_map (laid.assign_of m) ts in
      let d = laid.block laid.initial_item constants in
      let e = laid.block laid.always_item body in
      let g = map (laid.instance_item all m) ns in
      let y = any_passes p (front all m ss cs ts constants body ns) h in
      elim (in_either (a ++ b ++ c ++ d ++ e) g y.x y.held) [
        | inl q ↦ elim (in_either (a ++ b ++ c ++ d) e y.x q) [
          | inl r ↦ elim (in_either (a ++ b ++ c) d y.x r) [
            | inl t ↦ elim (in_either (a ++ b) c y.x t) [
              | inl u ↦ elim (in_either a b y.x u) [
                | inl w ↦ (let f = in_unflat laid.declared ss y.x w in clash y.x y.passes (declared_no f.x (kind_of f.x) y.x f.inside))
                | inr w ↦ (let f = in_unmap laid.memory_item cs y.x w in clash y.x y.passes (ap p (sym f.is) ∙ memory _))
              ]
              | inr u ↦ (let f = in_unflat (laid.assign_of m) ts y.x u in clash y.x y.passes (assign_no m f.x f.x.source y.x f.inside))
            ]
            | inr t ↦ (let f = block_in laid.initial_item constants y.x t in clash y.x y.passes (ap p (sym f.0) ∙ initial _))
          ]
          | inr r ↦ inl (let f = block_in laid.always_item body y.x r in (ap p f.0 ∙ y.passes, f.1))
        ]
        | inr q ↦ inr (let f = in_unmap (laid.instance_item all m) ns y.x q in (f.at, f.x, f.found, ap p f.is ∙ y.passes))
      ]

-- ---- item after item

module _ {S A : Type 0} (P : S → A → Type 0) (step : S → A → S) where
  pub each_append : (s : S) (xs ys : List A) → EachAfter P step s xs → EachAfter P step (after step s xs) ys → EachAfter P step s (xs ++ ys)
  each_append s [] ys h g = g
  each_append s (x ∷ xs) ys h g = (h.0, each_append (step s x) xs ys h.1 g)

  pub each_at : (s t : S) (xs : List A) → s ≡ t → EachAfter P step t xs → EachAfter P step s xs
  each_at s t xs e h = subst (λ (u : S). EachAfter P step u xs) (sym e) h

  each_flat_from : {B : Type 0} (f : B → List A) (s : S) (xs a b : List B) → xs ≡ a ++ b
      → ((a b : List B) (x : B) → xs ≡ a ++ x ∷ b → EachAfter P step (after step s (flat_map f a)) (f x)) → EachAfter P step (after step s (flat_map f a)) (flat_map f b)
  each_flat_from f s xs a [] e h = tt
  each_flat_from f s xs a (x ∷ b) e h =
      let state : after step (after step s (flat_map f a)) (f x) ≡ after step s (flat_map f (a ++ x ∷ [])) =
      sym (after-append step s (flat_map f a) (f x)) ∙ ap (after step s) (sym (flat_map-append f a (x ∷ []) ∙ ap (λ l. flat_map f a ++ l) (append-nil (f x)))) in
      each_append (after step s (flat_map f a)) (f x) (flat_map f b) (h a b x e)
      (each_at (after step (after step s (flat_map f a)) (f x)) (after step s (flat_map f (a ++ x ∷ []))) (flat_map f b) state
      (each_flat_from f s xs (a ++ x ∷ []) b (e ∙ sym (append_assoc a (x ∷ []) b)) h))

  pub each_flat : {B : Type 0} (f : B → List A) (s : S) (xs : List B) → ((a b : List B) (x : B) → xs ≡ a ++ x ∷ b → EachAfter P step (after step s (flat_map f a)) (f x))
      → EachAfter P step s (flat_map f xs)
  each_flat f s xs h = each_flat_from f s xs [] xs refl h

  pub each_map : {B : Type 0} (f : B → A) (s : S) (xs : List B) → ((a b : List B) (x : B) → xs ≡ a ++ x ∷ b → P (after step s (map f a)) (f x)) → EachAfter P step s (map f xs)
  each_map {B = B} f s xs h =
      subst (λ (l : List A). EachAfter P step s l) (flat_map_single f xs) (each_flat (λ (x : B). f x ∷ []) s xs (λ a b x e.
      (subst (λ (l : List A). P (after step s l) (f x)) (sym (flat_map_single f a)) (h a b x e), tt)))

  pub each_block : {B : Type 0} (f : List B → A) (s : S) (xs : List B) → (0 < length xs → P s (f xs)) → EachAfter P step s (laid.block f xs)
  each_block f s [] h = tt
  each_block f s (x ∷ xs) h = (h (omega arith), tt)
