-- The rules of statements say that the actions of a module fit, and an action that writes is one of a statement with a $write.
use Rattle.std.proofs.Common.{◌≡◌, ℕ, ◌<◌, List, [], ◌∷◌, ◌++◌, Bool, true, false, refl, sym, ap, ◌∙◌, subst, inl, inr, map, length, arith}
use Rattle.std.specs.Prelude.{◌==◌, slice_get}
use Rattle.std.specs.List.{flat_map, list_any}
use Rattle.std.proofs.lemmas.Bool.{ltb-true, eqb-true, or_left, or_right, and_parts}
use Rattle.verilog_tree.specs.declared.tree.WriteArgument.{WriteArgument}
use Rattle.verilog_tree.specs.declared.tree.WriteArgument.TheVariants as w
use Rattle.verilog_tree.specs.declared.tree.Statement.{Statement}
use Rattle.verilog_tree.specs.declared.tree.Statement.TheVariants as s
use Rattle.verilog_tree.specs.declared.tree.Statement.TheOpen.{Statement-F}
use Rattle.verilog_tree.specs.declared.tree.Statement.TheFolds.{fold-Statement, fold-roll-Statement}
use Rattle.verilog_tree.specs.Reads.{Each}
use Rattle.verilog_tree.specs.Scope.{Name, Scope, kind_of, register_width, memory_width}
use Rattle.verilog_tree.specs.Rules.{all_true, all_right, Between, values_in, has_values, width, is_signal, has_width, argument_right, statement_step, statement_right}
use Rattle.verilog_tree.specs.Facts.{any_true, prints_step, statement_prints}
use Rattle.verilog_tree.proofs.Fold.{induct}
use Rattle.netlist.specs.declared.netlist.Effect.TheVariants as effect
use Rattle.netlist.specs.declared.netlist.Action.{Action}
use Rattle.netlist.specs.declared.netlist.Module.{Module}
use Rattle.netlist.specs.Sound.{is_write}
use Rattle.netlist.specs.NetlistOf as n
use Rattle.netlist.specs.NetlistOf.{place}
use Rattle.netlist_text.proofs.Members.{In, in_none, in_one, in_either}
use Rattle.netlist_text.proofs.Actions.{fold_set, fold_store, fold_write}
use Rattle.circuit.specs.Rows.{EachOf}
use Rattle.circuit.specs.Modules.{Has, HasRegister, FitsArgument, FitsAction}
use Rattle.well_formed_net.proofs.Rights.{IsWords}

pub fold_if : (A : Type 0) (f : Statement-F A → A) (x : Name) (ys : List Statement) → fold-Statement A f (s.If x ys) ≡ f (Statement-F.If x (map (fold-Statement A f) ys))
fold_if A f x ys = ap (fold-Statement A f) (sym (s.rolls-If x ys)) ∙ fold-roll-Statement A f (Statement-F.If x ys)

pub each_append : {X : Type 0} (P : X → Type 0) (xs ys : List X) → EachOf P xs → EachOf P ys → EachOf P (xs ++ ys)
each_append P [] ys p q = q
each_append P (x ∷ xs) ys p q = (p.0, each_append P xs ys p.1 q)

module _ (signals memories : List Name) where
  abbrev actions : Statement → List ℕ → List Action
  actions = n.statement_actions signals memories

  set_action : (x y : Name) (cs : List ℕ) → actions (s.Set x y) cs ≡ record { conditions = cs; effect = effect.Set (place signals x) (place signals y) } ∷ []
  set_action x y cs = ap (λ (g : List ℕ → List Action). g cs) (fold_set (List ℕ → List Action) (n.statement_step signals memories) x y)

  store_action : (m x y : Name) (cs : List ℕ) →
      actions (s.Store m x y) cs ≡ record { conditions = cs; effect = effect.Store (place memories m) (place signals x) (place signals y) } ∷ []
  store_action m x y cs = ap (λ (g : List ℕ → List Action). g cs) (fold_store (List ℕ → List Action) (n.statement_step signals memories) m x y)

  write_action : (text : List ℕ) (ys : List WriteArgument) (cs : List ℕ)
      → actions (s.Write text ys) cs ≡ record { conditions = cs; effect = effect.Write text (map (n.argument signals memories) ys) } ∷ []
  write_action text ys cs = ap (λ (g : List ℕ → List Action). g cs) (fold_write (List ℕ → List Action) (n.statement_step signals memories) text ys)

  if_actions : (c : Name) (ys : List Statement) (cs : List ℕ) → actions (s.If c ys) cs ≡ flat_map (λ (g : List ℕ → List Action). g (cs ++ place signals c ∷ [])) (map actions ys)
  if_actions c ys cs = ap (λ (g : List ℕ → List Action). g cs) (fold_if (List ℕ → List Action) (n.statement_step signals memories) c ys)

  -- ---- widths

  module _ (m : Module) (scope : Scope)
      (at_name : (x : Name) → 0 < width scope x → Has m (place signals x) (width scope x))
      (at_register : (x : Name) → 0 < register_width (kind_of scope x) → HasRegister m (place signals x) (register_width (kind_of scope x)))
      (at_memory : (x : Name) → 0 < memory_width (kind_of scope x) → IsWords (λ j. slice_get m.memories j) memories scope x) where
    abbrev IsBit : ℕ → Type 0
    IsBit c = Has m c 1

    abbrev Fits : Statement → Type 0
    Fits x = statement_right scope x ≡ true → (cs : List ℕ) → EachOf IsBit cs → EachOf (FitsAction m) (actions x cs)

    of_width : (x : Name) (k : ℕ) → has_width scope x k ≡ true → Has m (place signals x) k × (0 < k)
    of_width x k q =
        let l = ltb-true 0 (width scope x) (and_parts (is_signal scope x) (width scope x == k) q).0 in
        let e = eqb-true (width scope x) k (and_parts (is_signal scope x) (width scope x == k) q).1 in
        (subst (Has m (place signals x)) e (at_name x l), omega (arith, l, e))

    of_signal : (x : Name) → is_signal scope x ≡ true → (k : ℕ) × Has m (place signals x) k
    of_signal x q = (width scope x, at_name x (ltb-true 0 (width scope x) q))

    set_fits : (x y : Name) → Fits (s.Set x y)
    set_fits x y h cs fit =
        let r = of_width y (register_width (kind_of scope x)) (sym (fold_set Bool (statement_step scope) x y) ∙ h) in
        subst (EachOf (FitsAction m)) (sym (set_action x y cs)) ((fit, (register_width (kind_of scope x), at_register x r.1, r.0)), tt)

    store_fits : (c x y : Name) → Fits (s.Store c x y)
    store_fits c x y h cs fit =
        let k = memory_width (kind_of scope c) in
        let both = sym (fold_store Bool (statement_step scope) c x y) ∙ h in
        let r = of_width y k (and_parts (is_signal scope x) (has_width scope y k) both).1 in
        let t = at_memory c r.1 in
        subst (EachOf (FitsAction m)) (sym (store_action c x y cs))
        ((fit, (t.words, t.listed, subst (Has m (place signals y)) (sym t.wide) r.0, of_signal x (and_parts (is_signal scope x) (has_width scope y k) both).0)), tt)

    arguments_fit : (ys : List WriteArgument) → all_right (argument_right scope) ys ≡ true → EachOf (FitsArgument m) (map (n.argument signals memories) ys)
    arguments_fit [] h = tt
    arguments_fit (w.Unsigned x ∷ ys) h = (
      of_signal x (and_parts (is_signal scope x) (all_right (argument_right scope) ys) h).0,
      arguments_fit ys (and_parts (is_signal scope x) (all_right (argument_right scope) ys) h).1,
    )
    arguments_fit (w.Signed x ∷ ys) h = (
      of_signal x (and_parts (is_signal scope x) (all_right (argument_right scope) ys) h).0,
      arguments_fit ys (and_parts (is_signal scope x) (all_right (argument_right scope) ys) h).1,
    )

    write_fits : (text : List ℕ) (ys : List WriteArgument) → Fits (s.Write text ys)
    write_fits text ys h cs fit =
        let both = sym (fold_write Bool (statement_step scope) text ys) ∙ h in
        subst (EachOf (FitsAction m)) (sym (write_action text ys cs))
        ((fit, arguments_fit ys (and_parts (has_values (values_in Between text) (length ys)) (all_right (argument_right scope) ys) both).1), tt)

    bodies_fit : (ys : List Statement) → Each Fits ys → all_true (map (statement_right scope) ys) ≡ true → (cs : List ℕ) → EachOf IsBit cs
        → EachOf (FitsAction m) (flat_map (λ (g : List ℕ → List Action). g cs) (map actions ys))
    bodies_fit [] each h cs fit = tt
    bodies_fit (y ∷ ys) each h cs fit =
        each_append (FitsAction m) (actions y cs) (flat_map (λ (g : List ℕ → List Action). g cs) (map actions ys))
        (each.0 (and_parts (statement_right scope y) (all_true (map (statement_right scope) ys)) h).0 cs fit)
        (bodies_fit ys each.1 (and_parts (statement_right scope y) (all_true (map (statement_right scope) ys)) h).1 cs fit)

    if_fits : (c : Name) (ys : List Statement) → Each Fits ys → Fits (s.If c ys)
    if_fits c ys each h cs fit =
        let both = sym (fold_if Bool (statement_step scope) c ys) ∙ h in
        let bit = of_width c 1 (and_parts (has_width scope c 1) (all_true (map (statement_right scope) ys)) both).0 in
        subst (EachOf (FitsAction m)) (sym (if_actions c ys cs))
        (bodies_fit ys each (and_parts (has_width scope c 1) (all_true (map (statement_right scope) ys)) both).1 (cs ++ place signals c ∷ [])
        (each_append IsBit cs (place signals c ∷ []) fit (bit.0, tt)))

    statement_fits : (x : Statement) → Fits x
    statement_fits = induct Fits set_fits store_fits if_fits write_fits

    -- the statements of an always block
    pub body_fits : (ys : List Statement) → all_right (statement_right scope) ys ≡ true → EachOf (FitsAction m) (flat_map (λ (x : Statement). actions x []) ys)
    body_fits [] h = tt
    body_fits (y ∷ ys) h =
        each_append (FitsAction m) (actions y []) (flat_map (λ (x : Statement). actions x []) ys)
        (statement_fits y (and_parts (statement_right scope y) (all_right (statement_right scope) ys) h).0 [] tt)
        (body_fits ys (and_parts (statement_right scope y) (all_right (statement_right scope) ys) h).1)

  -- ---- what is printed

  abbrev Prints : Statement → Type 0
  Prints x = (cs : List ℕ) (a : Action) → In (actions x cs) a → is_write a.effect ≡ true → statement_prints x ≡ true

  not_written : (cs : List ℕ) (x : Statement) (b : Action) (a : Action) → actions x cs ≡ b ∷ [] → is_write b.effect ≡ false → In (actions x cs) a → is_write a.effect ≡ true
      → statement_prints x ≡ true
  not_written cs x b a e quiet i h =
      let same_action : b ≡ a = in_one b a (subst (λ (l : List Action). In l a) e i) in
      absurd (let z : false ≡ true = sym quiet ∙ ap (λ (t : Action). is_write t.effect) same_action ∙ h in cc)

  set_prints : (x y : Name) → Prints (s.Set x y)
  set_prints x y cs a i h = not_written cs (s.Set x y) _ a (set_action x y cs) refl i h

  store_prints : (c x y : Name) → Prints (s.Store c x y)
  store_prints c x y cs a i h = not_written cs (s.Store c x y) _ a (store_action c x y cs) refl i h

  write_prints : (text : List ℕ) (ys : List WriteArgument) → Prints (s.Write text ys)
  write_prints text ys cs a i h = fold_write Bool prints_step text ys

  bodies_print : (ys : List Statement) → Each Prints ys → (cs : List ℕ) (a : Action) → In (flat_map (λ (g : List ℕ → List Action). g cs) (map actions ys)) a →
      is_write a.effect ≡ true
      → any_true (map statement_prints ys) ≡ true
  bodies_print [] each cs a i h = absurd (in_none a i)
  bodies_print (y ∷ ys) each cs a i h = elim (in_either (actions y cs) (flat_map (λ (g : List ℕ → List Action). g cs) (map actions ys)) a i) [
    | inl p ↦ or_left (statement_prints y) (any_true (map statement_prints ys)) (each.0 cs a p h)
    | inr p ↦ or_right (statement_prints y) (any_true (map statement_prints ys)) (bodies_print ys each.1 cs a p h)
  ]

  if_prints : (c : Name) (ys : List Statement) → Each Prints ys → Prints (s.If c ys)
  if_prints c ys each cs a i h =
      fold_if Bool prints_step c ys ∙ bodies_print ys each (cs ++ place signals c ∷ []) a (subst (λ (l : List Action). In l a) (if_actions c ys cs) i) h

  statement_prints_too : (x : Statement) → Prints x
  statement_prints_too = induct Prints set_prints store_prints if_prints write_prints

  -- an always block with an action that writes has a $write
  pub body_prints : (ys : List Statement) (a : Action) → In (flat_map (λ (x : Statement). actions x []) ys) a → is_write a.effect ≡ true → list_any statement_prints ys ≡ true
  body_prints [] a i h = absurd (in_none a i)
  body_prints (y ∷ ys) a i h = elim (in_either (actions y []) (flat_map (λ (x : Statement). actions x []) ys) a i) [
    | inl p ↦ or_left (statement_prints y) (list_any statement_prints ys) (statement_prints_too y [] a p h)
    | inr p ↦ or_right (statement_prints y) (list_any statement_prints ys) (body_prints ys a p h)
  ]
