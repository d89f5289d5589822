-- Operations that need not keep their order.
use Rattle.std.proofs.Common.{◌≡◌, ℕ, ℤ, List, Bool, true, false, Option, Some, None, refl, ap, sym, ◌∙◌, ◌⊎◌, inl, inr, arith, if◌then◌else◌, ◌||◌}
use Rattle.std.proofs.Math.Path.{fun_ext}
use Rattle.std.proofs.lemmas.Bool.{cases_eq, eqb-true, ne_eqb, cases_Bool, eq-eqb}
use Rattle.op_graph.specs.declared.node.Node.{Node}
use Rattle.op_graph.specs.declared.node.Kind.{Kind}
use Rattle.op_graph.specs.declared.node.Kind.TheVariants.{Simple, Multiply, Divide, Global, Array}
use Rattle.op_graph.specs.Graph.{node, kind_at, Uses}
use Rattle.fsm_plan.specs.Run.{Object, Nothing, TheGlobal, TheArray, same_object, object_of, Content, State, Given, put, put_content, input, result_of, content_after, after}

pub put_other : (f : ℕ → ℤ) (i : ℕ) (v : ℤ) (j : ℕ) → (j ≡ i → ⊥) → put f i v j ≡ f j
put_other f i v j ne = grind arith

pub put_same : (f : ℕ → ℤ) (i : ℕ) (v : ℤ) (j : ℕ) → j ≡ i → put f i v j ≡ v
put_same f i v j e = grind arith

input_put : (f : ℕ → ℤ) (i : ℕ) (v : ℤ) (o : Option ℕ) → (o ≡ Some i → ⊥) → input (put f i v) o ≡ input f o
input_put f i v None ne = refl
input_put f i v (Some j) ne = put_other f i v j (λ e. ne (ap Some e))

put_comm_at : (f : ℕ → ℤ) (i : ℕ) (v : ℤ) (j : ℕ) (w : ℤ) (k : ℕ) → (i ≡ j → ⊥) → (k ≡ i) ⊎ (k ≡ i → ⊥) → (k ≡ j) ⊎ (k ≡ j → ⊥) → put (put f i v) j w k ≡ put (put f j w) i v k
put_comm_at f i v j w k ne (inl p) (inl q) = absurd (ne (sym p ∙ q))
put_comm_at f i v j w k ne (inl p) (inr q) = put_other (put f i v) j w k q ∙ (put_same f i v k p ∙ sym (put_same (put f j w) i v k p))
put_comm_at f i v j w k ne (inr p) (inl q) = put_same (put f i v) j w k q ∙ (sym (put_same f j w k q) ∙ sym (put_other (put f j w) i v k p))
put_comm_at f i v j w k ne (inr p) (inr q) = put_other (put f i v) j w k q ∙ (put_other f i v k p ∙ (sym (put_other f j w k q) ∙ sym (put_other (put f j w) i v k p)))

put_comm : (f : ℕ → ℤ) (i : ℕ) (v : ℤ) (j : ℕ) (w : ℤ) → (i ≡ j → ⊥) → put (put f i v) j w ≡ put (put f j w) i v
put_comm f i v j w ne = fun_ext (λ k. put_comm_at f i v j w k ne (cases_eq k i) (cases_eq k j))

same_true : (x y : Object) → same_object x y ≡ true → x ≡ y
same_true Nothing Nothing e = refl
same_true Nothing (TheGlobal y) e = absurd (cc)
same_true Nothing (TheArray y) e = absurd (cc)
same_true (TheGlobal x) Nothing e = absurd (cc)
same_true (TheGlobal x) (TheGlobal y) e = ap TheGlobal (eqb-true x y e)
same_true (TheGlobal x) (TheArray y) e = absurd (cc)
same_true (TheArray x) Nothing e = absurd (cc)
same_true (TheArray x) (TheGlobal y) e = absurd (cc)
same_true (TheArray x) (TheArray y) e = ap TheArray (eqb-true x y e)

same_refl : (x : Object) → same_object x x ≡ true
same_refl Nothing = refl
same_refl (TheGlobal x) = eq-eqb x x refl
same_refl (TheArray x) = eq-eqb x x refl

differ_sym : (x y : Object) → same_object x y ≡ false → (same_object y x ≡ true) ⊎ (same_object y x ≡ false) → same_object y x ≡ false
differ_sym x y e (inr f) = f
differ_sym x y e (inl f) = let p = same_true y x f in let q : same_object x y ≡ true = rw p (same_refl x) in absurd (cc)

content_same : (f : Object → Content) (x y : Object) (v : Content) → same_object y x ≡ true → put_content f x v y ≡ v
content_same f x y v e = ap (λ (b : Bool). if b then v else f y) e

content_other : (f : Object → Content) (x y : Object) (v : Content) → same_object y x ≡ false → put_content f x v y ≡ f y
content_other f x y v e = ap (λ (b : Bool). if b then v else f y) e

content_comm_at : (f : Object → Content) (x : Object) (v : Content) (y : Object) (w : Content) (z : Object) → same_object x y ≡ false →
    (same_object z x ≡ true) ⊎ (same_object z x ≡ false) → (same_object z y ≡ true) ⊎ (same_object z y ≡ false) →
    put_content (put_content f x v) y w z ≡ put_content (put_content f y w) x v z
content_comm_at f x v y w z ne (inl p) (inl q) = let e = same_true z x p in let d : same_object x y ≡ true = rw (← e) q in absurd (cc)
content_comm_at f x v y w z ne (inl p) (inr q) = content_other (put_content f x v) y z w q ∙ (content_same f x z v p ∙ sym (content_same (put_content f y w) x z v p))
content_comm_at f x v y w z ne (inr p) (inl q) = content_same (put_content f x v) y z w q ∙ (sym (content_same f y z w q) ∙ sym (content_other (put_content f y w) x z v p))
content_comm_at f x v y w z ne (inr p) (inr q) = content_other (put_content f x v) y z w q ∙ (content_other f x z v p ∙ (sym (content_other f y z w q)
    ∙ sym (content_other (put_content f y w) x z v p)))

content_comm : (f : Object → Content) (x : Object) (v : Content) (y : Object) (w : Content) → same_object x y ≡ false →
    put_content (put_content f x v) y w ≡ put_content (put_content f y w) x v
content_comm f x v y w ne = fun_ext (λ z. content_comm_at f x v y w z ne (cases_Bool (same_object z x)) (cases_Bool (same_object z y)))

content_kept_at : (f : Object → Content) (x z : Object) → (same_object z x ≡ true) ⊎ (same_object z x ≡ false) → put_content f x (f x) z ≡ f z
content_kept_at f x z (inl p) = content_same f x z (f x) p ∙ ap f (sym (same_true z x p))
content_kept_at f x z (inr p) = content_other f x z (f x) p

content_kept : (f : Object → Content) (x : Object) → put_content f x (f x) ≡ f
content_kept f x = fun_ext (λ z. content_kept_at f x z (cases_Bool (same_object z x)))

state_path : {v w : ℕ → ℤ} {c d : Object → Content} → v ≡ w → c ≡ d → ◌≡◌ {A = State} (record { value = v; content = c }) (record { value = w; content = d })
state_path p q = λ i. record { value = p i; content = q i }

module _ (g : Given) where
  -- an operation that leaves its object as it is
  abbrev pub Idle : Kind → Type 0
  Idle k = (l r : ℤ) (c : Content) → content_after g k l r c ≡ c

  globals : (x y : ℕ) (w v : Bool) → ((z : ℕ) (p q : Bool) → Global y v ≡ Global z p → Global x w ≡ Global z q → ⊥) → (x ≡ y) ⊎ (x ≡ y → ⊥) → (same_object (TheGlobal x)
      (TheGlobal y) ≡ false) ⊎ (Idle (Global x w) × Idle (Global y v))
  globals x y w v never (inl e) = absurd (never y v w refl (ap (λ (z : ℕ). Global z w) e))
  globals x y w v never (inr ne) = inl (ne_eqb x y ne)

  arrays_same : (x : ℕ) (w v : Bool) → ((v || w) ≡ true → ⊥) → Idle (Array x w) × Idle (Array x v)
  arrays_same x true true never = absurd (never refl)
  arrays_same x true false never = absurd (never refl)
  arrays_same x false true never = absurd (never refl)
  arrays_same x false false never = ((λ l r c. refl), (λ l r c. refl))

  idle_array : (x y : ℕ) (w : Bool) → Idle (Array x w) → Idle (Array y w)
  idle_array x y true i = i
  idle_array x y false i = i

  arrays : (x y : ℕ) (w v : Bool) → ((z : ℕ) (p q : Bool) → Array y v ≡ Array z p → Array x w ≡ Array z q → (p || q) ≡ true → ⊥) → (x ≡ y) ⊎ (x ≡ y → ⊥) →
      (same_object (TheArray x) (TheArray y) ≡ false) ⊎ (Idle (Array x w) × Idle (Array y v))
  arrays x y w v never (inl e) = let h = arrays_same x w v (λ t. never y v w refl (ap (λ (z : ℕ). Array z w) e) t) in inr (h.0, idle_array x y v h.1)
  arrays x y w v never (inr ne) = inl (ne_eqb x y ne)

  pub apart_or_idle : (a b : Kind) → ((z : ℕ) (p q : Bool) → b ≡ Global z p → a ≡ Global z q → ⊥) → ((z : ℕ) (p q : Bool) → b ≡ Array z p → a ≡ Array z q →
      (p || q) ≡ true → ⊥) → (same_object (object_of a) (object_of b) ≡ false) ⊎ (Idle a × Idle b)
  apart_or_idle Simple Simple no_global no_array = inr ((λ l r c. refl), (λ l r c. refl))
  apart_or_idle Simple (Multiply v) no_global no_array = inr ((λ l r c. refl), (λ l r c. refl))
  apart_or_idle Simple (Divide v t) no_global no_array = inr ((λ l r c. refl), (λ l r c. refl))
  apart_or_idle Simple (Global y v) no_global no_array = inl refl
  apart_or_idle Simple (Array y v) no_global no_array = inl refl
  apart_or_idle (Multiply w) Simple no_global no_array = inr ((λ l r c. refl), (λ l r c. refl))
  apart_or_idle (Multiply w) (Multiply v) no_global no_array = inr ((λ l r c. refl), (λ l r c. refl))
  apart_or_idle (Multiply w) (Divide v t) no_global no_array = inr ((λ l r c. refl), (λ l r c. refl))
  apart_or_idle (Multiply w) (Global y v) no_global no_array = inl refl
  apart_or_idle (Multiply w) (Array y v) no_global no_array = inl refl
  apart_or_idle (Divide w s) Simple no_global no_array = inr ((λ l r c. refl), (λ l r c. refl))
  apart_or_idle (Divide w s) (Multiply v) no_global no_array = inr ((λ l r c. refl), (λ l r c. refl))
  apart_or_idle (Divide w s) (Divide v t) no_global no_array = inr ((λ l r c. refl), (λ l r c. refl))
  apart_or_idle (Divide w s) (Global y v) no_global no_array = inl refl
  apart_or_idle (Divide w s) (Array y v) no_global no_array = inl refl
  apart_or_idle (Global x w) Simple no_global no_array = inl refl
  apart_or_idle (Global x w) (Multiply v) no_global no_array = inl refl
  apart_or_idle (Global x w) (Divide v t) no_global no_array = inl refl
  apart_or_idle (Global x w) (Global y v) no_global no_array = globals x y w v no_global (cases_eq x y)
  apart_or_idle (Global x w) (Array y v) no_global no_array = inl refl
  apart_or_idle (Array x w) Simple no_global no_array = inl refl
  apart_or_idle (Array x w) (Multiply v) no_global no_array = inl refl
  apart_or_idle (Array x w) (Divide v t) no_global no_array = inl refl
  apart_or_idle (Array x w) (Global y v) no_global no_array = inl refl
  apart_or_idle (Array x w) (Array y v) no_global no_array = arrays x y w v no_array (cases_eq x y)

  module _ (nodes : List Node) where
    abbrev pub with_inputs : ℕ → State → ℤ → ℤ → Content → State
    with_inputs i s l r c = record {
      value = put s.value i (result_of g (kind_at nodes i) i l r c);
      content = put_content s.content (object_of (kind_at nodes i))
          (content_after g (kind_at nodes i) l r c);
    }

    abbrev pub Commutes : ℕ → ℕ → Type 0
    Commutes a b = (s : State) → after g nodes b (after g nodes a s) ≡ after g nodes a (after g nodes b s)

    abbrev kind : ℕ → Kind
    kind i = kind_at nodes i

    abbrev Undisturbed : ℕ → ℕ → State → Type 0
    Undisturbed a b s = (after g nodes a s).content (object_of (kind b)) ≡ s.content (object_of (kind b))

    undisturbed : (a b : ℕ) (s : State) → (same_object (object_of (kind a)) (object_of (kind b)) ≡ false) ⊎ (Idle (kind a) × Idle (kind b)) → Undisturbed a b s
    undisturbed a b s (inl e) = content_other s.content (object_of (kind a)) (object_of (kind b)) _ (differ_sym (object_of (kind a))
        (object_of (kind b)) e (cases_Bool (same_object (object_of (kind b)) (object_of (kind a)))))
    undisturbed a b s (inr h) =
        let q = h.0 (g.left a (input s.value (node nodes a).left)) (g.right a (input s.value (node nodes a).right)) (s.content (object_of (kind a))) in
        ap (λ (c : Content). put_content s.content (object_of (kind a)) c (object_of (kind b))) q ∙ ap (λ (f : Object → Content). f (object_of (kind b)))
        (content_kept s.content (object_of (kind a)))

    same_inputs : (a b : ℕ) (s : State) → (Uses nodes b a → ⊥) → Undisturbed a b s → after g nodes b (after g nodes a s) ≡ with_inputs b (after g nodes a s)
        (g.left b (input s.value (node nodes b).left)) (g.right b (input s.value (node nodes b).right)) (s.content (object_of (kind b)))
    same_inputs a b s never u =
        let t = after g nodes a s in
        let v = result_of g (kind a) a (g.left a (input s.value (node nodes a).left)) (g.right a (input s.value (node nodes a).right)) (s.content (object_of (kind a))) in
        let l : input t.value (node nodes b).left ≡ input s.value (node nodes b).left = input_put s.value a v (node nodes b).left (λ e. never (inl e)) in
        let r : input t.value (node nodes b).right ≡ input s.value (node nodes b).right = input_put s.value a v (node nodes b).right (λ e. never (inr e)) in
        ap (λ (x : ℤ). with_inputs b t (g.left b x) (g.right b (input t.value (node nodes b).right)) (t.content (object_of (kind b)))) l
        ∙ (ap (λ (x : ℤ). with_inputs b t (g.left b (input s.value (node nodes b).left)) (g.right b x) (t.content (object_of (kind b)))) r
        ∙ ap (λ (x : Content). with_inputs b t (g.left b (input s.value (node nodes b).left)) (g.right b (input s.value (node nodes b).right)) x) u)

    contents : (a b : ℕ) (s : State) (la ra lb rb : ℤ) → (same_object (object_of (kind a)) (object_of (kind b)) ≡ false) ⊎ (Idle (kind a) × Idle (kind b)) →
        (with_inputs b (with_inputs a s la ra (s.content (object_of (kind a)))) lb rb (s.content (object_of (kind b)))).content
        ≡ (with_inputs a (with_inputs b s lb rb (s.content (object_of (kind b)))) la ra (s.content (object_of (kind a)))).content
    contents a b s la ra lb rb (inl e) = content_comm s.content (object_of (kind a)) _ (object_of (kind b)) _ e
    contents a b s la ra lb rb (inr h) =
        let f = s.content in
        let x = object_of (kind a) in
        let y = object_of (kind b) in
        let p = h.0 la ra (f x) in
        let q = h.1 lb rb (f y) in
        let left = ap (λ (c : Content). put_content (put_content f x c) y (content_after g (kind b) lb rb (f y))) p
        ∙ (ap (λ (c : Content). put_content (put_content f x (f x)) y c) q ∙ (ap (λ (g : Object → Content). put_content g y (f y)) (content_kept f x) ∙ content_kept f y)) in
        let right = ap (λ (c : Content). put_content (put_content f y c) x (content_after g (kind a) la ra (f x))) q
        ∙ (ap (λ (c : Content). put_content (put_content f y (f y)) x c) p ∙ (ap (λ (g : Object → Content). put_content g x (f x)) (content_kept f y) ∙ content_kept f x)) in
        left ∙ sym right

    pub commutes : (a b : ℕ) → (a ≡ b → ⊥) → (Uses nodes a b → ⊥) → (Uses nodes b a → ⊥) → (same_object (object_of (kind a))
        (object_of (kind b)) ≡ false) ⊎ (Idle (kind a) × Idle (kind b)) → (same_object (object_of (kind b))
        (object_of (kind a)) ≡ false) ⊎ (Idle (kind b) × Idle (kind a)) → Commutes a b
    commutes a b ne ab ba d d' s =
        same_inputs a b s ba (undisturbed a b s d)
        ∙ (state_path (put_comm s.value a _ b _ ne) (contents a b s _ _ _ _ d)
        ∙ sym (same_inputs b a s ab (undisturbed b a s d')))
