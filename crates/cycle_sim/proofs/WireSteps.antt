-- The steps of a net have one for each signal that is no register and no input of the outermost module.
use Rattle.std.specs.Prelude.{◌≡◌, ℕ, zero, suc, ◌+◌, ◌≤◌, ◌⊎◌, List, [], ◌∷◌, ◌++◌, length, Some, slice_get, refl}
use Rattle.std.proofs.Common.{ap, sym, ◌∙◌, subst, inl, inr, ⊎_elim, arith}
use Rattle.lists.proofs.Places.{get_left}
use Rattle.netlist.specs.declared.netlist.Source.{Source}
use Rattle.netlist.specs.declared.netlist.Source.TheVariants.{Input, Register, Assigned, Port}
use Rattle.netlist.specs.declared.netlist.Signal.{Signal}
use Rattle.netlist.specs.declared.netlist.Instance.{Instance}
use Rattle.netlist.specs.declared.netlist.Module.{Module}
use Rattle.sim_values.specs.declared.settle.Feed.{Feed}
use Rattle.sim_values.specs.declared.settle.Step.{Step}
use Rattle.sim_values.specs.declared.edge.Part.{Part}
use Rattle.sim_values.specs.Order.{Takes}
use Rattle.sim_values.specs.Stands.{step}
use Rattle.sim_layout.specs.Wires.{steps_to, own_feed, own_steps, join_feed, join_steps, instance_steps, all_instances, part_steps, all_steps}
use Rattle.sim_values.proofs.Orders.{get_more}
use Rattle.sim_values.proofs.Trees.{get_back, front_or_back}

pub takes_left : (xs ys : List Step) (s : Step) → Takes xs s → Takes (xs ++ ys) s
takes_left xs ys s t = (t.0, get_more xs ys t.0 s t.1)

pub takes_right : (xs ys : List Step) (s : Step) → Takes ys s → Takes (xs ++ ys) s
takes_right xs ys s t = (length xs + t.0, get_back xs ys (length xs + t.0) t.0 refl ∙ t.1)

takes_first : (target : ℕ) (feeds : List Feed) (f : Feed) (rest : List Step) → feeds ≡ f ∷ [] → Takes (steps_to target feeds ++ rest) (step target f)
takes_first target feeds f rest e = subst (λ (fs : List Feed). Takes (steps_to target fs ++ rest) (step target f)) (sym e) (0, refl)

module _ (parts : List Part) (p : Part) where
  own_from : (k : ℕ) (ss : List Signal) (x : ℕ) (s : Signal) (f : Feed) (y : ℕ) → slice_get ss x ≡ Some s → y ≡ k + x → own_feed parts p y s.source ≡ f ∷ []
      → Takes (own_steps parts p k ss) (step (p.spot.base + y) f)
  own_from k [] x s f y at e g = absurd cc
  own_from k (t ∷ ss) zero s f y at e g =
      let same : t ≡ s = cc in
      let here : k ≡ y = omega arith in
      let feeds : own_feed parts p k t.source ≡ f ∷ [] = ap (λ (u : Signal). own_feed parts p k u.source) same ∙ ap (λ i. own_feed parts p i s.source) here ∙ g in
      subst (λ i. Takes (own_steps parts p k (t ∷ ss)) (step (p.spot.base + i) f)) here
      (takes_first (p.spot.base + k) (own_feed parts p k t.source) f (own_steps parts p (k + 1) ss) feeds)
  own_from k (t ∷ ss) (suc x) s f y at e g =
      takes_right (steps_to (p.spot.base + k) (own_feed parts p k t.source)) (own_steps parts p (k + 1) ss) (step (p.spot.base + y) f)
      (own_from (k + 1) ss x s f y at (omega arith) g)

  pub own_has : (ss : List Signal) (x : ℕ) (s : Signal) (f : Feed) → slice_get ss x ≡ Some s → own_feed parts p x s.source ≡ f ∷ [] → Takes (own_steps parts p 0 ss) (step (p.spot.base + x) f)
  own_has ss x s f at g = own_from 0 ss x s f x at (omega arith) g

module _ (base : ℕ) (inputs : List ℕ) (child : ℕ) where
  join_from : (k : ℕ) (ss : List Signal) (x : ℕ) (s : Signal) (f : Feed) (y : ℕ) → slice_get ss x ≡ Some s → y ≡ k + x → join_feed base inputs y s.source ≡ f ∷ []
      → Takes (join_steps base inputs child k ss) (step (child + y) f)
  join_from k [] x s f y at e g = absurd cc
  join_from k (t ∷ ss) zero s f y at e g =
      let same : t ≡ s = cc in
      let here : k ≡ y = omega arith in
      let feeds : join_feed base inputs k t.source ≡ f ∷ [] = ap (λ (u : Signal). join_feed base inputs k u.source) same ∙ ap (λ i. join_feed base inputs i s.source) here ∙ g in
      subst (λ i. Takes (join_steps base inputs child k (t ∷ ss)) (step (child + i) f)) here
      (takes_first (child + k) (join_feed base inputs k t.source) f (join_steps base inputs child (k + 1) ss) feeds)
  join_from k (t ∷ ss) (suc x) s f y at e g =
      takes_right (steps_to (child + k) (join_feed base inputs k t.source)) (join_steps base inputs child (k + 1) ss) (step (child + y) f)
      (join_from (k + 1) ss x s f y at (omega arith) g)

  pub join_has : (ss : List Signal) (x : ℕ) (s : Signal) (f : Feed) → slice_get ss x ≡ Some s → join_feed base inputs x s.source ≡ f ∷ [] →
      Takes (join_steps base inputs child 0 ss) (step (child + x) f)
  join_has ss x s f at g = join_from 0 ss x s f x at (omega arith) g

module _ (modules : List Module) (parts : List Part) where
  instances_from : (p : Part) (k : ℕ) (ns : List Instance) (i : ℕ) (n : Instance) (j : ℕ) (s : Step) → slice_get ns i ≡ Some n → j ≡ k + i → Takes (instance_steps modules parts p j n) s
      → Takes (all_instances modules parts p k ns) s
  instances_from p k [] i n j s at e t = absurd cc
  instances_from p k (m ∷ ns) zero n j s at e t =
      let same : n ≡ m = cc in
      let here : j ≡ k = omega arith in
      takes_left (instance_steps modules parts p k m) (all_instances modules parts p (k + 1) ns) s
      (subst (λ (u : Instance). Takes (instance_steps modules parts p k u) s) same (subst (λ i. Takes (instance_steps modules parts p i n) s) here t))
  instances_from p k (m ∷ ns) (suc i) n j s at e t =
      takes_right (instance_steps modules parts p k m) (all_instances modules parts p (k + 1) ns) s (instances_from p (k + 1) ns i n j s at (omega arith) t)

  pub instances_have : (p : Part) (ns : List Instance) (i : ℕ) (n : Instance) (s : Step) → slice_get ns i ≡ Some n → Takes (instance_steps modules parts p i n) s →
      Takes (all_instances modules parts p 0 ns) s
  instances_have p ns i n s at t = instances_from p 0 ns i n i s at (omega arith) t

  pub parts_have : (ps : List Part) (q : ℕ) (p : Part) (s : Step) → slice_get ps q ≡ Some p → Takes (part_steps modules parts p) s → Takes (all_steps modules parts ps) s
  parts_have [] q p s at t = absurd cc
  parts_have (o ∷ ps) zero p s at t =
      let same : p ≡ o = cc in
      takes_left (part_steps modules parts o) (all_steps modules parts ps) s (subst (λ (u : Part). Takes (part_steps modules parts u) s) same t)
  parts_have (o ∷ ps) (suc q) p s at t = takes_right (part_steps modules parts o) (all_steps modules parts ps) s (parts_have ps q p s at t)

-- ---- and no other

pub takes_split : (xs ys : List Step) (s : Step) → Takes (xs ++ ys) s → Takes xs s ⊎ Takes ys s
takes_split xs ys s t = ⊎_elim
    (λ l. inl (t.0, sym (get_left xs ys t.0 l) ∙ t.1))
    (λ b. inr (b.0, sym (get_back xs ys t.0 b.0 b.1) ∙ t.1))
    (front_or_back t.0 (length xs))

-- the one step of at most one feed
single : (target : ℕ) (feeds : List Feed) (s : Step) → length feeds ≤ 1 → Takes (steps_to target feeds) s → (f : Feed) × (s ≡ step target f) × (feeds ≡ f ∷ [])
single target [] s l t = (let z = t.1 in absurd cc)
single target (f ∷ []) s l t = one t.0 t.1
  where
    one : (k : ℕ) → slice_get (step target f ∷ []) k ≡ Some s → (g : Feed) × (s ≡ step target g) × (f ∷ [] ≡ g ∷ [])
    one zero e = (f, (let z : step target f ≡ s = cc in sym z), refl)
    one (suc k) e = absurd cc
single target (f ∷ g ∷ feeds) s l t = absurd (omega arith)

module _ (parts : List Part) (p : Part) where
  pub record FromOwn (k : ℕ) (ss : List Signal) (s : Step) : Type 0 where
    pub number : ℕ
    pub signal : Signal
    pub listed : slice_get ss number ≡ Some signal
    pub feed : Feed
    pub is : s ≡ step (p.spot.base + (k + number)) feed
    pub by : own_feed parts p (k + number) signal.source ≡ feed ∷ []

  own_most : (x : ℕ) (source : Source) → length (own_feed parts p x source) ≤ 1
  own_most x Input = omega arith
  own_most x (Register n) = omega arith
  own_most x (Assigned v) = omega arith
  own_most x (Port i port) = omega arith

  pub own_back : (k : ℕ) (ss : List Signal) (s : Step) → Takes (own_steps parts p k ss) s → FromOwn k ss s
  own_back k [] s t = (let z = t.1 in absurd cc)
  own_back k (u ∷ ss) s t = ⊎_elim
      (λ first.
      let o = single (p.spot.base + k) (own_feed parts p k u.source) s (own_most k u.source) first in
      let here : k ≡ k + 0 = omega arith in
      record {
        number = 0;
        signal = u;
        listed = refl;
        feed = o.0;
        is = o.1 ∙ ap (λ y. step (p.spot.base + y) o.0) here;
        by = ap (λ y. own_feed parts p y u.source) (sym here) ∙ o.2;
      })
      (λ rest.
      let r = own_back (k + 1) ss s rest in
      let there : k + 1 + r.number ≡ k + suc r.number = omega arith in
      record {
        number = suc r.number;
        signal = r.signal;
        listed = r.listed;
        feed = r.feed;
        is = r.is ∙ ap (λ y. step (p.spot.base + y) r.feed) there;
        by = ap (λ y. own_feed parts p y (r.signal).source) (sym there) ∙ r.by;
      })
      (takes_split (steps_to (p.spot.base + k) (own_feed parts p k u.source)) (own_steps parts p (k + 1) ss) s t)

module _ (base : ℕ) (inputs : List ℕ) (child : ℕ) where
  pub record FromJoin (k : ℕ) (ss : List Signal) (s : Step) : Type 0 where
    pub number : ℕ
    pub signal : Signal
    pub listed : slice_get ss number ≡ Some signal
    pub feed : Feed
    pub is : s ≡ step (child + (k + number)) feed
    pub by : join_feed base inputs (k + number) signal.source ≡ feed ∷ []

  join_most : (x : ℕ) (source : Source) → length (join_feed base inputs x source) ≤ 1
  join_most x Input = omega arith
  join_most x (Register n) = omega arith
  join_most x (Assigned v) = omega arith
  join_most x (Port i port) = omega arith

  pub join_back : (k : ℕ) (ss : List Signal) (s : Step) → Takes (join_steps base inputs child k ss) s → FromJoin k ss s
  join_back k [] s t = (let z = t.1 in absurd cc)
  join_back k (u ∷ ss) s t = ⊎_elim
      (λ first.
      let o = single (child + k) (join_feed base inputs k u.source) s (join_most k u.source) first in
      let here : k ≡ k + 0 = omega arith in
      record {
        number = 0;
        signal = u;
        listed = refl;
        feed = o.0;
        is = o.1 ∙ ap (λ y. step (child + y) o.0) here;
        by = ap (λ y. join_feed base inputs y u.source) (sym here) ∙ o.2;
      })
      (λ rest.
      let r = join_back (k + 1) ss s rest in
      let there : k + 1 + r.number ≡ k + suc r.number = omega arith in
      record {
        number = suc r.number;
        signal = r.signal;
        listed = r.listed;
        feed = r.feed;
        is = r.is ∙ ap (λ y. step (child + y) r.feed) there;
        by = ap (λ y. join_feed base inputs y (r.signal).source) (sym there) ∙ r.by;
      })
      (takes_split (steps_to (child + k) (join_feed base inputs k u.source)) (join_steps base inputs child (k + 1) ss) s t)

module _ (modules : List Module) (parts : List Part) where
  pub record FromInstance (p : Part) (k : ℕ) (ns : List Instance) (s : Step) : Type 0 where
    pub number : ℕ
    pub instance : Instance
    pub listed : slice_get ns number ≡ Some instance
    pub by : Takes (instance_steps modules parts p (k + number) instance) s

  pub instances_back : (p : Part) (k : ℕ) (ns : List Instance) (s : Step) → Takes (all_instances modules parts p k ns) s → FromInstance p k ns s
  instances_back p k [] s t = (let z = t.1 in absurd cc)
  instances_back p k (n ∷ ns) s t = ⊎_elim
      (λ first.
      let here : k ≡ k + 0 = omega arith in
      record { number = 0; instance = n; listed = refl; by = subst (λ y. Takes (instance_steps modules parts p y n) s) here first })
      (λ rest.
      let r = instances_back p (k + 1) ns s rest in
      let there : k + 1 + r.number ≡ k + suc r.number = omega arith in
      record { number = suc r.number; instance = r.instance; listed = r.listed; by = subst (λ y. Takes (instance_steps modules parts p y r.instance) s) there r.by })
      (takes_split (instance_steps modules parts p k n) (all_instances modules parts p (k + 1) ns) s t)

  pub record FromPart (ps : List Part) (s : Step) : Type 0 where
    pub number : ℕ
    pub part : Part
    pub listed : slice_get ps number ≡ Some part
    pub by : Takes (part_steps modules parts part) s

  pub parts_back : (ps : List Part) (s : Step) → Takes (all_steps modules parts ps) s → FromPart ps s
  parts_back [] s t = (let z = t.1 in absurd cc)
  parts_back (p ∷ ps) s t = ⊎_elim
      (λ first. record { number = 0; part = p; listed = refl; by = first })
      (λ rest. let r = parts_back ps s rest in record { number = suc r.number; part = r.part; listed = r.listed; by = r.by })
      (takes_split (part_steps modules parts p) (all_steps modules parts ps) s t)
