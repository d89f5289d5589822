-- In a net that is laid out each signal has a step that gives it what its source gives it, and each step is that of a signal.
use Rattle.std.specs.Prelude.{◌≡◌, ℕ, zero, suc, ◌+◌, ◌<◌, Bool, List, [], ◌∷◌, ◌++◌, length, slice_index, slice_index_or, false, Option, Some, None, option_and_then, slice_get, refl}
use Rattle.std.proofs.Common.{ap, sym, ◌∙◌, subst, ⊎_elim, arith}
use Rattle.std.proofs.lemmas.Option.{slice_get_within}
use Rattle.lists.proofs.Places.{get_there}
use Rattle.netlist.specs.declared.netlist.Source.{Source}
use Rattle.netlist.specs.declared.netlist.Source.TheVariants.{Input, Register, Assigned, Port}
use Rattle.netlist.specs.declared.netlist.Signal.{Signal}
use Rattle.netlist.specs.declared.netlist.Instance.{Instance}
use Rattle.netlist.specs.declared.netlist.Module.{Module}
use Rattle.verilog_meaning.specs.Readings.{or_zero}
use Rattle.verilog_meaning.specs.Cycles.{Path, module_at, instance_at, connected, IsAt, IsRegister}
use Rattle.sim_values.specs.declared.value.Spot.{Spot}
use Rattle.sim_values.specs.declared.settle.Feed.{Feed}
use Rattle.sim_values.specs.declared.settle.Feed.TheVariants.{Copied, Computed}
use Rattle.sim_values.specs.declared.settle.Step.{Step}
use Rattle.sim_values.specs.declared.edge.Part.{Part}
use Rattle.sim_values.specs.Order.{Takes}
use Rattle.sim_values.specs.Stands.{children_of, kind_of, spot_of, place_of, spot_at, kind_at, word_of, step}
use Rattle.sim_values.specs.Tree.{instances_of, place_in, IsInstance}
use Rattle.sim_layout.specs.Placed.{is_register}
use Rattle.sim_layout.specs.Wires.{signals_of, own_feed, own_steps, join_feed, join_steps, instance_steps, all_instances, all_steps}
use Rattle.sim_layout.specs.Given.{IsRoot}
use Rattle.sim_layout.specs.Running.{IsPart}
use Rattle.sim_values.proofs.Trees.{opened, tree_stands, instance_of, one_path as one_path_of}
use Rattle.cycle_sim.proofs.WireSteps.{takes_left, takes_right, takes_split, own_has, own_back, join_has, join_back, instances_have, instances_back, parts_have, parts_back}
use Rattle.cycle_sim.specs.LaidOut.{IsLaidOut, GivesBy}

none_past : {X : Type 0} (xs : List X) (ns : List ℕ) (q : ℕ) → slice_get xs q ≡ None → length ns ≡ length xs → slice_index ns q ≡ 0
none_past [] [] zero e l = refl
none_past [] [] (suc q) e l = refl
none_past [] (n ∷ ns) q e l = absurd (omega arith)
none_past (x ∷ xs) [] q e l = absurd (omega arith)
none_past (x ∷ xs) (n ∷ ns) zero e l = absurd cc
none_past (x ∷ xs) (n ∷ ns) (suc q) e l = none_past xs ns q e (omega arith)

module _ {modules : List Module} {t : Module} {parts : List Part} {numbers : List ℕ} {free : List Bool} {words starts : List ℕ} {wires : List Step} {prefs : ℕ}
    (l : IsLaidOut modules t parts numbers free words starts wires prefs) where
  -- ---- places

  child_by : (q : ℕ) (o : Option Part) → slice_get parts q ≡ o → children_of o ≡ slice_index l.children q
  child_by q None e = sym (none_past parts l.children q e (l.tree.whole ∙ sym l.whole))
  child_by q (Some p) e = (l.placed.each q p e).1

  pub place_same : (path : Path) → place_of parts path ≡ place_in l.children path
  place_same [] = refl
  place_same (i ∷ outer) =
      ap (λ n. n + i) (child_by (place_of parts outer) (slice_get parts (place_of parts outer)) refl)
      ∙ ap (λ q. slice_index l.children q + i) (place_same outer)

  -- one path for each place
  pub one_path : (p q : Path) → IsInstance modules t p → IsInstance modules t q → place_of parts p ≡ place_of parts q → p ≡ q
  one_path p q at there e = one_path_of modules l.number l.kinds l.children t l.tree l.top_at p q at there (sym (place_same p) ∙ e ∙ place_same q)

  pub record Found (path : Path) (m : Module) : Type 0 where
    pub part : Part
    pub is : IsPart modules parts (place_of parts path) part m

  pub found : (path : Path) (m : Module) → module_at modules t path ≡ Some m → Found path m
  found path m at =
      let stands = tree_stands modules l.number l.kinds l.children t l.tree l.top_at path m at in
      let kind_there : slice_get l.kinds (place_of parts path) ≡ Some stands.0 = ap (slice_get l.kinds) (place_same path) ∙ stands.1 in
      let low = slice_get_within l.kinds (place_of parts path) stands.0 kind_there in
      let p = get_there parts (place_of parts path) (let w = l.whole in omega (arith, w, low)) in
      let same : Some (p.0).module ≡ Some stands.0 = sym (l.placed.each (place_of parts path) p.0 p.1).0 ∙ kind_there in
      let kind_is : stands.0 ≡ (p.0).module = cc in
      record { part = p.0; is = record { listed = p.1; kind = subst (λ k. slice_get modules k ≡ Some m) kind_is stands.2 } }

  pub spot_is : (path : Path) (m : Module) (f : Found path m) → spot_at parts path ≡ f.part.spot
  spot_is path m f = ap spot_of f.is.listed

  pub kind_is : (path : Path) (m : Module) (f : Found path m) → kind_at parts path ≡ f.part.module
  kind_is path m f = ap kind_of f.is.listed

  pub laid : (path : Path) (m : Module) → module_at modules t path ≡ Some m → slice_get modules (kind_at parts path) ≡ Some m
  laid path m at = let f = found path m at in ap (slice_get modules) (kind_is path m f) ∙ f.is.kind

  -- ---- steps

  taken : (s : Step) → Takes (all_steps modules parts parts) s → Takes wires s
  taken s h = subst (λ (ws : List Step). Takes ws s) (sym l.are.are) (takes_right l.are.roots (all_steps modules parts parts) s h)

  root_taken : (s : Step) → Takes l.are.roots s → Takes wires s
  root_taken s h = subst (λ (ws : List Step). Takes ws s) (sym l.are.are) (takes_left l.are.roots (all_steps modules parts parts) s h)

  own_taken : (path : Path) (m : Module) (x : ℕ) (s : Signal) (f : Found path m) (feed : Feed) → slice_get m.signals x ≡ Some s → own_feed parts f.part x s.source ≡ feed ∷ []
      → Takes wires (step (word_of parts path x) feed)
  own_taken path m x s f feed at g =
      let p = f.part in
      let listed : slice_get (signals_of (slice_get modules p.module)) x ≡ Some s = ap (λ o. slice_get (signals_of o) x) f.is.kind ∙ at in
      let own = own_has parts p (signals_of (slice_get modules p.module)) x s feed listed g in
      let here = takes_left (own_steps parts p 0 (signals_of (slice_get modules p.module))) (all_instances modules parts p 0 (instances_of (slice_get modules p.module)))
      (step (p.spot.base + x) feed) own in
      subst (λ (u : Spot). Takes wires (step (u.base + x) feed)) (sym (spot_is path m f))
      (taken (step (p.spot.base + x) feed) (parts_have modules parts parts (place_of parts path) p (step (p.spot.base + x) feed) f.is.listed here))

  assigned_taken : (path : Path) (m : Module) (x : ℕ) (s : Signal) (f : Found path m) → slice_get m.signals x ≡ Some s → own_feed parts f.part x s.source ≡ Computed f.part.module x f.part.spot ∷ []
      → Takes wires (step (word_of parts path x) (Computed (kind_at parts path) x (spot_at parts path)))
  assigned_taken path m x s f at g =
      let p = f.part in
      subst (λ k. Takes wires (step (word_of parts path x) (Computed k x (spot_at parts path)))) (sym (kind_is path m f))
      (subst (λ (u : Spot). Takes wires (step (word_of parts path x) (Computed p.module x u))) (sym (spot_is path m f))
      (own_taken path m x s f (Computed p.module x p.spot) at g))

  port_taken : (path : Path) (m : Module) (x : ℕ) (s : Signal) (i port : ℕ) (f : Found path m) → slice_get m.signals x ≡ Some s → s.source ≡ Port i port
      → Takes wires (step (word_of parts path x) (Copied (word_of parts (i ∷ path) port)))
  port_taken path m x s i port f at e =
      let p = f.part in
      let child : place_of parts (i ∷ path) ≡ p.children + i = ap (λ o. children_of o + i) f.is.listed in
      subst (λ q. Takes wires (step (word_of parts path x) (Copied ((spot_of (slice_get parts q)).base + port)))) (sym child)
      (own_taken path m x s f (Copied ((spot_of (slice_get parts (p.children + i))).base + port)) at (ap (own_feed parts p x) e))

  join_taken : (i : ℕ) (outer : Path) (m : Module) (x : ℕ) (s : Signal) → module_at modules t (i ∷ outer) ≡ Some m → slice_get m.signals x ≡ Some s → s.source ≡ Input
      → Takes wires (step (word_of parts (i ∷ outer) x) (Copied (word_of parts outer (connected modules t (instance_at modules t outer i) x))))
  join_taken i outer m x s at listed e =
      let a = opened (λ (k : Module). option_and_then (λ (n : Instance). slice_get modules n.of) (slice_get k.instances i)) (module_at modules t outer) m at in
      let holder = a.0 in
      let b = opened (λ (n : Instance). slice_get modules n.of) (slice_get holder.instances i) m a.2 in
      let n = b.0 in
      let f = found outer holder a.1 in
      let p = f.part in
      let child_base = (spot_of (slice_get parts (p.children + i))).base in
      let feed = Copied (p.spot.base + or_zero (slice_get n.inputs x)) in
      let one_step = step (child_base + x) feed in
      let signals : slice_get (signals_of (slice_get modules n.of)) x ≡ Some s = ap (λ o. slice_get (signals_of o) x) b.2 ∙ listed in
      let joined = join_has p.spot.base n.inputs child_base (signals_of (slice_get modules n.of)) x s feed signals (ap (join_feed p.spot.base n.inputs x) e) in
      let inside : slice_get (instances_of (slice_get modules p.module)) i ≡ Some n = ap (λ o. slice_get (instances_of o) i) f.is.kind ∙ b.1 in
      let all = instances_have modules parts p (instances_of (slice_get modules p.module)) i n one_step inside joined in
      let own = takes_right (own_steps parts p 0 (signals_of (slice_get modules p.module))) (all_instances modules parts p 0 (instances_of (slice_get modules p.module))) one_step all in
      let has = taken one_step (parts_have modules parts parts (place_of parts outer) p one_step f.is.listed own) in
      let instance_is : instance_at modules t outer i ≡ Some n = ap (option_and_then (λ (k : Module). slice_get k.instances i)) a.1 ∙ b.1 in
      let from : connected modules t (instance_at modules t outer i) x ≡ or_zero (slice_get n.inputs x) = ap (λ o. connected modules t o x) instance_is in
      let child : place_of parts (i ∷ outer) ≡ p.children + i = ap (λ o. children_of o + i) f.is.listed in
      subst (λ y. Takes wires (step (word_of parts (i ∷ outer) x) (Copied (word_of parts outer y)))) (sym from)
      (subst (λ (u : Spot). Takes wires (step (word_of parts (i ∷ outer) x) (Copied (u.base + or_zero (slice_get n.inputs x))))) (sym (spot_is outer holder f))
      (subst (λ q. Takes wires (step ((spot_of (slice_get parts q)).base + x) feed)) (sym child) has))

  -- ---- each signal has a step, and each step a signal

  abbrev pub Gives : Path → ℕ → List ℕ → Source → Step → Type 0
  Gives path x name source s = GivesBy modules t parts prefs path x name source s

  pub record HasStep (path : Path) (x : ℕ) (name : List ℕ) (source : Source) : Type 0 where
    pub step_is : Step
    pub takes : Takes wires step_is
    pub gives : Gives path x name source step_is

  step_by : (path : Path) (m : Module) (x : ℕ) (s : Signal) → IsAt modules t path m x s → (source : Source) → s.source ≡ source → (IsRegister source → ⊥) → HasStep path x s.name source
  step_by path m x s at (Register n) e lacks = absurd (lacks tt)
  step_by path m x s at (Assigned v) e lacks =
      let f = found path m at.stands in
      record {
        step_is = step (word_of parts path x) (Computed (kind_at parts path) x (spot_at parts path));
        takes = assigned_taken path m x s f at.listed (ap (own_feed parts f.part x) e);
        gives = refl;
      }
  step_by path m x s at (Port i port) e lacks =
      record { step_is = step (word_of parts path x) (Copied (word_of parts (i ∷ path) port)); takes = port_taken path m x s i port (found path m at.stands) at.listed e; gives = refl }
  step_by [] m x s at Input e lacks =
      let same : t ≡ m = (let q = at.stands in cc) in
      let r = l.are.rooted x s (ap (λ (k : Module). slice_get k.signals x) same ∙ at.listed) e in
      let there : l.base + x ≡ word_of parts [] x = ap (λ b. b + x) l.base_is in
      record { step_is = step (l.base + x) r.feed; takes = root_taken (step (l.base + x) r.feed) r.takes; gives = (there, r.given) }
  step_by (i ∷ outer) m x s at Input e lacks =
      record {
        step_is = step (word_of parts (i ∷ outer) x) (Copied (word_of parts outer (connected modules t (instance_at modules t outer i) x)));
        takes = join_taken i outer m x s at.stands at.listed e;
        gives = refl;
      }

  pub has_step : (path : Path) (m : Module) (x : ℕ) (s : Signal) → IsAt modules t path m x s → (IsRegister s.source → ⊥) → HasStep path x s.name s.source
  has_step path m x s at lacks = step_by path m x s at s.source refl lacks

  pub gives_target : (path : Path) (x : ℕ) (name : List ℕ) (source : Source) (s : Step) → Gives path x name source s → s.target ≡ word_of parts path x
  gives_target path x name (Register n) s g = absurd g
  gives_target path x name (Assigned v) s g = ap (λ (u : Step). u.target) g
  gives_target path x name (Port i port) s g = ap (λ (u : Step). u.target) g
  gives_target [] x name Input s g = g.0
  gives_target (i ∷ outer) x name Input s g = ap (λ (u : Step). u.target) g

  -- the signal of a step
  pub record Origin (s : Step) : Type 0 where
    pub path : Path
    pub kind : Module
    pub number : ℕ
    pub signal : Signal
    pub is : IsAt modules t path kind number signal
    pub gives : Gives path number signal.name signal.source s

  -- of the part at a place
  pub part_at : (q : ℕ) (p : Part) → slice_get parts q ≡ Some p → (m : Module) → slice_get modules p.module ≡ Some m → (path : Path) × (place_of parts path ≡ q) × (module_at modules t path ≡ Some m)
  part_at q p listed m kind =
      let r = l.tree.grown.reached t l.top_at q p.module (l.placed.each q p listed).0 in
      (r.path, place_same r.path ∙ r.is, r.kind_is ∙ kind)

  own_origin : (q : ℕ) (p : Part) → slice_get parts q ≡ Some p → (m : Module) → slice_get modules p.module ≡ Some m → (x : ℕ) (s : Signal) → slice_get m.signals x ≡ Some s
      → (w : Step) (f : Feed) → w ≡ step (p.spot.base + x) f → (source : Source) → s.source ≡ source → own_feed parts p x source ≡ f ∷ [] → Origin w
  own_origin q p listed m kind x s at w f is source e g =
      let r = part_at q p listed m kind in
      let here : slice_get parts (place_of parts r.0) ≡ Some p = ap (slice_get parts) r.1 ∙ listed in
      record {
        path = r.0;
        kind = m;
        number = x;
        signal = s;
        is = record { stands = r.2; listed = at };
        gives = subst (λ so. Gives r.0 x s.name so w) (sym e) (own_gives r.0 here source g);
      }
    where
      own_gives : (path : Path) → slice_get parts (place_of parts path) ≡ Some p → (source : Source) → own_feed parts p x source ≡ f ∷ [] → Gives path x s.name source w
      own_gives path here Input h = absurd cc
      own_gives path here (Register n) h = absurd cc
      own_gives path here (Assigned v) h =
          let feed : Computed p.module x p.spot ≡ f = cc in
          is ∙ ap (λ u. step (p.spot.base + x) u) (sym feed)
          ∙ ap (λ o. step ((spot_of o).base + x) (Computed (kind_of o) x (spot_of o))) (sym here)
      own_gives path here (Port i port) h =
          let feed : Copied ((spot_of (slice_get parts (p.children + i))).base + port) ≡ f = cc in
          is ∙ ap (λ u. step (p.spot.base + x) u) (sym feed)
          ∙ ap (λ o. step ((spot_of o).base + x) (Copied ((spot_of (slice_get parts (children_of o + i))).base + port))) (sym here)

  join_origin : (q : ℕ) (p : Part) → slice_get parts q ≡ Some p → (m : Module) → slice_get modules p.module ≡ Some m → (i : ℕ) (n : Instance) → slice_get m.instances i ≡ Some n
      → (k : Module) → slice_get modules n.of ≡ Some k → (x : ℕ) (s : Signal) → slice_get k.signals x ≡ Some s → (w : Step) (f : Feed)
      → w ≡ step ((spot_of (slice_get parts (p.children + i))).base + x) f → join_feed p.spot.base n.inputs x s.source ≡ f ∷ [] → Origin w
  join_origin q p listed m kind i n inside k of x s at w f is g =
      let r = part_at q p listed m kind in
      let here : slice_get parts (place_of parts r.0) ≡ Some p = ap (slice_get parts) r.1 ∙ listed in
      record {
        path = i ∷ r.0;
        kind = k;
        number = x;
        signal = s;
        is = record {
          stands = ap (option_and_then (λ (z : Module). option_and_then (λ (y : Instance). slice_get modules y.of) (slice_get z.instances i))) r.2
              ∙ ap (option_and_then (λ (y : Instance). slice_get modules y.of)) inside ∙ of;
          listed = at;
        };
        gives = join_gives r.0 here r.2 s.source g;
      }
    where
      join_gives : (outer : Path) → slice_get parts (place_of parts outer) ≡ Some p → module_at modules t outer ≡ Some m → (source : Source) → join_feed p.spot.base n.inputs x source ≡ f ∷ []
          → Gives (i ∷ outer) x s.name source w
      join_gives outer here stands Input h =
          let feed : Copied (p.spot.base + or_zero (slice_get n.inputs x)) ≡ f = cc in
          let instance_is : instance_at modules t outer i ≡ Some n = ap (option_and_then (λ (z : Module). slice_get z.instances i)) stands ∙ inside in
          is ∙ ap (λ u. step ((spot_of (slice_get parts (p.children + i))).base + x) u) (sym feed)
          ∙ ap (λ o. step ((spot_of (slice_get parts (children_of o + i))).base + x) (Copied ((spot_of o).base + or_zero (slice_get n.inputs x)))) (sym here)
          ∙ ap (λ o. step (word_of parts (i ∷ outer) x) (Copied (word_of parts outer (connected modules t o x)))) (sym instance_is)
      join_gives outer here stands (Register z) h = absurd cc
      join_gives outer here stands (Assigned v) h = absurd cc
      join_gives outer here stands (Port j port) h = absurd cc

  root_origin : (w : Step) → IsRoot l.base prefs t.signals w → Origin w
  root_origin w r = record {
    path = [];
    kind = t;
    number = r.number;
    signal = r.signal;
    is = record { stands = refl; listed = r.listed };
    gives = subst (λ so. Gives [] r.number r.signal.name so w) (sym r.input) (r.target ∙ ap (λ b. b + r.number) l.base_is, r.given);
  }

  -- ---- from the list of all steps

  module _ (q : ℕ) (p : Part) (listed : slice_get parts q ≡ Some p) where
    part_kind : (o : Option Module) → slice_get modules p.module ≡ o → (w : Step) → Takes (own_steps parts p 0 (signals_of o) ++ all_instances modules parts p 0 (instances_of o)) w → Origin w
    part_kind None e w h = absurd (no_step h)
      where
        no_step : Takes [] w → ⊥
        no_step h = (let z = h.1 in absurd cc)
    part_kind (Some m) e w h = ⊎_elim
        (λ own.
        let o = own_back parts p 0 m.signals w own in
        let here : 0 + o.number ≡ o.number = omega arith in
        own_origin q p listed m e o.number o.signal o.listed w o.feed (o.is ∙ ap (λ y. step (p.spot.base + y) o.feed) here) (o.signal).source refl
        (ap (λ y. own_feed parts p y (o.signal).source) (sym here) ∙ o.by))
        (λ inside.
        let i = instances_back modules parts p 0 m.instances w inside in
        let here : 0 + i.number ≡ i.number = omega arith in
        joined m e i.number i.instance i.listed (slice_get modules (i.instance).of) refl w (subst (λ y. Takes (instance_steps modules parts p y i.instance) w) here i.by))
        (takes_split (own_steps parts p 0 m.signals) (all_instances modules parts p 0 m.instances) w h)
      where
        joined : (m : Module) → slice_get modules p.module ≡ Some m → (i : ℕ) (n : Instance) → slice_get m.instances i ≡ Some n → (o : Option Module) → slice_get modules n.of ≡ o → (w : Step)
            → Takes (join_steps p.spot.base n.inputs (spot_of (slice_get parts (p.children + i))).base 0 (signals_of o)) w → Origin w
        joined m e i n at None of w h = (let z = h.1 in absurd cc)
        joined m e i n at (Some k) of w h =
            let o = join_back p.spot.base n.inputs (spot_of (slice_get parts (p.children + i))).base 0 k.signals w h in
            let here : 0 + o.number ≡ o.number = omega arith in
            join_origin q p listed m e i n at k of o.number o.signal o.listed w o.feed (o.is ∙ ap (λ y. step ((spot_of (slice_get parts (p.children + i))).base + y) o.feed) here)
            (ap (λ y. join_feed p.spot.base n.inputs y (o.signal).source) (sym here) ∙ o.by)

  pub origin : (w : Step) → Takes wires w → Origin w
  origin w h = ⊎_elim
      (λ root. root_origin w (l.are.only root.0 w root.1))
      (λ all. let p = parts_back modules parts parts w all in part_kind p.number p.part p.listed (slice_get modules p.part.module) refl w p.by)
      (takes_split l.are.roots (all_steps modules parts parts) w (subst (λ (ws : List Step). Takes ws w) l.are.are h))

  -- ---- one signal for each word

  pub record IsOneSignal (path other : Path) (m k : Module) (x y : ℕ) (s u : Signal) : Type 0 where
    pub paths : path ≡ other
    pub kinds : m ≡ k
    pub indices : x ≡ y
    pub signals : s ≡ u

  pub one_signal : (path other : Path) (m k : Module) (x y : ℕ) (s u : Signal) → IsAt modules t path m x s → IsAt modules t other k y u → word_of parts path x ≡ word_of parts other y
      → IsOneSignal path other m k x y s u
  one_signal path other m k x y s u at there e =
      let f = found path m at.stands in
      let g = found other k there.stands in
      let spot = spot_is path m f in
      let spot_there = spot_is other k g in
      let words_are : f.part.spot.base + x ≡ g.part.spot.base + y =
      ap (λ (z : Spot). z.base + x) (sym spot) ∙ e ∙ ap (λ (z : Spot). z.base + y) spot_there in
      let places : place_of parts path ≡ place_of parts other =
      l.placed.signals (place_of parts path) (place_of parts other) f.part g.part m k x y f.is g.is (slice_get_within m.signals x s at.listed)
      (slice_get_within k.signals y u there.listed) words_are in
      let paths : path ≡ other =
      one_path path other (instance_of modules l.number l.kinds l.children t l.tree l.top_at path m at.stands)
      (instance_of modules l.number l.kinds l.children t l.tree l.top_at other k there.stands) places in
      let kinds : m ≡ k = (let z : Some m ≡ Some k = sym at.stands ∙ ap (module_at modules t) paths ∙ there.stands in cc) in
      let spots : (spot_at parts path).base ≡ (spot_at parts other).base = ap (λ (z : Path). (spot_at parts z).base) paths in
      let indices : x ≡ y = omega (arith, e, spots) in
      let signals : s ≡ u = (let z : Some s ≡ Some u = sym at.listed ∙ ap (λ (z : Module). slice_get z.signals x) kinds ∙ ap (slice_get k.signals) indices ∙ there.listed in cc) in
      record { paths = paths; kinds = kinds; indices = indices; signals = signals }

  -- a step to the word of a signal is that of the signal
  pub gives_here : (path : Path) (m : Module) (x : ℕ) (s : Signal) → IsAt modules t path m x s → (w : Step) → Takes wires w → w.target ≡ word_of parts path x → Gives path x s.name s.source w
  gives_here path m x s at w h e =
      let o = origin w h in
      let one = one_signal o.path path o.kind m o.number x o.signal s o.is at (sym (gives_target o.path o.number (o.signal).name (o.signal).source w o.gives) ∙ e) in
      subst (λ z. Gives z x s.name s.source w) one.paths
      (subst (λ z. Gives o.path z s.name s.source w) one.indices
      (subst (λ (z : Signal). Gives o.path o.number z.name z.source w) one.signals o.gives))

  pub register_free : (path : Path) (m : Module) (x : ℕ) (s : Signal) → IsAt modules t path m x s → slice_index_or free (word_of parts path x) false ≡ is_register s.source
  register_free path m x s at =
      let f = found path m at.stands in
      subst (λ (u : Spot). slice_index_or free (u.base + x) false ≡ is_register s.source) (sym (spot_is path m f))
      (l.placed.begins (place_of parts path) f.part m x s f.is at.listed).1

  pub in_room : (path : Path) (m : Module) (x : ℕ) (s : Signal) → IsAt modules t path m x s → word_of parts path x < length numbers
  in_room path m x s at =
      let f = found path m at.stands in
      subst (λ (u : Spot). u.base + x < length numbers) (sym (spot_is path m f))
      (l.placed.room (place_of parts path) f.part m x f.is (slice_get_within m.signals x s at.listed))
