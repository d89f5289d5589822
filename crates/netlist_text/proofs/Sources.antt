-- What drives a signal is found again: its assign, or the port of an instance that it is tied to.
use Rattle.std.proofs.Common.{◌≡◌, ℕ, zero, suc, ◌+◌, ◌<◌, ◌⊎◌, List, [], ◌∷◌, ◌++◌, Bool, true, false, Option, Some, None, refl, sym, ap, ◌∙◌, subst, inl, inr, length, map, zero-add, arith}
use Rattle.std.specs.Prelude.{slice_get, option_map, ◌&&◌, if◌then◌else◌}
use Rattle.std.specs.List.{flat_map}
use Rattle.std.specs.Str.{bytes_eq}
use Rattle.std.proofs.lemmas.Slice.Eq.{bytes_eq-Decides}
use Rattle.std.proofs.lemmas.Option.{same_Some, none-some, slice_get_within}
use Rattle.std.proofs.lemmas.Bool.{and_parts}
use Rattle.lists.proofs.Places.{get_there, get_mapped, get_unmapped}
use Rattle.verilog_tree.specs.declared.tree.Expression.{Expression}
use Rattle.verilog_tree.specs.declared.tree.Connection.{Connection}
use Rattle.verilog_tree.specs.declared.tree.Assign.{Assign}
use Rattle.verilog_tree.specs.declared.tree.Item.{Item}
use Rattle.verilog_tree.proofs.Tests.{and_both}
use Rattle.netlist.specs.declared.netlist.Source.{Source}
use Rattle.netlist.specs.declared.netlist.Source.TheVariants as source
use Rattle.netlist.specs.declared.netlist.Signal.{Signal}
use Rattle.netlist.specs.declared.netlist.Instance.{Instance}
use Rattle.netlist.specs.declared.netlist.Module.{Module}
use Rattle.netlist.specs.NetlistOf as n
use Rattle.netlist.specs.NetlistOf.{Name, Kind, InputPort, OutputPort, PlainWire, Reg, Declaration, connected, assigned, is_output_port}
use Rattle.netlist.specs.Laid.{EachAt, AreApart, IsDriven, IsLaidInstance, kind_of, is_input_port, is_inner, input_signals, inner_signals, output_signals, first_output, signal_names, source_at}
use Rattle.netlist_text.specs.LaidOut as laid
use Rattle.netlist_text.proofs.Places.{get_either, get_filtered, other_name, head_other, apart_rest}
use Rattle.netlist_text.proofs.Told.{told_declaration, told_declarations}
use Rattle.netlist_text.proofs.Values.{signal_name_at}
use Rattle.netlist_text.proofs.Connections.{IsOrdered, first_is, output_at, output_connected, AreBefore, texts, instance_is, of_instance_is}

-- ---- assigns

module _ (m : Module) where
  abbrev told_by : Signal → Source → List Assign
  told_by x from = flat_map (λ (y : Item). n.some (n.assign_item y)) (laid.assign_by m x from)

  abbrev told_all : List Signal → List Assign
  told_all ss = flat_map (λ (x : Signal). told_by x x.source) ss

  abbrev pub assigned_right : Signal → Source → Option Expression
  assigned_right x source.Input = None
  assigned_right x (source.Register c) = None
  assigned_right x (source.Assigned right) = Some (laid.expression m x.width right)
  assigned_right x (source.Port j port) = None

  absent_by : (t : Signal) (x : Name) (from : Source) (rest : List Assign) → bytes_eq x t.name ≡ false → assigned (told_by t from ++ rest) x ≡ assigned rest x
  absent_by t x source.Input rest h = refl
  absent_by t x (source.Register c) rest h = refl
  absent_by t x (source.Assigned right) rest h = ap (λ b. if b then Some (laid.expression m t.width right) else assigned rest x) h
  absent_by t x (source.Port j port) rest h = refl

  absent : (ss : List Signal) (x : Name) → ((k : ℕ) (s : Signal) → slice_get ss k ≡ Some s → bytes_eq x s.name ≡ false) → assigned (told_all ss) x ≡ None
  absent [] x h = refl
  absent (t ∷ ss) x h = absent_by t x t.source (told_all ss) (h 0 t refl) ∙ absent ss x (λ k s q. h (suc k) s q)

  here : (t : Signal) (from : Source) (rest : List Assign) → assigned rest t.name ≡ None → assigned (told_by t from ++ rest) t.name ≡ assigned_right t from
  here t source.Input rest h = h
  here t (source.Register c) rest h = h
  here t (source.Assigned right) rest h = ap (λ b. if b then Some (laid.expression m t.width right) else assigned rest t.name) ((bytes_eq-Decides t.name t.name).1 refl)
  here t (source.Port j port) rest h = h

  assigned_among : (ss : List Signal) (k : ℕ) (s : Signal) → AreApart (map (λ (x : Signal). x.name) ss) → slice_get ss k ≡ Some s → assigned (told_all ss) s.name ≡ assigned_right s s.source
  assigned_among [] k s apart h = absurd (none-some s h)
  assigned_among (t ∷ ss) zero s apart h =
      let others : (k : ℕ) (u : Signal) → slice_get ss k ≡ Some u → bytes_eq t.name u.name ≡ false = λ k u q.
      other_name t.name u.name (λ e. let z : 0 ≡ suc k = apart 0 (suc k) u.name (ap Some e) (get_mapped (λ (x : Signal). x.name) ss k u q) in absurd (omega arith)) in
      let P : Signal → Type 0 = λ u. assigned (told_all (t ∷ ss)) u.name ≡ assigned_right u u.source in
      subst P (same_Some t s h) (here t t.source (told_all ss) (absent ss t.name others))
  assigned_among (t ∷ ss) (suc k) s apart h =
      absent_by t s.name t.source (told_all ss) (head_other t.name (map (λ (x : Signal). x.name) ss) k s.name apart (get_mapped (λ (x : Signal). x.name) ss k s h))
      ∙ assigned_among ss k s (apart_rest t.name (map (λ (x : Signal). x.name) ss) apart) h

  pub assigned_at : (k : ℕ) (s : Signal) → AreApart (signal_names m) → slice_get m.signals k ≡ Some s → assigned (told_all m.signals) s.name ≡ assigned_right s s.source
  assigned_at k s apart h = assigned_among m.signals k s apart h

-- ---- the output that is tied to a name

record Found (ds : List Declaration) (cs : List Connection) (x : Name) (k q : ℕ) : Type 0 where
  pub at : ℕ
  pub declaration : Declaration
  pub place : q ≡ k + at
  pub is : slice_get ds at ≡ Some declaration
  pub output : is_output_port declaration.kind ≡ true
  pub name : x ≡ connected cs declaration.name

sound_step : (d : Declaration) (ds : List Declaration) (cs : List Connection) (x : Name) (k q : ℕ) → (n.tied_output ds cs x (k + 1) ≡ Some q → Found ds cs x (k + 1) q)
    → (b : Bool) → (is_output_port d.kind && bytes_eq x (connected cs d.name)) ≡ b → (if b then Some k else n.tied_output ds cs x (k + 1)) ≡ Some q → Found (d ∷ ds) cs x k q
sound_step d ds cs x k q next true e h =
    let same : k ≡ q = same_Some k q h in
    record { at = 0; declaration = d; place = omega arith; is = refl; output = (and_parts _ _ e).0; name = (bytes_eq-Decides x (connected cs d.name)).0 (and_parts (is_output_port d.kind) _ e).1 }
sound_step d ds cs x k q next false e h =
    let f = next h in
    let p : q ≡ k + 1 + f.at = f.place in
    record { at = suc f.at; declaration = f.declaration; place = omega arith; is = f.is; output = f.output; name = f.name }

tied_sound : (ds : List Declaration) (cs : List Connection) (x : Name) (k q : ℕ) → n.tied_output ds cs x k ≡ Some q → Found ds cs x k q
tied_sound [] cs x k q h = absurd (none-some q h)
tied_sound (d ∷ ds) cs x k q h = sound_step d ds cs x k q (λ f. tied_sound ds cs x (k + 1) q f) (is_output_port d.kind && bytes_eq x (connected cs d.name)) refl h

some_step : (b : Bool) (k : ℕ) (o : Option ℕ) → (b ≡ true) ⊎ ((q : ℕ) × (o ≡ Some q)) → (q : ℕ) × ((if b then Some k else o) ≡ Some q)
some_step true k o h = (k, refl)
some_step false k o (inl e) = absurd (cc)
some_step false k o (inr p) = p

tied_some : (ds : List Declaration) (cs : List Connection) (x : Name) (k i : ℕ) (d : Declaration) → slice_get ds i ≡ Some d → is_output_port d.kind ≡ true → x ≡ connected cs d.name
    → (q : ℕ) × (n.tied_output ds cs x k ≡ Some q)
tied_some [] cs x k i d h output name = absurd (none-some d h)
tied_some (c ∷ ds) cs x k zero d h output name =
    let P : Declaration → Type 0 = λ y. (is_output_port y.kind && bytes_eq x (connected cs y.name)) ≡ true in
    some_step (is_output_port c.kind && bytes_eq x (connected cs c.name)) k (n.tied_output ds cs x (k + 1))
    (inl (subst P (sym (same_Some c d h)) (and_both _ _ output ((bytes_eq-Decides x (connected cs d.name)).1 name))))
tied_some (c ∷ ds) cs x k (suc i) d h output name =
    some_step (is_output_port c.kind && bytes_eq x (connected cs c.name)) k (n.tied_output ds cs x (k + 1)) (inr (tied_some ds cs x (k + 1) i d h output name))

-- ---- kinds exclude one another

no_input : (k : Kind) → is_input_port k ≡ true → is_output_port k ≡ true → ⊥
no_input InputPort p q = cc
no_input OutputPort p q = cc
no_input PlainWire p q = cc
no_input Reg p q = cc

no_inner : (k : Kind) → is_inner k ≡ true → is_output_port k ≡ true → ⊥
no_inner InputPort p q = cc
no_inner OutputPort p q = cc
no_inner PlainWire p q = cc
no_inner Reg p q = cc

-- an output of a module stands among its last signals
output_place : (m : Module) → IsOrdered m → (i : ℕ) (s : Signal) → slice_get m.signals i ≡ Some s → is_output_port (kind_of s) ≡ true
    → (j : ℕ) × (i ≡ first_output m + j) × (slice_get (output_signals m) j ≡ Some s)
output_place m h i s q output =
    let r : slice_get (input_signals m ++ inner_signals m ++ output_signals m) i ≡ Some s = ap (λ l. slice_get l i) (sym h.order) ∙ q in
    elim (get_either (input_signals m ++ inner_signals m) (output_signals m) i s r) [
      | inl front ↦ elim (get_either (input_signals m) (inner_signals m) i s front) [
        | inl p ↦ absurd (no_input (kind_of s) (get_filtered (λ (x : Signal). is_input_port (kind_of x)) m.signals i s p) output)
        | inr p ↦ absurd (no_inner (kind_of s) (get_filtered (λ (x : Signal). is_inner (kind_of x)) m.signals p.at s p.found) output)
      ]
      | inr p ↦ (p.at, p.is ∙ ap (λ k. k + p.at) (sym (first_is m h)), p.found)
    ]

pub mapped_some : {A B : Type 0} (f : A → B) (o : Option A) (y : B) → option_map f o ≡ Some y → (x : A) × (o ≡ Some x) × (f x ≡ y)
mapped_some f None y h = absurd (none-some y h)
mapped_some f (Some x) y h = (x, refl, same_Some (f x) y h)

-- ---- ports of instances

module _ (all before : List Module) (m : Module) (known : AreBefore all before) (apart : AreApart (signal_names m)) where
  -- the output of an instance that is tied to a name
  abbrev output_of : Name → Instance → Option ℕ
  output_of name x = n.tied_output (n.of_instance n.declarations (texts all before m known) (laid.instance_of all m x)) (laid.instance_of all m x).connections name 0

  output_is : (j : ℕ) (x : Instance) (h : IsLaidInstance before m j x) (name : Name) → output_of name x ≡ n.tied_output (map told_declaration h.of.signals) (laid.connections m h.of x) name 0
  output_is j x h name =
      ap (λ y. n.tied_output (n.of_instance n.declarations (texts all before m known) y) y.connections name 0) (instance_is all before m known x h.of h.earlier)
      ∙ ap (λ ds. n.tied_output ds (laid.connections m h.of x) name 0)
      (of_instance_is all before m known n.declarations x h.of h.earlier ∙ told_declarations all h.of (known.ordered x.of h.of h.earlier).order)

  -- a tied output drives the signal
  output_drives : (j : ℕ) (x : Instance) → IsLaidInstance before m j x → (place : ℕ) (s : Signal) → slice_get m.signals place ≡ Some s → (q : ℕ) → output_of s.name x ≡ Some q
      → source_at m place ≡ Some (source.Port j q)
  output_drives j x h place s at q tied =
      let ordered = known.ordered x.of h.of h.earlier in
      let f = tied_sound (map told_declaration h.of.signals) (laid.connections m h.of x) s.name 0 q (sym (output_is j x h s.name) ∙ tied) in
      let t = get_unmapped told_declaration h.of.signals f.at f.declaration f.is in
      let output : is_output_port (kind_of t.0) ≡ true = ap (λ (d : Declaration). is_output_port d.kind) t.2 ∙ f.output in
      let o = output_place h.of ordered f.at t.0 t.1 output in
      let within : o.0 < length x.outputs = subst (λ (k : ℕ). o.0 < k) (sym h.outputs) (slice_get_within (output_signals h.of) o.0 t.0 o.2) in
      let p = get_there x.outputs o.0 within in
      let drives : source_at m p.0 ≡ Some (source.Port j (first_output h.of + o.0)) = h.drives o.0 p.0 p.1 in
      let u = mapped_some (λ (y : Signal). y.source) (slice_get m.signals p.0) (source.Port j (first_output h.of + o.0)) drives in
      let name : s.name ≡ u.0.name =
      f.name ∙ ap (λ (d : Declaration). connected (laid.connections m h.of x) d.name) (sym t.2)
      ∙ output_connected m h.of x ordered h.inputs h.outputs o.0 p.0 t.0 o.2 p.1 ∙ signal_name_at m p.0 u.0 u.1 in
      let same : place ≡ p.0 = apart place p.0 u.0.name (get_mapped (λ (y : Signal). y.name) m.signals place s at ∙ ap Some name) (get_mapped (λ (y : Signal). y.name) m.signals p.0 u.0 u.1) in
      let port : first_output h.of + o.0 ≡ q = sym (f.place ∙ zero-add f.at ∙ o.1) in
      ap (source_at m) same ∙ drives ∙ ap (λ k. Some (source.Port j k)) port

  -- a driven signal has its output
  output_found : (place : ℕ) (s : Signal) (j port : ℕ) → slice_get m.signals place ≡ Some s → EachAt m.instances (IsLaidInstance before m) → IsDriven before m place j port
      → (x : Instance) × (slice_get m.instances j ≡ Some x) × ((q : ℕ) × (output_of s.name x ≡ Some q))
  output_found place s j port at instances d =
      let x = d.instance in
      let h = instances j x d.stands in
      let ordered = known.ordered x.of h.of h.earlier in
      let within : d.output < length (output_signals h.of) = subst (λ (k : ℕ). d.output < k) h.outputs (slice_get_within x.outputs d.output place d.tied) in
      let t = get_there (output_signals h.of) d.output within in
      let output : is_output_port (kind_of t.0) ≡ true = get_filtered (λ (y : Signal). is_output_port (kind_of y)) h.of.signals d.output t.0 t.1 in
      let stands = get_mapped told_declaration h.of.signals (first_output h.of + d.output) t.0 (output_at h.of ordered d.output t.0 t.1) in
      let name : s.name ≡ connected (laid.connections m h.of x) t.0.name =
      sym (output_connected m h.of x ordered h.inputs h.outputs d.output place t.0 t.1 d.tied ∙ signal_name_at m place s at) in
      let f = tied_some (map told_declaration h.of.signals) (laid.connections m h.of x) s.name 0 (first_output h.of + d.output) (told_declaration t.0) stands output name in
      (x, d.stands, (f.0, output_is j x h s.name ∙ f.1))

  tied_step : (name : Name) (x : Instance) (rest : Source) (k j port : ℕ) → ((q : ℕ) → output_of name x ≡ Some q → (k ≡ j) × (q ≡ port))
      → (o : Option ℕ) → output_of name x ≡ o → (o ≡ None → rest ≡ source.Port j port) → n.tied_source k o rest ≡ source.Port j port
  tied_step name x rest k j port sound None e next = next refl
  tied_step name x rest k j port sound (Some q) e next = let s = sound q e in ap (λ a. source.Port a q) s.0 ∙ ap (source.Port j) s.1

  tied_among : (name : Name) (xs : List Instance) (k j port : ℕ)
      → ((i : ℕ) (x : Instance) → slice_get xs i ≡ Some x → (q : ℕ) → output_of name x ≡ Some q → (k + i ≡ j) × (q ≡ port))
      → (i : ℕ) (x : Instance) (q : ℕ) → slice_get xs i ≡ Some x → output_of name x ≡ Some q
      → n.tied (texts all before m known) (map (laid.instance_of all m) xs) name k ≡ source.Port j port
  tied_among name [] k j port sound i x q at is = absurd (none-some x at)
  tied_among name (y ∷ xs) k j port sound zero x q at is =
      let here : output_of name y ≡ Some q = ap (output_of name) (same_Some y x at) ∙ is in
      let s = sound 0 y refl q here in
      let same : k ≡ j = omega arith in
      ap (λ o. n.tied_source k o (n.tied (texts all before m known) (map (laid.instance_of all m) xs) name (k + 1))) here ∙ ap (λ a. source.Port a q) same ∙ ap (source.Port j) s.1
  tied_among name (y ∷ xs) k j port sound (suc i) x q at is =
      let rest = n.tied (texts all before m known) (map (laid.instance_of all m) xs) name (k + 1) in
      let here : (q : ℕ) → output_of name y ≡ Some q → (k ≡ j) × (q ≡ port) = λ q e. (let s = sound 0 y refl q e in let f : k ≡ j = omega arith in (f, s.1)) in
      let later : (i : ℕ) (z : Instance) → slice_get xs i ≡ Some z → (q : ℕ) → output_of name z ≡ Some q → (k + 1 + i ≡ j) × (q ≡ port) =
      λ i z p q e. (let s = sound (suc i) z p q e in let f : k + 1 + i ≡ j = omega arith in (f, s.1)) in
      tied_step name y rest k j port here (output_of name y) refl (λ e. tied_among name xs (k + 1) j port later i x q at is)

  pub tied_back : (place : ℕ) (s : Signal) (j port : ℕ) → slice_get m.signals place ≡ Some s → s.source ≡ source.Port j port → EachAt m.instances (IsLaidInstance before m)
      → IsDriven before m place j port → n.tied (texts all before m known) (map (laid.instance_of all m) m.instances) s.name 0 ≡ source.Port j port
  tied_back place s j port at is instances d =
      let source_is : source_at m place ≡ Some (source.Port j port) = ap (option_map (λ (y : Signal). y.source)) at ∙ ap Some is in
      let sound : (i : ℕ) (x : Instance) → slice_get m.instances i ≡ Some x → (q : ℕ) → output_of s.name x ≡ Some q → (0 + i ≡ j) × (q ≡ port) = λ i x p q e.
      (let same : Some (source.Port i q) ≡ Some (source.Port j port) = sym (output_drives i x (instances i x p) place s at q e) ∙ source_is in
      let first : i ≡ j = cc in let second : q ≡ port = cc in (zero-add i ∙ first, second)) in
      let f = output_found place s j port at instances d in
      tied_among s.name m.instances 0 j port sound j f.0 f.2.0 f.1 f.2.1
