-- One step of the walk through the instances of a net.
use Rattle.std.proofs.Common.{◌≡◌, refl, sym, ap, ◌∙◌, subst, ℕ, zero, suc, ◌+◌, List, [], ◌∷◌, ◌++◌, length, drop, Option, Some, None, slice_get, append_assoc, append-nil, arith}
use Rattle.std.specs.Prelude.{option_and_then}
use Rattle.std.proofs.lemmas.Option.{same_Some, none-some}
use Rattle.std.proofs.lemmas.List.{length-append, same_from_push}
use Rattle.netlist.specs.declared.netlist.Instance.{Instance}
use Rattle.netlist.specs.declared.netlist.Module.{Module}
use Rattle.verilog_meaning.specs.Names.{top_of}
use Rattle.verilog_meaning.specs.Cycles.{module_at}
use Rattle.sim_values.specs.Stands.{place_of, spot_of, kind_of, children_of}
use Rattle.sim_layout.specs.Running.{Running, Stands}
use Rattle.net_registers.specs.declared.walk.Frame as code
use Rattle.net_registers.specs.declared.listing.Listing.{Listing}
use Rattle.net_registers.specs.Marks.{Mark, Enter, Leave, own, scope, Adds, none, lacks, adds, AreMarks}
use Rattle.net_registers.specs.Heads.{Grows, HasLine, IsBased, end_line}
use Rattle.net_registers.specs.Walks.{Frame, frame_of, IsStack, Rests, first_listing, IsWalk, Enters, EntersSome}
use Rattle.net_registers.proofs.RegisterGrowth.{grows_both, grows_leave, grows_scope}

-- ---- lists

no_last : {A : Type 0} (xs : List A) (a : A) → [] ≡ xs ++ a ∷ [] → ⊥
no_last xs a e = let l = ap length e ∙ length-append xs (a ∷ []) in omega (arith, l)

dropped_none : {A : Type 0} (xs : List A) (k : ℕ) → slice_get xs k ≡ None → drop k xs ≡ []
dropped_none [] zero e = refl
dropped_none [] (suc k) e = refl
dropped_none (x ∷ xs) zero e = absurd (none-some x (sym e))
dropped_none (x ∷ xs) (suc k) e = dropped_none xs k e

dropped_some : {A : Type 0} (xs : List A) (k : ℕ) (x : A) → slice_get xs k ≡ Some x → drop k xs ≡ x ∷ drop (suc k) xs
dropped_some [] k x e = absurd (none-some x e)
dropped_some (y ∷ xs) zero x e = let same : y ≡ x = same_Some y x e in ap (λ z. z ∷ xs) same
dropped_some (y ∷ xs) (suc k) x e = dropped_some xs k x e

-- ---- the marks that are left, put together

leaving : (marks rest : List Mark) → (marks ++ Leave ∷ []) ++ rest ≡ marks ++ Leave ∷ rest
leaving marks rest = append_assoc marks (Leave ∷ []) rest

entering : (marks : List Mark) (e : Mark) (own_marks inner other rest : List Mark) →
    (marks ++ e ∷ own_marks) ++ (inner ++ Leave ∷ (other ++ Leave ∷ rest)) ≡ marks ++ (((e ∷ ((own_marks ++ inner) ++ Leave ∷ [])) ++ other) ++ Leave ∷ rest)
entering marks e own_marks inner other rest = simp append_assoc

-- ---- one step

-- a frame that is taken from the stack
pub record IsPopped (r : Running) (items : List code.Frame) (frame : code.Frame) (listing : Listing) : Type 0 where
  pub top : Module
  pub is_top : top_of r.modules ≡ Some top
  pub first : Frame r.modules top
  pub is : frame ≡ frame_of r.modules top r.parts first
  pub frames : List (Frame r.modules top)
  pub stack : IsStack r.modules top r.parts items frames
  pub marks : List Mark
  pub grown : Grows r.modules top r.parts first_listing listing marks
  pub closes : (rest : List Mark) → Rests r.modules top (first ∷ frames) rest → AreMarks r.modules (marks ++ rest)

module _ (r : Running) (items : List code.Frame) (frame : code.Frame) (listing : Listing) where
  popped_by : (top : Module) → top_of r.modules ≡ Some top → (frames : List (Frame r.modules top)) → IsStack r.modules top r.parts (items ++ frame ∷ []) frames →
      (marks : List Mark) → Grows r.modules top r.parts first_listing listing marks →
      ((rest : List Mark) → Rests r.modules top frames rest → AreMarks r.modules (marks ++ rest)) → IsPopped r items frame listing
  popped_by top is_top [] stack marks grown closes = absurd (no_last items frame (sym stack))
  popped_by top is_top (f ∷ frames) stack marks grown closes =
      let same = same_from_push items stack.0 frame (frame_of r.modules top r.parts f) stack.1 in
      record {
        top = top;
        is_top = is_top;
        first = f;
        is = same.1;
        frames = frames;
        stack = subst (λ (l : List code.Frame). IsStack r.modules top r.parts l frames) (sym same.0) stack.2;
        marks = marks;
        grown = grown;
        closes = closes;
      }

  pub popped : IsWalk r (items ++ frame ∷ []) listing → IsPopped r items frame listing
  popped w = popped_by w.top w.is_top w.frames w.stack w.marks w.grown w.closes

-- the kind of the frame's instance
pub kind_is : (r : Running) (items : List code.Frame) (frame : code.Frame) (listing : Listing) → Stands r → (p : IsPopped r items frame listing) →
    slice_get r.modules (kind_of (slice_get r.parts frame.part)) ≡ Some p.first.kind
kind_is r items frame listing is p =
    let top : is.top ≡ p.top = same_Some is.top p.top (sym is.is_top ∙ p.is_top) in
    let stands : module_at r.modules is.top p.first.path ≡ Some p.first.kind = subst (λ (t : Module). module_at r.modules t p.first.path ≡ Some p.first.kind) (sym top) p.first.stands in
    let part : frame.part ≡ place_of r.parts p.first.path = ap (λ (f : code.Frame). f.part) p.is in
    ap (λ (k : ℕ). slice_get r.modules (kind_of (slice_get r.parts k))) part ∙ is.plan.laid p.first.path p.first.kind stands

module _ (r : Running) (items : List code.Frame) (frame : code.Frame) (listing : Listing) (p : IsPopped r items frame listing) where
  next_is : frame.next ≡ p.first.next
  next_is = ap (λ (f : code.Frame). f.next) p.is

  part_is : frame.part ≡ place_of r.parts p.first.path
  part_is = ap (λ (f : code.Frame). f.part) p.is

  -- the last instance is passed
  pub left : (new : Listing) → slice_get p.first.kind.instances frame.next ≡ None → HasLine listing new end_line → IsWalk r items new
  left new e h =
      let over : drop p.first.next p.first.kind.instances ≡ [] = dropped_none p.first.kind.instances p.first.next (ap (slice_get p.first.kind.instances) (sym next_is) ∙ e) in
      record {
        top = p.top;
        is_top = p.is_top;
        frames = p.frames;
        stack = p.stack;
        marks = p.marks ++ Leave ∷ [];
        grown = grows_both r.modules p.top r.parts first_listing listing new p.marks (Leave ∷ []) p.grown (grows_leave r.modules p.top r.parts listing new h);
        closes = λ rest rests. subst (AreMarks r.modules) (sym (leaving p.marks rest))
            (p.closes (Leave ∷ rest) ([], rest, subst (λ (l : List Instance). Adds r.modules p.first.path p.first.next l []) (sym over) none, rests, refl));
      }

  module _ (x : Instance) (at : slice_get p.first.kind.instances frame.next ≡ Some x) where
    abbrev after : Frame r.modules p.top
    after = record { path = p.first.path; kind = p.first.kind; stands = p.first.stands; next = p.first.next + 1 }

    listed : slice_get p.first.kind.instances p.first.next ≡ Some x
    listed = ap (slice_get p.first.kind.instances) (sym next_is) ∙ at

    more : drop p.first.next p.first.kind.instances ≡ x ∷ drop (p.first.next + 1) p.first.kind.instances
    more =
        let e : suc p.first.next ≡ p.first.next + 1 = omega arith in
        dropped_some p.first.kind.instances p.first.next x listed ∙ ap (λ (k : ℕ). x ∷ drop k p.first.kind.instances) e

    abbrev pub went_on : ℕ → List code.Frame
    went_on next = items ++ record { part = frame.part; next = next } ∷ []

    -- there is no module
    passed : (next : ℕ) → next ≡ frame.next + 1 → slice_get r.modules x.of ≡ None → IsWalk r (went_on next) listing
    passed next e missing =
        record {
          top = p.top;
          is_top = p.is_top;
          frames = after ∷ p.frames;
          stack = (items, (λ i. items ++ record { part = part_is i; next = (e ∙ ap (λ (k : ℕ). k + 1) next_is) i } ∷ []), p.stack);
          marks = p.marks;
          grown = p.grown;
          closes = λ rest rests. p.closes rest (
            rests.0,
            rests.1,
            subst (λ (l : List Instance). Adds r.modules p.first.path p.first.next l rests.0) (sym more) (lacks missing rests.2),
            rests.3,
            rests.4,
          );
        }

    module _ (m : Module) (is_module : slice_get r.modules x.of ≡ Some m) where
      stands_in : module_at r.modules p.top (p.first.next ∷ p.first.path) ≡ Some m
      stands_in =
          ap (λ (o : Option Module). option_and_then (λ (k : Module). option_and_then (λ (n : Instance). slice_get r.modules n.of) (slice_get k.instances p.first.next)) o) p.first.stands
          ∙ ap (λ (o : Option Instance). option_and_then (λ (n : Instance). slice_get r.modules n.of) o) listed ∙ is_module

      abbrev inside : Frame r.modules p.top
      inside = record { path = p.first.next ∷ p.first.path; kind = m; stands = stands_in; next = 0 }

      entered : (next child : ℕ) (pushed : List code.Frame) (new : Listing) → next ≡ frame.next + 1 → child ≡ children_of (slice_get r.parts frame.part) + frame.next →
          Enters r.parts x.name child m (went_on next) pushed listing new → IsWalk r pushed new
      entered next child pushed new e c h =
          let child_is : child ≡ place_of r.parts (p.first.next ∷ p.first.path) = c ∙ (λ i. children_of (slice_get r.parts (part_is i)) + next_is i) in
          let based : IsBased r.modules p.top r.parts (p.first.next ∷ p.first.path) m (spot_of (slice_get r.parts child)).base =
          record { stands = stands_in; base_is = ap (λ (k : ℕ). (spot_of (slice_get r.parts k)).base) child_is } in
          let marks = Enter x.name ∷ own (p.first.next ∷ p.first.path) 0 m.signals in
          record {
            top = p.top;
            is_top = p.is_top;
            frames = inside ∷ after ∷ p.frames;
            stack = (
              went_on next,
              h.pushed ∙ ap (λ (k : ℕ). went_on next ++ record { part = k; next = 0 } ∷ []) child_is,
              (items, (λ i. items ++ record { part = part_is i; next = (e ∙ ap (λ (k : ℕ). k + 1) next_is) i } ∷ []), p.stack),
            );
            marks = p.marks ++ marks;
            grown = grows_both r.modules p.top r.parts first_listing listing new p.marks marks p.grown
                (grows_scope r.modules p.top r.parts (p.first.next ∷ p.first.path) m listing new x.name (spot_of (slice_get r.parts child)).base based h.scope);
            closes = λ rest rests.
                let other = rests.3.0 in
                let last = rests.3.1 in
                let owned = own (p.first.next ∷ p.first.path) 0 m.signals in
                subst (AreMarks r.modules)
                (sym (ap (λ (l : List Mark). (p.marks ++ marks) ++ l) (rests.4 ∙ ap (λ (l : List Mark). rests.0 ++ Leave ∷ l) rests.3.4) ∙ entering p.marks (Enter x.name) owned rests.0 other last))
                (p.closes ((scope x.name (owned ++ rests.0) ++ other) ++ Leave ∷ last) (
                  scope x.name (owned ++ rests.0) ++ other,
                  last,
                  subst (λ (l : List Instance). Adds r.modules p.first.path p.first.next l (scope x.name (owned ++ rests.0) ++ other)) (sym more) (adds is_module rests.2 rests.3.2),
                  rests.3.3,
                  refl,
                ));
          }

    by_module : (o : Option Module) → slice_get r.modules x.of ≡ o → (next child : ℕ) (pushed : List code.Frame) (new : Listing) → next ≡ frame.next + 1 →
        child ≡ children_of (slice_get r.parts frame.part) + frame.next → EntersSome r.parts x.name child o (went_on next) pushed listing new → IsWalk r pushed new
    by_module None is next child pushed new e c h =
        subst (λ (l : Listing). IsWalk r pushed l) (sym h.1) (subst (λ (l : List code.Frame). IsWalk r l listing) (sym h.0) (passed next e is))
    by_module (Some m) is next child pushed new e c h = entered m is next child pushed new e c h

    pub went : (next child : ℕ) (pushed : List code.Frame) (new : Listing) → next ≡ frame.next + 1 → child ≡ children_of (slice_get r.parts frame.part) + frame.next →
        EntersSome r.parts x.name child (slice_get r.modules x.of) (went_on next) pushed listing new → IsWalk r pushed new
    went next child pushed new e c h = by_module (slice_get r.modules x.of) refl next child pushed new e c h

-- ---- the outermost module

first_marks : (e : Mark) (own_marks inner rest : List Mark) → rest ≡ [] → (e ∷ own_marks) ++ (inner ++ Leave ∷ rest) ≡ e ∷ ((own_marks ++ inner) ++ Leave ∷ [])
first_marks e own_marks inner rest is = ap (λ (l : List Mark). (e ∷ own_marks) ++ (inner ++ Leave ∷ l)) is ∙ ap (λ (l : List Mark). e ∷ l) (sym (append_assoc own_marks inner (Leave ∷ [])))

pub begun : (r : Running) (m : Module) (items : List code.Frame) (old new : Listing) → Stands r → slice_get r.modules (kind_of (slice_get r.parts 0)) ≡ Some m → old ≡ first_listing →
    Enters r.parts m.name 0 m [] items old new → IsWalk r items new
begun r m items old new is at first h =
    let same : is.top ≡ m = same_Some is.top m (sym (is.plan.laid [] is.top refl) ∙ at) in
    let is_top : top_of r.modules ≡ Some m = is.is_top ∙ ap (λ (t : Module). Some t) same in
    let based : IsBased r.modules m r.parts [] m (spot_of (slice_get r.parts 0)).base = record { stands = refl; base_is = refl } in
    let grown = grows_scope r.modules m r.parts [] m old new m.name (spot_of (slice_get r.parts 0)).base based h.scope in
    let frame : Frame r.modules m = record { path = []; kind = m; stands = refl; next = 0 } in
    record {
      top = m;
      is_top = is_top;
      frames = frame ∷ [];
      stack = ([], h.pushed, refl);
      marks = Enter m.name ∷ own [] 0 m.signals;
      grown = subst (λ (l : Listing). Grows r.modules m r.parts l new (Enter m.name ∷ own [] 0 m.signals)) first grown;
      closes = λ rest rests. record {
        top = m;
        is_top = is_top;
        inner = rests.0;
        below = rests.2;
        are = ap (λ (l : List Mark). (Enter m.name ∷ own [] 0 m.signals) ++ l) rests.4 ∙ first_marks (Enter m.name) (own [] 0 m.signals) rests.0 rests.1 rests.3;
      };
    }

-- ---- the end

pub record IsWalked (r : Running) (listing : Listing) : Type 0 where
  pub top : Module
  pub is_top : top_of r.modules ≡ Some top
  pub marks : List Mark
  pub grown : Grows r.modules top r.parts first_listing listing marks
  pub are : AreMarks r.modules marks

walked_by : (r : Running) (listing : Listing) (top : Module) → top_of r.modules ≡ Some top → (frames : List (Frame r.modules top)) → IsStack r.modules top r.parts [] frames → (marks : List Mark) →
    Grows r.modules top r.parts first_listing listing marks → ((rest : List Mark) → Rests r.modules top frames rest → AreMarks r.modules (marks ++ rest)) → IsWalked r listing
walked_by r listing top is_top [] stack marks grown closes =
    record { top = top; is_top = is_top; marks = marks; grown = grown; are = subst (AreMarks r.modules) (append-nil marks) (closes [] refl) }
walked_by r listing top is_top (f ∷ frames) stack marks grown closes = absurd (no_last stack.0 (frame_of r.modules top r.parts f) stack.1)

pub walked : (r : Running) (listing : Listing) → IsWalk r [] listing → IsWalked r listing
walked r listing w = walked_by r listing w.top w.is_top w.frames w.stack w.marks w.grown w.closes
