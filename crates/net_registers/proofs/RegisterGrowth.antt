-- A list of registers grows mark by mark.
use Rattle.std.proofs.Common.{◌≡◌, refl, sym, ap, ◌∙◌, subst, ℕ, ◌+◌, ◌<◌}
use Rattle.std.proofs.Common.{List, [], ◌∷◌, ◌++◌, map, length, take, Some, slice_get, append_assoc, append-nil, get_or, ◌≤◌, arith}
use Rattle.std.specs.List.{AllByRecursion}
use Rattle.std.proofs.lemmas.List.{map-append, take_more, length-take-le, take_all, length-map, length-append}
use Rattle.std.proofs.lemmas.List.Concat.{flat_map-append}
use Rattle.std.proofs.lemmas.Option.{slice_get-get_or}
use Rattle.netlist.specs.declared.netlist.Signal.{Signal}
use Rattle.netlist.specs.declared.netlist.Module.{Module}
use Rattle.verilog_meaning.specs.Cycles.{Path}
use Rattle.sim_values.specs.declared.edge.Part.{Part}
use Rattle.vcd_text.specs.Recover.{unlines, IsHeadLine}
use Rattle.net_registers.specs.declared.listing.Listing.{Listing}
use Rattle.net_registers.specs.Marks.{Register, Mark, Enter, Leave, own, own_mark, held, registers_of}
use Rattle.net_registers.specs.Heads.{place_of, width_of, lines_from, line_of, scope_line, end_line, IsOfNet, Grows, HasLine, HasSignal, HasOwn, IsBased}
use Rattle.net_registers.specs.Walks.{HasScope}

pub lines_append : (number : ℕ) (xs ys : List Mark) → lines_from number (xs ++ ys) ≡ lines_from number xs ++ lines_from (number + length (registers_of xs)) ys
lines_append number [] ys = let e : number ≡ number + 0 = omega arith in ap (λ (k : ℕ). lines_from k ys) e
lines_append number (m ∷ xs) ys =
    let j = length-append (held m) (registers_of xs) in
    let e : (number + length (held m)) + length (registers_of xs) ≡ number + length (registers_of (m ∷ xs)) = omega (arith, j) in
    ap (λ (l : List (List ℕ)). line_of number m ∷ l) (lines_append (number + length (held m)) xs ys
    ∙ ap (λ (k : ℕ). lines_from (number + length (held m)) xs ++ lines_from k ys) e)

pub unlines_append : (xs ys : List (List ℕ)) → unlines (xs ++ ys) ≡ unlines xs ++ unlines ys
unlines_append [] ys = refl
unlines_append (x ∷ xs) ys = ap (λ (l : List ℕ). x ++ 10 ∷ l) (unlines_append xs ys) ∙ sym (append_assoc x (10 ∷ unlines xs) (unlines ys))

pub all_append : {A : Type 0} (P : A → Type 0) (xs ys : List A) → AllByRecursion P xs → AllByRecursion P ys → AllByRecursion P (xs ++ ys)
all_append P [] ys p q = q
all_append P (x ∷ xs) ys p q = (p.0, all_append P xs ys p.1 q)

own_append : (path : Path) (x : ℕ) (xs ys : List Signal) → own path x (xs ++ ys) ≡ own path x xs ++ own path (x + length xs) ys
own_append path x [] ys = let e : x ≡ x + 0 = omega arith in ap (λ (k : ℕ). own path k ys) e
own_append path x (s ∷ xs) ys =
    let e : (x + 1) + length xs ≡ x + length (s ∷ xs) = omega arith in
    ap (λ (l : List Mark). own_mark path x s ++ l) (own_append path (x + 1) xs ys ∙ ap (λ (k : ℕ). own path (x + 1) xs ++ own path k ys) e)
    ∙ sym (append_assoc (own_mark path x s) (own path (x + 1) xs) (own path (x + length (s ∷ xs)) ys))

module _ (modules : List Module) (top : Module) (parts : List Part) where
  pub grows_both : (a b c : Listing) (xs ys : List Mark) → Grows modules top parts a b xs → Grows modules top parts b c ys → Grows modules top parts a c (xs ++ ys)
  grows_both a b c xs ys f g =
      let rx = registers_of xs in
      let ry = registers_of ys in
      let both : registers_of (xs ++ ys) ≡ rx ++ ry = flat_map-append held xs ys in
      let count : length b.places ≡ length a.places + length rx =
      ap length f.places ∙ length-append a.places (map (place_of parts) rx) ∙ ap (λ (k : ℕ). length a.places + k) (length-map rx (place_of parts)) in
      let lines : lines_from (length a.places) (xs ++ ys) ≡ lines_from (length a.places) xs ++ lines_from (length b.places) ys =
      lines_append (length a.places) xs ys ∙ ap (λ (k : ℕ). lines_from (length a.places) xs ++ lines_from k ys) (sym count) in
      record {
        head = g.head ∙ ap (λ (l : List ℕ). l ++ unlines (lines_from (length b.places) ys)) f.head
            ∙ append_assoc a.head (unlines (lines_from (length a.places) xs)) (unlines (lines_from (length b.places) ys))
            ∙ ap (λ (l : List ℕ). a.head ++ l) (sym (unlines_append (lines_from (length a.places) xs) (lines_from (length b.places) ys)))
            ∙ ap (λ (l : List (List ℕ)). a.head ++ unlines l) (sym lines);
        places = g.places ∙ ap (λ (l : List ℕ). l ++ map (place_of parts) ry) f.places ∙ append_assoc a.places (map (place_of parts) rx) (map (place_of parts) ry)
            ∙ ap (λ (l : List ℕ). a.places ++ l) (sym (map-append (place_of parts) rx ry)) ∙ ap (λ (l : List Register). a.places ++ map (place_of parts) l) (sym both);
        widths = g.widths ∙ ap (λ (l : List ℕ). l ++ map width_of ry) f.widths ∙ append_assoc a.widths (map width_of rx) (map width_of ry)
            ∙ ap (λ (l : List ℕ). a.widths ++ l) (sym (map-append width_of rx ry)) ∙ ap (λ (l : List Register). a.widths ++ map width_of l) (sym both);
        lines = subst (AllByRecursion IsHeadLine) (sym lines) (all_append IsHeadLine (lines_from (length a.places) xs) (lines_from (length b.places) ys) f.lines g.lines);
        net = subst (AllByRecursion (IsOfNet modules top)) (sym both) (all_append (IsOfNet modules top) rx ry f.net g.net);
      }

  pub grows_enter : (a b : Listing) (name : List ℕ) → HasLine a b (scope_line name) → Grows modules top parts a b (Enter name ∷ [])
  grows_enter a b name h = record {
    head = h.head;
    places = h.places ∙ sym (append-nil a.places);
    widths = h.widths ∙ sym (append-nil a.widths);
    lines = (h.line_is, tt);
    net = tt;
  }

  pub grows_leave : (a b : Listing) → HasLine a b end_line → Grows modules top parts a b (Leave ∷ [])
  grows_leave a b h = record {
    head = h.head;
    places = h.places ∙ sym (append-nil a.places);
    widths = h.widths ∙ sym (append-nil a.widths);
    lines = (h.line_is, tt);
    net = tt;
  }

-- ---- the signals of an instance

-- the first signals
abbrev pub HasFirst : Listing → Listing → ℕ → List Signal → ℕ → Type 0
HasFirst a b base signals count =
    (modules : List Module) (top : Module) (parts : List Part) (path : Path) (kind : Module) → IsBased modules top parts path kind base → kind.signals ≡ signals →
    Grows modules top parts a b (own path 0 (take count signals))

pub first_more : (a b c : Listing) (base : ℕ) (signals : List Signal) (count : ℕ) (s : Signal) → count < length signals → s ≡ get_or signals count s →
    HasFirst a b base signals count → HasSignal b c base count s → HasFirst a c base signals (count + 1)
first_more a b c base signals count s lt is first one modules top parts path kind based e =
    let at : slice_get signals count ≡ Some s = slice_get-get_or signals count s lt ∙ ap (λ (z : Signal). Some z) (sym is) in
    let more : take (count + 1) signals ≡ take count signals ++ s ∷ [] = take_more signals count s lt ∙ ap (λ (z : Signal). take count signals ++ z ∷ []) (sym is) in
    let long : length (take count signals) ≡ count = length-take-le count signals (omega (arith, lt)) in
    let marks : own path 0 (take (count + 1) signals) ≡ own path 0 (take count signals) ++ own_mark path count s =
    ap (own path 0) more ∙ own_append path 0 (take count signals) (s ∷ [])
    ∙ ap (λ (k : ℕ). own path 0 (take count signals) ++ (own_mark path k s ++ [])) (let z : 0 + length (take count signals) ≡ count = omega (arith, long) in z)
    ∙ ap (λ (l : List Mark). own path 0 (take count signals) ++ l) (append-nil (own_mark path count s)) in
    subst (Grows modules top parts a c) (sym marks)
    (grows_both modules top parts a b c (own path 0 (take count signals)) (own_mark path count s) (first modules top parts path kind based e)
    (one modules top parts path kind based (ap (λ (l : List Signal). slice_get l count) e ∙ at)))

pub first_all : (a b : Listing) (base : ℕ) (signals : List Signal) (count : ℕ) → length signals ≤ count → HasFirst a b base signals count → HasOwn a b base signals
first_all a b base signals count le first modules top parts path kind based e =
    subst (λ (l : List Signal). Grows modules top parts a b (own path 0 l)) (take_all count signals le) (first modules top parts path kind based e)

-- a scope begins
pub grows_scope : (modules : List Module) (top : Module) (parts : List Part) (path : Path) (kind : Module) (a b : Listing) (name : List ℕ) (base : ℕ) →
    IsBased modules top parts path kind base → HasScope a b name base kind.signals → Grows modules top parts a b (Enter name ∷ own path 0 kind.signals)
grows_scope modules top parts path kind a b name base based h =
    grows_both modules top parts a h.between b (Enter name ∷ []) (own path 0 kind.signals) (grows_enter modules top parts a h.between name h.line)
    (h.own modules top parts path kind based refl)
