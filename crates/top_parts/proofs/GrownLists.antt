-- Lists that grow by what one step of a loop puts behind them.
use Rattle.std.proofs.Common.{◌≡◌, ℕ, zero, suc, ◌+◌, ◌<◌, ◌≤◌, List, [], ◌∷◌, ◌++◌, length, get_or, take, refl, sym, ap, ◌∙◌, arith, append_assoc, add-zero, zero-add, length-append}
use Rattle.std.specs.Prelude.{slice_get, slice_index}
use Rattle.std.specs.List.{flat_map}
use Rattle.std.proofs.lemmas.List.{take_more, append-nil, length-take-le}
use Rattle.std.proofs.lemmas.List.Concat.{flat_map-append}
use Rattle.netlist.specs.declared.netlist.Module.{Module}
use Rattle.top_parts.specs.declared.parts.Part.{Part}
use Rattle.top_parts.specs.declared.wires.Wire.{Wire}
use Rattle.top_parts.specs.Parts.{each_from, flat_from, flat_spread, output_count}
use Rattle.top_parts.specs.Wires.{port_wire, first_port, ports, enables, starts_from}

take_next : {A : Type 0} (xs : List A) (i : ℕ) (x : A) → x ≡ get_or xs i x → i < length xs → take (i + 1) xs ≡ take i xs ++ x ∷ []
take_next xs i x is lt = take_more xs i x lt ∙ ap (λ y. take i xs ++ y ∷ []) (sym is)

more_behind : {A : Type 0} (a b c m n : List A) → b ≡ a ++ m → c ≡ b ++ n → c ≡ a ++ (m ++ n)
more_behind a b c m n e h = h ∙ ap (λ l. l ++ n) e ∙ append_assoc a m n

-- ---- maps

pub flat_next : {A B : Type 0} (f : A → List B) (xs : List A) (i : ℕ) (x : A) → x ≡ get_or xs i x → i < length xs → flat_map f (take (i + 1) xs) ≡ flat_map f (take i xs) ++ f x
flat_next f xs i x is lt =
    ap (flat_map f) (take_next xs i x is lt) ∙ flat_map-append f (take i xs) (x ∷ []) ∙ ap (λ l. flat_map f (take i xs) ++ l) (append-nil (f x))

pub flat_onto : {A B : Type 0} (f : A → List B) (a b c : List B) (xs : List A) (i : ℕ) (x : A) → b ≡ a ++ flat_map f (take i xs) → c ≡ b ++ f x
    → x ≡ get_or xs i x → i < length xs → c ≡ a ++ flat_map f (take (i + 1) xs)
flat_onto f a b c xs i x e h is lt = more_behind a b c (flat_map f (take i xs)) (f x) e h ∙ ap (λ l. a ++ l) (sym (flat_next f xs i x is lt))

pub flat_more : {A B : Type 0} (f : A → List B) (b c : List B) (xs : List A) (i : ℕ) (x : A) → b ≡ flat_map f (take i xs) → c ≡ b ++ f x
    → x ≡ get_or xs i x → i < length xs → c ≡ flat_map f (take (i + 1) xs)
flat_more f b c xs i x e h is lt = h ∙ ap (λ l. l ++ f x) e ∙ sym (flat_next f xs i x is lt)

-- ---- by number

pub length-each_from : {A B : Type 0} (f : ℕ → A → B) (k : ℕ) (xs : List A) → length (each_from f k xs) ≡ length xs
length-each_from f k [] = refl
length-each_from f k (x ∷ xs) = ap suc (length-each_from f (k + 1) xs)

each_from-append : {A B : Type 0} (f : ℕ → A → B) (k : ℕ) (xs ys : List A) → each_from f k (xs ++ ys) ≡ each_from f k xs ++ each_from f (k + length xs) ys
each_from-append f k [] ys = ap (λ j. each_from f j ys) (sym (add-zero k))
each_from-append f k (x ∷ xs) ys =
    let e : k + 1 + length xs ≡ k + suc (length xs) = omega arith in
    ap (λ l. f k x ∷ l) (each_from-append f (k + 1) xs ys ∙ ap (λ j. each_from f (k + 1) xs ++ each_from f j ys) e)

flat_from-append : {A B : Type 0} (f : ℕ → A → List B) (k : ℕ) (xs ys : List A) → flat_from f k (xs ++ ys) ≡ flat_from f k xs ++ flat_from f (k + length xs) ys
flat_from-append f k [] ys = ap (λ j. flat_from f j ys) (sym (add-zero k))
flat_from-append f k (x ∷ xs) ys =
    let e : k + 1 + length xs ≡ k + suc (length xs) = omega arith in
    ap (λ l. f k x ++ l) (flat_from-append f (k + 1) xs ys ∙ ap (λ j. flat_from f (k + 1) xs ++ flat_from f j ys) e)
    ∙ sym (append_assoc (f k x) (flat_from f (k + 1) xs) (flat_from f (k + suc (length xs)) ys))

pub length-taken : {A : Type 0} (xs : List A) (i : ℕ) → i < length xs → length (take i xs) ≡ i
length-taken xs i lt = length-take-le i xs (omega arith)

each_next : {A B : Type 0} (f : ℕ → A → B) (k : ℕ) (xs : List A) (i : ℕ) (x : A) → x ≡ get_or xs i x → i < length xs
    → each_from f k (take (i + 1) xs) ≡ each_from f k (take i xs) ++ f (k + i) x ∷ []
each_next f k xs i x is lt =
    ap (each_from f k) (take_next xs i x is lt) ∙ each_from-append f k (take i xs) (x ∷ [])
    ∙ ap (λ j. each_from f k (take i xs) ++ f (k + j) x ∷ []) (length-taken xs i lt)

pub each_onto : {A B : Type 0} (f : ℕ → A → B) (a b c : List B) (xs : List A) (i : ℕ) (x : A) → b ≡ a ++ each_from f 0 (take i xs) → c ≡ b ++ f i x ∷ []
    → x ≡ get_or xs i x → i < length xs → c ≡ a ++ each_from f 0 (take (i + 1) xs)
each_onto f a b c xs i x e h is lt =
    more_behind a b c (each_from f 0 (take i xs)) (f i x ∷ []) e h
    ∙ ap (λ l. a ++ l) (ap (λ j. each_from f 0 (take i xs) ++ f j x ∷ []) (sym (zero-add i)) ∙ sym (each_next f 0 xs i x is lt))

-- signals that are told their own place
pub each_behind : {A B : Type 0} (f : ℕ → A → B) (a b c : List B) (xs : List A) (i : ℕ) (x : A) → b ≡ a ++ each_from f (length a) (take i xs) → c ≡ b ++ f (length b) x ∷ []
    → x ≡ get_or xs i x → i < length xs → c ≡ a ++ each_from f (length a) (take (i + 1) xs)
each_behind f a b c xs i x e h is lt =
    let n : length b ≡ length a + i =
    ap length e ∙ length-append a (each_from f (length a) (take i xs)) ∙ ap (λ k. length a + k) (length-each_from f (length a) (take i xs) ∙ length-taken xs i lt) in
    more_behind a b c (each_from f (length a) (take i xs)) (f (length b) x ∷ []) e h
    ∙ ap (λ l. a ++ l) (ap (λ j. each_from f (length a) (take i xs) ++ f j x ∷ []) n ∙ sym (each_next f (length a) xs i x is lt))

flat_from-next : {A B : Type 0} (f : ℕ → A → List B) (k : ℕ) (xs : List A) (i : ℕ) (x : A) → x ≡ get_or xs i x → i < length xs
    → flat_from f k (take (i + 1) xs) ≡ flat_from f k (take i xs) ++ f (k + i) x
flat_from-next f k xs i x is lt =
    ap (flat_from f k) (take_next xs i x is lt) ∙ flat_from-append f k (take i xs) (x ∷ [])
    ∙ ap (λ l. flat_from f k (take i xs) ++ l) (append-nil (f (k + length (take i xs)) x))
    ∙ ap (λ j. flat_from f k (take i xs) ++ f (k + j) x) (length-taken xs i lt)

pub flat_from_onto : {A B : Type 0} (f : ℕ → A → List B) (a b c : List B) (xs : List A) (i : ℕ) (x : A) → b ≡ a ++ flat_from f 0 (take i xs) → c ≡ b ++ f i x
    → x ≡ get_or xs i x → i < length xs → c ≡ a ++ flat_from f 0 (take (i + 1) xs)
flat_from_onto f a b c xs i x e h is lt =
    more_behind a b c (flat_from f 0 (take i xs)) (f i x) e h
    ∙ ap (λ l. a ++ l) (ap (λ j. flat_from f 0 (take i xs) ++ f j x) (sym (zero-add i)) ∙ sym (flat_from-next f 0 xs i x is lt))

flat_spread-last : {B : Type 0} (f : ℕ → List B) (i n : ℕ) → flat_spread f i (suc n) ≡ flat_spread f i n ++ f (i + n)
flat_spread-last f i zero = append-nil (f i) ∙ ap f (sym (add-zero i))
flat_spread-last f i (suc n) =
    let e : i + 1 + n ≡ i + suc n = omega arith in
    ap (λ l. f i ++ l) (flat_spread-last f (i + 1) n ∙ ap (λ j. flat_spread f (i + 1) n ++ f j) e)
    ∙ sym (append_assoc (f i) (flat_spread f (i + 1) n) (f (i + suc n)))

pub flat_spread_onto : {B : Type 0} (f : ℕ → List B) (a b c : List B) (n : ℕ) → b ≡ a ++ flat_spread f 0 n → c ≡ b ++ f n → c ≡ a ++ flat_spread f 0 (n + 1)
flat_spread_onto f a b c n e h =
    let one : n + 1 ≡ suc n = omega arith in
    more_behind a b c (flat_spread f 0 n) (f n) e h
    ∙ ap (λ l. a ++ l) (ap (λ j. flat_spread f 0 n ++ f j) (sym (zero-add n)) ∙ sym (flat_spread-last f 0 n) ∙ ap (flat_spread f 0) (sym one))

-- ---- the wires of the instances so far, and where they begin

pub length-ports : (modules : List Module) (i : ℕ) (p : Part) → length (ports modules i p) ≡ length p.outputs
length-ports modules i p = length-each_from (port_wire i (first_port modules p)) 0 p.outputs

starts_from-append : (at : ℕ) (ps : List Part) (p : Part) (modules : List Module) (i : ℕ)
    → starts_from at (ps ++ p ∷ []) ≡ starts_from at ps ++ (at + length (flat_from (ports modules) i ps)) ∷ []
starts_from-append at [] p modules i = ap (λ n. n ∷ []) (sym (add-zero at))
starts_from-append at (q ∷ ps) p modules i =
    let n = length-append (ports modules i q) (flat_from (ports modules) (i + 1) ps) in
    let m = length-ports modules i q in
    let e : at + length q.outputs + length (flat_from (ports modules) (i + 1) ps) ≡ at + length (ports modules i q ++ flat_from (ports modules) (i + 1) ps) = omega arith in
    ap (λ l. at ∷ l) (starts_from-append (at + length q.outputs) ps p modules (i + 1) ∙ ap (λ k. starts_from (at + length q.outputs) ps ++ k ∷ []) e)

pub record AreWires (modules : List Module) (parts : List Part) (threads place i : ℕ) (wires : List Wire) (starts : List ℕ) : Type 0 where
  pub wires_are : wires ≡ enables threads ++ flat_from (ports modules) 0 (take i parts)
  pub starts_are : starts ≡ starts_from (place + length (enables threads)) (take i parts)

pub wires_grow : (modules : List Module) (parts : List Part) (threads place i : ℕ) (wires more : List Wire) (starts new : List ℕ) (p : Part)
    → AreWires modules parts threads place i wires starts → new ≡ starts ++ (place + length wires) ∷ [] → more ≡ wires ++ ports modules i p
    → p ≡ get_or parts i p → i < length parts → AreWires modules parts threads place (i + 1) more new
wires_grow modules parts threads place i wires more starts new p h e g is lt =
    let n = ap length h.wires_are ∙ length-append (enables threads) (flat_from (ports modules) 0 (take i parts)) in
    let at : place + length wires ≡ place + length (enables threads) + length (flat_from (ports modules) 0 (take i parts)) = omega arith in
    record {
      wires_are = flat_from_onto (ports modules) (enables threads) wires more parts i p h.wires_are g is lt;
      starts_are = e ∙ ap (λ l. l ++ (place + length wires) ∷ []) h.starts_are
          ∙ ap (λ k. starts_from (place + length (enables threads)) (take i parts) ++ k ∷ []) at
          ∙ sym (starts_from-append (place + length (enables threads)) (take i parts) p modules 0)
          ∙ ap (starts_from (place + length (enables threads))) (sym (take_next parts i p is lt));
    }

pub starts_low : (at : ℕ) (ps : List Part) (modules : List Module) (i j : ℕ) → slice_index (starts_from at ps) j ≤ at + length (flat_from (ports modules) i ps)
starts_low at [] modules i j = omega arith
starts_low at (p ∷ ps) modules i zero = omega arith
starts_low at (p ∷ ps) modules i (suc j) =
    let l = starts_low (at + length p.outputs) ps modules (i + 1) j in
    let m = length-ports modules i p in
    let n = length-append (ports modules i p) (flat_from (ports modules) (i + 1) ps) in
    omega arith

pub counts_low : (ps : List Part) (modules : List Module) (i j : ℕ) → output_count (slice_get ps j) ≤ length (flat_from (ports modules) i ps)
counts_low [] modules i j = omega arith
counts_low (p ∷ ps) modules i zero =
    let m = length-ports modules i p in
    let n = length-append (ports modules i p) (flat_from (ports modules) (i + 1) ps) in
    omega arith
counts_low (p ∷ ps) modules i (suc j) =
    let l = counts_low ps modules (i + 1) j in
    let n = length-append (ports modules i p) (flat_from (ports modules) (i + 1) ps) in
    omega arith
