-- Instances placed one behind the other: a new one has words of its own.
use Rattle.std.specs.Prelude.{◌≡◌, ℕ, zero, suc, ◌+◌, ◌<◌, ◌⊎◌, Bool, false, List, [], ◌∷◌, ◌++◌, length, slice_index, slice_index_or, Option, Some, None, slice_get, refl}
use Rattle.std.proofs.Common.{ap, sym, ◌∙◌, subst, inl, inr, ⊎_elim, arith, length-append}
use Rattle.std.proofs.lemmas.Option.{slice_get_within}
use Rattle.std.proofs.lemmas.List.{get_or_append_left}
use Rattle.lists.proofs.Places.{get_left}
use Rattle.netlist.specs.declared.netlist.Signal.{Signal}
use Rattle.netlist.specs.declared.netlist.Memory.{Memory}
use Rattle.netlist.specs.declared.netlist.Module.{Module}
use Rattle.verilog_meaning.specs.Readings.{initial_number, or_zero, memory_words}
use Rattle.sim_values.specs.declared.edge.Part.{Part}
use Rattle.sim_layout.specs.Running.{IsPart}
use Rattle.sim_layout.specs.Placed.{is_register, numbers_in, frees_in, starts_in, words_in, numbers_of, frees_of, starts_of, words_of, IsPlaced}
use Rattle.sim_values.proofs.Trees.{get_back, index_back, front_or_back}

or_back : {X : Type 0} (xs ys : List X) (q i : ℕ) (d : X) → q ≡ length xs + i → slice_index_or (xs ++ ys) q d ≡ slice_index_or ys i d
or_back [] ys q i d e = ap (λ k. slice_index_or ys k d) (let z : q ≡ i = omega arith in z)
or_back (x ∷ xs) ys zero i d e = absurd (omega arith)
or_back (x ∷ xs) ys (suc q) i d e = or_back xs ys q i d (omega arith)

-- ---- one module

numbers_long : (ss : List Signal) → length (numbers_in ss) ≡ length ss
numbers_long [] = refl
numbers_long (s ∷ ss) = ap suc (numbers_long ss)

frees_long : (ss : List Signal) → length (frees_in ss) ≡ length ss
frees_long [] = refl
frees_long (s ∷ ss) = ap suc (frees_long ss)

numbers_get : (ss : List Signal) (x : ℕ) (s : Signal) → slice_get ss x ≡ Some s → slice_index (numbers_in ss) x ≡ initial_number s.source
numbers_get [] x s e = absurd cc
numbers_get (t ∷ ss) zero s e = let same : t ≡ s = cc in ap (λ (u : Signal). initial_number u.source) same
numbers_get (t ∷ ss) (suc x) s e = numbers_get ss x s e

frees_get : (ss : List Signal) (x : ℕ) (s : Signal) → slice_get ss x ≡ Some s → slice_index_or (frees_in ss) x false ≡ is_register s.source
frees_get [] x s e = absurd cc
frees_get (t ∷ ss) zero s e = let same : t ≡ s = cc in ap (λ (u : Signal). is_register u.source) same
frees_get (t ∷ ss) (suc x) s e = frees_get ss x s e

-- how many words stand before memory j
offset : List Memory → ℕ → ℕ
offset [] j = 0
offset (m ∷ ms) zero = 0
offset (m ∷ ms) (suc j) = length m.initial + offset ms j

within_of : (ms : List Memory) (j x : ℕ) → x < memory_words (slice_get ms j) → j < length ms
within_of [] j x l = absurd (omega arith)
within_of (m ∷ ms) zero x l = omega arith
within_of (m ∷ ms) (suc j) x l = let z = within_of ms j x l in omega arith

starts_long : (w : ℕ) (ms : List Memory) → length (starts_in w ms) ≡ length ms
starts_long w [] = refl
starts_long w (m ∷ ms) = ap suc (starts_long (w + length m.initial) ms)

starts_get : (w : ℕ) (ms : List Memory) (j : ℕ) → j < length ms → slice_index (starts_in w ms) j ≡ w + offset ms j
unfolding offset
starts_get w [] j l = absurd (omega arith)
starts_get w (m ∷ ms) zero l = omega arith
starts_get w (m ∷ ms) (suc j) l = let z = starts_get (w + length m.initial) ms j (omega arith) in omega arith

words_room : (ms : List Memory) (j x : ℕ) → x < memory_words (slice_get ms j) → offset ms j + x < length (words_in ms)
unfolding offset
words_room [] j x l = absurd (omega arith)
words_room (m ∷ ms) zero x l = omega (arith, length-append m.initial (words_in ms))
words_room (m ∷ ms) (suc j) x l = let z = words_room ms j x l in omega (arith, length-append m.initial (words_in ms))

index_get : (xs : List ℕ) (x : ℕ) → x < length xs → slice_index xs x ≡ or_zero (slice_get xs x)
index_get [] x l = absurd (omega arith)
index_get (y ∷ xs) zero l = refl
index_get (y ∷ xs) (suc x) l = index_get xs x (omega arith)

words_get : (ms : List Memory) (j : ℕ) (s : Memory) (x p : ℕ) → slice_get ms j ≡ Some s → x < length s.initial → p ≡ offset ms j + x → slice_index (words_in ms) p ≡ or_zero (slice_get s.initial x)
unfolding offset
words_get [] j s x p e l at = absurd cc
words_get (m ∷ ms) zero s x p e l at =
    let same : m ≡ s = cc in
    let here : p ≡ x = omega arith in
    let small : x < length m.initial = subst (λ (t : Memory). x < length t.initial) (sym same) l in
    ap (slice_index (m.initial ++ words_in ms)) here ∙ get_or_append_left m.initial (words_in ms) 0 x small ∙ index_get m.initial x small
    ∙ ap (λ (t : Memory). or_zero (slice_get t.initial x)) same
words_get (m ∷ ms) (suc j) s x p e l at = index_back m.initial (words_in ms) p (offset ms j + x) (omega arith) ∙ words_get ms j s x (offset ms j + x) e l refl

offset_apart : (ms : List Memory) (j i x y : ℕ) → x < memory_words (slice_get ms j) → y < memory_words (slice_get ms i) → offset ms j + x ≡ offset ms i + y → j ≡ i
unfolding offset
offset_apart [] j i x y l k e = absurd (omega arith)
offset_apart (m ∷ ms) zero zero x y l k e = refl
offset_apart (m ∷ ms) zero (suc i) x y l k e = absurd (omega arith)
offset_apart (m ∷ ms) (suc j) zero x y l k e = absurd (omega arith)
offset_apart (m ∷ ms) (suc j) (suc i) x y l k e = ap suc (offset_apart ms j i x y l k (omega arith))

-- ---- a new part

module _ (modules : List Module) (kinds children : List ℕ) (parts : List Part) (numbers : List ℕ) (free : List Bool) (words starts : List ℕ)
    (placed : IsPlaced modules kinds children parts numbers free words starts) (kind child : ℕ) (at_kind : slice_get kinds (length parts) ≡ Some kind)
    (at_child : child ≡ slice_index children (length parts)) where
  abbrev part : Part
  part = record { «module» = kind; spot = record { base = length numbers; memories = length starts }; children = child }

  abbrev more : List Part
  more = parts ++ part ∷ []

  abbrev o : Option Module
  o = slice_get modules kind

  record IsNew (q : ℕ) (p : Part) (m : Module) : Type 0 where
    pub last : q ≡ length parts
    pub same : p ≡ part
    pub kind_is : slice_get modules kind ≡ Some m

  only : (i : ℕ) (p : Part) → slice_get (part ∷ []) i ≡ Some p → (i ≡ 0) × (p ≡ part)
  only zero p e = (refl, let same : p ≡ part = cc in same)
  only (suc i) p e = absurd cc

  listed_split : (q : ℕ) (p : Part) → slice_get more q ≡ Some p → (slice_get parts q ≡ Some p) ⊎ ((q ≡ length parts) × (p ≡ part))
  listed_split q p e = ⊎_elim
      (λ l. inl (sym (get_left parts (part ∷ []) q l) ∙ e))
      (λ b. let one = only b.0 p (sym (get_back parts (part ∷ []) q b.0 b.1) ∙ e) in inr (let z = b.1 in let y = one.0 in omega arith, one.1))
      (front_or_back q (length parts))

  split : (q : ℕ) (p : Part) (m : Module) → IsPart modules more q p m → IsPart modules parts q p m ⊎ IsNew q p m
  split q p m is = ⊎_elim
      (λ old. inl (record { listed = old; kind = is.kind }))
      (λ new. inr (record { last = new.0; same = new.1; kind_is = ap (λ (u : Part). slice_get modules u.module) (sym new.1) ∙ is.kind }))
      (listed_split q p is.listed)

  base_is : (q : ℕ) (p : Part) (m : Module) → IsNew q p m → p.spot.base ≡ length numbers
  base_is q p m new = ap (λ (u : Part). u.spot.base) new.same

  memories_is : (q : ℕ) (p : Part) (m : Module) → IsNew q p m → p.spot.memories ≡ length starts
  memories_is q p m new = ap (λ (u : Part). u.spot.memories) new.same

  numbers_more : (q : ℕ) (p : Part) (m : Module) → IsNew q p m → length (numbers_of o) ≡ length m.signals
  numbers_more q p m new = ap (λ (u : Option Module). length (numbers_of u)) new.kind_is ∙ numbers_long m.signals

  starts_more : (q : ℕ) (p : Part) (m : Module) → IsNew q p m → length (starts_of (length words) o) ≡ length m.memories
  starts_more q p m new = ap (λ (u : Option Module). length (starts_of (length words) u)) new.kind_is ∙ starts_long (length words) m.memories

  old_start : (q : ℕ) (p : Part) (m : Module) (j : ℕ) → IsPart modules parts q p m → j < length m.memories
      → slice_index (starts ++ starts_of (length words) o) (p.spot.memories + j) ≡ slice_index starts (p.spot.memories + j)
  old_start q p m j is l = get_or_append_left starts (starts_of (length words) o) 0 (p.spot.memories + j) (placed.memories q p m j is l)

  new_start : (q : ℕ) (p : Part) (m : Module) (j : ℕ) → IsNew q p m → j < length m.memories
      → slice_index (starts ++ starts_of (length words) o) (p.spot.memories + j) ≡ length words + offset m.memories j
  new_start q p m j new l =
      index_back starts (starts_of (length words) o) (p.spot.memories + j) j (let z = memories_is q p m new in omega arith)
      ∙ ap (λ (u : Option Module). slice_index (starts_of (length words) u) j) new.kind_is
      ∙ starts_get (length words) m.memories j l

  words_more : (q : ℕ) (p : Part) (m : Module) → IsNew q p m → words_of o ≡ words_in m.memories
  words_more q p m new = ap words_of new.kind_is

  each_more : (q : ℕ) (p : Part) → slice_get more q ≡ Some p → (slice_get kinds q ≡ Some p.module) × (p.children ≡ slice_index children q)
  each_more q p e = ⊎_elim
      (λ old. placed.each q p old)
      (λ new. (
        ap (slice_get kinds) new.0 ∙ at_kind ∙ ap (λ (u : Part). Some u.module) (sym new.1),
        ap (λ (u : Part). u.children) new.1 ∙ at_child ∙ ap (slice_index children) (sym new.0),
      ))
      (listed_split q p e)

  room_more : (q : ℕ) (p : Part) (m : Module) (x : ℕ) → IsPart modules more q p m → x < length m.signals → p.spot.base + x < length (numbers ++ numbers_of o)
  room_more q p m x is l = ⊎_elim
      (λ old. let z = placed.room q p m x old l in omega (arith, length-append numbers (numbers_of o)))
      (λ new. let z = base_is q p m new in let y = numbers_more q p m new in omega (arith, length-append numbers (numbers_of o)))
      (split q p m is)

  begins_more : (q : ℕ) (p : Part) (m : Module) (x : ℕ) (s : Signal) → IsPart modules more q p m → slice_get m.signals x ≡ Some s
      → (slice_index (numbers ++ numbers_of o) (p.spot.base + x) ≡ initial_number s.source) × (slice_index_or (free ++ frees_of o) (p.spot.base + x) false ≡ is_register s.source)
  begins_more q p m x s is at = ⊎_elim
      (λ old.
      let l = placed.room q p m x old (slice_get_within m.signals x s at) in
      let b = placed.begins q p m x s old at in (
        get_or_append_left numbers (numbers_of o) 0 (p.spot.base + x) l ∙ b.0,
        get_or_append_left free (frees_of o) false (p.spot.base + x) (let z = placed.long in omega arith) ∙ b.1,
      ))
      (λ new.
      let z = base_is q p m new in (
        index_back numbers (numbers_of o) (p.spot.base + x) x (omega arith) ∙ ap (λ (u : Option Module). slice_index (numbers_of u) x) new.kind_is ∙ numbers_get m.signals x s at,
        or_back free (frees_of o) (p.spot.base + x) x false (let y = placed.long in omega arith)
            ∙ ap (λ (u : Option Module). slice_index_or (frees_of u) x false) new.kind_is ∙ frees_get m.signals x s at,
      ))
      (split q p m is)

  signals_more : (q r : ℕ) (p other : Part) (m k : Module) (x y : ℕ) → IsPart modules more q p m → IsPart modules more r other k → x < length m.signals → y < length k.signals
      → p.spot.base + x ≡ other.spot.base + y → q ≡ r
  signals_more q r p other m k x y is there l g e = ⊎_elim
      (λ old. ⊎_elim
      (λ old'. placed.signals q r p other m k x y old old' l g e)
      (λ new'. absurd (let z = base_is r other k new' in let a = placed.room q p m x old l in omega arith))
      (split r other k there))
      (λ new. ⊎_elim
      (λ old'. absurd (let z = base_is q p m new in let a = placed.room r other k y old' g in omega arith))
      (λ new'. new.last ∙ sym new'.last)
      (split r other k there))
      (split q p m is)

  memories_more : (q : ℕ) (p : Part) (m : Module) (j : ℕ) → IsPart modules more q p m → j < length m.memories → p.spot.memories + j < length (starts ++ starts_of (length words) o)
  memories_more q p m j is l = ⊎_elim
      (λ old. let z = placed.memories q p m j old l in omega (arith, length-append starts (starts_of (length words) o)))
      (λ new. let z = memories_is q p m new in let y = starts_more q p m new in omega (arith, length-append starts (starts_of (length words) o)))
      (split q p m is)

  abbrev start : Part → ℕ → ℕ
  start p j = slice_index (starts ++ starts_of (length words) o) (p.spot.memories + j)

  word_room_more : (q : ℕ) (p : Part) (m : Module) (j x : ℕ) → IsPart modules more q p m → x < memory_words (slice_get m.memories j) → start p j + x < length (words ++ words_of o)
  word_room_more q p m j x is l = ⊎_elim
      (λ old.
      let z = placed.word_room q p m j x old l in
      let y = old_start q p m j old (within_of m.memories j x l) in omega (arith, length-append words (words_of o)))
      (λ new.
      let y = new_start q p m j new (within_of m.memories j x l) in
      let z = words_room m.memories j x l in
      let w = ap length (words_more q p m new) in omega (arith, length-append words (words_of o)))
      (split q p m is)

  word_begins_more : (q : ℕ) (p : Part) (m : Module) (j x : ℕ) (s : Memory) → IsPart modules more q p m → slice_get m.memories j ≡ Some s → x < length s.initial
      → slice_index (words ++ words_of o) (start p j + x) ≡ or_zero (slice_get s.initial x)
  word_begins_more q p m j x s is at l =
      let small : x < memory_words (slice_get m.memories j) = subst (λ (n : ℕ). x < n) (sym (ap memory_words at)) l in
      let within = within_of m.memories j x small in
      ⊎_elim
      (λ old.
      let y = old_start q p m j old within in
      ap (λ (n : ℕ). slice_index (words ++ words_of o) (n + x)) y
      ∙ get_or_append_left words (words_of o) 0 (slice_index starts (p.spot.memories + j) + x) (placed.word_room q p m j x old small)
      ∙ placed.word_begins q p m j x s old at l)
      (λ new.
      let y = new_start q p m j new within in
      index_back words (words_of o) (start p j + x) (offset m.memories j + x) (omega arith)
      ∙ ap (λ (ws : List ℕ). slice_index ws (offset m.memories j + x)) (words_more q p m new)
      ∙ words_get m.memories j s x (offset m.memories j + x) at l refl)
      (split q p m is)

  words_apart_more : (q r : ℕ) (p other : Part) (m k : Module) (j i x y : ℕ) → IsPart modules more q p m → IsPart modules more r other k
      → x < memory_words (slice_get m.memories j) → y < memory_words (slice_get k.memories i) → start p j + x ≡ start other i + y → (q ≡ r) × (j ≡ i)
  words_apart_more q r p other m k j i x y is there l g e =
      let a = within_of m.memories j x l in
      let b = within_of k.memories i y g in
      ⊎_elim
      (λ old. ⊎_elim
      (λ old'. placed.words_apart q r p other m k j i x y old old' l g (let u = old_start q p m j old a in let v = old_start r other k i old' b in omega arith))
      (λ new'. absurd (let u = old_start q p m j old a in let v = new_start r other k i new' b in let z = placed.word_room q p m j x old l in omega arith))
      (split r other k there))
      (λ new. ⊎_elim
      (λ old'. absurd (let u = new_start q p m j new a in let v = old_start r other k i old' b in let z = placed.word_room r other k i y old' g in omega arith))
      (λ new'.
      let one : Some m ≡ Some k = sym new.kind_is ∙ new'.kind_is in
      let same : k ≡ m = cc in (
        new.last ∙ sym new'.last,
        offset_apart m.memories j i x y l (subst (λ (t : Module). y < memory_words (slice_get t.memories i)) same g)
            (let u = new_start q p m j new a in let v = new_start r other k i new' b in let w = ap (λ (t : Module). offset t.memories i) same in omega arith),
      ))
      (split r other k there))
      (split q p m is)

  long_by : (u : Option Module) → length (frees_of u) ≡ length (numbers_of u)
  long_by None = refl
  long_by (Some m) = frees_long m.signals ∙ sym (numbers_long m.signals)

  pub placed_more : IsPlaced modules kinds children more (numbers ++ numbers_of o) (free ++ frees_of o) (words ++ words_of o) (starts ++ starts_of (length words) o)
  placed_more = record {
    each = each_more;
    long = let z = placed.long in let y = long_by o in omega (arith, length-append free (frees_of o), length-append numbers (numbers_of o));
    room = room_more;
    begins = begins_more;
    signals = signals_more;
    memories = memories_more;
    word_room = word_room_more;
    word_begins = word_begins_more;
    words_apart = words_apart_more;
  }

no_part : {X : Type 0} (modules : List Module) (q : ℕ) (p : Part) (m : Module) → IsPart modules [] q p m → X
no_part modules q p m is = absurd (let e = is.listed in cc)

none : (modules : List Module) (kinds children : List ℕ) → IsPlaced modules kinds children [] [] [] [] []
none modules kinds children = record {
  each = λ q p e. absurd cc;
  long = refl;
  room = λ q p m x is l. no_part modules q p m is;
  begins = λ q p m x s is at. no_part modules q p m is;
  signals = λ q r p other m k x y is there l g e. no_part modules q p m is;
  memories = λ q p m j is l. no_part modules q p m is;
  word_room = λ q p m j x is l. no_part modules q p m is;
  word_begins = λ q p m j x s is at l. no_part modules q p m is;
  words_apart = λ q r p other m k j i x y is there l g e. no_part modules q p m is;
}

pub placed_none : (modules : List Module) (kinds children : List ℕ) (parts : List Part) (numbers : List ℕ) (free : List Bool) (words starts : List ℕ)
    → parts ≡ [] → numbers ≡ [] → free ≡ [] → words ≡ [] → starts ≡ [] → IsPlaced modules kinds children parts numbers free words starts
placed_none modules kinds children [] [] [] [] [] a b c d e = none modules kinds children
placed_none modules kinds children (x ∷ xs) ns fs ws ss a b c d e = absurd cc
placed_none modules kinds children [] (x ∷ xs) fs ws ss a b c d e = absurd cc
placed_none modules kinds children [] [] (x ∷ xs) ws ss a b c d e = absurd cc
placed_none modules kinds children [] [] [] (x ∷ xs) ss a b c d e = absurd cc
placed_none modules kinds children [] [] [] [] (x ∷ xs) a b c d e = absurd cc
