-- One step of a loop over threads, cores, groups or wires; and numbers that leave room.
use Rattle.std.proofs.Common.{◌≡◌, ℕ, zero, suc, ◌+◌, ◌*◌, ◌^◌, ◌<◌, ◌≤◌, Bool, true, false, nat_eq, if◌then◌else◌, List, [], ◌∷◌, ◌++◌}
use Rattle.std.proofs.Common.{length, get_or, take, map, replicate, refl, sym, ap, ◌∙◌, subst, arith, length-append, lit<, lit≤}
use Rattle.std.specs.Prelude.{slice_get, slice_index, codes}
use Rattle.std.specs.List.{flat_map}
use Rattle.std.proofs.Math.Nat.{suc-mul, mul-suc, mul-add, mul-le-mul_left, mul-le-mul_right}
use Rattle.std.proofs.lemmas.List.{length-replicate}
use Rattle.netlist.specs.declared.netlist.Signal.{Signal}
use Rattle.netlist.specs.declared.netlist.Module.{Module}
use Rattle.circuit.specs.Rows.{spread}
use Rattle.circuit.proofs.Growth.{length-spread}
use Rattle.top_parts.specs.declared.layout.Core.{Core}
use Rattle.top_parts.specs.declared.layout.Group.{Group}
use Rattle.top_parts.specs.declared.layout.Layout.{Layout}
use Rattle.top_parts.specs.declared.parts.Part.{Part}
use Rattle.top_parts.specs.declared.wires.Wire.{Wire}
use Rattle.top_parts.specs.declared.wires.Wire.TheVariants.{Whole, Bit}
use Rattle.top_parts.specs.Parts.{each_from, flat_from, flat_spread, group_widths, ask_widths, told_widths, thread_part, core_part, arbiter_part, output_count, parts}
use Rattle.top_parts.specs.Wires.{ports, enables, blocks, wire_signal}
use Rattle.top_wiring.specs.Top.{input, preference, output, top_signals, run, group_places, all_wires, starts, IsSmall}
use Rattle.top_parts.proofs.GrownLists.{each_behind, flat_from_onto, flat_next, length-ports, starts_low, counts_low}

pub asks_grow : (starts : List ℕ) (threads cores asked : ℕ) (groups : List Group) (a b c : List ℕ) (i : ℕ) (x : Group) (n : ℕ)
    → b ≡ a ++ flat_from (group_places starts threads cores asked groups) 0 (take i groups)
    → c ≡ b ++ flat_spread (λ j. run (slice_index starts j + n) x.count) 0 threads → n ≡ asked + length (group_widths (take i groups))
    → x ≡ get_or groups i x → i < length groups → c ≡ a ++ flat_from (group_places starts threads cores asked groups) 0 (take (i + 1) groups)
asks_grow starts threads cores asked groups a b c i x n e h same is lt =
    flat_from_onto (group_places starts threads cores asked groups) a b c groups i x e
    (h ∙ ap (λ z. b ++ flat_spread (λ j. run (slice_index starts j + z) x.count) 0 threads) same) is lt

pub wires_named : (a b c : List Signal) (wires : List Wire) (i : ℕ) (x : Wire) (s : Signal) (n : ℕ) → b ≡ a ++ each_from wire_signal (length a) (take i wires)
    → c ≡ b ++ s ∷ [] → s ≡ wire_signal n x → n ≡ length b → x ≡ get_or wires i x → i < length wires → c ≡ a ++ each_from wire_signal (length a) (take (i + 1) wires)
wires_named a b c wires i x s n e h q m is lt =
    each_behind wire_signal a b c wires i x e (h ∙ ap (λ z. b ++ z ∷ []) (q ∙ ap (λ k. wire_signal k x) m)) is lt

pub top_is : (n k : ℕ) (wires : List Wire) (done : ℕ) (a b c d : List Signal) (s : Signal) → a ≡ input (codes "clk") 1 ∷ input (codes "en") n ∷ [] → b ≡ a ++ spread preference 0 k
    → c ≡ b ++ each_from wire_signal (length b) wires → s ≡ output done → d ≡ c ++ s ∷ [] → d ≡ top_signals n k wires done
top_is n k wires done a b c d s ea eb ec es ed =
    let heads = input (codes "clk") 1 ∷ input (codes "en") n ∷ [] in
    let eb' : b ≡ heads ++ spread preference 0 k = eb ∙ ap (λ l. l ++ spread preference 0 k) ea in
    let m = length-append heads (spread preference 0 k) in
    let o = length-spread preference 0 k in
    let p = ap length eb' in
    let many : length b ≡ 2 + k = omega arith in
    ed ∙ ap (λ z. c ++ z ∷ []) es
    ∙ ap (λ l. l ++ output done ∷ []) (ec ∙ ap (λ l. l ++ each_from wire_signal (length b) wires) eb' ∙ ap (λ z. heads ++ spread preference 0 k ++ each_from wire_signal z wires) many)

-- ---- room

pub flat_fewer : {A B : Type 0} (f : A → List B) (xs : List A) (i : ℕ) → length (flat_map f (take i xs)) ≤ length (flat_map f xs)
flat_fewer f [] zero = omega arith
flat_fewer f [] (suc i) = omega arith
flat_fewer f (x ∷ xs) zero = omega arith
flat_fewer f (x ∷ xs) (suc i) =
    let l = flat_fewer f xs i in
    let a = length-append (f x) (flat_map f (take i xs)) in
    let b = length-append (f x) (flat_map f xs) in
    omega arith

pub flat_room : {A B : Type 0} (f : A → List B) (xs : List A) (i : ℕ) (x : A) → x ≡ get_or xs i x → i < length xs → length (flat_map f (take i xs)) + length (f x) ≤ length (flat_map f xs)
flat_room f xs i x is lt =
    let a = ap length (flat_next f xs i x is lt) in
    let b = length-append (flat_map f (take i xs)) (f x) in
    let c = flat_fewer f xs (i + 1) in
    omega arith

-- how many wires instances drive
abbrev total : List Part → ℕ
total [] = 0
total (p ∷ ps) = length p.outputs + total ps

length-blocks : (modules : List Module) (i : ℕ) (ps : List Part) → length (flat_from (ports modules) i ps) ≡ total ps
length-blocks modules i [] = refl
length-blocks modules i (p ∷ ps) =
    let a = length-append (ports modules i p) (flat_from (ports modules) (i + 1) ps) in
    let b = length-ports modules i p in
    let c = length-blocks modules (i + 1) ps in
    omega arith

total-append : (xs ys : List Part) → total (xs ++ ys) ≡ total xs + total ys
total-append [] ys = omega arith
total-append (p ∷ xs) ys = let a = total-append xs ys in omega arith

threads_total : (asks : List ℕ) (ts : List ℕ) → total (map (thread_part asks) ts) ≤ length ts * (length asks + 2)
threads_total asks [] = omega arith
threads_total asks (t ∷ ts) =
    let a = length-append {A = ℕ} asks (replicate 2 1) in
    let d : length (replicate {A = ℕ} 2 1) ≡ 2 = length-replicate {A = ℕ} 2 1 in
    let b = threads_total asks ts in
    let c = suc-mul (length ts) (length asks + 2) in
    omega arith

copies_total : (n : ℕ) (ws : List ℕ) → length (flat_map (λ (w : ℕ). replicate n w) ws) ≡ n * length ws
copies_total n [] = omega arith
copies_total n (w ∷ ws) =
    let a = length-append (replicate n w) (flat_map (λ (w : ℕ). replicate n w) ws) in
    let b = length-replicate n w in
    let c = copies_total n ws in
    let d = mul-suc n (length ws) in
    omega arith

cores_total : (n : ℕ) (cs : List Core) → total (map (core_part n) cs) ≡ n * (length cs + length (told_widths cs))
cores_total n [] = omega arith
cores_total n (c ∷ cs) =
    let a = length-append {A = ℕ} (replicate n 1) (flat_map (λ (w : ℕ). replicate n w) c.told) in
    let b : length (replicate {A = ℕ} n 1) ≡ n = length-replicate {A = ℕ} n 1 in
    let d = copies_total n c.told in
    let e = cores_total n cs in
    let f = length-append c.told (told_widths cs) in
    let g : length (c ∷ cs) + length (told_widths (c ∷ cs)) ≡ suc (length c.told + (length cs + length (told_widths cs))) = omega arith in
    let h = mul-suc n (length c.told + (length cs + length (told_widths cs))) in
    let k = mul-add n (length c.told) (length cs + length (told_widths cs)) in
    let z : n * (length (c ∷ cs) + length (told_widths (c ∷ cs))) ≡ n * suc (length c.told + (length cs + length (told_widths cs))) = ap (λ x. n * x) g in
    omega arith

arbiters_total : (n a i k : ℕ) → total (spread (arbiter_part n a) i k) ≡ k * n
arbiters_total n a i zero = omega arith
arbiters_total n a i (suc k) =
    let b : length (replicate {A = ℕ} n 1) ≡ n = length-replicate {A = ℕ} n 1 in
    let c = arbiters_total n a (i + 1) k in
    let d = suc-mul k n in
    omega arith

parts_total : (layout : Layout) → total (parts layout) ≤ length layout.threads * (length (ask_widths layout.cores) + 2)
    + length layout.threads * (length layout.cores + length (told_widths layout.cores)) + length layout.cores * length layout.threads
parts_total layout =
    let n = length layout.threads in
    let asks = ask_widths layout.cores in
    let x = map (thread_part asks) layout.threads in
    let y = map (core_part n) layout.cores in
    let z = spread (arbiter_part n layout.arbiter) 0 (length layout.cores) in
    let a = total-append (x ++ y) z in
    let b = total-append x y in
    let c = threads_total asks layout.threads in
    let d = cores_total n layout.cores in
    let e = arbiters_total n layout.arbiter 0 (length layout.cores) in
    omega arith

enables_few : (n : ℕ) (b : Bool) → 1 ≤ n → length (if b then Whole ∷ [] else spread Bit 0 n) ≤ n
enables_few n true l = l
enables_few n false l = let a = length-spread Bit 0 n in omega arith

pub wires_low : (modules : List Module) (layout : Layout) → IsSmall layout → length (all_wires modules layout) < 2 ^ 32
wires_low modules layout small =
    let n = length layout.threads in
    let p = length (ask_widths layout.cores) + 2 in
    let q = length layout.cores + length (told_widths layout.cores) in
    let k = length layout.cores in
    let a = enables_few n (nat_eq n 1) small.some in
    let b = length-append (enables n) (blocks modules (parts layout)) in
    let c = length-blocks modules 0 (parts layout) in
    let d = parts_total layout in
    let e : n * p ≤ 64 * p = mul-le-mul_right p small.few_threads in
    let f : n * q ≤ 64 * q = mul-le-mul_right q small.few_threads in
    let g : k * n ≤ k * 64 = mul-le-mul_left k small.few_threads in
    let h = small.few_threads in
    let i = small.few_cores in
    let j = small.few_asks in
    let l = small.few_news in
    omega arith

pub places_low : (modules : List Module) (layout : Layout) → IsSmall layout → (j : ℕ) → slice_index (starts modules layout) j < 2 ^ 33
places_low modules layout small j =
    let n = length layout.threads in
    let at = 2 + length layout.cores + length (enables n) in
    let a = starts_low at (parts layout) modules 0 j in
    let b = length-append (enables n) (blocks modules (parts layout)) in
    let c = wires_low modules layout small in
    let d = small.few_cores in
    omega arith

pub counts_few : (layout : Layout) → IsSmall layout → (j : ℕ) → output_count (slice_get (parts layout) j) < 2 ^ 32
counts_few layout small j =
    let n = length layout.threads in
    let a = counts_low (parts layout) [] 0 j in
    let b = length-append (enables n) (blocks [] (parts layout)) in
    let c = wires_low [] layout small in
    omega arith

-- ---- a net of one thread and no core

one_small : (a : ℕ) → IsSmall (record { threads = 0 ∷ []; cores = []; arbiter = a })
one_small a = record {
  some = lit≤ tt;
  few_threads = lit≤ tt;
  few_cores = lit< tt;
  few_told = tt;
  few_groups = tt;
  few_asks = lit< tt;
  few_news = lit< tt;
}

pub small_one : (threads : List ℕ) (cores : List Core) (a : ℕ) → threads ≡ 0 ∷ [] → cores ≡ [] → IsSmall (record { threads = threads; cores = cores; arbiter = a })
small_one threads cores a f g =
    subst (λ (t : List ℕ). IsSmall (record { threads = t; cores = cores; arbiter = a })) (sym f)
    (subst (λ (k : List Core). IsSmall (record { threads = 0 ∷ []; cores = k; arbiter = a })) (sym g) (one_small a))
