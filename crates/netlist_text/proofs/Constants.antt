-- The initial constants of a module are found again.
use Rattle.std.proofs.Common.{◌≡◌, ℕ, zero, suc, ◌+◌, List, [], ◌∷◌, ◌++◌, true, false, Some, None, refl, sym, ap, ◌∙◌, subst, length, map, add-zero, zero-add, arith}
use Rattle.std.specs.Prelude.{slice_get, nat_eq, ◌&&◌, if◌then◌else◌}
use Rattle.std.specs.List.{flat_map}
use Rattle.std.specs.Str.{bytes_eq}
use Rattle.std.proofs.lemmas.Bool.{eq-eqb}
use Rattle.std.proofs.lemmas.Bool.Decides.{nat_tests}
use Rattle.std.proofs.lemmas.Option.{same_Some, none-some}
use Rattle.lists.proofs.Places.{get_mapped}
use mathlib.Core.Bool.{and-false}
use Rattle.std.proofs.lemmas.Slice.Eq.{bytes_eq-Decides}
use Rattle.verilog_tree.specs.declared.tree.InitialConstant.{InitialConstant}
use Rattle.netlist.specs.declared.netlist.Source.{Source}
use Rattle.netlist.specs.declared.netlist.Source.TheVariants as source
use Rattle.netlist.specs.declared.netlist.Signal.{Signal}
use Rattle.netlist.specs.declared.netlist.Memory.{Memory}
use Rattle.netlist.specs.declared.netlist.Module.{Module}
use Rattle.netlist.specs.NetlistOf.{Name, initial_of, words_of}
use Rattle.netlist.specs.Laid.{AreApart, signal_names, memory_names}
use Rattle.netlist_text.specs.LaidOut as laid
use Rattle.netlist_text.proofs.Places.{head_other, apart_rest}

-- ---- registers

register_here : (x : Signal) (c : ℕ) (from : Source) (l rest : List InitialConstant) → from ≡ source.Register c → initial_of ((laid.register_by x from ++ l) ++ rest) x.name None ≡ c
register_here x c source.Input l rest e = cc
register_here x c (source.Register d) l rest e =
    let same : d ≡ c = cc in ap (λ b. if b && true then d else initial_of (l ++ rest) x.name None) ((bytes_eq-Decides x.name x.name).1 refl) ∙ same
register_here x c (source.Assigned right) l rest e = cc
register_here x c (source.Port j port) l rest e = cc

register_other : (t : Signal) (x : Name) (from : Source) (l rest : List InitialConstant) → bytes_eq x t.name ≡ false
    → initial_of ((laid.register_by t from ++ l) ++ rest) x None ≡ initial_of (l ++ rest) x None
register_other t x source.Input l rest h = refl
register_other t x (source.Register d) l rest h = ap (λ b. if b && true then d else initial_of (l ++ rest) x None) h
register_other t x (source.Assigned right) l rest h = refl
register_other t x (source.Port j port) l rest h = refl

register_found : (ss : List Signal) (rest : List InitialConstant) (k : ℕ) (s : Signal) (c : ℕ) → AreApart (map (λ (x : Signal). x.name) ss) → slice_get ss k ≡ Some s
    → s.source ≡ source.Register c → initial_of (flat_map laid.register_constant ss ++ rest) s.name None ≡ c
register_found [] rest k s c apart h is = absurd (none-some s h)
register_found (t ∷ ss) rest zero s c apart h is =
    let P : Signal → Type 0 = λ u. u.source ≡ source.Register c → initial_of (flat_map laid.register_constant (t ∷ ss) ++ rest) u.name None ≡ c in
    subst P (same_Some t s h) (λ e. register_here t c t.source (flat_map laid.register_constant ss) rest e) is
register_found (t ∷ ss) rest (suc k) s c apart h is =
    let names = map (λ (x : Signal). x.name) ss in
    register_other t s.name t.source (flat_map laid.register_constant ss) rest (head_other t.name names k s.name apart (get_mapped (λ (x : Signal). x.name) ss k s h))
    ∙ register_found ss rest k s c (apart_rest t.name names apart) h is

-- ---- words of memories

word_not_register : (t : Signal) (x : Name) (k : ℕ) (from : Source) (l rest : List InitialConstant)
    → initial_of ((laid.register_by t from ++ l) ++ rest) x (Some k) ≡ initial_of (l ++ rest) x (Some k)
word_not_register t x k source.Input l rest = refl
word_not_register t x k (source.Register d) l rest = ap (λ b. if b then d else initial_of (l ++ rest) x (Some k)) (and-false (bytes_eq x t.name))
word_not_register t x k (source.Assigned right) l rest = refl
word_not_register t x k (source.Port j port) l rest = refl

word_no_register : (ss : List Signal) (rest : List InitialConstant) (x : Name) (k : ℕ) → initial_of (flat_map laid.register_constant ss ++ rest) x (Some k) ≡ initial_of rest x (Some k)
word_no_register [] rest x k = refl
word_no_register (t ∷ ss) rest x k = word_not_register t x k t.source (flat_map laid.register_constant ss) rest ∙ word_no_register ss rest x k

word_other : (t : Memory) (x : Name) (i : ℕ) (k : ℕ) (vs : List ℕ) (rest : List InitialConstant) → bytes_eq x t.name ≡ false
    → initial_of (laid.with_places (laid.word_constant t) k vs ++ rest) x (Some i) ≡ initial_of rest x (Some i)
word_other t x i k [] rest h = refl
word_other t x i k (v ∷ vs) rest h =
    ap (λ b. if b && nat_eq i k then v else initial_of (laid.with_places (laid.word_constant t) (k + 1) vs ++ rest) x (Some i)) h ∙ word_other t x i (k + 1) vs rest h

word_here : (t : Memory) (k : ℕ) (vs : List ℕ) (rest : List InitialConstant) (i v : ℕ) → slice_get vs i ≡ Some v
    → initial_of (laid.with_places (laid.word_constant t) k vs ++ rest) t.name (Some (k + i)) ≡ v
word_here t k [] rest i v h = absurd (none-some v h)
word_here t k (u ∷ vs) rest zero v h =
    let after = initial_of (laid.with_places (laid.word_constant t) (k + 1) vs ++ rest) t.name (Some (k + 0)) in
    ap (λ b. if b && nat_eq (k + 0) k then u else after) ((bytes_eq-Decides t.name t.name).1 refl) ∙ ap (λ b. if b then u else after) (eq-eqb (k + 0) k (add-zero k)) ∙ same_Some u v h
word_here t k (u ∷ vs) rest (suc i) v h =
    let after = initial_of (laid.with_places (laid.word_constant t) (k + 1) vs ++ rest) t.name (Some (k + suc i)) in
    let apart : nat_eq (k + suc i) k ≡ false = grind (arith, nat_tests) in
    let e : k + suc i ≡ k + 1 + i = omega arith in
    ap (λ b. if bytes_eq t.name t.name && b then u else after) apart ∙ ap (λ b. if b then u else after) (and-false (bytes_eq t.name t.name))
    ∙ ap (λ j. initial_of (laid.with_places (laid.word_constant t) (k + 1) vs ++ rest) t.name (Some j)) e ∙ word_here t (k + 1) vs rest i v h

word_found : (cs : List Memory) (j : ℕ) (c : Memory) → AreApart (map (λ (x : Memory). x.name) cs) → slice_get cs j ≡ Some c → (i v : ℕ) → slice_get c.initial i ≡ Some v
    → initial_of (flat_map laid.memory_constants cs) c.name (Some i) ≡ v
word_found [] j c apart h i v is = absurd (none-some c h)
word_found (t ∷ cs) zero c apart h i v is =
    let P : Memory → Type 0 = λ u. slice_get u.initial i ≡ Some v → initial_of (flat_map laid.memory_constants (t ∷ cs)) u.name (Some i) ≡ v in
    subst P (same_Some t c h) (λ e.
    ap (λ k. initial_of (flat_map laid.memory_constants (t ∷ cs)) t.name (Some k)) (sym (zero-add i)) ∙ word_here t 0 t.initial (flat_map laid.memory_constants cs) i v e) is
word_found (t ∷ cs) (suc j) c apart h i v is =
    let names = map (λ (x : Memory). x.name) cs in
    word_other t c.name i 0 t.initial (flat_map laid.memory_constants cs) (head_other t.name names j c.name apart (get_mapped (λ (x : Memory). x.name) cs j c h))
    ∙ word_found cs j c (apart_rest t.name names apart) h i v is

words_back : (cs : List InitialConstant) (x : Name) (k : ℕ) (vs : List ℕ) → ((i v : ℕ) → slice_get vs i ≡ Some v → initial_of cs x (Some (k + i)) ≡ v) → words_of cs x k (length vs) ≡ vs
words_back cs x k [] h = refl
words_back cs x k (v ∷ vs) h =
    let first : initial_of cs x (Some k) ≡ v = ap (λ j. initial_of cs x (Some j)) (sym (add-zero k)) ∙ h 0 v refl in
    ap (λ u. u ∷ words_of cs x (k + 1) (length vs)) first
    ∙ ap (λ l. v ∷ l) (words_back cs x (k + 1) vs (λ i u q. let e : k + 1 + i ≡ k + suc i = omega arith in ap (λ j. initial_of cs x (Some j)) e ∙ h (suc i) u q))

-- ---- of a whole module

pub register_back : (m : Module) (k : ℕ) (s : Signal) (c : ℕ) → AreApart (signal_names m) → slice_get m.signals k ≡ Some s → s.source ≡ source.Register c
    → initial_of (laid.constants m) s.name None ≡ c
register_back m k s c apart h is = register_found m.signals (flat_map laid.memory_constants m.memories) k s c apart h is

pub memory_words_back : (m : Module) (j : ℕ) (c : Memory) → AreApart (memory_names m) → slice_get m.memories j ≡ Some c → words_of (laid.constants m) c.name 0 (length c.initial) ≡ c.initial
memory_words_back m j c apart h = words_back (laid.constants m) c.name 0 c.initial (λ i v q.
    ap (λ k. initial_of (laid.constants m) c.name (Some k)) (zero-add i) ∙ word_no_register m.signals (flat_map laid.memory_constants m.memories) c.name i
    ∙ word_found m.memories j c apart h i v q)
