-- What another simulator of the net holds fits, and a simulator with other words is one of the same net.
use Rattle.std.specs.Prelude.{◌≡◌, ℕ, zero, suc, ◌+◌, ◌^◌, ◌<◌, List, [], ◌∷◌, length, drop, Some, slice_index, slice_set, refl}
use Rattle.std.proofs.Common.{ap, sym, ◌∙◌, subst, arith}
use Rattle.std.proofs.lemmas.Option.{same_Some}
use Rattle.netlist.specs.declared.netlist.Signal.{Signal}
use Rattle.netlist.specs.declared.netlist.Memory.{Memory}
use Rattle.netlist.specs.declared.netlist.Module.{Module}
use Rattle.verilog_meaning.specs.Names.{top_of}
use Rattle.verilog_meaning.specs.Cycles.{Path, IsAt, HasMemory}
use Rattle.sim_values.specs.declared.edge.Part.{Part}
use Rattle.sim_values.specs.Stands.{word_of, spot_at}
use Rattle.sim_layout.specs.Running.{Running, Stands, IsSameNet}
use Rattle.cycle_sim.specs.Putting.{FitsAt, with_number, FitsWordAt, with_word, place_of_word}
use Rattle.slot_sim.specs.Taking.{taken, with_state}

pub put_same_net : (r o : Running) (numbers words : List ℕ) → IsSameNet r o → IsSameNet (with_state r numbers words) o
put_same_net r o numbers words net =
    record { modules = net.modules; parts = net.parts; steps = net.steps; starts = net.starts; prefs = net.prefs; done = net.done }

module _ (r o : Running) (net : IsSameNet r o) (st : Stands o) (top : Module) (e : top_of r.modules ≡ Some top) where
  top_is : st.top ≡ top
  top_is = same_Some st.top top (sym st.is_top ∙ ap top_of net.modules ∙ e)

  at_there : (path : Path) (m : Module) (x : ℕ) (s : Signal) → IsAt r.modules top path m x s → IsAt o.modules st.top path m x s
  at_there path m x s at = subst (λ (t : Module). IsAt o.modules t path m x s) (sym top_is) (subst (λ (ms : List Module). IsAt ms top path m x s) (sym net.modules) at)

  memory_there : (path : Path) (m : Module) (j : ℕ) (s : Memory) → HasMemory r.modules top path m j s → HasMemory o.modules st.top path m j s
  memory_there path m j s at = subst (λ (t : Module). HasMemory o.modules t path m j s) (sym top_is) (subst (λ (ms : List Module). HasMemory ms top path m j s) (sym net.modules) at)

pub number_fits : (r o : Running) (place : ℕ) → IsSameNet r o → Stands o → FitsAt r place (slice_index o.numbers place)
number_fits r o place net st top e path m x s at i is =
    let there : word_of o.parts path x ≡ place = ap (λ (ps : List Part). word_of ps path x) net.parts ∙ is in
    subst (λ (p : ℕ). slice_index o.numbers p < 2 ^ s.width) there (st.state.registers path m x s (at_there r o net st top e path m x s at) i)

pub word_fits : (r o : Running) (place : ℕ) → IsSameNet r o → Stands o → FitsWordAt r place (slice_index o.words place)
word_fits r o place net st top e path m j k s at l is =
    let parts_are : place_of_word o path j k ≡ slice_index r.starts ((spot_at o.parts path).memories + j) + k = ap (λ (ss : List ℕ). slice_index ss
    ((spot_at o.parts path).memories + j) + k) net.starts in
    let there : place_of_word o path j k ≡ place = parts_are ∙ ap (λ (ps : List Part). slice_index r.starts ((spot_at ps path).memories + j) + k) net.parts ∙ is in
    subst (λ (p : ℕ). slice_index o.words p < 2 ^ s.width) there (st.state.words path m j k s (memory_there r o net st top e path m j s at) l)

-- ---- one word more

taken_more : {X : Type 0} (xs ys : List ℕ) (p k : ℕ) (ws : List X) → k < length ws
    → taken xs ys p (drop k ws) ≡ taken xs (slice_set ys p (slice_index xs p)) (p + 1) (drop (k + 1) ws)
taken_more xs ys p k [] l = absurd (omega arith)
taken_more xs ys p zero (w ∷ ws) l = refl
taken_more xs ys p (suc k) (w ∷ ws) l =
    let e : suc (k + 1) ≡ suc k + 1 = omega arith in
    taken_more xs ys p k ws (omega arith) ∙ ap (λ i. taken xs (slice_set ys p (slice_index xs p)) (p + 1) (drop i (w ∷ ws))) e

taken_on : {X : Type 0} (xs ys : List ℕ) (p k word : ℕ) (ws : List X) → k < length ws → word ≡ slice_index xs (p + k)
    → taken xs ys (p + k) (drop k ws) ≡ taken xs (slice_set ys (p + k) word) (p + (k + 1)) (drop (k + 1) ws)
taken_on xs ys p k word ws l is =
    let next : (p + k) + 1 ≡ p + (k + 1) = omega arith in
    taken_more xs ys (p + k) k ws l
    ∙ ap (λ v. taken xs (slice_set ys (p + k) v) ((p + k) + 1) (drop (k + 1) ws)) (sym is)
    ∙ ap (λ q. taken xs (slice_set ys (p + k) word) q (drop (k + 1) ws)) next

pub number_on : (first r n o : Running) (base k : ℕ) (signals : List Signal) (word : ℕ) → k < length signals
    → IsSameNet r o × (with_state first (taken o.numbers first.numbers base signals) first.words ≡ with_state r (taken o.numbers r.numbers (base + k) (drop k signals)) r.words)
    → word ≡ slice_index o.numbers (base + k) → n ≡ with_number r (base + k) word
    → IsSameNet n o × (with_state first (taken o.numbers first.numbers base signals) first.words ≡ with_state n (taken o.numbers n.numbers (base + (k + 1)) (drop (k + 1) signals)) n.words)
number_on first r n o base k signals word l led is e =
    subst (λ (m : Running). IsSameNet m o × (with_state first (taken o.numbers first.numbers base signals) first.words
    ≡ with_state m (taken o.numbers m.numbers (base + (k + 1)) (drop (k + 1) signals)) m.words)) (sym e)
    (put_same_net r o (slice_set r.numbers (base + k) word) r.words led.0, led.1 ∙ ap (λ ns. with_state r ns r.words) (taken_on o.numbers r.numbers base k word signals l is))

pub word_on : (first r n o : Running) (front memory k : ℕ) (stored : List ℕ) (word : ℕ) → k < length stored
    → IsSameNet r o × (with_state first first.numbers (taken o.words first.words (slice_index o.starts (front + memory)) stored)
    ≡ with_state r r.numbers (taken o.words r.words (slice_index o.starts (front + memory) + k) (drop k stored)))
    → word ≡ slice_index o.words (slice_index o.starts (front + memory) + k) → n ≡ with_word r (slice_index r.starts (front + memory) + k) word
    → IsSameNet n o × (with_state first first.numbers (taken o.words first.words (slice_index o.starts (front + memory)) stored)
    ≡ with_state n n.numbers (taken o.words n.words (slice_index o.starts (front + memory) + (k + 1)) (drop (k + 1) stored)))
word_on first r n o front memory k stored word l led is e =
    let p = slice_index o.starts (front + memory) in
    let there : n ≡ with_word r (p + k) word = e ∙ ap (λ (ss : List ℕ). with_word r (slice_index ss (front + memory) + k) word) (sym (led.0).starts) in
    subst (λ (m : Running). IsSameNet m o × (with_state first first.numbers (taken o.words first.words (slice_index o.starts (front + memory)) stored)
    ≡ with_state m m.numbers (taken o.words m.words (slice_index o.starts (front + memory) + (k + 1)) (drop (k + 1) stored)))) (sym there)
    (put_same_net r o r.numbers (slice_set r.words (p + k) word) led.0, led.1 ∙ ap (λ ws. with_state r r.numbers ws) (taken_on o.words r.words p k word stored l is))
