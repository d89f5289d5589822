-- The inputs that are counted as prefs are those of the arbiters.
use Rattle.std.specs.Prelude.{◌≡◌, ℕ, zero, suc, ◌^◌, ◌<◌, ◌≤◌, Bool, true, false, ◌&&◌, List, [], ◌∷◌, length, map, Some, slice_get, codes, if◌then◌else◌, refl}
use Rattle.std.proofs.Common.{sym, ap, ◌∙◌, inl, inr, arith, zero-add}
use Rattle.std.proofs.lemmas.Option.{same_Some, none-some}
use Rattle.std.proofs.lemmas.Bool.{and_parts, and_from}
use Rattle.netlist.specs.declared.netlist.Source.{Source}
use Rattle.netlist.specs.declared.netlist.Source.TheVariants.{Input, Register, Assigned, Port}
use Rattle.netlist.specs.declared.netlist.Signal.{Signal}
use Rattle.netlist.specs.declared.netlist.Module.{Module}
use Rattle.netlist.specs.Laid.{AreApart, signal_names}
use Rattle.verilog_meaning.specs.Names.{numbered}
use Rattle.verilog_meaning.specs.Ports.{HasPorts}
use Rattle.verilog_meaning.proofs.DistinctLists.{AreOnce, IsIn, same_length}
use Rattle.sim_layout.specs.Rounds.{is_input, is_pref, pref_count, prefs_in}
use Rattle.circuit.specs.Rows.{spread}
use Rattle.circuit.proofs.Growth.{length-spread}
use Rattle.top_wiring.proofs.Lists.{get_spread, spread_back}
use Rattle.top_wiring.proofs.ApartNames.{numbers_same}
use Rattle.law_net.specs.Prefs.{PrefsAreCounted}
use Rattle.law_net.proofs.CountedPrefs.{pref_is}

source_is : (source : Source) → is_input source ≡ true → source ≡ Input
source_is Input e = refl
source_is (Register n) e = absurd cc
source_is (Assigned right) e = absurd cc
source_is (Port i port) e = absurd cc

-- ---- the names of the inputs that are counted

abbrev counts : Signal → Bool
counts s = is_input s.source && is_pref s.name

abbrev names : List Signal → List (List ℕ)
names [] = []
names (s ∷ ss) = if counts s then s.name ∷ names ss else names ss

abbrev with_head : Bool → Signal → List Signal → List (List ℕ)
with_head b s ss = if b then s.name ∷ names ss else names ss

many_by : (b : Bool) (s : Signal) (ss : List Signal) → length (names ss) ≡ pref_count ss → length (with_head b s ss) ≡ (if b then suc (pref_count ss) else pref_count ss)
many_by true s ss e = ap suc e
many_by false s ss e = e

many : (ss : List Signal) → length (names ss) ≡ pref_count ss
many [] = refl
many (s ∷ ss) = many_by (counts s) s ss (many ss)

-- a name that is listed is that of a signal
record IsOf (ss : List Signal) (name : List ℕ) : Type 0 where
  at : ℕ
  signal : Signal
  listed : slice_get ss at ≡ Some signal
  passes : counts signal ≡ true
  named : signal.name ≡ name

later : (s : Signal) (ss : List Signal) (name : List ℕ) → IsOf ss name → IsOf (s ∷ ss) name
later s ss name is = record { at = suc is.at; signal = is.signal; listed = is.listed; passes = is.passes; named = is.named }

back_by : (b : Bool) (s : Signal) (ss : List Signal) → counts s ≡ b → ((a : ℕ) (name : List ℕ) → slice_get (names ss) a ≡ Some name → IsOf ss name)
    → (a : ℕ) (name : List ℕ) → slice_get (with_head b s ss) a ≡ Some name → IsOf (s ∷ ss) name
back_by true s ss q rest zero name e = record { at = 0; signal = s; listed = refl; passes = q; named = same_Some s.name name e }
back_by true s ss q rest (suc a) name e = later s ss name (rest a name e)
back_by false s ss q rest a name e = later s ss name (rest a name e)

back : (ss : List Signal) (a : ℕ) (name : List ℕ) → slice_get (names ss) a ≡ Some name → IsOf ss name
back [] a name e = absurd (none-some name e)
back (s ∷ ss) a name e = back_by (counts s) s ss refl (back ss) a name e

-- and each that counts is listed
ahead_by : (b : Bool) (s : Signal) (ss : List Signal) (name : List ℕ) → IsIn (names ss) name → IsIn (with_head b s ss) name
ahead_by true s ss name is = (suc is.0, is.1)
ahead_by false s ss name is = is

here_by : (b : Bool) (s : Signal) (ss : List Signal) (name : List ℕ) → b ≡ true → s.name ≡ name → IsIn (with_head b s ss) name
here_by true s ss name q e = (0, ap (λ z. Some z) e)
here_by false s ss name q e = absurd cc

there : (ss : List Signal) (p : ℕ) (s : Signal) → slice_get ss p ≡ Some s → counts s ≡ true → IsIn (names ss) s.name
there [] p s e q = absurd (none-some s e)
there (t ∷ ss) zero s e q = let same = same_Some t s e in here_by (counts t) t ss s.name (ap counts same ∙ q) (ap (λ (z : Signal). z.name) same)
there (t ∷ ss) (suc p) s e q = ahead_by (counts t) t ss s.name (there ss p s e q)

-- ---- names apart stand once

abbrev name_list : List Signal → List (List ℕ)
name_list ss = map (λ (s : Signal). s.name) ss

named_at : (ss : List Signal) (p : ℕ) (s : Signal) → slice_get ss p ≡ Some s → slice_get (name_list ss) p ≡ Some s.name
named_at [] p s e = absurd (none-some s e)
named_at (t ∷ ss) zero s e = ap (λ (z : Signal). Some z.name) (same_Some t s e)
named_at (t ∷ ss) (suc p) s e = named_at ss p s e

tail_apart : (s : Signal) (ss : List Signal) → AreApart (name_list (s ∷ ss)) → AreApart (name_list ss)
tail_apart s ss apart i j name e f = let q : suc i ≡ suc j = apart (suc i) (suc j) name e f in omega (arith, q)

head_other : (s : Signal) (ss : List Signal) (name : List ℕ) → AreApart (name_list (s ∷ ss)) → s.name ≡ name → IsOf ss name → ⊥
head_other s ss name apart e is =
    let same : 0 ≡ suc is.at = apart 0 (suc is.at) s.name refl (named_at ss is.at is.signal is.listed ∙ ap (λ z. Some z) (is.named ∙ sym e)) in
    omega (arith, same)

once_by : (b : Bool) (s : Signal) (ss : List Signal) → AreApart (name_list (s ∷ ss)) → AreOnce (names ss) → AreOnce (with_head b s ss)
once_by false s ss apart rest a c name e f = rest a c name e f
once_by true s ss apart rest zero zero name e f = refl
once_by true s ss apart rest zero (suc c) name e f = absurd (head_other s ss name apart (same_Some s.name name e) (back ss c name f))
once_by true s ss apart rest (suc a) zero name e f = absurd (head_other s ss name apart (same_Some s.name name f) (back ss a name e))
once_by true s ss apart rest (suc a) (suc c) name e f = ap suc (rest a c name e f)

once : (ss : List Signal) → AreApart (name_list ss) → AreOnce (names ss)
once [] apart a c name e f = absurd (none-some name e)
once (s ∷ ss) apart a c name e f = once_by (counts s) s ss apart (once ss (tail_apart s ss apart)) a c name e f

-- ---- the prefs of the arbiters

abbrev pref_name : ℕ → List ℕ
pref_name k = numbered (codes "pref") k

module _ (top : Module) (threads : ℕ) (apart : AreApart (signal_names top)) (ports : HasPorts top threads) (few : ports.arbiters ≤ 2 ^ 64) where
  abbrev K : ℕ
  K = ports.arbiters

  at : (a : ℕ) (name : List ℕ) → slice_get (spread pref_name 0 K) a ≡ Some name → (a < K) × (name ≡ pref_name a)
  at a name e = let r = spread_back pref_name 0 K a name e in (r.0, r.1 ∙ ap pref_name (zero-add a))

  prefs_once : AreOnce (spread pref_name 0 K)
  prefs_once a b name e f =
      let p = at a name e in
      let q = at b name f in
      let l = p.0 in
      let r = q.0 in
      numbers_same (codes "pref") a b (omega (arith, l, few)) (omega (arith, r, few)) (sym p.1 ∙ q.1)

  -- of the ports only the prefs have such names
  port_pref : (s : Signal) (name : List ℕ) → s.name ≡ name → is_pref name ≡ false → is_pref s.name ≡ true → ⊥
  port_pref s name e off on = let z : false ≡ true = sym off ∙ ap is_pref (sym e) ∙ on in cc

  counted_pref : (s : Signal) (x : ℕ) → slice_get top.signals x ≡ Some s → counts s ≡ true → IsIn (spread pref_name 0 K) s.name
  counted_pref s x e q =
      let parts = and_parts (is_input s.source) (is_pref s.name) q in
      elim (ports.only x s e (inl (source_is s.source parts.0))) [
        | inl clock ↦ absurd (port_pref s (codes "clk") clock refl parts.1)
        | inr more ↦ elim more [
          | inl enable ↦ absurd (port_pref s (codes "en") enable refl parts.1)
          | inr last ↦ elim last [
            | inl done ↦ absurd (port_pref s (codes "done") done refl parts.1)
            | inr pref ↦ (pref.0, get_spread pref_name K pref.0 pref.1 ∙ ap (λ z. Some z) (sym pref.2))
          ]
        ]
      ]

  pref_counted : (k : ℕ) → k < K → IsIn (names top.signals) (pref_name k)
  pref_counted k l =
      let p = ports.prefs k l in
      let passes : counts p.signal ≡ true =
      and_from (is_input p.signal.source) (is_pref p.signal.name) (ap is_input p.input) (ap is_pref p.is.named ∙ pref_is k (omega (arith, l, few))) in
      let is = there top.signals p.place p.signal p.is.listed passes in
      (is.0, is.1 ∙ ap (λ z. Some z) p.is.named)

  pub counted : pref_count top.signals ≡ K
  counted =
      sym (many top.signals)
      ∙ same_length (names top.signals) (spread pref_name 0 K) (once top.signals apart) prefs_once
      (λ a name e.
      let of = back top.signals a name e in
      let is = counted_pref of.signal of.at of.listed of.passes in
      (is.0, is.1 ∙ ap (λ z. Some z) of.named))
      (λ a name e.
      let p = at a name e in
      let is = pref_counted a p.0 in
      (is.0, is.1 ∙ ap (λ z. Some z) (sym p.1)))
      ∙ length-spread pref_name 0 K

pub prefs_are_counted : PrefsAreCounted
prefs_are_counted modules top threads is_top apart ports few = ap prefs_in is_top ∙ counted top threads apart ports few
