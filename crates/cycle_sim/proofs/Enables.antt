-- The threads that the outermost module enables.
use Rattle.std.specs.Prelude.{◌≡◌, ℕ, zero, suc, false, List, [], ◌∷◌, ◌++◌, Some, slice_get, option_map, codes, if◌then◌else◌, refl}
use Rattle.std.specs.Str.{bytes_eq}
use Rattle.std.proofs.Common.{ap, sym, ◌∙◌, subst, arith}
use Rattle.std.proofs.lemmas.Option.{slice_get-map, same_Some, none-some}
use Rattle.std.proofs.lemmas.Slice.Eq.{bytes_eq-Decides}
use Rattle.std.proofs.lemmas.Bool.{false_from_ne_true}
use Rattle.lists.proofs.Places.{get_front}
use Rattle.netlist.specs.declared.netlist.Signal.{Signal}
use Rattle.netlist.specs.declared.netlist.Module.{Module}
use Rattle.netlist.specs.Laid.{signal_names, memory_names, instance_names, declared_names}
use Rattle.sim_layout.specs.Wires.{signals_of}
use Rattle.sim_layout.specs.Rounds.{enable_width, enables, threads_of, AreNarrowSignals}
use Rattle.cycle_sim.specs.Opened.{IsRightNet, IsTopNumber}
use Rattle.cycle_sim.specs.Right.{ThreadsOfSound}
use Rattle.cycle_sim.proofs.Right.{named_at}

pub narrow_top : (modules : List Module) (number : ℕ) → IsTopNumber modules number → IsRightNet modules → AreNarrowSignals (signals_of (slice_get modules number))
narrow_top modules number is right x s at =
    (right is.top is.is_top).narrow [] is.top x s (record { stands = refl; listed = subst (λ o. slice_get (signals_of o) x ≡ Some s) is.stands at })

pub threads_top : (modules : List Module) (number : ℕ) → IsTopNumber modules number → enable_width (signals_of (slice_get modules number)) ≡ threads_of modules
threads_top modules number is = ap (λ o. enable_width (signals_of o)) is.stands ∙ sym (ap enables is.is_top)

-- the one signal of the name `en`
pub enable_at : (signals : List Signal) (x : ℕ) (s : Signal) → slice_get signals x ≡ Some s → s.name ≡ codes "en"
    → ((y : ℕ) (t : Signal) → slice_get signals y ≡ Some t → t.name ≡ codes "en" → y ≡ x) → enable_width signals ≡ s.width
enable_at [] x s at named one = absurd (none-some s at)
enable_at (t ∷ signals) zero s at named one =
    let same : t ≡ s = same_Some t s at in
    ap (λ b. if b then t.width else enable_width signals) ((bytes_eq-Decides t.name (codes "en")).1 (ap (λ (u : Signal). u.name) same ∙ named)) ∙ ap (λ (u : Signal). u.width) same
enable_at (t ∷ signals) (suc x) s at named one =
    let other : bytes_eq t.name (codes "en") ≡ false =
    false_from_ne_true (bytes_eq t.name (codes "en")) (λ e. let z : 0 ≡ suc x = one 0 t refl ((bytes_eq-Decides t.name (codes "en")).0 e) in absurd (omega (arith, z))) in
    ap (λ b. if b then t.width else enable_width signals) other
    ∙ enable_at signals x s at named (λ y u there is. let z : suc y ≡ suc x = one (suc y) u there is in omega (arith, z))

-- ---- of a sound netlist

signal_named : (m : Module) (x : ℕ) (s : Signal) → slice_get m.signals x ≡ Some s → s.name ≡ codes "en" → slice_get (declared_names m) x ≡ Some (codes "en")
signal_named m x s at named =
    get_front (signal_names m ++ memory_names m) (instance_names m) x (codes "en")
    (get_front (signal_names m) (memory_names m) x (codes "en") (slice_get-map (λ (t : Signal). t.name) m.signals x ∙ ap (option_map (λ (t : Signal). t.name)) at ∙ ap Some named))

pub threads_of_sound : ThreadsOfSound
threads_of_sound n sound top x s is_top is =
    let there = named_at n.modules (codes "top") top is_top in
    let names = (sound.laid.modules there.0 top there.1).names in
    ap enables is_top
    ∙ enable_at top.signals x s is.listed is.named
    (λ y t at named. names y x (codes "en") (signal_named top y t at named) (signal_named top x s is.listed is.named))
