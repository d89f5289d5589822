-- What one cycle grants, in a net of threads that keep to themselves.
use Rattle.std.proofs.Common.{◌≡◌, ◌⊎◌, ℕ, ◌^◌, ◌<◌, Bool, true, false, nat_eq, List, [], ◌∷◌, Option, Some, None, codes, refl, sym, ap, ◌∙◌, subst, inl, inr, ⊎_elim, arith}
use Rattle.std.proofs.lemmas.Bool.Decides.{nat_tests}
use Rattle.std.proofs.lemmas.Option.{same_Some}
use Rattle.hls_ints.specs.Residues as bits
use Rattle.netlist.specs.declared.netlist.Source.TheVariants.{Port}
use Rattle.netlist.specs.declared.netlist.Instance.{Instance}
use Rattle.netlist.specs.declared.netlist.Module.{Module}
use Rattle.verilog_meaning.specs.Readings.{written, action_bytes, next_reading}
use Rattle.verilog_meaning.specs.Names.{numbered, IsInstance}
use Rattle.verilog_meaning.specs.Cycles.{Path, Valuation, Choice, module_at, IsSettled, IsSameIn, Cycle, written_at}
use Rattle.verilog_meaning.specs.Threads.{instance_named, slot, Needs}
use Rattle.circuit.specs.Modules.{Agree}
use Rattle.circuit.specs.Arbitration.{is_granted}
use Rattle.circuit.specs.Machines.{CoreMachine, ThreadMachine}
use Rattle.circuit.specs.Wiring.{IsFed, NetPlaces, IsInstanceOf}
use Rattle.law_net.specs.Steady.{HoldsNothing, IsSteady}
use Rattle.law_net.proofs.FedModules.{grant_is}
use Rattle.law_net.proofs.Same.{nothing_agrees, same_at, same_in}
use Rattle.law_net.proofs.GrantedThread.{core_state, core_shows, granted, Wins, wins, low_bit, core_rests, core_silent}
use Rattle.law_net.proofs.RestingCycle.{instance_is, one_module, stays_by}
use Rattle.law_net.proofs.Fields.{own_obeys, need_low, slot_rests}
use Rattle.law_net.specs.Grants.{thread_at, IsOutside, IsDrivenBy, HasCores, Grants, GrantsOne, IsServed, AreRightGrants}

-- a bit that says who is granted
granted_by : (o : Option ℕ) (i : ℕ) → bits.bit_of (is_granted o i) ≡ 1 → o ≡ Some i
granted_by None i e = absurd (omega (arith, e))
granted_by (Some w) i e = ap Some (same (nat_eq w i) refl e)
  where
    same : (b : Bool) → nat_eq w i ≡ b → bits.bit_of b ≡ 1 → w ≡ i
    same true d f = grind (arith, nat_tests, d)
    same false d f = absurd (omega (arith, f))

granted_itself : (w : ℕ) → bits.bit_of (is_granted (Some w) w) ≡ 1
granted_itself w = let t : nat_eq w w ≡ true = grind (arith, nat_tests) in ap bits.bit_of t

module _ (threads cores : ℕ) (T : ℕ → ThreadMachine) (C : ℕ → CoreMachine) (p : NetPlaces threads cores T C) (modules : List Module) (top : Module)
    (steady : IsSteady threads cores T C p modules top) where
  -- ---- the wiring

  pub thread_place : (i : ℕ) → i < threads → thread_at modules top threads i ≡ p.thread_at i
  thread_place i b = let s : (instance_named top.instances (numbered (codes "t") i) ∷ []) ≡ (p.thread_at i ∷ []) = steady.slots i b in cc

  pub driven : (j x a y : ℕ) → IsFed threads cores T C top j x (Port a y) → IsDrivenBy modules top threads j x a y
  driven j x a y f = record {
    instance = f.instance;
    listed = f.listed;
    wire = f.place;
    connects = f.connects;
    signal = f.signal;
    stands = f.stands;
    drives = f.drives;
  }

  pub each_kind : (j : ℕ) → IsInstanceOf threads cores T C p modules top j →
      ((i : ℕ) × (i < threads) × (j ≡ thread_at modules top threads i)) ⊎ (((k : ℕ) × (k < cores) × (j ≡ p.core_at k)) ⊎ ((k : ℕ) × (k < cores) × (j ≡ p.arbiter_at k)))
  each_kind j (inl (i, b, e)) = inl (i, b, e ∙ sym (thread_place i b))
  each_kind j (inr other) = inr other

  -- where each thread has ports for each core, and arbiters have their names
  module _ (uses : (i k : ℕ) → i < threads → k < cores → (p.thread i).uses k ≡ true)
      (named : (k : ℕ) → k < cores → (n : Instance) × IsInstance top (numbered (codes "arbiter") k) (p.arbiter_at k) n) where
    abbrev pub has_cores : HasCores modules top threads
    has_cores = record {
      cores = cores;
      core_at = p.core_at;
      arbiter_at = p.arbiter_at;
      grant = λ k i. (p.arbiter k).grant i;
      arbiters = named;
      cores_read = λ k i l b. ((p.core k).grant i, driven (p.core_at k) ((p.core k).grant i) (p.arbiter_at k) ((p.arbiter k).grant i) (steady.net.granting k i l b));
      threads_read = λ k i l b. (
        (p.thread i).grant k,
        subst (λ j. IsDrivenBy modules top threads j ((p.thread i).grant k) (p.arbiter_at k) ((p.arbiter k).grant i)) (sym (thread_place i b))
            (driven (p.thread_at i) ((p.thread i).grant k) (p.arbiter_at k) ((p.arbiter k).grant i) (steady.net.grants i k b l (uses i k b l))),
      );
      all = λ j n e. each_kind j (steady.net.all j n e);
    }

    -- ---- one cycle

    module _ (h g : Valuation) (c : Choice) (out : List ℕ) (cycle : Cycle modules top h c g out) where
      abbrev v : Valuation
      v = cycle.through

      abbrev settled : IsSettled modules top h c v
      settled = cycle.settled

      abbrev won : (k : ℕ) → k < cores → Option ℕ
      won k l = granted threads cores T C p modules top steady h v c settled k l

      abbrev Given : ℕ → ℕ → Type 0
      Given k i = Grants modules top threads has_cores v k i

      abbrev One : ℕ → Type 0
      One k = GrantsOne modules top threads has_cores v k

      bit_is : (k i : ℕ) (l : k < cores) → i < threads → (v (p.arbiter_at k ∷ [])).signal ((p.arbiter k).grant i) ≡ bits.bit_of (is_granted (won k l) i)
      bit_is k i l b =
          grant_is threads cores T C p modules top steady.net h v c settled k l (core_state threads cores T C p modules top steady h v c settled k l)
          (core_shows threads cores T C p modules top steady h v c settled k l) i b

      given : (k i : ℕ) (l : k < cores) → i < threads → Given k i → won k l ≡ Some i
      given k i l b e = granted_by (won k l) i (sym (bit_is k i l b) ∙ e)

      winning : (k i : ℕ) (l : k < cores) → won k l ≡ Some i → Wins threads cores T C p modules top steady h v c settled k i
      winning k i l e = wins threads cores T C p modules top steady h v c settled k i l e

      gives : (k w : ℕ) (l : k < cores) → won k l ≡ Some w → One k
      gives k w l e =
          let b = (winning k w l e).below in
          record { thread = w; below = b; granted = bit_is k w l b ∙ ap (λ o. bits.bit_of (is_granted o w)) e ∙ granted_itself w }

      -- ---- whom a core grants

      closed : (k i : ℕ) → Wins threads cores T C p modules top steady h v c settled k i → Needs modules top threads h c i 0 → ⊥
      closed k i q needs =
          q.asks
          ((steady.keep i q.below).closed_quiet (v (p.thread_at i ∷ [])) (own_obeys threads cores T C p modules top steady i q.below h v c settled)
          (need_low threads cores T C p modules top steady i q.below h v c c settled needs) k q.reach q.uses)

      needs_of : (i b : ℕ) → (l : i < threads) → (v (slot modules top threads i)).signal (steady.has i l).need_place ≡ b → Needs modules top threads h c i b
      needs_of i b l e =
          let t = steady.has i l in
          record { kind = t.kind; stands = t.stands; place = t.need_place; signal = t.need; is = t.has_need; through = v; settled = settled; number = e }

      open_ : (k i : ℕ) → Wins threads cores T C p modules top steady h v c settled k i → Needs modules top threads h c i 1
      open_ k i q =
          let t = steady.has i q.below in
          let x = (v (slot modules top threads i)).signal t.need_place in
          let fits : x < 2 ^ 1 = subst (λ w. x < 2 ^ w) t.one_bit (settled.within (slot modules top threads i) t.kind t.need_place t.need
          (record { stands = t.stands; listed = t.has_need.listed })) in
          ⊎_elim (λ (none : x ≡ 0). absurd (closed k i q (needs_of i 0 q.below none))) (λ (some : x ≡ 1). needs_of i 1 q.below some) (low_bit x fits)

      served : (k i : ℕ) → Wins threads cores T C p modules top steady h v c settled k i → IsServed modules top threads has_cores v h c g out i
      served k i q = record {
        enabled = q.enabled;
        needs = open_ k i q;
        changes = λ same. q.moves (slot_rests threads cores T C p modules top steady i q.below h g c out cycle same);
      }

      -- ---- who stays

      core_by : (k : ℕ) (l : k < cores) (o : Option ℕ) → won k l ≡ o → IsSameIn modules top (p.core_at k ∷ []) h g ⊎ One k
      core_by k l None e =
          let q = steady.net.cores_stand k l in
          inl
          (same_in modules top steady.shallow h g (p.core_at k)
          (λ m at. stays_by threads cores T C p modules top steady h v c settled g cycle.next (p.core_at k) m at
          (subst (λ (z : Module). Agree z (v (p.core_at k ∷ [])) (next_reading z (v (p.core_at k ∷ []))))
          (one_module threads cores T C p modules top steady (p.core_at k) (p.core_at k) q.0 m q.1 refl at)
          (core_rests threads cores T C p modules top steady h v c settled k l e))))
      core_by k l (Some w) e = inr (gives k w l e)

      other_by : (path : Path) → ((i : ℕ) → i < threads → IsOutside modules top threads (thread_at modules top threads i) path) →
          ((k : ℕ) → k < cores → IsOutside modules top threads (p.core_at k) path) → (j : ℕ) → path ≡ j ∷ [] → (m : Module) → module_at modules top (j ∷ []) ≡ Some m →
          IsInstanceOf threads cores T C p modules top j → Agree m (h (j ∷ [])) (g (j ∷ []))
      other_by path slots cores_out j is m at (inl (i, b, e)) = absurd (slots i b [] (is ∙ ap (λ x. x ∷ []) (e ∙ sym (thread_place i b))))
      other_by path slots cores_out j is m at (inr (inl (k, l, e))) = absurd (cores_out k l [] (is ∙ ap (λ x. x ∷ []) e))
      other_by path slots cores_out j is m at (inr (inr (k, l, e))) =
          let a = steady.net.arbiters_stand k l in
          let one = one_module threads cores T C p modules top steady j (p.arbiter_at k) m a.0 at e a.1 in
          nothing_agrees m (h (j ∷ [])) (g (j ∷ [])) (subst HoldsNothing (sym one) (steady.arbiters k l))

      -- ---- what is written

      abbrev Writer : Type 0
      Writer = (k : ℕ) × (k < cores) × One k

      core_writes : (k : ℕ) (l : k < cores) (o : Option ℕ) → won k l ≡ o → (written (steady.net.cores_stand k l).0 (v (p.core_at k ∷ [])) ≡ []) ⊎ Writer
      core_writes k l None e = inl (core_silent threads cores T C p modules top steady h v c settled k l e)
      core_writes k l (Some w) e = inr (k, l, gives k w l e)

      kind_writes : (j : ℕ) (m : Module) → module_at modules top (j ∷ []) ≡ Some m → IsInstanceOf threads cores T C p modules top j →
          (written m (v (j ∷ [])) ≡ []) ⊎ Writer
      kind_writes j m at (inl (i, b, e)) =
          let t = steady.net.threads_stand i b in
          inl (ap (λ (z : Module). written z (v (j ∷ []))) (one_module threads cores T C p modules top steady j (p.thread_at i) m t.0 at e t.1) ∙ t.2.silent (v (j ∷ [])))
      kind_writes j m at (inr (inl (k, l, e))) =
          let t = steady.net.cores_stand k l in
          ⊎_elim
          (λ (none : written t.0 (v (p.core_at k ∷ [])) ≡ []).
          inl (ap (λ (z : Module). written z (v (j ∷ []))) (one_module threads cores T C p modules top steady j (p.core_at k) m t.0 at e t.1)
          ∙ ap (λ x. written t.0 (v (x ∷ []))) e ∙ none))
          (λ (some : Writer). inr some) (core_writes k l (won k l) refl)
      kind_writes j m at (inr (inr (k, l, e))) =
          let t = steady.net.arbiters_stand k l in
          inl (ap (λ (z : Module). written z (v (j ∷ []))) (one_module threads cores T C p modules top steady j (p.arbiter_at k) m t.0 at e t.1) ∙ t.2.silent (v (j ∷ [])))

      path_writes : (path : Path) (o : Option Module) → module_at modules top path ≡ o → (written_at modules top v path o ≡ []) ⊎ Writer
      path_writes path None e = inl refl
      path_writes [] (Some m) e =
          let same : top ≡ m = cc in
          inl (ap (λ (z : Module). written z (v [])) (sym same) ∙ ap (action_bytes top (v [])) steady.net.silent)
      path_writes (j ∷ []) (Some m) e = kind_writes j m e (instance_is threads cores T C p modules top steady j m e)
      path_writes (i ∷ j ∷ rest) (Some m) e = absurd (steady.shallow i j rest m e)

      writer : (out ≡ []) ⊎ Writer
      writer =
          ⊎_elim (λ (none : out ≡ []). inl none)
          (λ (one : (path : Path) × (written_at modules top v path (module_at modules top path) ≡ out)).
          ⊎_elim (λ (none : written_at modules top v one.0 (module_at modules top one.0) ≡ []). inl (sym one.1 ∙ none)) (λ (some : Writer). inr some)
          (path_writes one.0 (module_at modules top one.0) refl)) cycle.written.one

      pub right_grants : AreRightGrants modules top threads has_cores v h c g out
      right_grants = record {
        nowhere = λ k i l b needs e. closed k i (winning k i l (given k i l b e)) needs;
        once = λ k i j l b d e f. same_Some i j (sym (given k i l b e) ∙ given k j l d f);
        serves = λ k i l b e. served k i (winning k i l (given k i l b e));
        cores = λ k l. core_by k l (won k l) refl;
        others = λ path slots cores_out.
            same_at modules top steady.shallow h g steady.outside path
            (λ j is m at. other_by path slots cores_out j is m at (instance_is threads cores T C p modules top steady j m at));
        silent = writer;
      }
