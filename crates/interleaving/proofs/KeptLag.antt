-- One turn or one act of one thread keeps the lag.
use Rattle.std.proofs.Common.{◌≡◌, ◌≢◌, ℕ, zero, suc, List, [], ◌∷◌, ◌++◌, length, replicate, refl, sym, ap, ◌∙◌, subst, ⊎_elim, inl, inr, append-nil}
use Rattle.std.specs.Prelude.{Some}
use Rattle.std.proofs.Math.Path.{fun_ext}
use Rattle.std.proofs.lemmas.List.{length-replicate}
use Rattle.interleaving.specs.Memory.{Location, Memory, Access, memory_after, Writes, AreApart, AgreeOn}
use Rattle.interleaving.specs.Source.{View, Moves, Acts, Ends, Fails, Source, Move, accesses_of, view_at, RunsAlone}
use Rattle.interleaving.specs.Interleaving.{if_steps, after_from, Reached, Reachable, IsGood}
use Rattle.interleaving.specs.Threaded.{IsThreaded}
use Rattle.interleaving.specs.Hardware.{World, Flight, IsMoveOrFault, OnlyMoves, Hardware, Overlaid, Lands, FliesOrLands, IsPlanned, IsAt, Lag, Turned, KeepsLag, FlightsAreApart}
use Rattle.interleaving.proofs.Accesses.{memory_after-agree, memory_after-unwritten, memory_after-append, touched, writes_left, writes_right, writes_or_not}
use Rattle.interleaving.proofs.Apart.{memory_after-apart}
use Rattle.interleaving.proofs.Alone.{Ran, after_from-append, runs_alone_frame, after_move, reach_move, run, others_run, one_move, reached_on}
use Rattle.interleaving.proofs.Races.{runs_apart}
use Rattle.interleaving.proofs.Update.{at, at_same, at_other, each_at, same_or_not}

module _ {Value : Type 0} where
  -- thread i goes on
  pub overlaid_more : (M M' m : Memory Value) (d d' : ℕ → List (Access Value)) (i : ℕ) (es : List (Access Value)) →
      ((p : Location) → M' p ≡ memory_after es M p) → d' i ≡ d i ++ es → ((j : ℕ) → j ≢ i → d' j ≡ d j) → Overlaid M d m → Overlaid M' d' m
  overlaid_more M M' m d d' i es now own rest old p k others = ⊎_elim here there (same_or_not k i)
    where
      here : k ≡ i → M' p ≡ memory_after (d' k) m p
      here e =
          let at_i : M p ≡ memory_after (d i) m p = old p i (λ j ne wr. others j (λ f. ne (f ∙ e)) (subst (λ x. Writes p x) (sym (rest j ne)) wr)) in
          now p ∙ memory_after-agree es M (memory_after (d i) m) p at_i ∙ sym (ap (λ (f : Memory Value). f p) (memory_after-append (d i) es m))
          ∙ ap (λ x. memory_after x m p) (sym own) ∙ ap (λ x. memory_after (d' x) m p) (sym e)

      there : k ≢ i → M' p ≡ memory_after (d' k) m p
      there ne =
          let none : Writes p (d i ++ es) → ⊥ = λ wr. others i (λ f. ne (sym f)) (subst (λ x. Writes p x) (sym own) wr) in
          let at_k : M p ≡ memory_after (d k) m p = old p k (λ j nk wr. ⊎_elim (λ f. none (writes_left (d i) es p (subst (λ x. Writes p (d x)) f wr)))
          (λ f. others j nk (subst (λ x. Writes p x) (sym (rest j f)) wr)) (same_or_not j i)) in
          now p ∙ memory_after-unwritten es M p (λ wr. none (writes_right (d i) es p wr)) ∙ at_k ∙ ap (λ x. memory_after x m p) (sym (rest k ne))

  -- thread i has ended its run
  pub overlaid_land : (M m m' : Memory Value) (d d' : ℕ → List (Access Value)) (i : ℕ) (all : List (Access Value)) → d' i ≡ [] →
      ((j : ℕ) → j ≢ i → d' j ≡ d j) → ((p : Location) → memory_after (d i) m p ≡ memory_after all m p) → ((p : Location) → Writes p (d i) → Writes p all) →
      ((p : Location) → m' p ≡ memory_after all m p) → ((j : ℕ) (p : Location) → j ≢ i → Writes p (d j) → Writes p all → ⊥) → Overlaid M d m → Overlaid M d' m'
  overlaid_land M m m' d d' i all own rest effect inside now alone old p k others = ⊎_elim here there (same_or_not k i)
    where
      here : k ≡ i → M p ≡ memory_after (d' k) m' p
      here e =
          let at_i : M p ≡ memory_after (d i) m p = old p i (λ j ne wr. others j (λ f. ne (f ∙ e)) (subst (λ x. Writes p x) (sym (rest j ne)) wr)) in
          at_i ∙ effect p ∙ sym (now p) ∙ ap (λ x. memory_after x m' p) (sym (ap d' e ∙ own))

      there : k ≢ i → M p ≡ memory_after (d' k) m' p
      there ne = ⊎_elim written unwritten (writes_or_not all p)
        where
          not_others : (j : ℕ) → j ≢ k → j ≢ i → Writes p (d j) → ⊥
          not_others j nk f wr = others j nk (subst (λ x. Writes p x) (sym (rest j f)) wr)

          written : Writes p all → M p ≡ memory_after (d' k) m' p
          written wr =
              let at_i : M p ≡ memory_after (d i) m p = old p i (λ j f wj. alone j p f wj wr) in
              at_i ∙ effect p ∙ sym (now p) ∙ sym (memory_after-unwritten (d k) m' p (λ wk. alone k p ne wk wr)) ∙ ap (λ x. memory_after x m' p) (sym (rest k ne))

          unwritten : (Writes p all → ⊥) → M p ≡ memory_after (d' k) m' p
          unwritten away =
              let at_k : M p ≡ memory_after (d k) m p = old p k (λ j nk wj. ⊎_elim (λ f. away (inside p (subst (λ x. Writes p (d x)) f wj))) (λ f. not_others j nk f wj) (same_or_not j i)) in
              at_k ∙ memory_after-agree (d k) m m' p (sym (memory_after-unwritten all m p away) ∙ sym (now p)) ∙ ap (λ x. memory_after x m' p) (sym (rest k ne))

module _ {Value Local State : Type 0} (P : Source Value Local State) (law : IsThreaded P) (good : IsGood P) where
  -- where the next n steps are moves, they are there
  pub run_of : (n : ℕ) (L : List ℕ) (s : State) (i : ℕ) → Reached P L s → OnlyMoves P n (P.local s i) (P.memory s) →
      (hs : List (Move Value Local)) × (RunsAlone P (P.local s i) (P.memory s) hs) × (length hs ≡ n)
  run_of zero L s i reached only_moves = ([], tt, refl)
  run_of (suc n) L s i reached only_moves = go (λ M t. run_of n M t i) (view_at P s i) refl
    where
      go :
          ((M : List ℕ) (t : State) → Reached P M t → OnlyMoves P n (P.local t i) (P.memory t) → (hs : List (Move Value Local)) × (RunsAlone P (P.local t i) (P.memory t) hs) × (length hs ≡ n)) →
          (v : View Value Local) → view_at P s i ≡ v → (hs : List (Move Value Local)) × (RunsAlone P (P.local s i) (P.memory s) hs) × (length hs ≡ suc n)
      go ih (Moves y es) e =
          let h : Move Value Local = record { to = y; accesses = es } in
          let m = law.moves s i y es (L, reached) e in
          let one = one_move P law s m.0 i h m.1 in
          let there : P.memory m.0 ≡ memory_after es (P.memory s) = fun_ext m.1.memory in
          let next : OnlyMoves P n (P.local m.0 i) (P.memory m.0) = subst (λ x. OnlyMoves P n x (P.memory m.0)) (sym m.1.own) (subst (λ w. OnlyMoves P n y w) (sym there) (only_moves.1 y es e)) in
          let rest = ih (L ++ i ∷ []) m.0 (reached_on P law L s m.0 i (h ∷ []) reached one) next in
          (h ∷ rest.0, (e, subst (λ x. RunsAlone P x (memory_after es (P.memory s)) rest.0) m.1.own (subst (λ w. RunsAlone P (P.local m.0 i) w rest.0) there rest.1)), ap suc rest.2)
      go ih Acts e = absurd (subst (λ v. IsMoveOrFault v) e only_moves.0)
      go ih (Ends ps) e = absurd (subst (λ v. IsMoveOrFault v) e only_moves.0)
      go ih Fails e =
          let f = law.fails s i (L, reached) e in
          absurd (good.defined L s i reached f.0 f.1 f.2)

module _ {Value Local State Slot Cores : Type 0} (P : Source Value Local State) (H : Hardware Value Local State Slot Cores) (law : IsThreaded P) (good : IsGood P) (plan : IsPlanned P H) where
  -- what a thread that doesn't turn has to keep
  abbrev Keeps : Cores → State → (ℕ → Slot) → ℕ → Flight Value Local → Type 0
  Keeps c s slots j f = RunsAlone P (P.local s j) (P.memory s) f.moves × IsAt P H c j (P.local s j) (P.memory s) f (slots j)

  -- what another block in flight has written is nothing that this one touches
  pub sees : (L : List ℕ) (w : World Value Slot Cores) (i : ℕ) (l : Lag P H L w) (hs : List (Move Value Local)) →
      RunsAlone P (P.local l.state i) (P.memory l.state) hs → AgreeOn (accesses_of hs) (memory_after (l.flights i).made (P.memory l.state)) w.memory
  sees L w i l hs r p touch = sym (l.memory p i away)
    where
      away : (j : ℕ) → j ≢ i → Writes p (l.flights j).made → ⊥
      away j ne wr =
          ⊎_elim
          (λ z. subst (λ d. Writes p d) z.1 wr)
          (λ f. (runs_apart P law good L l.state j i (l.flights j).moves hs l.reached ne (l.runs j) r).first p (plan.inside _ _ _ _ _ p f wr) touch)
          (l.places j)

  -- thread i stays in flight
  pub stays : (L : List ℕ) (w w' : World Value Slot Cores) (i : ℕ) (l : Lag P H L w) (t : Turned P H w i w') (hs : List (Move Value Local)) →
      RunsAlone P (P.local l.state i) (P.memory l.state) hs →
      H.Flies (P.local l.state i) (P.memory l.state) hs ((l.flights i).made ++ t.accesses) (w'.slots i) → Lag P H L w'
  stays L w w' i l t hs own flies =
      let f : Flight Value Local = record { moves = hs; made = (l.flights i).made ++ t.accesses } in
      let flights = at l.flights i f in
      let kept : (j : ℕ) → Keeps w.cores l.state w'.slots j (flights j) = each_at (Keeps w.cores l.state w'.slots) l.flights i f (own, inr flies)
      (λ j ne. (l.runs j, subst (λ q. IsAt P H w.cores j (P.local l.state j) (P.memory l.state) (l.flights j) q) (sym (t.others j ne)) (l.places j))) in
      record {
        state = l.state;
        flights = flights;
        reached = l.reached;
        stands = subst (λ c. H.Stands c l.state) (sym t.cores) l.stands;
        runs = λ j. (kept j).0;
        places = λ j. subst (λ c. IsAt P H c j (P.local l.state j) (P.memory l.state) (flights j) (w'.slots j)) (sym t.cores) (kept j).1;
        memory = overlaid_more w.memory w'.memory (P.memory l.state) (λ j. (l.flights j).made) (λ j. (flights j).made) i t.accesses t.memory
            (ap (λ (g : Flight Value Local). g.made) (at_same l.flights i f)) (λ j ne. ap (λ (g : Flight Value Local). g.made) (at_other l.flights i j f ne)) l.memory;
      }

  -- the cores stand for what a run leads to
  stands_run : (c : Cores) (s : State) (i : ℕ) (hs : List (Move Value Local)) (at : Reachable P s) (r : RunsAlone P (P.local s i) (P.memory s) hs) → H.Stands c s → H.Stands c (run P law s i hs at r).0
  unfolding run
  stands_run c s i [] at r st = st
  stands_run c s i (h ∷ hs) at r st =
      let m = law.moves s i h.to h.accesses at r.0 in
      stands_run c m.0 i hs (reach_move P law s m.0 i h at m.1) (after_move P law s m.0 i h hs m.1 r.1) (plan.stands c s m.0 i h.to h.accesses at r.0 st m.1)

  -- what another thread has is kept by a run of thread i
  kept_by_run : (c : Cores) (s t : State) (i j : ℕ) (hs : List (Move Value Local)) (f : Flight Value Local) (q : Slot) → j ≢ i → Ran P s i hs t →
      AreApart (accesses_of hs) (accesses_of f.moves) → IsAt P H c j (P.local s j) (P.memory s) f q → IsAt P H c j (P.local t j) (P.memory t) f q
  kept_by_run c s t i j hs f q ne ran apart place =
      subst (λ x. IsAt P H c j x (P.memory t) f q) (sym (ran.others j ne))
      (⊎_elim
      (λ r. inl r)
      (λ v. inr (plan.frame (P.local s j) (P.memory s) (P.memory t) f.moves f.made q v (λ p u. memory_after-apart (accesses_of hs) (accesses_of f.moves) (P.memory s) apart p u ∙ sym (ran.memory p))))
      place)

  -- thread i ends its block, and its steps are taken
  pub lands : (L : List ℕ) (w w' : World Value Slot Cores) (i : ℕ) (l : Lag P H L w) (t : Turned P H w i w') (hs : List (Move Value Local)) →
      RunsAlone P (P.local l.state i) (P.memory l.state) hs →
      Lands P H w.cores i (P.local l.state i) (P.memory l.state) hs ((l.flights i).made ++ t.accesses) (w'.slots i) → Lag P H (L ++ replicate (length hs) i) w'
  lands L w w' i l t hs solo land =
      let ended = run P law l.state i hs (L, l.reached) solo in
      let s = ended.0 in
      let ran = ended.1 in
      let f : Flight Value Local = record { moves = []; made = [] } in
      let flights = at l.flights i f in
      let apart : (j : ℕ) → j ≢ i → AreApart (accesses_of hs) (accesses_of (l.flights j).moves) = λ j ne. runs_apart P law good L l.state i j hs
      (l.flights j).moves l.reached (λ e. ne (sym e)) solo (l.runs j) in
      let own : H.Rests w.cores i (P.local s i) (w'.slots i) = subst (λ x. H.Rests w.cores i x (w'.slots i)) (sym ran.own) land.rests in
      let kept : (j : ℕ) → Keeps w.cores s w'.slots j (flights j) =
      each_at (Keeps w.cores s w'.slots) l.flights i f (tt, inl (refl, refl, own))
      (λ j ne. (
        others_run P law l.state s i j hs (l.flights j).moves ne ran (apart j ne) (l.runs j),
        subst
            (λ q. IsAt P H w.cores j (P.local s j) (P.memory s) (l.flights j) q) (sym (t.others j ne))
            (kept_by_run w.cores l.state s i j hs (l.flights j) (w.slots j) ne ran (apart j ne) (l.places j)),
      )) in
      let mid = at (λ j. (l.flights j).made) i ((l.flights i).made ++ t.accesses) in
      let mid_i : mid i ≡ (l.flights i).made ++ t.accesses = at_same (λ j. (l.flights j).made) i ((l.flights i).made ++ t.accesses) in
      let mid_j : (j : ℕ) → j ≢ i → mid j ≡ (l.flights j).made = λ j ne. at_other (λ j. (l.flights j).made) i j ((l.flights i).made ++ t.accesses) ne in
      let more : Overlaid w'.memory mid (P.memory l.state) = overlaid_more w.memory w'.memory (P.memory l.state) (λ j. (l.flights j).made) mid i t.accesses t.memory mid_i mid_j l.memory in
      record {
        state = s;
        flights = flights;
        reached = reached_on P law L l.state s i hs l.reached ran;
        stands = subst (λ c. H.Stands c s) (sym t.cores) (stands_run w.cores l.state i hs (L, l.reached) solo l.stands);
        runs = λ j. (kept j).0;
        places = λ j. subst (λ c. IsAt P H c j (P.local s j) (P.memory s) (flights j) (w'.slots j)) (sym t.cores) (kept j).1;
        memory = overlaid_land w'.memory (P.memory l.state) (P.memory s) mid (λ j. (flights j).made) i (accesses_of hs)
            (ap (λ (g : Flight Value Local). g.made) (at_same l.flights i f))
            (λ j ne. ap (λ (g : Flight Value Local). g.made) (at_other l.flights i j f ne) ∙ sym (mid_j j ne))
            (λ p. ap (λ d. memory_after d (P.memory l.state) p) mid_i ∙ land.effect p)
            (λ p wr. land.inside p (subst (λ d. Writes p d) mid_i wr))
            ran.memory
            (λ j p ne wj wr. ⊎_elim
            (λ r. subst (λ d. Writes p d) r.1 (subst (λ d. Writes p d) (mid_j j ne) wj))
            (λ v. (apart j ne).first p wr (touched (accesses_of (l.flights j).moves) p (plan.inside _ _ _ _ _ p v (subst (λ d. Writes p d) (mid_j j ne) wj))))
            (l.places j))
            more;
      }

  -- one turn of one thread: what it adds to the interleaving
  pub lag_turn : (L : List ℕ) (w w' : World Value Slot Cores) (i : ℕ) → Lag P H L w → Turned P H w i w' → (added : List ℕ) × Lag P H (L ++ added) w' × H.Spends (w.slots i) (w'.slots i) (length added)
  lag_turn L w w' i l t = ⊎_elim begin fly (l.places i)
    where
      result : (hs : List (Move Value Local)) → RunsAlone P (P.local l.state i) (P.memory l.state) hs →
          FliesOrLands P H w.cores i (P.local l.state i) (P.memory l.state) hs ((l.flights i).made ++ t.accesses) (w.slots i) (w'.slots i) →
          (added : List ℕ) × Lag P H (L ++ added) w' × H.Spends (w.slots i) (w'.slots i) (length added)
      result hs own r =
          ⊎_elim
          (λ v. ([], subst (λ M. Lag P H M w') (sym (append-nil L)) (stays L w w' i l t hs own v.0), v.1))
          (λ d. (replicate (length hs) i, lands L w w' i l t hs own d.0, subst (λ n. H.Spends (w.slots i) (w'.slots i) n) (sym (length-replicate (length hs) i)) d.1))
          r

      fly : H.Flies (P.local l.state i) (P.memory l.state) (l.flights i).moves (l.flights i).made (w.slots i) →
          (added : List ℕ) × Lag P H (L ++ added) w' × H.Spends (w.slots i) (w'.slots i) (length added)
      fly v = result (l.flights i).moves (l.runs i) (plan.turn w.cores i (P.local l.state i) (P.memory l.state) w.memory (l.flights i).moves
          (l.flights i).made t.accesses (w.slots i) (w'.slots i) (l.runs i) v (sees L w i l (l.flights i).moves (l.runs i)) t.turn)

      begin : ((l.flights i).moves ≡ []) × ((l.flights i).made ≡ []) × H.Rests w.cores i (P.local l.state i) (w.slots i) →
          (added : List ℕ) × Lag P H (L ++ added) w' × H.Spends (w.slots i) (w'.slots i) (length added)
      begin r =
          let b = plan.begins w.cores l.state i (w.slots i) (w'.slots i) w.memory t.accesses (L, l.reached) r.2 t.turn in
          let own = run_of P law good b.0 L l.state i l.reached b.1 in
          let agree : AgreeOn (accesses_of own.0) (P.memory l.state) w.memory = subst (λ d. AgreeOn (accesses_of own.0) (memory_after d (P.memory l.state)) w.memory) r.1 (sees L w i l own.0 own.1) in
          result own.0 own.1
          (subst (λ d. FliesOrLands P H w.cores i (P.local l.state i) (P.memory l.state) own.0 (d ++ t.accesses) (w.slots i) (w'.slots i)) (sym r.1)
          (b.2 own.0 own.1 own.2 agree))

  -- one act of one thread
  pub lag_act : (L : List ℕ) (w w' : World Value Slot Cores) (i : ℕ) → Lag P H L w → H.Act w i w' →
      Lag P H (L ++ i ∷ []) w' × H.Spends (w.slots i) (w'.slots i) 1 × ((j : ℕ) → j ≢ i → w'.slots j ≡ w.slots j)
  lag_act L w w' i l a = ⊎_elim at_rest (λ v. absurd (plan.act_rests _ _ _ _ i w w' v a)) (l.places i)
    where
      at_rest : ((l.flights i).moves ≡ []) × ((l.flights i).made ≡ []) × H.Rests w.cores i (P.local l.state i) (w.slots i) →
          Lag P H (L ++ i ∷ []) w' × H.Spends (w.slots i) (w'.slots i) 1 × ((j : ℕ) → j ≢ i → w'.slots j ≡ w.slots j)
      at_rest r =
          let acted = plan.act l.state i w w' (L, l.reached) (good.defined L l.state i l.reached) l.stands r.2 a in
          let t = acted.0 in
          let to = acted.1 in
          let same : (p : Location) → P.memory t p ≡ P.memory l.state p = λ p. law.keeps_memory l.state t i p (L, l.reached) to.view to.steps in
          let kept : (j : ℕ) → Keeps w'.cores t w'.slots j (l.flights j) = λ j.
          ⊎_elim
          (λ (e : j ≡ i). subst (λ k. Keeps w'.cores t w'.slots k (l.flights k)) (sym e) (subst (λ hs. RunsAlone P (P.local t i) (P.memory t) hs) (sym r.0) tt, inl (r.0, r.1, to.rests)))
          (λ (ne : j ≢ i).
          subst (λ q. RunsAlone P (P.local t j) (P.memory t) (l.flights j).moves × IsAt P H w'.cores j (P.local t j) (P.memory t) (l.flights j) q) (sym (to.slots j ne))
          (⊎_elim
          (λ q. (subst (λ hs. RunsAlone P (P.local t j) (P.memory t) hs) (sym q.0) tt, inl (q.0, q.1, to.resting j ne q.2)))
          (λ v.
          let stay = to.flying j (l.flights j).moves (l.flights j).made ne (l.runs j) v in
          subst (λ x. RunsAlone P x (P.memory t) (l.flights j).moves × IsAt P H w'.cores j x (P.memory t) (l.flights j) (w.slots j)) (sym stay) (
            runs_alone_frame P law (P.local l.state j) (l.flights j).moves (P.memory l.state) (P.memory t) (l.runs j) (λ p _. sym (same p)),
            inr (plan.frame (P.local l.state j) (P.memory l.state) (P.memory t) (l.flights j).moves (l.flights j).made (w.slots j) v (λ p _. sym (same p))),
          ))
          (l.places j)))
          (same_or_not j i) in (
            record {
              state = t;
              flights = l.flights;
              reached = after_from-append P P.start l.state L (i ∷ []) l.reached ∙ subst (λ o. if_steps o (λ u. after_from P u []) ≡ Some t) (sym to.steps) refl;
              stands = to.stands;
              runs = λ j. (kept j).0;
              places = λ j. (kept j).1;
              memory = λ p j others. to.memory p ∙ l.memory p j others ∙ memory_after-agree (l.flights j).made (P.memory l.state) (P.memory t) p (sym (same p));
            },
            to.spends,
            to.slots,
          )

  -- LAG
  pub keeps_lag : KeepsLag P H
  keeps_lag L w v i l move =
      ⊎_elim
      (λ t. let r = lag_turn L w v i l t in (r.0, r.1, r.2, t.others))
      (λ a. let r = lag_act L w v i l a in (i ∷ [], r.0, r.1, r.2))
      move

  -- nothing that one block in flight writes is touched by another
  pub flights_apart : FlightsAreApart P H
  flights_apart L w l i j ne = runs_apart P law good L l.state i j (l.flights i).moves (l.flights j).moves l.reached ne (l.runs i) (l.runs j)
