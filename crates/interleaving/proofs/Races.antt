-- Two runs that touch one place lead to a race.
use Rattle.std.proofs.Common.{◌≡◌, ◌≢◌, ℕ, zero, suc, List, [], ◌∷◌, ◌++◌, refl, sym, ap, ◌∙◌, subst, ⊎_elim, inl, inr, append-nil, append_assoc, length, replicate}
use Rattle.std.specs.Prelude.{◌⊎◌, true, false}
use Rattle.interleaving.specs.Memory.{Location, Access, reads_of, memory_after, Touches, Writes, Conflict, AreApart}
use Rattle.interleaving.specs.Source.{StepsTo, View, Moves, Acts, Ends, Fails, Source, Move, touched_by, if_taken, IsNoAct, accesses_of, view_at, footprint, RunsAlone}
use Rattle.interleaving.specs.Interleaving.{Reached, Reachable, Races, IsGood}
use Rattle.interleaving.specs.Threaded.{IsThreaded}
use Rattle.interleaving.specs.FirstConflict.{TakesAlone, RaceReached, FirstConflict}
use Rattle.interleaving.proofs.Accesses.{touches_either, writes_either, reads_write_nothing}
use Rattle.interleaving.proofs.Apart.{apart_or_not, apart_swap, apart_ones, apart_join, memory_after-apart}
use Rattle.interleaving.proofs.Alone.{Ran, runs_alone_frame, after_move, reach_move, ran_none, ran_more, others_run, one_move, reached_on}

conflict_swap : {Value : Type 0} (es fs : List (Access Value)) → Conflict es fs → Conflict fs es
conflict_swap es fs c = (c.0, ⊎_elim (λ l. inr (l.1, l.0)) (λ r. inl (r.1, r.0)) c.1)

module _ {Value Local State : Type 0} (P : Source Value Local State) where
  -- a step that is taken touches what its view says
  footprint-steps : (s t : State) (i : ℕ) → P.step s i ≡ StepsTo t → footprint P s i ≡ touched_by (view_at P s i)
  footprint-steps s t i steps = subst (λ o. if_taken o (touched_by (view_at P s i)) ≡ touched_by (view_at P s i)) (sym steps) refl

  races_swap : (s : State) (i j : ℕ) → Races P s i j → Races P s j i
  races_swap s i j r = record {
    runs_on = r.runs_on;
    apart = λ e. r.apart (sym e);
    first_lives = r.second_lives;
    second_lives = r.first_lives;
    first_goes = r.second_goes;
    second_goes = r.first_goes;
    conflict = conflict_swap (footprint P s i) (footprint P s j) r.conflict;
  }

  reached_swap : (i j : ℕ) → RaceReached P i j → RaceReached P j i
  reached_swap i j r = record { route = r.route; state = r.state; reached = r.reached; races = races_swap r.state i j r.races }

  -- two steps that may be taken next race where their views conflict
  race_of : (s t u : State) (i j : ℕ) (v w : View Value Local) → P.is_ended s ≡ false → i ≢ j → P.is_live s i ≡ true → P.is_live s j ≡ true →
      P.step s i ≡ StepsTo t → P.step s j ≡ StepsTo u → view_at P s i ≡ v → view_at P s j ≡ w → Conflict (touched_by v) (touched_by w) → Races P s i j
  race_of s t u i j v w runs_on ne li lj gi gj vi vj c = record {
    runs_on = runs_on;
    apart = ne;
    first_lives = li;
    second_lives = lj;
    first_goes = λ b. absurd (cc (gi, b));
    second_goes = λ b. absurd (cc (gj, b));
    conflict =
        subst (λ es. Conflict es (footprint P s j)) (sym (footprint-steps s t i gi ∙ ap touched_by vi))
        (subst (λ fs. Conflict (touched_by v) fs) (sym (footprint-steps s u j gj ∙ ap touched_by vj)) c);
  }

module _ {Value Local State : Type 0} (P : Source Value Local State) (law : IsThreaded P) where
  two_race : (s : State) (i j : ℕ) (h f : Move Value Local) → Reachable P s → i ≢ j → view_at P s i ≡ Moves h.to h.accesses →
      view_at P s j ≡ Moves f.to f.accesses → Conflict h.accesses f.accesses → Races P s i j
  two_race s i j h f at ne vi vj c =
      let li = law.mover_lives s i h.to h.accesses at vi in
      let lj = law.mover_lives s j f.to f.accesses at vj in
      let gi = law.moves s i h.to h.accesses at vi in
      let gj = law.moves s j f.to f.accesses at vj in
      race_of P s gi.0 gj.0 i j (Moves h.to h.accesses) (Moves f.to f.accesses) li.0 ne li.1 lj.1 gi.1.steps gj.1.steps vi vj c

  -- the next step of i against a run of j
  step_and_run : (L : List ℕ) (s : State) (i j : ℕ) (h : Move Value Local) (fs : List (Move Value Local)) → Reached P L s → i ≢ j →
      view_at P s i ≡ Moves h.to h.accesses → RunsAlone P (P.local s j) (P.memory s) fs → RaceReached P i j ⊎ AreApart h.accesses (accesses_of fs)
  step_and_run L s i j h [] at ne v r = inr (record { first = λ p w t. t; second = λ p t w. w })
  step_and_run L s i j h (f ∷ fs) at ne v r =
      ⊎_elim
      (λ c. inl (record { route = L; state = s; reached = at; races = two_race s i j h f (L, at) ne v r.0 c }))
      (λ a.
      let m = law.moves s j f.to f.accesses (L, at) r.0 in
      let one = one_move P law s m.0 j f m.1 in
      let still = others_run P law s m.0 j i (f ∷ []) (h ∷ []) ne one (apart_ones f.accesses h.accesses (apart_swap h.accesses f.accesses a)) (v, tt) in
      ⊎_elim (λ c. inl c) (λ b. inr (apart_join h.accesses f.accesses (accesses_of fs) a b))
      (step_and_run (L ++ j ∷ []) m.0 i j h fs (reached_on P law L s m.0 j (f ∷ []) at one) ne still.0 (after_move P law s m.0 j f fs m.1 r.1)))
      (apart_or_not h.accesses f.accesses)

  -- two runs from one reached state touch nothing in common that one of them writes, or there is a race
  pub race_or_apart : (L : List ℕ) (s : State) (i j : ℕ) (hs fs : List (Move Value Local)) → Reached P L s → i ≢ j → RunsAlone P (P.local s i) (P.memory s) hs →
      RunsAlone P (P.local s j) (P.memory s) fs → RaceReached P i j ⊎ AreApart (accesses_of hs) (accesses_of fs)
  race_or_apart L s i j [] fs at ne r q = inr (record { first = λ p w t. w; second = λ p t w. t })
  race_or_apart L s i j (h ∷ hs) fs at ne r q =
      ⊎_elim
      (λ c. inl c)
      (λ a.
      let m = law.moves s i h.to h.accesses (L, at) r.0 in
      let one = one_move P law s m.0 i h m.1 in
      let still = others_run P law s m.0 i j (h ∷ []) fs (λ e. ne (sym e)) one (subst (λ x. AreApart x (accesses_of fs)) (sym (append-nil h.accesses)) a) q in
      ⊎_elim
      (λ c. inl c)
      (λ b. inr (apart_swap (accesses_of fs) (h.accesses ++ accesses_of hs) (apart_join (accesses_of fs) h.accesses (accesses_of hs)
      (apart_swap h.accesses (accesses_of fs) a) (apart_swap (accesses_of hs) (accesses_of fs) b))))
      (race_or_apart (L ++ i ∷ []) m.0 i j hs fs (reached_on P law L s m.0 i (h ∷ []) at one) ne (after_move P law s m.0 i h hs m.1 r.1) still))
      (step_and_run L s i j h fs at ne r.0 q)

  -- a return that ends thread i against a run of j that writes what it reads
  end_races : (L : List ℕ) (s u : State) (i j : ℕ) (ps : List Location) (fs : List (Move Value Local)) (p : Location) → Reached P L s → i ≢ j →
      view_at P s i ≡ Ends ps → P.step s i ≡ StepsTo u → RunsAlone P (P.local s j) (P.memory s) fs → Touches {Value = Value} p (reads_of ps) →
      Writes p (accesses_of fs) → RaceReached P i j
  end_races L s u i j ps [] p at ne v goes r touch wr = absurd wr
  end_races L s u i j ps (f ∷ fs) p at ne v goes r touch wr =
      let m = law.moves s j f.to f.accesses (L, at) r.0 in
      let lives = law.end_lives s i ps (L, at) v in
      let other = law.mover_lives s j f.to f.accesses (L, at) r.0 in
      ⊎_elim
      (λ c. record { route = L; state = s; reached = at; races = race_of P s u m.0 i j (Ends ps) (Moves f.to f.accesses) lives.0 ne lives.1 other.1 goes m.1.steps v r.0 c })
      (λ a.
      let stays = law.end_stays s m.0 u i j ps f.to f.accesses (L, at) v goes (λ e. ne (sym e)) r.0 (apart_swap (reads_of ps) f.accesses a) m.1 in
      let own : P.local m.0 i ≡ P.local s i = m.1.others i ne in
      let still : view_at P m.0 i ≡ Ends ps =
      subst (λ x. P.view x (P.memory m.0) ≡ Ends ps) (sym own)
      (law.end_frame (P.local s i) ps (P.memory s) (P.memory m.0) v (λ q t. memory_after-apart f.accesses (reads_of ps) (P.memory s)
      (apart_swap (reads_of ps) f.accesses a) q t ∙ sym (m.1.memory q))) in
      let later : Writes p (accesses_of fs) = ⊎_elim (λ w. absurd (a.second p touch w)) (λ w. w) (writes_either f.accesses (accesses_of fs) p wr) in
      end_races (L ++ j ∷ []) m.0 stays.0 i j ps fs p (reached_on P law L s m.0 j (f ∷ []) at (one_move P law s m.0 j f m.1)) ne still stays.1 (after_move P law s m.0 j f fs m.1 r.1) touch later)
      (apart_or_not (reads_of ps) f.accesses)

  -- after its moves the thread ends, and its accesses are those of the moves and of the return
  record EndsThen (s : State) (i : ℕ) (hs : List (Move Value Local)) (es : List (Access Value)) : Type 0 where
    last : State
    ran : Ran P s i hs last
    reads : List Location
    view : view_at P last i ≡ Ends reads
    to : State
    steps : P.step last i ≡ StepsTo to
    parts : es ≡ accesses_of hs ++ reads_of reads

  -- the steps that a thread takes by itself are moves, after which it may end
  abbrev TakesRun : State → ℕ → List (Access Value) → Type 0
  TakesRun s i es = (hs : List (Move Value Local)) × RunsAlone P (P.local s i) (P.memory s) hs × ((accesses_of hs ≡ es) ⊎ EndsThen s i hs es)

  takes_run : (n : ℕ) (s : State) (i : ℕ) (es : List (Access Value)) → Reachable P s → TakesAlone P s i n es → TakesRun s i es
  takes_run zero s i es at k = ([], tt, inl (sym k))
  takes_run (suc n) s i es at k = go (λ m fs there more. takes_run n m i fs there more) (view_at P s i) refl k.3
    where
      touches : (v : View Value Local) → view_at P s i ≡ v → es ≡ touched_by v ++ k.1
      touches v e = k.4 ∙ ap (λ l. l ++ k.1) (footprint-steps P s k.0 i k.2 ∙ ap touched_by e)

      move : ((m : State) (fs : List (Access Value)) → Reachable P m → TakesAlone P m i n fs → TakesRun m i fs) → (y : Local) (fs : List (Access Value)) → view_at P s i ≡ Moves y fs → TakesRun s i es
      move later y fs e =
          let h : Move Value Local = record { to = y; accesses = fs } in
          let m = law.moves s i y fs at e in
          let same : m.0 ≡ k.0 = cc (m.1.steps, k.2) in
          let rest = later m.0 k.1 (reach_move P law s m.0 i h at m.1) (subst (λ t. TakesAlone P t i n k.1) (sym same) k.5) in (
            h ∷ rest.0,
            (e, runs_alone_frame P law y rest.0 (P.memory m.0) (memory_after fs (P.memory s)) (subst (λ x. RunsAlone P x (P.memory m.0) rest.0) m.1.own rest.1) (λ p _. m.1.memory p)),
            ⊎_elim
                (λ all. inl (ap (λ l. fs ++ l) all ∙ sym (touches (Moves y fs) e)))
                (λ tail. inr (record {
                  last = tail.last;
                  ran = ran_more P law s m.0 tail.last i h rest.0 m.1 tail.ran;
                  reads = tail.reads;
                  view = tail.view;
                  to = tail.to;
                  steps = tail.steps;
                  parts = touches (Moves y fs) e ∙ ap (λ l. fs ++ l) tail.parts ∙ sym (append_assoc fs (accesses_of rest.0) (reads_of tail.reads));
                }))
                rest.2,
          )

      none_after : (n : ℕ) (fs : List (Access Value)) (ps : List Location) → view_at P s i ≡ Ends ps → TakesAlone P k.0 i n fs → fs ≡ []
      none_after zero fs ps e t = t
      none_after (suc n) fs ps e t = absurd (subst (λ v. IsNoAct v) (law.end_alone s k.0 i ps at e k.2) t.3)

      go : ((m : State) (fs : List (Access Value)) → Reachable P m → TakesAlone P m i n fs → TakesRun m i fs) → (v : View Value Local) → view_at P s i ≡ v → IsNoAct v → TakesRun s i es
      go later (Moves y fs) e no_act = move later y fs e
      go later Acts e no_act = absurd no_act
      go later (Ends ps) e no_act = (
        [],
        tt,
        inr (record {
          last = s;
          ran = ran_none P law s i;
          reads = ps;
          view = e;
          to = k.0;
          steps = k.2;
          parts = touches (Ends ps) e ∙ ap (λ l. reads_of ps ++ l) (none_after n k.1 ps e k.5) ∙ append-nil (reads_of ps);
        }),
      )
      go later Fails e no_act =
          let f = law.fails s i at e in
          absurd (cc (f.2, k.2))

  -- what such steps write their moves write
  writes_in : (s : State) (i : ℕ) (es : List (Access Value)) (r : TakesRun s i es) (p : Location) → Writes p es → Writes p (accesses_of r.0)
  writes_in s i es r p w =
      ⊎_elim
      (λ all. subst (λ l. Writes p l) (sym all) w)
      (λ tail. ⊎_elim (λ v. v) (λ v. absurd (reads_write_nothing Value tail.reads p v)) (writes_either (accesses_of r.0) (reads_of tail.reads) p (subst (λ l. Writes p l) tail.parts w)))
      r.2

  -- what such steps touch their moves touch, or the return reads it
  touches_in : (s : State) (i : ℕ) (es : List (Access Value)) (r : TakesRun s i es) (p : Location) → Touches p es →
      Touches p (accesses_of r.0) ⊎ ((tail : EndsThen s i r.0 es) × Touches {Value = Value} p (reads_of tail.reads))
  touches_in s i es r p t =
      ⊎_elim
      (λ all. inl (subst (λ l. Touches p l) (sym all) t))
      (λ tail. ⊎_elim (λ v. inl v) (λ v. inr (tail, v)) (touches_either (accesses_of r.0) (reads_of tail.reads) p (subst (λ l. Touches p l) tail.parts t)))
      r.2

  -- what i writes j touches
  writer_races : (L : List ℕ) (s : State) (i j : ℕ) (es fs : List (Access Value)) (p : Location) → Reached P L s → i ≢ j → TakesRun s i es → TakesRun s j fs →
      Writes p es → Touches p fs → RaceReached P i j
  writer_races L s i j es fs p at ne x y w t =
      ⊎_elim
      (λ race. race)
      (λ apart.
      ⊎_elim
      (λ both. absurd (apart.first p (writes_in s i es x p w) both))
      (λ late.
      let tail = late.0 in
      reached_swap P j i
      (end_races (L ++ replicate (length y.0) j) tail.last tail.to j i tail.reads x.0 p (reached_on P law L s tail.last j y.0 at tail.ran) (λ e. ne (sym e)) tail.view tail.steps
      (others_run P law s tail.last j i y.0 x.0 ne tail.ran (apart_swap (accesses_of x.0) (accesses_of y.0) apart) x.1) late.1 (writes_in s i es x p w)))
      (touches_in s j fs y p t))
      (race_or_apart L s i j x.0 y.0 at ne x.1 y.1)

  -- FIRST CONFLICT
  pub first_conflict : FirstConflict P
  first_conflict s i j n m es fs at ne a b c =
      let x = takes_run n s i es at a in
      let y = takes_run m s j fs at b in
      ⊎_elim
      (λ l. writer_races at.0 s i j es fs c.0 at.1 ne x y l.0 l.1)
      (λ r. reached_swap P j i (writer_races at.0 s j i fs es c.0 at.1 (λ e. ne (sym e)) y x r.1 r.0))
      c.1

module _ {Value Local State : Type 0} (P : Source Value Local State) (law : IsThreaded P) (good : IsGood P) where
  pub runs_apart : (L : List ℕ) (s : State) (i j : ℕ) (hs fs : List (Move Value Local)) → Reached P L s → i ≢ j → RunsAlone P (P.local s i) (P.memory s) hs →
      RunsAlone P (P.local s j) (P.memory s) fs → AreApart (accesses_of hs) (accesses_of fs)
  runs_apart L s i j hs fs at ne r q =
      ⊎_elim
      (λ x. absurd (good.race_free x.route x.state i j x.reached x.races))
      (λ a. a)
      (race_or_apart P law L s i j hs fs at ne r q)
