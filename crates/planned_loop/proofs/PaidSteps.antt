-- A thread in a pipelined loop takes its steps.
use Rattle.std.specs.Prelude.{ℤ, Bool, true, false}
use Rattle.std.proofs.Common.{◌≡◌, ℕ, zero, suc, ◌+◌, ◌-◌, ◌*◌, ◌<◌, ◌≤◌, List, [], ◌∷◌, ◌++◌, length, refl, sym, ap, ◌∙◌, subst, append_assoc, ◌⊎◌, inl}
use Rattle.std.proofs.Common.{inr, ⊎_elim, arith}
use Rattle.std.proofs.lemmas.Nat.{mul-le}
use Rattle.interleaving.specs.Memory.{Memory, Access, memory_after}
use Rattle.interleaving.specs.Source.{Source, Moves, Move, accesses_of, end_of, RunsAlone}
use Rattle.interleaving.specs.Hardware.{OnlyMoves}
use Rattle.interleaving.proofs.Accesses.{memory_after-append}
use Rattle.planned_block.specs.Slot.{Slot}
use Rattle.planned_block.proofs.Bits.{less_or_not, both_true}
use Rattle.planned_loop.specs.Loop.{Loop, Iterations, AreIterations, holds, runs}
use Rattle.planned_loop.specs.Plan.{LoopPlan, KeepsLoop}
use Rattle.planned_loop.specs.Move.{smaller, prologue, goes_round, GoesOn, Rounds}
use Rattle.planned_loop.specs.Moment.{over_in}
use Rattle.planned_loop.specs.Rest.{Does, TakesTurns, IsIn, HasLeft, cycles_left, LoopRests}
use Rattle.planned_loop.proofs.RoundNumbers.{smaller_is, smaller_low, smaller_high, rounds_are}
use Rattle.planned_loop.proofs.ShownWires.{runs_before}
use Rattle.planned_loop.proofs.CycleSteps as step
use Rattle.planned_loop.proofs.RoundEnds.{loop_goes_on, loop_ends}

module _ {Local State : Type 0} (P : Source ℤ Local State) where
  end_of-append : (x : Local) (fs gs : List (Move ℤ Local)) → end_of x (fs ++ gs) ≡ end_of (end_of x fs) gs
  end_of-append x [] gs = refl
  end_of-append x (h ∷ fs) gs = end_of-append h.to fs gs

  accesses_of-append : (fs gs : List (Move ℤ Local)) → accesses_of (fs ++ gs) ≡ accesses_of fs ++ accesses_of gs
  accesses_of-append [] gs = refl
  accesses_of-append (h ∷ fs) gs = ap (λ es. h.accesses ++ es) (accesses_of-append fs gs) ∙ sym (append_assoc h.accesses (accesses_of fs) (accesses_of gs))

  -- so many steps, and so many behind them
  only_more : (a b : ℕ) (x : Local) (m : Memory ℤ) → OnlyMoves P a x m →
      ((hs : List (Move ℤ Local)) → RunsAlone P x m hs → length hs ≡ a → OnlyMoves P b (end_of x hs) (memory_after (accesses_of hs) m)) →
      OnlyMoves P (a + b) x m
  only_more zero b x m o then = let e : b ≡ 0 + b = omega arith in subst (λ k. OnlyMoves P k x m) e (then [] tt refl)
  only_more (suc a) b x m o then =
      let e : suc (a + b) ≡ suc a + b = omega arith in
      let whole : OnlyMoves P (suc (a + b)) x m = (o.0, λ y es v. only_more a b y (memory_after es m) (o.1 y es v) (λ hs r n. rest y es v hs r n)) in
      subst (λ k. OnlyMoves P k x m) e whole
    where
      rest : (y : Local) (es : List (Access ℤ)) → P.view x m ≡ Moves y es → (hs : List (Move ℤ Local)) → RunsAlone P y (memory_after es m) hs → length hs ≡ a →
          OnlyMoves P b (end_of y hs) (memory_after (accesses_of hs) (memory_after es m))
      rest y es v hs r n =
          let h : Move ℤ Local = record { to = y; accesses = es } in
          subst (λ w. OnlyMoves P b (end_of y hs) w) (memory_after-append es (accesses_of hs) m) (then (h ∷ hs) (v, r) (ap suc n))

  pub record Split (a b : ℕ) (x : Local) (m : Memory ℤ) (hs : List (Move ℤ Local)) : Type 0 where
    pub front : List (Move ℤ Local)
    pub back : List (Move ℤ Local)
    pub is : hs ≡ front ++ back
    pub front_length : length front ≡ a
    pub back_length : length back ≡ b
    pub front_runs : RunsAlone P x m front
    pub back_runs : RunsAlone P (end_of x front) (memory_after (accesses_of front) m) back

  split_run : (a b : ℕ) (x : Local) (m : Memory ℤ) (hs : List (Move ℤ Local)) → RunsAlone P x m hs → length hs ≡ a + b → Split a b x m hs
  split_run zero b x m hs r n = record { front = []; back = hs; is = refl; front_length = refl; back_length = omega arith; front_runs = tt; back_runs = r }
  split_run (suc a) b x m [] r n = absurd (omega arith)
  split_run (suc a) b x m (h ∷ hs) r n =
      let s = split_run a b h.to (memory_after h.accesses m) hs r.1 (omega arith) in
      record {
        front = h ∷ s.front;
        back = s.back;
        is = ap (λ z. h ∷ z) s.is;
        front_length = ap suc s.front_length;
        back_length = s.back_length;
        front_runs = (r.0, s.front_runs);
        back_runs = subst (λ w. RunsAlone P (end_of h.to s.front) w s.back) (sym (memory_after-append h.accesses (accesses_of s.front) m)) s.back_runs;
      }

  does_none : (x : Local) (m : Memory ℤ) (Then : Local → Type 0) → Then x → Does P 0 x m Then
  does_none x m Then t = record { only_moves = tt; leads = λ hs r n. nothing_done hs r n }
    where
      nothing_done : (hs : List (Move ℤ Local)) → RunsAlone P x m hs → length hs ≡ 0 → (accesses_of hs ≡ []) × Then (end_of x hs)
      nothing_done [] r n = (refl, t)
      nothing_done (h ∷ hs) r n = absurd (omega arith)

  pub does_both : (a b : ℕ) (x : Local) (m : Memory ℤ) (First Then : Local → Type 0) → Does P a x m First → ((y : Local) → First y → Does P b y m Then) →
      Does P (a + b) x m Then
  does_both a b x m First Then d next = record {
    only_moves = only_more a b x m d.only_moves
        (λ hs r n. (let t = d.leads hs r n in subst (λ es. OnlyMoves P b (end_of x hs) (memory_after es m)) (sym t.0) (next (end_of x hs) t.1).only_moves));
    leads = λ hs r n. both hs (split_run a b x m hs r n);
  }
    where
      both : (hs : List (Move ℤ Local)) → Split a b x m hs → (accesses_of hs ≡ []) × Then (end_of x hs)
      both hs s =
          let t = d.leads s.front s.front_runs s.front_length in
          let back : RunsAlone P (end_of x s.front) m s.back = subst (λ es. RunsAlone P (end_of x s.front) (memory_after es m) s.back) t.0 s.back_runs in
          let u = (next (end_of x s.front) t.1).leads s.back back s.back_length in (
            ap accesses_of s.is ∙ accesses_of-append s.front s.back ∙ ap (λ es. es ++ accesses_of s.back) t.0 ∙ u.0,
            subst Then (sym (ap (end_of x) s.is ∙ end_of-append x s.front s.back)) u.1,
          )

  does_then : (n : ℕ) (x : Local) (m : Memory ℤ) (First Then : Local → Type 0) → Does P n x m First → ((y : Local) → First y → Then y) → Does P n x m Then
  does_then n x m First Then d more = record { only_moves = d.only_moves; leads = λ hs r k. (let t = d.leads hs r k in (t.0, more (end_of x hs) t.1)) }

  module _ (l : Loop) (p : LoopPlan) (it : Iterations) (steps tested B : ℕ) (Starts Exits : ℕ → Local → Type 0) (are : AreIterations l it)
      (keeps : KeepsLoop l p) (small : p.interval ≤ B)
      (takes : TakesTurns P l it steps tested Starts Exits) where
    -- whole iterations
    pub turns_many : (d n : ℕ) (x : Local) (m : Memory ℤ) → Starts n x → runs l it (n + d) ≡ true → Does P (d * steps) x m (Starts (n + d))
    turns_many zero n x m s run =
        let e : 0 ≡ 0 * steps = omega arith in
        let z : n ≡ n + 0 = omega arith in
        subst (λ k. Does P k x m (Starts (n + 0))) e (does_none x m (Starts (n + 0)) (subst (λ k. Starts k x) z s))
    turns_many (suc d) n x m s run =
        let z : n + suc d ≡ suc (n + d) = omega arith in
        let e : d * steps + steps ≡ suc d * steps = grind arith in
        let both = both_true (runs l it (n + d)) (holds l it (n + d)) (sym (ap (runs l it) z) ∙ run) in
        let front = turns_many d n x m s both.0 in
        subst (λ k. Does P k x m (Starts (n + suc d))) e
        (does_both (d * steps) steps x m (Starts (n + d)) (Starts (n + suc d)) front
        (λ y t. subst (λ k. Does P steps y m (Starts k)) (sym z) (takes.turns m (n + d) y t both.1)))

    module _ (x : Local) (m : Memory ℤ) (q v : Slot) (i : IsIn P l it steps tested Starts Exits p x q) (wire : ℕ → ℤ) where
      abbrev In : Local → Type 0
      In y = IsIn P l it steps tested Starts Exits p y v

      abbrev Left : Local → Type 0
      Left y = HasLeft P l it steps tested Starts Exits p y v

      abbrev Leads : ℕ → Local → Type 0
      Leads n y = (In y × (cycles_left p v.state < cycles_left p q.state + B * n)) ⊎ ((0 < n) × Left y)

      abbrev round : ℕ
      round = smaller i.round (prologue p)

      abbrev base : ℕ
      base = over_in l p it i.round

      state_low : q.state < (prologue p + 1) * p.interval
      state_low =
          let a = i.at.state in
          let b = i.at.inside in
          let c = smaller_is i.round (prologue p) in
          let e = mul-le round p.interval (prologue p) p.interval c.1 (omega arith) in
          let f : (prologue p + 1) * p.interval ≡ prologue p * p.interval + p.interval = grind arith in
          omega (arith, a, b, e, f)

      within : GoesOn l p round i.phase q wire v → (n : ℕ) × Does P n x m (Leads n)
      within g =
          let low = state_low in
          let s = g.state in (
            0,
            does_none x m (Leads 0)
                (inl (
                  record { round = i.round; phase = suc i.phase; at = loop_goes_on l p it are keeps i.round i.phase q v wire i.at g; starts = i.starts },
                  omega arith,
                )),
          )

      -- the state after a round's last one: the next one, or that of the round that repeats
      module _ (r : Rounds l p round i.phase q wire v) where
        state_next : goes_round l p round i.phase q wire ≡ true → (v.state ≡ suc q.state) ⊎ ((round ≡ prologue p) × (v.state ≡ prologue p * p.interval))
        state_next goes =
            let a = i.at.state in
            let last = r.last in
            let s = r.state goes in
            let c = smaller_is i.round (prologue p) in
            ⊎_elim
            (λ lt. (let e : smaller (suc round) (prologue p) ≡ suc round = smaller_low (suc round) (prologue p) (omega arith) in
            let f : smaller (suc round) (prologue p) * p.interval ≡ suc round * p.interval = ap (λ z. z * p.interval) e in
            let g : suc round * p.interval ≡ round * p.interval + p.interval = grind arith in
            inl (omega (arith, a, last, s, f, g))))
            (λ ge. (let e : smaller (suc round) (prologue p) ≡ prologue p = smaller_high (suc round) (prologue p) (omega arith) in
            let f : smaller (suc round) (prologue p) * p.interval ≡ prologue p * p.interval = ap (λ z. z * p.interval) e in
            inr (omega (arith, c, ge), s ∙ f)))
            (less_or_not round (prologue p))

        next_in : goes_round l p round i.phase q wire ≡ true → (y : Local) → Starts (over_in l p it (suc i.round)) y → In y
        next_in goes y s = record { round = suc i.round; phase = 0; at = (loop_ends l p it are keeps i.round i.phase q v wire i.at r).0 goes; starts = s }

        paid_by_steps : goes_round l p round i.phase q wire ≡ true → cycles_left p v.state < cycles_left p q.state + B * steps
        paid_by_steps goes =
            let low = state_low in
            let some = takes.some in
            let m_ = mul-le B 1 B steps (omega arith) some in
            let f : (prologue p + 1) * p.interval ≡ prologue p * p.interval + p.interval = grind arith in
            let b1 : B * 1 ≡ B = grind arith in
            ⊎_elim (λ e. omega (arith, low, e)) (λ e. (let g = e.1 in omega (arith, low, g, f, m_, b1, small))) (state_next goes)

        -- where no iteration ends, the round is one of the prologue
        paid_by_rest : goes_round l p round i.phase q wire ≡ true → suc i.round < p.stages → cycles_left p v.state < cycles_left p q.state + B * 0
        paid_by_rest goes lt =
            let low = state_low in
            let c = smaller_is i.round (prologue p) in
            let b = rounds_are p.stages in
            ⊎_elim (λ e. omega (arith, low, e)) (λ e. (let g = e.0 in absurd (omega (arith, c, b, g, lt)))) (state_next goes)

        goes_on : goes_round l p round i.phase q wire ≡ true → (n : ℕ) × Does P n x m (Leads n)
        goes_on goes = ⊎_elim
            (λ lt. (let z : over_in l p it (suc i.round) ≡ base = omega arith in
            (0, does_none x m (Leads 0) (inl (next_in goes x (subst (λ k. Starts k x) (sym z) i.starts), paid_by_rest goes lt)))))
            (λ le. (let run = step.goes_runs l p it keeps are i.round i.phase q v wire i.at r.works r.last goes le in
            let held = (both_true (runs l it base) (holds l it base) run).1 in
            let z : over_in l p it (suc i.round) ≡ suc base = omega arith in (
              steps,
              does_then steps x m (Starts (suc base)) (Leads steps) (takes.turns m base x i.starts held)
                  (λ y s. inl (next_in goes y (subst (λ k. Starts k y) (sym z) s), paid_by_steps goes)),
            )))
            (less_or_not (suc i.round) p.stages)

        leaves : goes_round l p round i.phase q wire ≡ false → (n : ℕ) × Does P n x m (Leads n)
        leaves stops =
            let over = (loop_ends l p it are keeps i.round i.phase q v wire i.at r).1 stops in
            let n = over.0 in
            let o = over.1 in
            let le : base ≤ n = ⊎_elim (λ lt. absurd (later n o.fails lt)) (λ ge. ge) (less_or_not n base) in
            let z : base + (n - base) ≡ n = omega arith in
            let front = turns_many (n - base) base x m i.starts (ap (runs l it) z ∙ o.running) in
            let some = takes.some_tested in (
              (n - base) * steps + tested,
              does_both ((n - base) * steps) tested x m (Starts (base + (n - base))) (Leads ((n - base) * steps + tested)) front
                  (λ y s. does_then tested y m (Exits n) (Leads ((n - base) * steps + tested)) (takes.exits m n y (subst (λ k. Starts k y) z s) o.fails)
                  (λ w e. inr (omega arith, record { turns = n; over = o; exits = e }))),
            )
          where
            later : (n : ℕ) → holds l it n ≡ false → n < base → ⊥
            later n f lt = let t = (both_true (runs l it n) (holds l it n) (runs_before l p it base (suc n) (omega arith) i.at.running)).1 in cc

        rounds_on : (b : Bool) → goes_round l p round i.phase q wire ≡ b → (n : ℕ) × Does P n x m (Leads n)
        rounds_on true e = goes_on e
        rounds_on false e = leaves e

pub loop_rests : {Local State : Type 0} (P : Source ℤ Local State) (Starts Exits : ℕ → Local → Type 0) → LoopRests P Starts Exits
loop_rests P Starts Exits l p it steps tested B are keeps small takes x m q v i t = ⊎_elim
    (λ g. within P l p it steps tested B Starts Exits are keeps small takes x m q v i t.0 g)
    (λ r. rounds_on P l p it steps tested B Starts Exits are keeps small takes x m q v i t.0 r
    (goes_round l p (smaller i.round (prologue p)) i.phase q t.0) refl)
    t.1
