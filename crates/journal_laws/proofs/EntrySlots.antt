-- A slot put in, taken back, and the entry that is made of it.
use Rattle.std.specs.Prelude.{◌≡◌, ℕ, ◌<◌, ◌≤◌, ◌⊎◌, Bool, true, false, List, [], ◌++◌, length, Some, refl}
use Rattle.std.proofs.Common.{ap, sym, ◌∙◌, subst, ⊎_elim}
use Rattle.std.proofs.lemmas.Option.{same_Some}
use Rattle.std.proofs.lemmas.List.{append-nil}
use Rattle.netlist.specs.declared.netlist.Module.{Module}
use Rattle.verilog_meaning.specs.Names.{top_of}
use Rattle.verilog_meaning.specs.Cycles.{Valuation, IsSameIn, Cycle, ShowsDone}
use Rattle.verilog_meaning.specs.Threads.{slot, alone, all_enabled, IsSame, IsSameSlot, Needs, IsThreaded, Moves}
use Rattle.sim_layout.specs.Rounds.{threads_of}
use Rattle.sim_layout.specs.Running.{Running, Stands, state_of, IsSameNet, IsSameState, IsCycleOf, Prints}
use Rattle.slot_sim.proofs.FlatLaws.{cycle_once}
use Rattle.slot_sim.proofs.Same.{same_trans, cycle_moved}
use Rattle.slot_sim.specs.Slots.{IsThreadedIn, IsSameSlotOf, IsTaken}
use Rattle.slot_sim.specs.Threaded.{IsSameBut}
use Rattle.slot_sim.proofs.WhoMoves.{state_in}
use Rattle.slot_sim.proofs.Sames.{to_at, but_trans, taken_is_same}
use Rattle.slot_sim.proofs.Trials.{needs_move}
use Rattle.journal_text.specs.declared.entry.Entry.{Entry}
use Rattle.journal_laws.specs.Journal.{made, CanMove}
use Rattle.journal_laws.specs.Steps.{OfTop, CanOpen, OpensTo, Opens, IsCopyRun, IsEntered, IsWaiting, IsPutIn, IsPutPrinting}
use Rattle.journal_laws.proofs.LoneCycles.{but_sym, slot_within, slot_sym, slot_trans}
use Rattle.journal_laws.proofs.Judgements.{can_move, moving, need_told, need_tells}
use Rattle.journal_laws.proofs.Alike.{can_move_from, of_top}
use Rattle.journal_laws.proofs.MadeEntries as committing

-- ---- what a later simulator's cycle is of an earlier one

module _ (p s : Running) (net : IsSameNet p s) (state : IsSameState p s) (i : ℕ) where
  cycle_here : (top : Module) → top_of s.modules ≡ Some top → (next : Valuation) (bytes : List ℕ) → Cycle s.modules top (state_of s) (alone i) next bytes
      → Cycle p.modules state.top (state_of p) (alone i) next bytes
  cycle_here top e next bytes cycle =
      let named : Cycle s.modules state.top (state_of s) (alone i) next bytes =
      subst (λ (x : Module). Cycle s.modules x (state_of s) (alone i) next bytes) (same_Some top state.top (sym e ∙ ap top_of net.modules ∙ state.is_top)) cycle in
      cycle_moved p.modules state.top (state_of p) (state_of s) state.same (alone i) next bytes
      (subst (λ (ms : List Module). Cycle ms state.top (state_of s) (alone i) next bytes) net.modules named)

  pub cycle_back : (new : Running) (before after : List ℕ) → IsCycleOf (alone i) s new before after
      → OfTop p (λ ms top n. (bytes : List ℕ) × Cycle ms top (state_of p) (alone i) (state_of new) bytes × (after ≡ before ++ bytes))
  cycle_back new before after c = record {
    top = state.top;
    is_top = state.is_top;
    holds = (c.bytes, cycle_here c.top c.is_top (state_of new) c.bytes c.cycle, c.appended);
  }

  pub prints_back : Prints (alone i) s → OfTop p (λ ms top n. (next : Valuation) × (bytes : List ℕ) × Cycle ms top (state_of p) (alone i) next bytes × (0 < length bytes))
  prints_back c = record { top = state.top; is_top = state.is_top; holds = (c.next, c.bytes, cycle_here c.top c.is_top c.next c.bytes c.cycle, c.something) }

pub same_top : (p s : Running) → IsSameState p s → OfTop p (λ ms top n. IsSame ms top n (state_of p) (state_of s))
same_top p s state = record { top = state.top; is_top = state.is_top; holds = state.same }

-- ---- taken over

abbrev pub TakenAt : List Module → Module → ℕ → ℕ → Valuation → Valuation → Valuation → Type 0
TakenAt ms top n i o h g = IsSameSlot ms top n i o g × IsSameBut ms top (slot ms top n i) h g

pub taken_at : (r o g : Running) (i : ℕ) → IsTaken (threads_of r.modules) i r o g → (top : Module) → top_of r.modules ≡ Some top
    → TakenAt r.modules top (threads_of r.modules) i (state_of o) (state_of r) (state_of g)
taken_at r o g i t top e =
    subst (λ (x : Module). TakenAt r.modules x (threads_of r.modules) i (state_of o) (state_of r) (state_of g)) (same_Some t.top top (sym t.is_top ∙ e)) (t.taken, t.kept)

-- a slot is taken back
pub taken_back : (r local p s q start new : Running) (i : ℕ) → IsSameSlotOf (threads_of r.modules) i r start → IsTaken (threads_of r.modules) i r local p →
    IsSameNet p s → IsSameState p s → IsSameNet s q → IsSameState s q
    → IsTaken (threads_of q.modules) i q start new → IsSameState r new
taken_back r local p s q start new i same taken pn ps qn qs back =
    let top = same.top in
    let e = same.is_top in
    let ms = r.modules in
    let n = threads_of r.modules in
    let path = slot ms top n i in
    let first = taken_at r local p i taken top e in
    let p_is : p.modules ≡ ms = taken.net.modules in
    let s_is : s.modules ≡ ms = pn.modules ∙ p_is in
    let q_is : q.modules ≡ ms = qn.modules ∙ s_is in
    let there : TakenAt ms top n i (state_of start) (state_of q) (state_of new) =
    subst (λ (x : List Module). TakenAt x top (threads_of x) i (state_of start) (state_of q) (state_of new)) q_is (taken_at q start new i back top (ap top_of q_is ∙ e)) in
    let between : IsSameIn ms top [] (state_of p) (state_of q) = same_trans ms top (state_of p) (state_of s) (state_of q) (state_in p s ms top p_is e ps) (state_in s q ms top s_is e qs) in
    let but : IsSameBut ms top path (state_of r) (state_of new) =
    but_trans ms top path (state_of r) (state_of p) (state_of new) first.1
    (but_trans ms top path (state_of p) (state_of q) (state_of new) (λ p other. to_at ms top _ _ between p) there.1) in
    record { top = top; is_top = e; same = taken_is_same ms top n i (state_of r) (state_of new) but (slot_trans ms top n i (state_of r) (state_of start) (state_of new) same.same there.0) }

-- ---- the entry

module _ (r : Running) (st : Stands r) (i closed : ℕ) (threaded : IsThreadedIn r.modules (threads_of r.modules)) (below : i < threads_of r.modules) (few : closed ≤ 4096)
    (running : OfTop r (λ ms top n. ShowsDone ms top (state_of r) (all_enabled n []) 0)) (start local put : Running) (same : IsSameSlotOf (threads_of r.modules) i r start)
    (run : OfTop r (λ ms top n. IsCopyRun ms top n i closed (state_of start) (state_of local))) (taken : IsTaken (threads_of r.modules) i r local put) where
  abbrev top : Module
  top = same.top

  abbrev e : top_of r.modules ≡ Some top
  e = same.is_top

  abbrev ms : List Module
  ms = r.modules

  abbrev n : ℕ
  n = threads_of r.modules

  abbrev h : Valuation
  h = state_of r

  abbrev l : Valuation
  l = state_of local

  abbrev p : Valuation
  p = state_of put

  abbrev t : IsThreaded ms top n
  t = threaded top e

  copy : IsCopyRun ms top n i closed (state_of start) l
  copy = of_top (λ ms top n. IsCopyRun ms top n i closed (state_of start) l) r run top e

  shows : ShowsDone ms top h (all_enabled n []) 0
  shows = of_top (λ ms top n. ShowsDone ms top h (all_enabled n []) 0) r running top e

  there : TakenAt ms top n i l h p
  there = taken_at r local put i taken top e

  from_same : IsSameSlot ms top n i h copy.from
  from_same = slot_trans ms top n i h (state_of start) copy.from same.same copy.begins

  put_top : top_of put.modules ≡ Some top
  put_top = ap top_of taken.net.modules ∙ e

  -- with the slot put in elsewhere the state is the same
  same_put : (out : List ℕ) (o : OpensTo ms top n i h l out) → IsSame ms top n p o.put
  same_put out o =
      let path = slot ms top n i in
      taken_is_same ms top n i p o.put (but_trans ms top path p h o.put (but_sym ms top path h p there.1) o.kept)
      (slot_trans ms top n i p l o.put (slot_sym ms top n i l p there.0) o.taken)

  abbrev Here : (List Module → Module → ℕ → Type 0) → Type 0
  Here P = P put.modules top (threads_of put.modules) → P ms top n

  here : (P : List Module → Module → ℕ → Type 0) → Here P
  here P = subst (λ (x : List Module). P x top (threads_of x)) taken.net.modules

  pub waits_here : (CanOpen i put → ⊥) → Opens ms top n i h l → ⊥
  waits_here waits opens =
      let o = opens.1 in
      let is = same_put opens.0 o in
      let need : Needs ms top n p (alone i) i 1 = needs_move ms top n p o.put (alone i) i 1 is o.need in
      let move : CanMove ms top n p i = can_move_from ms top n i p o.put is (record { next = o.next; out = opens.0; cycle = o.cycle; changes = o.changes }) in
      waits (
        need_tells put top put_top (threads_of put.modules) i (subst (λ (x : List Module). Needs x top (threads_of x) p (alone i) i 1) (sym taken.net.modules) need),
        moving put top put_top (threads_of put.modules) i (subst (λ (x : List Module). CanMove x top (threads_of x) p i) (sym taken.net.modules) move),
      )

  pub closed_waits : (CanOpen i put → ⊥) → Needs ms top n p (alone i) i 1 → CanMove ms top n p i → ⊥
  closed_waits waits need move =
      waits (
        need_tells put top put_top (threads_of put.modules) i (subst (λ (x : List Module). Needs x top (threads_of x) p (alone i) i 1) (sym taken.net.modules) need),
        moving put top put_top (threads_of put.modules) i (subst (λ (x : List Module). CanMove x top (threads_of x) p i) (sym taken.net.modules) move),
      )

  pub opens_here : CanOpen i put → (k : Valuation) (bytes : List ℕ) → Cycle ms top p (alone i) k bytes → OpensTo ms top n i h l bytes
  opens_here can k bytes cycle =
      let move : CanMove ms top n p i = here (λ ms top n. CanMove ms top n p i) (can_move put top put_top (threads_of put.modules) i can.1) in
      let once = cycle_once r st top e p k move.next (alone i) bytes move.out cycle move.cycle in record {
        put = p;
        kept = there.1;
        taken = there.0;
        need = here (λ ms top n. Needs ms top n p (alone i) i 1) (need_told put top put_top (threads_of put.modules) i can.0);
        next = k;
        cycle = cycle;
        changes = λ is. move.changes (slot_trans ms top n i p k move.next is (slot_within ms top n i k move.next once.0));
      }

  abbrev Made : Running → List ℕ → List ℕ → Entry → Type 0
  Made new before after m =
      OfTop r (λ ms top n. (bytes : List ℕ) × (after ≡ before ++ bytes) × IsEntered ms top n i closed h l (state_of new) bytes m)

  pub made_open : (new : Running) (before after : List ℕ) → CanOpen i put
      → OfTop put (λ ms top n. (bytes : List ℕ) × Cycle ms top p (alone i) (state_of new) bytes × (after ≡ before ++ bytes)) → Made new before after (made i closed true)
  unfolding opens_here
  made_open new before after can o =
      let k = state_of new in
      let x = here (λ ms top n. (bytes : List ℕ) × Cycle ms top p (alone i) k bytes × (after ≡ before ++ bytes))
      (of_top (λ ms top n. (bytes : List ℕ) × Cycle ms top p (alone i) k bytes × (after ≡ before ++ bytes)) put o top put_top) in
      let opens = opens_here can k x.0 x.1 in record {
        top = top;
        is_top = e;
        holds = (
          x.0,
          x.2,
          record {
            opened = true;
            is = refl;
            opens = λ z. (x.0, opens);
            only = λ z. refl;
            enters =
                committing.entered_open r st top e n i closed t refl below few shows copy.from l copy.state from_same copy.run p there.1 there.0 opens.need k x.0 x.1 opens.changes;
          },
        );
      }

  pub made_closed : (new : Running) (before after : List ℕ) → 0 < closed → (CanOpen i put → ⊥) → OfTop put (λ ms top n. IsSame ms top n p (state_of new)) → after ≡ before
      → Made new before after (made i closed false)
  made_closed new before after some waits o written =
      let k = state_of new in
      let is : IsSame ms top n p k = here (λ ms top n. IsSame ms top n p k) (of_top (λ ms top n. IsSame ms top n p k) put o top put_top) in record {
        top = top;
        is_top = e;
        holds = (
          [],
          written ∙ sym (append-nil before),
          record {
            opened = false;
            is = refl;
            opens = λ z. absurd cc;
            only = λ opens. absurd (waits_here waits opens);
            enters =
                committing.entered_closed r st top e n i closed t refl below few shows copy.from l copy.state from_same copy.run p there.1 there.0 some copy.whole (closed_waits waits) k is;
          },
        );
      }

  pub made_none : (new : Running) → closed ≡ 0 → (CanOpen i put → ⊥) → OfTop put (λ ms top n. IsSame ms top n p (state_of new))
      → OfTop r (λ ms top n. IsWaiting ms top n i closed h l (state_of new))
  made_none new none waits o =
      let k = state_of new in
      let is : IsSame ms top n p k = here (λ ms top n. IsSame ms top n p k) (of_top (λ ms top n. IsSame ms top n p k) put o top put_top) in
      let moves : Moves ms top n 0 i closed h p =
      committing.closed_moves r st top e n i closed t refl below few shows copy.from l copy.state from_same copy.run p there.1 there.0 in
      let stays : Moves ms top n 0 i 0 h p = subst (λ (c : ℕ). Moves ms top n 0 i c h p) none moves in record {
        top = top;
        is_top = e;
        holds = record { none = none; waits = waits_here waits; same = same_trans ms top h p k stays is };
      }

  -- an open cycle that writes something
  pub printing : CanOpen i put → OfTop put (λ ms top n. (next : Valuation) × (bytes : List ℕ) × Cycle ms top p (alone i) next bytes × (0 < length bytes))
      → OfTop r (λ ms top n. (bytes : List ℕ) × OpensTo ms top n i h l bytes × (0 < length bytes))
  printing can o =
      let x = here (λ ms top n. (next : Valuation) × (bytes : List ℕ) × Cycle ms top p (alone i) next bytes × (0 < length bytes))
      (of_top (λ ms top n. (next : Valuation) × (bytes : List ℕ) × Cycle ms top p (alone i) next bytes × (0 < length bytes)) put o top put_top) in
      record { top = top; is_top = e; holds = (x.1, opens_here can x.0 x.1 x.2, x.3) }

-- the entry, by whether the open cycle was done
pub entered : (r : Running) (st : Stands r) (i closed : ℕ) → IsThreadedIn r.modules (threads_of r.modules) → i < threads_of r.modules → closed ≤ 4096
    → OfTop r (λ ms top n. ShowsDone ms top (state_of r) (all_enabled n []) 0) → (start local new : Running) → IsSameSlotOf (threads_of r.modules) i r start
    → OfTop r (λ ms top n. IsCopyRun ms top n i closed (state_of start) (state_of local)) → (before after : List ℕ) (opened : Bool) → IsPutIn i r local new before after opened
    → (0 < closed) ⊎ (opened ≡ true)
    → OfTop r (λ ms top n. (bytes : List ℕ) × (after ≡ before ++ bytes) × IsEntered ms top n i closed (state_of r) (state_of local) (state_of new) bytes (made i closed opened))
entered r st i closed threaded below few running start local new same run before after true put some =
    let o = put.opens refl in made_open r st i closed threaded below few running start local put.put same run put.taken new before after o.0 o.1
entered r st i closed threaded below few running start local new same run before after false put some =
    let w = put.waits refl in
    let positive : 0 < closed = ⊎_elim (λ l. l) (λ (x : false ≡ true). absurd cc) some in
    made_closed r st i closed threaded below few running start local put.put same run put.taken new before after positive w.0 w.1 w.2

pub waited : (r : Running) (st : Stands r) (i closed : ℕ) → IsThreadedIn r.modules (threads_of r.modules) → i < threads_of r.modules → closed ≤ 4096
    → OfTop r (λ ms top n. ShowsDone ms top (state_of r) (all_enabled n []) 0) → (start local new : Running) → IsSameSlotOf (threads_of r.modules) i r start
    → OfTop r (λ ms top n. IsCopyRun ms top n i closed (state_of start) (state_of local)) → (before after : List ℕ) (opened : Bool) → IsPutIn i r local new before
    after opened → closed ≡ 0 → opened ≡ false
    → OfTop r (λ ms top n. IsWaiting ms top n i closed (state_of r) (state_of local) (state_of new)) × (after ≡ before)
waited r st i closed threaded below few running start local new same run before after opened put none unopened =
    let w = put.waits unopened in (made_none r st i closed threaded below few running start local put.put same run put.taken new none w.0 w.1, w.2)

pub wanting : (r : Running) (st : Stands r) (i closed : ℕ) → IsThreadedIn r.modules (threads_of r.modules) → i < threads_of r.modules → closed ≤ 4096
    → OfTop r (λ ms top n. ShowsDone ms top (state_of r) (all_enabled n []) 0) → (start local : Running) → IsSameSlotOf (threads_of r.modules) i r start
    → OfTop r (λ ms top n. IsCopyRun ms top n i closed (state_of start) (state_of local)) → IsPutPrinting i r local
    → OfTop r (λ ms top n. (bytes : List ℕ) × OpensTo ms top n i (state_of r) (state_of local) bytes × (0 < length bytes))
wanting r st i closed threaded below few running start local same run put = printing r st i closed threaded below few running start local put.put same run put.taken put.can put.prints
