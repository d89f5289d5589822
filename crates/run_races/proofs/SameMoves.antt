-- What a thread reads stays where the step of another one doesn't write it, and so does its move.
use Rattle.std.proofs.Common.{◌≡◌, ◌≢◌, ℕ, zero, suc, List, [], ◌∷◌, ◌++◌, map, refl, ap, sym, ◌∙◌, subst, arith}
use Rattle.std.specs.Prelude.{true, Option, Some, None, slice_set, ℤ, Contains}
use Rattle.std.specs.List.{AllByRecursion}
use Rattle.std.proofs.lemmas.List.Elements.{Contains-append_right}
use Rattle.c_program.specs.Tree.{Program}
use Rattle.thread_semantics.specs.Memory.{Location, element, with_element}
use Rattle.thread_semantics.specs.State.{Frame, Running, Finished, State}
use Rattle.thread_semantics.specs.Move.{Move, Write, move}
use Rattle.thread_semantics.specs.Step.{Steps, with_slot, finished, written_to, moved, step}
use Rattle.thread_semantics.specs.Races.{Touch, read_of, write_of, touched}
use Rattle.race_model.proofs.Lists.{element_other}
use Rattle.race_model.proofs.Depends.{IsDefined, reads_in, SameGlobals, move_depends}
use Rattle.race_model.proofs.Acts.{act_acts}
use Rattle.race_model.proofs.Sound.{goes, main_ends}
use Rattle.run_races.specs.Order.{move_in, next_move, Conflict}

abbrev pub AllApart : Location → List Location → Type 0
AllApart place reads = AllByRecursion (λ (p : Location). p ≢ place) reads

-- the reads at the front of what is touched, where nothing touched is at that place
apart_reads : (reads : List Location) (rest : List Touch) (place : Location) → ((t : Touch) → Contains (map read_of reads ++ rest) t → t.place ≢ place) → AllApart place reads
apart_reads [] rest place h = tt
apart_reads (p ∷ reads) rest place h =
    (h (read_of p) (zero, omega arith, refl), apart_reads reads rest place (λ t c. h t (suc c.0, (let l = c.1 in omega (arith, l)), c.2)))

no_rest : (reads : List Location) (place : Location) → ((t : Touch) → Contains (map read_of reads) t → t.place ≢ place) → AllApart place reads
no_rest [] place h = tt
no_rest (p ∷ reads) place h = (h (read_of p) (zero, omega arith, refl), no_rest reads place (λ t c. h t (suc c.0, (let l = c.1 in omega (arith, l)), c.2)))

-- the reads of a move
move_apart : (m : Move) (place : Location) → ((t : Touch) → Contains (touched m) t → t.place ≢ place) → AllApart place (reads_in m)
move_apart (Move.Moves frames reads write) place h = apart_reads reads (write_of write) place h
move_apart (Move.Acts offset act operands frames) place h = tt
move_apart (Move.Ends offset reads) place h = no_rest reads place h
move_apart (Move.Faults offset cause) place h = tt
move_apart Move.Impossible place h = tt

-- what a move writes
abbrev pub write_in : Move → Option Write
write_in (Move.Moves frames reads write) = write
write_in m = None

pub written_touched : (m : Move) (w : Write) → write_in m ≡ Some w → Contains (touched m) (record { place = w.place; written = true })
written_touched (Move.Moves frames reads (Some v)) w e =
    let same : v ≡ w = cc in
    subst (λ u. Contains (map read_of reads ++ write_of (Some v)) (record { place = u.place; written = true })) same
    (Contains-append_right (map read_of reads) (write_of (Some v)) (record { place = v.place; written = true }) (zero, omega arith, refl))
written_touched (Move.Moves frames reads None) w e = absurd cc
written_touched (Move.Acts offset act operands frames) w e = absurd cc
written_touched (Move.Ends offset reads) w e = absurd cc
written_touched (Move.Faults offset cause) w e = absurd cc
written_touched Move.Impossible w e = absurd cc

other_element : (G : List (List ℤ)) (w : Write) (p : Location) → p ≢ w.place →
    element (with_element G w.place.variable w.place.index w.value) p.variable p.index ≡ element G p.variable p.index
other_element G w p apart =
    element_other G w.place.variable w.place.index p.variable p.index w.value
    (λ e. apart (λ i. record { variable = sym e.0 i; index = sym e.1 i }))

after_is_same : (G : List (List ℤ)) (w : Write) (reads : List Location) → AllApart w.place reads → SameGlobals (written_to G (Some w)) G reads
after_is_same G w [] apart = tt
after_is_same G w (p ∷ reads) apart = (other_element G w p apart.0, after_is_same G w reads apart.1)

before_is_same : (G : List (List ℤ)) (w : Write) (reads : List Location) → AllApart w.place reads → SameGlobals G (written_to G (Some w)) reads
before_is_same G w [] apart = tt
before_is_same G w (p ∷ reads) apart = (sym (other_element G w p apart.0), before_is_same G w reads apart.1)

all_same : (G : List (List ℤ)) (reads : List Location) → SameGlobals G G reads
all_same G [] = tt
all_same G (p ∷ reads) = (refl, all_same G reads)

module _ (P : Program) (s t : State) (j : ℕ) where
  finished_globals : (k offset : ℕ) → finished s k offset ≡ Steps t → t.globals ≡ s.globals
  finished_globals zero offset e = ap (λ (u : State). u.globals) (main_ends s t offset e).1
  finished_globals (suc k) offset e =
      let same : with_slot s (suc k) Finished ≡ t = cc in
      ap (λ (u : State). u.globals) (sym same)

  moved_globals : (m : Move) → moved P s j m ≡ Steps t → t.globals ≡ written_to s.globals (write_in m)
  moved_globals (Move.Moves frames reads write) e =
      let same : record s { globals = written_to s.globals write; slots = slice_set s.slots j (Running frames) } ≡ t = cc in
      ap (λ (u : State). u.globals) (sym same)
  moved_globals (Move.Acts offset act operands frames) e = (act_acts P (with_slot s j (Running frames)) j t offset act operands e).globals
  moved_globals (Move.Ends offset reads) e = finished_globals j offset e
  moved_globals (Move.Faults offset cause) e = absurd cc
  moved_globals Move.Impossible e = absurd cc

  -- the globals after the step
  pub step_globals : step P s j ≡ Steps t → t.globals ≡ written_to s.globals (write_in (next_move P s j))
  step_globals e =
      let g = goes P s t j e in
      let is : next_move P s j ≡ move P s.globals g.frames = ap (move_in P s) g.at in
      moved_globals (move P s.globals g.frames) g.does ∙ ap (λ m. written_to s.globals (write_in m)) (sym is)

module _ (earlier later : Move) (clear : Conflict (touched earlier) (touched later) → ⊥) where
  apart_from : (w : Write) → write_in earlier ≡ Some w → AllApart w.place (reads_in later)
  apart_from w e =
      move_apart later w.place
      (λ t c same. clear (record {
        first = record { place = w.place; written = true };
        second = t;
        first_in = written_touched earlier w e;
        second_in = c;
        same = sym same;
        written = refl;
      }))

  pub same_behind : (G : List (List ℤ)) → SameGlobals (written_to G (write_in earlier)) G (reads_in later)
  same_behind G = go (write_in earlier) refl
    where
      go : (o : Option Write) → write_in earlier ≡ o → SameGlobals (written_to G o) G (reads_in later)
      go None e = all_same G (reads_in later)
      go (Some w) e = after_is_same G w (reads_in later) (apart_from w e)

  pub same_before : (G : List (List ℤ)) → SameGlobals G (written_to G (write_in earlier)) (reads_in later)
  same_before G = go (write_in earlier) refl
    where
      go : (o : Option Write) → write_in earlier ≡ o → SameGlobals G (written_to G o) (reads_in later)
      go None e = all_same G (reads_in later)
      go (Some w) e = before_is_same G w (reads_in later) (apart_from w e)

module _ (P : Program) (s t : State) (j : ℕ) (steps : step P s j ≡ Steps t) (frames : List Frame) where
  -- the move behind the step of another thread, that doesn't conflict with it, was there before
  pub move_before : IsDefined (move P t.globals frames) → (Conflict (touched (next_move P s j)) (touched (move P t.globals frames)) → ⊥) →
      move P s.globals frames ≡ move P t.globals frames
  move_before defined clear =
      move_depends P t.globals s.globals frames defined
      (subst (λ G. SameGlobals G s.globals (reads_in (move P t.globals frames))) (sym (step_globals P s t j steps))
      (same_behind (next_move P s j) (move P t.globals frames) clear s.globals))

  -- and the move before it is there behind it
  pub move_behind : IsDefined (move P s.globals frames) → (Conflict (touched (next_move P s j)) (touched (move P s.globals frames)) → ⊥) →
      move P t.globals frames ≡ move P s.globals frames
  move_behind defined clear =
      move_depends P s.globals t.globals frames defined
      (subst (λ G. SameGlobals s.globals G (reads_in (move P s.globals frames))) (sym (step_globals P s t j steps))
      (same_before (next_move P s j) (move P s.globals frames) clear s.globals))
