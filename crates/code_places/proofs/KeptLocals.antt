-- Callers keep their locals while the code of another call runs.
use Rattle.std.proofs.Common.{◌≡◌, ℕ, ◌<◌, List, [], ◌∷◌, length, ℤ, Option, Some, None, refl, sym, ap, ◌∙◌, subst, arith}
use Rattle.std.specs.Prelude.{slice_get}
use Rattle.std.specs.List.{AllByRecursion}
use Rattle.c_program.specs.declared.tree.LocalVariable.{LocalVariable}
use Rattle.c_program.specs.Tree.{Program}
use Rattle.thread_semantics.specs.State.{Frame}
use Rattle.block_ir.specs.Run.{Cells}
use Rattle.code_blocks.specs.declared.homes.Home.{Home}
use Rattle.code_blocks.specs.declared.homes.Home.TheVariants as home
use Rattle.code_places.specs.declared.lowering.Lowering.{Lowering}
use Rattle.code_blocks.specs.Assigning.{Spares}
use Rattle.code_storage.specs.declared.rooms.Rooms.{Rooms}
use Rattle.code_storage.specs.Housing.{IsHomeOf, homes_in, IsHousing}
use Rattle.code_storage.specs.Objects.{AreObjects}
use Rattle.code_places.specs.Resuming.{home_value, HoldLocals, Caller, IsHeld, AreHeld}
use Rattle.code_places.specs.Control.{Whole}
use Rattle.code_places.specs.Seats.{IsWaiting, AreWaiting, LeadsBack, IsSeated, HasWord, IsSeatedTyping}
use Rattle.code_blocks.specs.Typing.{Typing}
use Rattle.code_blocks.proofs.Cells.{row_of}
use Rattle.code_places.proofs.Shapes.{local_at}

module _ (P : Program) (root : ℕ) (H : Rooms) (housed : IsHousing P root H) (rank : ℕ → ℕ) (number : ℕ) (variables after : ℕ → ℤ) (arrays cells : Cells)
    (spares : Spares (homes_in H number) (length H.variables) variables after arrays cells) where
  home_kept : (c : Caller) → IsWaiting P root H rank number c → (x j : ℕ) (o : Option Home) → slice_get (homes_in H c.number) x ≡ o → (l : LocalVariable) →
      IsHomeOf (length H.variables) l o → home_value o after cells x j ≡ home_value o variables arrays x j
  home_kept c waits x j None at l is = absurd is
  home_kept c waits x j (Some (home.Variable n)) at l is =
      spares.variables_ n is.1
      (λ y e.
      let same : c.number ≡ number = housed.variables_apart c.number number x y n at e in
      let less = waits.above in
      let equal = ap rank same in
      omega (arith, less, equal))
  home_kept c waits x j (Some (home.Array a)) at l is =
      ap (λ row. row j)
      (spares.arrays_ a
      (λ y e.
      let same : c.number ≡ number = housed.arrays_apart c.number number x y a at e in
      let less = waits.above in
      let equal = ap rank same in
      omega (arith, less, equal)))

  caller_kept : (c : Caller) (f : Frame) → IsWaiting P root H rank number c → IsHeld c variables arrays f → IsHeld c after cells f
  caller_kept c f waits held = record {
    number = held.number;
    work = held.work;
    shape = held.shape;
    locals = subst (λ hs. HoldLocals hs after cells f.locals) (sym waits.homes)
        (λ x j v e.
        let at = row_of f.locals x j (Some v) e in
        let l = local_at c.function.locals f.locals x at.0 held.shape at.1 in
        home_kept c waits x j (slice_get (homes_in H c.number) x) refl l.0 ((housed.homes c.number c.function waits.runs waits.found).each x l.0 l.1)
        ∙ subst (λ hs. HoldLocals hs variables arrays f.locals) waits.homes held.locals x j v e);
  }

  pub callers_kept : (cs : List Caller) (fs : List Frame) → AllByRecursion (IsWaiting P root H rank number) cs → AreHeld cs variables arrays fs → AreHeld cs after cells fs
  callers_kept [] [] all held = tt
  callers_kept [] (f ∷ fs) all held = absurd held
  callers_kept (c ∷ cs) [] all held = absurd held
  callers_kept (c ∷ cs) (f ∷ fs) all held = (caller_kept c f all.0 held.0, callers_kept cs fs all.1 held.1)

waiting_more : (P : Program) (root : ℕ) (H : Rooms) (rank : ℕ → ℕ) (low high : ℕ) → rank low < rank high → (cs : List Caller) → AllByRecursion (IsWaiting P root H rank high) cs →
    AllByRecursion (IsWaiting P root H rank low) cs
waiting_more P root H rank low high less [] all = tt
waiting_more P root H rank low high less (c ∷ cs) all = (
  record { found = all.0.found; runs = all.0.runs; homes = all.0.homes; above = (let x = all.0.above in omega (arith, x, less)) },
  waiting_more P root H rank low high less cs all.1,
)

-- all calls that wait are above the one at hand
pub all_waiting : (P : Program) (root : ℕ) (H : Rooms) (rank : ℕ → ℕ) (number : ℕ) (cs : List Caller) → AreWaiting P root H rank number cs → AllByRecursion (IsWaiting P root H rank number) cs
all_waiting P root H rank number [] all = tt
all_waiting P root H rank number (c ∷ cs) all = (all.0, waiting_more P root H rank number c.number all.0.above cs (all_waiting P root H rank c.number cs all.1))

-- the same, of code that is seated
pub seat_kept : (P : Program) (W : Whole) (homes : List Home) (size : ℕ) (c : Lowering) (variables after : ℕ → ℤ) (arrays cells : Cells) (fs : List Frame) → IsSeated P W homes size c →
    Spares homes size variables after arrays cells → AreHeld W.setting.callers variables arrays fs → AreHeld W.setting.callers after cells fs
seat_kept P W homes size c variables after arrays cells fs seated spares held =
    callers_kept W.setting.program seated.root seated.housing seated.housed seated.resolved.acyclic.rank W.setting.number variables after arrays cells
    (subst (λ n. Spares (homes_in seated.housing W.setting.number) n variables after arrays cells) seated.size_is
    (subst (λ hs. Spares hs size variables after arrays cells) seated.homes_are spares))
    W.setting.callers fs
    (all_waiting W.setting.program seated.root seated.housing seated.resolved.acyclic.rank W.setting.number W.setting.callers seated.waiting) held

-- the seat of code that keeps it
pub seat_on : (P : Program) (W : Whole) (homes : List Home) (size : ℕ) (old new : Lowering) → new.back ≡ old.back → new.rooms ≡ old.rooms → new.objects ≡
    old.objects → IsSeated P W homes size old → IsSeated P W homes size new
seat_on P W homes size old new back rooms objects s = record {
  root = s.root;
  housing = s.housing;
  housed = s.housed;
  program = s.program;
  resolved = s.resolved;
  found = s.found;
  runs = s.runs;
  homes_are = s.homes_are;
  size_is = s.size_is;
  word = s.word;
  rooms = rooms ∙ s.rooms;
  waiting = s.waiting;
  back = subst (LeadsBack W) (sym back) s.back;
  objects = subst (AreObjects W.setting.program) (sym objects) s.objects;
}

pub typed_seat_on : (P : Program) (S : Typing) (size : ℕ) (old new : Lowering) → new.back ≡ old.back → new.rooms ≡ old.rooms → new.objects ≡ old.objects →
    IsSeatedTyping P S size old → IsSeatedTyping P S size new
typed_seat_on P S size old new back rooms objects s = record {
  root = s.root;
  housing = s.housing;
  housed = s.housed;
  program = s.program;
  resolved = s.resolved;
  number = s.number;
  found = s.found;
  runs = s.runs;
  rooms = rooms ∙ s.rooms;
  fits = s.fits;
  words = s.words;
  back = subst (HasWord S.types) (sym back) s.back;
  objects = subst (AreObjects S.program) (sym objects) s.objects;
}
