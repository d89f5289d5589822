-- A call that returns puts its value where its caller keeps it. The caller, and those that wait for it, keep the rest.
use Rattle.std.proofs.Common.{◌≡◌, ◌≢◌, ℕ, ◌<◌, List, [], ◌∷◌, length, ℤ, Option, Some, None, refl, sym, ap, ◌∙◌, subst, ⊎_elim, arith}
use Rattle.std.specs.Prelude.{slice_get}
use Rattle.std.proofs.lemmas.Option.{slice_get_within}
use Rattle.hls_ints.specs.Types.{long_int, wrapped}
use Rattle.c_program.specs.declared.tree.LocalVariable.{LocalVariable}
use Rattle.c_program.specs.Tree.{Program}
use Rattle.thread_semantics.specs.Memory.{element, with_element}
use Rattle.thread_semantics.specs.Work.{Work, Take}
use Rattle.thread_semantics.specs.State.{Frame}
use Rattle.thread_semantics.specs.Move.{resumed}
use Rattle.block_ir.specs.declared.code.Stage.{Stage}
use Rattle.block_ir.specs.Run.{Cells}
use Rattle.code_blocks.specs.declared.homes.Home.{Home}
use Rattle.code_blocks.specs.declared.homes.Home.TheVariants as home
use Rattle.code_blocks.specs.Assigning.{Spares}
use Rattle.code_storage.specs.declared.rooms.Rooms.{Rooms}
use Rattle.code_storage.specs.Housing.{IsHomeOf, AreHomes, homes_in, IsHousing}
use Rattle.code_places.specs.Resuming.{HasShape, home_value, HoldLocals, Caller, IsHeld, AreHeld, Stands, nothing_kept, calling, going_again}
use Rattle.code_places.specs.Seats.{AreWaiting}
use Rattle.code_blocks.proofs.Cells.{row_of, element_with}
use Rattle.code_places.proofs.Shapes.{local_at, lengths_with_element}
use Rattle.code_places.proofs.KeptLocals.{callers_kept, all_waiting}

-- the variable n, which is that of the caller's local slot, gets the value v at long, and no other that is a home changes
module _ (P : Program) (root : ℕ) (H : Rooms) (housed : IsHousing P root H) (rank : ℕ → ℕ) (number : ℕ) (c : Caller) (cs : List Caller)
    (waiting : AreWaiting P root H rank number (c ∷ cs)) (slot n : ℕ) (kept_at : slice_get c.homes slot ≡ Some (home.Variable n)) (v : ℤ)
    (variables after : ℕ → ℤ) (arrays : Cells) (put : after n ≡ wrapped long_int v)
    (others : (m : ℕ) → m < length H.variables → m ≢ n → after m ≡ variables m) where
  home_at : slice_get (homes_in H c.number) slot ≡ Some (home.Variable n)
  home_at = ap (λ hs. slice_get hs slot) (sym waiting.0.homes) ∙ kept_at

  are : AreHomes c.function.locals (homes_in H c.number) (length H.variables)
  are = housed.homes c.number c.function waiting.0.runs waiting.0.found

  other_home : (x j : ℕ) (l : LocalVariable) (o : Option Home) → IsHomeOf (length H.variables) l o → (o ≡ Some (home.Variable n) → ⊥) →
      home_value o after arrays x j ≡ home_value o variables arrays x j
  other_home x j l None is apart = absurd is
  other_home x j l (Some (home.Variable m)) is apart = others m is.1 (λ e. apart (ap (λ k. Some (home.Variable k)) e))
  other_home x j l (Some (home.Array a)) is apart = refl

  -- another element of the caller's locals
  other_kept : (f : Frame) → IsHeld c variables arrays f → (x j : ℕ) (u : ℤ) → (x ≡ slot → j ≡ 0 → ⊥) → element f.locals x j ≡ Some (Some u) →
      home_value (slice_get (homes_in H c.number) x) after arrays x j ≡ u
  other_kept f held x j u apart e =
      let at = row_of f.locals x j (Some u) e in
      let l = local_at c.function.locals f.locals x at.0 held.shape at.1 in
      let within = slice_get_within at.0 j (Some u) at.2 in
      let long = l.2 in
      other_home x j l.0 (slice_get (homes_in H c.number) x) (are.each x l.0 l.1)
      (λ q. apart (are.variables x slot n q home_at) (let one = (subst (IsHomeOf (length H.variables) l.0) q (are.each x l.0 l.1)).0 in omega (arith, within, long, one)))
      ∙ subst (λ hs. HoldLocals hs variables arrays f.locals) waiting.0.homes held.locals x j u e

  locals_kept : (f : Frame) → IsHeld c variables arrays f → HoldLocals c.homes after arrays (with_element f.locals slot 0 (Some (wrapped long_int v)))
  locals_kept f held = subst (λ hs. HoldLocals hs after arrays (with_element f.locals slot 0 (Some (wrapped long_int v)))) (sym waiting.0.homes)
      (λ x j u e.
      ⊎_elim
      (λ p.
      let same : u ≡ wrapped long_int v = (let q = p.2 in cc) in
      ap (λ o. home_value o after arrays x j) (ap (λ y. slice_get (homes_in H c.number) y) p.0 ∙ home_at) ∙ put ∙ sym same)
      (λ p. other_kept f held x j u p.0 p.1)
      (element_with f.locals slot 0 (Some (wrapped long_int v)) x j (Some u) e))

  spared : Spares (homes_in H c.number) (length H.variables) variables after arrays arrays
  spared = record {
    variables_ = λ m lt free. others m lt (λ e. free slot (home_at ∙ ap (λ k. Some (home.Variable k)) (sym e)));
    arrays_ = λ a free. refl;
  }

  -- so the caller goes on with it
  pub returned_stands : (stages : List Stage) (word : ℕ) (k : List Work) (f : Frame) (fs : List Frame) → c.work ≡ Take (Some slot) ∷ k → AreHeld (c ∷ cs) variables arrays (f ∷ fs) →
      Stands (calling P stages word c cs) c.homes nothing_kept after arrays (resumed (Some v) f.work f) fs × ((resumed (Some v) f.work f).work ≡ going_again c.work)
  returned_stands stages word k f fs is held =
      subst (λ w. Stands (calling P stages word c cs) c.homes nothing_kept after arrays (resumed (Some v) w f) fs × ((resumed (Some v) w f).work ≡ going_again c.work))
      (sym (held.0.work ∙ is)) (
        record {
          number = held.0.number;
          shape = lengths_with_element f.locals slot 0 (Some (wrapped long_int v)) ∙ held.0.shape;
          locals = locals_kept f held.0;
          kept = tt;
          callers = callers_kept P root H housed rank c.number variables after arrays arrays spared cs fs (all_waiting P root H rank c.number cs waiting.1) held.1;
        },
        ap going_again (sym is),
      )

-- a call whose value is dropped, or that returns none
module _ (P : Program) (c : Caller) (cs : List Caller) (variables : ℕ → ℤ) (arrays : Cells) (stages : List Stage) (word : ℕ) (k : List Work) (f : Frame) (fs : List Frame)
    (held : AreHeld (c ∷ cs) variables arrays (f ∷ fs)) where
  pub dropped_stands : (v : Option ℤ) → c.work ≡ Take None ∷ k →
      Stands (calling P stages word c cs) c.homes nothing_kept variables arrays (resumed v f.work f) fs × ((resumed v f.work f).work ≡ going_again c.work)
  dropped_stands v is =
      subst (λ w. Stands (calling P stages word c cs) c.homes nothing_kept variables arrays (resumed v w f) fs × ((resumed v w f).work ≡ going_again c.work)) (sym (held.0.work ∙ is))
      (record { number = held.0.number; shape = held.0.shape; locals = held.0.locals; kept = tt; callers = held.1 }, ap going_again (sym is))

  pub nothing_stands : (slot : ℕ) → c.work ≡ Take (Some slot) ∷ k →
      Stands (calling P stages word c cs) c.homes nothing_kept variables arrays (resumed None f.work f) fs × ((resumed None f.work f).work ≡ going_again c.work)
  nothing_stands slot is =
      subst (λ w. Stands (calling P stages word c cs) c.homes nothing_kept variables arrays (resumed None w f) fs × ((resumed None w f).work ≡ going_again c.work)) (sym (held.0.work ∙ is)) (
        record {
          number = held.0.number;
          shape = lengths_with_element f.locals slot 0 None ∙ held.0.shape;
          locals = λ x j u e.
              ⊎_elim (λ p. absurd (let q = p.2 in cc)) (λ p. held.0.locals x j u p.1) (element_with f.locals slot 0 None x j (Some u) e);
          kept = tt;
          callers = held.1;
        },
        ap going_again (sym is),
      )
