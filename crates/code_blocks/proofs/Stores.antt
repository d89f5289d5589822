-- A value is stored in a variable, an array or a global.
use Rattle.std.proofs.Common.{◌≡◌, ℕ, ◌<◌, ◌≤◌, List, [], ◌∷◌, ◌++◌, length, ℤ, pos, Option, Some, None, refl, sym, ap, ◌∙◌, subst, ⊎_elim, arith, append-nil}
use Rattle.std.specs.Prelude.{slice_get, slice_set}
use Rattle.std.proofs.lemmas.List.{length-set}
use Rattle.std.proofs.lemmas.Option.{slice_get_within}
use Rattle.lists.proofs.Places.{set_other, set_same, set_element}
use Rattle.hls_ints.specs.Types.{IntegerType, wrapped}
use Rattle.c_program.specs.declared.tree.Storage.{Storage}
use Rattle.c_program.specs.declared.tree.Storage.TheVariants.{Automatic, Static}
use Rattle.thread_semantics.specs.Memory.{Memory}
use Rattle.thread_semantics.specs.Move.{Assignment}
use Rattle.block_ir.specs.declared.operand.Operand.{Operand}
use Rattle.block_ir.specs.declared.block.Operation.{Operation}
use Rattle.block_ir.specs.declared.block.Operation.TheVariants.{WriteArray, WriteGlobal}
use Rattle.block_ir.specs.Run.{Write, Running, converted, place_written, global_written, source_value, operand_value, operation_run, operations_run, with_cell}
use Rattle.code_blocks.specs.declared.homes.Home.{Home}
use Rattle.code_blocks.specs.declared.homes.Home.TheVariants as home
use Rattle.code_blocks.specs.declared.places.Target.{Target}
use Rattle.code_blocks.specs.declared.places.Target.TheVariants as target
use Rattle.code_blocks.specs.declared.open_block.OpenBlock.{OpenBlock}
use Rattle.code_blocks.specs.Needs.{IsConverted, IsBelow, AreBelow}
use Rattle.code_blocks.specs.Evaluating.{current_value, with_more, local_target, target_at, local_value, Holds}
use Rattle.code_blocks.specs.Closing.{HasNoted}
use Rattle.code_blocks.specs.Assigning.{Stores, IsHomed, HaveHomes, HasElement, IsThere, memory_after, Assigned}
use Rattle.code_blocks.proofs.OperationRuns.{operand_stays}
use Rattle.code_blocks.proofs.Cells.{element_with, row_of, cell_same, cell_other}

pub conversion_right : (variables : ℕ → ℤ) (values : List ℤ) (ty : IntegerType) (a b : Operand) (v : ℤ) → IsConverted ty a b → operand_value variables values a ≡ v →
    operand_value variables values b ≡ wrapped ty v
conversion_right variables values ty a b v h e =
    ap (λ s. converted b.conversions (source_value variables values s)) h.source ∙ h.value (source_value variables values a.source) ∙ ap (wrapped ty) e

-- the operations of a store
abbrev pub store_operations : (t : Target) (value : Operand) (old new : OpenBlock) → Stores t value old new → List Operation
store_operations (target.Variable n ty) value old new h = []
store_operations (target.Array a n ty index) value old new h = WriteArray a n index h.stored ∷ []
store_operations (target.Global g n ty index) value old new h = WriteGlobal g n index h.stored ∷ []

pub store_added : (t : Target) (value : Operand) (old new : OpenBlock) (h : Stores t value old new) → new.operations ≡ old.operations ++ store_operations t value old new h
store_added (target.Variable n ty) value old new h = h.operations ∙ sym (append-nil old.operations)
store_added (target.Array a n ty index) value old new h = ap (λ (z : OpenBlock). z.operations) h.added
store_added (target.Global g n ty index) value old new h = ap (λ (z : OpenBlock). z.operations) h.added

pub store_size : (t : Target) (value : Operand) (old new : OpenBlock) → Stores t value old new → length new.current ≡ length old.current
store_size (target.Variable n ty) value old new h = ap length h.current ∙ length-set old.current n (Some h.stored)
store_size (target.Array a n ty index) value old new h = ap (λ (z : OpenBlock). length z.current) h.added
store_size (target.Global g n ty index) value old new h = ap (λ (z : OpenBlock). length z.current) h.added

pub store_steps : (t : Target) (value : Operand) (old new : OpenBlock) → Stores t value old new → new.steps ≡ old.steps
store_steps (target.Variable n ty) value old new h = h.steps
store_steps (target.Array a n ty index) value old new h = ap (λ (z : OpenBlock). z.steps) h.added
store_steps (target.Global g n ty index) value old new h = ap (λ (z : OpenBlock). z.steps) h.added

pub store_noted : (t : Target) (value : Operand) (old new : OpenBlock) → Stores t value old new → HasNoted old → HasNoted new
store_noted (target.Variable n ty) value old new h noted = h.noted noted
store_noted (target.Array a n ty index) value old new h noted = subst HasNoted (sym h.added) noted
store_noted (target.Global g n ty index) value old new h noted = subst HasNoted (sym h.added) noted

pub store_below : (t : Target) (value : Operand) (old new : OpenBlock) (k : ℕ) → Stores t value old new → IsBelow k value → AreBelow k old.current → AreBelow k new.current
store_below (target.Variable n ty) value old new k h below fits = λ x o e.
    ⊎_elim
    (λ p. let same : o ≡ h.stored = cc in subst (IsBelow k) (sym same) (subst (λ s. IsBelow k (record { source = s; conversions = h.stored.conversions })) (sym h.converted.source) below))
    (λ p. fits x o p.1)
    (set_element old.current n x (Some h.stored) (Some o) (ap (λ c. slice_get c x) (sym h.current) ∙ e))
store_below (target.Array a n ty index) value old new k h below fits = subst (AreBelow k) (sym (ap (λ (z : OpenBlock). z.current) h.added)) fits
store_below (target.Global g n ty index) value old new k h below fits = subst (AreBelow k) (sym (ap (λ (z : OpenBlock). z.current) h.added)) fits

-- what a local has is kept by a write of something else
module _ (homes : List Home) (b : OpenBlock) (variables : ℕ → ℤ) (r : Running) (m : Memory) (fits : AreBelow (length r.values) b.current) (homed : HaveHomes homes (length b.current) m.locals)
    (holds : Holds homes b.current variables m r) where
  values_kept : (w : ℤ) (n : ℕ) (o : Option (Option Operand)) → slice_get b.current n ≡ o → current_value o variables (r.values ++ w ∷ []) n ≡ current_value o variables r.values n
  values_kept w n (Some (Some o)) e = operand_stays variables r.values (w ∷ []) o (fits n o e)
  values_kept w n (Some None) e = refl
  values_kept w n None e = refl

  added_held : (w : ℤ) (new : OpenBlock) (o : Operation) → new ≡ with_more b (o ∷ []) → (i : ℕ) →
      current_value (slice_get new.current i) variables (r.values ++ w ∷ []) i ≡ current_value (slice_get b.current i) variables r.values i
  added_held w new o added i =
      ap (λ (z : OpenBlock). current_value (slice_get z.current i) variables (r.values ++ w ∷ []) i) added ∙ values_kept w i (slice_get b.current i) refl

  module _ (x j : ℕ) (ty : IntegerType) (v : ℤ) where
    abbrev assignment_to : Storage → Assignment
    assignment_to storage = record { target = record { storage = storage; variable = x; index = j; ty = ty }; value = v }

    -- a variable
    module _ (n : ℕ) (is : slice_get homes x ≡ Some (home.Variable n)) (there : HasElement m.locals x j) (stored : Operand) (new : List (Option Operand))
        (current : new ≡ slice_set b.current n (Some stored)) (right : operand_value variables r.values stored ≡ wrapped ty v) where
      known : n < length b.current
      known = (subst (λ h. IsHomed (length b.current) h there.row) is (homed.homed x there.row there.found)).1

      single : length there.row ≤ 1
      single = (subst (λ h. IsHomed (length b.current) h there.row) is (homed.homed x there.row there.found)).0

      other : (y i : ℕ) (row : List (Option ℤ)) (u : ℤ) (h : Option Home) → slice_get homes y ≡ h → IsHomed (length b.current) h row → slice_get m.locals y ≡ Some row →
          slice_get row i ≡ Some (Some u) → (y ≡ x → i ≡ j → ⊥) →
          local_value h new variables r y i ≡ local_value h b.current variables r y i
      other y i row u None at fit found e apart = absurd fit
      other y i row u (Some (home.Array a)) at fit found e apart = refl
      other y i row u (Some (home.Variable k)) at fit found e apart =
          ap (λ c. current_value (slice_get c k) variables r.values k) current
          ∙ ap (λ o. current_value o variables r.values k)
          (set_other b.current n k (Some stored)
          (λ same.
          let y_is : y ≡ x = homed.variables y x n (at ∙ ap (λ z. Some (home.Variable z)) same) is in
          let i_in = slice_get_within row i (Some u) e in
          let j_in = there.within in
          let one = fit.0 in
          let two = single in
          apart y_is (omega (arith, i_in, j_in, one, two))))

      pub variable_holds : Holds homes new variables (memory_after Automatic (assignment_to Automatic) m) r
      variable_holds = record {
        locals = λ y i u e.
            ⊎_elim
            (λ p.
            let same : u ≡ wrapped ty v = cc in
            ap (λ z. local_value (slice_get homes z) new variables r z i) p.0
            ∙ ap (λ h. local_value h new variables r x i) is
            ∙ ap (λ c. current_value (slice_get c n) variables r.values n) current
            ∙ ap (λ o. current_value o variables r.values n) (set_same b.current n (Some stored) known)
            ∙ right ∙ sym same)
            (λ p.
            let at = row_of m.locals y i (Some u) p.1 in
            other y i at.0 u (slice_get homes y) refl (homed.homed y at.0 at.1) at.1 at.2 p.0 ∙ holds.locals y i u p.1)
            (element_with m.locals x j (Some (wrapped ty v)) y i (Some u) e);
        globals = holds.globals;
      }

    -- an array
    module _ (a : ℕ) (is : slice_get homes x ≡ Some (home.Array a)) (s : Running) (w z : ℤ) (right : w ≡ wrapped ty v) (values : s.values ≡ r.values ++ z ∷ [])
        (arrays : s.arrays ≡ with_cell a j w r.arrays) (globals : s.globals ≡ r.globals) where
      array_other : (y i : ℕ) (h : Option Home) → slice_get homes y ≡ h → (y ≡ x → i ≡ j → ⊥) → local_value h b.current variables s y i ≡ local_value h b.current variables r y i
      array_other y i None at apart = ap (λ vs. current_value (slice_get b.current y) variables vs y) values ∙ values_kept z y (slice_get b.current y) refl
      array_other y i (Some (home.Variable k)) at apart = ap (λ vs. current_value (slice_get b.current k) variables vs k) values ∙ values_kept z k (slice_get b.current k) refl
      array_other y i (Some (home.Array c)) at apart =
          ap (λ cells. cells c i) arrays
          ∙ cell_other a j w r.arrays c i (λ same. apart (homed.arrays y x a (at ∙ ap (λ q. Some (home.Array q)) same) is))

      pub array_holds : Holds homes b.current variables (memory_after Automatic (assignment_to Automatic) m) s
      array_holds = record {
        locals = λ y i u e.
            ⊎_elim
            (λ p.
            let same : u ≡ wrapped ty v = cc in
            ap (λ q. local_value (slice_get homes q) b.current variables s q i) p.0
            ∙ ap (λ h. local_value h b.current variables s x i) is
            ∙ ap (λ cells. cells a i) arrays ∙ cell_same a j w r.arrays a i refl p.1 ∙ right ∙ sym same)
            (λ p. array_other y i (slice_get homes y) refl p.0 ∙ holds.locals y i u p.1)
            (element_with m.locals x j (Some (wrapped ty v)) y i (Some u) e);
        globals = λ y i u e. ap (λ cells. cells y i) globals ∙ holds.globals y i u e;
      }

    -- a global
    module _ (s : Running) (w z : ℤ) (right : w ≡ wrapped ty v) (values : s.values ≡ r.values ++ z ∷ []) (arrays : s.arrays ≡ r.arrays) (globals : s.globals ≡ with_cell x j w r.globals) where
      global_local : (y i : ℕ) (h : Option Home) → local_value h b.current variables s y i ≡ local_value h b.current variables r y i
      global_local y i None = ap (λ vs. current_value (slice_get b.current y) variables vs y) values ∙ values_kept z y (slice_get b.current y) refl
      global_local y i (Some (home.Variable k)) = ap (λ vs. current_value (slice_get b.current k) variables vs k) values ∙ values_kept z k (slice_get b.current k) refl
      global_local y i (Some (home.Array c)) = ap (λ cells. cells c i) arrays

      pub global_holds : Holds homes b.current variables (memory_after Static (assignment_to Static) m) s
      global_holds = record {
        locals = λ y i u e. global_local y i (slice_get homes y) ∙ holds.locals y i u e;
        globals = λ y i u e.
            ⊎_elim
            (λ p. ap (λ cells. cells y i) globals ∙ cell_same x j w r.globals y i p.0 p.1 ∙ right ∙ sym p.2)
            (λ p. ap (λ cells. cells y i) globals ∙ cell_other x j w r.globals y i p.0 ∙ holds.globals y i u p.1)
            (element_with m.globals x j (wrapped ty v) y i u e);
      }

    -- the store of a value at a target
    module _ (new : OpenBlock) (value index : Operand) (value_is : operand_value variables r.values value ≡ v) (n : ℕ)
        (place_is : place_written n (operand_value variables r.values index) ≡ j) (element_is : global_written n (operand_value variables r.values index) ≡ j) where
      automatic : (h : Option Home) → slice_get homes x ≡ h → (there : HasElement m.locals x j) → IsHomed (length b.current) h there.row → (st : Stores (local_target h x n ty index) value b new) →
          Assigned homes b.current new.current variables m r (operations_run variables (store_operations (local_target h x n ty index) value b new st) r) (assignment_to Automatic) []
      automatic None at there fit st = absurd fit
      automatic (Some (home.Variable k)) at there fit st = record {
        accesses = sym (append-nil r.accesses);
        holds = variable_holds k at there st.stored new.current st.current (conversion_right variables r.values ty value st.stored v st.converted value_is);
        spares = λ size. record {
          variables_ = λ i lt none.
              ap (λ c. current_value (slice_get c i) variables r.values i) st.current
              ∙ ap (λ o. current_value o variables r.values i) (set_other b.current k i (Some st.stored) (λ same. none x (at ∙ ap (λ z. Some (home.Variable z)) (sym same))));
          arrays_ = λ a none. refl;
        };
      }
      automatic (Some (home.Array a)) at there fit st =
          let w = operand_value variables r.values st.stored in
          let right : w ≡ wrapped ty v = conversion_right variables r.values ty value st.stored v st.converted value_is in
          let s = operation_run variables (WriteArray a n index st.stored) r in
          record {
            accesses = sym (append-nil r.accesses);
            holds =
                subst (λ c. Holds homes c variables (memory_after Automatic (assignment_to Automatic) m) s) (sym (ap (λ (q : OpenBlock). q.current) st.added))
                (array_holds a at s w (pos 0) right refl (ap (λ k. with_cell a k w r.arrays) place_is) refl);
            spares = λ size. record {
              variables_ = λ i lt none. added_held (pos 0) new (WriteArray a n index st.stored) st.added i;
              arrays_ = λ c none. λ d. λ i. cell_other a (place_written n (operand_value variables r.values index)) w r.arrays c i
                  (λ same also. none x (at ∙ ap (λ z. Some (home.Array z)) (sym same))) d;
            };
          }

      pub store_done : (storage : Storage) → IsThere storage m.locals x j → (t : Target) → t ≡ target_at homes storage x n ty index → (st : Stores t value b new) →
          Assigned homes b.current new.current variables m r (operations_run variables (store_operations t value b new st) r) (assignment_to storage) []
      store_done storage there t at st =
          subst (λ q. (st : Stores q value b new) → Assigned homes b.current new.current variables m r (operations_run variables (store_operations q value b new st) r)
          (assignment_to storage) []) (sym at)
          (by storage there) st
        where
          by : (storage : Storage) → IsThere storage m.locals x j → (st : Stores (target_at homes storage x n ty index) value b new) →
              Assigned homes b.current new.current variables m r (operations_run variables (store_operations (target_at homes storage x n ty index) value b new st) r) (assignment_to storage) []
          by Automatic there st = automatic (slice_get homes x) refl there (homed.homed x there.row there.found) st
          by Static there st =
              let w = operand_value variables r.values st.stored in
              let right : w ≡ wrapped ty v = conversion_right variables r.values ty value st.stored v st.converted value_is in
              let s = operation_run variables (WriteGlobal x n index st.stored) r in
              record {
                accesses = ap (λ k. r.accesses ++ Write x k w ∷ []) element_is ∙ ap (λ u. r.accesses ++ Write x j u ∷ []) right;
                holds =
                    subst (λ c. Holds homes c variables (memory_after Static (assignment_to Static) m) s) (sym (ap (λ (q : OpenBlock). q.current) st.added))
                    (global_holds s w (pos 0) right refl refl (ap (λ k. with_cell x k w r.globals) element_is));
                spares = λ size. record {
                  variables_ = λ i lt none. added_held (pos 0) new (WriteGlobal x n index st.stored) st.added i;
                  arrays_ = λ c none. refl;
                };
              }
