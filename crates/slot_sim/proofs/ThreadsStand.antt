-- Where all threads stand, a thread more, in a copy, and after a call; and what the calls give for a slot.
use Rattle.std.specs.Prelude.{◌≡◌, ℕ, ◌^◌, ◌<◌, Bool, true, false, List, [], ◌∷◌, ◌++◌, length, Some, slice_get, refl}
use Rattle.std.proofs.Common.{ap, sym, ◌∙◌, subst, ⊎_elim, arith}
use Rattle.std.proofs.lemmas.Option.{same_Some, slice_get_within}
use Rattle.lists.proofs.Places.{get_left}
use Rattle.netlist.specs.declared.netlist.Module.{Module}
use Rattle.verilog_meaning.specs.Names.{top_of}
use Rattle.verilog_meaning.specs.Cycles.{Choice}
use Rattle.verilog_meaning.specs.Threads.{slot, alone, IsSameSlot, HasThread}
use Rattle.sim_values.specs.declared.edge.Part.{Part}
use Rattle.sim_values.proofs.Trees.{get_back, front_or_back}
use Rattle.sim_layout.specs.Rounds.{threads_of}
use Rattle.sim_layout.specs.Running.{Running, Stands, flat, state_of, choice_of, Fits, IsSameNet}
use Rattle.slot_sim.specs.declared.slot.Slot.{Slot}
use Rattle.slot_sim.specs.Members.{AreMembers}
use Rattle.slot_sim.specs.Same.{parts_same}
use Rattle.slot_sim.specs.Slots.{IsThreadedIn, IsSameSlotOf, IsTaken, IsNeedPlace, HasThreadOf, IsSlot, IsSlotCopy, AreSlots, AreCopied}
use Rattle.slot_sim.proofs.Trials.{alone_fits}
use Rattle.slot_sim.proofs.Slotted.{with_taken, taken_there, kept_there}
use Rattle.slot_sim.proofs.SameParts.{parts_told, parts_shown}

-- ---- the threads of a net

pub thread_of : (modules : List Module) (threads i : ℕ) → IsThreadedIn modules threads → threads ≡ threads_of modules → i < threads → HasThreadOf modules i
thread_of modules threads i threaded many l = subst (λ n. (top : Module) → top_of modules ≡ Some top → HasThread modules top n i) many (λ top e. (threaded top e).has i l)

-- those of the first threads
abbrev pub AreFirst : List Module → List Part → List Slot → Type 0
AreFirst modules parts slots = (i : ℕ) (s : Slot) → slice_get slots i ≡ Some s → IsSlot i modules parts s

pub slots_more : (modules : List Module) (parts : List Part) (slots new : List Slot) (n : ℕ) (s : Slot) → length slots ≡ n → AreFirst modules parts slots → IsSlot n modules parts s
    → new ≡ slots ++ s ∷ [] → AreFirst modules parts new
slots_more modules parts slots new n s long are is e i t at =
    let there : slice_get (slots ++ s ∷ []) i ≡ Some t = ap (λ l. slice_get l i) (sym e) ∙ at in
    ⊎_elim
    (λ old. are i t (sym (get_left slots (s ∷ []) i old) ∙ there))
    (λ back.
    let last : slice_get (s ∷ []) back.0 ≡ Some t = sym (get_back slots (s ∷ []) i back.0 back.1) ∙ there in
    let k = slice_get_within (s ∷ []) back.0 t last in
    let zero_is : back.0 ≡ 0 = omega (arith, k) in
    let same : s ≡ t = same_Some s t (ap (slice_get (s ∷ [])) (sym zero_is) ∙ last) in
    let here : n ≡ i = let b = back.1 in omega (arith, long, b, zero_is) in
    subst (λ (u : Slot). IsSlot i modules parts u) same (subst (λ (k : ℕ). IsSlot k modules parts s) here is))
    (front_or_back i (length slots))

pub copies_more : (slots copies new : List Slot) (n : ℕ) (s c : Slot) → length copies ≡ n → slice_get slots n ≡ Some s → IsSlotCopy s c
    → ((k : ℕ) (c : Slot) → slice_get copies k ≡ Some c → (s : Slot) × (slice_get slots k ≡ Some s) × IsSlotCopy s c) → new ≡ copies ++ c ∷ []
    → (k : ℕ) (c : Slot) → slice_get new k ≡ Some c → (s : Slot) × (slice_get slots k ≡ Some s) × IsSlotCopy s c
copies_more slots copies new n s c long at is are e k d there =
    let here : slice_get (copies ++ c ∷ []) k ≡ Some d = ap (λ l. slice_get l k) (sym e) ∙ there in
    ⊎_elim
    (λ old. are k d (sym (get_left copies (c ∷ []) k old) ∙ here))
    (λ back.
    let last : slice_get (c ∷ []) back.0 ≡ Some d = sym (get_back copies (c ∷ []) k back.0 back.1) ∙ here in
    let w = slice_get_within (c ∷ []) back.0 d last in
    let zero_is : back.0 ≡ 0 = omega (arith, w) in
    let same : c ≡ d = same_Some c d (ap (slice_get (c ∷ [])) (sym zero_is) ∙ last) in
    let place : n ≡ k = let b = back.1 in omega (arith, long, b, zero_is) in
    (s, ap (slice_get slots) (sym place) ∙ at, subst (λ (u : Slot). IsSlotCopy s u) same is))
    (front_or_back k (length copies))

abbrev choice : ℕ → List ℕ → Choice
choice mask prefs = record { mask = mask; prefs = prefs }

-- a copy stands where the slot stands
copy_stands : (modules : List Module) (parts : List Part) (i : ℕ) (s c : Slot) → IsSlotCopy s c → IsSlot i modules parts s → IsSlot i modules parts c
copy_stands modules parts i s c is at = record {
  top = at.top;
  is_top = at.is_top;
  members = subst (λ (l : List ℕ). AreMembers modules at.top parts (slot modules at.top (threads_of modules) i) l) (sym is.members) at.members;
  need = subst (λ (n : ℕ). IsNeedPlace (threads_of modules) i modules parts n) (sym is.need) at.need;
  alone_is = choices_are (ap (λ (e : Choice). e.mask) at.alone_is);
}
  where
    choices_are : s.alone.en ≡ 2 ^ i → choice_of c.alone ≡ alone i
    choices_are e =
        ap (λ (m : ℕ). choice m c.alone.prefs) (is.enables ∙ e) ∙ ap (choice (2 ^ i)) is.prefs

pub slots_copied : (modules : List Module) (parts : List Part) (slots copies : List Slot) → AreCopied slots copies → AreSlots modules parts slots → AreSlots modules parts copies
slots_copied modules parts slots copies are is = record {
  long = are.0 ∙ is.long;
  each = λ i c at. let s = are.1 i c at in copy_stands modules parts i s.0 c s.2 (is.each i s.0 s.1);
}

-- ---- what the calls give

module _ (r : Running) (st : Stands r) (i : ℕ) (s : Slot) (is : IsSlot i r.modules r.parts s) where
  same_top : is.top ≡ st.top
  same_top = same_Some is.top st.top (sym is.is_top ∙ st.is_top)

  pub members : AreMembers r.modules st.top r.parts (slot r.modules st.top (threads_of r.modules) i) s.members.items
  members = subst (λ (t : Module). AreMembers r.modules t r.parts (slot r.modules t (threads_of r.modules) i) s.members.items) same_top is.members

  pub fits_alone : i < threads_of r.modules → Fits r (choice_of s.alone)
  fits_alone l = subst (Fits r) (sym is.alone_is) (alone_fits r st i l)

  module _ (o : Running) (net : IsSameNet r o) where
    pub slot_told : (b : Bool) → b ≡ parts_same r.modules r.parts (flat r) (flat o) s.members.items → b ≡ true → IsSameSlotOf (threads_of r.modules) i r o
    slot_told b e t = record {
      top = st.top;
      is_top = st.is_top;
      same = parts_told r o st net (slot r.modules st.top (threads_of r.modules) i) s.members.items members (sym e ∙ t);
    }

    pub slot_apart : (b : Bool) → b ≡ parts_same r.modules r.parts (flat r) (flat o) s.members.items → b ≡ false → IsSameSlotOf (threads_of r.modules) i r o → ⊥
    slot_apart b e f same =
        let there : IsSameSlot r.modules st.top (threads_of r.modules) i (state_of r) (state_of o) =
        subst (λ (t : Module). IsSameSlot r.modules t (threads_of r.modules) i (state_of r) (state_of o)) (same_Some same.top st.top (sym same.is_top ∙ st.is_top)) same.same in
        let shown = parts_shown r o st net (slot r.modules st.top (threads_of r.modules) i) s.members.items members there in
        let clash : true ≡ false = sym shown ∙ sym e ∙ f in
        absurd cc

    pub slot_taken : (n : Running) → n ≡ with_taken r o s.members.items → IsTaken (threads_of r.modules) i r o n
    slot_taken n e =
        subst (IsTaken (threads_of r.modules) i r o) (sym e)
        (record {
          top = st.top;
          is_top = st.is_top;
          net = record { modules = refl; parts = refl; steps = refl; starts = refl; prefs = refl; done = refl };
          taken = taken_there r o st net (slot r.modules st.top (threads_of r.modules) i) s.members.items members;
          kept = kept_there r o st net (slot r.modules st.top (threads_of r.modules) i) s.members.items members;
        })

-- ---- one of the slots

pub slot_here : (modules : List Module) (parts : List Part) (slots : List Slot) (i : ℕ) (s : Slot) → AreSlots modules parts slots → slice_get slots i ≡ Some s → IsSlot i modules parts s
slot_here modules parts slots i s are at = are.each i s at

pub slot_fits : (r : Running) (i : ℕ) (s : Slot) → Stands r → IsSlot i r.modules r.parts s → i < threads_of r.modules → Fits r (choice_of s.alone)
slot_fits r i s st is l = fits_alone r st i s is l
