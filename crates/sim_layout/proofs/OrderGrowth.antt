-- An order grows by a look at a step.
use Rattle.std.specs.Prelude.{◌≡◌, ℕ, zero, suc, ◌+◌, ◌<◌, ◌≤◌, ◌⊎◌, Bool, true, false, List, [], ◌∷◌, ◌++◌, length, map, Some, slice_get, slice_index_or, slice_set, refl}
use Rattle.std.proofs.Common.{ap, sym, ◌∙◌, subst, inl, inr, ⊎_elim, arith}
use Rattle.std.proofs.lemmas.List.{get_or-set_same, get_or-set_other}
use Rattle.std.proofs.lemmas.Option.{same_Some, slice_get_within}
use Rattle.std.proofs.Math.ListN.{length-set}
use Rattle.std.proofs.lemmas.Bool.{both_ways, cases_eq}
use Rattle.netlist.specs.declared.netlist.Module.{Module}
use Rattle.verilog_meaning.specs.Threads.{IsOneOf}
use Rattle.sim_values.specs.declared.settle.Step.{Step}
use Rattle.sim_layout.specs.declared.order.Growth.{Growth}
use Rattle.sim_values.specs.Rows.{EachOf}
use Rattle.sim_values.specs.Order.{reads, IsMarked, IsClear, SomeOf, IsPartial, AreHeld}
use Rattle.sim_layout.specs.Waits.{IsWaiting, IsListed}
use Rattle.sim_layout.specs.Growing.{IsUnmet, IsTaken, IsBlocked, IsCovered, IsGrowing}
use Rattle.sim_values.proofs.Orders.{partial_more, partial_none}

-- ---- a word that is not known

some_of : (P : ℕ → Type 0) (words : List ℕ) (y : ℕ) → IsOneOf y words → P y → SomeOf P words
some_of P [] y among p = absurd among
some_of P (w ∷ words) y among p = ⊎_elim (λ (e : y ≡ w). inl (subst P e p)) (λ rest. inr (some_of P words y rest p)) among

pub unmet_blocks : (marks : List Bool) (words : List ℕ) (place : ℕ) → IsUnmet marks words place → SomeOf (IsClear marks) words
unmet_blocks marks words place is = some_of (IsClear marks) words is.word is.among is.clear

index_among : (base : ℕ) (xs : List ℕ) (i : ℕ) → i < length xs → IsOneOf (base + slice_index_or xs i 0) (map (λ x. base + x) xs)
index_among base [] i l = absurd (omega arith)
index_among base (x ∷ xs) zero l = inl refl
index_among base (x ∷ xs) (suc i) l = inr (index_among base xs i (omega arith))

-- the word at an index is not known
pub unmet_index : (marks : List Bool) (base : ℕ) (xs : List ℕ) (i place : ℕ) → i < length xs → IsClear marks (base + slice_index_or xs i 0)
    → (base + slice_index_or xs i 0 < length marks → base + slice_index_or xs i 0 ≡ place) → IsUnmet marks (map (λ x. base + x) xs) place
unmet_index marks base xs i place l clear is = record { word = base + slice_index_or xs i 0; among = index_among base xs i l; clear = clear; is = is }

-- ---- a look

listed_on : (steps : List ℕ) (from number k : ℕ) → slice_get steps from ≡ Some number → IsListed from steps k → (number ≡ k) ⊎ IsListed (from + 1) steps k
listed_on steps from number k at is = ⊎_elim
    (λ (same : from ≡ is.0). inl (same_Some number k (sym at ∙ ap (slice_get steps) same ∙ is.2)))
    (λ (less : from < is.0). inr (is.0, omega (arith, less), is.2))
    (let l = is.1 in let d : (from ≡ is.0) ⊎ (from < is.0) = grind (arith, l) in d)

-- what holds of the step that is looked at, and what stays of the others
pub record IsLooked (modules : List Module) (wires : List Step) (from number : ℕ) (g new : Growth) : Type 0 where
  pub here : (s : Step) → slice_get wires number ≡ Some s → IsCovered modules (from + 1) new number s
  pub long : length new.marks.items ≡ length g.marks.items
  pub known : (y : ℕ) → IsMarked g.marks.items y → IsMarked new.marks.items y
  pub listed : (f k : ℕ) → IsListed f g.looks.items k → IsListed f new.looks.items k
  pub blocked : (k : ℕ) (s : Step) → IsBlocked modules g k s → IsListed (from + 1) new.looks.items k ⊎ IsBlocked modules new k s

covered_on : (modules : List Module) (wires : List Step) (from number : ℕ) (g new : Growth) → slice_get g.looks.items from ≡ Some number → IsLooked modules wires from number g new
    → (k : ℕ) (s : Step) → slice_get wires k ≡ Some s → IsCovered modules from g k s → IsCovered modules (from + 1) new k s
covered_on modules wires from number g new at is k s there covered = ⊎_elim
    (λ taken. inl (λ l. let e = is.long in is.known s.target (taken (omega (arith, e, l)))))
    (λ rest. ⊎_elim
    (λ listed. ⊎_elim
    (λ (same : number ≡ k). subst (λ z. IsCovered modules (from + 1) new z s) same (is.here s (ap (slice_get wires) same ∙ there)))
    (λ later. inr (inl (is.listed (from + 1) k later)))
    (listed_on g.looks.items from number k at listed))
    (λ blocked. inr (is.blocked k s blocked))
    rest)
    covered

module _ (modules : List Module) (wires : List Step) (free : List Bool) (from number : ℕ) (g : Growth) (grown : IsGrowing modules wires free from g)
    (at : slice_get g.looks.items from ≡ Some number) where
  grown_by : (new : Growth) → IsPartial modules wires free new.marks.items new.taken.items → length new.waits.last.items ≡ length new.marks.items → IsLooked modules wires from number g new
      → IsGrowing modules wires free (from + 1) new
  grown_by new partial long is = record {
    partial = partial;
    long = long;
    covered = λ k s there. covered_on modules wires from number g new at is k s there (grown.covered k s there);
  }

  looked_same : ((s : Step) → slice_get wires number ≡ Some s → IsCovered modules (from + 1) g number s) → IsGrowing modules wires free (from + 1) g
  looked_same here = grown_by g grown.partial grown.long (record { here = here; long = refl; known = λ y m. m; listed = λ f k l. l; blocked = λ k s b. inr b })

  -- there is no such step
  pub grown_past : (number < length wires → ⊥) → IsGrowing modules wires free (from + 1) g
  grown_past past = looked_same (λ s there. absurd (past (slice_get_within wires number s there)))

  module _ (s : Step) (there : slice_get wires number ≡ Some s) where
    one : (t : Step) → slice_get wires number ≡ Some t → s ≡ t
    one t e = same_Some s t (sym there ∙ e)

    -- its target is known, or is no word of the net
    pub grown_known : IsTaken g.marks.items s → IsGrowing modules wires free (from + 1) g
    grown_known taken = looked_same (λ t e. inl (subst (IsTaken g.marks.items) (one t e) taken))

    -- it waits
    pub grown_blocked : (new : Growth) (place : ℕ) → new.marks.items ≡ g.marks.items → new.taken.items ≡ g.taken.items → new.looks.items ≡ g.looks.items
        → length new.waits.last.items ≡ length g.waits.last.items → IsUnmet g.marks.items (reads modules s.feed) place
        → (place < length g.waits.last.items → IsWaiting new.waits.last.items new.waits.chain.items place number)
        → ((w k : ℕ) → IsWaiting g.waits.last.items g.waits.chain.items w k → IsWaiting new.waits.last.items new.waits.chain.items w k) → IsGrowing modules wires free (from + 1) new
    grown_blocked new place marks taken looks long unmet waits keeps = grown_by new
        (subst (λ m. IsPartial modules wires free m new.taken.items) (sym marks) (subst (IsPartial modules wires free g.marks.items) (sym taken) grown.partial))
        (long ∙ grown.long ∙ ap length (sym marks))
        (record {
          here = λ t e. inr (inr (subst (IsBlocked modules new number) (one t e) (record {
            word = unmet.word;
            among = unmet.among;
            clear = subst (λ m. IsClear m unmet.word) (sym marks) unmet.clear;
            waits = λ l.
                let short : unmet.word < length g.marks.items = subst (λ m. unmet.word < length m) marks l in
                let is = unmet.is short in
                let e = grown.long in
                subst (λ w. IsWaiting new.waits.last.items new.waits.chain.items w number) (sym is) (waits (omega (arith, is, short, e)));
          })));
          long = ap length marks;
          known = λ y m. subst (λ ms. IsMarked ms y) (sym marks) m;
          listed = λ f k l. subst (λ ls. IsListed f ls k) (sym looks) l;
          blocked = λ k t b. inr (record {
            word = b.word;
            among = b.among;
            clear = subst (λ m. IsClear m b.word) (sym marks) b.clear;
            waits = λ l. keeps b.word k (b.waits (subst (λ m. b.word < length m) marks l));
          });
        })

    -- it is taken
    pub grown_taken : (new : Growth) → s.target < length g.marks.items → IsClear g.marks.items s.target → EachOf (IsMarked g.marks.items) (reads modules s.feed)
        → new.marks.items ≡ slice_set g.marks.items s.target true → new.taken.items ≡ g.taken.items ++ s ∷ [] → new.waits ≡ g.waits
        → ((k : ℕ) → IsWaiting g.waits.last.items g.waits.chain.items s.target k → IsListed (length g.looks.items) new.looks.items k)
        → ((f k : ℕ) → IsListed f g.looks.items k → IsListed f new.looks.items k) → IsGrowing modules wires free (from + 1) new
    grown_taken new inside clear ready marks taken waits woken keeps = grown_by new
        (subst (λ m. IsPartial modules wires free m new.taken.items) (sym marks)
        (subst (IsPartial modules wires free (slice_set g.marks.items s.target true)) (sym taken)
        (partial_more modules wires free g.marks.items g.taken.items number s grown.partial there inside clear ready)))
        (ap (λ w. length w.last.items) waits ∙ grown.long ∙ sym same_long)
        (record {
          here = λ t e. inl (subst (IsTaken new.marks.items) (one t e) (λ l. target_known));
          long = same_long;
          known = λ y m. ⊎_elim
              (λ (same : y ≡ s.target). subst (IsMarked new.marks.items) (sym same) target_known)
              (λ (apart : y ≡ s.target → ⊥). other y apart ∙ m)
              (cases_eq y s.target);
          listed = keeps;
          blocked = λ k t b. ⊎_elim
              (λ (same : b.word ≡ s.target).
              let w = woken k (subst (λ y. IsWaiting g.waits.last.items g.waits.chain.items y k) same (b.waits (subst (λ y. y < length g.marks.items) (sym same) inside))) in
              let first = slice_get_within g.looks.items from number at in
              let later = w.1 in
              inl (w.0, omega (arith, first, later), w.2))
              (λ (apart : b.word ≡ s.target → ⊥). inr (record {
                word = b.word;
                among = b.among;
                clear = other b.word apart ∙ b.clear;
                waits = λ l. subst (λ w. IsWaiting w.last.items w.chain.items b.word k) (sym waits) (b.waits (let e = same_long in omega (arith, e, l)));
              }))
              (cases_eq b.word s.target);
        })
      where
        same_long : length new.marks.items ≡ length g.marks.items
        same_long = ap length marks ∙ length-set g.marks.items s.target true

        target_known : IsMarked new.marks.items s.target
        target_known = ap (λ m. slice_index_or m s.target false) marks ∙ get_or-set_same g.marks.items s.target true false inside

        other : (y : ℕ) → (y ≡ s.target → ⊥) → slice_index_or new.marks.items y false ≡ slice_index_or g.marks.items y false
        other y apart = ap (λ m. slice_index_or m y false) marks ∙ get_or-set_other g.marks.items s.target y true false apart

-- ---- the beginning and the end

pub grown_none : (modules : List Module) (wires : List Step) (free : List Bool) (g : Growth) → g.marks.items ≡ free → g.taken.items ≡ [] → length g.waits.last.items ≡ length free
    → ((k : ℕ) → k < length wires → slice_get g.looks.items k ≡ Some k) → IsGrowing modules wires free 0 g
grown_none modules wires free g marks taken long looks = record {
  partial = partial_none modules wires free g.marks.items g.taken.items marks taken;
  long = long ∙ ap length (sym marks);
  covered = λ k s there. inr (inl (k, omega arith, looks k (slice_get_within wires k s there)));
}

-- where none is to be looked at, none can be taken
pub grown_held : (modules : List Module) (wires : List Step) (free : List Bool) (from : ℕ) (g : Growth) → length g.looks.items ≤ from → IsGrowing modules wires free from g
    → AreHeld modules wires g.marks.items (length wires)
grown_held modules wires free from g past grown k s less there inside clear = ⊎_elim
    (λ (taken : IsTaken g.marks.items s). absurd (both_ways (slice_index_or g.marks.items s.target false) clear (taken inside)))
    (λ rest. ⊎_elim
    (λ (listed : IsListed from g.looks.items k).
    let a = listed.1 in
    let b = slice_get_within g.looks.items listed.0 k listed.2 in absurd (omega (arith, a, b, past)))
    (λ (blocked : IsBlocked modules g k s). some_of (IsClear g.marks.items) (reads modules s.feed) blocked.word blocked.among blocked.clear)
    rest)
    (grown.covered k s there)
