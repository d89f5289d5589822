-- What `global` answers is the word of the element.
use Rattle.std.specs.Prelude.{◌≡◌, ℕ, ◌/◌, List, [], ◌∷◌, Option, Some, None, MatchOption, IfSome, IfNone, refl}
use Rattle.std.proofs.Common.{ap, sym, ◌∙◌, subst}
use Rattle.std.proofs.lemmas.Option.{same_Some}
use Rattle.netlist.specs.declared.netlist.Module.{Module}
use Rattle.verilog_meaning.specs.Follows.{IsElement, HasWord}
use Rattle.global_banks.specs.declared.locate.Location.{Location}
use Rattle.global_banks.specs.Banks.{location}
use Rattle.global_banks.specs.Elements.{IsPlace}
use Rattle.global_banks.proofs.Elements.{elements_located}
use Rattle.cycle_sim.specs.Globals.{global_word, element_at, global_in, global_of, IsWord}
use Rattle.sim_layout.specs.Running.{Running, state_of, Stands}

module _ (r : Running) (st : Stands r) (x : List ℕ) (j : ℕ) where
  abbrev IsThere : Type 0
  IsThere = IsElement r.modules st.top x j

  abbrev IsLocated : Option Location → Type 0
  IsLocated o = MatchOption o (IsThere → ⊥) (λ l. IsThere × ((is : IsThere) → IsPlace r.modules st.top x j is l))

  is_located : IsLocated (location r.modules st.top x j)
  is_located = elements_located r.modules st.top x j st.right.named

  abbrev Has : ℕ → Module → ℕ → Type 0
  Has word top width = HasWord r.modules top (state_of r) x j width word

  has_word : (word : ℕ) (is : IsWord r x j word) → Has word st.top is.width
  has_word word is = subst (λ t. Has word t is.width) (same_Some is.top st.top (sym is.is_top ∙ st.is_top)) is.has

  -- the word of an element is that of its place
  word_at : (l : Location) (is : IsThere) → IsPlace r.modules st.top x j is l → (state_of r (is.bank.place ∷ [])).word is.bank.number (j / is.banks) ≡ global_word (state_of r) l
  word_at l is at =
      ap (λ i. (state_of r (i ∷ [])).word is.bank.number (j / is.banks)) (sym at.instance)
      ∙ ap (λ k. (state_of r (l.instance ∷ [])).word k (j / is.banks)) (sym at.memory)
      ∙ ap (λ k. (state_of r (l.instance ∷ [])).word l.memory k) (sym at.word)

  word_by : (o : Option Location) → IsLocated o → IfSome (element_at (state_of r) o) (λ w. IsWord r x j w)
  word_by None is = tt
  word_by (Some l) is =
      record { top = st.top; is_top = st.is_top; width = is.0.bank.memory.width; has = record { element = is.0; wide = refl; holds = word_at l is.0 (is.1 is.0) } }

  same_word : (l : Location) (word : ℕ) (is : IsWord r x j word) → ((e : IsThere) → IsPlace r.modules st.top x j e l) → word ≡ global_word (state_of r) l
  same_word l word is at = let has = has_word word is in sym has.holds ∙ word_at l has.element (at has.element)

  only_by : (o : Option Location) → IsLocated o → IfSome (element_at (state_of r) o) (λ w. (word : ℕ) → IsWord r x j word → word ≡ w)
  only_by None is = tt
  only_by (Some l) is = λ word has. same_word l word has is.1

  none_by : (o : Option Location) → IsLocated o → IfNone (element_at (state_of r) o) ((word : ℕ) → IsWord r x j word → ⊥)
  none_by None is = λ word has. is (has_word word has).element
  none_by (Some l) is = tt

  abbrev answer : Option ℕ
  answer = global_of r x j

  whole : answer ≡ element_at (state_of r) (location r.modules st.top x j)
  whole = ap (global_in r.modules (state_of r) x j) st.is_top

  pub word_is : (o : Option ℕ) → o ≡ answer → IfSome o (λ w. IsWord r x j w)
  word_is o e = subst (λ a. IfSome a (λ w. IsWord r x j w)) (sym (e ∙ whole)) (word_by (location r.modules st.top x j) is_located)

  pub word_only : (o : Option ℕ) → o ≡ answer → IfSome o (λ w. (word : ℕ) → IsWord r x j word → word ≡ w)
  word_only o e = subst (λ a. IfSome a (λ w. (word : ℕ) → IsWord r x j word → word ≡ w)) (sym (e ∙ whole)) (only_by (location r.modules st.top x j) is_located)

  pub word_none : (o : Option ℕ) → o ≡ answer → IfNone o ((word : ℕ) → IsWord r x j word → ⊥)
  word_none o e = subst (λ a. IfNone a ((word : ℕ) → IsWord r x j word → ⊥)) (sym (e ∙ whole)) (none_by (location r.modules st.top x j) is_located)
