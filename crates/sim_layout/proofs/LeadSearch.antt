-- A search for all that leads to a place finds whether it leads to itself.
use Rattle.std.specs.Prelude.{◌≡◌, ℕ, ◌+◌, ◌<◌, ◌⊎◌, Bool, true, false, List, [], ◌∷◌, length, replicate, Some, slice_get, slice_index_or, slice_set, refl}
use Rattle.std.proofs.Common.{ap, sym, ◌∙◌, subst, inl, inr, ⊎_elim, arith}
use Rattle.std.proofs.lemmas.List.{get_or-set_same, get_or-set_other, get_or-replicate, length-replicate}
use Rattle.std.proofs.lemmas.Option.{same_Some, slice_get_within}
use Rattle.std.proofs.Math.ListN.{length-set}
use Rattle.std.proofs.lemmas.Bool.{cases_Bool, both_ways, cases_eq}
use Rattle.netlist.specs.declared.netlist.Module.{Module}
use Rattle.verilog_meaning.specs.Threads.{IsOneOf}
use Rattle.sim_values.specs.declared.settle.Step.{Step}
use Rattle.sim_values.specs.Rows.{EachOf}
use Rattle.sim_values.specs.Order.{reads, Takes, IsMarked, IsClear, SomeOf}
use Rattle.sim_layout.specs.Leads.{Leads, AreInRoom, IsSearch, IsClosed, AreClosed, AreApart, LoopsNowhere}
use Rattle.sim_layout.specs.Leads.Leads.{Directly, Through}
use Rattle.sim_values.proofs.Trees.{front_or_back}

-- of some place that is clear
pub record OneClear (marks : List Bool) (places : List ℕ) : Type 0 where
  pub place : ℕ
  pub among : IsOneOf place places
  pub clear : IsClear marks place

pub one_clear : (marks : List Bool) (places : List ℕ) → SomeOf (IsClear marks) places → OneClear marks places
one_clear marks [] s = absurd s
one_clear marks (y ∷ ys) (inl c) = record { place = y; among = inl refl; clear = c }
one_clear marks (y ∷ ys) (inr s) = let o = one_clear marks ys s in record { place = o.place; among = inr o.among; clear = o.clear }

pub each_among : (P : ℕ → Type 0) (places : List ℕ) → EachOf P places → (y : ℕ) → IsOneOf y places → P y
each_among P [] e y i = absurd i
each_among P (z ∷ zs) e y (inl same) = subst P (sym same) e.0
each_among P (z ∷ zs) e y (inr i) = each_among P zs e.1 y i

module _ (modules : List Module) (wires : List Step) (place : ℕ) where
  -- a step that reads what is found
  pub found_step : (apart : List Bool) → AreInRoom modules wires (length apart) → IsSearch modules wires place apart → (s : Step) → Takes wires s → SomeOf (IsClear apart) (reads modules s.feed)
      → Leads modules wires s.target place
  found_step apart room search s has some =
      let o = one_clear apart (reads modules s.feed) some in
      let direct : Leads modules wires s.target o.place = Directly s o.place has o.among in
      ⊎_elim
      (λ (e : o.place ≡ place). subst (Leads modules wires s.target) e direct)
      (λ (more : Leads modules wires o.place place). Through s.target o.place place direct more)
      (search.leads o.place (each_among (λ y. y < length apart) (reads modules s.feed) (room s has).1 o.place o.among) o.clear)

  pub search_more : (apart new : List Bool) → AreInRoom modules wires (length apart) → IsSearch modules wires place apart → (s : Step) → Takes wires s → SomeOf (IsClear apart) (reads modules s.feed)
      → new ≡ slice_set apart s.target false → length new ≡ length apart → IsSearch modules wires place new
  search_more apart new room search s has some e long =
      let target = (room s has).0 in
      subst (IsSearch modules wires place) (sym e) (record {
        here = ⊎_elim
            (λ same. ap (λ j. slice_index_or (slice_set apart s.target false) j false) same ∙ get_or-set_same apart s.target false false target)
            (λ other. get_or-set_other apart s.target place false false other ∙ search.here)
            (cases_eq place s.target);
        leads = λ k l clear. ⊎_elim
            (λ same. inr (subst (λ j. Leads modules wires j place) (sym same) (found_step apart room search s has some)))
            (λ other. search.leads k (let m = ap length e in omega (arith, l, long, m)) (sym (get_or-set_other apart s.target k false false other) ∙ clear))
            (cases_eq k s.target);
      })

  -- at the start the place alone is found
  pub search_none : (apart : List Bool) (n : ℕ) → place < n → apart ≡ slice_set (replicate n true) place false → IsSearch modules wires place apart
  search_none apart n l e =
      subst (IsSearch modules wires place) (sym e) (record {
        here = get_or-set_same (replicate n true) place false false (let z = length-replicate n true in omega (arith, l, z));
        leads = λ k inside clear. ⊎_elim
            (λ same. inl same)
            (λ other.
            absurd (both_ways (slice_index_or (slice_set (replicate n true) place false) k false)
            clear
            (get_or-set_other (replicate n true) place k false false other
            ∙ get_or-replicate n k true false (let z = length-replicate n true in let y = length-set (replicate n true) place false in omega (arith, inside, z, y)))))
            (cases_eq k place);
      })

  -- what leads to a place that is found is found, and is not the place
  module _ (apart : List Bool) (n : ℕ) (count : n ≡ length wires) (closed : AreClosed modules wires apart n) (away : AreApart modules wires place apart n) where
    within : (s : Step) (has : Takes wires s) → has.0 < n
    within s has = let l = slice_get_within wires has.0 s has.1 in omega (arith, count, l)

    pub back : {a b : ℕ} → Leads modules wires a b → IsClear apart b → IsClear apart a × (a ≡ place → ⊥)
    back (Directly s y has among) clear = (
      ⊎_elim
          (λ (e : slice_index_or apart s.target false ≡ true).
          absurd (both_ways (slice_index_or apart y false)
          clear (each_among (IsMarked apart) (reads modules s.feed) (closed has.0 (within s has) s has.1 e) y among)))
          (λ e. e)
          (cases_Bool (slice_index_or apart s.target false)),
      λ same. both_ways (slice_index_or apart y false) clear (each_among (IsMarked apart) (reads modules s.feed) (away has.0 s (within s has) has.1 same) y among),
    )
    back (Through a b c first rest) clear = back first (back rest clear).0

    pub no_loop : IsClear apart place → Leads modules wires place place → ⊥
    no_loop here d = (back d here).1 refl

pub no_loop_there : (modules : List Module) (wires : List Step) (place : ℕ) (apart : List Bool) → IsSearch modules wires place apart → AreClosed modules wires apart (length wires)
    → AreApart modules wires place apart (length wires) → Leads modules wires place place → ⊥
no_loop_there modules wires place apart search closed away d = no_loop modules wires place apart (length wires) refl closed away search.here d

-- ---- one more

pub below_next : (x k : ℕ) → x < k + 1 → (x < k) ⊎ (x ≡ k)
below_next x k l = ⊎_elim (λ less. inl less) (λ back. inr (let z = back.1 in omega (arith, l, z))) (front_or_back x k)

one_step : (wires : List Step) (k i : ℕ) (s u : Step) → slice_get wires i ≡ Some s → i ≡ k → slice_get wires k ≡ Some u → u ≡ s
one_step wires k i s u at e there = same_Some u s (sym there ∙ ap (slice_get wires) (sym e) ∙ at)

pub closed_more : (modules : List Module) (wires : List Step) (apart : List Bool) (k : ℕ) → AreClosed modules wires apart k → IsClosed modules wires apart k → AreClosed modules wires apart (k + 1)
closed_more modules wires apart k before here i l s at marked = ⊎_elim
    (λ less. before i less s at marked)
    (λ e. here s (ap (slice_get wires) (sym e) ∙ at) marked)
    (below_next i k l)

pub apart_more : (modules : List Module) (wires : List Step) (place : ℕ) (apart : List Bool) (k : ℕ) (s : Step) → AreApart modules wires place apart k → slice_get wires k ≡ Some s
    → (s.target ≡ place → EachOf (IsMarked apart) (reads modules s.feed)) → AreApart modules wires place apart (k + 1)
apart_more modules wires place apart k s before at here i u l there target = ⊎_elim
    (λ less. before i u less there target)
    (λ e.
    let same : s ≡ u = one_step wires k i u s there e at in
    subst (λ (z : Step). EachOf (IsMarked apart) (reads modules z.feed)) same (here (ap (λ (z : Step). z.target) same ∙ target)))
    (below_next i k l)

pub nowhere_more : (modules : List Module) (wires : List Step) (base k : ℕ) → LoopsNowhere modules wires base k → (Leads modules wires (base + k) (base + k) → ⊥) →
    LoopsNowhere modules wires base (k + 1)
nowhere_more modules wires base k before here x l d = ⊎_elim
    (λ less. before x less d)
    (λ e. here (subst (λ i. Leads modules wires (base + i) (base + i)) e d))
    (below_next x k l)
