-- An order that grows by a step that reads only what is known.
use Rattle.std.specs.Prelude.{◌≡◌, ℕ, zero, suc, ◌<◌, ◌⊎◌, Bool, true, false, List, [], ◌∷◌, ◌++◌, length, Some, slice_get, slice_index_or, slice_set, refl}
use Rattle.std.proofs.Common.{ap, sym, ◌∙◌, subst, inl, inr, ⊎_elim, arith}
use Rattle.std.proofs.lemmas.List.{get_or-set_same, get_or-set_other}
use Rattle.std.proofs.lemmas.Option.{slice_get_within}
use Rattle.std.proofs.Math.ListN.{length-set}
use Rattle.std.proofs.lemmas.Bool.{both_ways, cases_eq}
use Rattle.netlist.specs.declared.netlist.Module.{Module}
use Rattle.sim_values.specs.declared.settle.Step.{Step}
use Rattle.circuit.specs.Rows.{EachOf}
use Rattle.sim_values.specs.Order.{reads, InOrder, IsMarked, Known, Takes, IsPartial, IsOrder, AreHeld, IsLeft, IsStuck}
use Rattle.sim_values.proofs.Settles.{each_to}

pub get_more : {X : Type 0} (xs ys : List X) (j : ℕ) (x : X) → slice_get xs j ≡ Some x → slice_get (xs ++ ys) j ≡ Some x
get_more [] ys j x e = absurd cc
get_more (y ∷ xs) ys zero x e = e
get_more (y ∷ xs) ys (suc j) x e = get_more xs ys j x e

known_keep : (known : ℕ → Type 0) (steps : List Step) (s : Step) (k : ℕ) → Known known steps k → Known known (steps ++ s ∷ []) k
known_keep known [] s k h = inl h
known_keep known (t ∷ steps) s k h = known_keep (λ j. known j ⊎ (j ≡ t.target)) steps s k h

known_last : (known : ℕ → Type 0) (steps : List Step) (s : Step) → Known known (steps ++ s ∷ []) s.target
known_last known [] s = inr refl
known_last known (t ∷ steps) s = known_last (λ j. known j ⊎ (j ≡ t.target)) steps s

known_back : (known : ℕ → Type 0) (steps : List Step) (s : Step) (k : ℕ) → Known known (steps ++ s ∷ []) k → (Known known steps k) ⊎ (k ≡ s.target)
known_back known [] s k h = h
known_back known (t ∷ steps) s k h = known_back (λ j. known j ⊎ (j ≡ t.target)) steps s k h

order_snoc : (modules : List Module) (known : ℕ → Type 0) (steps : List Step) (s : Step) → InOrder modules known steps → EachOf (Known known steps) (reads modules s.feed)
    → (Known known steps s.target → ⊥) → InOrder modules known (steps ++ s ∷ [])
order_snoc modules known [] s o e f = (e, f, tt)
order_snoc modules known (t ∷ steps) s o e f = (o.0, o.1, order_snoc modules (λ j. known j ⊎ (j ≡ t.target)) steps s o.2 e f)

each_snoc : (P : Step → Type 0) (xs : List Step) (x : Step) → EachOf P xs → P x → EachOf P (xs ++ x ∷ [])
each_snoc P [] x e p = (p, tt)
each_snoc P (y ∷ xs) x e p = (e.0, each_snoc P xs x e.1 p)

pub get_snoc : (xs : List Step) (x : Step) (k : ℕ) (t : Step) → slice_get (xs ++ x ∷ []) k ≡ Some t → (slice_get xs k ≡ Some t) ⊎ (t ≡ x)
get_snoc [] x zero t e = inr (let same : x ≡ t = cc in sym same)
get_snoc [] x (suc k) t e = absurd cc
get_snoc (y ∷ xs) x zero t e = inl e
get_snoc (y ∷ xs) x (suc k) t e = get_snoc xs x k t e

pub partial_more : (modules : List Module) (wires : List Step) (free marks : List Bool) (done : List Step) (i : ℕ) (s : Step)
    → IsPartial modules wires free marks done → slice_get wires i ≡ Some s → s.target < length marks → slice_index_or marks s.target false ≡ false
    → EachOf (IsMarked marks) (reads modules s.feed) → IsPartial modules wires free (slice_set marks s.target true) (done ++ s ∷ [])
partial_more modules wires free marks done i s p at l new ready = record {
  ordered = order_snoc modules (IsMarked free) done s p.ordered
      (each_to (IsMarked marks) (Known (IsMarked free) done) (reads modules s.feed) p.known ready)
      (λ h. both_ways (slice_index_or marks s.target false) new (p.all s.target h));
  known = λ k e. ⊎_elim
      (λ same. subst (Known (IsMarked free) (done ++ s ∷ [])) (sym same) (known_last (IsMarked free) done s))
      (λ apart. known_keep (IsMarked free) done s k (p.known k (sym (get_or-set_other marks s.target k true false apart) ∙ e)))
      (cases_eq k s.target);
  all = λ k h. ⊎_elim
      (λ same. ap (λ j. slice_index_or (slice_set marks s.target true) j false) same ∙ get_or-set_same marks s.target true false l)
      (λ apart. get_or-set_other marks s.target k true false apart
      ∙ ⊎_elim (λ old. p.all k old) (λ e. absurd (apart e)) (known_back (IsMarked free) done s k h))
      (cases_eq k s.target);
  from = λ k t there. ⊎_elim
      (λ old. p.from k t old)
      (λ same. subst (Takes wires) (sym same) (i, at))
      (get_snoc done s k t there);
  targets = each_snoc (λ (t : Step). t.target < length free) done s p.targets (let z = p.long in omega arith);
  long = length-set marks s.target true ∙ p.long;
}

pub partial_none : (modules : List Module) (wires : List Step) (free marks : List Bool) (done : List Step) → marks ≡ free → done ≡ [] → IsPartial modules wires free marks done
partial_none modules wires free marks done same empty =
    subst (λ (ms : List Bool). IsPartial modules wires free ms done) (sym same)
    (subst (λ (d : List Step). IsPartial modules wires free free d) (sym empty)
    (record { ordered = tt; known = λ k h. h; all = λ k h. h; from = λ k s at. absurd cc; targets = tt; long = refl }))

pub order_whole : (modules : List Module) (wires : List Step) (free marks : List Bool) (done : List Step) → IsPartial modules wires free marks done
    → ((s : Step) → Takes wires s → IsMarked marks s.target) → IsOrder modules wires free done
order_whole modules wires free marks done p all = record {
  ordered = p.ordered;
  covers = λ s t. p.known s.target (all s t);
  from = p.from;
  targets = p.targets;
}

known_free : (known : ℕ → Type 0) (steps : List Step) (k : ℕ) → known k → Known known steps k
known_free known [] k h = h
known_free known (s ∷ steps) k h = known_free (λ j. known j ⊎ (j ≡ s.target)) steps k (inl h)

pub order_stuck : (modules : List Module) (wires : List Step) (free marks : List Bool) (done : List Step) (n i : ℕ) → IsPartial modules wires free marks done
    → AreHeld modules wires marks n → n ≡ length wires → IsLeft wires marks i → IsStuck modules wires free
order_stuck modules wires free marks done n i p held all left = record {
  marks = marks;
  long = p.long;
  free_known = λ k h. p.all k (known_free (IsMarked free) done k h);
  held = λ t has. held has.0 t (let l = slice_get_within wires has.0 t has.1 in omega (arith, all, l)) has.1;
  left = left.step;
  taken = (i, left.listed);
  clear = left.clear;
}

-- what is known is free, or some step gives it
pub known_by : (known : ℕ → Type 0) (steps : List Step) (k : ℕ) → Known known steps k → known k ⊎ ((s : Step) × Takes steps s × (s.target ≡ k))
known_by known [] k h = inl h
known_by known (t ∷ steps) k h = ⊎_elim
    (λ rest. ⊎_elim (λ old. inl old) (λ same. inr (t, (0, refl), sym same)) rest)
    (λ found. inr (found.0, (suc found.1.0, found.1.1), found.2))
    (known_by (λ j. known j ⊎ (j ≡ t.target)) steps k h)
