-- The cores and the arbiter of a table fit its layout.
use Rattle.std.proofs.Common.{◌≡◌, ℕ, zero, suc, ◌+◌, ◌<◌, Bool, true, false, replicate, List, [], ◌∷◌, length, Option, Some, None}
use Rattle.std.proofs.Common.{refl, sym, ap, ◌∙◌, subst, arith}
use Rattle.std.specs.Prelude.{◌-◌, nat_lt, slice_get}
use Rattle.std.proofs.lemmas.Bool.Decides.{nat_tests}
use Rattle.std.proofs.lemmas.Option.{slice_get_within}
use Rattle.std.proofs.lemmas.List.{length-map, length-replicate}
use Rattle.lists.proofs.Places.{get_front, get_middle}
use Rattle.netlist.specs.declared.netlist.Module.{Module}
use Rattle.circuit.specs.Modules.{IsLeaf}
use Rattle.circuit.specs.Interfaces.{first_of}
use Rattle.circuit.proofs.TableRows.{length-laid}
use Rattle.top_parts.specs.declared.layout.Core.{Core}
use Rattle.top_wiring.specs.Ports.{EachModule, arbiter_inputs}
use Rattle.top_wiring.specs.Leaves.{IsThreadLeaf, IsCoreLeaf, IsArbiterLeaf, AreLeaves}
use Rattle.top_wiring.specs.Machine.{IsCoreAt, IsArbiterAt}
use Rattle.bank_arbiter.specs.Arbiter as arbiter
use Rattle.core_family.specs.Family.{CoreKind, machine_of, places_of, machine_at, places_at, is_late}
use Rattle.core_tables.specs.Fits.{FitsLayout as FitsCore}
use Rattle.core_tables.proofs.CoresFit.{cores_fit}
use Rattle.core_tables.specs.Tables.{PlacedCore, Table, HasCores, core_name, kinds_at, laid_core, layout_of, modules_of, kinds_in}
use Rattle.core_tables.specs.Laws.{CoreStands, ArbiterStands, EachThread, TablesFit}
use Rattle.core_tables.proofs.Lists.{map_back, map_get, behind_one}
use Rattle.core_tables.proofs.Small.{is_small}

-- nothing is late past the cores
abbrev late_of : Option CoreKind → ℕ → Bool
late_of None = arbiter.never
late_of (Some s) = is_late s

module _ (t : Table) (has : HasCores t) where
  abbrev T : ℕ
  T = length t.threads

  abbrev C : ℕ
  C = length t.cores

  cores_count : length (layout_of t).cores ≡ C
  cores_count = length-map t.cores (laid_core (kinds_at t))

  -- ---- the modules

  kind_listed : (c : PlacedCore) → slice_get (modules_of t) (laid_core (kinds_at t) c).module ≡ slice_get t.kinds c.place
  kind_listed c = behind_one t.routines t.arbiter t.kinds c.place

  -- core k as it is placed
  pub record IsPlaced (k : ℕ) (x : Core) : Type 0 where
    pub core : PlacedCore
    pub listed : slice_get t.cores k ≡ Some core
    pub is : x ≡ laid_core (kinds_at t) core
    pub body : Module
    pub stands : slice_get (modules_of t) x.module ≡ Some body
    pub fits : FitsCore (layout_of t) core.kind x body

  pub placed : (k : ℕ) (x : Core) → slice_get (layout_of t).cores k ≡ Some x → IsPlaced k x
  placed k x e =
      let b = map_back (laid_core (kinds_at t)) t.cores k x e in
      let m = has.each k b.0 b.1 in
      record {
        core = b.0;
        listed = b.1;
        is = b.2;
        body = m.body;
        stands = ap (λ (z : Core). slice_get (modules_of t) z.module) b.2 ∙ kind_listed b.0 ∙ m.listed;
        fits = subst (λ (z : Core). FitsCore (layout_of t) b.0.kind z m.body) (sym b.2)
            (cores_fit (layout_of t) b.0.kind (kinds_at t + b.0.place) (core_name b.0.kind b.0.number) m.body m.is);
      }

  shape_at : (k : ℕ) (c : PlacedCore) → slice_get t.cores k ≡ Some c → slice_get (kinds_in t) k ≡ Some c.kind
  shape_at k c e = map_get (λ (z : PlacedCore). z.kind) t.cores k c e

  pub core_at : (k : ℕ) (x : Core) (p : IsPlaced k x) → IsCoreAt (layout_of t) (machine_at (kinds_in t) k) (places_at (kinds_in t) k) x p.body
  core_at k x p = subst (λ (o : Option CoreKind). IsCoreAt (layout_of t) (machine_of o) (places_of o) x p.body) (sym (shape_at k p.core p.listed)) p.fits.at

  core_stands : (k : ℕ) (x : Core) → slice_get (layout_of t).cores k ≡ Some x → CoreStands t k x
  core_stands k x e =
      let p = placed k x e in
      record {
        body = p.body;
        listed = p.stands;
        promise = core_at k x p;
        interface = p.fits.interface;
      }

  pub arbiter_at : IsArbiterAt (layout_of t) (arbiter.places T) t.arbiter
  arbiter_at = record {
    is = has.granting.arbitrates;
    preferred = refl;
    ask = λ i l. refl;
    grant = λ i l. ap (λ z. z + i) first;
  }
    where
      first : arbiter.grants T ≡ first_of t.arbiter (replicate T 1)
      first =
          let a = ap length has.granting.table.signals in let b = length-laid T arbiter.rows in let c = length-replicate {A = ℕ} T 1 in
          omega (arith, a, b, c)

  arbiter_leaf : IsArbiterLeaf (layout_of t) arbiter.never t.arbiter
  arbiter_leaf = record {
    leaf = subst (λ k. IsLeaf t.arbiter k arbiter.never) many has.granting.leaf;
    ports = has.granting.stands.interface.ports;
  }
    where
      many : arbiter.inputs T ≡ length (arbiter_inputs (layout_of t))
      many = let c = length-replicate {A = ℕ} T 1 in omega (arith, c)

  arbiter_stands : ArbiterStands t
  arbiter_stands = record { listed = get_middle t.routines t.kinds t.arbiter; promise = arbiter_at; interface = has.granting.stands.interface }

  -- ---- properties of all of them

  module _ (P : ℕ → Module → Type 0) (Q : ℕ → Core → Module → Type 0) (R : ℕ → Module → Type 0) where
    pub each_module : EachThread t P → ((k : ℕ) (x : Core) (p : IsPlaced k x) → Q k x p.body) → ((k : ℕ) → R k t.arbiter) → EachModule (layout_of t) (modules_of t) P Q R
    each_module p q r = record {
      thread = λ i number e. let m = p i number e in (m.0, get_front t.routines (t.arbiter ∷ t.kinds) number m.0 m.1, m.2);
      core = λ k x e. let s = placed k x e in (s.body, s.stands, q k x s);
      arbiter = λ k l. (t.arbiter, get_middle t.routines t.kinds t.arbiter, r k);
    }

  -- ---- what is late

  module _ (thread : ℕ → ℕ → Bool) where
    abbrev late_by : Bool → ℕ → ℕ → Bool
    late_by true j = thread j
    late_by false j = late_of (slice_get (kinds_in t) (j - T))

    abbrev late : ℕ → ℕ → Bool
    late j = late_by (nat_lt j T) j

    thread_late : (i : ℕ) → i < T → late i ≡ thread i
    thread_late i l = let e : nat_lt i T ≡ true = grind (arith, nat_tests) in ap (λ b. late_by b i) e

    core_late : (k : ℕ) → late (T + k) ≡ late_of (slice_get (kinds_in t) k)
    core_late k =
        let e : nat_lt (T + k) T ≡ false = grind (arith, nat_tests) in
        let f : T + k - T ≡ k = omega arith in
        ap (λ b. late_by b (T + k)) e ∙ ap (λ j. late_of (slice_get (kinds_in t) j)) f

    of_core : (k : ℕ) (c : PlacedCore) → slice_get t.cores k ≡ Some c → late (T + k) ≡ is_late c.kind
    of_core k c e = core_late k ∙ ap late_of (shape_at k c e)

    pub are_leaves : EachThread t (λ i m. IsThreadLeaf (layout_of t) (thread i) m) → AreLeaves (layout_of t) (modules_of t)
    are_leaves leaves = record {
      late = late;
      each = each_module (λ i m. IsThreadLeaf (layout_of t) (late i) m) (λ k c m. IsCoreLeaf (layout_of t) (late (T + k)) c m)
          (λ k m. IsArbiterLeaf (layout_of t) (late (T + length (layout_of t).cores + k)) m)
          (λ i number e.
          let m = leaves i number e in
          (m.0, m.1, subst (λ f. IsThreadLeaf (layout_of t) f m.0) (sym (thread_late i (slice_get_within t.threads i number e))) m.2))
          (λ k x p. subst (λ f. IsCoreLeaf (layout_of t) f x p.body) (sym (of_core k p.core p.listed)) p.fits.leaf)
          (λ k. subst (λ f. IsArbiterLeaf (layout_of t) f t.arbiter) (sym (past k)) arbiter_leaf);
    }
      where
        none_past : {A : Type 0} (xs : List A) (n k : ℕ) → n ≡ length xs → slice_get xs (n + k) ≡ None
        none_past [] n k e = refl
        none_past (x ∷ xs) zero k e = absurd (omega arith)
        none_past (x ∷ xs) (suc n) k e = ap (slice_get (x ∷ xs)) (let f : suc n + k ≡ suc (n + k) = omega arith in f) ∙ none_past xs n k (omega arith)

        past : (k : ℕ) → late (T + length (layout_of t).cores + k) ≡ arbiter.never
        past k =
            let e : T + length (layout_of t).cores + k ≡ T + (length (layout_of t).cores + k) = omega arith in
            let n : length (layout_of t).cores ≡ length (kinds_in t) = cores_count ∙ sym (length-map t.cores (λ (z : PlacedCore). z.kind)) in
            ap late e ∙ core_late (length (layout_of t).cores + k) ∙ ap late_of (none_past (kinds_in t) (length (layout_of t).cores) k n)

pub tables_fit : TablesFit
tables_fit t has = record {
  small = is_small t has;
  cores = core_stands t has;
  arbiters = arbiter_stands t has;
  routines = λ number m e. get_front t.routines (t.arbiter ∷ t.kinds) number m e;
  leaves = are_leaves t has;
}
