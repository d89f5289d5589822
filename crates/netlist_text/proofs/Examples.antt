-- A counter as a netlist: it can be laid out, and its text is well formed.
use Rattle.std.proofs.Common.{◌≡◌, ℕ, zero, suc, ◌+◌, ◌<◌, List, [], ◌∷◌, Bool, true, false}
use Rattle.std.proofs.Common.{Some, refl, sym, ap, ◌∙◌, subst, inl, zero-add, add-zero, arith}
use Rattle.std.specs.Prelude.{slice_get, codes, not}
use Rattle.std.proofs.lemmas.Option.{same_Some, none-some}
use Rattle.verilog_tree.specs.declared.tree.BinaryOperator.TheVariants as op
use Rattle.verilog_tree.specs.Scope.{is_known}
use Rattle.verilog_tree.specs.Rules.{are_distinct}
use Rattle.verilog_tree.specs.WellFormed.{IsWellFormed}
use Rattle.netlist.specs.declared.netlist.Value.TheVariants as v
use Rattle.netlist.specs.declared.netlist.Source.TheVariants as source
use Rattle.netlist.specs.declared.netlist.Signal.{Signal}
use Rattle.netlist.specs.declared.netlist.Effect.TheVariants as effect
use Rattle.netlist.specs.declared.netlist.Action.{Action}
use Rattle.netlist.specs.declared.netlist.Module.{Module}
use Rattle.netlist.specs.declared.netlist.Netlist.{Netlist}
use Rattle.netlist.specs.NetlistOf.{Name, netlist_of}
use Rattle.netlist.specs.Laid.{EachAt, IsLaidModule, IsLaid, declared_names}
use Rattle.netlist.specs.Sound.{IsSoundModule, IsSound, Writes, Places, is_write}
use Rattle.netlist_text.specs.LaidOut.{net_of}
use Rattle.netlist_text.proofs.Members.{In, in_holds}
use Rattle.std.specs.Str.{bytes_eq}
use Rattle.std.proofs.lemmas.Slice.Eq.{bytes_eq-Decides}
use Rattle.std.proofs.lemmas.Bool.{not-true, and_parts}
use Rattle.netlist_text.proofs.Back.{netlist_back}
use Rattle.netlist_text.proofs.NetFormed.{net_formed}

-- ---- lists that are written out

-- each of a list, by its place from k on
abbrev pub each_from : {A : Type 0} → (ℕ → A → Type 0) → ℕ → List A → Type 0
each_from P k [] = Unit {0}
each_from P k (x ∷ xs) = P k x × each_from P (k + 1) xs

each_later : {A : Type 0} (P : ℕ → A → Type 0) (k : ℕ) (xs : List A) → each_from P k xs → (j : ℕ) (x : A) → slice_get xs j ≡ Some x → P (k + j) x
each_later P k [] h j x q = absurd (none-some x q)
each_later P k (y ∷ xs) h zero x q = subst (λ (i : ℕ). P i x) (sym (add-zero k)) (subst (P k) (same_Some y x q) h.0)
each_later P k (y ∷ xs) h (suc j) x q = let e : k + 1 + j ≡ k + suc j = omega arith in subst (λ (i : ℕ). P i x) e (each_later P (k + 1) xs h.1 j x q)

pub each_at_from : {A : Type 0} (P : ℕ → A → Type 0) (xs : List A) → each_from P 0 xs → EachAt xs P
each_at_from P xs h = λ k x q. subst (λ (i : ℕ). P i x) (zero-add k) (each_later P 0 xs h k x q)

false_true : {X : Type 0} (b : Bool) → b ≡ true → b ≡ false → X
false_true b p q = let e : true ≡ false = sym p ∙ q in absurd (cc)

first_apart : (n : Name) (names : List Name) → are_distinct (n ∷ names) ≡ true → (j : ℕ) (x : Name) → n ≡ x → slice_get names j ≡ Some x → ⊥
first_apart n names h j x e q =
    let held : In names n = record { at = j; found = q ∙ ap Some (sym e) } in
    false_true (is_known names n) (in_holds bytes_eq bytes_eq-Decides names n held) (not-true (is_known names n) (and_parts _ _ h).0)

-- names that a test finds apart
pub apart_by_test : (names : List Name) → are_distinct names ≡ true → (i j : ℕ) (x : Name) → slice_get names i ≡ Some x → slice_get names j ≡ Some x → i ≡ j
apart_by_test [] h i j x p q = absurd (none-some x p)
apart_by_test (n ∷ names) h zero zero x p q = refl
apart_by_test (n ∷ names) h zero (suc j) x p q = absurd (first_apart n names h j x (same_Some n x p) q)
apart_by_test (n ∷ names) h (suc i) zero x p q = absurd (first_apart n names h i x (same_Some n x q) p)
apart_by_test (n ∷ names) h (suc i) (suc j) x p q = ap (λ k. suc k) (apart_by_test names (and_parts (not (is_known names n)) _ h).1 i j x p q)

-- ---- the counter

abbrev clock : Signal
clock = record { name = codes "clk"; width = 1; is_output = false; source = source.Input }

abbrev enable : Signal
enable = record { name = codes "en"; width = 1; is_output = false; source = source.Input }

abbrev count : Signal
count = record { name = codes "q_0"; width = 2; is_output = false; source = source.Register 0 }

abbrev next : Signal
next = record { name = codes "n_1"; width = 2; is_output = false; source = source.Assigned (v.Binary op.Add 2 4) }

abbrev one : Signal
one = record { name = codes "c_2"; width = 2; is_output = false; source = source.Assigned (v.Constant 1) }

abbrev done : Signal
done = record { name = codes "done"; width = 1; is_output = true; source = source.Assigned (v.Select 2 1 1) }

abbrev step : Action
step = record { conditions = []; effect = effect.Set 2 3 }

abbrev top : Module
top = record { name = codes "top"; signals = clock ∷ enable ∷ count ∷ next ∷ one ∷ done ∷ []; memories = []; actions = step ∷ []; instances = [] }

abbrev counter : Netlist
counter = record { modules = top ∷ [] }

places : (xs : List ℕ) → each_from (λ k x. x < 6) 0 xs → EachAt xs (λ k x. x < 6)
places xs h = each_at_from (λ k x. x < 6) xs h

top_laid : IsLaidModule [] top
top_laid = record {
  names = apart_by_test (declared_names top) refl;
  order = refl;
  signals = each_at_from _ top.signals (
    record { low = omega arith; high = omega arith; drives = refl },
    (
      record { low = omega arith; high = omega arith; drives = refl },
      (
        record { low = omega arith; high = omega arith; drives = refl },
        (
          record { low = omega arith; high = omega arith; drives = (places (2 ∷ 4 ∷ []) (omega arith, (omega arith, tt)), λ k j q. absurd (none-some j q)) },
          (
            record { low = omega arith; high = omega arith; drives = (places [] tt, λ k j q. absurd (none-some j q)) },
            (record { low = omega arith; high = omega arith; drives = (places (2 ∷ []) (omega arith, tt), λ k j q. absurd (none-some j q)) }, tt),
          ),
        ),
      ),
    ),
  );
  memories = λ k x q. absurd (none-some x q);
  actions = each_at_from _ top.actions (
    record {
      conditions = places [] tt;
      signals = places (2 ∷ 3 ∷ []) (omega arith, (omega arith, tt));
      memories = λ k j q. absurd (none-some j q);
    },
    tt,
  );
  instances = λ k x q. absurd (none-some x q);
}

counter_laid : IsLaid counter
counter_laid = record {
  names = apart_by_test (codes "top" ∷ []) refl;
  modules = each_at_from _ counter.modules (top_laid, tt);
}

top_sound : IsSoundModule top []
top_sound = record {
  name = refl;
  port = (0, clock, refl, inl refl);
  signals = each_at_from _ top.signals (
    record { fits = refl; set = tt; clock = λ c. (refl, refl) },
    (
      record { fits = refl; set = tt; clock = λ c. false_true _ c refl },
      (
        record { fits = refl; set = (0, step, 3, refl, refl); clock = λ c. false_true _ c refl },
        (
          record { fits = refl; set = tt; clock = λ c. false_true _ c refl },
          (record { fits = refl; set = tt; clock = λ c. false_true _ c refl }, (record { fits = refl; set = tt; clock = λ c. false_true _ c refl }, tt)),
        ),
      ),
    ),
  );
  memories = λ k x q. absurd (none-some x q);
  actions = each_at_from _ top.actions (refl, tt);
  instances = λ k x q. absurd (none-some x q);
  actions_clocked = λ k a q. (0, clock, refl, refl);
  instances_clocked = λ k n of q. absurd (none-some n q);
}

no_write : (k : ℕ) → Writes counter k → ⊥
no_write (suc k) w = none-some w.0 w.3
no_write zero w = writes_of w.0 w.1 w.2 (same_Some top w.0 w.3) w.4 w.5 where
  writes_of : (m : Module) (j : ℕ) (a : Action) → top ≡ m → slice_get m.actions j ≡ Some a → is_write a.effect ≡ true → ⊥
  writes_of m j a e q p = at_top j (ap (λ (y : Module). slice_get y.actions j) e ∙ q) where
    at_top : (j : ℕ) → slice_get top.actions j ≡ Some a → ⊥
    at_top zero r = false_true _ p (ap (λ (y : Action). is_write y.effect) (sym (same_Some step a r)))
    at_top (suc j) r = none-some a r

no_instance : (k j of : ℕ) → Places counter k j of → ⊥
no_instance (suc k) j of p = none-some p.0 p.2
no_instance zero j of p =
    let e : top ≡ p.0 = same_Some top p.0 p.2 in
    none-some p.1 (ap (λ (y : Module). slice_get y.instances j) e ∙ p.3)

counter_sound : IsSound counter
counter_sound = record {
  laid = counter_laid;
  filled = omega arith;
  modules = each_at_from _ counter.modules (top_sound, tt);
  printing = record {
    below = λ k. false;
    writes = λ k w. absurd (no_write k w);
    holds = λ k j of p. absurd (no_instance k j of p);
    one = λ k j w. absurd (no_write k w);
    placed = λ k w. absurd (no_write k w);
    once = λ k j l i of h p. absurd (no_instance k j of p);
  };
}

pub counter_back : netlist_of (net_of counter) ≡ counter
counter_back = netlist_back counter counter_laid

pub counter_formed : IsWellFormed (net_of counter)
counter_formed = net_formed counter counter_sound
