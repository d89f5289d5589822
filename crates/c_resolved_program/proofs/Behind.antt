-- A statement behind the cuts of its expressions.
use Rattle.std.proofs.Common.{◌≡◌, refl, subst, ℕ, ◌≤◌, List, [], length, arith}
use Rattle.std.specs.Prelude.{◌+◌, Contains}
use Rattle.lists.proofs.Places.{in_none}
use Rattle.c_program.specs.Tree.{Statement, Function, Program}
use Rattle.c_program.specs.Calls.{calls_of}
use Rattle.c_program.specs.Weight.{statement_weight}
use Rattle.c_program.specs.Resolved as r
use Rattle.c_rules.specs.declared.findings.Findings.{Findings}
use Rattle.c_rules.specs.declared.names.Scope.{Scope}
use Rattle.c_expressions.specs.Cuts.{Cuts, free_from}
use Rattle.c_expressions.specs.Sequences.{behind_cuts}
use Rattle.c_resolution.specs.Slots.{slots_end}
use Rattle.c_resolved_program.specs.Orders.{IsOrderly, IsInOrder, AreFound, IsFoundCreation, IsPointerAt}
use Rattle.c_resolved_program.proofs.Cuts as c

module _ (whole : Findings) (P : Program) (number : ℕ) (f : Function) where
  -- each create is of a start routine, and found
  abbrev pub Created : List (ℕ × ℕ) → Type 0
  Created list = (thread routine : ℕ) → Contains list (thread, routine) → IsPointerAt P routine × IsFoundCreation whole thread routine

  -- where no value is kept yet
  pub starts : (s : Scope) → IsOrderly P number f s → c.AreCuts whole P number f s.kept_from 0 (free_from s.kept_from)
  starts s now = c.none_yet whole P number f s.kept_from (let first = now.kept.first in omega (arith, first))

  -- a statement that takes the room of what is left behind the cuts
  pub behind_any : (a : r.Around) (s : Scope) (p : ℕ) (cuts : Cuts) (last : Statement) → IsOrderly P number f s → c.AreCuts whole P number f s.kept_from p cuts →
      p ≤ statement_weight last + 3 → slots_end last ≤ f.declared_locals + (statement_weight last + 3) →
      (c.Fits whole P number f cuts → slots_end last ≤ length f.locals → r.IsStatement P f a last) → AreFound whole number (calls_of last) → Created (r.creates_of last) →
      IsInOrder whole P number f a (behind_cuts cuts.before last)
  behind_any a s p cuts last now h le own is called created = record {
    is = λ fit.
        let fits = c.behind_fits (length f.locals) cuts.before last fit in
        c.behind_statement whole P number f a cuts.before last (h.is fits.0) (is fits.0 fits.1);
    few =
        (let w = c.behind_weight cuts.before last in
        let inside = h.inside in
        let first = now.kept.first in
        c.behind_end (f.declared_locals + (statement_weight (behind_cuts cuts.before last) + 3)) cuts.before last (omega (arith, inside, w, le, first)) (omega (arith, w, own)));
    calls = c.behind_calls whole P number f cuts.before last h.found called;
    creates = c.behind_creates whole P number f (λ thread routine. IsPointerAt P routine × IsFoundCreation whole thread routine) cuts.before last h.found created;
  }

  -- the same of one that keeps no value itself
  pub behind_is : (a : r.Around) (s : Scope) (p : ℕ) (cuts : Cuts) (last : Statement) → IsOrderly P number f s → c.AreCuts whole P number f s.kept_from p cuts →
      p ≤ statement_weight last + 3 → slots_end last ≡ 0 → (c.Fits whole P number f cuts → r.IsStatement P f a last) → AreFound whole number (calls_of last) →
      Created (r.creates_of last) → IsInOrder whole P number f a (behind_cuts cuts.before last)
  behind_is a s p cuts last now h le none is called created = behind_any a s p cuts last now h le (omega (arith, none)) (λ fit _. is fit) called created

  -- one without calls and creates
  pub plain_behind : (a : r.Around) (s : Scope) (p : ℕ) (cuts : Cuts) (last : Statement) → IsOrderly P number f s → c.AreCuts whole P number f s.kept_from p cuts →
      p ≤ statement_weight last + 3 → slots_end last ≡ 0 → (c.Fits whole P number f cuts → r.IsStatement P f a last) → calls_of last ≡ [] → r.creates_of last ≡ [] →
      IsInOrder whole P number f a (behind_cuts cuts.before last)
  plain_behind a s p cuts last now h le none is calls creates =
      behind_is a s p cuts last now h le none is (λ callee inside. absurd (in_none callee (subst (λ list. Contains list callee) calls inside)))
      (λ thread routine inside. absurd (in_none (thread, routine) (subst (λ list. Contains list (thread, routine)) creates inside)))

  -- a statement without calls, creates and values that are kept
  pub plain_in : (a : r.Around) (x : Statement) → r.IsStatement P f a x → slots_end x ≡ 0 → calls_of x ≡ [] → r.creates_of x ≡ [] → IsInOrder whole P number f a x
  plain_in a x is none calls creates = record {
    is = λ _. is;
    few = omega (arith, none);
    calls = λ callee inside. absurd (in_none callee (subst (λ list. Contains list callee) calls inside));
    creates = λ thread routine inside. absurd (in_none (thread, routine) (subst (λ list. Contains list (thread, routine)) creates inside));
  }

  pub empty_in : (a : r.Around) → IsInOrder whole P number f a Statement.Empty
  empty_in a = plain_in a Statement.Empty tt refl refl refl
