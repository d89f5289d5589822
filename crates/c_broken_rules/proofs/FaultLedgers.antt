-- Ledgers of first faults: the parts of a text that break one of the judged rules, and what a walk that finds a single fault writes.
use Rattle.std.proofs.Common.{◌≡◌, refl, sym, subst, inl, inr, ℕ, Bool, true, false, [], ◌∷◌, Option, Some, None}
use Rattle.std.specs.Prelude.{◌⊎◌}
use Rattle.std.proofs.lemmas.Option.{none-some}
use Rattle.c_rules.specs.declared.fault.Rule.{Rule}
use Rattle.c_rules.specs.declared.fault.Fault.{Fault}
use Rattle.c_rules.specs.Faults.{first}
use Rattle.c_rules.specs.Findings as findings
use Rattle.c_rules.specs.Findings.{nothing}
use Rattle.c_rules.specs.Walks.{finds, finds_if, creates}
use Rattle.c_broken_rules.specs.Parts.{Part, Parts}
use Rattle.c_broken_rules.proofs.Orders.{IsReached, reached_first, reached_new, first_from}
use Rattle.c_broken_rules.proofs.Ledgers.{Ledger, Entered, Good, good_pure, good_with, nothing_new}
use Rattle.c_broken_rules.proofs.Quiets.{IsQuiet, CallsAreQuiet}

abbrev pub fault_of : Rule → ℕ → Fault
fault_of r at = record { rule = r; offset = at }

-- the rules that are judged, and the fault that a part is by itself
module _ (IsJudged : Rule → Type 0) (BreaksAt : Part → Fault → Type 0) where
  abbrev pub fault_ledger : Ledger
  fault_ledger = record {
    Entry = Fault;
    Seen = λ found x. found.fault ≡ Some x;
    Reached = λ found x. IsReached x found.fault;
    Judged = λ x. IsJudged x.rule;
    At = BreaksAt;
    Order = λ a b ps. Unit {0};
    order_none = λ a. tt;
    order_both = λ a b c ps qs h k. tt;
    order_with = λ a b part ps none h. tt;
  }

  abbrev L : Ledger
  L = fault_ledger

  unjudged_from : (a : Option Fault) (x f : Fault) → (IsJudged x.rule → ⊥) → (a ≡ Some f) ⊎ (x ≡ f) → (a ≡ Some f) ⊎ (IsJudged f.rule → ⊥)
  unjudged_from a x f not_one (inl e) = inl e
  unjudged_from a x f not_one (inr e) = inr (λ j. not_one (subst (λ (g : Fault). IsJudged g.rule) (sym e) j))

  -- a rule that is not judged
  pub other : (r : Rule) → (IsJudged r → ⊥) → IsQuiet L r
  unfolding findings.broken
  other r out at = record {
    writes = λ found. record {
      from = λ f e. unjudged_from found.fault (fault_of r at) f out (first_from found.fault (fault_of r at) f e);
      keeps = λ x h. reached_first x found.fault (Some (fault_of r at)) h;
      finds = λ x h. absurd h;
      order = tt;
    };
  }

  part_from : (a : Option Fault) (part : Part) (x f : Fault) → BreaksAt part x → (a ≡ Some f) ⊎ (x ≡ f) → (a ≡ Some f) ⊎ (IsJudged f.rule → Entered L (part ∷ []) f)
  part_from a part x f is (inl e) = inl e
  part_from a part x f is (inr e) = inr (λ j. inl (subst (BreaksAt part) e is))

  part_found : (a : Option Fault) (part : Part) (x y : Fault) → ((z : Fault) → BreaksAt part z → z ≡ x) → Entered L (part ∷ []) y → IsReached y (first a (Some x))
  part_found a part x y only (inl h) = subst (λ z. IsReached y (first a (Some z))) (only y h) (reached_new y a)
  part_found a part x y only (inr h) = absurd h

  -- a part that is one fault
  pub part_fault : (part : Part) (r : Rule) (at : ℕ) → BreaksAt part (fault_of r at) → ((z : Fault) → BreaksAt part z → z ≡ fault_of r at) → Good L (finds r at) (part ∷ [])
  unfolding findings.broken
  part_fault part r at is only = record {
    writes = λ found. record {
      from = λ f e. part_from found.fault part (fault_of r at) f is (first_from found.fault (fault_of r at) f e);
      keeps = λ x h. reached_first x found.fault (Some (fault_of r at)) h;
      finds = λ x h. part_found found.fault part (fault_of r at) x only h;
      order = tt;
    };
  }

  -- a part that is one where the test holds
  pub part_if : (b : Bool) (part : Part) (r : Rule) (at : ℕ) → (b ≡ true → BreaksAt part (fault_of r at)) → ((z : Fault) → BreaksAt part z → z ≡ fault_of r at) →
      (b ≡ false → (z : Fault) → BreaksAt part z → ⊥) → Good L (finds_if b r at) (part ∷ [])
  part_if true part r at is only none = record { writes = (part_fault part r at (is refl) only).writes }
  part_if false part r at is only none =
      let nothing_found : Unit {0} = tt in
      record { writes = (good_with L part [] (none refl) (good_pure L nothing_found)).writes }

  -- calls and creates are no faults by themselves
  pub calls_quiet : CallsAreQuiet L
  calls_quiet (Some caller) callee at = record {
    writes = λ found. record { from = λ f e. inl e; keeps = λ x h. h; finds = λ x h. absurd h; order = tt };
  }
  calls_quiet None callee at = record { writes = λ found. nothing_new L found }

  pub creation_quiet : (thread routine at : ℕ) → Good L (creates thread routine at) []
  creation_quiet thread routine at = record {
    writes = λ found. record { from = λ f e. inl e; keeps = λ x h. h; finds = λ x h. absurd h; order = tt };
  }

  -- a fault by a judged rule that was not there at first is one of the parts
  pub new_from : (ps : Parts) (f : Fault) → IsJudged f.rule → (nothing.fault ≡ Some f) ⊎ (IsJudged f.rule → Entered L ps f) → Entered L ps f
  new_from ps f judged (inl e) = absurd (none-some f e)
  new_from ps f judged (inr h) = h judged
