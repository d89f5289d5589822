-- The finals of a block leave in each variable what it holds.
use Rattle.std.proofs.Common.{◌≡◌, ℕ, zero, suc, Bool, List, [], ◌∷◌, ◌++◌, length, ℤ, Option, Some, None, refl, sym, ap, ◌∙◌, subst, ⊎_elim, inl, inr}
use Rattle.std.specs.Prelude.{nat_eq, ◌⊎◌, if◌then◌else◌, slice_get, slice_set}
use Rattle.std.proofs.lemmas.Bool.Decides.{eqb_tells}
use Rattle.std.proofs.lemmas.List.{length-set}
use Rattle.lists.proofs.Places.{set_element}
use Rattle.block_ir.specs.declared.operand.Operand.{Operand}
use Rattle.block_ir.specs.declared.block.Final.{Final}
use Rattle.block_ir.specs.declared.block.Next.{Next}
use Rattle.block_ir.specs.declared.block.Block.{Block}
use Rattle.block_ir.specs.Run.{operand_value, finished}
use Rattle.code_blocks.specs.declared.open_block.OpenBlock.{OpenBlock}
use Rattle.code_blocks.specs.Evaluating.{current_value}
use Rattle.code_blocks.specs.Closing.{IsAmong, Covers, final_at, finals_of, IsUnchanged, Closes}

pub among_append : (xs : List ℕ) (y x : ℕ) → IsAmong (xs ++ y ∷ []) x → (IsAmong xs x) ⊎ (x ≡ y)
among_append [] y x (inl e) = inr e
among_append [] y x (inr h) = absurd h
among_append (z ∷ xs) y x (inl e) = inl (inl e)
among_append (z ∷ xs) y x (inr h) = ⊎_elim (λ k. inl (inr k)) (λ k. inr k) (among_append xs y x h)

pub among_left : (xs : List ℕ) (y x : ℕ) → IsAmong xs x → IsAmong (xs ++ y ∷ []) x
among_left [] y x h = absurd h
among_left (z ∷ xs) y x (inl e) = inl e
among_left (z ∷ xs) y x (inr h) = inr (among_left xs y x h)

pub among_last : (xs : List ℕ) (y : ℕ) → IsAmong (xs ++ y ∷ []) y
among_last [] y = inl refl
among_last (z ∷ xs) y = inr (among_last xs y)

-- a variable that is set is noted
pub covers_set : (current : List (Option Operand)) (changed noted : List ℕ) (n : ℕ) (w : Operand) → Covers current changed → ((x : ℕ) → IsAmong changed x → IsAmong noted x) → IsAmong noted n →
    Covers (slice_set current n (Some w)) noted
covers_set current changed noted n w covers kept is_noted = λ x o e.
    ⊎_elim (λ p. subst (IsAmong noted) (sym p.0) is_noted) (λ p. kept x (covers x o p.1)) (set_element current n x (Some w) (Some o) e)

module _ (current : List (Option Operand)) (variables : ℕ → ℤ) (values : List ℤ) where
  abbrev held : ℕ → ℤ
  held x = current_value (slice_get current x) variables values x

  -- a variable that has its value keeps it
  one_kept : (o : Option (Option Operand)) (y x : ℕ) (after : ℕ → ℤ) → slice_get current y ≡ o → after x ≡ held x → finished variables values (final_at o y) after x ≡ held x
  one_kept (Some None) y x after e h = h
  one_kept None y x after e h = h
  one_kept (Some (Some a)) y x after e h =
      ⊎_elim
      (λ t. ap (λ (b : Bool). if b then operand_value variables values a else after x) t.0 ∙ ap (λ z. current_value z variables values x) (sym e)
      ∙ ap (λ z. current_value (slice_get current z) variables values x) (sym t.1))
      (λ t. ap (λ (b : Bool). if b then operand_value variables values a else after x) t.0 ∙ h)
      (eqb_tells x y)

  finished_append : (fs gs : List Final) (after : ℕ → ℤ) → finished variables values (fs ++ gs) after ≡ finished variables values gs (finished variables values fs after)
  finished_append [] gs after = refl
  finished_append (f ∷ fs) gs after = finished_append fs gs (λ x. if nat_eq x f.variable then operand_value variables values f.value else after x)

  all_kept : (changed : List ℕ) (x : ℕ) (after : ℕ → ℤ) → after x ≡ held x → finished variables values (finals_of current changed) after x ≡ held x
  all_kept [] x after h = h
  all_kept (y ∷ ys) x after h =
      ap (λ (g : ℕ → ℤ). g x) (finished_append (final_at (slice_get current y) y) (finals_of current ys) after)
      ∙ all_kept ys x (finished variables values (final_at (slice_get current y) y) after) (one_kept (slice_get current y) y x after refl h)

  one_put : (o : Option (Option Operand)) (y : ℕ) (after : ℕ → ℤ) (a : Operand) → slice_get current y ≡ o → o ≡ Some (Some a) → finished variables values (final_at o y) after y ≡ held y
  one_put (Some (Some b)) y after a e is =
      ⊎_elim
      (λ t. ap (λ (c : Bool). if c then operand_value variables values b else after y) t.0 ∙ ap (λ z. current_value z variables values y) (sym e))
      (λ t. absurd (t.1 refl))
      (eqb_tells y y)
  one_put (Some None) y after a e is = cc
  one_put None y after a e is = cc

  all_put : (changed : List ℕ) (x : ℕ) (a : Operand) (after : ℕ → ℤ) → slice_get current x ≡ Some (Some a) → IsAmong changed x → finished variables values (finals_of current changed) after x ≡ held x
  all_put [] x a after e h = absurd h
  all_put (y ∷ ys) x a after e (inl same) =
      ap (λ (g : ℕ → ℤ). g x) (finished_append (final_at (slice_get current y) y) (finals_of current ys) after)
      ∙ all_kept ys x (finished variables values (final_at (slice_get current y) y) after)
      (subst (λ z. finished variables values (final_at (slice_get current z) z) after x ≡ held x) same (one_put (slice_get current x) x after a refl e))
  all_put (y ∷ ys) x a after e (inr rest) =
      ap (λ (g : ℕ → ℤ). g x) (finished_append (final_at (slice_get current y) y) (finals_of current ys) after)
      ∙ all_put ys x a (finished variables values (final_at (slice_get current y) y) after) e rest

  by_held : (changed : List ℕ) (x : ℕ) (o : Option (Option Operand)) → Covers current changed → slice_get current x ≡ o → finished variables values (finals_of current changed) variables x ≡ held x
  by_held changed x (Some (Some a)) covers e = all_put changed x a variables e (covers x a e)
  by_held changed x (Some None) covers e = all_kept changed x variables (sym (ap (λ z. current_value z variables values x) e))
  by_held changed x None covers e = all_kept changed x variables (sym (ap (λ z. current_value z variables values x) e))

  pub finals_right : (changed : List ℕ) (x : ℕ) → Covers current changed → finished variables values (finals_of current changed) variables x ≡ held x
  finals_right changed x covers = by_held changed x (slice_get current x) covers refl

-- each final is what its variable holds
module _ (current : List (Option Operand)) where
  from_one : (o : Option (Option Operand)) (x : ℕ) (more : List Final) → slice_get current x ≡ o →
      ((k : ℕ) (f : Final) → slice_get more k ≡ Some f → slice_get current f.variable ≡ Some (Some f.value)) →
      (k : ℕ) (f : Final) → slice_get (final_at o x ++ more) k ≡ Some f → slice_get current f.variable ≡ Some (Some f.value)
  from_one None x more at rest k f e = rest k f e
  from_one (Some None) x more at rest k f e = rest k f e
  from_one (Some (Some a)) x more at rest zero f e =
      subst (λ (g : Final). slice_get current g.variable ≡ Some (Some g.value)) (let same : record { variable = x; value = a } ≡ f = cc in same) at
  from_one (Some (Some a)) x more at rest (suc k) f e = rest k f e

  final_from : (changed : List ℕ) (k : ℕ) (f : Final) → slice_get (finals_of current changed) k ≡ Some f → slice_get current f.variable ≡ Some (Some f.value)
  final_from [] k f e = cc
  final_from (x ∷ xs) k f e = from_one (slice_get current x) x (finals_of current xs) refl (final_from xs) k f e

pub closes_at : (open_ : OpenBlock) (next : Next) (b : Block) → b.operations ≡ open_.operations → b.steps ≡ open_.steps → b.next ≡ next → b.finals ≡ finals_of open_.current open_.changed →
    Closes open_ next b
closes_at open_ next b operations steps next_ finals = record {
  operations = operations;
  steps = steps;
  next_ = next_;
  from = λ k f e. final_from open_.current open_.changed k f (ap (λ fs. slice_get fs k) (sym finals) ∙ e);
  finals = λ covers variables values x.
      ap (λ fs. finished variables values fs variables x) finals ∙ finals_right open_.current variables values open_.changed x covers;
}

-- Variables that are noted are cleared one after another.

pub record Cleared (before now : List (Option Operand)) (done : List ℕ) : Type 0 where
  pub size : length now ≡ length before
  pub left : (x : ℕ) (o : Operand) → slice_get now x ≡ Some (Some o) → slice_get before x ≡ Some (Some o)
  pub gone : (x : ℕ) (o : Operand) → slice_get now x ≡ Some (Some o) → IsAmong done x → ⊥

pub cleared_none : (before : List (Option Operand)) → Cleared before before []
cleared_none before = record { size = refl; left = λ x o e. e; gone = λ x o e h. h }

pub cleared_more : (before now : List (Option Operand)) (done : List ℕ) (v : ℕ) → Cleared before now done → Cleared before (slice_set now v None) (done ++ v ∷ [])
cleared_more before now done v c = record {
  size = length-set now v None ∙ c.size;
  left = λ x o e. ⊎_elim (λ p. absurd (let none : Some o ≡ None = p.1 in cc)) (λ p. c.left x o p.1) (set_element now v x None (Some o) e);
  gone = λ x o e h.
      ⊎_elim (λ p. absurd (let none : Some o ≡ None = p.1 in cc))
      (λ p. ⊎_elim (λ k. c.gone x o p.1 k) (λ k. p.0 k) (among_append done v x h))
      (set_element now v x None (Some o) e);
}

pub cleared_next : (before now next : List (Option Operand)) (done more : List ℕ) (v : ℕ) → next ≡ slice_set now v None → more ≡ done ++ v ∷ [] → Cleared before now done → Cleared before next more
cleared_next before now next done more v is all c = rw (is, all) (cleared_more before now done v c)

pub cleared_all : (before now : List (Option Operand)) (changed : List ℕ) → Cleared before now changed → Covers before changed → IsUnchanged now
cleared_all before now changed c covers = λ x o e. c.gone x o e (covers x o (c.left x o e))
