-- A program that is within the limits is one of a text that is accepted.
use Rattle.std.proofs.Common.{◌≡◌, ℕ, subst, sym}
use Rattle.std.specs.Prelude.{Result, Ok, Err, IfOk}
use Rattle.c_token.specs.Spelling.{Bytes}
use Rattle.c_tree.specs.declared.declaration.TranslationUnit.{TranslationUnit}
use Rattle.c_program.specs.Tree.{Program}
use Rattle.c_resolution.specs.Resolving.{Spells}
use Rattle.c_accepted.specs.Profile.{IsTreeOf, IsWithin, IsAccepted}

pub accepted : (text : Bytes) (tree : TranslationUnit) (spelled P : Program) (w : ℕ) → IsTreeOf text tree → Spells tree spelled → P ≡ spelled → IsWithin P w → IsAccepted text P w
accepted text tree spelled P w is spells same within = record {
  tree = tree;
  is = is;
  spelled = subst (λ Q. Spells tree Q) (sym same) spells;
  within = within;
}

pub of_ok : {A E : Type 0} (x : Result A E) (P Q R : A → Type 0) → ((a : A) → P a → Q a → R a) → IfOk x P → IfOk x Q → IfOk x R
of_ok (Ok a) P Q R f p q = f a p q
of_ok (Err e) P Q R f p q = tt
