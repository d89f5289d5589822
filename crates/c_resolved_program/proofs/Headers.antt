-- Two declarations of one function agree on what the program keeps of them.
use Rattle.std.proofs.Common.{◌≡◌, refl, ap, Bool, true, false, List, [], ◌∷◌, length, eqb-true, rules}
use Rattle.std.specs.Prelude.{◌&&◌, ◌||◌, not, nat_eq}
use Rattle.std.specs.List.{list_all, zip}
use Rattle.std.proofs.lemmas.Bool.{and_parts}
use Rattle.std.proofs.Math.Nat.{suc_inj}
use denote.Enum.Bare.{sameb, same_true}
use Rattle.c_rules.specs.contracts.specifiers.BasicType as basic_type
use Rattle.c_rules.specs.declared.specifiers.BasicType.{BasicType}
use Rattle.c_rules.specs.declared.specifiers.BaseType.{BaseType}
use Rattle.c_rules.specs.declared.specifiers.BaseType.TheVariants as base
use Rattle.c_rules.specs.declared.names.DeclaredType.{DeclaredType}
use Rattle.c_rules.specs.declared.names.Header.{Header}
use Rattle.c_rules.specs.Names.{is_start_routine, is_pointer_alone, is_void_pointer}
use Rattle.c_resolution.specs.Functions as y

basic_same : (a b : BasicType) → sameb basic_type.the_type a b ≡ true → a ≡ b
basic_same a b h = same_true basic_type.the_type (search rules) a b h

base_same : (a b : BaseType) → y.same_base a b ≡ true → a ≡ b
base_same (base.Integer x) (base.Integer z) h = ap base.Integer (basic_same x z h)
base_same base.Void base.Void h = refl
base_same base.Thread base.Thread h = refl
base_same base.Mutex base.Mutex h = refl
base_same base.Barrier base.Barrier h = refl
base_same base.Unlisted base.Unlisted h = refl
base_same (base.Integer x) base.Void h = cc
base_same (base.Integer x) base.Thread h = cc
base_same (base.Integer x) base.Mutex h = cc
base_same (base.Integer x) base.Barrier h = cc
base_same (base.Integer x) base.Unlisted h = cc
base_same base.Void (base.Integer z) h = cc
base_same base.Void base.Thread h = cc
base_same base.Void base.Mutex h = cc
base_same base.Void base.Barrier h = cc
base_same base.Void base.Unlisted h = cc
base_same base.Thread (base.Integer z) h = cc
base_same base.Thread base.Void h = cc
base_same base.Thread base.Mutex h = cc
base_same base.Thread base.Barrier h = cc
base_same base.Thread base.Unlisted h = cc
base_same base.Mutex (base.Integer z) h = cc
base_same base.Mutex base.Void h = cc
base_same base.Mutex base.Thread h = cc
base_same base.Mutex base.Barrier h = cc
base_same base.Mutex base.Unlisted h = cc
base_same base.Barrier (base.Integer z) h = cc
base_same base.Barrier base.Void h = cc
base_same base.Barrier base.Thread h = cc
base_same base.Barrier base.Mutex h = cc
base_same base.Barrier base.Unlisted h = cc
base_same base.Unlisted (base.Integer z) h = cc
base_same base.Unlisted base.Void h = cc
base_same base.Unlisted base.Thread h = cc
base_same base.Unlisted base.Mutex h = cc
base_same base.Unlisted base.Barrier h = cc

pointer_same : (a b : Bool) → ((a && b) || (not a && not b)) ≡ true → a ≡ b
pointer_same true true h = refl
pointer_same false false h = refl
pointer_same true false h = cc
pointer_same false true h = cc

pub type_same : (a b : DeclaredType) → y.same_type a b ≡ true → a ≡ b
type_same a b h =
    let parts = and_parts (y.same_base a.base b.base) ((a.is_pointer && b.is_pointer) || (not a.is_pointer && not b.is_pointer)) h in
    let bases = base_same a.base b.base parts.0 in
    let pointers = pointer_same a.is_pointer b.is_pointer parts.1 in
    λ i. record { base = bases i; is_pointer = pointers i }

types_same : (xs zs : List DeclaredType) → length xs ≡ length zs → list_all (λ (p : DeclaredType × DeclaredType). y.same_type p.0 p.1) (zip xs zs) ≡ true → xs ≡ zs
types_same [] [] count h = refl
types_same [] (z ∷ zs) count h = cc
types_same (x ∷ xs) [] count h = cc
types_same (x ∷ xs) (z ∷ zs) count h =
    let parts = and_parts (y.same_type x z) (list_all (λ (p : DeclaredType × DeclaredType). y.same_type p.0 p.1) (zip xs zs)) h in
    let first = type_same x z parts.0 in
    let rest = types_same xs zs (suc_inj count) parts.1 in
    λ i. first i ∷ rest i

-- the same types
pub record IsSame (a b : Header) : Type 0 where
  pub returns : a.returns ≡ b.returns
  pub parameters : a.parameters ≡ b.parameters

pub function_same : (a b : Header) → y.is_same_function a b ≡ true → IsSame a b
function_same a b h =
    let parts = and_parts (y.same_type a.returns b.returns) (nat_eq (length a.parameters) (length b.parameters)
    && list_all (λ (p : DeclaredType × DeclaredType). y.same_type p.0 p.1) (zip a.parameters b.parameters)) h in
    let more = and_parts (nat_eq (length a.parameters) (length b.parameters))
    (list_all (λ (p : DeclaredType × DeclaredType). y.same_type p.0 p.1) (zip a.parameters b.parameters)) parts.1 in
    record {
      returns = type_same a.returns b.returns parts.0;
      parameters = types_same a.parameters b.parameters (eqb-true (length a.parameters) (length b.parameters) more.0) more.1;
    }

pub routine_same : (a b : Header) → IsSame a b → is_start_routine a ≡ is_start_routine b
routine_same a b same = λ i. is_void_pointer (same.returns i) && is_pointer_alone (same.parameters i)

pub return_same : (a b : Header) → IsSame a b → y.return_type a ≡ y.return_type b
return_same a b same = λ i. y.return_by (routine_same a b same i) (same.returns i).base (same.returns i).is_pointer
