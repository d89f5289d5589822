-- Each array of a program's code is a local's.
use Rattle.std.proofs.Common.{◌≡◌, ℕ, zero, suc, Bool, true, false, if◌then◌else◌, List, [], ◌∷◌, ◌++◌, Some, refl, sym, ap, ◌∙◌, ⊎_elim}
use Rattle.std.proofs.lemmas.List.Concat.{flat_map-append}
use Rattle.std.specs.Prelude.{slice_get}
use Rattle.lists.proofs.Places.{get_either}
use Rattle.c_program.specs.declared.tree.LocalVariable.{LocalVariable}
use Rattle.c_program.specs.Tree.{Function, Program}
use Rattle.block_ir.specs.declared.code.Array.{Array}
use Rattle.code_following.specs.Typed.{IsLocalArray}
use Rattle.code_storage.specs.Locals.{is_scalar, array_of, arrays_of, all_locals}
use Rattle.code_storage.specs.Reaching.{with_marks}

-- a local of the list that has the array
record IsAmongLocals (ls : List LocalVariable) (array : Array) : Type 0 where
  pub place : ℕ
  pub variable : LocalVariable
  pub is : slice_get ls place ≡ Some variable
  pub typed : variable.ty ≡ array.ty
  pub long : variable.length ≡ array.length

among_more : (l : LocalVariable) (ls : List LocalVariable) (array : Array) → IsAmongLocals ls array → IsAmongLocals (l ∷ ls) array
among_more l ls array h = record { place = suc h.place; variable = h.variable; is = h.is; typed = h.typed; long = h.long }

in_locals : (ls : List LocalVariable) (a : ℕ) (array : Array) → slice_get (arrays_of ls) a ≡ Some array → IsAmongLocals ls array
in_locals [] a array e = absurd cc
in_locals (l ∷ ls) a array e = by_kind (is_scalar l) (λ b q. in_locals ls b array q) a e
  where
    by_kind : (t : Bool) → ((b : ℕ) → slice_get (arrays_of ls) b ≡ Some array → IsAmongLocals ls array) → (b : ℕ) →
        slice_get ((if t then [] else record { ty = l.ty; length = l.length } ∷ []) ++ arrays_of ls) b ≡ Some array → IsAmongLocals (l ∷ ls) array
    by_kind true rest b q = among_more l ls array (rest b q)
    by_kind false rest (suc b) q = among_more l ls array (rest b q)
    by_kind false rest zero q = record { place = 0; variable = l; is = refl; typed = cc; long = cc }

-- a function of the list that has the local
record IsAmongFunctions (fs : List Function) (array : Array) : Type 0 where
  pub number : ℕ
  pub function : Function
  pub found : slice_get fs number ≡ Some function
  pub local : IsAmongLocals function.locals array

function_more : (f : Function) (fs : List Function) (array : Array) → IsAmongFunctions fs array → IsAmongFunctions (f ∷ fs) array
function_more f fs array h = record { number = suc h.number; function = h.function; found = h.found; local = h.local }

in_functions : (marks : List Bool) (fs : List Function) (a : ℕ) (array : Array) → slice_get (arrays_of (all_locals (with_marks marks fs))) a ≡ Some array → IsAmongFunctions fs array
in_functions marks [] a array e = absurd cc
in_functions [] (f ∷ fs) a array e = function_more f fs array (in_functions [] fs a array e)
in_functions (false ∷ marks) (f ∷ fs) a array e = function_more f fs array (in_functions marks fs a array e)
in_functions (true ∷ marks) (f ∷ fs) a array e =
    ⊎_elim
    (λ h. record { number = 0; function = f; found = refl; local = in_locals f.locals a array h })
    (λ h. function_more f fs array (in_functions marks fs h.0 array h.1))
    (get_either (arrays_of f.locals) (arrays_of (all_locals (with_marks marks fs))) a array
    (ap (λ l. slice_get l a) (sym (flat_map-append array_of f.locals (all_locals (with_marks marks fs)))) ∙ e))

pub array_local : (P : Program) (marks : List Bool) (a : ℕ) (array : Array) → slice_get (arrays_of (all_locals (with_marks marks P.functions))) a ≡ Some array → IsLocalArray P array
array_local P marks a array e =
    let h = in_functions marks P.functions a array e in
    record {
      number = h.number;
      function = h.function;
      found = h.found;
      place = h.local.place;
      variable = h.local.variable;
      declared_ = h.local.is;
      typed = h.local.typed;
      long = h.local.long;
    }
