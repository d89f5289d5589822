-- A function of the program that is called: by what its header says.
use Rattle.std.proofs.Common.{◌≡◌, refl, sym, ap, ◌∙◌, ℕ, Bool, true, false, List, length, Some, None, arith}
use Rattle.std.specs.Prelude.{◌&&◌, not, nat_eq}
use Rattle.std.proofs.lemmas.Bool.{or_parts, both_ways, false≢true}
use Rattle.c_program.specs.Tree.{Expression, Function, Program}
use Rattle.c_program.specs.Resolved as r
use Rattle.c_rules.specs.declared.names.Header.{Header}
use Rattle.c_rules.specs.declared.specifiers.BaseType.{BaseType}
use Rattle.c_rules.specs.declared.specifiers.BaseType.TheVariants as base
use Rattle.c_rules.specs.Names.{is_start_routine, is_void_base}
use Rattle.c_resolution.specs.Functions.{gives_by, is_unlisted, return_by}
use Rattle.c_resolved_program.specs.Orders.{IsHeader}
use Rattle.c_resolved_program.proofs.Callees.{IsCalled}

-- a function that is no start routine and is called as a value returns one
pub integer_by : (routine : Bool) (b : BaseType) (pointer : Bool) → routine ≡ false → (is_void_base b && not pointer) ≡ false → is_unlisted (gives_by routine b pointer) ≡ false →
    r.is_integer (return_by routine b pointer) ≡ true
integer_by false (base.Integer ty) false not_routine valued listed = refl
integer_by false (base.Integer ty) true not_routine valued listed = cc
integer_by false base.Void false not_routine valued listed = cc
integer_by false base.Void true not_routine valued listed = cc
integer_by false base.Thread pointer not_routine valued listed = cc
integer_by false base.Mutex pointer not_routine valued listed = cc
integer_by false base.Barrier pointer not_routine valued listed = cc
integer_by false base.Unlisted pointer not_routine valued listed = cc
integer_by true b pointer not_routine valued listed = cc

pub no_pointer_by : (routine : Bool) (b : BaseType) (pointer : Bool) → routine ≡ false → r.is_pointer (return_by routine b pointer) ≡ false
no_pointer_by false (base.Integer ty) false h = refl
no_pointer_by false (base.Integer ty) true h = refl
no_pointer_by false base.Void pointer h = refl
no_pointer_by false base.Thread pointer h = refl
no_pointer_by false base.Mutex pointer h = refl
no_pointer_by false base.Barrier pointer h = refl
no_pointer_by false base.Unlisted pointer h = refl
no_pointer_by true b pointer h = cc

pub not_equal : (m n : ℕ) → not (nat_eq m n) ≡ false → m ≡ n
not_equal m n h = grind arith

module _ (P : Program) (f : Function) (h : Header) (count : ℕ) (header : IsHeader P h) where
  abbrev pub is_call : (is_value : Bool) (callee : ℕ) (values : List Expression) → h.definition ≡ Some callee → IsCalled h count is_value →
      r.AreExpressions P f values → length values ≡ count → r.IsCall P f callee values
  is_call is_value callee values is called all counted =
      let d = header.definition callee is in
      let placed = or_parts h.is_main (is_start_routine h) called.placed in
      record {
        code = d.code;
        found = d.found;
        not_main = λ main. both_ways h.is_main placed.0 (d.main main);
        not_routine =
            ap r.is_pointer d.returns ∙ no_pointer_by (is_start_routine h) h.returns.base h.returns.is_pointer placed.1;
        count = counted ∙ not_equal count (length h.parameters) called.counted ∙ sym d.parameters;
        passed = all;
      }

  -- a call whose value is not used
  pub is_dropped_call : (callee : ℕ) (values : List Expression) → h.definition ≡ Some callee → IsCalled h count false →
      r.AreExpressions P f values → length values ≡ count → r.IsKeptCall P f None callee values
  is_dropped_call callee values is called all counted =
      record { call = is_call false callee values is called all counted; slot = tt; gives = λ kept. absurd (false≢true kept) }

  pub is_value_call : (slot callee : ℕ) (values : List Expression) → r.IsSlot f slot → h.definition ≡ Some callee → IsCalled h count true →
      r.AreExpressions P f values → length values ≡ count → r.IsKeptCall P f (Some slot) callee values
  is_value_call slot callee values own is called all counted =
      let d = header.definition callee is in
      let placed = or_parts h.is_main (is_start_routine h) called.placed in
      record {
        call = is_call true callee values is called all counted;
        slot = own;
        gives = λ _. ap r.is_integer d.returns ∙ integer_by (is_start_routine h) h.returns.base h.returns.is_pointer placed.1 called.valued header.listed;
      }
