-- What calls need, where the code is too large.
use Rattle.std.proofs.Common.{◌≡◌, ℕ, ◌+◌, ◌*◌, true, List, [], length, Option, Some, None, sym, ap, ◌∙◌, arith}
use Rattle.std.specs.Prelude.{slice_get}
use Rattle.std.proofs.lemmas.List.Elements.{Contains-push}
use Rattle.c_program.specs.Tree.{Expression, Statement, Function, Program}
use Rattle.c_program.specs.Weight.{arguments_weight, function_weight}
use Rattle.code_blocks.specs.declared.fault.LoweringFault.{LoweringFault}
use Rattle.code_places.specs.declared.lowering.Caller.{Caller as CallerCode}
use Rattle.code_places.specs.declared.lowering.Lowering.{Lowering}
use Rattle.code_places.specs.Weighing.{inlined_weight}
use Rattle.code_places.specs.Doing.{Leads}
use Rattle.code_calls.specs.Calling.{OpensCall}
use Rattle.code_blocks.specs.Room.{IsFull}
use Rattle.code_places.specs.Needing.{needed, IsFullFor, IsFullCall}
use Rattle.code_blocks.proofs.Room.{full_more}
use Rattle.code_places.proofs.InlinedWeight.{body_weighs}
use Rattle.code_calls.proofs.Callees.{arguments_least, at_function, typed_begun, suits_there}

module _ (P : Program) (depth : ℕ) (into : Option ℕ) (g : ℕ) (es : List Expression) (c : Lowering) (fault : LoweringFault) where
  -- calls are not so deep
  pub call_too_deep : depth ≡ 0 → IsFullCall P depth into g es c fault
  call_too_deep none = λ S w size seated deep fits good is called now.
      absurd (let low = deep seated.resolved.acyclic g called in omega (arith, low, none))

  -- there is such a function
  pub call_unknown : slice_get P.functions g ≡ None → IsFullCall P depth into g es c fault
  call_unknown none = λ S w size seated deep fits good is called now.
      absurd (let known : None ≡ Some is.call.code = sym (ap (λ (z : Program). slice_get z.functions g) seated.program ∙ none) ∙ is.call.found in cc)

  module _ (function : Function) (found : slice_get P.functions g ≡ Some function) (caller : CallerCode) (begun : Lowering) (opens : OpensCall into g function es caller c begun)
      (on : c.reached ≡ true) where
    -- the code of the function
    pub call_body : (less : ℕ) → less + 1 ≡ depth → IsFullFor P less function.body begun fault → IsFullCall P depth into g es c fault
    call_body less is_less full = λ S w size seated deep fits good is called now.
        let at = at_function P into g es c begun function found caller opens on S w size seated fits good is called now in
        let weighs = body_weighs S.program g function seated.resolved.acyclic at in
        full_more fault (needed S size (w + arguments_weight es + 1 + inlined_weight S.program function.body)) (needed S size (w + (arguments_weight es + function_weight S.program.functions g)))
        (omega (arith, weighs))
        (full (record S { function = function }) (w + arguments_weight es + 1) size
        (suits_there P into g es c begun function found caller opens on S w size seated fits good is called now)
        (λ acyclic h inner.
        let low = deep acyclic g called in
        let falls = acyclic.falls g h (record { code = function; found = at; called = inner }) in
        omega (arith, low, falls, is_less))
        (typed_begun P into g es c begun function found caller opens on S w size seated fits good is called now))

    -- its closing brace
    pub call_closing : (done : Lowering) → Leads P None function.body begun done → IsFull (done.block.steps + 1) fault → IsFullCall P depth into g es c fault
    call_closing done lowers full = λ S w size seated deep fits good is called now.
        let at = at_function P into g es c begun function found caller opens on S w size seated fits good is called now in
        let weighs = body_weighs S.program g function seated.resolved.acyclic at in
        let typed =
        lowers.typed (record S { function = function }) (w + arguments_weight es + 1) size
        (suits_there P into g es c begun function found caller opens on S w size seated fits good is called now)
        (typed_begun P into g es c begun function found caller opens on S w size seated fits good is called now) in
        full_more fault (done.block.steps + 1) (needed S size (w + (arguments_weight es + function_weight S.program.functions g)))
        (let s = typed.steps in omega (arith, weighs, s)) full

-- the statement

pub call_for : (P : Program) (depth : ℕ) (s : Statement) (offset : ℕ) (into : Option ℕ) (g : ℕ) (es : List Expression) (c : Lowering) (fault : LoweringFault) →
    s ≡ Statement.Call offset into g es → IsFullCall P depth into g es c fault → IsFullFor P depth s c fault
call_for P depth s offset into g es c fault is full = rw is (λ S w size suits deep now.
    let least = arguments_least into es in
    full_more fault (needed S size (w + (arguments_weight es + function_weight S.program.functions g))) (needed S size (w + inlined_weight S.program (Statement.Call offset into g es)))
    (omega (arith, least))
    (full S w size suits.seated deep suits.fits suits.good suits.resolved (suits.calls g (Contains-push [] g)) now))

-- the closing brace of main
pub closing_for : (P : Program) (depth : ℕ) (s : Statement) (c done : Lowering) (fault : LoweringFault) → Leads P None s c done → IsFull (done.block.steps + 1) fault → IsFullFor P depth s c fault
closing_for P depth s c done fault lowers full = λ S w size suits deep now same.
    (let h = full same in let t = (lowers.typed S w size suits now).steps in omega (arith, h, t))
