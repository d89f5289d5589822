-- A definition of a function is in order.
use Rattle.std.proofs.Common.{◌≡◌, refl, sym, ap, subst, ◌∙◌, ℕ, zero, suc, ◌<◌, ◌≤◌, true, false, List, []}
use Rattle.std.proofs.Common.{◌∷◌, ◌++◌, map, length, Some, le_trans, arith}
use Rattle.std.specs.Prelude.{◌+◌, max, slice_get, is_some, unwrap_or}
use Rattle.std.specs.List.{AllByRecursion}
use Rattle.std.proofs.lemmas.Bool.{and_parts}
use Rattle.std.proofs.lemmas.List.{length-map}
use Rattle.std.proofs.lemmas.Option.{same_Some, slice_get_within}
use Rattle.hls_ints.specs.Types.{long_int}
use Rattle.c_tree.specs.declared.statement.Block.{Block}
use Rattle.c_tree.specs.declared.declaration.Function.{Function as FunctionTree}
use Rattle.c_program.specs.declared.tree.LocalVariable.{LocalVariable}
use Rattle.c_program.specs.Tree.{Statement, Function, Program}
use Rattle.c_program.specs.Weight.{statement_weight}
use Rattle.c_program.specs.Resolved as r
use Rattle.c_rules.specs.declared.findings.Findings.{Findings}
use Rattle.c_rules.specs.declared.names.Header.{Header}
use Rattle.c_rules.specs.Constants.{plus}
use Rattle.c_rules.specs.Names.{opened, is_start_routine, is_pointer_alone, is_void_pointer}
use Rattle.c_rules.specs.Walks.{Outcome, place_in_tree}
use Rattle.c_resolution.specs.States.{State, state}
use Rattle.c_resolution.specs.Declarators.{block_declarators}
use Rattle.c_resolution.specs.Slots.{slots_end}
use Rattle.c_resolution.specs.Statements.{items}
use Rattle.c_resolution.specs.Functions as y
use Rattle.c_resolved_program.specs.Leaves.{AreValid, block_leaves}
use Rattle.c_resolved_program.specs.Orders.{left, given, declared_in, HasSlots, IsFront, AreMeant, IsHeader, IsGiven, IsPartOf, IsAhead, Holds, IsInOrder, GivesRoutines}
use Rattle.c_resolved_program.proofs.Parameters.{parameters_add}
use Rattle.c_resolved_program.proofs.Statements.{block_claim}
use Rattle.c_resolved_program.proofs.Functions.{moving_parameters, given_is, alone, before_body}
use Rattle.c_resolved_program.proofs.Walks.{all_more}
use Rattle.c_resolved_program.proofs.GrownScope.{front_on}
use Rattle.c_resolved_program.proofs.DefinedLocals.{taken_front, slots_length, slots_at, slots_all, declared_few, declared_front}

-- a local among the first of a list is one of its front
in_front : {A : Type 0} (Is : A → Type 0) (xs list : List A) (k : ℕ) (a : A) → IsFront xs list → AllByRecursion Is xs → k < length xs → slice_get list k ≡ Some a → Is a
in_front Is xs list k a front all lt at = by xs k front.0 all lt (ap (λ l. slice_get l k) front.1 ∙ at)
  where
    by : (xs : List _) (k : ℕ) (more : List _) → AllByRecursion Is xs → k < length xs → slice_get (xs ++ more) k ≡ Some a → Is a
    by [] k more all lt at = absurd (omega arith)
    by (x ∷ xs) zero more all lt at = subst Is (ap (λ o. unwrap_or o x) at) all.0
    by (x ∷ xs) (suc k) more all lt at = by xs k more all.1 (omega arith) at

positive_all : (list : List LocalVariable) → AllByRecursion (λ (l : LocalVariable). l.length ≡ 1) list → AllByRecursion (λ (l : LocalVariable). 0 < l.length) list
positive_all [] all = tt
positive_all (l ∷ list) all = (let e = all.0 in omega arith, positive_all list all.1)

-- what a definition asks for: the names of the file are meant, the headers are in order, and the function is the next one
pub record IsReady (P : Program) (number : ℕ) (f : FunctionTree) (h : Header) (code : Function) (x : State) : Type 0 where
  pub locals : x.scope.locals ≡ []
  pub gives : x.scope.gives ≡ y.gives_of h
  pub listed : y.is_unlisted (y.gives_of h) ≡ false
  pub inner : AreMeant P code x.scope.inner
  pub outer : AllByRecursion (AreMeant P code) x.scope.outer
  pub headers : AllByRecursion (IsHeader P) x.scope.headers
  pub parameters : h.parameters ≡ map y.parameter_type (y.written f)

-- what it gives
pub record IsDefined (whole : Findings) (P : Program) (number : ℕ) (h : Header) (code : Function) : Type 0 where
  pub body : IsInOrder whole P number code r.nowhere code.body
  pub fits : HasSlots code code.body
  pub front : code.parameters ≤ code.declared_locals
  pub declared_ : code.declared_locals ≤ length code.locals
  pub slots : (k : ℕ) (l : LocalVariable) → code.declared_locals ≤ k → slice_get code.locals k ≡ Some l → l ≡ r.scalar long_int
  pub few : length code.locals ≤ code.declared_locals + (statement_weight code.body + 3)
  pub scalars : (k : ℕ) (l : LocalVariable) → k < code.parameters → slice_get code.locals k ≡ Some l → l.length ≡ 1
  pub lengths : AllByRecursion (λ (l : LocalVariable). 0 < l.length) code.locals
  pub returns : code.returns ≡ y.return_type h
  pub parameters : place_in_tree (length h.parameters) ≡ code.parameters
  pub routine : is_start_routine h ≡ true → slice_get code.locals 0 ≡ Some (r.scalar long_int)

module _ (whole : Findings) (P : Program) (given_routines : GivesRoutines whole P) (f : FunctionTree) (h : Header) (body : Block) (count : ℕ) (x : State)
    (valid : AreValid (block_leaves body)) where
  -- what is known behind the parameters, which begin in a scope of their own, and behind the body
  abbrev after_head : State
  after_head = left (y.parameters (is_start_routine h) (is_some f.body) (y.written f) (state (opened x.scope) x.found))

  abbrev within : State
  within = before_body count body after_head

  abbrev behind : Outcome State Statement
  behind = items body within

  abbrev code : Function
  code = y.defined f (y.return_type h) body (length after_head.scope.locals) (given behind) (left behind).scope.locals (left behind).scope.local_names

  pub definition_in_order : code.declared_locals < 0xffff_ffff → IsReady P (place_in_tree count) f h code x → IsPartOf whole (left behind).found →
      IsDefined whole P (place_in_tree count) h code
  unfolding opened
  definition_in_order small ready part =
      let number = place_in_tree count in
      let claim = block_claim whole P number code given_routines small body in
      let does = claim.does valid false false in
      let from = y.kept_from (length after_head.scope.locals) body in
      let end = max from (slots_end (given behind)) in
      let own = (left behind).scope.locals in
      let long = slots_length end own in
      let declared_most = declared_few count body after_head small in
      let ended : IsAhead whole code (left behind) = record { found = part; locals = declared_front f (y.return_type h) count body after_head small } in
      let begun = does.back within ended in
      let begin = state (opened x.scope) x.found in
      let whole_front = front_on after_head.scope.locals (declared_in code) code.locals begun.locals (taken_front code.declared_locals code.locals) in
      let added = parameters_add whole P code small (is_start_routine h) (is_some f.body) (y.written f) begin begun.found in
      let moved = moving_parameters (is_start_routine h) (is_some f.body) (y.written f) begin in
      let only_parameters : after_head.scope.locals ≡ added.more = added.locals ∙ ap (λ l. l ++ added.more) ready.locals in
      let routine_local : is_start_routine h ≡ true → slice_get code.locals 0 ≡ Some (r.scalar long_int) = λ starts.
      let pointer = (and_parts (is_void_pointer h.returns) (is_pointer_alone h.parameters) starts).1 in
      let only = alone (y.written f) (ap is_pointer_alone (sym ready.parameters) ∙ pointer) in
      let all = only_parameters ∙ added.longs only.0 only.1 only.2 in
      ap (λ l. slice_get l 0) (sym whole_front.1 ∙ ap (λ l. l ++ whole_front.0) all) in
      let singles = subst (λ l. AllByRecursion (λ (z : LocalVariable). z.length ≡ 1) l) (sym only_parameters) added.singles in
      let holds : Holds P number code r.nowhere within = record {
        orderly = record {
          inner = added.names begun.locals routine_local tt;
          outer = subst (λ l. AllByRecursion (AreMeant P code) l) (sym moved.outer) (outer_more ready.outer ready.inner);
          headers = subst (λ l. AllByRecursion (IsHeader P) l) (sym moved.headers) ready.headers;
          function = refl;
          gives = subst (λ g. IsGiven g (y.return_type h)) (sym (moved.gives ∙ ready.gives)) (given_is h ready.listed);
          kept = record { first = refl; slots = λ k ge lt. record { behind = ge; local = slots_at end own k (le_trans declared_most ge) lt } };
        };
        exits = λ _. refl;
        loops = λ _. refl;
        lengths = positive_all after_head.scope.locals singles;
      } in
      let done = does.forth within ended tt holds in
      let some = done.1.few in
      record {
        body = done.1;
        fits = fits_in (length own) from (slots_end (given behind)) (length code.locals) long;
        front = least_le (place_in_tree (length after_head.scope.locals)) (block_declarators body) (place_most (length after_head.scope.locals));
        declared_ = holds_from (length own) from (slots_end (given behind)) (length code.locals) long;
        slots = λ k l ge at. same_Some l (r.scalar long_int) (sym at ∙ slots_at end own k (le_trans declared_most ge) (slice_get_within code.locals k l at));
        few = few_more (length own) from (slots_end (given behind)) (length code.locals) (statement_weight code.body) long declared_most some;
        scalars = λ k l lt at.
            in_front (λ (z : LocalVariable). z.length ≡ 1) after_head.scope.locals code.locals k l whole_front singles (below k (length after_head.scope.locals) lt) at;
        lengths = slots_all (λ (z : LocalVariable). 0 < z.length) end own done.0.lengths (omega arith);
        returns = refl;
        parameters = ap place_in_tree (ap length ready.parameters ∙ length-map (y.written f) y.parameter_type ∙ sym added.count ∙ ap length (sym only_parameters));
        routine = routine_local;
      }
    where
      outer_more : AllByRecursion (AreMeant P code) x.scope.outer → AreMeant P code x.scope.inner → AllByRecursion (AreMeant P code) (x.scope.outer ++ x.scope.inner ∷ [])
      outer_more all is = all_more (AreMeant P code) x.scope.outer x.scope.inner all is

      least_le : (a b : ℕ) → a ≤ 0xffff_ffff → a ≤ plus a b
      least_le a b le = grind arith

      place_most : (n : ℕ) → place_in_tree n ≤ 0xffff_ffff
      place_most n = grind arith

      fits_in : (m from end n : ℕ) → n ≡ max m (max from end) → end ≤ n
      fits_in m from end n long = grind arith

      holds_from : (m from end n : ℕ) → n ≡ max m (max from end) → from ≤ n
      holds_from m from end n long = grind arith

      few_more : (m from end n w : ℕ) → n ≡ max m (max from end) → m ≤ from → end ≤ from + (w + 3) → n ≤ from + (w + 3)
      few_more m from end n w long le some = grind arith

      below : (k n : ℕ) → k < place_in_tree n → k < n
      below k n lt = grind arith
