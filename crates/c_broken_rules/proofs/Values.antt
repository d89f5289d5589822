-- What the walk over an expression finds, by its parts.
use Rattle.std.proofs.Common.{◌≡◌, refl, sym, subst, ap, inl, inr, ℕ, Bool, true, false, List, [], ◌∷◌, ◌++◌, map, length, Option, Some, None}
use Rattle.std.proofs.lemmas.Bool.{false≢true}
use Rattle.std.proofs.lemmas.Option.{same_Some, none-some}
use Rattle.std.specs.Prelude.{◌&&◌, if◌then◌else◌, slice_get}
use denote.Hole.Holds.{Such}
use Rattle.hls_ints.specs.Types.{int_type}
use Rattle.c_token.specs.declared.constant.Constant.{Constant}
use Rattle.c_tree.specs.declared.expression.Name.{Name}
use Rattle.c_tree.specs.declared.expression.UnaryOperator.{UnaryOperator}
use Rattle.c_tree.specs.declared.expression.Specifiers.{Specifiers}
use Rattle.c_tree.specs.declared.expression.Argument.{Argument as ArgumentTree, roll-Argument}
use Rattle.c_tree.specs.declared.expression.Form.{Form as FormTree, roll-Form}
use Rattle.c_tree.specs.declared.expression.Call.{Call as CallTree, roll-Call}
use Rattle.c_tree.specs.declared.expression.Choice.{Choice as ChoiceTree, roll-Choice}
use Rattle.c_tree.specs.declared.expression.Expression.{Expression as ExpressionTree, roll-Expression}
use Rattle.c_tree.specs.declared.expression.Place.{Place as PlaceTree, roll-Place}
use Rattle.c_tree.specs.declared.expression.Pointer.{Pointer as PointerTree, roll-Pointer}
use Rattle.c_tree.specs.declared.expression.Term.{Term as TermTree, roll-Term}
use Rattle.c_tree.specs.declared.expression.Argument.TheOpen.{Argument-F, Form-F, Call-F, Choice-F, Expression-F, Place-F, Pointer-F, Term-F}
use Rattle.c_tree.specs.declared.expression.Argument.TheBlock.{the_family, member-Argument, member-Form, member-Call, member-Choice}
use Rattle.c_tree.specs.declared.expression.Argument.TheBlock.{member-Expression, member-Place, member-Pointer, member-Term}
use Rattle.c_tree.specs.declared.expression.Argument.TheFolds.{claims, map-Argument, map-Form, map-Call, map-Choice, map-Expression, map-Place, map-Pointer, map-Term}
use Rattle.c_tree.specs.declared.expression.Argument.TheFolds.{fold-Form, fold-Call, fold-Choice, fold-Pointer, fold-Term}
use Rattle.c_tree.specs.declared.expression.Argument.TheFolds.{fold-roll-Argument, fold-roll-Form, fold-roll-Call, fold-roll-Choice}
use Rattle.c_tree.specs.declared.expression.Argument.TheFolds.{fold-roll-Expression, fold-roll-Place, fold-roll-Pointer, fold-roll-Term}
use Rattle.c_tree.specs.declared.expression.Argument.TheFolds.{ind-Argument, ind-Expression, ind-Place}
use Rattle.c_program.specs.Tree.{Expression, Statement}
use Rattle.c_rules.specs.declared.fault.Rule.{Rule}
use Rattle.c_rules.specs.declared.fault.Rule.TheVariants as rule
use Rattle.c_rules.specs.declared.specifiers.BasicType.{BasicType}
use Rattle.c_rules.specs.declared.dimensions.Dimensions.{Dimensions}
use Rattle.c_rules.specs.declared.dimensions.Dimensions.TheVariants.{Scalar, One, Two, Three}
use Rattle.c_rules.specs.declared.findings.Findings.{Findings}
use Rattle.c_rules.specs.declared.names.Known.{Known}
use Rattle.c_rules.specs.declared.names.Known.TheVariants as known
use Rattle.c_rules.specs.declared.names.Meaning.TheVariants as meaning
use Rattle.c_rules.specs.declared.names.Scope.{Scope}
use Rattle.c_rules.specs.Dimensions.{times}
use Rattle.c_rules.specs.Names.{look_up}
use Rattle.c_rules.specs.Specifiers.{c_type, plain_integer}
use Rattle.c_rules.specs.Walks.{Outcome, Finds, pure, through, visited, finds, finds_any, place_in_tree, ◌>>=◌, ◌>>◌}
use Rattle.c_expressions.specs.Callees as c
use Rattle.c_expressions.specs.Cuts.{Cuts, Cut, cut, free_from, kept}
use Rattle.c_expressions.specs.Expressions as e
use Rattle.c_expressions.specs.Expressions.{Passed, Formed, Called, Choice, Meant, Placed, Pointed, Operand}
use Rattle.c_broken_rules.specs.Sight.{Where}
use Rattle.c_broken_rules.specs.Parts as p
use Rattle.c_broken_rules.specs.Parts.{Part, Parts, Parted, Indexed, all_of, of_each, plainly}
use Rattle.c_broken_rules.proofs.Ledgers.{Ledger, Entered, Good, Writes, given, left, after_one, nothing_new, writes_both}
use Rattle.c_broken_rules.proofs.Ledgers.{good_pure, good_then, good_before, good_either, good_quiet}
use Rattle.c_broken_rules.proofs.Events.{Events, IsOther}

pub each_part : {A : Type 0} (of : A → Parts) (list : List A) → all_of (map of list) ≡ of_each of list
each_part of [] = refl
each_part of (a ∷ list) = ap (λ ps. of a ++ ps) (each_part of list)

-- the number of the function that a name stands for
pub number_known : (x : Known) (n : ℕ) → c.number_of x ≡ Some n → x ≡ known.Declared (meaning.Function n)
number_known (known.Declared (meaning.Function m)) n is = ap (λ j. known.Declared (meaning.Function j)) (same_Some m n is)
number_known (known.Declared (meaning.Variable v)) n is = absurd (none-some n is)
number_known (known.Declared meaning.Argument) n is = absurd (none-some n is)
number_known (known.Declared (meaning.Object o)) n is = absurd (none-some n is)
number_known (known.Declared meaning.Unusable) n is = absurd (none-some n is)
number_known known.Unknown n is = absurd (none-some n is)
number_known (known.Library f) n is = absurd (none-some n is)

-- ---- lists of parts

-- each has its parts
abbrev pub Each : {A : Type 0} → (A → Parts → Type 0) → List A → List Parts → Type 0
Each Has [] [] = Unit {0}
Each Has (a ∷ list) (ps ∷ more) = Has a ps × Each Has list more
Each Has [] (ps ∷ more) = ⊥
Each Has (a ∷ list) [] = ⊥

pub each_as : {A : Type 0} {Has Also : A → Parts → Type 0} → ((a : A) (ps : Parts) → Has a ps → Also a ps) → (list : List A) (all : List Parts) → Each Has list all → Each Also list all
each_as to [] [] h = tt
each_as to (a ∷ list) (ps ∷ all) h = (to a ps h.0, each_as to list all h.1)
each_as to [] (ps ∷ all) h = absurd h
each_as to (a ∷ list) [] h = absurd h

module _ (L : Ledger) where
  pub good_steps : {A B : Type 0} (step : A → B → Finds A) (list : List B) (all : List Parts) → Each (λ b ps. (a : A) → Good L (step a b) ps) list all → (a : A) →
      Good L (through step a list) (all_of all)
  good_steps step [] [] h a = record { writes = λ found. nothing_new L found }
  good_steps {A} step (b ∷ list) (ps ∷ all) h a = record {
    writes = λ found.
        let o = step a b found in
        subst (λ (z : Outcome Findings A). Writes L found (left z) (ps ++ all_of all)) (sym (after_one step a b list found))
        (writes_both L ps (all_of all) ((h.0 a).writes found) ((good_steps step list all h.1 (given o)).writes (left o)));
  }
  good_steps step [] (ps ∷ all) h a = absurd h
  good_steps step (b ∷ list) [] h a = absurd h

  -- parts that stand for nothing
  pub good_visits : {B : Type 0} (walk : B → Finds (Unit {0})) (list : List B) (all : List Parts) → Each (λ b ps. Good L (walk b) ps) list all → Good L (visited walk list) (all_of all)
  good_visits walk list all h = good_steps (λ _ b. walk b) list all (each_as (λ b ps k _. k) list all h) tt

-- ---- values, at any place and behind any cuts

module _ (L : Ledger) (s : Scope) where
  abbrev pub GoodValue : e.Valued → Parts → Type 0
  GoodValue v ps = (at : ℕ) (cuts : Cuts) → Good L (v at cuts) ps

  pub record GoodMeant (m : Meant) (q : Parted) : Type 0 where
    pub value : GoodValue m.value q.parts
    pub condition : (n : ℕ) → Good L (m.condition n) q.parts
    -- under a cast to a signed 64-bit type
    pub converted : e.is_argument_name s m.name ≡ false → GoodValue m.value q.converted
    pub argument : e.is_argument_name s m.name ≡ true → (x : L.Entry) → Entered L q.converted x → ⊥

  pub record GoodForm (m : Formed) (q : Parted) : Type 0 where
    pub value : GoodValue m.value q.parts
    pub condition : (offset n : ℕ) → Good L (m.condition offset n) q.parts
    pub converted : e.is_argument_name s m.name ≡ false → GoodValue m.value q.converted
    pub argument : e.is_argument_name s m.name ≡ true → (x : L.Entry) → Entered L q.converted x → ⊥

  -- an index
  abbrev pub GoodIndex : Meant → Parts → Type 0
  GoodIndex m ps = GoodValue m.value ps

  pub record GoodPlace (m : Placed) (q : Indexed) : Type 0 where
    pub same : m.name ≡ q.name
    pub indices : Each GoodIndex m.indices q.indices

  pub record GoodOperand (t : Operand) (ps : Parts) : Type 0 where
    pub value : GoodValue t.operand.value ps
    pub condition : (n : ℕ) → Good L (t.operand.condition n) ps

  pub record GoodChoice (x : Choice) (ps : Parts) : Type 0 where
    pub next : (n : ℕ) (y : e.Chosen) → Good L (e.next_choice s n y x) ps

  pub record GoodPassed (x : Passed) (ps : Parts) : Type 0 where
    pub value : GoodValue x.value ps
    pub looked : Good L x.looked ps

  chosen_value : (v : e.Valued) (offset n : ℕ) (ps : Parts) → GoodValue v ps → Good L (e.chosen_value v offset n) ps
  chosen_value v offset n ps h =
      let at = place_in_tree offset in
      good_before L (v at (free_from n)) (λ x. pure (e.chosen at x)) ps (h at (free_from n)) (λ x. good_pure L (e.chosen at x))

  operand_value : (n : ℕ) (m : Meant) (ps : Parts) → GoodIndex m ps → Good L (e.operand_value n m) ps
  operand_value n m ps h = chosen_value m.value m.offset n ps h

  pub look : (m : Meant) (ps : Parts) → GoodIndex m ps → Good L (e.look m) ps
  look m ps h = good_before L (e.operand_value 0 m) (λ _. pure tt) ps (operand_value 0 m ps h) (λ _. good_pure L tt)

  pub look_at_all : (list : List Meant) (all : List Parts) → Each GoodIndex list all → Good L (e.look_at_all list) (all_of all)
  look_at_all list all h = good_visits L e.look list all (each_as look list all h)

  pub all_values : (list : List Passed) (all : List Parts) → Each GoodPassed list all → (at : ℕ) (cuts : Cuts) → Good L (e.all_values list at cuts) (all_of all)
  unfolding e.all_values
  all_values list all h at cuts =
      good_steps L (e.next_value at) list all (each_as (λ w ps k x.
      good_before L (w.value at x.cuts) (λ y. pure (cut y.cuts (x.rest ++ y.rest ∷ []))) ps (k.value at x.cuts) (λ y. good_pure L (cut y.cuts (x.rest ++ y.rest ∷ [])))) list all h)
      (cut cuts [])

  -- ---- indices

  no_number : (list : List Meant) (all : List Parts) → Each GoodIndex list all → (cuts : Cuts) → Good L (e.no_number list cuts) (all_of all)
  unfolding e.no_number
  no_number list all h cuts = good_before L (e.look_at_all list) (λ _. pure (cut cuts None)) (all_of all) (look_at_all list all h) (λ _. good_pure L (cut cuts None))

  pub element : (d : Dimensions) (list : List Meant) (all : List Parts) → Each GoodIndex list all → (at : ℕ) (cuts : Cuts) → Good L (e.element_number d list at cuts) (all_of all)
  unfolding e.element_number
  element Scalar list all h at cuts = no_number list all h cuts
  element (One a) [] all h at cuts = no_number [] all h cuts
  element (One a) (i ∷ []) (ps ∷ []) h at cuts =
      good_then L (i.value at cuts) (λ x. pure (cut x.cuts (Some x.rest))) ps [] (h.0 at cuts) (λ x. good_pure L (cut x.cuts (Some x.rest)))
  element (One a) (i ∷ []) [] h at cuts = absurd h
  element (One a) (i ∷ []) (ps ∷ qs ∷ all) h at cuts = absurd h.1
  element (One a) (i ∷ j ∷ more) all h at cuts = no_number (i ∷ j ∷ more) all h cuts
  element (Two a k) [] all h at cuts = no_number [] all h cuts
  element (Two a k) (i ∷ []) all h at cuts = no_number (i ∷ []) all h cuts
  element (Two a k) (i ∷ j ∷ []) (ps ∷ qs ∷ []) h at cuts =
      let made = λ (x y : Cut Expression). cut y.cuts (Some (Expression.Row x.rest a y.rest k)) in
      good_then L (i.value at cuts) (λ x. j.value at x.cuts >>= (λ y. pure (made x y))) ps (qs ++ []) (h.0 at cuts)
      (λ x. good_then L (j.value at x.cuts) (λ y. pure (made x y)) qs [] (h.1.0 at x.cuts) (λ y. good_pure L (made x y)))
  element (Two a k) (i ∷ j ∷ []) [] h at cuts = absurd h
  element (Two a k) (i ∷ j ∷ []) (ps ∷ []) h at cuts = absurd h.1
  element (Two a k) (i ∷ j ∷ []) (ps ∷ qs ∷ rs ∷ all) h at cuts = absurd h.1.1
  element (Two a k) (i ∷ j ∷ l ∷ more) all h at cuts = no_number (i ∷ j ∷ l ∷ more) all h cuts
  element (Three a k m) [] all h at cuts = no_number [] all h cuts
  element (Three a k m) (i ∷ []) all h at cuts = no_number (i ∷ []) all h cuts
  element (Three a k m) (i ∷ j ∷ []) all h at cuts = no_number (i ∷ j ∷ []) all h cuts
  element (Three a k m) (i ∷ j ∷ l ∷ []) (ps ∷ qs ∷ rs ∷ []) h at cuts =
      let made = λ (x y z : Cut Expression). cut z.cuts (Some (Expression.Row (Expression.Row x.rest a y.rest k) (times a k) z.rest m)) in
      good_then L (i.value at cuts) (λ x. j.value at x.cuts >>= (λ y. l.value at y.cuts >>= (λ z. pure (made x y z)))) ps (qs ++ (rs ++ [])) (h.0 at cuts)
      (λ x. good_then L (j.value at x.cuts) (λ y. l.value at y.cuts >>= (λ z. pure (made x y z))) qs (rs ++ []) (h.1.0 at x.cuts)
      (λ y. good_then L (l.value at y.cuts) (λ z. pure (made x y z)) rs [] (h.1.1.0 at y.cuts) (λ z. good_pure L (made x y z))))
  element (Three a k m) (i ∷ j ∷ l ∷ []) [] h at cuts = absurd h
  element (Three a k m) (i ∷ j ∷ l ∷ []) (ps ∷ []) h at cuts = absurd h.1
  element (Three a k m) (i ∷ j ∷ l ∷ []) (ps ∷ qs ∷ []) h at cuts = absurd h.1.1
  element (Three a k m) (i ∷ j ∷ l ∷ []) (ps ∷ qs ∷ rs ∷ us ∷ all) h at cuts = absurd h.1.1.1
  element (Three a k m) (i ∷ j ∷ l ∷ o ∷ more) all h at cuts = no_number (i ∷ j ∷ l ∷ o ∷ more) all h cuts

  -- ---- layers

  operand_condition : (v : e.Valued) (offset n : ℕ) (ps : Parts) → GoodValue v ps → Good L (e.operand_condition s v offset n) ps
  operand_condition v offset n ps h =
      good_before L (e.chosen_value v offset n) (λ x. pure (e.test x)) ps (chosen_value v offset n ps h) (λ x. good_pure L (e.test x))

  a_value : (v : e.Valued) (ps : Parts) → GoodValue v ps → GoodForm (e.a_value s v) (plainly ps)
  a_value v ps h = record {
    value = h;
    condition = λ offset n. operand_condition v offset n ps h;
    converted = λ no. h;
    argument = λ is. absurd (false≢true is);
  }

module _ (L : Ledger) (s : Scope) (w : Where) (events : Events L s w) where
  refused : (r : Rule) (at : ℕ) → IsOther r → Good L (e.refused r at) []
  refused r at is = good_before L (finds r at) (λ _. pure e.nothing) [] (events.other r at is) (λ _. good_pure L e.nothing)

  converted : (at : ℕ) (ty : Option BasicType) (x : Expression) → Good L (e.converted at ty x) []
  unfolding e.converted
  converted at (Some ty) x = good_pure L (Expression.Cast (c_type ty) x)
  converted at None x = refused rule.Kind at tt

  constant_value : (k : Constant) (offset : ℕ) → GoodValue L s (λ at cuts. e.constant k offset >>= (λ x. pure (cut cuts x))) (Part.Constant k offset ∷ [])
  constant_value k offset at cuts =
      good_before L (e.constant k offset) (λ x. pure (cut cuts x)) (Part.Constant k offset ∷ []) (events.constant k offset) (λ x. good_pure L (cut cuts x))

  -- ---- places

  named : (name : Name) (indices : List Meant) (all : List Parts) (ps : Parts) → Each (GoodIndex L s) indices all →
      Good L (finds_any (e.misuse (look_up s name.bytes) (length indices)) name.offset) ps →
      GoodValue L s (e.place_value s (record { name = name; indices = indices })) (all_of all ++ ps)
  unfolding e.place_value
  named name indices all ps h k at cuts =
      let v = e.variable_named s name in
      let fault = e.misuse (look_up s name.bytes) (length indices) in
      let made = λ (x : Cut (Option Expression)). cut x.cuts (e.named_value v x.rest) in
      good_then L (e.element_number (e.dimensions_of v) indices at cuts) (λ x. finds_any fault name.offset >> pure (made x)) (all_of all) ps
      (element L s (e.dimensions_of v) indices all h at cuts)
      (λ x. good_before L (finds_any fault name.offset) (λ _. pure (made x)) ps k (λ _. good_pure L (made x)))

  one_used : (name : Name) → ((x : L.Entry) → L.At (Part.Use w name) x → ⊥) → (x : L.Entry) → Entered L (Part.Use w name ∷ []) x → ⊥
  one_used name none x (inl h) = none x h
  one_used name none x (inr h) = h

  place_form : (name : Name) (indices : List Meant) (all : List Parts) → Each (GoodIndex L s) indices all →
      GoodForm L s (e.place_form s (record { name = name; indices = indices })) (p.place_by w name all)
  place_form name [] [] h =
      let m : Placed = record { name = name; indices = [] } in
      let read = named name [] [] (Part.Use w name ∷ Part.Read w name ∷ []) tt (events.read name) in
      record {
        value = read;
        condition = λ offset n. operand_condition L s (e.place_value s m) offset n (Part.Use w name ∷ Part.Read w name ∷ []) read;
        converted = λ no. named name [] [] (Part.Use w name ∷ []) tt (events.converted name no);
        argument = λ is x k. one_used name (events.argument name is) x k;
      }
  place_form name (i ∷ list) (ps ∷ all) h =
      let m : Placed = record { name = name; indices = i ∷ list } in
      let used = named name (i ∷ list) (ps ∷ all) (Part.Use w name ∷ []) h (events.used name (length list)) in
      record {
        value = used;
        condition = λ offset n. operand_condition L s (e.place_value s m) offset n (all_of (ps ∷ all) ++ Part.Use w name ∷ []) used;
        converted = λ no. used;
        argument = λ is. absurd (false≢true is);
      }
  place_form name [] (ps ∷ all) h = absurd h
  place_form name (i ∷ list) [] h = absurd h

  place_of : (m : Placed) (q : Indexed) → GoodPlace L s m q → GoodForm L s (e.place_form s m) (p.place_by w q.name q.indices)
  place_of m q h = subst (λ name. GoodForm L s (e.place_form s m) (p.place_by w name q.indices)) h.same (place_form m.name m.indices q.indices h.indices)

  -- ---- operators

  unary_value : (operator : UnaryOperator) (m : Meant) (q : Parted) → GoodMeant L s m q → GoodValue L s (e.unary_value s operator m) q.parts
  unary_value operator m q h at cuts =
      good_before L (m.value at cuts) (λ y. pure (cut y.cuts (e.unary operator y.rest))) q.parts (h.value at cuts) (λ y. good_pure L (cut y.cuts (e.unary operator y.rest)))

  unary_form : (operator : UnaryOperator) (m : Meant) (q : Parted) → GoodMeant L s m q → GoodForm L s (e.unary_form s operator m) (plainly q.parts)
  unary_form operator m q h = record {
    value = unary_value operator m q h;
    condition = λ offset n.
        good_either L (e.is_not operator) (e.opposite s (m.condition n)) (e.operand_condition s (e.unary_value s operator m) offset n) q.parts
        (good_before L (m.condition n) (λ k. pure (e.opposite_of k)) q.parts (h.condition n) (λ k. good_pure L (e.opposite_of k)))
        (operand_condition L s (e.unary_value s operator m) offset n q.parts (unary_value operator m q h));
    converted = λ no. unary_value operator m q h;
    argument = λ is. absurd (false≢true is);
  }

  argument_read : (m : Meant) (q : Parted) → GoodMeant L s m q → (b : Bool) → e.is_argument_name s m.name ≡ b → (at : ℕ) (cuts : Cuts) →
      Good L (if b then pure (cut cuts e.argument_value) else m.value at cuts) q.converted
  argument_read m q h false is at cuts = h.converted is at cuts
  argument_read m q h true is at cuts = good_quiet L (cut cuts e.argument_value) q.converted (h.argument is)

  cast_operand : (m : Meant) (q : Parted) → GoodMeant L s m q → (b : Bool) (at : ℕ) (cuts : Cuts) →
      Good L (if b && e.is_argument_name s m.name then pure (cut cuts e.argument_value) else m.value at cuts) (if b then q.converted else q.parts)
  cast_operand m q h true at cuts = argument_read m q h (e.is_argument_name s m.name) refl at cuts
  cast_operand m q h false at cuts = h.value at cuts

  cast : (words : Specifiers) (m : Meant) (q : Parted) → GoodMeant L s m q →
      GoodValue L s (e.cast s words m) (if e.is_long (plain_integer words) then q.converted else q.parts)
  unfolding e.cast
  cast words m q h at cuts =
      let ty = plain_integer words in
      good_before L (e.cast_operand s ty m at cuts) (λ y. e.converted words.offset ty y.rest >>= (λ z. pure (cut y.cuts z))) (if e.is_long ty then q.converted else q.parts)
      (cast_operand m q h (e.is_long ty) at cuts)
      (λ y. good_before L (e.converted words.offset ty y.rest) (λ z. pure (cut y.cuts z)) [] (converted words.offset ty y.rest) (λ z. good_pure L (cut y.cuts z)))

  abbrev Operands : List Operand → List Parts → Type 0
  Operands terms all = Each (GoodOperand L s) terms all

  arithmetic_value : (m : Meant) (q : Parted) → GoodMeant L s m q → (terms : List Operand) (all : List Parts) → Operands terms all →
      GoodValue L s (e.arithmetic_value s m terms) (q.parts ++ all_of all)
  unfolding e.terms_value
  arithmetic_value m q h terms all k at cuts =
      good_then L (m.value at cuts) (λ x. e.terms_value s at x terms) q.parts (all_of all) (h.value at cuts)
      (λ x. good_steps L (e.term_value s at) terms all (each_as (λ t ps o z.
      good_before L (t.operand.value at z.cuts) (λ y. pure (cut y.cuts (e.operated t.operator z.rest y.rest))) ps (o.value at z.cuts)
      (λ y. good_pure L (cut y.cuts (e.operated t.operator z.rest y.rest)))) terms all k) x)

  joined_condition : (m : Meant) (q : Parted) → GoodMeant L s m q → (terms : List Operand) (all : List Parts) → Operands terms all → (n : ℕ) →
      Good L (e.joined_condition s m terms n) (q.parts ++ all_of all)
  unfolding e.terms_condition
  joined_condition m q h terms all k n =
      good_then L (m.condition n) (λ x. e.terms_condition s n x terms) q.parts (all_of all) (h.condition n)
      (λ x. good_steps L (e.term_condition s n) terms all (each_as (λ t ps o z.
      good_before L (t.operand.condition n) (λ y. pure (e.joined t.operator z y)) ps (o.condition n) (λ y. good_pure L (e.joined t.operator z y))) terms all k) x)

  truth_value : (m : Meant) (q : Parted) → GoodMeant L s m q → (terms : List Operand) (all : List Parts) → Operands terms all → (cuts : Cuts) →
      Good L (e.truth_value s m terms cuts) (q.parts ++ all_of all)
  truth_value m q h terms all k cuts =
      good_before L (e.joined_condition s m terms cuts.next) (λ x. pure (kept cuts.next int_type (Statement.Truth cuts.next x) cuts)) (q.parts ++ all_of all)
      (joined_condition m q h terms all k cuts.next) (λ x. good_pure L (kept cuts.next int_type (Statement.Truth cuts.next x) cuts))

  binary_value : (m : Meant) (q : Parted) → GoodMeant L s m q → (terms : List Operand) (all : List Parts) → Operands terms all →
      GoodValue L s (e.binary_value s m terms) (q.parts ++ all_of all)
  binary_value m q h terms all k at cuts =
      good_either L (e.are_short_circuits s terms) (e.truth_value s m terms cuts) (e.arithmetic_value s m terms at cuts) (q.parts ++ all_of all)
      (truth_value m q h terms all k cuts) (arithmetic_value m q h terms all k at cuts)

  binary_form : (m : Meant) (q : Parted) → GoodMeant L s m q → (terms : List Operand) (all : List Parts) → Operands terms all →
      GoodForm L s (e.binary_form s m terms) (plainly (q.parts ++ all_of all))
  binary_form m q h terms all k = record {
    value = binary_value m q h terms all k;
    condition = λ offset n.
        good_either L (e.are_short_circuits s terms) (e.joined_condition s m terms n) (e.operand_condition s (e.arithmetic_value s m terms) offset n) (q.parts ++ all_of all)
        (joined_condition m q h terms all k n)
        (operand_condition L s (e.arithmetic_value s m terms) offset n (q.parts ++ all_of all) (arithmetic_value m q h terms all k));
    converted = λ no. binary_value m q h terms all k;
    argument = λ is. absurd (false≢true is);
  }

  -- ---- calls

  function_value : (name : Name) (list : List Passed) (all : List Parts) (number : ℕ) → look_up s name.bytes ≡ known.Declared (meaning.Function number) →
      Each (GoodPassed L s) list all → GoodValue L s (e.function_value s name list number) (Part.Call w name ∷ all_of all)
  unfolding e.function_value
  function_value name list all number is h at cuts =
      let made = λ (d : Option ℕ) (values : Cut (List Expression)). e.called_value at cuts.next (c.value_type (slice_get s.headers number)) d values in
      good_then L (c.function_name s number (length list) true name.offset) (λ d. e.all_values list at cuts >>= (λ values. pure (made d values))) (Part.Call w name ∷ [])
      (all_of all) (events.function name number (length list) true is)
      (λ d. good_before L (e.all_values list at cuts) (λ values. pure (made d values)) (all_of all) (all_values L s list all h at cuts) (λ values. good_pure L (made d values)))

  no_value : (name : Name) (list : List Passed) (all : List Parts) → c.number_of (look_up s name.bytes) ≡ None → Each (GoodPassed L s) list all → (cuts : Cuts) →
      Good L (e.no_value s (look_up s name.bytes) name list cuts) (Part.Call w name ∷ all_of all)
  unfolding e.no_value
  no_value name list all none h cuts =
      let known = look_up s name.bytes in
      let looked = visited (λ (x : Passed). x.looked) list in
      good_then L (c.misplaced s known (length list) name.offset) (λ _. looked >> pure (cut cuts e.nothing)) (Part.Call w name ∷ []) (all_of all)
      (events.misplaced name (length list) none)
      (λ _. good_before L looked (λ _. pure (cut cuts e.nothing)) (all_of all) (good_visits L (λ (x : Passed). x.looked) list all (each_as (λ x ps k. k.looked) list all h))
      (λ _. good_pure L (cut cuts e.nothing)))

  call_by : (name : Name) (list : List Passed) (all : List Parts) (o : Option ℕ) → c.number_of (look_up s name.bytes) ≡ o → Each (GoodPassed L s) list all →
      GoodValue L s (e.call_by s o (look_up s name.bytes) (record { name = name; arguments = list })) (Part.Call w name ∷ all_of all)
  call_by name list all (Some number) is h at cuts = function_value name list all number (number_known (look_up s name.bytes) number is) h at cuts
  call_by name list all None is h at cuts = no_value name list all is h cuts

  call_value : (name : Name) (list : List Passed) (all : List Parts) → Each (GoodPassed L s) list all →
      GoodValue L s (e.call_value s (record { name = name; arguments = list })) (Part.Call w name ∷ all_of all)
  call_value name list all h = call_by name list all (c.number_of (look_up s name.bytes)) refl h

  -- ---- conditionals

  next_choice : (x : Choice) (condition otherwise : Parted) → GoodMeant L s x.condition condition → GoodMeant L s x.otherwise otherwise →
      GoodChoice L s x (condition.parts ++ otherwise.parts)
  next_choice x condition otherwise h k = record {
    next = λ n y.
        let made = λ (z : Statement) (o : e.Chosen). e.conditional n (place_in_tree x.condition.offset) z y o in
        good_then L (x.condition.condition n) (λ z. e.operand_value n x.otherwise >>= (λ o. pure (made z o))) condition.parts otherwise.parts (h.condition n)
        (λ z. good_before L (e.operand_value n x.otherwise) (λ o. pure (made z o)) otherwise.parts (operand_value L s n x.otherwise otherwise.parts k.value)
        (λ o. good_pure L (made z o)));
  }

  conditional_value : (m : Meant) (q : Parted) → GoodMeant L s m q → (choices : List Choice) (all : List Parts) → Each (GoodChoice L s) choices all →
      GoodValue L s (e.conditional_value s m choices) (q.parts ++ all_of all)
  unfolding e.further_choices
  conditional_value m q h choices all k at cuts =
      good_before L (e.choices_value s cuts.next m choices) (λ x. pure (e.with_choice cuts x)) (q.parts ++ all_of all)
      (good_then L (e.operand_value cuts.next m) (λ x. e.further_choices s cuts.next x choices) q.parts (all_of all) (operand_value L s cuts.next m q.parts h.value)
      (λ x. good_steps L (e.next_choice s cuts.next) choices all (each_as (λ y ps o z. o.next cuts.next z) choices all k) x))
      (λ x. good_pure L (e.with_choice cuts x))

  -- ---- arguments

  refused_value : (offset : ℕ) (looked : e.Looked) (ps : Parts) → Good L looked ps → GoodValue L s (λ at cuts. e.refused_value s offset looked cuts) ps
  unfolding e.refused_value
  refused_value offset looked ps h at cuts =
      good_then L (finds rule.Kind offset) (λ _. looked >> pure (cut cuts e.nothing)) [] ps (events.other rule.Kind offset tt)
      (λ _. good_before L looked (λ _. pure (cut cuts e.nothing)) ps h (λ _. good_pure L (cut cuts e.nothing)))

  refused_argument : (offset : ℕ) (looked : e.Looked) (ps : Parts) → Good L looked ps → GoodPassed L s (e.refused_argument s offset looked) ps
  refused_argument offset looked ps h = record { value = refused_value offset looked ps h; looked = h }

  -- ---- the folds of parts

  abbrev pointed : PointerTree → Pointed
  pointed = fold-Pointer Passed Formed Called Choice Meant Placed Pointed Operand (e.argument_step s) (e.form_step s) (e.call_step s) (e.choice_step s) (e.expression_step
      s) (e.place_step s) (e.pointer_step s) (e.term_step s)

  abbrev form_parts : FormTree → Parted
  form_parts = fold-Form Parts Parted Parts Parts Parted Indexed Parts Parts (p.argument_layer w) (p.form_layer w) (p.call_layer w) (p.choice_layer w) (p.expression_layer
      w) (p.place_layer w) (p.pointer_layer w) (p.term_layer w)

  abbrev inner_call_parts : CallTree → Parts
  inner_call_parts = fold-Call Parts Parted Parts Parts Parted Indexed Parts Parts (p.argument_layer w) (p.form_layer w) (p.call_layer w) (p.choice_layer w)
      (p.expression_layer w) (p.place_layer w) (p.pointer_layer w) (p.term_layer w)

  abbrev choice_parts : ChoiceTree → Parts
  choice_parts = fold-Choice Parts Parted Parts Parts Parted Indexed Parts Parts (p.argument_layer w) (p.form_layer w) (p.call_layer w) (p.choice_layer w)
      (p.expression_layer w) (p.place_layer w) (p.pointer_layer w) (p.term_layer w)

  abbrev term_parts : TermTree → Parts
  term_parts = fold-Term Parts Parted Parts Parts Parted Indexed Parts Parts (p.argument_layer w) (p.form_layer w) (p.call_layer w) (p.choice_layer w) (p.expression_layer
      w) (p.place_layer w) (p.pointer_layer w) (p.term_layer w)

  abbrev ClaimArgument : ArgumentTree → Type 0
  ClaimArgument x = GoodPassed L s (e.argument s x) (p.argument_parts w x)

  abbrev ClaimForm : FormTree → Type 0
  ClaimForm x = GoodForm L s (e.formed s x) (form_parts x)

  abbrev ClaimCall : CallTree → Type 0
  ClaimCall x = GoodValue L s (e.call_value s (e.called s x)) (inner_call_parts x)

  abbrev ClaimChoice : ChoiceTree → Type 0
  ClaimChoice x = GoodChoice L s (e.choice s x) (choice_parts x)

  abbrev ClaimExpression : ExpressionTree → Type 0
  ClaimExpression x = GoodMeant L s (e.meant s x) (p.parted w x)

  abbrev ClaimPlace : PlaceTree → Type 0
  ClaimPlace x = GoodPlace L s (e.placed s x) (p.indexed w x)

  abbrev ClaimPointer : PointerTree → Type 0
  ClaimPointer x = Good L (pointed x).looked (p.pointer_parts w x)

  abbrev ClaimTerm : TermTree → Type 0
  ClaimTerm x = GoodOperand L s (e.term s x) (term_parts x)

  abbrev SomeArgument : Type 0
  SomeArgument = Such the_family (claims ClaimArgument ClaimForm ClaimCall ClaimChoice ClaimExpression ClaimPlace ClaimPointer ClaimTerm) member-Argument

  abbrev SomeForm : Type 0
  SomeForm = Such the_family (claims ClaimArgument ClaimForm ClaimCall ClaimChoice ClaimExpression ClaimPlace ClaimPointer ClaimTerm) member-Form

  abbrev SomeCall : Type 0
  SomeCall = Such the_family (claims ClaimArgument ClaimForm ClaimCall ClaimChoice ClaimExpression ClaimPlace ClaimPointer ClaimTerm) member-Call

  abbrev SomeChoice : Type 0
  SomeChoice = Such the_family (claims ClaimArgument ClaimForm ClaimCall ClaimChoice ClaimExpression ClaimPlace ClaimPointer ClaimTerm) member-Choice

  abbrev SomeExpression : Type 0
  SomeExpression = Such the_family (claims ClaimArgument ClaimForm ClaimCall ClaimChoice ClaimExpression ClaimPlace ClaimPointer ClaimTerm) member-Expression

  abbrev SomePlace : Type 0
  SomePlace = Such the_family (claims ClaimArgument ClaimForm ClaimCall ClaimChoice ClaimExpression ClaimPlace ClaimPointer ClaimTerm) member-Place

  abbrev SomePointer : Type 0
  SomePointer = Such the_family (claims ClaimArgument ClaimForm ClaimCall ClaimChoice ClaimExpression ClaimPlace ClaimPointer ClaimTerm) member-Pointer

  abbrev SomeTerm : Type 0
  SomeTerm = Such the_family (claims ClaimArgument ClaimForm ClaimCall ClaimChoice ClaimExpression ClaimPlace ClaimPointer ClaimTerm) member-Term

  abbrev seen_argument : Argument-F SomeArgument SomeForm SomeCall SomeChoice SomeExpression SomePlace SomePointer SomeTerm → Argument-F ArgumentTree FormTree CallTree
      ChoiceTree ExpressionTree PlaceTree PointerTree TermTree
  seen_argument y = map-Argument SomeArgument SomeForm SomeCall SomeChoice SomeExpression SomePlace SomePointer SomeTerm ArgumentTree FormTree CallTree ChoiceTree
      ExpressionTree PlaceTree PointerTree TermTree (λ e. e.0) (λ e. e.0) (λ e. e.0) (λ e. e.0) (λ e. e.0) (λ e. e.0) (λ e. e.0) (λ e. e.0) y

  abbrev walks_in_argument : Argument-F ArgumentTree FormTree CallTree ChoiceTree ExpressionTree PlaceTree PointerTree TermTree → Argument-F Passed Formed Called Choice
      Meant Placed Pointed Operand
  walks_in_argument x = map-Argument ArgumentTree FormTree CallTree ChoiceTree ExpressionTree PlaceTree PointerTree TermTree Passed Formed Called Choice Meant Placed
      Pointed Operand (e.argument s) (e.formed s) (e.called s) (e.choice s) (e.meant s) (e.placed s) (pointed) (e.term s) x

  abbrev parts_in_argument : Argument-F ArgumentTree FormTree CallTree ChoiceTree ExpressionTree PlaceTree PointerTree TermTree → Argument-F Parts Parted Parts Parts
      Parted Indexed Parts Parts
  parts_in_argument x = map-Argument ArgumentTree FormTree CallTree ChoiceTree ExpressionTree PlaceTree PointerTree TermTree Parts Parted Parts Parts Parted Indexed Parts
      Parts (p.argument_parts w) (form_parts) (inner_call_parts) (choice_parts) (p.parted w) (p.indexed w) (p.pointer_parts w) (term_parts) x

  abbrev seen_form : Form-F SomeArgument SomeForm SomeCall SomeChoice SomeExpression SomePlace SomePointer SomeTerm → Form-F ArgumentTree FormTree CallTree ChoiceTree
      ExpressionTree PlaceTree PointerTree TermTree
  seen_form y = map-Form SomeArgument SomeForm SomeCall SomeChoice SomeExpression SomePlace SomePointer SomeTerm ArgumentTree FormTree CallTree ChoiceTree ExpressionTree
      PlaceTree PointerTree TermTree (λ e. e.0) (λ e. e.0) (λ e. e.0) (λ e. e.0) (λ e. e.0) (λ e. e.0) (λ e. e.0) (λ e. e.0) y

  abbrev walks_in_form : Form-F ArgumentTree FormTree CallTree ChoiceTree ExpressionTree PlaceTree PointerTree TermTree → Form-F Passed Formed Called Choice Meant Placed
      Pointed Operand
  walks_in_form x = map-Form ArgumentTree FormTree CallTree ChoiceTree ExpressionTree PlaceTree PointerTree TermTree Passed Formed Called Choice Meant Placed Pointed
      Operand (e.argument s) (e.formed s) (e.called s) (e.choice s) (e.meant s) (e.placed s) (pointed) (e.term s) x

  abbrev parts_in_form : Form-F ArgumentTree FormTree CallTree ChoiceTree ExpressionTree PlaceTree PointerTree TermTree → Form-F Parts Parted Parts Parts Parted Indexed Parts Parts
  parts_in_form x = map-Form ArgumentTree FormTree CallTree ChoiceTree ExpressionTree PlaceTree PointerTree TermTree Parts Parted Parts Parts Parted Indexed Parts Parts
      (p.argument_parts w) (form_parts) (inner_call_parts) (choice_parts) (p.parted w) (p.indexed w) (p.pointer_parts w) (term_parts) x

  abbrev seen_call : Call-F SomeArgument SomeForm SomeCall SomeChoice SomeExpression SomePlace SomePointer SomeTerm → Call-F ArgumentTree FormTree CallTree ChoiceTree
      ExpressionTree PlaceTree PointerTree TermTree
  seen_call y = map-Call SomeArgument SomeForm SomeCall SomeChoice SomeExpression SomePlace SomePointer SomeTerm ArgumentTree FormTree CallTree ChoiceTree ExpressionTree
      PlaceTree PointerTree TermTree (λ e. e.0) (λ e. e.0) (λ e. e.0) (λ e. e.0) (λ e. e.0) (λ e. e.0) (λ e. e.0) (λ e. e.0) y

  abbrev walks_in_call : Call-F ArgumentTree FormTree CallTree ChoiceTree ExpressionTree PlaceTree PointerTree TermTree → Call-F Passed Formed Called Choice Meant Placed
      Pointed Operand
  walks_in_call x = map-Call ArgumentTree FormTree CallTree ChoiceTree ExpressionTree PlaceTree PointerTree TermTree Passed Formed Called Choice Meant Placed Pointed
      Operand (e.argument s) (e.formed s) (e.called s) (e.choice s) (e.meant s) (e.placed s) (pointed) (e.term s) x

  abbrev parts_in_call : Call-F ArgumentTree FormTree CallTree ChoiceTree ExpressionTree PlaceTree PointerTree TermTree → Call-F Parts Parted Parts Parts Parted Indexed Parts Parts
  parts_in_call x = map-Call ArgumentTree FormTree CallTree ChoiceTree ExpressionTree PlaceTree PointerTree TermTree Parts Parted Parts Parts Parted Indexed Parts Parts
      (p.argument_parts w) (form_parts) (inner_call_parts) (choice_parts) (p.parted w) (p.indexed w) (p.pointer_parts w) (term_parts) x

  abbrev seen_choice : Choice-F SomeArgument SomeForm SomeCall SomeChoice SomeExpression SomePlace SomePointer SomeTerm → Choice-F ArgumentTree FormTree CallTree
      ChoiceTree ExpressionTree PlaceTree PointerTree TermTree
  seen_choice y = map-Choice SomeArgument SomeForm SomeCall SomeChoice SomeExpression SomePlace SomePointer SomeTerm ArgumentTree FormTree CallTree ChoiceTree
      ExpressionTree PlaceTree PointerTree TermTree (λ e. e.0) (λ e. e.0) (λ e. e.0) (λ e. e.0) (λ e. e.0) (λ e. e.0) (λ e. e.0) (λ e. e.0) y

  abbrev walks_in_choice : Choice-F ArgumentTree FormTree CallTree ChoiceTree ExpressionTree PlaceTree PointerTree TermTree → Choice-F Passed Formed Called Choice Meant
      Placed Pointed Operand
  walks_in_choice x = map-Choice ArgumentTree FormTree CallTree ChoiceTree ExpressionTree PlaceTree PointerTree TermTree Passed Formed Called Choice Meant Placed Pointed
      Operand (e.argument s) (e.formed s) (e.called s) (e.choice s) (e.meant s) (e.placed s) (pointed) (e.term s) x

  abbrev parts_in_choice : Choice-F ArgumentTree FormTree CallTree ChoiceTree ExpressionTree PlaceTree PointerTree TermTree → Choice-F Parts Parted Parts Parts Parted
      Indexed Parts Parts
  parts_in_choice x = map-Choice ArgumentTree FormTree CallTree ChoiceTree ExpressionTree PlaceTree PointerTree TermTree Parts Parted Parts Parts Parted Indexed Parts
      Parts (p.argument_parts w) (form_parts) (inner_call_parts) (choice_parts) (p.parted w) (p.indexed w) (p.pointer_parts w) (term_parts) x

  abbrev seen_expression : Expression-F SomeArgument SomeForm SomeCall SomeChoice SomeExpression SomePlace SomePointer SomeTerm → Expression-F ArgumentTree FormTree
      CallTree ChoiceTree ExpressionTree PlaceTree PointerTree TermTree
  seen_expression y = map-Expression SomeArgument SomeForm SomeCall SomeChoice SomeExpression SomePlace SomePointer SomeTerm ArgumentTree FormTree CallTree ChoiceTree
      ExpressionTree PlaceTree PointerTree TermTree (λ e. e.0) (λ e. e.0) (λ e. e.0) (λ e. e.0) (λ e. e.0) (λ e. e.0) (λ e. e.0) (λ e. e.0) y

  abbrev walks_in_expression : Expression-F ArgumentTree FormTree CallTree ChoiceTree ExpressionTree PlaceTree PointerTree TermTree → Expression-F Passed Formed Called
      Choice Meant Placed Pointed Operand
  walks_in_expression x = map-Expression ArgumentTree FormTree CallTree ChoiceTree ExpressionTree PlaceTree PointerTree TermTree Passed Formed Called Choice Meant Placed
      Pointed Operand (e.argument s) (e.formed s) (e.called s) (e.choice s) (e.meant s) (e.placed s) (pointed) (e.term s) x

  abbrev parts_in_expression : Expression-F ArgumentTree FormTree CallTree ChoiceTree ExpressionTree PlaceTree PointerTree TermTree → Expression-F Parts Parted Parts Parts
      Parted Indexed Parts Parts
  parts_in_expression x = map-Expression ArgumentTree FormTree CallTree ChoiceTree ExpressionTree PlaceTree PointerTree TermTree Parts Parted Parts Parts Parted Indexed
      Parts Parts (p.argument_parts w) (form_parts) (inner_call_parts) (choice_parts) (p.parted w) (p.indexed w) (p.pointer_parts w) (term_parts) x

  abbrev seen_place : Place-F SomeArgument SomeForm SomeCall SomeChoice SomeExpression SomePlace SomePointer SomeTerm → Place-F ArgumentTree FormTree CallTree ChoiceTree
      ExpressionTree PlaceTree PointerTree TermTree
  seen_place y = map-Place SomeArgument SomeForm SomeCall SomeChoice SomeExpression SomePlace SomePointer SomeTerm ArgumentTree FormTree CallTree ChoiceTree ExpressionTree
      PlaceTree PointerTree TermTree (λ e. e.0) (λ e. e.0) (λ e. e.0) (λ e. e.0) (λ e. e.0) (λ e. e.0) (λ e. e.0) (λ e. e.0) y

  abbrev walks_in_place : Place-F ArgumentTree FormTree CallTree ChoiceTree ExpressionTree PlaceTree PointerTree TermTree → Place-F Passed Formed Called Choice Meant
      Placed Pointed Operand
  walks_in_place x = map-Place ArgumentTree FormTree CallTree ChoiceTree ExpressionTree PlaceTree PointerTree TermTree Passed Formed Called Choice Meant Placed Pointed
      Operand (e.argument s) (e.formed s) (e.called s) (e.choice s) (e.meant s) (e.placed s) (pointed) (e.term s) x

  abbrev parts_in_place : Place-F ArgumentTree FormTree CallTree ChoiceTree ExpressionTree PlaceTree PointerTree TermTree → Place-F Parts Parted Parts Parts Parted Indexed
      Parts Parts
  parts_in_place x = map-Place ArgumentTree FormTree CallTree ChoiceTree ExpressionTree PlaceTree PointerTree TermTree Parts Parted Parts Parts Parted Indexed Parts Parts
      (p.argument_parts w) (form_parts) (inner_call_parts) (choice_parts) (p.parted w) (p.indexed w) (p.pointer_parts w) (term_parts) x

  abbrev seen_pointer : Pointer-F SomeArgument SomeForm SomeCall SomeChoice SomeExpression SomePlace SomePointer SomeTerm → Pointer-F ArgumentTree FormTree CallTree
      ChoiceTree ExpressionTree PlaceTree PointerTree TermTree
  seen_pointer y = map-Pointer SomeArgument SomeForm SomeCall SomeChoice SomeExpression SomePlace SomePointer SomeTerm ArgumentTree FormTree CallTree ChoiceTree
      ExpressionTree PlaceTree PointerTree TermTree (λ e. e.0) (λ e. e.0) (λ e. e.0) (λ e. e.0) (λ e. e.0) (λ e. e.0) (λ e. e.0) (λ e. e.0) y

  abbrev walks_in_pointer : Pointer-F ArgumentTree FormTree CallTree ChoiceTree ExpressionTree PlaceTree PointerTree TermTree → Pointer-F Passed Formed Called Choice Meant
      Placed Pointed Operand
  walks_in_pointer x = map-Pointer ArgumentTree FormTree CallTree ChoiceTree ExpressionTree PlaceTree PointerTree TermTree Passed Formed Called Choice Meant Placed Pointed
      Operand (e.argument s) (e.formed s) (e.called s) (e.choice s) (e.meant s) (e.placed s) (pointed) (e.term s) x

  abbrev parts_in_pointer : Pointer-F ArgumentTree FormTree CallTree ChoiceTree ExpressionTree PlaceTree PointerTree TermTree → Pointer-F Parts Parted Parts Parts Parted
      Indexed Parts Parts
  parts_in_pointer x = map-Pointer ArgumentTree FormTree CallTree ChoiceTree ExpressionTree PlaceTree PointerTree TermTree Parts Parted Parts Parts Parted Indexed Parts
      Parts (p.argument_parts w) (form_parts) (inner_call_parts) (choice_parts) (p.parted w) (p.indexed w) (p.pointer_parts w) (term_parts) x

  abbrev seen_term : Term-F SomeArgument SomeForm SomeCall SomeChoice SomeExpression SomePlace SomePointer SomeTerm → Term-F ArgumentTree FormTree CallTree ChoiceTree
      ExpressionTree PlaceTree PointerTree TermTree
  seen_term y = map-Term SomeArgument SomeForm SomeCall SomeChoice SomeExpression SomePlace SomePointer SomeTerm ArgumentTree FormTree CallTree ChoiceTree ExpressionTree
      PlaceTree PointerTree TermTree (λ e. e.0) (λ e. e.0) (λ e. e.0) (λ e. e.0) (λ e. e.0) (λ e. e.0) (λ e. e.0) (λ e. e.0) y

  abbrev walks_in_term : Term-F ArgumentTree FormTree CallTree ChoiceTree ExpressionTree PlaceTree PointerTree TermTree → Term-F Passed Formed Called Choice Meant Placed
      Pointed Operand
  walks_in_term x = map-Term ArgumentTree FormTree CallTree ChoiceTree ExpressionTree PlaceTree PointerTree TermTree Passed Formed Called Choice Meant Placed Pointed
      Operand (e.argument s) (e.formed s) (e.called s) (e.choice s) (e.meant s) (e.placed s) (pointed) (e.term s) x

  abbrev parts_in_term : Term-F ArgumentTree FormTree CallTree ChoiceTree ExpressionTree PlaceTree PointerTree TermTree → Term-F Parts Parted Parts Parts Parted Indexed Parts Parts
  parts_in_term x = map-Term ArgumentTree FormTree CallTree ChoiceTree ExpressionTree PlaceTree PointerTree TermTree Parts Parted Parts Parts Parted Indexed Parts Parts
      (p.argument_parts w) (form_parts) (inner_call_parts) (choice_parts) (p.parted w) (p.indexed w) (p.pointer_parts w) (term_parts) x

  -- ---- lists of parts

  all_are : {A B : Type 0} {Is : A → Type 0} (Has : B → Parts → Type 0) (walk : A → B) (of : A → Parts) → ((a : A) → Is a → Has (walk a) (of a)) →
      (list : List ((a : A) × Is a)) → Each Has (map walk (map (λ e. e.0) list)) (map of (map (λ e. e.0) list))
  all_are Has walk of to [] = tt
  all_are Has walk of to (x ∷ list) = (to x.0 x.1, all_are Has walk of to list)

  index_parts : (list : List SomeExpression) →
      Each (GoodIndex L s) (map (e.meant s) (map (λ e. e.0) list)) (map (λ (q : Parted). q.parts) (map (p.parted w) (map (λ e. e.0) list)))
  index_parts [] = tt
  index_parts (x ∷ list) = (x.1.value, index_parts list)

  -- ---- cases

  form_case : (y : Form-F SomeArgument SomeForm SomeCall SomeChoice SomeExpression SomePlace SomePointer SomeTerm) →
      GoodForm L s (e.form_step s (walks_in_form (seen_form y))) (p.form_layer w (parts_in_form (seen_form y)))
  form_case (Form-F.Constant k offset) = a_value L s (λ at cuts. e.constant k offset >>= (λ x. pure (cut cuts x))) (Part.Constant k offset ∷ []) (constant_value k offset)
  form_case (Form-F.Place q) = place_of (e.placed s q.0) (p.indexed w q.0) q.1
  form_case (Form-F.Call k) = a_value L s (e.call_value s (e.called s k.0)) (inner_call_parts k.0) k.1
  form_case (Form-F.Unary operator x) = unary_form operator (e.meant s x.0) (p.parted w x.0) x.1
  form_case (Form-F.Cast words x) =
      a_value L s (e.cast s words (e.meant s x.0)) (if e.is_long (plain_integer words) then (p.parted w x.0).converted else (p.parted w x.0).parts)
      (cast words (e.meant s x.0) (p.parted w x.0) x.1)
  form_case (Form-F.Binary first terms) =
      binary_form (e.meant s first.0) (p.parted w first.0) first.1 (map (e.term s) (map (λ e. e.0) terms)) (map term_parts (map (λ e. e.0) terms))
      (all_are (GoodOperand L s) (e.term s) term_parts (λ t h. h) terms)
  form_case (Form-F.Conditional first choices) =
      a_value L s (e.conditional_value s (e.meant s first.0) (map (e.choice s) (map (λ e. e.0) choices)))
      ((p.parted w first.0).parts ++ all_of (map choice_parts (map (λ e. e.0) choices)))
      (conditional_value (e.meant s first.0) (p.parted w first.0) first.1 (map (e.choice s) (map (λ e. e.0) choices)) (map choice_parts (map (λ e. e.0) choices))
      (all_are (GoodChoice L s) (e.choice s) choice_parts (λ t h. h) choices))

  argument_case : (y : Argument-F SomeArgument SomeForm SomeCall SomeChoice SomeExpression SomePlace SomePointer SomeTerm) →
      GoodPassed L s (e.argument_step s (walks_in_argument (seen_argument y))) (p.argument_layer w (parts_in_argument (seen_argument y)))
  argument_case (Argument-F.Value x) = record { value = x.1.value; looked = look L s (e.meant s x.0) (p.parted w x.0).parts x.1.value }
  argument_case (Argument-F.Text bytes offset) = refused_argument offset (pure tt) [] (good_pure L tt)
  argument_case (Argument-F.Address q offset) =
      refused_argument offset (e.look_at_all (e.placed s q.0).indices) (all_of (p.indexed w q.0).indices)
      (look_at_all L s (e.placed s q.0).indices (p.indexed w q.0).indices q.1.indices)
  argument_case (Argument-F.Pointer q) = refused_argument (pointed q.0).offset (pointed q.0).looked (p.pointer_parts w q.0) q.1

  call_case : (y : Call-F SomeArgument SomeForm SomeCall SomeChoice SomeExpression SomePlace SomePointer SomeTerm) →
      GoodValue L s (e.call_value s (e.call_step s (walks_in_call (seen_call y)))) (p.call_layer w (parts_in_call (seen_call y)))
  call_case y =
      call_value y.name (map (e.argument s) (map (λ e. e.0) y.arguments)) (map (p.argument_parts w) (map (λ e. e.0) y.arguments))
      (all_are (GoodPassed L s) (e.argument s) (p.argument_parts w) (λ t h. h) y.arguments)

  choice_case : (y : Choice-F SomeArgument SomeForm SomeCall SomeChoice SomeExpression SomePlace SomePointer SomeTerm) →
      GoodChoice L s (e.choice_step s (walks_in_choice (seen_choice y))) (p.choice_layer w (parts_in_choice (seen_choice y)))
  choice_case y =
      next_choice (e.choice_step s (walks_in_choice (seen_choice y))) (p.parted w y.condition.0) (p.parted w y.otherwise.0) y.condition.1 y.otherwise.1

  expression_case : (y : Expression-F SomeArgument SomeForm SomeCall SomeChoice SomeExpression SomePlace SomePointer SomeTerm) →
      GoodMeant L s (e.expression_step s (walks_in_expression (seen_expression y))) (p.expression_layer w (parts_in_expression (seen_expression y)))
  expression_case y = record { value = y.form.1.value; condition = y.form.1.condition y.offset; converted = y.form.1.converted; argument = y.form.1.argument }

  place_case : (y : Place-F SomeArgument SomeForm SomeCall SomeChoice SomeExpression SomePlace SomePointer SomeTerm) →
      GoodPlace L s (e.place_step s (walks_in_place (seen_place y))) (p.place_layer w (parts_in_place (seen_place y)))
  place_case y = record { same = refl; indices = index_parts y.indices }

  pointer_at : (offset : ℕ) (operand : Option SomeExpression) → let y : Pointer-F SomeArgument SomeForm SomeCall SomeChoice SomeExpression SomePlace SomePointer SomeTerm =
      record { offset = offset; operand = operand } in
      Good L (e.pointer_step s (walks_in_pointer (seen_pointer y))).looked (p.pointer_layer w (parts_in_pointer (seen_pointer y)))
  pointer_at offset None = good_pure L tt
  pointer_at offset (Some x) = look L s (e.meant s x.0) (p.parted w x.0).parts x.1.value

  pointer_case : (y : Pointer-F SomeArgument SomeForm SomeCall SomeChoice SomeExpression SomePlace SomePointer SomeTerm) →
      Good L (e.pointer_step s (walks_in_pointer (seen_pointer y))).looked (p.pointer_layer w (parts_in_pointer (seen_pointer y)))
  pointer_case y = pointer_at y.offset y.operand

  term_case : (y : Term-F SomeArgument SomeForm SomeCall SomeChoice SomeExpression SomePlace SomePointer SomeTerm) →
      GoodOperand L s (e.term_step s (walks_in_term (seen_term y))) (p.term_layer w (parts_in_term (seen_term y)))
  term_case y = record { value = y.operand.1.value; condition = y.operand.1.condition }

  argument_induct : (x : Argument-F ArgumentTree FormTree CallTree ChoiceTree ExpressionTree PlaceTree PointerTree TermTree) (y : Argument-F SomeArgument SomeForm SomeCall
      SomeChoice SomeExpression SomePlace SomePointer SomeTerm) → seen_argument y ≡ x → ClaimArgument (roll-Argument x)
  argument_induct x y is = subst (λ k. ClaimArgument (roll-Argument k)) is
      (subst (λ (m : Passed). GoodPassed L s m (p.argument_parts w (roll-Argument (seen_argument y)))) (sym (fold-roll-Argument Passed Formed Called Choice Meant Placed Pointed
      Operand (e.argument_step s) (e.form_step s) (e.call_step s) (e.choice_step s) (e.expression_step s) (e.place_step s) (e.pointer_step s) (e.term_step s)
      (seen_argument y)))
      (subst (λ (q : Parts). GoodPassed L s (e.argument_step s (walks_in_argument (seen_argument y))) q) (sym (fold-roll-Argument Parts Parted Parts Parts Parted Indexed Parts
      Parts (p.argument_layer w) (p.form_layer w) (p.call_layer w) (p.choice_layer w) (p.expression_layer w) (p.place_layer w) (p.pointer_layer w) (p.term_layer w)
      (seen_argument y))) (argument_case y)))

  form_induct : (x : Form-F ArgumentTree FormTree CallTree ChoiceTree ExpressionTree PlaceTree PointerTree TermTree) (y : Form-F SomeArgument SomeForm SomeCall SomeChoice
      SomeExpression SomePlace SomePointer SomeTerm) → seen_form y ≡ x → ClaimForm (roll-Form x)
  form_induct x y is = subst (λ k. ClaimForm (roll-Form k)) is
      (subst (λ (m : Formed). GoodForm L s m (form_parts (roll-Form (seen_form y)))) (sym (fold-roll-Form Passed Formed Called Choice Meant Placed Pointed Operand
      (e.argument_step s) (e.form_step s) (e.call_step s) (e.choice_step s) (e.expression_step s) (e.place_step s) (e.pointer_step s) (e.term_step s) (seen_form y)))
      (subst (λ (q : Parted). GoodForm L s (e.form_step s (walks_in_form (seen_form y))) q) (sym (fold-roll-Form Parts Parted Parts Parts Parted Indexed Parts Parts
      (p.argument_layer w) (p.form_layer w) (p.call_layer w) (p.choice_layer w) (p.expression_layer w) (p.place_layer w) (p.pointer_layer w) (p.term_layer w)
      (seen_form y))) (form_case y)))

  call_induct : (x : Call-F ArgumentTree FormTree CallTree ChoiceTree ExpressionTree PlaceTree PointerTree TermTree) (y : Call-F SomeArgument SomeForm SomeCall SomeChoice
      SomeExpression SomePlace SomePointer SomeTerm) → seen_call y ≡ x → ClaimCall (roll-Call x)
  call_induct x y is = subst (λ k. ClaimCall (roll-Call k)) is
      (subst (λ (m : Called). GoodValue L s (e.call_value s m) (inner_call_parts (roll-Call (seen_call y)))) (sym (fold-roll-Call Passed Formed Called Choice Meant Placed Pointed Operand
      (e.argument_step s) (e.form_step s) (e.call_step s) (e.choice_step s) (e.expression_step s) (e.place_step s) (e.pointer_step s) (e.term_step s) (seen_call y)))
      (subst (λ (q : Parts). GoodValue L s (e.call_value s (e.call_step s (walks_in_call (seen_call y)))) q) (sym (fold-roll-Call Parts Parted Parts Parts Parted Indexed Parts Parts
      (p.argument_layer w) (p.form_layer w) (p.call_layer w) (p.choice_layer w) (p.expression_layer w) (p.place_layer w) (p.pointer_layer w) (p.term_layer w)
      (seen_call y))) (call_case y)))

  choice_induct : (x : Choice-F ArgumentTree FormTree CallTree ChoiceTree ExpressionTree PlaceTree PointerTree TermTree) (y : Choice-F SomeArgument SomeForm SomeCall
      SomeChoice SomeExpression SomePlace SomePointer SomeTerm) → seen_choice y ≡ x → ClaimChoice (roll-Choice x)
  choice_induct x y is = subst (λ k. ClaimChoice (roll-Choice k)) is
      (subst (λ (m : Choice). GoodChoice L s m (choice_parts (roll-Choice (seen_choice y)))) (sym (fold-roll-Choice Passed Formed Called Choice Meant Placed Pointed Operand
      (e.argument_step s) (e.form_step s) (e.call_step s) (e.choice_step s) (e.expression_step s) (e.place_step s) (e.pointer_step s) (e.term_step s) (seen_choice y)))
      (subst (λ (q : Parts). GoodChoice L s (e.choice_step s (walks_in_choice (seen_choice y))) q) (sym (fold-roll-Choice Parts Parted Parts Parts Parted Indexed Parts Parts
      (p.argument_layer w) (p.form_layer w) (p.call_layer w) (p.choice_layer w) (p.expression_layer w) (p.place_layer w) (p.pointer_layer w) (p.term_layer w)
      (seen_choice y))) (choice_case y)))

  expression_induct : (x : Expression-F ArgumentTree FormTree CallTree ChoiceTree ExpressionTree PlaceTree PointerTree TermTree) (y : Expression-F SomeArgument SomeForm
      SomeCall SomeChoice SomeExpression SomePlace SomePointer SomeTerm) → seen_expression y ≡ x → ClaimExpression (roll-Expression x)
  expression_induct x y is = subst (λ k. ClaimExpression (roll-Expression k)) is
      (subst (λ (m : Meant). GoodMeant L s m (p.parted w (roll-Expression (seen_expression y)))) (sym (fold-roll-Expression Passed Formed Called Choice Meant Placed Pointed
      Operand (e.argument_step s) (e.form_step s) (e.call_step s) (e.choice_step s) (e.expression_step s) (e.place_step s) (e.pointer_step s) (e.term_step s)
      (seen_expression y)))
      (subst (λ (q : Parted). GoodMeant L s (e.expression_step s (walks_in_expression (seen_expression y))) q) (sym (fold-roll-Expression Parts Parted Parts Parts Parted
      Indexed Parts Parts (p.argument_layer w) (p.form_layer w) (p.call_layer w) (p.choice_layer w) (p.expression_layer w) (p.place_layer w) (p.pointer_layer w)
      (p.term_layer w) (seen_expression y))) (expression_case y)))

  place_induct : (x : Place-F ArgumentTree FormTree CallTree ChoiceTree ExpressionTree PlaceTree PointerTree TermTree) (y : Place-F SomeArgument SomeForm SomeCall
      SomeChoice SomeExpression SomePlace SomePointer SomeTerm) → seen_place y ≡ x → ClaimPlace (roll-Place x)
  place_induct x y is = subst (λ k. ClaimPlace (roll-Place k)) is
      (subst (λ (m : Placed). GoodPlace L s m (p.indexed w (roll-Place (seen_place y)))) (sym (fold-roll-Place Passed Formed Called Choice Meant Placed Pointed Operand
      (e.argument_step s) (e.form_step s) (e.call_step s) (e.choice_step s) (e.expression_step s) (e.place_step s) (e.pointer_step s) (e.term_step s) (seen_place y)))
      (subst (λ (q : Indexed). GoodPlace L s (e.place_step s (walks_in_place (seen_place y))) q) (sym (fold-roll-Place Parts Parted Parts Parts Parted Indexed Parts Parts
      (p.argument_layer w) (p.form_layer w) (p.call_layer w) (p.choice_layer w) (p.expression_layer w) (p.place_layer w) (p.pointer_layer w) (p.term_layer w)
      (seen_place y))) (place_case y)))

  pointer_induct : (x : Pointer-F ArgumentTree FormTree CallTree ChoiceTree ExpressionTree PlaceTree PointerTree TermTree) (y : Pointer-F SomeArgument SomeForm SomeCall
      SomeChoice SomeExpression SomePlace SomePointer SomeTerm) → seen_pointer y ≡ x → ClaimPointer (roll-Pointer x)
  pointer_induct x y is = subst (λ k. ClaimPointer (roll-Pointer k)) is
      (subst (λ (m : Pointed). Good L m.looked (p.pointer_parts w (roll-Pointer (seen_pointer y)))) (sym (fold-roll-Pointer Passed Formed Called Choice Meant Placed Pointed Operand
      (e.argument_step s) (e.form_step s) (e.call_step s) (e.choice_step s) (e.expression_step s) (e.place_step s) (e.pointer_step s) (e.term_step s) (seen_pointer y)))
      (subst (λ (q : Parts). Good L (e.pointer_step s (walks_in_pointer (seen_pointer y))).looked q) (sym (fold-roll-Pointer Parts Parted Parts Parts Parted Indexed Parts Parts
      (p.argument_layer w) (p.form_layer w) (p.call_layer w) (p.choice_layer w) (p.expression_layer w) (p.place_layer w) (p.pointer_layer w) (p.term_layer w)
      (seen_pointer y))) (pointer_case y)))

  term_induct : (x : Term-F ArgumentTree FormTree CallTree ChoiceTree ExpressionTree PlaceTree PointerTree TermTree) (y : Term-F SomeArgument SomeForm SomeCall SomeChoice
      SomeExpression SomePlace SomePointer SomeTerm) → seen_term y ≡ x → ClaimTerm (roll-Term x)
  term_induct x y is = subst (λ k. ClaimTerm (roll-Term k)) is
      (subst (λ (m : Operand). GoodOperand L s m (term_parts (roll-Term (seen_term y)))) (sym (fold-roll-Term Passed Formed Called Choice Meant Placed Pointed Operand
      (e.argument_step s) (e.form_step s) (e.call_step s) (e.choice_step s) (e.expression_step s) (e.place_step s) (e.pointer_step s) (e.term_step s) (seen_term y)))
      (subst (λ (q : Parts). GoodOperand L s (e.term_step s (walks_in_term (seen_term y))) q) (sym (fold-roll-Term Parts Parted Parts Parts Parted Indexed Parts Parts
      (p.argument_layer w) (p.form_layer w) (p.call_layer w) (p.choice_layer w) (p.expression_layer w) (p.place_layer w) (p.pointer_layer w) (p.term_layer w)
      (seen_term y))) (term_case y)))

  pub good_argument : (x : ArgumentTree) → ClaimArgument x
  good_argument = ind-Argument ClaimArgument ClaimForm ClaimCall ClaimChoice ClaimExpression ClaimPlace ClaimPointer ClaimTerm argument_induct form_induct call_induct
      choice_induct expression_induct place_induct pointer_induct term_induct

  pub good_expression : (x : ExpressionTree) → ClaimExpression x
  good_expression = ind-Expression ClaimArgument ClaimForm ClaimCall ClaimChoice ClaimExpression ClaimPlace ClaimPointer ClaimTerm argument_induct form_induct call_induct
      choice_induct expression_induct place_induct pointer_induct term_induct

  pub good_place : (x : PlaceTree) → ClaimPlace x
  good_place = ind-Place ClaimArgument ClaimForm ClaimCall ClaimChoice ClaimExpression ClaimPlace ClaimPointer ClaimTerm argument_induct form_induct call_induct
      choice_induct expression_induct place_induct pointer_induct term_induct

  pub good_value : (x : ExpressionTree) → GoodValue L s (e.value s x) (p.expression_parts w x)
  good_value x = (good_expression x).value

  pub good_condition : (x : ExpressionTree) (n : ℕ) → Good L (e.condition s x n) (p.expression_parts w x)
  good_condition x = (good_expression x).condition

  pub good_looked : (x : ExpressionTree) → Good L (e.looked s x) (p.expression_parts w x)
  good_looked x = look L s (e.meant s x) (p.parted w x).parts (good_expression x).value

  -- the number of an element
  pub good_number : (d : Dimensions) (x : PlaceTree) (at : ℕ) (cuts : Cuts) → Good L (e.place_number s d x at cuts) (all_of (p.indexed w x).indices)
  good_number d x at cuts = element L s d (e.placed s x).indices (p.indexed w x).indices (good_place x).indices at cuts

  all_passed : (list : List ArgumentTree) → Each (GoodPassed L s) (map (e.argument s) list) (map (p.argument_parts w) list)
  all_passed [] = tt
  all_passed (x ∷ list) = (good_argument x, all_passed list)

  all_looked : (list : List ArgumentTree) → Each (λ x ps. Good L (e.looked_argument s x) ps) list (map (p.argument_parts w) list)
  all_looked [] = tt
  all_looked (x ∷ list) = ((good_argument x).looked, all_looked list)

  pub good_arguments : (list : List ArgumentTree) → Good L (e.arguments s list) (p.arguments_parts w list)
  good_arguments list =
      subst (λ ps. Good L (e.arguments s list) ps) (each_part (p.argument_parts w) list)
      (good_visits L (e.looked_argument s) list (map (p.argument_parts w) list) (all_looked list))

  pub good_passed : (list : List ArgumentTree) (at : ℕ) (cuts : Cuts) → Good L (e.all_passed s list at cuts) (p.arguments_parts w list)
  good_passed list at cuts =
      subst (λ ps. Good L (e.all_passed s list at cuts) ps) (each_part (p.argument_parts w) list)
      (all_values L s (map (e.argument s) list) (map (p.argument_parts w) list) (all_passed list) at cuts)
