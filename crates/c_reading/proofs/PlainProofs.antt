-- The readings of what stands in statements, and of statements with no statement in them, read the grammar's rules.
use Rattle.std.proofs.Common.{◌≡◌, ℕ, suc, ◌+◌, ◌<◌, List, [], ◌∷◌, ◌++◌, Option, Some, None, Bool, true, false, refl, sym, subst}
use Rattle.std.proofs.Common.{inl, inr, ⊎_elim, arith}
use Rattle.std.specs.Prelude.{◌||◌, ◌&&◌}
use Rattle.std.proofs.lemmas.Bool.{or_left, or_right, both_ways}
use Rattle.std.proofs.Math.Bool.{or_comm}
use Rattle.std.proofs.Math.Nat.{le-suc}
use Rattle.c_token.specs.declared.keyword.Keyword.TheVariants as k
use Rattle.c_token.specs.declared.punctuator.Punctuator.TheVariants as p
use Rattle.c_token.specs.declared.token.Kind.TheVariants as kind
use Rattle.c_token.specs.declared.token.Token.{Token}
use Rattle.grammar.specs.Rules.{Placed, Family, pure, one, ◌>>=◌, ◌<|>◌, optional}
use Rattle.grammar.specs.Sentences.{plain}
use Rattle.grammar.specs.Readers as d
use Rattle.c_tree.specs.declared.sign.Sign.{Sign}
use Rattle.c_tree.specs.declared.sign.Sign.TheVariants.{Word, Mark}
use Rattle.c_tree.specs.declared.expression.Name.{Name}
use Rattle.c_tree.specs.declared.expression.Expression.{Expression}
use Rattle.c_tree.specs.declared.statement.AssignmentOperator.TheVariants.{Set}
use Rattle.c_tree.specs.declared.statement.Direction.TheVariants.{Up}
use Rattle.c_tree.specs.declared.statement.SimpleStatement.{SimpleStatement}
use Rattle.c_tree.specs.declared.statement.SimpleForm.TheVariants as simple_form
use Rattle.c_tree.specs.declared.statement.Returned.{Returned}
use Rattle.c_tree.specs.declared.statement.Returned.TheVariants as returned_as
use Rattle.c_tree.specs.declared.statement.ForStart.{ForStart}
use Rattle.c_tree.specs.declared.statement.ForStart.TheVariants as start
use Rattle.c_tree.specs.declared.statement.Statement.TheVariants as st
use Rattle.c_tree.specs.Tokens.{same_keyword, same_punctuator, is, is_some, sign_at, is_name, is_constant, is_unary, assignment_at, direction_of}
use Rattle.c_tree.specs.Tokens.{is_direction, is_type_word}
use Rattle.c_tree.specs.Trees as tree
use Rattle.c_tree.specs.Expressions as g
use Rattle.c_tree.specs.Statements as h
use Rattle.c_reading.specs.Tokens as r
use Rattle.c_reading.specs.Expressions as e
use Rattle.c_reading.specs.Statements as s
use Rattle.grammar.proofs.Lists.{or_cases}
use Rattle.grammar.proofs.Good.{Reads, ◌∘>◌, Avoids}
use Rattle.grammar.proofs.Parts.{nowhere, reads_nothing, resize, same_rule, one_then, in_turn, both, ends}
use Rattle.grammar.proofs.Choice.{Level, DepartsBy, departs_not, either_in, ahead_in, starts_both, departs_both}
use Rattle.grammar.proofs.Choice.{start_both, start_left, swapped, shared, may}
use Rattle.grammar.proofs.Nested.{within_in, one_flat}
use Rattle.c_reading.proofs.TokenProofs.{token, sign_kind, sign_apart, some_exactly, placed_exactly, type_apart, direction_apart, sign_then, name_then}
use Rattle.c_reading.proofs.LevelProofs.{opens}
use Rattle.c_reading.proofs.ExprShapes.{open_round, close_round, All}
use Rattle.c_reading.proofs.ExprProofs as x
use Rattle.c_reading.proofs.ExprProofs.{open_square, comma, after_expr, after_opens, opens_square, expr_ends, listed, specifiers, cast, expr}

abbrev pub semicolon : Sign
semicolon = Mark p.Semicolon

abbrev pub assign : Sign
assign = Mark p.Assign

abbrev colon : Sign
colon = Mark p.Colon

pub ends_semicolon : (y : Token) → after_expr y ≡ true → is semicolon y ≡ true → ⊥
unfolding opens same_punctuator
ends_semicolon y l h = expr_ends semicolon refl (λ at. refl) (λ at. refl) y l h

pub ends_comma : (y : Token) → after_expr y ≡ true → is comma y ≡ true → ⊥
unfolding opens same_punctuator
ends_comma y l h = expr_ends comma refl (λ at. refl) (λ at. refl) y l h

pub ends_colon : (y : Token) → after_expr y ≡ true → is colon y ≡ true → ⊥
unfolding opens same_punctuator
ends_colon y l h = expr_ends colon refl (λ at. refl) (λ at. refl) y l h

pub ends_round : (y : Token) → after_expr y ≡ true → is close_round y ≡ true → ⊥
unfolding opens same_punctuator
ends_round y l h = expr_ends close_round refl (λ at. refl) (λ at. refl) y l h

module _ (n : ℕ) where
  whole : 0 < n → (depth : ℕ) → All depth
  whole lt depth = tt

  pub on : {B : Type 0} {Q : ℕ → Family Token B} {q : ℕ → ℕ → d.Reader Token B} {first' : ℕ → Token → Bool} {last' : B → Token → Bool} {null' : Bool}
      (z : Sign) → ((a : ℕ) → Reads All n (Q a) (q a) (first' a) last' null') → Reads All n ((λ depth. g.sign z) ∘> Q) (λ room. d.reads_both (r.expect z) (λ a. q a room)) (is z) last' false
  on z after = sign_then {n = n} {m = n} (le-suc n) whole z after

  pub gives_value : {B : Type 0} (v : B) → Reads {T = Token} All n (λ depth. pure v) (λ room. d.reads_pure v) nowhere (λ v. nowhere) true
  gives_value v = reads_nothing whole v

  -- ---- what is read of expressions

  pub indices : Reads All n (λ depth. g.indices (g.cast depth) (g.expr depth)) (λ room. e.read_indices (e.read_expr room) room) (is open_square) (λ v. is open_square) true
  indices = x.indices n n (le-suc n) (omega arith) whole (cast n) (expr n)

  place : Reads All n (λ depth. g.place (g.cast depth) (g.expr depth)) (λ room. e.read_place (e.read_expr room) room) is_name (λ v. is open_square) false
  place = x.place n n (le-suc n) (omega arith) whole (cast n) (expr n)

  arguments : Reads All n (λ depth. g.arguments (g.cast depth) (g.expr depth)) (λ room. e.read_arguments (e.read_argument room) room) (is open_round) (λ v. nowhere) false
  arguments = x.arguments n n (le-suc n) (omega arith) whole (cast n) (expr n)

  null : Reads All n (λ depth. g.null (g.cast depth) (g.expr depth)) (λ room. e.read_null) (is (Word k.Null)) (λ v. nowhere) false
  null = x.null n n (le-suc n) (omega arith) whole (cast n) (expr n)

  converted_pointer : Reads All n (λ depth. g.converted_pointer (g.cast depth) (g.expr depth)) (λ room. e.read_converted_pointer (e.read_cast room) room) (is open_round) (λ v. opens) false
  converted_pointer = x.converted_pointer n n (le-suc n) (omega arith) whole (cast n) (expr n)

  -- ---- simple statements

  abbrev is_assignment : Token → Bool
  is_assignment y = is_some (assignment_at y)

  abbrev AssignRest : Name → List Expression → Family Token SimpleStatement
  AssignRest y i depth = one assignment_at >>= (λ op. g.expr depth >>= (λ value. pure (record { form = simple_form.Assign (tree.place y i) op value; offset = y.offset })))

  abbrev StepRest : Name → List Expression → Family Token SimpleStatement
  StepRest y i depth = one direction_of >>= (λ way. pure (record { form = simple_form.Step (tree.place y i) way; offset = y.offset }))

  abbrev CallRest : Name → Family Token SimpleStatement
  CallRest f depth = g.arguments (g.cast depth) (g.expr depth) >>= (λ found. pure (record { form = simple_form.Call (tree.call f found); offset = f.offset }))

  abbrev Indices : Family Token (List Expression)
  Indices depth = g.indices (g.cast depth) (g.expr depth)

  assign_rest : (y : Name) (i : List Expression) → Reads All n (AssignRest y i) (λ room. s.read_assigned (suc room) room y i) is_assignment (λ v. after_expr) false
  unfolding s.read_assigned r.read_assignment_operator
  assign_rest y i =
      one_then {n = n} {m = n} (le-suc n) whole is_assignment (λ z. some_exactly (assignment_at z)) (token (kind.Punctuator p.Assign) 0) Set refl
      (λ op. ends (expr n) (λ value. record { form = simple_form.Assign (tree.place y i) op value; offset = y.offset }) (λ v. after_expr) (λ a z h. h))

  step_rest : (y : Name) (i : List Expression) → Reads All n (StepRest y i) (λ room. s.read_step_behind (suc room) room y i) is_direction (λ v. nowhere) false
  unfolding s.read_step_behind r.read_way
  step_rest y i =
      one_then {n = n} {m = n} (le-suc n) whole is_direction (λ z. some_exactly (direction_of z)) (token (kind.Punctuator p.PlusPlus) 0) Up refl
      (λ way. gives_value (record { form = simple_form.Step (tree.place y i) way; offset = y.offset }))

  change_rest : (y : Name) (i : List Expression) → Reads All n (λ depth. AssignRest y i depth <|> StepRest y i depth)
      (λ room. d.reads_either is_direction (s.read_step_behind (suc room) room y i) (s.read_assigned (suc room) room y i)) (λ z. is_direction z || is_assignment z) (λ v. after_expr) false
  change_rest y i =
      swapped (either_in (step_rest y i) (assign_rest y i) (λ z a b. direction_apart is_assignment (λ at. refl) (λ at. refl) z a b) (λ v. after_expr) (λ v z h. cc) (λ v z h. h)
      (λ depth at v z c h l. cc))

  changed : (y : Name) → Reads All n (λ depth. (Indices depth >>= (λ i. AssignRest y i depth)) <|> (Indices depth >>= (λ i. StepRest y i depth))) (λ room. s.read_changed (suc room) room y)
      (λ z. is open_square z || (true && (is_direction z || is_assignment z))) (λ v. after_expr) false
  unfolding s.read_changed same_punctuator
  changed y =
      shared (both indices (λ i. change_rest y i) (λ i z l h. sign_apart open_square (λ z. is_direction z || is_assignment z) (λ at. refl) z l h)
      (λ v. after_expr) (λ b z h. h) (λ a depth at b z c h l. cc))

  called : (y : Name) → Reads All n (CallRest y) (λ room. s.read_called (suc room) room y) (is open_round) (λ v. nowhere) false
  unfolding s.read_called
  called y = ends arguments (λ found. record { form = simple_form.Call (tree.call y found); offset = y.offset }) (λ v. nowhere) (λ a z h. h)

  abbrev NameRest : Name → Family Token SimpleStatement
  NameRest y depth = CallRest y depth <|> ((Indices depth >>= (λ i. AssignRest y i depth)) <|> (Indices depth >>= (λ i. StepRest y i depth)))

  on_name : Reads All n ((λ depth. g.name) ∘> NameRest) (λ room. s.read_on_name (suc room) room) is_name (λ v. after_expr) false
  unfolding s.read_on_name same_punctuator
  on_name =
      name_then {n = n} {m = n} (le-suc n) whole
      (λ y. either_in (called y) (changed y) (λ z a b. sign_apart open_round (λ z. is open_square z || (true && (is_direction z || is_assignment z))) (λ at. refl) z a b)
      (λ v. after_expr) (λ v z h. cc) (λ v z h. h) (λ depth at v z c h l. cc))

  step_before : Reads All n (λ depth. h.step_before (g.cast depth) (g.expr depth)) (λ room. s.read_step_before (suc room) room) is_direction (λ v. is open_square) false
  unfolding s.read_step_before r.read_direction
  step_before =
      one_then {n = n} {m = n} (le-suc n) whole is_direction (λ z. placed_exactly z.offset (direction_of z)) (token (kind.Punctuator p.PlusPlus) 0) (Up, 0) refl
      (λ way. ends place (λ y. record { form = simple_form.Step y way.0; offset = way.1 }) (λ v. is open_square) (λ a z h. h))

  -- what begins with a name, by what stands behind it
  abbrev Named : Family Token SimpleStatement
  Named depth = g.name >>= (λ y. NameRest y depth)

  abbrev Simple : Family Token SimpleStatement
  Simple depth = h.simple (g.cast depth) (g.expr depth)

  by_rest : (depth at : ℕ) (w : List (Placed Token)) (v : SimpleStatement) (y : Name) (front back : List (Placed Token)) → w ≡ front ++ back → g.name at front y → NameRest y depth at back v
      → Simple depth at w v
  by_rest depth at w v y front back cut named rest =
      ⊎_elim
      (λ (c : CallRest y depth at back v). inr (inr (y, front, back, cut, named, c)))
      (λ (c : ((Indices depth >>= (λ i. AssignRest y i depth)) <|> (Indices depth >>= (λ i. StepRest y i depth))) at back v). ⊎_elim
      (λ (f : (Indices depth >>= (λ i. AssignRest y i depth)) at back v). inl (inl (y, front, back, cut, named, f)))
      (λ (f : (Indices depth >>= (λ i. StepRest y i depth)) at back v). inl (inr (y, front, back, cut, named, f)))
      c)
      rest

  to_simple : (depth at : ℕ) (w : List (Placed Token)) (v : SimpleStatement) → (h.step_before (g.cast depth) (g.expr depth) <|> Named depth) at w v → Simple depth at w v
  to_simple depth at w v c =
      ⊎_elim
      (λ (a : h.step_before (g.cast depth) (g.expr depth) at w v). inr (inl a))
      (λ (a : Named depth at w v). by_rest depth at w v a.0 a.1 a.2 a.3 a.4 a.5)
      c

  from_simple : (depth at : ℕ) (w : List (Placed Token)) (v : SimpleStatement) → Simple depth at w v → (h.step_before (g.cast depth) (g.expr depth) <|> Named depth) at w v
  from_simple depth at w v c =
      ⊎_elim
      (λ (a : (h.assignment (g.cast depth) (g.expr depth) <|> h.step_behind (g.cast depth) (g.expr depth)) at w v). ⊎_elim
      (λ (b : h.assignment (g.cast depth) (g.expr depth) at w v). inr (b.0, b.1, b.2, b.3, b.4, inr (inl b.5)))
      (λ (b : h.step_behind (g.cast depth) (g.expr depth) at w v). inr (b.0, b.1, b.2, b.3, b.4, inr (inr b.5)))
      a)
      (λ (a : (h.step_before (g.cast depth) (g.expr depth) <|> h.called (g.cast depth) (g.expr depth)) at w v). ⊎_elim
      (λ (b : h.step_before (g.cast depth) (g.expr depth) at w v). inl b)
      (λ (b : h.called (g.cast depth) (g.expr depth) at w v). inr (b.0, b.1, b.2, b.3, b.4, inl b.5))
      a)
      c

  pub simple : Reads All n (λ depth. h.simple (g.cast depth) (g.expr depth)) (λ room. s.read_simple (suc room) room) r.begins_simple (λ v. after_expr) false
  unfolding s.read_simple
  simple =
      let all = either_in step_before on_name (λ z a b. direction_apart is_name (λ at. refl) (λ at. refl) z a b) (λ v. after_expr) (λ v z h. after_opens z (opens_square z h)) (λ v z h. h)
      (λ depth at v z c h l. cc) in
      resize (same_rule all Simple to_simple from_simple) r.begins_simple (λ v. after_expr) false (λ z. or_comm (is_direction z) (is_name z)) (λ v z h. h) refl

  -- ---- declarations in a block

  value : Reads All n (λ depth. h.value (g.cast depth) (g.expr depth)) (λ room. s.read_value (suc room) room) (is assign) (λ v. after_expr) false
  unfolding s.read_value
  value = on assign (λ u. ends (expr n) (λ y. y) (λ v. after_expr) (λ a z h. h))

  abbrev after_value : Token → Bool
  after_value z = is assign z || after_expr z

  optional_value : Reads All n (λ depth. optional (h.value (g.cast depth) (g.expr depth))) (λ room. s.read_optional_value (suc room) room) (is assign) (λ v. after_value) true
  unfolding s.read_optional_value
  optional_value = may value (λ o. after_value) (λ v z h. or_right (is assign z) (after_expr z) h) (λ z h. or_left (is assign z) (after_expr z) h)

  abbrev after_declarator : Token → Bool
  after_declarator z = is open_square z || after_value z

  declarator : Reads All n (λ depth. h.declarator (g.cast depth) (g.expr depth)) (λ room. s.read_declarator (suc room) room) is_name (λ v. after_declarator) false
  unfolding s.read_declarator same_punctuator
  declarator =
      name_then {n = n} {m = n} (le-suc n) whole
      (λ y. both indices (λ lengths. ends optional_value (λ initial. record { name = y; lengths = lengths; initializer = initial }) (λ v. after_value) (λ a z h. h))
      (λ o z l h. sign_apart open_square (is assign) (λ at. refl) z l h) (λ v. after_declarator) (λ b z h. or_right (is open_square z) (after_value z) h)
      (λ a depth at b z c h l. or_left (is open_square z) (after_value z) l))

  declarator_ends : (q : Sign) → ((z : Token) → after_expr z ≡ true → is q z ≡ true → ⊥) → ((at : ℕ) → is open_square (token (sign_kind q) at) ≡ false)
      → ((at : ℕ) → is assign (token (sign_kind q) at) ≡ false)
      → (z : Token) → after_declarator z ≡ true → is q z ≡ true → ⊥
  declarator_ends q out a b z l h =
      or_cases (is open_square z) (after_value z) l (λ c. sign_apart q (is open_square) a z h c)
      (λ c. or_cases (is assign z) (after_expr z) c (λ f. sign_apart q (is assign) b z h f) (λ f. out z f h))

  pub declaration : Reads All n (λ depth. h.declaration (g.cast depth) (g.expr depth)) (λ room. s.read_declaration (suc room) room) is_type_word (λ v. nowhere) false
  unfolding s.read_declaration same_punctuator
  declaration =
      in_turn (specifiers whole)
      (λ words. in_turn (listed declarator (λ z l h. declarator_ends comma ends_comma (λ at. refl) (λ at. refl) z l h))
      (λ found. on semicolon (λ u. gives_value (record { specifiers = words; declarators = found })))
      (λ v z l h. or_cases (after_declarator z) (is comma z) l (λ a. declarator_ends semicolon ends_semicolon (λ at. refl) (λ at. refl) z a h)
      (λ a. sign_apart semicolon (is comma) (λ at. refl) z h a)))
      (λ v z l h. type_apart is_name (λ w at k. refl) z l h)

  -- ---- statements with no statement in them

  simple_statement : Reads All n (λ depth. h.simple_statement (g.cast depth) (g.expr depth)) (λ room. s.read_simple_statement (suc room) room) r.begins_simple (λ v. nowhere) false
  unfolding s.read_simple_statement
  simple_statement = in_turn simple (λ y. on semicolon (λ u. gives_value (st.Simple y))) (λ v z l h. ends_semicolon z l h)

  empty : Reads All n (λ depth. h.empty (g.cast depth) (g.expr depth)) (λ room. s.read_empty) (is semicolon) (λ v. nowhere) false
  unfolding s.read_empty
  empty = on semicolon (λ u. gives_value st.Empty)

  break_out : Reads All n (λ depth. h.break_out (g.cast depth) (g.expr depth)) (λ room. s.read_break) (is (Word k.Break)) (λ v. nowhere) false
  unfolding s.read_break
  break_out = on (Word k.Break) (λ at. on semicolon (λ u. gives_value (st.Break at)))

  continue_on : Reads All n (λ depth. h.continue_on (g.cast depth) (g.expr depth)) (λ room. s.read_continue) (is (Word k.Continue)) (λ v. nowhere) false
  unfolding s.read_continue
  continue_on = on (Word k.Continue) (λ at. on semicolon (λ u. gives_value (st.Continue at)))

  returned_null : Reads All n (λ depth. h.returned_null (g.cast depth) (g.expr depth)) (λ room. s.read_returned_null (suc room) room) (is (Word k.Null)) (λ v. nowhere) false
  unfolding s.read_returned_null
  returned_null = ends null returned_as.Pointer (λ v. nowhere) (λ a z h. h)

  returned_pointer : Reads All n (λ depth. h.returned_pointer (g.cast depth) (g.expr depth)) (λ room. s.read_returned_pointer (suc room) room) (is open_round) (λ v. opens) false
  unfolding s.read_returned_pointer
  returned_pointer = ends converted_pointer returned_as.Pointer (λ v. opens) (λ a z h. h)

  returned_value : Reads All n (λ depth. h.returned_value (g.cast depth) (g.expr depth)) (λ room. s.read_returned_value (suc room) room) r.begins_cast (λ v. after_expr) false
  unfolding s.read_returned_value
  returned_value = ends (expr n) returned_as.Value (λ v. after_expr) (λ a z h. h)

  -- what goes on after a value that may be left out
  abbrev after_maybe : Token → Bool
  after_maybe z = r.begins_cast z || after_expr z

  abbrev Maybe : Family Token Returned
  Maybe depth = h.returned_value (g.cast depth) (g.expr depth) <|> pure returned_as.Nothing

  maybe : Reads All n Maybe (λ room. d.reads_either r.begins_cast (s.read_returned_value (suc room) room) (d.reads_pure returned_as.Nothing)) (λ z. r.begins_cast z || false)
      (λ v. after_maybe) true
  maybe =
      either_in returned_value (gives_value returned_as.Nothing) (λ z a b. cc) (λ v. after_maybe) (λ v z h. or_right (r.begins_cast z) (after_expr z) h) (λ v z h. cc)
      (λ depth at v z c h l. or_left (r.begins_cast z) (after_expr z) l)

  abbrev ahead : List (Token → Bool)
  ahead = e.conversion_to_pointer_ahead

  value_departs : (depth at : ℕ) (w : List (Placed Token)) (v : Returned) → h.returned_value (g.cast depth) (g.expr depth) at w v → DepartsBy ahead (at + 1) w
  value_departs depth at w v c =
      departs_both (g.expr depth) (λ y. pure (returned_as.Value y)) ahead at (at + 1) w v c (x.expr_departs n n (le-suc n) (omega arith) whole (cast n) (expr n) (λ d. tt) depth at c.1 c.0 c.4)

  maybe_departs : (depth at : ℕ) (w : List (Placed Token)) (rest : List Token) (v : Returned) → Maybe depth at w v → Avoids after_maybe rest → d.sees_all ahead (plain w ++ rest) ≡ false
  maybe_departs depth at w rest v c av =
      ⊎_elim (λ a. departs_not ahead (plain w) rest (value_departs depth at w v a).0)
      (λ a. subst (λ l. d.sees_all ahead (plain l ++ rest) ≡ false) (sym a.0) (none_ahead rest av)) c where
        none_ahead : (rest : List Token) → Avoids after_maybe rest → d.sees_all ahead rest ≡ false
        none_ahead [] av = refl
        none_ahead (z ∷ rest) av = out_at (is open_round z) refl where
          out_at : (b : Bool) → is open_round z ≡ b → (b && d.sees_all (is (Word k.Void) ∷ is (Mark p.Star) ∷ []) rest) ≡ false
          out_at true e = absurd (both_ways (after_maybe z) av (or_left (r.begins_cast z) (after_expr z)
              (or_right (is_unary z) _ (or_right (is_name z) _ (or_right (is_constant z) (is open_round z) e)))))
          out_at false e = refl

  maybe_level : (depth at : ℕ) (w : List (Placed Token)) (v : Returned) → Maybe depth at w v → Level ahead (at + 1) w
  maybe_level depth at w v c = ⊎_elim (λ a. (value_departs depth at w v a).1) (λ a. subst (Level ahead (at + 1)) (sym a.0) tt) c

  pointer_or_maybe : Reads All n (λ depth. h.returned_pointer (g.cast depth) (g.expr depth) <|> Maybe depth)
      (λ room. d.reads_when (d.sees_all ahead) (s.read_returned_pointer (suc room) room) (d.reads_either r.begins_cast (s.read_returned_value (suc room) room) (d.reads_pure returned_as.Nothing)))
      (λ z. is open_round z || (r.begins_cast z || false)) (λ v. after_maybe) true
  pointer_or_maybe =
      ahead_in returned_pointer maybe ahead 1 (λ v. after_maybe) (λ v z h. or_right (r.begins_cast z) (after_expr z) (after_opens z h)) (λ v z h. h)
      (λ all depth at w v c. starts_both (g.converted_pointer (g.cast depth) (g.expr depth)) (λ y. pure (returned_as.Pointer y)) ahead at (at + 1) w v c
      (x.pointer_starts n n (le-suc n) (omega arith) whole (cast n) (expr n) depth at c.1 c.0 c.4))
      (λ all depth at w rest v c av. maybe_departs depth at w rest v c av)
      (λ all depth at w v c. maybe_level depth at w v c)
      (λ lt at y c. start_both {n = n} {m = n} converted_pointer (λ c. gives_value (returned_as.Pointer c)) lt at y (x.pointer_common n n (le-suc n) (omega arith) whole (cast n) (expr n) lt at y c))
      (λ lt at y c. start_left (λ depth. h.returned_value (g.cast depth) (g.expr depth)) (λ depth. pure returned_as.Nothing) at y
      (start_both {n = n} {m = n} (expr n) (λ c. gives_value (returned_as.Value c)) lt at y (x.expr_common n n (le-suc n) (omega arith) whole (cast n) (expr n) lt at y c)))

  abbrev begins_returned : Token → Bool
  begins_returned z = is (Word k.Null) z || (is open_round z || (r.begins_cast z || false))

  returned : Reads All n (λ depth. h.returned (g.cast depth) (g.expr depth)) (λ room. s.read_returned (suc room) room) begins_returned (λ v z. is (Word k.Null) z || after_maybe z) true
  unfolding s.read_returned same_keyword
  returned =
      either_in returned_null pointer_or_maybe (λ z a b. sign_apart (Word k.Null) (λ z. is open_round z || (r.begins_cast z || false)) (λ at. refl) z a b)
      (λ v z. is (Word k.Null) z || after_maybe z) (λ v z h. cc) (λ v z h. or_right (is (Word k.Null) z) (after_maybe z) h) (λ depth at v z c h l. or_left (is (Word k.Null) z) (after_maybe z) l)

  return_back : Reads All n (λ depth. h.return_back (g.cast depth) (g.expr depth)) (λ room. s.read_return (suc room) room) (is (Word k.Return)) (λ v. nowhere) false
  unfolding s.read_return same_punctuator
  return_back =
      on (Word k.Return) (λ at. both returned (λ y. on semicolon (λ u. gives_value (st.Return y at)))
      (λ v z l h. or_cases (is (Word k.Null) z) (after_maybe z) l (λ a. sign_apart semicolon (is (Word k.Null)) (λ at. refl) z h a)
      (λ a. or_cases (r.begins_cast z) (after_expr z) a (λ b. sign_apart semicolon r.begins_cast (λ at. refl) z h b) (λ b. ends_semicolon z b h)))
      (λ v. nowhere) (λ b z h. h) (λ a depth at b z c h l. cc))

  pub plain_statement : Reads All n (λ depth. h.plain_statement (g.cast depth) (g.expr depth)) (λ room. s.read_plain (suc room) room) r.begins_plain (λ v. nowhere) false
  unfolding s.read_plain same_keyword same_punctuator
  plain_statement =
      let last = either_in return_back simple_statement (λ z a b. sign_apart (Word k.Return) r.begins_simple (λ at. refl) z a b) (λ v. nowhere) (λ v z h. h) (λ v z h. h)
      (λ depth at v z c h l. cc) in
      let third = either_in continue_on last (λ z a b. sign_apart (Word k.Continue) (λ z. is (Word k.Return) z || r.begins_simple z) (λ at. refl) z a b) (λ v. nowhere) (λ v z h. h)
      (λ v z h. h) (λ depth at v z c h l. cc) in
      let second = either_in break_out third (λ z a b. sign_apart (Word k.Break) (λ z. is (Word k.Continue) z || (is (Word k.Return) z || r.begins_simple z)) (λ at. refl) z a b)
      (λ v. nowhere) (λ v z h. h) (λ v z h. h) (λ depth at v z c h l. cc) in
      resize
      (either_in empty second (λ z a b. sign_apart semicolon (λ z. is (Word k.Break) z || (is (Word k.Continue) z || (is (Word k.Return) z || r.begins_simple z))) (λ at. refl) z a b)
      (λ v. nowhere) (λ v z h. h) (λ v z h. h) (λ depth at v z c h l. cc))
      r.begins_plain (λ v. nowhere) false (λ z. grouped (is semicolon z) (is (Word k.Break) z) (is (Word k.Continue) z) (is (Word k.Return) z) (r.begins_simple z)) (λ v z h. h) refl
    where
      grouped : (a b c f g : Bool) → (a || (b || (c || (f || g)))) ≡ (a || ((b || (c || f)) || g))
      grouped true b c f g = refl
      grouped false true c f g = refl
      grouped false false true f g = refl
      grouped false false false true g = refl
      grouped false false false false g = refl

  -- ---- the heads of control statements

  pub condition : Reads All n (λ depth. h.condition (g.cast depth) (g.expr depth)) (λ room. s.read_condition room) (is open_round) (λ v. nowhere) false
  unfolding s.read_condition
  condition =
      within_in (λ room. d.reads_both (r.expect open_round) (λ at. d.reads_both (e.read_expr room) (λ y. d.reads_both (r.expect close_round) (λ u. d.reads_pure y))))
      (on open_round (λ at. in_turn (expr n) (λ y. on close_round (λ u. gives_value y)) (λ v z l h. ends_round z l h)))
      (one_flat (sign_at open_round) (λ at depth. g.expr depth >>= (λ y. g.sign close_round >>= (λ u. pure y))))

  declared_start : Reads All n (λ depth. h.declared_start (g.cast depth) (g.expr depth)) (λ room. s.read_declared_start (suc room) room) is_type_word (λ v. nowhere) false
  unfolding s.read_declared_start
  declared_start = ends declaration start.Declaration (λ v. nowhere) (λ a z h. h)

  simple_start : Reads All n (λ depth. h.simple_start (g.cast depth) (g.expr depth)) (λ room. s.read_simple_start (suc room) room) r.begins_simple (λ v. nowhere) false
  unfolding s.read_simple_start
  simple_start = in_turn simple (λ y. on semicolon (λ u. gives_value (start.Simple y))) (λ v z l h. ends_semicolon z l h)

  no_start : Reads All n (λ depth. h.no_start (g.cast depth) (g.expr depth)) (λ room. s.read_no_start (suc room) room) (is semicolon) (λ v. nowhere) false
  unfolding s.read_no_start
  no_start = on semicolon (λ u. gives_value start.Nothing)

  for_start : Reads All n (λ depth. h.for_start (g.cast depth) (g.expr depth)) (λ room. s.read_for_start (suc room) room) (λ z. is_type_word z || (r.begins_simple z || is semicolon z))
      (λ v. nowhere) false
  unfolding s.read_for_start same_punctuator
  for_start =
      let rest = either_in simple_start no_start (λ z a b. sign_apart semicolon r.begins_simple (λ at. refl) z b a) (λ v. nowhere) (λ v z h. h) (λ v z h. h) (λ depth at v z c h l. cc) in
      either_in declared_start rest (λ z a b. type_apart (λ z. r.begins_simple z || is semicolon z) (λ w at k. refl) z a b) (λ v. nowhere) (λ v z h. h) (λ v z h. h) (λ depth at v z c h l. cc)

  optional_expr : Reads All n (λ depth. optional (g.expr depth)) (λ room. s.read_optional_expr (suc room) room) r.begins_cast (λ v. after_maybe) true
  unfolding s.read_optional_expr
  optional_expr = may (expr n) (λ o. after_maybe) (λ v z h. or_right (r.begins_cast z) (after_expr z) h) (λ z h. or_left (r.begins_cast z) (after_expr z) h)

  abbrev after_step : Token → Bool
  after_step z = r.begins_simple z || after_expr z

  optional_simple : Reads All n (λ depth. optional (h.simple (g.cast depth) (g.expr depth))) (λ room. s.read_optional_simple (suc room) room) r.begins_simple (λ v. after_step) true
  unfolding s.read_optional_simple
  optional_simple = may simple (λ o. after_step) (λ v z h. or_right (r.begins_simple z) (after_expr z) h) (λ z h. or_left (r.begins_simple z) (after_expr z) h)

  abbrev Head : Type 0
  Head = ForStart × Option Expression × Option SimpleStatement

  abbrev StepPart : ForStart → Option Expression → Family Token Head
  StepPart first c depth = optional (h.simple (g.cast depth) (g.expr depth)) >>= (λ step. g.sign close_round >>= (λ u. pure (first, c, step)))

  step_part : (first : ForStart) (c : Option Expression) → Reads All n (StepPart first c) (λ room. s.read_for_step (suc room) first c) (λ z. r.begins_simple z || (true && is close_round z))
      (λ v. nowhere) false
  unfolding s.read_for_step same_punctuator
  step_part first c =
      both optional_simple (λ step. on close_round (λ u. gives_value (first, c, step)))
      (λ v z l h. or_cases (r.begins_simple z) (after_expr z) l (λ a. sign_apart close_round r.begins_simple (λ at. refl) z h a) (λ a. ends_round z a h))
      (λ v. nowhere) (λ b z h. h) (λ a depth at b z k h l. cc)

  condition_part : (first : ForStart) → Reads All n (λ depth. optional (g.expr depth) >>= (λ c. g.sign semicolon >>= (λ u. StepPart first c depth))) (λ room. s.read_for_condition (suc room) first)
      (λ z. r.begins_cast z || (true && is semicolon z)) (λ v. nowhere) false
  unfolding s.read_for_condition same_punctuator
  condition_part first =
      both optional_expr (λ c. on semicolon (λ u. step_part first c))
      (λ v z l h. or_cases (r.begins_cast z) (after_expr z) l (λ a. sign_apart semicolon r.begins_cast (λ at. refl) z h a) (λ a. ends_semicolon z a h))
      (λ v. nowhere) (λ b z h. h) (λ a depth at b z k h l. cc)

  pub for_head : Reads All n (λ depth. h.for_head (g.cast depth) (g.expr depth)) (λ room. s.read_for_head room) (is open_round) (λ v. nowhere) false
  unfolding s.read_for_head
  for_head =
      within_in (λ room. d.reads_both (r.expect open_round) (λ at. d.reads_both (s.read_for_start room (s.below room)) (λ first. s.read_for_condition room first)))
      (on open_round (λ at. in_turn for_start (λ first. condition_part first) (λ v z l h. cc)))
      (one_flat (sign_at open_round) (λ at depth. h.for_start (g.cast depth) (g.expr depth) >>= (λ first. optional (g.expr depth) >>= (λ c. g.sign semicolon >>= (λ u. StepPart first c depth)))))

  -- ---- labels

  case_label : Reads All n (λ depth. h.case_label (g.cast depth) (g.expr depth)) (λ room. s.read_case (suc room)) (is (Word k.Case)) (λ v. nowhere) false
  unfolding s.read_case
  case_label = on (Word k.Case) (λ at. in_turn (expr n) (λ y. on colon (λ u. gives_value (record { value = Some y; offset = at }))) (λ v z l h. ends_colon z l h))

  default_label : Reads All n (λ depth. h.default_label (g.cast depth) (g.expr depth)) (λ room. s.read_default (suc room)) (is (Word k.Default)) (λ v. nowhere) false
  unfolding s.read_default
  default_label = on (Word k.Default) (λ at. on colon (λ u. gives_value (record { value = None; offset = at })))

  pub label : Reads All n (λ depth. h.label (g.cast depth) (g.expr depth)) (λ room. s.read_label (suc room)) r.begins_label (λ v. nowhere) false
  unfolding s.read_label same_keyword
  label =
      either_in case_label default_label (λ z a b. sign_apart (Word k.Case) (is (Word k.Default)) (λ at. refl) z a b) (λ v. nowhere) (λ v z h. h) (λ v z h. h) (λ depth at v z c h l. cc)
