-- The readings of declarations at file scope and of a whole text read the grammar's rules.
use Rattle.std.proofs.Common.{◌≡◌, ℕ, suc, ◌+◌, ◌<◌, ◌≤◌, List, [], ◌∷◌, Some, None, Bool, true, false, refl, sym, inr, arith}
use Rattle.std.proofs.lemmas.List.{append-nil}
use Rattle.grammar.specs.Sentences.{Spelled}
use Rattle.std.specs.Prelude.{◌||◌, ◌&&◌}
use Rattle.std.proofs.lemmas.Bool.{or_left, or_right}
use Rattle.std.proofs.Math.Bool.{or-false}
use Rattle.std.proofs.Math.Nat.{le-suc}
use Rattle.c_token.specs.declared.keyword.Keyword.TheVariants as k
use Rattle.c_token.specs.declared.punctuator.Punctuator.TheVariants as p
use Rattle.c_token.specs.declared.token.Kind.TheVariants as kind
use Rattle.c_token.specs.declared.token.Token.{Token}
use Rattle.grammar.specs.Rules.{Placed, Family, pure, ◌>>=◌, ◌>>◌, ◌<|>◌, many, optional}
use Rattle.grammar.specs.Readers as d
use Rattle.c_tree.specs.declared.sign.Sign.{Sign}
use Rattle.c_tree.specs.declared.sign.Sign.TheVariants.{Word, Mark, End}
use Rattle.c_tree.specs.declared.expression.Name.{Name}
use Rattle.c_tree.specs.declared.expression.Specifiers.{Specifiers}
use Rattle.c_tree.specs.declared.declaration.Initializer.TheVariants as initializer_of
use Rattle.c_tree.specs.declared.declaration.Initial.{Initial}
use Rattle.c_tree.specs.declared.declaration.Initial.TheVariants as initial_of
use Rattle.c_tree.specs.declared.declaration.GlobalDeclarator.{GlobalDeclarator}
use Rattle.c_tree.specs.declared.declaration.ExternalDeclaration.{ExternalDeclaration}
use Rattle.c_tree.specs.declared.declaration.ExternalDeclaration.TheVariants as ext
use Rattle.c_tree.specs.declared.declaration.TranslationUnit.{TranslationUnit}
use Rattle.c_tree.specs.Tokens.{same_keyword, same_punctuator, is, sign_at, name_at, is_name, is_type_word}
use Rattle.c_tree.specs.Expressions as g
use Rattle.c_tree.specs.Statements as h
use Rattle.c_tree.specs.Declarations as c
use Rattle.c_reading.specs.Tokens as r
use Rattle.c_reading.specs.Declarations as q
use Rattle.grammar.proofs.Lists.{or_cases}
use Rattle.grammar.proofs.Good.{Reads, ◌∘>◌}
use Rattle.grammar.proofs.Parts.{nowhere, reads_nothing, reads_by, resize, under, some_then, in_turn, both, ends}
use Rattle.grammar.proofs.Choice.{StartsBy, DepartsBy, one_starts, begins_starts, begins_departs, optional_departs, either_in, may}
use Rattle.grammar.proofs.Loops.{loop, loop_two, as_list}
use Rattle.grammar.proofs.Nested.{within_in, at_any_depth, one_flat}
use Rattle.c_reading.proofs.TokenProofs.{token, sign_kind, sign_apart, sign_exactly, some_exactly, type_apart, name_then, sign_alone, sign_then}
use Rattle.c_reading.proofs.ExprShapes.{open_round, close_round, All, some_expr}
use Rattle.c_reading.proofs.ExprProofs.{open_square, comma, after_expr, expr_ends, listed, specifiers, expr}
use Rattle.c_reading.proofs.LevelProofs.{opens}
use Rattle.c_reading.proofs.PlainProofs.{on, gives_value, semicolon, assign, ends_semicolon, ends_comma, indices}
use Rattle.c_reading.proofs.StatementProofs.{open_curly, close_curly, any_block}

abbrev star_mark : Sign
star_mark = Mark p.Star

ends_curly : (z : Token) → after_expr z ≡ true → is close_curly z ≡ true → ⊥
unfolding opens same_punctuator
ends_curly z l f = expr_ends close_curly refl (λ at. refl) (λ at. refl) z l f

-- ---- values in braces, by those of fewer tokens

abbrev two : List (Token → Bool)
two = q.next_initial_ahead

-- behind the values, with the place of the first brace
abbrev Ending : ℕ → List Initial → Family Token (List Initial × ℕ)
Ending at vs depth = optional (g.sign comma) >>= (λ u. g.sign close_curly >>= (λ w. pure (vs, at)))

abbrev begins_ending : Token → Bool
begins_ending z = is comma z || (true && is close_curly z)

ends_ending : (z : Token) → after_expr z ≡ true → begins_ending z ≡ true → ⊥
ends_ending z l f = or_cases (is comma z) (is close_curly z) f (λ a. ends_comma z l a) (λ a. ends_curly z l a)

module _ {D : ℕ → Type 0} (n m : ℕ) (le : n ≤ suc m) (more : m ≤ n) (whole : 0 < n → (depth : ℕ) → D depth)
    (good : Reads D m c.initial (λ room. q.read_initial (suc room)) r.begins_initial (λ v. after_expr) false) where
  then_on : {B : Type 0} {Q : ℕ → Family Token B} {p : ℕ → ℕ → d.Reader Token B} {first' : ℕ → Token → Bool} {last' : B → Token → Bool} {null' : Bool}
      (z : Sign) → ((a : ℕ) → Reads D m (Q a) (p a) (first' a) last' null') → Reads D m ((λ depth. g.sign z) ∘> Q) (λ room. d.reads_both (r.expect z) (λ a. p a room)) (is z) last' false
  then_on z after = sign_then {n = m} {m = m} (omega arith) good.whole z after

  next_initial : Reads D m (λ depth. g.sign comma >> c.initial depth) (λ room. r.read_next (q.read_initial (suc room))) (is comma) (λ v. after_expr) false
  unfolding r.read_next
  next_initial = then_on comma (λ u. good)

  closing : (at : ℕ) (vs : List Initial) → Reads {T = Token} {A = List Initial × ℕ} D m (λ depth. g.sign close_curly >>= (λ w. pure (vs, at)))
      (λ room. d.reads_both (r.expect close_curly) (λ w. d.reads_pure (vs, at))) (is close_curly) (λ v. nowhere) false
  closing at vs = then_on close_curly (λ w. reads_nothing good.whole (vs, at))

  optional_comma : Reads D m (λ depth. optional (g.sign comma)) (λ room. q.read_optional_comma) (is comma) (λ v. is comma) true
  unfolding q.read_optional_comma
  optional_comma = may (sign_alone good.whole comma) (λ o. is comma) (λ v z f. cc) (λ z f. f)

  ending : (at : ℕ) (vs : List Initial) → Reads D m (Ending at vs) (λ room. d.reads_both q.read_optional_comma
      (λ u. d.reads_both (r.expect close_curly) (λ w. d.reads_pure (vs, at)))) begins_ending (λ v. nowhere) false
  unfolding same_punctuator
  ending at vs = both optional_comma (λ u. closing at vs) (λ o z a b. sign_apart comma (is close_curly) (λ at. refl) z a b) (λ v. nowhere) (λ b z f. f) (λ a depth at b z j f l. cc)

  item_starts : (depth at : ℕ) → D depth → (w : List (Placed Token)) (v : Initial) → (g.sign comma >> c.initial depth) at w v → StartsBy two (at + 0) w
  item_starts depth at dd w v f =
      let here : at ≡ at + 0 = omega arith in
      one_starts (sign_at comma) (λ u. c.initial depth) (is comma) (r.begins_initial ∷ []) at (at + 0) w v (sign_exactly comma) here f
      (begins_starts good r.begins_initial (λ z b. b) depth at (at + 0) dd f.2 v f.5)

  ending_departs : (place : ℕ) (vs : List Initial) (depth at : ℕ) → D depth → (w : List (Placed Token)) (v : List Initial × ℕ) → Ending place vs depth at w v → DepartsBy two (at + 0) w
  unfolding same_punctuator
  ending_departs place vs depth at dd w v f =
      let here : at ≡ at + 0 = omega arith in
      optional_departs (sign_at comma) (λ u. g.sign close_curly >>= (λ w. pure (vs, place))) (is comma) (r.begins_initial ∷ []) at (at + 0) w v here f
      (begins_departs (closing place vs) r.begins_initial [] (λ z a b. sign_apart close_curly r.begins_initial (λ at. refl) z a b) depth at (at + 0) dd f.2 v f.5)
      (begins_departs (closing place vs) (is comma) (r.begins_initial ∷ []) (λ z a b. sign_apart close_curly (is comma) (λ at. refl) z a b) depth at (at + 0) dd f.2 v f.5)

  more_initials : (at : ℕ) (first : Initial) → Reads D m (λ depth. many (g.sign comma >> c.initial depth) >>= (λ vs. Ending at (first ∷ vs) depth))
      (λ room ts. d.and_then (q.read_initials (q.read_initial (suc room)) (suc room) first ts)
      (λ vs. d.reads_both q.read_optional_comma (λ u. d.reads_both (r.expect close_curly) (λ w. d.reads_pure (vs, at)))))
      (λ z. is comma z || begins_ending z) (λ v. nowhere) false
  unfolding q.read_initials
  more_initials at first =
      as_list (Ending at) (first ∷ [])
      (loop_two d.appended (is comma) r.begins_initial 0 next_initial (ending at) (λ v z l f. ends_comma z l f) (λ v z l f. ends_ending z l f)
      (λ all depth at w v f. item_starts depth at (all depth) w v f) (λ all vs depth j w v f. ending_departs at vs depth j (all depth) w v f) (λ z f. f)
      (λ z f. or_left (is comma z) (true && is close_curly z) f) (first ∷ []))

  pub braces : Reads D n (λ depth. c.braces (g.expr depth) (c.initial depth)) (λ room. q.read_braces (q.read_initial room) room) (is open_curly) (λ v. nowhere) false
  unfolding q.read_braces
  braces =
      within_in (λ room. d.reads_both (r.expect open_curly) (λ at. d.reads_both (q.read_initial room) (λ first. d.reads_both (q.read_initials (q.read_initial room) room first)
      (λ vs. d.reads_both q.read_optional_comma (λ u. d.reads_both (r.expect close_curly) (λ w. d.reads_pure (vs, at)))))))
      (sign_then le whole open_curly
      (λ at. in_turn good (more_initials at) (λ v z l f. or_cases (is comma z) (begins_ending z) f (λ a. ends_comma z l a) (λ a. ends_ending z l a))))
      (one_flat (sign_at open_curly) (λ at depth. c.initial depth >>= (λ first. many (g.sign comma >> c.initial depth) >>= (λ more. Ending at (first ∷ more) depth))))

  braced : Reads D n (λ depth. c.braced (g.expr depth) (c.initial depth)) (λ room. q.read_braced (q.read_initial room) room) (is open_curly) (λ v. after_expr) false
  unfolding q.read_braced
  braced = ends braces (λ found. initial_of.List found.0 found.1) (λ v. after_expr) (λ a z f. cc)

  single : Reads D n (λ depth. c.single (g.expr depth) (c.initial depth)) (λ room. q.read_single (suc room)) r.begins_cast (λ v. after_expr) false
  unfolding q.read_single
  single = ends (under (expr n) whole (λ depth. tt)) initial_of.Value (λ v. after_expr) (λ a z f. f)

  any_initial : Reads D n (λ depth. c.any_initial (g.expr depth) (c.initial depth)) (λ room. q.read_any_initial (q.read_initial room) (suc room) room) r.begins_initial (λ v. after_expr) false
  unfolding q.read_any_initial same_punctuator
  any_initial = either_in braced single (λ z a b. sign_apart open_curly r.begins_cast (λ at. refl) z a b) (λ v. after_expr) (λ v z f. f) (λ v z f. f) (λ depth at v z a b f. cc)

-- ---- at any depth

some_initial : (at : ℕ) → (w : List (Placed Token)) × (v : Initial) × Spelled c.initial at w v
some_initial at =
    let k = some_expr at in
    (k.0, initial_of.Value k.1, (suc k.2.0, inr (k.1, k.0, [], sym (append-nil k.0), k.2.1, (refl, refl))))

initial_step : (D : ℕ → Type 0) (n m : ℕ) → n ≤ suc m → m ≤ n → (0 < n → (depth : ℕ) → D depth) → Reads D m c.initial (λ room. q.read_initial (suc room)) r.begins_initial (λ v. after_expr) false
    → Reads D n (λ depth. c.initial (suc depth)) (λ room. q.read_initial (suc room)) r.begins_initial (λ v. after_expr) false
unfolding q.read_initial
initial_step D n m le more whole good = any_initial n m le more whole good

initial : (n : ℕ) → Reads All n c.initial (λ room. q.read_initial (suc room)) r.begins_initial (λ v. after_expr) false
initial n = at_any_depth c.initial (λ fuel room. q.read_initial (suc room)) (λ at w v f. f) (λ z at. cc) some_initial initial_step n

module _ (n : ℕ) where
  whole : 0 < n → (depth : ℕ) → All depth
  whole lt depth = tt

  -- ---- parameters

  star : Reads All n (λ depth. c.star) (λ room. q.read_star) (is star_mark) (λ v. is star_mark) true
  unfolding q.read_star
  star =
      resize (either_in (on n star_mark (λ u. gives_value n true)) (gives_value n false) (λ z a b. cc) (λ v. is star_mark) (λ v z f. cc) (λ v z f. cc) (λ depth at v z a b f. f))
      (is star_mark) (λ v. is star_mark) true (λ z. or-false (is star_mark z)) (λ v z f. f) refl

  a_name : Reads All n (λ depth. g.name) (λ room. r.read_name) is_name (λ v. nowhere) false
  unfolding r.read_name
  a_name = resize (reads_by name_at whole (token (kind.Name []) 0) (record { bytes = []; offset = 0 }) refl) is_name (λ v. nowhere) false (λ z. some_exactly (name_at z)) (λ v z f. f) refl

  optional_name : Reads All n (λ depth. optional g.name) (λ room. q.read_optional_name) is_name (λ v. is_name) true
  unfolding q.read_optional_name
  optional_name = may a_name (λ o. is_name) (λ v z f. cc) (λ z f. f)

  abbrev after_parameter : Token → Bool
  after_parameter z = is_type_word z || (is star_mark z || is_name z)

  star_name : (z : Token) → is star_mark z ≡ true → is_name z ≡ true → ⊥
  star_name z a b = sign_apart star_mark is_name (λ at. refl) z a b

  type_star_name : (z : Token) → is_type_word z ≡ true → (is star_mark z || (true && is_name z)) ≡ true → ⊥
  type_star_name z a b = type_apart (λ z. is star_mark z || (true && is_name z)) (λ w at f. refl) z a b

  parameter : Reads All n (λ depth. c.parameter) (λ room. q.read_parameter) is_type_word (λ v. after_parameter) false
  unfolding q.read_parameter
  parameter =
      let rest = λ (words : Specifiers).
      both star (λ is_pointer. ends optional_name (λ y. record { specifiers = words; is_pointer = is_pointer; name = y }) (λ v. is_name) (λ a z f. f))
      (λ b z l f. star_name z l f) (λ v z. is star_mark z || is_name z) (λ b z f. or_right (is star_mark z) (is_name z) f) (λ a depth at b z j f l. or_left (is star_mark z) (is_name z) l) in
      some_then {n = n} {m = n} (le-suc n) (specifiers whole) rest (λ v z l f. type_star_name z l f) (λ v. after_parameter)
      (λ b z f. or_right (is_type_word z) (is star_mark z || is_name z) f) (λ a depth at b z j f l. or_left (is_type_word z) (is star_mark z || is_name z) l)

  parameter_ends : (y : Sign) → ((at : ℕ) → after_parameter (token (sign_kind y) at) ≡ false) → (z : Token) → after_parameter z ≡ true → is y z ≡ true → ⊥
  parameter_ends y out z l f = sign_apart y after_parameter out z f l

  any_parameters : Reads All n (λ depth. g.listed c.parameter <|> pure []) (λ room. r.read_any is_type_word q.read_parameter) (λ z. is_type_word z || false)
      (λ vs z. (after_parameter z || is comma z) || is_type_word z) true
  unfolding r.read_any same_punctuator
  any_parameters =
      either_in (listed parameter (λ z l f. parameter_ends comma (λ at. refl) z l f)) (gives_value n []) (λ z a b. cc) (λ vs z. (after_parameter z || is comma z) || is_type_word z)
      (λ v z f. or_left (after_parameter z || is comma z) (is_type_word z) f) (λ v z f. cc) (λ depth at v z a b f. or_right (after_parameter z || is comma z) (is_type_word z) f)

  parameters : Reads All n (λ depth. c.parameters) (λ room. q.read_parameters room) (is open_round) (λ v. nowhere) false
  unfolding q.read_parameters same_punctuator
  parameters =
      within_in (λ room. d.reads_both (r.expect open_round) (λ at. d.reads_both (r.read_any is_type_word q.read_parameter)
      (λ found. d.reads_both (r.expect close_round) (λ u. d.reads_pure found))))
      (on n open_round (λ at. both any_parameters (λ found. on n close_round (λ u. gives_value n found))
      (λ vs z l f. sign_apart close_round (λ z. (after_parameter z || is comma z) || is_type_word z) (λ at. refl) z f l) (λ v. nowhere) (λ b z f. f) (λ a depth at b z j f l. cc)))
      (one_flat (sign_at open_round) (λ at depth. (g.listed c.parameter <|> pure []) >>= (λ found. g.sign close_round >>= (λ u. pure found))))

  -- ---- values in braces

  any_braces : Reads All n (λ depth. c.braces (g.expr depth) (c.initial depth)) (λ room. q.read_braces (q.read_initial room) room) (is open_curly) (λ v. nowhere) false
  any_braces = braces n n (le-suc n) (omega arith) whole (initial n)

  values : Reads All n (λ depth. c.values (g.cast depth) (g.expr depth) (c.initial depth) (h.statement depth)) (λ room. q.read_list room) (is open_curly) (λ v. nowhere) false
  unfolding q.read_list
  values = ends any_braces (λ found. initializer_of.List found.0 found.1) (λ v. nowhere) (λ a z f. f)

  -- ---- what an object begins with

  mutex : Reads All n (λ depth. c.mutex (g.cast depth) (g.expr depth) (c.initial depth) (h.statement depth)) (λ room. q.read_mutex) (is (Word k.MutexInitializer)) (λ v. nowhere) false
  unfolding q.read_mutex
  mutex = on n (Word k.MutexInitializer) (λ u. gives_value n initializer_of.Mutex)

  value : Reads All n (λ depth. c.value (g.cast depth) (g.expr depth) (c.initial depth) (h.statement depth)) (λ room. q.read_value (suc room) room) r.begins_cast (λ v. after_expr) false
  unfolding q.read_value
  value = ends (expr n) initializer_of.Value (λ v. after_expr) (λ a z f. f)

  initializer : Reads All n (λ depth. c.initializer (g.cast depth) (g.expr depth) (c.initial depth) (h.statement depth)) (λ room. q.read_initializer (suc room) room) (is assign) (λ v. after_expr) false
  unfolding q.read_initializer q.read_any_value same_keyword same_punctuator
  initializer =
      let rest = either_in mutex value (λ z a b. sign_apart (Word k.MutexInitializer) r.begins_cast (λ at. refl) z a b) (λ v. after_expr) (λ v z f. cc) (λ v z f. f) (λ depth at v z a b f. cc) in
      on n assign (λ u. either_in values rest (λ z a b. sign_apart open_curly (λ z. is (Word k.MutexInitializer) z || r.begins_cast z) (λ at. refl) z a b)
      (λ v. after_expr) (λ v z f. cc) (λ v z f. f) (λ depth at v z a b f. cc))

  abbrev after_value : Token → Bool
  after_value z = is assign z || after_expr z

  optional_initializer : Reads All n (λ depth. optional (c.initializer (g.cast depth) (g.expr depth) (c.initial depth) (h.statement depth))) (λ room. q.read_optional_initializer (suc room) room) (is assign)
      (λ v. after_value) true
  unfolding q.read_optional_initializer
  optional_initializer = may initializer (λ o. after_value) (λ v z f. or_right (is assign z) (after_expr z) f) (λ z f. or_left (is assign z) (after_expr z) f)

  -- ---- variables

  abbrev after_global : Token → Bool
  after_global z = is open_square z || after_value z

  abbrev begins_global : Token → Bool
  begins_global z = is open_square z || (true && is assign z)

  global : (y : Name) → Reads All n (λ depth. c.global (g.cast depth) (g.expr depth) (c.initial depth) (h.statement depth) y) (λ room. q.read_global (suc room) room y) begins_global (λ v. after_global) true
  unfolding q.read_global same_punctuator
  global y =
      both (indices n) (λ lengths. ends optional_initializer (λ i. record { name = y; lengths = lengths; initializer = i }) (λ v. after_value) (λ a z f. f))
      (λ o z l f. sign_apart open_square (is assign) (λ at. refl) z l f) (λ v. after_global) (λ b z f. or_right (is open_square z) (after_value z) f)
      (λ a depth at b z j f l. or_left (is open_square z) (after_value z) l)

  next_global : Reads All n (λ depth. c.next_global (g.cast depth) (g.expr depth) (c.initial depth) (h.statement depth)) (λ room. q.read_next_global (suc room) room) (is comma) (λ v. after_global) false
  unfolding q.read_next_global
  next_global = on n comma (λ u. name_then {n = n} {m = n} (le-suc n) whole global)

  global_ends : (y : Sign) → ((z : Token) → after_expr z ≡ true → is y z ≡ true → ⊥) → ((at : ℕ) → is open_square (token (sign_kind y) at) ≡ false)
      → ((at : ℕ) → is assign (token (sign_kind y) at) ≡ false)
      → (z : Token) → after_global z ≡ true → is y z ≡ true → ⊥
  global_ends y out a b z l f =
      or_cases (is open_square z) (after_value z) l (λ j. sign_apart y (is open_square) a z f j)
      (λ j. or_cases (is assign z) (after_expr z) j (λ i. sign_apart y (is assign) b z f i) (λ i. out z i f))

  global_comma : (z : Token) → after_global z ≡ true → is comma z ≡ true → ⊥
  unfolding same_punctuator
  global_comma z l f = global_ends comma ends_comma (λ at. refl) (λ at. refl) z l f

  global_semicolon : (z : Token) → after_global z ≡ true → is semicolon z ≡ true → ⊥
  unfolding same_punctuator
  global_semicolon z l f = global_ends semicolon ends_semicolon (λ at. refl) (λ at. refl) z l f

  abbrev objects_of : Specifiers → Bool → List GlobalDeclarator → ExternalDeclaration
  objects_of words is_pointer all = ext.Objects (record { specifiers = words; is_pointer = is_pointer; declarators = all })

  more_globals : (words : Specifiers) (is_pointer : Bool) (first : GlobalDeclarator)
      → Reads All n (λ depth. many (c.next_global (g.cast depth) (g.expr depth) (c.initial depth) (h.statement depth)) >>= (λ more. g.sign semicolon >>= (λ u. pure (objects_of words is_pointer (first ∷ more)))))
      (λ room ts. d.and_then (q.read_globals (suc room) room first ts) (λ all. d.reads_both (r.expect semicolon) (λ u. d.reads_pure (objects_of words is_pointer all))))
      (λ z. is comma z || is semicolon z) (λ v. nowhere) false
  unfolding q.read_globals same_punctuator
  more_globals words is_pointer first =
      as_list (λ all depth. g.sign semicolon >>= (λ u. pure (objects_of words is_pointer all))) (first ∷ [])
      (loop d.appended next_global (λ all. on n semicolon (λ u. gives_value n (objects_of words is_pointer all))) (λ v z l f. global_comma z l f) (λ v z l f. global_semicolon z l f)
      (λ z a b. sign_apart comma (is semicolon) (λ at. refl) z a b) (λ v. nowhere) (λ b z f. f) (λ v b z j f. cc) (λ b z j f. cc) (first ∷ []))

  abbrev begins_objects : Token → Bool
  begins_objects z = begins_global z || (true && (is comma z || is semicolon z))

  objects : (words : Specifiers) (is_pointer : Bool) (y : Name) → Reads All n (λ depth. c.objects (g.cast depth) (g.expr depth) (c.initial depth) (h.statement depth) words is_pointer y)
      (λ room. q.read_objects (suc room) room words is_pointer y) begins_objects (λ v. nowhere) false
  unfolding q.read_objects
  objects words is_pointer y =
      both (global y) (λ first. more_globals words is_pointer first) (λ v z l f. or_cases (is comma z) (is semicolon z) f (λ a. global_comma z l a) (λ a. global_semicolon z l a))
      (λ v. nowhere) (λ b z f. f) (λ a depth at b z j f l. cc)

  -- ---- functions

  defined : Reads All n (λ depth. c.defined (g.cast depth) (g.expr depth) (c.initial depth) (h.statement depth)) (λ room. q.read_defined (suc room) room) (is open_curly) (λ v. nowhere) false
  unfolding q.read_defined
  defined = ends (any_block n) (λ b. Some b) (λ v. nowhere) (λ a z f. f)

  prototype : Reads All n (λ depth. c.prototype (g.cast depth) (g.expr depth) (c.initial depth) (h.statement depth)) (λ room. q.read_prototype (suc room) room) (is semicolon) (λ v. nowhere) false
  unfolding q.read_prototype
  prototype = on n semicolon (λ u. gives_value n None)

  body : Reads All n (λ depth. c.defined (g.cast depth) (g.expr depth) (c.initial depth) (h.statement depth) <|> c.prototype (g.cast depth) (g.expr depth) (c.initial depth) (h.statement depth)) (λ room. q.read_body (suc room) room)
      (λ z. is open_curly z || is semicolon z) (λ v. nowhere) false
  unfolding q.read_body same_punctuator
  body = either_in defined prototype (λ z a b. sign_apart open_curly (is semicolon) (λ at. refl) z a b) (λ v. nowhere) (λ v z f. f) (λ v z f. f) (λ depth at v z a b f. cc)

  function : (words : Specifiers) (is_pointer : Bool) (y : Name) → Reads All n (λ depth. c.function (g.cast depth) (g.expr depth) (c.initial depth) (h.statement depth) words is_pointer y)
      (λ room. q.read_function (suc room) room words is_pointer y) (is open_round) (λ v. nowhere) false
  unfolding q.read_function
  function words is_pointer y =
      in_turn parameters (λ found. ends body (λ b. ext.Function (record { specifiers = words; is_pointer = is_pointer; name = y; parameters = found; body = b })) (λ v. nowhere)
      (λ a z f. f)) (λ v z l f. cc)

  -- ---- the text as a whole

  either_of : (words : Specifiers) (is_pointer : Bool) (y : Name)
      → Reads All n (λ depth. c.function (g.cast depth) (g.expr depth) (c.initial depth) (h.statement depth) words is_pointer y <|> c.objects (g.cast depth) (g.expr depth) (c.initial depth) (h.statement depth) words is_pointer y)
      (λ room. d.reads_either (is open_round) (q.read_function (suc room) room words is_pointer y) (q.read_objects (suc room) room words is_pointer y))
      (λ z. is open_round z || begins_objects z) (λ v. nowhere) false
  unfolding same_punctuator
  either_of words is_pointer y =
      either_in (function words is_pointer y) (objects words is_pointer y) (λ z a b. sign_apart open_round begins_objects (λ at. refl) z a b) (λ v. nowhere) (λ v z f. f) (λ v z f. f)
      (λ depth at v z a b f. cc)

  external : Reads All n (λ depth. c.external (g.cast depth) (g.expr depth) (c.initial depth) (h.statement depth)) (λ room. q.read_external (suc room) room) is_type_word (λ v. nowhere) false
  unfolding q.read_external
  external =
      in_turn (specifiers whole)
      (λ words. both star (λ is_pointer. name_then {n = n} {m = n} (le-suc n) whole (λ y. either_of words is_pointer y)) (λ b z l f. star_name z l f) (λ v. nowhere) (λ b z f. f)
      (λ a depth at b z j f l. cc))
      (λ v z l f. type_star_name z l f)

  abbrev unit_from : List ExternalDeclaration → TranslationUnit
  unit_from all = record { declarations = all }

  more_externals : (first : ExternalDeclaration) → Reads All n (λ depth. many (c.external (g.cast depth) (g.expr depth)
      (c.initial depth) (h.statement depth)) >>= (λ more. g.sign End >>= (λ u. pure (unit_from (first ∷ more)))))
      (λ room ts. d.and_then (q.read_externals (suc room) room first ts) (λ all. d.reads_both (r.expect End) (λ u. d.reads_pure (unit_from all)))) (λ z. is_type_word z || is End z)
      (λ v. nowhere) false
  unfolding q.read_externals
  more_externals first =
      as_list (λ all depth. g.sign End >>= (λ u. pure (unit_from all))) (first ∷ [])
      (loop d.appended external (λ all. on n End (λ u. gives_value n (unit_from all))) (λ v z l f. cc) (λ v z l f. cc) (λ z a b. sign_apart End is_type_word (λ at. refl) z b a)
      (λ v. nowhere) (λ b z f. f) (λ v b z j f. cc) (λ b z j f. cc) (first ∷ []))

  pub unit : Reads All n c.unit (λ room. q.read_unit (suc room) room) is_type_word (λ v. nowhere) false
  unfolding q.read_unit
  unit = in_turn external more_externals (λ v z l f. cc)
