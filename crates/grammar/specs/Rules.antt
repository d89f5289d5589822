-- Grammar rules: which tokens, each with its nesting, spell which value.
--
-- How a production is written. Four texts stand side by side; the names are of a parser's crates.
--
-- 1. The rule reads as in extended Backus-Naur form (ISO/IEC 14977). `a ← P` is the value of the part P, `P <|> Q` an
--    alternative, `many P` is { P }, `optional P` is [ P ]. `nested P` puts each token of P one level deeper: a bracket
--    with what it encloses, its own two tokens among them; the body of a control statement; the operand of a unary
--    operator or a cast; the third operand of ?:.
--
--        parenthesized expr = nested (do
--          sign OpenRound
--          x ← expr
--          sign CloseRound
--          pure x)
--
--    A rule that refers to itself is a family by a number that bounds how often it is entered within itself:
--
--        cast zero = none
--        cast (suc depth) = operand (cast depth)
--
-- 2. The reading (specs/Readers.antt) is a function of the tokens and of the room, the levels of nesting that are left:
--
--        read_parenthesized expr room = reads_within (is OpenRound) room (do
--          expect OpenRound
--          x ← expr
--          expect CloseRound
--          reads_pure x)
--
-- 3. The proof is a value of Reads (proofs/Good.antt): the reading, which sets of tokens the rule's sentences begin with
--    and go on with after their end, and whether they may be empty. It is put together as the rule is: `one_then`,
--    `in_turn`, `some_then`, `both`, `ends` (proofs/Parts.antt), `either_in`, `ahead_two`, `ahead_in`, `may`, `shared`,
--    `regrouped`, `swapped` (proofs/Choice.antt), `loop`, `loop_two`, `folded`, `collected`, `as_list` (proofs/Loops.antt),
--    `within_in`, `deeper_in`, `at_any_depth`, `two_at_any_depth` (proofs/Nested.antt).
--
--        group = sign_then le whole OpenRound (λ u. in_turn expr (λ x. sign_then .. CloseRound (λ v. reads_nothing whole x)) apart)
--        parenthesized = within_in read_group group (one_flat (sign_at OpenRound) ..)
--
--    proofs/Whole.antt and proofs/Exact.antt turn it into the words of specs/Sentences.antt.
--
-- 4. The function cites the reading, and straight code with `?` needs no proof file:
--
--        #[tactic(auto, unfolding(c_tree::specs::Reading::read_parenthesized))]
--        fn parenthesized(&mut self, alloc: Global, room: usize) -> Result<Expr, Fault>
--            ensures { Steps (read_parenthesized (read_expr room) room self.old.rest.now) result self.new.rest.now }
--        {
--            if room == 0 {
--                return Err(too_deep(self.sees(Sign::OpenRound), false));
--            }
--            self.expect(Sign::OpenRound)?;
--            let x = self.expr(alloc, room)?;
--            self.expect(Sign::CloseRound)?;
--            Ok(x)
--        }
--
--    A loop is `for _turn in 0..self.left()` with the invariant `reading of all ≡ reads_while .. (end - turn) found rest`;
--    each of its exits has one answer, by `one_more` or `no_more` (proofs/Turns.antt). Functions that call each other
--    carry `#[cycle(name)]` and a measure in the room.
use Rattle.std.specs.Prelude.{◌≡◌, ℕ, ◌+◌, List, [], ◌∷◌, ◌++◌, ◌⊎◌, Option, Some, None}

-- a token and its nesting
abbrev pub Placed : Type 0 → Type 0
Placed T = T × ℕ

-- at a nesting, the tokens that spell a value
abbrev pub Rule : Type 0 → Type 0 → Type 1
Rule T A = ℕ → List (Placed T) → A → Type 0

-- a rule that refers to itself, by how often it may be entered within itself
abbrev pub Family : Type 0 → Type 0 → Type 1
Family T A = ℕ → Rule T A

module _ {T : Type 0} where
  -- no token
  abbrev pub pure : {A : Type 0} → A → Rule T A
  pure a at ts v = (ts ≡ []) × (v ≡ a)

  -- one token, by what it gives; it stands at the nesting of its rule
  abbrev pub one : {A : Type 0} → (T → Option A) → Rule T A
  one f at ts v = (t : T) × (ts ≡ (t, at) ∷ []) × (f t ≡ Some v)

  -- one rule after the other
  infixl 10 ◌>>=◌
  abbrev pub ◌>>=◌ : {A B : Type 0} → Rule T A → (A → Rule T B) → Rule T B
  ◌>>=◌ {A = A} P Q at ts v =
      (a : A) × (front : List (Placed T)) × (back : List (Placed T)) × (ts ≡ front ++ back) × P at front a × Q a at back v

  infixl 10 ◌>>◌
  abbrev pub ◌>>◌ : {A B : Type 0} → Rule T A → Rule T B → Rule T B
  P >> Q = P >>= (λ _. Q)

  -- one rule or the other
  infixl 9 ◌<|>◌
  abbrev pub ◌<|>◌ : {A : Type 0} → Rule T A → Rule T A → Rule T A
  (P <|> Q) at ts v = P at ts v ⊎ Q at ts v

  -- no sentence
  abbrev pub none : {A : Type 0} → Rule T A
  none at ts v = ⊥

  -- one level deeper
  abbrev pub nested : {A : Type 0} → Rule T A → Rule T A
  nested P at ts v = P (at + 1) ts v

  -- any number of times
  abbrev pub many : {A : Type 0} → Rule T A → Rule T (List A)
  many P at ts [] = ts ≡ []
  many P at ts (v ∷ vs) =
      (front : List (Placed T)) × (back : List (Placed T)) × (ts ≡ front ++ back) × P at front v × many P at back vs

  -- once or not at all
  abbrev pub optional : {A : Type 0} → Rule T A → Rule T (Option A)
  optional P = (P >>= (λ v. pure (Some v))) <|> pure None
