-- The phrases of statements, items and modules have the tokens that the grammar gives them.
use Rattle.std.proofs.Common.{◌≡◌, ℕ, zero, suc, ◌+◌, List, [], ◌∷◌, ◌++◌, Option, Some, None, refl, sym, ap, ◌∙◌, subst, inl, inr, ⊎_elim, arith}
use Rattle.std.proofs.lemmas.List.{append_assoc, append-nil}
use Rattle.verilog_tree.specs.declared.token.Word.{Word}
use Rattle.verilog_tree.specs.declared.token.Word.TheVariants as w
use Rattle.verilog_tree.specs.declared.token.Mark.TheVariants as m
use Rattle.verilog_tree.specs.declared.token.Token.{Token}
use Rattle.verilog_tree.specs.declared.token.Token.TheVariants as t
use Rattle.verilog_tree.specs.declared.tree.InitialConstant.{InitialConstant}
use Rattle.verilog_tree.specs.declared.tree.WriteArgument.{WriteArgument}
use Rattle.verilog_tree.specs.declared.tree.WriteArgument.TheVariants as a
use Rattle.verilog_tree.specs.declared.tree.Statement.{Statement}
use Rattle.verilog_tree.specs.declared.tree.Statement.TheVariants as st
use Rattle.verilog_tree.specs.declared.tree.Connection.{Connection}
use Rattle.verilog_tree.specs.declared.tree.Item.{Item}
use Rattle.verilog_tree.specs.declared.tree.Item.TheVariants as i
use Rattle.verilog_tree.specs.Grammar as v
use Rattle.verilog_tree.specs.Grammar.{Tokens}
use Rattle.verilog_tree.specs.Reads.{Each, IsFullItem}
use Rattle.verilog_tree.proofs.Fold.{statement_set, statement_store, statement_if, statement_write, induct}
use Rattle.grammar.specs.Rules.{Placed, many, nested, optional}
use Rattle.grammar.specs.Sentences.{plain}
use Rattle.grammar.proofs.Lists.{plain-append}
use Rattle.grammar.proofs.Good.{deeper_by}
use Rattle.verilog_rules.specs.declared.sign.Sign.TheVariants as s
use Rattle.verilog_rules.specs.Phrases as g
use Rattle.verilog_rules.proofs.Means.{Spelling, Means, Then, After, AfterOne, Nothing, Either, same_means, pure_means, then_means, either_means}
use Rattle.verilog_rules.proofs.Means.{sign_means, sign_last, name_means, number_means, quoted_means}
use Rattle.verilog_rules.proofs.Spelled.{Is, next, glued, all_means, more_means, Listed}
use Rattle.verilog_rules.proofs.Spelled.{listed_means, name_alone, range_means, constant_means, signed_means, Right, right_means}
use Rattle.verilog_rules.proofs.Statements as reads

-- ---- optional parts

module _ {A : Type 0} {P : g.Phrase A} {R : Spelling A} (good : Means P R) where
  abbrev pub Maybe : Spelling (Option A)
  Maybe z None = z ≡ []
  Maybe z (Some x) = R z x

  -- [ P ]
  maybe_there : (z : Tokens) (o : Option A) → Either (Then R (λ x. Nothing (Some x))) (Nothing None) z o → Maybe z o
  maybe_there z o h =
      ⊎_elim (λ k. subst (Maybe z) (sym k.5.1) (subst (λ l. R l k.0) (sym (glued k.3 refl k.5.0 ∙ append-nil k.1)) k.4)) (λ k. subst (Maybe z) (sym k.1) k.0) h

  maybe_back : (z : Tokens) (o : Option A) → Maybe z o → Either (Then R (λ x. Nothing (Some x))) (Nothing None) z o
  maybe_back z None h = inr (h, refl)
  maybe_back z (Some x) h = inl (x, z, [], sym (append-nil z), h, (refl, refl))

  pub maybe_means : Means (optional P) Maybe
  maybe_means = same_means (either_means (then_means good (λ x. pure_means (Some x))) (pure_means None)) maybe_there maybe_back

pub optional_range : Means (optional g.range) (Is v.range)
optional_range = same_means (maybe_means range_means) there back where
  there : (z : Tokens) (o : Option ℕ) → Maybe range_means z o → z ≡ v.range o
  there z None h = h
  there z (Some high) h = h

  back : (z : Tokens) (o : Option ℕ) → z ≡ v.range o → Maybe range_means z o
  back z None h = h
  back z (Some high) h = h

-- ---- statements without statements in them

abbrev Said : Spelling Statement
Said z x = z ≡ v.statement x

said : (z : Tokens) (x is : Statement) (tokens : Tokens) → x ≡ is → v.statement is ≡ tokens → z ≡ tokens → z ≡ v.statement x
said z x is tokens same spelled e = e ∙ sym spelled ∙ sym (ap v.statement same)

argument_means : Means g.argument (Is v.argument)
argument_means =
    same_means (either_means (then_means name_alone (λ x. pure_means (a.Unsigned x))) (then_means signed_means (λ x. pure_means (a.Signed x)))) there back where
      there : (z : Tokens) (x : WriteArgument) → Either (Then (Is v.name) (λ y. Nothing (a.Unsigned y))) (Then (Is v.signed) (λ y. Nothing (a.Signed y))) z x → z ≡ v.argument x
      there z x h = ⊎_elim (λ k. glued k.3 k.4 k.5.0 ∙ sym (ap v.argument k.5.1)) (λ k. glued k.3 k.4 k.5.0 ∙ sym (ap v.argument k.5.1)) h

      back : (z : Tokens) (x : WriteArgument) → z ≡ v.argument x → Either (Then (Is v.name) (λ y. Nothing (a.Unsigned y))) (Then (Is v.signed) (λ y. Nothing (a.Signed y))) z x
      back z (a.Unsigned y) h = inl (y, v.name y, [], h, refl, (refl, refl))
      back z (a.Signed y) h = inr (y, v.signed y, [], h, refl, (refl, refl))

abbrev Written : Spelling Statement
Written = AfterOne t.Name (λ x. Either (After (t.Mark m.LessEqual) (AfterOne t.Name (λ y. After (t.Mark m.Semicolon) (Nothing (st.Set x y)))))
    (After (t.Mark m.OpenSquare) (AfterOne t.Name (λ k. After (t.Mark m.CloseSquare) (After (t.Mark m.LessEqual) (AfterOne t.Name (λ y. After (t.Mark m.Semicolon) (Nothing
    (st.Store x k y)))))))))

written_means : Means g.written Written
written_means =
    name_means (λ x. either_means (sign_means (s.Mark m.LessEqual) (name_means (λ y. sign_means (s.Mark m.Semicolon) (pure_means (st.Set x y)))))
    (sign_means (s.Mark m.OpenSquare) (name_means (λ k. sign_means (s.Mark m.CloseSquare) (sign_means (s.Mark m.LessEqual) (name_means (λ y. sign_means
    (s.Mark m.Semicolon) (pure_means (st.Store x k y)))))))))

abbrev Print : Spelling Statement
Print = After (t.Mark m.Write) (After (t.Mark m.OpenRound) (AfterOne t.Quoted (λ text. Then (Is (v.more v.argument)) (λ xs. After (t.Mark m.CloseRound) (After
    (t.Mark m.Semicolon) (Nothing (st.Write text xs)))))))

print_means : Means g.write Print
print_means =
    sign_means (s.Mark m.Write) (sign_means (s.Mark m.OpenRound) (quoted_means (λ text. then_means (more_means v.argument argument_means)
    (λ xs. sign_means (s.Mark m.CloseRound) (sign_means (s.Mark m.Semicolon) (pure_means (st.Write text xs)))))))

written_there : (z : Tokens) (x : Statement) → Written z x → Said z x
written_there z x h =
    ⊎_elim (λ k. said z x (st.Set h.0 k.2.0) _ k.2.3.2.1 (statement_set h.0 k.2.0) (next _ h.2 (next _ k.1 (next _ k.2.2 (next _ k.2.3.1 k.2.3.2.0)))))
    (λ k. said z x (st.Store h.0 k.2.0 k.2.3.2.2.0) _ k.2.3.2.2.3.2.1 (statement_store h.0 k.2.0 k.2.3.2.2.0)
    (next _ h.2 (next _ k.1 (next _ k.2.2 (next _ k.2.3.1 (next _ k.2.3.2.1 (next _ k.2.3.2.2.2 (next _ k.2.3.2.2.3.1 k.2.3.2.2.3.2.0)))))))) h.3

print_flat : (text : List ℕ) (xs : List WriteArgument)
    → t.Mark m.Write ∷ (t.Mark m.OpenRound ∷ (t.Quoted text ∷ (v.more v.argument xs ++ (t.Mark m.CloseRound ∷ (t.Mark m.Semicolon ∷ []))))) ≡ v.write text xs
print_flat text xs = ap (λ l. t.Mark m.Write ∷ (t.Mark m.OpenRound ∷ (t.Quoted text ∷ l))) (sym (append_assoc (v.more v.argument xs) (v.mark m.CloseRound) (v.mark m.Semicolon)))

print_there : (z : Tokens) (x : Statement) → Print z x → Said z x
print_there z x h =
    said z x (st.Write h.2.2.0 h.2.2.3.0) _ h.2.2.3.5.2.2.1 (statement_write h.2.2.0 h.2.2.3.0)
    (next _ h.1 (next _ h.2.1 (next _ h.2.2.2 (glued h.2.2.3.3 h.2.2.3.4 (next _ h.2.2.3.5.1 (next _ h.2.2.3.5.2.1 h.2.2.3.5.2.2.0))))) ∙ print_flat h.2.2.0 h.2.2.3.0)

-- ---- statements of a depth

branch_head_means : Means g.branch_head (λ z x. z ≡ t.Word w.If ∷ t.Mark m.OpenRound ∷ t.Name x ∷ t.Mark m.CloseRound ∷ t.Word w.Begin ∷ [])
branch_head_means =
    same_means (sign_means (s.Word w.If) (sign_means (s.Mark m.OpenRound) (name_means (λ x. sign_means (s.Mark m.CloseRound) (sign_means (s.Word w.Begin) (pure_means x))))))
    (λ z x h. next _ h.1 (next _ h.2.1 (next _ h.2.2.2 (next _ h.2.2.3.1 (next _ h.2.2.3.2.1 h.2.2.3.2.2.0))))
    ∙ sym (ap (λ k. t.Word w.If ∷ t.Mark m.OpenRound ∷ t.Name k ∷ t.Mark m.CloseRound ∷ t.Word w.Begin ∷ []) h.2.2.3.2.2.1))
    (λ z x h. (_, h, (_, refl, (x, _, refl, (_, refl, (_, refl, (refl, refl)))))))

-- ---- phrases of a depth

module _ {A : Type 0} (E : ℕ → g.Phrase A) (f : A → Tokens) (raise : (k depth at : ℕ) (ts : List (Placed Token)) (x : A) → E depth at ts x → E (k + depth) at ts x) where
  -- at some depth the phrase has these tokens
  abbrev pub Has : A → Type 0
  Has x = (at : ℕ) → (depth : ℕ) × (ts : List (Placed Token)) × (plain ts ≡ f x) × E depth at ts x

  raise_all : (k depth at : ℕ) (ts : List (Placed Token)) (xs : List A) → many (E depth) at ts xs → many (E (k + depth)) at ts xs
  raise_all k depth at ts [] h = h
  raise_all k depth at ts (x ∷ xs) h = (h.0, h.1, h.2, raise k depth at h.0 x h.3, raise_all k depth at h.1 xs h.4)

  pub has_all : (xs : List A) → Each Has xs → (at : ℕ) → (depth : ℕ) × (ts : List (Placed Token)) × (plain ts ≡ v.all f xs) × many (E depth) at ts xs
  has_all [] h at = (0, [], refl, refl)
  has_all (x ∷ xs) h at =
      let first = h.0 at in
      let rest = has_all xs h.1 at in
      let other : first.0 + rest.0 ≡ rest.0 + first.0 = omega arith in (
        rest.0 + first.0,
        first.1 ++ rest.1,
        glued (plain-append first.1 rest.1) first.2 rest.2,
        (first.1, rest.1, refl, raise rest.0 first.0 at first.1 x first.3, subst (λ d. many (E d) at rest.1 xs) other (raise_all first.0 rest.0 at rest.1 xs rest.3)),
      )

-- what a statement of a depth has
abbrev To : g.Phrase Statement → Type 0
To P = (at : ℕ) (ts : List (Placed Token)) (x : Statement) → P at ts x → plain ts ≡ v.statement x

nested_to : (P : g.Phrase Statement) → To P → (at : ℕ) (ts : List (Placed Token)) (xs : List Statement) → many (nested P) at ts xs → plain ts ≡ v.all v.statement xs
nested_to P to at ts [] h = ap plain h
nested_to P to at ts (x ∷ xs) h = glued (ap plain h.2 ∙ plain-append h.0 h.1) (to (at + 1) h.0 x h.3) (nested_to P to at h.1 xs h.4)

statement_to : (depth : ℕ) → To (g.statement depth)
statement_to zero at ts x h = absurd h
statement_to (suc depth) at ts x h =
    ⊎_elim
    (λ k.
    let head = branch_head_means.to at k.1 k.0 k.4 in
    let end = (sign_means (s.Word w.End) (pure_means (st.If k.0 k.5.0))).to at k.5.2 x k.5.5 in
    said (plain ts) x (st.If k.0 k.5.0) _ end.2.1 (statement_if k.0 k.5.0)
    (glued (ap plain k.3 ∙ plain-append k.1 k.2) head (glued (ap plain k.5.3 ∙ plain-append k.5.1 k.5.2) (nested_to (g.statement depth)
    (statement_to depth) at k.5.1 k.5.0 k.5.4) (next _ end.1 end.2.0))))
    (λ k. ⊎_elim (λ l. written_there (plain ts) x (written_means.to at ts x l)) (λ l. print_there (plain ts) x (print_means.to at ts x l)) k) h

pub raised : (k depth at : ℕ) (ts : List (Placed Token)) (x : Statement) → g.statement depth at ts x → g.statement (k + depth) at ts x
raised k depth at ts x h = deeper_by (reads.statement 0) (λ d. tt) k depth at ts x h

abbrev pub HasStatement : Statement → Type 0
HasStatement = Has g.statement v.statement raised

has_plain : (x : Statement) → ((at : ℕ) → (ts : List (Placed Token)) × (plain ts ≡ v.statement x) × g.plain_statement at ts x) → HasStatement x
has_plain x h at = let k = h at in (1, k.0, k.1, inr k.2)

has_set : (x y : List ℕ) → HasStatement (st.Set x y)
has_set x y = has_plain (st.Set x y) (λ at.
    let k = written_means.from at (v.statement (st.Set x y)) (st.Set x y) (x, _, statement_set x y, inl (_, refl, (y, _, refl, (_, refl, (refl, refl))))) in (k.0, k.1, inl k.2))

has_store : (x y z : List ℕ) → HasStatement (st.Store x y z)
has_store x y z = has_plain (st.Store x y z) (λ at.
    let k = written_means.from at (v.statement (st.Store x y z)) (st.Store x y z)
    (x, _, statement_store x y z, inr (_, refl, (y, _, refl, (_, refl, (_, refl, (z, _, refl, (_, refl, (refl, refl)))))))) in (k.0, k.1, inl k.2))

has_write : (x : List ℕ) (xs : List WriteArgument) → HasStatement (st.Write x xs)
has_write x xs = has_plain (st.Write x xs) (λ at.
    let k = print_means.from at (v.statement (st.Write x xs)) (st.Write x xs)
    (_, statement_write x xs ∙ sym (print_flat x xs), (_, refl, (x, _, refl, (xs, v.more v.argument xs, _, refl, refl, (_, refl, (_, refl, (refl, refl))))))) in
    (k.0, k.1, inr k.2))

each_nested : (xs : List Statement) → Each HasStatement xs → Each (Has (λ depth. nested (g.statement depth)) v.statement (λ k depth at ts x h. raised k depth (at + 1) ts x h)) xs
each_nested [] h = tt
each_nested (x ∷ xs) h = (λ at. h.0 (at + 1), each_nested xs h.1)

has_if : (x : List ℕ) (body : List Statement) → Each HasStatement body → HasStatement (st.If x body)
has_if x body h at =
    let head = branch_head_means.from at _ x refl in
    let inside = has_all (λ depth. nested (g.statement depth)) v.statement (λ k depth at ts x h. raised k depth (at + 1) ts x h) body (each_nested body h) at in
    let end = (sign_means (s.Word w.End) (pure_means (st.If x body))).from at _ (st.If x body) ([], refl, (refl, refl)) in (
      suc inside.0,
      head.0 ++ (inside.1 ++ end.0),
      glued (plain-append head.0 (inside.1 ++ end.0)) head.1 (glued (plain-append inside.1 end.0) inside.2 end.1) ∙ sym (statement_if x body),
      inl (x, head.0, inside.1 ++ end.0, refl, head.2, (body, inside.1, end.0, refl, inside.3, end.2)),
    )

pub has_statement : (x : Statement) → HasStatement x
has_statement = induct HasStatement has_set has_store has_if has_write

-- ---- items

abbrev pub Itself : Spelling Item
Itself z x = (z ≡ v.item x) × IsFullItem x

item_is : (z : Tokens) (x is : Item) → x ≡ is → z ≡ v.item is → IsFullItem is → Itself z x
item_is z x is same tokens full = subst (Itself z) (sym same) (tokens, full)

abbrev WireItem : Spelling Item
WireItem = After (t.Word w.Wire) (Then (Is v.range) (λ high. AfterOne t.Name (λ x. After (t.Mark m.Semicolon) (Nothing (i.Wire (record { high = high; name = x }))))))

pub wire_means : Means g.wire WireItem
wire_means = sign_means (s.Word w.Wire) (then_means optional_range (λ high. name_means (λ x. sign_means (s.Mark m.Semicolon) (pure_means (i.Wire
    (record { high = high; name = x }))))))

abbrev RegisterEnd : Option ℕ → List ℕ → Spelling Item
RegisterEnd high x = After (t.Mark m.Semicolon) (Nothing (i.Register (record { high = high; name = x })))

abbrev pub StoredEnd : Option ℕ → List ℕ → Spelling Item
StoredEnd None x = RegisterEnd None x
StoredEnd (Some high) x = Either (After (t.Mark m.OpenSquare) (After (t.Number 0) (After (t.Mark m.Colon) (AfterOne t.Number (λ last. After (t.Mark m.CloseSquare) (After
    (t.Mark m.Semicolon)
    (Nothing (i.Memory (record { high = high; name = x; last = last })))))))))
    (RegisterEnd (Some high) x)

register_end_means : (high : Option ℕ) (x : List ℕ) → Means (g.register_end high x) (RegisterEnd high x)
register_end_means high x = sign_means (s.Mark m.Semicolon) (pure_means (i.Register (record { high = high; name = x })))

stored_end_means : (high : Option ℕ) (x : List ℕ) → Means (g.stored_end high x) (StoredEnd high x)
stored_end_means None x = register_end_means None x
stored_end_means (Some high) x =
    either_means (sign_means (s.Mark m.OpenSquare) (sign_means s.Zero (sign_means (s.Mark m.Colon) (number_means (λ last. sign_means (s.Mark m.CloseSquare) (sign_means
    (s.Mark m.Semicolon)
    (pure_means (i.Memory (record { high = high; name = x; last = last })))))))))
    (register_end_means (Some high) x)

abbrev StoredItem : Spelling Item
StoredItem = After (t.Word w.Reg) (Then (Is v.range) (λ high. AfterOne t.Name (λ x. StoredEnd high x)))

pub stored_means : Means g.stored StoredItem
stored_means = sign_means (s.Word w.Reg) (then_means optional_range (λ high. name_means (λ x. stored_end_means high x)))

stored_end_there : (high : Option ℕ) (n : List ℕ) (z y range : Tokens) (x : Item) → z ≡ t.Word w.Reg ∷ (range ++ (t.Name n ∷ y)) → range ≡ v.range high
    → StoredEnd high n y x → Itself z x
stored_end_there None n z y range x e r h =
    item_is z x (i.Register (record { high = None; name = n })) h.2.1 (e ∙ ap (λ l. t.Word w.Reg ∷ (l ++ (t.Name n ∷ y))) r ∙ ap (λ l. t.Word w.Reg ∷ (v.range None ++
    (t.Name n ∷ l))) (next _ h.1 h.2.0)) tt
stored_end_there (Some high) n z y range x e r h =
    ⊎_elim
    (λ k. item_is z x (i.Memory (record { high = high; name = n; last = k.2.2.2.0 })) k.2.2.2.3.2.2.1
    (e ∙ ap (λ l. t.Word w.Reg ∷ (l ++ (t.Name n ∷ y))) r
    ∙ ap (λ l. t.Word w.Reg ∷ (v.range (Some high) ++ (t.Name n ∷ l))) (next _ k.1 (next _ k.2.1 (next _ k.2.2.1 (next _ k.2.2.2.2 (next _ k.2.2.2.3.1
    (next _ k.2.2.2.3.2.1 k.2.2.2.3.2.2.0))))))) tt)
    (λ k. item_is z x (i.Register (record { high = Some high; name = n })) k.2.1
    (e ∙ ap (λ l. t.Word w.Reg ∷ (l ++ (t.Name n ∷ y))) r ∙ ap (λ l. t.Word w.Reg ∷ (v.range (Some high) ++ (t.Name n ∷ l))) (next _ k.1 k.2.0)) tt) h

abbrev AssignItem : Spelling Item
AssignItem = After (t.Word w.Assign) (AfterOne t.Name (λ x. After (t.Mark m.Equal) (Then Right (λ value. After (t.Mark m.Semicolon) (Nothing (i.Assign
    (record { target = x; value = value })))))))

pub assign_means : Means g.assign AssignItem
assign_means =
    sign_means (s.Word w.Assign) (name_means (λ x. sign_means (s.Mark m.Equal) (then_means right_means (λ value. sign_means (s.Mark m.Semicolon) (pure_means (i.Assign
    (record { target = x; value = value })))))))

pub initial_constant_means : Means g.initial_constant (Is v.initial_constant)
initial_constant_means =
    same_means (name_means (λ x. then_means index_means (λ word. sign_means (s.Mark m.Equal) (then_means constant_means (λ c. sign_means (s.Mark m.Semicolon)
    (pure_means (record { name = x; word = word; value = c })))))))
    (λ z c h. next _ h.2 (glued h.3.3 h.3.4 (next _ h.3.5.1 (glued h.3.5.2.3 h.3.5.2.4 (next _ h.3.5.2.5.1 h.3.5.2.5.2.0))))
    ∙ flat (record { name = h.0; word = h.3.0; value = h.3.5.2.0 }) ∙ sym (ap v.initial_constant h.3.5.2.5.2.1))
    (λ z c h. (c.name, _, h ∙ sym (flat c), (c.word, v.index c.word, _, refl, refl, (_, refl, (c.value, v.constant c.value, _, refl, refl, (_, refl, (refl, refl)))))))
  where
    flat : (c : InitialConstant) → t.Name c.name ∷ (v.index c.word ++ (t.Mark m.Equal ∷ (v.constant c.value ++ v.mark m.Semicolon))) ≡ v.initial_constant c
    flat c =
        ap (λ l. t.Name c.name ∷ l)
        (sym (append_assoc (v.index c.word) (v.mark m.Equal) (v.constant c.value ++ v.mark m.Semicolon))
        ∙ sym (append_assoc (v.index c.word ++ v.mark m.Equal) (v.constant c.value) (v.mark m.Semicolon)))

    one_index : Means g.index (λ z k. z ≡ v.index (Some k))
    one_index =
        same_means (sign_means (s.Mark m.OpenSquare) (number_means (λ k. sign_means (s.Mark m.CloseSquare) (pure_means k))))
        (λ z k h. next _ h.1 (next _ h.2.2 (next _ h.2.3.1 h.2.3.2.0)) ∙ sym (ap (λ j. v.index (Some j)) h.2.3.2.1)) (λ z k h. (_, h, (k, _, refl, (_, refl, (refl, refl)))))

    there : (z : Tokens) (o : Option ℕ) → Maybe one_index z o → z ≡ v.index o
    there z None h = h
    there z (Some k) h = h

    back : (z : Tokens) (o : Option ℕ) → z ≡ v.index o → Maybe one_index z o
    back z None h = h
    back z (Some k) h = h

    index_means : Means (optional g.index) (Is v.index)
    index_means = same_means (maybe_means one_index) there back

abbrev InitialItem : Spelling Item
InitialItem = After (t.Word w.Initial) (After (t.Word w.Begin) (Then (Is (v.all v.initial_constant)) (λ found. After (t.Word w.End) (Nothing (i.Initial
    (record { constants = found }))))))

pub initial_means : Means g.initial InitialItem
initial_means =
    sign_means (s.Word w.Initial) (sign_means (s.Word w.Begin) (then_means (all_means v.initial_constant initial_constant_means) (λ found. sign_means (s.Word w.End)
    (pure_means (i.Initial (record { constants = found }))))))

pub connection_means : Means g.connection (Is v.connection)
connection_means =
    same_means (sign_means (s.Mark m.Dot) (name_means (λ port. sign_means (s.Mark m.OpenRound) (name_means (λ x. sign_means (s.Mark m.CloseRound) (pure_means
    (record { port = port; signal = x })))))))
    (λ z c h. next _ h.1 (next _ h.2.2 (next _ h.2.3.1 (next _ h.2.3.2.2 (next _ h.2.3.2.3.1 h.2.3.2.3.2.0)))) ∙ sym (ap v.connection h.2.3.2.3.2.1))
    (λ z c h. (_, h, (c.port, _, refl, (_, refl, (c.signal, _, refl, (_, refl, (refl, refl)))))))

abbrev InstanceItem : Spelling Item
InstanceItem = AfterOne t.Name (λ module_name. AfterOne t.Name (λ x. After (t.Mark m.OpenRound) (Then (Listed v.connection connection_means) (λ found. After
    (t.Mark m.CloseRound) (After (t.Mark m.Semicolon)
    (Nothing (i.Instance (record { module_name = module_name; name = x; connections = found }))))))))

pub instance_means : Means g.instance InstanceItem
instance_means =
    name_means (λ module_name. name_means (λ x. sign_means (s.Mark m.OpenRound) (then_means (listed_means v.connection connection_means) (λ found. sign_means
    (s.Mark m.CloseRound) (sign_means (s.Mark m.Semicolon)
    (pure_means (i.Instance (record { module_name = module_name; name = x; connections = found }))))))))

pub always_head_means : Means g.always_head (λ z u. z ≡ t.Word w.Always ∷ t.Mark m.At ∷ t.Mark m.OpenRound ∷ t.Word w.PosEdge ∷ t.Name v.clk ∷ t.Mark m.CloseRound ∷ t.Word
    w.Begin ∷ [])
always_head_means =
    same_means (sign_means (s.Word w.Always) (sign_means (s.Mark m.At) (sign_means (s.Mark m.OpenRound) (sign_means (s.Word w.PosEdge) (sign_means s.Clock (sign_means
    (s.Mark m.CloseRound) (sign_last (s.Word w.Begin))))))))
    (λ z u h. next _ h.1 (next _ h.2.1 (next _ h.2.2.1 (next _ h.2.2.2.1 (next _ h.2.2.2.2.1 (next _ h.2.2.2.2.2.1 h.2.2.2.2.2.2))))))
    (λ z u h. (_, h, (_, refl, (_, refl, (_, refl, (_, refl, (_, refl, refl)))))))

-- ---- items of a depth

listed_to : (depth at : ℕ) (ts : List (Placed Token)) (xs : List Statement) → many (g.statement depth) at ts xs → plain ts ≡ v.all v.statement xs
listed_to depth at ts [] h = ap plain h
listed_to depth at ts (x ∷ xs) h = glued (ap plain h.2 ∙ plain-append h.0 h.1) (statement_to depth at h.0 x h.3) (listed_to depth at h.1 xs h.4)

-- a wire or a register
pub ranged_flat : (x : Word) (high : Option ℕ) (n : List ℕ) → t.Word x ∷ (v.range high ++ (t.Name n ∷
    (t.Mark m.Semicolon ∷ []))) ≡ v.word x ++ v.range high ++ v.name n ++ v.mark m.Semicolon
ranged_flat x high n = ap (λ l. t.Word x ∷ l) (sym (append_assoc (v.range high) (v.name n) (v.mark m.Semicolon)))

pub instance_flat : (of n : List ℕ) (xs : List Connection)
    → t.Name of ∷ (t.Name n ∷ (t.Mark m.OpenRound ∷ (v.commas v.connection xs ++ (t.Mark m.CloseRound ∷ (t.Mark m.Semicolon ∷ []))))) ≡ v.item (i.Instance
    (record { module_name = of; name = n; connections = xs }))
instance_flat of n xs = ap (λ l. t.Name of ∷ (t.Name n ∷ (t.Mark m.OpenRound ∷ l))) (sym (append_assoc (v.commas v.connection xs) (v.mark m.CloseRound) (v.mark m.Semicolon)))

pub item_to : (depth at : ℕ) (ts : List (Placed Token)) (x : Item) → g.item (g.statement depth) at ts x → Itself (plain ts) x
item_to depth at ts x h =
    ⊎_elim (λ k. let h = wire_means.to at ts x k in item_is (plain ts) x (i.Wire (record { high = h.2.0; name = h.2.5.0 })) h.2.5.3.2.1
    (next _ h.1 (glued h.2.3 h.2.4 (next _ h.2.5.2 (next _ h.2.5.3.1 h.2.5.3.2.0))) ∙ ranged_flat w.Wire h.2.0 h.2.5.0) tt)
    (λ k. ⊎_elim (λ k. let h = stored_means.to at ts x k in stored_end_there h.2.0 h.2.5.0 (plain ts) h.2.5.1 h.2.1 x (next _ h.1 (glued h.2.3 refl h.2.5.2)) h.2.4 h.2.5.3)
    (λ k. ⊎_elim (λ k. let h = assign_means.to at ts x k in item_is (plain ts) x (i.Assign (record { target = h.2.0; value = h.2.3.2.0 })) h.2.3.2.5.2.1
    (next _ h.1 (next _ h.2.2 (next _ h.2.3.1 (glued h.2.3.2.3 h.2.3.2.4.0 (next _ h.2.3.2.5.1 h.2.3.2.5.2.0))))) h.2.3.2.4.1)
    (λ k. ⊎_elim (λ k. let h = initial_means.to at ts x k in item_is (plain ts) x (i.Initial (record { constants = h.2.2.0 })) h.2.2.5.2.1
    (next _ h.1 (next _ h.2.1 (glued h.2.2.3 h.2.2.4 (next _ h.2.2.5.1 h.2.2.5.2.0)))) tt)
    (λ k. ⊎_elim (λ k.
    let head = always_head_means.to at k.1 k.0 k.4 in
    let end = (sign_means (s.Word w.End) (pure_means (i.Always (record { body = k.5.0 })))).to at k.5.2 x k.5.5 in
    item_is (plain ts) x (i.Always (record { body = k.5.0 })) end.2.1
    (glued (ap plain k.3 ∙ plain-append k.1 k.2) head (glued (ap plain k.5.3 ∙ plain-append k.5.1 k.5.2) (listed_to depth at k.5.1 k.5.0 k.5.4) (next _ end.1 end.2.0))) tt)
    (λ k. let h = instance_means.to at ts x k in item_is (plain ts) x (i.Instance (record { module_name = h.0; name = h.3.0; connections = h.3.3.2.0 })) h.3.3.2.5.2.2.1
    (next _ h.2 (next _ h.3.2 (next _ h.3.3.1 (glued h.3.3.2.3 h.3.3.2.4.0 (next _ h.3.3.2.5.1 (next _ h.3.3.2.5.2.1 h.3.3.2.5.2.2.0)))))
    ∙ instance_flat h.0 h.3.0 h.3.3.2.0) h.3.3.2.4.1) k) k) k) k) h
