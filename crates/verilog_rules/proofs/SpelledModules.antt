-- The phrases of items of a depth, of modules and of whole texts have the tokens that the grammar gives them: a text's net is spelled exactly
-- where the tokens are the net's and no list is empty of which the grammar asks for one.
use Rattle.std.proofs.Common.{◌≡◌, ℕ, ◌+◌, List, [], ◌∷◌, ◌++◌, Option, Some, None, refl, sym, ap, ◌∙◌, subst, inl, inr}
use Rattle.std.proofs.lemmas.Option.{same_Some}
use Rattle.std.proofs.lemmas.List.{append_assoc, append-nil}
use Rattle.verilog_tree.specs.declared.token.Word.{Word}
use Rattle.verilog_tree.specs.declared.token.Word.TheVariants as w
use Rattle.verilog_tree.specs.declared.token.Mark.TheVariants as m
use Rattle.verilog_tree.specs.declared.token.Token.{Token}
use Rattle.verilog_tree.specs.declared.token.Token.TheVariants as t
use Rattle.verilog_tree.specs.declared.tree.Direction.{Direction}
use Rattle.verilog_tree.specs.declared.tree.Direction.TheVariants as dir
use Rattle.verilog_tree.specs.declared.tree.Port.{Port}
use Rattle.verilog_tree.specs.declared.tree.Statement.{Statement}
use Rattle.verilog_tree.specs.declared.tree.Item.{Item}
use Rattle.verilog_tree.specs.declared.tree.Item.TheVariants as i
use Rattle.verilog_tree.specs.declared.tree.Module.{Module}
use Rattle.verilog_tree.specs.declared.tree.Net.{Net}
use Rattle.verilog_tree.specs.Grammar as v
use Rattle.verilog_tree.specs.Grammar.{Tokens}
use Rattle.verilog_tree.specs.Reads.{IsFilled, Each, IsFullItem, IsFullModule, IsFull}
use Rattle.grammar.specs.Rules.{Placed, many}
use Rattle.grammar.specs.Sentences.{plain, Spelled}
use Rattle.grammar.proofs.Lists.{plain-append}
use Rattle.grammar.proofs.Good.{deeper_by}
use Rattle.verilog_rules.specs.declared.sign.Sign.TheVariants as s
use Rattle.verilog_rules.specs.Signs.{direction_of, direction_at}
use Rattle.verilog_rules.specs.Phrases as g
use Rattle.verilog_rules.proofs.Means.{Spelling, Means, same_means, pure_means, then_means, one_means, sign_means, name_means}
use Rattle.verilog_rules.proofs.Spelled.{Is, next, glued, listed_means}
use Rattle.verilog_rules.proofs.SpelledItems.{Has, has_all, raised, HasStatement, has_statement, StoredEnd, wire_means, stored_means, assign_means, initial_means}
use Rattle.verilog_rules.proofs.SpelledItems.{instance_means, always_head_means, item_to, ranged_flat, instance_flat, optional_range}
use Rattle.verilog_rules.proofs.Modules as reads

-- ---- items

raise_item : (k depth at : ℕ) (ts : List (Placed Token)) (x : Item) → g.item (g.statement depth) at ts x → g.item (g.statement (k + depth)) at ts x
raise_item k depth at ts x h = deeper_by (reads.item 0) (λ d. tt) k depth at ts x h

abbrev HasItem : Item → Type 0
HasItem = Has (λ depth. g.item (g.statement depth)) v.item raise_item

each_statement : (xs : List Statement) → Each HasStatement xs
each_statement [] = tt
each_statement (x ∷ xs) = (has_statement x, each_statement xs)

register_end : (high : Option ℕ) (n : List ℕ) → StoredEnd high n (t.Mark m.Semicolon ∷ []) (i.Register (record { high = high; name = n }))
register_end None n = (_, refl, (refl, refl))
register_end (Some high) n = inr (_, refl, (refl, refl))

has_item : (x : Item) → IsFullItem x → HasItem x
has_item (i.Wire x) full at =
    let k = wire_means.from at (v.item (i.Wire x)) (i.Wire x) (
      _,
      sym (ranged_flat w.Wire x.high x.name),
      (
        x.high,
        v.range x.high,
        _,
        refl,
        refl,
        (
          x.name,
          _,
          refl,
          (_, refl, (refl, refl)),
        ),
      ),
    ) in (0, k.0, k.1, inl k.2)
has_item (i.Register x) full at =
    let k = stored_means.from at (v.item (i.Register x)) (i.Register x) (
      _,
      sym (ranged_flat w.Reg x.high x.name),
      (
        x.high,
        v.range x.high,
        _,
        refl,
        refl,
        (x.name, _, refl, register_end x.high x.name),
      ),
    ) in (0, k.0, k.1, inr (inl k.2))
has_item (i.Memory x) full at =
    let k = stored_means.from at (v.item (i.Memory x)) (i.Memory x) (
      _,
      refl,
      (
        Some x.high,
        v.range (Some x.high),
        _,
        refl,
        refl,
        (
          x.name,
          _,
          refl,
          inl (
            _,
            refl,
            (
              _,
              refl,
              (
                _,
                refl,
                (
                  x.last,
                  _,
                  refl,
                  (
                    _,
                    refl,
                    (
                      _,
                      refl,
                      (refl, refl),
                    ),
                  ),
                ),
              ),
            ),
          ),
        ),
      ),
    ) in
    (0, k.0, k.1, inr (inl k.2))
has_item (i.Assign x) full at =
    let k = assign_means.from at (v.item (i.Assign x)) (i.Assign x) (
      _,
      refl,
      (
        x.target,
        _,
        refl,
        (
          _,
          refl,
          (
            x.value,
            v.expression x.value,
            _,
            refl,
            (refl, full),
            (_, refl, (refl, refl)),
          ),
        ),
      ),
    ) in
    (0, k.0, k.1, inr (inr (inl k.2)))
has_item (i.Initial x) full at =
    let k = initial_means.from at (v.item (i.Initial x)) (i.Initial x) (
      _,
      refl,
      (
        _,
        refl,
        (
          x.constants,
          v.all v.initial_constant x.constants,
          _,
          refl,
          refl,
          (
            _,
            refl,
            (refl, refl),
          ),
        ),
      ),
    ) in
    (0, k.0, k.1, inr (inr (inr (inl k.2))))
has_item (i.Always x) full at =
    let head = always_head_means.from at _ tt refl in
    let inside = has_all g.statement v.statement raised x.body (each_statement x.body) at in
    let end = (sign_means (s.Word w.End) (pure_means (i.Always x))).from at _ (i.Always x) ([], refl, (refl, refl)) in (
      inside.0,
      head.0 ++ (inside.1 ++ end.0),
      glued (plain-append head.0 (inside.1 ++ end.0)) head.1 (glued (plain-append inside.1 end.0) inside.2 end.1),
      inr (inr (inr (inr (inl (tt, head.0, inside.1 ++ end.0, refl, head.2, (x.body, inside.1, end.0, refl, inside.3, end.2)))))),
    )
has_item (i.Instance x) full at =
    let k = instance_means.from at (v.item (i.Instance x)) (i.Instance x) (
      x.module_name,
      _,
      sym (instance_flat x.module_name x.name x.connections),
      (
        x.name,
        _,
        refl,
        (
          _,
          refl,
          (
            x.connections,
            v.commas v.connection x.connections,
            _,
            refl,
            (refl, full),
            (_, refl, (_, refl, (refl, refl))),
          ),
        ),
      ),
    ) in
    (0, k.0, k.1, inr (inr (inr (inr (inr k.2)))))

items_to : (depth at : ℕ) (ts : List (Placed Token)) (xs : List Item) → many (g.item (g.statement depth)) at ts xs → (plain ts ≡ v.all v.item xs) × Each IsFullItem xs
items_to depth at ts [] h = (ap plain h, tt)
items_to depth at ts (x ∷ xs) h =
    let first = item_to depth at h.0 x h.3 in
    let rest = items_to depth at h.1 xs h.4 in
    (glued (ap plain h.2 ∙ plain-append h.0 h.1) first.0 rest.0, (first.1, rest.1))

each_item : (xs : List Item) → Each IsFullItem xs → Each HasItem xs
each_item [] h = tt
each_item (x ∷ xs) h = (has_item x h.0, each_item xs h.1)

-- ---- ports

direction_word : Direction → Word
direction_word dir.Input = w.Input
direction_word dir.Output = w.Output

word_is : (x : Word) (d : Direction) → direction_of x ≡ Some d → x ≡ direction_word d
unfolding direction_word
word_is w.Input d h = ap direction_word (same_Some _ _ h)
word_is w.Output d h = ap direction_word (same_Some _ _ h)
word_is _ d h = cc

direction_token : (x : Token) (d : Direction) → direction_at x ≡ Some d → x ≡ t.Word (direction_word d)
direction_token (t.Word y) d h = ap t.Word (word_is y d h)
direction_token (t.Mark y) d h = cc
direction_token (t.Name y) d h = cc
direction_token (t.Number y) d h = cc
direction_token (t.Quoted y) d h = cc

direction_back : (d : Direction) → direction_at (t.Word (direction_word d)) ≡ Some d
unfolding direction_word
direction_back dir.Input = refl
direction_back dir.Output = refl

direction_tokens : (d : Direction) → v.direction d ≡ t.Word (direction_word d) ∷ []
unfolding direction_word
direction_tokens dir.Input = refl
direction_tokens dir.Output = refl

port_means : Means g.port (Is v.port)
port_means =
    same_means (one_means direction_at (λ d. t.Word (direction_word d)) direction_token direction_back (λ way. sign_means (s.Word w.Wire) (then_means optional_range
    (λ high. name_means (λ x.
    pure_means (record { direction = way; high = high; name = x }))))))
    (λ z p h.
    next _ h.2 (next _ h.3.1 (glued h.3.2.3 h.3.2.4 (next _ h.3.2.5.2 h.3.2.5.3.0))) ∙ flat (record { direction = h.0; high = h.3.2.0; name = h.3.2.5.0 }) ∙ sym
    (ap v.port h.3.2.5.3.1))
    (λ z p h. (
      p.direction,
      _,
      h ∙ sym (flat p),
      (_, refl, (p.high, v.range p.high, _, refl, refl, (p.name, [], refl, (refl, refl)))),
    ))
  where
    flat : (p : Port) → t.Word (direction_word p.direction) ∷ (t.Word w.Wire ∷ (v.range p.high ++ (t.Name p.name ∷ []))) ≡ v.port p
    flat p =
        ap (λ l. l ++ (t.Word w.Wire ∷ (v.range p.high ++ v.name p.name))) (sym (direction_tokens p.direction))
        ∙ sym (append_assoc (v.direction p.direction) (v.word w.Wire) (v.range p.high ++ v.name p.name))
        ∙ sym (append_assoc (v.direction p.direction ++ v.word w.Wire) (v.range p.high) (v.name p.name))

-- ---- modules

abbrev head_tokens : List ℕ × List Port → Tokens
head_tokens h = v.word w.Module ++ v.name h.0 ++ v.mark m.OpenRound ++ v.commas v.port h.1 ++ v.mark m.CloseRound ++ v.mark m.Semicolon

abbrev Head : Spelling (List ℕ × List Port)
Head z h = (z ≡ head_tokens h) × IsFilled h.1

head_flat : (n : List ℕ) (ports : List Port)
    → t.Word w.Module ∷ (t.Name n ∷ (t.Mark m.OpenRound ∷ (v.commas v.port ports ++ (t.Mark m.CloseRound ∷ (t.Mark m.Semicolon ∷ []))))) ≡ head_tokens (n, ports)
head_flat n ports = ap (λ l. t.Word w.Module ∷ (t.Name n ∷ (t.Mark m.OpenRound ∷ l))) (sym (append_assoc (v.commas v.port ports) (v.mark m.CloseRound) (v.mark m.Semicolon)))

head_means : Means g.module_head Head
head_means =
    same_means (sign_means (s.Word w.Module) (name_means (λ x. sign_means (s.Mark m.OpenRound) (then_means (listed_means v.port port_means) (λ ports. sign_means
    (s.Mark m.CloseRound) (sign_means (s.Mark m.Semicolon)
    (pure_means (x, ports))))))))
    (λ z p h.
    subst (Head z) (sym h.2.3.2.5.2.2.1) (
      next _ h.1 (next _ h.2.2 (next _ h.2.3.1 (glued h.2.3.2.3 h.2.3.2.4.0 (next _ h.2.3.2.5.1 (next _ h.2.3.2.5.2.1 h.2.3.2.5.2.2.0)))))
          ∙ head_flat h.2.0 h.2.3.2.0,
      h.2.3.2.4.1,
    ))
    (λ z p h. (_, h.0 ∙ sym (head_flat p.0 p.1), (p.0, _, refl, (_, refl, (p.1, v.commas v.port p.1, _, refl, (refl, h.1), (_, refl, (_, refl, (refl, refl))))))))

-- what a module has, its head and its items told apart
module_split : (x : Module) → v.module_tokens x ≡ head_tokens (x.name, x.ports) ++ (v.all v.item x.items ++ (t.Word w.EndModule ∷ []))
module_split x =
    ap (λ l. t.Word w.Module ∷ (t.Name x.name ∷ (t.Mark m.OpenRound ∷ l)))
    ((append_assoc ((v.commas v.port x.ports ++ v.mark m.CloseRound) ++ v.mark m.Semicolon) (v.all v.item x.items) (v.word w.EndModule)))

abbrev Whole : Spelling Module
Whole z x = (z ≡ v.module_tokens x) × IsFullModule x

module_to : (depth at : ℕ) (ts : List (Placed Token)) (x : Module) → g.module_of (g.statement depth) at ts x → Whole (plain ts) x
module_to depth at ts x h =
    let is : Module = record { name = h.0.0; ports = h.0.1; items = h.5.0 } in
    let head = head_means.to at h.1 h.0 h.4 in
    let inside = items_to depth at h.5.1 h.5.0 h.5.4 in
    let end = (sign_means (s.Word w.EndModule) (pure_means is)).to at h.5.2 x h.5.5 in
    let tokens = glued (ap plain h.3 ∙ plain-append h.1 h.2) head.0 (glued (ap plain h.5.3 ∙ plain-append h.5.1 h.5.2) inside.0 (next _ end.1 end.2.0)) ∙ sym (module_split is) in
    subst (Whole (plain ts)) (sym end.2.1) (tokens, (head.1, inside.1))

raise_module : (k depth at : ℕ) (ts : List (Placed Token)) (x : Module) → g.module_of (g.statement depth) at ts x → g.module_of (g.statement (k + depth)) at ts x
raise_module k depth at ts x h = deeper_by (reads.module_of 0) (λ d. tt) k depth at ts x h

abbrev HasModule : Module → Type 0
HasModule = Has (λ depth. g.module_of (g.statement depth)) v.module_tokens raise_module

has_module : (x : Module) → IsFullModule x → HasModule x
has_module x full at =
    let head = head_means.from at (head_tokens (x.name, x.ports)) (x.name, x.ports) (refl, full.0) in
    let inside = has_all (λ depth. g.item (g.statement depth)) v.item raise_item x.items (each_item x.items full.1) at in
    let end = (sign_means (s.Word w.EndModule) (pure_means x)).from at _ x ([], refl, (refl, refl)) in (
      inside.0,
      head.0 ++ (inside.1 ++ end.0),
      glued (plain-append head.0 (inside.1 ++ end.0)) head.1 (glued (plain-append inside.1 end.0) inside.2 end.1) ∙ sym (module_split x),
      ((x.name, x.ports), head.0, inside.1 ++ end.0, refl, head.2, (x.items, inside.1, end.0, refl, inside.3, end.2)),
    )

-- ---- whole texts

modules_to : (depth at : ℕ) (ts : List (Placed Token)) (xs : List Module) → many (g.module_of (g.statement depth)) at ts xs
    → (plain ts ≡ v.all v.module_tokens xs) × Each IsFullModule xs
modules_to depth at ts [] h = (ap plain h, tt)
modules_to depth at ts (x ∷ xs) h =
    let first = module_to depth at h.0 x h.3 in
    let rest = modules_to depth at h.1 xs h.4 in
    (glued (ap plain h.2 ∙ plain-append h.0 h.1) first.0 rest.0, (first.1, rest.1))

each_module : (xs : List Module) → Each IsFullModule xs → Each HasModule xs
each_module [] h = tt
each_module (x ∷ xs) h = (has_module x h.0, each_module xs h.1)

abbrev WholeNet : Spelling Net
WholeNet z n = (z ≡ v.net n) × IsFull n

net_to : (depth at : ℕ) (ts : List (Placed Token)) (n : Net) → g.net depth at ts n → WholeNet (plain ts) n
net_to depth at ts n h =
    let first = module_to depth at h.1 h.0 h.4 in
    let rest = modules_to depth at h.5.1 h.5.0 h.5.4 in
    let more : plain h.2 ≡ v.all v.module_tokens h.5.0 = glued (ap plain h.5.3 ∙ plain-append h.5.1 h.5.2) rest.0 (ap plain h.5.5.0) ∙ append-nil
    (v.all v.module_tokens h.5.0) in
    subst (WholeNet (plain ts)) (sym h.5.5.1) (glued (ap plain h.3 ∙ plain-append h.1 h.2) first.0 more, (tt, (first.1, rest.1)))

-- the net's tokens, with their nesting, spell the net
pub spelled_to : (ts : List (Placed Token)) (n : Net) → Spelled g.net 0 ts n → (plain ts ≡ v.net n) × IsFull n
spelled_to ts n h = net_to h.0 0 ts n h.1

from_modules : (xs : List Module) → IsFilled xs → Each IsFullModule xs → (ts : List (Placed Token)) × (plain ts ≡ v.all v.module_tokens xs) × Spelled g.net 0 ts
    (record { modules = xs })
from_modules [] some full = absurd some
from_modules (x ∷ xs) some full =
    let all = has_all (λ depth. g.module_of (g.statement depth)) v.module_tokens raise_module (x ∷ xs) (each_module (x ∷ xs) full) 0 in
    let h = all.3 in
    (all.1, all.2, (all.0, (x, h.0, h.1, h.2, h.3, (xs, h.1, [], sym (append-nil h.1), h.4, (refl, refl)))))

pub spelled_from : (n : Net) → IsFull n → (ts : List (Placed Token)) × (plain ts ≡ v.net n) × Spelled g.net 0 ts n
spelled_from n full = from_modules n.modules full.0 full.1
