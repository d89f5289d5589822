-- Where the parts of a net stand in a text that spells it.
use Rattle.std.specs.Prelude.{◌≡◌, ℕ, zero, suc, ◌+◌, List, [], ◌∷◌, ◌++◌, length, take, Some, slice_get}
use Rattle.std.proofs.Common.{refl, sym, ap, ◌∙◌, subst, append_assoc}
use Rattle.std.proofs.lemmas.List.{take_at}
use Rattle.verilog_tree.specs.declared.token.Word.TheVariants as w
use Rattle.verilog_tree.specs.declared.token.Mark.TheVariants as m
use Rattle.verilog_tree.specs.declared.token.Token.{Token}
use Rattle.verilog_tree.specs.declared.token.Token.TheVariants as t
use Rattle.verilog_tree.specs.declared.tree.Port.{Port}
use Rattle.verilog_tree.specs.declared.tree.Item.{Item}
use Rattle.verilog_tree.specs.declared.tree.Module.{Module}
use Rattle.verilog_tree.specs.declared.tree.Net.{Net}
use Rattle.verilog_tree.specs.Spelling.{Text}
use Rattle.verilog_tree.specs.Grammar as g
use Rattle.net_check.specs.declared.fault.ModulePart.{ModulePart}
use Rattle.net_check.specs.declared.fault.ModulePart.TheVariants as part
use Rattle.net_check.specs.declared.fault.NetPart.TheVariants as net
use Rattle.verilog_reader.specs.Before.{port_and_comma, before}
use Rattle.verilog_rules.specs.Leads.{Leads}
use Rattle.verilog_lexer.specs.declared.tokens.Lexed.{Lexed}
use Rattle.verilog_lexer.specs.Lexed.{IsLexed}
use Rattle.verilog_reader.specs.Faults.{IsWrong, Broken, Unwanted, before_part, StandsAt}
use Rattle.verilog_reader.specs.Answers.{offset_at}
use Rattle.verilog_reader.proofs.TokenPlaces as placing

-- a list begins with another
abbrev pub Begins : List Token → List Token → Type 0
Begins front all = (more : List Token) × (all ≡ front ++ more)

all_begins : {A : Type 0} (f : A → List Token) (xs : List A) (k : ℕ) (x : A) → slice_get xs k ≡ Some x → (more : List Token) × (g.all f xs ≡ g.all f (take k xs) ++ (f x ++ more))
all_begins f [] k x e = cc (e)
all_begins f (y ∷ xs) zero x e = let same : y ≡ x = cc (e) in (g.all f xs, ap (λ z. f z ++ g.all f xs) same)
all_begins f (y ∷ xs) (suc k) x e =
    let r = all_begins f xs k x e in
    (r.0, ap (λ l. f y ++ l) r.1 ∙ sym (append_assoc (f y) (g.all f (take k xs)) (f x ++ r.0)))

ports_begin : (ports : List Port) (k : ℕ) (p : Port) → slice_get ports k ≡ Some p → Begins (g.all port_and_comma (take k ports)) (g.commas g.port ports)
ports_begin [] k p e = cc (e)
ports_begin (q ∷ ports) zero p e = (g.port q ++ g.more g.port ports, refl)
ports_begin (q ∷ []) (suc k) p e = cc (e)
ports_begin (q ∷ q' ∷ ports) (suc k) p e =
    let r = ports_begin (q' ∷ ports) k p e in (
      r.0,
      sym (append_assoc (g.port q) (g.mark m.Comma) (g.commas g.port (q' ∷ ports))) ∙ ap (λ l. port_and_comma q ++ l) r.1
          ∙ sym (append_assoc (port_and_comma q) (g.all port_and_comma (take k (q' ∷ ports))) r.0),
    )

-- the part is one of the module
pub HasPart : Module → ModulePart → Type 0
HasPart x part.Head = Unit {0}
HasPart x (part.Port k) = (p : Port) × (slice_get x.ports k ≡ Some p)
HasPart x (part.Item k) = (y : Item) × (slice_get x.items k ≡ Some y)

pub head_part : (x : Module) → HasPart x part.Head
unfolding HasPart
head_part x = tt

pulled : (a b c : List Token) {z : List Token} → z ≡ a ++ b → z ++ c ≡ a ++ (b ++ c)
pulled a b c e = ap (λ l. l ++ c) e ∙ append_assoc a b c

module_begins : (x : Module) (p : ModulePart) → HasPart x p → Begins (before_part p x) (g.module_tokens x)
unfolding HasPart
module_begins x part.Head h = (_, refl)
module_begins x (part.Port k) h =
    let r = ports_begin x.ports k h.0 h.1 in
    let front = g.all port_and_comma (take k x.ports) in
    let one = pulled front r.0 (g.mark m.CloseRound) r.1 in
    let two = pulled front (r.0 ++ g.mark m.CloseRound) (g.mark m.Semicolon) one in
    let three = pulled front ((r.0 ++ g.mark m.CloseRound) ++ g.mark m.Semicolon) (g.all g.item x.items) two in
    let four = pulled front (((r.0 ++ g.mark m.CloseRound) ++ g.mark m.Semicolon) ++ g.all g.item x.items) (g.word w.EndModule) three in
    (_, ap (λ l. t.Word w.Module ∷ (t.Name x.name ∷ (t.Mark m.OpenRound ∷ l))) four)
module_begins x (part.Item k) h =
    let r = all_begins g.item x.items k h.0 h.1 in
    let head = g.word w.Module ++ g.name x.name ++ g.mark m.OpenRound ++ g.commas g.port x.ports ++ g.mark m.CloseRound ++ g.mark m.Semicolon in
    let front = g.all g.item (take k x.items) in
    let more = g.item h.0 ++ r.0 in
    let one : head ++ g.all g.item x.items ≡ (head ++ front) ++ more = ap (λ l. head ++ l) r.1 ∙ sym (append_assoc head front more) in
    (_, pulled (head ++ front) more (g.word w.EndModule) one)

net_begins : (n : Net) (k : ℕ) (x : Module) (p : ModulePart) → slice_get n.modules k ≡ Some x → HasPart x p → Begins (before n.modules k (before_part p x)) (g.net n)
net_begins n k x p e h =
    let r = all_begins g.module_tokens n.modules k x e in
    let i = module_begins x p h in
    let front = g.all g.module_tokens (take k n.modules) in (
      i.0 ++ r.0,
      r.1 ∙ ap (λ l. front ++ (l ++ r.0)) i.1 ∙ ap (λ l. front ++ l) (append_assoc (before_part p x) i.0 r.0) ∙ sym (append_assoc front (before_part p x) (i.0 ++ r.0)),
    )

pub stands : (text : Text) (l : Lexed) → IsLexed text l → (n : Net) → l.tokens ≡ g.net n → (k : ℕ) (p : ModulePart) (x : Module) → slice_get n.modules k ≡ Some x → HasPart x p
    → (offset : ℕ) → offset ≡ offset_at l (length (before n.modules k (before_part p x))) → StandsAt text n k p offset
stands text l lexed n same k p x listed has offset is =
    let front = before n.modules k (before_part p x) in
    let begins = net_begins n k x p listed has in
    let place = placing.at text l lexed (length front) in
    let taken : take (length front) l.tokens ≡ front = ap (take (length front)) (same ∙ begins.1) ∙ take_at front begins.0 (length front) refl in
    record {
      of = x;
      listed = listed;
      at = record { rest = place.here; leads = subst (λ ts. Leads text ts place.here) taken place.leads; place = ap (λ o. o + length place.here) is ∙ place.offset };
    }

-- ---- parts that break a rule are parts

pub wrong_part : (n : Net) (k : ℕ) (p : ModulePart) → IsWrong n (net.Module k p) → (x : Module) × (slice_get n.modules k ≡ Some x) × HasPart x p
unfolding HasPart
wrong_part n k part.Head (Broken b) = (b.0, b.1, tt)
wrong_part n k (part.Port i) (Broken b) = (b.0, b.1, (b.2.0, b.2.1))
wrong_part n k (part.Item i) (Broken b) = (b.0, b.1, (b.2.0, b.2.1))
wrong_part n k p (Unwanted j i x port e is listed never) =
    let number : k ≡ j = number_of e in
    let which : p ≡ part.Port i = part_of e in
    (x, ap (slice_get n.modules) number ∙ is.listed, subst (HasPart x) (sym which) (port, listed))
  where
    number_of : {a b : ℕ} {q r : ModulePart} → net.Module a q ≡ net.Module b r → a ≡ b
    number_of e = cc

    part_of : {a b : ℕ} {q r : ModulePart} → net.Module a q ≡ net.Module b r → q ≡ r
    part_of e = cc
