-- Worked rows of portable texts: names that are reserved, and names that only look so; a use behind its declaration, and one before it.
use Rattle.std.specs.Prelude.{◌≡◌, List, [], ◌∷◌, true, false, None, codes}
use Rattle.std.proofs.Common.{refl}
use Rattle.verilog_tree.specs.declared.tree.Direction.TheVariants as direction
use Rattle.verilog_tree.specs.declared.tree.Expression.TheVariants as e
use Rattle.verilog_tree.specs.declared.tree.Item.{Item}
use Rattle.verilog_tree.specs.declared.tree.Item.TheVariants as i
use Rattle.verilog_tree.specs.declared.tree.Module.{Module}
use Rattle.verilog_tree.specs.Grammar as grammar
use Rattle.verilog_tree.specs.Scope.{Names, is_known}
use Rattle.netlist_text.specs.Portable.{reserved_words, IsFree, names_in, used_by, DeclaresFirst}

case_is_reserved : is_known reserved_words (codes "case") ≡ true
unfolding reserved_words
case_is_reserved = refl

uwire_is_reserved : is_known reserved_words (codes "uwire") ≡ true
unfolding reserved_words
uwire_is_reserved = refl

tri_is_reserved : is_known reserved_words (codes "tri1") ≡ true
unfolding reserved_words
tri_is_reserved = refl

-- names tell small letters from capitals (3.7), and words of SystemVerilog are none of this standard
capital_is_free : IsFree (codes "Case")
unfolding reserved_words
capital_is_free = refl

forkjoin_is_free : IsFree (codes "forkjoin")
unfolding reserved_words
forkjoin_is_free = refl

-- ---- module m(input wire clk); wire w_1; assign w_1 = clk; endmodule

assign : Item
assign = i.Assign (record { target = codes "w_1"; value = e.Copy (codes "clk") })

wire : Item
wire = i.Wire (record { high = None; name = codes "w_1" })

of : List Item → Module
of items = record { name = codes "m"; ports = record { direction = direction.Input; high = None; name = codes "clk" } ∷ []; items = items }

names_are : names_in (grammar.module_tokens (of (wire ∷ assign ∷ []))) ≡ codes "m" ∷ codes "clk" ∷ codes "w_1" ∷ codes "w_1" ∷ codes "clk" ∷ []
unfolding of wire assign
names_are = refl

uses_both : used_by assign ≡ codes "w_1" ∷ codes "clk" ∷ []
unfolding assign
uses_both = refl

declared_first : DeclaresFirst (of (wire ∷ assign ∷ []))
unfolding of wire assign
declared_first = (tt, ((refl, (refl, tt)), tt))

used_first : DeclaresFirst (of (assign ∷ wire ∷ [])) → ⊥
unfolding of wire assign
used_first h = let late : false ≡ true = h.0.0 in absurd cc
