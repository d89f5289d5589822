-- Signals put behind others.
use Rattle.std.proofs.Common.{◌≡◌, ℕ, List, [], ◌++◌, slice_get, Some, sym, ap, ◌∙◌, append_assoc}
use Rattle.std.proofs.lemmas.List.{append-nil}
use Rattle.lists.proofs.Places.{get_front}
use Rattle.netlist.specs.declared.netlist.Signal.{Signal}
use Rattle.netlist.specs.declared.netlist.Source.TheVariants as source
use Rattle.operator_wires.specs.Gives.{Grows}

pub grows_refl : (a : List Signal) → Grows a a
grows_refl a = record { more = []; is = sym (append-nil a) }

pub grows_then : (a b c : List Signal) → Grows a b → Grows b c → Grows a c
grows_then a b c g h = record { more = g.more ++ h.more; is = h.is ∙ ap (λ l. l ++ h.more) g.is ∙ append_assoc a g.more h.more }

pub listed : (a b : List Signal) (x : ℕ) (s : Signal) → Grows a b → slice_get a x ≡ Some s → slice_get b x ≡ Some s
listed a b x s g e = ap (λ l. slice_get l x) g.is ∙ get_front a g.more x s e
