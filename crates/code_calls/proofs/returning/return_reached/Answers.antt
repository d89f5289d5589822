use Rattle.std.proofs.Common.{inl, inr, refl, sym, ◌∙◌}
use Rattle.std.proofs.lemmas.Result.{on_ok_weaker}
use Rattle.code_calls.proofs.returning.return_reached.Goals as goal

pub return_nothing-requires : goal.return_nothing-requires
return_nothing-requires c = c.requires

pub returns-then-not-is_reached : goal.returns-then-not-is_reached
returns-then-not-is_reached c = record { closes = inl (record { off = sym c.is_reached.ensures ∙ c.if-not-is_reached.true; same = refl }); full = tt }

pub returns : goal.returns
returns c = record {
  closes =
      on_ok_weaker c.return_nothing.result (λ returns. inr (record { on = sym c.is_reached.ensures ∙ c.if-not-is_reached.false; returns = returns })) c.return_nothing.ensures.returns;
  full = c.return_nothing.ensures.full;
}
