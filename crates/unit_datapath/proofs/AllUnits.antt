-- The units of a kind behind others, and all kinds.
use Rattle.std.proofs.Common.{◌≡◌, List, [], ◌∷◌, ◌++◌, sym, ap, subst, ◌∙◌, append_assoc}
use Rattle.std.proofs.lemmas.List.{append-nil}
use Rattle.c_program.specs.declared.tree.BinaryOperator.TheVariants.{Multiply, Divide, Remainder}
use Rattle.block_ir.specs.declared.code.ThreadCode.{ThreadCode}
use Rattle.block_ir.specs.declared.plan.Planned.{Planned}
use Rattle.planned_block.specs.Block.{IsAmong}
use Rattle.netlist.specs.declared.netlist.Signal.{Signal}
use Rattle.block_datapath.specs.declared.registers.Registers.{Registers}
use Rattle.block_datapath.specs.declared.registers.UnitResults.{UnitResults}
use Rattle.unit_datapath.specs.declared.kinds.UnitKind.{UnitKind}
use Rattle.unit_datapath.specs.declared.inputs.UnitInputs.{UnitInputs}
use Rattle.unit_datapath.specs.declared.units.UnitCounts.{UnitCounts}
use Rattle.unit_datapath.specs.Units.{AreCountsOf, LaysInputs, LaysUnits, LaysMore, LaysResults, LaysAll}
use Rattle.unit_datapath.proofs.UnitsLaid.{from_none, from_more, kind_laid, kind_empty, units_more, units_seen}
use Rattle.unit_datapath.proofs.Counted.{one_counted, kind_counted, none_counted, AreAllCounted, all_none, all_more, six_kinds, all_found}

module _ (code : ThreadCode) (registers : Registers) (plan : Planned) where
  pub kind_none : (kind : UnitKind) (counts : UnitCounts) (a : List Signal) (all : List UnitResults) → AreCountsOf code plan kind counts → counts.most ≡ 0 →
      LaysMore code registers plan kind a a all all
  kind_none kind counts a all t none = record {
    more = [];
    is = sym (append-nil all);
    lays = kind_empty code registers plan a;
    counted = none_counted code plan kind counts t none;
  }

  pub kind_more : (kind : UnitKind) (counts : UnitCounts) (a b d e f : List Signal) (c : UnitInputs) (x0 x1 x2 x3 : List UnitResults) → AreCountsOf code plan kind counts →
      LaysInputs code registers plan kind counts.most a b c → LaysResults c Multiply kind.ty counts.products b d x0 x1 → LaysResults c Divide kind.ty counts.quotients d e x1 x2 →
      LaysResults c Remainder kind.ty counts.remainders e f x2 x3 → LaysMore code registers plan kind a f x0 x3
  kind_more kind counts a b d e f c x0 x1 x2 x3 ok inputs t u v = record {
    more = (t.more ++ u.more) ++ v.more;
    is = v.is ∙ ap (λ (l : List UnitResults). l ++ v.more) (u.is ∙ ap (λ (l : List UnitResults). l ++ u.more) t.is ∙ append_assoc x0 t.more u.more) ∙ append_assoc x0
        (t.more ++ u.more) v.more;
    lays =
        let one = from_more code registers plan kind counts.most a b b d c Multiply counts.products [] t.more inputs
        (from_none code registers plan a b) ok.products_most ok.products.of_kind t.laid in
        let two = from_more code registers plan kind counts.most a b d e c Divide counts.quotients t.more u.more inputs one ok.quotients_most ok.quotients.of_kind u.laid in
        let three = from_more code registers plan kind counts.most a b e f c Remainder counts.remainders
        (t.more ++ u.more) v.more inputs two ok.remainders_most ok.remainders.of_kind v.laid in
        kind_laid code registers plan kind counts.most a b f c ((t.more ++ u.more) ++ v.more) inputs three;
    counted = kind_counted code plan kind t.more u.more v.more (one_counted code plan kind Multiply counts.products b d c t.more ok.products t.laid)
        (one_counted code plan kind Divide counts.quotients d e c u.more ok.quotients u.laid)
        (one_counted code plan kind Remainder counts.remainders e f c v.more ok.remainders v.laid);
  }

  -- the units of these kinds
  pub record AreLaid (kinds : List UnitKind) (old new : List Signal) (results : List UnitResults) : Type 0 where
    pub lays : LaysUnits code registers plan old new results
    pub counted : AreAllCounted code plan kinds results

  pub laid_none : (a : List Signal) (results : List UnitResults) → results ≡ [] → AreLaid [] a a results
  laid_none a results none = record {
    lays = subst (λ (l : List UnitResults). LaysUnits code registers plan a a l) (sym none) (kind_empty code registers plan a);
    counted = all_none code plan results none;
  }

  pub laid_more : (kinds : List UnitKind) (kind known : UnitKind) (a b d : List Signal) (before after : List UnitResults) → AreLaid kinds a b before → kind ≡ known →
      LaysMore code registers plan kind b d before after → (IsAmong kinds known → ⊥) → AreLaid (known ∷ kinds) a d after
  laid_more kinds kind known a b d before after t same u0 fresh =
      let u = subst (λ (k : UnitKind). LaysMore code registers plan k b d before after) same u0 in
      subst (λ (l : List UnitResults). AreLaid (known ∷ kinds) a d l) (sym u.is) (record {
        lays = units_more code registers plan a b d before u.more t.lays u.lays;
        counted = all_more code plan kinds known before u.more t.counted u.counted fresh;
      })

  pub all_laid : (a b : List Signal) (results : List UnitResults) → AreLaid six_kinds a b results → LaysAll code registers plan a b results
  all_laid a b results t = record {
    grows = t.lays.grows;
    shows = units_seen code registers plan a b results t.lays;
    wires = t.lays.wires;
    stands = t.lays.stands;
    counted = t.counted.each;
    once = t.counted.once;
    all = all_found code plan results t.counted;
  }
