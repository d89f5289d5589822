-- Operands as registers hold them: lemmas of each function that adds a part.
use Rattle.std.proofs.Common.{◌≡◌, ℕ, ◌+◌, ◌-◌, ◌%◌, ◌^◌, ◌<◌, ◌≤◌, nat_lt, Bool, true, false, ◌&&◌, List, Option, Some, None, ℤ, refl, sym, ap, subst, ◌∙◌, arith}
use Rattle.std.proofs.Math.Nat.{mod-eq_of_lt}
use Rattle.hls_ints.specs.Types.{IntegerType, HasType, width_of, wrapped}
use Rattle.block_ir.specs.declared.operand.Source.TheVariants.{Constant, Variable, Value}
use Rattle.block_ir.specs.declared.operand.Operand.{Operand}
use Rattle.block_ir.specs.declared.plan.BlockPlan.{BlockPlan}
use Rattle.planned_block.specs.Block.{operand_value}
use Rattle.plan_blocks.specs.View.{source_view, operand_view, register_at}
use Rattle.netlist.specs.declared.netlist.Signal.{Signal}
use Rattle.verilog_meaning.specs.Readings.{width}
use Rattle.operator_wires.specs.declared.words.Word.{Word}
use Rattle.operator_wires.specs.Words.{IsWord, Holds, Becomes, Resizes, resized_word}
use Rattle.operator_wires.specs.Built.{Base, IsEarlier, Adds}
use Rattle.operator_wires.specs.Added.{ResizedAdds, IsConstant, IsConverted}
use Rattle.operator_wires.proofs.PutSignals.{grows_then}
use Rattle.operator_wires.proofs.BuiltWires.{wires_then}
use Rattle.operator_wires.proofs.TypedWords.{at_least, at_most, word_of, word_after}
use Rattle.block_datapath.specs.Types.{source_type, operand_type}
use Rattle.block_datapath.specs.declared.registers.Held.{Held}
use Rattle.block_datapath.specs.declared.registers.Registers.{Registers}
use Rattle.block_datapath.specs.Seen.{kept_register, ShowsVariable, Converts}
use Rattle.block_datapath.specs.Wired.{AreRegisters, AreConverted, IsVariableWord}
use Rattle.block_datapath.proofs.OperandWords.{own_word}
use Rattle.block_datapath.proofs.BlockWires.{room}
use Rattle.unit_datapath.specs.Words.{HoldsLow, ShowsLow, ShowsRegister, ShowsSource, ShowsUnitWord}

-- ---- the low bits of a register

low_number : (t u : Bool) (from to n : ℕ) → 1 ≤ to → to ≤ from → n < 2 ^ from → nat_lt to from ≡ t → (nat_lt from to && false) ≡ u → resized_word false from to n ≡ n % 2 ^ to
low_number true u from to n some less small e f = first e ∙ ap (λ (k : ℕ). n % 2 ^ k) (let same : to - 1 + 1 ≡ to = omega arith in same)
  where
    first : nat_lt to from ≡ true → resized_word false from to n ≡ n % 2 ^ (to - 1 + 1)
    first g = rw g refl
low_number false true from to n some less small e f = absurd (none (nat_lt from to) f)
  where
    none : (t : Bool) → (t && false) ≡ true → ⊥
    none true h = cc
    none false h = cc
low_number false false from to n some less small e f =
    let same : from ≡ to = grind arith in
    whole e f ∙ sym (mod-eq_of_lt (subst (λ (k : ℕ). n < 2 ^ k) same small))
  where
    whole : nat_lt to from ≡ false → (nat_lt from to && false) ≡ false → resized_word false from to n ≡ n
    whole g h = rw (g, h) refl

pub low_shown : (a b : List Signal) (held : Held) (ty : IntegerType) (w place : ℕ) (out : Word) → w ≡ width_of ty → Resizes a b held.register held.width w false place →
    ResizedAdds a b held.register held.width w false place → out.place ≡ place → out.width ≡ width_of ty → out.signed ≡ ty.signed → ShowsLow a b held ty out
low_shown a b held ty w place out wide t u at says sign = record {
  grows = t.grows;
  shows = λ m r v g o is.
      let some = at_least ty in
      let low : 1 ≤ w = omega (arith, some, wide) in
      let few : w ≤ held.width = (let e = is.room in omega (arith, e, wide)) in
      record {
        says = says;
        sign = sign;
        wide = ap (width m) at ∙ t.wide m g is.wide ∙ wide;
        shows = ap r.signal at ∙ t.shows m r g o is.wide ∙ low_number (nat_lt w held.width) (nat_lt held.width w && false) held.width w
            (r.signal held.register) low few is.fits refl refl
            ∙ ap (λ (k : ℕ). r.signal held.register % 2 ^ k) wide ∙ is.shows;
        typed = is.typed;
      };
  wired = λ base e.
      let some = at_least ty in
      let most = at_most ty in
      word_of base a b ty place out (subst (λ (k : ℕ). Adds base a b k place) wide (u base e (omega (arith, some, wide)) (omega (arith, most, wide)) (λ no. absurd cc))) at says
      sign;
}

-- ---- a register

pub register_there : (a b : List Signal) (registers : Registers) (register : Option ℕ) (ty : IntegerType) (held : Held) (out : Word) →
    kept_register registers.kept register ≡ Some held →
    ShowsLow a b held ty out → ShowsRegister a b registers register ty out
register_there a b registers register ty held out e t = record {
  grows = t.grows;
  shows = λ m r v g o is.
      let there = is.listed in
      let same : is.held ≡ held = cc in
      t.shows m r v g o (subst (λ (h : Held). HoldsLow m r h ty v) same (record { wide = is.wide; room = is.room; fits = is.fits; shows = is.shows; typed = is.typed }));
  wired = λ base types is. t.wired base (stands register e is);
}
  where
    stands : {base : Base} {types : List IntegerType} (number : Option ℕ) → kept_register registers.kept number ≡ Some held → AreRegisters a base types registers →
        IsEarlier a base held.register held.width
    stands None f is = absurd cc
    stands (Some n) f is = is.kept n held f

pub register_missing : (a b : List Signal) (registers : Registers) (register : Option ℕ) (ty : IntegerType) (v : ℤ) (out : Word) → kept_register registers.kept register ≡ None →
    Holds a b ty v out → IsConstant a b ty out → ShowsRegister a b registers register ty out
register_missing a b registers register ty v out e t u = record {
  grows = t.grows;
  shows = λ m r v g o is. let there = is.listed in absurd cc;
  wired = λ base types is. u base (room a base types registers is);
}

-- ---- a source

module _ (a b : List Signal) (registers : Registers) (types : List IntegerType) (p : BlockPlan) (out : Word) where
  pub constant_shown : (ty : IntegerType) (v z : ℤ) → (HasType ty v → z ≡ v) → Holds a b ty (wrapped ty z) out → IsConstant a b ty out →
      ShowsSource a b registers types p (Constant ty v) out
  constant_shown ty v z same t u = record {
    grows = t.grows;
    shows = λ m r variables given g o typed. own_word m r out ty v typed (subst (λ (k : ℤ). IsWord m r out ty (wrapped ty k)) (same typed) (t.shows m r g o));
    wired = λ base is. u base (room a base types registers is);
  }

  pub variable_shown : (x : ℕ) (ty : IntegerType) → ShowsVariable a b registers types x ty out → IsVariableWord a b types registers ty out →
      ShowsSource a b registers types p (Variable x ty) out
  variable_shown x ty t u = record { grows = t.grows; shows = λ m r variables given g o is. t.shows m r (variables x) g o is; wired = u }

  pub value_shown : (k : ℕ) (register : Option ℕ) (ty : IntegerType) → register ≡ register_at p.registers k → ShowsRegister a b registers register ty out →
      ShowsSource a b registers types p (Value k ty) out
  value_shown k register ty same u =
      let t = subst (λ (n : Option ℕ). ShowsRegister a b registers n ty out) same u in
      record { grows = t.grows; shows = λ m r variables given g o is. t.shows m r (given k) g o is; wired = λ base is. t.wired base types is }

-- ---- an operand

pub word_shown : (a b c d : List Signal) (registers : Registers) (types conversions : List IntegerType) (p : BlockPlan) (ty : IntegerType) (operand : Operand)
    (first own out : Word) →
    conversions ≡ operand.conversions → ShowsSource a b registers types p operand.source first → Converts b c first conversions own → AreConverted b c first conversions own →
    Becomes c d own ty (wrapped ty) out → IsConverted c d own ty out → ShowsUnitWord a d registers types p ty operand out
word_shown a b c d registers types conversions p ty operand first own out same t u uw v vw = record {
  grows = grows_then a b d t.grows (grows_then b c d u.grows v.grows);
  shows = λ m r variables given g o is.
      let to_c = grows_then c d m.signals v.grows g in
      let to_b = grows_then b c m.signals u.grows to_c in
      let all = subst (λ (l : List IntegerType). Converts b c first l own) same u in
      v.shows m r (operand_type operand) (operand_value variables given (operand_view operand)) g o
      (all.shows m r (source_type operand.source) variables given (source_view operand.source) to_c o (t.shows m r variables given to_b o is));
  wired = λ base is.
      let p = t.wired base is in
      let all = subst (λ (l : List IntegerType). AreConverted b c first l own) same uw in
      let q = all base (source_type operand.source) p.word in
      let last = vw base (operand_type operand) q.word in
      word_after base a c d ty out (wires_then base a b c p.wires q.wires) last;
}
