-- Operands are seen: lemmas of each function that puts the word of an operand together.
use Rattle.std.proofs.Common.{◌≡◌, ℕ, ◌-◌, ◌^◌, ◌<◌, Bool, true, false, List, [], ◌∷◌, ◌++◌}
use Rattle.std.proofs.Common.{slice_get, Some, ℤ, pos, negsuc, FitsSigned, refl, sym, ap, subst, ◌∙◌, arith}
use Rattle.std.specs.Prelude.{Result, IfOk}
use Rattle.netlist.specs.declared.netlist.Signal.{Signal}
use Rattle.netlist.specs.declared.netlist.Module.{Module}
use Rattle.verilog_meaning.specs.Readings.{Reading, width}
use Rattle.hls_ints.specs.Types.{IntegerType, HasType, width_of, wrapped}
use Rattle.hls_ints.specs.Types.{bits}
use Rattle.hls_ints.specs.Types as types
use Rattle.hls_ints.proofs.Ranges.{bits-at_most}
use Rattle.std.proofs.Math.Pow.{pow_mono}
use mir.Syntax.{w128}
use Rattle.hls_ints.proofs.Conversions.{wrapped-same}
use Rattle.block_ir.specs.declared.operand.Source.{Source}
use Rattle.block_ir.specs.declared.operand.Source.TheVariants.{Constant}
use Rattle.block_ir.specs.declared.operand.Operand.{Operand}
use Rattle.planned_block.specs.Block.{operand_value, Operand as PlannedOperand, Through}
use Rattle.thread_promise.specs.View.{source_view, converted_to}
use Rattle.operator_wires.specs.declared.words.Word.{Word}
use Rattle.operator_wires.specs.Words.{IsWord, Holds, Becomes}
use Rattle.operator_wires.proofs.PutSignals.{grows_refl, grows_then}
use Rattle.operator_wires.proofs.MadeWords.{of_ok}
use Rattle.block_datapath.specs.declared.registers.Held.{Held}
use Rattle.block_datapath.specs.declared.registers.Registers.{Registers}
use Rattle.block_datapath.specs.declared.operands.Given.{Given}
use Rattle.thread_promise.specs.Types.{last_type, source_type}
use Rattle.block_datapath.specs.Seen.{IsGiven, ShowsVariable, ShowsGiven, ShowsValue, ShowsSource, ShowsOperand, Converts}

-- a value of its own type stays under a conversion
pub own_word : (m : Module) (r : Reading) (out : Word) (ty : IntegerType) (v : ℤ) → HasType ty v → IsWord m r out ty (wrapped ty v) → IsWord m r out ty v
own_word m r out ty v typed is = subst (λ (z : ℤ). IsWord m r out ty z) (wrapped-same ty v typed) is

-- ---- constants and variables

typed_by : (signed : Bool) (W : types.Width) (v : ℤ) → HasType (record { width = W; signed = signed }) v → FitsSigned w128 v
typed_by true W (pos n) h =
    let most = bits-at_most W in
    let below : n < 2 ^ (bits W - 1) = grind arith in
    let power = pow_mono {i = bits W - 1} {j = 127} (omega arith) in
    record { sfits = omega arith }
typed_by true W (negsuc n) h =
    let most = bits-at_most W in
    let below : n < 2 ^ (bits W - 1) = grind arith in
    let power = pow_mono {i = bits W - 1} {j = 127} (omega arith) in
    record { sfits = omega arith }
typed_by false W (pos n) h =
    let most = bits-at_most W in
    let below : n < 2 ^ bits W = grind arith in
    let power = pow_mono {i = bits W} {j = 127} (omega arith) in
    record { sfits = omega arith }
typed_by false W (negsuc n) h = absurd cc

-- the values of a type fit 128 bits
pub fits_typed : (ty : IntegerType) (v : ℤ) → HasType ty v → FitsSigned w128 v
fits_typed ty v h = typed_by ty.signed ty.width v h

pub constant_source : {E : Type 0} (x : Result Word E) (a b : List Signal) (registers : Registers) (types : List IntegerType) (values : List Given) (state : ℕ) (source : Source)
    (ty :
    IntegerType) (v z : ℤ)
    → (HasType ty v → z ≡ v) → source ≡ Constant ty v → IfOk x (Holds a b ty (wrapped ty z)) → IfOk x (ShowsSource a b registers types values state source)
constant_source x a b registers types values state source ty v z same e made =
    subst (λ (s : Source). IfOk x (ShowsSource a b registers types values state s)) (sym e)
    (of_ok x (Holds a b ty (wrapped ty z)) (ShowsSource a b registers types values state (Constant ty v))
    (λ out t. record {
      grows = t.grows;
      shows = λ m r variables given g o typed. own_word m r out ty v typed (subst (λ (k : ℤ). IsWord m r out ty (wrapped ty k)) (same typed) (t.shows m r g o));
    }) made)

pub variable_shown : {E : Type 0} (x : Result Word E) (a b : List Signal) (registers : Registers) (types : List IntegerType) (k : ℕ) (ty own : IntegerType) (held : Held)
    (word : Word)
    → slice_get registers.variables k ≡ Some held → slice_get types k ≡ Some own → word.place ≡ held.register → word.width ≡ width_of own → word.signed ≡ own.signed
    → IfOk x (Becomes a b word ty (wrapped ty)) → IfOk x (ShowsVariable a b registers types k ty)
variable_shown x a b registers types k ty own held word e f place wide sign made =
    of_ok x (Becomes a b word ty (wrapped ty)) (ShowsVariable a b registers types k ty)
    (λ out t. record {
      grows = t.grows;
      shows = λ m r v g o is.
          let h = is.declared in
          let l = is.listed in
          let same : own ≡ ty = cc in
          let there : held ≡ is.held = cc in
          let at : word.place ≡ is.held.register = place ∙ ap (λ (n : Held). n.register) there in
          own_word m r out ty v is.typed
          (t.shows m r ty v g o (record {
            says = wide ∙ ap width_of same;
            sign = sign ∙ ap (λ (n : IntegerType). n.signed) same;
            wide = ap (width m) at ∙ is.wide;
            shows = ap r.signal at ∙ is.shows;
            typed = is.typed;
          }));
    }) made

-- ---- values of earlier operations

pub value_shown : {E : Type 0} (x : Result Word E) (a b c : List Signal) (registers : Registers) (values : List Given) (state k : ℕ) (ty : IntegerType) (given : Given)
    (word : Word)
    → slice_get values k ≡ Some given → ShowsGiven a b registers given state word → IfOk x (Becomes b c word ty (wrapped ty)) → IfOk x (ShowsValue a c registers values state k ty)
value_shown x a b c registers values state k ty given word e t made =
    of_ok x (Becomes b c word ty (wrapped ty)) (ShowsValue a c registers values state k ty)
    (λ out u. record {
      grows = grows_then a b c t.grows u.grows;
      shows = λ m r v g o is.
          let l = is.listed in
          let same : is.given ≡ given = cc in
          let here = subst (λ (n : Given). IsGiven m r registers n state ty v) same is.is in
          let first = t.shows m r ty v (grows_then b c m.signals u.grows g) o here in
          own_word m r out ty v first.typed (u.shows m r ty v g o first);
    }) made

-- ---- conversions

pub converts_none : (a : List Signal) (word : Word) → Converts a a word [] word
converts_none a word = record { grows = grows_refl a; shows = λ m r from variables given o g obeys is. is }

converted_more : (types : List IntegerType) (t : IntegerType) (o : PlannedOperand) → converted_to (types ++ t ∷ []) o ≡ Through (wrapped t) (converted_to types o)
converted_more [] t o = refl
converted_more (s ∷ types) t o = converted_more types t (Through (wrapped s) o)

pub last_more : (types : List IntegerType) (t from : IntegerType) → last_type from (types ++ t ∷ []) ≡ t
last_more [] t from = refl
last_more (s ∷ types) t from = last_more types t s

pub converts_more : (a b c : List Signal) (word middle out : Word) (types : List IntegerType) (t : IntegerType) → Converts a b word types middle →
    Becomes b c middle t (wrapped t) out
    → Converts a c word (types ++ t ∷ []) out
converts_more a b c word middle out types t u v = record {
  grows = grows_then a b c u.grows v.grows;
  shows = λ m r from variables given o g obeys is.
      let first = u.shows m r from variables given o (grows_then b c m.signals v.grows g) obeys is in
      let next = v.shows m r (last_type from types) (operand_value variables given (converted_to types o)) g obeys first in
      subst (λ (z : PlannedOperand). IsWord m r out (last_type from (types ++ t ∷ [])) (operand_value variables given z)) (sym (converted_more types t o))
      (subst (λ (k : IntegerType). IsWord m r out k (wrapped t (operand_value variables given (converted_to types o)))) (sym (last_more types t from)) next);
}

pub operand_shown : {E : Type 0} (x : Result Word E) (a b c : List Signal) (registers : Registers) (types : List IntegerType) (values : List Given) (state : ℕ) (operand : Operand)
    (word : Word)
    → ShowsSource a b registers types values state operand.source word → IfOk x (Converts b c word operand.conversions) →
    IfOk x (ShowsOperand a c registers types values state operand)
operand_shown x a b c registers types values state operand word t made =
    of_ok x (Converts b c word operand.conversions) (ShowsOperand a c registers types values state operand)
    (λ out u. record {
      grows = grows_then a b c t.grows u.grows;
      shows = λ m r variables given g o seen.
          u.shows m r (source_type operand.source) variables given (source_view operand.source) g o
          (t.shows m r variables given (grows_then b c m.signals u.grows g) o seen);
    }) made
