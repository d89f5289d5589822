-- The operators of units: one more at the end.
use Rattle.std.proofs.Common.{◌≡◌, ◌≢◌, ℕ, ◌+◌, ◌<◌, List, [], ◌∷◌, ◌++◌, length, slice_get, slice_index, Some, refl, sym, ap, subst, ◌∙◌, ⊎_elim, length-append}
use Rattle.std.proofs.lemmas.Bool.{cases_eq}
use Rattle.std.proofs.lemmas.Option.{slice_get-get_or}
use Rattle.lists.proofs.Places.{get_last, get_earlier}
use Rattle.hls_ints.specs.Types.{IntegerType, width_of, wrapped}
use Rattle.hls_ints.proofs.Conversions.{residue_of-wrapped, wrapped-range}
use Rattle.c_program.specs.declared.tree.BinaryOperator.{BinaryOperator}
use Rattle.block_ir.specs.Arithmetic.{binary_total}
use Rattle.operator_words.specs.Shown.{binary_result}
use Rattle.netlist.specs.declared.netlist.Signal.{Signal}
use Rattle.verilog_meaning.specs.Readings.{width}
use Rattle.operator_wires.specs.declared.words.Word.{Word}
use Rattle.operator_wires.specs.Words.{IsWord, Combine}
use Rattle.operator_wires.specs.Built.{IsEarlier, StandsAs}
use Rattle.operator_wires.specs.Added.{IsOfTwo}
use Rattle.operator_wires.proofs.PutSignals.{grows_refl, grows_then}
use Rattle.operator_wires.proofs.BuiltWires.{stands_after, wires_none, wires_then}
use Rattle.block_datapath.specs.Units.{word_at}
use Rattle.unit_datapath.specs.declared.inputs.UnitInputs.{UnitInputs}
use Rattle.unit_datapath.specs.Results.{ShowsResults}

last_is : {X : Type 0} (xs : List X) (y z : X) (x : ℕ) → x ≡ length xs → slice_get (xs ++ y ∷ []) x ≡ Some z → y ≡ z
last_is xs y z x at e = let one = get_last xs y in let two = ap (slice_get (xs ++ y ∷ [])) at in cc

pub results_none : (a : List Signal) (c : UnitInputs) (operator : BinaryOperator) (ty : IntegerType) (places : List ℕ) → places ≡ [] → ShowsResults a a c operator ty 0 places
results_none a c operator ty places none = record {
  grows = grows_refl a;
  count = ap length none;
  shows = λ m r x place v w g o e wide gets. absurd (let f = ap (λ (l : List ℕ). slice_get l x) none in cc);
  wired = λ base many is. record {
    wires = wires_none base a;
    stand = record { count = ap length none; each = λ x y e. absurd (let f = ap (λ (l : List ℕ). slice_get l x) none in cc) };
  };
}

module _ (a b d : List Signal) (c : UnitInputs) (operator : BinaryOperator) (ty : IntegerType) (n : ℕ) (left right out : Word) (places : List ℕ) where
  pub results_more : ShowsResults a b c operator ty n places → n < length c.lefts → n < length c.rights → left.place ≡ slice_index c.lefts n → left.width ≡ width_of ty →
      left.signed ≡ ty.signed → right.place ≡ slice_index c.rights n → right.width ≡ width_of ty → right.signed ≡ ty.signed →
      Combine b d left right (binary_result operator ty) (binary_total operator ty) out → IsOfTwo b d left right (binary_result operator ty) out →
      ShowsResults a d c operator ty (n + 1) (places ++ out.place ∷ [])
  results_more t less few at says sign at2 says2 sign2 u uw = record {
    grows = grows_then a b d t.grows u.grows;
    count = length-append places (out.place ∷ []) ∙ ap (λ (k : ℕ). k + 1) t.count;
    shows = λ m r x place v w g o e wide gets.
        ⊎_elim
        (λ (same : x ≡ length places).
        let here : x ≡ n = same ∙ t.count in
        let one : IsWord m r left ty (wrapped ty v) = record {
          says = says;
          sign = sign;
          wide = ap (width m) (at ∙ ap (slice_index c.lefts) (sym here)) ∙ wide.left;
          shows = ap r.signal (at ∙ ap (slice_index c.lefts) (sym here)) ∙ gets.left ∙ sym (residue_of-wrapped ty v);
          typed = wrapped-range ty v;
        } in
        let two : IsWord m r right ty (wrapped ty w) = record {
          says = says2;
          sign = sign2;
          wide = ap (width m) (at2 ∙ ap (slice_index c.rights) (sym here)) ∙ wide.right;
          shows = ap r.signal (at2 ∙ ap (slice_index c.rights) (sym here)) ∙ gets.right ∙ sym (residue_of-wrapped ty w);
          typed = wrapped-range ty w;
        } in
        let word = u.shows m r ty ty (wrapped ty v) (wrapped ty w) g o one two in
        subst (λ (k : ℕ). IsWord m r (word_at k (binary_result operator ty)) (binary_result operator ty) (binary_total operator ty (wrapped ty v) (wrapped ty w)))
        (last_is places out.place place x same e)
        (record { says = refl; sign = refl; wide = word.wide; shows = word.shows; typed = word.typed }))
        (λ (ne : x ≢ length places). t.shows m r x place v w (grows_then b d m.signals u.grows g) o (get_earlier places out.place x place ne e) wide gets)
        (cases_eq x (length places));
    wired = λ base many is.
        let first = t.wired base many is in
        let more = first.wires.grows in
        let one : StandsAs b base ty left = record {
          says = says;
          sign = sign;
          stands = subst (λ (k : ℕ). IsEarlier b base k (width_of ty)) (sym at)
              (stands_after a b base (slice_index c.lefts n) (width_of ty) more (is.lefts.each n (slice_index c.lefts n) (slice_get-get_or c.lefts n 0 less)));
        } in
        let two : StandsAs b base ty right = record {
          says = says2;
          sign = sign2;
          stands = subst (λ (k : ℕ). IsEarlier b base k (width_of ty)) (sym at2)
              (stands_after a b base (slice_index c.rights n) (width_of ty) more (is.rights.each n (slice_index c.rights n) (slice_get-get_or c.rights n 0 few)));
        } in
        let last = uw base ty ty one two in
        record {
          wires = wires_then base a b d first.wires last.wires;
          stand = record {
            count = length-append places (out.place ∷ []) ∙ ap (λ (k : ℕ). k + 1) t.count;
            each = λ x y e.
                ⊎_elim
                (λ (same : x ≡ length places).
                subst (λ (k : ℕ). IsEarlier d base k (width_of (binary_result operator ty))) (last_is places out.place y x same e) last.word.stands)
                (λ (ne : x ≢ length places).
                stands_after b d base y (width_of (binary_result operator ty)) last.wires.grows (first.stand.each x y (get_earlier places out.place x y ne e)))
                (cases_eq x (length places));
          };
        };
  }
