-- The end of a block: lemmas of what variables get, and of the stage that follows.
use Rattle.std.proofs.Common.{◌≡◌, ◌≢◌, ℕ, ◌+◌, ◌<◌, Bool, not, ◌&&◌, nat_eq, if◌then◌else◌, List, [], ◌∷◌, ◌++◌, length, slice_get, Option, Some}
use Rattle.std.proofs.Common.{refl, sym, ap, subst, ◌∙◌, arith, ⊎_elim, add-one, length-append, min}
use Rattle.std.specs.Prelude.{Result, IfOk}
use Rattle.std.proofs.lemmas.Bool.{cases_eq}
use Rattle.lists.proofs.Places.{get_last, get_front}
use Rattle.netlist.specs.declared.netlist.Signal.{Signal}
use Rattle.hls_ints.specs.Types.{IntegerType, wrapped}
use Rattle.hls_ints.specs.Operators.{is_zero}
use Rattle.block_ir.specs.declared.operand.Operand.{Operand}
use Rattle.block_ir.specs.declared.block.Final.{Final}
use Rattle.block_ir.specs.declared.block.Next.TheVariants.{Branch}
use Rattle.block_ir.specs.declared.code.ThreadCode.{ThreadCode}
use Rattle.planned_block.specs.Advance.{last_of}
use Rattle.operator_wires.specs.declared.words.Word.{Word}
use Rattle.operator_wires.specs.Gives.{Grows, Gives}
use Rattle.operator_wires.specs.Words.{IsWord, Becomes, TestsZero}
use Rattle.operator_wires.proofs.PutSignals.{grows_refl, grows_then}
use Rattle.operator_wires.proofs.MadeWords.{of_ok}
use Rattle.operator_wires.proofs.Bits.{chosen_by, set_bit}
use Rattle.block_datapath.specs.declared.registers.Registers.{Registers}
use Rattle.block_datapath.specs.declared.operands.Given.{Given}
use Rattle.block_datapath.specs.declared.ending.Finish.{Finish}
use Rattle.thread_promise.specs.Types.{operand_type}
use Rattle.block_datapath.specs.Seen.{SeesSource, ShowsOperand}
use Rattle.block_datapath.specs.Operations.{seen_value}
use Rattle.block_datapath.specs.Chains.{next_number, is_set, SetsNext}
use Rattle.block_datapath.specs.Ending.{BecomesOwn, IsFinal, ShowsFinal, ShowsFinals, ShowsNext, finishes_in, finish_number, SetsFirst}
use Rattle.block_datapath.proofs.OperandWords.{own_word}

-- ---- words of variables

pub own_answer : {E : Type 0} (x : Result Word E) (a b : List Signal) (types : List IntegerType) (number : ℕ) (word : Word) (own : IntegerType) → slice_get types number ≡ Some own
    → IfOk x (Becomes a b word own (wrapped own)) → IfOk x (BecomesOwn a b types number word)
own_answer x a b types number word own e made =
    of_ok x (Becomes a b word own (wrapped own)) (BecomesOwn a b types number word)
    (λ out t. record {
      grows = t.grows;
      shows = λ m r ty v g o listed is.
          let same : ty ≡ own = cc in
          let here : IsWord m r word own v = subst (λ (k : IntegerType). IsWord m r word k v) same is in
          subst (λ (k : IntegerType). IsWord m r out k v) (sym same) (own_word m r out own v here.typed (t.shows m r own v g o here));
    }) made

pub final_made : (registers : Registers) (code : ThreadCode) (values : List Given) (state : ℕ) (a b c : List Signal) (f : Final) (word : Word) (out : Finish)
    (types : List IntegerType)
    → types ≡ code.variables → ShowsOperand a b registers types values state f.value word → BecomesOwn b c types f.variable word out.word → out.variable ≡ f.variable
    → ShowsFinal registers code values state a c f out
final_made registers code values state a b c f word out types e t u variable = record {
  grows = grows_then a b c t.grows u.grows;
  is = record {
    variable = variable;
    shows = λ m r variables given ty g o seen listed kind.
        let there : slice_get types f.variable ≡ Some ty = ap (λ (l : List IntegerType). slice_get l f.variable) e ∙ listed in
        let source = subst (λ (l : List IntegerType). SeesSource m r registers l values state variables given f.value.source) (sym e) seen in
        let first = t.shows m r variables given (grows_then b c m.signals u.grows g) o source in
        u.shows m r ty (seen_value variables given f.value) g o there (subst (λ (k : IntegerType). IsWord m r word k (seen_value variables given f.value)) kind first);
  };
}

-- ---- all of them

pub finals_none : (registers : Registers) (code : ThreadCode) (values : List Given) (state : ℕ) (a : List Signal) (finals : List Final) →
    ShowsFinals registers code values state a a finals 0 []
finals_none registers code values state a finals = record { grows = grows_refl a; count = refl; each = λ k f lt listed. absurd (omega arith) }

final_lifted : (registers : Registers) (code : ThreadCode) (values : List Given) (state : ℕ) (a b : List Signal) (f : Final) (out : Finish) → Grows a b
    → IsFinal registers code values state a f out → IsFinal registers code values state b f out
final_lifted registers code values state a b f out grows is = record {
  variable = is.variable;
  shows = λ m r variables given ty g. is.shows m r variables given ty (grows_then a b m.signals grows g);
}

pub finals_more : (registers : Registers) (code : ThreadCode) (values : List Given) (state : ℕ) (a b c : List Signal) (finals : List Final) (n : ℕ) (finishes after : List Finish)
    (f : Final)
    (out : Finish) → ShowsFinals registers code values state a b finals n finishes → slice_get finals n ≡ Some f → ShowsFinal registers code values state b c f out
    → after ≡ finishes ++ out ∷ [] → ShowsFinals registers code values state a c finals (n + 1) after
finals_more registers code values state a b c finals n finishes after f out t listed u e =
    subst (λ (l : List Finish). ShowsFinals registers code values state a c finals (n + 1) l) (sym e)
    (record {
      grows = grows_then a b c t.grows u.grows;
      count = length-append finishes (out ∷ []) ∙ ap (λ k. k + 1) t.count;
      each = λ k g lt there. ⊎_elim (now k g there) (earlier k g lt there) (cases_eq k n);
    })
  where
    now : (k : ℕ) (g : Final) → slice_get finals k ≡ Some g → k ≡ n
        → (o : Finish) × (slice_get (finishes ++ out ∷ []) k ≡ Some o) × IsFinal registers code values state c g o
    now k g there same =
        let one : f ≡ g = cc in (
          out,
          ap (slice_get (finishes ++ out ∷ [])) (same ∙ sym t.count) ∙ get_last finishes out,
          subst (λ (z : Final). IsFinal registers code values state c z out) one u.is,
        )

    earlier : (k : ℕ) (g : Final) → k < n + 1 → slice_get finals k ≡ Some g → k ≢ n
        → (o : Finish) × (slice_get (finishes ++ out ∷ []) k ≡ Some o) × IsFinal registers code values state c g o
    earlier k g lt there ne =
        let less : k < n = omega arith in
        let s = t.each k g less there in
        (s.0, get_front finishes (out ∷ []) k s.0 s.1, final_lifted registers code values state b c g s.0 u.grows s.2)

-- ---- chains of variables

pub sets_none : (a : List Signal) (last : ℕ) (before : List ℕ) (finishes : List Finish) → SetsFirst a a last before before finishes 0
sets_none a last before finishes = record { grows = grows_refl a; count = refl; shows = λ m r t x g o is less. refl }

pub sets_more : (a b c : List Signal) (last : ℕ) (before middle after : List ℕ) (finishes : List Finish) (n : ℕ) (f : Finish) → SetsFirst a b last before middle finishes n
    → slice_get finishes n ≡ Some f → SetsNext b c middle after f.variable last f.word.place → SetsFirst a c last before after finishes (n + 1)
sets_more a b c last before middle after finishes n f t listed u = record {
  grows = grows_then a b c t.grows u.grows;
  count = u.count ∙ t.count;
  shows = λ m r k x g o is less.
      let test : ℕ → Bool = λ j. finishes_in (slice_get finishes j) x && k in
      let number : ℕ → ℕ = λ j. finish_number r (slice_get finishes j) in
      let middle_less : x < length middle = subst (λ (z : ℕ). x < z) (sym t.count) less in
      let bit : is_set r last ≡ k = ap (λ z. not (nat_eq z 0)) is ∙ set_bit k in
      u.shows m r x g o middle_less
      ∙ ap (λ (z : Bool). if nat_eq x f.variable && z then r.signal f.word.place else next_number r middle x) bit
      ∙ ap (λ (z : ℕ). if nat_eq x f.variable && k then r.signal f.word.place else z) (t.shows m r k x (grows_then b c m.signals u.grows g) o is less)
      ∙ ap (λ (z : Option Finish). if finishes_in z x && k then finish_number r z else last_of test number (next_number r before x) n) (sym listed)
      ∙ ap (last_of test number (next_number r before x)) (sym (add-one n));
}

-- ---- the stage that follows

pub branch_shown : {E : Type 0} (x : Result ℕ E) (registers : Registers) (code : ThreadCode) (values : List Given) (state : ℕ) (a b c d e f : List Signal) (test : Operand)
    (nonzero otherwise : ℕ)
    (word : Word) (bit yes_place no_place : ℕ) (types : List IntegerType) → types ≡ code.variables → ShowsOperand a b registers types values state test word →
    TestsZero b c word bit
    → Gives c d no_place registers.stage.width (λ m r. min nonzero (length code.stages)) → Gives d e yes_place registers.stage.width (λ m r. min otherwise (length code.stages))
    → IfOk x (λ place. Gives e f place registers.stage.width (λ m r. if nat_eq (r.signal bit) 0 then r.signal no_place else r.signal yes_place))
    → IfOk x (ShowsNext registers code values state a f (Branch test nonzero otherwise))
branch_shown x registers code values state a b c d e f test nonzero otherwise word bit yes_place no_place types same t u v w made =
    of_ok x (λ place. Gives e f place registers.stage.width (λ m r. if nat_eq (r.signal bit) 0 then r.signal no_place else r.signal yes_place))
    (ShowsNext registers code values state a f (Branch test nonzero otherwise))
    (λ place last. record {
      grows = grows_then a b f t.grows (grows_then b c f u.grows (grows_then c d f v.grows (grows_then d e f w.grows last.grows)));
      wide = last.wide;
      shows = λ m r variables given g o seen.
          let ge = grows_then e f m.signals last.grows g in
          let gd = grows_then d e m.signals w.grows ge in
          let gc = grows_then c d m.signals v.grows gd in
          let gb = grows_then b c m.signals u.grows gc in
          let source = subst (λ (l : List IntegerType). SeesSource m r registers l values state variables given test.source) (sym same) seen in
          let told = u.shows m r (operand_type test) (seen_value variables given test) gc o (t.shows m r variables given gb o source) in
          last.shows m r g o
          ∙ ap (λ z. if nat_eq z 0 then r.signal no_place else r.signal yes_place) told
          ∙ chosen_by (is_zero (seen_value variables given test)) (r.signal yes_place) (r.signal no_place)
          ∙ ap (λ z. if is_zero (seen_value variables given test) then z else r.signal no_place) (w.shows m r ge o)
          ∙ ap (λ z. if is_zero (seen_value variables given test) then min otherwise (length code.stages) else z) (v.shows m r gd o);
    }) made
