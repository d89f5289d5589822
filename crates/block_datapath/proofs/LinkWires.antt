-- Links of chains are wires: lemmas of each function that adds one, and of a block that is left.
use Rattle.std.proofs.Common.{◌≡◌, ℕ, zero, suc, ◌<◌, ◌≤◌, ◌^◌, ◌⊎◌, inl, inr, ⊎_elim, true, false, List, [], ◌∷◌}
use Rattle.std.proofs.Common.{◌++◌, length, slice_get, slice_set, Some, None, max, refl, sym, ap, subst, ◌∙◌, arith}
use Rattle.std.specs.Prelude.{Result, IfOk}
use Rattle.std.proofs.lemmas.List.{length-set}
use Rattle.std.proofs.lemmas.Nat.{pow_pos}
use Rattle.lists.proofs.Places.{get_there}
use Rattle.netlist.specs.declared.netlist.Signal.{Signal}
use Rattle.hls_ints.specs.Types.{IntegerType, width_of}
use Rattle.block_ir.specs.declared.code.ThreadCode.{ThreadCode}
use Rattle.block_ir.specs.declared.plan.BlockPlan.{BlockPlan}
use Rattle.operator_wires.specs.declared.words.Word.{Word}
use Rattle.operator_wires.specs.Gives.{Grows}
use Rattle.operator_wires.specs.Built.{Base, IsEarlier}
use Rattle.operator_wires.proofs.PutSignals.{grows_then}
use Rattle.operator_wires.specs.Added.{ConstantAdds, ResizedAdds, NumberAdds, ChoiceAdds, BothAdds, IsConverted, BitOfOne}
use Rattle.operator_wires.proofs.BuiltWires.{stands_after, room_of, wires_none, wires_then, adds_after}
use Rattle.operator_wires.proofs.TypedWords.{own}
use Rattle.operator_wires.proofs.MadeWords.{of_ok}
use Rattle.block_datapath.specs.declared.registers.Held.{Held}
use Rattle.block_datapath.specs.declared.registers.Registers.{Registers}
use Rattle.block_datapath.specs.declared.operands.Given.{Given}
use Rattle.block_datapath.specs.declared.states.Moment.{Moment}
use Rattle.block_datapath.specs.declared.ending.Finish.{Finish}
use Rattle.block_datapath.specs.declared.leaving_block.Left.{Left}
use Rattle.block_datapath.specs.Wired.{AreValues, AreSources, IsOwnWord, AreFinishes, AreChains, HasWidthAt, AddsLinks}
use Rattle.block_datapath.specs.Wired.{IsSourced, AreGiven, IsStateBit, IsBitOfState, IsLinked, KeepsLinks}
use Rattle.block_datapath.specs.Wired.{GivenStands, ValuesStand, IsOwnAdded, IsFinishAdded, AreFinishesAdded, SetsLinks}
use Rattle.block_datapath.specs.Wired.{IsStageNumber, IsTarget, IsBlockAdded, IsKeptBlockAdded}
use Rattle.block_datapath.proofs.BlockWires.{registers_after, values_after, sources_after, word_stands_after, room}

-- ---- one number of a list is set

abbrev IsSetOr : List ℕ → ℕ → ℕ → ℕ → ℕ → Type 0
IsSetOr a j v x y = ((x ≡ j) × (v ≡ y)) ⊎ (slice_get a x ≡ Some y)

set_at : (a : List ℕ) (j v x y : ℕ) → slice_get (slice_set a j v) x ≡ Some y → IsSetOr a j v x y
set_at [] j v x y e = absurd cc
set_at (u ∷ a) zero v zero y e = inl (refl, (let same : v ≡ y = cc in same))
set_at (u ∷ a) zero v (suc x) y e = inr e
set_at (u ∷ a) (suc j) v zero y e = inr e
set_at (u ∷ a) (suc j) v (suc x) y e =
    ⊎_elim (λ (l : (x ≡ j) × (v ≡ y)). inl (ap suc l.0, l.1)) (λ (r : slice_get a x ≡ Some y). inr r) (set_at a j v x y e)

-- ---- chains

pub chains_after : (a b : List Signal) (base : Base) (registers : List Held) (nexts : List ℕ) → Grows a b → AreChains a base registers nexts → AreChains b base registers nexts
chains_after a b base registers nexts g is = record { count = is.count; each = λ x y h e f. stands_after a b base y h.width g (is.each x y h e f) }

pub links_none : (a : List Signal) (base : Base) (registers : List Held) (nexts : List ℕ) → AreChains a base registers nexts → AddsLinks base a a registers nexts
links_none a base registers nexts is = record { wires = wires_none base a; chains = is }

pub link_none : (a : List Signal) (number width condition source : ℕ) (before : List ℕ) → IsLinked a a number width condition source before before
link_none a number width condition source before base registers is wide e f = links_none a base registers before is

pub link_set : (a b : List Signal) (number width condition source old next : ℕ) (before after : List ℕ) → slice_get before number ≡ Some old → number < length before
    → ChoiceAdds a b width condition source old next → after ≡ slice_set before number next → IsLinked a b number width condition source before after
link_set a b number width condition source old next before after listed within t is base registers chains wide e f =
    let count = chains.count in
    let h = get_there registers number (omega arith) in
    let w : h.0.width ≡ width = wide h.0 h.1 in
    let last : IsEarlier a base old width = subst (λ n. IsEarlier a base old n) w (chains.each number old h.0 h.1 listed) in
    let made = t base e f last in
    let set : AreChains b base registers (slice_set before number next) =
    record {
      count = length-set before number next ∙ count;
      each = λ x y k g l.
          ⊎_elim (λ (here : (x ≡ number) × (next ≡ y)).
          let at : slice_get registers number ≡ Some k = ap (slice_get registers) (sym here.0) ∙ g in
          subst (λ n. IsEarlier b base n k.width) here.1 (subst (λ n. IsEarlier b base next n) (sym (wide k at)) made.stands))
          (λ (other : slice_get before x ≡ Some y). stands_after a b base y k.width made.wires.grows (chains.each x y k g other))
          (set_at before number next x y l);
    } in
    record { wires = made.wires; chains = subst (λ (n : List ℕ). AreChains b base registers n) (sym is) set }

-- ---- stages and states

pub single_state : (a : List Signal) (registers : Registers) (moment : Moment) → IsStateBit a a registers moment moment.at
single_state a registers moment base e f room = record { wires = wires_none base a; stands = f }

pub known_state : {E : Type 0} (x : Result ℕ E) (a b : List Signal) (registers : Registers) (moment : Moment) → moment.state < moment.states →
    IfOk x (IsBitOfState a b registers moment)
    → IfOk x (IsStateBit a b registers moment)
known_state x a b registers moment less made =
    of_ok x (IsBitOfState a b registers moment) (IsStateBit a b registers moment) (λ place t base e f room. t base e f (omega arith)) made

pub unknown_state : {E : Type 0} (x : Result ℕ E) (a b : List Signal) (registers : Registers) (moment : Moment) → IfOk x (ConstantAdds a b 1 0) →
    IfOk x (IsStateBit a b registers moment)
unknown_state x a b registers moment made =
    of_ok x (ConstantAdds a b 1 0) (IsStateBit a b registers moment)
    (λ place t base e f room. t base (room_of a base moment.at 1 f) f.low f.high (pow_pos 1)) made

pub state_wired : {E : Type 0} (x : Result ℕ E) (a b c : List Signal) (registers : Registers) (moment : Moment) (bit : ℕ)
    → NumberAdds a b registers.state.width registers.state.register moment.state bit → IfOk x (BothAdds b c moment.at bit) → IfOk x (IsBitOfState a c registers moment)
state_wired x a b c registers moment bit t made =
    of_ok x (BothAdds b c moment.at bit) (IsBitOfState a c registers moment)
    (λ place u base e f less.
    let first = t base e less in
    adds_after base a b c 1 place first.wires (u base (stands_after a b base moment.at 1 first.wires.grows f) first.stands)) made

-- ---- registers for values

pub keeps_nothing : (a : List Signal) (registers : Registers) (at states : ℕ) (before : List ℕ) (P : Base → Type 0) → KeepsLinks a a registers at states before before P
keeps_nothing a registers at states before P base types is p e room chains = links_none a base registers.kept before chains

pub keep_wired : (a b c d : List Signal) (registers : Registers) (moment : Moment) (before after : List ℕ) (given : Given) (number condition source : ℕ) (held : Held)
    → slice_get registers.kept number ≡ Some held → IsStateBit a b registers moment condition → ResizedAdds b c given.word.place given.word.width held.width false source
    → IsLinked c d number held.width condition source before after → KeepsLinks a d registers moment.at moment.states before after (GivenStands a given)
keep_wired a b c d registers moment before after given number condition source held listed t u v base types is stands e room chains =
    let bit = t base is.state e room in
    let kept = is.kept number held listed in
    let wide = u base (stands_after a b base given.word.place given.word.width bit.wires.grows stands) kept.low kept.high (λ (none : false ≡ true). absurd cc) in
    let both = wires_then base a b c bit.wires wide.wires in
    let same : HasWidthAt registers.kept number held.width = λ k f. (let one : k ≡ held = cc in ap (λ (z : Held). z.width) one) in
    let link = v base registers.kept (chains_after a c base registers.kept before both.grows chains) same
    (stands_after b c base condition 1 wide.wires.grows bit.stands) wide.stands in
    record { wires = wires_then base a c d both link.wires; chains = link.chains }

given_stands : (a : List Signal) (base : Base) (values : List Given) (k : ℕ) (g : Given) → slice_get values k ≡ Some g → AreValues a base values → GivenStands a g base
given_stands a base values k g e is = let w = is k g e in own base a w.0 g.word w.1

pub keeps_one_more : (a b c : List Signal) (registers : Registers) (at states : ℕ) (before middle after : List ℕ) (values : List Given) (n : ℕ) (g : Given)
    → KeepsLinks a b registers at states before middle (ValuesStand a values) → slice_get values n ≡ Some g → KeepsLinks b c registers at states middle after (GivenStands b g)
    → KeepsLinks a c registers at states before after (ValuesStand a values)
keeps_one_more a b c registers at states before middle after values n g t listed u base types is stands e room chains =
    let first = t base types is stands e room chains in
    let g1 = first.wires.grows in
    let next = u base types (registers_after a b base types registers g1 is) (stands_after a b base g.word.place g.word.width g1 (given_stands a base values n g listed stands))
    (stands_after a b base at 1 g1 e) room first.chains in
    record { wires = wires_then base a b c first.wires next.wires; chains = next.chains }

-- ---- what variables get

pub own_converted : {E : Type 0} (x : Result Word E) (a b : List Signal) (types : List IntegerType) (number : ℕ) (word : Word) (ty : IntegerType) → slice_get types number ≡ Some ty
    → IfOk x (IsConverted a b word ty) → IfOk x (IsOwnAdded a b types number word)
own_converted x a b types number word ty listed made =
    of_ok x (IsConverted a b word ty) (IsOwnAdded a b types number word)
    (λ out t base from is.
    let w = t base from is in
    record { wires = w.wires; word = record { ty = ty; own = λ declared e. (let same : ty ≡ declared = cc in same); stands = w.word } }) made

pub own_missing : (a : List Signal) (types : List IntegerType) (number : ℕ) (word : Word) → slice_get types number ≡ None → IsOwnAdded a a types number word word
own_missing a types number word missing base from is = record { wires = wires_none base a; word = record { ty = from; own = λ declared e. absurd cc; stands = is } }

pub final_wired : (a b c : List Signal) (code : ThreadCode) (registers : Registers) (values : List Given) (number : ℕ) (ty : IntegerType) (word out : Word)
    → IsSourced a b code.variables registers values ty word → IsOwnAdded b c code.variables number word out → IsFinishAdded a c code registers values number out
final_wired a b c code registers values number ty word out t u base is =
    let first = t base is in
    let next = u base ty first.word in
    record { wires = wires_then base a b c first.wires next.wires; word = next.word }

own_after : (a b : List Signal) (base : Base) (types : List IntegerType) (number : ℕ) (word : Word) → Grows a b → IsOwnWord a base types number word →
    IsOwnWord b base types number word
own_after a b base types number word g is = record { ty = is.ty; own = is.own; stands = word_stands_after a b base is.ty word g is.stands }

pub finishes_after : (a b : List Signal) (base : Base) (types : List IntegerType) (finishes : List Finish) → Grows a b → AreFinishes a base types finishes →
    AreFinishes b base types finishes
finishes_after a b base types finishes g is k f e = own_after a b base types f.variable f.word g (is k f e)

finish_more : (a : List Signal) (base : Base) (types : List IntegerType) (finishes : List Finish) (f : Finish) → AreFinishes a base types finishes →
    IsOwnWord a base types f.variable f.word
    → AreFinishes a base types (finishes ++ f ∷ [])
finish_more a base types [] f is own zero v e = let same : f ≡ v = cc in subst (λ (z : Finish). IsOwnWord a base types z.variable z.word) same own
finish_more a base types [] f is own (suc k) v e = absurd cc
finish_more a base types (w ∷ finishes) f is own zero v e = is zero v e
finish_more a base types (w ∷ finishes) f is own (suc k) v e = finish_more a base types finishes f (λ j u g. is (suc j) u g) own k v e

pub finishes_none : (a : List Signal) (code : ThreadCode) (registers : Registers) (values : List Given) → AreFinishesAdded a a code registers values []
finishes_none a code registers values base is = record { wires = wires_none base a; finishes = λ k f e. absurd cc }

pub finishes_more : (a b c : List Signal) (code : ThreadCode) (registers : Registers) (values : List Given) (finishes after : List Finish) (f : Finish)
    → AreFinishesAdded a b code registers values finishes → IsFinishAdded b c code registers values f.variable f.word → after ≡ finishes ++ f ∷ []
    → AreFinishesAdded a c code registers values after
finishes_more a b c code registers values finishes after f t u e base is =
    let first = t base is in
    let next = u base (sources_after a b base code.variables registers values first.wires.grows is) in
    record {
      wires = wires_then base a b c first.wires next.wires;
      finishes = subst (λ (l : List Finish). AreFinishes c base code.variables l) (sym e)
          (finish_more c base code.variables finishes f (finishes_after b c base code.variables finishes next.wires.grows first.finishes) next.word);
    }

-- ---- chains of variables

pub sets_nothing : (a : List Signal) (last : ℕ) (before : List ℕ) (finishes : List Finish) → SetsLinks a a last before before finishes
sets_nothing a last before finishes base types registers is all e chains = links_none a base registers.variables before chains

pub sets_one_more : (a b c : List Signal) (last : ℕ) (before middle after : List ℕ) (finishes : List Finish) (n : ℕ) (f : Finish) → SetsLinks a b last before middle finishes
    → slice_get finishes n ≡ Some f → IsLinked b c f.variable f.word.width last f.word.place middle after → SetsLinks a c last before after finishes
sets_one_more a b c last before middle after finishes n f t listed u base types registers is all e chains =
    let first = t base types registers is all e chains in
    let g = first.wires.grows in
    let w = own_after a b base types f.variable f.word g (all n f listed) in
    let wide : HasWidthAt registers.variables f.variable f.word.width =
    λ h k.
    (let v = is.variables f.variable h k in
    let same : w.ty ≡ v.ty = w.own v.ty v.declared in
    v.says ∙ ap width_of (sym same) ∙ sym w.stands.says) in
    let link = u base registers.variables first.chains wide (stands_after a b base last 1 g e) (own base b w.ty f.word w.stands) in
    record { wires = wires_then base a b c first.wires link.wires; chains = link.chains }

-- ---- the stage that follows

pub number_wired : {E : Type 0} (x : Result ℕ E) (a b : List Signal) (code : ThreadCode) (registers : Registers) (stage number : ℕ) → number ≤ length code.stages
    → IfOk x (ConstantAdds a b registers.stage.width number) → IfOk x (IsStageNumber a b code registers)
number_wired x a b code registers stage number most made =
    of_ok x (ConstantAdds a b registers.stage.width number) (IsStageNumber a b code registers)
    (λ place t base e few. t base (room_of a base registers.stage.register registers.stage.width e) e.low e.high (omega arith)) made

pub jump_wired : {E : Type 0} (x : Result ℕ E) (a b : List Signal) (code : ThreadCode) (registers : Registers) (values : List Given) → IfOk x (IsStageNumber a b code registers)
    → IfOk x (IsTarget a b code registers values)
jump_wired x a b code registers values made =
    of_ok x (IsStageNumber a b code registers) (IsTarget a b code registers values) (λ place t base is few. t base is.registers.stage few) made

pub branch_wired : {E : Type 0} (x : Result ℕ E) (a b c d e f : List Signal) (code : ThreadCode) (registers : Registers) (values : List Given) (ty : IntegerType) (word : Word)
    (is_zero if_nonzero if_zero : ℕ) → IsSourced a b code.variables registers values ty word → BitOfOne b c word is_zero → IsStageNumber c d code registers if_nonzero
    → IsStageNumber d e code registers if_zero → IfOk x (ChoiceAdds e f registers.stage.width is_zero if_zero if_nonzero) → IfOk x (IsTarget a f code registers values)
branch_wired x a b c d e f code registers values ty word is_zero if_nonzero if_zero t u v w made =
    of_ok x (ChoiceAdds e f registers.stage.width is_zero if_zero if_nonzero) (IsTarget a f code registers values)
    (λ place choice base is few.
    let first = t base is in
    let test = u base ty first.word in
    let to_c = wires_then base a b c first.wires test.wires in
    let register = is.registers.stage in
    let wide = registers.stage.width in
    let at = registers.stage.register in
    let one = v base (stands_after a c base at wide to_c.grows register) few in
    let to_d = wires_then base a c d to_c one.wires in
    let other = w base (stands_after a d base at wide to_d.grows register) few in
    let to_e = wires_then base a d e to_d other.wires in
    let both = grows_then c d e one.wires.grows other.wires.grows in
    let made = choice base (stands_after c e base is_zero 1 both test.stands) other.stands (stands_after d e base if_nonzero wide other.wires.grows one.stands) in
    adds_after base a e f wide place to_e made) made

-- ---- a block that is left

pub block_wired : (a b c d e f g : List Signal) (code : ThreadCode) (registers : Registers) (stage : ℕ) (plan : BlockPlan) (before after : List ℕ) (values : List Given)
    (finishes : List Finish) (end : Moment) (last target at : ℕ) (left : Left)
    → NumberAdds a b registers.stage.width registers.stage.register stage at → AreGiven b c code registers values → AreFinishesAdded c d code registers values finishes
    → IsTarget d e code registers values target → IsStateBit e f registers end last → SetsLinks f g last before after finishes → end.at ≡ at → end.states ≡ max 1 plan.states
    → left.values ≡ values → left.end ≡ end → left.last ≡ last → left.target ≡ target → IsBlockAdded a g code registers stage plan before after left
block_wired a b c d e f g code registers stage plan before after values finishes end last target at left told given finals leads state sets at_is states_are same_values same_end
    same_last
    same_target base fits is chains =
    let types = code.variables in
    let first = told base is.stage fits.stage in
    let in_b = registers_after a b base types registers first.wires.grows is in
    let made = given base fits.reads in_b in
    let in_c : AreSources c base types registers values = record { registers = registers_after b c base types registers made.wires.grows in_b; values = made.values } in
    let ends = finals base in_c in
    let in_d = sources_after c d base types registers values ends.wires.grows in_c in
    let to = leads base in_d fits.stages in
    let in_e = sources_after d e base types registers values to.wires.grows in_d in
    let c_to_e = wires_then base c d e ends.wires to.wires in
    let b_to_e = wires_then base b c e made.wires c_to_e in
    let bit_e : IsEarlier e base end.at 1 = subst (λ n. IsEarlier e base n 1) (sym at_is) (stands_after b e base at 1 b_to_e.grows first.stands) in
    let some_states = pow_pos registers.state.width in
    let fit_states = fits.states in
    let few : end.states ≤ 2 ^ registers.state.width = subst (λ n. n ≤ 2 ^ registers.state.width) (sym states_are)
    (let m : max 1 plan.states ≤ 2 ^ registers.state.width = grind arith in m) in
    let there = state base in_e.registers.state bit_e few in
    let in_f = registers_after e f base types registers there.wires.grows in_e.registers in
    let a_to_e = wires_then base a b e first.wires b_to_e in
    let a_to_f = wires_then base a e f a_to_e there.wires in
    let d_to_f = grows_then d e f to.wires.grows there.wires.grows in
    let linked = sets base types registers in_f (finishes_after d f base types finishes d_to_f ends.finishes) there.stands
    (chains_after a f base registers.variables before a_to_f.grows chains) in
    let f_to_g = linked.wires.grows in
    let e_to_g = grows_then e f g there.wires.grows f_to_g in
    let last_g : IsEarlier g base last 1 = stands_after f g base last 1 f_to_g there.stands in
    let target_g : IsEarlier g base target registers.stage.width = stands_after e g base target registers.stage.width e_to_g to.stands in
    let at_g : IsEarlier g base end.at 1 = stands_after e g base end.at 1 e_to_g bit_e in
    let values_g : AreValues g base values = values_after e g base values e_to_g in_e.values in
    record {
      wires = wires_then base a f g a_to_f linked.wires;
      values = subst (λ (l : List Given). AreValues g base l) (sym same_values) values_g;
      at = subst (λ (m : Moment). IsEarlier g base m.at 1) (sym same_end) at_g;
      states = subst (λ (m : Moment). m.states ≤ 2 ^ registers.state.width) (sym same_end) few;
      last = subst (λ n. IsEarlier g base n 1) (sym same_last) last_g;
      target = subst (λ n. IsEarlier g base n registers.stage.width) (sym same_target) target_g;
      chains = linked.chains;
    }

pub kept_block_wired : (a b c : List Signal) (code : ThreadCode) (registers : Registers) (stage : ℕ) (plan : BlockPlan) (before after kept kept_after : List ℕ) (left : Left)
    (values : List Given)
    → values ≡ left.values → left.end.states ≡ max 1 plan.states → IsBlockAdded a b code registers stage plan before after left
    → KeepsLinks b c registers left.end.at left.end.states kept kept_after (ValuesStand b values)
    → IsKeptBlockAdded a c code registers stage plan before after kept kept_after left
kept_block_wired a b c code registers stage plan before after kept kept_after left values same states_are t u base fits is chains kept_chains =
    let block = t base fits is chains in
    let grows = block.wires.grows in
    let some_states = pow_pos registers.state.width in
    let fit_states = fits.states in
    let few : left.end.states ≤ 2 ^ registers.state.width =
    subst (λ n. n ≤ 2 ^ registers.state.width) (sym states_are) (let m : max 1 plan.states ≤ 2 ^ registers.state.width = grind arith in m) in
    let keeps =
    u base code.variables (registers_after a b base code.variables registers grows is) (subst (λ (l : List Given). AreValues b base l) (sym same) block.values) block.at few
    (chains_after a b base registers.kept kept grows kept_chains) in
    let more = keeps.wires.grows in
    record {
      block = record {
        wires = wires_then base a b c block.wires keeps.wires;
        values = values_after b c base left.values more block.values;
        at = stands_after b c base left.end.at 1 more block.at;
        states = block.states;
        last = stands_after b c base left.last 1 more block.last;
        target = stands_after b c base left.target registers.stage.width more block.target;
        chains = chains_after b c base registers.variables after more block.chains;
      };
      kept = keeps.chains;
    }
