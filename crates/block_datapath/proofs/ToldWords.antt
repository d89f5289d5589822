-- Words that banks tell: lemmas of each function that takes one.
use Rattle.std.proofs.Common.{◌≡◌, ◌≢◌, ℕ, ◌+◌, ◌%◌, ◌^◌, ◌<◌, ◌≤◌, ◌⊎◌, nat_eq}
use Rattle.std.proofs.Common.{false, if◌then◌else◌, List, slice_get, Some, None, ℤ, pos, refl, sym, ap, subst, ◌∙◌}
use Rattle.std.proofs.Common.{arith, ⊎_elim}
use Rattle.std.specs.Prelude.{Result, IfOk}
use Rattle.std.proofs.lemmas.Nat.{pow_pos, mod_below}
use Rattle.std.proofs.lemmas.Bool.{cases_eq}
use Rattle.hls_ints.specs.Residues.{residue_of, bit_of}
use Rattle.hls_ints.specs.Types.{IntegerType, width_of, long_int, wrapped}
use Rattle.hls_ints.proofs.Conversions.{residue_of-wrapped}
use Rattle.bank_partition.specs.declared.banks.Spread.{Spread}
use Rattle.block_ir.specs.Run.{global_read}
use Rattle.block_ir.specs.declared.operand.Operand.{Operand}
use Rattle.block_ir.specs.declared.block.Operation.TheVariants.{ReadGlobal}
use Rattle.block_ir.specs.declared.code.ThreadCode.{ThreadCode}
use Rattle.planned_block.specs.Block.{element}
use Rattle.planned_block.proofs.Bits.{same_is, other_is, not_less_is}
use Rattle.netlist.specs.declared.netlist.Signal.{Signal}
use Rattle.verilog_meaning.specs.Readings.{width}
use Rattle.operator_wires.specs.declared.words.Word.{Word}
use Rattle.operator_wires.specs.Gives.{Gives}
use Rattle.operator_wires.specs.Words.{IsWord, Holds, Becomes, Resizes, resized_word}
use Rattle.operator_wires.specs.Built.{Base, IsEarlier, Adds}
use Rattle.operator_wires.specs.Added.{ConstantAdds, ResizedAdds, ChoiceAdds, IsConverted}
use Rattle.operator_wires.proofs.PutSignals.{grows_then}
use Rattle.operator_wires.proofs.BuiltWires.{stands_after, wires_then}
use Rattle.operator_wires.proofs.MadeWords.{of_ok}
use Rattle.operator_wires.proofs.TypedWords.{at_least, at_most, word_of}
use Rattle.thread_promise.specs.Types.{operand_type, or_int}
use Rattle.thread_promise.specs.Globals.{IsSmallPower}
use Rattle.block_datapath.specs.declared.registers.Held.{Held}
use Rattle.block_datapath.specs.declared.registers.Registers.{Registers}
use Rattle.block_datapath.specs.declared.operands.Given.{Given}
use Rattle.block_datapath.specs.Seen.{ShowsOperand}
use Rattle.block_datapath.specs.Operations.{seen_value, IsTold, ShowsOperation}
use Rattle.block_datapath.specs.Wired.{IsSourced, IsOperationWord}
use Rattle.block_datapath.specs.Requests.{TellsBank}
use Rattle.block_datapath.specs.Told.{TellsNumber, ShowsNumber, ChoosesSome, ChoosesWord, TakesWord, IsNumberWire, IsChosenWord}
use Rattle.block_datapath.proofs.BlockWires.{registers_after, room}

-- at its own width a number stays
unchanged : (w n : ℕ) → resized_word false w w n ≡ n
unchanged w n = rw (not_less_is w w (omega arith)) refl

pub some_count : (n : ℕ) → IsSmallPower n → 1 ≤ n
some_count n power =
    ⊎_elim (λ (e : n ≡ 1). omega arith)
    (λ (rest : (n ≡ 2) ⊎ ((n ≡ 4) ⊎ (n ≡ 8))).
    ⊎_elim (λ (e : n ≡ 2). omega arith) (λ (last : (n ≡ 4) ⊎ (n ≡ 8)). ⊎_elim (λ (e : n ≡ 4). omega arith) (λ (e : n ≡ 8). omega arith) last) rest)
    power

module _ (registers : Registers) where
  -- ---- one bank

  pub number_told : {E : Type 0} (x : Result ℕ E) (a b : List Signal) (n w : ℕ) (held : Held) → slice_get registers.words n ≡ Some held →
      IfOk x (Resizes a b held.register held.width w false)
      → IfOk x (ShowsNumber a b registers n w)
  number_told x a b n w held listed made =
      of_ok x (Resizes a b held.register held.width w false) (ShowsNumber a b registers n w)
      (λ place t. record {
        grows = t.grows;
        shows = λ m r number g o tells.
            let found = tells.listed in
            let same : tells.held ≡ held = cc in
            let says : held.width ≡ w = subst (λ (h : Held). h.width ≡ w) same tells.says in
            let wide : width m held.register ≡ w = subst (λ (h : Held). width m h.register ≡ w) same tells.wide in (
              t.wide m g (wide ∙ sym says),
              t.shows m r g o (wide ∙ sym says)
                  ∙ ap (λ (k : ℕ). resized_word false k w (r.signal held.register)) says
                  ∙ unchanged w (r.signal held.register)
                  ∙ subst (λ (h : Held). r.signal h.register ≡ number) same tells.shows,
            );
      }) made

  pub number_missing : {E : Type 0} (x : Result ℕ E) (a b : List Signal) (n w : ℕ) → slice_get registers.words n ≡ None → IfOk x (λ place. Gives a b place w (λ m r. 0))
      → IfOk x (ShowsNumber a b registers n w)
  number_missing x a b n w none made =
      of_ok x (λ place. Gives a b place w (λ m r. 0)) (ShowsNumber a b registers n w)
      (λ place t. record { grows = t.grows; shows = λ m r number g o tells. absurd (let found = tells.listed in cc) }) made

  pub number_wired : {E : Type 0} (x : Result ℕ E) (a b : List Signal) (n w : ℕ) (held : Held) → slice_get registers.words n ≡ Some held
      → IfOk x (ResizedAdds a b held.register held.width w false) → IfOk x (IsNumberWire a b registers w)
  number_wired x a b n w held listed made =
      of_ok x (ResizedAdds a b held.register held.width w false) (IsNumberWire a b registers w)
      (λ place t base types slot reads low high. t base (slot.words n held listed (reads n held listed)) low high (λ e. absurd cc)) made

  pub missing_wired : {E : Type 0} (x : Result ℕ E) (a b : List Signal) (w : ℕ) → IfOk x (ConstantAdds a b w 0) → IfOk x (IsNumberWire a b registers w)
  missing_wired x a b w made =
      of_ok x (ConstantAdds a b w 0) (IsNumberWire a b registers w) (λ place t base types slot reads low high. t base (room a base types registers slot) low high (pow_pos w)) made

  -- ---- the banks of a global, one after the other

  module _ (s : Spread) (w index : ℕ) where
    pub choice_first : (a b : List Signal) (bits bank place : ℕ) → ShowsNumber a b registers bank w place → (s.first + 0 < 2 ^ 64 → bank ≡ s.first + 0) →
        ChoosesSome a b registers s w index bits 1 place
    choice_first a b bits bank place t named = record {
      grows = t.grows;
      shows = λ m r number g o wide small fits most below tells.
          let i = r.signal index % 2 ^ bits in
          let first : i ≡ 0 = omega arith in
          let at : bank ≡ s.first + i = named (omega arith) ∙ ap (λ (k : ℕ). s.first + k) (sym first) in
          t.shows m r number g o (subst (λ (k : ℕ). TellsNumber registers m r k w number) (sym at) tells);
    }

    pub choice_more : (a b c d e : List Signal) (bits n bank old chosen told place : ℕ) → ChoosesSome a b registers s w index bits n old → TellsBank b c index bits n chosen
        → ShowsNumber c d registers bank w told → (s.first + n < 2 ^ 64 → bank ≡ s.first + n)
        → Gives d e place w (λ m r. if nat_eq (r.signal chosen) 0 then r.signal old else r.signal told) → ChoosesSome a e registers s w index bits (n + 1) place
    choice_more a b c d e bits n bank old chosen told place t u v named x = record {
      grows = grows_then a b e t.grows (grows_then b c e u.grows (grows_then c d e v.grows x.grows));
      shows = λ m r number g o wide small fits most below tells.
          let to_d = grows_then d e m.signals x.grows g in
          let to_c = grows_then c d m.signals v.grows to_d in
          let to_b = grows_then b c m.signals u.grows to_c in
          let i = r.signal index % 2 ^ bits in
          let bit : r.signal chosen ≡ bit_of (nat_eq i n) = u.shows m r to_c o wide (omega arith) in (
            x.wide m g,
            x.shows m r g o
                ∙ ⊎_elim
                (λ (e : i ≡ n).
                let on : r.signal chosen ≡ 1 = bit ∙ ap bit_of (same_is i n e) in
                let at : bank ≡ s.first + i = named (omega arith) ∙ ap (λ (k : ℕ). s.first + k) (sym e) in
                ap (λ (k : ℕ). if nat_eq k 0 then r.signal old else r.signal told) on
                ∙ (v.shows m r number to_d o (subst (λ (k : ℕ). TellsNumber registers m r k w number) (sym at) tells)).1)
                (λ (ne : i ≢ n).
                let off : r.signal chosen ≡ 0 = bit ∙ ap bit_of (other_is i n ne) in
                ap (λ (k : ℕ). if nat_eq k 0 then r.signal old else r.signal told) off
                ∙ (t.shows m r number to_b o wide (omega arith) fits (omega arith) (omega arith) tells).1)
                (cases_eq i n),
          );
    }

    pub choice_all : (a b : List Signal) (bits n place : ℕ) → (IsSmallPower s.count → n ≡ s.count) → (IsSmallPower s.count → 2 ^ bits ≡ s.count) →
        ChoosesSome a b registers s w index bits n place → ChoosesWord a b registers s w index place
    choice_all a b bits n place all counts t = record {
      grows = t.grows;
      shows = λ m r number g o wide power fits tells.
          let e = counts power in
          let end = all power in
          let below : r.signal index % 2 ^ bits < 2 ^ bits = mod_below (r.signal index) (2 ^ bits) (pow_pos bits) in
          t.shows m r number g o wide (omega arith) fits (omega arith) (omega arith)
          (subst (λ (k : ℕ). TellsNumber registers m r (s.first + r.signal index % k) w number) (sym e) tells);
    }

    pub choice_begun : (a b : List Signal) (place : ℕ) → IsNumberWire a b registers w place → IsChosenWord a b registers s w index place
    choice_begun a b place t base types slot reads at power low high = t base types slot reads low high

    pub choice_wired : (a b c d e : List Signal) (bits n old chosen told place : ℕ) → n < s.count → (IsSmallPower s.count → 2 ^ bits ≡ s.count) →
        IsChosenWord a b registers s w index old
        → ((base : Base) → IsEarlier b base index 64 → n < 2 ^ bits → Adds base b c 1 chosen) → IsNumberWire c d registers w told → ChoiceAdds d e w chosen told old place
        → IsChosenWord a e registers s w index place
    choice_wired a b c d e bits n old chosen told place less counts t u v x base types slot reads at power low high =
        let p = t base types slot reads at power low high in
        let small : n < 2 ^ bits = (let e = counts power in omega arith) in
        let q = u base (stands_after a b base index 64 p.wires.grows at) small in
        let to_c = grows_then a b c p.wires.grows q.wires.grows in
        let k = v base types (registers_after a c base types registers to_c slot) reads low high in
        let last = x base (stands_after c d base chosen 1 k.wires.grows q.stands) k.stands
        (stands_after b d base old w (grows_then b c d q.wires.grows k.wires.grows) p.stands) in
        record { wires = wires_then base a b e p.wires (wires_then base b c e q.wires (wires_then base c d e k.wires last.wires)); stands = last.stands }

  -- ---- the bank of an operand

  pub word_taken : (a b c d : List Signal) (types : List IntegerType) (values : List Given) (state : ℕ) (s : Spread) (ty : IntegerType) (index : Operand) (word wide : Word)
      (w place : ℕ) (out : Word)
      → ShowsOperand a b registers types values state index word → Becomes b c word long_int (wrapped long_int) wide → w ≡ width_of ty →
      ChoosesWord c d registers s w wide.place place
      → out.place ≡ place → out.width ≡ width_of ty → out.signed ≡ ty.signed → TakesWord a d registers types values state s ty index out
  word_taken a b c d types values state s ty index word wide w place out t u is_width v at says sign = record {
    grows = grows_then a b d t.grows (grows_then b c d u.grows v.grows);
    shows = λ m r variables given value g o seen power fits told.
        let to_c = grows_then c d m.signals v.grows g in
        let first = t.shows m r variables given (grows_then b c m.signals u.grows to_c) o seen in
        let long = u.shows m r (operand_type index) (seen_value variables given index) to_c o first in
        let is_index : r.signal wide.place ≡ residue_of 64 (seen_value variables given index) = long.shows ∙ residue_of-wrapped long_int (seen_value variables given index) in
        let here : TellsNumber registers m r (s.first + residue_of 64 (seen_value variables given index) % s.count) w (residue_of (width_of ty) value) =
        record { held = told.held; listed = told.listed; says = told.says ∙ sym is_width; wide = told.wide ∙ sym is_width; shows = told.shows }
        in
        let number = v.shows m r (residue_of (width_of ty) value) g o long.wide power fits
        (subst (λ (k : ℕ). TellsNumber registers m r (s.first + k % s.count) w (residue_of (width_of ty) value)) (sym is_index) here) in
        record { says = says; sign = sign; wide = ap (width m) at ∙ number.0 ∙ is_width; shows = ap r.signal at ∙ number.1; typed = told.typed };
  }

  pub word_wired : (a b c d : List Signal) (code : ThreadCode) (values : List Given) (x : ℕ) (s : Spread) (ty : IntegerType) (index : Operand) (word wide : Word) (w place : ℕ)
      (out : Word)
      → slice_get registers.spreads x ≡ Some s → IsSourced a b code.variables registers values (operand_type index) word → IsConverted b c word long_int wide → w ≡ width_of ty
      → IsChosenWord c d registers s w wide.place place → out.place ≡ place → out.width ≡ width_of ty → out.signed ≡ ty.signed → IsOperationWord a d code registers values ty out
  word_wired a b c d code values x s ty index word wide w place out listed t u is_width v at says sign base reads sources =
      let low = at_least ty in
      let most = at_most ty in
      let p = t base sources in
      let q = u base (operand_type index) p.word in
      let to_c = grows_then a b c p.wires.grows q.wires.grows in
      let last = v base code.variables (registers_after a c base code.variables registers to_c sources.registers) reads.words q.word.stands (reads.powers x s listed) (omega arith)
      (omega arith) in
      word_of base a d ty place out (record {
        wires = wires_then base a b d p.wires (wires_then base b c d q.wires last.wires);
        stands = subst (λ (k : ℕ). IsEarlier d base place k) is_width last.stands;
      }) at says sign

  -- ---- a read of a global

  pub read_told : {E : Type 0} (x : Result Word E) (a b : List Signal) (globals : List IntegerType) (code : ThreadCode) (values : List Given) (last global : ℕ) (s : Spread)
      (ty : IntegerType)
      (index : Operand) → slice_get registers.spreads global ≡ Some s → ty ≡ or_int (slice_get globals global) →
      IfOk x (TakesWord a b registers code.variables values last s ty index)
      → IfOk x (λ out. (unit start n : ℕ) → ShowsOperation a b globals code registers values unit start last (ReadGlobal global n index) out)
  read_told x a b globals code values last global s ty index listed is_type made =
      of_ok x (TakesWord a b registers code.variables values last s ty index) (λ out. (unit start n : ℕ) →
      ShowsOperation a b globals code registers values unit start last (ReadGlobal global n index) out)
      (λ out t unit start n. record {
        grows = t.grows;
        shared = λ place e. absurd cc;
        shows = λ m r variables given arrays told g o has hears seen sized result.
            let there = sized.listed in
            let same : sized.spread ≡ s = cc in
            let long : s.length ≡ n = subst (λ (k : Spread). k.length ≡ n) same sized.long in
            let own : ty ≡ sized.ty = is_type ∙ ap or_int sized.typed in
            let fits = hears.fits global s listed in
            let tells = hears.words global s sized.ty (seen_value variables given index) listed sized.typed in
            let word = t.shows m r variables given (told (element global (pos (global_read s.length (seen_value variables given index))))) g o seen fits.0 fits.1
            (subst (λ (k : IntegerType). IsTold registers m r (s.first + residue_of 64 (seen_value variables given index) % s.count) k
            (told (element global (pos (global_read s.length (seen_value variables given index)))))) (sym own) tells) in
            subst (λ (k : IntegerType). IsWord m r out k (told (element global (pos (global_read n (seen_value variables given index)))))) is_type
            (subst (λ (k : ℕ). IsWord m r out ty (told (element global (pos (global_read k (seen_value variables given index)))))) long word);
      }) made

  pub read_missing : {E : Type 0} (x : Result Word E) (a b : List Signal) (globals : List IntegerType) (code : ThreadCode) (values : List Given) (last global : ℕ)
      (ty : IntegerType) (v : ℤ)
      (index : Operand) → slice_get registers.spreads global ≡ None → IfOk x (Holds a b ty v)
      → IfOk x (λ out. (unit start n : ℕ) → ShowsOperation a b globals code registers values unit start last (ReadGlobal global n index) out)
  read_missing x a b globals code values last global ty v index none made =
      of_ok x (Holds a b ty v) (λ out. (unit start n : ℕ) → ShowsOperation a b globals code registers values unit start last (ReadGlobal global n index) out)
      (λ out t unit start n. record {
        grows = t.grows;
        shared = λ place e. absurd cc;
        shows = λ m r variables given arrays told g o has hears seen sized result. absurd (let there = sized.listed in cc);
      }) made
