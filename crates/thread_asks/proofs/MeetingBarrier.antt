-- The barrier at which a thread meets others: one stage after the other.
use Rattle.std.proofs.Common.{◌≡◌, ◌≢◌, ℕ, ◌+◌, ◌<◌, true, List, length, slice_get, Some, refl, sym, ap, subst, ◌∙◌, arith, ⊎_elim}
use Rattle.std.proofs.lemmas.Option.{slice_get_within}
use Rattle.std.proofs.lemmas.Bool.{cases_eq}
use Rattle.hls_ints.specs.Residues.{residue_of, bit_of}
use Rattle.block_ir.specs.Asked.{act_value}
use Rattle.block_ir.specs.declared.code.Act.TheVariants.{BarrierWait}
use Rattle.block_ir.specs.declared.code.ActOperand.{ActOperand}
use Rattle.block_ir.specs.declared.code.Stage.{Stage}
use Rattle.block_ir.specs.declared.code.Stage.TheVariants as stage
use Rattle.block_ir.specs.declared.code.ThreadCode.{ThreadCode}
use Rattle.netlist.specs.declared.netlist.Signal.{Signal}
use Rattle.operator_wires.specs.Gives.{Gives}
use Rattle.operator_wires.specs.Added.{ConstantAdds}
use Rattle.operator_wires.proofs.PutSignals.{grows_refl, grows_then}
use Rattle.operator_wires.proofs.BuiltWires.{stands_after, wires_none, adds_after, room_of}
use Rattle.planned_block.proofs.Bits.{other_is}
use Rattle.block_datapath.specs.Moves.{meeting}
use Rattle.block_datapath.specs.declared.registers.Registers.{Registers}
use Rattle.block_datapath.specs.Chains.{TellsStage}
use Rattle.thread_slots.specs.Numbers.{is_wait, numbers}
use Rattle.thread_asks.specs.Fields.{IsTypedActOperand, NamesObject}
use Rattle.thread_asks.specs.Met.{NamesStage, NamesMet}
use Rattle.thread_slots.proofs.Linked.{slots_later}
use Rattle.thread_slots.proofs.NextLink.{stage_on}
use Rattle.thread_slots.proofs.StageNumbers.{not_meeting, has_meeting, meeting_number, numbers_apart}
use Rattle.thread_slots.proofs.Taken.{Told}

module _ (code : ThreadCode) (registers : Registers) where
  -- a stage that is no wait
  pub stage_passed : (l : ℕ) (s : Stage) (a : List Signal) (object : ℕ) → ((barrier : ActOperand) (next : ℕ) → s ≡ stage.Act (BarrierWait barrier) next → ⊥)
      → NamesStage code registers l s a a object object
  stage_passed l s a object other = record {
    grows = grows_refl a;
    rests = λ m r g o knows less none. refl;
    names = λ less barrier next e. absurd (other barrier next e);
    wired = λ less base slots there. record { wires = wires_none base a; stands = there };
  }

  pub meeting_named : (l number : ℕ) (barrier : ActOperand) (next : ℕ) (a b d : List Signal) (at before after : ℕ) → number ≡ meeting (length code.stages) l
      → TellsStage a b registers number at → Told a b registers number at → NamesObject code registers b d at before barrier after
      → NamesStage code registers l (stage.Act (BarrierWait barrier) next) a d before after
  meeting_named l number barrier next a b d at before after is told' stands' t =
      let told : TellsStage a b registers (meeting (length code.stages) l) at = subst (λ k. TellsStage a b registers k at) is told' in
      let stands : Told a b registers (meeting (length code.stages) l) at = subst (λ k. Told a b registers k at) is stands' in
      record {
        grows = grows_then a b d told.grows t.grows;
        rests = λ m r g o knows less none.
            let has = has_meeting code registers l m r knows less in
            let ne = not_meeting (length code.stages) l (r.signal registers.stage.register) (stage.Act (BarrierWait barrier) next) refl none in
            t.rests m r g o
            (told.shows m r (grows_then b d m.signals t.grows g) o has.wide has.room has.fits
            ∙ ap bit_of (other_is (r.signal registers.stage.register) (meeting (length code.stages) l) ne));
        names = λ less other to e m r variables g o knows here seen typed.
            let one : barrier ≡ other = cc in
            let has = has_meeting code registers l m r knows less in
            t.names m r variables g o (stage_on registers (meeting (length code.stages) l) at a b m r told (grows_then b d m.signals t.grows g) o has here) seen
            (subst (λ (z : ActOperand). IsTypedActOperand code z) (sym one) typed)
            ∙ ap (λ (z : ActOperand). residue_of 64 (act_value variables z)) one;
        wired = λ less base slots there.
            let room = slots.room in
            let bit = stands base slots.stage (omega arith) in
            let named =
            t.wired base (slots_later base a b bit.wires.grows code registers slots) bit.stands (stands_after a b base before 64 bit.wires.grows there) in
            adds_after base a b d 64 after bit.wires named;
      }

  pub met_none : (a b : List Signal) (object : ℕ) → Gives a b object 64 (λ m r. 0) → ConstantAdds a b 64 0 object → NamesMet code registers 0 a b object
  met_none a b object gives adds = record {
    grows = gives.grows;
    names = λ k s less. absurd (omega arith);
    wired = λ le base slots. adds base (room_of a base registers.stage.register registers.stage.width slots.stage) (omega arith) (omega arith) (omega arith);
  }

  pub met_more : (n : ℕ) (s : Stage) (a b c : List Signal) (before after : ℕ) → slice_get code.stages n ≡ Some s → NamesMet code registers n a b before
      → NamesStage code registers n s b c before after → NamesMet code registers (n + 1) a c after
  met_more n s a b c before after listed t u = record {
    grows = grows_then a b c t.grows u.grows;
    names = λ k x less there. ⊎_elim
        (λ (same : k ≡ n).
        let one : s ≡ x = (let h = ap (slice_get code.stages) same in cc) in
        λ barrier next e m r variables g o knows here.
        u.names inside barrier next (one ∙ e) m r variables g o knows (here ∙ ap (meeting (length code.stages)) same))
        (λ (ne : k ≢ n). λ barrier next e m r variables g o knows here seen typed.
        let at : numbers (length code.stages) k x (r.signal registers.stage.register) ≡ true =
        ap (numbers (length code.stages) k x) here ∙ meeting_number (length code.stages) k x (ap (λ (z : Stage). is_wait z) e) in
        u.rests m r g o knows inside
        (numbers_apart (length code.stages) n k (r.signal registers.stage.register) s x ne inside (slice_get_within code.stages k x there) at)
        ∙ t.names k x (let under : k < n = omega arith in under) there barrier next e m r variables (grows_then b c m.signals u.grows g) o knows here seen typed)
        (cases_eq k n);
    wired = λ le base slots.
        let first = t.wired (omega arith) base slots in
        adds_after base a b c 64 after first.wires (u.wired inside base (slots_later base a b first.wires.grows code registers slots) first.stands);
  }
    where
      inside : n < length code.stages
      inside = slice_get_within code.stages n s listed
