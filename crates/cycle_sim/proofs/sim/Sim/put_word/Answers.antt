use Rattle.std.proofs.Common.{◌≡◌, ℕ, ◌+◌, List, length, drop, slice_index, slice_set, ap, sym, ◌∙◌, subst, arith}
use Rattle.std.proofs.Math.ListN.{length-set}
use Rattle.std.proofs.lemmas.List.{take_at}
use Rattle.sim_layout.specs.Running.{Running, running, Stands}
use Rattle.cycle_sim.specs.Putting.{FitsWordAt, with_word}
use Rattle.cycle_sim.proofs.PutNumbers.{put_word_stands}
use Rattle.cycle_sim.proofs.sim.Sim.put_word.Goals as goal

pub invariant_of-self : goal.invariant_of-self
invariant_of-self c =
    let i = c.self.inside in
    let r = running i.modules.now i.parts.items i.steps.items i.numbers.items i.words.items i.starts.items i.prefs i.done in
    let view : c.args.self.now ≡ r = (let h = c.self.view_is in cc) in
    let place = slice_index r.starts (c.args.first + c.args.memory) + c.args.word in
    let fits : FitsWordAt r place c.args.number = subst (λ (t : Running). FitsWordAt t (slice_index t.starts (c.args.first + c.args.memory) + c.args.word) c.args.number) view c.requires in
    let put = c.set_word_at.new.words in
    let given : put ≡ slice_set r.words place c.args.number =
    (let a = c.set_word_at.ensures in let b = c.number_at-start.ensures in let d = c.as_mut_slice.ensures.value in let e = c.as_slice.ensures.value in cc) in
    let long : length put ≡ length i.words.items = ap length given ∙ length-set r.words place c.args.number in
    let whole = take_at put (drop (length put) i.words.items) i.words.len (omega (arith, i.words.ok.0)) in
    let stands : Stands (with_word r place c.args.number) = put_word_stands r c.self.invariant.0 place c.args.number fits in (
      subst (λ (ws : List ℕ). Stands (running r.modules r.parts r.steps r.numbers ws r.starts r.prefs r.done)) (sym (whole ∙ given)) stands,
      c.self.invariant.1,
      c.self.invariant.2,
      c.self.invariant.3,
      c.self.invariant.4,
      c.self.invariant.5,
      c.self.invariant.6,
      c.self.invariant.7,
    )
