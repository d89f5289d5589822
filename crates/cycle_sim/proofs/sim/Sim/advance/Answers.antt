use Rattle.std.proofs.Common.{◌≡◌, ◌<◌, ◌^◌, ℕ, true, List, ◌++◌, length, take, drop, ap, sym, ◌∙◌, subst, arith}
use Rattle.std.specs.Prelude.{refl}
use Rattle.std.proofs.lemmas.List.{take_at}
use Rattle.sim_values.specs.Flat.{all_numbers, all_words}
use Rattle.sim_layout.specs.Running.{Running, running, Stands, flat, advanced}
use Rattle.sim_events.specs.declared.edge.EdgeRow.{EdgeRow}
use Rattle.sim_events.specs.Cones.{IsCone}
use Rattle.sim_events.specs.Edges.{edge_rows, sets, stores}
use Rattle.sim_events.proofs.EdgeEffects.{edge_sets, edge_stores}
use Rattle.cycle_sim.proofs.Cycles.{advanced_stands}
use Rattle.cycle_sim.proofs.Events.{keeping_at}
use Rattle.cycle_sim.proofs.sim.Sim.advance.Goals as goal

pub invariant_of-self : goal.invariant_of-self
invariant_of-self c =
    let i = c.self.inside in
    let r = running i.modules.now i.parts.items i.steps.items i.numbers.items i.words.items i.starts.items i.prefs i.done in
    let view : c.args.self.now ≡ r = (let h = c.self.view_is in cc) in
    let settled = c.requires.2 in
    let stands : Stands (advanced r) =
    subst (λ (t : Running). Stands (advanced t)) (sym settled.is ∙ view) (advanced_stands c.requires.1 settled.stands c.requires.0 settled.fits) in
    let next_of = c.pass_edge.new.next in
    let words_of = c.pass_edge.new.words in
    let numbers_of = c.take_over.new.numbers in
    let rows : c.as_slice.result.now ≡ edge_rows r.modules r.starts r.parts = c.as_slice.ensures.value ∙ c.self.invariant.6 in
    let old : c.as_slice-2.result.now ≡ r.numbers = c.as_slice-2.ensures.value in
    let words_old : c.as_mut_slice-2.result.now ≡ r.words = c.as_mut_slice-2.ensures.value in
    let few : length r.numbers < 2 ^ 64 = subst (λ (ns : List ℕ). length ns < 2 ^ 64) old c.pass_edge.ensures.room in
    let edge : next_of ≡ all_numbers r.modules (flat r) r.numbers r.parts =
    c.pass_edge.ensures.next ∙ ap (λ (ns : List ℕ). sets ns true ns c.as_slice.result.now) old ∙ ap (λ (rs : List EdgeRow). sets r.numbers true r.numbers rs) rows
    ∙ edge_sets r.numbers few r.words r.starts r.modules r.parts r.numbers few in
    let words : words_of ≡ all_words r.modules (flat r) r.parts =
    c.pass_edge.ensures.words ∙ ap (λ (ns : List ℕ). stores ns true c.as_mut_slice-2.result.now c.as_slice.result.now) old ∙ ap (λ (ws : List ℕ). stores r.numbers true ws c.as_slice.result.now) words_old
    ∙ ap (λ (rs : List EdgeRow). stores r.numbers true r.words rs) rows ∙ edge_stores r.numbers few r.starts r.modules r.parts r.words in
    let e = c.as_mut_slice.ensures.value in
    let f = c.as_mut_slice-2.ensures.value in
    let x_long : length next_of ≡ length i.next.items = c.pass_edge.auto.next ∙ ap length e in
    let w_long : length words_of ≡ length i.words.items = c.pass_edge.auto.words ∙ ap length f in
    let x_left = take i.next.len (next_of ++ drop (length next_of) i.next.items) in
    let x_whole : x_left ≡ next_of = take_at next_of (drop (length next_of) i.next.items) i.next.len (omega (arith, i.next.ok.0)) in
    let w_whole = take_at words_of (drop (length words_of) i.words.items) i.words.len (omega (arith, i.words.ok.0)) in
    let numbers : numbers_of ≡ x_left = c.take_over.ensures.numbers ∙ c.as_slice-3.ensures.value in
    let n_long : length numbers_of ≡ length i.numbers.items = ap length numbers ∙ ap length x_whole ∙ x_long ∙ c.self.invariant.1 in
    let n_left = take i.numbers.len (numbers_of ++ drop (length numbers_of) i.numbers.items) in
    let n_whole : n_left ≡ numbers_of = take_at numbers_of (drop (length numbers_of) i.numbers.items) i.numbers.len (omega (arith, i.numbers.ok.0)) in
    let before = keeping_at r.modules r.steps r.steps i.fanout.starts.items i.fanout.steps.items i.numbers.items c.as_mut_slice-3.result.now i.pending.steps.items refl c.as_mut_slice-3.ensures.value c.self.invariant.3 in (
      subst (λ (ws : List ℕ). Stands (running r.modules r.parts r.steps n_left ws r.starts r.prefs r.done))
          (sym (w_whole ∙ words))
          (subst (λ (ns : List ℕ). Stands (running r.modules r.parts r.steps ns (all_words r.modules (flat r) r.parts) r.starts r.prefs r.done))
          (sym (n_whole ∙ numbers ∙ x_whole ∙ edge)) stands),
      ap length x_whole ∙ x_long ∙ c.self.invariant.1 ∙ sym (ap length n_whole ∙ n_long),
      c.self.invariant.2,
      keeping_at r.modules r.steps r.steps i.fanout.starts.items i.fanout.steps.items numbers_of n_left c.take_over.new.pending.steps.items refl n_whole (c.take_over.ensures.keeping r.modules r.steps before),
      c.take_over.ensures.flagged,
      c.self.invariant.5,
      c.self.invariant.6,
      subst (λ n. IsCone r.modules r.steps n r.done i.cone.items) (sym (ap length n_whole ∙ n_long)) c.self.invariant.7,
    )

pub take_over-requires-clause-flagged : goal.take_over-requires-clause-flagged
take_over-requires-clause-flagged c = c.self.invariant.4

pub returns : goal.returns
returns c =
    let i = c.self.inside in
    let r = running i.modules.now i.parts.items i.steps.items i.numbers.items i.words.items i.starts.items i.prefs i.done in
    let view : c.args.self.now ≡ r = (let h = c.self.view_is in cc) in
    let next_of = c.pass_edge.new.next in
    let words_of = c.pass_edge.new.words in
    let numbers_of = c.take_over.new.numbers in
    let rows : c.as_slice.result.now ≡ edge_rows r.modules r.starts r.parts = c.as_slice.ensures.value ∙ c.self.invariant.6 in
    let old : c.as_slice-2.result.now ≡ r.numbers = c.as_slice-2.ensures.value in
    let words_old : c.as_mut_slice-2.result.now ≡ r.words = c.as_mut_slice-2.ensures.value in
    let few : length r.numbers < 2 ^ 64 = subst (λ (ns : List ℕ). length ns < 2 ^ 64) old c.pass_edge.ensures.room in
    let edge : next_of ≡ all_numbers r.modules (flat r) r.numbers r.parts =
    c.pass_edge.ensures.next ∙ ap (λ (ns : List ℕ). sets ns true ns c.as_slice.result.now) old ∙ ap (λ (rs : List EdgeRow). sets r.numbers true r.numbers rs) rows
    ∙ edge_sets r.numbers few r.words r.starts r.modules r.parts r.numbers few in
    let words : words_of ≡ all_words r.modules (flat r) r.parts =
    c.pass_edge.ensures.words ∙ ap (λ (ns : List ℕ). stores ns true c.as_mut_slice-2.result.now c.as_slice.result.now) old ∙ ap (λ (ws : List ℕ). stores r.numbers true ws c.as_slice.result.now) words_old
    ∙ ap (λ (rs : List EdgeRow). stores r.numbers true r.words rs) rows ∙ edge_stores r.numbers few r.starts r.modules r.parts r.words in
    let e = c.as_mut_slice.ensures.value in
    let f = c.as_mut_slice-2.ensures.value in
    let x_long : length next_of ≡ length i.next.items = c.pass_edge.auto.next ∙ ap length e in
    let w_long : length words_of ≡ length i.words.items = c.pass_edge.auto.words ∙ ap length f in
    let x_left = take i.next.len (next_of ++ drop (length next_of) i.next.items) in
    let x_whole : x_left ≡ next_of = take_at next_of (drop (length next_of) i.next.items) i.next.len (omega (arith, i.next.ok.0)) in
    let w_whole = take_at words_of (drop (length words_of) i.words.items) i.words.len (omega (arith, i.words.ok.0)) in
    let numbers : numbers_of ≡ x_left = c.take_over.ensures.numbers ∙ c.as_slice-3.ensures.value in
    let n_long : length numbers_of ≡ length i.numbers.items = ap length numbers ∙ ap length x_whole ∙ x_long ∙ c.self.invariant.1 in
    let n_left = take i.numbers.len (numbers_of ++ drop (length numbers_of) i.numbers.items) in
    let n_whole : n_left ≡ numbers_of = take_at numbers_of (drop (length numbers_of) i.numbers.items) i.numbers.len (omega (arith, i.numbers.ok.0)) in
    let w_left = take i.words.len (words_of ++ drop (length words_of) i.words.items) in
    ap (λ (ns : List ℕ). running r.modules r.parts r.steps ns w_left r.starts r.prefs r.done) (n_whole ∙ numbers ∙ x_whole ∙ edge)
    ∙ ap (λ (ws : List ℕ). running r.modules r.parts r.steps (all_numbers r.modules (flat r) r.numbers r.parts) ws r.starts r.prefs r.done) (w_whole ∙ words) ∙ ap advanced (sym view)
