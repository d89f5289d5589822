use Rattle.std.proofs.Common.{◌≡◌, ◌+◌, ◌∙◌, ap, sym, subst, refl, arith, slice_index_or, false}
use Rattle.std.proofs.lemmas.Option.{slice_get-get_or}
use Rattle.sim_values.specs.declared.settle.Step.{Step}
use Rattle.sim_values.specs.declared.settle.Feed.TheVariants.{Zero}
use Rattle.sim_layout.specs.declared.order.Growth.{Growth}
use Rattle.sim_values.specs.Rows.{EachOf}
use Rattle.sim_values.specs.Order.{reads, IsMarked}
use Rattle.sim_layout.specs.Growing.{IsUnmet}
use Rattle.sim_layout.proofs.OrderGrowth.{grown_blocked, grown_taken}
use Rattle.sim_layout.proofs.order.look.Goals as goal

pub returns-in_ok-wait_for-in-Some : goal.returns-in_ok-wait_for-in-Some
returns-in_ok-wait_for-in-Some c =
    let d : Step = record { target = 0; feed = Zero } in
    let s : Step = slice_index_or c.args.wires.now c.args.number d in
    let g = c.args.growth.now in
    let new : Growth = record { marks = g.marks; taken = g.taken; waits = c.wait_for.new.waits; looks = g.looks } in
    let there = slice_get-get_or c.args.wires.now c.args.number d c.requires.number in
    let unmet = subst (λ m. IsUnmet m (reads c.args.modules.now s.feed) c.in-Some.word) c.as_slice-2.ensures.value c.in-Some.ensures in
    let is = c.in_ok-wait_for-in-Some.ensures in
    grown_blocked c.args.modules.now c.args.wires.now c.args.free.now c.args.place c.args.number g c.requires.growing c.requires.listed s there new c.in-Some.word refl refl refl
    is.long unmet is.waits is.keeps

pub returns-in_ok-take-in-None : goal.returns-in_ok-take-in-None
returns-in_ok-take-in-None c =
    let d : Step = record { target = 0; feed = Zero } in
    let s : Step = slice_index_or c.args.wires.now c.args.number d in
    let there = slice_get-get_or c.args.wires.now c.args.number d c.requires.number in
    let same : s.target ≡ 0 + s.target = omega arith in
    let clear = ap (λ m. slice_index_or m s.target false) (sym c.as_slice.ensures.value) ∙ ap
    (λ k. slice_index_or c.as_slice.result.now k false) same ∙ sym c.is_marked.ensures ∙ c.if-is_marked.false in
    let ready = subst (λ m. EachOf (IsMarked m) (reads c.args.modules.now s.feed)) c.as_slice-2.ensures.value c.in-None.ensures in
    let is = c.in_ok-take-in-None.ensures in
    grown_taken c.args.modules.now c.args.wires.now c.args.free.now c.args.place c.args.number c.args.growth.now c.requires.growing c.requires.listed s there c.take.new.growth
    (omega arith) clear ready is.marks is.taken is.waits is.woken is.keeps
