use Rattle.std.proofs.Common.{◌≡◌, List, ℕ, map, subst, sym}
use Rattle.block_datapath.specs.declared.registers.Held.{Held}
use Rattle.operator_wires.proofs.MadeWords.{of_ok}
use Rattle.thread_requests.specs.declared.early.Early.{Early}
use Rattle.thread_requests.specs.Early.{LaysEarlyWired}
use Rattle.thread_layout.specs.declared.layout.Inside.{Inside}
use Rattle.thread_layout.specs.Modules.{LaysInside, caller_of}
use Rattle.thread_layout.specs.Parts.{LaysHeard, inside_of}
use Rattle.thread_layout.specs.Telling.{LaysTold}
use Rattle.thread_layout.proofs.Insides.{inside_laid}
use Rattle.thread_layout.proofs.layout.lay_inside.Goals as goal

pub returns : goal.returns
returns c =
    let shape = c.args.shape.now in
    let code = c.args.code.now in
    let plan = c.args.planned.now in
    let ground = c.in_ok-ground.ground in
    let asks = c.get-asks.result.now in
    let news = c.in_ok-news.news in
    let walked = c.in_ok-walked.walked in
    let a = c.args.wires.now.signals in
    let e = c.walk.new.wires.signals in
    let early : LaysEarlyWired shape.globals code ground.slot (map (λ (h : Held). h.register) ground.granted) (caller_of shape) plan c.lay_ground.new.wires.signals
    c.lay_asked.new.wires.signals asks =
    subst (LaysEarlyWired shape.globals code ground.slot (map (λ (h : Held). h.register) ground.granted) (caller_of shape) plan c.lay_ground.new.wires.signals
    c.lay_asked.new.wires.signals) (sym c.get-asks.ensures) c.in_ok-early.ensures in
    let heard =
    subst (λ (z : List Held). LaysHeard code plan asks.need z c.lay_asked.new.wires.signals c.lay_heard.new.wires.signals
    ground.slot c.lay_heard.new.slot news) c.as_slice-told.ensures c.in_ok-news.ensures in
    let tells =
    subst (λ (z : List ℕ). LaysTold shape.served z news c.lay_heard.new.wires.signals c.lay_told.new.wires.signals c.in_ok-acts.acts)
    c.as_slice-named.ensures
    (subst (λ (z : List Held). LaysTold shape.served c.as_slice-named.result.now z c.lay_heard.new.wires.signals c.lay_told.new.wires.signals c.in_ok-acts.acts)
    c.as_slice-own.ensures c.in_ok-acts.ensures) in
    let laid =
    inside_laid shape code plan a c.lay_ground.new.wires.signals c.lay_asked.new.wires.signals
    c.lay_heard.new.wires.signals c.lay_told.new.wires.signals e ground c.lay_heard.new.slot asks news
    c.in_ok-acts.acts walked c.in_ok-ground.ensures early heard tells c.in_ok-walked.ensures in
    let put : LaysInside shape code plan a e c.put_together.result =
    subst (LaysInside shape code plan a e) (sym c.put_together.ensures)
    (subst (λ (z : Early). LaysInside shape code plan a e (inside_of (record ground { slot = c.lay_heard.new.slot }) z news walked)) c.get-asks.ensures laid) in
    of_ok c.new.result (λ (z : Inside). z ≡ c.put_together.result) (LaysInside shape code plan a e)
    (λ z same. subst (LaysInside shape code plan a e) (sym same) put) c.new.ensures
