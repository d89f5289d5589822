use Rattle.std.proofs.Common.{◌≡◌, ℕ, refl, sym, ◌∙◌, subst, rules}
use Rattle.std.specs.Prelude.{true, Vec}
use Rattle.std.specs.declared.alloc.Global.{Global}
use Rattle.race_check.specs.Access.{touches_of}
use Rattle.run_check.specs.declared.elements.Element.{Element}
use Rattle.run_check.specs.Clocks.{clock, Hears}
use Rattle.run_check.specs.Class.{Tells}
use Rattle.run_check.specs.Objects.{write_at, read_at}
use Rattle.run_check.specs.Shadow.{stamp, IsMarked}
use Rattle.run_check.proofs.Noted.{noted}
use Rattle.run_check.proofs.known.Known.note.Goals as goal

pub returns-then-not-is_ordered : goal.returns-then-not-is_ordered
returns-then-not-is_ordered c = c.if-not-is_ordered.ensures.unordered refl

pub returns : goal.returns
returns c =
    let told : c.in_ok-tell.field-0 ≡ true = search rules in
    let old = c.args.self.now in
    let touches = touches_of c.args.accesses.now in
    let step = stamp c.args.thread c.in-Some.number in
    let put = c.if-not-put.ensures refl in
    noted old (record c.put.new.self { clocks = c.tell.new.clocks }) c.tick.new.clocks.items c.args.thread c.in-Some.number c.args.class touches
    c.args.released.now c.args.ended (c.if-not-is_ordered.ensures.accesses refl) (c.if-not-is_ordered.ensures.act refl) (c.if-not-is_ordered.ensures.last refl)
    c.in-Some.ensures
    (subst
    (λ (es : Vec (Vec Element Global) Global). IsMarked (write_at old.elements.items) (write_at es.items) (read_at old.elements.items) (read_at es.items) step touches)
    (sym put.elements) (c.if-not-mark_all.ensures refl))
    put.mutex put.barrier put.id put.print (λ one. c.has_one_output-self.ensures.kept (sym put.one_output ∙ one)) (λ none. c.has_one_output-self.ensures.lost (sym put.one_output ∙ none))
    (subst
    (λ (rows : Vec (Vec ℕ Global) Global). Hears (Tells c.args.class c.args.released.now c.args.thread) (clock rows.items) (clock c.tell.new.clocks.items))
    put.clocks (c.in_ok-tell.ensures told))
