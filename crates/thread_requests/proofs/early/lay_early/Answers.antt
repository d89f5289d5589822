use Rattle.std.proofs.Common.{◌∙◌, List, ℕ, refl, subst, sym}
use Rattle.bank_partition.specs.declared.banks.Spread.{Spread}
use Rattle.thread_requests.specs.declared.early.Asked.{Asked}
use Rattle.thread_requests.specs.Early.{AsksBanks, OpensBanks, IsLost, LaysEarlyWired}
use Rattle.thread_requests.proofs.Wanted.{early_made}
use Rattle.thread_requests.proofs.early.lay_early.Goals as goal

pub returns : goal.returns
returns c =
    let s0 = c.args.wires.now.signals in
    let s2 = c.ask_all.new.wires.signals in
    let s3 = c.need_stages.new.wires.signals in
    let s5 = c.open_banks.new.wires.signals in
    let s6 = c.open_acts.new.wires.signals in
    let s7 = c.lay_lost.new.wires.signals in
    let s8 = c.any_needed.new.wires.signals in
    let all = c.get-all.result.now in
    let requests = all.requests in
    let acts = c.in_ok-others.field-0 in
    let opened : OpensBanks c.args.registers.now.spreads c.args.granted.now requests.banks.wants s3 s5 c.in_ok-opens.opens =
    subst (λ (z : List Spread). OpensBanks z c.args.granted.now requests.banks.wants s3 s5 c.in_ok-opens.opens) c.as_slice-spreads.ensures
    (subst (λ (z : List ℕ). OpensBanks c.as_slice-spreads.result.now c.args.granted.now z s3 s5 c.in_ok-opens.opens) c.as_slice-wants.ensures c.in_ok-opens.ensures) in
    subst
    (λ (z : Asked). LaysEarlyWired c.args.globals.now c.args.code.now c.args.registers.now c.args.granted.now c.args.caller c.args.planned.now s0 s8
    (record { requests = z.requests; opens = c.append.new.self; barriers = acts.barriers; lost = c.in_ok-lost.lost; need = c.in_ok-need.need; done = z.done }))
    (c.get-all.ensures ∙ sym c.into_inner-own.ensures)
    (early_made c.args.globals.now c.args.code.now c.args.registers.now c.args.granted.now c.args.caller c.args.planned.now s0 s2 s3 opened.with_free s5 s6 s7 s8
    (record { requests = requests; opens = c.append.new.self; barriers = acts.barriers; lost = c.in_ok-lost.lost; need = c.in_ok-need.need; done = all.done })
    opened.free c.in_ok-opens.opens acts c.in_ok-held.held
    (subst (λ (z : Asked). AsksBanks c.args.globals.now c.args.code.now c.args.registers.now c.args.caller c.args.planned.now s0 s2 z.requests z.done) (sym c.get-all.ensures)
    c.in_ok-asked.ensures)
    c.in_ok-held.ensures opened.frees opened.frees_wired opened.shows opened.wired c.in_ok-others.ensures
    (subst (λ (z : List ℕ). IsLost requests z s6 s7 c.in_ok-lost.lost) c.as_slice.ensures c.in_ok-lost.ensures)
    c.in_ok-append.ensures refl
    c.in_ok-need.ensures.shows c.in_ok-need.ensures.wired)
