use Rattle.std.proofs.Common.{◌≡◌, ℕ, zero, suc, Bool, true, false, List, [], ◌∷◌, ◌++◌, length, arith, subst, sym, ◌∙◌}
use Rattle.std.specs.Prelude.{IfOk, replicate}
use Rattle.netlist.specs.declared.netlist.Source.TheVariants.{Input}
use Rattle.block_datapath.specs.declared.registers.Held.{Held}
use Rattle.operator_wires.proofs.MadeWords.{of_ok}
use Rattle.thread_slots.specs.Services.{if_thread_ids, news_widths}
use Rattle.thread_slots.specs.Slots.{LaysAll}
use Rattle.thread_slots.specs.Wired.{AreFit, Behind, IsInnerInput}
use Rattle.thread_layout.proofs.layout.lay_news.Goals as goal

last_fit : (thread_ids : Bool) → AreFit (if_thread_ids thread_ids (1 ∷ 64 ∷ []))
last_fit true zero w e = let one : 1 ≡ w = cc in (omega arith, omega arith)
last_fit true (suc zero) w e = let one : 64 ≡ w = cc in (omega arith, omega arith)
last_fit true (suc (suc x)) w e = absurd cc
last_fit false x w e = absurd cc

news_fit : (n : ℕ) (thread_ids : Bool) → AreFit (replicate n 1 ++ if_thread_ids thread_ids (1 ∷ 64 ∷ []))
news_fit zero thread_ids x w e = last_fit thread_ids x w e
news_fit (suc n) thread_ids zero w e = let one : 1 ≡ w = cc in (omega arith, omega arith)
news_fit (suc n) thread_ids (suc x) w e = news_fit n thread_ids x w e

pub returns-clause-lays : goal.returns-clause-lays
returns-clause-lays c =
    subst (λ (z : List ℕ). IfOk c.lay_words.result (LaysAll Input c.args.wires.now.signals c.lay_words.new.wires.signals z (length z))) (c.as_slice.ensures ∙ c.in_ok-widths.ensures)
    c.lay_words.ensures.lays

pub returns-clause-wired : goal.returns-clause-wired
returns-clause-wired c =
    let own : c.as_slice.result.now ≡ news_widths c.args.served = c.as_slice.ensures ∙ c.in_ok-widths.ensures in
    of_ok c.lay_words.result (λ (held : List Held). AreFit c.as_slice.result.now → Behind IsInnerInput c.args.wires.now.signals c.lay_words.new.wires.signals)
    (λ (held : List Held). Behind IsInnerInput c.args.wires.now.signals c.lay_words.new.wires.signals)
    (λ held t. t (subst AreFit (sym own) (news_fit c.args.served.barriers c.args.served.thread_ids))) c.lay_words.ensures.wired
