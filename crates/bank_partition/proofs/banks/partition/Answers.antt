use Rattle.std.proofs.Common.{◌≡◌, ◌+◌, ◌<◌, ◌≤◌, [], ◌∷◌, ◌++◌, List, length, map, drop, get_or, sym, ap, ◌∙◌, subst, rules, arith}
use Rattle.c_program.specs.declared.tree.GlobalVariable.{GlobalVariable}
use Rattle.c_program.specs.Plain.{global_of}
use Rattle.bank_partition.specs.Counts.{bank_count}
use Rattle.bank_partition.specs.Shapes.{count_of, banks_from, spreads_from}
use Rattle.bank_partition.specs.declared.banks.Spread.{Spread}
use Rattle.bank_partition.specs.Partition.{AreShort}
use Rattle.bank_partition.proofs.OneBankMore.{front, banks_pushed, spreads_pushed, short_pushed, partitioned}
use Rattle.bank_partition.proofs.banks.partition.Goals as goal

pub loop-variable-preserved : goal.loop-variable-preserved
loop-variable-preserved c =
    let items = c.args.program.now.globals.items in
    let threads = c.args.threads.now in
    let x = c.loop-variable.variable in
    let g = c.global-item.result in
    let count = c.bank_count-count.result in
    let all : c.deref-global-items.result.now ≡ items = c.deref-global-items.ensures.value in
    let l : x < length items = let n = ap (λ (s : List GlobalVariable). length s) all in let t = c.loop-variable-test.true in omega arith in
    let at : drop x items ≡ g ∷ drop (x + 1) items = front items x g l (c.global-item.is ∙ ap (λ (s : List GlobalVariable). get_or s x g) all) in
    let counted : count ≡ count_of threads x (global_of g) = c.bank_count-count.ensures.count ∙ ap (λ k. bank_count k g.length) c.at.ensures in
    let begins : c.len.result ≡ length c.loop-variable.banks.items = search rules in
    let own : Spread = record { first = c.len.result; count = count; length = g.length } in
    let pushed : c.push.new.self.items ≡ c.loop-variable.spreads.items ++ own ∷ [] = c.in_ok-push.ensures.items in
    record {
      banks = banks_pushed threads x count items g at counted c.loop-variable.banks.items c.push_banks.new.banks.items (banks_from threads 0 (map global_of items))
          c.in_ok-push_banks.ensures c.loop-variable.invariant.banks;
      short = subst AreShort (sym pushed) (short_pushed c.loop-variable.spreads.items own c.loop-variable.invariant.short (omega arith));
      spreads = spreads_pushed threads x count items g at counted c.loop-variable.banks.items c.push_banks.new.banks.items c.loop-variable.spreads.items c.push.new.self.items
          (spreads_from threads 0 0 (map global_of items)) c.len.result begins c.in_ok-push_banks.ensures pushed c.loop-variable.invariant.spreads;
    }

pub returns : goal.returns
returns c =
    let items = c.args.program.now.globals.items in
    let all : c.deref-global-items.result.now ≡ items = c.deref-global-items.ensures.value in
    let end : length items ≤ c.loop-variable.variable = let n = ap (λ (s : List GlobalVariable). length s) all in let t = c.loop-variable-test.false in omega arith in
    let known = partitioned c.args.threads.now items c.loop-variable.banks.items c.loop-variable.spreads.items c.loop-variable.variable end c.loop-variable.invariant.banks
    c.loop-variable.invariant.spreads c.loop-variable.invariant.short in
    record {
      partition = record { banks = known.banks_are; spreads = known.spreads_are };
      banks = known.stand;
      held = known.held;
      elements = known.elements;
    }
