-- The cycles of a journal are its choices.
use Rattle.std.specs.Prelude.{ℕ, ◌+◌, List, [], ◌∷◌, length, refl}
use Rattle.std.proofs.Common.{ap, ◌∙◌, length-append}
use Rattle.netlist.specs.declared.netlist.Module.{Module}
use Rattle.verilog_meaning.specs.Cycles.{Choice}
use Rattle.verilog_meaning.specs.Threads.{alone, times}
use Rattle.journal_laws.specs.Journal.{choices}
use Rattle.journal_replay.proofs.Entries.{long_times}
use Rattle.run_command.specs.Counts.{entry_cycles, AreItsChoices}

pub are_its_choices : AreItsChoices
are_its_choices modules top n [] = refl
are_its_choices modules top n (e ∷ journal) =
    let rest = are_its_choices modules top n journal in
    let first = long_times modules top n (entry_cycles e) (alone e.thread) in
    length-append (times modules top n (entry_cycles e) (alone e.thread)) (choices modules top n journal) ∙ ap (λ k. k + length (choices modules top n journal)) first
    ∙ ap (λ k. entry_cycles e + k) rest
