use Rattle.c_program.specs.Plain.{program_of}
use Rattle.c_limits.specs.Counts.{length_of}
use Rattle.c_limits.proofs.Firsts.{data_first}
use Rattle.c_limits.proofs.counts.over_data.Goals as goal

pub returns : goal.returns
unfolding length_of
returns c =
    let arrays = rw (c.from.ensures, c.max-longest.ensures, c.longest_global.ensures, c.longest_local_of_all.ensures, c.deref.ensures.value, c.deref-2.ensures.value) at c.over-arrays.ensures in
    let globals = rw (c.global_elements.ensures, c.deref-3.ensures.value) at c.over-globals.ensures in
    let sites = rw (c.from-2.ensures, c.print_sites.ensures, c.deref-4.ensures.value) at c.over-sites.ensures in
    data_first (program_of c.args.program.now) _ _ _ _ _ arrays globals sites c.first_of.ensures c.first_of-2.ensures
