use Rattle.std.proofs.Common.{◌≡◌, rules}
use Rattle.clap.specs.Words.{app_of}
use Rattle.hls_words.specs.Line.{build_line, check_line, command_line, gen_line, program_line, replay_line, report_line, run_line, sim_line, step_line, walk_line}
use Rattle.hls_words.proofs.LineLemmas.{adds}
use Rattle.hls_words.proofs.line.whole_command.Goals as goal

pub returns : goal.returns
unfolding command_line
returns c =
    let program_is : app_of c.subcommand_required.result ≡ program_line = search rules in
    let replay_is : app_of c.new-2.result ≡ replay_line = search rules in
    let report_is : app_of c.new-3.result ≡ report_line = search rules in
    let first = adds _ _ _ program_line build_line program_is c.build_command.ensures.line c.with_command-program.ensures in
    let second = adds _ _ _ _ step_line first c.step_command.ensures.line c.with_command-program-2.ensures in
    let third = adds _ _ _ _ run_line second c.run_command.ensures.line c.with_command-program-3.ensures in
    let fourth = adds _ _ _ _ replay_line third replay_is c.with_command-program-4.ensures in
    let fifth = adds _ _ _ _ walk_line fourth c.walk_command.ensures.line c.with_command-program-5.ensures in
    let sixth = adds _ _ _ _ check_line fifth c.check_command.ensures.line c.with_command-program-6.ensures in
    let seventh = adds _ _ _ _ sim_line sixth c.sim_command.ensures.line c.with_command-program-7.ensures in
    let eighth = adds _ _ _ _ gen_line seventh c.gen_command.ensures.line c.with_command-program-8.ensures in
    adds _ _ _ _ report_line eighth report_is c.with_command.ensures
