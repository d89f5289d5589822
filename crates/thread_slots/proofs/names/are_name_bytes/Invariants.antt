use Rattle.std.proofs.Common.{◌≡◌, drop}
use Rattle.verilog_tree.specs.Spelling.{is_name_byte, all_pass}
use Rattle.thread_slots.proofs.names.are_name_bytes.Given as goal

abbrev pub invariant-loop-byte : goal.invariant-loop-byte
invariant-loop-byte l = all_pass is_name_byte l.bytes ≡ all_pass is_name_byte (drop l.byte-index l.bytes)
