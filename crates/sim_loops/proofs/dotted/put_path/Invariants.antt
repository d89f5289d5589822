use Rattle.std.specs.Prelude.{◌≡◌, Some, slice_get, string_bytes}
use Rattle.netlist.specs.declared.netlist.Module.{Module}
use Rattle.sim_loops.proofs.PathText.{IsPut, last}
use Rattle.sim_loops.proofs.dotted.put_path.Given as goal

abbrev pub invariant-loop-done : goal.invariant-loop-done
invariant-loop-done l =
    (t : Module) → slice_get l.modules l.top ≡ Some t
    → IsPut l.modules t (last l.modules t l.path (string_bytes l.initial.text) l.done) (string_bytes l.initial.text) (string_bytes l.text) (slice_get l.modules l.kind)
